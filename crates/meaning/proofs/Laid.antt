-- The entries of a table into which edges were laid: each is the choice over the edges between its actors.
use Rattle.std.proofs.Common.{◌≡◌, ℕ, ◌+◌, ◌*◌, ◌/◌, ◌%◌, ◌<◌, ◌≤◌, ◌⊎◌, List, [], ◌∷◌, length, get_or, replicate, sym, refl, ap, ◌∙◌, subst, inl, inr, ⊎_elim, arith}
use Rattle.std.proofs.lemmas.Nat.{mul-add-lt, div-mul-add, mod-mul-add}
use Rattle.std.proofs.lemmas.List.{get_or-set_same, get_or-set_other, get_or-replicate, length-replicate, length-set}
use Rattle.std.proofs.lemmas.Bool.{cases_eq}
use Rattle.records.specs.declared.tables.Edge.{Edge}
use Rattle.records.specs.Tables.{edge}
use Rattle.waits.specs.Events.{In, Within}
use Rattle.paths.specs.Algebra.{Ops, Laws}
use Rattle.paths.specs.Closure.{entry}
use Rattle.paths.proofs.Order.{Wins, same, goes, wins_left, wins_right}
use Rattle.planning.specs.declared.Sight.TheVariants.{Directed, Loose}
use Rattle.planning.specs.Tables.{lay, laid}

-- where two entries are the same
same_place : (n u v x y : ℕ) → v < n → y < n → u * n + v ≡ x * n + y → (u ≡ x) × (v ≡ y)
same_place n u v x y hv hy e = (
  sym (div-mul-add u n v hv) ∙ ap (λ p. p / n) e ∙ div-mul-add x n y hy,
  sym (mod-mul-add u n v hv) ∙ ap (λ p. p % n) e ∙ mod-mul-add x n y hy,
)

module _ {M : Type 0} {o : Ops M} (laws : Laws o) (n : ℕ) where
  module _ (cells : List M) (e : Edge) (room : n * n ≤ length cells) (ends : (e.sender < n) × (e.receiver < n)) where
    laid_here : entry o (lay o n cells e) n e.sender e.receiver ≡ o.choose (entry o cells n e.sender e.receiver) (o.edge e.delay)
    laid_here =
        get_or-set_same cells (e.sender * n + e.receiver) (o.choose (entry o cells n e.sender e.receiver) (o.edge e.delay)) o.none
        (omega (arith, mul-add-lt e.sender n e.receiver n ends.0 ends.1))

    -- an entry stays, or it becomes the choice of what it was and the edge
    laid_entry : (u v : ℕ) → u < n → v < n
        → (entry o (lay o n cells e) n u v ≡ entry o cells n u v)
        ⊎ ((u ≡ e.sender) × (v ≡ e.receiver) × (entry o (lay o n cells e) n u v ≡ o.choose (entry o cells n u v) (o.edge e.delay)))
    laid_entry u v hu hv =
        ⊎_elim
        (λ (p : u * n + v ≡ e.sender * n + e.receiver).
        let ends' = same_place n u v e.sender e.receiver hv ends.1 p in
        inr (ends'.0, ends'.1, ap (λ k. get_or (lay o n cells e) k o.none) p ∙ laid_here ∙ ap (λ k. o.choose (get_or cells k o.none) (o.edge e.delay)) (sym p)))
        (λ (d : u * n + v ≡ e.sender * n + e.receiver → ⊥). inl (get_or-set_other cells (e.sender * n + e.receiver) (u * n + v) _ o.none d))
        (cases_eq (u * n + v) (e.sender * n + e.receiver))

    -- an entry only gets better
    laid_wins : (u v : ℕ) → u < n → v < n → Wins o (entry o (lay o n cells e) n u v) (entry o cells n u v)
    laid_wins u v hu hv =
        ⊎_elim
        (λ (p : entry o (lay o n cells e) n u v ≡ entry o cells n u v). subst (λ x. Wins o x (entry o cells n u v)) (sym p) (same laws (entry o cells n u v)))
        (λ (q : (u ≡ e.sender) × (v ≡ e.receiver) × (entry o (lay o n cells e) n u v ≡ o.choose (entry o cells n u v) (o.edge e.delay))).
        subst (λ x. Wins o x (entry o cells n u v)) (sym q.2) (wins_left laws (entry o cells n u v) (o.edge e.delay)))
        (laid_entry u v hu hv)

  all_win : (cells : List M) (es : List Edge) → n * n ≤ length cells → Within n es → (u v : ℕ) → u < n → v < n
      → Wins o (entry o (laid Directed o n cells es) n u v) (entry o cells n u v)
  all_win cells [] room within u v hu hv = same laws (entry o cells n u v)
  all_win cells (e ∷ es) room within u v hu hv =
      goes laws _ _ _
      (all_win (lay o n cells e) es (omega (arith, length-set cells (e.sender * n + e.receiver) (o.choose (entry o cells n e.sender e.receiver) (o.edge e.delay)))) (λ f i. within f (inr i)) u v hu hv)
      (laid_wins cells e room (within e (inl refl)) u v hu hv)

  -- an entry wins over every edge between its actors
  pub edge_loses : (cells : List M) (es : List Edge) → n * n ≤ length cells → Within n es → (e : Edge) → In e es
      → Wins o (entry o (laid Directed o n cells es) n e.sender e.receiver) (o.edge e.delay)
  edge_loses cells [] room within e i = absurd i
  edge_loses cells (f ∷ es) room within e (inl p) =
      let room' : n * n ≤ length (lay o n cells f) = omega (arith, length-set cells (f.sender * n + f.receiver) (o.choose (entry o cells n f.sender f.receiver) (o.edge f.delay))) in
      let ends = within f (inl refl) in
      subst (λ x. Wins o (entry o (laid Directed o n (lay o n cells f) es) n x.sender x.receiver) (o.edge x.delay)) (sym p)
      (goes laws _ _ _ (all_win (lay o n cells f) es room' (λ g i. within g (inr i)) f.sender f.receiver ends.0 ends.1)
      (subst (λ x. Wins o x (o.edge f.delay)) (sym (laid_here cells f room ends)) (wins_right laws (entry o cells n f.sender f.receiver) (o.edge f.delay))))
  edge_loses cells (f ∷ es) room within e (inr i) =
      edge_loses (lay o n cells f) es (omega (arith, length-set cells (f.sender * n + f.receiver) (o.choose (entry o cells n f.sender f.receiver) (o.edge f.delay)))) (λ g j. within g (inr j)) e i

  -- an entry is what it was, or an edge between its actors
  from_edges : (cells : List M) (es : List Edge) → n * n ≤ length cells → Within n es → (u v : ℕ) → u < n → v < n
      → (entry o (laid Directed o n cells es) n u v ≡ entry o cells n u v)
      ⊎ ((d : ℕ) × In (edge u v d) es × (entry o (laid Directed o n cells es) n u v ≡ o.edge d))
  from_edges cells [] room within u v hu hv = inl refl
  from_edges cells (e ∷ es) room within u v hu hv =
      let room' : n * n ≤ length (lay o n cells e) = omega (arith, length-set cells (e.sender * n + e.receiver) (o.choose (entry o cells n e.sender e.receiver) (o.edge e.delay))) in
      let T = laid Directed o n (lay o n cells e) es in
      ⊎_elim
      (λ (p : entry o T n u v ≡ entry o (lay o n cells e) n u v).
      ⊎_elim
      (λ (q : entry o (lay o n cells e) n u v ≡ entry o cells n u v). inl (p ∙ q))
      (λ (q : (u ≡ e.sender) × (v ≡ e.receiver) × (entry o (lay o n cells e) n u v ≡ o.choose (entry o cells n u v) (o.edge e.delay))).
      ⊎_elim
      (λ (r : o.choose (entry o cells n u v) (o.edge e.delay) ≡ entry o cells n u v). inl (p ∙ q.2 ∙ r))
      (λ (r : o.choose (entry o cells n u v) (o.edge e.delay) ≡ o.edge e.delay).
      inr (e.delay, inl (ap (λ x. edge x v e.delay) q.0 ∙ ap (λ y. edge e.sender y e.delay) q.1), p ∙ q.2 ∙ r))
      (laws.choose_one (entry o cells n u v) (o.edge e.delay)))
      (laid_entry cells e room (within e (inl refl)) u v hu hv))
      (λ (r : (d : ℕ) × In (edge u v d) es × (entry o T n u v ≡ o.edge d)). inr (r.0, inr r.1, r.2))
      (from_edges (lay o n cells e) es room' (λ f i. within f (inr i)) u v hu hv)

  abbrev pub edge_table : List Edge → List M
  edge_table es = laid Directed o n (replicate (n * n) o.none) es

  -- in a table that was empty: no path, or an edge
  pub none_or_edge : (es : List Edge) → Within n es → (u v : ℕ) → u < n → v < n
      → (entry o (edge_table es) n u v ≡ o.none) ⊎ ((d : ℕ) × In (edge u v d) es × (entry o (edge_table es) n u v ≡ o.edge d))
  none_or_edge es within u v hu hv =
      ⊎_elim
      (λ (p : entry o (edge_table es) n u v ≡ entry o (replicate (n * n) o.none) n u v).
      inl (p ∙ get_or-replicate (n * n) (u * n + v) o.none o.none (omega (arith, mul-add-lt u n v n hu hv))))
      (λ (r : (d : ℕ) × In (edge u v d) es × (entry o (edge_table es) n u v ≡ o.edge d)). inr r)
      (from_edges (replicate (n * n) o.none) es (omega (arith, length-replicate (n * n) o.none)) within u v hu hv)

-- each edge without direction and delay
abbrev pub both_ways : List Edge → List Edge
both_ways [] = []
both_ways (e ∷ es) = edge e.sender e.receiver 0 ∷ edge e.receiver e.sender 0 ∷ both_ways es

pub laid_loose : {M : Type 0} (o : Ops M) (n : ℕ) (cells : List M) (es : List Edge) → laid Loose o n cells es ≡ laid Directed o n cells (both_ways es)
laid_loose o n cells [] = refl
laid_loose o n cells (e ∷ es) = laid_loose o n (lay o n (lay o n cells (edge e.sender e.receiver 0)) (edge e.receiver e.sender 0)) es
