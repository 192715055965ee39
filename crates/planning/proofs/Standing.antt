-- A table at the front of a workspace is filled as it is alone, and what stands after it stays.
use Rattle.std.proofs.Common.{◌≡◌, ℕ, zero, suc, ◌+◌, ◌*◌, ◌/◌, ◌%◌, ◌<◌, ◌≤◌, List, [], ◌∷◌, ◌++◌, map, length, get_or, drop, set, replicate, sym, refl, ap, ◌∙◌, ⊎_elim, arith}
use Rattle.std.specs.List.{range_with_len}
use Rattle.std.proofs.lemmas.Nat.{mul-add-lt, div_below, mod_below}
use Rattle.std.proofs.lemmas.List.FromFn.{length-map-range_with_len}
use Rattle.std.proofs.lemmas.List.{append-nil, length-append, length-set, length-drop, length-replicate, get_or_append_left, set-append_left, drop_at, drop_all}
use Rattle.std.proofs.lemmas.Bool.{cases_lt}
use Rattle.records.specs.declared.tables.Edge.{Edge}
use Rattle.records.specs.Tables.{edge}
use Rattle.paths.specs.Algebra.{Ops}
use Rattle.paths.specs.Closure.{entry, through, round, rounds, closed}
use Rattle.planning.specs.declared.Sight.{Sight}
use Rattle.planning.specs.declared.Sight.TheVariants.{Directed, Loose}
use Rattle.planning.specs.Edges.{Within}
use Rattle.planning.specs.Tables.{lay, lay_seen, laid, paths_over}

map_same : {X : Type 0} (f g : ℕ → X) (a k : ℕ) → ((p : ℕ) → p < a + k → f p ≡ g p) → map f (range_with_len a k) ≡ map g (range_with_len a k)
map_same f g a zero same = refl
map_same {X} f g a (suc k) same =
    ap (λ x. x ∷ map f (range_with_len (a + 1) k)) (same a (omega arith)) ∙ ap (λ xs. g a ∷ xs) (map_same f g (a + 1) k (λ p h. same p (omega arith)))

module _ {M : Type 0} (o : Ops M) (n : ℕ) where
  module _ (xs rest : List M) (e : Edge) (long : length xs ≡ n * n) (ends : (e.sender < n) × (e.receiver < n)) where
    lay_front : lay o n (xs ++ rest) e ≡ lay o n xs e ++ rest
    lay_front =
        let p : ℕ = e.sender * n + e.receiver in
        let within : p < length xs = omega (arith, mul-add-lt e.sender n e.receiver n ends.0 ends.1) in
        ap (λ x. set (xs ++ rest) p (o.choose x (o.edge e.delay))) (get_or_append_left xs rest o.none p within)
        ∙ set-append_left xs rest p (o.choose (get_or xs p o.none) (o.edge e.delay)) within

  length_lay : (cells : List M) (e : Edge) → length (lay o n cells e) ≡ length cells
  length_lay cells e = length-set cells (e.sender * n + e.receiver) _

  pub length_lay_seen : (s : Sight) (cells : List M) (e : Edge) → length (lay_seen s o n cells e) ≡ length cells
  length_lay_seen Directed cells e = length_lay cells e
  length_lay_seen Loose cells e =
      length_lay (lay o n cells (edge e.sender e.receiver 0)) (edge e.receiver e.sender 0) ∙ length_lay cells (edge e.sender e.receiver 0)

  pub length_laid : (s : Sight) (cells : List M) (es : List Edge) → length (laid s o n cells es) ≡ length cells
  length_laid s cells [] = refl
  length_laid s cells (e ∷ es) = length_laid s (lay_seen s o n cells e) es ∙ length_lay_seen s cells e

  lay_seen_front : (s : Sight) (xs rest : List M) (e : Edge) → length xs ≡ n * n → (e.sender < n) × (e.receiver < n)
      → lay_seen s o n (xs ++ rest) e ≡ lay_seen s o n xs e ++ rest
  lay_seen_front Directed xs rest e long ends = lay_front xs rest e long ends
  lay_seen_front Loose xs rest e long ends =
      let there : Edge = edge e.sender e.receiver 0 in
      let back : Edge = edge e.receiver e.sender 0 in
      ap (λ cells. lay o n cells back) (lay_front xs rest there long ends)
      ∙ lay_front (lay o n xs there) rest back (length_lay xs there ∙ long) (ends.1, ends.0)

  pub laid_front : (s : Sight) (xs rest : List M) (es : List Edge) → length xs ≡ n * n → Within n es
      → laid s o n (xs ++ rest) es ≡ laid s o n xs es ++ rest
  laid_front s xs rest [] long within = refl
  laid_front s xs rest (e ∷ es) long within =
      ap (λ cells. laid s o n cells es) (lay_seen_front s xs rest e long within.0)
      ∙ laid_front s (lay_seen s o n xs e) rest es (length_lay_seen s xs e ∙ long) within.1

  pub laid_append : (s : Sight) (cells : List M) (es fs : List Edge) → laid s o n cells (es ++ fs) ≡ laid s o n (laid s o n cells es) fs
  laid_append s cells [] fs = refl
  laid_append s cells (e ∷ es) fs = laid_append s (lay_seen s o n cells e) es fs

  length_round : (k : ℕ) (cells : List M) → n * n ≤ length cells → length (round o n k cells) ≡ length cells
  unfolding round
  length_round k cells h =
      let f : ℕ → M = λ p. through o n k cells (p / n) (p % n) in
      omega (arith, length-append (map f (range_with_len 0 (n * n))) (drop (n * n) cells), length-map-range_with_len f 0 (n * n), length-drop (n * n) cells)

  length_rounds : (k : ℕ) (cells : List M) → n * n ≤ length cells → length (rounds o n k cells) ≡ length cells
  unfolding rounds
  length_rounds zero cells h = refl
  length_rounds (suc k) cells h =
      let e = length_rounds k cells h in length_round k (rounds o n k cells) (omega arith) ∙ e

  some_row : (p : ℕ) → p < n * n → 0 < n
  some_row p h = ⊎_elim (λ (a : 0 < n). a) (λ (z : n ≤ 0). let e : n ≡ 0 = omega arith in omega (arith, ap (λ (x : ℕ). x * n) e)) (cases_lt 0 n)

  module _ (xs rest : List M) (long : length xs ≡ n * n) where
    entry_front : (u v : ℕ) → u < n → v < n → entry o (xs ++ rest) n u v ≡ entry o xs n u v
    entry_front u v hu hv =
        get_or_append_left xs rest o.none (u * n + v) (omega (arith, mul-add-lt u n v n hu hv))

    round_front : (k : ℕ) → k < n → round o n k (xs ++ rest) ≡ round o n k xs ++ rest
    unfolding round
    round_front k hk =
        let f : ℕ → M = λ p. through o n k (xs ++ rest) (p / n) (p % n) in
        let g : ℕ → M = λ p. through o n k xs (p / n) (p % n) in
        let same : (p : ℕ) → p < 0 + n * n → f p ≡ g p = λ p h.
        let some : 0 < n = some_row p (omega arith) in
        let hu : p / n < n = div_below p n n some (omega arith) in
        let hv : p % n < n = mod_below p n some in
        let a = entry_front (p / n) (p % n) hu hv in
        let b = entry_front (p / n) k hu hk in
        let c = entry_front k (p % n) hk hv in
        cc in
        let none : drop (n * n) xs ≡ [] = drop_all (n * n) xs (omega arith) in
        ap (λ ys. ys ++ drop (n * n) (xs ++ rest)) (map_same f g 0 (n * n) same)
        ∙ ap (λ ys. map g (range_with_len 0 (n * n)) ++ ys) (drop_at xs rest (n * n) long)
        ∙ sym (ap (λ ys. ys ++ rest) (ap (λ ys. map g (range_with_len 0 (n * n)) ++ ys) none ∙ append-nil (map g (range_with_len 0 (n * n)))))

  rounds_front : (xs rest : List M) → length xs ≡ n * n → (k : ℕ) → k ≤ n → rounds o n k (xs ++ rest) ≡ rounds o n k xs ++ rest
  unfolding rounds
  rounds_front xs rest long zero h = refl
  rounds_front xs rest long (suc k) h =
      ap (round o n k) (rounds_front xs rest long k (omega arith))
      ∙ round_front (rounds o n k xs) rest (length_rounds k xs (omega arith) ∙ long) k (omega arith)

  pub length_paths_over : (s : Sight) (es : List Edge) → length (paths_over s o n es) ≡ n * n
  unfolding paths_over
  length_paths_over s es =
      let l = length_laid s (replicate (n * n) o.none) es in
      let r = length-replicate (n * n) o.none in
      length_rounds n (laid s o n (replicate (n * n) o.none) es) (omega arith) ∙ l ∙ r

  -- the edges laid over a cleared front, and closed
  pub filled : (s : Sight) (rest : List M) (es : List Edge) → Within n es
      → closed o n (laid s o n (replicate (n * n) o.none ++ rest) es) ≡ paths_over s o n es ++ rest
  unfolding paths_over
  filled s rest es within =
      let blank : List M = replicate (n * n) o.none in
      let r : length blank ≡ n * n = length-replicate (n * n) o.none in
      ap (closed o n) (laid_front s blank rest es r within)
      ∙ rounds_front (laid s o n blank es) rest (length_laid s blank es ∙ r) n (omega arith)
