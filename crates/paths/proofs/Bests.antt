-- The rounds' entries, as a recursion over the vertices passed, are the choices over all walks.
use Rattle.std.proofs.Common.{◌≡◌, ℕ, zero, suc, ◌<◌, ◌≤◌, List, [], ◌∷◌, ◌++◌, sym, refl, ap, ◌∙◌, subst, ⊎_elim, arith}
use Rattle.std.proofs.lemmas.Bool.{cases_lt}
use Rattle.paths.specs.Algebra.{Ops, Laws}
use Rattle.paths.specs.Closure.{entry, rounds}
use Rattle.paths.specs.Walks.{walk_value, Below, Chosen}
use Rattle.paths.proofs.Order.{Wins, same, goes, wins_left, wins_right, mono, mono_left, mono_right, absorbs, wins_four}
use Rattle.paths.proofs.Rounds.{round_entry}

below_append : (k : ℕ) (xs ys : List ℕ) → Below k xs → Below k ys → Below k (xs ++ ys)
below_append k [] ys p q = q
below_append k (x ∷ xs) ys p q = (p.0, below_append k xs ys p.1 q)

below_next : (k : ℕ) (xs : List ℕ) → Below k xs → Below (suc k) xs
below_next k [] p = tt
below_next k (x ∷ xs) p = let h : x < k = p.0 in (omega arith, below_next k xs p.1)

-- the best of all ways from u to v whose inner vertices are below k
abbrev best : {M : Type 0} → Ops M → (ℕ → ℕ → M) → ℕ → ℕ → ℕ → M
best o a zero u v = a u v
best o a (suc k) u v = o.choose (best o a k u v) (o.follow (best o a k u k) (best o a k k v))

module _ {M : Type 0} {o : Ops M} (laws : Laws o) (a : ℕ → ℕ → M) where
  abbrev b : ℕ → ℕ → ℕ → M
  b k u v = best o a k u v

  abbrev walk : ℕ → List ℕ → ℕ → M
  walk u xs v = walk_value o a u xs v

  walk_append : (u v k : ℕ) (xs ys : List ℕ) → walk u (xs ++ k ∷ ys) v ≡ o.follow (walk u xs k) (walk k ys v)
  walk_append u v k [] ys = refl
  walk_append u v k (x ∷ xs) ys =
      ap (o.follow (a u x)) (walk_append x v k xs ys) ∙ sym (laws.follow_assoc (a u x) (walk x xs k) (walk k ys v))

  -- by way of the vertex k, a loop there is no better
  around : (k x y z v : ℕ) → Wins o (b (suc k) x v) (o.follow (o.follow (b k x k) (b k k y)) (o.follow (b k z k) (b k k v)))
  around k x y z v =
      let B = b k x k in let C = b k k y in let E = b k z k in let F = b k k v in
      let e : o.follow (o.follow B C) (o.follow E F) ≡ o.follow B (o.follow (o.follow C E) F) =
      laws.follow_assoc B C (o.follow E F) ∙ ap (o.follow B) (sym (laws.follow_assoc C E F)) in
      ap (o.choose (b (suc k) x v)) e
      ∙ goes laws (b (suc k) x v) (o.follow B F) (o.follow B (o.follow (o.follow C E) F)) (wins_right laws (b k x v) (o.follow B F))
      (mono_right laws B F (o.follow (o.follow C E) F) (absorbs laws F (o.follow C E)))

  triangle : (n x y v : ℕ) → y < n → Wins o (b n x v) (o.follow (b n x y) (b n y v))
  triangle zero x y v h = absurd (omega arith)
  triangle (suc k) x y v h =
      let W = b (suc k) x v in
      let A = b k x y in let B = b k x k in let C = b k k y in let D = b k y v in let E = b k y k in let F = b k k v in
      let w : Wins o W (o.follow B F) = wins_right laws (b k x v) (o.follow B F) in
      ⊎_elim
      (λ (l : y < k).
      let one : Wins o W (o.follow A D) =
      goes laws W (b k x v) (o.follow A D) (wins_left laws (b k x v) (o.follow B F)) (triangle k x y v l) in
      let two : Wins o W (o.follow A (o.follow E F)) =
      ap (o.choose W) (sym (laws.follow_assoc A E F))
      ∙ goes laws W (o.follow B F) (o.follow (o.follow A E) F) w (mono_left laws B (o.follow A E) F (triangle k x y k l)) in
      let three : Wins o W (o.follow (o.follow B C) D) =
      ap (o.choose W) (laws.follow_assoc B C D)
      ∙ goes laws W (o.follow B F) (o.follow B (o.follow C D)) w (mono_right laws B F (o.follow C D) (triangle k k y v l)) in
      wins_four laws W A (o.follow B C) D (o.follow E F) one two three (around k x y y v))
      (λ (g : k ≤ y).
      let e : k ≡ y = omega arith in
      subst (λ (y : ℕ). Wins o W (o.follow (b (suc k) x y) (b (suc k) y v))) e
      (let K = b k k k in
      let two : Wins o W (o.follow B (o.follow K F)) =
      goes laws W (o.follow B F) (o.follow B (o.follow K F)) w (mono_right laws B F (o.follow K F) (absorbs laws F K)) in
      let three : Wins o W (o.follow (o.follow B K) F) = ap (o.choose W) (laws.follow_assoc B K F) ∙ two in
      wins_four laws W B (o.follow B K) F (o.follow K F) w two three (around k x k k v)))
      (cases_lt y k)

  edge : (n u v : ℕ) → Wins o (b n u v) (a u v)
  edge zero u v = same laws (a u v)
  edge (suc k) u v =
      goes laws (b (suc k) u v) (b k u v) (a u v) (wins_left laws (b k u v) (o.follow (b k u k) (b k k v))) (edge k u v)

  wins_walk : (n u v : ℕ) (xs : List ℕ) → Below n xs → Wins o (b n u v) (walk u xs v)
  wins_walk n u v [] h = edge n u v
  wins_walk n u v (x ∷ xs) h =
      goes laws (b n u v) (o.follow (b n u x) (b n x v)) (o.follow (a u x) (walk x xs v)) (triangle n u x v h.0)
      (mono laws (b n u x) (a u x) (b n x v) (walk x xs v) (edge n u x) (wins_walk n x v xs h.1))

  walk_for : (n u v : ℕ) → (xs : List ℕ) × Below n xs × (walk u xs v ≡ b n u v)
  walk_for zero u v = ([], tt, refl)
  walk_for (suc k) u v =
      let p = walk_for k u v in
      let q = walk_for k u k in
      let r = walk_for k k v in
      ⊎_elim
      (λ (e : b (suc k) u v ≡ b k u v). (p.0, below_next k p.0 p.1, p.2 ∙ sym e))
      (λ (e : b (suc k) u v ≡ o.follow (b k u k) (b k k v)). (
        q.0 ++ k ∷ r.0,
        below_append (suc k) q.0 (k ∷ r.0) (below_next k q.0 q.1) (omega arith, below_next k r.0 r.1),
        walk_append u v k q.0 r.0 ∙ ap (λ (w : M). o.follow w (walk k r.0 v)) q.2 ∙ ap (o.follow (b k u k)) r.2 ∙ sym e,
      ))
      (laws.choose_one (b k u v) (o.follow (b k u k) (b k k v)))

rounds_best : {M : Type 0} (o : Ops M) (cells : List M) (n k : ℕ) → k ≤ n → (u v : ℕ) → u < n → v < n
    → entry o (rounds o n k cells) n u v ≡ best o (entry o cells n) k u v
unfolding rounds
rounds_best o cells n zero h u v hu hv = refl
rounds_best o cells n (suc k) h u v hu hv =
    let hk : k < n = omega arith in
    let le : k ≤ n = omega arith in
    let x = rounds_best o cells n k le u v hu hv in
    let y = rounds_best o cells n k le u k hu hk in
    let z = rounds_best o cells n k le k v hk hv in
    round_entry o n k (rounds o n k cells) u v hu hv ∙ cc

-- a closed table holds the choices
pub chosen : {M : Type 0} {o : Ops M} (laws : Laws o) (cells : List M) (n u v : ℕ) → u < n → v < n
    → Chosen o (entry o cells n) n u v (entry o (rounds o n n cells) n u v)
chosen {M} {o} laws cells n u v hu hv =
    let a = entry o cells n in
    subst (λ (w : M). Chosen o a n u v w) (sym (rounds_best o cells n n (omega arith) u v hu hv))
    (record { attained = walk_for laws a n u v; wins = wins_walk laws a n u v })
