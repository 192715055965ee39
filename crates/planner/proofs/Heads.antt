-- Steps of a walk over the groups of a part that are entry or exit groups.
use Rattle.std.proofs.Common.{◌≡◌, ℕ, zero, suc, ◌+◌, ◌-◌, ◌<◌, ◌≤◌, Bool, true, false, cond, List, [], ◌∷◌, ◌++◌, Some, Option, sym, refl, ap, ◌∙◌, zero-add}
use Rattle.std.specs.List.{range_with_len, find}
use Rattle.std.specs.Option.{option_map, unwrap_or}
use Rattle.std.proofs.lemmas.Bool.{cond-true, cond-false}
use Rattle.planning.specs.declared.End.{End}
use Rattle.planning.specs.Backs.{Ground, heads, heads_among, first_or, last_or, groups_of, count}
use Rattle.planner.proofs.Counting.{counting_more, counting_none, range_last, downward, same_number}

-- the groups that are headed by u or a later actor
abbrev pub heads_left : Ground → End → ℕ → ℕ → ℕ → List ℕ
heads_left g end p n u = heads_among g end p (range_with_len u (n - u))

module _ (g : Ground) (end : End) (p n u : ℕ) where
  pub heads_here : u < n → heads g end p u ≡ true → heads_left g end p n u ≡ u ∷ heads_left g end p n (u + 1)
  heads_here h t = ap (heads_among g end p) (counting_more u n h) ∙ cond-true _ _ _ t

  pub heads_not_here : u < n → heads g end p u ≡ false → heads_left g end p n u ≡ heads_left g end p n (u + 1)
  heads_not_here h t = ap (heads_among g end p) (counting_more u n h) ∙ cond-false _ _ _ t

  pub heads_none : n ≤ u → heads_left g end p n u ≡ []
  heads_none h = ap (heads_among g end p) (counting_none u n h)

module _ (g : Ground) (end : End) (p : ℕ) where
  -- the first of us that heads a group
  first_among : (us : List ℕ) → unwrap_or (find (heads g end p) us) p ≡ first_or p (heads_among g end p us)
  first_among [] = refl
  first_among (u ∷ us) =
      let P : Bool → Type 0 = λ b. unwrap_or (cond b (Some u) (find (heads g end p) us)) p ≡ first_or p (cond b (u ∷ heads_among g end p us) (heads_among g end p us)) in
      elim (heads g end p u) as P [ true ↦ refl | false ↦ first_among us ]

  pub first_found : (r : Option ℕ) → option_map (λ x. x) r ≡ find (heads g end p) (range_with_len 0 (count g)) → unwrap_or r p ≡ first_or p (groups_of g end p)
  first_found r is = ap (λ o. unwrap_or o p) (sym (same_number r) ∙ is) ∙ first_among (range_with_len 0 (count g))

  -- one more number behind the others
  last_more : (u : ℕ) (d : ℕ) (us : List ℕ) → last_or d (heads_among g end p (us ++ (u ∷ []))) ≡ cond (heads g end p u) u (last_or d (heads_among g end p us))
  last_more u d [] = let P : Bool → Type 0 = λ b. last_or d (cond b (u ∷ []) []) ≡ cond b u d in elim (heads g end p u) as P [ true ↦ refl | false ↦ refl ]
  last_more u d (v ∷ us) =
      let P : Bool → Type 0 = λ b. last_or d (cond b (v ∷ heads_among g end p (us ++ (u ∷ []))) (heads_among g end p (us ++ (u ∷ []))))
      ≡ cond (heads g end p u) u (last_or d (cond b (v ∷ heads_among g end p us) (heads_among g end p us))) in
      elim (heads g end p v) as P [ true ↦ last_more u v us | false ↦ last_more u d us ]

  last_below : (k : ℕ) → unwrap_or (find (heads g end p) (downward k)) p ≡ last_or p (heads_among g end p (range_with_len 0 k))
  last_below zero = refl
  last_below (suc k) =
      let P : Bool → Type 0 = λ b. unwrap_or (cond b (Some k) (find (heads g end p) (downward k))) p ≡ cond b k (unwrap_or (find (heads g end p) (downward k)) p) in
      let here : P (heads g end p k) = elim (heads g end p k) as P [ true ↦ refl | false ↦ refl ] in
      here ∙ ap (cond (heads g end p k) k) (last_below k) ∙ sym (last_more k p (range_with_len 0 k))
      ∙ ap (λ us. last_or p (heads_among g end p us)) (sym (range_last 0 k k (zero-add k)))

  pub last_found : (r : Option ℕ) → option_map (λ x. x) r ≡ find (heads g end p) (downward (count g)) → unwrap_or r p ≡ last_or p (groups_of g end p)
  last_found r is = ap (λ o. unwrap_or o p) (sym (same_number r) ∙ is) ∙ last_below (count g)
