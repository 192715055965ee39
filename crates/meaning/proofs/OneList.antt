-- A drawing has one list of back links.
use Rattle.std.proofs.Common.{◌≡◌, ℕ, ◌<◌, List, [], ◌∷◌, ◌++◌, length, sym, refl, ◌∙◌, subst, inl, inr, arith}
use Rattle.std.proofs.lemmas.List.{same_from_push}
use Rattle.records.specs.declared.tables.Actor.{Actor}
use Rattle.records.specs.declared.tables.Edge.{Edge}
use Rattle.meaning.specs.Components.{Group, Lowest, Stands, Among, Rises, Rising, chained, PartLinks, InTurn, BackLinks}

-- rising lists of the same numbers are the same
rising_same : (n : ℕ) (P : ℕ → Type 0) (us vs : List ℕ) → Rising n P us → Rising n P vs → us ≡ vs
rising_same n P us vs a b = same us vs a.rises b.rises (λ x i. let (h, p) = a.each x i in b.all x h p) (λ x i. let (h, p) = b.each x i in a.all x h p)
  where
    same : (us vs : List ℕ) → Rises us → Rises vs → ((x : ℕ) → Among x us → Among x vs) → ((x : ℕ) → Among x vs → Among x us) → us ≡ vs
    same [] [] ru rv there back = refl
    same (u ∷ us) [] ru rv there back = absurd (there u (inl refl))
    same [] (v ∷ vs) ru rv there back = absurd (back v (inl refl))
    same (u ∷ us) (v ∷ vs) ru rv there back =
        let e : u ≡ v = elim (there u (inl refl)) [
          | inl e ↦ e
          | inr i ↦ elim (back v (inl refl)) [ inl e ↦ sym e | inr j ↦ absurd (omega (arith, ru.0 v j, rv.0 u i)) ]
        ] in
        let rest : us ≡ vs = same us vs ru.1 rv.1
        (λ x i. elim (there x (inr i)) [ inl q ↦ absurd (omega (arith, ru.0 x i)) | inr j ↦ j ])
        (λ x i. elim (back x (inr i)) [ inl q ↦ absurd (omega (arith, rv.0 x i)) | inr j ↦ j ]) in
        cc

-- one actor stands for a group
stands_one : (actors : List Actor) (es : List Edge) (u v w : ℕ) → Stands actors es u v → Stands actors es u w → v ≡ w
stands_one actors es u v w a b =
    let there = a.least w b.below b.inside in
    let back = b.least v a.below a.inside in
    omega (arith, a.lowest w b.below b.inside (omega arith), b.lowest v a.below a.inside (omega arith))

chained_same : (f h : ℕ → ℕ) (us : List ℕ) → ((u : ℕ) → Among u us → f u ≡ h u) → chained f us ≡ chained h us
chained_same f h [] same = refl
chained_same f h (u ∷ []) same = refl
chained_same f h (u ∷ v ∷ us) same =
    let here = same u (inl refl) in
    let next = same v (inr (inl refl)) in
    let rest = chained_same f h (v ∷ us) (λ w i. same w (inr i)) in
    cc

among_last : (us : List ℕ) (u : ℕ) → Among u (us ++ (u ∷ []))
among_last [] u = inl refl
among_last (v ∷ us) u = inr (among_last us u)

in_turn_same : (Links : ℕ → List Edge → Type 0) → ((p : ℕ) (ls ks : List Edge) → Links p ls → Links p ks → ls ≡ ks)
    → (ps : List ℕ) (ls ks : List Edge) → InTurn Links ps ls → InTurn Links ps ks → ls ≡ ks
in_turn_same Links one [] ls ks a b = a ∙ sym b
in_turn_same Links one (p ∷ ps) ls ks (l, ls', a, as', e) (k, ks', b, bs, q) =
    let here = one p l k a b in
    let rest = in_turn_same Links one ps ls' ks' as' bs in
    cc

module _ (actors : List Actor) (es : List Edge) (lead : ℕ) where
  part_links_one : (p : ℕ) (ls ks : List Edge) → PartLinks actors es lead p ls → PartLinks actors es lead p ks → ls ≡ ks
  part_links_one p ls ks a b =
      let same : (u : ℕ) → u < length actors → Lowest (length actors) (Group es) u → a.stand u ≡ b.stand u = λ u h low.
      stands_one actors es u (a.stand u) (b.stand u) (a.stands u h low) (b.stands u h low) in
      let at_entries : (u : ℕ) → Among u (a.first ∷ a.others) → a.stand u ≡ b.stand u = λ u i. let (h, head) = a.entries.each u i in same u h head.1 in
      let at_exits : (u : ℕ) → Among u (a.before ++ (a.last ∷ [])) → a.stand u ≡ b.stand u = λ u i. let (h, head) = a.exits.each u i in same u h head.1 in
      let entries = rising_same (length actors) _ _ _ a.entries b.entries in
      let exits = rising_same (length actors) _ _ _ a.exits b.exits in
      let last = (same_from_push a.before b.before a.last b.last exits).1 in
      let from = at_exits a.last (among_last a.before a.last) in
      let to = at_entries a.first (inl refl) in
      let chain = chained_same a.stand b.stand (a.first ∷ a.others) at_entries in
      let chain' = chained_same a.stand b.stand (a.before ++ (a.last ∷ [])) at_exits in
      cc (a.links, b.links)

  pub back_links_one : (ls ks : List Edge) → BackLinks actors es lead ls → BackLinks actors es lead ks → ls ≡ ks
  back_links_one ls ks a b =
      let ps = rising_same (length actors) _ _ _ a.several b.several in
      in_turn_same (PartLinks actors es lead) part_links_one b.parts ls ks (subst (λ qs. InTurn (PartLinks actors es lead) qs ls) ps a.links) b.links
