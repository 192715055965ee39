-- Who is first on a processor, and who is next after an actor.
use Rattle.std.proofs.Common.{◌≡◌, ℕ, zero, suc, ◌+◌, ◌-◌, ◌<◌, ◌≤◌, true, false, eqb, ◌⊎◌, List, [], ◌∷◌, length, drop, Some, None, sym, refl, ap, ◌∙◌, subst, inl, inr, ⊎_elim, arith}
use Rattle.std.proofs.lemmas.List.{length-drop, get_or-drop}
use Rattle.std.proofs.lemmas.Bool.{cases_Bool, cases_lt, cond-true, cond-false, eqb-true, eqb-false}
use Rattle.records.specs.declared.tables.Actor.{Actor}
use Rattle.records.specs.Tables.{no_actor, processor_of}
use Rattle.waits.specs.Events.{Next, Round}
use Rattle.running.specs.Runs.{first_on, or_else, first_turn, turn_after}

-- the lowest of these actors on the processor is i
record Lowest (p : ℕ) (xs : List Actor) (i : ℕ) : Type 0 where
  below : i < length xs
  on : processor_of xs i ≡ p
  lowest : (w : ℕ) → w < i → processor_of xs w ≡ p → ⊥

-- none of them is on it
abbrev Nobody : ℕ → List Actor → Type 0
Nobody p xs = (w : ℕ) → w < length xs → processor_of xs w ≡ p → ⊥

first_found : (p k : ℕ) (xs : List Actor)
    → ((i : ℕ) × (first_on p k xs ≡ Some (k + i)) × Lowest p xs i) ⊎ ((first_on p k xs ≡ None) × Nobody p xs)
first_found p k [] = inr (refl, λ w h e. omega arith)
first_found p k (x ∷ xs) =
    ⊎_elim
    (λ (t : eqb x.processor p ≡ true).
    inl (0, cond-true _ _ _ t ∙ ap Some (omega arith), record { below = omega arith; on = eqb-true _ _ t; lowest = λ w h e. omega arith }))
    (λ (t : eqb x.processor p ≡ false).
    let apart = eqb-false x.processor p t in
    ⊎_elim
    (λ (f : (i : ℕ) × (first_on p (k + 1) xs ≡ Some (k + 1 + i)) × Lowest p xs i).
    inl (
      suc f.0,
      cond-false _ _ _ t ∙ f.1 ∙ ap Some (omega arith),
      record {
        below = omega (arith, f.2.below);
        on = f.2.on;
        lowest = shifted apart f.0 f.2.lowest;
      },
    ))
    (λ (f : (first_on p (k + 1) xs ≡ None) × Nobody p xs). inr (cond-false _ _ _ t ∙ f.0, shifted apart (length xs) f.1))
    (first_found p (k + 1) xs))
    (cases_Bool (eqb x.processor p))
  where
    shifted : (x.processor ≡ p → ⊥) → (n : ℕ) → ((w : ℕ) → w < n → processor_of xs w ≡ p → ⊥) → (w : ℕ) → w < suc n → processor_of (x ∷ xs) w ≡ p → ⊥
    shifted apart n none zero h e = apart e
    shifted apart n none (suc w) h e = none w (omega arith) e

module _ (actors : List Actor) where
  abbrev on : ℕ → ℕ
  on x = processor_of actors x

  -- f is the first actor of its processor
  pub record First (f : ℕ) : Type 0 where
    pub below : f < length actors
    pub lowest : (w : ℕ) → w < length actors → processor_of actors w ≡ processor_of actors f → f ≤ w

  -- the first turn on the processor of an actor is that of the first actor there
  pub first_turn_is : (x : ℕ) → x < length actors → First (first_turn actors (on x)) × (on (first_turn actors (on x)) ≡ on x)
  first_turn_is x h =
      ⊎_elim
      (λ (f : (i : ℕ) × (first_on (on x) 0 actors ≡ Some (0 + i)) × Lowest (on x) actors i).
      let is : first_turn actors (on x) ≡ f.0 = ap (λ o. or_else o 0) f.1 ∙ (let z : 0 + f.0 ≡ f.0 = omega arith in z) in
      subst (λ i. First i × (on i ≡ on x)) (sym is) (
        record {
          below = f.2.below;
          lowest = λ w hw e. ⊎_elim (λ (l : w < f.0). absurd (f.2.lowest w l (e ∙ f.2.on))) (λ (l : f.0 ≤ w). l) (cases_lt w f.0);
        },
        f.2.on,
      ))
      (λ (f : (first_on (on x) 0 actors ≡ None) × Nobody (on x) actors). absurd (f.1 x h refl))
      (first_found (on x) 0 actors)

  -- after an actor it is the turn of the next one on its processor, or after the last one of the first
  pub turn_after_is : (a : ℕ) → a < length actors → Next actors a (turn_after actors a) ⊎ Round actors a (turn_after actors a)
  unfolding turn_after
  turn_after_is a h =
      let rest = drop (a + 1) actors in
      let at : (w : ℕ) → processor_of rest w ≡ on (a + 1 + w) = λ w. ap (λ x. x.processor) (get_or-drop (a + 1) actors w no_actor) in
      let long : length rest ≡ length actors - (a + 1) = length-drop (a + 1) actors in
      let back : (w : ℕ) → a < w → processor_of rest (w - (a + 1)) ≡ on w = λ w l. at (w - (a + 1)) ∙ ap on (omega arith) in
      ⊎_elim
      (λ (f : (i : ℕ) × (first_on (on a) (a + 1) rest ≡ Some (a + 1 + i)) × Lowest (on a) rest i).
      let i = f.0 in
      inl (subst (Next actors a) (sym (ap (λ o. or_else o (first_turn actors (on a))) f.1)) (
      let same : on (a + 1 + i) ≡ on a = sym (at i) ∙ f.2.on in
      record {
        below = omega (arith, f.2.below);
        later = omega arith;
        same = sym same;
        between = λ w lo hi e. f.2.lowest (w - (a + 1)) (omega arith) (back w lo ∙ e ∙ same);
      }
      )))
      (λ (f : (first_on (on a) (a + 1) rest ≡ None) × Nobody (on a) rest).
      let (first, same) = first_turn_is a h in
      inr (subst (Round actors a) (sym (ap (λ o. or_else o (first_turn actors (on a))) f.0)) (
      record {
        last_below = h;
        first_below = first.below;
        same = sym same;
        ends = λ w hw e. (
          first.lowest w hw e,
          ⊎_elim (λ (l : a < w). absurd (f.1 (w - (a + 1)) (omega arith) (back w l ∙ e ∙ same))) (λ (l : w ≤ a). l) (cases_lt a w),
        );
      }
      )))
      (first_found (on a) (a + 1) rest)
