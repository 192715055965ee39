-- The searches of a run in the library's words.
use Rattle.std.proofs.Common.{◌≡◌, ℕ, zero, suc, ◌+◌, ◌-◌, ◌<◌, ◌≤◌, Bool, true, false, cond, ◌||◌, eqb, ltb, List, [], ◌∷◌, map, length, get_or, take, drop, Some, None, Option, sym, refl, ap, ◌∙◌, subst, ⊎_elim, arith, length-drop, take_all}
use Rattle.std.proofs.lemmas.Bool.{cases_eq}
use Rattle.std.proofs.lemmas.List.FromFn.{fill_by_all}
use Rattle.std.specs.Array.{IsFromFnResult, IsFromFnResultFrom}
use Rattle.std.specs.Fn.{Called}
use Rattle.std.proofs.lemmas.Iterator.Adapters.{position_from-zero}
use Rattle.std.specs.List.{list_any, position_from, position_or_len, range_with_len, zip}
use Rattle.std.specs.Option.{option_map}
use Rattle.records.specs.declared.fault.Layer.TheVariants.{Run}
use Rattle.records.specs.declared.tables.Actor.{Actor}
use Rattle.records.specs.declared.tables.Link.{Link}
use Rattle.records.specs.Tables.{processor_of}
use Rattle.planning.specs.Checks.{refuse_first}
use Rattle.records.specs.Faults.{refused_at}
use Rattle.records.specs.declared.refusal.Refusal.{Refusal}
use Rattle.guards.specs.Levels.{Level}
use Rattle.running.specs.Rows.{first_link}
use Rattle.running.specs.Runs.{far_processor, first_on, first_turn, or_else, turn_after}
use denote.Param.Members.{Mut}

pub any_far : (xs : List Actor) → list_any (λ x. ltb 15 x.processor) xs ≡ far_processor xs
any_far [] = refl
any_far (x ∷ xs) = ap (λ b. ltb 15 x.processor || b) (any_far xs)

pub position_on : (p k : ℕ) (xs : List Actor) → position_from (λ x. eqb x.processor p) k xs ≡ first_on p k xs
position_on p k [] = refl
position_on p k (x ∷ xs) = ap (cond (eqb x.processor p) (Some k)) (position_on p (k + 1) xs)

position_refuses : {X : Type 0} (bad : X → Bool) (why : Refusal) (k : ℕ) (xs : List X) → refused_at why Run (position_from bad k xs) ≡ refuse_first bad why Run k xs
position_refuses bad why k [] = refl
position_refuses bad why k (x ∷ xs) = by_test (bad x) (position_refuses bad why (k + 1) xs)
  where
    by_test : (b : Bool) → refused_at why Run (position_from bad (k + 1) xs) ≡ refuse_first bad why Run (k + 1) xs
        → refused_at why Run (cond b (Some k) (position_from bad (k + 1) xs)) ≡ cond b (refused_at why Run (Some k)) (refuse_first bad why Run (k + 1) xs)
    by_test true e = refl
    by_test false e = e

-- what is refused where a search by position found o
pub refused_by : {X : Type 0} (bad : X → Bool) (why : Refusal) (xs : List X) (o : Option ℕ) → o ≡ cond (ltb (position_or_len bad xs) (length xs)) (Some (position_or_len bad xs)) None
    → refused_at why Run o ≡ refuse_first bad why Run 0 xs
refused_by bad why xs o e = ap (refused_at why Run) (e ∙ position_from-zero bad xs) ∙ position_refuses bad why 0 xs

-- a link and its guard, looked for together
pub position_of_pair : {G : Type 0} (fails : Link → Level → Bool) (means : G → Level) (k : ℕ) (links : List Link) (row : List G)
    → position_from (λ x. fails x.0 (means x.1)) k (zip links row) ≡ first_link fails k links (map means row)
position_of_pair fails means k [] row = refl
position_of_pair fails means k (l ∷ ls) [] = refl
position_of_pair fails means k (l ∷ ls) (x ∷ xs) = ap (cond (fails l (means x)) (Some k)) (position_of_pair fails means (k + 1) ls xs)

-- the first on a processor among the actors from j on, by how much further it stands
further_on : (p j k : ℕ) (xs : List Actor) → first_on p (j + k) xs ≡ option_map (λ i. j + i) (first_on p k xs)
further_on p j k [] = refl
further_on p j k (x ∷ xs) = let same : j + k + 1 ≡ j + (k + 1) = omega arith in by_test (eqb x.processor p) (ap (λ n. first_on p n xs) same ∙ further_on p j (k + 1) xs)
  where
    by_test : (b : Bool) → first_on p (j + k + 1) xs ≡ option_map (λ i. j + i) (first_on p (k + 1) xs)
        → cond b (Some (j + k)) (first_on p (j + k + 1) xs) ≡ option_map (λ i. j + i) (cond b (Some k) (first_on p (k + 1) xs))
    by_test true e = refl
    by_test false e = e

-- whose turn it is after actor a, where the actors behind it are searched by themselves: the next on its processor, or the first
module _ (xs : List Actor) (a : ℕ) where
  further : first_on (processor_of xs a) (a + 1) (drop (a + 1) xs)
      ≡ option_map (λ i. a + 1 + i) (first_on (processor_of xs a) 0 (take (length xs - (a + 1)) (drop (a + 1) xs)))
  further =
      ap (λ k. first_on (processor_of xs a) k (drop (a + 1) xs)) (omega arith) ∙ further_on (processor_of xs a) (a + 1) 0 (drop (a + 1) xs)
      ∙ ap (λ ys. option_map (λ i. a + 1 + i) (first_on (processor_of xs a) 0 ys)) (sym (take_all (length xs - (a + 1)) (drop (a + 1) xs) (omega (arith, length-drop (a + 1) xs))))

  pub turn_of_next : (i : ℕ) → first_on (processor_of xs a) 0 (take (length xs - (a + 1)) (drop (a + 1) xs)) ≡ Some i → turn_after xs a ≡ a + 1 + i
  unfolding turn_after
  turn_of_next i e = ap (λ m. or_else m (first_turn xs (processor_of xs a))) (further ∙ ap (option_map (λ i. a + 1 + i)) e)

  pub turn_of_first : first_on (processor_of xs a) 0 (take (length xs - (a + 1)) (drop (a + 1) xs)) ≡ None → turn_after xs a ≡ first_turn xs (processor_of xs a)
  unfolding turn_after
  turn_of_first e = ap (λ m. or_else m (first_turn xs (processor_of xs a))) (further ∙ ap (option_map (λ i. a + 1 + i)) e)

module _ {F B : Type 0} (g : Mut F (ℕ × Unit {0}) B) (f : F) (h : ℕ → B) (pure : (i : ℕ) (y : B) (q : F) → Called g f (i, tt) y q → (q ≡ f) × (y ≡ h i)) where
  made_at : (ys : List B) (n i : ℕ) (p : F) → p ≡ f → IsFromFnResultFrom g p ys i n → (k : ℕ) (d : B) → i ≤ k → k < i + n → get_or ys k d ≡ h k
  made_at ys zero i p e m k d lo hi = absurd (omega arith)
  made_at ys (suc n) i p e m k d lo hi =
      let (q, y, here, called, more) = m in
      let now = pure i y q (subst (λ s. Called g s (i, tt) y q) e called) in
      ⊎_elim
      (λ (t : k ≡ i). ap (λ j. get_or ys j d) t ∙ here.1 d ∙ now.1 ∙ ap h (sym t))
      (λ (t : k ≡ i → ⊥). made_at ys n (i + 1) q now.0 more k d (omega arith) (omega arith))
      (cases_eq k i)

  pub made_by : (ys : List B) (n : ℕ) → IsFromFnResult g f ys n → (d : B) → ys ≡ map h (range_with_len 0 n)
  made_by ys n m d = fill_by_all h ys n d m.long (λ k l. made_at ys n 0 f refl m.each k d (omega arith) (omega (arith, l)))
