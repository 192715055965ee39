-- Calls one after the other: what is answered, how the run stands, and which guards are left alone.
use Rattle.std.proofs.Common.{◌≡◌, ℕ, zero, suc, ◌+◌, ◌<◌, Bool, false, ◌&&◌, eqb, List, [], ◌∷◌, ◌++◌, length, get_or, take, drop, set, Some, None, Ok, Err, Option, Result, refl, ap, ◌∙◌, arith}
use Rattle.records.specs.declared.fault.Fault.{Fault}
use Rattle.records.specs.declared.tables.Link.{Link}
use Rattle.records.specs.Tables.{no_link}
use Rattle.running.specs.declared.Act.{Act}
use Rattle.running.specs.declared.Answer.{Answer}
use Rattle.running.specs.declared.Step.{Step}
use Rattle.running.specs.Rehearsals.{answered, answer_to, after_call, carried, carried_to}
use Rattle.running.specs.Rows.{end_of}
use Rattle.running.specs.Runs.{Site, Standing, act_check}
use Rattle.running.proofs.Unsound.{no_act}
use Rattle.runs.specs.Alone.{Stand, guarded_if, moved_if}

-- an act moves no guard but those of kept and back links, and none in an unsound run
pub act_leaves : {G : Type 0} (s : Site) (now : Standing) (act : Act) (a : ℕ) (r : Result Unit Fault) (links : List Link) (before after : List G)
    → r ≡ act_check s now act a → Stand (moved_if r act a) links before after → Stand (guarded_if now.fault) links before after
act_leaves s now act a r links before after is stand k h = stand k (λ l. unmoved now.fault refl r is (get_or links k no_link) (h l))
  where
    unmoved : (f : Option Fault) → now.fault ≡ f → (r : Result Unit Fault) → r ≡ act_check s now act a → (l : Link) → guarded_if f l ≡ false → moved_if r act a l ≡ false
    unmoved f e (Err x) is l g = refl
    unmoved None e (Ok x) is l g = ap (λ b. b && eqb (end_of act l) a) g
    unmoved (Some f) e (Ok x) is l g = let z : ◌≡◌ {A = ℕ} 0 1 = cc (is ∙ no_act s now f e act a) in absurd (omega arith)

-- one guard row after another
pub stand_on : {G : Type 0} (test : Link → Bool) (links : List Link) (first second third : List G)
    → Stand test links first second → Stand test links second third → Stand test links first third
stand_on test links first second third one two k h = two k h ∙ one k h

module _ (s : Site) where
  carried_next : (now : Standing) (steps : List Step) (i : ℕ) (d : Step) → i < length steps
      → set (carried s now (take i steps) ++ drop i steps) i (answered s (carried_to s now (take i steps)) (get_or steps i d))
      ≡ carried s now (take (suc i) steps) ++ drop (suc i) steps
  carried_next now [] i d h = absurd (omega arith)
  carried_next now (x ∷ xs) zero d h = refl
  carried_next now (x ∷ xs) (suc i) d h = ap (λ ys. answered s now x ∷ ys) (carried_next (after_call s now x.call) xs i d (omega arith))

  carried_to_next : (now : Standing) (steps : List Step) (i : ℕ) (d : Step) → i < length steps
      → after_call s (carried_to s now (take i steps)) (get_or steps i d).call ≡ carried_to s now (take (suc i) steps)
  carried_to_next now [] i d h = absurd (omega arith)
  carried_to_next now (x ∷ xs) zero d h = refl
  carried_to_next now (x ∷ xs) (suc i) d h = carried_to_next (after_call s now x.call) xs i d (omega arith)

  -- what comes next is as it was
  carried_ahead : (now : Standing) (steps : List Step) (i : ℕ) (d : Step) → i < length steps
      → get_or (carried s now (take i steps) ++ drop i steps) i d ≡ get_or steps i d
  carried_ahead now [] i d h = absurd (omega arith)
  carried_ahead now (x ∷ xs) zero d h = refl
  carried_ahead now (x ∷ xs) (suc i) d h = carried_ahead (after_call s now x.call) xs i d (omega arith)

  -- one more call has its answer
  carried_more : (now : Standing) (steps : List Step) (i : ℕ) (d : Step) → i < length steps
      → set (carried s now (take i steps) ++ drop i steps) i (answered s (carried_to s now (take i steps)) (get_or steps i d))
      ≡ carried s now (take (i + 1) steps) ++ drop (i + 1) steps
  carried_more now steps i d h =
      let next : suc i ≡ i + 1 = omega arith in
      carried_next now steps i d h ∙ ap (λ k. carried s now (take k steps) ++ drop k steps) next

  carried_to_more : (now : Standing) (steps : List Step) (i : ℕ) (d : Step) → i < length steps
      → after_call s (carried_to s now (take i steps)) (get_or steps i d).call ≡ carried_to s now (take (i + 1) steps)
  carried_to_more now steps i d h =
      let next : suc i ≡ i + 1 = omega arith in carried_to_next now steps i d h ∙ ap (λ k. carried_to s now (take k steps)) next

  -- one more call, made of a run that sees s and has come to stand where the calls before it lead
  pub call_more : (t : Site) (first now after : Standing) (steps xs : List Step) (i : ℕ) (d : Step) (r : Answer)
      → t ≡ s → now ≡ carried_to s first (take i steps) → xs ≡ carried s first (take i steps) ++ drop i steps → i < length steps
      → r ≡ answer_to t now (get_or xs i d).call → after ≡ after_call t now (get_or xs i d).call
      → (set xs i (record { call = (get_or xs i d).call; answer = r }) ≡ carried s first (take (i + 1) steps) ++ drop (i + 1) steps)
      × (after ≡ carried_to s first (take (i + 1) steps))
  call_more t first now after steps xs i d r sees stands written h said left =
      let then-stands = carried_to s first (take i steps) in
      let here : get_or xs i d ≡ get_or steps i d = ap (λ ys. get_or ys i d) written ∙ carried_ahead first steps i d h in
      let new : ◌≡◌ {A = Step} (record { call = (get_or xs i d).call; answer = r }) (answered s then-stands (get_or steps i d)) =
      ap (λ (a : Answer). record { call = (get_or xs i d).call; answer = a }) (said ∙ ap (λ x. answer_to x now (get_or xs i d).call) sees ∙ ap (λ n. answer_to s n (get_or xs i d).call) stands)
      ∙ ap (answered s then-stands) here in (
        ap (set xs i) new ∙ ap (λ ys. set ys i (answered s then-stands (get_or steps i d))) written ∙ carried_more first steps i d h,
        left ∙ ap (λ x. after_call x now (get_or xs i d).call) sees ∙ ap (λ n. after_call s n (get_or xs i d).call) stands
            ∙ ap (λ (x : Step). after_call s then-stands x.call) here ∙ carried_to_more first steps i d h,
      )
