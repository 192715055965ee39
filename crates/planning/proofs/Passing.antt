-- What holds of tables and numbers that pass the checks.
use Rattle.std.proofs.Common.{◌≡◌, ℕ, zero, suc, ◌+◌, ◌*◌, ◌<◌, ◌≤◌, Bool, true, false, ◌||◌, eqb, ltb, leb, List, [], ◌∷◌, length, get_or, take, Ok, Err, Result, sym, refl, ◌∙◌, ⊎_elim, arith}
use Rattle.std.proofs.lemmas.Bool.{or_parts, ltb-false, leb-false, eqb-false, cases_Bool, cond-true, cond-false}
use Rattle.records.specs.declared.fault.Fault.{Fault}
use Rattle.records.specs.declared.fault.Layer.{Layer}
use Rattle.records.specs.declared.fault.Layer.TheVariants.{Table}
use Rattle.records.specs.declared.tables.Actor.{Actor}
use Rattle.records.specs.declared.tables.Link.{Link}
use Rattle.records.specs.Faults.{fault, then}
use Rattle.records.specs.Tables.{no_actor, no_link, processor_of}
use Rattle.records.specs.declared.refusal.Refusal.TheVariants as refusal
use Rattle.records.specs.declared.refusal.Refusal.{Refusal}
use Rattle.planning.specs.Checks.{refuse_if, refuse_first, check_counts, bad_actor, bad_link, check_tables}

pub err_not_ok : (f : Fault) → ◌≡◌ {A = Result Unit Fault} (Err f) (Ok tt) → ⊥
err_not_ok f e = let z : ◌≡◌ {A = ℕ} 0 1 = cc in omega arith

pub first_ok : (r : Result Unit Fault) (next : Unit → Result Unit Fault) → then r next ≡ Ok tt → r ≡ Ok tt
first_ok (Ok x) next e = refl
first_ok (Err f) next e = absurd (err_not_ok f e)

pub next_ok : (r : Result Unit Fault) (next : Unit → Result Unit Fault) → then r next ≡ Ok tt → next tt ≡ Ok tt
next_ok (Ok x) next e = e
next_ok (Err f) next e = absurd (err_not_ok f e)

pub passed : (bad : Bool) (f : Fault) → refuse_if bad f ≡ Ok tt → bad ≡ false
passed true f e = absurd (err_not_ok f e)
passed false f e = refl

pub none_bad : {X : Type 0} (bad : X → Bool) (why : Refusal) (layer : Layer) (k : ℕ) (xs : List X) (d : X) → refuse_first bad why layer k xs ≡ Ok tt
    → (i : ℕ) → i < length xs → bad (get_or xs i d) ≡ false
none_bad bad why layer k [] d e i h = absurd (omega arith)
none_bad bad why layer k (x ∷ xs) d e zero h =
    ⊎_elim (λ (t : bad x ≡ true). absurd (err_not_ok (fault why layer k) (sym (cond-true _ _ _ t) ∙ e))) (λ (t : bad x ≡ false). t) (cases_Bool (bad x))
none_bad bad why layer k (x ∷ xs) d e (suc i) h =
    ⊎_elim (λ (t : bad x ≡ true). absurd (err_not_ok (fault why layer k) (sym (cond-true _ _ _ t) ∙ e)))
    (λ (t : bad x ≡ false). none_bad bad why layer (k + 1) xs d (sym (cond-false _ _ _ t) ∙ e) i (omega arith)) (cases_Bool (bad x))

pub record Passed (actors : List Actor) (links : List Link) (given lead delays reach : ℕ) : Type 0 where
  pub few : length actors ≤ 64
  pub given_few : given ≤ 256
  pub links_room : given + 15 ≤ length links
  pub lead_low : 1 ≤ lead
  pub lead_high : lead ≤ 1000
  pub delays_room : length actors * length actors ≤ delays
  pub reach_room : length actors * length actors ≤ reach
  pub processors : (u : ℕ) → u < length actors → processor_of actors u < 16
  pub ends : (k : ℕ) → k < length (take given links) → ((get_or (take given links) k no_link).sender < length actors) × ((get_or (take given links) k no_link).receiver < length actors)
  pub short : (k : ℕ) → k < length (take given links) → (get_or (take given links) k no_link).delay ≤ 1000

pub tables_passed : (actors : List Actor) (links : List Link) (given lead delays reach : ℕ) → check_tables actors links given lead delays reach ≡ Ok tt
    → Passed actors links given lead delays reach
unfolding check_tables
tables_passed actors links given lead delays reach ok =
    let n = length actors in
    let counts = check_counts n given (length links) lead delays reach in
    let r5 = refuse_if (eqb n 0 || ltb 64 n) (fault refusal.ActorCount Table 0) in
    let r6 = refuse_if (ltb 256 given || ltb (length links) (given + 15)) (fault refusal.LinkCount Table 0) in
    let r7 = refuse_if (eqb lead 0 || ltb 1000 lead) (fault refusal.BadLead Table 0) in
    let from5 = first_ok counts _ ok in
    let from6 = next_ok r5 _ from5 in
    let from7 = next_ok r6 _ from6 in
    let from8 = next_ok r7 _ from7 in
    let five = or_parts (eqb n 0) (ltb 64 n) (passed _ (fault refusal.ActorCount Table 0) (first_ok r5 _ from5)) in
    let six = or_parts (ltb 256 given) (ltb (length links) (given + 15)) (passed _ (fault refusal.LinkCount Table 0) (first_ok r6 _ from6)) in
    let seven = or_parts (eqb lead 0) (ltb 1000 lead) (passed _ (fault refusal.BadLead Table 0) (first_ok r7 _ from7)) in
    let eight = or_parts (ltb delays (n * n)) (ltb reach (n * n)) (passed _ (fault refusal.ShortWorkspace Table 0) from8) in
    let from9 = next_ok counts _ ok in
    let actors_ok = first_ok (refuse_first bad_actor refusal.BadActor Table 0 actors) _ from9 in
    let links_ok = next_ok (refuse_first bad_actor refusal.BadActor Table 0 actors) _ from9 in
    let lead_some = eqb-false lead 0 seven.0 in
    let link_fine : (k : ℕ) → k < length (take given links) → bad_link n (get_or (take given links) k no_link) ≡ false = λ k h. none_bad (bad_link n) refusal.BadLink Table 0 (take given links) no_link links_ok k h in
    record {
      few = ltb-false 64 n five.1;
      given_few = ltb-false 256 given six.0;
      links_room = ltb-false (length links) (given + 15) six.1;
      lead_low = positive lead lead_some;
      lead_high = ltb-false 1000 lead seven.1;
      delays_room = ltb-false delays (n * n) eight.0;
      reach_room = ltb-false reach (n * n) eight.1;
      processors = λ u h.
          let a = get_or actors u no_actor in
          let fine = or_parts (ltb 15 a.processor) (eqb a.estimate 0 || ltb 1000000 a.estimate) (none_bad bad_actor refusal.BadActor Table 0 actors no_actor actors_ok u h) in
          omega (arith, ltb-false 15 a.processor fine.0);
      ends = λ k h.
          let l = get_or (take given links) k no_link in
          let fine = or_parts (leb n l.sender) (leb n l.receiver || ltb 1000 l.delay) (link_fine k h) in
          let also = or_parts (leb n l.receiver) (ltb 1000 l.delay) fine.1 in
          (leb-false n l.sender fine.0, leb-false n l.receiver also.0);
      short = λ k h.
          let l = get_or (take given links) k no_link in
          let fine = or_parts (leb n l.sender) (leb n l.receiver || ltb 1000 l.delay) (link_fine k h) in
          let also = or_parts (leb n l.receiver) (ltb 1000 l.delay) fine.1 in
          ltb-false 1000 l.delay also.1;
    }
  where
    positive : (k : ℕ) → (k ≡ 0 → ⊥) → 1 ≤ k
    positive zero d = absurd (d refl)
    positive (suc k) d = omega arith
