-- What an opening without fault leaves known.
use Rattle.std.proofs.Common.{◌≡◌, ℕ, zero, suc, ◌+◌, ◌<◌, ◌≤◌, Bool, true, false, not, ◌&&◌, ◌||◌, eqb, ltb, leb, List, [], ◌∷◌, length, get_or, take, Ok, Err, Option, Result, sym, refl, ap, ◌∙◌, subst, arith}
use Rattle.std.proofs.lemmas.List.{length-take-le}
use Rattle.std.proofs.lemmas.Bool.{or_parts, or_from, ltb-false, leb-false, eqb-false, ne_eqb}
use Rattle.records.specs.declared.fault.Fault.{Fault}
use Rattle.records.specs.declared.fault.Layer.TheVariants.{Run}
use Rattle.records.specs.declared.tables.Actor.{Actor}
use Rattle.records.specs.declared.tables.Link.{Link}
use Rattle.records.specs.Faults.{fault}
use Rattle.records.specs.Tables.{no_link}
use Rattle.records.specs.declared.refusal.Refusal.TheVariants as refusal
use Rattle.planning.specs.Checks.{refuse_if, refuse_first}
use Rattle.planning.specs.Planning.{Totals, planned}
use Rattle.planning.proofs.Passing.{first_ok, next_ok, passed, none_bad}
use Rattle.guards.specs.Levels.{Level, unfit}
use Rattle.running.specs.Rows.{guarded}
use Rattle.running.specs.Runs.{far_processor, short, unfit_link, open_check, fault_of, site_of, standing, standing_if, all_rested, opened}
use Rattle.running.specs.Claims.{OpensPlans}
use Rattle.running.proofs.Claimed.{opens}
use Rattle.runs.specs.Openings.{turns_if, row_if, TablesFit, GuardsFit, ProcessorsLow, EndsLow, HasCells}

near : (xs : List Actor) → far_processor xs ≡ false → ProcessorsLow xs
near [] e a h = absurd (omega arith)
near (x ∷ xs) e zero h = omega (arith, ltb-false 15 x.processor (or_parts (ltb 15 x.processor) (far_processor xs) e).0)
near (x ∷ xs) e (suc a) h = near xs (or_parts (ltb 15 x.processor) (far_processor xs) e).1 a (omega arith)

-- what is known of one link
record Fine (largest n : ℕ) (l : Link) : Type 0 where
  sender : l.sender < n
  receiver : l.receiver < n
  cells : l.mark ≤ 1 → 0 < l.size
  guard : guarded l ≡ true → unfit largest l.delay l.size ≡ false

cross_sized : (l : Link) → (not (eqb l.mark 2) && (eqb l.size 0 || ltb l.size l.delay)) ≡ false → (l.mark ≡ 2 → ⊥) → (eqb l.size 0 ≡ false) × (ltb l.size l.delay ≡ false)
cross_sized l e ne = let b = ne_eqb l.mark 2 ne in or_parts (eqb l.size 0) (ltb l.size l.delay) (simp b at e)

guarded_not_local : (l : Link) → guarded l ≡ true → l.mark ≡ 2 → ⊥
guarded_not_local l g e = let z = simp e at g in let w : ◌≡◌ {A = ℕ} 0 1 = cc in omega arith

fine : (largest n : ℕ) (l : Link) → unfit_link largest n l ≡ false → Fine largest n l
fine largest n l e =
    let a = or_parts (leb n l.sender) _ e in
    let b = or_parts (leb n l.receiver) _ a.1 in
    let c = or_parts (ltb 3 l.mark) _ b.1 in
    let sizes = or_parts (not (eqb l.mark 2) && (eqb l.size 0 || ltb l.size l.delay)) (guarded l && ltb largest l.size) c.1 in
    record {
      sender = leb-false n l.sender a.0;
      receiver = leb-false n l.receiver b.0;
      cells = λ h. positive l.size (eqb-false l.size 0 (cross_sized l sizes.0 (λ t. omega arith)).0);
      guard = λ g.
          let s = cross_sized l sizes.0 (guarded_not_local l g) in
          or_from (eqb l.size 0) _ s.0 (or_from (ltb l.size l.delay) _ s.1 (simp g at sizes.1));
    }
  where
    positive : (k : ℕ) → (k ≡ 0 → ⊥) → 0 < k
    positive zero d = absurd (d refl)
    positive (suc k) d = omega arith

module _ (largest : ℕ) (t : Totals) (actors : List Actor) (links : List Link) (row : ℕ) (sound : open_check largest t actors links row ≡ Ok tt) where
  abbrev tables : Bool
  tables = short t (length actors) (length links) row || far_processor (take t.actors actors)

  abbrev front : List Link
  front = take (t.given + t.back) links

  usable : tables ≡ false
  unfolding open_check
  usable = passed _ (fault refusal.UnfitTables Run 0) (first_ok (refuse_if tables (fault refusal.UnfitTables Run 0)) (λ _. refuse_first (unfit_link largest t.actors) refusal.UnfitLink Run 0 front) sound)

  not_short : short t (length actors) (length links) row ≡ false
  not_short = (or_parts (short t (length actors) (length links) row) (far_processor (take t.actors actors)) usable).0

  counts_low : t.actors ≤ 64
  counts_low = ltb-false 64 t.actors (or_parts (ltb 64 t.actors) _ not_short).0

  actors_there : t.actors ≤ length actors
  actors_there = ltb-false (length actors) t.actors (or_parts (ltb (length actors) t.actors) _ (or_parts (ltb 64 t.actors) _ not_short).1).0

  long : length (take t.actors actors) ≡ t.actors
  long = length-take-le t.actors actors actors_there

  link_fine : (k : ℕ) → k < length front → Fine largest t.actors (get_or front k no_link)
  unfolding open_check
  link_fine k h =
      let all = next_ok (refuse_if tables (fault refusal.UnfitTables Run 0)) (λ _. refuse_first (unfit_link largest t.actors) refusal.UnfitLink Run 0 front) sound in
      fine largest t.actors (get_or front k no_link) (none_bad (unfit_link largest t.actors) refusal.UnfitLink Run 0 front no_link all k h)

  few : length (take t.actors actors) ≤ 64
  few = omega (arith, long, counts_low)

  processors : ProcessorsLow (take t.actors actors)
  processors = near (take t.actors actors) (or_parts (short t (length actors) (length links) row) (far_processor (take t.actors actors)) usable).1

  ends : EndsLow (take t.actors actors) front
  ends k h = let f = link_fine k h in (omega (arith, long, f.sender), omega (arith, long, f.receiver))

  cells : HasCells front
  cells k h = (link_fine k h).cells

  tables_fit : TablesFit (take t.actors actors) front
  tables_fit = (few, processors, ends, cells)

  guards_fit : GuardsFit largest front
  guards_fit k h = (link_fine k h).guard

-- an opening that passed its checks has fit tables, and its guards fit
pub passed_fits : (largest : ℕ) (t : Totals) (actors xs : List Actor) (links ls : List Link) (row : ℕ)
    → xs ≡ take t.actors actors → ls ≡ take (t.given + t.back) links → open_check largest t actors links row ≡ Ok tt
    → TablesFit xs ls × GuardsFit largest ls
passed_fits largest t actors xs links ls row ea el sound =
    subst (λ ys. TablesFit ys ls × GuardsFit largest ls) (sym ea)
    (subst (λ ms. TablesFit (take t.actors actors) ms × GuardsFit largest ms) (sym el)
    (tables_fit largest t actors links row sound, guards_fit largest t actors links row sound))

-- how a run stands at first, part by part
pub opened_is : (largest : ℕ) (t : Totals) (actors : List Actor) (links : List Link) (row : List Level) (f : Option Fault) (xs : List Actor) (ls : List Link)
    → f ≡ fault_of (open_check largest t actors links (length row)) → xs ≡ take t.actors actors → ls ≡ take (t.given + t.back) links
    → standing f all_rested (turns_if f xs) (row_if f ls row) ≡ opened largest t actors links row
unfolding opened
opened_is largest t actors links row f xs ls ef ea el =
    ap (λ x. standing x all_rested (turns_if x xs) (row_if x ls row)) ef
    ∙ ap (λ x. standing (fault_of check) all_rested (turns_if (fault_of check) x) (row_if (fault_of check) ls row)) ea
    ∙ ap (λ x. standing (fault_of check) all_rested (turns_if (fault_of check) (take t.actors actors)) (row_if (fault_of check) x row)) el
    ∙ by_case check
  where
    check : Result Unit Fault
    check = open_check largest t actors links (length row)

    by_case : (r : Result Unit Fault)
        → standing (fault_of r) all_rested (turns_if (fault_of r) (take t.actors actors)) (row_if (fault_of r) (take (t.given + t.back) links) row)
        ≡ standing_if r (site_of t actors links) row
    by_case (Ok x) = refl
    by_case (Err f) = refl

-- the tables of a plan open soundly
pub opens_plans : (largest : ℕ) (t : Totals) (actors : List Actor) (links : List Link) (row : List Level) (places : ℕ) (f : Option Fault)
    → length row ≡ places → f ≡ fault_of (open_check largest t actors links (length row)) → OpensPlans largest t actors links places f
unfolding opened
opens_plans largest t actors links row places f long ef d ok ea el large room =
    ef ∙ ap (λ xs. fault_of (open_check largest t xs links (length row))) ea ∙ ap (λ ls. fault_of (open_check largest t d.actors ls (length row))) el
    ∙ fault_is (open_check largest t d.actors (planned d).links (length row))
    ∙ opens d t ok largest row large (omega (arith, long))
  where
    fault_is : (r : Result Unit Fault) → fault_of r ≡ (standing_if r (site_of t d.actors (planned d).links) row).fault
    fault_is (Ok x) = refl
    fault_is (Err f) = refl
