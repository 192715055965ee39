-- From reading and planning to what is listed.
use Rattle.std.proofs.Common.{◌≡◌, ℕ, ◌+◌, ◌-◌, ◌≤◌, List, length, take, drop, IfOk, Ok, Err, Result, sym, refl, ap, ◌∙◌, subst, arith}
use native.Mathlib.Nat.{sub-zero}
use Rattle.std.proofs.lemmas.List.{length-append, take_at}
use Rattle.records.specs.declared.fault.Fault.{Fault}
use Rattle.records.specs.declared.tables.Actor.{Actor}
use Rattle.records.specs.declared.tables.Link.{Link}
use Rattle.paths.specs.declared.delay.Delay.{Delay}
use Rattle.paths.specs.declared.reach.Reach.{Reach}
use Rattle.reader.specs.Reading.{Drawing, counts_of, actors_after, links_after}
use Rattle.reader.specs.Words.{over}
use Rattle.reader.specs.declared.Counts.{Counts}
use Rattle.planning.specs.Planning.{Totals, drawing, planned}
use Rattle.planner.specs.Slips.{slip_answer}
use Rattle.planner.specs.declared.plans.Slip.{Slip}
use Rattle.listing.specs.Drawn.{Drawn, answer_bytes}
use Rattle.listing.specs.Listed.{after_reading, outcome_bytes}

-- a reading that refused
pub read_refused : (R : Result Drawing Fault) (f : Fault) → Err f ≡ over counts_of R → R ≡ Err f
read_refused (Ok d) f e = let z : ◌≡◌ {A = ℕ} 0 1 = cc in absurd (omega arith)
read_refused (Err g) f e = let same : g ≡ f = cc in ap Err same

-- a reading that passed
pub read_passed : (R : Result Drawing Fault) (x : Counts) → Ok x ≡ over counts_of R → (d : Drawing) × (R ≡ Ok d) × (x ≡ counts_of d)
read_passed (Ok d) x e = (d, refl, cc)
read_passed (Err f) x e = let z : ◌≡◌ {A = ℕ} 0 1 = cc in absurd (omega arith)

module _ (actors : List Actor) (links : List Link) (delays : List Delay) (reach : List Reach) where
  pub drawn_refused : (R : Result Drawing Fault) (f : Fault) (r : Result Slip Fault) (actors' : List Actor) (links' : List Link)
      → R ≡ Err f → r ≡ Err f → actors' ≡ actors_after R actors → links' ≡ links_after R links
      → Drawn r (after_reading R actors links delays reach) actors' links' delays reach
  drawn_refused R f r actors' links' e p a l =
      subst (λ x. Drawn r (after_reading x actors links delays reach) actors' links' delays reach) (sym e)
      (record {
        bytes = ap (λ x. answer_bytes x links') p;
        room = subst (λ x. IfOk x (λ s. s.given + s.back ≤ length links')) (sym p) tt;
        actors_hold = a ∙ ap (λ x. actors_after x actors) e;
        links_hold = l ∙ ap (λ x. links_after x links) e;
        delays_hold = refl;
        reach_holds = refl;
      })

  -- the actors that were read, as the table holds them
  module _ (R : Result Drawing Fault) (d : Drawing) (is : R ≡ Ok d) (x : Counts) (counted : x ≡ counts_of d)
      (actors' : List Actor) (a : actors' ≡ actors_after R actors) where
    pub actors_within : length actors' ≡ length actors → x.actors ≤ length actors'
    actors_within long =
        let front = ap length (a ∙ ap (λ y. actors_after y actors) is) in
        let count : x.actors ≡ length d.actors = ap (λ y. y.actors) counted in
        omega (arith, front, length-append d.actors (drop (length d.actors) actors))

    actors_read : take (x.actors - 0) actors' ≡ d.actors
    actors_read =
        ap (λ k. take k actors') (sub-zero x.actors ∙ ap (λ y. y.actors) counted)
        ∙ ap (take (length d.actors)) (a ∙ ap (λ y. actors_after y actors) is)
        ∙ take_at d.actors (drop (length d.actors) actors) (length d.actors) refl

    module _ (links' : List Link) (l : links' ≡ links_after R links) where
      planned_from : drawing (take (x.actors - 0) actors') links' x.links x.lead delays reach
          ≡ drawing d.actors (links_after (Ok d) links) (length d.links) d.lead delays reach
      planned_from =
          ap (λ table. drawing table links' x.links x.lead delays reach) actors_read
          ∙ ap (λ ls. drawing d.actors ls x.links x.lead delays reach) (l ∙ ap (λ y. links_after y links) is)
          ∙ ap (λ y. drawing d.actors (links_after (Ok d) links) y.links y.lead delays reach) counted

      same_bytes : (t : Result Totals Fault) (ls : List Link) → answer_bytes (slip_answer t) ls ≡ outcome_bytes t ls
      same_bytes (Ok t) ls = refl
      same_bytes (Err f) ls = refl

      pub drawn_planned : (r : Result Slip Fault) (links'' : List Link) (delays'' : List Delay) (reach'' : List Reach)
          → length links'' ≡ length links'
          → r ≡ slip_answer (planned (drawing (take (x.actors - 0) actors') links' x.links x.lead delays reach)).answer
          → IfOk r (λ s. s.given + s.back ≤ length links')
          → links'' ≡ (planned (drawing (take (x.actors - 0) actors') links' x.links x.lead delays reach)).links
          → delays'' ≡ (planned (drawing (take (x.actors - 0) actors') links' x.links x.lead delays reach)).delays
          → reach'' ≡ (planned (drawing (take (x.actors - 0) actors') links' x.links x.lead delays reach)).reach
          → Drawn r (after_reading R actors links delays reach) actors' links'' delays'' reach''
      drawn_planned r links'' delays'' reach'' long answer room ls ds rs =
          subst (λ y. Drawn r (after_reading y actors links delays reach) actors' links'' delays'' reach'') (sym is)
          (record {
            bytes =
                ap (λ y. answer_bytes y links'') (answer ∙ ap (λ g. slip_answer (planned g).answer) planned_from)
                ∙ ap (answer_bytes _) (ls ∙ ap (λ g. (planned g).links) planned_from)
                ∙ same_bytes _ _;
            room = subst (λ k. IfOk r (λ s. s.given + s.back ≤ k)) (sym long) room;
            actors_hold = a ∙ ap (λ y. actors_after y actors) is;
            links_hold = ls ∙ ap (λ g. (planned g).links) planned_from;
            delays_hold = ds ∙ ap (λ g. (planned g).delays) planned_from;
            reach_holds = rs ∙ ap (λ g. (planned g).reach) planned_from;
          })
