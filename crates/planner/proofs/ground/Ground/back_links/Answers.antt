use Rattle.std.proofs.Common.{◌+◌, ◌-◌, ◌++◌, length, sym, refl, ap, ◌∙◌}
use Rattle.std.specs.List.{range_with_len}
use Rattle.std.proofs.lemmas.Bool.{cond-true, cond-false}
use Rattle.planning.specs.Backs.{part_backs, backs_among, backs}
use Rattle.planner.specs.Views.{seen, listed}
use Rattle.planner.proofs.Counting.{counting_more, counting_none}
use Rattle.planner.proofs.Found.{finding_more, finding_same, finding_done, listed_few}
use Rattle.planner.proofs.ground.Ground.back_links.Goals as goal
use Rattle.planner.proofs.ground.Ground.back_links.Goals.{then-wants_backs, else-wants_backs}

pub loop-p-preserved : goal.loop-p-preserved
loop-p-preserved c =
    let g = seen c.args.self.now in
    let n = length c.args.self.now.actors.now in
    let lead = c.args.lead in
    let p = c.loop-p.p in
    let later = backs_among g lead (range_with_len (p + 1) (n - (p + 1))) in
    let split = ap (backs_among g lead) (counting_more p n c.loop-p-test.true) in
    elim c.if-wants_backs.branch [
      | then-wants_backs w ↦
          let here = split ∙ ap (λ ls. ls ++ later) (cond-true _ _ _ (sym c.wants_backs.ensures ∙ w.if-wants_backs.true)) in
          let more = finding_more _ _ _ _ c.loop-p.invariant (part_backs g lead p) later (listed w.add_part.new.found) here w.add_part.ensures in
          finding_same _ _ _ _ more (listed c.if-wants_backs.found) later (ap listed w.found-is) refl
      | else-wants_backs w ↦
          let here = split ∙ ap (λ ls. ls ++ later) (cond-false _ _ _ (sym c.wants_backs.ensures ∙ w.if-wants_backs.false)) in
          finding_same _ _ _ _ c.loop-p.invariant (listed c.if-wants_backs.found) later (ap listed w.found-is) (sym here)
    ]

pub returns : goal.returns
unfolding backs
returns c =
    let g = seen c.args.self.now in
    let none = counting_none c.loop-p.p (length c.args.self.now.actors.now) c.loop-p-test.false in
    finding_done _ _ _ _ c.loop-p.invariant (ap (backs_among g c.args.lead) none) (listed_few c.loop-p.found)
