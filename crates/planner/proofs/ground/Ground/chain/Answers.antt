use Rattle.std.proofs.Common.{◌+◌, ◌<◌, length, IfSome, Some, sym, ap, ◌∙◌, subst}
use Rattle.planning.specs.Backs.{link_from, chain}
use Rattle.planner.specs.Views.{seen, listed}
use Rattle.planner.proofs.Found.{finding_more, finding_same, finding_done, listed_few}
use Rattle.planner.proofs.Heads.{heads_left, heads_here, heads_not_here, heads_none}
use Rattle.planner.proofs.ground.Ground.chain.Goals as goal
use Rattle.planner.proofs.ground.Ground.chain.Goals.{then-heads, else-heads}

pub loop-u-preserved : goal.loop-u-preserved
loop-u-preserved c =
    let g = seen c.args.self.now in
    let n = length c.args.self.now.actors.now in
    let end = c.args.end in
    let p = c.args.p in
    let u = c.loop-u.u in
    let later = heads_left g end p n (u + 1) in
    elim c.if-heads.branch [
      | then-heads w ↦
          let here = ap (chain g c.loop-u.earlier) (heads_here g end p n u c.loop-u-test.true (sym c.heads.ensures ∙ w.if-heads.true)) in
          let more = finding_more _ _ _ _ c.loop-u.invariant.0 (link_from g c.loop-u.earlier u) (chain g (Some u) later) (listed w.link_from.new.found) here w.link_from.ensures in (
            finding_same _ _ _ _ more (listed c.if-heads.found) (chain g c.if-heads.earlier later) (ap listed w.found-is) (ap (λ e. chain g e later) w.earlier-is),
            subst (λ e. IfSome e (λ w. w < n)) (sym w.earlier-is) c.loop-u-test.true,
          )
      | else-heads w ↦
          let on = heads_not_here g end p n u c.loop-u-test.true (sym c.heads.ensures ∙ w.if-heads.false) in (
            finding_same _ _ _ _ c.loop-u.invariant.0 (listed c.if-heads.found) (chain g c.if-heads.earlier later) (ap listed w.found-is)
                (ap (λ e. chain g e later) w.earlier-is ∙ sym (ap (chain g c.loop-u.earlier) on)),
            subst (λ e. IfSome e (λ w. w < n)) (sym w.earlier-is) c.loop-u.invariant.1,
          )
    ]

pub returns : goal.returns
returns c =
    let g = seen c.args.self.now in
    let none = heads_none g c.args.end c.args.p (length c.args.self.now.actors.now) c.loop-u.u c.loop-u-test.false in
    finding_done _ _ _ _ c.loop-u.invariant.0 (ap (chain g c.loop-u.earlier) none) (listed_few c.loop-u.found)
