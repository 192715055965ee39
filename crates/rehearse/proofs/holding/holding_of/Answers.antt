-- Each turn counts one step more.
use Rattle.std.proofs.Common.{◌≡◌, ◌+◌, max, take, arith, length-take}
use Rattle.rehearse.specs.Holding.{is_start, is_finish, count, held_after}
use Rattle.rehearse.proofs.Counting.{count_most, counted, passed_over, most_more}
use Rattle.rehearse.proofs.holding.holding_of.Goals as goal
use Rattle.rehearse.proofs.holding.holding_of.Goals.{then-is_accepted, else-is_accepted, then-is_accepted-2, else-is_accepted-2}

pub overflow_add-made : goal.overflow_add-made
overflow_add-made c =
    let m = count_most (is_start c.args.link.sender) (take c.loop-step.step-index c.args.steps.now) in
    let t = length-take c.loop-step.step-index c.args.steps.now in
    omega (arith, c.loop-step.invariant.0)

pub overflow_add-used : goal.overflow_add-used
overflow_add-used c =
    let m = count_most (is_finish c.args.link.receiver) (take c.loop-step.step-index c.args.steps.now) in
    let t = length-take c.loop-step.step-index c.args.steps.now in
    omega (arith, c.loop-step.invariant.1)

made : (c : goal.After-max-most)
    → c.if-is_accepted.made
    ≡ c.args.link.delay + count (is_start c.args.link.sender) (take (c.loop-step.step-index + 1) c.args.steps.now)
made c =
    elim c.if-is_accepted.branch [
      | then-is_accepted w ↦
          omega (
            arith,
            w.made-is,
            c.loop-step.invariant.0,
            counted (is_start c.args.link.sender) c.args.steps.now c.loop-step.step-index _ c.loop-step-test.true
                w.if-is_accepted.ensures,
          )
      | else-is_accepted w ↦
          omega (
            arith,
            w.made-is,
            c.loop-step.invariant.0,
            passed_over (is_start c.args.link.sender) c.args.steps.now c.loop-step.step-index _ c.loop-step-test.true
                w.if-is_accepted.ensures,
          )
    ]

used : (c : goal.After-max-most)
    → c.if-is_accepted-2.used
    ≡ count (is_finish c.args.link.receiver) (take (c.loop-step.step-index + 1) c.args.steps.now)
used c =
    elim c.if-is_accepted-2.branch [
      | then-is_accepted-2 w ↦
          omega (
            arith,
            w.used-is,
            c.loop-step.invariant.1,
            counted (is_finish c.args.link.receiver) c.args.steps.now c.loop-step.step-index _ c.loop-step-test.true
                w.if-is_accepted-2.ensures,
          )
      | else-is_accepted-2 w ↦
          omega (
            arith,
            w.used-is,
            c.loop-step.invariant.1,
            passed_over (is_finish c.args.link.receiver) c.args.steps.now c.loop-step.step-index _
                c.loop-step-test.true w.if-is_accepted-2.ensures,
          )
    ]

pub loop-step-preserved : goal.loop-step-preserved
loop-step-preserved c =
    let m = made c in
    let u = used c in
    let e : c.max-most.result ≡ max c.loop-step.most (held_after c.args.link (take (c.loop-step.step-index + 1) c.args.steps.now))
    = cc in (
      m,
      u,
      most_more c.args.link c.args.steps.now c.loop-step.step-index c.loop-step.most c.max-most.result c.loop-step-test.true
          c.loop-step.invariant.2 e,
    )
