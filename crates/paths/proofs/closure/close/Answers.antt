use Rattle.std.proofs.Common.{◌≡◌, ℕ, refl, ap, ◌∙◌, arith}
use Rattle.paths.specs.Closure.{rounds, closed}
use Rattle.paths.proofs.Bests.{chosen}
use Rattle.paths.proofs.Rounds.{rounds_more}
use Rattle.paths.proofs.closure.close.Goals as goal

pub loop-k-init : goal.loop-k-init
unfolding rounds
loop-k-init g c = refl

pub loop-k-preserved : goal.loop-k-preserved
loop-k-preserved g c = rw (rounds_more, ← c.loop-k.invariant) c.relax_all.ensures

pub returns-clause-paths : goal.returns-clause-paths
returns-clause-paths g c _ u v hu hv =
    let e : c.loop-k.k ≡ c.args.n = omega arith in
    let ends : c.loop-k.cells ≡ closed g.T.Algebra.ops c.args.n c.args.cells.now = c.loop-k.invariant ∙ ap (λ (k : ℕ). rounds g.T.Algebra.ops c.args.n k c.args.cells.now) e in
    rw ends (chosen g.T.Algebra.laws c.args.cells.now c.args.n u v hu hv)
