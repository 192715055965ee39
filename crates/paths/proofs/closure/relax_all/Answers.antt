use Rattle.std.proofs.Common.{arith}
use Rattle.paths.proofs.Rows.{row_before, rows_apart}
use Rattle.paths.proofs.Rounds.{rows_more, rows_all}
use Rattle.paths.proofs.closure.relax_all.Goals as goal

pub relax_row-requires : goal.relax_row-requires
relax_row-requires g c = record {
  row_within = omega (arith, row_before c.loop-i.i c.args.n c.args.n c.loop-i-test.true);
  via_within = omega (arith, row_before c.args.k c.args.n c.args.n c.requires.below);
  below = c.requires.below;
  apart = rows_apart c.loop-i.i c.args.k c.args.n;
}

pub loop-i-preserved : goal.loop-i-preserved
loop-i-preserved g c =
    rows_more g.T.Algebra.laws _ _ _ _ _ _ c.requires.below c.loop-i.invariant c.relax_row.ensures.done c.relax_row.ensures.rest

pub returns : goal.returns
returns g c =
    rows_all g.T.Algebra.ops _ _ _ _ c.loop-i.i (omega arith) c.requires.within c.loop-i.auto.cells c.loop-i.invariant
