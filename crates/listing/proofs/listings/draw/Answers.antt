use Rattle.std.proofs.Common.{length, Err, ap, ◌∙◌}
use Rattle.std.proofs.lemmas.Result.{err_from_is_err_and}
use Rattle.reader.specs.Reading.{reading}
use Rattle.listing.specs.Listed.{listed}
use Rattle.listing.proofs.Drawing.{read_refused, read_passed, drawn_refused, drawn_planned}
use Rattle.listing.proofs.listings.draw.Goals as goal

pub returns-in_err-counts : goal.returns-in_err-counts
unfolding listed
returns-in_err-counts c =
    let R = reading c.args.text.now (length c.args.actors.now) (length c.args.links.now) in
    let f = c.in_err-counts.field-0.0 in
    let p = err_from_is_err_and c.from_residual.result c.from_residual.ensures.1 in
    record {
      drawn = drawn_refused c.args.actors.now c.args.links.now c.args.delays.now c.args.reach.now R f c.from_residual.result c.read.new.actors c.read.new.links
          (read_refused R f c.in_err-counts.ensures.answer) (p.1 ∙ ap Err p.2) c.read.ensures.actors c.read.ensures.links;
    }

pub returns : goal.returns
unfolding listed
returns c =
    let R = reading c.args.text.now (length c.args.actors.now) (length c.args.links.now) in
    let d = read_passed R c.in_ok-counts.counts c.in_ok-counts.ensures.answer in
    record {
      drawn = drawn_planned c.args.actors.now c.args.links.now c.args.delays.now c.args.reach.now R d.0 d.1 c.in_ok-counts.counts d.2 c.read.new.actors c.read.ensures.actors
          c.read.new.links c.read.ensures.links c.plan.result c.plan.new.links c.plan.new.delays c.plan.new.reach
          c.plan.auto.links c.plan.ensures.answer c.plan.ensures.room c.plan.ensures.links c.plan.ensures.delays c.plan.ensures.reach;
    }
