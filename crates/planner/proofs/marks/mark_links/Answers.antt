use Rattle.std.proofs.Common.{map, length, refl, ◌∙◌, arith}
use Rattle.std.proofs.lemmas.List.{length-set}
use Rattle.records.specs.Tables.{link_edge}
use Rattle.planner.proofs.Bounded.{ends_moved}
use Rattle.planner.proofs.Rewriting.{edges_kept, marked_more}
use Rattle.planner.proofs.marks.mark_links.Goals as goal

pub invariant_of-graph : goal.invariant_of-graph
invariant_of-graph c =
    let xs = c.args.links.now in
    let same = edges_kept c.args.actors.now (map link_edge xs) xs c.loop-i.links c.loop-i.i c.loop-i.invariant.0 in
    record { few = c.requires.few; ends = ends_moved (length c.args.actors.now) xs c.loop-i.links same c.requires.ends }

pub loop-i-preserved : goal.loop-i-preserved
loop-i-preserved c =
    let xs = c.args.links.now in (
      marked_more c.args.actors.now (map link_edge xs) xs c.loop-i.links c.loop-i.i c.loop-i.invariant.0 c.number.result refl
          (omega (arith, c.requires.given)) (c.number.ensures ∙ c.mark_of-mark.ensures.value),
      c.mark_of-mark.ensures.rest ∙ c.loop-i.invariant.1,
      length-set c.loop-i.links c.loop-i.i _ ∙ c.loop-i.invariant.2,
    )
