use Rattle.std.proofs.Common.{◌≡◌, ◌<◌, ◌≤◌, length, get_or, ap, arith, rules}
use Rattle.records.specs.Tables.{no_link}
use Rattle.runs.proofs.Changing.{changed_more, changed_past, changed_all}
use Rattle.runs.proofs.rows.change_each.Goals as goal
use Rattle.runs.proofs.rows.change_each.Goals.{else-loop-i-test, then-loop-i-test+in_default}

pub change-requires : goal.change-requires
change-requires g c =
    let there : c.loop-i.i < length c.args.links.now = search rules in
    let is : c.in-Some.link.now ≡ get_or c.args.links.now c.loop-i.i no_link = search rules in
    rw is (c.requires c.loop-i.i (get_or c.loop-i.row c.loop-i.i c.index-row-i.result) there)

pub loop-i-preserved : goal.loop-i-preserved
loop-i-preserved g c =
    let there : c.loop-i.i < length c.args.links.now = search rules in
    let is : c.in-Some.link.now ≡ get_or c.args.links.now c.loop-i.i no_link = search rules in
    let guard = get_or c.loop-i.row c.loop-i.i c.index-row-i.result in
    let new = rw is at c.change.ensures in
    changed_more _ c.loop-i.i c.args.links.now c.args.row.now c.loop-i.row guard c.change.result there (omega (arith, c.loop-i-test.true)) (ap (get_or c.loop-i.row c.loop-i.i) c.index-row-i.is) new c.loop-i.invariant

pub returns : goal.returns
returns g c = elim c.loop-i-test.branch [
  | else-loop-i-test w ↦
      rw w.row-is (changed_all _ c.loop-i.i c.args.links.now c.args.row.now c.loop-i.row (omega (arith, w.loop-i-test.false)) c.loop-i.invariant)
  | then-loop-i-test+in_default w ↦
      let past : length c.args.links.now ≤ c.loop-i.i = search rules in
      rw w.row-is (changed_past _ c.loop-i.i c.args.links.now c.args.row.now c.loop-i.row w.index-row-i.result past c.loop-i.invariant)
]
