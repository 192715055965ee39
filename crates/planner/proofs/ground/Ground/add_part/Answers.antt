use Rattle.std.proofs.Common.{[], ◌∷◌, ◌++◌, take, None, refl, ap, ◌∙◌}
use Rattle.planning.specs.declared.End.TheVariants.{Entry, Exit}
use Rattle.planning.specs.Backs.{chain, last_or, groups_of, back_link, stand, closing, part_backs}
use Rattle.planner.specs.Views.{seen, listed}
use Rattle.planner.proofs.Found.{finding_none, finding_more, finding_done, listed_few}
use Rattle.planner.proofs.ground.Ground.add_part.Goals as goal

pub returns : goal.returns
unfolding part_backs
returns c =
    let g = seen c.args.self.now in
    let p = c.args.p in
    let lead = c.args.lead in
    let last = closing g lead p ∷ [] in
    let entries = chain g None (groups_of g Entry p) in
    let exits = chain g None (groups_of g Exit p) in
    let link =
    c.back_link.ensures ∙ ap (λ u. back_link (stand g u) (stand g c.first_group-to.result) lead) c.last_group-from.ensures.value
    ∙ ap (λ u. back_link (stand g (last_or p (groups_of g Exit p))) (stand g u) lead) c.first_group-to.ensures.value in
    let zero = finding_none (listed c.args.found.now) (entries ++ (exits ++ last)) _ refl in
    let one = finding_more _ _ _ _ zero entries (exits ++ last) (listed c.chain.new.found) refl c.chain.ensures in
    let two = finding_more _ _ _ _ one exits last (listed c.chain-2.new.found) refl c.chain-2.ensures in
    let pushed = c.push.ensures ∙ ap (λ l. take 15 (listed c.chain-2.new.found ++ (l ∷ []))) link in
    let three = finding_more _ _ _ _ two last [] (listed c.push.new.self) refl pushed in
    finding_done _ _ _ _ three refl (listed_few c.push.new.self)
