use Rattle.std.proofs.Common.{◌≡◌, ℕ, ◌<◌, length, rules, sym, refl, ap, ◌∙◌, subst, arith}
use borrow.Author.Tests.{tests}
use Rattle.std.proofs.lemmas.Fn.{serves_by, fold_over}
use Rattle.std.proofs.iter.Yields.{nat_range_steps}
use Rattle.std.proofs.lemmas.Iterator.{YieldsList, YieldsList-from_range}
use Rattle.std.specs.declared.ops.Range.{Range}
use Rattle.std.specs.List.{fold, range_with_len}
use Rattle.std.proofs.lemmas.List.Sums.{fold_push}
use Rattle.planning.specs.Backs.{stand}
use Rattle.planning.specs.Groups.{stand_in}
use Rattle.planner.specs.Views.{seen}
use Rattle.planner.proofs.Ends.{stand_under}
use Rattle.planner.proofs.Stands.{AllUnder, under_last, range_under, better, better_all}
use Rattle.planner.proofs.ground.Ground.stand_in.Goals as goal

pub fold-requires-clause-callable : goal.fold-requires-clause-callable
fold-requires-clause-callable c =
    let n = length c.args.self.now.actors.now in
    serves_by _ (λ xs q. AllUnder n xs → (q.0.0.now ≡ c.args.self.now) × ((q.0.1.now ≡ c.args.u) × (q.1 < n)))
    (λ xs q x v j r all. let j' = j (under_last n xs x all).0 in let h = (under_last n xs x all).1 in search (rules, tests)) _ _ _ _ (λ _. (refl, (refl, c.requires)))
    (λ xs t q x k ys st j. let all = range_under n xs _ t refl ys in let j' = j all.0 in search rules)

pub returns : goal.returns
unfolding stand_in
returns c =
    let g = seen c.args.self.now in
    let n = length c.args.self.now.actors.now in
    let u = c.args.u in
    let h = better g.actors n g.delays u in
    let range : Range ℕ = record { start = 0; end = n } in
    let road : YieldsList nat_range_steps (λ x. x) range (range_with_len 0 n) = YieldsList-from_range 0 n n refl (omega arith) in
    let folded : c.fold.result ≡ fold h u (range_with_len 0 n) =
    fold_over nat_range_steps (λ x. x) _ (λ ys a. a ≡ fold h u ys) _ (λ ys a x b f' j k.
    let e : b ≡ h a x = search (rules, tests) in
    (e ∙ ap (λ z. h z x) j ∙ sym (fold_push h u ys x), search (rules, tests))) range (range_with_len 0 n) u c.fold.result road.runs refl c.fold.ensures.ran in
    let value : c.fold.result ≡ stand g u = folded ∙ better_all g.actors n g.delays u n in
    record { value = value; within = subst (λ w. w < n) (sym value) (stand_under g u c.requires) }
