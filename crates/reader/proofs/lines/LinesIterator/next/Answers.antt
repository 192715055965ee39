-- One more line is taken.
use Rattle.std.proofs.Common.{◌==◌, refl, rules}
use Rattle.std.proofs.lemmas.List.Sorted.{answers_always}
use Rattle.reader.proofs.Cuts.{cut_next}
use Rattle.reader.proofs.lines.LinesIterator.next.Goals as goal

pub returns-clause-steps : goal.returns-clause-steps
returns-clause-steps c =
    let h = c.in_ok-line.ensures.steps in
    let p = h.1.2 (λ b. b == 10) (answers_always _ _ _ (λ f a r g q. search rules)) in (
      cut_next c.args.self.now.rest.now _ _ _ _ c.split_inclusive.ensures.rest h.0 h.1.1 p.1 h.2,
      refl,
      refl,
    )
