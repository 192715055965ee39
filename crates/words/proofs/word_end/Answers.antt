use Rattle.std.proofs.Common.{rules, ◌≡◌, ◌≤◌, ℕ, Some, None, cond, ltb, length, sym, ap, ◌∙◌, arith}
use borrow.Author.Tests.{tests}
use Rattle.std.specs.List.{position_or_len}
use Rattle.std.specs.Option.{unwrap_or}
use Rattle.std.proofs.lemmas.Bool.Decides.{nat_tests}
use Rattle.std.proofs.lemmas.Iterator.{YieldsList-from_slice}
use Rattle.std.proofs.lemmas.Iterator.Search.{position_from_yields_List}
use Rattle.std.proofs.lemmas.List.Sums.{prefix_len-le-length}
use Rattle.words.specs.Words.{ends_word}
use Rattle.words.proofs.word_end.Goals as goal

found_or_end : (p n : ℕ) → p ≤ n → unwrap_or (cond (ltb p n) (Some p) None) n ≡ p
found_or_end p n h = grind (arith, nat_tests)

pub returns-clause-value : goal.returns-clause-value
returns-clause-value c =
    let at = position_from_yields_List ends_word _ _ c.position.result c.position.ensures.ran (YieldsList-from_slice c.args.text.now cc) (λ x b q k. search (rules, tests)) in
    c.unwrap_or.ensures
    ∙ ap (λ r. unwrap_or r (length c.args.text.now)) at
    ∙ found_or_end (position_or_len ends_word c.args.text.now) (length c.args.text.now) (prefix_len-le-length _ c.args.text.now)
