-- The first line that makes no call is found with its number.
use Rattle.std.proofs.Common.{◌≡◌, ap, ◌∙◌, sym, rules, tests}
use Rattle.std.specs.Option.{option_map}
use Rattle.std.proofs.lemmas.Iterator.Search.{find_from_yields_List}
use Rattle.reader.specs.Lines.{lines_left, number_next}
use Rattle.reader.proofs.Cuts.{YieldsList-from_lines}
use Rattle.rehearse.specs.Calls.{first_bad}
use Rattle.rehearse.proofs.Lines.{is_bad, number_of, bad_found}
use Rattle.rehearse.proofs.calls.bad_line.Goals as goal
use Rattle.rehearse.proofs.calls.bad_line.Goals.{After-find}

found : (c : After-find)
    → first_bad (number_next c.args.calls) (lines_left c.args.calls)
    ≡ option_map number_of (option_map (λ x. (x.0, x.1.now)) c.find.result)
found c =
    bad_found (number_next c.args.calls) (lines_left c.args.calls)
    ∙ ap (option_map number_of)
    (sym
    (find_from_yields_List is_bad c.find.new.self _ c.find.result c.find.ensures.ran (YieldsList-from_lines c.args.calls)
    (λ x b q k. search (rules, tests))))

pub returns-in_err-number : goal.returns-in_err-number
returns-in_err-number c = let f = found (goal.at.returns-in_err-number c).After-find in search rules

pub returns : goal.returns
returns c = let f = found (goal.at.returns c).After-find in search rules
