-- The table of worked examples, by computing.
use Rattle.std.proofs.Common.{refl}
use Rattle.std.specs.Fmt.{digits}
use Rattle.paths.specs.Closure.{round, rounds}
use Rattle.reader.specs.Numbers.{written_number, number_of}
use Rattle.reader.specs.Reading.{add_step, reading}
use Rattle.reader.specs.Words.{line_of}
use Rattle.planning.specs.Backs.{heads, part_backs, backs}
use Rattle.planning.specs.Checks.{check_tables, check_cycles}
use Rattle.planning.specs.Edges.{order_edge}
use Rattle.planning.specs.Groups.{end_group, opens_group, opens_part, one_group, stand_in}
use Rattle.planning.specs.Marks.{redundant}
use Rattle.planning.specs.Planning.{plan_links, plan_totals, planned}
use Rattle.planning.specs.Tables.{paths_over}
use Rattle.listing.specs.Lines.{head_line, link_line, cost_line, refusal_line}
use Rattle.listing.specs.Listed.{listed}
use Rattle.running.specs.Rehearsals.{rehearsed}
use Rattle.running.specs.Runs.{turn_after, open_check, opened, act_check, acted, cells_answer}
use Rattle.worked.specs.Answered.{answers_to}
use Rattle.worked.specs.Examples.{listing_of, examples, Hold}

pub all_hold : Hold examples
unfolding digits round rounds written_number number_of add_step reading line_of heads part_backs backs check_tables check_cycles order_edge end_group opens_group opens_part one_group stand_in redundant plan_links plan_totals planned paths_over head_line link_line cost_line refusal_line listed listing_of answers_to turn_after open_check opened act_check acted cells_answer rehearsed
all_hold =
    ((refl, refl), ((refl, refl), ((refl, refl), ((refl, refl), ((refl, refl), ((refl, refl), ((refl, refl), ((refl, refl), tt))))))))
