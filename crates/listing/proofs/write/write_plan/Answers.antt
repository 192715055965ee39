use Rattle.std.proofs.Common.{◌≡◌, ℕ, ◌+◌, ◌≤◌, List, ◌++◌, length, sym, ap, ◌∙◌, arith}
use Rattle.std.proofs.lemmas.List.{length-append}
use Rattle.std.proofs.lemmas.Bool.{leb-true}
use Rattle.planner.specs.Slips.{totals_of}
use Rattle.listing.specs.Listing.{link_lines, plan_bytes, written, fit_answer, fit_output}
use Rattle.listing.proofs.Fitting.{three_lengths, written_more, answers, leaves}
use Rattle.listing.proofs.write.write_plan.Goals as goal
use Rattle.listing.proofs.write.write_plan.Goals.{Else-not-lines_fit}

-- the three parts fit the output, together and by their lengths
together : (c : Else-not-lines_fit) → length (c.as_bytes-first.result.now ++ link_lines 0 c.args.links.now ++ c.as_bytes-last.result.now) ≤ length c.args.out.now
together c = leb-true _ _ (sym c.if-not-lines_fit.ensures)

lengths : (c : Else-not-lines_fit) → length c.as_bytes-first.result.now + length c.as_bytes-last.result.now + length (link_lines 0 c.args.links.now) ≤ length c.args.out.now
lengths c =
    omega (arith, together c, three_lengths c.as_bytes-first.result.now (link_lines 0 c.args.links.now) c.as_bytes-last.result.now)

pub returns : goal.returns
returns c =
    let first : List ℕ = c.as_bytes-first.result.now in
    let lines : List ℕ = link_lines 0 c.args.links.now in
    let last : List ℕ = c.as_bytes-last.result.now in
    let out : List ℕ = c.args.out.now in
    let fits = together (goal.at.returns c).Else-not-lines_fit in
    let head = c.as_bytes-first.ensures.bytes ∙ c.head_line-head.ensures in
    let cost = c.as_bytes-last.ensures.bytes ∙ c.cost_line-cost.ensures in
    let is : first ++ lines ++ last ≡ plan_bytes (totals_of c.args.slip.now) c.args.links.now = cc in
    let two = written_more out 0 first lines (omega arith) in
    let three = written_more out 0 (first ++ lines) last (omega arith) in
    let second : c.put_links-last_at.result ≡ 0 + length (first ++ lines) = omega (arith, length-append first lines) in
    let whole : c.put.new.out ≡ written out 0 (first ++ lines ++ last) = cc in
    let end : c.put.result ≡ length (first ++ lines ++ last) = omega (arith, length-append (first ++ lines) last) in
    record {
      answer = answers (first ++ lines ++ last) out fits c.put.result end ∙ ap (λ (b : List ℕ). fit_answer b out) is;
      output = whole ∙ leaves (first ++ lines ++ last) out fits ∙ ap (λ (b : List ℕ). fit_output b out) is;
    }
