-- A workspace that is cleared, laid and closed holds the best paths.
use Rattle.std.proofs.Common.{◌≡◌, ℕ, ◌+◌, ◌*◌, ◌<◌, ◌≤◌, leb, List, ◌++◌, length, drop, replicate, sym, ap, ◌∙◌, arith, le-leb}
use Rattle.std.proofs.lemmas.Nat.{mul-add-lt}
use Rattle.std.proofs.lemmas.List.{get_or_append_left}
use Rattle.std.proofs.lemmas.Bool.{cond-true}
use Rattle.records.specs.declared.tables.Actor.{Actor}
use Rattle.records.specs.declared.tables.Edge.{Edge}
use Rattle.paths.specs.Algebra.{Ops}
use Rattle.paths.specs.Closure.{entry, closed, close_table}
use Rattle.paths.specs.Models.{delay_ops}
use Rattle.paths.specs.declared.delay.Delay.{Delay}
use Rattle.planning.specs.declared.Sight.{Sight}
use Rattle.planning.specs.declared.Sight.TheVariants.{Directed}
use Rattle.planning.specs.Edges.{orders, without, Within}
use Rattle.planning.specs.Marks.{delays_without, redundant}
use Rattle.planning.specs.Tables.{laid, paths_over}
use Rattle.planning.proofs.Standing.{laid_append, length_paths_over, filled}

pub filled_in_steps : {M : Type 0} (s : Sight) (o : Ops M) (n : ℕ) (cells cleared ordered linked after : List M) (es fs : List Edge)
    → n * n ≤ length linked → Within n (es ++ fs)
    → cleared ≡ replicate (n * n) o.none ++ drop (n * n) cells → ordered ≡ laid s o n cleared es → linked ≡ laid s o n ordered fs
    → after ≡ close_table o n linked → after ≡ paths_over s o n (es ++ fs) ++ drop (n * n) cells
filled_in_steps s o n cells cleared ordered linked after es fs room within a b c d =
    d ∙ cond-true _ _ _ (le-leb (n * n) (length linked) room)
    ∙ ap (closed o n) (c ∙ ap (λ xs. laid s o n xs fs) b ∙ sym (laid_append o n s cleared es fs) ∙ ap (λ xs. laid s o n xs (es ++ fs)) a)
    ∙ filled o n s (drop (n * n) cells) (es ++ fs) within

-- the test of a link against the least delays without it
pub redundant_read : (actors : List Actor) (es : List Edge) (i : ℕ) (e : Edge) (cells rest : List Delay) → (e.sender < length actors) × (e.receiver < length actors)
    → cells ≡ delays_without actors es i e ++ rest → leb (entry delay_ops cells (length actors) e.sender e.receiver).value e.delay ≡ redundant actors es i e
unfolding redundant
redundant_read actors es i e cells rest ends is =
    let n : ℕ = length actors in
    let table : List Delay = delays_without actors es i e in
    let long = length_paths_over delay_ops n Directed (orders actors ++ without i e 0 es) in
    let inside : e.sender * n + e.receiver < length table = omega (arith, long, mul-add-lt e.sender n e.receiver n ends.0 ends.1) in
    ap (λ x. leb x.value e.delay)
    (ap (λ ls. entry delay_ops ls n e.sender e.receiver) is ∙ get_or_append_left table rest delay_ops.none (e.sender * n + e.receiver) inside)
