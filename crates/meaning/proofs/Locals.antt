-- A local link of a drawing that can run is enforced by its processor's order alone.
use Rattle.std.proofs.Common.{◌≡◌, ℕ, ◌<◌, ◌≤◌, List, length, sym, subst, ⊎_elim, arith}
use Rattle.std.proofs.lemmas.Bool.{cases_lt, cases_eq}
use Rattle.records.specs.declared.tables.Actor.{Actor}
use Rattle.records.specs.declared.tables.Edge.{Edge}
use Rattle.records.specs.Tables.{processor_of}
use Rattle.waits.specs.Events.{In, Path, last, Live}
use Rattle.waits.proofs.Paths.{path_joined, path_over_more}
use Rattle.planning.specs.Edges.{orders}
use Rattle.meaning.proofs.Covers.{Covers}
use Rattle.meaning.proofs.Turns.{later_path, round_path}

pub local_covered : (actors : List Actor) (es : List Edge) → ((e : Edge) → In e (orders actors) → In e es) → Live es
    → (e : Edge) → In e es → e.sender < length actors → e.receiver < length actors → processor_of actors e.sender ≡ processor_of actors e.receiver
    → Covers (orders actors) e
local_covered actors es part live e i hu hv same =
    ⊎_elim
    (λ (l : e.sender < e.receiver). (0, omega arith, later_path actors e.sender e.receiver l hv same))
    (λ (l : e.receiver ≤ e.sender).
    ⊎_elim
    (λ (some : 0 < e.delay). (1, omega arith, round_path actors e.sender e.receiver hu hv same))
    (λ (none : e.delay ≤ 0).
    let free : Path es e.sender e.receiver 0 = let z : e.delay ≡ 0 = omega arith in subst (λ d. Path es e.sender e.receiver d) z (last i) in
    ⊎_elim
    (λ (p : e.sender ≡ e.receiver). absurd (live e.sender (subst (λ v. Path es e.sender v 0) (sym p) free)))
    (λ (d : e.sender ≡ e.receiver → ⊥).
    absurd (live e.receiver (path_joined {c = 0} {d = 0} (path_over_more part (later_path actors e.receiver e.sender (strictly e.receiver e.sender l d) hu (sym same))) free)))
    (cases_eq e.sender e.receiver))
    (cases_lt 0 e.delay))
    (cases_lt e.sender e.receiver)
  where
    strictly : (a b : ℕ) → a ≤ b → (b ≡ a → ⊥) → a < b
    strictly a b le d = ⊎_elim (λ (l : a < b). l) (λ (l : b ≤ a). absurd (d (omega arith))) (cases_lt a b)
