-- A number above both ends of every edge.
use Rattle.std.proofs.Common.{◌≡◌, ℕ, suc, ◌+◌, ◌≤◌, List, [], ◌∷◌, inl, inr, arith}
use Rattle.records.specs.declared.tables.Edge.{Edge}
use Rattle.waits.specs.Events.{Within}

pub above_ends : List Edge → ℕ
above_ends [] = 0
above_ends (e ∷ es) = suc (e.sender + e.receiver + above_ends es)

pub within_above : (es : List Edge) (n : ℕ) → above_ends es ≤ n → Within n es
unfolding above_ends
within_above [] n l e h = absurd h
within_above (f ∷ es) n l e (inl q) = let s : e.sender ≡ f.sender = cc in let r : e.receiver ≡ f.receiver = cc in (omega arith, omega arith)
within_above (f ∷ es) n l e (inr h) = within_above es n (omega arith) e h
