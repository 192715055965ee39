-- The bytes of a listing, and how they fit an output.
use Rattle.std.specs.Prelude.{ℕ, ◌+◌, cond, List, [], ◌∷◌, ◌++◌, length, Ok, Err, Result, nat_le}
use Rattle.std.proofs.Math.Seq.{paste}
use Rattle.records.specs.declared.fault.Fault.{Fault}
use Rattle.records.specs.declared.fault.Layer.TheVariants.{Listing}
use Rattle.records.specs.declared.tables.Link.{Link}
use Rattle.records.specs.Faults.{fault}
use Rattle.records.specs.declared.refusal.Refusal.TheVariants as refusal
use Rattle.planning.specs.Planning.{Totals, over}
use Rattle.listing.specs.Lines.{head_line, link_line, cost_line}

-- a line for each link, numbered from k on
abbrev pub link_lines : ℕ → List Link → List ℕ
link_lines k [] = []
link_lines k (l ∷ ls) = link_line k l ++ link_lines (k + 1) ls

-- the listing of a plan
abbrev pub plan_bytes : Totals → List Link → List ℕ
plan_bytes t links =
    head_line t.actors t.given t.back ++ link_lines 0 links ++ cost_line t.before t.after

-- an output after these bytes are copied into it from a place on
abbrev pub written : List ℕ → ℕ → List ℕ → List ℕ
written out at bytes = paste out at bytes (length bytes)

-- what is answered where these bytes are to go into that output: their count, unless they do not fit
abbrev pub fit_answer : List ℕ → List ℕ → Result ℕ Fault
fit_answer bytes out = cond (nat_le (length bytes) (length out)) (Ok (length bytes)) (Err (fault refusal.ShortOutput Listing 0))

-- what the output holds then: the bytes, and its own later bytes after them; or just what it held, if they do not fit
abbrev pub fit_output : List ℕ → List ℕ → List ℕ
fit_output bytes out = cond (nat_le (length bytes) (length out)) (over bytes out) out
