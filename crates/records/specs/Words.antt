-- The words in which refusals are told.
use Rattle.std.specs.Prelude.{ℕ, List, [], ◌∷◌, ◌++◌, codes, decimal}
use Rattle.records.specs.declared.fault.Fault.{Fault}
use Rattle.records.specs.declared.fault.Layer.{Layer}
use Rattle.records.specs.declared.fault.Layer.TheVariants.{Text, Table, Plan, Listing, Run, Guard}
use Rattle.records.specs.Faults.{refusal_number}

-- the word of a refusal's layer
abbrev pub layer_word : Layer → List ℕ
layer_word Text = codes "text"
layer_word Table = codes "table"
layer_word Plan = codes "plan"
layer_word Listing = codes "listing"
layer_word Run = codes "run"
layer_word Guard = codes "guard"

-- words with a space between each two
abbrev pub spaced : List (List ℕ) → List ℕ
spaced [] = []
spaced (w ∷ []) = w
spaced (w ∷ v ∷ ws) = w ++ 32 ∷ spaced (v ∷ ws)

abbrev pub refusal_text : Fault → List ℕ
refusal_text f =
    spaced (codes "refused" ∷ decimal (refusal_number f.refusal) ∷ layer_word f.layer ∷ decimal f.place ∷ [])
