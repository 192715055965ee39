-- Refusals, and how an answer that may be one is told by a number and its values.
use Rattle.std.specs.Prelude.{ℕ, List, [], ◌∷◌, Some, None, Ok, Err, Option, Result}
use Rattle.records.specs.declared.fault.Fault.{Fault}
use Rattle.records.specs.declared.fault.Layer.{Layer}
use Rattle.records.specs.declared.fault.Layer.TheVariants.{Text, Table, Plan, Listing, Run, Guard}
use Rattle.records.specs.declared.refusal.Refusal.{Refusal}
use Rattle.records.specs.declared.refusal.Refusal.TheVariants.{Misshaped, NoNumber, OutOfOrder, NoRoom, ActorCount, LinkCount, BadLead, ShortWorkspace, BadActor, BadLink, Deadlock, ShortOutput, UnfitTables, UnfitLink, Unknown, TooManyStarts, NotItsTurn, EmptyLink, Resting, Empty, Full, UnfitLevel, Other}

abbrev pub fault : Refusal → Layer → ℕ → Fault
fault r l p = record { refusal = r; layer = l; place = p }

-- the number by which a refusal is told
abbrev pub refusal_number : Refusal → ℕ
refusal_number Misshaped = 1
refusal_number NoNumber = 2
refusal_number OutOfOrder = 3
refusal_number NoRoom = 4
refusal_number ActorCount = 5
refusal_number LinkCount = 6
refusal_number BadLead = 7
refusal_number ShortWorkspace = 8
refusal_number BadActor = 9
refusal_number BadLink = 10
refusal_number Deadlock = 11
refusal_number ShortOutput = 12
refusal_number UnfitTables = 15
refusal_number UnfitLink = 16
refusal_number Unknown = 17
refusal_number TooManyStarts = 18
refusal_number NotItsTurn = 19
refusal_number EmptyLink = 20
refusal_number Resting = 21
refusal_number Empty = 22
refusal_number Full = 23
refusal_number UnfitLevel = 24
refusal_number (Other n) = n

abbrev pub layer_number : Layer → ℕ
layer_number Text = 1
layer_number Table = 2
layer_number Plan = 3
layer_number Listing = 4
layer_number Run = 5
layer_number Guard = 6

-- refused at the place that was found, if one was
abbrev pub refused_at : Refusal → Layer → Option ℕ → Result Unit Fault
refused_at r l None = Ok tt
refused_at r l (Some place) = Err (fault r l place)

-- the values of a refusal: its layer's number and its place
abbrev pub refusal_values : Fault → List ℕ
refusal_values f = layer_number f.layer ∷ f.place ∷ []

-- an answer by a number and its values: 0 with the values of a success, a refusal's number with its layer and place
abbrev pub told : {X : Type 0} → (X → List ℕ) → Result X Fault → ℕ × List ℕ
told values (Ok x) = (0, values x)
told values (Err f) = (refusal_number f.refusal, refusal_values f)

-- the next step of a calculation, unless this one refused
abbrev pub then : {X Y : Type 0} → Result X Fault → (X → Result Y Fault) → Result Y Fault
then (Ok x) next = next x
then (Err f) next = Err f
