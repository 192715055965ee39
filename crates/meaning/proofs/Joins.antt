-- Actors are joined exactly where a path leads over the edges without direction.
use Rattle.std.proofs.Common.{ℕ, ◌⊎◌, List, [], ◌∷◌, ap, inl, inr}
use Rattle.records.specs.declared.tables.Edge.{Edge}
use Rattle.records.specs.Tables.{edge}
use Rattle.waits.specs.Events.{In, Path, last, step}
use Rattle.waits.proofs.Paths.{path_joined}
use Rattle.meaning.specs.Components.{Reaches, Joined, along, against, on}
use Rattle.meaning.proofs.Laid.{both_ways}

-- a path joins its ends
path_joins : {es : List Edge} {u v t : ℕ} → Path es u v t → Joined es u v
path_joins (last {d = d} h) = along d h
path_joins (step d h p) = on (along d h) (path_joins p)

pub reaches_joins : {es : List Edge} {u v : ℕ} → Reaches es u v → Joined es u v
reaches_joins r = path_joins r.1

pub joined_back : {es : List Edge} {u v : ℕ} → Joined es u v → Joined es v u
joined_back (along d h) = against d h
joined_back (against d h) = along d h
joined_back (on p q) = on (joined_back q) (joined_back p)

-- what an edge hands on, either way, is handed on to all that are joined
pub handed_on : (es : List Edge) (C : ℕ → Type 0) → ((x y d : ℕ) → In (edge x y d) es ⊎ In (edge y x d) es → C x → C y) → {u v : ℕ} → Joined es u v → C u → C v
handed_on es C hand (along {u} {v} d i) c = hand u v d (inl i) c
handed_on es C hand (against {u} {v} d i) c = hand v u d (inr i) c
handed_on es C hand (on p q) c = handed_on es C hand q (handed_on es C hand p c)

-- an edge without direction and delay is one of es, there or back
both_from : (es : List Edge) (e : Edge) → In e (both_ways es) → (d : ℕ) × (In (edge e.sender e.receiver d) es ⊎ In (edge e.receiver e.sender d) es)
both_from [] e i = absurd i
both_from (f ∷ es) e (inl q) = (f.delay, inl (inl (ap (λ (x : Edge). edge x.sender x.receiver f.delay) q)))
both_from (f ∷ es) e (inr (inl q)) = (f.delay, inr (inl (ap (λ (x : Edge). edge x.receiver x.sender f.delay) q)))
both_from (f ∷ es) e (inr (inr i)) = let (d, j) = both_from es e i in (d, elim j [ inl h ↦ inl (inr h) | inr h ↦ inr (inr h) ])

both_in : (es : List Edge) (e : Edge) → In e es → In (edge e.sender e.receiver 0) (both_ways es) × In (edge e.receiver e.sender 0) (both_ways es)
both_in [] e i = absurd i
both_in (f ∷ es) e (inl q) =
    (inl (ap (λ (x : Edge). edge x.sender x.receiver 0) q), inr (inl (ap (λ (x : Edge). edge x.receiver x.sender 0) q)))
both_in (f ∷ es) e (inr i) = let r = both_in es e i in (inr (inr r.0), inr (inr r.1))

either_joins : {es : List Edge} {u v : ℕ} → (d : ℕ) × (In (edge u v d) es ⊎ In (edge v u d) es) → Joined es u v
either_joins (d, inl i) = along d i
either_joins (d, inr i) = against d i

pub loose_joins : {es : List Edge} {u v t : ℕ} → Path (both_ways es) u v t → Joined es u v
loose_joins {es} (last {u} {v} {d} h) = either_joins (both_from es (edge u v d) h)
loose_joins {es} (step {u} {w} d h p) = on (either_joins (both_from es (edge u w d) h)) (loose_joins p)

pub joined_loose : {es : List Edge} {u v : ℕ} → Joined es u v → Path (both_ways es) u v 0
joined_loose {es} (along {u} {v} d h) = last (both_in es (edge u v d) h).0
joined_loose {es} (against {u} {v} d h) = last (both_in es (edge u v d) h).1
joined_loose (on p q) = path_joined {c = 0} {d = 0} (joined_loose p) (joined_loose q)
