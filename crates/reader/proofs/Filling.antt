-- What the tables hold after some lines of a text, and how one more line changes it.
use Rattle.std.proofs.Common.{◌≡◌, ℕ, ◌+◌, ◌-◌, ◌<◌, ◌≤◌, Bool, true, false, cond, ltb, List, ◌∷◌, length, take, drop, set, is_ok, Ok, Err, Result, sym, refl, ap, ◌∙◌, arith}
use Rattle.std.proofs.lemmas.List.{take_more_set, length-set, drop-set-lt, drop-drop}
use Rattle.std.proofs.lemmas.Bool.{ltb-true, true≢false}
use Rattle.records.specs.Faults.{fault, then}
use Rattle.records.specs.declared.fault.Fault.{Fault}
use Rattle.records.specs.declared.fault.Layer.TheVariants.{Text}
use Rattle.records.specs.declared.tables.Actor.{Actor}
use Rattle.records.specs.declared.tables.Link.{Link}
use Rattle.records.specs.declared.refusal.Refusal.TheVariants as refusal
use Rattle.reader.specs.Words.{Parsed, lead, actor, link, line_of}
use Rattle.reader.specs.Reading.{entry_of, room_step, room_for, over_lines, actor_room, link_room, Drawing, drawing, with_entry, add_step, drawn}
use Rattle.reader.specs.declared.Counts.{Counts}
use Rattle.reader.specs.declared.check.Room.{Room}
use Rattle.reader.specs.declared.line.Entry.{Entry}
use Rattle.reader.specs.declared.line.Entry.TheVariants as entry

-- the first of the lines, with the number n, writes x; `rest` are the others
pub record Taken (n : ℕ) (lines rest : List (List ℕ)) (x : Entry) : Type 0 where
  pub first : List ℕ
  pub parts : lines ≡ first ∷ rest
  pub parsed : Parsed
  pub reads : line_of n first ≡ Ok parsed
  pub writes : entry_of parsed ≡ Ok x

-- as code takes it
pub took : {n line : ℕ} {lines rest : List (List ℕ)} {x y : Entry} {p : Parsed} (first : List ℕ) → lines ≡ first ∷ rest → line ≡ n
    → Ok p ≡ line_of line first → Ok y ≡ entry_of p → y ≡ x → Taken n lines rest x
took {p = p} first h b r w i = record { first = first; parts = h; parsed = p; reads = rw b at (sym r); writes = sym w ∙ ap Ok i }

-- the room that is left after a line, by what it writes
abbrev room_entry : ℕ → Room → Entry → Result Room Fault
room_entry n r (entry.Lead k) = Ok r
room_entry n r (entry.Actor a) = cond (ltb 0 r.actors) (Ok (room_for (r.actors - 1) r.links)) (Err (fault refusal.NoRoom Text n))
room_entry n r (entry.Link l) = cond (ltb 0 r.links) (Ok (room_for r.actors (r.links - 1))) (Err (fault refusal.NoRoom Text n))

room_like : (n : ℕ) (r : Room) (p : Parsed) (x : Entry) → entry_of p ≡ Ok x → room_step n p r ≡ room_entry n r x
room_like n r (lead u) x q = grind arith
room_like n r (actor u v) x q = grind arith
room_like n r (link u v w) x q = grind arith

records_turn : {n : ℕ} {lines rest : List (List ℕ)} {x : Entry} (t : Taken n lines rest x) (d : Drawing)
    → over_lines add_step n d lines ≡ over_lines add_step (n + 1) (with_entry d x) rest
unfolding add_step
records_turn {n} {lines} {rest} {x} t d = rw (t.parts, t.reads, t.writes)

room_turn : {n : ℕ} {lines rest : List (List ℕ)} {x : Entry} (t : Taken n lines rest x) (r : Room)
    → over_lines room_step n r lines ≡ then (room_entry n r x) (λ s. over_lines room_step (n + 1) s rest)
room_turn {n} {lines} {rest} {x} t r = rw (t.parts, t.reads, room_like n r t.parsed x t.writes)

-- a step that was not refused
passes : {X Y : Type 0} (t : Bool) (x : X) (f : Fault) (g : X → Result Y Fault)
    → is_ok (then (cond t (Ok x) (Err f)) g) ≡ true → (t ≡ true) × (is_ok (g x) ≡ true)
passes true x f g h = (refl, h)
passes false x f g h = grind arith

abbrev pub fronts : Counts → List Actor → List Link → Drawing
fronts c actors links = drawing (take c.actors actors) (take c.links links) c.lead

-- after some lines: the fronts of the tables hold what these write, the rest is as it was, and what is left has room
pub record Filled (text : List ℕ) (actors₀ : List Actor) (links₀ : List Link) (n : ℕ) (lines : List (List ℕ)) (c : Counts) (actors : List Actor) (links : List Link) : Type 0 where
  pub records : over_lines add_step n (fronts c actors links) lines ≡ drawn text
  pub room : is_ok (over_lines room_step n (room_for (actor_room (length actors) - c.actors) (link_room (length links) - c.links)) lines) ≡ true
  pub actors_rest : drop c.actors actors ≡ drop c.actors actors₀
  pub links_rest : drop c.links links ≡ drop c.links links₀
  pub actors_within : c.actors ≤ length actors
  pub links_within : c.links ≤ length links

abbrev pub counted : ℕ → ℕ → ℕ → Counts
counted a l k = record { actors = a; links = l; lead = k }

-- one record more, where the table after it is as it was
rest_more : {X : Type 0} (xs ys : List X) (i : ℕ) (x : X) → drop i xs ≡ drop i ys → drop (i + 1) (set xs i x) ≡ drop (i + 1) ys
rest_more xs ys i x h =
    drop-set-lt (i + 1) xs i x (omega arith) ∙ sym (drop-drop 1 i xs) ∙ ap (drop 1) h ∙ drop-drop 1 i ys

module _
    {text : List ℕ}
    {actors₀ : List Actor}
    {links₀ : List Link}
    {n : ℕ}
    {lines rest : List (List ℕ)}
    {c : Counts}
    {actors : List Actor}
    {links : List Link} where
  pub filled_lead : (k : ℕ) → Taken n lines rest (entry.Lead k) → Filled text actors₀ links₀ n lines c actors links
      → Filled text actors₀ links₀ (n + 1) rest (counted c.actors c.links k) actors links
  filled_lead k t f =
      record {
        records = sym (records_turn t (fronts c actors links)) ∙ f.records;
        room = ap is_ok (sym (room_turn t _)) ∙ f.room;
        actors_rest = f.actors_rest;
        links_rest = f.links_rest;
        actors_within = f.actors_within;
        links_within = f.links_within;
      }

  -- an actor's line had room, and so has what is left
  actor_room_turn : (a : Actor) → Taken n lines rest (entry.Actor a) → Filled text actors₀ links₀ n lines c actors links
      → (ltb 0 (actor_room (length actors) - c.actors) ≡ true)
      × (is_ok
      (over_lines room_step (n + 1)
      (room_for (actor_room (length actors) - c.actors - 1) (link_room (length links) - c.links))
      rest)
      ≡ true)
  actor_room_turn a t f = passes _ _ _ _ (ap is_ok (sym (room_turn t _)) ∙ f.room)

  link_room_turn : (l : Link) → Taken n lines rest (entry.Link l) → Filled text actors₀ links₀ n lines c actors links
      → (ltb 0 (link_room (length links) - c.links) ≡ true)
      × (is_ok
      (over_lines room_step (n + 1)
      (room_for (actor_room (length actors) - c.actors) (link_room (length links) - c.links - 1))
      rest)
      ≡ true)
  link_room_turn l t f = passes _ _ _ _ (ap is_ok (sym (room_turn t _)) ∙ f.room)

  actor_place : (a : Actor) → Taken n lines rest (entry.Actor a) → Filled text actors₀ links₀ n lines c actors links
      → c.actors < length actors
  actor_place a t f = omega (arith, ltb-true _ _ (actor_room_turn a t f).0)

  link_place : (l : Link) → Taken n lines rest (entry.Link l) → Filled text actors₀ links₀ n lines c actors links
      → c.links < length links
  link_place l t f = omega (arith, ltb-true _ _ (link_room_turn l t f).0)

  pub filled_actor : (a : Actor) → Taken n lines rest (entry.Actor a) → Filled text actors₀ links₀ n lines c actors links
      → Filled text actors₀ links₀ (n + 1) rest (counted (c.actors + 1) c.links c.lead) (set actors c.actors a) links
  filled_actor a t f =
      let h : c.actors < length actors = actor_place a t f in
      let z : actor_room (length actors) - (c.actors + 1) ≡ actor_room (length actors) - c.actors - 1 = omega arith in
      record {
        records = rw (take_more_set actors c.actors a h) (sym (records_turn t (fronts c actors links)) ∙ f.records);
        room = rw (length-set, z) (actor_room_turn a t f).1;
        actors_rest = rest_more actors actors₀ c.actors a f.actors_rest;
        links_rest = f.links_rest;
        actors_within = rw length-set (omega arith);
        links_within = f.links_within;
      }

  pub filled_link : (l : Link) → Taken n lines rest (entry.Link l) → Filled text actors₀ links₀ n lines c actors links
      → Filled text actors₀ links₀ (n + 1) rest (counted c.actors (c.links + 1) c.lead) actors (set links c.links l)
  filled_link l t f =
      let h : c.links < length links = link_place l t f in
      let z : link_room (length links) - (c.links + 1) ≡ link_room (length links) - c.links - 1 = omega arith in
      record {
        records = rw (take_more_set links c.links l h) (sym (records_turn t (fronts c actors links)) ∙ f.records);
        room = rw (length-set, z) (link_room_turn l t f).1;
        actors_rest = f.actors_rest;
        links_rest = rest_more links links₀ c.links l f.links_rest;
        actors_within = f.actors_within;
        links_within = rw length-set (omega arith);
      }

module _
    {text : List ℕ}
    {actors₀ : List Actor}
    {links₀ : List Link}
    {n : ℕ}
    {lines : List (List ℕ)}
    {c : Counts}
    {actors : List Actor}
    {links : List Link} where
  -- a line that is refused in a word refuses the text
  pub stopped_entry : (line : ℕ) (first : List ℕ) (rest : List (List ℕ)) (x : Fault) (p : Parsed) → lines ≡ first ∷ rest → line ≡ n
      → Ok p ≡ line_of line first → Err x ≡ entry_of p
      → Filled text actors₀ links₀ n lines c actors links → is_ok (drawn text) ≡ true → ⊥
  unfolding add_step
  stopped_entry line first rest x p h b r k f o =
      let d : drawn text ≡ Err x = sym f.records ∙ rw (h, ← b, ← r, ← k) in
      let z : is_ok {T = Drawing} (Err x) ≡ true = rw d at o in
      true≢false (sym z)
