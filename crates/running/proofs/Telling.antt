-- A run stands as the starts and finishes accepted so far say; then they are lawful and obey the orders and guarded links.
use Rattle.std.proofs.Common.{◌≡◌, ℕ, ◌+◌, ◌<◌, ◌≤◌, true, cond, List, [], length, get_or, None, sym, refl, ap, ◌∙◌, subst, inl, inr, ⊎_elim, arith}
use Rattle.std.proofs.lemmas.List.FromFn.{length-map-range_with_len, get_or-map-range_with_len}
use Rattle.std.proofs.lemmas.List.{length-replicate, get_or-replicate}
use Rattle.std.proofs.lemmas.Bool.{cases_Bool, cases_lt, cond-true}
use Rattle.records.specs.declared.tables.Edge.{Edge}
use Rattle.records.specs.declared.tables.Link.{Link}
use Rattle.records.specs.Tables.{link_edge, processor_of}
use Rattle.waits.specs.Events.{Event, starts, finishes, Order}
use Rattle.waits.proofs.Prefixes.{LawfulNow, ObeysNow}
use Rattle.guards.specs.Levels.{Level}
use Rattle.running.specs.declared.Entry.{Entry}
use Rattle.running.specs.Entries.{rested, runs}
use Rattle.running.specs.Rows.{each, guarded, set_up}
use Rattle.running.specs.Runs.{Site, Standing, standing, first_turn, first_turns, all_rested, entry_at, link_at}
use Rattle.running.specs.Claims.{level_at}
use Rattle.running.proofs.Alongside.{each_long, each_at}
use Rattle.running.proofs.Successors.{first_turn_is}
use Rattle.running.proofs.WhoseTurn.{Turn, turn_at_first, turn_obeys}

-- the actors of a site fit into the tables of a run
pub record Fits (s : Site) : Type 0 where
  pub few : length s.actors ≤ 64
  pub processors : (x : ℕ) → x < length s.actors → processor_of s.actors x < 16

pub record EntryTells (ys : List Event) (a : ℕ) (e : Entry) : Type 0 where
  pub begun : e.starts ≡ starts a ys
  pub done : e.finishes ≡ finishes a ys
  pub state : starts a ys ≡ finishes a ys + cond (runs e.state) 1 0

pub record GuardTells (ys : List Event) (l : Link) (x : Level) : Type 0 where
  pub size : x.size ≡ l.size
  pub count : x.count + starts l.receiver ys ≡ l.delay + finishes l.sender ys

-- whose turn it is on the processor of actor x
abbrev pub turn_with : Site → Standing → ℕ → ℕ
turn_with s now x = get_or now.turns (processor_of s.actors x) 0

pub record Tells (s : Site) (ys : List Event) (now : Standing) : Type 0 where
  pub sound : now.fault ≡ None
  pub entries_long : length now.entries ≡ 64
  pub turns_long : length now.turns ≡ 16
  pub row_long : length s.links ≤ length now.row
  pub entry : (a : ℕ) → a < length s.actors → EntryTells ys a (entry_at now a)
  pub same : (x : ℕ) → x < length s.actors → processor_of s.actors x ≡ processor_of s.actors (turn_with s now x)
  pub turn : (x : ℕ) → x < length s.actors → Turn s.actors ys (turn_with s now x)
  pub guard : (i : ℕ) → i < length s.links → guarded (link_at s i) ≡ true → GuardTells ys (link_at s i) (level_at now.row i)
  pub outside : (x : ℕ) → length s.actors ≤ x → (starts x ys ≡ 0) × (finishes x ys ≡ 0)

-- what the counts obey then
pub record Right (s : Site) (ys : List Event) : Type 0 where
  pub lawful : (a : ℕ) → LawfulNow a ys
  pub orders : (e : Edge) → Order s.actors e → ObeysNow e ys
  pub links : (i : ℕ) → i < length s.links → guarded (link_at s i) ≡ true → ObeysNow (link_edge (link_at s i)) ys

pub right : (s : Site) (ys : List Event) (now : Standing) → Tells s ys now → Right s ys
right s ys now tells =
    let lawful : (a : ℕ) → LawfulNow a ys = λ a.
    ⊎_elim
    (λ (l : a < length s.actors).
    let e = tells.entry a l in
    elim (cases_Bool (runs (entry_at now a).state)) [ inl t ↦ (let w = simp t at e.state in omega arith) | inr t ↦ (let w = simp t at e.state in omega arith) ])
    (λ (l : length s.actors ≤ a). omega (arith, tells.outside a l))
    (cases_lt a (length s.actors)) in
    record {
      lawful = lawful;
      orders = λ e o.
          let h = receiver_below e o in
          turn_obeys s.actors ys (turn_with s now e.receiver) (tells.turn e.receiver h) e o (tells.same e.receiver h) (lawful e.receiver);
      links = λ i h g. omega (arith, (tells.guard i h g).count);
    }
  where
    receiver_below : (e : Edge) → Order s.actors e → e.receiver < length s.actors
    receiver_below e o = elim o [ inl n ↦ n.0.below | inr r ↦ r.0.first_below ]

-- at opening
pub tells_at_first : (s : Site) (row : List Level) → Fits s → length s.links ≤ length row
    → Tells s [] (standing None all_rested (first_turns s.actors) (each set_up s.links row))
tells_at_first s row fits long =
    let first : (x : ℕ) → x < length s.actors → get_or (first_turns s.actors) (processor_of s.actors x) 0 ≡ first_turn s.actors (processor_of s.actors x) = λ x h.
    get_or-map-range_with_len (first_turn s.actors) 0 16 (processor_of s.actors x) (processor_of s.actors x) 0 (fits.processors x h) (omega arith) in
    record {
      sound = refl;
      entries_long = length-replicate 64 rested;
      turns_long = length-map-range_with_len (first_turn s.actors) 0 16;
      row_long = omega (arith, each_long set_up s.links row);
      entry = λ a h. subst (EntryTells [] a) (sym (get_or-replicate 64 a rested rested (omega (arith, fits.few)))) (record { begun = refl; done = refl; state = omega arith });
      same = λ x h. sym (ap (processor_of s.actors) (first x h) ∙ (first_turn_is s.actors x h).1);
      turn = λ x h. subst (Turn s.actors []) (sym (first x h)) (turn_at_first s.actors _ (first_turn_is s.actors x h).0);
      guard = λ i h g.
          subst (GuardTells [] (link_at s i)) (sym (each_at set_up s.links row i h (omega arith) ∙ cond-true _ _ _ g)) (record { size = refl; count = omega arith });
      outside = λ x h. (refl, refl);
    }
