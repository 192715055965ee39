-- After an accepted act a run stands as the starts and finishes with one more say.
use Rattle.std.proofs.Common.{◌≡◌, ℕ, ◌+◌, ◌<◌, Bool, true, false, eqb, List, [], ◌∷◌, ◌++◌, length, get_or, sym, ap, ◌∙◌, subst, inl, inr, ⊎_elim, arith}
use Rattle.std.proofs.lemmas.List.{length-set, get_or-set_same, get_or-set_other}
use Rattle.std.proofs.lemmas.Bool.{cases_Bool, cases_eq, not-false, ltb-true, eqb-true, eqb-false}
use Rattle.records.specs.declared.tables.Link.{Link}
use Rattle.records.specs.Tables.{processor_of}
use Rattle.waits.specs.Events.{Event, start, finish, starts, finishes}
use Rattle.waits.proofs.Counts.{once_tells, starts_start, finishes_start, starts_finish, finishes_finish}
use Rattle.guards.specs.Levels.{Level, waiting}
use Rattle.running.specs.declared.Act.{Act}
use Rattle.running.specs.declared.Act.TheVariants.{Start, Finish}
use Rattle.running.specs.declared.Entry.{Entry}
use Rattle.running.specs.Entries.{rested, entry_after}
use Rattle.running.specs.Rows.{guarded, passes}
use Rattle.running.specs.Runs.{Site, Standing, entry_at, link_at, turn_after, acted}
use Rattle.running.specs.Claims.{level_at}
use Rattle.running.proofs.Alongside.{each_long, each_at}
use Rattle.running.proofs.Successors.{turn_after_is}
use Rattle.running.proofs.WhoseTurn.{Turn, turn_started, turn_elsewhere, turn_finished, turn_of_running}
use Rattle.running.proofs.Allowing.{EntryLets, GuardLets, Allowed}
use Rattle.running.proofs.Telling.{Fits, EntryTells, GuardTells, turn_with, Tells}

-- the event that an act brings about
abbrev pub event : Act → ℕ → Event
event Start a = start a
event Finish a = finish a

abbrev pub more : List Event → Act → ℕ → List Event
more ys act a = ys ++ (event act a ∷ [])

-- it leaves the counts of other actors as they are
others : (act : Act) (ys : List Event) (a x : ℕ) → (x ≡ a → ⊥) → (starts x (more ys act a) ≡ starts x ys) × (finishes x (more ys act a) ≡ finishes x ys)
others Start ys a x ne = (simp starts_start (grind (arith, once_tells x a)), finishes_start x a ys)
others Finish ys a x ne = (starts_finish x a ys, simp finishes_finish (grind (arith, once_tells x a)))

own_entry : (act : Act) (ys : List Event) (a : ℕ) (turn : Bool) (e : Entry) → EntryTells ys a e → EntryLets act turn e → EntryTells (more ys act a) a (entry_after act e)
own_entry Start ys a turn e tells (few, own, rests) =
    let once = starts_start a a ys in let same = finishes_start a a ys in
    let was = rw rests at tells.state in
    record { begun = grind (arith, once_tells a a, tells.begun); done = omega (arith, tells.done); state = grind (arith, once_tells a a) }
own_entry Finish ys a turn e tells running =
    let once = finishes_finish a a ys in let same = starts_finish a a ys in
    let was = rw running at tells.state in
    record { begun = omega (arith, tells.begun); done = grind (arith, once_tells a a, tells.begun); state = grind (arith, once_tells a a) }

-- a guard that lets the act pass
own_guard : (act : Act) (ys : List Event) (a : ℕ) (l : Link) (x : Level) → guarded l ≡ true → GuardTells ys l x → GuardLets act a l x
    → GuardTells (more ys act a) l (passes act a l x)
own_guard Start ys a l x g tells lets =
    let same = finishes_start l.sender a ys in let once = starts_start l.receiver a ys in
    ⊎_elim
    (λ (q : eqb l.receiver a ≡ true).
    let some = ltb-true 0 x.count (not-false (waiting x) (lets g (eqb-true _ _ q))) in
    let it = eqb-true l.receiver a q in
    simp (g, q) (record { size = tells.size; count = grind (arith, once_tells l.receiver a, tells.count) }))
    (λ (q : eqb l.receiver a ≡ false).
    let other = eqb-false l.receiver a q in
    simp (g, q) (record { size = tells.size; count = grind (arith, once_tells l.receiver a, tells.count) }))
    (cases_Bool (eqb l.receiver a))
own_guard Finish ys a l x g tells lets =
    let same = starts_finish l.receiver a ys in let once = finishes_finish l.sender a ys in
    ⊎_elim
    (λ (q : eqb l.sender a ≡ true).
    let it = eqb-true l.sender a q in
    simp (g, q, lets g it) (record { size = tells.size; count = grind (arith, once_tells l.sender a, tells.count) }))
    (λ (q : eqb l.sender a ≡ false).
    let other = eqb-false l.sender a q in
    simp (g, q) (record { size = tells.size; count = grind (arith, once_tells l.sender a, tells.count) }))
    (cases_Bool (eqb l.sender a))

module _ (s : Site) (fits : Fits s) (ys : List Event) (now : Standing) (tells : Tells s ys now) (a : ℕ) where
  abbrev on : ℕ → ℕ
  on x = processor_of s.actors x

  module _ (act : Act) (lets : Allowed s now act a) where
    entries : (x : ℕ) → x < length s.actors → EntryTells (more ys act a) x (entry_at (acted s now act a) x)
    unfolding acted
    entries x h =
        ⊎_elim
        (λ (e : x ≡ a).
        let there : a < length now.entries = omega (arith, tells.entries_long, fits.few) in
        subst (λ y. EntryTells (more ys act a) y (entry_at (acted s now act a) y)) (sym e)
        (subst (EntryTells (more ys act a) a) (sym (get_or-set_same now.entries a (entry_after act (entry_at now a)) rested there))
        (own_entry act ys a _ (entry_at now a) (tells.entry a lets.below) lets.entry)))
        (λ (ne : x ≡ a → ⊥).
        let kept = others act ys a x ne in
        let was = tells.entry x h in
        subst (EntryTells (more ys act a) x) (sym (get_or-set_other now.entries a x (entry_after act (entry_at now a)) rested ne))
        (record { begun = was.begun ∙ sym kept.0; done = was.done ∙ sym kept.1; state = omega (arith, was.state) }))
        (cases_eq x a)

    guards : (i : ℕ) → i < length s.links → guarded (link_at s i) ≡ true → GuardTells (more ys act a) (link_at s i) (level_at (acted s now act a).row i)
    unfolding acted
    guards i h g =
        let there : i < length now.row = omega (arith, tells.row_long) in
        subst (GuardTells (more ys act a) (link_at s i)) (sym (each_at (passes act a) s.links now.row i h there))
        (own_guard act ys a (link_at s i) (level_at now.row i) g (tells.guard i h g) (lets.guards i h there))

    -- all but the turns
    told : length (acted s now act a).turns ≡ 16 → ((x : ℕ) → x < length s.actors → on x ≡ on (turn_with s (acted s now act a) x))
        → ((x : ℕ) → x < length s.actors → Turn s.actors (more ys act a) (turn_with s (acted s now act a) x)) → Tells s (more ys act a) (acted s now act a)
    unfolding acted
    told long same turn = record {
      sound = tells.sound;
      entries_long = length-set now.entries a _ ∙ tells.entries_long;
      turns_long = long;
      row_long = omega (arith, tells.row_long, each_long (passes act a) s.links now.row);
      entry = entries;
      same = same;
      turn = turn;
      guard = guards;
      outside = λ x h. let kept = others act ys a x (λ e. omega (arith, lets.below)) in omega (arith, tells.outside x h);
    }

  started : Allowed s now Start a → Tells s (ys ++ (start a ∷ [])) (acted s now Start a)
  unfolding acted
  started lets =
      let own = eqb-true (turn_with s now a) a lets.entry.1 in
      told Start lets tells.turns_long tells.same (λ x h.
      turn_started s.actors ys (turn_with s now x) a (tells.turn x h) (λ e. sym own ∙ ap (λ p. get_or now.turns p 0) (e ∙ sym (tells.same x h))))

  finished : Allowed s now Finish a → Tells s (ys ++ (finish a ∷ [])) (acted s now Finish a)
  unfolding acted
  finished lets =
      let h = lets.below in
      let running : starts a ys ≡ finishes a ys + 1 = rw lets.entry at (tells.entry a h).state in
      let own = turn_of_running s.actors ys (turn_with s now a) (tells.turn a h) a h (tells.same a h) running in
      let turn = turn_finished s.actors ys a (subst (Turn s.actors ys) (sym own) (tells.turn a h)) running in
      let new : (x : ℕ) → on x ≡ on a → turn_with s (acted s now Finish a) x ≡ turn_after s.actors a = λ x e.
      ap (λ p. get_or (acted s now Finish a).turns p 0) e ∙ get_or-set_same now.turns (on a) (turn_after s.actors a) 0 (omega (arith, tells.turns_long, fits.processors a h)) in
      let old : (x : ℕ) → (on x ≡ on a → ⊥) → turn_with s (acted s now Finish a) x ≡ turn_with s now x = λ x ne.
      get_or-set_other now.turns (on a) (on x) (turn_after s.actors a) 0 ne in
      told Finish lets (length-set now.turns (on a) _ ∙ tells.turns_long)
      (λ x k. ⊎_elim
      (λ (e : on x ≡ on a). e ∙ after_same ∙ ap on (sym (new x e)))
      (λ (ne : on x ≡ on a → ⊥). tells.same x k ∙ ap on (sym (old x ne)))
      (cases_eq (on x) (on a)))
      (λ x k. ⊎_elim
      (λ (e : on x ≡ on a). subst (Turn s.actors (ys ++ (finish a ∷ []))) (sym (new x e)) turn)
      (λ (ne : on x ≡ on a → ⊥).
      subst (Turn s.actors (ys ++ (finish a ∷ []))) (sym (old x ne)) (turn_elsewhere s.actors ys (turn_with s now x) a (tells.turn x k) (λ e. ne (tells.same x k ∙ sym e))))
      (cases_eq (on x) (on a)))
    where
      after_same : on a ≡ on (turn_after s.actors a)
      after_same = elim (turn_after_is s.actors a lets.below) [ inl n ↦ n.same | inr r ↦ r.same ]

  -- after an accepted act
  pub acts : (act : Act) → Allowed s now act a → Tells s (ys ++ (event act a ∷ [])) (acted s now act a)
  acts Start lets = started lets
  acts Finish lets = finished lets
