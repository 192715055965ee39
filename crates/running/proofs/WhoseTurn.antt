-- What the counts of starts and finishes are on a processor where it is a given actor's turn.
use Rattle.std.proofs.Common.{◌≡◌, ℕ, ◌+◌, ◌<◌, ◌≤◌, ◌⊎◌, List, [], ◌∷◌, ◌++◌, length, sym, refl, ap, ◌∙◌, inl, inr, ⊎_elim, arith}
use Rattle.std.proofs.lemmas.Bool.{cases_lt, cases_eq}
use Rattle.records.specs.declared.tables.Actor.{Actor}
use Rattle.records.specs.declared.tables.Edge.{Edge}
use Rattle.records.specs.Tables.{processor_of}
use Rattle.waits.specs.Events.{Event, start, finish, starts, finishes, Next, Round, Order}
use Rattle.waits.proofs.Counts.{once_tells, starts_start, finishes_start, starts_finish, finishes_finish}
use Rattle.waits.proofs.Prefixes.{LawfulNow, ObeysNow}
use Rattle.running.specs.Runs.{turn_after}
use Rattle.running.proofs.Successors.{First, turn_after_is}

module _ (actors : List Actor) where
  abbrev on : ℕ → ℕ
  on x = processor_of actors x

  -- it is the turn of t: those before it on its processor are one finish ahead, and nobody else there runs
  pub record Turn (ys : List Event) (t : ℕ) : Type 0 where
    pub below : t < length actors
    pub earlier : (x : ℕ) → x < t → processor_of actors x ≡ processor_of actors t → finishes x ys ≡ finishes t ys + 1
    pub later : (x : ℕ) → t ≤ x → x < length actors → processor_of actors x ≡ processor_of actors t → finishes x ys ≡ finishes t ys
    pub idle : (x : ℕ) → x < length actors → processor_of actors x ≡ processor_of actors t → (x ≡ t → ⊥) → starts x ys ≡ finishes x ys

  -- at first
  pub turn_at_first : (f : ℕ) → First actors f → Turn [] f
  turn_at_first f first = record {
    below = first.below;
    earlier = λ x l e. absurd (omega (arith, first.lowest x (omega (arith, first.below)) e));
    later = λ x l h e. refl;
    idle = λ x h e ne. refl;
  }

  -- an actor starts that is on another processor, or whose turn it is
  pub turn_started : (ys : List Event) (t a : ℕ) → Turn ys t → (on a ≡ on t → a ≡ t) → Turn (ys ++ (start a ∷ [])) t
  turn_started ys t a turn own = record {
    below = turn.below;
    earlier = λ x l e. let w = turn.earlier x l e in simp (finishes_start) w;
    later = λ x l h e. let w = turn.later x l h e in simp (finishes_start) w;
    idle = λ x h e ne.
        let w = turn.idle x h e ne in
        let apart : x ≡ a → ⊥ = λ q. ne (q ∙ own (sym (ap on q) ∙ e)) in
        simp (starts_start, finishes_start) (grind (arith, once_tells x a));
  }

  -- an actor on another processor finishes
  pub turn_elsewhere : (ys : List Event) (t a : ℕ) → Turn ys t → (on a ≡ on t → ⊥) → Turn (ys ++ (finish a ∷ [])) t
  turn_elsewhere ys t a turn elsewhere =
      let apart : (x : ℕ) → on x ≡ on t → finishes x (ys ++ (finish a ∷ [])) ≡ finishes x ys = λ x e.
      let ne : x ≡ a → ⊥ = λ q. elsewhere (sym (ap on q) ∙ e) in
      simp finishes_finish (grind (arith, once_tells x a)) in
      record {
        below = turn.below;
        earlier = λ x l e. omega (arith, apart x e, apart t refl, turn.earlier x l e);
        later = λ x l h e. omega (arith, apart x e, apart t refl, turn.later x l h e);
        idle = λ x h e ne. omega (arith, apart x e, starts_finish x a ys, turn.idle x h e ne);
      }

  module _ (ys : List Event) (a : ℕ) (turn : Turn ys a) (running : starts a ys ≡ finishes a ys + 1) where
    now : List Event
    now = ys ++ (finish a ∷ [])

    -- who has the old turn has finished once more
    finished : (x : ℕ) → ((x ≡ a) × (finishes x now ≡ finishes a ys + 1) × (starts x now ≡ finishes a ys + 1))
        ⊎ ((x ≡ a → ⊥) × (finishes x now ≡ finishes x ys) × (starts x now ≡ starts x ys))
    unfolding now
    finished x =
        ⊎_elim
        (λ (e : x ≡ a). inl (e, simp (e, finishes_finish) (grind (arith, once_tells a a)), simp (e, starts_finish) running))
        (λ (ne : x ≡ a → ⊥). inr (ne, simp finishes_finish (grind (arith, once_tells x a)), starts_finish x a ys))
        (cases_eq x a)

    rests : (x : ℕ) → x < length actors → on x ≡ on a → starts x now ≡ finishes x now
    rests x h e = elim (finished x) [ inl f ↦ omega arith | inr f ↦ omega (arith, turn.idle x h e f.0) ]

    -- up to the old turn all are one finish ahead
    ahead : (x : ℕ) → x ≤ a → on x ≡ on a → finishes x now ≡ finishes a ys + 1
    ahead x l e = elim (finished x) [
      | inl f ↦ f.1
      | inr f ↦ let lt : x < a = elim (cases_lt x a) [ inl k ↦ k | inr k ↦ absurd (f.0 (omega arith)) ] in omega (arith, turn.earlier x lt e)
    ]

    -- after it nobody is
    behind : (x : ℕ) → a < x → x < length actors → on x ≡ on a → finishes x now ≡ finishes a ys
    behind x l h e = elim (finished x) [ inl f ↦ absurd (omega arith) | inr f ↦ omega (arith, turn.later x (omega arith) h e) ]

    next_turn : (b : ℕ) → Next actors a b → Turn now b
    next_turn b n = record {
      below = n.below;
      earlier = λ x l e. elim (cases_lt a x) [
        | inl k ↦ absurd (n.between x k l e)
        | inr k ↦ omega (arith, ahead x k (e ∙ sym n.same), behind b n.later n.below (sym n.same))
      ];
      later = λ x l h e. omega (arith, behind x (omega (arith, n.later)) h (e ∙ sym n.same), behind b n.later n.below (sym n.same));
      idle = λ x h e ne. rests x h (e ∙ sym n.same);
    }

    first_again : (b : ℕ) → Round actors a b → Turn now b
    first_again b r = record {
      below = r.first_below;
      earlier = λ x l e. absurd (omega (arith, r.ends x (omega (arith, r.first_below)) e));
      later = λ x l h e. omega (arith, ahead x (r.ends x h e).1 (e ∙ sym r.same), ahead b (r.ends b r.first_below refl).1 (sym r.same));
      idle = λ x h e ne. rests x h (e ∙ sym r.same);
    }

    -- it finishes, and it is the turn of the actor after it
    pub turn_finished : Turn (ys ++ (finish a ∷ [])) (turn_after actors a)
    unfolding now
    turn_finished = elim (turn_after_is actors a turn.below) [ inl n ↦ next_turn (turn_after actors a) n | inr r ↦ first_again (turn_after actors a) r ]

  module _ (ys : List Event) (t : ℕ) (turn : Turn ys t) where
    -- the processor's order is obeyed
    pub turn_obeys : (e : Edge) → Order actors e → on e.receiver ≡ on t → LawfulNow e.receiver ys → ObeysNow e ys
    turn_obeys e (inl (n, zero)) same lawful =
        let u_same = n.same ∙ same in
        ⊎_elim
        (λ (v : e.receiver ≡ t).
        let is = ap (λ x. finishes x ys) v in
        omega (arith, turn.earlier e.sender (omega (arith, n.later)) u_same))
        (λ (ne : e.receiver ≡ t → ⊥).
        let quiet = turn.idle e.receiver n.below same ne in
        ⊎_elim
        (λ (l : e.receiver < t). omega (arith, turn.earlier e.receiver l same, turn.earlier e.sender (omega (arith, n.later)) u_same))
        (λ (l : t ≤ e.receiver).
        ⊎_elim
        (λ (k : e.sender < t). omega (arith, turn.later e.receiver l n.below same, turn.earlier e.sender k u_same))
        (λ (k : t ≤ e.sender).
        omega (arith, turn.later e.receiver l n.below same, turn.later e.sender k (omega (arith, n.later, n.below)) u_same))
        (cases_lt e.sender t))
        (cases_lt e.receiver t))
        (cases_eq e.receiver t)
    turn_obeys e (inr (r, one)) same lawful =
        let last_same = r.same ∙ same in
        let end = r.ends t turn.below (sym same) in
        let behind = turn.later e.sender end.1 r.last_below last_same in
        ⊎_elim
        (λ (v : e.receiver ≡ t). let is = ap (λ x. finishes x ys) v in omega arith)
        (λ (ne : e.receiver ≡ t → ⊥).
        ⊎_elim
        (λ (l : e.receiver < t). omega (arith, turn.idle e.receiver r.first_below same ne, turn.earlier e.receiver l same))
        (λ (l : t ≤ e.receiver). absurd (ne (omega arith)))
        (cases_lt e.receiver t))
        (cases_eq e.receiver t)

    -- an actor that rests and may start by its processor's order has the turn
    pub turn_of_ready : (a : ℕ) → a < length actors → on a ≡ on t → starts a ys ≡ finishes a ys
        → (t < a → starts a ys + 1 ≤ finishes t ys) → starts a ys ≤ finishes t ys → a ≡ t
    turn_of_ready a h same rests after round =
        ⊎_elim
        (λ (l : a < t). absurd (omega (arith, turn.earlier a l same)))
        (λ (l : t ≤ a).
        ⊎_elim
        (λ (k : t < a). absurd (omega (arith, turn.later a l h same, after k)))
        (λ (k : a ≤ t). omega arith)
        (cases_lt t a))
        (cases_lt a t)

    -- an actor that runs has the turn
    pub turn_of_running : (a : ℕ) → a < length actors → on a ≡ on t → starts a ys ≡ finishes a ys + 1 → a ≡ t
    turn_of_running a h same runs = elim (cases_eq a t) [ inl e ↦ e | inr ne ↦ absurd (omega (arith, turn.idle a h same ne)) ]
