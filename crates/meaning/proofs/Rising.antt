-- Members of lists, and rising lists of numbers: their first, their last and what follows what.
use Rattle.std.proofs.Common.{◌≡◌, ℕ, zero, suc, ◌+◌, ◌<◌, ◌≤◌, ◌⊎◌, List, [], ◌∷◌, ◌++◌, map, length, get_or, refl, ap, inl, inr, arith}
use Rattle.std.specs.List.{range_with_len}
use Rattle.std.proofs.lemmas.Bool.{cases_order}
use Rattle.records.specs.declared.tables.Edge.{Edge}
use Rattle.waits.specs.Events.{In}
use Rattle.planning.specs.Backs.{first_or, last_or}
use Rattle.meaning.specs.Components.{Among, Rises}

abbrev pub Has : {X : Type 0} → X → List X → Type 0
Has x [] = ⊥
Has x (y ∷ ys) = (x ≡ y) ⊎ Has x ys

pub has-++ : {X : Type 0} (x : X) (xs ys : List X) → Has x (xs ++ ys) → Has x xs ⊎ Has x ys
has-++ x [] ys h = inr h
has-++ x (y ∷ xs) ys (inl e) = inl (inl e)
has-++ x (y ∷ xs) ys (inr h) = elim (has-++ x xs ys h) [ inl l ↦ inl (inr l) | inr r ↦ inr r ]

pub has_left : {X : Type 0} (x : X) (xs ys : List X) → Has x xs → Has x (xs ++ ys)
has_left x [] ys h = absurd h
has_left x (y ∷ xs) ys (inl e) = inl e
has_left x (y ∷ xs) ys (inr h) = inr (has_left x xs ys h)

pub has_right : {X : Type 0} (x : X) (xs ys : List X) → Has x ys → Has x (xs ++ ys)
has_right x [] ys h = h
has_right x (y ∷ xs) ys h = inr (has_right x xs ys h)

pub has_at : {X : Type 0} (d : X) (xs : List X) (k : ℕ) → k < length xs → Has (get_or xs k d) xs
has_at d [] k h = absurd (omega arith)
has_at d (x ∷ xs) zero h = inl refl
has_at d (x ∷ xs) (suc k) h = inr (has_at d xs k (omega arith))

pub has_map : {X : Type 0} (f : X → Edge) (xs : List X) (x : X) → Has x xs → In (f x) (map f xs)
has_map f [] x h = absurd h
has_map f (y ∷ xs) x (inl q) = inl (ap f q)
has_map f (y ∷ xs) x (inr h) = inr (has_map f xs x h)

pub map_has : {X : Type 0} (f : X → Edge) (xs : List X) (e : Edge) → In e (map f xs) → (x : X) × Has x xs × (e ≡ f x)
map_has f [] e i = absurd i
map_has f (x ∷ xs) e (inl q) = (x, inl refl, q)
map_has f (x ∷ xs) e (inr i) = let r = map_has f xs e i in (r.0, inr r.1, r.2)

pub has_counting : (a k i : ℕ) → a ≤ i → i < a + k → Has i (range_with_len a k)
has_counting a zero i lo hi = absurd (omega arith)
has_counting a (suc k) i lo hi = elim (cases_order i a) [
  | inl e ↦ inl e
  | inr (inl l) ↦ absurd (omega arith)
  | inr (inr l) ↦ inr (has_counting (a + 1) k i (omega arith) (omega arith))
]

pub counting_has : (a k i : ℕ) → Has i (range_with_len a k) → (a ≤ i) × (i < a + k)
counting_has a zero i h = absurd h
counting_has a (suc k) i (inl e) = omega arith
counting_has a (suc k) i (inr h) = omega (arith, counting_has (a + 1) k i h)

pub has_among : (u : ℕ) (us : List ℕ) → Has u us → Among u us
has_among u [] h = absurd h
has_among u (v ∷ us) (inl e) = inl e
has_among u (v ∷ us) (inr h) = inr (has_among u us h)

pub among_has : (u : ℕ) (us : List ℕ) → Among u us → Has u us
among_has u [] h = absurd h
among_has u (v ∷ us) (inl e) = inl e
among_has u (v ∷ us) (inr h) = inr (among_has u us h)

-- the first of a rising list is its lowest
pub rises_low : (x : ℕ) (xs : List ℕ) → Rises (x ∷ xs) → (y : ℕ) → Has y (x ∷ xs) → x ≤ y
rises_low x xs r y (inl e) = omega arith
rises_low x xs r y (inr h) = omega (arith, r.0 y (has_among y xs h))

-- w follows directly on u
abbrev pub Next : ℕ → ℕ → List ℕ → Type 0
Next u w [] = ⊥
Next u w (x ∷ []) = ⊥
Next u w (x ∷ y ∷ xs) = ((u ≡ x) × (w ≡ y)) ⊎ Next u w (y ∷ xs)

pub next_has : (u w : ℕ) (xs : List ℕ) → Next u w xs → Has u xs × Has w xs
next_has u w [] h = absurd h
next_has u w (x ∷ []) h = absurd h
next_has u w (x ∷ y ∷ xs) (inl e) = (inl e.0, inr (inl e.1))
next_has u w (x ∷ y ∷ xs) (inr h) = let r = next_has u w (y ∷ xs) h in (inr r.0, inr r.1)

pub next_rises : (u w : ℕ) (xs : List ℕ) → Rises xs → Next u w xs → u < w
next_rises u w [] r h = absurd h
next_rises u w (x ∷ []) r h = absurd h
next_rises u w (x ∷ y ∷ xs) r (inl e) = omega (arith, r.0 y (inl refl), e.0, e.1)
next_rises u w (x ∷ y ∷ xs) r (inr h) = next_rises u w (y ∷ xs) r.1 h

-- nothing lies between u and what follows directly on it
pub next_apart : (u w : ℕ) (xs : List ℕ) → Rises xs → Next u w xs → (x : ℕ) → Has x xs → (x ≤ u) ⊎ (w ≤ x)
next_apart u w [] r h x i = absurd h
next_apart u w (y ∷ []) r h x i = absurd h
next_apart u w (y ∷ z ∷ xs) r (inl e) x (inl q) = inl (omega (arith, e.0))
next_apart u w (y ∷ z ∷ xs) r (inl e) x (inr i) = inr (omega (arith, e.1, rises_low z xs r.1 x i))
next_apart u w (y ∷ z ∷ xs) r (inr h) x (inl q) = inl (omega (arith, r.0 u (has_among u (z ∷ xs) (next_has u w (z ∷ xs) h).0)))
next_apart u w (y ∷ z ∷ xs) r (inr h) x (inr i) = next_apart u w (z ∷ xs) r.1 h x i

module _ (xs : List ℕ) (r : Rises xs) where
  pub one_before : (u v w : ℕ) → Next u w xs → Next v w xs → u ≡ v
  one_before u v w h k =
      let p = next_rises u w xs r h in let q = next_rises v w xs r k in
      let i = next_apart u w xs r h v (next_has v w xs k).0 in
      let j = next_apart v w xs r k u (next_has u w xs h).0 in
      elim i [
        | inl l ↦ elim j [ inl m ↦ omega arith | inr m ↦ omega arith ]
        | inr l ↦ omega arith
      ]

  pub one_after : (u v w : ℕ) → Next u v xs → Next u w xs → v ≡ w
  one_after u v w h k =
      let p = next_rises u v xs r h in let q = next_rises u w xs r k in
      let i = next_apart u v xs r h w (next_has u w xs k).1 in
      let j = next_apart u w xs r k v (next_has u v xs h).1 in
      elim i [
        | inl l ↦ omega arith
        | inr l ↦ elim j [ inl m ↦ omega arith | inr m ↦ omega arith ]
      ]

pub first_has : (p x : ℕ) (xs : List ℕ) → Has x xs → Has (first_or p xs) xs
first_has p x [] h = absurd h
first_has p x (y ∷ xs) h = inl refl

pub last_has : (p x : ℕ) (xs : List ℕ) → Has x xs → Has (last_or p xs) xs
last_has p x [] h = absurd h
last_has p x (y ∷ []) h = inl refl
last_has p x (y ∷ z ∷ xs) h = inr (last_has y z (z ∷ xs) (inl refl))

pub first_lowest : (p x : ℕ) (xs : List ℕ) → Rises xs → Has x xs → first_or p xs ≤ x
first_lowest p x [] r h = absurd h
first_lowest p x (y ∷ xs) r h = rises_low y xs r x h

pub last_highest : (p x : ℕ) (xs : List ℕ) → Rises xs → Has x xs → x ≤ last_or p xs
last_highest p x [] r h = absurd h
last_highest p x (y ∷ []) r (inl e) = omega arith
last_highest p x (y ∷ []) r (inr h) = absurd h
last_highest p x (y ∷ z ∷ xs) r (inl e) = omega (arith, r.0 z (inl refl), last_highest y z (z ∷ xs) r.1 (inl refl))
last_highest p x (y ∷ z ∷ xs) r (inr h) = last_highest y x (z ∷ xs) r.1 h
