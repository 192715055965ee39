-- While targets are not reached, and no actor has to finish first, some actor can start.
use Rattle.std.proofs.Common.{◌≡◌, ℕ, zero, suc, ◌+◌, ◌<◌, ◌≤◌, ◌⊎◌, List, [], ◌∷◌, sym, refl, subst, inl, inr, arith}
use Rattle.std.proofs.lemmas.Bool.{cases_eq, cases_lt}
use Rattle.records.specs.declared.tables.Edge.{Edge}
use Rattle.records.specs.Tables.{edge}
use Rattle.waits.specs.Events.{In, Live, Within}
use Rattle.waits.proofs.Ranks.{rank, rank_rises}

-- one of the edges has P, or all have Q
some_edge : (P Q : Edge → Type 0) → ((e : Edge) → P e ⊎ Q e) → (es : List Edge) → ((e : Edge) × In e es × P e) ⊎ ((e : Edge) → In e es → Q e)
some_edge P Q either [] = inr (λ e h. absurd h)
some_edge P Q either (f ∷ es) = elim (either f) [
  | inl p ↦ inl (f, inl refl, p)
  | inr q ↦ elim (some_edge P Q either es) [
    | inl (e, h, p) ↦ inl (e, inr h, p)
    | inr all ↦ inr (λ e h. elim h [ inl s ↦ subst Q (sym s) q | inr i ↦ all e i ])
  ]
]

-- s and f are the targets for starts and finishes, p and q the starts and finishes so far
module _ (es : List Edge) (n : ℕ) (live : Live es) (within : Within n es) (s f : ℕ → ℕ)
    (near : (x : ℕ) → (f x ≤ s x) × (s x ≤ f x + 1)) (room : (e : Edge) → In e es → s e.receiver ≤ f e.sender + e.delay)
    (p q : ℕ → ℕ) (lawful : (x : ℕ) → (q x ≤ p x) × (p x ≤ q x + 1)) (quiet : (x : ℕ) → x < n → q x < f x → p x ≤ q x) where
  -- an actor that has to start, does not run, and waits for nothing
  abbrev Ready : Type 0
  Ready = (z : ℕ) × (z < n) × (p z < s z) × (p z ≤ q z) × ((e : Edge) → In e es → e.receiver ≡ z → p z + 1 ≤ q e.sender + e.delay)

  idle : (y : ℕ) → y < n → p y < s y → p y ≤ q y
  idle y h late = elim (cases_lt (q y) (f y)) [ inl a ↦ quiet y h a | inr b ↦ omega (arith, near y) ]

  holds_up : (y : ℕ) (e : Edge) → ((e.receiver ≡ y) × (q e.sender + e.delay < p y + 1)) ⊎ (e.receiver ≡ y → p y + 1 ≤ q e.sender + e.delay)
  holds_up y e = elim (cases_lt (q e.sender + e.delay) (p y + 1)) [
    | inr l ↦ inr (λ r. l)
    | inl l ↦ elim (cases_eq e.receiver y) [ inl r ↦ inl (r, l) | inr other ↦ inr (λ r. absurd (other r)) ]
  ]

  -- the sender of an edge that holds up a late actor is late too, and it has started less often or is of lower rank
  back : (c : ℕ) → ((y : ℕ) → y < n → p y < c → p y < s y → Ready) → (m y : ℕ) → rank es n y < m → y < n → p y ≤ c → p y < s y → Ready
  back c fewer zero y low h l late = let z : ⊥ = omega arith in absurd z
  back c fewer (suc m) y low h l late = elim (some_edge _ _ (holds_up y) es) [
    | inr free ↦ (y, h, late, idle y h late, free)
    | inl (e, i, (r, short)) ↦
        let x = e.sender in
        let wide : s y ≤ f x + e.delay = rw r at (room e i) in
        let xn = (within e i).0 in
        let still = quiet x xn (omega arith) in
        let late' : p x < s x = omega (arith, near x) in
        elim (cases_eq e.delay 0) [
          | inl d ↦
              let up : rank es n x < rank es n y = rw r at (rank_rises es n live within x e.receiver (subst (λ k. In (edge x e.receiver k) es) d i)) in
              back c fewer m x (omega arith) xn (omega arith) late'
          | inr d ↦ fewer x xn (omega arith) late'
        ]
  ]

  ready_below : (c y : ℕ) → y < n → p y < c → p y < s y → Ready
  ready_below zero y h l late = let z : ⊥ = omega arith in absurd z
  ready_below (suc c) y h l late = back c (ready_below c) (suc (rank es n y)) y (omega arith) h (omega arith) late

  -- if an actor is late, some late actor can start
  pub ready : (y : ℕ) → y < n → p y < s y → Ready
  ready y h late = ready_below (suc (p y)) y h (omega arith) late
