-- Least numbers, and the least delay of a path.
use Rattle.std.proofs.Common.{◌≡◌, ℕ, zero, suc, ◌+◌, ◌-◌, ◌<◌, ◌≤◌, min, ◌⊎◌, List, [], ◌∷◌, sym, refl, ap, subst, inl, inr, arith}
use Rattle.std.proofs.lemmas.Bool.{cases_eq, cases_lt}
use Rattle.records.specs.declared.tables.Edge.{Edge}
use Rattle.records.specs.Tables.{edge}
use Rattle.waits.specs.Events.{Path}
use Rattle.waits.proofs.Ends.{above_ends, within_above}
use Rattle.waits.specs.Walks.{Then, Stop, Walk}
use Rattle.waits.proofs.Shorter.{walk_path, path_few}

-- the least number with P, or that none has it
abbrev pub Least : (ℕ → Type 0) → Type 0
Least P = ((d : ℕ) × P d × ((e : ℕ) → P e → d ≤ e)) ⊎ ((e : ℕ) → P e → ⊥)

-- where Q follows from P, and at or below a number with Q there is one with P, both have the same least number
least_like : {P Q : ℕ → Type 0} → ((e : ℕ) → P e → Q e) → ((e : ℕ) → Q e → (d : ℕ) × (d ≤ e) × P d) → Least P → Least Q
least_like to from (inl (d, p, low)) = inl (d, to d p, λ e q. let (c, l, p') = from e q in omega (arith, low c p'))
least_like to from (inr none) = inr (λ e q. let (c, l, p) = from e q in none c p)

least_either : {P Q : ℕ → Type 0} → Least P → Least Q → Least (λ d. P d ⊎ Q d)
least_either (inl (a, p, low)) (inl (b, q, low')) = elim (cases_lt a b) [
  | inl l ↦ inl (a, inl p, λ e r. elim r [ inl p' ↦ low e p' | inr q' ↦ omega (arith, low' e q') ])
  | inr l ↦ inl (b, inr q, λ e r. elim r [ inl p' ↦ omega (arith, low e p') | inr q' ↦ low' e q' ])
]
least_either (inl (a, p, low)) (inr none) = inl (a, inl p, λ e r. elim r [ inl p' ↦ low e p' | inr q ↦ absurd (none e q) ])
least_either (inr none) (inl (b, q, low)) = inl (b, inr q, λ e r. elim r [ inl p ↦ absurd (none e p) | inr q' ↦ low e q' ])
least_either (inr none) (inr none') = inr (λ e r. elim r [ inl p ↦ none e p | inr q ↦ none' e q ])

least_if : {A : Type 0} {P : ℕ → Type 0} → A ⊎ (A → ⊥) → Least P → Least (λ t. A × P t)
least_if (inl a) (inl (d, p, low)) = inl (d, (a, p), λ e q. low e q.1)
least_if (inl a) (inr none) = inr (λ e q. none e q.1)
least_if (inr never) _ = inr (λ e q. never q.0)

least_plus : {P : ℕ → Type 0} (c : ℕ) → Least P → Least (λ t. (r : ℕ) × P r × (c + r ≡ t))
least_plus c (inl (d, p, low)) = inl (c + d, (d, p, refl), λ e q. omega (arith, low q.0 q.1, q.2))
least_plus c (inr none) = inr (λ e q. none q.0 q.1)

-- an edge from u, which is f, and then what P allows
abbrev From : (ℕ → ℕ → Type 0) → ℕ → Edge → ℕ → Type 0
From P u f t = (f.sender ≡ u) × ((r : ℕ) × P f.receiver r × (f.delay + r ≡ t))

least_then : (P : ℕ → ℕ → Type 0) → ((w : ℕ) → Least (P w)) → (es : List Edge) (u : ℕ) → Least (λ t. Then es P u t)
least_then P least [] u = inr (λ e q. q.3)
least_then P least (f ∷ es) u = least_like (λ t q. elim q [ inl h ↦ here t h | inr (w, d, r, h, p, e) ↦ (w, d, r, inr h, p, e) ]) (λ t q. (t, omega arith, back t q))
    (least_either (least_if (cases_eq f.sender u) (least_plus f.delay (least f.receiver))) (least_then P least es u))
  where
    here : (t : ℕ) → From P u f t → Then (f ∷ es) P u t
    here t (e, (r, p, q)) = (f.receiver, f.delay, r, inl (ap (λ x. edge x f.receiver f.delay) (sym e)), p, q)

    back : (t : ℕ) → Then (f ∷ es) P u t → From P u f t ⊎ Then es P u t
    back t (w, d, r, inl e, p, q) = inl (subst (λ x. From P u x t) e (refl, (r, p, q)))
    back t (w, d, r, inr h, p, q) = inr (w, d, r, h, p, q)

least_stop : (u v : ℕ) → Least (λ t. Stop u v t)
least_stop u v = least_if (cases_eq u v) (inl (0, refl, λ e q. omega arith))

least_walk : (es : List Edge) (k u v : ℕ) → Least (λ t. Walk es k u v t)
least_walk es zero u v = least_stop u v
least_walk es (suc k) u v = least_either (least_stop u v) (least_then (λ w r. Walk es k w v r) (λ w. least_walk es k w v) es u)

-- some path from u to v has the least total delay, or there is none
pub least_delay : (es : List Edge) (u v : ℕ) → ((d : ℕ) × Path es u v d × ((e : ℕ) → Path es u v e → d ≤ e)) ⊎ ((e : ℕ) → Path es u v e → ⊥)
least_delay es u v =
    let n = above_ends es in
    least_like {P = λ t. Then es (λ w r. Walk es (n - 1) w v r) u t} {Q = λ t. Path es u v t}
    (λ t p. walk_path es (n - 1) u v t p) (λ t p. path_few es n (within_above es n (omega arith)) u v t p)
    (least_then (λ w r. Walk es (n - 1) w v r) (λ w. least_walk es (n - 1) w v) es u)

-- the least number with P, or c if that is less or there is none
pub capped : {P : ℕ → Type 0} → ℕ → Least P → ℕ
capped c (inl (d, p, low)) = min d c
capped c (inr none) = c

capped_cap : {P : ℕ → Type 0} (c : ℕ) (l : Least P) → capped c l ≤ c
unfolding capped
capped_cap c (inl l) = omega arith
capped_cap c (inr none) = omega arith

pub capped_le : {P : ℕ → Type 0} (c : ℕ) (l : Least P) (d : ℕ) → P d → capped c l ≤ d
unfolding capped
capped_le c (inl (a, p, low)) d q = omega (arith, low d q)
capped_le c (inr none) d q = absurd (none d q)

pub capped_step : {P Q : ℕ → Type 0} (c : ℕ) (l : Least P) (m : Least Q) (d : ℕ) → ((a : ℕ) → P a → Q (a + d)) → capped c m ≤ capped c l + d
unfolding capped
capped_step c (inl (a, p, low)) m d h = omega (arith, capped_cap c m, capped_le c m (a + d) (h a p))
capped_step c (inr none) m d h = omega (arith, capped_cap c m)

pub capped_found : {P : ℕ → Type 0} (c : ℕ) (l : Least P) → capped c l < c → (d : ℕ) × (d < c) × P d
unfolding capped
capped_found c (inl (d, p, low)) h = (d, omega arith, p)
capped_found c (inr none) h = let z : ⊥ = omega arith in absurd z
