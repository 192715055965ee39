-- A path need not leave an actor twice, so one of few edges has at most its delay.
use Rattle.std.proofs.Common.{◌≡◌, ℕ, zero, suc, ◌+◌, ◌-◌, ◌*◌, ◌≤◌, Bool, true, ◌⊎◌, List, refl, subst, inl, inr, add-zero, suc-mul, arith}
use Rattle.std.proofs.lemmas.Bool.{cases_eq}
use Rattle.records.specs.declared.tables.Edge.{Edge}
use Rattle.records.specs.Tables.{edge}
use Rattle.waits.specs.Counting.{count}
use Rattle.waits.specs.Events.{In, Path, last, step, Within}
use Rattle.waits.specs.Walks.{Stop, Then, Walk, Short}
use Rattle.waits.proofs.Counting.{without, without_keeps, count_without}

only_edge : (es : List Edge) (u w v d r t : ℕ) → In (edge u w d) es → Stop w v r → d + r ≡ t → Path es u v t
only_edge es u w v d r t h s q = subst (λ x. Path es u x t) s.0 (subst (λ n. Path es u w n) (omega arith) (last h))

-- an edge and a walk are a path
pub walk_path : (es : List Edge) (k u v t : ℕ) → Then es (λ w r. Walk es k w v r) u t → Path es u v t
walk_path es zero u v t (w, d, r, h, s, q) = only_edge es u w v d r t h s q
walk_path es (suc k) u v t (w, d, r, h, inl s, q) = only_edge es u w v d r t h s q
walk_path es (suc k) u v t (w, d, r, h, inr p, q) = subst (λ n. Path es u v n) q (step d h (walk_path es k w v r p))

-- any number of edges, or none, that leave only actors that pass A
data Route (es : List Edge) (A : ℕ → Bool) : ℕ → ℕ → ℕ → Type 0 where
  stay : {v : ℕ} → Route es A v v 0
  leave : {u w v t : ℕ} (d : ℕ) → A u ≡ true → In (edge u w d) es → Route es A w v t → Route es A u v (d + t)

route : {es : List Edge} {u v t : ℕ} → Path es u v t → Route es (λ _. true) u v t
route {es} {u} {v} (last {d = d} h) = subst (λ n. Route es (λ _. true) u v n) (add-zero d) (leave d refl h stay)
route (step d h p) = leave d refl h (route p)

-- a route leaves u nowhere, or there is one from u on, of at most its delay, that does not leave u again
from_last : (es : List Edge) (A : ℕ → Bool) (u : ℕ) {x v t : ℕ} → Route es A x v t
    → Route es (without A u) x v t ⊎ ((m : ℕ) × (m ≤ t) × Then es (λ w r. Route es (without A u) w v r) u m)
from_last es A u stay = inl stay
from_last es A u (leave {u = x} {w} {v} {t} d a h p) = elim (from_last es A u p) [
  | inl q ↦ elim (cases_eq x u) [
    | inl e ↦ inr (d + t, omega arith, (w, d, t, subst (λ y. In (edge y w d) es) e h, q, refl))
    | inr ne ↦ inl (leave d (without_keeps A u x a ne) h q)
  ]
  | inr c ↦ inr (c.0, omega arith, c.2)
]

count_all : (n : ℕ) → count (λ _. true) n ≡ n
count_all zero = refl
count_all (suc n) = omega (arith, count_all n)

module _ (es : List Edge) (n : ℕ) (within : Within n es) where
  -- if c actors pass the test, a route that leaves only those has a walk of at most c edges and at most its delay
  abbrev Few : ℕ → Type 0
  Few c = (A : ℕ → Bool) → count A n ≡ c → (u v t : ℕ) → Route es A u v t → (m : ℕ) × (m ≤ t) × Walk es c u v m

  few_more : (c : ℕ) → Few c → (A : ℕ → Bool) → count A n ≡ suc c → (u w v d t : ℕ) → A u ≡ true → In (edge u w d) es → Route es A w v t
      → (m : ℕ) × (m ≤ d + t) × Then es (λ x r. Walk es c x v r) u m
  few_more c few A k u w v d t a h p =
      let fewer = count_without A u n (within (edge u w d) h).0 a in
      elim (from_last es A u p) [
        | inl q ↦ let (m, l, i) = few (without A u) (omega arith) w v t q in (d + m, omega arith, (w, d, m, h, i, refl))
        | inr (m, l, (x, c', r, h', q, e)) ↦ let (m', l', i) = few (without A u) (omega arith) x v r q in (c' + m', omega arith, (x, c', m', h', i, refl))
      ]

  few : (c : ℕ) → Few c
  few zero A k _ _ _ stay = (0, omega arith, (refl, refl))
  few zero A k _ _ _ (leave {u} {w} d a h p) = let z : ⊥ = omega (arith, count_without A u n (within (edge u w d) h).0 a) in absurd z
  few (suc c) A k _ _ _ stay = (0, omega arith, inl (refl, refl))
  few (suc c) A k _ _ _ (leave {u} {w} {v} {t} d a h p) = let (m, l, i) = few_more c (few c) A k u w v d t a h p in (m, l, inr i)

  first : (u w v d t : ℕ) → In (edge u w d) es → Route es (λ _. true) w v t → (m : ℕ) × (m ≤ d + t) × Short es n u v m
  first u w v d t h p = few_more (n - 1) (few (n - 1)) (λ _. true) (omega (arith, count_all n, within (edge u w d) h)) u w v d t refl h p

  -- over edges within n actors a path has one of at most n edges and at most its delay
  pub path_few : (u v t : ℕ) → Path es u v t → (m : ℕ) × (m ≤ t) × Short es n u v m
  path_few _ _ _ (last {u} {v} {d} h) = let (m, l, i) = first u v v d 0 h stay in (m, omega arith, i)
  path_few _ _ _ (step {u} {w} {v} {t} d h p) = first u w v d t h (route p)

walk_le : (es : List Edge) (b : ℕ) → ((e : Edge) → In e es → e.delay ≤ b) → (k u v t : ℕ) → Walk es k u v t → t ≤ k * b
walk_le es b low zero u v t (e, z) = omega arith
walk_le es b low (suc k) u v t (inl (e, z)) = omega arith
walk_le es b low (suc k) u v t (inr (w, d, r, h, p, q)) = omega (arith, low (edge u w d) h, walk_le es b low k w v r p, suc-mul k b)

-- over edges within n actors and of delay at most b, a path has one of at most its delay and at most n times b
pub path_bounded : (es : List Edge) (n b : ℕ) → Within n es → ((e : Edge) → In e es → e.delay ≤ b) → {u v t : ℕ} → Path es u v t
    → (m : ℕ) × (m ≤ t) × (m ≤ n * b) × Path es u v m
path_bounded es n b within low {u} {v} {t} p =
    let (m, l, i) = path_few es n within u v t p in
    let k : suc (n - 1) ≡ n = omega (arith, within (edge u i.0 i.1) i.3) in
    (m, l, rw k at (walk_le es b low (suc (n - 1)) u v m (inr i)), walk_path es (n - 1) u v m i)
