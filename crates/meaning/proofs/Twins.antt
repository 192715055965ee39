-- Twins are equal edges, and which of them are left in without one and its later twins.
use Rattle.std.proofs.Common.{◌≡◌, ℕ, ◌<◌, true, false, ◌&&◌, eqb, leb, ap, ◌∙◌, inl, inr}
use Rattle.std.proofs.lemmas.Bool.{and_parts, and_from, and_cases, and_left, leb-false, lt-leb, eqb-true, eq-eqb, not-true, not-false, not_from_false, both_ways}
use Rattle.records.specs.declared.tables.Edge.{Edge}
use Rattle.records.specs.Tables.{edge}
use Rattle.planning.specs.Edges.{twins}
use Rattle.meaning.proofs.Chosen.{stays}

pub same_edge : (e f : Edge) → e.sender ≡ f.sender → e.receiver ≡ f.receiver → e.delay ≡ f.delay → e ≡ f
same_edge e f s r d =
    ap (λ x. edge x e.receiver e.delay) s ∙ ap (λ x. edge f.sender x e.delay) r ∙ ap (edge f.sender f.receiver) d

pub twins_same : (e f : Edge) → twins e f ≡ true → e ≡ f
twins_same e f t =
    let (s, rest) = and_parts (eqb e.sender f.sender) (eqb e.receiver f.receiver && eqb e.delay f.delay) t in
    let (r, d) = and_parts (eqb e.receiver f.receiver) (eqb e.delay f.delay) rest in
    same_edge e f (eqb-true e.sender f.sender s) (eqb-true e.receiver f.receiver r) (eqb-true e.delay f.delay d)

pub same_twins : (e f : Edge) → e ≡ f → twins e f ≡ true
same_twins e f q =
    and_from (eqb e.sender f.sender) (eqb e.receiver f.receiver && eqb e.delay f.delay) (eq-eqb e.sender f.sender (cc))
    (and_from (eqb e.receiver f.receiver) (eqb e.delay f.delay) (eq-eqb e.receiver f.receiver (cc)) (eq-eqb e.delay f.delay (cc)))

module _ (i : ℕ) (e : Edge) (j : ℕ) (f : Edge) where
  pub lower_stays : j < i → stays i e j f ≡ true
  lower_stays l = not_from_false (leb i j && twins e f) (and_left (leb i j) (twins e f) (lt-leb i j l))

  pub twin_is_lower : stays i e j f ≡ true → e ≡ f → j < i
  twin_is_lower t q = elim (and_cases (leb i j) (twins e f) (not-true (leb i j && twins e f) t)) [
    | inl a ↦ leb-false i j a
    | inr b ↦ absurd (both_ways (twins e f) b (same_twins e f q))
  ]

  pub gone_is_twin : stays i e j f ≡ false → e ≡ f
  gone_is_twin t = twins_same e f (and_parts (leb i j) (twins e f) (not-false (leb i j && twins e f) t)).1
