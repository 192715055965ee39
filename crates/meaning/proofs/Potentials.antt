-- A number for each actor that falls along no old edge and rises along each new one that is delay-free.
use Rattle.std.proofs.Common.{◌≡◌, ℕ, ◌<◌, ◌≤◌, ◌⊎◌, List, ◌++◌, refl, inl, inr, arith}
use Rattle.records.specs.declared.tables.Edge.{Edge}
use Rattle.records.specs.Tables.{edge}
use Rattle.waits.specs.Events.{In, Path, last, step, Live}
use Rattle.waits.proofs.Paths.{in-++}

module _ (es fs : List Edge) (height : ℕ → ℕ)
    (keeps : (e : Edge) → In e es → height e.sender ≤ height e.receiver)
    (rises : (e : Edge) → In e fs → e.delay ≡ 0 → height e.sender < height e.receiver) where
  free_edge : (u v d : ℕ) → In (edge u v d) (es ++ fs) → d ≡ 0 → (In (edge u v d) es × (height u ≤ height v)) ⊎ (height u < height v)
  free_edge u v d i z = elim (in-++ (edge u v d) es fs i) [
    | inl old ↦ inl (old, keeps (edge u v d) old)
    | inr new ↦ inr (rises (edge u v d) new z)
  ]

  free_rises : {u v t : ℕ} → Path (es ++ fs) u v t → t ≡ 0 → (Path es u v t × (height u ≤ height v)) ⊎ (height u < height v)
  free_rises (last {u} {v} {d} i) z = elim (free_edge u v d i z) [ inl (old, l) ↦ inl (last old, l) | inr l ↦ inr l ]
  free_rises (step {u} {w} {v} {t} d i p) z = elim (free_edge u w d i (omega arith)) [
    | inl (old, l) ↦ elim (free_rises p (omega arith)) [
      | inl (q, m) ↦ inl (step d old q, omega arith)
      | inr m ↦ inr (omega arith)
    ]
    | inr l ↦ elim (free_rises p (omega arith)) [
      | inl (q, m) ↦ inr (omega arith)
      | inr m ↦ inr (omega arith)
    ]
  ]

  -- one between actors of one height is a path over the old edges
  level_path : {u v : ℕ} → Path (es ++ fs) u v 0 → height u ≡ height v → Path es u v 0
  level_path {u} {v} p e = elim (free_rises p refl) [ inl (q, m) ↦ q | inr m ↦ absurd (omega arith) ]

  -- the new edges create no delay-free cycle
  pub live_with : Live es → Live (es ++ fs)
  live_with live u p = live u (level_path p refl)
