-- Over live edges, ranks that rise along every edge of delay 0.
use Rattle.std.proofs.Common.{◌≡◌, ℕ, ◌<◌, Bool, true, eqb, List, subst, inl, inr, arith}
use Rattle.std.proofs.lemmas.Bool.{cases_Bool, eqb-true, eq-eqb}
use Rattle.records.specs.declared.tables.Edge.{Edge}
use Rattle.records.specs.Tables.{edge}
use Rattle.waits.specs.Counting.{count}
use Rattle.waits.specs.Events.{In, Path, last, Live, Within}
use Rattle.waits.proofs.Counting.{count_lt}
use Rattle.waits.proofs.Paths.{path_joined}
use Rattle.waits.proofs.Least.{least_delay, capped, capped_le, capped_found}

-- whether x has a path of delay 0 to y
leads : List Edge → ℕ → ℕ → Bool
leads es y x = eqb (capped 1 (least_delay es x y)) 0

leads_path : (es : List Edge) (x y : ℕ) → leads es y x ≡ true → Path es x y 0
unfolding leads
leads_path es x y h =
    let l = least_delay es x y in
    let (d, b, p) = capped_found 1 l (omega (arith, eqb-true (capped 1 l) 0 h)) in
    subst (λ t. Path es x y t) (omega arith) p

path_leads : (es : List Edge) (x y : ℕ) → Path es x y 0 → leads es y x ≡ true
unfolding leads
path_leads es x y p = let l = least_delay es x y in eq-eqb (capped 1 l) 0 (omega (arith, capped_le 1 l 0 p))

-- how many actors below n have a path of delay 0 to y
pub rank : List Edge → ℕ → ℕ → ℕ
rank es n y = count (leads es y) n

pub rank_rises : (es : List Edge) (n : ℕ) → Live es → Within n es → (u v : ℕ) → In (edge u v 0) es → rank es n u < rank es n v
unfolding rank
rank_rises es n live within u v h = count_lt (leads es u) (leads es v) (λ x t. path_leads es x v (path_joined (leads_path es x u t) (last h)))
    u (elim (cases_Bool (leads es u u)) [ inl t ↦ absurd (live u (leads_path es u u t)) | inr f ↦ f ]) (path_leads es u v (last h))
    n (within (edge u v 0) h).0
