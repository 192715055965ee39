-- Who reaches whom, by the table of least delays: exactly where there is a path.
use Rattle.std.proofs.Common.{◌≡◌, ℕ, ◌<◌, ◌≤◌, true, List, arith}
use Rattle.std.proofs.lemmas.Nat.{mul-le}
use Rattle.std.proofs.lemmas.Bool.{ltb-true, lt-ltb}
use Rattle.records.specs.declared.tables.Edge.{Edge}
use Rattle.waits.specs.Events.{In, Within, Path}
use Rattle.waits.proofs.Shorter.{path_bounded}
use Rattle.planning.specs.Groups.{reaches}
use Rattle.planning.specs.Tables.{least_delays}
use Rattle.meaning.proofs.Delays.{least, least_low, least_attained}

-- edges between few actors, with short delays
pub record Small (n : ℕ) (es : List Edge) : Type 0 where
  pub few : n ≤ 64
  pub within : Within n es
  pub short : (e : Edge) → In e es → e.delay ≤ 1000

module _ (n : ℕ) (es : List Edge) (small : Small n es) (u v : ℕ) (hu : u < n) (hv : v < n) where
  -- a least delay that is a number is at most 64,000
  pub least_small : {t : ℕ} → Path es u v t → least n es small.within u v ≤ 64000
  least_small p =
      let q = path_bounded es n 1000 small.within small.short p in
      omega (arith, least_low n es small.within hu hv q.3, q.2, mul-le n 1000 64 1000 small.few (omega arith))

  pub reaches_path : reaches n (least_delays n es) u v ≡ true → Path es u v (least n es small.within u v)
  reaches_path t = least_attained n es small.within u v hu hv (ltb-true _ 4294967295 t)

  pub path_reaches : {t : ℕ} → Path es u v t → reaches n (least_delays n es) u v ≡ true
  path_reaches p = lt-ltb (least n es small.within u v) 4294967295 (omega (arith, least_small p))
