-- What an algebra of paths is: its values and operations, and the laws that it keeps.
use Rattle.std.specs.Prelude.{◌≡◌, ℕ, ◌⊎◌}

pub record Ops (M : Type 0) : Type 0 where
  -- no path
  pub none : M
  -- the path of no edge
  pub stay : M
  -- the better of two paths
  pub choose : M → M → M
  -- one path after another
  pub follow : M → M → M
  -- a single edge, by its delay
  pub edge : ℕ → M

pub record Laws {M : Type 0} (o : Ops M) : Type 0 where
  pub choose_assoc : (x y z : M) → o.choose (o.choose x y) z ≡ o.choose x (o.choose y z)
  pub choose_comm : (x y : M) → o.choose x y ≡ o.choose y x
  pub choose_one : (x y : M) → (o.choose x y ≡ x) ⊎ (o.choose x y ≡ y)
  pub follow_assoc : (x y z : M) → o.follow (o.follow x y) z ≡ o.follow x (o.follow y z)
  pub stay_left : (x : M) → o.follow o.stay x ≡ x
  pub stay_right : (x : M) → o.follow x o.stay ≡ x
  pub none_left : (x : M) → o.follow o.none x ≡ o.none
  pub none_right : (x : M) → o.follow x o.none ≡ o.none
  pub none_loses : (x : M) → o.choose o.none x ≡ x
  pub spread_left : (x y z : M) → o.follow x (o.choose y z) ≡ o.choose (o.follow x y) (o.follow x z)
  pub spread_right : (x y z : M) → o.follow (o.choose x y) z ≡ o.choose (o.follow x z) (o.follow y z)
  pub stay_wins : (x : M) → o.choose o.stay x ≡ o.stay
