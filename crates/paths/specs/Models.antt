-- The two algebras that planning uses: whether there is a delay-free path, and the least delay.
use Rattle.std.specs.Prelude.{◌≡◌, ℕ, ◌+◌, ◌<◌, ◌≤◌, min, Bool, true, false, ◌&&◌, ◌||◌, ◌⊎◌, ◌==◌, refl}
use Rattle.std.proofs.Common.{ap, subst, inl, inr, ⊎_elim, arith}
use Rattle.std.proofs.Math.Bool.{or_assoc, or_comm, and_assoc, and-true, and-false, and-or_distrib_left, and-or_distrib_right}
use Rattle.std.proofs.Math.Bridge.{le_prop}
use Rattle.std.proofs.lemmas.Bool.{cases_lt}
use Rattle.paths.specs.Algebra.{Ops, Laws}
use Rattle.paths.specs.declared.reach.Reach.{Reach}
use Rattle.paths.specs.declared.delay.Delay.{Delay}

abbrev pub reach : Bool → Reach
reach b = record { yes = b }

abbrev pub reach_ops : Ops Reach
reach_ops = record {
  none = reach false;
  stay = reach true;
  choose = λ x y. reach (x.yes || y.yes);
  follow = λ x y. reach (x.yes && y.yes);
  edge = λ d. reach (d == 0);
}

one_of : (a b : Bool) → ((a || b) ≡ a) ⊎ ((a || b) ≡ b)
one_of true b = inl refl
one_of false b = inr refl

lift_one : (x y : Reach) → ((x.yes || y.yes) ≡ x.yes) ⊎ ((x.yes || y.yes) ≡ y.yes) → (reach (x.yes || y.yes) ≡ x) ⊎ (reach (x.yes || y.yes) ≡ y)
lift_one x y (inl e) = inl (ap reach e)
lift_one x y (inr e) = inr (ap reach e)

pub reach_laws : Laws reach_ops
reach_laws = record {
  choose_assoc = λ x y z. ap reach (or_assoc x.yes y.yes z.yes);
  choose_comm = λ x y. ap reach (or_comm x.yes y.yes);
  choose_one = λ x y. lift_one x y (one_of x.yes y.yes);
  follow_assoc = λ x y z. ap reach (and_assoc x.yes y.yes z.yes);
  stay_left = λ x. refl;
  stay_right = λ x. ap reach (and-true x.yes);
  none_left = λ x. refl;
  none_right = λ x. ap reach (and-false x.yes);
  none_loses = λ x. refl;
  spread_left = λ x y z. ap reach (and-or_distrib_left x.yes y.yes z.yes);
  spread_right = λ x y z. ap reach (and-or_distrib_right x.yes y.yes z.yes);
  stay_wins = λ x. refl;
}

abbrev pub delay_of : (n : ℕ) → n ≤ 4294967295 → Delay
delay_of n h = record { value = n; fits = h }

-- the value of a delay, or no path where it is no smaller than that
abbrev pub delay : ℕ → Delay
delay n = delay_of (min n 4294967295) (omega arith)

abbrev pub no_path : Delay
no_path = delay_of 4294967295 (omega arith)

abbrev pub sooner : Delay → Delay → Delay
sooner x y = let p = x.fits in delay_of (min x.value y.value) (omega arith)

abbrev pub delay_ops : Ops Delay
delay_ops = record {
  none = no_path;
  stay = delay_of 0 (omega arith);
  choose = sooner;
  follow = λ x y. delay (x.value + y.value);
  edge = delay;
}

pub same_delay : (m n : ℕ) (h : m ≤ 4294967295) (k : n ≤ 4294967295) → m ≡ n → delay_of m h ≡ delay_of n k
same_delay m n h k e =
    subst (λ (x : ℕ). (j : x ≤ 4294967295) → delay_of m h ≡ delay_of x j) e (λ j. ap (delay_of m) (le_prop h j)) k

least : (m n : ℕ) → (min m n ≡ m) ⊎ (min m n ≡ n)
least m n = ⊎_elim (λ (h : m < n). inl (omega arith)) (λ (h : n ≤ m). inr (omega arith)) (cases_lt m n)

lift_least : (x y : Delay) → (min x.value y.value ≡ x.value) ⊎ (min x.value y.value ≡ y.value) → (sooner x y ≡ x) ⊎ (sooner x y ≡ y)
lift_least x y (inl e) = inl (same_delay _ _ _ x.fits e)
lift_least x y (inr e) = inr (same_delay _ _ _ y.fits e)

pub delay_laws : Laws delay_ops
delay_laws = record {
  choose_assoc = λ x y z. same_delay _ _ _ _ (omega arith);
  choose_comm = λ x y. same_delay _ _ _ _ (omega arith);
  choose_one = λ x y. lift_least x y (least x.value y.value);
  follow_assoc = λ x y z. same_delay _ _ _ _ (omega arith);
  stay_left = λ x. let h = x.fits in same_delay _ _ _ _ (omega arith);
  stay_right = λ x. let h = x.fits in same_delay _ _ _ _ (omega arith);
  none_left = λ x. same_delay _ _ _ _ (omega arith);
  none_right = λ x. same_delay _ _ _ _ (omega arith);
  none_loses = λ x. let h = x.fits in same_delay _ _ _ _ (omega arith);
  spread_left = λ x y z. same_delay _ _ _ _ (omega arith);
  spread_right = λ x y z. same_delay _ _ _ _ (omega arith);
  stay_wins = λ x. same_delay _ _ _ _ (omega arith);
}
