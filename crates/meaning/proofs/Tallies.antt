-- Tests on the numbers below a bound: all pass, one fails, the lowest that passes, and how many pass.
use Rattle.std.proofs.Common.{◌≡◌, ℕ, zero, suc, ◌+◌, ◌<◌, ◌≤◌, Bool, true, false, cond, not, Decides, sym, refl, ap, ◌∙◌, subst, inl, inr, ⊎_elim, add-zero, zero-add, add-one, arith}
use Rattle.std.proofs.lemmas.Bool.{cases_Bool, cases_lt, cases_eq, and_parts, and_from, and_cases, both_ways, not-true, not-false, not_from_false, cond_both, false≢true}
use Rattle.planning.specs.Groups.{all_below}
use Rattle.waits.specs.Counting.{count}
use Rattle.waits.proofs.Counting.{without, without_keeps, count_without, counting}

-- tests of every number below k
pub below_decides : (test : ℕ → Bool) (P : ℕ → Type 0) (k : ℕ) → ((w : ℕ) → w < k → Decides (test w) (P w)) → Decides (all_below test k) ((w : ℕ) → w < k → P w)
below_decides test P zero each = (λ _ w h. absurd (omega arith), λ _. refl)
below_decides test P (suc k) each =
    let rest = below_decides test P k (λ w h. each w (omega arith)) in (
      λ t w h. elim (cases_eq w k) [
        | inl e ↦ subst P (sym e) ((each k (omega arith)).0 (and_parts _ _ t).0)
        | inr ne ↦ rest.0 (and_parts _ _ t).1 w (omega arith)
      ],
      λ all. and_from _ _ ((each k (omega arith)).1 (all k (omega arith))) (rest.1 (λ w h. all w (omega arith))),
    )

pub one_fails : (test : ℕ → Bool) (k : ℕ) → all_below test k ≡ false → (w : ℕ) × (w < k) × (test w ≡ false)
one_fails test zero f = absurd (false≢true (sym f))
one_fails test (suc k) f = elim (and_cases _ _ f) [
  | inl here ↦ (k, omega arith, here)
  | inr before ↦ let (w, l, t) = one_fails test k before in (w, omega arith, t)
]

-- the lowest number that passes, or k where none below k does
abbrev pub lowest : (ℕ → Bool) → ℕ → ℕ
lowest p zero = 0
lowest p (suc k) = cond (all_below (λ i. not (p i)) k) k (lowest p k)

pub record Found (p : ℕ → Bool) (k m : ℕ) : Type 0 where
  pub below : m < k
  pub passes : p m ≡ true
  pub low : (i : ℕ) → p i ≡ true → m ≤ i

pub lowest_found : (p : ℕ → Bool) (k i : ℕ) → i < k → p i ≡ true → Found p k (lowest p k)
lowest_found p zero i h t = absurd (omega arith)
lowest_found p (suc k) i h t = cond_both (all_below (λ j. not (p j)) k) k (lowest p k) (λ m. Found p (suc k) m)
    (λ (none : all_below (λ j. not (p j)) k ≡ true).
    let fails : (j : ℕ) → j < k → p j ≡ false = λ j l. (below_decides (λ j. not (p j)) (λ j. p j ≡ false) k (λ j _. (not-true (p j), not_from_false (p j)))).0 none j l in
    let high : (j : ℕ) → p j ≡ true → k ≤ j = λ j y. ⊎_elim (λ (l : j < k). absurd (both_ways (p j) (fails j l) y)) (λ (l : k ≤ j). l) (cases_lt j k) in
    let e : i ≡ k = omega (arith, high i t) in
    record { below = omega arith; passes = ap p (sym e) ∙ t; low = high })
    (λ (some : all_below (λ j. not (p j)) k ≡ false).
    let w = one_fails (λ j. not (p j)) k some in
    let r = lowest_found p k w.0 w.1 (not-false (p w.0) w.2) in
    record { below = omega (arith, r.below); passes = r.passes; low = r.low })

-- as many pass p as pass q, or fewer, where all that pass p pass q
pub count_le : (p q : ℕ → Bool) (n : ℕ) → ((i : ℕ) → i < n → p i ≡ true → q i ≡ true) → count p n ≤ count q n
count_le p q n h = counting p q (λ i. i) n n (λ i l t. (i, l, h i l t, refl))

-- fewer where one passes q alone
pub count_less : (p q : ℕ → Bool) (n : ℕ) → ((i : ℕ) → i < n → p i ≡ true → q i ≡ true) → (a : ℕ) → a < n → (p a ≡ true → ⊥) → q a ≡ true → count p n < count q n
count_less p q n h a l f t =
    omega (arith, count_without q a n l t, count_le p (without q a) n (λ i l y. without_keeps q a i (h i l y) (λ e. f (ap p (sym e) ∙ y))))

pub count_some : (p : ℕ → Bool) (n i : ℕ) → i < n → p i ≡ true → 1 ≤ count p n
count_some p n i l t = omega (arith, count_without p i n l t)

pub count_at_most : (p : ℕ → Bool) (n : ℕ) → count p n ≤ n
count_at_most p zero = omega arith
count_at_most p (suc n) = let i = count_at_most p n in cond_both (p n) 1 0 (λ x. x + count p n ≤ suc n) (λ t. omega arith) (λ t. omega arith)

-- two tests that no number passes both, and a test that is passed with either
pub count_both : (p q o : ℕ → Bool) (n : ℕ) → ((i : ℕ) → i < n → p i ≡ true → o i ≡ true) → ((i : ℕ) → i < n → q i ≡ true → o i ≡ true)
    → ((i : ℕ) → i < n → p i ≡ true → q i ≡ true → ⊥) → count p n + count q n ≤ count o n
count_both p q o zero a b c = omega arith
count_both p q o (suc k) a b c =
    let i = count_both p q o k (λ i l. a i (omega arith)) (λ i l. b i (omega arith)) (λ i l. c i (omega arith)) in
    ⊎_elim
    (λ (t : p k ≡ true). let s = a k (omega arith) t in
    ⊎_elim (λ (y : q k ≡ true). absurd (c k (omega arith) t y)) (λ (f : q k ≡ false). rw (t, f, s) (omega arith)) (cases_Bool (q k)))
    (λ (t : p k ≡ false).
    ⊎_elim (λ (y : q k ≡ true). let s = b k (omega arith) y in rw (t, y, s) (omega arith)) (λ (f : q k ≡ false). rw (t, f) (omega arith)) (cases_Bool (q k)))
    (cases_Bool (p k))

-- the numbers from a on, k of them, that pass
abbrev pub count_from : (ℕ → Bool) → ℕ → ℕ → ℕ
count_from p a zero = 0
count_from p a (suc k) = cond (p a) 1 0 + count_from p (a + 1) k

count_from_past : (p : ℕ → Bool) (a k : ℕ) → count_from p a k + count p a ≡ count p (a + k)
count_from_past p a zero = let e = ap (λ m. count p m) (add-zero a) in omega arith
count_from_past p a (suc k) =
    let i = count_from_past p (suc a) k in
    let e : suc a + k ≡ a + suc k = omega arith in
    let c = ap (λ m. count p m) e in
    let d = ap (λ m. count_from p m k) (add-one a) in
    omega arith

pub count_from_start : (p : ℕ → Bool) (n : ℕ) → count_from p 0 n ≡ count p n
count_from_start p n = let c = count_from_past p 0 n in let e = ap (λ m. count p m) (zero-add n) in omega arith

-- one more at most passes p than q where all but r that pass p pass q
pub count_but_one : (p q : ℕ → Bool) (r n : ℕ) → ((i : ℕ) → i < n → p i ≡ true → (i ≡ r → ⊥) → q i ≡ true) → count p n ≤ count q n + 1
count_but_one p q r zero h = omega arith
count_but_one p q r (suc k) h =
    let one : (c : Bool) → cond c 1 0 ≤ 1 = λ c. cond_both c 1 0 (λ x. x ≤ 1) (λ t. omega arith) (λ t. omega arith) in
    ⊎_elim
    (λ (e : k ≡ r). let i = count_le p q k (λ i l t. h i (omega arith) t (λ z. omega arith)) in omega (arith, one (p k)))
    (λ (ne : k ≡ r → ⊥).
    let i = count_but_one p q r k (λ i l t. h i (omega arith) t) in
    ⊎_elim (λ (t : p k ≡ true). rw (t, h k (omega arith) t ne) (omega arith)) (λ (t : p k ≡ false). rw t (omega arith)) (cases_Bool (p k)))
    (cases_eq k r)
