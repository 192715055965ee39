-- Guards beside their links, by number: what changes each of them, and which of them fails a test.
use Rattle.std.proofs.Common.{◌≡◌, ℕ, zero, suc, ◌+◌, ◌<◌, Bool, true, false, cond, List, [], ◌∷◌, length, get_or, Some, None, Option, sym, refl, ap, ◌∙◌, ⊎_elim, arith}
use Rattle.std.proofs.lemmas.Bool.{cases_Bool, cond-true, cond-false}
use Rattle.records.specs.declared.tables.Link.{Link}
use Rattle.records.specs.Tables.{no_link}
use Rattle.guards.specs.Levels.{Level}
use Rattle.running.specs.Rows.{each, first_link}
use Rattle.running.specs.Claims.{level_at}

module _ (change : Link → Level → Level) where
  pub each_long : (ls : List Link) (row : List Level) → length (each change ls row) ≡ length row
  each_long [] row = refl
  each_long (l ∷ ls) [] = refl
  each_long (l ∷ ls) (x ∷ xs) = ap suc (each_long ls xs)

  -- the guard of link i is changed by that link
  pub each_at : (ls : List Link) (row : List Level) (i : ℕ) → i < length ls → i < length row
      → level_at (each change ls row) i ≡ change (get_or ls i no_link) (level_at row i)
  each_at [] row i h k = absurd (omega arith)
  each_at (l ∷ ls) [] i h k = absurd (omega arith)
  each_at (l ∷ ls) (x ∷ xs) zero h k = refl
  each_at (l ∷ ls) (x ∷ xs) (suc i) h k = each_at ls xs i (omega arith) (omega arith)

module _ (fails : Link → Level → Bool) where
  -- the first link does not fail, and so the first one that does is found among the others
  head_passes : (k : ℕ) (l : Link) (x : Level) (rest : Option ℕ) → cond (fails l x) (Some k) rest ≡ None → (fails l x ≡ false) × (rest ≡ None)
  head_passes k l x rest e =
      ⊎_elim
      (λ (t : fails l x ≡ true). let found = cond-true _ (Some k) rest t in let z : ◌≡◌ {A = ℕ} 0 1 = cc in absurd (omega arith))
      (λ (t : fails l x ≡ false). (t, sym (cond-false _ _ _ t) ∙ e))
      (cases_Bool (fails l x))

  -- if no first link fails, no link does
  pub none_fails : (k : ℕ) (ls : List Link) (row : List Level) → first_link fails k ls row ≡ None
      → (i : ℕ) → i < length ls → i < length row → fails (get_or ls i no_link) (level_at row i) ≡ false
  none_fails k [] row e i h r = absurd (omega arith)
  none_fails k (l ∷ ls) [] e i h r = absurd (omega arith)
  none_fails k (l ∷ ls) (x ∷ xs) e zero h r = (head_passes k l x (first_link fails (k + 1) ls xs) e).0
  none_fails k (l ∷ ls) (x ∷ xs) e (suc i) h r =
      none_fails (k + 1) ls xs (head_passes k l x (first_link fails (k + 1) ls xs) e).1 i (omega arith) (omega arith)

  -- if no link fails, no first one does
  pub fails_none : (k : ℕ) (ls : List Link) (row : List Level)
      → ((i : ℕ) → i < length ls → i < length row → fails (get_or ls i no_link) (level_at row i) ≡ false) → first_link fails k ls row ≡ None
  fails_none k [] row all = refl
  fails_none k (l ∷ ls) [] all = refl
  fails_none k (l ∷ ls) (x ∷ xs) all =
      cond-false _ _ _ (all 0 (omega arith) (omega arith))
      ∙ fails_none (k + 1) ls xs (λ i h r. all (suc i) (omega arith) (omega arith))
