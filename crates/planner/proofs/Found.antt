-- Back links that are found one after the other, of which the first fifteen are kept.
use Rattle.std.proofs.Common.{◌≡◌, ℕ, zero, suc, ◌≤◌, List, [], ◌∷◌, ◌++◌, length, take, sym, refl, ap, ◌∙◌}
use Rattle.std.proofs.lemmas.List.{append_assoc, append-nil, take_all, take_at}
use Rattle.planner.specs.declared.back_links.BackLinks.{BackLinks}
use Rattle.planner.specs.Views.{listed}

-- what is kept before more comes
take_twice : {X : Type 0} (k : ℕ) (xs ys : List X) → take k (take k xs ++ ys) ≡ take k (xs ++ ys)
take_twice zero xs ys = refl
take_twice (suc k) [] ys = refl
take_twice (suc k) (x ∷ xs) ys = ap (λ l. x ∷ l) (take_twice k xs ys)

-- there is no room
pub full : {X : Type 0} (k : ℕ) (xs ys : List X) → length xs ≡ k → xs ≡ take k (xs ++ ys)
full k xs ys e = sym (take_at xs ys k e)

-- no more comes
pub none_more : {X : Type 0} (k : ℕ) (xs : List X) → length xs ≤ k → xs ≡ take k (xs ++ [])
none_more k xs h = sym (ap (take k) (append-nil xs) ∙ take_all k xs h)

pub listed_few : (b : BackLinks) → length (listed b) ≤ 15
listed_few b = b.few

-- of the whole, which comes after what was there before, the rest is still to come
pub record Finding {X : Type 0} (before whole now rest : List X) : Type 0 where
  pub kept : take 15 (now ++ rest) ≡ take 15 (before ++ whole)

pub finding_none : {X : Type 0} (before whole rest : List X) → rest ≡ whole → Finding before whole before rest
finding_none before whole rest e = record { kept = ap (λ l. take 15 (before ++ l)) e }

module _ {X : Type 0} (before whole now rest : List X) (finding : Finding before whole now rest) where
  pub finding_more : (xs ys later : List X) → rest ≡ xs ++ ys → later ≡ take 15 (now ++ xs) → Finding before whole later ys
  finding_more xs ys later split is = record {
    kept =
        ap (λ l. take 15 (l ++ ys)) is ∙ take_twice 15 (now ++ xs) ys ∙ ap (take 15) (append_assoc now xs ys)
        ∙ sym (ap (λ l. take 15 (now ++ l)) split) ∙ finding.kept;
  }

  pub finding_same : (later rest' : List X) → later ≡ now → rest' ≡ rest → Finding before whole later rest'
  finding_same later rest' a b = record { kept = ap (λ l. take 15 (l ++ rest')) a ∙ ap (λ l. take 15 (now ++ l)) b ∙ finding.kept }

  pub finding_done : rest ≡ [] → length now ≤ 15 → now ≡ take 15 (before ++ whole)
  finding_done none few = none_more 15 now few ∙ sym (ap (λ l. take 15 (now ++ l)) none) ∙ finding.kept
