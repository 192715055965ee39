-- Lists whose elements have different images.
use Rattle.std.proofs.Common.{◌≡◌, List, [], ◌∷◌, ◌++◌, sym, refl, ap, ◌∙◌, inl, inr}
use Rattle.meaning.proofs.Rising.{Has, has-++, has_right}

abbrev pub Distinct : {X Y : Type 0} → (X → Y) → List X → Type 0
Distinct f [] = Unit {0}
Distinct f (x ∷ xs) = ((y : _) → Has y xs → f x ≡ f y → ⊥) × Distinct f xs

module _ {X Y : Type 0} (f : X → Y) where
  pub distinct-++ : (xs ys : List X) → Distinct f xs → Distinct f ys → ((x y : X) → Has x xs → Has y ys → f x ≡ f y → ⊥) → Distinct f (xs ++ ys)
  distinct-++ [] ys d e apart = e
  distinct-++ (x ∷ xs) ys d e apart = (
    (λ y h q. elim (has-++ y xs ys h) [ inl l ↦ d.0 y l q | inr r ↦ apart x y (inl refl) r q ]),
    distinct-++ xs ys d.1 e (λ z y h k. apart z y (inr h) k),
  )

  -- no other place has the image of x
  pub distinct_split : (xs ys : List X) (x : X) → Distinct f (xs ++ (x ∷ ys)) → (y : X) → Has y (xs ++ ys) → f x ≡ f y → ⊥
  distinct_split [] ys x d y h q = d.0 y h q
  distinct_split (z ∷ xs) ys x d y (inl e) q = d.0 x (has_right x xs (x ∷ ys) (inl refl)) (ap f (sym e) ∙ sym q)
  distinct_split (z ∷ xs) ys x d y (inr h) q = distinct_split xs ys x d.1 y h q
