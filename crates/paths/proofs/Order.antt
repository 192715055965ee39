-- The order that a choice gives: x wins over y where the choice of x and y is x.
use Rattle.std.proofs.Common.{◌≡◌, sym, ap, ◌∙◌, ⊎_elim}
use Rattle.paths.specs.Algebra.{Ops, Laws}

abbrev pub Wins : {M : Type 0} → Ops M → M → M → Type 0
Wins o x y = o.choose x y ≡ x

module _ {M : Type 0} {o : Ops M} (laws : Laws o) where
  pub same : (x : M) → Wins o x x
  same x = ⊎_elim (λ (e : Wins o x x). e) (λ (e : Wins o x x). e) (laws.choose_one x x)

  pub goes : (x y z : M) → Wins o x y → Wins o y z → Wins o x z
  goes x y z p q = ap (λ (w : M). o.choose w z) (sym p) ∙ laws.choose_assoc x y z ∙ ap (o.choose x) q ∙ p

  pub wins_left : (x y : M) → Wins o (o.choose x y) x
  wins_left x y =
      laws.choose_comm (o.choose x y) x ∙ sym (laws.choose_assoc x x y) ∙ ap (λ (w : M). o.choose w y) (same x)

  pub wins_right : (x y : M) → Wins o (o.choose x y) y
  wins_right x y = laws.choose_assoc x y y ∙ ap (o.choose x) (same y)

  wins_choice : (z x y : M) → Wins o z x → Wins o z y → Wins o z (o.choose x y)
  wins_choice z x y p q = sym (laws.choose_assoc z x y) ∙ ap (λ (w : M). o.choose w y) p ∙ q

  pub mono_left : (x x' y : M) → Wins o x x' → Wins o (o.follow x y) (o.follow x' y)
  mono_left x x' y p = sym (laws.spread_right x x' y) ∙ ap (λ (w : M). o.follow w y) p

  pub mono_right : (x y y' : M) → Wins o y y' → Wins o (o.follow x y) (o.follow x y')
  mono_right x y y' p = sym (laws.spread_left x y y') ∙ ap (o.follow x) p

  pub mono : (x x' y y' : M) → Wins o x x' → Wins o y y' → Wins o (o.follow x y) (o.follow x' y')
  mono x x' y y' p q =
      goes (o.follow x y) (o.follow x' y) (o.follow x' y') (mono_left x x' y p) (mono_right x' y y' q)

  -- x after any y is no better than x
  pub absorbs : (x y : M) → Wins o x (o.follow y x)
  absorbs x y =
      ap (λ (z : M). o.choose z (o.follow y x)) (sym (laws.stay_left x))
      ∙ sym (laws.spread_right o.stay y x)
      ∙ ap (λ (z : M). o.follow z x) (laws.stay_wins y)
      ∙ laws.stay_left x

  -- what wins over each of the four ways of following wins over the choices followed
  pub wins_four : (z p q r s : M)
      → Wins o z (o.follow p r) → Wins o z (o.follow p s) → Wins o z (o.follow q r) → Wins o z (o.follow q s)
      → Wins o z (o.follow (o.choose p q) (o.choose r s))
  wins_four z p q r s a b c d =
      let pr = o.follow p r in let ps = o.follow p s in let qr = o.follow q r in let qs = o.follow q s in
      let e : o.follow (o.choose p q) (o.choose r s) ≡ o.choose (o.choose pr ps) (o.choose qr qs) =
      laws.spread_right p q (o.choose r s)
      ∙ ap (λ (w : M). o.choose w (o.follow q (o.choose r s))) (laws.spread_left p r s)
      ∙ ap (o.choose (o.choose pr ps)) (laws.spread_left q r s) in
      ap (o.choose z) e ∙ wins_choice z (o.choose pr ps) (o.choose qr qs) (wins_choice z pr ps a b) (wins_choice z qr qs c d)
