-- Where a line ends, and the lines of what is left of a text.
use Rattle.std.proofs.Common.{◌≡◌, ℕ, zero, suc, ◌+◌, ◌-◌, ◌<◌, ◌==◌, min, true, false, cond, eqb, List, [], ◌∷◌, ◌++◌, length, take, drop, sym, refl, ap, subst, ◌∙◌, arith}
use Rattle.std.specs.List.{IsFirstMatchOrLen, enumerate_from}
use Rattle.std.proofs.lemmas.List.{take_rest}
use Rattle.std.proofs.Math.Seq.{drop-append_seam}
use Rattle.std.proofs.lemmas.Bool.{cond-true, cond-false}
use Rattle.std.proofs.lemmas.Iterator.{YieldsList}
use Rattle.std.proofs.lemmas.Iterator.Consumers.{YieldsList-from_shown}
use Rattle.reader.specs.Lines.{onto, cut, lines_left, number_next, TakesLine}
use Rattle.reader.specs.declared.lines.Lines.{Lines}

-- the first line ends at the first line feed, and the others are those of the rest
cut_part : (x r : List ℕ) (i : ℕ) → length x ≡ min (i + 1) (length (x ++ r)) → IsFirstMatchOrLen (λ b. b == 10) (x ++ r) i
    → 0 < length (x ++ r) → cut (x ++ r) ≡ x ∷ cut r
cut_part [] r i n f h = absurd (omega arith)
cut_part (b ∷ []) [] i n f h =
    elim (eqb b 10) as (λ t. cond t ((b ∷ []) ∷ []) (onto b []) ≡ (b ∷ []) ∷ []) [ true ↦ refl | false ↦ refl ]
cut_part (b ∷ []) (d ∷ ds) i n f h =
    let z : i ≡ 0 = omega arith in
    let e : eqb b 10 ≡ true = rw z at (f.1 (omega arith) 0) in
    cond-true _ _ _ e
cut_part (b ∷ d ∷ ds) r zero n f h = absurd (omega arith)
cut_part (b ∷ d ∷ ds) r (suc i) n f h =
    let e : eqb b 10 ≡ false = f.0 0 0 (omega arith) (omega arith) in
    let m : cut (d ∷ ds ++ r) ≡ (d ∷ ds) ∷ cut r
    = cut_part (d ∷ ds) r i (omega arith) (λ k q l u. f.0 (suc k) q (omega arith) (omega arith), λ l. f.1 (omega arith)) (omega arith) in
    cond-false _ _ _ e ∙ ap (onto b) m

-- the same, of what code cuts off
pub cut_next : (xs whole x r : List ℕ) (i : ℕ) → whole ≡ xs → whole ≡ x ++ r → length x ≡ min (i + 1) (length whole)
    → IsFirstMatchOrLen (λ b. b == 10) whole i → 0 < length whole
    → cut xs ≡ x ∷ cut (take (length xs - length x) (drop (length x) xs))
cut_next xs whole x r i w q n f h =
    let m : cut (x ++ r) ≡ x ∷ cut r
    = cut_part x r i (rw q at n) (subst (λ (l : List ℕ). IsFirstMatchOrLen (λ b. b == 10) l i) q f) (rw q at h) in
    let v : xs ≡ x ++ r = sym w ∙ q in
    let d : take (length xs - length x) (drop (length x) xs) ≡ r = rw (take_rest xs (length x), v) (drop-append_seam x r) in
    ap cut v ∙ m ∙ ap (λ (l : List ℕ). x ∷ cut l) (sym d)

first_numbered : (n k m : ℕ) (lines rest : List (List ℕ)) (first : List ℕ) → lines ≡ first ∷ rest → k ≡ n → m ≡ n + 1
    → enumerate_from n lines ≡ (k, first) ∷ enumerate_from m rest
first_numbered n k m lines rest first h a b = rw (h, a, b)

-- what a chain over lines is given
pub YieldsList-from_lines : (s : Lines)
    → YieldsList TakesLine (λ x. (x.0, x.1.now)) s (enumerate_from (number_next s) (lines_left s))
YieldsList-from_lines s =
    YieldsList-from_shown TakesLine (λ x. (x.0, x.1.now)) (λ l. enumerate_from (number_next l) (lines_left l))
    (λ s t h. rw h.0) (λ s x t h. first_numbered _ _ _ _ _ _ h.0 h.1 h.2) s
