-- Lines that are taken: their number grows by no more than the bytes that are left shrink.
use Rattle.std.proofs.Common.{◌≡◌, ℕ, ◌+◌, ◌<◌, ◌≤◌, true, false, cond, eqb, List, [], ◌∷◌, ◌++◌, length, Some, None, Option, sym, refl, ap, subst, ◌∙◌, arith}
use Rattle.std.proofs.lemmas.List.{length-append}
use Rattle.std.specs.Borrow.{Bor}
use Rattle.std.specs.Iterator.{Yields, YieldsThen}
use Rattle.std.specs.List.{concat}
use Rattle.reader.specs.Lines.{onto, cut, lines_left, number_next, text_left, TakesLine}
use Rattle.reader.specs.declared.lines.Lines.{Lines}

whole_onto : (b : ℕ) (ls : List (List ℕ)) → concat (onto b ls) ≡ b ∷ concat ls
whole_onto b [] = refl
whole_onto b (l ∷ ls) = refl

-- the lines of a text make it
whole : (text : List ℕ) → concat (cut text) ≡ text
whole [] = refl
whole (b ∷ bs) =
    elim (eqb b 10) as (λ t. concat (cond t ((b ∷ []) ∷ cut bs) (onto b (cut bs))) ≡ b ∷ bs)
    [ true ↦ ap (λ (l : List ℕ). b ∷ l) (whole bs) | false ↦ whole_onto b (cut bs) ∙ ap (λ (l : List ℕ). b ∷ l) (whole bs) ]

abbrev Begun : List (List ℕ) → Type 0
Begun [] = Unit {0}
Begun (l ∷ ls) = 0 < length l

begun_onto : (b : ℕ) (ls : List (List ℕ)) → Begun (onto b ls)
begun_onto b [] = omega arith
begun_onto b (l ∷ ls) = omega arith

-- a line has a byte
begun : (text : List ℕ) → Begun (cut text)
begun [] = tt
begun (b ∷ bs) =
    elim (eqb b 10) as (λ t. Begun (cond t ((b ∷ []) ∷ cut bs) (onto b (cut bs))))
    [ true ↦ omega arith | false ↦ begun_onto b (cut bs) ]

abbrev pub reached : Lines → ℕ
reached l = number_next l + length (text_left l)

line_taken : (s : Lines) (x : ℕ × Bor (List ℕ)) (t : Lines) → TakesLine s (Some x) t → reached t ≤ reached s
line_taken s x t h =
    let some : 0 < length x.1.now = subst Begun h.0 (begun (text_left s)) in
    let parts : text_left s ≡ x.1.now ++ concat (lines_left t) = sym (whole (text_left s)) ∙ ap concat h.0 in
    omega (arith, h.2, some, ap length parts, length-append x.1.now (concat (lines_left t)), ap length (whole (text_left t)))

end_taken : (s t : Lines) → TakesLine s None t → reached t ≤ reached s
end_taken s t h =
    let none : text_left t ≡ [] = sym (whole (text_left t)) ∙ ap concat h.1 in
    omega (arith, h.2, ap length none)

taken : (s : Lines) (o : Option (ℕ × Bor (List ℕ))) (t : Lines) → TakesLine s o t → reached t ≤ reached s
taken s None t h = end_taken s t h
taken s (Some x) t h = line_taken s x t h

all_taken : (s : Lines) (xs : List (ℕ × Bor (List ℕ))) (t : Lines) → Yields TakesLine s xs t → reached t ≤ reached s
all_taken s [] t h = rw h (omega arith)
all_taken s (x ∷ xs) t (j, first, more) = omega (arith, all_taken j xs t more, line_taken s x j first)

-- after any calls
pub then_taken : (s : Lines) (xs : List (ℕ × Bor (List ℕ))) (o : Option (ℕ × Bor (List ℕ))) (u : Lines) → YieldsThen TakesLine s xs o u
    → reached u ≤ reached s
then_taken s xs o u (t, all, last) = omega (arith, all_taken s xs t all, taken t o u last)
