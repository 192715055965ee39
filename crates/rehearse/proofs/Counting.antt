-- What a link holds, one step after the other.
use Rattle.std.proofs.Common.{◌≡◌, ℕ, ◌+◌, ◌<◌, ◌≤◌, max, Bool, true, false, cond, List, [], ◌∷◌, ◌++◌, length, get_or, take, sym, ap, ◌∙◌, subst, ⊎_elim, arith, length-append, take_all}
use native.Mathlib.Nat.{le-max_left, le-max_right, max-eq_left, max-eq_right}
use lib.Seq.{take-append-le}
use Rattle.std.proofs.lemmas.List.{take_more}
use Rattle.std.proofs.lemmas.Bool.{cases_lt}
use Rattle.records.specs.declared.tables.Link.{Link}
use Rattle.running.specs.declared.Answer.TheVariants.{Open}
use Rattle.running.specs.declared.Call.TheVariants.{Start}
use Rattle.running.specs.declared.Step.{Step}
use Rattle.rehearse.specs.Holding.{count, held_after, Most}

count_push : (f : Step → Bool) (xs : List Step) (x : Step) → count f (xs ++ x ∷ []) ≡ count f xs + cond (f x) 1 0
count_push f [] x = omega arith
count_push f (y ∷ ys) x = omega (arith, count_push f ys x)

pub count_most : (f : Step → Bool) (xs : List Step) → count f xs ≤ length xs
count_most f [] = omega arith
count_most f (y ∷ ys) =
    elim (f y) as (λ b. cond b 1 0 + count f ys ≤ length (y ∷ ys)) [
      | true ↦ omega (arith, count_most f ys)
      | false ↦ omega (arith, count_most f ys)
    ]

count_more : (f : Step → Bool) (xs : List Step) (i : ℕ) (d : Step) → i < length xs
    → count f (take (i + 1) xs) ≡ count f (take i xs) + cond (f (get_or xs i d)) 1 0
count_more f xs i d h = ap (count f) (take_more xs i d h) ∙ count_push f (take i xs) (get_or xs i d)

pub counted : (f : Step → Bool) (xs : List Step) (i : ℕ) (d : Step) → i < length xs → true ≡ f (get_or xs i d)
    → count f (take (i + 1) xs) ≡ count f (take i xs) + 1
counted f xs i d h e =
    count_more f xs i d h ∙ ap (λ (b : Bool). count f (take i xs) + cond b 1 0) (sym e)

pub passed_over : (f : Step → Bool) (xs : List Step) (i : ℕ) (d : Step) → i < length xs → false ≡ f (get_or xs i d)
    → count f (take (i + 1) xs) ≡ count f (take i xs) + 0
passed_over f xs i d h e =
    count_more f xs i d h ∙ ap (λ (b : Bool). count f (take i xs) + cond b 1 0) (sym e)

never_more_push : (link : Link) (xs : List Step) (x : Step) (m : ℕ) → Most link xs m
    → (k : ℕ) → k ≤ length (xs ++ x ∷ [])
    → held_after link (take k (xs ++ x ∷ [])) ≤ max m (held_after link (xs ++ x ∷ []))
never_more_push link xs x m p k h =
    ⊎_elim
    (λ (l : length xs < k).
    let e : length (xs ++ x ∷ []) ≤ k = omega (arith, length-append xs (x ∷ [])) in
    rw (take_all k (xs ++ x ∷ []) e) (le-max_right m (held_after link (xs ++ x ∷ []))))
    (λ (l : k ≤ length xs).
    rw (take-append-le k xs (x ∷ []) l)
    (omega (arith, p.never_more k l, le-max_left m (held_after link (xs ++ x ∷ [])))))
    (cases_lt (length xs) k)

once_push : (link : Link) (xs : List Step) (x : Step) (m : ℕ) → Most link xs m
    → (k : ℕ) × ((k ≤ length (xs ++ x ∷ [])) × (held_after link (take k (xs ++ x ∷ [])) ≡ max m (held_after link (xs ++ x ∷ []))))
once_push link xs x m p =
    ⊎_elim
    (λ (l : m < held_after link (xs ++ x ∷ [])). (
      length (xs ++ x ∷ []),
      (
        omega arith,
        ap (held_after link) (take_all (length (xs ++ x ∷ [])) (xs ++ x ∷ []) (omega arith)) ∙ sym (max-eq_right (omega arith)),
      ),
    ))
    (λ (l : held_after link (xs ++ x ∷ []) ≤ m).
    let k : ℕ = p.once.0 in (
      k,
      (
        omega (arith, p.once.1.0, length-append xs (x ∷ [])),
        ap (held_after link) (take-append-le k xs (x ∷ []) p.once.1.0) ∙ p.once.1.1 ∙ sym (max-eq_left l),
      ),
    ))
    (cases_lt m (held_after link (xs ++ x ∷ [])))

most_push : (link : Link) (xs : List Step) (x : Step) (m : ℕ) → Most link xs m
    → Most link (xs ++ x ∷ []) (max m (held_after link (xs ++ x ∷ [])))
most_push link xs x m p = record { never_more = never_more_push link xs x m p; once = once_push link xs x m p }

pub most_more : (link : Link) (xs : List Step) (i : ℕ) (m n : ℕ) → i < length xs → Most link (take i xs) m
    → n ≡ max m (held_after link (take (i + 1) xs)) → Most link (take (i + 1) xs) n
most_more link xs i m n h p e =
    let d : Step = record { call = Start 0; answer = Open } in
    subst (Most link (take (i + 1) xs)) (sym e)
    (subst (λ (ys : List Step). Most link ys (max m (held_after link ys))) (sym (take_more xs i d h))
    (most_push link (take i xs) (get_or xs i d) m p))
