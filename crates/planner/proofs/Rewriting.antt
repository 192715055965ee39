-- A table whose front is written anew, one record after the other.
use Rattle.std.proofs.Common.{◌≡◌, ℕ, ◌+◌, ◌-◌, ◌<◌, List, [], ◌∷◌, ◌++◌, map, length, get_or, take, drop, set, sym, refl, ap, ◌∙◌, add-zero, zero-add, arith}
use Rattle.std.proofs.lemmas.List.Edits.{map_over_more}
use Rattle.std.proofs.lemmas.List.{append_assoc, map-append, length-take-le, get_or-append_right, get_or_default, get_or-drop, drop_more, set_at, take-append-drop, take_more}
use Rattle.paths.specs.declared.delay.Delay.{Delay}
use Rattle.records.specs.declared.tables.Link.{Link}
use Rattle.records.specs.declared.tables.Actor.{Actor}
use Rattle.records.specs.declared.tables.Edge.{Edge}
use Rattle.records.specs.Tables.{no_link, link_edge}
use Rattle.planning.proofs.Numbered.{length_numbered}
use Rattle.planning.specs.Marks.{numbered, mark_of, with_mark, mark_link, marked, with_size, size_of, size_link, sized}

-- what comes next is as it was
still_here : {X : Type 0} (front xs : List X) (i : ℕ) (d : X) → length front ≡ i → get_or (front ++ drop i xs) i d ≡ get_or xs i d
still_here front xs i d e =
    let at : i + (i - i) ≡ i = omega arith in
    get_or-append_right front (drop i xs) i i d e (omega arith) ∙ get_or-drop i xs (i - i) d ∙ ap (λ k. get_or xs k d) at

module _ {X : Type 0} (f : ℕ → X → X) where
  numbered_push : (k : ℕ) (xs : List X) (x : X) (j : ℕ) → k + length xs ≡ j → numbered f k (xs ++ (x ∷ [])) ≡ numbered f k xs ++ (f j x ∷ [])
  numbered_push k [] x j e = ap (λ i. f i x ∷ []) (sym (add-zero k) ∙ e)
  numbered_push k (y ∷ ys) x j e = ap (λ ls. f k y ∷ ls) (numbered_push (k + 1) ys x j (omega arith))

  -- one more is written
  numbered_more : (xs : List X) (i : ℕ) (d : X) → i < length xs
      → set (numbered f 0 (take i xs) ++ drop i xs) i (f i (get_or xs i d)) ≡ numbered f 0 (take (i + 1) xs) ++ drop (i + 1) xs
  numbered_more xs i d h =
      let long : length (numbered f 0 (take i xs)) ≡ i = length_numbered f 0 (take i xs) ∙ length-take-le i xs (omega arith) in
      let new : X = f i (get_or xs i d) in
      ap (λ ys. set (numbered f 0 (take i xs) ++ ys) i new) (drop_more xs i d h)
      ∙ set_at (numbered f 0 (take i xs)) (get_or xs i d) (drop (i + 1) xs) new i long
      ∙ sym (append_assoc (numbered f 0 (take i xs)) (new ∷ []) (drop (i + 1) xs))
      ∙ ap (λ ys. ys ++ drop (i + 1) xs)
      (sym (ap (numbered f 0) (take_more xs i d h) ∙ numbered_push 0 (take i xs) (get_or xs i d) i (zero-add (length (take i xs)) ∙ length-take-le i xs (omega arith))))

-- marks leave the edges as they are
edges_numbered : (actors : List Actor) (es : List Edge) (k : ℕ) (ls : List Link) → map link_edge (numbered (mark_link actors es) k ls) ≡ map link_edge ls
edges_numbered actors es k [] = refl
edges_numbered actors es k (l ∷ ls) = ap (λ fs. link_edge l ∷ fs) (edges_numbered actors es (k + 1) ls)

-- the first i links of xs are marked
module _ (actors : List Actor) (es : List Edge) (xs ys : List Link) (i : ℕ) (is : ys ≡ marked actors es (take i xs) ++ drop i xs) where
  pub edges_kept : map link_edge ys ≡ map link_edge xs
  edges_kept =
      ap (map link_edge) is ∙ map-append link_edge (marked actors es (take i xs)) (drop i xs)
      ∙ ap (λ fs. fs ++ map link_edge (drop i xs)) (edges_numbered actors es 0 (take i xs))
      ∙ sym (map-append link_edge (take i xs) (drop i xs)) ∙ ap (map link_edge) (take-append-drop i xs)

  -- one more is marked
  pub marked_more : (mark : ℕ) → es ≡ map link_edge xs → i < length xs
      → mark ≡ mark_of actors (map link_edge ys) i (link_edge (get_or ys i no_link))
      → set ys i (with_mark (get_or ys i no_link) mark) ≡ marked actors es (take (i + 1) xs) ++ drop (i + 1) xs
  marked_more mark e within m =
      let long : length (marked actors es (take i xs)) ≡ i = length_numbered (mark_link actors es) 0 (take i xs) ∙ length-take-le i xs (omega arith) in
      let here : get_or ys i no_link ≡ get_or xs i no_link = ap (λ ls. get_or ls i no_link) is ∙ still_here (marked actors es (take i xs)) xs i no_link long in
      let said : mark ≡ mark_of actors es i (link_edge (get_or xs i no_link)) =
      m ∙ ap (λ fs. mark_of actors fs i (link_edge (get_or ys i no_link))) (edges_kept ∙ sym e)
      ∙ ap (λ l. mark_of actors es i (link_edge l)) here in
      ap (λ l. set ys i (with_mark l mark)) here ∙ ap (λ k. set ys i (with_mark (get_or xs i no_link) k)) said
      ∙ ap (λ ls. set ls i (mark_link actors es i (get_or xs i no_link))) is ∙ numbered_more (mark_link actors es) xs i no_link within

-- the first i links of xs are sized
module _ (n : ℕ) (delays : List Delay) (xs ys : List Link) (i : ℕ) (within : i < length xs) (is : ys ≡ sized n delays (take i xs) ++ drop i xs) where
  -- one more is sized
  pub sized_more : (size : ℕ) → i < length ys → size ≡ size_of n delays (get_or ys i no_link)
      → set ys i (with_size (get_or ys i no_link) size) ≡ sized n delays (take (i + 1) xs) ++ drop (i + 1) xs
  sized_more size long s =
      ap (λ k. set ys i (with_size (get_or ys i no_link) k)) s
      ∙ map_over_more (size_link n delays) xs ys i (get_or ys i no_link) within is (get_or_default ys i no_link (get_or ys i no_link) long)
