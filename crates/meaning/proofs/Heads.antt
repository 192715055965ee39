-- The groups that back links join: how many a part has, and how many links join them.
use Rattle.std.proofs.Common.{◌≡◌, ℕ, zero, suc, ◌+◌, ◌-◌, ◌<◌, ◌≤◌, true, false, ◌&&◌, List, [], ◌∷◌, ◌++◌, length, Some, None, refl, ap, ◌∙◌, ⊎_elim, arith}
use Rattle.std.specs.List.{range_with_len}
use Rattle.std.proofs.lemmas.List.{length-append}
use Rattle.std.proofs.lemmas.Bool.{cases_Bool, and_from}
use Rattle.records.specs.declared.tables.Edge.{Edge}
use Rattle.records.specs.declared.tables.Link.{Link}
use Rattle.waits.specs.Counting
use Rattle.planning.specs.declared.End.{End}
use Rattle.planning.specs.declared.End.TheVariants.{Entry, Exit}
use Rattle.planning.specs.Groups.{opens_group}
use Rattle.planning.specs.Backs.{Ground, count, heads, heads_among, groups_of, chain, closing, part_backs, wants_backs}
use Rattle.meaning.proofs.Tallies.{count_from, count_from_start, count_some, count_both}
use Rattle.meaning.proofs.Joins.{reaches_joins}
use Rattle.meaning.proofs.Grounds.{Tabled, part, at_part, at_opens_group, at_head, at_wants}
use Rattle.meaning.proofs.Parts.{ends_apart}
use Rattle.meaning.proofs.Climbing.{to_head}

length_heads_among : (g : Ground) (end : End) (p a k : ℕ) → length (heads_among g end p (range_with_len a k)) ≡ count_from (heads g end p) a k
length_heads_among g end p a zero = refl
length_heads_among g end p a (suc k) =
    let i = length_heads_among g end p (a + 1) k in
    ⊎_elim
    (λ (t : heads g end p a ≡ true). rw t (omega arith))
    (λ (t : heads g end p a ≡ false). rw t (omega arith))
    (cases_Bool (heads g end p a))

length_groups_of : (g : Ground) (end : End) (p : ℕ) → length (groups_of g end p) ≡ Counting.count (heads g end p) (count g)
length_groups_of g end p = length_heads_among g end p 0 (count g) ∙ count_from_start (heads g end p) (count g)

length_chain_after : (g : Ground) (w : ℕ) (us : List ℕ) → length (chain g (Some w) us) ≡ length us
length_chain_after g w [] = refl
length_chain_after g w (u ∷ us) = ap suc (length_chain_after g u us)

length_chain : (g : Ground) (us : List ℕ) → length (chain g None us) ≡ length us - 1
length_chain g [] = refl
length_chain g (u ∷ us) = let i = length_chain_after g u us in omega arith

length_part_backs : (g : Ground) (lead p : ℕ)
    → length (part_backs g lead p) ≡ (Counting.count (heads g Entry p) (count g) - 1) + ((Counting.count (heads g Exit p) (count g) - 1) + 1)
unfolding part_backs
length_part_backs g lead p =
    let a = chain g None (groups_of g Entry p) in
    let b = chain g None (groups_of g Exit p) in
    let c : List Link = closing g lead p ∷ [] in
    omega (arith, length-append a (b ++ c), length-append b c, length_chain g (groups_of g Entry p), length_chain g (groups_of g Exit p), length_groups_of g Entry p, length_groups_of g Exit p)

module _ {g : Ground} {es : List Edge} (tabled : Tabled g es) where
  some_head : (end : End) (p : ℕ) → p < count g → 1 ≤ Counting.count (heads g end p) (count g)
  some_head end p h =
      let (u, k, _) = to_head tabled end p p h (reaches_joins (tabled.self p h)) in
      count_some (heads g end p) (count g) u k.under ((at_head tabled end p u h k.under).1 k)

  -- a part of several groups has fewer back links than groups
  pub part_backs_fewer : (lead p : ℕ) → p < count g → wants_backs g p ≡ true
      → length (part_backs g lead p) + 1 ≤ Counting.count (λ u. part g p u && opens_group (count g) g.delays u) (count g)
  part_backs_fewer lead p h wants =
      omega (
        arith,
        length_part_backs g lead p,
        some_head Entry p h,
        some_head Exit p h,
        count_both (heads g Entry p) (heads g Exit p) (λ u. part g p u && opens_group (count g) g.delays u) (count g)
            (λ u l t. in_part Entry u l t) (λ u l t. in_part Exit u l t) apart,
      )
    where
      in_part : (end : End) (u : ℕ) → u < count g → heads g end p u ≡ true → (part g p u && opens_group (count g) g.delays u) ≡ true
      in_part end u l t =
          let k = (at_head tabled end p u h l).0 t in
          and_from (part g p u) (opens_group (count g) g.delays u) ((at_part tabled p u h l).1 k.joined) ((at_opens_group tabled u l).1 k.lowest)

      apart : (u : ℕ) → u < count g → heads g Entry p u ≡ true → heads g Exit p u ≡ true → ⊥
      apart u l a b =
          let k = (at_head tabled Entry p u h l).0 a in
          ends_apart tabled p u ((at_wants tabled p h).0 wants) l k.joined k.ends ((at_head tabled Exit p u h l).0 b).ends
