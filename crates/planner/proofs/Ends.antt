-- The ends of back links are actors.
use Rattle.std.proofs.Common.{◌≡◌, ℕ, zero, suc, ◌+◌, ◌<◌, ◌≤◌, List, [], ◌∷◌, ◌++◌, map, length, take, drop, IfSome, Some, None, Option, sym, ap, ◌∙◌, subst, arith}
use Rattle.std.specs.List.{range_with_len}
use Rattle.std.proofs.lemmas.Bool.{cond_both}
use Rattle.std.proofs.lemmas.List.{append_assoc, length-append, length-take-le, take_at}
use Rattle.records.specs.declared.tables.Actor.{Actor}
use Rattle.records.specs.declared.tables.Link.{Link}
use Rattle.records.specs.Tables.{link_edge}
use Rattle.paths.specs.declared.delay.Delay.{Delay}
use Rattle.planning.specs.declared.End.{End}
use Rattle.planning.specs.declared.End.TheVariants.{Entry, Exit}
use Rattle.planning.specs.Backs.{Ground, count, heads, stand, heads_among, link_from, chain, first_or, last_or, groups_of, closing, part_backs, wants_backs, backs_among, backs}
use Rattle.planning.specs.Edges.{Within}
use Rattle.planning.specs.Groups.{stands_better, stand_below, stand_in}
use Rattle.planner.specs.Steps.{with_backs}
use Rattle.planner.specs.Within.{EndsBelow}
use Rattle.planner.proofs.Stands.{AllUnder}
use Rattle.planner.proofs.Bounded.{links_within, ends_from_within}

-- the ends of each link are below n, where the links are read one by one
abbrev Fine : ℕ → List Link → Type 0
Fine n links = Within n (map link_edge links)

fine_append : (n : ℕ) (xs ys : List Link) → Fine n xs → Fine n ys → Fine n (xs ++ ys)
fine_append n [] ys p q = q
fine_append n (x ∷ xs) ys p q = (p.0, fine_append n xs ys p.1 q)

fine_take : (n k : ℕ) (xs : List Link) → Fine n xs → Fine n (take k xs)
fine_take n zero xs p = tt
fine_take n (suc k) [] p = tt
fine_take n (suc k) (x ∷ xs) p = (p.0, fine_take n k xs p.1)

-- links that stand one after the other
ends_append : (n : ℕ) (xs ys : List Link) → EndsBelow n xs → EndsBelow n ys → EndsBelow n (xs ++ ys)
ends_append n xs ys p q = ends_from_within n (xs ++ ys) (fine_append n xs ys (links_within n xs p) (links_within n ys q))

range_under : (n a k : ℕ) → a + k ≤ n → AllUnder n (range_with_len a k)
range_under n a zero h = tt
range_under n a (suc k) h = (omega arith, range_under n (a + 1) k (omega arith))

stand_below_under : (actors : List Actor) (n : ℕ) (delays : List Delay) (u k : ℕ) → u < n → k ≤ n → stand_below actors n delays u k < n
stand_below_under actors n delays u zero hu hk = hu
stand_below_under actors n delays u (suc k) hu hk =
    let best : ℕ = stand_below actors n delays u k in
    cond_both (stands_better actors n delays u k best) k best (λ w. w < n) (λ _. omega arith) (λ _. stand_below_under actors n delays u k hu (omega arith))

module _ (g : Ground) where
  pub stand_under : (u : ℕ) → u < count g → stand g u < count g
  unfolding stand_in
  stand_under u h = stand_below_under g.actors (count g) g.delays u (count g) h (omega arith)

  heads_under : (end : End) (p : ℕ) (us : List ℕ) → AllUnder (count g) us → AllUnder (count g) (heads_among g end p us)
  heads_under end p [] h = tt
  heads_under end p (u ∷ us) h =
      cond_both (heads g end p u) (u ∷ heads_among g end p us) (heads_among g end p us) (AllUnder (count g))
      (λ _. (h.0, heads_under end p us h.1)) (λ _. heads_under end p us h.1)

  groups_under : (end : End) (p : ℕ) → AllUnder (count g) (groups_of g end p)
  groups_under end p = heads_under end p (range_with_len 0 (count g)) (range_under (count g) 0 (count g) (omega arith))

  first_under : (p : ℕ) (us : List ℕ) → p < count g → AllUnder (count g) us → first_or p us < count g
  first_under p [] hp h = hp
  first_under p (u ∷ us) hp h = h.0

  last_under : (p : ℕ) (us : List ℕ) → p < count g → AllUnder (count g) us → last_or p us < count g
  last_under p [] hp h = hp
  last_under p (u ∷ us) hp h = last_under u us h.0 h.1

  from_fine : (earlier : Option ℕ) (u : ℕ) → IfSome earlier (λ w. w < count g) → u < count g → Fine (count g) (link_from g earlier u)
  from_fine None u hw hu = tt
  from_fine (Some w) u hw hu = ((stand_under w hw, stand_under u hu), tt)

  chain_fine : (earlier : Option ℕ) (us : List ℕ) → IfSome earlier (λ w. w < count g) → AllUnder (count g) us → Fine (count g) (chain g earlier us)
  chain_fine earlier [] hw h = tt
  chain_fine earlier (u ∷ us) hw h = fine_append (count g) (link_from g earlier u) (chain g (Some u) us) (from_fine earlier u hw h.0) (chain_fine (Some u) us h.0 h.1)

  part_fine : (lead p : ℕ) → p < count g → Fine (count g) (part_backs g lead p)
  unfolding part_backs
  part_fine lead p hp =
      let entries : List Link = chain g None (groups_of g Entry p) in
      let exits : List Link = chain g None (groups_of g Exit p) in
      let last : List Link = closing g lead p ∷ [] in
      let joins : Fine (count g) last = (
        (
          stand_under (last_or p (groups_of g Exit p)) (last_under p (groups_of g Exit p) hp (groups_under Exit p)),
          stand_under (first_or p (groups_of g Entry p)) (first_under p (groups_of g Entry p) hp (groups_under Entry p)),
        ),
        tt,
      ) in
      fine_append (count g) entries (exits ++ last) (chain_fine None (groups_of g Entry p) tt (groups_under Entry p))
      (fine_append (count g) exits last (chain_fine None (groups_of g Exit p) tt (groups_under Exit p)) joins)

  among_fine : (lead : ℕ) (ps : List ℕ) → AllUnder (count g) ps → Fine (count g) (backs_among g lead ps)
  among_fine lead [] h = tt
  among_fine lead (p ∷ ps) h =
      fine_append (count g) _ (backs_among g lead ps)
      (cond_both (wants_backs g p) (part_backs g lead p) [] (Fine (count g)) (λ _. part_fine lead p h.0) (λ _. tt)) (among_fine lead ps h.1)

  backs_ends : (lead : ℕ) → EndsBelow (count g) (backs g lead)
  unfolding backs
  backs_ends lead =
      ends_from_within (count g) (backs g lead)
      (fine_take (count g) 15 (backs_among g lead (range_with_len 0 (count g)))
      (among_fine lead (range_with_len 0 (count g)) (range_under (count g) 0 (count g) (omega arith))))

  -- the given links, and the back links after them
  pub ends_with_backs : (lead : ℕ) (links : List Link) (given : ℕ) → given ≤ length links → EndsBelow (count g) (take given links)
      → (all : ℕ) → all ≡ given + length (backs g lead) → (after : List Link) → after ≡ with_backs links given (backs g lead) → EndsBelow (count g) (take all after)
  ends_with_backs lead links given within known all end after is =
      let found : List Link = backs g lead in
      let rest : List Link = drop (given + length found) links in
      let front : take all after ≡ take given links ++ found =
      ap (take all) (is ∙ sym (append_assoc (take given links) found rest))
      ∙ take_at (take given links ++ found) rest all (length-append (take given links) found ∙ omega (arith, length-take-le given links within)) in
      subst (EndsBelow (count g)) (sym front) (ends_append (count g) (take given links) found known (backs_ends lead))
