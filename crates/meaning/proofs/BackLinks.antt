-- The planner's back links, uncut, are the back links in the words of the subject.
use Rattle.std.proofs.Common.{◌≡◌, ℕ, zero, suc, ◌+◌, ◌<◌, ◌≤◌, List, [], ◌∷◌, ◌++◌, map, length, Some, None, refl, ap, ◌∙◌, subst, inl, inr, arith}
use Rattle.std.specs.List.{range_with_len}
use Rattle.std.proofs.lemmas.List.{map-append}
use Rattle.std.proofs.lemmas.Bool.{cases_Bool}
use Rattle.records.specs.declared.tables.Actor.{Actor}
use Rattle.records.specs.declared.tables.Edge.{Edge}
use Rattle.records.specs.Tables.{edge, link_edge}
use Rattle.planning.specs.declared.End.{End}
use Rattle.planning.specs.declared.End.TheVariants.{Entry as at_entry_lem, Exit as at_exit}
use Rattle.planning.specs.Backs.{Ground, stand, chain, first_or, last_or, groups_of, closing, part_backs, wants_backs, backs_among}
use Rattle.planning.specs.Tables.{least_delays, parts}
use Rattle.meaning.specs.Components.{Reaches, Group, Joined, Lowest, Among, Rising, chained, PartLinks, InTurn, BackLinks}
use Rattle.meaning.proofs.Reaching.{Small}
use Rattle.meaning.proofs.Joins.{reaches_joins}
use Rattle.meaning.proofs.Grounds.{Tabled, Ends, at_wants}
use Rattle.meaning.proofs.Picked.{picked, picked_rising}
use Rattle.meaning.proofs.Leaders.{heads_rising, stand_stands}
use Rattle.meaning.proofs.Climbing.{to_head}

module _ (g : Ground) where
  chain_after : (u : ℕ) (us : List ℕ) → map link_edge (chain g (Some u) us) ≡ chained (stand g) (u ∷ us)
  chain_after u [] = refl
  chain_after u (v ∷ us) = ap (λ es. edge (stand g u) (stand g v) 0 ∷ es) (chain_after v us)

  chain_is : (us : List ℕ) → map link_edge (chain g None us) ≡ chained (stand g) us
  chain_is [] = refl
  chain_is (u ∷ us) = chain_after u us

  -- the back links of a part, where its first entry group and its last exit group are known
  part_edges : (lead p first last : ℕ) (others before : List ℕ) → groups_of g at_entry_lem p ≡ first ∷ others → groups_of g at_exit p ≡ before ++ (last ∷ [])
      → last_or p (groups_of g at_exit p) ≡ last
      → map link_edge (part_backs g lead p)
      ≡ chained (stand g) (first ∷ others) ++ (chained (stand g) (before ++ (last ∷ [])) ++ (edge (stand g last) (stand g first) lead ∷ []))
  unfolding part_backs
  part_edges lead p first last others before starts ends at_end =
      let us = groups_of g at_entry_lem p in
      let first_is : first_or p us ≡ first = ap (first_or p) starts in
      let cut : map link_edge (part_backs g lead p) ≡ chained (stand g) us ++ (chained (stand g) (groups_of g at_exit p) ++ (link_edge (closing g lead p) ∷ [])) =
      simp (map-append, chain_is) in
      cc

-- a list that is not empty, from its end
from_end : (p u : ℕ) (us : List ℕ) → (before : List ℕ) × (last : ℕ) × (u ∷ us ≡ before ++ (last ∷ [])) × (last_or p (u ∷ us) ≡ last)
from_end p u [] = ([], u, refl, refl)
from_end p u (v ∷ us) = let (before, last, e, q) = from_end u v us in (u ∷ before, last, ap (λ vs. u ∷ vs) e, q)

not_empty : (u : ℕ) (us : List ℕ) → Among u us → (v : ℕ) × (vs : List ℕ) × (us ≡ v ∷ vs)
not_empty u [] i = absurd i
not_empty u (v ∷ vs) i = (v, vs, refl)

-- what groups and parts of the edges es are read off
abbrev pub ground_of : List Actor → List Edge → Ground
ground_of actors es = record { actors = actors; delays = least_delays (length actors) es; joined = parts (length actors) es }

module _ (actors : List Actor) (es : List Edge) (small : Small (length actors) es) (self : (x : ℕ) → x < length actors → Reaches es x x) where
  abbrev n : ℕ
  n = length actors

  abbrev g : Ground
  g = ground_of actors es

  abbrev tabled : Tabled g es
  tabled = record { small = small; delays = refl; joined = refl; self = self }

  abbrev Heads : End → ℕ → ℕ → Type 0
  Heads end p u = Joined es p u × Lowest n (Group es) u × Ends es end u

  heads_are : (end : End) (p : ℕ) → p < n → Rising n (Heads end p) (groups_of g end p)
  heads_are end p hp =
      let r = heads_rising tabled end p hp in
      record {
        rises = r.rises;
        each = λ u i. let (h, k) = r.each u i in (h, (k.joined, k.lowest, k.ends));
        all = λ u h k. r.all u h (record { under = h; joined = k.0; lowest = k.1; ends = k.2 });
      }

  -- the lowest actors of the entry or exit groups of a part, of which there is one at least
  some_heads : (end : End) (p : ℕ) → p < n → (u : ℕ) × (us : List ℕ) × (groups_of g end p ≡ u ∷ us)
  some_heads end p hp =
      let (u, h, _) = to_head tabled end p p hp (reaches_joins (self p hp)) in
      not_empty u (groups_of g end p) ((heads_rising tabled end p hp).all u h.under h)

  module _ (lead : ℕ) where
    part_links : (p : ℕ) → p < n → PartLinks actors es lead p (map link_edge (part_backs g lead p))
    part_links p hp =
        let (u, us, starts) = some_heads at_entry_lem p hp in
        let (v, vs, ends) = some_heads at_exit p hp in
        let (before, last, parted, at_end) = from_end p v vs in
        record {
          stand = stand g;
          stands = λ w hw low. stand_stands tabled w hw low;
          first = u;
          others = us;
          entries = subst (Rising n (Heads at_entry_lem p)) starts (heads_are at_entry_lem p hp);
          before = before;
          last = last;
          exits = subst (Rising n (Heads at_exit p)) (ends ∙ parted) (heads_are at_exit p hp);
          links = part_edges g lead p u last us before starts (ends ∙ parted) (ap (last_or p) ends ∙ at_end);
        }

    in_turn : (a k : ℕ) → a + k ≤ n → InTurn (PartLinks actors es lead) (picked (wants_backs g) (range_with_len a k)) (map link_edge (backs_among g lead (range_with_len a k)))
    in_turn a zero h = refl
    in_turn a (suc k) h =
        let rest = in_turn (a + 1) k (omega arith) in
        elim (cases_Bool (wants_backs g a)) [
          | inl t ↦ rw t (map link_edge (part_backs g lead a), map link_edge (backs_among g lead (range_with_len (a + 1) k)), part_links a (omega arith), rest, map-append link_edge (part_backs g lead a) (backs_among g lead (range_with_len (a + 1) k)))
          | inr f ↦ rw f rest
        ]

    pub back_links : BackLinks actors es lead (map link_edge (backs_among g lead (range_with_len 0 n)))
    back_links = record {
      parts = picked (wants_backs g) (range_with_len 0 n);
      several = picked_rising n (wants_backs g) _ (λ p hp. at_wants tabled p hp);
      links = in_turn 0 n (omega arith);
    }
