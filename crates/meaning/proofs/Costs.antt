-- Synchronization costs no more after planning than before.
use Rattle.std.proofs.Common.{◌≡◌, ℕ, ◌+◌, ◌*◌, ◌≤◌, true, false, cond, ◌||◌, eqb, List, [], ◌∷◌, ◌++◌, map, length, take, refl, ap, ⊎_elim, arith}
use Rattle.std.specs.List.{range_with_len}
use Rattle.std.proofs.lemmas.List.{length-take}
use Rattle.std.proofs.lemmas.Bool.{cases_Bool, cond-true, cond_both}
use Rattle.records.specs.declared.tables.Actor.{Actor}
use Rattle.records.specs.declared.tables.Edge.{Edge}
use Rattle.records.specs.declared.tables.Link.{Link}
use Rattle.records.specs.Tables.{link_edge}
use Rattle.paths.specs.declared.delay.Delay.{Delay}
use Rattle.planning.specs.Marks.{local, redundant, mark_link, marked, numbered, sized}
use Rattle.planning.specs.Costs.{cost_before, cost_after, link_cost_after}
use Rattle.planning.specs.Backs.{Ground, backs_among, backs}
use Rattle.planning.specs.Planning.{Given, base_edges, plan_ground, back_links, all_links, plan_delays, plan_links, plan_totals}
use Rattle.meaning.proofs.Known.{Known, given_known}
use Rattle.meaning.proofs.Grounds.{group}
use Rattle.meaning.proofs.Reaching.{Small}
use Rattle.meaning.proofs.Merging.{Covered, between_groups, backs_between}
use Rattle.meaning.proofs.Grounding.{drawing_covered}

-- ms has a link for each of ls, one after the other, and mark 2 where that of ls stays on its processor
abbrev pub LocalMarked : List Actor → List Link → List Link → Type 0
LocalMarked actors [] [] = Unit {0}
LocalMarked actors [] (m ∷ ms) = ⊥
LocalMarked actors (l ∷ ls) [] = ⊥
LocalMarked actors (l ∷ ls) (m ∷ ms) = (local actors (link_edge l) ≡ true → m.mark ≡ 2) × LocalMarked actors ls ms

link_cost_most : (l : Link) → link_cost_after l ≤ 2
link_cost_most l = cond_both (eqb l.mark 1 || eqb l.mark 3) 2 0 (λ x. x ≤ 2) (λ t. omega arith) (λ t. omega arith)

local_cost : (l : Link) → l.mark ≡ 2 → link_cost_after l ≡ 0
local_cost l e = ap (λ k. cond (eqb k 1 || eqb k 3) 2 0) e

cost_after-++ : (ls ms : List Link) → cost_after (ls ++ ms) ≡ cost_after ls + cost_after ms
cost_after-++ [] ms = omega arith
cost_after-++ (l ∷ ls) ms = omega (arith, cost_after-++ ls ms)

cost_after_most : (ls : List Link) → cost_after ls ≤ 2 * length ls
cost_after_most [] = omega arith
cost_after_most (l ∷ ls) = omega (arith, cost_after_most ls, link_cost_most l)

-- what the given links save pays for two units for each link between groups
given_cost : (g : Ground) (ls ms : List Link) → LocalMarked g.actors ls ms
    → cost_after ms + 2 * between_groups g ls ≤ cost_before g.actors (length g.actors) g.delays ls
given_cost g [] [] h = omega arith
given_cost g [] (m ∷ ms) h = absurd h
given_cost g (l ∷ ls) [] h = absurd h
given_cost g (l ∷ ls) (m ∷ ms) h =
    let rest = given_cost g ls ms h.1 in
    let most = link_cost_most m in
    ⊎_elim
    (λ (t : local g.actors (link_edge l) ≡ true). rw t (omega (arith, local_cost m (h.0 t))))
    (λ (f : local g.actors (link_edge l) ≡ false).
    ⊎_elim (λ (s : group g l.sender l.receiver ≡ true). rw (f, s) (omega arith)) (λ (s : group g l.sender l.receiver ≡ false). rw (f, s) (omega arith))
    (cases_Bool (group g l.sender l.receiver)))
    (cases_Bool (local g.actors (link_edge l)))

module _ (g : Ground) (es : List Edge) (known : Known g es) (ls : List Link) (covered : Covered g es ls) where
  abbrev n : ℕ
  n = length g.actors

  -- with any marks of the given links that are local for those within a processor, and no more links than the back links
  pub cost_no_more : (lead : ℕ) (ms bs : List Link) → LocalMarked g.actors ls ms → length bs ≤ length (backs_among g lead (range_with_len 0 n))
      → cost_after (ms ++ bs) ≤ cost_before g.actors n g.delays ls
  cost_no_more lead ms bs h few =
      omega (arith, cost_after-++ ms bs, cost_after_most bs, given_cost g ls ms h, backs_between g es known ls covered lead)

  length_backs : (lead : ℕ) → length (backs g lead) ≤ length (backs_among g lead (range_with_len 0 n))
  unfolding backs
  length_backs lead = omega (arith, length-take 15 (backs_among g lead (range_with_len 0 n)))

  -- the same of the back links themselves
  pub cost_with_backs : (lead : ℕ) (ms : List Link) → LocalMarked g.actors ls ms
      → cost_after (ms ++ backs g lead) ≤ cost_before g.actors n g.delays ls
  cost_with_backs lead ms h = cost_no_more lead ms (backs g lead) h (length_backs lead)

-- marks that are local for links within a processor
marked_local : (actors : List Actor) (links : List Edge) (k : ℕ) (ls : List Link) → LocalMarked actors ls (numbered (mark_link actors links) k ls)
marked_local actors links k [] = tt
marked_local actors links k (l ∷ ls) =
    (λ t. cond-true (local actors (link_edge l)) 2 (cond (redundant actors links k (link_edge l)) 0 1) t, marked_local actors links (k + 1) ls)

cost_after_sized : (n : ℕ) (delays : List Delay) (ls : List Link) → cost_after (sized n delays ls) ≡ cost_after ls
cost_after_sized n delays [] = refl
cost_after_sized n delays (l ∷ ls) = ap (λ c. link_cost_after l + c) (cost_after_sized n delays ls)

-- a plan costs no more than the drawing did
pub plan_costs_no_more : (d : Given) → Small (length d.actors) (base_edges d) → (plan_totals d).after ≤ (plan_totals d).before
unfolding plan_totals plan_links
plan_costs_no_more d small =
    let ls = take d.given d.links in
    let ms = marked d.actors (map link_edge (all_links d)) ls in
    omega (
      arith,
      cost_after_sized (length d.actors) (plan_delays d) (ms ++ back_links d),
      cost_with_backs (plan_ground d) (base_edges d) (given_known d small) ls (drawing_covered (plan_ground d) ls) d.lead ms
          (marked_local d.actors (map link_edge (all_links d)) 0 ls),
    )
