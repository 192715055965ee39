-- What a plan means, from what is known of its back links.
use Rattle.std.proofs.Common.{◌≡◌, ℕ, suc, ◌+◌, ◌<◌, ◌≤◌, Bool, true, false, cond, eqb, ◌⊎◌, List, [], ◌∷◌, ◌++◌, length, get_or, take, Ok, sym, refl, ap, ◌∙◌, subst, inl, inr, ⊎_elim, arith}
use Rattle.std.specs.List.{range_with_len}
use Rattle.std.proofs.lemmas.List.{length-map, length-take, length-take-le}
use Rattle.std.proofs.lemmas.Bool.{cases_lt, cases_Bool, cond-true, cond-false, or_left, or_right, or_cases, eq-eqb, ne_eqb, eqb-true}
use Rattle.records.specs.declared.tables.Edge.{Edge}
use Rattle.records.specs.declared.tables.Link.{Link}
use Rattle.records.specs.Tables.{no_link, link_edge, processor_of}
use Rattle.waits.specs.Counting.{count}
use Rattle.waits.specs.Events.{Follows, Enforced, Event, starts, finishes, In, Lawful, Obeys, ObeysAll, Path, Live, place, chosen}
use Rattle.waits.proofs.Paths.{in-++, path_over_more}
use Rattle.paths.specs.Closure.{entry}
use Rattle.paths.specs.Models.{delay_ops}
use Rattle.planning.specs.Backs.{backs_among, backs}
use Rattle.planning.specs.Edges.{orders, without}
use Rattle.planning.specs.Marks.{local, redundant, mark_of}
use Rattle.planning.specs.Planning.{Given, tables_check, edges_with, plan_ground, all_links, back_links, plan_delays}
use Rattle.meaning.specs.Promises.{given_edges, plan_edges, mark_at, size_at, waited, waited_edges, Cross, Crossing, Replaced, Brief, BrieflyFull, PlanMeans}
use Rattle.meaning.specs.Components.{Reaches}
use Rattle.meaning.proofs.Chosen.{in_left, in_right, in_more, in_place, chosen_part}
use Rattle.meaning.proofs.Covers.{Covers}
use Rattle.meaning.proofs.Delays.{least, least_low, least_short}
use Rattle.meaning.proofs.Drawn.{passed}
use Rattle.meaning.proofs.Dropping.{Spared, dropped_at_once}
use Rattle.meaning.proofs.Enforcing.{enforced_covered, covered_enforced}
use Rattle.meaning.proofs.Fewest.{Needed, fewest}
use Rattle.meaning.proofs.Filling.{never_further, gets_so_far}
use Rattle.meaning.proofs.FinalMarks.{place_is, all_long, given_mark, given_size, all_back_mark, back_mark, back_size}
use Rattle.meaning.proofs.Following.{follows, obeys_edges, enforced, enforces}
use Rattle.meaning.proofs.Locals.{local_covered}
use Rattle.meaning.proofs.Planned.{all_fine, all_small}
use Rattle.meaning.proofs.Reaching.{least_small}
use Rattle.meaning.proofs.Redundancy.{redundant_path, path_redundant}
use Rattle.meaning.proofs.Replacing.{covered_replaced, replaced_covered}
use Rattle.meaning.proofs.Turns.{round_path}

-- an edge of a list, by its place
pub at_place : (es : List Edge) (e : Edge) → In e es → (i : ℕ) × (i < length es) × (place es i ≡ e)
at_place [] e i = absurd i
at_place (f ∷ es) e (inl p) = (0, omega arith, sym p)
at_place (f ∷ es) e (inr i) = let r = at_place es e i in (suc r.0, omega (arith, r.1), r.2)

module _ (d : Given) (ok : tables_check d ≡ Ok tt) (live : Live (edges_with d (all_links d)))
    (needed : (i : ℕ) → length (given_edges d) ≤ i → i < length (plan_edges d) → Needed (orders d.actors) (plan_edges d) i)
    (returns : (e : Edge) → In e (plan_edges d) → Reaches (edges_with d (all_links d)) e.receiver e.sender)
    (backs_cross : (i : ℕ) → length (given_edges d) ≤ i → i < length (plan_edges d)
    → processor_of d.actors (place (plan_edges d) i).sender ≡ processor_of d.actors (place (plan_edges d) i).receiver → ⊥) where
  given_long : length (given_edges d) ≡ length (take d.given d.links)
  given_long = length-map (take d.given d.links) link_edge

  edges_long : length (plan_edges d) ≡ length (all_links d)
  edges_long = length-map (all_links d) link_edge

  -- ends and delay of a link
  fine : (i : ℕ) → i < length (plan_edges d) → ((place (plan_edges d) i).sender < length d.actors) × ((place (plan_edges d) i).receiver < length d.actors) × ((place (plan_edges d) i).delay ≤ 1000)
  fine i h =
      let l : i < length (all_links d) = omega (arith, edges_long) in
      let f = all_fine d ok i l in
      subst (λ e. (e.sender < length d.actors) × (e.receiver < length d.actors) × (e.delay ≤ 1000)) (sym (place_is d i l)) f

  in_edges : (i : ℕ) → i < length (plan_edges d) → In (place (plan_edges d) i) (edges_with d (all_links d))
  in_edges i h = in_right (place (plan_edges d) i) (orders d.actors) (plan_edges d) (in_place (plan_edges d) i h)

  -- a given link's mark, by cases
  mark_is : (i : ℕ) → i < length (given_edges d) → mark_at d i ≡ mark_of d.actors (plan_edges d) i (place (plan_edges d) i)
  mark_is i h = given_mark d i (omega (arith, given_long))

  redundant_covers : (i : ℕ) → i < length (plan_edges d) → redundant d.actors (plan_edges d) i (place (plan_edges d) i) ≡ true
      → Covers (orders d.actors ++ without i (place (plan_edges d) i) 0 (plan_edges d)) (place (plan_edges d) i)
  redundant_covers i h t = let f = fine i h in redundant_path d.actors (plan_edges d) (all_small d ok) i (place (plan_edges d) i) (f.0, f.1) f.2 t

  covers_redundant : (i : ℕ) → i < length (plan_edges d) → Covers (orders d.actors ++ without i (place (plan_edges d) i) 0 (plan_edges d)) (place (plan_edges d) i)
      → redundant d.actors (plan_edges d) i (place (plan_edges d) i) ≡ true
  covers_redundant i h c = let f = fine i h in path_redundant d.actors (plan_edges d) (all_small d ok) i (place (plan_edges d) i) (f.0, f.1) f.2 c.0 c.1 c.2

  more_edges : length (given_edges d) ≤ length (plan_edges d)
  more_edges = omega (arith, given_long, edges_long, all_long d)

  spared : (i : ℕ) → i < length (plan_edges d) → Spared (orders d.actors) (plan_edges d) (waited d) i
  spared i h =
      ⊎_elim
      (λ (g : i < length (given_edges d)).
      ⊎_elim
      (λ (t : local d.actors (place (plan_edges d) i) ≡ true).
      let f = fine i h in
      inr (inl (local_covered d.actors (edges_with d (all_links d)) (λ e j. in_left e (orders d.actors) (plan_edges d) j) live (place (plan_edges d) i) (in_edges i h) f.0 f.1 (eqb-true _ _ t))))
      (λ (t : local d.actors (place (plan_edges d) i) ≡ false).
      ⊎_elim
      (λ (r : redundant d.actors (plan_edges d) i (place (plan_edges d) i) ≡ true). inr (inr (redundant_covers i h r)))
      (λ (r : redundant d.actors (plan_edges d) i (place (plan_edges d) i) ≡ false).
      let kept : mark_at d i ≡ 1 = mark_is i g ∙ cond-false _ _ _ t ∙ cond-false _ _ _ r in
      inl (or_left (eqb (mark_at d i) 1) (eqb (mark_at d i) 3) (eq-eqb (mark_at d i) 1 kept)))
      (cases_Bool (redundant d.actors (plan_edges d) i (place (plan_edges d) i))))
      (cases_Bool (local d.actors (place (plan_edges d) i))))
      (λ (g : length (given_edges d) ≤ i).
      inl (or_right (eqb (mark_at d i) 1) (eqb (mark_at d i) 3) (eq-eqb (mark_at d i) 3 (back_mark d ok i (omega (arith, given_long)) (omega (arith, edges_long))))))
      (cases_lt i (length (given_edges d)))

  few_backs : length (back_links d) ≤ 15
  unfolding backs
  few_backs = omega (arith, length-take 15 (backs_among (plan_ground d) d.lead (range_with_len 0 (length d.actors))))

  few_links : length (plan_edges d) ≤ 271
  few_links =
      let p = passed d ok in
      omega (arith, edges_long, all_long d, few_backs, length-take-le d.given d.links (omega (arith, p.links_room)), p.given_few)

  -- every link has a path of kept and back links
  covered : (i : ℕ) → i < length (plan_edges d) → Covers (orders d.actors ++ waited_edges d) (place (plan_edges d) i)
  covered i h =
      dropped_at_once (length d.actors) (orders d.actors) (plan_edges d) (passed d ok).few few_links (all_small d ok).within live (waited d) spared i h

  enough : (i : ℕ) → i < length (plan_edges d) → Enforced d.actors (waited_edges d) (place (plan_edges d) i)
  enough i h = enforced d.actors (waited_edges d) (place (plan_edges d) i) (covered_enforced (orders d.actors ++ waited_edges d) (place (plan_edges d) i) (covered i h))

  -- a kept or back link has no other path
  no_other : (i : ℕ) → i < length (plan_edges d) → waited d i ≡ true → Needed (orders d.actors) (plan_edges d) i
  no_other i h w =
      ⊎_elim
      (λ (g : i < length (given_edges d)) (c : Covers (orders d.actors ++ without i (place (plan_edges d) i) 0 (plan_edges d)) (place (plan_edges d) i)).
      let r = covers_redundant i h c in
      ⊎_elim
      (λ (t : local d.actors (place (plan_edges d) i) ≡ true). not_waited i (mark_is i g ∙ cond-true _ _ _ t) (inr refl) w)
      (λ (t : local d.actors (place (plan_edges d) i) ≡ false). not_waited i (mark_is i g ∙ cond-false _ _ _ t ∙ cond-true _ _ _ r) (inl refl) w)
      (cases_Bool (local d.actors (place (plan_edges d) i))))
      (λ (g : length (given_edges d) ≤ i). needed i g h)
      (cases_lt i (length (given_edges d)))
    where
      not_waited : (i : ℕ) {m : ℕ} → mark_at d i ≡ m → (m ≡ 0) ⊎ (m ≡ 2) → waited d i ≡ true → ⊥
      not_waited i e o w =
          ⊎_elim (λ (z : mark_at d i ≡ 1). ⊎_elim (λ (p : _ ≡ 0). omega (arith, e, p, z)) (λ (p : _ ≡ 2). omega (arith, e, p, z)) o)
          (λ (z : mark_at d i ≡ 3). ⊎_elim (λ (p : _ ≡ 0). omega (arith, e, p, z)) (λ (p : _ ≡ 2). omega (arith, e, p, z)) o)
          (elim (or_cases (eqb (mark_at d i) 1) (eqb (mark_at d i) 3) w) [ inl t ↦ inl (eqb-true _ 1 t) | inr t ↦ inr (eqb-true _ 3 t) ])

  turn : (x : ℕ) → x < length d.actors → Path (orders d.actors) x x 1
  turn x h = round_path d.actors x x h h refl

  no_fewer : (C : ℕ → Bool) → ((i : ℕ) → i < length (plan_edges d) → Enforced d.actors (chosen C (plan_edges d)) (place (plan_edges d) i))
      → count (waited d) (length (plan_edges d)) ≤ count C (length (plan_edges d))
  no_fewer C all =
      fewest (orders d.actors) (plan_edges d) (waited d) C no_other
      (λ i h _. enforced_covered (length d.actors) (orders d.actors) (plan_edges d) (all_small d ok).within live turn C i h
      (enforces d.actors (chosen C (plan_edges d)) (place (plan_edges d) i) (all i h)))

  -- whoever follows the kept and back links obeys every edge
  obeys_all : (xs : List Event) → Follows d.actors (waited_edges d) xs → ObeysAll xs (edges_with d (all_links d))
  obeys_all xs f e i = elim (in-++ e (orders d.actors) (plan_edges d) i) [
    | inl j ↦ obeys_edges d.actors (waited_edges d) xs f e (in_left e (orders d.actors) (waited_edges d) j)
    | inr j ↦ let r = at_place (plan_edges d) e j in subst (λ x. Obeys xs x) r.2 (enough r.0 r.1 xs f)
  ]

  -- and whoever obeys every edge follows them
  follows_waited : (xs : List Event) → Lawful xs → ObeysAll xs (edges_with d (all_links d)) → Follows d.actors (waited_edges d) xs
  follows_waited xs lawful all =
      follows d.actors (waited_edges d) xs lawful
      (λ e i. all e (in_more (orders d.actors) (waited_edges d) (plan_edges d) (chosen_part (waited d) (plan_edges d)) e i))

  -- the least delay back, by the table
  back_of : ℕ → ℕ
  back_of i = least (length d.actors) (edges_with d (all_links d)) (all_small d ok).within (place (plan_edges d) i).receiver (place (plan_edges d) i).sender

  back_number : (i : ℕ) → i < length (plan_edges d) → back_of i ≤ 64000
  unfolding back_of
  back_number i h =
      let f = fine i h in
      let r = returns (place (plan_edges d) i) (in_place (plan_edges d) i h) in
      least_small (length d.actors) (edges_with d (all_links d)) (all_small d ok) (place (plan_edges d) i).receiver (place (plan_edges d) i).sender f.1 f.0 r.1

  -- a link of the plan, before marks and sizes
  abbrev link : ℕ → Link
  link i = get_or (all_links d) i no_link

  -- what its size is if it is not local
  abbrev cells_of : ℕ → ℕ
  cells_of i = (delay_ops.follow (delay_ops.edge (link i).delay) (entry delay_ops (plan_delays d) (length d.actors) (link i).receiver (link i).sender)).value

  module _ (i : ℕ) (h : i < length (plan_edges d)) where
    within : i < length (all_links d)
    within = omega (arith, edges_long)

    given_cells : i < length (given_edges d) → local d.actors (place (plan_edges d) i) ≡ false → size_at d i ≡ cells_of i
    given_cells g cross =
        let not_local : local d.actors (link_edge (link i)) ≡ false = ap (local d.actors) (sym (place_is d i within)) ∙ cross in
        given_size d i (omega (arith, given_long))
        ∙ cond-false _ _ _ (ap (λ b. eqb (cond b 2 (cond (redundant d.actors (plan_edges d) i (link_edge (link i))) 0 1)) 2) not_local ∙ zero_or_one (redundant d.actors (plan_edges d) i (link_edge (link i))))
      where
        zero_or_one : (b : Bool) → eqb (cond b 0 1) 2 ≡ false
        zero_or_one true = refl
        zero_or_one false = refl

    back_cells : length (given_edges d) ≤ i → size_at d i ≡ cells_of i
    back_cells ge =
        let mark : (link i).mark ≡ 3 = all_back_mark d ok i (omega (arith, given_long)) within in
        back_size d ok i (omega (arith, given_long)) within ∙ cond-false _ _ _ (ap (λ m. eqb m 2) mark)

  module _ (i : ℕ) (x : Crossing d i) where
    size_is : size_at d i ≡ (place (plan_edges d) i).delay + back_of i
    unfolding back_of
    size_is =
        let same = place_is d i (omega (arith, x.below, edges_long)) in
        let whole : size_at d i ≡ cells_of i =
        ⊎_elim
        (λ (g : i < length (given_edges d)). given_cells i x.below g (ne_eqb _ _ x.across))
        (λ (g : length (given_edges d) ≤ i). back_cells i x.below g)
        (cases_lt i (length (given_edges d))) in
        let there : (entry delay_ops (plan_delays d) (length d.actors) (link i).receiver (link i).sender).value ≡ back_of i =
        ap (λ (e : Edge). (entry delay_ops (plan_delays d) (length d.actors) e.receiver e.sender).value) (sym same) in
        let delay : (link i).delay ≡ (place (plan_edges d) i).delay = ap (λ (e : Edge). e.delay) (sym same) in
        omega (arith, whole, there, delay, back_number i x.below, (fine i x.below).2)

    cells : size_at d i ≡ (place (plan_edges d) i).delay + (entry delay_ops (plan_delays d) (length d.actors) (place (plan_edges d) i).receiver (place (plan_edges d) i).sender).value
    unfolding back_of
    cells = size_is

    cells_few : size_at d i ≤ 65000
    cells_few = omega (arith, size_is, back_number i x.below, (fine i x.below).2)

    never_overfull : (xs : List Event) → Follows d.actors (waited_edges d) xs → (k : ℕ)
        → (place (plan_edges d) i).delay + starts (place (plan_edges d) i).sender (take k xs) ≤ finishes (place (plan_edges d) i).receiver (take k xs) + size_at d i
    unfolding back_of
    never_overfull xs follow k =
        let f = fine i x.below in
        omega (arith, size_is, never_further (length d.actors) (edges_with d (all_links d)) (all_small d ok) (place (plan_edges d) i).sender (place (plan_edges d) i).receiver f.0 f.1 (omega (arith, back_number i x.below)) xs follow.lawful (obeys_all xs follow) k)

    pub briefly_full : BrieflyFull d i
    unfolding back_of
    briefly_full =
        let f = fine i x.below in
        let r = gets_so_far (length d.actors) (edges_with d (all_links d)) (all_small d ok) live (place (plan_edges d) i).sender (place (plan_edges d) i).receiver f.0 f.1
        (path_over_more (λ e j. in_left e (orders d.actors) (plan_edges d) j) (turn (place (plan_edges d) i).receiver f.1)) in (
          r.0,
          follows_waited r.0 r.1 r.2,
          record { few = λ a. omega (arith, r.5 a, back_number i x.below); outside = r.6 },
          omega (arith, size_is, r.3, r.4),
        )

    can_be_full : (xs : List Event) × Follows d.actors (waited_edges d) xs
        × ((place (plan_edges d) i).delay + starts (place (plan_edges d) i).sender xs ≡ finishes (place (plan_edges d) i).receiver xs + size_at d i)
    can_be_full = (briefly_full.0, briefly_full.1, briefly_full.3)

  module _ (i : ℕ) (x : Cross d i) where
    below : i < length (plan_edges d)
    below = omega (arith, x.given, more_edges)

    not_local : local d.actors (place (plan_edges d) i) ≡ false
    not_local = ne_eqb _ _ x.across

    dropped : mark_at d i ≡ 0 → Replaced d i
    dropped zero =
        let is = mark_is i x.given ∙ cond-false _ _ _ not_local in
        ⊎_elim
        (λ (r : redundant d.actors (plan_edges d) i (place (plan_edges d) i) ≡ true). covered_replaced d i (redundant_covers i below r))
        (λ (r : redundant d.actors (plan_edges d) i (place (plan_edges d) i) ≡ false). absurd (omega (arith, is ∙ cond-false _ _ _ r, zero)))
        (cases_Bool (redundant d.actors (plan_edges d) i (place (plan_edges d) i)))

    replaced : Replaced d i → mark_at d i ≡ 0
    replaced c = mark_is i x.given ∙ cond-false _ _ _ not_local ∙ cond-true _ _ _ (covers_redundant i below (replaced_covered d i c))

    kept : (Replaced d i → ⊥) → mark_at d i ≡ 1
    kept never =
        ⊎_elim
        (λ (r : redundant d.actors (plan_edges d) i (place (plan_edges d) i) ≡ true). absurd (never (covered_replaced d i (redundant_covers i below r))))
        (λ (r : redundant d.actors (plan_edges d) i (place (plan_edges d) i) ≡ false). mark_is i x.given ∙ cond-false _ _ _ not_local ∙ cond-false _ _ _ r)
        (cases_Bool (redundant d.actors (plan_edges d) i (place (plan_edges d) i)))

  home : (i : ℕ) → i < length (plan_edges d)
      → processor_of d.actors (place (plan_edges d) i).sender ≡ processor_of d.actors (place (plan_edges d) i).receiver → mark_at d i ≡ 2
  home i h same =
      ⊎_elim
      (λ (g : i < length (given_edges d)). mark_is i g ∙ cond-true _ _ _ (eq-eqb _ _ same))
      (λ (g : length (given_edges d) ≤ i). absurd (backs_cross i g h same))
      (cases_lt i (length (given_edges d)))

  pub plan_means : PlanMeans d
  plan_means = record {
    live = live;
    least = λ u v hu hv. record {
      attained = least_short (length d.actors) (edges_with d (all_links d)) (all_small d ok).within u v hu hv;
      smallest = λ t p. (least_low (length d.actors) (edges_with d (all_links d)) (all_small d ok).within hu hv p, least_small (length d.actors) (edges_with d (all_links d)) (all_small d ok) u v hu hv p);
    };
    local = home;
    back = λ i ge h. back_mark d ok i (omega (arith, given_long)) (omega (arith, edges_long));
    dropped = dropped;
    replaced = replaced;
    kept = kept;
    enough = enough;
    fewest = no_fewer;
    cells = cells;
    cells_few = cells_few;
    never_overfull = never_overfull;
    can_be_full = can_be_full;
  }
