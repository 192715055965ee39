-- The back links of an accepted drawing: what they are, and what they do.
use Rattle.std.proofs.Common.{◌≡◌, ℕ, zero, suc, ◌+◌, ◌-◌, ◌<◌, ◌≤◌, List, [], ◌∷◌, ◌++◌, map, length, get_or, take, Ok, sym, refl, ap, ◌∙◌, subst, inl, inr, ⊎_elim, arith}
use Rattle.std.proofs.lemmas.List.{append_assoc, map-append, get_or_append_left, get_or-append_right, get_or-map, length-append, length-map}
use Rattle.std.proofs.lemmas.Bool.{cases_lt}
use Rattle.records.specs.declared.tables.Edge.{Edge}
use Rattle.records.specs.declared.tables.Link.{Link}
use Rattle.records.specs.Tables.{no_link, edge, link_edge, processor_of}
use Rattle.waits.specs.Events.{In, Path, Live, place}
use Rattle.waits.proofs.Paths.{in-++}
use Rattle.planning.specs.Edges.{orders, without}
use Rattle.planning.specs.Planning.{Given, tables_check, cycles_check, base_edges, edges_with, plan_ground, back_links, all_links}
use Rattle.meaning.specs.Components.{Reaches, Joined, along, against, on, BackLinks}
use Rattle.meaning.specs.Promises.{given_edges, plan_edges, BacksMean}
use Rattle.meaning.proofs.BackEdges.{all_backs, back_edges, with_backs}
use Rattle.meaning.proofs.BackLinks.{back_links as subject-links}
use Rattle.meaning.proofs.BacksLive.{backs_live}
use Rattle.meaning.proofs.BacksNeeded.{backs_in, backs_new}
use Rattle.meaning.proofs.BacksWhole.{backs_whole}
use Rattle.meaning.proofs.Chosen.{in_left, in_right, in_more, in_place, in_without, without_part}
use Rattle.meaning.proofs.Deadlocks.{live}
use Rattle.meaning.proofs.Distinct.{Distinct}
use Rattle.meaning.proofs.Drawn.{passed, base_small}
use Rattle.meaning.proofs.Few.{few_backs, backs_uncut}
use Rattle.meaning.proofs.Fewest.{Needed}
use Rattle.meaning.proofs.Grounds.{known_tabled}
use Rattle.meaning.proofs.Groups.{part_decides}
use Rattle.meaning.proofs.Joins.{joined_back}
use Rattle.meaning.proofs.Known.{Known, given_known}
use Rattle.meaning.proofs.LinkKinds.{in_map}
use Rattle.meaning.proofs.OneList.{back_links_one}
use Rattle.meaning.proofs.Planned.{all_small}
use Rattle.meaning.proofs.Rising.{Has, has_at}
use Rattle.meaning.proofs.Told.{told_joined, backs_told, backs_distinct}
use Rattle.meaning.proofs.Twins.{twin_is_lower}

distinct_places : {X Y : Type 0} (f : X → Y) (xs : List X) (x : X) → Distinct f xs → (i j : ℕ) → i < j → j < length xs → f (get_or xs i x) ≡ f (get_or xs j x) → ⊥
distinct_places f [] x apart i j l h e = absurd (omega arith)
distinct_places f (y ∷ xs) x apart i zero l h e = absurd (omega arith)
distinct_places f (y ∷ xs) x apart zero (suc j) l h e = apart.0 (get_or xs j x) (has_at x xs j (omega arith)) e
distinct_places f (y ∷ xs) x apart (suc i) (suc j) l h e = distinct_places f xs x apart.1 i j (omega arith) (omega arith) e

-- the ends of joined actors are below n
joined_below : (n : ℕ) (es : List Edge) → ((e : Edge) → In e es → (e.sender < n) × (e.receiver < n)) → {u v : ℕ} → Joined es u v → (u < n) × (v < n)
joined_below n es within (along {u} {v} d i) = within (edge u v d) i
joined_below n es within (against {u} {v} d i) = let ends = within (edge u v d) i in (ends.1, ends.0)
joined_below n es within (on a b) = ((joined_below n es within a).0, (joined_below n es within b).1)

module _ (d : Given) (ok : tables_check d ≡ Ok tt) where
  known : Known (plan_ground d) (base_edges d)
  known = given_known d (base_small d ok)

  -- none is cut off
  uncut : back_links d ≡ all_backs (plan_ground d) d.lead
  uncut = backs_uncut (plan_ground d) (base_edges d) known (passed d ok).processors d.lead

  edges_are : edges_with d (all_links d) ≡ with_backs (plan_ground d) d.lead (base_edges d)
  edges_are =
      ap (λ es. orders d.actors ++ es) (map-append link_edge (take d.given d.links) (back_links d))
      ∙ sym (append_assoc (orders d.actors) (given_edges d) (map link_edge (back_links d)))
      ∙ ap (λ bs. base_edges d ++ map link_edge bs) uncut

  pub alive : cycles_check d ≡ Ok tt → Live (edges_with d (all_links d))
  alive free = subst Live (sym edges_are) (backs_live known d.lead (passed d ok).lead_low (live d ok free))

  -- each part is one group
  pub whole : (u v : ℕ) → Joined (base_edges d) u v → Reaches (edges_with d (all_links d)) u v
  whole u v j =
      let (hu, hv) = joined_below (length d.actors) (base_edges d) (base_small d ok).within j in
      subst (λ es. Reaches es u v) (sym edges_are)
      (backs_whole known d.lead u v hu hv ((part_decides (length d.actors) (base_edges d) (base_small d ok) u v hu hv).1 j))

  split : plan_edges d ≡ given_edges d ++ map link_edge (back_links d)
  split = map-append link_edge (take d.given d.links) (back_links d)

  -- a link of the plan is given or a back link
  given_place : (i : ℕ) → i < length (given_edges d) → In (place (plan_edges d) i) (base_edges d)
  given_place i h =
      let is : place (plan_edges d) i ≡ place (given_edges d) i = ap (λ es. place es i) split ∙ get_or_append_left (given_edges d) (map link_edge (back_links d)) (edge 0 0 0) i h in
      subst (λ e. In e (base_edges d)) (sym is) (in_right (place (given_edges d) i) (orders d.actors) (given_edges d) (in_place (given_edges d) i h))

  -- the place of a back link among the back links
  abbrev back_at : ℕ → Link
  back_at i = get_or (all_backs (plan_ground d) d.lead) (i - length (given_edges d)) no_link

  backs_long : length (plan_edges d) ≡ length (given_edges d) + length (all_backs (plan_ground d) d.lead)
  backs_long =
      ap length split ∙ length-append (given_edges d) (map link_edge (back_links d))
      ∙ ap (λ k. length (given_edges d) + k) (length-map (back_links d) link_edge ∙ ap length uncut)

  back_place : (i : ℕ) → length (given_edges d) ≤ i → i < length (plan_edges d) → place (plan_edges d) i ≡ link_edge (back_at i)
  back_place i ge h =
      ap (λ es. place es i) split
      ∙ get_or-append_right (given_edges d) (map link_edge (back_links d)) (length (given_edges d)) i (edge 0 0 0) refl ge
      ∙ ap (λ bs. place (map link_edge bs) (i - length (given_edges d))) uncut
      ∙ get_or-map link_edge (all_backs (plan_ground d) d.lead) (i - length (given_edges d)) no_link (edge 0 0 0) (omega (arith, backs_long))

  -- a back link can't be spared: whatever leads from its sender to its receiver has it
  module _ (i : ℕ) (ge : length (given_edges d) ≤ i) (h : i < length (plan_edges d)) where
    abbrev others : List Edge
    others = orders d.actors ++ without i (place (plan_edges d) i) 0 (plan_edges d)

    others_known : (e : Edge) → In e others → In e (with_backs (plan_ground d) d.lead (base_edges d))
    others_known e j =
        subst (λ es. In e es) edges_are
        (in_more (orders d.actors) (without i (place (plan_edges d) i) 0 (plan_edges d)) (plan_edges d) (without_part i (place (plan_edges d) i) (plan_edges d)) e j)

    here : Has (back_at i) (all_backs (plan_ground d) d.lead)
    here = has_at no_link (all_backs (plan_ground d) d.lead) (i - length (given_edges d)) (omega (arith, backs_long))

    not_base : In (link_edge (back_at i)) (base_edges d) → ⊥
    not_base j = backs_new known d.lead (back_at i) here j

    -- nor is it at a lower place
    not_lower : (j : ℕ) → j < i → place (plan_edges d) j ≡ link_edge (back_at i) → ⊥
    not_lower j l e =
        ⊎_elim
        (λ (low : j < length (given_edges d)). not_base (subst (λ f. In f (base_edges d)) e (given_place j low)))
        (λ (high : length (given_edges d) ≤ j).
        distinct_places link_edge (all_backs (plan_ground d) d.lead) no_link (backs_distinct known d.lead)
        (j - length (given_edges d)) (i - length (given_edges d)) (omega arith) (omega (arith, backs_long)) (sym (back_place j high (omega arith)) ∙ e))
        (cases_lt j (length (given_edges d)))

    not_other : In (link_edge (back_at i)) others → ⊥
    not_other j = elim (in-++ (link_edge (back_at i)) (orders d.actors) (without i (place (plan_edges d) i) 0 (plan_edges d)) j) [
      | inl o ↦ not_base (in_left (link_edge (back_at i)) (orders d.actors) (given_edges d) o)
      | inr w ↦
          let (k, l, stays, e) = in_without i (place (plan_edges d) i) (plan_edges d) (link_edge (back_at i)) w in
          not_lower k (twin_is_lower i (place (plan_edges d) i) k (link_edge (back_at i)) stays (back_place i ge h)) e
    ]

    pub needed : Needed (orders d.actors) (plan_edges d) i
    needed (t, l, p) =
        not_other (backs_in known d.lead (back_at i) here others others_known (t, subst (λ e. Path others e.sender e.receiver t) (back_place i ge h) p))

    -- nor do the turns of a processor lead from its sender to its receiver
    pub crosses : processor_of d.actors (place (plan_edges d) i).sender ≡ processor_of d.actors (place (plan_edges d) i).receiver → ⊥
    crosses same =
        let is = back_place i ge h in
        let ends = backs_below h in
        not_base (backs_in known d.lead (back_at i) here (base_edges d) (λ e j. in_left e (base_edges d) (back_edges (plan_ground d) d.lead) j)
        (1, subst (λ e. Path (base_edges d) e.sender e.receiver 1) is (known.turns (place (plan_edges d) i).sender (place (plan_edges d) i).receiver ends.0 ends.1 same)))
      where
        backs_below : i < length (plan_edges d) → ((place (plan_edges d) i).sender < length d.actors) × ((place (plan_edges d) i).receiver < length d.actors)
        backs_below l = (all_small d ok).within (place (plan_edges d) i) (in_right (place (plan_edges d) i) (orders d.actors) (plan_edges d) (in_place (plan_edges d) i l))

  -- the ends of a back link are in one part
  back_joined : (b : Link) → Has b (all_backs (plan_ground d) d.lead) → Joined (base_edges d) b.receiver b.sender
  back_joined b h =
      let tabled = known_tabled known in
      let (p, hp, several, told) = backs_told tabled d.lead b h in
      let (from, to) = told_joined tabled d.lead p b told in
      on (joined_back to) from

  -- from the receiver of every link a path leads back to its sender
  pub returns : (e : Edge) → In e (plan_edges d) → Reaches (edges_with d (all_links d)) e.receiver e.sender
  returns e i = elim (in-++ e (given_edges d) (map link_edge (back_links d)) (subst (λ es. In e es) split i)) [
    | inl given ↦ whole e.receiver e.sender (against e.delay (in_right e (orders d.actors) (given_edges d) given))
    | inr back ↦
        let (b, h, same) = in_map (all_backs (plan_ground d) d.lead) e (subst (λ bs. In e (map link_edge bs)) uncut back) in
        subst (λ f. Reaches (edges_with d (all_links d)) f.receiver f.sender) (sym same) (whole b.receiver b.sender (back_joined b h))
  ]

  pub backs_mean : BacksMean d
  backs_mean =
      let links : BackLinks d.actors (base_edges d) d.lead (map link_edge (back_links d)) =
      subst (λ bs. BackLinks d.actors (base_edges d) d.lead (map link_edge bs)) (sym uncut)
      (subject-links d.actors (base_edges d) (base_small d ok) (λ x h. (1, known.turns x x h h refl)) d.lead) in
      record {
        links = links;
        only = λ ls other. back_links_one d.actors (base_edges d) d.lead ls (map link_edge (back_links d)) other links;
        few = omega (arith, ap length uncut, few_backs (plan_ground d) (base_edges d) known (passed d ok).processors d.lead);
        whole = whole;
      }
