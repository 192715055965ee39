-- The marks and sizes of a plan, link by link.
use Rattle.std.proofs.Common.{◌≡◌, ℕ, ◌+◌, ◌-◌, ◌<◌, ◌≤◌, List, ◌++◌, map, length, get_or, take, Ok, sym, refl, ap, ◌∙◌, zero-add, arith}
use Rattle.std.proofs.lemmas.List.{get_or_append_left, get_or-append_right, get_or-map, length-append}
use Rattle.records.specs.declared.tables.Link.{Link}
use Rattle.records.specs.Tables.{no_link, edge, link_edge}
use Rattle.planning.specs.Marks.{mark_of, mark_link, marked, size_of, size_link}
use Rattle.planning.specs.Planning.{Given, tables_check, back_links, all_links, plan_delays, plan_links}
use Rattle.planning.proofs.Numbered.{length_numbered, numbered_at}
use Rattle.waits.specs.Events.{place}
use Rattle.meaning.proofs.BackEnds.{backs_fine}
use Rattle.meaning.proofs.Drawn.{passed, base_small}
use Rattle.meaning.proofs.Grounds.{known_tabled}
use Rattle.meaning.proofs.Known.{given_known}

module _ (d : Given) where
  pub place_is : (i : ℕ) → i < length (all_links d) → place (map link_edge (all_links d)) i ≡ link_edge (get_or (all_links d) i no_link)
  place_is i h = get_or-map link_edge (all_links d) i no_link (edge 0 0 0) h

  before_sizes : List Link
  before_sizes = marked d.actors (map link_edge (all_links d)) (take d.given d.links) ++ back_links d

  marks_long : length (marked d.actors (map link_edge (all_links d)) (take d.given d.links)) ≡ length (take d.given d.links)
  marks_long = length_numbered (mark_link d.actors (map link_edge (all_links d))) 0 (take d.given d.links)

  before_long : length before_sizes ≡ length (all_links d)
  unfolding before_sizes
  before_long =
      length-append (marked d.actors (map link_edge (all_links d)) (take d.given d.links)) (back_links d)
      ∙ ap (λ k. k + length (back_links d)) marks_long ∙ sym (length-append (take d.given d.links) (back_links d))

  -- a link of the plan: its size is added last
  link_at : (i : ℕ) → i < length (all_links d) → get_or (plan_links d) i no_link ≡ size_link (length d.actors) (plan_delays d) (get_or before_sizes i no_link)
  unfolding plan_links before_sizes
  link_at i h = get_or-map (size_link (length d.actors) (plan_delays d)) before_sizes i no_link no_link (omega (arith, before_long))

  -- a given link of the plan
  given_link : (i : ℕ) → i < length (take d.given d.links)
      → get_or before_sizes i no_link ≡ mark_link d.actors (map link_edge (all_links d)) i (get_or (all_links d) i no_link)
  unfolding before_sizes
  given_link i h =
      get_or_append_left (marked d.actors (map link_edge (all_links d)) (take d.given d.links)) (back_links d) no_link i (omega (arith, marks_long))
      ∙ numbered_at (mark_link d.actors (map link_edge (all_links d))) 0 (take d.given d.links) no_link i h
      ∙ ap (λ j. mark_link d.actors (map link_edge (all_links d)) j (get_or (take d.given d.links) i no_link)) (zero-add i)
      ∙ ap (mark_link d.actors (map link_edge (all_links d)) i) (sym (get_or_append_left (take d.given d.links) (back_links d) no_link i h))

  -- a back link of the plan
  back_link_at : (i : ℕ) → length (take d.given d.links) ≤ i → get_or before_sizes i no_link ≡ get_or (all_links d) i no_link
  unfolding before_sizes
  back_link_at i h =
      get_or-append_right (marked d.actors (map link_edge (all_links d)) (take d.given d.links)) (back_links d) (length (take d.given d.links)) i no_link marks_long h
      ∙ sym (get_or-append_right (take d.given d.links) (back_links d) (length (take d.given d.links)) i no_link refl h)

  pub all_long : length (all_links d) ≡ length (take d.given d.links) + length (back_links d)
  all_long = length-append (take d.given d.links) (back_links d)

  pub given_mark : (i : ℕ) → i < length (take d.given d.links)
      → (get_or (plan_links d) i no_link).mark ≡ mark_of d.actors (map link_edge (all_links d)) i (place (map link_edge (all_links d)) i)
  given_mark i h =
      let within : i < length (all_links d) = omega (arith, all_long) in
      ap (λ l. l.mark) (link_at i within) ∙ ap (λ l. l.mark) (given_link i h)
      ∙ ap (mark_of d.actors (map link_edge (all_links d)) i) (sym (place_is i within))

  pub given_size : (i : ℕ) → i < length (take d.given d.links)
      → (get_or (plan_links d) i no_link).size ≡ size_of (length d.actors) (plan_delays d) (mark_link d.actors (map link_edge (all_links d)) i (get_or (all_links d) i no_link))
  given_size i h =
      let within : i < length (all_links d) = omega (arith, all_long) in
      ap (λ l. l.size) (link_at i within) ∙ ap (size_of (length d.actors) (plan_delays d)) (given_link i h)

  module _ (ok : tables_check d ≡ Ok tt) where
    pub all_back_mark : (i : ℕ) → length (take d.given d.links) ≤ i → i < length (all_links d) → (get_or (all_links d) i no_link).mark ≡ 3
    all_back_mark i ge h =
        ap (λ l. l.mark) (get_or-append_right (take d.given d.links) (back_links d) (length (take d.given d.links)) i no_link refl ge)
        ∙ (backs_fine (known_tabled (given_known d (base_small d ok))) d.lead (passed d ok).lead_high (i - length (take d.given d.links)) (omega (arith, all_long))).1

    pub back_mark : (i : ℕ) → length (take d.given d.links) ≤ i → i < length (all_links d) → (get_or (plan_links d) i no_link).mark ≡ 3
    back_mark i ge h = ap (λ l. l.mark) (link_at i h) ∙ ap (λ l. l.mark) (back_link_at i ge) ∙ all_back_mark i ge h

    pub back_size : (i : ℕ) → length (take d.given d.links) ≤ i → i < length (all_links d)
        → (get_or (plan_links d) i no_link).size ≡ size_of (length d.actors) (plan_delays d) (get_or (all_links d) i no_link)
    back_size i ge h = ap (λ l. l.size) (link_at i h) ∙ ap (size_of (length d.actors) (plan_delays d)) (back_link_at i ge)
