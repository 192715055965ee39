-- A plan opens soundly, and a run that was opened soundly on it stands as one without starts and finishes.
use Rattle.std.proofs.Common.{◌≡◌, ℕ, suc, ◌+◌, ◌<◌, ◌≤◌, Bool, false, not, ◌&&◌, ◌||◌, eqb, ltb, leb, ◌⊎◌, List, [], ◌∷◌, length, get_or, take, drop, Some, None, Ok, Err, Result, sym, refl, ap, ◌∙◌, subst, inl, inr, ⊎_elim, arith, take_all, take_at}
use Rattle.std.proofs.lemmas.List.{length-append}
use Rattle.std.proofs.lemmas.Bool.{cond-false, or_from, or_parts, and_right, le-ltb, lt-leb, ltb-false, ne_eqb}
use Rattle.records.specs.declared.fault.Fault.{Fault}
use Rattle.records.specs.declared.fault.Layer.{Layer}
use Rattle.records.specs.declared.fault.Layer.TheVariants.{Run}
use Rattle.records.specs.declared.tables.Actor.{Actor}
use Rattle.records.specs.declared.tables.Edge.{Edge}
use Rattle.records.specs.declared.tables.Link.{Link}
use Rattle.records.specs.Faults.{fault}
use Rattle.records.specs.Tables.{no_link, processor_of}
use Rattle.records.specs.declared.refusal.Refusal.TheVariants as refusal
use Rattle.records.specs.declared.refusal.Refusal.{Refusal}
use Rattle.waits.specs.Events.{place}
use Rattle.planning.specs.Checks.{refuse_if, refuse_first}
use Rattle.planning.specs.Planning.{Given, Totals, plan_links, plan_totals, planned}
use Rattle.planning.proofs.Passing.{first_ok, passed}
use Rattle.guards.specs.Levels.{Level}
use Rattle.meaning.specs.Promises.{plan_edges}
use Rattle.meaning.proofs.Drawn as drawn
use Rattle.meaning.proofs.Promised.{totals, promise}
use Rattle.running.specs.Rows.{guarded}
use Rattle.running.specs.Runs.{site, far_processor, short, unfit_link, open_check, standing_if, opened}
use Rattle.running.specs.Rehearsals.{plan_site, plan_opened}
use Rattle.running.specs.Claims.{level_at, Opens}
use Rattle.running.proofs.Others.{set_up_stands}
use Rattle.running.proofs.Telling.{Fits, Tells, tells_at_first}
use Rattle.running.proofs.PlanLinks.{ok, means, edges_long, links_long, link_place, ends, crossing_mark, cells_some, kinds}

-- what a run can stand on is not refused
near_processors : (xs : List Actor) → ((x : ℕ) → x < length xs → processor_of xs x < 16) → far_processor xs ≡ false
near_processors [] near = refl
near_processors (x ∷ xs) near =
    or_from (ltb 15 x.processor) (far_processor xs) (le-ltb 15 x.processor (omega (arith, near 0 (omega arith)))) (near_processors xs (λ y h. near (suc y) (omega arith)))

none_refused : {X : Type 0} (bad : X → Bool) (why : Refusal) (layer : Layer) (k : ℕ) (xs : List X) (d : X)
    → ((i : ℕ) → i < length xs → bad (get_or xs i d) ≡ false) → refuse_first bad why layer k xs ≡ Ok tt
none_refused bad why layer k [] d good = refl
none_refused bad why layer k (x ∷ xs) d good =
    cond-false _ _ _ (good 0 (omega arith)) ∙ none_refused bad why layer (k + 1) xs d (λ i h. good (suc i) (omega arith))

-- a local link, or one with cells
abbrev Good : ℕ → Link → Type 0
Good largest l = (l.mark ≡ 2) ⊎ ((l.mark ≤ 3) × (1 ≤ l.size) × (l.delay ≤ l.size) × (l.size ≤ largest))

fit_link : (largest n : ℕ) (l : Link) → l.sender < n → l.receiver < n → Good largest l → unfit_link largest n l ≡ false
fit_link largest n l hu hv good =
    or_from (leb n l.sender) _ (lt-leb n l.sender hu) (or_from (leb n l.receiver) _ (lt-leb n l.receiver hv) (
    ⊎_elim
    (λ (local : l.mark ≡ 2). simp local)
    (λ (x : (l.mark ≤ 3) × (1 ≤ l.size) × (l.delay ≤ l.size) × (l.size ≤ largest)).
    or_from (ltb 3 l.mark) _ (le-ltb 3 l.mark x.0) (
    or_from (not (eqb l.mark 2) && (eqb l.size 0 || ltb l.size l.delay)) _
    (and_right (not (eqb l.mark 2)) _ (or_from (eqb l.size 0) _ (ne_eqb l.size 0 (λ z. omega arith)) (le-ltb l.size l.delay x.2)))
    (and_right (guarded l) _ (le-ltb largest l.size x.3))
    ))
    good
    ))

module _ (d : Given) (t : Totals) (e : (planned d).answer ≡ Ok t) where
  actors_long : t.actors ≡ length d.actors
  unfolding plan_totals
  actors_long = ap (λ x. x.actors) (sym (totals d t e))

  actors_are : take t.actors d.actors ≡ d.actors
  actors_are = take_all t.actors d.actors (omega (arith, actors_long))

  links_are : take (t.given + t.back) (planned d).links ≡ plan_links d
  links_are =
      ap (take (t.given + t.back)) ((promise d).found t e).links
      ∙ take_at (plan_links d) (drop (length (plan_links d)) d.links) (t.given + t.back) (links_long d t e)

  -- a run reads the drawing's actors and the plan's links
  pub site_is : plan_site d t ≡ site d.actors (plan_links d)
  site_is = ap (λ xs. site xs (take (t.given + t.back) (planned d).links)) actors_are ∙ ap (site d.actors) links_are

  pub fits : Fits (site d.actors (plan_links d))
  fits = record { few = (drawn.passed d (ok d t e)).few; processors = (drawn.passed d (ok d t e)).processors }

  -- the row of a run that is opened soundly has a guard for each link
  row_long : (largest row : ℕ) → open_check largest t d.actors (planned d).links row ≡ Ok tt → t.given + t.back ≤ row
  unfolding open_check
  row_long largest row sound =
      let n = t.actors in let links = t.given + t.back in
      let tables = refuse_if (short t (length d.actors) (length (planned d).links) row || far_processor (take n d.actors)) (fault refusal.UnfitTables Run 0) in
      let not_short = (or_parts (short t (length d.actors) (length (planned d).links) row) _ (passed _ (fault refusal.UnfitTables Run 0) (first_ok tables _ sound))).0 in
      let after_few = (or_parts (ltb 64 n) _ not_short).1 in
      let after_actors = (or_parts (ltb (length d.actors) n) _ after_few).1 in
      ltb-false row links (or_parts (ltb (length (planned d).links) links) _ after_actors).1

  pub stands : (largest : ℕ) (row : List Level) → (plan_opened largest d t row).fault ≡ None → Tells (site d.actors (plan_links d)) [] (plan_opened largest d t row)
  unfolding opened
  stands largest row sound = by (open_check largest t d.actors (planned d).links (length row)) refl sound
    where
      by : (r : Result Unit Fault) → open_check largest t d.actors (planned d).links (length row) ≡ r → (standing_if r (plan_site d t) row).fault ≡ None
          → Tells (site d.actors (plan_links d)) [] (standing_if r (plan_site d t) row)
      by (Ok x) is sound =
          subst (λ s. Tells (site d.actors (plan_links d)) [] (standing_if (Ok x) s row)) (sym site_is)
          (tells_at_first (site d.actors (plan_links d)) row fits (omega (arith, row_long largest (length row) is, links_long d t e)))
      by (Err f) is sound = let z : ◌≡◌ {A = ℕ} 0 1 = cc in absurd (omega arith)

  -- what an opening leaves of guards that are no link's, and of all guards if it is unsound
  pub opened_stands : (largest : ℕ) (row : List Level) → (plan_opened largest d t row).fault ≡ None → (i : ℕ)
      → (i < length (plan_links d) → guarded (get_or (plan_links d) i no_link) ≡ false) → level_at (plan_opened largest d t row).row i ≡ level_at row i
  unfolding opened
  opened_stands largest row sound i other = by (open_check largest t d.actors (planned d).links (length row)) sound
    where
      by : (r : Result Unit Fault) → (standing_if r (plan_site d t) row).fault ≡ None → level_at (standing_if r (plan_site d t) row).row i ≡ level_at row i
      by (Ok x) sound = subst (λ s. level_at (standing_if (Ok x) s row).row i ≡ level_at row i) (sym site_is) (set_up_stands (site d.actors (plan_links d)) row i other)
      by (Err f) sound = let z : ◌≡◌ {A = ℕ} 0 1 = cc in absurd (omega arith)

  pub unsound_row : (largest : ℕ) (row : List Level) (f : Fault) → (plan_opened largest d t row).fault ≡ Some f → (plan_opened largest d t row).row ≡ row
  unfolding opened
  unsound_row largest row f fault = by (open_check largest t d.actors (planned d).links (length row)) fault
    where
      by : (r : Result Unit Fault) → (standing_if r (plan_site d t) row).fault ≡ Some f → (standing_if r (plan_site d t) row).row ≡ row
      by (Ok x) fault = let z : ◌≡◌ {A = ℕ} 0 1 = cc in absurd (omega arith)
      by (Err g) fault = refl

  good : (largest : ℕ) → 65000 ≤ largest → (i : ℕ) → i < length (plan_links d) → unfit_link largest (length d.actors) (get_or (plan_links d) i no_link) ≡ false
  good largest large i h =
      let l = get_or (plan_links d) i no_link in
      let below : i < length (plan_edges d) = omega (arith, edges_long d t e) in
      let is = link_place d t e i h in
      let (hu, hv) = subst (λ (x : Edge). (x.sender < length d.actors) × (x.receiver < length d.actors)) is (ends d t e i below) in
      fit_link largest (length d.actors) l hu hv (elim (kinds d t e i below) [
        | inl local ↦ inl local
        | inr x ↦
            let delay : (place (plan_edges d) i).delay ≡ l.delay = ap (λ (x : Edge). x.delay) is in
            inr (crossing_mark d t e i x, cells_some d t e i x, omega (arith, (means d t e).cells i x), omega (arith, (means d t e).cells_few i x))
      ])

  pub opens : Opens d t
  unfolding opened open_check
  opens largest row large long =
      let n = length d.actors in
      let room : t.given + t.back ≤ length (planned d).links =
      omega (arith, links_long d t e, ap length ((promise d).found t e).links, length-append (plan_links d) (drop (length (plan_links d)) d.links)) in
      let not_short : short t n (length (planned d).links) (length row) ≡ false =
      or_from (ltb 64 t.actors) _ (le-ltb 64 t.actors (omega (arith, actors_long, fits.few))) (
      or_from (ltb n t.actors) _ (le-ltb n t.actors (omega (arith, actors_long))) (
      or_from (ltb (length (planned d).links) (t.given + t.back)) _ (le-ltb (length (planned d).links) (t.given + t.back) room) (le-ltb (length row) (t.given + t.back) long)
      )
      ) in
      let near = near_processors d.actors fits.processors in
      let all = none_refused (unfit_link largest n) refusal.UnfitLink Run 0 (plan_links d) no_link (good largest large) in
      rw (actors_are, links_are, not_short, near, actors_long, all) refl
