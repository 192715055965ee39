-- A link is replaced exactly if the edges without it and its twins of higher number cover it.
use Rattle.std.proofs.Common.{◌≡◌, ℕ, ◌<◌, ◌≤◌, true, false, List, ◌++◌, ◌∙◌, subst, inl, inr, ⊎_elim, arith}
use Rattle.std.proofs.lemmas.Bool.{cases_Bool, cases_lt}
use Rattle.records.specs.declared.tables.Edge.{Edge}
use Rattle.waits.specs.Events.{In, place}
use Rattle.waits.proofs.Paths.{in-++, path_over_more}
use Rattle.planning.specs.Edges.{orders, without}
use Rattle.planning.specs.Planning.{Given}
use Rattle.meaning.specs.Promises.{plan_edges, Beside, Replaced}
use Rattle.meaning.proofs.Chosen.{stays, in_left, in_right, in_without, without_in}
use Rattle.meaning.proofs.Covers.{Covers}
use Rattle.meaning.proofs.OrderEdges.{order_if_in, in_if_order}
use Rattle.meaning.proofs.Twins.{lower_stays, twin_is_lower, gone_is_twin}

module _ (d : Given) (i : ℕ) where
  abbrev link : Edge
  link = place (plan_edges d) i

  abbrev others : List Edge
  others = orders d.actors ++ without i link 0 (plan_edges d)

  others_beside : (e : Edge) → In e others → Beside d i e
  others_beside e h = elim (in-++ e (orders d.actors) (without i link 0 (plan_edges d)) h) [
    | inl o ↦ inl (order_if_in d.actors e o)
    | inr w ↦
        let (j, l, t, q) = in_without i link (plan_edges d) e w in
        inr (
          j,
          l,
          q,
          (λ same. omega (arith, twin_is_lower i link j e t (subst (λ k. place (plan_edges d) k ≡ e) same q))),
          (λ higher twin. omega (arith, twin_is_lower i link j e t twin)),
        )
  ]

  beside_others : (e : Edge) → Beside d i e → In e others
  beside_others e (inl o) = in_left e (orders d.actors) (without i link 0 (plan_edges d)) (in_if_order d.actors e o)
  beside_others e (inr (j, l, q, other, no-twin)) =
      let stay : stays i link j (place (plan_edges d) j) ≡ true =
      ⊎_elim
      (λ (low : j < i). lower_stays i link j (place (plan_edges d) j) low)
      (λ (high : i ≤ j).
      ⊎_elim
      (λ (t : stays i link j (place (plan_edges d) j) ≡ true). t)
      (λ (f : stays i link j (place (plan_edges d) j) ≡ false).
      ⊎_elim
      (λ (above : i < j). absurd (no-twin above (gone_is_twin i link j (place (plan_edges d) j) f ∙ q)))
      (λ (not_above : j ≤ i). absurd (other (omega arith)))
      (cases_lt i j))
      (cases_Bool (stays i link j (place (plan_edges d) j))))
      (cases_lt j i) in
      in_right e (orders d.actors) (without i link 0 (plan_edges d)) (subst (λ f. In f (without i link 0 (plan_edges d))) q (without_in i link (plan_edges d) j l stay))

  pub covered_replaced : Covers others link → Replaced d i
  covered_replaced (t, l, p) = record { edges = others; beside = others_beside; total = t; low = l; path = p }

  pub replaced_covered : Replaced d i → Covers others link
  replaced_covered r = (r.total, r.low, path_over_more (λ e h. beside_others e (r.beside e h)) r.path)
