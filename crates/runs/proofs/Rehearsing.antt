-- A drawing planned and run: what planning's answer makes of it, and the law of its run.
use Rattle.std.proofs.Common.{◌≡◌, ℕ, ◌+◌, List, take, IfOk, None, Ok, Err, Result, sym, ap, ◌∙◌, subst, arith}
use Rattle.records.specs.declared.fault.Fault.{Fault}
use Rattle.records.specs.declared.tables.Link.{Link}
use Rattle.planning.specs.Planning.{Given, Totals, planned}
use Rattle.planner.specs.declared.plans.Slip.{Slip}
use Rattle.planner.specs.Slips.{slip_of, totals_of, slip_answer}
use Rattle.guards.specs.Levels.{Level}
use Rattle.running.specs.declared.Step.{Step}
use Rattle.running.specs.Claims.{Law}
use Rattle.running.specs.Rehearsals.{Rehearsed, rehearsed_from, plan_site, plan_opened, rehearsed_if, rehearsed}
use Rattle.running.proofs.Claimed.{claim}
use Rattle.runs.specs.Alone.{Stand, guarded_if, guarded_after, guarded_in, plan_links_of}

-- nothing is asked of a refusal's slip
pub made_refused : (r : Result Slip Fault) (f : Fault) (P : Slip → Type 0) → r ≡ Err f → IfOk r P
made_refused r f P e = subst (λ (x : Result Slip Fault). IfOk x P) (sym e) tt

pub refused_plan : (r : Result Totals Fault) (f : Fault) → ◌≡◌ {A = Result Slip Fault} (Err f) (slip_answer r) → r ≡ Err f
refused_plan (Ok t) f e = let z : ◌≡◌ {A = ℕ} 0 1 = cc in absurd (omega arith)
refused_plan (Err g) f e = cc

pub accepted_plan : (r : Result Totals Fault) (s : Slip) → Ok s ≡ slip_answer r → r ≡ Ok (totals_of s)
accepted_plan (Ok t) s e = ap Ok (sym (ap totals_of (ok_same s (slip_of t) e)))
  where
    ok_same : (x y : Slip) → ◌≡◌ {A = Result Slip Fault} (Ok x) (Ok y) → x ≡ y
    ok_same x y e = cc
accepted_plan (Err f) s e = let z : ◌≡◌ {A = ℕ} 0 1 = cc in absurd (omega arith)

module _ (largest : ℕ) (d : Given) (row : List Level) (steps : List Step) where
  pub when_refused : (f : Fault) → (planned d).answer ≡ Err f → rehearsed largest d row steps ≡ record { steps = steps; row = row }
  unfolding rehearsed
  when_refused f e = ap (λ r. rehearsed_if largest d r row steps) e

  pub when_accepted : (t : Totals) → (planned d).answer ≡ Ok t → rehearsed largest d row steps ≡ rehearsed_from (plan_site d t) (plan_opened largest d t row) steps
  unfolding rehearsed
  when_accepted t e = ap (λ r. rehearsed_if largest d r row steps) e

  -- the law holds of what a soundly opened run leaves
  pub own_law : (ys : List Step) (ls : List Level) → ys ≡ (rehearsed largest d row steps).steps → ls ≡ (rehearsed largest d row steps).row
      → (t : Totals) → (planned d).answer ≡ Ok t → (plan_opened largest d t row).fault ≡ None → Law d ys ls
  own_law ys ls ey el t e sound =
      let is = when_accepted t e in
      let law = ((claim d t e).every_run largest row sound).law steps in
      subst (λ (xs : List Step). Law d xs ls) (sym (ey ∙ ap (λ (r : Rehearsed). r.steps) is))
      (subst (Law d _) (sym (el ∙ ap (λ (r : Rehearsed). r.row) is)) law)

  -- which guards stand, by planning's answer
  pub stand_accepted : {G : Type 0} (t : Totals) → (planned d).answer ≡ Ok t → (links : List Link) (before after : List G)
      → Stand (guarded_if (plan_opened largest d t row).fault) (take (t.given + t.back) links) before after
      → Stand (guarded_in largest d row) (plan_links_of (planned d).answer links) before after
  stand_accepted t e links before after s =
      subst (λ (r : Result Totals Fault). Stand (guarded_after largest d r row) (plan_links_of r links) before after) (sym e) s
