-- The three ways in which a survey ends.
use Rattle.std.proofs.Common.{◌≡◌, ℕ, ◌*◌, List, ◌++◌, map, length, take, drop, Ok, Err, sym, ap, ◌∙◌}
use Rattle.std.proofs.lemmas.List.{take_at}
use Rattle.records.specs.declared.fault.Fault.{Fault}
use Rattle.records.specs.declared.tables.Actor.{Actor}
use Rattle.records.specs.declared.tables.Edge.{Edge}
use Rattle.records.specs.declared.tables.Link.{Link}
use Rattle.records.specs.Tables.{link_edge}
use Rattle.paths.specs.Algebra.{Ops}
use Rattle.planning.specs.declared.Sight.{Sight}
use Rattle.planning.specs.Edges.{orders}
use Rattle.planning.specs.Tables.{paths_over}
use Rattle.planning.specs.Planning.{Given, Outcome, over, tables_check, cycles_check, refused, deadlocked, live, unless, surveyed}
use Rattle.planning.proofs.Standing.{length_paths_over}

-- a filled workspace
pub filled_over : {M : Type 0} (s : Sight) (o : Ops M) (actors : List Actor) (links : List Link) (cells after : List M)
    → after ≡ paths_over s o (length actors) (orders actors ++ map link_edge links) ++ drop (length actors * length actors) cells
    → after ≡ over (paths_over s o (length actors) (orders actors ++ map link_edge links)) cells
filled_over s o actors links cells after is =
    let es : List Edge = orders actors ++ map link_edge links in
    is ∙ ap (λ i. paths_over s o (length actors) es ++ drop i cells) (sym (length_paths_over o (length actors) s es))

-- its front
pub front_of : {M : Type 0} (s : Sight) (o : Ops M) (n : ℕ) (es : List Edge) (cells after : List M) → after ≡ over (paths_over s o n es) cells
    → take (n * n) after ≡ paths_over s o n es
front_of s o n es cells after is =
    ap (take (n * n)) is ∙ take_at (paths_over s o n es) _ (n * n) (length_paths_over o n s es)

module _ {X : Type 0} (d : Given) (go : Outcome X) where
  ends_refused : (f : Fault) → Err f ≡ tables_check d → unless (tables_check d) (refused d) (unless (cycles_check d) (deadlocked d) go) ≡ refused d f
  ends_refused f e = ap (λ r. unless r (refused d) (unless (cycles_check d) (deadlocked d) go)) (sym e)

  module _ (ok : Ok tt ≡ tables_check d) where
    ends_deadlocked : (f : Fault) → Err f ≡ cycles_check d → unless (tables_check d) (refused d) (unless (cycles_check d) (deadlocked d) go) ≡ deadlocked d f
    ends_deadlocked f e =
        ap (λ r. unless r (refused d) (unless (cycles_check d) (deadlocked d) go)) (sym ok) ∙ ap (λ r. unless r (deadlocked d) go) (sym e)

    ends_live : Ok tt ≡ cycles_check d → unless (tables_check d) (refused d) (unless (cycles_check d) (deadlocked d) go) ≡ go
    ends_live e =
        ap (λ r. unless r (refused d) (unless (cycles_check d) (deadlocked d) go)) (sym ok) ∙ ap (λ r. unless r (deadlocked d) go) (sym e)

module _ (d : Given) where
  pub survey_refused : (f : Fault) → Err f ≡ tables_check d → surveyed d ≡ refused d f
  unfolding surveyed
  survey_refused f e = ends_refused d (live d) f e

  pub survey_deadlocked : Ok tt ≡ tables_check d → (f : Fault) → Err f ≡ cycles_check d → surveyed d ≡ deadlocked d f
  unfolding surveyed
  survey_deadlocked ok f e = ends_deadlocked d (live d) ok f e

  pub survey_live : Ok tt ≡ tables_check d → Ok tt ≡ cycles_check d → surveyed d ≡ live d
  unfolding surveyed
  survey_live ok e = ends_live d (live d) ok e
