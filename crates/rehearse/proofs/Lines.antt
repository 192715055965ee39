-- What numbered lines of calls say, by the first of them that makes no call, and by the calls of the others.
use Rattle.std.proofs.Common.{◌≡◌, ℕ, ◌+◌, true, false, Bool, cond, not, List, [], ◌∷◌, ◌++◌, map, is_some, Some, None, refl, ap}
use Rattle.std.specs.List.{enumerate_from, find, filter_map, cons_option}
use Rattle.std.specs.Option.{option_map}
use Rattle.running.specs.declared.Call.{Call}
use Rattle.running.specs.declared.Step.{Step}
use Rattle.running.specs.declared.Answer.TheVariants.{Open}
use Rattle.rehearse.specs.Calls.{call_of, first_bad, open_step, steps_of}

abbrev pub is_bad : ℕ × List ℕ → Bool
is_bad line = not (is_some (call_of line.1))

abbrev pub number_of : ℕ × List ℕ → ℕ
number_of line = line.0

pub bad_found : (n : ℕ) (ls : List (List ℕ)) → first_bad n ls ≡ option_map number_of (find is_bad (enumerate_from n ls))
bad_found n [] = refl
bad_found n (l ∷ ls) =
    elim (is_some (call_of l))
    as (λ t. cond t (first_bad (n + 1) ls) (Some n)
    ≡ option_map number_of (cond (not t) (Some (n, l)) (find is_bad (enumerate_from (n + 1) ls))))
    [ true ↦ bad_found (n + 1) ls | false ↦ refl ]

abbrev pub to_do : Call → Step
to_do call = record { call = call; answer = Open }

pub steps_are : (n : ℕ) (ls : List (List ℕ))
    → steps_of ls ≡ map to_do (filter_map (λ line. call_of line.1) (enumerate_from n ls))
steps_are n [] = refl
steps_are n (l ∷ ls) =
    elim (call_of l)
    as (λ o. open_step o ++ steps_of ls
    ≡ map to_do (cons_option o (filter_map (λ line. call_of line.1) (enumerate_from (n + 1) ls))))
    [ None ↦ steps_are (n + 1) ls | Some call ↦ ap (λ (ss : List Step). to_do call ∷ ss) (steps_are (n + 1) ls) ]
