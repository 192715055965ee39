-- Back links: which links make each part one group.
use Rattle.std.specs.Prelude.{ℕ, Bool, cond, not, ◌&&◌, List, [], ◌∷◌, ◌++◌, length, take, Some, None, Option}
use Rattle.std.specs.List.{range_with_len}
use Rattle.records.specs.declared.tables.Actor.{Actor}
use Rattle.records.specs.declared.tables.Link.{Link}
use Rattle.paths.specs.declared.delay.Delay.{Delay}
use Rattle.paths.specs.declared.reach.Reach.{Reach}
use Rattle.planning.specs.declared.End.{End}
use Rattle.planning.specs.declared.End.TheVariants.{Entry, Exit}
use Rattle.planning.specs.Groups.{same_part, end_group, opens_group, opens_part, one_group, stand_in}

abbrev pub back_link : ℕ → ℕ → ℕ → Link
back_link u v d = record { sender = u; receiver = v; delay = d; mark = 3; size = 0 }

-- what groups and parts are read off
pub record Ground : Type 0 where
  pub actors : List Actor
  -- the least delays without back links
  pub delays : List Delay
  -- who shares a part
  pub joined : List Reach

abbrev pub count : Ground → ℕ
count g = length g.actors

-- u is the lowest actor of an entry or exit group in the part of p
unfoldable pub heads : Ground → End → ℕ → ℕ → Bool
heads g end p u =
    same_part (count g) g.joined p u && (opens_group (count g) g.delays u && end_group end (count g) g.delays u)

abbrev pub stand : Ground → ℕ → ℕ
stand g u = stand_in g.actors (count g) g.delays u

-- those of us that head a group
abbrev pub heads_among : Ground → End → ℕ → List ℕ → List ℕ
heads_among g end p [] = []
heads_among g end p (u ∷ us) = cond (heads g end p u) (u ∷ heads_among g end p us) (heads_among g end p us)

-- a link of delay 0 from the group that is headed by an earlier actor, if any, to that headed by u
abbrev pub link_from : Ground → Option ℕ → ℕ → List Link
link_from g None u = []
link_from g (Some w) u = back_link (stand g w) (stand g u) 0 ∷ []

-- such links from each group to the next
abbrev pub chain : Ground → Option ℕ → List ℕ → List Link
chain g earlier [] = []
chain g earlier (u ∷ us) = link_from g earlier u ++ chain g (Some u) us

-- the first and the last of us, or p where there is none
abbrev pub first_or : ℕ → List ℕ → ℕ
first_or p [] = p
first_or p (u ∷ us) = u

abbrev pub last_or : ℕ → List ℕ → ℕ
last_or p [] = p
last_or p (u ∷ us) = last_or u us

abbrev pub groups_of : Ground → End → ℕ → List ℕ
groups_of g end p = heads_among g end p (range_with_len 0 (count g))

-- from the last exit group to the first entry group
abbrev pub closing : Ground → ℕ → ℕ → Link
closing g lead p =
    back_link (stand g (last_or p (groups_of g Exit p))) (stand g (first_or p (groups_of g Entry p))) lead

-- the back links of the part whose lowest actor is p
unfoldable pub part_backs : Ground → ℕ → ℕ → List Link
part_backs g lead p = chain g None (groups_of g Entry p) ++ (chain g None (groups_of g Exit p) ++ (closing g lead p ∷ []))

-- p is the lowest actor of a part of several groups
abbrev pub wants_backs : Ground → ℕ → Bool
wants_backs g p = opens_part (count g) g.joined p && not (one_group (count g) g.delays g.joined p)

-- part by part
abbrev pub backs_among : Ground → ℕ → List ℕ → List Link
backs_among g lead [] = []
backs_among g lead (p ∷ ps) = cond (wants_backs g p) (part_backs g lead p) [] ++ backs_among g lead ps

-- the back links, in their order; there is room for 15
unfoldable pub backs : Ground → ℕ → List Link
backs g lead = take 15 (backs_among g lead (range_with_len 0 (count g)))
