-- The worked examples: texts, what each is listed as, and what calls in a run of its plan are answered.
use Rattle.std.specs.Prelude.{◌≡◌, ℕ, ◌+◌, false, List, [], ◌∷◌, length, replicate, codes}
use Rattle.records.specs.Tables.{no_actor, no_link}
use Rattle.paths.specs.Models.{no_path, reach}
use Rattle.listing.specs.Listed.{listed}
use Rattle.running.specs.declared.Call.{Call}
use Rattle.running.specs.declared.Call.TheVariants.{Start, Finish, Cells}
use Rattle.worked.specs.Answered.{answers_to, done, refused}

pub record Example : Type 0 where
  pub text : List ℕ
  pub listing : List ℕ
  pub calls : List Call
  -- an answer for each, by a number and its values
  pub answers : List (ℕ × List ℕ)

-- the bytes listed for a text, in tables and workspaces for 64 actors and 256 links
unfoldable pub listing_of : List ℕ → List ℕ
listing_of text =
    (listed text (replicate 64 no_actor) (replicate 271 no_link) (replicate 4096 no_path) (replicate 4096 (reach false))).bytes

-- two actors on each of two processors; one wait implies the others
abbrev pub two_processors_one_feedback : Example
two_processors_one_feedback = record {
  text = codes "R 1\nA 0 30\nA 1 20\nA 0 10\nA 1 40\nL 0 1 0\nL 0 3 0\nL 2 3 1\n";
  listing = codes "actors 4 links 3 returns 1\nkept 0 0 1 0 2\ndrop 1 0 3 0 3\ndrop 2 2 3 1 3\nback 3 1 2 1 2\ncost 12 4\n";
  calls = Start 0 ∷ Start 1 ∷ Start 2 ∷ Finish 0 ∷ Start 1 ∷ Start 2 ∷ Finish 2 ∷ Start 0 ∷ Cells 0 ∷ Finish 0 ∷ Start 2 ∷ [];
  answers =
      done
      -- the link from 0 is empty
      ∷ refused 20 0
      -- it is the turn of 0, which runs
      ∷ refused 19 2
      ∷ done
      ∷ done
      ∷ done
      ∷ done
      ∷ done
      -- two values, of which one is being made and none is used up
      ∷ (2, 2 ∷ 0 ∷ 1 ∷ [])
      ∷ done
      -- the back link is empty
      ∷ refused 20 3 ∷ [];
}

-- no line at all
abbrev pub empty_text : Example
empty_text = record {
  text = codes "";
  listing = codes "refused 5 table 0\n";
  calls = [];
  answers = [];
}

-- an actor that waits for itself
abbrev pub self_link_without_delay : Example
self_link_without_delay = record {
  text = codes "A 0 1\nL 0 0 0\n";
  listing = codes "refused 11 plan 0\n";
  calls = [];
  answers = [];
}

-- an actor that waits for its last firing
abbrev pub self_link_with_delay : Example
self_link_with_delay = record {
  text = codes "A 0 1\nL 0 0 1\n";
  listing = codes "actors 1 links 1 returns 0\nhome 0 0 0 1 0\ncost 0 0\n";
  calls = [];
  answers = [];
}

-- each waits for the other, once with a delay
abbrev pub ring_of_two : Example
ring_of_two = record {
  text = codes "R 1\nA 0 1\nA 1 1\nL 0 1 0\nL 1 0 1\n";
  listing = codes "actors 2 links 2 returns 0\nkept 0 0 1 0 1\nkept 1 1 0 1 1\ncost 4 4\n";
  calls = [];
  answers = [];
}

-- the same link twice: the first is kept
abbrev pub twins : Example
twins = record {
  text = codes "R 1\nA 0 1\nA 1 1\nL 0 1 0\nL 0 1 0\n";
  listing = codes "actors 2 links 2 returns 1\nkept 0 0 1 0 1\ndrop 1 0 1 0 1\nback 2 1 0 1 1\ncost 8 4\n";
  calls = [];
  answers = [];
}

-- the longer delay is implied by the shorter
abbrev pub longer_beside_shorter : Example
longer_beside_shorter = record {
  text = codes "R 1\nA 0 1\nA 1 1\nL 0 1 2\nL 0 1 1\n";
  listing = codes "actors 2 links 2 returns 1\ndrop 0 0 1 2 3\nkept 1 0 1 1 2\nback 2 1 0 1 2\ncost 8 4\n";
  calls = [];
  answers = [];
}

-- two parts, each with its own back link
abbrev pub two_pairs : Example
two_pairs = record {
  text = codes "R 1\nA 0 1\nA 1 1\nA 2 1\nA 3 1\nL 0 1 0\nL 2 3 0\n";
  listing = codes "actors 4 links 2 returns 2\nkept 0 0 1 0 1\nkept 1 2 3 0 1\nback 2 1 0 1 1\nback 3 3 2 1 1\ncost 8 8\n";
  calls = [];
  answers = [];
}

abbrev pub examples : List Example
examples =
    two_processors_one_feedback
    ∷ empty_text
    ∷ self_link_without_delay
    ∷ self_link_with_delay
    ∷ ring_of_two
    ∷ twins
    ∷ longer_beside_shorter
    ∷ two_pairs ∷ []

-- the text is listed, and the calls in a run of its plan are answered, as the example says
abbrev pub Holds : Example → Type 0
Holds e = (listing_of e.text ≡ e.listing) × (answers_to e.text e.calls ≡ e.answers)

abbrev pub Hold : List Example → Type 0
Hold [] = Unit {0}
Hold (e ∷ es) = Holds e × Hold es

-- how many calls the examples make
abbrev pub calls_made : List Example → ℕ
calls_made [] = 0
calls_made (e ∷ es) = length e.calls + calls_made es
