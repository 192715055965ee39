-- What is left of the links fits what is left of the room just if all of them fit the room.
use Rattle.std.proofs.Common.{◌≡◌, leb, length, drop}
use Rattle.listing.specs.Listing.{link_lines}
use Rattle.listing.proofs.write.links_fit.Given as goal

abbrev pub invariant-loop-number : goal.invariant-loop-number
invariant-loop-number l =
    leb (length (link_lines l.number (drop l.number l.links))) l.left ≡ leb (length (link_lines 0 l.links)) l.room
