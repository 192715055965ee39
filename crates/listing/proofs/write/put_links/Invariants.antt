-- What is left of the links, written from the present place on, ends where all of them would and leaves what they would.
use Rattle.std.proofs.Common.{◌≡◌, ◌+◌, length, drop}
use Rattle.listing.specs.Listing.{link_lines, written}
use Rattle.listing.proofs.write.put_links.Given as goal

abbrev pub invariant-loop-number : goal.invariant-loop-number
invariant-loop-number l =
    (l.at + length (link_lines l.number (drop l.number l.links)) ≡ l.start + length (link_lines 0 l.links))
    × (written l.out l.at (link_lines l.number (drop l.number l.links)) ≡ written l.initial.out l.start (link_lines 0 l.links))
