-- The lines of the links, one after another.
use Rattle.std.proofs.Common.{◌≡◌, ℕ, ◌+◌, ◌<◌, List, ◌++◌, length, get_or, drop, sym, ap, ◌∙◌}
use Rattle.std.proofs.lemmas.List.{length-append, at_drop_more}
use Rattle.records.specs.declared.tables.Link.{Link}
use Rattle.listing.specs.Lines.{link_line}
use Rattle.listing.specs.Listing.{link_lines}

-- the next line, and those after it
module _ (links : List Link) (i : ℕ) (d : Link) (line : List ℕ) (within : i < length links) (is : line ≡ link_line i (get_or links i d)) where
  pub next_line : link_lines i (drop i links) ≡ line ++ link_lines (i + 1) (drop (i + 1) links)
  next_line =
      at_drop_more (link_lines i) links i d within ∙ ap (λ l. l ++ link_lines (i + 1) (drop (i + 1) links)) (sym is)

  pub next_length : length (link_lines i (drop i links)) ≡ length line + length (link_lines (i + 1) (drop (i + 1) links))
  next_length = ap length next_line ∙ length-append line (link_lines (i + 1) (drop (i + 1) links))
