-- How the links of the cells stand for the list of marks.
use Rattle.std.specs.Prelude.{◌≡◌, ℕ, zero, suc, ◌-◌, ◌<◌, if◌then◌else◌, Option, None, Some, false}
use Rattle.std.specs.Prelude.{List, [], ◌∷◌, length, reverse, slice_index_or}
use Rattle.std.specs.Vec.{vec_capacity}
use Rattle.stack_marks.specs.declared.mark.Mark.{Mark}
use Rattle.stack_marks.specs.declared.links.Link.{Link}
use Rattle.stack_marks.specs.declared.links.Ends.{Ends}
use Rattle.stack_marks.specs.declared.links.Links.TheInside.{Inside}
use Rattle.stack_marks.specs.Links.{LinksValue}

-- the mark of a cell at a position
abbrev pub mark_of : ℕ → Link → Mark
mark_of at link = record { at = at; base = link.base; cells = link.cells; split = link.split }

-- the marks of the cells from a position upward
abbrev pub marks_from : ℕ → List Link → List Mark
marks_from at [] = []
marks_from at (link ∷ links) =
    if link.marked then mark_of at link ∷ marks_from (suc at) links else marks_from (suc at) links

abbrev pub links_value : Inside → LinksValue
links_value s =
    record {
      lowest = s.lowest;
      room = vec_capacity s.links;
      marks = marks_from s.lowest
          s.links.items;
    }

abbrev pub bare : Link
bare = record { base = 0; cells = 0; older = 0; newer = 0; split = 0; marked = false }

-- the link of the cell at a position
abbrev pub link_at : ℕ → List Link → ℕ → Link
link_at lowest links at = slice_index_or links (at - lowest) bare

-- the positions that a marked cell names
abbrev pub newer_at : ℕ → List Link → ℕ → ℕ
newer_at lowest links at = (link_at lowest links at).newer

abbrev pub older_at : ℕ → List Link → ℕ → ℕ
older_at lowest links at = (link_at lowest links at).older

-- the marks of so many cells, from the one at a position on, each next one by a link
abbrev pub followed : (lowest : ℕ) (links : List Link) (next : ℕ → ℕ) → ℕ → ℕ → List Mark
followed lowest links next zero at = []
followed lowest links next (suc n) at =
    mark_of at (link_at lowest links at) ∷ followed lowest links next n (next at)

-- Between the ends the links pass the marked cells, all and in order: from the oldest by the newer
-- links, and from the newest by the older links backwards. The marks are those of the cells whose
-- link is marked, so no other cell has one.
pub record PassAll (lowest : ℕ) (links : List Link) (outer : Ends) : Type 0 where
  pub some : 0 < length (marks_from lowest links)
  pub onward : followed lowest links (newer_at lowest links) (length (marks_from lowest links))
      outer.oldest
      ≡ marks_from lowest links
  pub backward : followed lowest links (older_at lowest links) (length (marks_from lowest links))
      outer.newest
      ≡ reverse (marks_from lowest links)

abbrev pub AreLinked : ℕ → List Link → Option Ends → Type 0
AreLinked lowest links None = marks_from lowest links ≡ []
AreLinked lowest links (Some outer) = PassAll lowest links outer

abbrev pub IsLinked : Inside → Type 0
IsLinked s = AreLinked s.lowest s.links.items s.ends
