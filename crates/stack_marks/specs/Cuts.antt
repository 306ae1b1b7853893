-- What is copied where a stack is cut.
use Rattle.std.specs.Prelude.{◌-◌, if◌then◌else◌, nat_le, List, length, take, drop}
use Rattle.tpal_syntax.specs.declared.words.Word.{Word}
use Rattle.stack_marks.specs.declared.cuts.Places.{Places}

-- the cells of the rest where these are no more than those of the left, else those of the left
abbrev pub copied : List Word → Places → List Word
copied cells at =
    if nat_le at.high (length cells - at.from) then take at.high cells else drop at.from cells
