-- What is wrong with the first line of a block.
use Rattle.std.proofs.Common.{◌≡◌, ℕ, ◌≤◌, true, List, [], ◌∷◌, ◌++◌, length, Some, None}
use Rattle.std.specs.Prelude.{codes}
use Rattle.tpal_syntax.specs.declared.notes.Note.{Note}
use Rattle.tpal_syntax.specs.declared.notes.Note.TheVariants as note
use Rattle.tpal_syntax.specs.declared.blocks.Block.{Block}
use Rattle.tpal_syntax.specs.declared.blocks.CodeTable.{CodeTable}
use Rattle.tpal_syntax.specs.declared.versions.Version.{Version}
use Rattle.tpal_syntax.specs.Readers.{after}
use Rattle.tpal_asm.specs.declared.fault.Wrong.{Wrong}
use Rattle.tpal_asm.specs.declared.fault.Wrong.TheVariants as wrongs
use Rattle.tpal_asm.specs.Reading.{ended, header_rest}
use Rattle.tpal_asm.specs.Labels.{Head, names_of, place_of}
use Rattle.tpal_asm.specs.Drafts.{Outside}
use Rattle.tpal_asm.specs.Faults.{IsWrong, OnWrong}
use Rattle.tpal_asm.specs.Steps.{NoteUnfit, is_numbered}
use Rattle.tpal_asm.proofs.InsideFaults.{Finds}
use Rattle.tpal_asm.proofs.HeaderSteps.{ready_unformed, target_unformed, ready_unlabelled}
use Rattle.tpal_asm.proofs.HeaderSteps.{target_unlabelled, ready_formed, target_formed}

module _ (v : Version) (heads : List Head) (tables : List CodeTable) (blocks : List Block) (few : length tables ≤ 16) (room : length blocks ≤ 65536)
    (finds : Finds (place_of heads) (names_of heads) 4294967295) (line bytes : List ℕ) (line_is : line ≡ bytes ++ (10 ∷ [])) (no_table : after (codes "table t") line ≡ None)
    (name : List ℕ) (x : Note) (read : ended (header_rest v (place_of heads) line) ≡ Some (name, x)) (numbered : is_numbered v (length blocks) line ≡ true) where
  -- a note that is unfit makes the line wrong
  pub note_wrong : (y : Note) → x ≡ y → (w : Wrong) → NoteUnfit heads (length tables) y w → OnWrong w (IsWrong v heads (Outside tables blocks) bytes w)
  note_wrong note.Plain is w bad = absurd bad
  note_wrong (note.Ready h) is wrongs.Form bad = ready_unformed v heads tables blocks few room 4294967295 finds line bytes line_is no_table name x read numbered h is bad
  note_wrong (note.Ready h) is wrongs.Label bad =
      (ready_formed v heads tables blocks few room 4294967295 finds line bytes line_is no_table name x read numbered h is bad, ready_unlabelled v heads tables blocks few room 4294967295 finds line bytes line_is no_table name x read numbered h is bad)
  note_wrong (note.Ready h) is wrongs.Limit bad = absurd bad
  note_wrong (note.Ready h) is wrongs.NoMemory bad = tt
  note_wrong (note.Target t) is wrongs.Form bad = target_unformed v heads tables blocks few room 4294967295 finds line bytes line_is no_table name x read numbered t is bad
  note_wrong (note.Target t) is wrongs.Label bad =
      (target_formed v heads tables blocks few room 4294967295 finds line bytes line_is no_table name x read numbered t is bad.0, target_unlabelled v heads tables blocks few room 4294967295 finds line bytes line_is no_table name x read numbered t is bad.1)
  note_wrong (note.Target t) is wrongs.Limit bad = absurd bad
  note_wrong (note.Target t) is wrongs.NoMemory bad = tt

-- what is said for each line that there may be, is said
pub each_line : (w : Wrong) (line : List ℕ) (Q : List ℕ → Type 0) → ((bytes : List ℕ) → line ≡ bytes ++ (10 ∷ []) → OnWrong w (Q bytes)) → OnWrong w ((bytes : List ℕ) → line ≡ bytes ++ (10 ∷ []) → Q bytes)
each_line wrongs.Form line Q h = h
each_line wrongs.Label line Q h = h
each_line wrongs.Limit line Q h = h
each_line wrongs.NoMemory line Q h = tt
