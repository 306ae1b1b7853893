-- Blocks whose labels fit into kinds.
use Rattle.std.specs.Prelude.{ℕ, ◌<◌, ◌≤◌, List, length, slice_get}
use Rattle.tpal_syntax.specs.declared.blocks.Block.{Block}
use Rattle.tpal_syntax.specs.declared.notes.Note.{Note}
use Rattle.tpal_syntax.specs.declared.notes.Note.TheVariants as note
use Rattle.tpal_verify.specs.Rules.{note_of}

abbrev pub HandlerFits : Note → Type 0
HandlerFits note.Plain = Unit {0}
HandlerFits (note.Ready handler) = handler < 65536
HandlerFits (note.Target target) = Unit {0}

-- each label has 16 bits
pub record LabelsFit (blocks : List Block) : Type 0 where
  pub few : length blocks ≤ 65536
  pub handlers : (l : ℕ) → HandlerFits (note_of (slice_get blocks l))
