-- The labels of a code fit into 16 bits.
use Rattle.std.proofs.Common.{◌≡◌, ℕ, zero, suc, ◌<◌, ◌≤◌, List, [], ◌∷◌, Option, Some, None, refl, length, slice_get, arith}
use Rattle.std.proofs.lemmas.Option.{slice_get_within}
use Rattle.std.specs.List.{AllByRecursion}
use Rattle.tpal_syntax.specs.declared.blocks.Block.{Block}
use Rattle.tpal_syntax.specs.declared.blocks.CodeTable.{CodeTable}
use Rattle.tpal_syntax.specs.declared.notes.Note.{Note}
use Rattle.tpal_syntax.specs.declared.notes.Note.TheVariants as note
use Rattle.tpal_syntax.specs.Conditions.{IsHandler, IsNote, IsBlock, IsCode}
use Rattle.tpal_verify.specs.Rules.{note_of}
use Rattle.tpal_verify.specs.Fitting.{HandlerFits, LabelsFit}

module _ (tables : List CodeTable) (blocks : List Block) (few : length blocks ≤ 65536) where
  is_block : (h : ℕ) (o : Option Block) → slice_get blocks h ≡ o → IsHandler o → h < 65536
  is_block h None q i = absurd i
  is_block h (Some b) q i = let less = slice_get_within blocks h b q in omega (arith, less, few)

  note_fits : (n : Note) → IsNote tables blocks n → HandlerFits n
  note_fits note.Plain i = tt
  note_fits (note.Ready h) i = is_block h (slice_get blocks h) refl i
  note_fits (note.Target t) i = tt

  each_fits : (bs : List Block) → AllByRecursion (IsBlock tables blocks) bs → (l : ℕ) → HandlerFits (note_of (slice_get bs l))
  each_fits [] w l = tt
  each_fits (b ∷ bs) w zero = note_fits b.note w.0.note
  each_fits (b ∷ bs) w (suc l) = each_fits bs w.1 l

pub labels_fit : (tables : List CodeTable) (blocks : List Block) → IsCode tables blocks → LabelsFit blocks
labels_fit tables blocks w = record { few = w.few_blocks; handlers = each_fits tables blocks w.few_blocks blocks w.each_block }
