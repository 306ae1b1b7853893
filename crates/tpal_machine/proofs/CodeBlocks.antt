-- What is known of the blocks of a code.
use Rattle.std.proofs.Common.{◌≡◌, ℕ, zero, suc, List, [], ◌∷◌, Some, subst}
use Rattle.std.specs.Prelude.{IsTrue, slice_get}
use Rattle.std.specs.List.{AllByRecursion}
use Rattle.tpal_syntax.specs.declared.blocks.Block.{Block}
use Rattle.tpal_syntax.specs.declared.blocks.CodeTable.{CodeTable}
use Rattle.tpal_syntax.specs.declared.notes.Note.{Note}
use Rattle.tpal_syntax.specs.declared.notes.Note.TheVariants as note
use Rattle.tpal_syntax.specs.declared.notes.Target.{Target}
use Rattle.tpal_syntax.specs.Conditions.{IsCode, IsBlock, IsNote, are_distinct_tables}

-- what holds of each element holds of the one at an index
pub all_at : {X : Type 0} (P : X → Type 0) (xs : List X) (i : ℕ) (x : X) → AllByRecursion P xs → slice_get xs i ≡ Some x → P x
all_at P [] i x all is = cc
all_at P (y ∷ ys) zero x all is = let e : y ≡ x = cc in subst P e all.0
all_at P (y ∷ ys) (suc i) x all is = all_at P ys i x all.1 is

note_differs : (tables : List CodeTable) (blocks : List Block) (n : Note) (target : Target) → IsNote tables blocks n → n ≡ note.Target target → IsTrue (are_distinct_tables target.carries)
note_differs tables blocks note.Plain target right is = cc
note_differs tables blocks (note.Ready handler) target right is = cc
note_differs tables blocks (note.Target other) target right is =
    let e : other ≡ target = cc in subst (λ (t : Target). IsTrue (are_distinct_tables t.carries)) e right.tables_differ

-- a join target carries a table once
pub tables_differ : (tables : List CodeTable) (blocks : List Block) (l : ℕ) (block : Block) (target : Target) → IsCode tables blocks → slice_get blocks l ≡ Some block → block.note ≡ note.Target target → IsTrue (are_distinct_tables target.carries)
tables_differ tables blocks l block target right found is =
    note_differs tables blocks block.note target (all_at (IsBlock tables blocks) blocks l block right.each_block found).note is
