-- The registers of a leaf loop and their cells show the same frames.
use Rattle.std.proofs.Common.{◌≡◌, ℕ, ◌+◌, List, [], ◌∷◌, Some, ap, sym, ◌∙◌}
use Rattle.std.specs.Prelude.{ℤ, pos}
use Rattle.loop_meaning.specs.declared.frame.Frame.{Frame}
use Rattle.loop_meaning.specs.declared.frame.Frame.TheVariants.{Range, Pair}
use Rattle.stack_marks.specs.Stacks.{StackValue, word_at}
use Rattle.tp_value.specs.declared.Op.{Op}
use Rattle.tpal_syntax.specs.declared.words.Word.{Word}
use Rattle.tpal_syntax.specs.declared.words.Word.TheVariants.{Int}
use Rattle.tpal_machine.specs.Reading.{register}
use Rattle.tpal_syntax.specs.declared.sites.LeafSite.{LeafSite}
use Rattle.handler_gen.specs.Frames.{HoldAccs, Shows}
use Rattle.handler_gen.specs.LeafCuts.{HaveAccs, HaveRegisters, ShowsAlike, ShowsLeaf}
use Rattle.handler_gen.specs.LeafSites.{registers_from, registers_of, stored_loop}

-- a cell has the number of its register, and the register that of the cell
cell_has : (s : StackValue) (a : ℤ) (w : Word) (n : ℤ) → word_at s a ≡ Some w → w ≡ Int n
    → word_at s a ≡ Some (Int n)
cell_has s a w n there is = there ∙ ap (λ (u : Word). Some u) is

register_has : (s : StackValue) (a : ℤ) (w : Word) (n : ℤ) → word_at s a ≡ Some w
    → word_at s a ≡ Some (Int n) → w ≡ Int n
register_has s a w n there is = let same : Some w ≡ Some (Int n) = sym there ∙ is in cc

accs_in_cells : (cells : List (ℕ × Op)) (accs : List (Op × ℤ)) (r z : ℕ) (words : List Word)
    (s : StackValue) → HaveRegisters (registers_from r cells) z words s
    → HaveAccs words r cells accs → HoldAccs s z cells accs
accs_in_cells [] [] r z words s same have = tt
accs_in_cells [] (acc ∷ accs) r z words s same have = absurd have
accs_in_cells (cell ∷ cells) [] r z words s same have = absurd have
accs_in_cells (cell ∷ cells) (acc ∷ accs) r z words s same have = (
  have.0,
  cell_has s (pos (z + cell.0)) (register words r) acc.1 same.0 have.1,
  accs_in_cells cells accs (r + 1) z words s same.1 have.2,
)

accs_in_registers : (cells : List (ℕ × Op)) (accs : List (Op × ℤ)) (r z : ℕ) (words : List Word)
    (s : StackValue) → HaveRegisters (registers_from r cells) z words s → HoldAccs s z cells accs
    → HaveAccs words r cells accs
accs_in_registers [] [] r z words s same hold = tt
accs_in_registers [] (acc ∷ accs) r z words s same hold = absurd hold
accs_in_registers (cell ∷ cells) [] r z words s same hold = absurd hold
accs_in_registers (cell ∷ cells) (acc ∷ accs) r z words s same hold = (
  hold.0,
  register_has s (pos (z + cell.0)) (register words r) acc.1 same.0 hold.1,
  accs_in_registers cells accs (r + 1) z words s same.1 hold.2,
)

module _ (site : LeafSite) (z : ℕ) (words : List Word) (s : StackValue)
    (same : HaveRegisters (registers_of site) z words s) where
  in_cells : (frame : Frame) → ShowsLeaf site frame words → Shows (stored_loop site) z frame s
  in_cells (Range next end accs) shows = (
    cell_has s (pos (z + site.cursor)) (register words 24) next same.0 shows.0,
    cell_has s (pos (z + site.bound)) (register words 25) end same.1.0 shows.1,
    accs_in_cells site.accs accs 26 z words s same.1.1 shows.2,
  )
  in_cells (Pair second args taken) shows = absurd shows

  in_registers : (frame : Frame) → Shows (stored_loop site) z frame s → ShowsLeaf site frame words
  in_registers (Range next end accs) shows = (
    register_has s (pos (z + site.cursor)) (register words 24) next same.0 shows.0,
    register_has s (pos (z + site.bound)) (register words 25) end same.1.0 shows.1,
    accs_in_registers site.accs accs 26 z words s same.1.1 shows.2,
  )
  in_registers (Pair second args taken) shows = absurd shows

pub alike : (site : LeafSite) → ShowsAlike site
alike site = record {
  in_cells = λ z frame words s same shows. in_cells site z words s same frame shows;
  in_registers = λ z frame words s same shows. in_registers site z words s same frame shows;
}
