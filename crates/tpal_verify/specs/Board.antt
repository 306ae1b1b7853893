-- The shapes of all blocks within a round: those that stand, and those that are staged.
use Rattle.std.specs.Prelude.{◌≡◌, ℕ, Bool, true, false, ◌||◌, ◌==◌, List, [], ◌∷◌, Option, Some}
use Rattle.std.specs.Prelude.{None}
use Rattle.std.specs.Prelude.{slice_index_or}
use Rattle.tpal_verify.specs.declared.board.Slot.{Slot}
use Rattle.tpal_verify.specs.Shapes.{Shape}
use Rattle.tpal_verify.specs.Rounds.{Shapes, shape_at}

-- the shapes before the round, those that it has come to, and the labels at which these may differ
pub record Board : Type 0 where
  pub now : Shapes
  pub next : Shapes
  pub changed : List ℕ

abbrev pub staged_or : Option Shape → Option Shape → Option Shape
staged_or None standing = standing
staged_or (Some s) standing = Some s

-- what a slot's block comes to
abbrev pub next_in : Slot → Option Shape
next_in slot = staged_or slot.staged slot.shape

-- a slot with its staged shape in place
abbrev pub placed : Slot → Slot
placed slot = record { shape = next_in slot; staged = None }

abbrev pub with_staged : Slot → Shape → Slot
with_staged slot next = record slot { staged = Some next }

abbrev pub begun : Shape → Slot
begun s = record { shape = Some s; staged = None }

abbrev pub is_some : Option Shape → Bool
is_some None = false
is_some (Some s) = true

abbrev pub is_in : List ℕ → ℕ → Bool
is_in [] l = false
is_in (x ∷ labels) l = x == l || is_in labels l

abbrev pub empty_slot : Slot
empty_slot = record { shape = None; staged = None }

abbrev pub staged_at : List Slot → ℕ → Option Shape
staged_at slots l = (slice_index_or slots l empty_slot).staged

-- the label of each staged shape is noted
abbrev pub AreNoted : List Slot → List ℕ → Type 0
AreNoted slots labels = (l : ℕ) → is_in labels l ≡ false → staged_at slots l ≡ None

-- two assignments are the same but at these labels
abbrev pub AreSameBut : List ℕ → Shapes → Shapes → Type 0
AreSameBut labels xs ys = (l : ℕ) → is_in labels l ≡ false → shape_at xs l ≡ shape_at ys l
