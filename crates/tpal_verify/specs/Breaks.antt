-- The first rule that a code breaks, and which codes are accepted.
use Rattle.std.specs.Prelude.{◌≡◌, ℕ, ◌+◌, Bool, true, false, not, ◌&&◌, ◌||◌, ◌==◌, nat_lt}
use Rattle.std.specs.Prelude.{if◌then◌else◌, List, [], ◌∷◌, ◌++◌, map, length}
use Rattle.std.specs.Prelude.{Option, Some, None}
use Rattle.std.specs.List.{list_all}
use Rattle.tpal_syntax.specs.declared.blocks.Block.{Block}
use Rattle.tpal_syntax.specs.declared.notes.Note.{Note}
use Rattle.tpal_syntax.specs.declared.notes.Note.TheVariants as note
use Rattle.tpal_syntax.specs.Listing.{Listing}
use Rattle.tpal_verify.specs.declared.kinds.Kind.{Kind}
use Rattle.tpal_verify.specs.declared.kinds.Kind.TheVariants.{Any}
use Rattle.tpal_verify.specs.declared.trace.Trace.{Trace}
use Rattle.tpal_verify.specs.Kinds.{kind_eq}
use Rattle.tpal_verify.specs.Shapes.{first_shape}
use Rattle.tpal_verify.specs.Flat.{Ground, ground_of, unflat_in}
use Rattle.tpal_verify.specs.Rounds.{Shapes, traces, all_joins, found, flows_of, holds, holds_all}
use Rattle.tpal_verify.specs.Rounds.{least, join_in}

-- ---- the registers that renamings list

abbrev pub listed_by : Note → List ℕ
listed_by note.Plain = []
listed_by (note.Ready handler) = []
listed_by (note.Target target) = map (λ p. p.0) target.renames

abbrev pub listed : List Block → List ℕ
listed [] = []
listed (block ∷ blocks) = listed_by block.note ++ listed blocks

-- each listed register is a number at every join of a side's record, or that record at every one
abbrev pub lists_agree : List (List Kind) → List ℕ → Bool
lists_agree joins registers = list_all (λ r. not (kind_eq (found joins r) Any)) registers

-- ---- the breaks of one block

-- a position and a rule
abbrev pub Spot : Type 0
Spot = ℕ × ℕ

abbrev pub is_before : Spot → Spot → Bool
is_before a b = nat_lt a.0 b.0 || (a.0 == b.0 && nat_lt a.1 b.1)

-- the lesser position, and at one position the lesser rule
abbrev pub earlier : Option Spot → Option Spot → Option Spot
earlier None b = b
earlier (Some a) None = Some a
earlier (Some a) (Some b) = if is_before b a then Some b else Some a

-- rule 1 is asked of every block
abbrev pub flat_break : Option ℕ → Option Spot
flat_break None = None
flat_break (Some at) = Some (at, 1)

-- the others of the blocks that can be entered
abbrev pub walk_break : Option Trace → Option Spot
walk_break None = None
walk_break (Some trace) = trace.broken

-- where the listed registers don't agree, every join of a side's record is broken
abbrev pub list_break : Bool → ℕ → Option (List Kind) → Option Spot
list_break true at join = None
list_break false at None = None
list_break false at (Some registers) = Some (at, 6)

abbrev pub break_in : Ground → Bool → ℕ → Block → Option Trace → Option Spot
break_in whole agree l block trace =
    earlier (flat_break (unflat_in whole (l == 0) block))
    (earlier (walk_break trace) (list_break agree (length block.body) (join_in trace)))

-- ---- the first break

-- a block, a position and a rule
abbrev pub Break : Type 0
Break = ℕ × ℕ × ℕ

abbrev pub break_or : ℕ → Option Spot → (Unit {0} → Option Break) → Option Break
break_or l None later = later tt
break_or l (Some spot) later = Some (l, spot.0, spot.1)

abbrev pub first_from : Ground → Bool → ℕ → List Block → List (Option Trace) → Option Break
first_from whole agree l [] traces = None
first_from whole agree l (block ∷ blocks) [] = None
first_from whole agree l (block ∷ blocks) (trace ∷ traces) =
    break_or l (break_in whole agree l block trace)
    (λ _. first_from whole agree (l + 1) blocks traces)

-- the least block, there the least position, and there the least rule, that an assignment breaks
abbrev pub break_by : Ground → Shapes → Option Break
break_by whole shapes =
    first_from whole
    (lists_agree (all_joins (traces whole shapes)) (listed whole.blocks)) 0 whole.blocks
    (traces whole shapes)

abbrev pub first_break : Listing → Option Break
first_break code = break_by (ground_of code) (least (ground_of code))

-- the least assignment breaks no rule
abbrev pub Accepted : Listing → Type 0
Accepted code = first_break code ≡ None

-- ---- assignments

-- An assignment holds what flows in, and meets all rules.
pub record MeetsRules (code : Listing) (shapes : Shapes) : Type 0 where
  pub each_block : length shapes ≡ length code.blocks
  pub first : holds shapes (0, first_shape (ground_of code).cells) ≡ true
  pub flows : holds_all shapes (flows_of (ground_of code) shapes) ≡ true
  pub rules : break_by (ground_of code) shapes ≡ None
