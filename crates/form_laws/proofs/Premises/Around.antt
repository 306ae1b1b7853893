-- What the `par` loops round statements allow.
use Rattle.std.proofs.Common.{◌≡◌, ℕ, List, refl}
use Rattle.std.specs.Prelude.{⊤}
use Rattle.loop_syntax.specs.declared.Carry.{Carry}
use Rattle.loop_syntax.specs.declared.ParLoop.{ParLoop}
use Rattle.loop_syntax.specs.declared.Program.{Program}
use Rattle.frame_machine.specs.Bodies.{MayCarry}
use Rattle.frame_machine.specs.Lawful.{Callable, modes_in}
use Rattle.frame_machine.specs.Modes.{Mode, Modes, all_whole, demoted}
use Rattle.frame_machine.specs.Modes as mode

-- no `par` is round statements, or in the body of the nearest one this may be done with tables
pub data Around : Type 0 where
  Free : Around
  Within : Modes → Around

abbrev pub modes_at : Around → Modes
modes_at Free = all_whole
modes_at (Within m) = m

-- a `par` with these carries may stand there
abbrev pub MayStand : Around → List Carry → Type 0
MayStand Free cs = ⊤
MayStand (Within m) cs = MayCarry m cs

-- the body of a `par` that stands there
abbrev pub in_body : Around → ParLoop → Around
in_body a l = Within (modes_in (modes_at a) l)

-- the body of a function that is called there
abbrev pub in_call : Around → Around
in_call a = Within (λ t. demoted (modes_at a t))

whole_demoted : (m : Mode) → m ≡ mode.Whole → demoted m ≡ mode.Whole
whole_demoted mode.Whole is = refl
whole_demoted mode.Closed is = is
whole_demoted (mode.OwnRow x) is = absurd (let no_way : mode.OwnRow x ≡ mode.Whole = is in cc)
whole_demoted (mode.OwnCell k x) is =
    absurd (let no_way : mode.OwnCell k x ≡ mode.Whole = is in cc)

pub demoted_whole : (m : Mode) → demoted m ≡ mode.Whole → m ≡ mode.Whole
demoted_whole mode.Whole is = refl
demoted_whole mode.Closed is = is
demoted_whole (mode.OwnRow x) is = absurd (let no_way : mode.Closed ≡ mode.Whole = is in cc)
demoted_whole (mode.OwnCell k x) is = absurd (let no_way : mode.Closed ≡ mode.Whole = is in cc)

pub demoted_no_row : (m : Mode) (x : List ℕ) → demoted m ≡ mode.OwnRow x → ⊥
demoted_no_row mode.Whole x is = absurd (let no_way : mode.Whole ≡ mode.OwnRow x = is in cc)
demoted_no_row mode.Closed x is = absurd (let no_way : mode.Closed ≡ mode.OwnRow x = is in cc)
demoted_no_row (mode.OwnRow y) x is =
    absurd (let no_way : mode.Closed ≡ mode.OwnRow x = is in cc)
demoted_no_row (mode.OwnCell k y) x is =
    absurd (let no_way : mode.Closed ≡ mode.OwnRow x = is in cc)

-- ---- a function that is called there

-- what may be called there may be called in it
pub callable_in_call : (p : Program) (a : Around) (f : List ℕ) → Callable p (modes_at a) f
    → Callable p (modes_at (in_call a)) f
callable_in_call p a f callable = λ t reads. whole_demoted (modes_at a t) (callable t reads)

pub whole_in_call : (a : Around) (t : List ℕ) → modes_at (in_call a) t ≡ mode.Whole
    → modes_at a t ≡ mode.Whole
whole_in_call a t is = demoted_whole (modes_at a t) is

-- it has no row of its own
pub no_row_in_call : (a : Around) (t x : List ℕ) → modes_at (in_call a) t ≡ mode.OwnRow x → ⊥
no_row_in_call a t x is = demoted_no_row (modes_at a t) x is
