-- Why a code text is refused, and lines that end with a position.
use Rattle.std.proofs.Common.{◌≡◌, ◌≢◌, ℕ, List, [], ◌∷◌, ◌++◌, refl, ap, sym, ◌∙◌}
use Rattle.std.proofs.Common.{append_assoc}
use Rattle.std.specs.Prelude.{codes}
use Rattle.tpal_asm.specs.declared.fault.AsmFault.{AsmFault}
use Rattle.tpal_asm.specs.declared.fault.AsmFault.TheVariants.{Form, Label, Limit, NoMemory}
use Rattle.tpal_asm.specs.Faults.{FirstFault, OnFault}
use Rattle.tpal_tool.specs.CodeVerdict.{RefusesCode, faulty}
use Rattle.tpal_tool.specs.ExecLines.{assembly_line}

pub text_refused : (source : List ℕ) (fault : AsmFault) → fault ≢ NoMemory → OnFault fault (FirstFault source fault) → RefusesCode source (assembly_line fault)
text_refused source (Form line) other first = faulty (Form line) first refl
text_refused source (Label line) other first = faulty (Label line) first refl
text_refused source (Limit line) other first = faulty (Limit line) first refl
text_refused source NoMemory other first = absurd (other refl)

-- a position behind a line, piece by piece
pub position_behind : (line digits : List ℕ) → line ++ (codes ":" ++ digits ++ 10 ∷ []) ≡ line ++ codes ":" ++ digits ++ 10 ∷ []
position_behind line digits =
    sym (append_assoc line (codes ":" ++ digits) (10 ∷ [])) ∙ ap (λ (l : List ℕ). l ++ 10 ∷ []) (sym (append_assoc line (codes ":") digits))
