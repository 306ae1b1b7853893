-- Each instruction is read from its own line.
use Rattle.std.proofs.Common.{◌≡◌, ℕ, ◌^◌, ◌<◌, ◌≤◌, true, ltb, ◌&&◌, List, [], ◌∷◌, ◌++◌, Some}
use Rattle.std.proofs.Common.{None, get_or, pos, negsuc, refl, ap, ◌∙◌, append_assoc, arith}
use Rattle.std.specs.Prelude.{codes}
use Rattle.std.specs.Fmt.{decimal}
use Rattle.tpal_syntax.specs.declared.instructions.Value.{Value}
use Rattle.tpal_syntax.specs.declared.instructions.Value.TheVariants.{Reg, Int, Label, Nil}
use Rattle.tpal_syntax.specs.declared.instructions.Instr.{Instr}
use Rattle.tpal_syntax.specs.declared.instructions.Instr.TheVariants.{Move, Calc, IfJump, Load}
use Rattle.tpal_syntax.specs.declared.instructions.Instr.TheVariants.{Store, Salloc, Sfree, PrmPush}
use Rattle.tpal_syntax.specs.declared.instructions.Instr.TheVariants.{PrmPop, PrmDrop, PrmEmpty}
use Rattle.tpal_syntax.specs.declared.instructions.Instr.TheVariants.{PrmSplit, JrAlloc, Fork}
use Rattle.tpal_syntax.specs.declared.instructions.Instr.TheVariants.{Fetch, Put, Rows, Cols, Make}
use Rattle.tpal_syntax.specs.declared.instructions.Instr.TheVariants.{Tick, Trap, Print, Emit}
use Rattle.tpal_syntax.specs.declared.instructions.Term.{Term}
use Rattle.tpal_syntax.specs.declared.instructions.Term.TheVariants.{Jump, Halt, Join, Leave}
use Rattle.tpal_syntax.specs.Parts.{is_register, is_offset, is_size, is_place, is_value, is_instr}
use Rattle.tpal_syntax.specs.Parts.{is_term}
use Rattle.tpal_syntax.specs.Text.{cell_text, place_text, alu_text, value_text, instr_text}
use Rattle.tpal_syntax.specs.Text.{term_text}
use Rattle.tpal_syntax.specs.Readers.{after, value_at}
use Rattle.tpal_print.proofs.Reading.{assigned_at, instr_at, term_at, relabel_value, relabel}
use Rattle.tpal_print.proofs.Reading.{relabel_term}
use Rattle.tpal_print.proofs.Pieces.{stops, Words, and_left, and_right, below, word_comes}
use Rattle.tpal_print.proofs.Pieces.{register_comes, register_mid, table_comes, table_mid}
use Rattle.tpal_print.proofs.Pieces.{size_comes, size_mid, cell_comes, cell_mid, place_comes}
use Rattle.tpal_print.proofs.Pieces.{alu_mid, trap_mid, value_comes, no_digits, no_letter}

-- digits are no `rows`
no_rows : (n : ℕ) (rest : List ℕ) → n < 2 ^ 64 → after (codes "ows ") (decimal n ++ rest) ≡ None
no_rows n rest small = no_digits 111 (codes "ws ") n rest (no_letter 111 (omega arith)) small

-- what a register is assigned where only an operand stands there
move_comes : (f : List ℕ → ℕ) (names : List (List ℕ)) (blocks to : ℕ) (v : Value) (more : List ℕ) → Words names blocks → is_value blocks v ≡ true
    → assigned_at f to (value_text names v ++ (10 ∷ more)) ≡ Some (Move to (relabel_value (λ l. f (get_or names l [])) v), 10 ∷ more)
move_comes f names blocks to (Reg r) more words ok =
    let lt = below r 32 ok in
    rw (no_rows r (10 ∷ more) (omega arith), value_comes f names blocks (Reg r) (10 ∷ more) words ok refl) refl
move_comes f names blocks to (Int (pos n)) more words ok =
    let lt = below n 9223372036854775808 ok in
    let rest = 10 ∷ more in
    rw (
      no_digits 109 (codes "em[") n rest (no_letter 109 (omega arith)) (omega arith),
      no_digits 106 (codes "ralloc ") n rest (no_letter 106 (omega arith)) (omega arith),
      no_digits 102 (codes "etch ") n rest (no_letter 102 (omega arith)) (omega arith),
      no_digits 114 (codes "ows ") n rest (no_letter 114 (omega arith)) (omega arith),
      no_digits 99 (codes "ols ") n rest (no_letter 99 (omega arith)) (omega arith),
      value_comes f names blocks (Int (pos n)) rest words ok refl,
    ) refl
move_comes f names blocks to (Int (negsuc n)) more words ok = rw (value_comes f names blocks (Int (negsuc n)) (10 ∷ more) words ok refl) refl
move_comes f names blocks to (Label l) more words ok = rw (value_comes f names blocks (Label l) (10 ∷ more) words ok refl) refl
move_comes f names blocks to Nil more words ok = rw (value_comes f names blocks Nil (10 ∷ more) words ok refl) refl

-- an instruction is read from its line, with the labels that f gives
pub instr_comes : (f : List ℕ → ℕ) (names : List (List ℕ)) (tables blocks : ℕ) (i : Instr) (more : List ℕ) → Words names blocks → tables ≤ 16 → is_instr tables blocks i ≡ true
    → instr_at f (instr_text names i ++ (10 ∷ more)) ≡ Some (relabel (λ l. f (get_or names l [])) i, 10 ∷ more)
instr_comes f names tables blocks (Move to value) more words few ok =
    let okt = and_left (is_register to) (is_value blocks value) ok in
    let okv = and_right (is_register to) (is_value blocks value) ok in
    rw (register_mid to (codes " := " ++ value_text names value) (10 ∷ more) okt refl, move_comes f names blocks to value more words okv) refl
instr_comes f names tables blocks (Calc to left op right) more words few ok =
    let okab = and_left (is_register to && is_register left) (is_value blocks right) ok in
    let oka = and_left (is_register to) (is_register left) okab in
    let okb = and_right (is_register to) (is_register left) okab in
    let okv = and_right (is_register to && is_register left) (is_value blocks right) ok in
    let rest = 10 ∷ more in
    let lt = below left 32 okb in
    let tail = codes " " ++ (alu_text op ++ (codes " " ++ value_text names right)) in
    let reg : value_at f (((codes "r" ++ decimal left) ++ tail) ++ rest) ≡ Some (Reg left, tail ++ rest) = ap (value_at f) (append_assoc (codes "r" ++ decimal left) tail rest) ∙ value_comes f names blocks (Reg left) (tail ++ rest) words okb refl in
    let rows : after (codes "ows ") ((decimal left ++ tail) ++ rest) ≡ None = ap (after (codes "ows ")) (append_assoc (decimal left) tail rest) ∙ no_rows left (tail ++ rest) (omega arith) in
    rw (register_mid to (codes " := r" ++ (decimal left ++ tail)) rest oka refl, rows, reg, alu_mid op (value_text names right) rest, value_comes f names blocks right rest words okv refl) refl
instr_comes f names tables blocks (IfJump test label) more words few ok =
    let rest = 10 ∷ more in
    let s : stops rest ≡ true = refl in
    rw (
      register_mid test (codes ", @" ++ (get_or names label [])) rest (and_left (is_register test) (ltb label blocks) (ok)) refl,
      word_comes (get_or names label []) rest (words label (and_right (is_register test) (ltb label blocks) (ok))) s,
    ) refl
instr_comes f names tables blocks (Load to base off) more words few ok =
    let rest = 10 ∷ more in
    let s : stops rest ≡ true = refl in
    rw (
      register_mid to (codes " := " ++ (cell_text base off)) rest (and_left (is_register to) (is_register base) (and_left ((is_register to && is_register base)) (is_offset off) (ok))) refl,
      cell_comes base off rest (and_right (is_register to) (is_register base) (and_left ((is_register to && is_register base)) (is_offset off) (ok))) (and_right ((is_register to && is_register base)) (is_offset off) (ok)),
    ) refl
instr_comes f names tables blocks (Store base off value) more words few ok =
    let rest = 10 ∷ more in
    let s : stops rest ≡ true = refl in
    rw (
      cell_mid base off (codes " := " ++ (value_text names value)) rest (and_left (is_register base) (is_offset off) (and_left ((is_register base && is_offset off)) (is_value blocks value) (ok))) (and_right (is_register base) (is_offset off) (and_left ((is_register base && is_offset off)) (is_value blocks value) (ok))),
      value_comes f names blocks value rest words (and_right ((is_register base && is_offset off)) (is_value blocks value) (ok)) s,
    ) refl
instr_comes f names tables blocks (Salloc n) more words few ok =
    let rest = 10 ∷ more in
    let s : stops rest ≡ true = refl in
    rw (size_comes n rest (ok) s) refl
instr_comes f names tables blocks (Sfree n) more words few ok =
    let rest = 10 ∷ more in
    let s : stops rest ≡ true = refl in
    rw (size_comes n rest (ok) s) refl
instr_comes f names tables blocks (PrmPush base off cells split) more words few ok =
    let rest = 10 ∷ more in
    let s : stops rest ≡ true = refl in
    rw (
      cell_mid base off (codes ", " ++ (decimal cells ++ (codes ", @" ++ (get_or names split [])))) rest (and_left (is_register base) (is_offset off) (and_left ((is_register base && is_offset off)) (is_size cells) (and_left (((is_register base && is_offset off) && is_size cells)) (ltb split blocks) (ok)))) (and_right (is_register base) (is_offset off) (and_left ((is_register base && is_offset off)) (is_size cells) (and_left (((is_register base && is_offset off) && is_size cells)) (ltb split blocks) (ok)))),
      size_mid cells (codes ", @" ++ (get_or names split [])) rest (and_right ((is_register base && is_offset off)) (is_size cells) (and_left (((is_register base && is_offset off) && is_size cells)) (ltb split blocks) (ok))) refl,
      word_comes (get_or names split []) rest (words split (and_right (((is_register base && is_offset off) && is_size cells)) (ltb split blocks) (ok))) s,
    ) refl
instr_comes f names tables blocks (PrmPop base off) more words few ok =
    let rest = 10 ∷ more in
    let s : stops rest ≡ true = refl in
    rw (cell_comes base off rest (and_left (is_register base) (is_offset off) (ok)) (and_right (is_register base) (is_offset off) (ok))) refl
instr_comes f names tables blocks PrmDrop more words few ok = refl
instr_comes f names tables blocks (PrmEmpty r) more words few ok =
    let rest = 10 ∷ more in
    let s : stops rest ≡ true = refl in
    rw (register_comes r rest (ok) s) refl
instr_comes f names tables blocks (PrmSplit base split) more words few ok =
    let rest = 10 ∷ more in
    let s : stops rest ≡ true = refl in
    rw (
      register_mid base (codes ", r" ++ (decimal split)) rest (and_left (is_register base) (is_register split) (ok)) refl,
      register_comes split rest (and_right (is_register base) (is_register split) (ok)) s,
    ) refl
instr_comes f names tables blocks (JrAlloc to target) more words few ok =
    let rest = 10 ∷ more in
    let s : stops rest ≡ true = refl in
    rw (
      register_mid to (codes " := jralloc @" ++ (get_or names target [])) rest (and_left (is_register to) (ltb target blocks) (ok)) refl,
      word_comes (get_or names target []) rest (words target (and_right (is_register to) (ltb target blocks) (ok))) s,
    ) refl
instr_comes f names tables blocks (Fork rec child) more words few ok =
    let rest = 10 ∷ more in
    let s : stops rest ≡ true = refl in
    rw (
      register_mid rec (codes ", @" ++ (get_or names child [])) rest (and_left (is_register rec) (ltb child blocks) (ok)) refl,
      word_comes (get_or names child []) rest (words child (and_right (is_register rec) (ltb child blocks) (ok))) s,
    ) refl
instr_comes f names tables blocks (Fetch to table row col) more words few ok =
    let rest = 10 ∷ more in
    let s : stops rest ≡ true = refl in
    rw (
      register_mid to (codes " := fetch t" ++ (decimal table ++ (codes ", r" ++ (decimal row ++ (codes ", r" ++ (decimal col)))))) rest (and_left (is_register to) (ltb table tables) (and_left ((is_register to && ltb table tables)) (is_register row) (and_left (((is_register to && ltb table tables) && is_register row)) (is_register col) (ok)))) refl,
      table_mid tables table (codes ", r" ++ (decimal row ++ (codes ", r" ++ (decimal col)))) rest few (and_right (is_register to) (ltb table tables) (and_left ((is_register to && ltb table tables)) (is_register row) (and_left (((is_register to && ltb table tables) && is_register row)) (is_register col) (ok)))) refl,
      register_mid row (codes ", r" ++ (decimal col)) rest (and_right ((is_register to && ltb table tables)) (is_register row) (and_left (((is_register to && ltb table tables) && is_register row)) (is_register col) (ok))) refl,
      register_comes col rest (and_right (((is_register to && ltb table tables) && is_register row)) (is_register col) (ok)) s,
    ) refl
instr_comes f names tables blocks (Put table row col value) more words few ok =
    let rest = 10 ∷ more in
    let s : stops rest ≡ true = refl in
    rw (
      table_mid tables table (codes ", r" ++ (decimal row ++ (codes ", r" ++ (decimal col ++ (codes ", r" ++ (decimal value)))))) rest few (and_left (ltb table tables) (is_register row) (and_left ((ltb table tables && is_register row)) (is_register col) (and_left (((ltb table tables && is_register row) && is_register col)) (is_register value) (ok)))) refl,
      register_mid row (codes ", r" ++ (decimal col ++ (codes ", r" ++ (decimal value)))) rest (and_right (ltb table tables) (is_register row) (and_left ((ltb table tables && is_register row)) (is_register col) (and_left (((ltb table tables && is_register row) && is_register col)) (is_register value) (ok)))) refl,
      register_mid col (codes ", r" ++ (decimal value)) rest (and_right ((ltb table tables && is_register row)) (is_register col) (and_left (((ltb table tables && is_register row) && is_register col)) (is_register value) (ok))) refl,
      register_comes value rest (and_right (((ltb table tables && is_register row) && is_register col)) (is_register value) (ok)) s,
    ) refl
instr_comes f names tables blocks (Rows to table) more words few ok =
    let rest = 10 ∷ more in
    let s : stops rest ≡ true = refl in
    rw (
      register_mid to (codes " := rows t" ++ (decimal table)) rest (and_left (is_register to) (ltb table tables) (ok)) refl,
      table_comes tables table rest few (and_right (is_register to) (ltb table tables) (ok)) s,
    ) refl
instr_comes f names tables blocks (Cols to table) more words few ok =
    let rest = 10 ∷ more in
    let s : stops rest ≡ true = refl in
    rw (
      register_mid to (codes " := cols t" ++ (decimal table)) rest (and_left (is_register to) (ltb table tables) (ok)) refl,
      table_comes tables table rest few (and_right (is_register to) (ltb table tables) (ok)) s,
    ) refl
instr_comes f names tables blocks (Make table rows cols place) more words few ok =
    let rest = 10 ∷ more in
    let s : stops rest ≡ true = refl in
    rw (
      table_mid tables table (codes ", r" ++ (decimal rows ++ (codes ", r" ++ (decimal cols ++ (codes ", " ++ (place_text place)))))) rest few (and_left (ltb table tables) (is_register rows) (and_left ((ltb table tables && is_register rows)) (is_register cols) (and_left (((ltb table tables && is_register rows) && is_register cols)) (is_place place) (ok)))) refl,
      register_mid rows (codes ", r" ++ (decimal cols ++ (codes ", " ++ (place_text place)))) rest (and_right (ltb table tables) (is_register rows) (and_left ((ltb table tables && is_register rows)) (is_register cols) (and_left (((ltb table tables && is_register rows) && is_register cols)) (is_place place) (ok)))) refl,
      register_mid cols (codes ", " ++ (place_text place)) rest (and_right ((ltb table tables && is_register rows)) (is_register cols) (and_left (((ltb table tables && is_register rows) && is_register cols)) (is_place place) (ok))) refl,
      place_comes place rest (and_right (((ltb table tables && is_register rows) && is_register cols)) (is_place place) (ok)) s,
    ) refl
instr_comes f names tables blocks Tick more words few ok = refl
instr_comes f names tables blocks (Trap kind place) more words few ok =
    let rest = 10 ∷ more in
    let s : stops rest ≡ true = refl in
    rw (
      trap_mid kind (place_text place) rest,
      place_comes place rest (ok) s,
    ) refl
instr_comes f names tables blocks (Print r) more words few ok =
    let rest = 10 ∷ more in
    let s : stops rest ≡ true = refl in
    rw (register_comes r rest (ok) s) refl
instr_comes f names tables blocks (Emit table) more words few ok =
    let rest = 10 ∷ more in
    let s : stops rest ≡ true = refl in
    rw (table_comes tables table rest few (ok) s) refl

-- an end is read from its line
pub term_comes : (f : List ℕ → ℕ) (names : List (List ℕ)) (blocks : ℕ) (t : Term) (more : List ℕ) → Words names blocks → is_term blocks t ≡ true
    → term_at f (term_text names t ++ (10 ∷ more)) ≡ Some (relabel_term (λ l. f (get_or names l [])) t, 10 ∷ more)
term_comes f names blocks (Jump value) more words ok = rw (value_comes f names blocks value (10 ∷ more) words ok refl) refl
term_comes f names blocks Halt more words ok = refl
term_comes f names blocks (Join r) more words ok = rw (register_comes r (10 ∷ more) ok refl) refl
term_comes f names blocks (Leave rec value) more words ok =
    rw (
      register_mid rec (codes ", r" ++ decimal value) (10 ∷ more) (and_left (is_register rec) (is_register value) ok) refl,
      register_comes value (10 ∷ more) (and_right (is_register rec) (is_register value) ok) refl,
    ) refl

-- an end is no instruction
pub term_is_no_instr : (f : List ℕ → ℕ) (names : List (List ℕ)) (t : Term) (more : List ℕ) → instr_at f (term_text names t ++ more) ≡ None
term_is_no_instr f names (Jump value) more = refl
term_is_no_instr f names Halt more = refl
term_is_no_instr f names (Join r) more = refl
term_is_no_instr f names (Leave rec value) more = refl
