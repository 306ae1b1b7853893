-- Lines of a block that has begun.
use Rattle.std.proofs.Common.{◌≡◌, ◌⊎◌, ℕ, zero, suc, ◌<◌, Bool, true, false, ltb, ◌&&◌, List, []}
use Rattle.std.proofs.Common.{◌∷◌, ◌++◌, length, Some, get_or, refl, ap, ◌∙◌, inl, inr}
use Rattle.std.proofs.Common.{length-append, arith}
use Rattle.std.specs.Prelude.{codes}
use Rattle.std.specs.List.{list_all}
use Rattle.std.proofs.lemmas.Bool.{lt-ltb, ltb-true}
use Rattle.tpal_syntax.specs.declared.instructions.Value.{Value}
use Rattle.tpal_syntax.specs.declared.instructions.Value.TheVariants.{Reg, Int, Label, Nil}
use Rattle.tpal_syntax.specs.declared.instructions.Instr.{Instr}
use Rattle.tpal_syntax.specs.declared.instructions.Instr.TheVariants.{Move, Calc, IfJump, Load}
use Rattle.tpal_syntax.specs.declared.instructions.Instr.TheVariants.{Store, Salloc, Sfree, PrmPush}
use Rattle.tpal_syntax.specs.declared.instructions.Instr.TheVariants.{PrmPop, PrmDrop, PrmEmpty}
use Rattle.tpal_syntax.specs.declared.instructions.Instr.TheVariants.{PrmSplit, JrAlloc, Fork}
use Rattle.tpal_syntax.specs.declared.instructions.Instr.TheVariants.{Fetch, Put, Rows, Cols, Make}
use Rattle.tpal_syntax.specs.declared.instructions.Instr.TheVariants.{Tick, Trap, Print, Emit}
use Rattle.tpal_syntax.specs.declared.instructions.Term.{Term}
use Rattle.tpal_syntax.specs.declared.instructions.Term.TheVariants.{Jump, Halt, Join, Leave}
use Rattle.tpal_syntax.specs.declared.notes.Note.{Note}
use Rattle.tpal_syntax.specs.declared.blocks.Block.{Block}
use Rattle.tpal_syntax.specs.declared.blocks.CodeTable.{CodeTable}
use Rattle.tpal_syntax.specs.Parts.{is_word, is_register, is_offset, is_size, is_value, is_instr}
use Rattle.tpal_syntax.specs.Parts.{is_term}
use Rattle.tpal_syntax.specs.declared.versions.Version.{Version}
use Rattle.tpal_syntax.specs.declared.versions.Version.TheVariants.{One, Two}
use Rattle.tpal_syntax.specs.Text.{instr_text, term_text, stands_in}
use Rattle.tpal_print.proofs.Reading.{instr_at, term_at, relabel, relabel_value, relabel_term}
use Rattle.tpal_print.proofs.Pieces.{Words, and_left, and_right}
use Rattle.tpal_print.proofs.Lines.{term_comes}
use Rattle.tpal_asm.specs.Reading.{if_jump_rest, store_rest, salloc_rest, sfree_rest, prmpush_rest}
use Rattle.tpal_asm.specs.Reading.{prmpop_rest, prmempty_rest, prmsplit_rest, fork_rest, put_rest}
use Rattle.tpal_asm.specs.Reading.{make_rest, trap_rest, print_rest, emit_rest, load_rest}
use Rattle.tpal_asm.specs.Reading.{jralloc_rest, fetch_rest, rows_rest, cols_rest, move_rest}
use Rattle.tpal_asm.specs.Reading.{assigned_rest, changed_rest, stack_rest, table_rest, other_rest}
use Rattle.tpal_asm.specs.Reading.{instr_rest, jump_rest, join_rest, leave_rest, left_rest}
use Rattle.tpal_asm.specs.Reading.{term_rest}
use Rattle.tpal_asm.specs.Labels.{Head}
use Rattle.tpal_asm.specs.Drafts.{Draft, Inside, Says, an_instr, an_end, Outside}

-- the assembler reads as the printer's proof does
pub instr-same : (f : List ℕ → ℕ) (ts : List ℕ) → instr_rest f ts ≡ instr_at f ts
unfolding instr_rest changed_rest assigned_rest move_rest stack_rest other_rest table_rest if_jump_rest store_rest salloc_rest sfree_rest prmpush_rest prmpop_rest prmempty_rest prmsplit_rest fork_rest put_rest make_rest trap_rest print_rest emit_rest load_rest jralloc_rest fetch_rest rows_rest cols_rest
instr-same f ts = refl

term-same : (f : List ℕ → ℕ) (ts : List ℕ) → term_rest Two f ts ≡ term_at f ts
unfolding term_rest jump_rest join_rest left_rest leave_rest
term-same f ts = refl

two_comes : (f : List ℕ → ℕ) (names : List (List ℕ)) (blocks : ℕ) (t : Term) (more : List ℕ) → Words names blocks → is_term blocks t ≡ true
    → term_rest Two f (term_text names t ++ (10 ∷ more)) ≡ Some (relabel_term (λ l. f (get_or names l [])) t, 10 ∷ more)
two_comes f names blocks t more words ok = term-same f (term_text names t ++ (10 ∷ more)) ∙ term_comes f names blocks t more words ok

-- an end that stands in texts of the version is read from its line
pub term-comes : (v : Version) (f : List ℕ → ℕ) (names : List (List ℕ)) (blocks : ℕ) (t : Term) (more : List ℕ) → Words names blocks → is_term blocks t ≡ true → stands_in v t ≡ true
    → term_rest v f (term_text names t ++ (10 ∷ more)) ≡ Some (relabel_term (λ l. f (get_or names l [])) t, 10 ∷ more)
unfolding term_rest
term-comes Two f names blocks t more words ok stands = two_comes f names blocks t more words ok
term-comes One f names blocks (Jump value) more words ok stands = two_comes f names blocks (Jump value) more words ok
term-comes One f names blocks Halt more words ok stands = two_comes f names blocks Halt more words ok
term-comes One f names blocks (Join r) more words ok stands = two_comes f names blocks (Join r) more words ok
term-comes One f names blocks (Leave rec value) more words ok stands = absurd cc

-- ---- ends of lines

tail : {A : Type 0} → List A → List A
tail [] = []
tail (x ∷ xs) = xs

-- what stands before the last byte
pub end_is : (bytes x r : List ℕ) → bytes ++ (10 ∷ []) ≡ x ++ r → length r ≡ 1 → bytes ≡ x
end_is [] [] r e one = refl
end_is [] (c ∷ x) r e one = absurd (omega (arith, ap length e, length-append x r))
end_is (b ∷ bs) [] r e one = absurd (omega (arith, ap length e, length-append bs (10 ∷ [])))
end_is (b ∷ bs) (c ∷ x) r e one =
    let first : b ≡ c = cc in
    let rest : bs ++ (10 ∷ []) ≡ x ++ r = cc in
    ap (λ (a : ℕ). a ∷ bs) first ∙ ap (λ (xs : List ℕ). c ∷ xs) (end_is bs x r rest one)

-- ---- labels that are given anew

and_map : (a b c : Bool) → (b ≡ true → c ≡ true) → (a && b) ≡ true → (a && c) ≡ true
and_map true b c h e = h e
and_map false b c h e = absurd cc

value_again : (h : ℕ → ℕ) (blocks most : ℕ) → ((l : ℕ) → ltb l blocks ≡ true → ltb (h l) most ≡ true) → (v : Value) → is_value blocks v ≡ true → is_value most (relabel_value h v) ≡ true
value_again h blocks most below (Reg r) ok = ok
value_again h blocks most below (Int z) ok = ok
value_again h blocks most below (Label l) ok = below l ok
value_again h blocks most below Nil ok = refl

-- an instruction stays in its ranges where its label does
pub instr_again : (h : ℕ → ℕ) (tables blocks most : ℕ) → ((l : ℕ) → ltb l blocks ≡ true → ltb (h l) most ≡ true) → (i : Instr) → is_instr tables blocks i ≡ true → is_instr tables most (relabel h i) ≡ true
instr_again h tables blocks most below (Move to value) ok = and_map (is_register to) (is_value blocks value) (is_value most (relabel_value h value)) (value_again h blocks most below value) ok
instr_again h tables blocks most below (Calc to left op right) ok = and_map (is_register to && is_register left) (is_value blocks right) (is_value most (relabel_value h right)) (value_again h blocks most below right) ok
instr_again h tables blocks most below (IfJump test label) ok = and_map (is_register test) (ltb label blocks) (ltb (h label) most) (below label) ok
instr_again h tables blocks most below (Load to base off) ok = ok
instr_again h tables blocks most below (Store base off value) ok = and_map (is_register base && is_offset off) (is_value blocks value) (is_value most (relabel_value h value)) (value_again h blocks most below value) ok
instr_again h tables blocks most below (Salloc n) ok = ok
instr_again h tables blocks most below (Sfree n) ok = ok
instr_again h tables blocks most below (PrmPush base off cells split) ok = and_map (is_register base && is_offset off && is_size cells) (ltb split blocks) (ltb (h split) most) (below split) ok
instr_again h tables blocks most below (PrmPop base off) ok = ok
instr_again h tables blocks most below PrmDrop ok = refl
instr_again h tables blocks most below (PrmEmpty r) ok = ok
instr_again h tables blocks most below (PrmSplit base split) ok = ok
instr_again h tables blocks most below (JrAlloc to target) ok = and_map (is_register to) (ltb target blocks) (ltb (h target) most) (below target) ok
instr_again h tables blocks most below (Fork rec child) ok = and_map (is_register rec) (ltb child blocks) (ltb (h child) most) (below child) ok
instr_again h tables blocks most below (Fetch to table row col) ok = ok
instr_again h tables blocks most below (Put table row col value) ok = ok
instr_again h tables blocks most below (Rows to table) ok = ok
instr_again h tables blocks most below (Cols to table) ok = ok
instr_again h tables blocks most below (Make table rows cols place) ok = ok
instr_again h tables blocks most below Tick ok = refl
instr_again h tables blocks most below (Trap kind place) ok = ok
instr_again h tables blocks most below (Print r) ok = ok
instr_again h tables blocks most below (Emit table) ok = ok

pub term_again : (h : ℕ → ℕ) (blocks most : ℕ) → ((l : ℕ) → ltb l blocks ≡ true → ltb (h l) most ≡ true) → (t : Term) → is_term blocks t ≡ true → is_term most (relabel_term h t) ≡ true
term_again h blocks most below (Jump value) ok = value_again h blocks most below value ok
term_again h blocks most below Halt ok = refl
term_again h blocks most below (Join r) ok = ok
term_again h blocks most below (Leave rec value) ok = ok

-- ---- names

pub words-all : (names : List (List ℕ)) → list_all is_word names ≡ true → Words names (length names)
words-all [] ok l lt = absurd (omega (arith, ltb-true l 0 lt))
words-all (n ∷ names) ok zero lt = and_left (is_word n) (list_all is_word names) ok
words-all (n ∷ names) ok (suc l) lt =
    let below : l < length names = omega (arith, ltb-true (suc l) (length (n ∷ names)) lt) in
    words-all names (and_right (is_word n) (list_all is_word names) ok) l (lt-ltb l (length names) below)

-- ---- what a line inside a block says, and the next draft

pub inside_says : {v : Version} {heads : List Head} {names : List (List ℕ)} {tables : List CodeTable} {blocks : List Block} {name : List ℕ} {x : Note} {body : List Instr} {bytes : List ℕ} {next : Draft}
    → Says v heads names (Inside tables blocks name x body) bytes next
    → ((i : Instr) × (is_instr (length tables) (length names) i ≡ true) × (bytes ≡ codes "  " ++ instr_text names i) × (next ≡ Inside tables blocks name x (body ++ i ∷ [])))
    ⊎ ((t : Term) × (is_term (length names) t ≡ true) × (bytes ≡ codes "  " ++ term_text names t) × (next ≡ Outside tables (blocks ++ record { name = name; note = x; body = body; term = t } ∷ [])) × (stands_in v t ≡ true))
inside_says (an_instr tables blocks name x body i ok) = inl (i, ok, refl, refl)
inside_says (an_end tables blocks name x body t ok stands) = inr (t, ok, refl, refl, stands)
