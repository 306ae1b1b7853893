-- Branches, and the law of `if`.
use Rattle.std.proofs.Common.{◌≡◌, ℕ, zero, suc, ◌≤◌, List, [], ◌∷◌, ◌++◌, length, take, Vec, refl}
use Rattle.std.proofs.Common.{sym, ap, subst, ◌∙◌, arith, append-nil, append_assoc}
use Rattle.std.specs.Prelude.{ℤ, pos, negsuc, Bool, true, false, Some}
use Rattle.std.proofs.lemmas.Bool.Decides.{Decides-int_eq}
use Rattle.std.specs.declared.alloc.Global.{Global}
use Rattle.std.specs.Ordering.{int_eq}
use Rattle.std.proofs.lemmas.List.{take-append-le, take_all, length-append}
use Rattle.loop_syntax.specs.declared.Expr.{Expr}
use Rattle.loop_syntax.specs.declared.Stmt.{Stmt}
use Rattle.loop_syntax.specs.declared.Stmt.TheVariants.{Let, Set, Put, If, If', While', Loop', Par'}
use Rattle.loop_syntax.specs.declared.Stmt.TheVariants.{Fold, Call, Both, Print, Emit, Leave, Fill}
use Rattle.loop_syntax.specs.declared.Stmt.TheBlock.{hidden-the_row-Stmt-0}
use Rattle.loop_meaning.specs.declared.value.Variable.{Variable}
use Rattle.loop_meaning.specs.State as meaning
use Rattle.loop_meaning.specs.State.{Ran}
use Rattle.loop_meaning.specs.Statements.{Setting, given, choose, block, run, run_all, run_list}
use Rattle.loop_meaning.proofs.Runs.{vec_list}
use Rattle.tpal_syntax.specs.declared.instructions.Instr.{Instr}
use Rattle.tpal_syntax.specs.declared.instructions.Instr.TheVariants as instr
use Rattle.tpal_syntax.specs.declared.instructions.Term.{Term}
use Rattle.tpal_syntax.specs.declared.words.Word.TheVariants as word
use Rattle.tpal_syntax.specs.Listing.{Listing}
use Rattle.tpal_machine.specs.Reading.{register}
use Rattle.tpal_machine.specs.State as machine
use Rattle.tpal_machine.specs.Step.{advanced, at_block}
use Rattle.tpal_machine.proofs.Kit.{IsCalm, on_if, on_if_not}
use Rattle.expr_lower.specs.Leaving.{moved}
use Rattle.expr_lower.specs.Standing.{Remains}
use Rattle.expr_lower.proofs.Standing.{next, behind}
use Rattle.scene_laws.specs.Layout.{Activation}
use Rattle.scene_laws.specs.Code.{Computes, Opens, to}
use Rattle.scene_laws.specs.Names.{names_after, names_after_list}
use Rattle.scene_laws.specs.Opposite.{opposite}
use Rattle.form_laws.proofs.Forms.Opposites.{opposite_chooses}
use Rattle.scene_laws.proofs.Scenes.Moves.{opened, calm, jumps}
use Rattle.scene_laws.proofs.Scenes.Results.{Result, result, then, left, leave_then}
use Rattle.scene_laws.proofs.Scenes.Scene.{Scene, ShowsIn, Owed, SeenIn, OwedSeen}
use Rattle.scene_laws.proofs.Scenes.Showing.{as_many, shows_left}
use Rattle.form_laws.proofs.Forms.Simple.{still_seen}
use Rattle.scene_laws.proofs.Scenes.Values.{ExprLaw, computes}

-- ---- the variables that were visible before a list of statements are the first ones after it

pub record Longer (names longer : List (List ℕ)) : Type 0 where
  pub more : List (List ℕ)
  pub is : longer ≡ names ++ more

pub same_names : (names : List (List ℕ)) → Longer names names
same_names names = record { more = []; is = sym (append-nil names) }

pub longer_one : (names : List (List ℕ)) (s : Stmt) → Longer names (names_after names s)
longer_one names (Let x e) = record { more = x.text.items ∷ []; is = refl }
longer_one names (Set x e) = same_names names
longer_one names (Put t a b e) = same_names names
longer_one names (If' e p body q other) = same_names names
longer_one names (While' e p body) = same_names names
longer_one names (Loop' x a b p body) = same_names names
longer_one names (Par' place x a b carry_place carries reduces p body) = same_names names
longer_one names (Fold x e) = same_names names
longer_one names (Call x f) = same_names names
longer_one names (Both x f y g) = same_names names
longer_one names (Print place e) = same_names names
longer_one names (Emit place t) = same_names names
longer_one names (Leave x e) = same_names names
longer_one names (Fill f t r es) = same_names names

pub longer_list : (names : List (List ℕ)) (ss : List Stmt) → Longer names (names_after_list names ss)
longer_list names [] = same_names names
longer_list names (s ∷ ss) =
    let one : Longer names (names_after names s) = longer_one names s in
    let rest : Longer (names_after names s) (names_after_list (names_after names s) ss) = longer_list (names_after names s) ss in
    record { more = one.more ++ rest.more; is = rest.is ∙ ap (λ ns. ns ++ rest.more) one.is ∙ append_assoc names one.more rest.more }

pub first_names : (names : List (List ℕ)) (ss : List Stmt) → take (length names) (names_after_list names ss) ≡ names
first_names names ss =
    let longer : Longer names (names_after_list names ss) = longer_list names ss in
    ap (λ ns. take (length names) ns) longer.is ∙ take-append-le (length names) names longer.more (omega arith) ∙ take_all (length names) names (omega arith)

-- the same of the statements of a loop's body
pub first_names_in : (names : List (List ℕ)) (x : List ℕ) (ss : List Stmt) → take (length names) (names_after_list (names ++ x ∷ []) ss) ≡ names
first_names_in names x ss =
    let longer : Longer (names ++ x ∷ []) (names_after_list (names ++ x ∷ []) ss) = longer_list (names ++ x ∷ []) ss in
    ap (λ ns. take (length names) ns) (longer.is ∙ append_assoc names (x ∷ []) longer.more) ∙ take-append-le (length names) names (x ∷ [] ++ longer.more) (omega arith) ∙ take_all (length names) names (omega arith)

pub more_names_one : (names : List (List ℕ)) (s : Stmt) → length names ≤ length (names_after names s)
more_names_one names s =
    let longer : Longer names (names_after names s) = longer_one names s in
    omega (arith, ap length longer.is, length-append names longer.more)

-- ---- blocks

module _ (code : Listing) (heartbeat z : ℕ) (act : Activation) (fuel : ℕ) where
  -- what a task owes that shows a state at the begin of a block
  abbrev pub OwedAt : Scene code heartbeat z → List (List ℕ) → ℕ → (meaning.State → Result) → Type 0
  OwedAt S names label f =
      (i : S.World) (st : meaning.State) (state : machine.State) → ShowsIn code heartbeat z act fuel S i names st state → state.block ≡ label → state.at ≡ 0 → (S.owing i (f st)).Holds state

  pub enters : (S : Scene code heartbeat z) (names : List (List ℕ)) (label : ℕ) (instrs : List Instr) (end : Term) (f : meaning.State → Result) → Opens code label instrs end → Owed code heartbeat z act fuel S names instrs end f → OwedAt S names label f
  enters S names label instrs end f opens owed i st state shows at_label at_begin =
      let here : Remains code label 0 instrs end = opened code label instrs end opens in
      owed i st state shows (rw (at_label, at_begin) here)

  -- the same of a task that shows it in its cells and in registers
  abbrev pub SeenAt : Scene code heartbeat z → List (List ℕ) → ℕ → (meaning.State → Result) → Type 0
  SeenAt S names label f =
      (i : S.World) (st : meaning.State) (state : machine.State)
      → SeenIn code heartbeat z act fuel S i names st state → state.block ≡ label → state.at ≡ 0
      → (S.owing i (f st)).Holds state

  pub enters_seen : (S : Scene code heartbeat z) (names : List (List ℕ)) (label : ℕ)
      (instrs : List Instr) (end : Term) (f : meaning.State → Result) → Opens code label instrs end
      → OwedSeen code heartbeat z act fuel S names instrs end f → SeenAt S names label f
  enters_seen S names label instrs end f opens owed i st state shows at_label at_begin =
      let here : Remains code label 0 instrs end = opened code label instrs end opens in
      owed i st state shows (rw (at_label, at_begin) here)

  -- the end of a block of statements
  pub leaves : (S : Scene code heartbeat z) (names inner : List (List ℕ)) (exit : ℕ)
      (more : List Instr) (end : Term) (k : meaning.State → Result)
      → take (length names) inner ≡ names → Opens code exit more end
      → OwedSeen code heartbeat z act fuel S names more end k
      → OwedSeen code heartbeat z act fuel S inner [] (to exit) (λ s. k (left (length names) s))
  leaves S names inner exit more end k first opens post i s state shows stands =
      jumps code heartbeat (S.owing i (k (left (length names) s))) state exit more end stands opens
      (post i (left (length names) s) (at_block exit (advanced state)) (shows_left code heartbeat z act fuel S i shows (length names) names first) (opened code exit more end opens))

  -- the statements of a block, which end with the variables that were visible before
  pub leaving : (S : Scene code heartbeat z) (i : S.World) (names : List (List ℕ)) (st : meaning.State) (state : machine.State) (body : meaning.State → Ran) (begin : meaning.State) (k : meaning.State → Result) → length st.vars ≡ length names
      → (S.owing i (then (result (body begin)) (λ s. k (left (length names) s)))).Holds state → (S.owing i (then (result (meaning.leave_block (length st.vars) (body begin))) k)).Holds state
  leaving S i names st state body begin k many holds =
      subst (λ (r : Result). (S.owing i r).Holds state) (sym (leave_then (length st.vars) (body begin) k))
      (subst (λ (n : ℕ). (S.owing i (then (result (body begin)) (λ s. k (left n s)))).Holds state) (sym many) holds)

  pub blocks : (set : Setting) (S : Scene code heartbeat z) (names : List (List ℕ)) (body : List Stmt) (label : ℕ) (instrs : List Instr) (end : Term) (k : meaning.State → Result) → Opens code label instrs end
      → OwedSeen code heartbeat z act fuel S names instrs end
      (λ st. then (result (run_list set body st)) (λ s. k (left (length names) s)))
      → SeenAt S names label (λ st. then (result (block (run_list set body) st)) k)
  blocks set S names body label instrs end k opens owed i st state shows at_label at_begin =
      leaving S i names st state (run_list set body) st k (as_many st.vars names shows.named)
      (enters_seen S names label instrs end (λ s. then (result (run_list set body s))
      (λ t. k (left (length names) t))) opens owed i st state shows at_label at_begin)

  -- a block with no statements
  pub nothing_done : (set : Setting) (S : Scene code heartbeat z) (names : List (List ℕ))
      (label : ℕ) (more : List Instr) (end : Term) (k : meaning.State → Result)
      → Opens code label more end → OwedSeen code heartbeat z act fuel S names more end k
      → SeenAt S names label (λ st. then (result (block (run_list set []) st)) k)
  nothing_done set S names label more end k opens post i st state shows at_label at_begin =
      subst (λ (vs : List Variable). (S.owing i (k (record st { vars = vs }))).Holds state) (sym (take_all (length st.vars) st.vars (omega arith)))
      (enters_seen S names label more end k opens post i st state shows at_label at_begin)

-- ---- choices

run_if : (set : Setting) (e : Expr) (body other : Vec Stmt Global) (s : meaning.State) → run set (If e body other) s ≡ given e s (λ n. choose n (block (run_list set body.items)) (block (run_list set other.items)) s)
run_if set e body other s =
    ap (λ f. given e s (λ n. choose n (block f) (block (run_all set (hidden-the_row-Stmt-0 other))) s)) (vec_list set body)
    ∙ ap (λ g. given e s (λ n. choose n (block (run_list set body.items)) (block g) s)) (vec_list set other)

is_false : (b : Bool) → (b ≡ true → ⊥) → b ≡ false
is_false true never = absurd (never refl)
is_false false never = refl

pub above_zero : (m : ℕ) → int_eq (pos (suc m)) (pos 0) ≡ false
above_zero m = is_false _ (λ h. let same : pos (suc m) ≡ pos 0 = (Decides-int_eq (pos (suc m)) (pos 0)).0 h in cc)

below_zero : (m : ℕ) → int_eq (negsuc m) (pos 0) ≡ false
below_zero m = is_false _ (λ h. let same : negsuc m ≡ pos 0 = (Decides-int_eq (negsuc m) (pos 0)).0 h in cc)

module _ (code : Listing) (heartbeat z : ℕ) (act : Activation) (fuel : ℕ) (S : Scene code heartbeat z) (i : S.World) (names : List (List ℕ)) (st : meaning.State) (k : meaning.State → Result) (f g : meaning.State → Ran) where
  -- a jump where the number in register 0 isn't 0, and another one where it is
  pub chooses : (n : ℤ) (state : machine.State) (first second : ℕ) (instrs : List Instr)
      (end : Term) → SeenIn code heartbeat z act fuel S i names st state
      → register state.registers 0 ≡ word.Int n → Remains code state.block state.at
      (instr.IfJump 0 first ∷ []) (to second)
      → IsCalm code first → Opens code second instrs end
      → ((task : machine.State) → SeenIn code heartbeat z act fuel S i names st task
      → task.block ≡ first → task.at ≡ 0 → (S.owing i (then (result (f st)) k)).Holds task)
      → ((task : machine.State) → SeenIn code heartbeat z act fuel S i names st task
      → task.block ≡ second → task.at ≡ 0 → (S.owing i (then (result (g st)) k)).Holds task)
      → (S.owing i (then (result (choose n f g st)) k)).Holds state
  chooses (pos zero) state first second instrs end shows is stands calm_first opens yes_go no_go =
      on_if_not code heartbeat (S.owing i (then (result (g st)) k)) state 0 first (next code state (instr.IfJump 0 first) [] (to second) stands) is
      (jumps code heartbeat (S.owing i (then (result (g st)) k)) (advanced state) second instrs end (behind code state.block state.at (instr.IfJump 0 first) [] (to second) stands) opens
      (no_go (at_block second (advanced (advanced state))) shows refl refl))
  chooses (pos (suc m)) state first second instrs end shows is stands calm_first opens yes_go no_go =
      on_if code heartbeat (S.owing i (then (result (f st)) k)) state 0 first (pos (suc m)) (next code state (instr.IfJump 0 first) [] (to second) stands) is (above_zero m) calm_first
      (yes_go (at_block first (advanced state)) shows refl refl)
  chooses (negsuc m) state first second instrs end shows is stands calm_first opens yes_go no_go =
      on_if code heartbeat (S.owing i (then (result (f st)) k)) state 0 first (negsuc m) (next code state (instr.IfJump 0 first) [] (to second) stands) is (below_zero m) calm_first
      (yes_go (at_block first (advanced state)) shows refl refl)

  -- a jump where the number in register 0 isn't 0; where it is, the block goes on
  pub passes : (n : ℤ) (state : machine.State) (second : ℕ) (inner : List Instr) (end : Term)
      → SeenIn code heartbeat z act fuel S i names st state
      → register state.registers 0 ≡ word.Int n
      → Remains code state.block state.at (instr.IfJump 0 second ∷ inner) end
      → IsCalm code second
      → ((task : machine.State) → SeenIn code heartbeat z act fuel S i names st task
      → Remains code task.block task.at inner end → (S.owing i (then (result (f st)) k)).Holds task)
      → ((task : machine.State) → SeenIn code heartbeat z act fuel S i names st task
      → task.block ≡ second → task.at ≡ 0 → (S.owing i (then (result (g st)) k)).Holds task)
      → (S.owing i (then (result (choose n g f st)) k)).Holds state
  passes (pos zero) state second inner end shows is stands calm_second go no_go =
      on_if_not code heartbeat (S.owing i (then (result (f st)) k)) state 0 second
      (next code state (instr.IfJump 0 second) inner end stands) is
      (go (advanced state) shows
      (behind code state.block state.at (instr.IfJump 0 second) inner end stands))
  passes (pos (suc m)) state second inner end shows is stands calm_second go no_go =
      on_if code heartbeat (S.owing i (then (result (g st)) k)) state 0 second (pos (suc m))
      (next code state (instr.IfJump 0 second) inner end stands) is (above_zero m) calm_second
      (no_go (at_block second (advanced state)) shows refl refl)
  passes (negsuc m) state second inner end shows is stands calm_second go no_go =
      on_if code heartbeat (S.owing i (then (result (g st)) k)) state 0 second (negsuc m)
      (next code state (instr.IfJump 0 second) inner end stands) is (below_zero m) calm_second
      (no_go (at_block second (advanced state)) shows refl refl)

module _ (code : Listing) (heartbeat z : ℕ) (act : Activation) (set : Setting) (expr_law : ExprLaw code heartbeat) (S : Scene code heartbeat z) (names : List (List ℕ)) (k : meaning.State → Result) where
  pub if_law : (e : Expr) (body other : Vec Stmt Global) (first second : ℕ)
      (instrs then_instrs other_instrs : List Instr) (then_end other_end : Term)
      → Computes code act S.registers names e 0 instrs (instr.IfJump 0 first ∷ [])
      → Opens code first then_instrs then_end → Opens code second other_instrs other_end
      → SeenAt code heartbeat z act set.fuel S names first
      (λ st. then (result (block (run_list set body.items) st)) k)
      → SeenAt code heartbeat z act set.fuel S names second
      (λ st. then (result (block (run_list set other.items) st)) k)
      → OwedSeen code heartbeat z act set.fuel S names instrs (to second)
      (λ st. then (result (run set (If e body other) st)) k)
  if_law e body other first second instrs then_instrs other_instrs then_end other_end c opens_first opens_second yes_go no_go i st state shows stands =
      subst (λ (r : Ran). (S.owing i (then (result r) k)).Holds state) (sym (run_if set e body other st))
      (computes code heartbeat z act set.fuel expr_law S i names st state shows e 0 instrs (instr.IfJump 0 first ∷ []) (to second) c stands (λ n. choose n (block (run_list set body.items)) (block (run_list set other.items)) st) k
      (λ n fits words beat at keeps is here.
      chooses code heartbeat z act set.fuel S i names st k (block (run_list set body.items)) (block (run_list set other.items)) n (moved state words beat at) first second other_instrs other_end
      (still_seen code heartbeat z act set.fuel S i names st state 0 words beat at shows keeps) is
      here (calm code first then_instrs then_end opens_first) opens_second (yes_go i st)
      (no_go i st)))

  -- by the opposite of the test, behind which the first branch goes on
  pub if_not_law : (e e' : Expr) → opposite e ≡ Some e' → (body other : Vec Stmt Global) (second : ℕ)
      (instrs inner other_instrs : List Instr) (end other_end : Term)
      → Computes code act S.registers names e' 0 instrs (instr.IfJump 0 second ∷ inner)
      → Opens code second other_instrs other_end
      → OwedSeen code heartbeat z act set.fuel S names inner end
      (λ st. then (result (run_list set body.items st)) (λ s. k (left (length names) s)))
      → SeenAt code heartbeat z act set.fuel S names second
      (λ st. then (result (block (run_list set other.items) st)) k)
      → OwedSeen code heartbeat z act set.fuel S names instrs end
      (λ st. then (result (run set (If e body other) st)) k)
  if_not_law e e' opposes body other second instrs inner other_instrs end other_end c opens yes_go
      no_go i st state shows stands =
      let yes : meaning.State → Ran = block (run_list set body.items) in
      let no : meaning.State → Ran = block (run_list set other.items) in
      subst (λ (r : Ran). (S.owing i (then (result r) k)).Holds state)
      (sym (run_if set e body other st ∙ opposite_chooses e e' opposes yes no st))
      (computes code heartbeat z act set.fuel expr_law S i names st state shows e' 0 instrs
      (instr.IfJump 0 second ∷ inner) end c stands (λ n. choose n no yes st) k
      (λ n fits words beat at keeps is here.
      passes code heartbeat z act set.fuel S i names st k yes no n (moved state words beat at) second
      inner end
      (still_seen code heartbeat z act set.fuel S i names st state 0 words beat at shows keeps) is
      here (calm code second other_instrs other_end opens)
      (λ task seen remains.
      leaving code heartbeat z act set.fuel S i names st task (run_list set body.items) st k
      (as_many st.vars names seen.named) (yes_go i st task seen remains))
      (no_go i st)))
