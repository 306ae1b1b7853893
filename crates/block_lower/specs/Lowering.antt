-- What is promised of writing the code of expressions and statements: wherever what is written at
-- the end stands in a code, what was written before goes on there with the code of the expression
-- or the statement.
use Rattle.std.specs.Prelude.{◌≡◌, ℕ, ◌+◌, ℤ, true, false, List, [], ◌∷◌, ◌++◌, length}
use Rattle.std.specs.Prelude.{Some, Vec, map}
use Rattle.std.specs.List.{list_any}
use Rattle.std.specs.declared.alloc.Global.{Global}
use Rattle.handler_gen.specs.LeafBlocks.{leaf_handler_blocks, start_block}
use Rattle.handler_gen.specs.LeafSites.{start_label, stored_loop}
use Rattle.handler_gen.specs.Registers.{back_register, leaf_cursor, leaf_first_acc}
use Rattle.loop_syntax.specs.declared.Expr.{Expr}
use Rattle.loop_syntax.specs.declared.ParLoop.{ParLoop}
use Rattle.loop_syntax.specs.declared.Reduce.{Reduce}
use Rattle.loop_syntax.specs.declared.Stmt.{Stmt}
use Rattle.loop_syntax.specs.declared.Stmt.TheVariants.{Par}
use Rattle.tp_value.specs.declared.Place.{Place}
use Rattle.tp_value.specs.declared.TrapKind.TheVariants.{Index, Wide}
use Rattle.tpal_syntax.specs.declared.instructions.Alu.{Alu}
use Rattle.tpal_syntax.specs.declared.instructions.Alu.TheVariants.{Lt}
use Rattle.tpal_syntax.specs.declared.instructions.Instr.{Instr}
use Rattle.tpal_syntax.specs.declared.instructions.Instr.TheVariants.{Tick, Calc, IfJump}
use Rattle.tpal_syntax.specs.declared.instructions.Term.{Term}
use Rattle.tpal_syntax.specs.declared.instructions.Term.TheVariants.{Halt, Jump}
use Rattle.tpal_syntax.specs.declared.instructions.Value.{Value}
use Rattle.tpal_syntax.specs.declared.instructions.Value.TheVariants as value
use Rattle.tpal_syntax.specs.declared.notes.Note.TheVariants.{Ready}
use Rattle.tpal_syntax.specs.declared.sites.CallSite.{CallSite}
use Rattle.tpal_syntax.specs.declared.sites.LeafSite.{LeafSite}
use Rattle.tpal_syntax.specs.declared.sites.LoopSite.{LoopSite}
use Rattle.tpal_syntax.specs.Listing.{Listing}
use Rattle.expr_lower.specs.declared.scope.Scope.{Scope}
use Rattle.loop_meaning.specs.InRange.{InRange}
use Rattle.expr_lower.specs.Bodies.{literal, trap_block}
use Rattle.expr_lower.specs.Standing.{AreAt}
use Rattle.handler_gen.specs.Blocks.{loop_handler_blocks}
use Rattle.handler_gen.specs.Sites.{target_label, first_label, over_label, none_label, side_label}
use Rattle.handler_gen.specs.Sites.{prep_label, joined_label}
use Rattle.join_gen.specs.Blocks.{loop_join_blocks}
use Rattle.block_lower.specs.declared.body.Body.{Body}
use Rattle.block_lower.specs.declared.body.Target.{Target}
use Rattle.block_lower.specs.declared.output.Output.{Output}
use Rattle.block_lower.specs.declared.repeat.Bound.{Bound}
use Rattle.block_lower.specs.declared.repeat.Bound.TheVariants as bound
use Rattle.block_lower.specs.declared.repeat.Turns.{Turns}
use Rattle.block_lower.specs.declared.round.Round as told
use Rattle.block_lower.specs.Bodies.{entries, activation}
use Rattle.scene_laws.specs.Code.{Opens, OpensAs, Computes, Operand, Arguments}
use Rattle.scene_laws.specs.Code.{parameter_cell, passed}
use Rattle.scene_laws.specs.Code.{Calls, Code, Codes, Other, to, store, load, below_test}
use Rattle.scene_laws.specs.Code.{step_up, put_tested}
use Rattle.scene_laws.specs.DeepMarked.{IsDeepSite, last_begun, next_begun}
use Rattle.scene_laws.specs.Visible.{IsVisible, AreVisible}
use Rattle.code_laws.specs.Fitting.{Fits, AllFit}
use Rattle.scene_laws.specs.Layout.{value_cell, bound_cell, Entry, Activation, kept_argument}
use Rattle.scene_laws.specs.LeafMarked.{IsLeafAt, leaf_turn}
use Rattle.scene_laws.specs.Marked.{length_test, marked_begin, unmark, side_test, IsQuietSite}
use Rattle.scene_laws.specs.Names.{Sees, SeesAs, StandFor}
use Rattle.scene_laws.specs.Opposite.{opposite}
use Rattle.scene_laws.specs.Pairs.{IsPair, call_enters, call_site, pair_begins, pair_joined}
use Rattle.scene_laws.specs.Pairs.{passed_call, second_call}
use Rattle.scene_laws.specs.Quiet.{list_is_quiet}
use Rattle.scene_laws.specs.Round.{Round}
use Rattle.scene_laws.specs.Sites.{rows_from}
use Rattle.scene_laws.specs.Sizes.{has_row}
use Rattle.block_lower.specs.Writing.{label, next_label, IsFresh, Pushes, Stands, Continues}
use Rattle.block_lower.specs.Writing.{Leads}

-- ---- what is known before

-- what stands round a statement is as told
pub record IsRound (round : Round) (as_told : told.Round) : Type 0 where
  pub reduces : round.reduces ≡ as_told.reduces.now
  pub depth : round.depth ≡ as_told.depth

-- statements that are run while variables of a scope stand in registers: no point of promotion can
-- be reached in them, in a call neither
abbrev pub AreStill : Scope → List Stmt → Type 0
AreStill scope ss = list_is_quiet false ss ≡ false → scope.regs.items ≡ []

-- statements fit in a body, where a scope is visible and this stands round them
pub record FitsIn (on : Body) (scope : Scope) (as_told : told.Round) (ss : List Stmt) : Type 0
  where
    pub tables : List (List ℕ)
    pub names : List (List ℕ)
    pub round : Round
    pub is_round : IsRound round as_told
    pub sees : Sees scope names tables
    pub fits : AllFit tables (entries on.callees.items) on.most round names ss
    pub still : AreStill scope ss

-- the same of the body of a loop over a variable that isn't visible yet
pub record FitsInside (on : Body) (scope : Scope) (as_told : told.Round) (x : List ℕ)
    (ss : List Stmt) : Type 0 where
  pub tables : List (List ℕ)
  pub names : List (List ℕ)
  pub round : Round
  pub is_round : IsRound round as_told
  pub sees : Sees scope names tables
  pub fits : AllFit tables (entries on.callees.items) on.most round (names ++ x ∷ []) ss
  pub still : AreStill scope ss

-- ---- expressions

-- the value of an expression was left in a register
abbrev pub WritesValue : Scope → Expr → ℕ → Output → Output → Type 0
WritesValue scope e r old new =
    (code : Listing) (act : Activation) (names : List (List ℕ)) (registers : List (ℕ × ℕ))
    (more : List Instr) (last : Term)
    → SeesAs scope names act.tables registers
    → IsVisible act.tables names e
    → Continues code new more last
    → Leads code old
    (λ instrs end. (end ≡ last) × Computes code act registers names e r instrs more)

-- the value of an expression is an operand
abbrev pub WritesOperand : Scope → Expr → ℕ → Value → Output → Output → Type 0
WritesOperand scope e r v old new =
    (code : Listing) (act : Activation) (names : List (List ℕ)) (registers : List (ℕ × ℕ))
    (more : List Instr) (last : Term)
    → SeesAs scope names act.tables registers
    → IsVisible act.tables names e
    → Continues code new more last
    → Leads code old
    (λ instrs end. (end ≡ last) × Operand code act registers names e r v instrs more)

-- a test that goes on at one of two labels was written, and its block closed
abbrev pub WritesTest : Scope → Expr → ℕ → ℕ → Output → Output → Type 0
WritesTest scope e first second old new =
    (code : Listing) (act : Activation) (names : List (List ℕ)) (registers : List (ℕ × ℕ))
    → SeesAs scope names act.tables registers → IsVisible act.tables names e → Stands code new
    → Leads code old
    (λ instrs end. (end ≡ to second)
    × Computes code act registers names e 0 instrs (IfJump 0 first ∷ []))

-- The test of an `if` was written, with a second branch at a label. Where its opposite was written,
-- the first branch goes on in its block, else in the next one.
pub data WritesChoice (scope : Scope) (e : Expr) (second : ℕ) (old new : Output) : Type 0 where
  by_opposite : {e' : Expr} {middle : Output}
      → opposite e ≡ Some e'
      → WritesValue scope e' 0 old middle
      → Pushes (IfJump 0 second ∷ []) middle new
      → WritesChoice scope e second old new
  by_test : IsFresh new
      → WritesTest scope e (label new) second old new
      → WritesChoice scope e second old new

-- the test of a `loop` was written, and its block closed
abbrev pub WritesBelow : ℕ → Value → ℕ → ℕ → Output → Output → Type 0
WritesBelow counter bound again exit old new =
    (code : Listing)
    → Stands code new
    → Continues code old (below_test counter bound again) (to exit)

-- the begin of a `loop` up to a number was written, and its block closed
abbrev pub WritesStart : Scope → Expr → ℤ → ℕ → ℕ → Output → Output → Type 0
WritesStart scope a n again exit old new =
    (code : Listing) (act : Activation) (names : List (List ℕ)) (registers : List (ℕ × ℕ))
    → SeesAs scope names act.tables registers → IsVisible act.tables names a → Stands code new
    → Leads code old
    (λ instrs end. (end ≡ to exit)
    × Computes code act registers names a 0 instrs
    (store (value_cell (length names)) (value.Reg 0) ∷ below_test 0 (value.Int n) again))

-- instructions that store the two bounds of a loop, with the first one in register 1 and the other
-- in register 0
pub record AreBounds (code : Listing) (act : Activation) (registers : List (ℕ × ℕ))
    (names : List (List ℕ)) (a b : Expr) (instrs more : List Instr) : Type 0 where
  pub second : List Instr
  pub from : Computes code act registers names a 0 instrs
      (store (value_cell (length names)) (value.Reg 0) ∷ second)
  pub to : Computes code act registers names b 0 second
      (store (bound_cell (length names)) (value.Reg 0) ∷ load 1 (value_cell (length names)) ∷ more)

-- the bounds of a loop were stored
abbrev pub WritesBounds : Scope → Expr → Expr → Output → Output → Type 0
WritesBounds scope a b old new =
    (code : Listing) (act : Activation) (names : List (List ℕ)) (registers : List (ℕ × ℕ))
    (more : List Instr) (last : Term)
    → SeesAs scope names act.tables registers
    → IsVisible act.tables names a
    → IsVisible act.tables names b
    → Continues code new more last
    → Leads code old
    (λ instrs end. (end ≡ last) × AreBounds code act registers names a b instrs more)

-- the begin of a `loop` up to the value of an expression was written, and its block closed
abbrev pub WritesBoundedStart : Scope → Expr → Expr → ℕ → ℕ → Output → Output → Type 0
WritesBoundedStart scope a b again exit old new =
    (code : Listing) (act : Activation) (names : List (List ℕ)) (registers : List (ℕ × ℕ))
    → SeesAs scope names act.tables registers
    → IsVisible act.tables names a
    → IsVisible act.tables names b
    → Stands code new
    → Leads code old
    (λ instrs end. (end ≡ to exit)
    × AreBounds code act registers names a b instrs (below_test 1 (value.Reg 0) again))

-- the begin of a `loop` was written, whose bound is as told
abbrev pub BeginsLoop : Scope → Expr → Expr → Bound → ℕ → ℕ → Output → Output → Type 0
BeginsLoop scope a b (bound.Number n) again exit old new =
    (literal b ≡ Some n) × InRange n × WritesStart scope a n again exit old new
BeginsLoop scope a b bound.Cell again exit old new =
    WritesBoundedStart scope a b again exit old new

-- behind the body of a loop: the next number, and the body again where that is below the bound
abbrev pub turn : ℕ → Bound → ℕ → List Instr
turn level (bound.Number n) again = step_up 0 level (below_test 0 (value.Int n) again)
turn level bound.Cell again =
    step_up 1 level (load 0 (bound_cell level) ∷ below_test 1 (value.Reg 0) again)

-- the end of a loop was written, and its block closed
abbrev pub EndsLoop : Turns → Output → Output → Type 0
EndsLoop turns old new =
    (code : Listing)
    → Stands code new
    → Continues code old (turn turns.level turns.bound turns.again) (to turns.exit)

-- ---- `par`

-- the test of a `par` that has an iteration was written, and its block closed
abbrev pub WritesSome : ℕ → ℕ → Output → Output → Type 0
WritesSome check exit old new =
    (code : Listing)
    → Stands code new
    → Continues code old (Calc 2 1 Lt (value.Reg 0) ∷ IfJump 2 check ∷ []) (to exit)

-- the test of the length of a `par` was written, in front of what its block goes on with
abbrev pub WritesLength : Output → Output → Type 0
WritesLength old new =
    (code : Listing) (more : List Instr) (last : Term)
    → Continues code new more last
    → Continues code old (length_test (next_label old) more) last

-- The begin of a `par` up to its length: its bounds, and behind a test whether it has an iteration,
-- at a label, the test of the length in front of what its block goes on with.
pub record IsParBegun (code : Listing) (act : Activation) (names : List (List ℕ)) (l : ParLoop)
    (check exit : ℕ) (old : Output) (more : List Instr) (last : Term) : Type 0 where
  pub leads : Leads code old
      (λ instrs end. (end ≡ to exit)
      × AreBounds code act [] names l.from l.to instrs
      (Calc 2 1 Lt (value.Reg 0) ∷ IfJump 2 check ∷ []))
  pub tests : Opens code check (length_test (check + 1) more) last

-- it was written; the open block is that of the test
abbrev pub BeginsPar : Scope → ParLoop → ℕ → ℕ → Output → Output → Type 0
BeginsPar scope l check exit old new =
    (code : Listing) (act : Activation) (names : List (List ℕ)) (more : List Instr) (last : Term)
    → SeesAs scope names act.tables []
    → IsVisible act.tables names l.from
    → IsVisible act.tables names l.to
    → Continues code new more last
    → IsParBegun code act names l check exit old more last

-- behind it the begin of that `par` was written, and its block closed with the trap block behind it
abbrev pub WritesBegin : Place → LoopSite → ℕ → Output → Output → Type 0
WritesBegin place site first old new =
    (code : Listing) → Stands code new
    → Continues code old (marked_begin site first) (to (next_label old))
    × AreAt code (next_label old) (trap_block (next_label old) Wide place ∷ [])

-- the block that loads the rows of carries before the cut at a label was written, where there is a
-- row
abbrev pub WritesPrep : Scope → ParLoop → ℕ → Output → Output → Type 0
WritesPrep scope l at old new =
    (code : Listing) → Stands code new
    → Stands code old
    × (list_any has_row l.carries.items ≡ true
    → Opens code (label old) (rows_from scope 0 l.carries.items) (to at))

-- the blocks of a quiet `par` round its iterations, the first of which is at a label
pub record IsRoundQuiet (code : Listing) (scope : Scope) (l : ParLoop) (site : LoopSite)
    (first exit : ℕ) : Type 0 where
  pub handler : AreAt code site.label (loop_handler_blocks site)
  pub join : AreAt code (target_label site.label) (loop_join_blocks site)
  pub child : Opens code (first_label site.label) [] (to first)
  pub over : Opens code (over_label site.label) (unmark site ∷ side_test site exit)
      (to (side_label site.label))
  pub none : Opens code (none_label site.label) [] (to (over_label site.label))
  pub rows : list_any has_row l.carries.items ≡ true
      → Opens code (prep_label site.label) (rows_from scope 0 l.carries.items) (to site.label)

-- they were written
abbrev pub WritesSite : Scope → ParLoop → LoopSite → ℕ → ℕ → Output → Output → Type 0
WritesSite scope l site first exit old new =
    (code : Listing) → Stands code new
    → Stands code old × IsRoundQuiet code scope l site first exit

-- instructions that begin a quiet `par`, whose further iterations are as told
pub record IsQuietBegun (code : Listing) (act : Activation) (names : List (List ℕ)) (l : ParLoop)
    (depth first exit : ℕ) (turns : Turns) (instrs : List Instr) : Type 0 where
  pub site : LoopSite
  pub check : ℕ
  pub bounds : AreBounds code act [] names l.from l.to instrs
      (Calc 2 1 Lt (value.Reg 0) ∷ IfJump 2 check ∷ [])
  pub is_site : IsQuietSite code act names l depth check first exit site
  pub over : turns.exit ≡ over_label site.label

-- the begin of a quiet `par` was written; the open block is that of its first iteration
abbrev pub BeginsQuiet : Body → told.Round → Scope → ParLoop → Turns → ℕ → Output → Output → Type 0
BeginsQuiet on as_told scope l turns exit old new =
    (code : Listing) (tables names : List (List ℕ)) (round : Round)
    → IsRound round as_told
    → SeesAs scope names tables []
    → Fits tables (entries on.callees.items) on.most round names (Par l)
    → Stands code new
    → Leads code old
    (λ instrs end. (end ≡ to exit)
    × IsQuietBegun code (activation on tables) names l round.depth (label new) exit turns instrs)

-- ---- leaf loops

-- the variables that are reduced, each with its register, where the first one has a register
abbrev pub held_from : ℕ → List Reduce → List (List ℕ × ℕ)
held_from r [] = []
held_from r (x ∷ xs) = (x.target.text.items, r) ∷ held_from (r + 1) xs

-- the variables of a leaf loop, each with its register
abbrev pub held_by : ParLoop → List (List ℕ × ℕ)
held_by l = (l.var.text.items, leaf_cursor) ∷ held_from leaf_first_acc l.reduces.items

-- these variables stand in registers, each in its own
abbrev pub AreHeld : List (Vec ℕ Global × ℕ) → List (List ℕ × ℕ) → Type 0
AreHeld regs held = map (λ (r : Vec ℕ Global × ℕ). (r.0.items, r.1)) regs ≡ held

-- the site of a leaf loop, which is that of a loop with another kind of handler
abbrev pub leaf_of : LoopSite → LeafSite
leaf_of site =
    record {
      label = site.label;
      cells = site.cells;
      cursor = site.cursor;
      bound = site.bound;
      rec = site.rec;
      mark = site.mark;
      accs = site.accs;
      carries = site.carries;
    }

-- the blocks of a leaf loop round its iterations, the first of which is at a label
pub record IsRoundLeaf (code : Listing) (scope : Scope) (l : ParLoop) (site : LeafSite)
    (first exit : ℕ) : Type 0 where
  pub handler : AreAt code site.label (leaf_handler_blocks site)
  pub join : AreAt code (target_label (stored_loop site).label)
      (loop_join_blocks (stored_loop site))
  pub start : AreAt code (start_label site) (start_block site first ∷ [])
  pub over : Opens code (over_label (stored_loop site).label)
      (unmark (stored_loop site) ∷ side_test (stored_loop site) exit)
      (to (side_label (stored_loop site).label))
  pub none : Opens code (none_label (stored_loop site).label) []
      (to (over_label (stored_loop site).label))
  pub rows : list_any has_row l.carries.items ≡ true
      → Opens code (prep_label (stored_loop site).label) (rows_from scope 0 l.carries.items)
      (to (stored_loop site).label)

-- they were written
abbrev pub WritesLeafSite : Scope → ParLoop → LeafSite → ℕ → ℕ → Output → Output → Type 0
WritesLeafSite scope l site first exit old new =
    (code : Listing) → Stands code new
    → Stands code old × IsRoundLeaf code scope l site first exit

-- instructions that begin a leaf loop
pub record IsLeafBegun (code : Listing) (act : Activation) (names : List (List ℕ)) (l : ParLoop)
    (depth first exit : ℕ) (site : LeafSite) (instrs : List Instr) : Type 0 where
  pub check : ℕ
  pub bounds : AreBounds code act [] names l.from l.to instrs
      (Calc 2 1 Lt (value.Reg 0) ∷ IfJump 2 check ∷ [])
  pub is_leaf : IsLeafAt code act names l depth check first exit site

-- the begin of a leaf loop was written; the open block is that of its promotion point
abbrev pub BeginsLeaf : Body → told.Round → Scope → ParLoop → LeafSite → ℕ → ℕ → Output → Output
    → Type 0
BeginsLeaf on as_told scope l site first exit old new =
    (code : Listing) (tables names : List (List ℕ)) (round : Round)
    → IsRound round as_told
    → SeesAs scope names tables []
    → Fits tables (entries on.callees.items) on.most round names (Par l)
    → Stands code new
    → Leads code old
    (λ instrs end. (end ≡ to exit)
    × IsLeafBegun code (activation on tables) names l round.depth first exit site instrs)

-- what comes behind an iteration of a leaf loop was written, and its block closed
abbrev pub EndsLeaf : LeafSite → Output → Output → Type 0
EndsLeaf site old new =
    (code : Listing)
    → Stands code new
    → Continues code old (leaf_turn site) (to (over_label (stored_loop site).label))

-- ---- other loops that can be cut

-- the begin of an iteration of a `par` that isn't quiet was written, where the two labels behind
-- the one at which it goes on are told, and its block closed
abbrev pub WritesNext : LoopSite → ℕ → ℕ → Output → Output → Type 0
WritesNext site level head old new =
    (code : Listing) → Stands code new
    → Continues code old (next_begun site level (head + 2)) (to (head + 1))

-- what comes before its last iteration was written, and its block closed
abbrev pub WritesLast : LoopSite → ℕ → Output → Output → Type 0
WritesLast site turn old new =
    (code : Listing) → Stands code new → Continues code old (last_begun site) (to turn)

-- The blocks of such a `par` round its iterations: an iteration begins at a promotion-ready block,
-- with the one before the last iteration and that of the body behind it.
pub record IsRoundDeep (code : Listing) (dispatch : ℕ) (scope : Scope) (l : ParLoop)
    (site : LoopSite) (level head exit : ℕ) : Type 0 where
  pub handler : AreAt code site.label (loop_handler_blocks site)
  pub join : AreAt code (target_label site.label) (loop_join_blocks site)
  pub first : Opens code (first_label site.label) (next_begun site level (head + 2)) (to (head + 1))
  pub over : Opens code (over_label site.label) (side_test site exit) (to (side_label site.label))
  pub none : Opens code (none_label site.label) [] (Jump (value.Reg back_register))
  pub rows : list_any has_row l.carries.items ≡ true
      → Opens code (prep_label site.label) (rows_from scope 0 l.carries.items) (to site.label)
  pub next : OpensAs code (Ready dispatch) head (next_begun site level (head + 2)) (to (head + 1))
  pub ends : Opens code (head + 1) (last_begun site) (to (head + 2))

-- they were written
abbrev pub WritesDeepSite : Body → Scope → ParLoop → LoopSite → ℕ → ℕ → Output → Output → Type 0
WritesDeepSite on scope l site head exit old new =
    (code : Listing) → Stands code new
    → Stands code old
    × IsRoundDeep code on.dispatch scope l site (length scope.cells.items) head exit

-- instructions that begin such a `par`
pub record IsDeepBegun (code : Listing) (act : Activation) (dispatch : ℕ) (names : List (List ℕ))
    (l : ParLoop) (depth head exit : ℕ) (instrs : List Instr) : Type 0 where
  pub site : LoopSite
  pub check : ℕ
  pub bounds : AreBounds code act [] names l.from l.to instrs
      (Calc 2 1 Lt (value.Reg 0) ∷ IfJump 2 check ∷ [])
  pub is_site : IsDeepSite code act dispatch names l depth check head (head + 2) exit site

-- the begin of such a `par` was written; the open block is that of its body
abbrev pub BeginsDeep : Body → told.Round → Scope → ParLoop → ℕ → ℕ → Output → Output → Type 0
BeginsDeep on as_told scope l head exit old new =
    (code : Listing) (tables names : List (List ℕ)) (round : Round)
    → IsRound round as_told
    → SeesAs scope names tables []
    → Fits tables (entries on.callees.items) on.most round names (Par l)
    → Stands code new
    → Leads code old
    (λ instrs end. (end ≡ to exit)
    × IsDeepBegun code (activation on tables) on.dispatch names l round.depth head exit instrs)

-- ---- variables and tables

-- the instructions by which a cell gets what an operator makes of it and a value
abbrev pub folded_in_cell : ℕ → Alu → Value → List Instr
folded_in_cell cell alu v =
    load 1 cell ∷ Calc 1 1 alu v ∷ store cell (value.Reg 1) ∷ []

-- the write of a cell was written, with the tests of its row and its column
abbrev pub WritesPut : ℕ → ℕ → ℕ → ℕ → Place → Output → Output → Type 0
WritesPut table row col number place old new =
    (code : Listing) (more : List Instr) (last : Term) → Continues code new more last
    → Continues code old (put_tested table row col number 3 (next_label old) more) last
    × AreAt code (next_label old) (trap_block (next_label old) Index place ∷ [])

-- ---- calls

-- the values of arguments were stored, each in its cell
abbrev pub WritesArguments : Scope → List Expr → (ℕ → ℕ) → Output → Output → Type 0
WritesArguments scope es cell old new =
    (code : Listing) (act : Activation) (names : List (List ℕ)) (more : List Instr) (last : Term)
    → SeesAs scope names act.tables []
    → AreVisible act.tables names es
    → Continues code new more last
    → Leads code old (λ instrs end. (end ≡ last) × Arguments code act names cell 0 es instrs more)

-- instructions that store the arguments of two calls: those of the first as its parameters, the
-- others kept
pub record AreBothArguments (code : Listing) (act : Activation) (names : List (List ℕ))
    (fs gs : List Expr) (instrs more : List Instr) : Type 0 where
  pub others : List Instr
  pub first : Arguments code act names (parameter_cell code act) 0 fs instrs others
  pub second : Arguments code act names (kept_argument act) 0 gs others more

-- the arguments of two calls were stored
abbrev pub WritesBothArguments : Body → Scope → List Expr → List Expr → Output → Output → Type 0
WritesBothArguments on scope fs gs old new =
    (code : Listing) (tables names : List (List ℕ)) (more : List Instr) (last : Term)
    → SeesAs scope names tables []
    → AreVisible tables names fs
    → AreVisible tables names gs
    → Continues code new more last
    → Leads code old
    (λ instrs end. (end ≡ last)
    × AreBothArguments code (activation on tables) names fs gs instrs more)

-- kept numbers became arguments
abbrev pub WritesPassed : Body → ℕ → Output → Output → Type 0
WritesPassed on n old new =
    (code : Listing) (tables : List (List ℕ)) (more : List Instr) (last : Term)
    → Continues code new more last
    → Continues code old (passed code (activation on tables) n 0 more) last

-- a call of the function at a label was written, and the block behind it is open
abbrev pub WritesCall : Body → Place → ℕ → ℕ → Output → Output → Type 0
WritesCall on place at size old new =
    (code : Listing) (tables : List (List ℕ)) (entry : Entry) (more : List Instr) (last : Term)
    → entry.label ≡ at
    → entry.size ≡ size
    → Continues code new more last
    → Leads code old
    (λ instrs end. Calls code (activation on tables) place entry instrs end more last)

-- the first of two calls was written, from its tick on, with the block that enters it
abbrev pub WritesFirst : Body → Place → Target → CallSite → Output → Output → Type 0
WritesFirst on place target site old new =
    (code : Listing) (tables : List (List ℕ)) → Stands code new
    → Continues code old
    (pair_begins code (activation on tables) site place (site.entry + 1) (next_label old)) Halt
    × OpensAs code (Ready on.dispatch) (next_label old) (call_enters on.size) (to target.label)

-- what stands behind the join of two calls was written, and its block closed
abbrev pub WritesJoined : Body → ℕ → Target → ℕ → Output → Output → Type 0
WritesJoined on cell target back old new =
    (code : Listing) (tables : List (List ℕ)) → Stands code new
    → Continues code old (pair_joined code (activation on tables) cell target.size) (to back)

-- the second of two calls was written from its arguments on, and its block closed
abbrev pub WritesPassedCall : Body → ℕ → Target → ℕ → Output → Output → Type 0
WritesPassedCall on many target back old new =
    (code : Listing) (tables : List (List ℕ)) → Stands code new
    → Continues code old (passed_call code (activation on tables) many back) (to target.label)

-- the second of two calls was written, and its block closed
abbrev pub WritesSecond : Body → ℕ → Target → ℕ → Output → Output → Type 0
WritesSecond on many target back old new =
    (code : Listing) (tables : List (List ℕ)) → Stands code new
    → Continues code old (second_call code (activation on tables) many target.size back)
    (to target.label)

-- The site of two calls at a label, the second of which has so many arguments. A child makes it
-- behind the block behind the join.
abbrev pub pair_site : Listing → Activation → ℕ → ℕ → CallSite
pair_site code act many at = call_site code act many (joined_label at + 1) at

-- a call of a function goes there
pub record GoesTo (entry : Entry) (target : Target) : Type 0 where
  pub label : entry.label ≡ target.label
  pub size : entry.size ≡ target.size

-- two calls were written, from the first one's tick on, and the block behind the second is open
abbrev pub WritesPair : Body → Place → ℕ → ℕ → Target → Target → Output → Output → Type 0
WritesPair on place cell many first second old new =
    (code : Listing) (tables : List (List ℕ)) (one two : Entry) (more : List Instr) (last : Term)
    → GoesTo one first
    → GoesTo two second
    → Continues code new more last
    → Leads code old
    (λ instrs end. IsPair code (activation on tables) on.dispatch place cell many one two
    (pair_site code (activation on tables) many (next_label old + 1)) instrs end more last)

-- ---- statements

-- the code of a statement was written
abbrev pub Lowers : Body → told.Round → Scope → Stmt → Output → Output → Type 0
Lowers on as_told scope s old new =
    (code : Listing) (tables names : List (List ℕ)) (round : Round) (more : List Instr)
    (last : Term)
    → IsRound round as_told
    → SeesAs scope names tables round.registers
    → Fits tables (entries on.callees.items) on.most round names s
    → Continues code new more last
    → Leads code old
    (λ instrs end. Code code (activation on tables) round names s instrs end more last)

-- what holds of a vector with these statements
abbrev pub WithBody : List Stmt → (Vec Stmt Global → Type 0) → Type 0
WithBody body holds = (v : Vec Stmt Global) → v.items ≡ body → holds v

-- the code of statements in order was written
abbrev pub LowersAll : Body → told.Round → Scope → List Stmt → Output → Output → Type 0
LowersAll on as_told scope ss old new =
    (code : Listing) (tables names : List (List ℕ)) (round : Round) (more : List Instr)
    (last : Term)
    → IsRound round as_told
    → SeesAs scope names tables round.registers
    → AllFit tables (entries on.callees.items) on.most round names ss
    → Continues code new more last
    → Leads code old
    (λ instrs end. Codes code (activation on tables) round names ss instrs end more
    last)

-- statements that go on at a label were written, and their block closed
abbrev pub LowersBranch : Body → told.Round → Scope → List Stmt → ℕ → Output → Output → Type 0
LowersBranch on as_told scope body exit old new =
    (code : Listing) (tables names : List (List ℕ)) (round : Round)
    → IsRound round as_told
    → SeesAs scope names tables round.registers
    → AllFit tables (entries on.callees.items) on.most round names body
    → Stands code new
    → Leads code old
    (λ instrs end. Codes code (activation on tables) round names body instrs end [] (to exit))

-- a second branch was written, which may have no block; the open block was to be its first, and the
-- exit is behind it
abbrev pub LowersOther : Body → told.Round → Scope → List Stmt → ℕ → Output → Output → Type 0
LowersOther on as_told scope body exit old new =
    (code : Listing) (tables names : List (List ℕ)) (round : Round)
    → IsRound round as_told
    → SeesAs scope names tables round.registers
    → AllFit tables (entries on.callees.items) on.most round names body
    → Stands code new
    → exit ≡ label new
    → Stands code old × Other code (activation on tables) round names body (label old) exit

-- a block that begins with the code of the body of a loop, which the open one was to be
pub record IsBodyAt (code : Listing) (act : Activation) (round : Round)
    (names : List (List ℕ)) (body : List Stmt) (out : Output) (more : List Instr)
    (last : Term) : Type 0 where
  pub before : Stands code out
  pub instrs : List Instr
  pub end : Term
  pub opens : OpensAs code out.note (label out) (Tick ∷ instrs) end
  pub codes : Codes code act round names body instrs end more last

-- an iteration of a leaf loop was written, for what stands round its body, and its block closed
abbrev pub WritesLeafTurn : Body → told.Round → Scope → ParLoop → LeafSite → Output → Output
    → Type 0
WritesLeafTurn on as_told scope l site old new =
    (code : Listing) (tables names : List (List ℕ)) (round : Round)
    → IsRound round as_told
    → Sees scope names tables
    → ((regs : List (Vec ℕ Global × ℕ)) → AreHeld regs (held_by l)
    → StandFor (names ++ l.var.text.items ∷ []) regs round.registers)
    → AllFit tables (entries on.callees.items) on.most round (names ++ l.var.text.items ∷ [])
    l.body.items
    → Stands code new
    → IsBodyAt code (activation on tables) round (names ++ l.var.text.items ∷ []) l.body.items old
    (leaf_turn site) (to (over_label (stored_loop site).label))

-- the body of a loop over a variable was written, for what stands round that body
abbrev pub LowersBody : Body → told.Round → Scope → List ℕ → List Stmt → Output → Output → Type 0
LowersBody on as_told scope x body old new =
    (code : Listing) (tables names : List (List ℕ)) (round : Round) (more : List Instr)
    (last : Term)
    → IsRound round as_told
    → Sees scope names tables
    → StandFor (names ++ x ∷ []) scope.regs.items round.registers
    → AllFit tables (entries on.callees.items) on.most round (names ++ x ∷ []) body
    → Continues code new more last
    → IsBodyAt code (activation on tables) round (names ++ x ∷ []) body old more last
