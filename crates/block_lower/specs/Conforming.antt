-- What is written conforms to the conditions on codes: all of it may stand in a code that has the
-- program's tables, and so many blocks as the program is known to have before.
use Rattle.std.specs.Prelude.{◌≡◌, ℕ, ◌+◌, ◌<◌, ◌≤◌, All, IsTrue, ⊤, List, [], ◌∷◌, length, Some}
use Rattle.std.specs.Prelude.{slice_get}
use Rattle.std.specs.List.{AllByRecursion}
use Rattle.tp_value.specs.declared.limits.TheConstants.{MAX_ACTIVATION_CELLS, MAX_PARAMETERS}
use Rattle.loop_syntax.specs.declared.Expr.{Expr}
use Rattle.tpal_syntax.specs.Conditions.{IsNote}
use Rattle.tpal_syntax.specs.Parts.{is_value, table_of}
use Rattle.tpal_syntax.specs.declared.blocks.Block.{Block}
use Rattle.tpal_syntax.specs.declared.instructions.Instr.{Instr}
use Rattle.tpal_syntax.specs.declared.instructions.Value.{Value}
use Rattle.tpal_syntax.specs.declared.notes.Note.{Note}
use Rattle.tpal_syntax.specs.declared.sites.CallSite.{CallSite}
use Rattle.tpal_syntax.specs.declared.sites.LeafSite.{LeafSite}
use Rattle.tpal_syntax.specs.declared.sites.LoopSite.{LoopSite}
use Rattle.tpal_syntax.specs.Listing.{Listing}
use Rattle.expr_lower.specs.declared.scope.Scope.{Scope}
use Rattle.expr_lower.specs.Bodies.{name_of}
use Rattle.expr_lower.specs.Fitting.{AreBlocksOf, AreInstrsOf, CanBeNamed, IsPlaced}
use Rattle.expr_lower.specs.Scopes.{IsIn}
use Rattle.expr_lower.specs.Standing.{AreAt}
use Rattle.handler_gen.specs.Blocks.{dispatch_block}
use Rattle.handler_gen.specs.LeafSites.{head_label, stored_loop}
use Rattle.handler_gen.specs.Sites.{joined_label, none_label, split_label}
use Rattle.scene_laws.specs.Layout.{value_cell}
use Rattle.block_lower.specs.declared.body.Body.{Body}
use Rattle.block_lower.specs.declared.body.Callee.{Callee}
use Rattle.block_lower.specs.declared.lowering.Lowering.{Lowering}
use Rattle.block_lower.specs.declared.output.Output.{Output}

-- ---- what code may name

-- how many blocks the code has: the last one is that to which each beat goes
abbrev pub blocks_of : Body → ℕ
blocks_of on = on.dispatch + 1

-- instructions of such a code
abbrev pub AreInstrs : Body → List Instr → Type 0
AreInstrs on instrs = AreInstrsOf on.tables (blocks_of on) instrs

-- an operand of such a code
abbrev pub IsOperand : Body → Value → Type 0
IsOperand on v = IsTrue (is_value (blocks_of on) v)

-- the variables and tables of an expression are visible, and it traps at places of a text
pub record IsKnown (scope : Scope) (e : Expr) : Type 0 where
  pub inside : IsIn scope e
  pub placed : IsPlaced e

-- a callee's first block is one of the code, and its cells have room in an activation
abbrev pub IsCallee : Body → Callee → Type 0
IsCallee on c = (c.label < blocks_of on) × (c.size ≤ MAX_ACTIVATION_CELLS)

-- the cells of a loop's site have offsets of an activation
pub record HasLoopCells (site : LoopSite) : Type 0 where
  pub cursor : site.cursor < MAX_ACTIVATION_CELLS
  pub bound : site.bound < MAX_ACTIVATION_CELLS
  pub rec : site.rec < MAX_ACTIVATION_CELLS
  pub mark : site.mark < MAX_ACTIVATION_CELLS

-- ---- sites

-- the labels of a loop's site and of the code round it are ones of the code, which has the tables
-- that are carried
pub record IsLoopPlaced (on : Body) (site : LoopSite) : Type 0 where
  pub none : none_label site.label < blocks_of on
  pub split : split_label site < blocks_of on
  pub carried : All (λ c. table_of c < on.tables) site.carries

-- the same of a leaf loop's site, and of its promotion point
pub record IsLeafPlaced (on : Body) (site : LeafSite) : Type 0 where
  pub loop : IsLoopPlaced on (stored_loop site)
  pub head : head_label site < blocks_of on

-- the labels of a site of two calls and of the code round it are ones of the code
pub record IsCallPlaced (on : Body) (site : CallSite) : Type 0 where
  pub joined : joined_label site.label < blocks_of on
  pub entry : site.entry < blocks_of on

-- ---- what is written

-- blocks from a label on have the names of their labels
abbrev pub AreNamed : ℕ → List Block → Type 0
AreNamed at [] = ⊤
AreNamed at (b ∷ bs) = (b.name ≡ name_of at) × AreNamed (at + 1) bs

-- a code with as many tables and blocks as are known before, in which these blocks stand first, and
-- that to which each beat goes last
pub record IsAround (on : Body) (closed : List Block) (code : Listing) : Type 0 where
  pub tables : length code.tables ≡ on.tables
  pub blocks : length code.blocks ≡ blocks_of on
  pub dispatch : slice_get code.blocks on.dispatch ≡ Some (dispatch_block on.dispatch)
  pub stand : AreAt code 0 closed

-- these are blocks of each such code
abbrev pub AreBlocksRound : Body → List Block → List Block → Type 0
AreBlocksRound on closed blocks =
    (code : Listing) → IsAround on closed code → AreBlocksOf code.tables code.blocks blocks

-- Closed blocks, and an open block with its instructions so far, the trap blocks behind it and its
-- note: they are named for their labels, and all of them are of each such code.
pub record AreProper (on : Body) (closed : List Block) (instrs : List Instr) (behind : List Block)
    (marked : Note) : Type 0 where
  pub named : AreNamed 0 closed
  pub traps_named : AreNamed (length closed + 1) behind
  pub blocks : AreBlocksRound on closed closed
  pub traps : AreBlocksRound on closed behind
  pub body : AreInstrs on instrs
  pub note : (code : Listing) → IsAround on closed code → IsNote code.tables code.blocks marked

-- what is written of a code is proper
abbrev pub IsProper : Body → Output → Type 0
IsProper on out = AreProper on out.blocks.items out.body.items out.traps.items out.note

-- All that is written is of such a code, and what the code stands on can be named in one.
pub record Conforms (self : Lowering) : Type 0 where
  pub size : self.on.size + value_cell MAX_PARAMETERS ≤ MAX_ACTIVATION_CELLS
  pub callees : AllByRecursion (IsCallee self.on) self.on.callees.items
  pub scope : CanBeNamed self.on.tables self.scope
  pub written : IsProper self.on self.out
