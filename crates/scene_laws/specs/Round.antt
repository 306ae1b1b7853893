-- What stands round a statement in its function or in main, as far as its code depends on it.
use Rattle.std.specs.Prelude.{ℕ, suc, cond, nat_eq, List, [], ◌∷◌, ◌++◌, length}
use Rattle.std.specs.Prelude.{Option, None, Some}
use Rattle.tpal_syntax.specs.declared.sites.LeafSite.{LeafSite}
use Rattle.handler_gen.specs.LeafSites.{registers_of}
use Rattle.loop_syntax.specs.declared.Reduce.{Reduce}
use Rattle.loop_rules.specs.Names.{operator_of}
use Rattle.loop_rules.specs.Reductions.{some_op}

pub record Round : Type 0 where
  -- what the nearest `par` reduces
  pub reduces : List Reduce
  -- the levels of the variables that the statement may not set
  pub fixed : List ℕ
  -- how many `par` loops there are
  pub depth : ℕ
  -- in the body of a leaf loop, the cells for which registers stand, each with its register
  pub registers : List (ℕ × ℕ)

-- nothing stands round the statements of main, or of a function
abbrev pub outermost : Round
outermost = record { reduces = []; fixed = []; depth = 0; registers = [] }

-- round the body of a `loop` over the variable of a level
abbrev pub loop_round : Round → ℕ → Round
loop_round round level = record round { fixed = level ∷ round.fixed }

-- the levels of those of these variables that aren't reduced, where the first one stands at a level
abbrev pub unreduced : List (List ℕ) → ℕ → List Reduce → List ℕ
unreduced [] level reduces = []
unreduced (x ∷ xs) level reduces =
    cond (some_op (operator_of reduces x)) [] (level ∷ []) ++ unreduced xs (suc level) reduces

-- Round the body of a `par` where these variables are visible, which reduces these: besides its own
-- variable all the others are fixed.
abbrev pub par_round : Round → List (List ℕ) → List Reduce → Round
par_round round names reduces =
    record {
      reduces = reduces;
      fixed = length names ∷ unreduced names 0 reduces ++ round.fixed;
      depth = suc round.depth;
      registers = [];
    }

-- the same round the body of a leaf loop
abbrev pub leaf_round : Round → List (List ℕ) → List Reduce → LeafSite → Round
leaf_round round names reduces site =
    record (par_round round names reduces) { registers = registers_of site }

-- the register that stands for a cell, where one does
abbrev pub register_for : List (ℕ × ℕ) → ℕ → Option ℕ
register_for [] cell = None
register_for (p ∷ ps) cell = cond (nat_eq p.0 cell) (Some p.1) (register_for ps cell)
