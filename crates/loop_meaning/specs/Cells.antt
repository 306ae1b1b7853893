-- The cells that the iterations of a `par` touch.
use Rattle.std.specs.Prelude.{◌≡◌, ◌≢◌, ℕ, ℤ, List, [], ◌∷◌, ◌++◌, map, Contains, None}
use Rattle.loop_syntax.specs.declared.ParLoop.{ParLoop}
use Rattle.loop_syntax.specs.declared.Stmt.{Stmt, Row_of-Stmt, end_of-Stmt, more_of-Stmt}
use Rattle.loop_syntax.specs.declared.Stmt.{items-the_row-Stmt}
use Rattle.loop_syntax.specs.declared.Stmt.TheVariants.{Let, If', While', Loop', Par'}
use Rattle.loop_syntax.specs.declared.Func.{Func}
use Rattle.loop_syntax.specs.declared.Program.{Program}
use Rattle.loop_rules.specs.Names.{texts, operator_of}
use Rattle.loop_rules.specs.Sites.{Loop}
use Rattle.loop_meaning.specs.declared.value.Variable.{Variable}
use Rattle.loop_meaning.specs.State.{State, Note, Reads, Writes, Emits, Chance, Ran, lookup}
use Rattle.loop_meaning.specs.Statements.{run_list, iteration}
use Rattle.loop_meaning.specs.Calls.{setting}

pub record Cell : Type 0 where
  pub table : List ℕ
  pub row : ℤ
  pub col : ℤ

-- the cells that were read, in order
abbrev pub read_cells : List Note → List Cell
read_cells [] = []
read_cells (Reads t i j ∷ ns) = record { table = t; row = i; col = j } ∷ read_cells ns
read_cells (Writes t i j ∷ ns) = read_cells ns
read_cells (Emits t ∷ ns) = read_cells ns
read_cells (Chance ∷ ns) = read_cells ns

-- the cells that were written, in order
abbrev pub write_cells : List Note → List Cell
write_cells [] = []
write_cells (Reads t i j ∷ ns) = write_cells ns
write_cells (Writes t i j ∷ ns) = record { table = t; row = i; col = j } ∷ write_cells ns
write_cells (Emits t ∷ ns) = write_cells ns
write_cells (Chance ∷ ns) = write_cells ns

-- ---- the `par` loops of a program

-- a `par`, the `par` loops round it, nearest first, and the statements of its body
pub record Body : Type 0 where
  pub loop : Loop
  pub rounds : List Loop
  pub statements : List Stmt

-- that of a loop, where these variables are visible and these `par` loops stand round it
abbrev pub body_of : List (List ℕ) → List Loop → ParLoop → Body
body_of vs rounds l = record {
  loop =
      record {
        outside = vs;
        var = l.var.text.items;
        carries = l.carries.items;
        reduces =
            l.reduces.items;
      };
  rounds = rounds;
  statements = l.body.items;
}

-- the variables that are visible after a statement
abbrev pub visible_after : List (List ℕ) → Stmt → List (List ℕ)
visible_after vs (Let x e) = vs ++ x.text.items ∷ []
visible_after vs _ = vs

-- each `par` of a statement and of the statements of a block, where these variables are visible and
-- these `par` loops stand round
abbrev mutual
  pub bodies : List (List ℕ) → List Loop → Stmt → List Body
  bodies vs rounds (If' e p body q other) = bodies_all vs rounds body ++ bodies_all vs rounds other
  bodies vs rounds (While' e p body) = bodies_all vs rounds body
  bodies vs rounds (Loop' x a b p body) = bodies_all (vs ++ x.text.items ∷ []) rounds body
  bodies vs rounds (Par' place x a b carry_place carries reduces p body) =
      let loop : Loop = record {
        outside = vs;
        var = x.text.items;
        carries = carries.items;
        reduces = reduces.items;
      } in
      record { loop = loop; rounds = rounds; statements = items-the_row-Stmt _ body }
      ∷ bodies_all (vs ++ x.text.items ∷ []) (loop ∷ rounds) body
  bodies vs rounds _ = []

  pub bodies_all : {m : _} → List (List ℕ) → List Loop → Row_of-Stmt m → List Body
  bodies_all vs rounds end_of-Stmt = []
  bodies_all vs rounds (more_of-Stmt first rest) =
      bodies vs rounds first ++ bodies_all (visible_after vs first) rounds rest

abbrev pub bodies_of_list : List (List ℕ) → List Loop → List Stmt → List Body
bodies_of_list vs rounds [] = []
bodies_of_list vs rounds (s ∷ ss) =
    bodies vs rounds s ++ bodies_of_list (visible_after vs s) rounds ss

abbrev pub bodies_of_funcs : List Func → List Body
bodies_of_funcs [] = []
bodies_of_funcs (f ∷ fs) =
    bodies_of_list (texts f.params.items) [] f.body.items ++ bodies_of_funcs fs

abbrev pub bodies_of : Program → List Body
bodies_of p = bodies_of_funcs p.funcs.items ++ bodies_of_list [] [] p.main.items

-- ---- disjoint writes

-- the run of one iteration
abbrev pub run_of : Program → ℕ → ℕ → Body → ℤ → State → Ran
run_of p fuel depth b i s =
    iteration fuel b.loop.var (run_list (setting p fuel depth b.loop.reduces) b.statements) [] i s

-- two states have just the variables that are declared outside the body, with equal values but for
-- those that the loop reduces
pub record Agree (b : Body) (s t : State) : Type 0 where
  pub first : map (λ (v : Variable). v.name) s.vars ≡ b.loop.outside
  pub second : map (λ (v : Variable). v.name) t.vars ≡ b.loop.outside
  pub equal : (x : List ℕ) → operator_of b.loop.reduces x ≡ None → lookup s.vars x ≡ lookup t.vars x

-- no cell that one iteration writes is read or written by another
pub record Disjoint (p : Program) : Type 0 where
  pub apart : (b : Body)
      → Contains (bodies_of p) b
      → (fuel depth : ℕ) (s t : State)
      → Agree b s t
      → (i j : ℤ)
      → i ≢ j
      → (c : Cell)
      → Contains (write_cells (run_of p fuel depth b i s).notes) c
      → ¬ (Contains
      (read_cells (run_of p fuel depth b j t).notes
      ++ write_cells (run_of p fuel depth b j t).notes)
      c)
