-- Programs whose `par` loops may all be cut, and whose functions may be called on either side.
use Rattle.std.specs.Prelude.{◌≡◌, ℕ, List, [], Some, Contains}
use Rattle.loop_syntax.specs.declared.Func.{Func}
use Rattle.loop_syntax.specs.declared.Name.{Name}
use Rattle.loop_syntax.specs.declared.ParLoop.{ParLoop}
use Rattle.loop_syntax.specs.declared.Program.{Program}
use Rattle.loop_rules.specs.Names.{func_of, texts}
use Rattle.loop_rules.specs.Sites.{Loop, Calls, Spot, site, sites}
use Rattle.loop_meaning.specs.Cells.{body_of, bodies_of, bodies_of_list}
use Rattle.frame_machine.specs.Modes.{Modes, modes_of}
use Rattle.frame_machine.specs.Bodies.{FuncsKeep}
use Rattle.frame_machine.specs.Lawful.{Callable, Lawful}

pub record AllLawful (p : Program) : Type 0 where
  -- each `par` may be cut, where its place allows what the clauses of the loops round it say
  pub loops : (rounds : List Loop) (outside : List (List ℕ)) (l : ParLoop)
      → Contains (bodies_of p) (body_of outside rounds l)
      → Lawful p (modes_of rounds) outside l
  -- and one of a function, wherever the tables that the function reads are whole
  pub of_function : (f : List ℕ) (g : Func)
      → func_of p.funcs.items f ≡ Some g
      → (outer : Modes)
      → Callable p outer f
      → (rounds : List Loop) (outside : List (List ℕ)) (l : ParLoop)
      → Contains (bodies_of_list (texts g.params.items) [] g.body.items) (body_of outside rounds l)
      → Lawful p outer outside l
  -- what is called inside loops reads only tables that none of them carries
  pub calls : (w : Spot) (f : Name) (n : ℕ)
      → Contains (sites p) (site w (Calls f n))
      → Callable p (modes_of w.rounds) f.text.items
  -- whatever the modes are, the functions that read only whole tables write nothing and call only
  -- such functions
  pub functions : (m : Modes) → FuncsKeep (Callable p m) m p.funcs.items
