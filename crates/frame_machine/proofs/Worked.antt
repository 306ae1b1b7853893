-- Worked loops and calls that may be cut, so that a reader sees that the premises of the laws can be met.
use Rattle.frame_machine.specs.Bodies.{FuncKeeps}
use Rattle.frame_machine.proofs.Frames.{frames_join}
use Rattle.frame_machine.proofs.Tables.{agree_refl}
use Rattle.frame_machine.specs.FrameLaws.{CutRange, LawfulCalls, RangeCut, RangeLaw}
use Rattle.frame_machine.specs.Iterating.{UpperSeen}
use Rattle.frame_machine.specs.Lawful.{Callable, FixedIn, Lawful, modes_in}
use Rattle.frame_machine.specs.Modes.{AllOfMode, AllOfModes, OwnRow, Whole, all_whole}
use Rattle.loop_meaning.specs.InRange.{FuncInRange, InRange, TableInRange, VariableInRange}
use Rattle.loop_meaning.specs.State.{State}
use Rattle.loop_rules.specs.Names.{func_of}
use Rattle.loop_syntax.specs.declared.App.{App}
use Rattle.loop_syntax.specs.declared.BinOp.{BinOp}
use Rattle.loop_syntax.specs.declared.Carry.{Carry}
use Rattle.loop_syntax.specs.declared.Expr.{Expr}
use Rattle.loop_syntax.specs.declared.Expr.TheVariants.{Bin, Int, Var}
use Rattle.loop_syntax.specs.declared.Func.{Func}
use Rattle.loop_syntax.specs.declared.Name.{Name}
use Rattle.loop_syntax.specs.declared.ParLoop.{ParLoop}
use Rattle.loop_syntax.specs.declared.Program.{Program}
use Rattle.loop_syntax.specs.declared.Reduce.{Reduce}
use Rattle.loop_syntax.specs.declared.Stmt.{Stmt}
use Rattle.loop_syntax.specs.declared.Stmt.TheBlock.{hidden-the_row-Stmt-0, shape-the_row-Stmt-0}
use Rattle.loop_syntax.specs.declared.Stmt.TheVariants.{Both, Fold, If, Let, Par, Put, Set}
use Rattle.std.proofs.lemmas.Int.{ints}
use Rattle.std.proofs.lemmas.List.Elements.{All-cons, All-nil}
use Rattle.tp_value.specs.declared.Table.{Table}
use Rattle.std.proofs.Common.{All, Bool, Box, List, None, Some, Vec, [], arith, bytes_eq, cond}
use Rattle.std.proofs.Common.{false, inl, inr, length, lit<, pos, refl, sym, true, ℕ, ℤ, ◌<◌, ◌^◌}
use Rattle.std.proofs.Common.{◌∙◌, ◌∷◌, ◌≡◌}
use Rattle.std.proofs.lemmas.Slice.Eq.{bytes_eq-Decides}
use Rattle.std.specs.declared.alloc.Global.{Global}
use Rattle.tp_value.specs.declared.Op.TheVariants.{Add, Affine}
use Rattle.tp_value.specs.declared.Place.{Place}
use denote.RawPtr.{null_ptr}
use Rattle.loop_syntax.specs.declared.RowAt.TheVariants as row
use Rattle.loop_syntax.specs.declared.BinOp.TheVariants as op
use Rattle.loop_syntax.specs.declared.Carry.TheVariants as carry

module _ (g : Global) where
  vec : {A : Type 0} (xs : List A) → length xs < 2 ^ 63 → Vec A Global
  vec xs h = record { ptr = null_ptr; len = length xs; cap = length xs; alloc = g; items = xs; ok = (refl, omega arith); small = h }

  none : {A : Type 0} → Vec A Global
  unfolding vec
  none = vec [] (lit< tt)

  at : Place
  at = record { line = 1; col = 1 }

  nm : ℕ → Name
  unfolding vec at
  nm c = record { text = vec (c ∷ []) (lit< tt); place = at }

  box : Expr → Box Expr Global
  box e = record { ptr = null_ptr; alloc = g; value = e }

  int : ℤ → Expr
  unfolding at
  int n = Int n at

  var : ℕ → Expr
  unfolding nm
  var c = Var (nm c)

  bin : BinOp → Expr → Expr → Expr
  unfolding box at
  bin o a b = Bin o at (box a) (box b)

  par : ℕ → ℤ → ℤ → Vec Carry Global → Vec Reduce Global → Vec Stmt Global → ParLoop
  unfolding nm at int
  par x a b cs rs body = record { place = at; var = nm x; from = int a; to = int b; carry_place = at; carries = cs; reduces = rs; body = body }

  letters : ℕ → List ℕ
  letters c = c ∷ []

  different : (a b : ℕ) → bytes_eq (letters a) (letters b) ≡ false → letters a ≡ letters b → ⊥
  different a b h e = let z : false ≡ true = sym h ∙ (bytes_eq-Decides (letters a) (letters b)).1 e in cc

  only_main : Program
  unfolding none
  only_main = record { tables = none; funcs = none; main = none }

  -- ---- par i in 0..4 carry t[i] reduce s by add { t[i][0] = i; fold s with i; let z = i; z = 5; }

  sums : ParLoop
  unfolding vec none nm at int var par
  sums = par 105 (pos 0) (pos 4) (vec (carry.Rows (nm 116) (nm 105) ∷ []) (lit< tt)) (vec (record { target = nm 115; op = Add } ∷ []) (lit< tt))
      (vec (Put (nm 116) (var 105) (int (pos 0)) (var 105) ∷ Fold (nm 115) (var 105) ∷ Let (nm 122) (var 105) ∷ Set (nm 122) (int (pos 5)) ∷ []) (lit< tt))

  sum_mode : (P : List ℕ → Type 0) → P (letters 105) → AllOfModes P (modes_in all_whole sums)
  unfolding vec none nm at int var par sums letters
  sum_mode P p t = go (bytes_eq (letters 116) t)
    where
      go : (b : Bool) → AllOfMode P (cond b (OwnRow (letters 105)) Whole)
      go true = p
      go false = tt

  sums_lawful : Lawful only_main all_whole (letters 115 ∷ []) sums
  unfolding vec none nm at int var par sums only_main letters
  sums_lawful = record {
    distinct = (refl, tt);
    fresh = refl;
    plain = refl;
    targets = (refl, tt);
    visible = (refl, tt);
    rows = tt;
    body = (
      (refl, tt, refl, refl),
      (
        (refl, refl, s_folded),
        (
          (refl, (refl, sum_mode (λ y. letters 122 ≡ y → ⊥) (different 122 105 refl))),
          (
            (tt, (refl, z_set)),
            tt,
          ),
        ),
      ),
    );
    functions = λ f h. tt;
  }
    where
      s_folded : FixedIn (letters 115 ∷ []) sums.reduces.items (letters 105) (letters 115) → ⊥
      s_folded (inl p) = absurd (let q : Some Add ≡ None = p.1 in cc)
      s_folded (inr e) = different 115 105 refl e

      z_set : FixedIn (letters 115 ∷ []) sums.reduces.items (letters 105) (letters 122) → ⊥
      z_set (inl p) = absurd (let q : false ≡ true = p.0 in cc)
      z_set (inr e) = different 122 105 refl e

  -- a task at iteration 1 of 4, with 7 so far, is cut at 2
  table : Table
  unfolding letters
  table = record { name = letters 116; rows = 4; cols = 1; cells = pos 0 ∷ pos 0 ∷ pos 0 ∷ pos 0 ∷ [] }

  sums_state : State
  unfolding letters table
  sums_state = record { vars = record { name = letters 115; value = pos 7 } ∷ []; tables = table ∷ []; output = []; ticks = 1 }

  sums_cut : CutRange
  unfolding sums_state
  sums_cut = record {
    first = pos 0;
    last = pos 4;
    next = pos 1;
    middle = pos 2;
    end = pos 4;
    accs = (Add, pos 7) ∷ [];
    state = sums_state;
    vars = sums_state.vars;
    tables = sums_state.tables;
  }

  small : (n : ℕ) → n < 100 → InRange (pos n)
  small n h = omega (arith, ints, h)

  sums_cut_stands : RangeCut only_main all_whole sums 10 sums_cut
  unfolding vec none nm at int var par sums only_main letters table sums_state sums_cut hidden-the_row-Stmt-0 shape-the_row-Stmt-0 denote.Hole.Carrier.hidden
  sums_cut_stands = record {
    fits = record {
      begins = omega (arith, ints);
      ordered = omega (arith, ints);
      ends = omega (arith, ints);
      short = refl;
      first_in_range = small 0 (omega arith);
      last_in_range = small 4 (omega arith);
      operators = refl;
      numbers = All-cons InRange (pos 7) [] (small 7 (omega arith)) (All-nil InRange);
    };
    low = omega (arith, ints);
    high = omega (arith, ints);
    range = record {
      funcs = All-nil FuncInRange;
      par = (small 0 (omega arith), small 4 (omega arith), ((tt, small 0 (omega arith), tt), (tt, (tt, (small 5 (omega arith), tt)))));
      state = record {
        vars = All-cons VariableInRange (record { name = letters 115; value = pos 7 }) [] (small 7 (omega arith)) (All-nil VariableInRange);
        tables = All-cons TableInRange table [] (record { cells = zeros; rows = small 4 (omega arith); cols = small 1 (omega arith) }) (All-nil TableInRange);
      };
    };
    within = omega arith;
    round = record { names = refl; values = λ x h. refl };
    given = agree_refl (UpperSeen all_whole sums sums_state.vars (pos 2)) sums_state.tables;
  }
    where
      zero_in : InRange (pos 0)
      zero_in = small 0 (omega arith)

      zeros : All InRange (pos 0 ∷ pos 0 ∷ pos 0 ∷ pos 0 ∷ [])
      zeros =
          All-cons InRange (pos 0) (pos 0 ∷ pos 0 ∷ pos 0 ∷ []) zero_in (All-cons InRange (pos 0) (pos 0 ∷ pos 0 ∷ []) zero_in
          (All-cons InRange (pos 0) (pos 0 ∷ []) zero_in (All-cons InRange (pos 0) [] zero_in (All-nil InRange))))

  sums_join : RangeLaw only_main 10 0 all_whole sums sums_cut
  unfolding vec none nm at int var par sums only_main letters table sums_state sums_cut hidden-the_row-Stmt-0 shape-the_row-Stmt-0 denote.Hole.Carrier.hidden
  sums_join =
      let c : CutRange = sums_cut in
      let h : RangeCut only_main all_whole sums 10 c = sums_cut_stands in
      frames_join only_main 10 0 all_whole sums c.first c.last c.next c.middle c.end c.accs c.state c.vars c.tables sums_lawful h.fits h.low h.high h.range h.within h.round h.given

  -- ---- par i in 0..4 reduce s by affine { fold s with i * 4294967296 + 1; }

  maps : ParLoop
  unfolding vec none nm at int var bin box par
  maps = par 105 (pos 0) (pos 4) none (vec (record { target = nm 115; op = Affine } ∷ []) (lit< tt))
      (vec (Fold (nm 115) (bin op.Add (bin op.Mul (var 105) (int (pos 4294967296))) (int (pos 1))) ∷ []) (lit< tt))

  maps_lawful : Lawful only_main all_whole (letters 115 ∷ []) maps
  unfolding vec none nm at int var bin box par maps only_main letters
  maps_lawful = record {
    distinct = (refl, tt);
    fresh = refl;
    plain = refl;
    targets = (refl, tt);
    visible = (refl, tt);
    rows = tt;
    body = ((((refl, tt), tt), refl, s_folded), tt);
    functions = λ f h. tt;
  }
    where
      s_folded : FixedIn (letters 115 ∷ []) maps.reduces.items (letters 105) (letters 115) → ⊥
      s_folded (inl p) = absurd (let q : Some Affine ≡ None = p.1 in cc)
      s_folded (inr e) = different 115 105 refl e

  -- ---- par i in 0..2 carry t[i] { par j in 0..3 carry t[i][j] { t[i][j] = i + j; } }

  cells : ParLoop
  unfolding vec none nm at int var bin box par
  cells = par 106 (pos 0) (pos 3) (vec (carry.Cells (nm 116) (row.Var (nm 105)) (nm 106) ∷ []) (lit< tt)) none
      (vec (Put (nm 116) (var 105) (var 106) (bin op.Add (var 105) (var 106)) ∷ []) (lit< tt))

  grid : ParLoop
  unfolding vec none nm at int par cells
  grid = par 105 (pos 0) (pos 2) (vec (carry.Rows (nm 116) (nm 105) ∷ []) (lit< tt)) none (vec (Par cells ∷ []) (lit< tt))

  grid_mode : (P : List ℕ → Type 0) → P (letters 105) → AllOfModes P (modes_in all_whole grid)
  unfolding vec none nm at int par cells grid letters
  grid_mode P p t = go (bytes_eq (letters 116) t)
    where
      go : (b : Bool) → AllOfMode P (cond b (OwnRow (letters 105)) Whole)
      go true = p
      go false = tt

  -- the outer loop, and the inner one in its body
  grid_lawful : Lawful only_main all_whole [] grid
  unfolding vec none nm at int var bin box par cells grid only_main letters hidden-the_row-Stmt-0 shape-the_row-Stmt-0 denote.Hole.Carrier.hidden
  grid_lawful = record {
    distinct = tt;
    fresh = refl;
    plain = refl;
    targets = tt;
    visible = tt;
    rows = tt;
    body = (
      (tt, tt, (refl, grid_mode (λ y. letters 106 ≡ y → ⊥) (different 106 105 refl)), (refl, tt), ((refl, refl, (refl, refl), (refl, refl)), tt), tt),
      tt,
    );
    functions = λ f h. tt;
  }

  cells_lawful : Lawful only_main (modes_in all_whole grid) (letters 105 ∷ []) cells
  unfolding vec none nm at int var bin box par cells grid only_main letters
  cells_lawful = record {
    distinct = (refl, tt);
    fresh = refl;
    plain = refl;
    targets = tt;
    visible = tt;
    rows = (refl, refl, tt);
    body = ((refl, refl, (refl, refl), (refl, refl)), tt);
    functions = λ f h. tt;
  }

  -- ---- fn f(n) { let r = n; if 1 < n { let a = 0; let b = 0; both a = f(n - 1), b = f(n - 2); r = a + b; } return r; }

  call_of : ℤ → App
  unfolding vec nm int var bin
  call_of k = record { callee = nm 102; args = vec (bin op.Sub (var 110) (int k) ∷ []) (lit< tt) }

  fib : Func
  unfolding vec none nm at int var bin box call_of
  fib = record {
    name = nm 102;
    params = vec (nm 110 ∷ []) (lit< tt);
    body = vec (Let (nm 114) (var 110) ∷ If (bin op.Lt (int (pos 1)) (var 110))
        (vec (Let (nm 97) (int (pos 0)) ∷ Let (nm 98) (int (pos 0)) ∷ Both (nm 97) (call_of (pos 1)) (nm 98) (call_of (pos 2)) ∷ Set (nm 114) (bin op.Add (var 97) (var 98)) ∷ []) (lit< tt)) none ∷ []) (lit< tt);
    result = var 114;
  }

  numbers : Program
  unfolding vec none
  numbers = record { tables = none; funcs = vec (fib ∷ []) (lit< tt); main = none }

  any_call : (f : List ℕ) → Callable numbers all_whole f
  any_call f t r = refl

  fib_keeps : FuncKeeps (Callable numbers all_whole) all_whole (Some fib)
  unfolding vec none nm at int var bin box call_of fib hidden-the_row-Stmt-0 shape-the_row-Stmt-0 denote.Hole.Carrier.hidden
  fib_keeps = (
    (
      (refl, (refl, λ t. tt)),
      (
        (
          (tt, refl),
          ((tt, (refl, λ t. tt)), ((tt, (refl, λ t. tt)), ((((refl, tt), tt), ((refl, tt), tt), any_call _, any_call _, (refl, λ z. z), (refl, λ z. z)), (((refl, refl), (refl, λ z. z)), tt)))),
          tt,
        ),
        tt,
      ),
    ),
    refl,
  )

  fib_lawful : LawfulCalls numbers all_whole (letters 102) (letters 102)
  unfolding vec none nm numbers letters
  fib_lawful = record { functions = keeps; first = any_call (letters 102); second = any_call (letters 102) }
    where
      keeps : (f : List ℕ) → Callable numbers all_whole f → FuncKeeps (Callable numbers all_whole) all_whole (func_of numbers.funcs.items f)
      keeps f s = go (bytes_eq fib.name.text.items f)
        where
          go : (b : Bool) → FuncKeeps (Callable numbers all_whole) all_whole (cond b (Some fib) None)
          go true = fib_keeps
          go false = tt
