-- What holds of expressions, arguments and calls where no rule is broken.
use Rattle.std.proofs.Common.{◌≡◌, ℕ, ◌≤◌, Bool, true, false, cond, List, [], ◌∷◌, length, Option}
use Rattle.std.proofs.Common.{Some, None, refl, arith}
use Rattle.std.specs.Prelude.{not, nat_lt, nat_eq}
use Rattle.std.specs.List.{AllByRecursion}
use Rattle.std.proofs.lemmas.Bool.Decides.{nat_tests}
use Rattle.tp_value.specs.declared.Place.{Place}
use Rattle.tp_value.specs.declared.limits.TheConstants.{MAX_EXPRESSION_HEIGHT, MAX_PARAMETERS}
use Rattle.loop_syntax.specs.declared.App.{App}
use Rattle.loop_syntax.specs.declared.Name.{Name}
use Rattle.loop_syntax.specs.declared.Expr.{Expr}
use Rattle.loop_syntax.specs.declared.Expr.TheVariants.{Int, Var, Cell', Rows, Cols, Neg', Bin'}
use Rattle.loop_syntax.specs.declared.Func.{Func}
use Rattle.loop_rules.specs.Limits.{height, first_place, over_limits}
use Rattle.loop_rules.specs.Names.{is_in, texts, func_of}
use Rattle.loop_rules.specs.Carries.{miscarried}
use Rattle.loop_rules.specs.Reductions.{outer_set, misreduced}
use Rattle.loop_rules.specs.Scopes.{misfits, misnamed, loop_variable_set}
use Rattle.loop_rules.specs.Sites.{NamesTable, Calls, Spot, Site, site, in_expr, in_whole, in_args}
use Rattle.loop_rules.specs.Sites.{in_app}
use Rattle.loop_check.proofs.Bools.{not_false}
use Rattle.loop_check.proofs.Fine.{at_none}
use Rattle.loop_check.proofs.Lists.{Each, each_left, each_right}
use Rattle.scene_laws.specs.Visible.{IsVisible, AreVisible}
use Rattle.scene_laws.specs.Heights.{IsLow, AreLowArguments}

-- what is done at a place keeps the rules on names, on variables round a `par`, on variables of loops
-- and on limits
pub record Keeps (s : Site) : Type 0 where
  pub names : misnamed s.act s.spot ≡ []
  pub sets : outer_set s.act s.spot ≡ []
  pub reductions : misreduced s.act s.spot ≡ []
  pub items : miscarried s.act s.spot ≡ []
  pub loops : loop_variable_set s.act s.spot ≡ []
  pub limits : over_limits s.act s.spot ≡ []

-- ---- expressions

-- a table that is named is declared
pub named_table : (w : Spot) (t : Name) → Keeps (site w (NamesTable t)) → is_in (texts w.tables) t.text.items ≡ true
named_table w t k = not_false (is_in (texts w.tables) t.text.items) (at_none t (not (is_in (texts w.tables) t.text.items)) k.names)

visible : (w : Spot) (e : Expr) → Each Keeps (in_expr w e) → IsVisible (texts w.tables) w.scope e
visible w (Int n place) k = tt
visible w (Var x) k = not_false (is_in w.scope x.text.items) (at_none x (not (is_in w.scope x.text.items)) k.0.names)
visible w (Cell' t p a q b) k =
    (named_table w t k.0, visible w a (each_left Keeps (in_expr w a) (in_expr w b) k.1.1), visible w b (each_right Keeps (in_expr w a) (in_expr w b) k.1.1))
visible w (Rows t) k = named_table w t k.0
visible w (Cols t) k = named_table w t k.0
visible w (Neg' p a place) k = visible w a k
visible w (Bin' o place p a q b) k = (visible w a (each_left Keeps (in_expr w a) (in_expr w b) k), visible w b (each_right Keeps (in_expr w a) (in_expr w b) k))

pub whole_visible : (w : Spot) (e : Expr) → Each Keeps (in_whole w e) → IsVisible (texts w.tables) w.scope e
whole_visible w e k = visible w e k.1

pub chosen_none : (b : Bool) (p : Place) → cond b (p ∷ []) [] ≡ [] → b ≡ false
chosen_none true p h = absurd (cc)
chosen_none false p h = refl

at_most : (m n : ℕ) → nat_lt m n ≡ false → n ≤ m
at_most m n h = grind (arith, nat_tests)

pub whole_low : (w : Spot) (e : Expr) → Each Keeps (in_whole w e) → IsLow e
whole_low w e k = at_most MAX_EXPRESSION_HEIGHT (height e) (chosen_none (nat_lt MAX_EXPRESSION_HEIGHT (height e)) (first_place e) k.0.limits)

-- ---- arguments and calls

pub args_visible : (w : Spot) (es : List Expr) → Each Keeps (in_args w es) → AreVisible (texts w.tables) w.scope es
args_visible w [] k = tt
args_visible w (e ∷ es) k = (visible w e (each_left Keeps (in_whole w e) (in_args w es) k).1, args_visible w es (each_right Keeps (in_whole w e) (in_args w es) k))

args_low : (w : Spot) (es : List Expr) → Each Keeps (in_args w es) → AllByRecursion IsLow es
args_low w [] k = tt
args_low w (e ∷ es) k = (whole_low w e (each_left Keeps (in_whole w e) (in_args w es) k), args_low w es (each_right Keeps (in_whole w e) (in_args w es) k))

-- the function of that name has so many parameters
pub record IsCallee (fs : List Func) (x : List ℕ) (n : ℕ) : Type 0 where
  pub func : Func
  pub is : func_of fs x ≡ Some func
  pub arity : length func.params.items ≡ n

as_many : (m n : ℕ) → not (nat_eq m n) ≡ false → m ≡ n
as_many m n h = grind (arith, nat_tests)

-- the function that is called is there
pub callee_of : (w : Spot) (f : App) → Keeps (site w (Calls f.callee (length f.args.items))) → IsCallee w.funcs f.callee.text.items (length f.args.items)
callee_of w f k = go (func_of w.funcs f.callee.text.items) refl (at_none f.callee (misfits (func_of w.funcs f.callee.text.items) (length f.args.items)) k.names)
  where
    go : (o : Option Func) → func_of w.funcs f.callee.text.items ≡ o → misfits o (length f.args.items) ≡ false → IsCallee w.funcs f.callee.text.items (length f.args.items)
    go None is h = absurd (cc)
    go (Some g) is h = record { func = g; is = is; arity = as_many (length g.params.items) (length f.args.items) h }

-- no function has too many parameters
pub record AreShort (fs : List Func) : Type 0 where
  pub short : (x : List ℕ) (f : Func) → func_of fs x ≡ Some f → length f.params.items ≤ MAX_PARAMETERS

pub app_low : (w : Spot) (f : App) → AreShort w.funcs → Each Keeps (in_app w f) → AreLowArguments f.args.items
app_low w f short k =
    let callee : IsCallee w.funcs f.callee.text.items (length f.args.items) = callee_of w f k.0 in
    let few : length callee.func.params.items ≤ MAX_PARAMETERS = short.short f.callee.text.items callee.func callee.is in
    ((let arity : length callee.func.params.items ≡ length f.args.items = callee.arity in omega arith), args_low w f.args.items k.1)
