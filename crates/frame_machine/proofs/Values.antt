-- Expressions: those of a body have one answer in an upper part and in the whole, and read only what they may.
use Rattle.frame_machine.proofs.Bends.{Bend, Goes, bent, bent_lookup}
use Rattle.frame_machine.proofs.Owning.{Clear, Owns, OwnsAt}
use Rattle.frame_machine.proofs.Tables.{agree_has}
use Rattle.frame_machine.specs.Bodies.{IsLine, IsNumber, IsVar, MayRead, ReadsAt, WritesAt}
use Rattle.frame_machine.specs.Iterating.{OnlyChances}
use Rattle.frame_machine.specs.Modes.{Closed, Fixed, Line, Mode, Modes, Named, OwnCell, OwnRow}
use Rattle.frame_machine.specs.Modes.{Whole}
use Rattle.frame_machine.specs.Parts.{AgreeOn, Cells, NotesKeep, line_value}
use Rattle.loop_meaning.specs.Expressions.{Value, bind, bind_answer, calculated, eval, number}
use Rattle.loop_meaning.specs.Expressions.{read_cell}
use Rattle.loop_meaning.specs.State.{Chance, Emits, Note, Reads, Writes, cell_of, has_cell, lookup}
use Rattle.loop_meaning.specs.State.{table_of}
use Rattle.loop_meaning.specs.declared.value.Answer.{Answer}
use Rattle.loop_meaning.specs.declared.value.Answer.TheVariants.{Number, Traps}
use Rattle.loop_meaning.specs.declared.value.Variable.{Variable}
use Rattle.loop_syntax.specs.declared.BinOp.{BinOp}
use Rattle.loop_syntax.specs.declared.Expr.{Expr}
use Rattle.loop_syntax.specs.declared.Expr.TheVariants.{Bin', Cell', Cols, Int, Neg', Rows, Var}
use Rattle.loop_syntax.specs.declared.Name.{Name}
use Rattle.loop_syntax.specs.declared.Reduce.{Reduce}
use Rattle.std.proofs.Common.{Bool, List, [], ap, false, negsuc, pos, refl, subst, suc, sym, true}
use Rattle.std.proofs.Common.{zero, ℕ, ℤ, ◌++◌, ◌-ℤ◌, ◌∙◌, ◌∷◌, ◌≡◌}
use Rattle.tp_value.specs.Number.{wrapped}
use Rattle.tp_value.specs.declared.Place.{Place}
use Rattle.tp_value.specs.declared.Table.{Table}
use Rattle.tp_value.specs.declared.TrapKind.{TrapKind}
use Rattle.tp_value.specs.declared.TrapKind.TheVariants.{Index}
use Rattle.loop_syntax.specs.declared.BinOp.TheVariants as op

bind_number : (v : Value) (f : ℤ → Value) (n : ℤ) → v.answer ≡ Number n → (bind v f).answer ≡ (f n).answer
bind_number v f n e = rw e refl

bind_traps : (v : Value) (f : ℤ → Value) (k : TrapKind) (p : Place) → v.answer ≡ Traps k p → (bind v f).answer ≡ Traps k p
bind_traps v f k p e = rw e refl

bind_same : (v w : Value) (f g : ℤ → Value) → w.answer ≡ v.answer → ((n : ℤ) → v.answer ≡ Number n → (g n).answer ≡ (f n).answer) → (bind w g).answer ≡ (bind v f).answer
bind_same v w f g e h = go v.answer refl
  where
    go : (a : Answer) → v.answer ≡ a → (bind w g).answer ≡ (bind v f).answer
    go (Number n) q = bind_number w g n (e ∙ q) ∙ h n q ∙ sym (bind_number v f n q)
    go (Traps k p) q = bind_traps w g k p (e ∙ q) ∙ sym (bind_traps v f k p q)

abbrev number_in_answer : Answer → ℤ
number_in_answer (Number n) = n
number_in_answer (Traps k p) = pos 0

var_answer : (us : List Variable) (ts : List Table) (x : List ℕ) (e : Expr) (i : ℤ) → IsVar x e → (eval us ts e).answer ≡ Number i → lookup us x ≡ i
var_answer us ts x (Var y) i h q = ap (lookup us) (sym h) ∙ ap number_in_answer q
var_answer us ts x (Int n p) i h q = absurd h
var_answer us ts x (Cell' t p a r b) i h q = absurd h
var_answer us ts x (Rows t) i h q = absurd h
var_answer us ts x (Cols t) i h q = absurd h
var_answer us ts x (Neg' p a place) i h q = absurd h
var_answer us ts x (Bin' o place p a r b) i h q = absurd h

number_answer : (us : List Variable) (ts : List Table) (n : ℤ) (e : Expr) (i : ℤ) → IsNumber n e → (eval us ts e).answer ≡ Number i → n ≡ i
number_answer us ts n (Int m p) i h q = sym h ∙ ap number_in_answer q
number_answer us ts n (Var y) i h q = absurd h
number_answer us ts n (Cell' t p a r b) i h q = absurd h
number_answer us ts n (Rows t) i h q = absurd h
number_answer us ts n (Cols t) i h q = absurd h
number_answer us ts n (Neg' p a place) i h q = absurd h
number_answer us ts n (Bin' o place p a r b) i h q = absurd h

pub line_answer : (us : List Variable) (ts : List Table) (k : Line) (e : Expr) (i : ℤ) → IsLine k e → (eval us ts e).answer ≡ Number i → line_value k us ≡ i
line_answer us ts (Named x) e i h q = var_answer us ts x e i h q
line_answer us ts (Fixed n) e i h q = number_answer us ts n e i h q

-- a cell that may be read is one on which the tables agree
read_owned : (A : ℤ → ℤ → Type 0) (md : Mode) (us : List Variable) (ts : List Table) (a b : Expr) (i j : ℤ) → (md ≡ Whole → (k l : ℤ) → A k l) → OwnsAt A md us → ReadsAt md a b → (eval us ts a).answer ≡ Number i → (eval us ts b).answer ≡ Number j → A i j
read_owned A Whole us ts a b i j c w r p q = c refl i j
read_owned A Closed us ts a b i j c w r p q = absurd r
read_owned A (OwnRow x) us ts a b i j c w r p q = subst (λ z. A z j) (var_answer us ts x a i r p) (w j)
read_owned A (OwnCell k x) us ts a b i j c w r p q = subst (λ z. A z j) (line_answer us ts k a i r.0 p) (subst (λ z. A (line_value k us) z) (var_answer us ts x b j r.1 q) w)

-- and one that may be written
pub write_owned : (A : ℤ → ℤ → Type 0) (md : Mode) (us : List Variable) (ts : List Table) (a b : Expr) (i j : ℤ) → OwnsAt A md us → WritesAt md a b → (eval us ts a).answer ≡ Number i → (eval us ts b).answer ≡ Number j → A i j
write_owned A Whole us ts a b i j w r p q = absurd r
write_owned A Closed us ts a b i j w r p q = absurd r
write_owned A (OwnRow x) us ts a b i j w r p q = subst (λ z. A z j) (var_answer us ts x a i r p) (w j)
write_owned A (OwnCell k x) us ts a b i j w r p q = subst (λ z. A z j) (line_answer us ts k a i r.0 p) (subst (λ z. A (line_value k us) z) (var_answer us ts x b j r.1 q) w)

read_same : (A : Cells) (ts vs : List Table) (x : Name) (i j : ℤ) → AgreeOn A ts vs → A x.text.items i j → (read_cell vs x i j).answer ≡ (read_cell ts x i j).answer
read_same A ts vs x i j s a = go (has_cell (table_of ts x.text.items) i j) refl
  where
    there : (ws : List Table) → has_cell (table_of ws x.text.items) i j ≡ true → (read_cell ws x i j).answer ≡ Number (cell_of (table_of ws x.text.items) i j)
    there ws h = rw (h, read_cell) refl

    gone : (ws : List Table) → has_cell (table_of ws x.text.items) i j ≡ false → (read_cell ws x i j).answer ≡ Traps Index x.place
    gone ws h = rw (h, read_cell) refl

    go : (b : Bool) → has_cell (table_of ts x.text.items) i j ≡ b → (read_cell vs x i j).answer ≡ (read_cell ts x i j).answer
    go true h =
        let g = agree_has (A x.text.items) (table_of ts x.text.items) (table_of vs x.text.items) i j (s x.text.items) ∙ h in
        there vs g ∙ ap Number ((s x.text.items).cells i j a h) ∙ sym (there ts h)
    go false h =
        let g = agree_has (A x.text.items) (table_of ts x.text.items) (table_of vs x.text.items) i j (s x.text.items) ∙ h in
        gone vs g ∙ sym (gone ts h)

pub eval_same : (A : Cells) (zs : List Reduce) (h : Bend) → Goes zs h → (m : Modes) (us : List Variable) (ts vs : List Table) → Clear A m → Owns A m us → AgreeOn A ts vs → (e : Expr) → MayRead zs m e → (eval (bent h us) vs e).answer ≡ (eval us ts e).answer
eval_same A zs h g m us ts vs c w s (Int n p) r = refl
eval_same A zs h g m us ts vs c w s (Var x) r = ap Number (bent_lookup h us x.text.items (g.plain x.text.items r))
eval_same A zs h g m us ts vs c w s (Cell' t p a q b) r =
    bind_same (eval us ts a) (eval (bent h us) vs a) (λ i. bind (eval us ts b) (λ j. read_cell ts t i j)) (λ i. bind (eval (bent h us) vs b) (λ j. read_cell vs t i j)) (eval_same A zs h g m us ts vs c w s a r.0)
    (λ i e. bind_same (eval us ts b) (eval (bent h us) vs b) (λ j. read_cell ts t i j) (λ j. read_cell vs t i j) (eval_same A zs h g m us ts vs c w s b r.1)
    (λ j f. read_same A ts vs t i j s (read_owned (A t.text.items) (m t.text.items) us ts a b i j (c t.text.items) (w t.text.items) r.2 e f)))
eval_same A zs h g m us ts vs c w s (Rows t) r = ap (λ n. Number (pos n)) (s t.text.items).rows
eval_same A zs h g m us ts vs c w s (Cols t) r = ap (λ n. Number (pos n)) (s t.text.items).cols
eval_same A zs h g m us ts vs c w s (Neg' p a place) r = bind_same (eval us ts a) (eval (bent h us) vs a) _ _ (eval_same A zs h g m us ts vs c w s a r) (λ n e. refl)
eval_same A zs h g m us ts vs c w s (Bin' o place p a q b) r =
    bind_same (eval us ts a) (eval (bent h us) vs a) (λ i. bind (eval us ts b) (λ j. calculated o place i j)) (λ i. bind (eval (bent h us) vs b) (λ j. calculated o place i j)) (eval_same A zs h g m us ts vs c w s a r.0)
    (λ i e. bind_same (eval us ts b) (eval (bent h us) vs b) (λ j. calculated o place i j) (λ j. calculated o place i j) (eval_same A zs h g m us ts vs c w s b r.1) (λ j f. refl))

-- ---- notes

pub notes_append : (R W : Cells) (ns ms : List Note) → NotesKeep R W ns → NotesKeep R W ms → NotesKeep R W (ns ++ ms)
notes_append R W [] ms p q = q
notes_append R W (n ∷ ns) ms p q = (p.0, notes_append R W ns ms p.1 q)

bind_keeps : (R W : Cells) (v : Value) (f : ℤ → Value) → NotesKeep R W v.notes → ((n : ℤ) → v.answer ≡ Number n → NotesKeep R W (f n).notes) → NotesKeep R W (bind v f).notes
bind_keeps R W v f h g = go v.answer refl
  where
    go : (a : Answer) → v.answer ≡ a → NotesKeep R W (bind_answer a v.notes f).notes
    go (Number n) q = notes_append R W v.notes (f n).notes h (g n q)
    go (Traps k p) q = h

cell_keeps : (R W : Cells) (ts : List Table) (x : Name) (i j : ℤ) → R x.text.items i j → NotesKeep R W (read_cell ts x i j).notes
cell_keeps R W ts x i j r = go (has_cell (table_of ts x.text.items) i j) refl
  where
    go : (b : Bool) → has_cell (table_of ts x.text.items) i j ≡ b → NotesKeep R W (read_cell ts x i j).notes
    go true h = rw (h, read_cell) (r, tt)
    go false h = rw (h, read_cell) tt

calculated_notes : (R W : Cells) (o : BinOp) (p : Place) (a b : ℤ) → NotesKeep R W (calculated o p a b).notes
calculated_notes R W op.Add p a b = tt
calculated_notes R W op.Sub p a b = tt
calculated_notes R W op.Mul p a b = tt
calculated_notes R W op.Div p a (pos zero) = tt
calculated_notes R W op.Div p a (pos (suc n)) = tt
calculated_notes R W op.Div p a (negsuc n) = tt
calculated_notes R W op.Rem p a (pos zero) = tt
calculated_notes R W op.Rem p a (pos (suc n)) = tt
calculated_notes R W op.Rem p a (negsuc n) = tt
calculated_notes R W op.Eq p a b = tt
calculated_notes R W op.Ne p a b = tt
calculated_notes R W op.Lt p a b = tt
calculated_notes R W op.Le p a b = tt
calculated_notes R W op.Gt p a b = tt
calculated_notes R W op.Ge p a b = tt

pub eval_keeps : (R W : Cells) (cut : List Reduce) (m : Modes) (us : List Variable) (ts : List Table) → Clear R m → Owns R m us → (e : Expr) → MayRead cut m e → NotesKeep R W (eval us ts e).notes
eval_keeps R W cut m us ts c w (Int n p) r = tt
eval_keeps R W cut m us ts c w (Var x) r = tt
eval_keeps R W cut m us ts c w (Cell' t p a q b) r =
    bind_keeps R W (eval us ts a) (λ i. bind (eval us ts b) (λ j. read_cell ts t i j)) (eval_keeps R W cut m us ts c w a r.0)
    (λ i e. bind_keeps R W (eval us ts b) (λ j. read_cell ts t i j) (eval_keeps R W cut m us ts c w b r.1)
    (λ j f. cell_keeps R W ts t i j (read_owned (R t.text.items) (m t.text.items) us ts a b i j (c t.text.items) (w t.text.items) r.2 e f)))
eval_keeps R W cut m us ts c w (Rows t) r = tt
eval_keeps R W cut m us ts c w (Cols t) r = tt
eval_keeps R W cut m us ts c w (Neg' p a place) r = bind_keeps R W (eval us ts a) (λ n. number (wrapped (pos 0 -ℤ n))) (eval_keeps R W cut m us ts c w a r) (λ n e. tt)
eval_keeps R W cut m us ts c w (Bin' o place p a q b) r =
    bind_keeps R W (eval us ts a) (λ i. bind (eval us ts b) (λ j. calculated o place i j)) (eval_keeps R W cut m us ts c w a r.0)
    (λ i e. bind_keeps R W (eval us ts b) (λ j. calculated o place i j) (eval_keeps R W cut m us ts c w b r.1) (λ j f. calculated_notes R W o place i j))

-- chances are noted anywhere
pub chances_keep : (R W : Cells) (ns : List Note) → OnlyChances ns → NotesKeep R W ns
chances_keep R W [] h = tt
chances_keep R W (Reads t i j ∷ ns) h = absurd h.0
chances_keep R W (Writes t i j ∷ ns) h = absurd h.0
chances_keep R W (Emits t ∷ ns) h = absurd h.0
chances_keep R W (Chance ∷ ns) h = (tt, chances_keep R W ns h.1)
