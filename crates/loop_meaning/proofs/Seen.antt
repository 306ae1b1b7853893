-- What notes in a row tell, and expressions over tables that are seen alike.
use Rattle.std.proofs.Common.{◌≡◌, ◌<◌, ◌++◌, ◌∷◌, [], ℕ, ℤ, pos, zero, suc, negsuc, List, Bool}
use Rattle.std.proofs.Common.{true, false, Contains, slice_index_or, int_div, int_rem, ◌⊎◌, inl}
use Rattle.std.proofs.Common.{inr, refl, sym, ap, subst, ◌∙◌, arith}
use Rattle.std.proofs.lemmas.List.Elements.{Contains-append_left, Contains-append_right}
use Rattle.std.proofs.lemmas.List.Elements.{Contains-append_cases}
use Rattle.tp_value.specs.declared.Place.{Place}
use Rattle.tp_value.specs.declared.TrapKind.TheVariants.{Index}
use Rattle.tp_value.specs.declared.Table.{Table}
use Rattle.loop_syntax.specs.declared.Name.{Name}
use Rattle.loop_syntax.specs.declared.BinOp.{BinOp}
use Rattle.loop_syntax.specs.declared.BinOp.TheVariants as op
use Rattle.loop_syntax.specs.declared.Expr.{Expr}
use Rattle.loop_syntax.specs.declared.Expr.TheVariants.{Int, Var, Cell', Rows, Cols, Neg', Bin'}
use Rattle.loop_meaning.specs.declared.value.Answer.{Answer}
use Rattle.loop_meaning.specs.declared.value.Answer.TheVariants.{Number, Traps}
use Rattle.loop_meaning.specs.declared.value.Variable.{Variable}
use Rattle.loop_meaning.specs.State.{table_of, has_cell, cell_of, Note, Reads, Writes, Emits}
use Rattle.loop_meaning.specs.State.{Chance}
use Rattle.loop_meaning.specs.Expressions.{Value, number, eval, bind, bind_answer, traps, read_cell}
use Rattle.loop_meaning.specs.Expressions.{calculated, divided}
use Rattle.loop_meaning.specs.Cells.{Cell, read_cells, write_cells}
use Rattle.loop_meaning.specs.Told.{Shape, printed_tables, SeenAlike}
use Rattle.loop_meaning.proofs.WrittenCells.{shape_at, has_at, read_alike}

-- ---- notes in a row

pub reads_append : (ns ms : List Note) → read_cells (ns ++ ms) ≡ read_cells ns ++ read_cells ms
reads_append [] ms = refl
reads_append (Reads t i j ∷ ns) ms = ap (λ l. record { table = t; row = i; col = j } ∷ l) (reads_append ns ms)
reads_append (Writes t i j ∷ ns) ms = reads_append ns ms
reads_append (Emits t ∷ ns) ms = reads_append ns ms
reads_append (Chance ∷ ns) ms = reads_append ns ms

pub writes_append : (ns ms : List Note) → write_cells (ns ++ ms) ≡ write_cells ns ++ write_cells ms
writes_append [] ms = refl
writes_append (Reads t i j ∷ ns) ms = writes_append ns ms
writes_append (Writes t i j ∷ ns) ms = ap (λ l. record { table = t; row = i; col = j } ∷ l) (writes_append ns ms)
writes_append (Emits t ∷ ns) ms = writes_append ns ms
writes_append (Chance ∷ ns) ms = writes_append ns ms

prints_append : (ns ms : List Note) → printed_tables (ns ++ ms) ≡ printed_tables ns ++ printed_tables ms
prints_append [] ms = refl
prints_append (Reads t i j ∷ ns) ms = prints_append ns ms
prints_append (Writes t i j ∷ ns) ms = prints_append ns ms
prints_append (Emits t ∷ ns) ms = ap (λ l. t ∷ l) (prints_append ns ms)
prints_append (Chance ∷ ns) ms = prints_append ns ms

pub writes_cases : (ns ms : List Note) (c : Cell) → Contains (write_cells (ns ++ ms)) c → Contains (write_cells ns) c ⊎ Contains (write_cells ms) c
writes_cases ns ms c h = Contains-append_cases (write_cells ns) (write_cells ms) c (subst (λ l. Contains l c) (writes_append ns ms) h)

pub writes_left : (ns ms : List Note) (c : Cell) → Contains (write_cells ns) c → Contains (write_cells (ns ++ ms)) c
writes_left ns ms c h = subst (λ l. Contains l c) (sym (writes_append ns ms)) (Contains-append_left (write_cells ns) (write_cells ms) c h)

pub writes_right : (ns ms : List Note) (c : Cell) → Contains (write_cells ms) c → Contains (write_cells (ns ++ ms)) c
writes_right ns ms c h = subst (λ l. Contains l c) (sym (writes_append ns ms)) (Contains-append_right (write_cells ns) (write_cells ms) c h)

pub seen_front : (ns ms : List Note) (ts us : List Table) → SeenAlike (ns ++ ms) ts us → SeenAlike ns ts us
seen_front ns ms ts us h = record {
  sizes = h.sizes;
  cells = λ c k. h.cells c (subst (λ l. Contains l c) (sym (reads_append ns ms)) (Contains-append_left (read_cells ns) (read_cells ms) c k));
  tables = λ x k. h.tables x (subst (λ l. Contains l x) (sym (prints_append ns ms)) (Contains-append_left (printed_tables ns) (printed_tables ms) x k));
}

pub seen_back : (ns ms : List Note) (ts us : List Table) → SeenAlike (ns ++ ms) ts us → SeenAlike ms ts us
seen_back ns ms ts us h = record {
  sizes = h.sizes;
  cells = λ c k. h.cells c (subst (λ l. Contains l c) (sym (reads_append ns ms)) (Contains-append_right (read_cells ns) (read_cells ms) c k));
  tables = λ x k. h.tables x (subst (λ l. Contains l x) (sym (prints_append ns ms)) (Contains-append_right (printed_tables ns) (printed_tables ms) x k));
}

-- ---- which cells are written

pub contains_none : {X : Type 0} (x : X) → Contains [] x → ⊥
contains_none x h = (let k : h.0 < 0 = h.1 in absurd (omega arith))

pub contains_only : {X : Type 0} (x : X) → Contains (x ∷ []) x
contains_only x = (0, omega arith, refl)

only_one : {X : Type 0} (x y : X) → Contains (x ∷ []) y → x ≡ y
only_one {X} x y h = go h.0 h.1 h.2
  where
    go : (k : ℕ) → k < 1 → slice_index_or (x ∷ []) k y ≡ y → x ≡ y
    go zero l e = e
    go (suc k) l e = absurd (omega arith)

abbrev pub NoWrites : List Note → Type 0
NoWrites ns = (c : Cell) → Contains (write_cells ns) c → ⊥

pub no_writes_none : NoWrites []
no_writes_none c h = contains_none c h

pub no_writes_is : (ns : List Note) → write_cells ns ≡ [] → NoWrites ns
no_writes_is ns e c h = contains_none c (subst (λ l. Contains l c) e h)

no_writes_both : (ns ms : List Note) → NoWrites ns → NoWrites ms → NoWrites (ns ++ ms)
no_writes_both ns ms n m c h = elim (writes_cases ns ms c h) [ inl a ↦ n c a | inr b ↦ m c b ]

-- the one cell that is written
pub only_cell : (x : List ℕ) (i j : ℤ) (P : Cell → Type 0) (c : Cell) → Contains (write_cells (Writes x i j ∷ [])) c → P (record { table = x; row = i; col = j }) → P c
only_cell x i j P c h k = subst P (only_one (record { table = x; row = i; col = j }) c h) k

pub emit_seen : (x : List ℕ) (ts us : List Table) → SeenAlike (Emits x ∷ []) ts us → table_of ts x ≡ table_of us x
emit_seen x ts us h = h.tables x (contains_only x)

-- ---- expressions

bind_writes : (v : Value) (f : ℤ → Value) → NoWrites v.notes → ((n : ℤ) → NoWrites (f n).notes) → NoWrites (bind v f).notes
bind_writes v f h k = go v.answer
  where
    go : (a : Answer) → NoWrites (bind_answer a v.notes f).notes
    go (Number n) = no_writes_both v.notes (f n).notes h (k n)
    go (Traps x p) = h

divided_writes : (f : ℤ → ℤ → ℤ) (p : Place) (a b : ℤ) → NoWrites (divided f p a b).notes
divided_writes f p a (pos zero) = no_writes_none
divided_writes f p a (pos (suc k)) = no_writes_none
divided_writes f p a (negsuc k) = no_writes_none

calculated_writes : (w : BinOp) (p : Place) (a b : ℤ) → NoWrites (calculated w p a b).notes
calculated_writes op.Div p a b = divided_writes int_div p a b
calculated_writes op.Rem p a b = divided_writes int_rem p a b
calculated_writes op.Add p a b = no_writes_none
calculated_writes op.Sub p a b = no_writes_none
calculated_writes op.Mul p a b = no_writes_none
calculated_writes op.Eq p a b = no_writes_none
calculated_writes op.Ne p a b = no_writes_none
calculated_writes op.Lt p a b = no_writes_none
calculated_writes op.Le p a b = no_writes_none
calculated_writes op.Gt p a b = no_writes_none
calculated_writes op.Ge p a b = no_writes_none

-- a read of a cell, where it is there
read_there : (ts : List Table) (x : Name) (i j : ℤ) → has_cell (table_of ts x.text.items) i j ≡ true → read_cell ts x i j ≡ record { answer = Number (cell_of (table_of ts x.text.items) i j); notes = Reads x.text.items i j ∷ [] }
read_there ts x i j e = rw (e, read_cell) refl

read_missing : (ts : List Table) (x : Name) (i j : ℤ) → has_cell (table_of ts x.text.items) i j ≡ false → read_cell ts x i j ≡ traps Index x.place
read_missing ts x i j e = rw (e, read_cell) refl

cell_writes : (ts : List Table) (x : Name) (i j : ℤ) → NoWrites (read_cell ts x i j).notes
cell_writes ts x i j = go (has_cell (table_of ts x.text.items) i j) refl
  where
    go : (b : Bool) → has_cell (table_of ts x.text.items) i j ≡ b → NoWrites (read_cell ts x i j).notes
    go true e = subst (λ (v : Value). NoWrites v.notes) (sym (read_there ts x i j e)) no_writes_none
    go false e = subst (λ (v : Value). NoWrites v.notes) (sym (read_missing ts x i j e)) no_writes_none

pub eval_writes : (vs : List Variable) (ts : List Table) (e : Expr) → NoWrites (eval vs ts e).notes
eval_writes vs ts (Int n p) = no_writes_none
eval_writes vs ts (Var x) = no_writes_none
eval_writes vs ts (Cell' t p a q b) =
    bind_writes (eval vs ts a) (λ i. bind (eval vs ts b) (λ j. read_cell ts t i j)) (eval_writes vs ts a)
    (λ i. bind_writes (eval vs ts b) (λ j. read_cell ts t i j) (eval_writes vs ts b) (λ j. cell_writes ts t i j))
eval_writes vs ts (Rows t) = no_writes_none
eval_writes vs ts (Cols t) = no_writes_none
eval_writes vs ts (Neg' p a place) = bind_writes (eval vs ts a) _ (eval_writes vs ts a) (λ n. no_writes_none)
eval_writes vs ts (Bin' w place p a q b) =
    bind_writes (eval vs ts a) (λ m. bind (eval vs ts b) (λ n. calculated w place m n)) (eval_writes vs ts a)
    (λ m. bind_writes (eval vs ts b) (λ n. calculated w place m n) (eval_writes vs ts b) (λ n. calculated_writes w place m n))

-- ---- over other tables

module _ (ts us : List Table) where
  seen_bind : (v : Value) (f : ℤ → Value) → SeenAlike (bind v f).notes ts us → SeenAlike v.notes ts us
  seen_bind v f = go v.answer
    where
      go : (a : Answer) → SeenAlike (bind_answer a v.notes f).notes ts us → SeenAlike v.notes ts us
      go (Number n) h = seen_front v.notes (f n).notes ts us h
      go (Traps x p) h = h

  bind_same : (v w : Value) (f g : ℤ → Value) → w ≡ v → SeenAlike (bind v f).notes ts us → ((n : ℤ) → SeenAlike (f n).notes ts us → g n ≡ f n) → bind w g ≡ bind v f
  bind_same v w f g e h k = ap (λ z. bind z g) e ∙ go v.answer h
    where
      go : (a : Answer) → SeenAlike (bind_answer a v.notes f).notes ts us → bind_answer a v.notes g ≡ bind_answer a v.notes f
      go (Number n) h = ap (λ (z : Value). record { answer = z.answer; notes = v.notes ++ z.notes }) (k n (seen_back v.notes (f n).notes ts us h))
      go (Traps x p) h = refl

  read_same : (x : Name) (i j : ℤ) → SeenAlike (read_cell ts x i j).notes ts us → read_cell us x i j ≡ read_cell ts x i j
  read_same x i j h = go (has_cell (table_of ts x.text.items) i j) refl
    where
      go : (b : Bool) → has_cell (table_of ts x.text.items) i j ≡ b → read_cell us x i j ≡ read_cell ts x i j
      go true e =
          let f : has_cell (table_of us x.text.items) i j ≡ true = sym (has_at ts us x.text.items i j h.sizes) ∙ e in
          let k : SeenAlike (Reads x.text.items i j ∷ []) ts us = subst (λ (v : Value). SeenAlike v.notes ts us) (read_there ts x i j e) h in
          let c : cell_of (table_of ts x.text.items) i j ≡ cell_of (table_of us x.text.items) i j = read_alike ts us x.text.items i j h.sizes e (k.cells (record { table = x.text.items; row = i; col = j }) (contains_only (record { table = x.text.items; row = i; col = j }))) in
          read_there us x i j f ∙ ap (λ n. record { answer = Number n; notes = Reads x.text.items i j ∷ [] }) (sym c) ∙ sym (read_there ts x i j e)
      go false e = read_missing us x i j (sym (has_at ts us x.text.items i j h.sizes) ∙ e) ∙ sym (read_missing ts x i j e)

pub eval_same : (vs : List Variable) (ts us : List Table) (e : Expr) → SeenAlike (eval vs ts e).notes ts us → eval vs us e ≡ eval vs ts e
eval_same vs ts us (Int n p) h = refl
eval_same vs ts us (Var x) h = refl
eval_same vs ts us (Cell' t p a q b) h =
    bind_same ts us (eval vs ts a) (eval vs us a) (λ i. bind (eval vs ts b) (λ j. read_cell ts t i j)) (λ i. bind (eval vs us b) (λ j. read_cell us t i j))
    (eval_same vs ts us a (seen_bind ts us (eval vs ts a) (λ i. bind (eval vs ts b) (λ j. read_cell ts t i j)) h)) h
    (λ i k. bind_same ts us (eval vs ts b) (eval vs us b) (λ j. read_cell ts t i j) (λ j. read_cell us t i j) (eval_same vs ts us b (seen_bind ts us (eval vs ts b) (λ j. read_cell ts t i j) k)) k
    (λ j l. read_same ts us t i j l))
eval_same vs ts us (Rows t) h = ap (λ (s : Shape). number (pos s.rows)) (sym (shape_at ts us t.text.items h.sizes))
eval_same vs ts us (Cols t) h = ap (λ (s : Shape). number (pos s.cols)) (sym (shape_at ts us t.text.items h.sizes))
eval_same vs ts us (Neg' p a place) h = bind_same ts us (eval vs ts a) (eval vs us a) _ _ (eval_same vs ts us a (seen_bind ts us (eval vs ts a) _ h)) h (λ n k. refl)
eval_same vs ts us (Bin' w place p a q b) h =
    bind_same ts us (eval vs ts a) (eval vs us a) (λ m. bind (eval vs ts b) (λ n. calculated w place m n)) (λ m. bind (eval vs us b) (λ n. calculated w place m n))
    (eval_same vs ts us a (seen_bind ts us (eval vs ts a) (λ m. bind (eval vs ts b) (λ n. calculated w place m n)) h)) h
    (λ m k. bind_same ts us (eval vs ts b) (eval vs us b) (λ n. calculated w place m n) (λ n. calculated w place m n) (eval_same vs ts us b (seen_bind ts us (eval vs ts b) (λ n. calculated w place m n) k)) k
    (λ n l. refl))
