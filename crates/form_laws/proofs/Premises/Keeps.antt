-- What the rules say of the `par` loops and of the calls in statements that keep to them.
use Rattle.std.proofs.Common.{◌≡◌, ℕ, Bool, true, false, cond, List, [], ◌∷◌, Vec}
use Rattle.std.proofs.Common.{bytes_eq, refl, sym, subst, ◌∙◌}
use Rattle.std.specs.declared.alloc.Global.{Global}
use Rattle.std.proofs.lemmas.Slice.Eq.{bytes_eq-Decides}
use Rattle.loop_syntax.specs.declared.Carry.{Carry}
use Rattle.loop_syntax.specs.declared.Carry.TheVariants as carry
use Rattle.loop_syntax.specs.declared.ParLoop.{ParLoop}
use Rattle.loop_syntax.specs.declared.Program.{Program}
use Rattle.loop_syntax.specs.declared.Reduce.{Reduce}
use Rattle.loop_syntax.specs.declared.RowAt.TheVariants as row
use Rattle.loop_syntax.specs.declared.Stmt.{Stmt, Row_of-Stmt, end_of-Stmt, more_of-Stmt}
use Rattle.loop_syntax.specs.declared.Stmt.{items-the_row-Stmt, items_hidden-the_row-Stmt-0}
use Rattle.loop_syntax.specs.declared.Stmt.TheBlock.{hidden-the_row-Stmt-0}
use Rattle.frame_machine.specs.Bodies.{AllKeep, KeepsTo, ListKeeps, MayCarry}
use Rattle.frame_machine.specs.Lawful.{Lawful}
use Rattle.frame_machine.specs.Modes.{Modes, inner_modes, line_of}
use Rattle.frame_machine.specs.Modes as mode
use Rattle.form_laws.proofs.Premises.Around.{Around, Free, MayStand, Within, modes_at}
use Rattle.form_laws.proofs.Premises.Occurring.{Called, CalledIn, Occurs, OccursIn, at_first}
use Rattle.form_laws.proofs.Premises.Occurring.{at_later}
use Rattle.form_laws.proofs.Premises.Occurring.{by_call, by_first, by_second, called_if}
use Rattle.form_laws.proofs.Premises.Occurring.{called_loop}
use Rattle.form_laws.proofs.Premises.Occurring.{called_other, called_while, first_calls, in_if}
use Rattle.form_laws.proofs.Premises.Occurring.{in_loop}
use Rattle.form_laws.proofs.Premises.Occurring.{in_other, in_par, in_while, itself, later_calls}

-- what may be read anywhere round a `par` that stands there may be read so in it
whole_inside : (m : Modes) (x : List ℕ) (cs : List Carry) → MayCarry m cs → (t : List ℕ)
    → m t ≡ mode.Whole → inner_modes cs x m t ≡ mode.Whole
whole_inside m x [] stand t is = rw is refl
whole_inside m x (carry.Rows u k ∷ cs) stand t is = absurd stand
whole_inside m x (carry.Cells u (row.Int n) c ∷ cs) stand t is = absurd stand
whole_inside m x (carry.Cells u (row.Var k) c ∷ cs) stand t is =
    go (bytes_eq u.text.items t) refl (whole_inside m x cs stand.1 t is)
  where
    go : (b : Bool) → bytes_eq u.text.items t ≡ b → inner_modes cs x m t ≡ mode.Whole
        → cond b (mode.OwnCell (line_of (row.Var k)) x) (inner_modes cs x m t) ≡ mode.Whole
    go true e behind =
        let row_is : m t ≡ mode.OwnRow k.text.items =
        subst (λ y. m y ≡ mode.OwnRow k.text.items) ((bytes_eq-Decides u.text.items t).0 e)
        stand.0 in
        absurd (let no_way : mode.OwnRow k.text.items ≡ mode.Whole = sym row_is ∙ is in cc)
    go false e behind = behind

module _ (cut : List Reduce) (Safe : List ℕ → Type 0) where
  keeps_row : {n : _} (F : List ℕ → Type 0) (rs : List Reduce) (m : Modes) (r : Row_of-Stmt n)
      → AllKeep cut Safe F rs m r → ListKeeps cut Safe F rs m (items-the_row-Stmt _ r)
  keeps_row F rs m end_of-Stmt keeps = tt
  keeps_row F rs m (more_of-Stmt first rest) keeps =
      (keeps.0, keeps_row F rs m rest keeps.1)

  keeps_vec : (F : List ℕ → Type 0) (rs : List Reduce) (m : Modes) (v : Vec Stmt Global)
      → AllKeep cut Safe F rs m (hidden-the_row-Stmt-0 v) → ListKeeps cut Safe F rs m v.items
  keeps_vec F rs m v keeps =
      subst (ListKeeps cut Safe F rs m) (items_hidden-the_row-Stmt-0 v)
      (keeps_row F rs m (hidden-the_row-Stmt-0 v) keeps)

  -- what is called is safe
  mutual
    called_safe : (F : List ℕ → Type 0) (rs : List Reduce) (m : Modes) (f : List ℕ) {s : Stmt}
        → Called f s → KeepsTo cut Safe F rs m s → Safe f
    called_safe F rs m f (by_call g is) keeps = subst Safe is keeps.1
    called_safe F rs m f (by_first g h is) keeps = subst Safe is keeps.2
    called_safe F rs m f (by_second g h is) keeps = subst Safe is keeps.3
    called_safe F rs m f (called_if body other c) keeps =
        called_in_safe F rs m f c (keeps_vec F rs m body keeps.1)
    called_safe F rs m f (called_other body other c) keeps =
        called_in_safe F rs m f c (keeps_vec F rs m other keeps.2)
    called_safe F rs m f (called_while body c) keeps =
        called_in_safe F rs m f c (keeps_vec F rs m body keeps.1)
    called_safe F rs m f (called_loop body c) keeps =
        called_in_safe F rs m f c (keeps_vec F rs m body keeps.3)

    pub called_in_safe : (F : List ℕ → Type 0) (rs : List Reduce) (m : Modes) (f : List ℕ)
        {ss : List Stmt} → CalledIn f ss → ListKeeps cut Safe F rs m ss → Safe f
    called_in_safe F rs m f (first_calls c) keeps = called_safe F rs m f c keeps.0
    called_in_safe F rs m f (later_calls c) keeps = called_in_safe F rs m f c keeps.1

  module _ (l : ParLoop) (outside : List (List ℕ)) (near : Around) where
    -- each `par` stands where its carries may
    mutual
      stands : (F : List ℕ → Type 0) (rs : List Reduce) {a : Around} {names : List (List ℕ)}
          {s : Stmt} → Occurs l outside near a names s → KeepsTo cut Safe F rs (modes_at a) s
          → MayStand near l.carries.items
      stands F rs {a} itself keeps = here a keeps.3
        where
          here : (b : Around) → MayCarry (modes_at b) l.carries.items
              → MayStand b l.carries.items
          here Free may = tt
          here (Within m) may = may
      stands F rs {a} (in_if body other o) keeps =
          stands_in F rs o (keeps_vec F rs (modes_at a) body keeps.1)
      stands F rs {a} (in_other body other o) keeps =
          stands_in F rs o (keeps_vec F rs (modes_at a) other keeps.2)
      stands F rs {a} (in_while body o) keeps =
          stands_in F rs o (keeps_vec F rs (modes_at a) body keeps.1)
      stands F rs {a} (in_loop body o) keeps =
          stands_in F rs o (keeps_vec F rs (modes_at a) body keeps.3)
      stands F rs {a} (in_par other o) keeps =
          stands_in _ other.reduces.items o (keeps_vec _ other.reduces.items _ other.body keeps.4)

      pub stands_in : (F : List ℕ → Type 0) (rs : List Reduce) {a : Around}
          {names : List (List ℕ)} {ss : List Stmt} → OccursIn l outside near a names ss
          → ListKeeps cut Safe F rs (modes_at a) ss → MayStand near l.carries.items
      stands_in F rs (at_first o) keeps = stands F rs o keeps.0
      stands_in F rs (at_later o) keeps = stands_in F rs o keeps.1

    -- and what is whole round them is whole there
    mutual
      whole_there : (F : List ℕ → Type 0) (rs : List Reduce) {a : Around}
          {names : List (List ℕ)} {s : Stmt} → Occurs l outside near a names s
          → KeepsTo cut Safe F rs (modes_at a) s
          → (t : List ℕ) → modes_at a t ≡ mode.Whole → modes_at near t ≡ mode.Whole
      whole_there F rs itself keeps = λ t is. is
      whole_there F rs {a} (in_if body other o) keeps =
          whole_in F rs o (keeps_vec F rs (modes_at a) body keeps.1)
      whole_there F rs {a} (in_other body other o) keeps =
          whole_in F rs o (keeps_vec F rs (modes_at a) other keeps.2)
      whole_there F rs {a} (in_while body o) keeps =
          whole_in F rs o (keeps_vec F rs (modes_at a) body keeps.1)
      whole_there F rs {a} (in_loop body o) keeps =
          whole_in F rs o (keeps_vec F rs (modes_at a) body keeps.3)
      whole_there F rs {a} (in_par other o) keeps = λ t is.
          whole_in _ other.reduces.items o
          (keeps_vec _ other.reduces.items _ other.body keeps.4) t
          (whole_inside (modes_at a) other.var.text.items other.carries.items keeps.3 t is)

      pub whole_in : (F : List ℕ → Type 0) (rs : List Reduce) {a : Around}
          {names : List (List ℕ)} {ss : List Stmt} → OccursIn l outside near a names ss
          → ListKeeps cut Safe F rs (modes_at a) ss
          → (t : List ℕ) → modes_at a t ≡ mode.Whole → modes_at near t ≡ mode.Whole
      whole_in F rs (at_first o) keeps = whole_there F rs o keeps.0
      whole_in F rs (at_later o) keeps = whole_in F rs o keeps.1

-- so does each one of main, where those that no other is round are lawful
module _ (p : Program) (l : ParLoop) (outside : List (List ℕ)) where
  abbrev pub AllAre : List (List ℕ) → List Stmt → Type 0
  AllAre names ss =
      (before : List (List ℕ)) (o : ParLoop) → OccursIn o before Free Free names ss
      → Lawful p (modes_at Free) before o

  mutual
    stands_free : {near : Around} {names : List (List ℕ)} {s : Stmt}
        → Occurs l outside near Free names s
        → ((before : List (List ℕ)) (o : ParLoop) → Occurs o before Free Free names s
        → Lawful p (modes_at Free) before o) → MayStand near l.carries.items
    stands_free itself all = tt
    stands_free (in_if body other o) all =
        stands_free_in o (λ before q at. all before q (in_if body other at))
    stands_free (in_other body other o) all =
        stands_free_in o (λ before q at. all before q (in_other body other at))
    stands_free (in_while body o) all =
        stands_free_in o (λ before q at. all before q (in_while body at))
    stands_free (in_loop body o) all =
        stands_free_in o (λ before q at. all before q (in_loop body at))
    stands_free {near} {names} (in_par other o) all =
        stands_in other.reduces.items _ l outside near _ other.reduces.items o
        (all names other itself).body

    pub stands_free_in : {near : Around} {names : List (List ℕ)} {ss : List Stmt}
        → OccursIn l outside near Free names ss → AllAre names ss
        → MayStand near l.carries.items
    stands_free_in (at_first o) all = stands_free o (λ before q at. all before q (at_first at))
    stands_free_in (at_later o) all = stands_free_in o (λ before q at. all before q (at_later at))
