-- What is read of a line is what stands there.
use Rattle.std.proofs.Common.{◌≡◌, ℕ, zero, suc, true, ltb, ◌&&◌, List, [], ◌∷◌, ◌++◌, Option, Some}
use Rattle.std.proofs.Common.{None, get_or, pos, negsuc, refl, sym, ap, subst, ◌∙◌, inl, inr, arith}
use Rattle.std.specs.Prelude.{codes}
use Rattle.std.specs.Fmt.{decimal}
use Rattle.tp_value.specs.declared.values.Place.{Place}
use Rattle.tp_value.specs.declared.values.TrapKind.{TrapKind}
use Rattle.tp_value.specs.declared.values.TrapKind.TheVariants.{Divide, Index, Deep, Size, Wide}
use Rattle.tpal_syntax.specs.declared.instructions.Value.{Value}
use Rattle.tpal_syntax.specs.declared.instructions.Value.TheVariants.{Reg, Int, Label, Nil}
use Rattle.tpal_syntax.specs.declared.instructions.Alu.{Alu}
use Rattle.tpal_syntax.specs.declared.instructions.Alu.TheVariants as alu
use Rattle.tpal_syntax.specs.declared.instructions.Instr.{Instr}
use Rattle.tpal_syntax.specs.declared.instructions.Instr.TheVariants.{Move, Load, Salloc, Sfree}
use Rattle.tpal_syntax.specs.declared.instructions.Instr.TheVariants.{PrmPop, PrmDrop, PrmEmpty}
use Rattle.tpal_syntax.specs.declared.instructions.Instr.TheVariants.{PrmSplit, Fetch, Put, Rows}
use Rattle.tpal_syntax.specs.declared.instructions.Instr.TheVariants.{Cols, Make, Tick, Trap, Print}
use Rattle.tpal_syntax.specs.declared.instructions.Instr.TheVariants.{Emit}
use Rattle.tpal_syntax.specs.declared.instructions.Term.{Term}
use Rattle.tpal_syntax.specs.declared.instructions.Term.TheVariants.{Jump, Halt, Join, Leave}
use Rattle.tpal_syntax.specs.declared.versions.Version.{Version}
use Rattle.tpal_syntax.specs.declared.versions.Version.TheVariants.{One, Two}
use Rattle.tpal_syntax.specs.Parts.{is_word, is_register, is_offset, is_size, is_value, is_instr}
use Rattle.tpal_syntax.specs.Parts.{is_term}
use Rattle.tpal_syntax.specs.Text.{register_text, table_text, cell_text, place_text, alu_text}
use Rattle.tpal_syntax.specs.Text.{trap_text, value_text, instr_text, term_text, stands_in}
use Rattle.tpal_syntax.specs.Readers.{◌>>=◌, after, branch, negative, number_at, word_at, label_at}
use Rattle.tpal_syntax.specs.Readers.{register_at, cell_at, place_at, alu_at, trap_at, value_at}
use Rattle.tpal_print.proofs.Pieces.{and_right}
use Rattle.tpal_asm.proofs.Sound.{bind, chosen, after-sound, number-sound, word-sound}
use Rattle.tpal_asm.proofs.Sound.{register-sound, join2, join3, join4, join5, join7, join8}
use Rattle.tpal_asm.proofs.Sound.{none_some, table-sound, size-sound, Stands, Named, same}
use Rattle.tpal_asm.specs.Reading.{if_jump_rest, store_rest, salloc_rest, sfree_rest, prmpush_rest}
use Rattle.tpal_asm.specs.Reading.{prmpop_rest, prmempty_rest, prmsplit_rest, fork_rest, put_rest}
use Rattle.tpal_asm.specs.Reading.{make_rest, trap_rest, print_rest, emit_rest, load_rest}
use Rattle.tpal_asm.specs.Reading.{jralloc_rest, fetch_rest, rows_rest, cols_rest, name_rest}
use Rattle.tpal_asm.specs.Reading.{calc_rest, source_rest, move_rest, assigned_rest, changed_rest}
use Rattle.tpal_asm.specs.Reading.{stack_rest, table_rest, other_rest, instr_rest, jump_rest}
use Rattle.tpal_asm.specs.Reading.{join_rest, leave_rest, left_rest, term_rest}

abbrev pub SaidValue : (List ℕ → ℕ) → List ℕ → Value × List ℕ → Type 0
SaidValue f ts r = Named f (λ names. value_text names r.0) (λ blocks. is_value blocks r.0) ts r.1

abbrev pub SaidInstr : ℕ → (List ℕ → ℕ) → List ℕ → Instr × List ℕ → Type 0
SaidInstr tables f ts r = Named f (λ names. instr_text names r.0) (λ blocks. is_instr tables blocks r.0) ts r.1

abbrev pub SaidTerm : (List ℕ → ℕ) → List ℕ → Term × List ℕ → Type 0
SaidTerm f ts r = Named f (λ names. term_text names r.0) (λ blocks. is_term blocks r.0) ts r.1

-- ---- parts

pub cell-sound : (ts : List ℕ) (c : ℕ × ℕ) (rest : List ℕ) → cell_at ts ≡ Some (c, rest) → ts ≡ cell_text c.0 c.1 ++ rest
unfolding cell_at
cell-sound ts c rest e =
    let a = bind _ _ (c, rest) e in
    let b = bind _ _ (c, rest) a.2 in
    let p = bind _ _ (c, rest) b.2 in
    let o = bind _ _ (c, rest) p.2 in
    let z = bind _ _ (c, rest) o.2 in
    let s = same _ _ z.2 in
    let e0 = after-sound (codes "mem[") ts a.0 a.1 in
    let e1 = register-sound a.0 b.0.0 b.0.1 b.1 in
    let e2 = after-sound (codes "+") b.0.1 p.0 p.1 in
    let e3 = number-sound 511 p.0 o.0.0 o.0.1 (omega arith) o.1 in
    let e4 = after-sound (codes "]") o.0.1 z.0 z.1 in
    let P : (ℕ × ℕ) × List ℕ → Type 0 = λ r. ts ≡ cell_text r.0.0 r.0.1 ++ r.1 in
    subst P s (e0 ∙ ap (λ (x : List ℕ). codes "mem[" ++ x) (e1 ∙ ap (λ (x : List ℕ). register_text b.0.0 ++ x) (e2 ∙ ap (λ (x : List ℕ). 43 ∷ x) (e3 ∙ ap (λ (x : List ℕ). decimal o.0.0 ++ x) e4))) ∙ join5 (codes "mem[") (register_text b.0.0) (codes "+") (decimal o.0.0) (codes "]") z.0)

pub place-sound : (ts : List ℕ) (p : Place) (rest : List ℕ) → place_at ts ≡ Some (p, rest) → ts ≡ place_text p ++ rest
unfolding place_at
place-sound ts p rest e =
    let a = bind _ _ (p, rest) e in
    let b = bind _ _ (p, rest) a.2 in
    let d = bind _ _ (p, rest) b.2 in
    let s = same _ _ d.2 in
    let e0 = number-sound 4294967295 ts a.0.0 a.0.1 (omega arith) a.1 in
    let e1 = after-sound (codes ", ") a.0.1 b.0 b.1 in
    let e2 = number-sound 4294967295 b.0 d.0.0 d.0.1 (omega arith) d.1 in
    let P : Place × List ℕ → Type 0 = λ r. ts ≡ place_text r.0 ++ r.1 in
    subst P s (e0 ∙ ap (λ (x : List ℕ). decimal a.0.0 ++ x) (e1 ∙ ap (λ (x : List ℕ). codes ", " ++ x) e2) ∙ join3 (decimal a.0.0) (codes ", ") (decimal d.0.0) d.0.1)

pub alu-sound : (ts : List ℕ) (k : Alu) (rest : List ℕ) → alu_at ts ≡ Some (k, rest) → ts ≡ alu_text k ++ (codes " " ++ rest)
unfolding alu_at
alu-sound ts k rest e =
    let P : Alu × List ℕ → Type 0 = λ x. ts ≡ alu_text x.0 ++ (codes " " ++ x.1) in
    let r : Alu × List ℕ = (k, rest) in
    elim (chosen {A = Alu × List ℕ} (after (codes "add ") ts) (λ us. Some (alu.Add, us)) (branch (after (codes "sub ") ts) (λ us. Some (alu.Sub, us)) (branch (after (codes "mul ") ts) (λ us. Some (alu.Mul, us)) (branch (after (codes "div ") ts) (λ us. Some (alu.Div, us)) (branch (after (codes "rem ") ts) (λ us. Some (alu.Rem, us)) (branch (after (codes "eq ") ts) (λ us. Some (alu.Eq, us)) (branch (after (codes "ne ") ts) (λ us. Some (alu.Ne, us)) (branch (after (codes "lt ") ts) (λ us. Some (alu.Lt, us)) (branch (after (codes "le ") ts) (λ us. Some (alu.Le, us)) (branch (after (codes "min ") ts) (λ us. Some (alu.Min, us)) (branch (after (codes "max ") ts) (λ us. Some (alu.Max, us)) (branch (after (codes "affine ") ts) (λ us. Some (alu.Affine, us)) None))))))))))) r e) [
      | inl h ↦ subst P (same (alu.Add, h.0) r h.2) (after-sound (codes "add ") ts h.0 h.1)
      | inr e1 ↦
          elim (chosen {A = Alu × List ℕ} (after (codes "sub ") ts) (λ us. Some (alu.Sub, us)) (branch (after (codes "mul ") ts) (λ us. Some (alu.Mul, us)) (branch (after (codes "div ") ts) (λ us. Some (alu.Div, us)) (branch (after (codes "rem ") ts) (λ us. Some (alu.Rem, us)) (branch (after (codes "eq ") ts) (λ us. Some (alu.Eq, us)) (branch (after (codes "ne ") ts) (λ us. Some (alu.Ne, us)) (branch (after (codes "lt ") ts) (λ us. Some (alu.Lt, us)) (branch (after (codes "le ") ts) (λ us. Some (alu.Le, us)) (branch (after (codes "min ") ts) (λ us. Some (alu.Min, us)) (branch (after (codes "max ") ts) (λ us. Some (alu.Max, us)) (branch (after (codes "affine ") ts) (λ us. Some (alu.Affine, us)) None)))))))))) r e1) [
            | inl h ↦ subst P (same (alu.Sub, h.0) r h.2) (after-sound (codes "sub ") ts h.0 h.1)
            | inr e2 ↦
                elim (chosen {A = Alu × List ℕ} (after (codes "mul ") ts) (λ us. Some (alu.Mul, us)) (branch (after (codes "div ") ts) (λ us. Some (alu.Div, us)) (branch (after (codes "rem ") ts) (λ us. Some (alu.Rem, us)) (branch (after (codes "eq ") ts) (λ us. Some (alu.Eq, us)) (branch (after (codes "ne ") ts) (λ us. Some (alu.Ne, us)) (branch (after (codes "lt ") ts) (λ us. Some (alu.Lt, us)) (branch (after (codes "le ") ts) (λ us. Some (alu.Le, us)) (branch (after (codes "min ") ts) (λ us. Some (alu.Min, us)) (branch (after (codes "max ") ts) (λ us. Some (alu.Max, us)) (branch (after (codes "affine ") ts) (λ us. Some (alu.Affine, us)) None))))))))) r e2) [
                  | inl h ↦ subst P (same (alu.Mul, h.0) r h.2) (after-sound (codes "mul ") ts h.0 h.1)
                  | inr e3 ↦
                      elim (chosen {A = Alu × List ℕ} (after (codes "div ") ts) (λ us. Some (alu.Div, us)) (branch (after (codes "rem ") ts) (λ us. Some (alu.Rem, us)) (branch (after (codes "eq ") ts) (λ us. Some (alu.Eq, us)) (branch (after (codes "ne ") ts) (λ us. Some (alu.Ne, us)) (branch (after (codes "lt ") ts) (λ us. Some (alu.Lt, us)) (branch (after (codes "le ") ts) (λ us. Some (alu.Le, us)) (branch (after (codes "min ") ts) (λ us. Some (alu.Min, us)) (branch (after (codes "max ") ts) (λ us. Some (alu.Max, us)) (branch (after (codes "affine ") ts) (λ us. Some (alu.Affine, us)) None)))))))) r e3) [
                        | inl h ↦ subst P (same (alu.Div, h.0) r h.2) (after-sound (codes "div ") ts h.0 h.1)
                        | inr e4 ↦
                            elim (chosen {A = Alu × List ℕ} (after (codes "rem ") ts) (λ us. Some (alu.Rem, us)) (branch (after (codes "eq ") ts) (λ us. Some (alu.Eq, us)) (branch (after (codes "ne ") ts) (λ us. Some (alu.Ne, us)) (branch (after (codes "lt ") ts) (λ us. Some (alu.Lt, us)) (branch (after (codes "le ") ts) (λ us. Some (alu.Le, us)) (branch (after (codes "min ") ts) (λ us. Some (alu.Min, us)) (branch (after (codes "max ") ts) (λ us. Some (alu.Max, us)) (branch (after (codes "affine ") ts) (λ us. Some (alu.Affine, us)) None))))))) r e4) [
                              | inl h ↦ subst P (same (alu.Rem, h.0) r h.2) (after-sound (codes "rem ") ts h.0 h.1)
                              | inr e5 ↦
                                  elim (chosen {A = Alu × List ℕ} (after (codes "eq ") ts) (λ us. Some (alu.Eq, us)) (branch (after (codes "ne ") ts) (λ us. Some (alu.Ne, us)) (branch (after (codes "lt ") ts) (λ us. Some (alu.Lt, us)) (branch (after (codes "le ") ts) (λ us. Some (alu.Le, us)) (branch (after (codes "min ") ts) (λ us. Some (alu.Min, us)) (branch (after (codes "max ") ts) (λ us. Some (alu.Max, us)) (branch (after (codes "affine ") ts) (λ us. Some (alu.Affine, us)) None)))))) r e5) [
                                    | inl h ↦ subst P (same (alu.Eq, h.0) r h.2) (after-sound (codes "eq ") ts h.0 h.1)
                                    | inr e6 ↦
                                        elim (chosen {A = Alu × List ℕ} (after (codes "ne ") ts) (λ us. Some (alu.Ne, us)) (branch (after (codes "lt ") ts) (λ us. Some (alu.Lt, us)) (branch (after (codes "le ") ts) (λ us. Some (alu.Le, us)) (branch (after (codes "min ") ts) (λ us. Some (alu.Min, us)) (branch (after (codes "max ") ts) (λ us. Some (alu.Max, us)) (branch (after (codes "affine ") ts) (λ us. Some (alu.Affine, us)) None))))) r e6) [
                                          | inl h ↦ subst P (same (alu.Ne, h.0) r h.2) (after-sound (codes "ne ") ts h.0 h.1)
                                          | inr e7 ↦
                                              elim (chosen {A = Alu × List ℕ} (after (codes "lt ") ts) (λ us. Some (alu.Lt, us)) (branch (after (codes "le ") ts) (λ us. Some (alu.Le, us)) (branch (after (codes "min ") ts) (λ us. Some (alu.Min, us)) (branch (after (codes "max ") ts) (λ us. Some (alu.Max, us)) (branch (after (codes "affine ") ts) (λ us. Some (alu.Affine, us)) None)))) r e7) [
                                                | inl h ↦ subst P (same (alu.Lt, h.0) r h.2) (after-sound (codes "lt ") ts h.0 h.1)
                                                | inr e8 ↦
                                                    elim (chosen {A = Alu × List ℕ} (after (codes "le ") ts) (λ us. Some (alu.Le, us)) (branch (after (codes "min ") ts) (λ us. Some (alu.Min, us)) (branch (after (codes "max ") ts) (λ us. Some (alu.Max, us)) (branch (after (codes "affine ") ts) (λ us. Some (alu.Affine, us)) None))) r e8) [
                                                      | inl h ↦ subst P (same (alu.Le, h.0) r h.2) (after-sound (codes "le ") ts h.0 h.1)
                                                      | inr e9 ↦
                                                          elim (chosen {A = Alu × List ℕ} (after (codes "min ") ts) (λ us. Some (alu.Min, us)) (branch (after (codes "max ") ts) (λ us. Some (alu.Max, us)) (branch (after (codes "affine ") ts) (λ us. Some (alu.Affine, us)) None)) r e9) [
                                                            | inl h ↦ subst P (same (alu.Min, h.0) r h.2) (after-sound (codes "min ") ts h.0 h.1)
                                                            | inr e10 ↦
                                                                elim (chosen {A = Alu × List ℕ} (after (codes "max ") ts) (λ us. Some (alu.Max, us)) (branch (after (codes "affine ") ts) (λ us. Some (alu.Affine, us)) None) r e10) [
                                                                  | inl h ↦ subst P (same (alu.Max, h.0) r h.2) (after-sound (codes "max ") ts h.0 h.1)
                                                                  | inr e11 ↦
                                                                      elim (chosen {A = Alu × List ℕ} (after (codes "affine ") ts) (λ us. Some (alu.Affine, us)) None r e11) [
                                                                        | inl h ↦ subst P (same (alu.Affine, h.0) r h.2) (after-sound (codes "affine ") ts h.0 h.1)
                                                                        | inr e12 ↦
                                                                            absurd (none_some r e12)
                                                                      ]
                                                                ]
                                                          ]
                                                    ]
                                              ]
                                        ]
                                  ]
                            ]
                      ]
                ]
          ]
    ]

pub trap-sound : (ts : List ℕ) (k : TrapKind) (rest : List ℕ) → trap_at ts ≡ Some (k, rest) → ts ≡ trap_text k ++ (codes ", " ++ rest)
unfolding trap_at
trap-sound ts k rest e =
    let P : TrapKind × List ℕ → Type 0 = λ x. ts ≡ trap_text x.0 ++ (codes ", " ++ x.1) in
    let r : TrapKind × List ℕ = (k, rest) in
    elim (chosen {A = TrapKind × List ℕ} (after (codes "Divide, ") ts) (λ us. Some (Divide, us)) (branch (after (codes "Index, ") ts) (λ us. Some (Index, us)) (branch (after (codes "Deep, ") ts) (λ us. Some (Deep, us)) (branch (after (codes "Size, ") ts) (λ us. Some (Size, us)) (branch (after (codes "Wide, ") ts) (λ us. Some (Wide, us)) None)))) r e) [
      | inl h ↦ subst P (same (Divide, h.0) r h.2) (after-sound (codes "Divide, ") ts h.0 h.1)
      | inr e1 ↦
          elim (chosen {A = TrapKind × List ℕ} (after (codes "Index, ") ts) (λ us. Some (Index, us)) (branch (after (codes "Deep, ") ts) (λ us. Some (Deep, us)) (branch (after (codes "Size, ") ts) (λ us. Some (Size, us)) (branch (after (codes "Wide, ") ts) (λ us. Some (Wide, us)) None))) r e1) [
            | inl h ↦ subst P (same (Index, h.0) r h.2) (after-sound (codes "Index, ") ts h.0 h.1)
            | inr e2 ↦
                elim (chosen {A = TrapKind × List ℕ} (after (codes "Deep, ") ts) (λ us. Some (Deep, us)) (branch (after (codes "Size, ") ts) (λ us. Some (Size, us)) (branch (after (codes "Wide, ") ts) (λ us. Some (Wide, us)) None)) r e2) [
                  | inl h ↦ subst P (same (Deep, h.0) r h.2) (after-sound (codes "Deep, ") ts h.0 h.1)
                  | inr e3 ↦
                      elim (chosen {A = TrapKind × List ℕ} (after (codes "Size, ") ts) (λ us. Some (Size, us)) (branch (after (codes "Wide, ") ts) (λ us. Some (Wide, us)) None) r e3) [
                        | inl h ↦ subst P (same (Size, h.0) r h.2) (after-sound (codes "Size, ") ts h.0 h.1)
                        | inr e4 ↦
                            elim (chosen {A = TrapKind × List ℕ} (after (codes "Wide, ") ts) (λ us. Some (Wide, us)) None r e4) [
                              | inl h ↦ subst P (same (Wide, h.0) r h.2) (after-sound (codes "Wide, ") ts h.0 h.1)
                              | inr e5 ↦
                                  absurd (none_some r e5)
                            ]
                      ]
                ]
          ]
    ]

-- ---- labels and operands

abbrev pub SaidLabel : (List ℕ → ℕ) → List ℕ → ℕ × List ℕ → Type 0
SaidLabel f ts r = (n : List ℕ) × (is_word n ≡ true) × (r.0 ≡ f n) × (ts ≡ n ++ r.1)

pub name-said : (f : List ℕ → ℕ) (ts : List ℕ) (r : ℕ × List ℕ) → name_rest f ts ≡ Some r → SaidLabel f ts r
name-said f ts r e =
    let a = bind _ _ r e in
    let w = word-sound ts a.0.0 a.0.1 a.1 in
    subst (SaidLabel f ts) (same _ _ a.2) (a.0.0, w.1, refl, w.0)

pub label-said : (f : List ℕ → ℕ) (ts : List ℕ) (r : ℕ × List ℕ) → label_at f ts ≡ Some r → (us : List ℕ) × (ts ≡ 64 ∷ us) × SaidLabel f us r
label-said f ts r e =
    let a = bind _ _ r e in
    (a.0, after-sound (codes "@") ts a.0 a.1, name-said f a.0 r a.2)

unnamed_value : (f : List ℕ → ℕ) (ts : List ℕ) (r : Value × List ℕ) → ((names : List (List ℕ)) → ts ≡ value_text names r.0 ++ r.1) → SaidValue f ts r
unnamed_value f ts r e = record { name = None; word = tt; within = λ blocks ok. tt; spelled = λ names stands. e names }

pub value-said : (f : List ℕ → ℕ) (ts : List ℕ) (r : Value × List ℕ) → value_at f ts ≡ Some r → SaidValue f ts r
unfolding value_at
value-said f ts r e =
    elim (chosen {A = Value × List ℕ} (after (codes "r") ts) (λ us. number_at 31 us >>= λ r. Some (Reg r.0, r.1)) (branch (after (codes "@") ts) (λ us. word_at us >>= λ n. Some (Label (f n.0), n.1)) (branch (after (codes "nil") ts) (λ us. Some (Nil, us)) (branch (after (codes "-") ts) (λ us. number_at 9223372036854775808 us >>= negative) (number_at 9223372036854775807 ts >>= λ n. Some (Int (pos n.0), n.1))))) r e) [
      | inl h ↦ (let a = bind _ _ r h.2 in
          subst (SaidValue f ts) (same _ _ a.2) (unnamed_value f ts (Reg a.0.0, a.0.1) (λ names. after-sound (codes "r") ts h.0 h.1 ∙ ap (λ (x : List ℕ). 114 ∷ x) (number-sound 31 h.0 a.0.0 a.0.1 (omega arith) a.1))))
      | inr e1 ↦
          elim (chosen {A = Value × List ℕ} (after (codes "@") ts) (λ us. word_at us >>= λ n. Some (Label (f n.0), n.1)) (branch (after (codes "nil") ts) (λ us. Some (Nil, us)) (branch (after (codes "-") ts) (λ us. number_at 9223372036854775808 us >>= negative) (number_at 9223372036854775807 ts >>= λ n. Some (Int (pos n.0), n.1)))) r e1) [
            | inl h ↦ (let a = bind _ _ r h.2 in
                let w = word-sound h.0 a.0.0 a.0.1 a.1 in
                subst (SaidValue f ts) (same _ _ a.2) record {
                  name = Some a.0.0;
                  word = w.1;
                  within = λ blocks ok. ok;
                  spelled = λ names stands. after-sound (codes "@") ts h.0 h.1 ∙ ap (λ (x : List ℕ). 64 ∷ x) (w.0 ∙ ap (λ (x : List ℕ). x ++ a.0.1) (sym stands));
                })
            | inr e2 ↦
                elim (chosen {A = Value × List ℕ} (after (codes "nil") ts) (λ us. Some (Nil, us)) (branch (after (codes "-") ts) (λ us. number_at 9223372036854775808 us >>= negative) (number_at 9223372036854775807 ts >>= λ n. Some (Int (pos n.0), n.1))) r e2) [
                  | inl h ↦ subst (SaidValue f ts) (same _ _ h.2) (unnamed_value f ts (Nil, h.0) (λ names. after-sound (codes "nil") ts h.0 h.1))
                  | inr e3 ↦
                      elim (chosen {A = Value × List ℕ} (after (codes "-") ts) (λ us. number_at 9223372036854775808 us >>= negative) (number_at 9223372036854775807 ts >>= λ n. Some (Int (pos n.0), n.1)) r e3) [
                        | inl h ↦ (let a = bind _ _ r h.2 in below_zero f ts h.0 r a.0 (after-sound (codes "-") ts h.0 h.1) (number-sound 9223372036854775808 h.0 a.0.0 a.0.1 (omega arith) a.1) a.2)
                        | inr e4 ↦
                            (let a = bind _ _ r e4 in
                            subst (SaidValue f ts) (same _ _ a.2) (unnamed_value f ts (Int (pos a.0.0), a.0.1) (λ names. number-sound 9223372036854775807 ts a.0.0 a.0.1 (omega arith) a.1)))
                      ]
                ]
          ]
    ]
  where
    below_zero : (f : List ℕ → ℕ) (ts us : List ℕ) (r : Value × List ℕ) (a : ℕ × List ℕ) → ts ≡ 45 ∷ us → us ≡ decimal a.0 ++ a.1 → negative a ≡ Some r → SaidValue f ts r
    below_zero f ts us r (zero, rest) e0 e1 read = absurd (none_some r read)
    below_zero f ts us r (suc n, rest) e0 e1 read = subst (SaidValue f ts) (same _ _ read) (unnamed_value f ts (Int (negsuc n), rest) (λ names. e0 ∙ ap (λ (x : List ℕ). 45 ∷ x) e1))

-- ---- instructions

unnamed : (tables : ℕ) (f : List ℕ → ℕ) (ts : List ℕ) (r : Instr × List ℕ) → ((names : List (List ℕ)) → ts ≡ instr_text names r.0 ++ r.1) → SaidInstr tables f ts r
unnamed tables f ts r e = record { name = None; word = tt; within = λ blocks ok. tt; spelled = λ names stands. e names }

if_jump-said : (tables : ℕ) (f : List ℕ → ℕ) (us : List ℕ) (r : Instr × List ℕ) → if_jump_rest f us ≡ Some r → SaidInstr tables f (codes "if-jump " ++ us) r
unfolding if_jump_rest
if_jump-said tables f us r e =
    let x0 = bind _ _ r e in
    let q0 = register-sound us x0.0.0 x0.0.1 x0.1 in
    let x1 = bind _ _ r x0.2 in
    let q1 = after-sound (codes ", ") x0.0.1 x1.0 x1.1 in
    let x2 = bind _ _ r x1.2 in
    let w = label-said f x1.0 x2.0 x2.1 in
    subst (SaidInstr tables f (codes "if-jump " ++ us)) (same _ _ x2.2) record {
      name = Some w.2.0;
      word = w.2.1;
      within = λ blocks ok. ap (λ (l : ℕ). ltb l blocks) (sym w.2.2) ∙ and_right (is_register x0.0.0) (ltb x2.0.0 blocks) ok;
      spelled = λ names stands. ap (λ (x : List ℕ). codes "if-jump " ++ x) (q0 ∙ ap (λ (x : List ℕ). register_text x0.0.0 ++ x) (q1 ∙ ap (λ (x : List ℕ). codes ", " ++ x) (w.1 ∙ ap (λ (x : List ℕ). 64 ∷ x) (w.2.3 ∙ ap (λ (x : List ℕ). x ++ x2.0.1) (sym stands ∙ ap (λ (l : ℕ). get_or names l []) (sym w.2.2)))))) ∙ join5 (codes "if-jump ") (register_text x0.0.0) (codes ", ") (codes "@") (get_or names x2.0.0 []) x2.0.1;
    }

store-said : (tables : ℕ) (f : List ℕ → ℕ) (us : List ℕ) (r : Instr × List ℕ) → store_rest f us ≡ Some r → SaidInstr tables f us r
unfolding store_rest
store-said tables f us r e =
    let x0 = bind _ _ r e in
    let q0 = cell-sound us x0.0.0 x0.0.1 x0.1 in
    let x1 = bind _ _ r x0.2 in
    let q1 = after-sound (codes " := ") x0.0.1 x1.0 x1.1 in
    let x2 = bind _ _ r x1.2 in
    let w = value-said f x1.0 x2.0 x2.1 in
    subst (SaidInstr tables f us) (same _ _ x2.2) record {
      name = w.name;
      word = w.word;
      within = λ blocks ok. w.within blocks (and_right (is_register x0.0.0.0 && is_offset x0.0.0.1) (is_value blocks x2.0.0) ok);
      spelled = λ names stands. (q0 ∙ ap (λ (x : List ℕ). cell_text x0.0.0.0 x0.0.0.1 ++ x) (q1 ∙ ap (λ (x : List ℕ). codes " := " ++ x) (w.spelled names stands))) ∙ join3 (cell_text x0.0.0.0 x0.0.0.1) (codes " := ") (value_text names x2.0.0) x2.0.1;
    }

salloc-said : (tables : ℕ) (f : List ℕ → ℕ) (us : List ℕ) (r : Instr × List ℕ) → salloc_rest us ≡ Some r → SaidInstr tables f (codes "salloc " ++ us) r
unfolding salloc_rest
salloc-said tables f us r e =
    let x0 = bind _ _ r e in
    let q0 = size-sound us x0.0.0 x0.0.1 x0.1 in
    subst (SaidInstr tables f (codes "salloc " ++ us)) (same _ _ x0.2) (unnamed tables f (codes "salloc " ++ us) (Salloc x0.0.0, x0.0.1) (λ names. ap (λ (x : List ℕ). codes "salloc " ++ x) q0 ∙ join2 (codes "salloc ") (decimal x0.0.0) x0.0.1))

sfree-said : (tables : ℕ) (f : List ℕ → ℕ) (us : List ℕ) (r : Instr × List ℕ) → sfree_rest us ≡ Some r → SaidInstr tables f (codes "sfree " ++ us) r
unfolding sfree_rest
sfree-said tables f us r e =
    let x0 = bind _ _ r e in
    let q0 = size-sound us x0.0.0 x0.0.1 x0.1 in
    subst (SaidInstr tables f (codes "sfree " ++ us)) (same _ _ x0.2) (unnamed tables f (codes "sfree " ++ us) (Sfree x0.0.0, x0.0.1) (λ names. ap (λ (x : List ℕ). codes "sfree " ++ x) q0 ∙ join2 (codes "sfree ") (decimal x0.0.0) x0.0.1))

prmpush-said : (tables : ℕ) (f : List ℕ → ℕ) (us : List ℕ) (r : Instr × List ℕ) → prmpush_rest f us ≡ Some r → SaidInstr tables f (codes "prmpush " ++ us) r
unfolding prmpush_rest
prmpush-said tables f us r e =
    let x0 = bind _ _ r e in
    let q0 = cell-sound us x0.0.0 x0.0.1 x0.1 in
    let x1 = bind _ _ r x0.2 in
    let q1 = after-sound (codes ", ") x0.0.1 x1.0 x1.1 in
    let x2 = bind _ _ r x1.2 in
    let q2 = size-sound x1.0 x2.0.0 x2.0.1 x2.1 in
    let x3 = bind _ _ r x2.2 in
    let q3 = after-sound (codes ", ") x2.0.1 x3.0 x3.1 in
    let x4 = bind _ _ r x3.2 in
    let w = label-said f x3.0 x4.0 x4.1 in
    subst (SaidInstr tables f (codes "prmpush " ++ us)) (same _ _ x4.2) record {
      name = Some w.2.0;
      word = w.2.1;
      within = λ blocks ok. ap (λ (l : ℕ). ltb l blocks) (sym w.2.2) ∙ and_right (is_register x0.0.0.0 && is_offset x0.0.0.1 && is_size x2.0.0) (ltb x4.0.0 blocks) ok;
      spelled = λ names stands. ap (λ (x : List ℕ). codes "prmpush " ++ x) (q0 ∙ ap (λ (x : List ℕ). cell_text x0.0.0.0 x0.0.0.1 ++ x) (q1 ∙ ap (λ (x : List ℕ). codes ", " ++ x) (q2 ∙ ap (λ (x : List ℕ). decimal x2.0.0 ++ x) (q3 ∙ ap (λ (x : List ℕ). codes ", " ++ x) (w.1 ∙ ap (λ (x : List ℕ). 64 ∷ x) (w.2.3 ∙ ap (λ (x : List ℕ). x ++ x4.0.1) (sym stands ∙ ap (λ (l : ℕ). get_or names l []) (sym w.2.2)))))))) ∙ join7 (codes "prmpush ") (cell_text x0.0.0.0 x0.0.0.1) (codes ", ") (decimal x2.0.0) (codes ", ") (codes "@") (get_or names x4.0.0 []) x4.0.1;
    }

prmpop-said : (tables : ℕ) (f : List ℕ → ℕ) (us : List ℕ) (r : Instr × List ℕ) → prmpop_rest us ≡ Some r → SaidInstr tables f (codes "prmpop " ++ us) r
unfolding prmpop_rest
prmpop-said tables f us r e =
    let x0 = bind _ _ r e in
    let q0 = cell-sound us x0.0.0 x0.0.1 x0.1 in
    subst (SaidInstr tables f (codes "prmpop " ++ us)) (same _ _ x0.2) (unnamed tables f (codes "prmpop " ++ us) (PrmPop x0.0.0.0 x0.0.0.1, x0.0.1) (λ names. ap (λ (x : List ℕ). codes "prmpop " ++ x) q0 ∙ join2 (codes "prmpop ") (cell_text x0.0.0.0 x0.0.0.1) x0.0.1))

prmempty-said : (tables : ℕ) (f : List ℕ → ℕ) (us : List ℕ) (r : Instr × List ℕ) → prmempty_rest us ≡ Some r → SaidInstr tables f (codes "prmempty " ++ us) r
unfolding prmempty_rest
prmempty-said tables f us r e =
    let x0 = bind _ _ r e in
    let q0 = register-sound us x0.0.0 x0.0.1 x0.1 in
    subst (SaidInstr tables f (codes "prmempty " ++ us)) (same _ _ x0.2) (unnamed tables f (codes "prmempty " ++ us) (PrmEmpty x0.0.0, x0.0.1) (λ names. ap (λ (x : List ℕ). codes "prmempty " ++ x) q0 ∙ join2 (codes "prmempty ") (register_text x0.0.0) x0.0.1))

prmsplit-said : (tables : ℕ) (f : List ℕ → ℕ) (us : List ℕ) (r : Instr × List ℕ) → prmsplit_rest us ≡ Some r → SaidInstr tables f (codes "prmsplit " ++ us) r
unfolding prmsplit_rest
prmsplit-said tables f us r e =
    let x0 = bind _ _ r e in
    let q0 = register-sound us x0.0.0 x0.0.1 x0.1 in
    let x1 = bind _ _ r x0.2 in
    let q1 = after-sound (codes ", ") x0.0.1 x1.0 x1.1 in
    let x2 = bind _ _ r x1.2 in
    let q2 = register-sound x1.0 x2.0.0 x2.0.1 x2.1 in
    subst (SaidInstr tables f (codes "prmsplit " ++ us)) (same _ _ x2.2) (unnamed tables f (codes "prmsplit " ++ us) (PrmSplit x0.0.0 x2.0.0, x2.0.1) (λ names. ap (λ (x : List ℕ). codes "prmsplit " ++ x) (q0 ∙ ap (λ (x : List ℕ). register_text x0.0.0 ++ x) (q1 ∙ ap (λ (x : List ℕ). codes ", " ++ x) q2)) ∙ join4 (codes "prmsplit ") (register_text x0.0.0) (codes ", ") (register_text x2.0.0) x2.0.1))

fork-said : (tables : ℕ) (f : List ℕ → ℕ) (us : List ℕ) (r : Instr × List ℕ) → fork_rest f us ≡ Some r → SaidInstr tables f (codes "fork " ++ us) r
unfolding fork_rest
fork-said tables f us r e =
    let x0 = bind _ _ r e in
    let q0 = register-sound us x0.0.0 x0.0.1 x0.1 in
    let x1 = bind _ _ r x0.2 in
    let q1 = after-sound (codes ", ") x0.0.1 x1.0 x1.1 in
    let x2 = bind _ _ r x1.2 in
    let w = label-said f x1.0 x2.0 x2.1 in
    subst (SaidInstr tables f (codes "fork " ++ us)) (same _ _ x2.2) record {
      name = Some w.2.0;
      word = w.2.1;
      within = λ blocks ok. ap (λ (l : ℕ). ltb l blocks) (sym w.2.2) ∙ and_right (is_register x0.0.0) (ltb x2.0.0 blocks) ok;
      spelled = λ names stands. ap (λ (x : List ℕ). codes "fork " ++ x) (q0 ∙ ap (λ (x : List ℕ). register_text x0.0.0 ++ x) (q1 ∙ ap (λ (x : List ℕ). codes ", " ++ x) (w.1 ∙ ap (λ (x : List ℕ). 64 ∷ x) (w.2.3 ∙ ap (λ (x : List ℕ). x ++ x2.0.1) (sym stands ∙ ap (λ (l : ℕ). get_or names l []) (sym w.2.2)))))) ∙ join5 (codes "fork ") (register_text x0.0.0) (codes ", ") (codes "@") (get_or names x2.0.0 []) x2.0.1;
    }

put-said : (tables : ℕ) (f : List ℕ → ℕ) (us : List ℕ) (r : Instr × List ℕ) → put_rest us ≡ Some r → SaidInstr tables f (codes "put " ++ us) r
unfolding put_rest
put-said tables f us r e =
    let x0 = bind _ _ r e in
    let q0 = table-sound us x0.0.0 x0.0.1 x0.1 in
    let x1 = bind _ _ r x0.2 in
    let q1 = after-sound (codes ", ") x0.0.1 x1.0 x1.1 in
    let x2 = bind _ _ r x1.2 in
    let q2 = register-sound x1.0 x2.0.0 x2.0.1 x2.1 in
    let x3 = bind _ _ r x2.2 in
    let q3 = after-sound (codes ", ") x2.0.1 x3.0 x3.1 in
    let x4 = bind _ _ r x3.2 in
    let q4 = register-sound x3.0 x4.0.0 x4.0.1 x4.1 in
    let x5 = bind _ _ r x4.2 in
    let q5 = after-sound (codes ", ") x4.0.1 x5.0 x5.1 in
    let x6 = bind _ _ r x5.2 in
    let q6 = register-sound x5.0 x6.0.0 x6.0.1 x6.1 in
    subst (SaidInstr tables f (codes "put " ++ us)) (same _ _ x6.2) (unnamed tables f (codes "put " ++ us) (Put x0.0.0 x2.0.0 x4.0.0 x6.0.0, x6.0.1) (λ names. ap (λ (x : List ℕ). codes "put " ++ x) (q0 ∙ ap (λ (x : List ℕ). table_text x0.0.0 ++ x) (q1 ∙ ap (λ (x : List ℕ). codes ", " ++ x) (q2 ∙ ap (λ (x : List ℕ). register_text x2.0.0 ++ x) (q3 ∙ ap (λ (x : List ℕ). codes ", " ++ x) (q4 ∙ ap (λ (x : List ℕ). register_text x4.0.0 ++ x) (q5 ∙ ap (λ (x : List ℕ). codes ", " ++ x) q6)))))) ∙ join8 (codes "put ") (table_text x0.0.0) (codes ", ") (register_text x2.0.0) (codes ", ") (register_text x4.0.0) (codes ", ") (register_text x6.0.0) x6.0.1))

make-said : (tables : ℕ) (f : List ℕ → ℕ) (us : List ℕ) (r : Instr × List ℕ) → make_rest us ≡ Some r → SaidInstr tables f (codes "make " ++ us) r
unfolding make_rest
make-said tables f us r e =
    let x0 = bind _ _ r e in
    let q0 = table-sound us x0.0.0 x0.0.1 x0.1 in
    let x1 = bind _ _ r x0.2 in
    let q1 = after-sound (codes ", ") x0.0.1 x1.0 x1.1 in
    let x2 = bind _ _ r x1.2 in
    let q2 = register-sound x1.0 x2.0.0 x2.0.1 x2.1 in
    let x3 = bind _ _ r x2.2 in
    let q3 = after-sound (codes ", ") x2.0.1 x3.0 x3.1 in
    let x4 = bind _ _ r x3.2 in
    let q4 = register-sound x3.0 x4.0.0 x4.0.1 x4.1 in
    let x5 = bind _ _ r x4.2 in
    let q5 = after-sound (codes ", ") x4.0.1 x5.0 x5.1 in
    let x6 = bind _ _ r x5.2 in
    let q6 = place-sound x5.0 x6.0.0 x6.0.1 x6.1 in
    subst (SaidInstr tables f (codes "make " ++ us)) (same _ _ x6.2) (unnamed tables f (codes "make " ++ us) (Make x0.0.0 x2.0.0 x4.0.0 x6.0.0, x6.0.1) (λ names. ap (λ (x : List ℕ). codes "make " ++ x) (q0 ∙ ap (λ (x : List ℕ). table_text x0.0.0 ++ x) (q1 ∙ ap (λ (x : List ℕ). codes ", " ++ x) (q2 ∙ ap (λ (x : List ℕ). register_text x2.0.0 ++ x) (q3 ∙ ap (λ (x : List ℕ). codes ", " ++ x) (q4 ∙ ap (λ (x : List ℕ). register_text x4.0.0 ++ x) (q5 ∙ ap (λ (x : List ℕ). codes ", " ++ x) q6)))))) ∙ join8 (codes "make ") (table_text x0.0.0) (codes ", ") (register_text x2.0.0) (codes ", ") (register_text x4.0.0) (codes ", ") (place_text x6.0.0) x6.0.1))

trap-said : (tables : ℕ) (f : List ℕ → ℕ) (us : List ℕ) (r : Instr × List ℕ) → trap_rest us ≡ Some r → SaidInstr tables f (codes "trap " ++ us) r
unfolding trap_rest
trap-said tables f us r e =
    let x0 = bind _ _ r e in
    let q0 = trap-sound us x0.0.0 x0.0.1 x0.1 in
    let x1 = bind _ _ r x0.2 in
    let q1 = place-sound x0.0.1 x1.0.0 x1.0.1 x1.1 in
    subst (SaidInstr tables f (codes "trap " ++ us)) (same _ _ x1.2) (unnamed tables f (codes "trap " ++ us) (Trap x0.0.0 x1.0.0, x1.0.1) (λ names. ap (λ (x : List ℕ). codes "trap " ++ x) (q0 ∙ ap (λ (x : List ℕ). trap_text x0.0.0 ++ (codes ", " ++ x)) q1) ∙ join4 (codes "trap ") (trap_text x0.0.0) (codes ", ") (place_text x1.0.0) x1.0.1))

print-said : (tables : ℕ) (f : List ℕ → ℕ) (us : List ℕ) (r : Instr × List ℕ) → print_rest us ≡ Some r → SaidInstr tables f (codes "print " ++ us) r
unfolding print_rest
print-said tables f us r e =
    let x0 = bind _ _ r e in
    let q0 = register-sound us x0.0.0 x0.0.1 x0.1 in
    subst (SaidInstr tables f (codes "print " ++ us)) (same _ _ x0.2) (unnamed tables f (codes "print " ++ us) (Print x0.0.0, x0.0.1) (λ names. ap (λ (x : List ℕ). codes "print " ++ x) q0 ∙ join2 (codes "print ") (register_text x0.0.0) x0.0.1))

emit-said : (tables : ℕ) (f : List ℕ → ℕ) (us : List ℕ) (r : Instr × List ℕ) → emit_rest us ≡ Some r → SaidInstr tables f (codes "emit " ++ us) r
unfolding emit_rest
emit-said tables f us r e =
    let x0 = bind _ _ r e in
    let q0 = table-sound us x0.0.0 x0.0.1 x0.1 in
    subst (SaidInstr tables f (codes "emit " ++ us)) (same _ _ x0.2) (unnamed tables f (codes "emit " ++ us) (Emit x0.0.0, x0.0.1) (λ names. ap (λ (x : List ℕ). codes "emit " ++ x) q0 ∙ join2 (codes "emit ") (table_text x0.0.0) x0.0.1))

load-said : (tables : ℕ) (f : List ℕ → ℕ) (to : ℕ) (us : List ℕ) (r : Instr × List ℕ) → load_rest to us ≡ Some r → SaidInstr tables f (register_text to ++ (codes " := " ++ us)) r
unfolding load_rest
load-said tables f to us r e =
    let x0 = bind _ _ r e in
    let q0 = cell-sound us x0.0.0 x0.0.1 x0.1 in
    subst (SaidInstr tables f (register_text to ++ (codes " := " ++ us))) (same _ _ x0.2) (unnamed tables f (register_text to ++ (codes " := " ++ us)) (Load to x0.0.0.0 x0.0.0.1, x0.0.1) (λ names. ap (λ (x : List ℕ). register_text to ++ (codes " := " ++ x)) q0 ∙ join3 (register_text to) (codes " := ") (cell_text x0.0.0.0 x0.0.0.1) x0.0.1))

jralloc-said : (tables : ℕ) (f : List ℕ → ℕ) (to : ℕ) (us : List ℕ) (r : Instr × List ℕ) → jralloc_rest f to us ≡ Some r → SaidInstr tables f (register_text to ++ (codes " := " ++ (codes "jralloc " ++ us))) r
unfolding jralloc_rest
jralloc-said tables f to us r e =
    let x0 = bind _ _ r e in
    let w = label-said f us x0.0 x0.1 in
    subst (SaidInstr tables f (register_text to ++ (codes " := " ++ (codes "jralloc " ++ us)))) (same _ _ x0.2) record {
      name = Some w.2.0;
      word = w.2.1;
      within = λ blocks ok. ap (λ (l : ℕ). ltb l blocks) (sym w.2.2) ∙ and_right (is_register to) (ltb x0.0.0 blocks) ok;
      spelled = λ names stands. ap (λ (x : List ℕ). register_text to ++ (codes " := " ++ (codes "jralloc " ++ x))) (w.1 ∙ ap (λ (x : List ℕ). 64 ∷ x) (w.2.3 ∙ ap (λ (x : List ℕ). x ++ x0.0.1) (sym stands ∙ ap (λ (l : ℕ). get_or names l []) (sym w.2.2)))) ∙ join4 (register_text to) (codes " := jralloc ") (codes "@") (get_or names x0.0.0 []) x0.0.1;
    }

fetch-said : (tables : ℕ) (f : List ℕ → ℕ) (to : ℕ) (us : List ℕ) (r : Instr × List ℕ) → fetch_rest to us ≡ Some r → SaidInstr tables f (register_text to ++ (codes " := " ++ (codes "fetch " ++ us))) r
unfolding fetch_rest
fetch-said tables f to us r e =
    let x0 = bind _ _ r e in
    let q0 = table-sound us x0.0.0 x0.0.1 x0.1 in
    let x1 = bind _ _ r x0.2 in
    let q1 = after-sound (codes ", ") x0.0.1 x1.0 x1.1 in
    let x2 = bind _ _ r x1.2 in
    let q2 = register-sound x1.0 x2.0.0 x2.0.1 x2.1 in
    let x3 = bind _ _ r x2.2 in
    let q3 = after-sound (codes ", ") x2.0.1 x3.0 x3.1 in
    let x4 = bind _ _ r x3.2 in
    let q4 = register-sound x3.0 x4.0.0 x4.0.1 x4.1 in
    subst (SaidInstr tables f (register_text to ++ (codes " := " ++ (codes "fetch " ++ us)))) (same _ _ x4.2) (unnamed tables f (register_text to ++ (codes " := " ++ (codes "fetch " ++ us))) (Fetch to x0.0.0 x2.0.0 x4.0.0, x4.0.1) (λ names. ap (λ (x : List ℕ). register_text to ++ (codes " := " ++ (codes "fetch " ++ x))) (q0 ∙ ap (λ (x : List ℕ). table_text x0.0.0 ++ x) (q1 ∙ ap (λ (x : List ℕ). codes ", " ++ x) (q2 ∙ ap (λ (x : List ℕ). register_text x2.0.0 ++ x) (q3 ∙ ap (λ (x : List ℕ). codes ", " ++ x) q4)))) ∙ join7 (register_text to) (codes " := fetch ") (table_text x0.0.0) (codes ", ") (register_text x2.0.0) (codes ", ") (register_text x4.0.0) x4.0.1))

rows-said : (tables : ℕ) (f : List ℕ → ℕ) (to : ℕ) (us : List ℕ) (r : Instr × List ℕ) → rows_rest to us ≡ Some r → SaidInstr tables f (register_text to ++ (codes " := " ++ (codes "rows " ++ us))) r
unfolding rows_rest
rows-said tables f to us r e =
    let x0 = bind _ _ r e in
    let q0 = table-sound us x0.0.0 x0.0.1 x0.1 in
    subst (SaidInstr tables f (register_text to ++ (codes " := " ++ (codes "rows " ++ us)))) (same _ _ x0.2) (unnamed tables f (register_text to ++ (codes " := " ++ (codes "rows " ++ us))) (Rows to x0.0.0, x0.0.1) (λ names. ap (λ (x : List ℕ). register_text to ++ (codes " := " ++ (codes "rows " ++ x))) q0 ∙ join3 (register_text to) (codes " := rows ") (table_text x0.0.0) x0.0.1))

cols-said : (tables : ℕ) (f : List ℕ → ℕ) (to : ℕ) (us : List ℕ) (r : Instr × List ℕ) → cols_rest to us ≡ Some r → SaidInstr tables f (register_text to ++ (codes " := " ++ (codes "cols " ++ us))) r
unfolding cols_rest
cols-said tables f to us r e =
    let x0 = bind _ _ r e in
    let q0 = table-sound us x0.0.0 x0.0.1 x0.1 in
    subst (SaidInstr tables f (register_text to ++ (codes " := " ++ (codes "cols " ++ us)))) (same _ _ x0.2) (unnamed tables f (register_text to ++ (codes " := " ++ (codes "cols " ++ us))) (Cols to x0.0.0, x0.0.1) (λ names. ap (λ (x : List ℕ). register_text to ++ (codes " := " ++ (codes "cols " ++ x))) q0 ∙ join3 (register_text to) (codes " := cols ") (table_text x0.0.0) x0.0.1))

calc-said : (tables : ℕ) (f : List ℕ → ℕ) (to left : ℕ) (us : List ℕ) (r : Instr × List ℕ) → calc_rest f to left us ≡ Some r → SaidInstr tables f (register_text to ++ (codes " := " ++ (register_text left ++ (32 ∷ us)))) r
unfolding calc_rest
calc-said tables f to left us r e =
    let x0 = bind _ _ r e in
    let x1 = bind _ _ r x0.2 in
    let q0 = alu-sound us x0.0.0 x0.0.1 x0.1 in
    let w = value-said f x0.0.1 x1.0 x1.1 in
    let start = register_text to ++ (codes " := " ++ (register_text left ++ (32 ∷ us))) in
    subst (SaidInstr tables f start) (same _ _ x1.2) record {
      name = w.name;
      word = w.word;
      within = λ blocks ok. w.within blocks (and_right (is_register to && is_register left) (is_value blocks x1.0.0) ok);
      spelled = λ names stands. ap (λ (x : List ℕ). register_text to ++ (codes " := " ++ (register_text left ++ (32 ∷ x)))) (q0 ∙ ap (λ (x : List ℕ). alu_text x0.0.0 ++ (32 ∷ x)) (w.spelled names stands)) ∙ join7 (register_text to) (codes " := ") (register_text left) (codes " ") (alu_text x0.0.0) (codes " ") (value_text names x1.0.0) x1.0.1;
    }

-- so many names and one more, all the same
pub filled : ℕ → List ℕ → List (List ℕ)
filled zero n = n ∷ []
filled (suc k) n = n ∷ filled k n

pub at_filled : (k : ℕ) (n : List ℕ) → get_or (filled k n) k [] ≡ n
unfolding filled
at_filled zero n = refl
at_filled (suc k) n = at_filled k n

-- a value alone
moved : (tables : ℕ) (f : List ℕ → ℕ) (to : ℕ) (us : List ℕ) (v : Value) (rest : List ℕ) → SaidValue f us (v, rest) → SaidInstr tables f (register_text to ++ (codes " := " ++ us)) (Move to v, rest)
moved tables f to us v rest w = record {
  name = w.name;
  word = w.word;
  within = λ blocks ok. w.within blocks (and_right (is_register to) (is_value blocks v) ok);
  spelled = λ names stands. ap (λ (x : List ℕ). register_text to ++ (codes " := " ++ x)) (w.spelled names stands) ∙ join3 (register_text to) (codes " := ") (value_text names v) rest;
}

under : (f : List ℕ → ℕ) (us : List ℕ) (left : ℕ) (rest : List ℕ) (name : Option (List ℕ)) → ((names : List (List ℕ)) → Stands f names name → us ≡ register_text left ++ rest) → us ≡ register_text left ++ rest
under f us left rest None spelled = spelled [] tt
under f us left rest (Some n) spelled = spelled (filled (f n) n) (at_filled (f n) n)

source-said : (tables : ℕ) (f : List ℕ → ℕ) (to : ℕ) (us : List ℕ) (v : Value) (rest : List ℕ) (r : Instr × List ℕ) → SaidValue f us (v, rest) → source_rest f to (v, rest) ≡ Some r → SaidInstr tables f (register_text to ++ (codes " := " ++ us)) r
unfolding calc_rest
source-said tables f to us (Reg left) rest r w e =
    elim (chosen {A = Instr × List ℕ} (after (codes " ") rest) (calc_rest f to left) (Some (Move to (Reg left), rest)) r e) [
      | inl h ↦
          (let eq : us ≡ register_text left ++ (32 ∷ h.0) = under f us left rest w.name w.spelled ∙ ap (λ (x : List ℕ). register_text left ++ x) (after-sound (codes " ") rest h.0 h.1) in
          let P : List ℕ → Type 0 = λ x. SaidInstr tables f (register_text to ++ (codes " := " ++ x)) r in
          subst P (sym eq) (calc-said tables f to left h.0 r h.2))
      | inr e1 ↦ subst (SaidInstr tables f (register_text to ++ (codes " := " ++ us))) (same _ _ e1) (moved tables f to us (Reg left) rest w)
    ]
source-said tables f to us (Int z) rest r w e = subst (SaidInstr tables f (register_text to ++ (codes " := " ++ us))) (same _ _ e) (moved tables f to us (Int z) rest w)
source-said tables f to us (Label l) rest r w e = subst (SaidInstr tables f (register_text to ++ (codes " := " ++ us))) (same _ _ e) (moved tables f to us (Label l) rest w)
source-said tables f to us Nil rest r w e = subst (SaidInstr tables f (register_text to ++ (codes " := " ++ us))) (same _ _ e) (moved tables f to us Nil rest w)

assigned-said : (tables : ℕ) (f : List ℕ → ℕ) (to : ℕ) (ts : List ℕ) (r : Instr × List ℕ) → assigned_rest f to ts ≡ Some r → SaidInstr tables f (register_text to ++ (codes " := " ++ ts)) r
unfolding assigned_rest move_rest
assigned-said tables f to ts r e =
    let P : List ℕ → Type 0 = λ x. SaidInstr tables f (register_text to ++ (codes " := " ++ x)) r in
    elim (chosen {A = Instr × List ℕ} (after (codes "mem[") ts) (λ us. load_rest to ts) (branch (after (codes "jralloc ") ts) (jralloc_rest f to) (branch (after (codes "fetch ") ts) (fetch_rest to) (branch (after (codes "rows ") ts) (rows_rest to) (branch (after (codes "cols ") ts) (cols_rest to) (move_rest f to ts))))) r e) [
      | inl h ↦ load-said tables f to ts r h.2
      | inr e1 ↦
          elim (chosen {A = Instr × List ℕ} (after (codes "jralloc ") ts) (jralloc_rest f to) (branch (after (codes "fetch ") ts) (fetch_rest to) (branch (after (codes "rows ") ts) (rows_rest to) (branch (after (codes "cols ") ts) (cols_rest to) (move_rest f to ts)))) r e1) [
            | inl h ↦ subst P (sym (after-sound (codes "jralloc ") ts h.0 h.1)) (jralloc-said tables f to h.0 r h.2)
            | inr e2 ↦
                elim (chosen {A = Instr × List ℕ} (after (codes "fetch ") ts) (fetch_rest to) (branch (after (codes "rows ") ts) (rows_rest to) (branch (after (codes "cols ") ts) (cols_rest to) (move_rest f to ts))) r e2) [
                  | inl h ↦ subst P (sym (after-sound (codes "fetch ") ts h.0 h.1)) (fetch-said tables f to h.0 r h.2)
                  | inr e3 ↦
                      elim (chosen {A = Instr × List ℕ} (after (codes "rows ") ts) (rows_rest to) (branch (after (codes "cols ") ts) (cols_rest to) (move_rest f to ts)) r e3) [
                        | inl h ↦ subst P (sym (after-sound (codes "rows ") ts h.0 h.1)) (rows-said tables f to h.0 r h.2)
                        | inr e4 ↦
                            elim (chosen {A = Instr × List ℕ} (after (codes "cols ") ts) (cols_rest to) (move_rest f to ts) r e4) [
                              | inl h ↦ subst P (sym (after-sound (codes "cols ") ts h.0 h.1)) (cols-said tables f to h.0 r h.2)
                              | inr e5 ↦
                                  (let a = bind _ _ r e5 in source-said tables f to ts a.0.0 a.0.1 r (value-said f ts a.0 a.1) a.2)
                            ]
                      ]
                ]
          ]
    ]

changed-said : (tables : ℕ) (f : List ℕ → ℕ) (us : List ℕ) (r : Instr × List ℕ) → changed_rest f us ≡ Some r → SaidInstr tables f (114 ∷ us) r
unfolding changed_rest
changed-said tables f us r e =
    let x0 = bind _ _ r e in
    let x1 = bind _ _ r x0.2 in
    let eq : 114 ∷ us ≡ register_text x0.0.0 ++ (codes " := " ++ x1.0) = ap (λ (x : List ℕ). 114 ∷ x) (number-sound 31 us x0.0.0 x0.0.1 (omega arith) x0.1 ∙ ap (λ (x : List ℕ). decimal x0.0.0 ++ x) (after-sound (codes " := ") x0.0.1 x1.0 x1.1)) in
    let P : List ℕ → Type 0 = λ x. SaidInstr tables f x r in
    subst P (sym eq) (assigned-said tables f x0.0.0 x1.0 r x1.2)

none_said : (tables : ℕ) (f : List ℕ → ℕ) (ts : List ℕ) (r : Instr × List ℕ) → None ≡ Some r → SaidInstr tables f ts r
none_said tables f ts r q = absurd cc

table-said : (tables : ℕ) (f : List ℕ → ℕ) (ts : List ℕ) (r : Instr × List ℕ) → table_rest ts ≡ Some r → SaidInstr tables f ts r
unfolding table_rest
table-said tables f ts r e =
    let P : List ℕ → Type 0 = λ x. SaidInstr tables f x r in
    elim (chosen {A = Instr × List ℕ} (after (codes "put ") ts) put_rest (branch (after (codes "make ") ts) make_rest (branch (after (codes "tick") ts) (λ us. Some (Tick, us)) (branch (after (codes "trap ") ts) trap_rest (branch (after (codes "print ") ts) print_rest (branch (after (codes "emit ") ts) emit_rest None))))) r e) [
      | inl h ↦ subst P (sym (after-sound (codes "put ") ts h.0 h.1)) (put-said tables f h.0 r h.2)
      | inr e1 ↦
          elim (chosen {A = Instr × List ℕ} (after (codes "make ") ts) make_rest (branch (after (codes "tick") ts) (λ us. Some (Tick, us)) (branch (after (codes "trap ") ts) trap_rest (branch (after (codes "print ") ts) print_rest (branch (after (codes "emit ") ts) emit_rest None)))) r e1) [
            | inl h ↦ subst P (sym (after-sound (codes "make ") ts h.0 h.1)) (make-said tables f h.0 r h.2)
            | inr e2 ↦
                elim (chosen {A = Instr × List ℕ} (after (codes "tick") ts) (λ us. Some (Tick, us)) (branch (after (codes "trap ") ts) trap_rest (branch (after (codes "print ") ts) print_rest (branch (after (codes "emit ") ts) emit_rest None))) r e2) [
                  | inl h ↦ subst (SaidInstr tables f ts) (same _ _ h.2) (unnamed tables f ts (Tick, h.0) (λ names. after-sound (codes "tick") ts h.0 h.1))
                  | inr e3 ↦
                      elim (chosen {A = Instr × List ℕ} (after (codes "trap ") ts) trap_rest (branch (after (codes "print ") ts) print_rest (branch (after (codes "emit ") ts) emit_rest None)) r e3) [
                        | inl h ↦ subst P (sym (after-sound (codes "trap ") ts h.0 h.1)) (trap-said tables f h.0 r h.2)
                        | inr e4 ↦
                            elim (chosen {A = Instr × List ℕ} (after (codes "print ") ts) print_rest (branch (after (codes "emit ") ts) emit_rest None) r e4) [
                              | inl h ↦ subst P (sym (after-sound (codes "print ") ts h.0 h.1)) (print-said tables f h.0 r h.2)
                              | inr e5 ↦
                                  elim (chosen {A = Instr × List ℕ} (after (codes "emit ") ts) emit_rest None r e5) [
                                    | inl h ↦ subst P (sym (after-sound (codes "emit ") ts h.0 h.1)) (emit-said tables f h.0 r h.2)
                                    | inr e6 ↦
                                        none_said tables f ts r e6
                                  ]
                            ]
                      ]
                ]
          ]
    ]

other-said : (tables : ℕ) (f : List ℕ → ℕ) (ts : List ℕ) (r : Instr × List ℕ) → other_rest f ts ≡ Some r → SaidInstr tables f ts r
unfolding other_rest
other-said tables f ts r e =
    let P : List ℕ → Type 0 = λ x. SaidInstr tables f x r in
    elim (chosen {A = Instr × List ℕ} (after (codes "fork ") ts) (fork_rest f) (table_rest ts) r e) [
      | inl h ↦ subst P (sym (after-sound (codes "fork ") ts h.0 h.1)) (fork-said tables f h.0 r h.2)
      | inr e1 ↦
          table-said tables f ts r e1
    ]

stack-said : (tables : ℕ) (f : List ℕ → ℕ) (ts : List ℕ) (r : Instr × List ℕ) → stack_rest f ts (other_rest f ts) ≡ Some r → SaidInstr tables f ts r
unfolding stack_rest
stack-said tables f ts r e =
    let P : List ℕ → Type 0 = λ x. SaidInstr tables f x r in
    elim (chosen {A = Instr × List ℕ} (after (codes "salloc ") ts) salloc_rest (branch (after (codes "sfree ") ts) sfree_rest (branch (after (codes "prmpush ") ts) (prmpush_rest f) (branch (after (codes "prmpop ") ts) prmpop_rest (branch (after (codes "prmdrop") ts) (λ us. Some (PrmDrop, us)) (branch (after (codes "prmempty ") ts) prmempty_rest (branch (after (codes "prmsplit ") ts) prmsplit_rest (other_rest f ts))))))) r e) [
      | inl h ↦ subst P (sym (after-sound (codes "salloc ") ts h.0 h.1)) (salloc-said tables f h.0 r h.2)
      | inr e1 ↦
          elim (chosen {A = Instr × List ℕ} (after (codes "sfree ") ts) sfree_rest (branch (after (codes "prmpush ") ts) (prmpush_rest f) (branch (after (codes "prmpop ") ts) prmpop_rest (branch (after (codes "prmdrop") ts) (λ us. Some (PrmDrop, us)) (branch (after (codes "prmempty ") ts) prmempty_rest (branch (after (codes "prmsplit ") ts) prmsplit_rest (other_rest f ts)))))) r e1) [
            | inl h ↦ subst P (sym (after-sound (codes "sfree ") ts h.0 h.1)) (sfree-said tables f h.0 r h.2)
            | inr e2 ↦
                elim (chosen {A = Instr × List ℕ} (after (codes "prmpush ") ts) (prmpush_rest f) (branch (after (codes "prmpop ") ts) prmpop_rest (branch (after (codes "prmdrop") ts) (λ us. Some (PrmDrop, us)) (branch (after (codes "prmempty ") ts) prmempty_rest (branch (after (codes "prmsplit ") ts) prmsplit_rest (other_rest f ts))))) r e2) [
                  | inl h ↦ subst P (sym (after-sound (codes "prmpush ") ts h.0 h.1)) (prmpush-said tables f h.0 r h.2)
                  | inr e3 ↦
                      elim (chosen {A = Instr × List ℕ} (after (codes "prmpop ") ts) prmpop_rest (branch (after (codes "prmdrop") ts) (λ us. Some (PrmDrop, us)) (branch (after (codes "prmempty ") ts) prmempty_rest (branch (after (codes "prmsplit ") ts) prmsplit_rest (other_rest f ts)))) r e3) [
                        | inl h ↦ subst P (sym (after-sound (codes "prmpop ") ts h.0 h.1)) (prmpop-said tables f h.0 r h.2)
                        | inr e4 ↦
                            elim (chosen {A = Instr × List ℕ} (after (codes "prmdrop") ts) (λ us. Some (PrmDrop, us)) (branch (after (codes "prmempty ") ts) prmempty_rest (branch (after (codes "prmsplit ") ts) prmsplit_rest (other_rest f ts))) r e4) [
                              | inl h ↦ subst (SaidInstr tables f ts) (same _ _ h.2) (unnamed tables f ts (PrmDrop, h.0) (λ names. after-sound (codes "prmdrop") ts h.0 h.1))
                              | inr e5 ↦
                                  elim (chosen {A = Instr × List ℕ} (after (codes "prmempty ") ts) prmempty_rest (branch (after (codes "prmsplit ") ts) prmsplit_rest (other_rest f ts)) r e5) [
                                    | inl h ↦ subst P (sym (after-sound (codes "prmempty ") ts h.0 h.1)) (prmempty-said tables f h.0 r h.2)
                                    | inr e6 ↦
                                        elim (chosen {A = Instr × List ℕ} (after (codes "prmsplit ") ts) prmsplit_rest (other_rest f ts) r e6) [
                                          | inl h ↦ subst P (sym (after-sound (codes "prmsplit ") ts h.0 h.1)) (prmsplit-said tables f h.0 r h.2)
                                          | inr e7 ↦
                                              other-said tables f ts r e7
                                        ]
                                  ]
                            ]
                      ]
                ]
          ]
    ]

-- an instruction that is read is spelled there
pub instr-said : (tables : ℕ) (f : List ℕ → ℕ) (ts : List ℕ) (r : Instr × List ℕ) → instr_rest f ts ≡ Some r → SaidInstr tables f ts r
unfolding instr_rest
instr-said tables f ts r e =
    let P : List ℕ → Type 0 = λ x. SaidInstr tables f x r in
    elim (chosen {A = Instr × List ℕ} (after (codes "r") ts) (changed_rest f) (branch (after (codes "if-jump ") ts) (if_jump_rest f) (branch (after (codes "mem[") ts) (λ us. store_rest f ts) (stack_rest f ts (other_rest f ts)))) r e) [
      | inl h ↦ subst P (sym (after-sound (codes "r") ts h.0 h.1)) (changed-said tables f h.0 r h.2)
      | inr e1 ↦
          elim (chosen {A = Instr × List ℕ} (after (codes "if-jump ") ts) (if_jump_rest f) (branch (after (codes "mem[") ts) (λ us. store_rest f ts) (stack_rest f ts (other_rest f ts))) r e1) [
            | inl h ↦ subst P (sym (after-sound (codes "if-jump ") ts h.0 h.1)) (if_jump-said tables f h.0 r h.2)
            | inr e2 ↦
                elim (chosen {A = Instr × List ℕ} (after (codes "mem[") ts) (λ us. store_rest f ts) (stack_rest f ts (other_rest f ts)) r e2) [
                  | inl h ↦ store-said tables f ts r h.2
                  | inr e3 ↦
                      stack-said tables f ts r e3
                ]
          ]
    ]

-- ---- ends

unnamed_term : (f : List ℕ → ℕ) (ts : List ℕ) (r : Term × List ℕ) → ((names : List (List ℕ)) → ts ≡ term_text names r.0 ++ r.1) → SaidTerm f ts r
unnamed_term f ts r e = record { name = None; word = tt; within = λ blocks ok. tt; spelled = λ names stands. e names }

none_term : (f : List ℕ → ℕ) (ts : List ℕ) (r : Term × List ℕ) → None ≡ Some r → SaidTerm f ts r
none_term f ts r q = absurd cc

leave-said : (f : List ℕ → ℕ) (us : List ℕ) (r : Term × List ℕ) → leave_rest us ≡ Some r → SaidTerm f (codes "leave " ++ us) r
unfolding leave_rest
leave-said f us r e =
    let x0 = bind _ _ r e in
    let q0 = register-sound us x0.0.0 x0.0.1 x0.1 in
    let x1 = bind _ _ r x0.2 in
    let q1 = after-sound (codes ", ") x0.0.1 x1.0 x1.1 in
    let x2 = bind _ _ r x1.2 in
    let q2 = register-sound x1.0 x2.0.0 x2.0.1 x2.1 in
    subst (SaidTerm f (codes "leave " ++ us)) (same _ _ x2.2) (unnamed_term f (codes "leave " ++ us) (Leave x0.0.0 x2.0.0, x2.0.1) (λ names. ap (λ (x : List ℕ). codes "leave " ++ x) (q0 ∙ ap (λ (x : List ℕ). register_text x0.0.0 ++ x) (q1 ∙ ap (λ (x : List ℕ). codes ", " ++ x) q2)) ∙ join4 (codes "leave ") (register_text x0.0.0) (codes ", ") (register_text x2.0.0) x2.0.1))

left-said : (v : Version) (f : List ℕ → ℕ) (ts : List ℕ) (r : Term × List ℕ) → left_rest v ts ≡ Some r → SaidTerm f ts r
unfolding left_rest
left-said One f ts r e = none_term f ts r e
left-said Two f ts r e =
    let P : List ℕ → Type 0 = λ us. SaidTerm f us r in
    elim (chosen {A = Term × List ℕ} (after (codes "leave ") ts) leave_rest None r e) [
      | inl h ↦ subst P (sym (after-sound (codes "leave ") ts h.0 h.1)) (leave-said f h.0 r h.2)
      | inr e1 ↦ none_term f ts r e1
    ]

pub term-said : (v : Version) (f : List ℕ → ℕ) (ts : List ℕ) (r : Term × List ℕ) → term_rest v f ts ≡ Some r → SaidTerm f ts r
unfolding term_rest jump_rest join_rest
term-said v f ts r e =
    elim (chosen {A = Term × List ℕ} (after (codes "jump ") ts) (jump_rest f) (branch (after (codes "halt") ts) (λ us. Some (Halt, us)) (branch (after (codes "join ") ts) join_rest (left_rest v ts))) r e) [
      | inl h ↦ (let a = bind _ _ r h.2 in
          let w = value-said f h.0 a.0 a.1 in
          subst (SaidTerm f ts) (same _ _ a.2) record {
            name = w.name;
            word = w.word;
            within = λ blocks ok. w.within blocks ok;
            spelled = λ names stands. after-sound (codes "jump ") ts h.0 h.1 ∙ ap (λ (x : List ℕ). codes "jump " ++ x) (w.spelled names stands);
          })
      | inr e1 ↦
          elim (chosen {A = Term × List ℕ} (after (codes "halt") ts) (λ us. Some (Halt, us)) (branch (after (codes "join ") ts) join_rest (left_rest v ts)) r e1) [
            | inl h ↦ subst (SaidTerm f ts) (same _ _ h.2) (unnamed_term f ts (Halt, h.0) (λ names. after-sound (codes "halt") ts h.0 h.1))
            | inr e2 ↦
                elim (chosen {A = Term × List ℕ} (after (codes "join ") ts) join_rest (left_rest v ts) r e2) [
                  | inl h ↦ (let a = bind _ _ r h.2 in
                      subst (SaidTerm f ts) (same _ _ a.2) (unnamed_term f ts (Join a.0.0, a.0.1) (λ names. after-sound (codes "join ") ts h.0 h.1 ∙ ap (λ (x : List ℕ). codes "join " ++ x) (register-sound h.0 a.0.0 a.0.1 a.1))))
                  | inr e3 ↦
                      left-said v f ts r e3
                ]
          ]
    ]

-- ---- an end that is read stands in texts of the version

abbrev Standing : Version → Term × List ℕ → Type 0
Standing v r = stands_in v r.0 ≡ true

left-stands : (v : Version) (ts : List ℕ) (r : Term × List ℕ) → left_rest v ts ≡ Some r → Standing v r
unfolding left_rest
left-stands One ts r e = absurd (none_some r e)
left-stands Two ts r e = refl

pub term-stands : (v : Version) (f : List ℕ → ℕ) (ts : List ℕ) (r : Term × List ℕ) → term_rest v f ts ≡ Some r → Standing v r
unfolding term_rest jump_rest join_rest
term-stands v f ts r e =
    elim (chosen {A = Term × List ℕ} (after (codes "jump ") ts) (jump_rest f) (branch (after (codes "halt") ts) (λ us. Some (Halt, us)) (branch (after (codes "join ") ts) join_rest (left_rest v ts))) r e) [
      | inl h ↦ (let a = bind (value_at f h.0) (λ x. Some (Jump x.0, x.1)) r h.2 in subst (Standing v) (same (Jump a.0.0, a.0.1) r a.2) (jump_stands v a.0.0))
      | inr e1 ↦
          elim (chosen {A = Term × List ℕ} (after (codes "halt") ts) (λ us. Some (Halt, us)) (branch (after (codes "join ") ts) join_rest (left_rest v ts)) r e1) [
            | inl h ↦ subst (Standing v) (same _ _ h.2) (halt_stands v)
            | inr e2 ↦
                elim (chosen {A = Term × List ℕ} (after (codes "join ") ts) join_rest (left_rest v ts) r e2) [
                  | inl h ↦ (let a = bind (register_at h.0) (λ x. Some (Join x.0, x.1)) r h.2 in subst (Standing v) (same (Join a.0.0, a.0.1) r a.2) (join_stands v a.0.0))
                  | inr e3 ↦ left-stands v ts r e3
                ]
          ]
    ]
  where
    jump_stands : (v : Version) (x : Value) → stands_in v (Jump x) ≡ true
    jump_stands One x = refl
    jump_stands Two x = refl

    halt_stands : (v : Version) → stands_in v Halt ≡ true
    halt_stands One = refl
    halt_stands Two = refl

    join_stands : (v : Version) (r : ℕ) → stands_in v (Join r) ≡ true
    join_stands One r = refl
    join_stands Two r = refl
