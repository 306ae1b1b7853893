-- The note that is read of a first line is as the grammar has it.
use Rattle.std.proofs.Common.{◌≡◌, ℕ, zero, suc, ◌+◌, ◌-◌, ◌*◌, ◌≤◌, Bool, true, false, cond, eqb}
use Rattle.std.proofs.Common.{leb, ltb, ◌&&◌, List, [], ◌∷◌, length, Option, Some, None, refl, sym}
use Rattle.std.proofs.Common.{ap, subst, inl, inr, arith}
use Rattle.std.specs.Prelude.{codes}
use Rattle.std.specs.List.{list_all}
use Rattle.std.proofs.lemmas.Bool.{leb-true, lt-ltb}
use Rattle.tpal_syntax.specs.declared.notes.CutKind.{CutKind}
use Rattle.tpal_syntax.specs.declared.notes.CarryAt.{CarryAt}
use Rattle.tpal_syntax.specs.declared.notes.CarryAt.TheVariants as carry
use Rattle.tpal_syntax.specs.declared.notes.Note.{Note}
use Rattle.tpal_syntax.specs.declared.notes.Note.TheVariants as note
use Rattle.tpal_syntax.specs.declared.notes.Target.{Target}
use Rattle.tpal_syntax.specs.declared.versions.Version.{Version}
use Rattle.tpal_syntax.specs.Parts.{is_register, is_carry}
use Rattle.tpal_syntax.specs.Readers.{Reading, ◌>>=◌, after, branch, many, with_more, is_digit}
use Rattle.tpal_syntax.specs.Readers.{no_digit, digits_at, number_at, word_at, register_at}
use Rattle.tpal_syntax.specs.Readers.{table_at, rename_at, next_rename_at, renames_at, carry_at}
use Rattle.tpal_syntax.specs.Readers.{next_carry_at, carries_at, policy_at, kind_at}
use Rattle.tpal_asm.specs.Reading.{ended, cut_rest, target_rest, ready_rest, jtppt_rest, note_rest}
use Rattle.tpal_asm.specs.Reading.{number_rest_of, header_rest}
use Rattle.tpal_asm.specs.Labels.{place_of}
use Rattle.tpal_asm.specs.Drafts.{IsNoteForm}
use Rattle.tpal_asm.proofs.Sound.{bind, chosen, none_some, same, digit_case, zero_case, first_case}
use Rattle.tpal_asm.proofs.InsideFaults.{ended_is}
use Rattle.std.specs.Cmp.Derive.{both_true}

-- ---- numbers

digits-within : (limit n : ℕ) (ts : List ℕ) (m : ℕ) (rest : List ℕ) → n ≤ limit → digits_at limit n ts ≡ Some (m, rest) → m ≤ limit
unfolding digits_at
digits-within limit n [] m rest le e =
    let q : n ≡ m = ap (λ (p : ℕ × List ℕ). p.0) (same (n, []) (m, rest) e) in
    omega (arith, q, le)
digits-within limit n (t ∷ ts) m rest le e =
    let next = 10 * n + (t - 48) in
    elim (digit_case (is_digit t) (leb next limit) (digits_at limit next ts) n (t ∷ ts) m rest e) [
      | inl h ↦ digits-within limit next ts m rest (leb-true next limit h.1) h.2
      | inr h ↦ omega (arith, h.0, le)
    ]

pub number-within : (limit : ℕ) (ts : List ℕ) (m : ℕ) (rest : List ℕ) → number_at limit ts ≡ Some (m, rest) → m ≤ limit
unfolding number_at
number-within limit [] m rest e = absurd cc
number-within limit (t ∷ ts) m rest e =
    elim (first_case t (eqb t 48) (is_digit t) (leb (t - 48) limit) (cond (no_digit ts) (Some (0, ts)) None) (digits_at limit (t - 48) ts) m rest e) [
      | inl h ↦ (let z = zero_case (no_digit ts) ts m rest h.1 in omega (arith, z.0))
      | inr h ↦ digits-within limit (t - 48) ts m rest (first_digit t limit h.0 h.1 e) h.2
    ]
  where
    inner : (b c : Bool) (o : Option (ℕ × List ℕ)) (r : ℕ × List ℕ) → cond b (cond c o None) None ≡ Some r → c ≡ true
    inner true true o r e = refl
    inner true false o r e = absurd cc
    inner false c o r e = absurd cc

    outer : (z b c : Bool) (o p : Option (ℕ × List ℕ)) (r : ℕ × List ℕ) → z ≡ false → cond z o (cond b (cond c p None) None) ≡ Some r → c ≡ true
    outer true b c o p r q e = absurd cc
    outer false b c o p r q e = inner b c p r e

    first_digit : (t limit : ℕ) → eqb t 48 ≡ false → is_digit t ≡ true → cond (eqb t 48) (cond (no_digit ts) (Some (0, ts)) None) (cond (is_digit t) (cond (leb (t - 48) limit) (digits_at limit (t - 48) ts) None) None) ≡ Some (m, rest) → t - 48 ≤ limit
    first_digit t limit other digit e = leb-true (t - 48) limit (outer (eqb t 48) (is_digit t) (leb (t - 48) limit) (cond (no_digit ts) (Some (0, ts)) None) (digits_at limit (t - 48) ts) (m, rest) other e)

register-within : (ts : List ℕ) (r : ℕ × List ℕ) → register_at ts ≡ Some r → is_register r.0 ≡ true
register-within ts r e =
    let a = bind (after (codes "r") ts) (number_at 31) r e in
    let le : r.0 ≤ 31 = number-within 31 a.0 r.0 r.1 a.2 in
    lt-ltb r.0 32 (omega (arith, le))

table-within : (ts : List ℕ) (r : ℕ × List ℕ) → table_at ts ≡ Some r → ltb r.0 16 ≡ true
table-within ts r e =
    let a = bind (after (codes "t") ts) (number_at 15) r e in
    let le : r.0 ≤ 15 = number-within 15 a.0 r.0 r.1 a.2 in
    lt-ltb r.0 16 (omega (arith, le))

-- ---- lists

abbrev Passes : {A : Type 0} → Reading A → (A → Bool) → Type 0
Passes {A} read test = (ts : List ℕ) (r : A × List ℕ) → read ts ≡ Some r → test r.0 ≡ true

many_step : {A : Type 0} (read : Reading A) (test : A → Bool) → Passes read test → (n : ℕ) → Passes (many n read) (list_all test) → (ts : List ℕ) (o : Option (A × List ℕ)) (r : List A × List ℕ) → read ts ≡ o → with_more ts (many n read) o ≡ Some r → list_all test r.0 ≡ true
many_step {A} read test ok n rest_ok ts None r q e = ap (λ (p : List A × List ℕ). list_all test p.0) (sym (same ([], ts) r e))
many_step {A} read test ok n rest_ok ts (Some a) r q e =
    let b = bind (many n read a.1) _ r e in
    let P : List A × List ℕ → Type 0 = λ p. list_all test p.0 ≡ true in
    subst P (same _ _ b.2) (both_true (ok ts a q) (rest_ok a.1 b.0 b.1))

many-within : {A : Type 0} (read : Reading A) (test : A → Bool) → Passes read test → (n : ℕ) → Passes (many n read) (list_all test)
many-within {A} read test ok zero ts r e = ap (λ (p : List A × List ℕ). list_all test p.0) (sym (same ([], ts) r e))
many-within {A} read test ok (suc n) ts r e = many_step read test ok n (λ us q. many-within read test ok n us q) ts (read ts) r refl e

abbrev are_registers : ℕ × ℕ → Bool
are_registers p = is_register p.0 && is_register p.1

rename-within : Passes rename_at are_registers
rename-within ts r e =
    let a = bind _ _ r e in
    let b = bind (after (codes " -> ") a.0.1) _ r a.2 in
    let d = bind _ _ r b.2 in
    let P : (ℕ × ℕ) × List ℕ → Type 0 = λ p. are_registers p.0 ≡ true in
    subst P (same _ _ d.2) (both_true (register-within ts a.0 a.1) (register-within b.0 d.0 d.1))

next_rename-within : Passes next_rename_at are_registers
next_rename-within ts r e = let a = bind (after (codes ", ") ts) rename_at r e in rename-within a.0 r a.2

renames-within : (n : ℕ) → Passes (renames_at n) (list_all are_registers)
unfolding renames_at
renames-within n ts r e =
    let P : List (ℕ × ℕ) × List ℕ → Type 0 = λ p. list_all are_registers p.0 ≡ true in
    elim (chosen {A = List (ℕ × ℕ) × List ℕ} (after (codes "}") ts) (λ us. Some ([], us)) (rename_at ts >>= λ p. many n next_rename_at p.1 >>= λ ps. after (codes "}") ps.1 >>= λ us. Some (p.0 ∷ ps.0, us)) r e) [
      | inl h ↦ subst P (same _ _ h.2) refl
      | inr e1 ↦ (let a = bind _ _ r e1 in
          let b = bind _ _ r a.2 in
          let d = bind (after (codes "}") b.0.1) _ r b.2 in
          subst P (same _ _ d.2) (both_true (rename-within ts a.0 a.1) (many-within next_rename_at are_registers next_rename-within n a.0.1 b.0 b.1)))
    ]

carry-within : Passes carry_at (is_carry 16)
carry-within ts r e =
    let a = bind _ _ r e in
    let P : CarryAt × List ℕ → Type 0 = λ p. is_carry 16 p.0 ≡ true in
    let t = table-within ts a.0 a.1 in
    elim (chosen {A = CarryAt × List ℕ} (after (codes " rows ") a.0.1) (λ us. register_at us >>= λ r. Some (carry.Rows a.0.0 r.0, r.1)) (after (codes " cells ") a.0.1 >>= λ us. register_at us >>= λ r. after (codes " ") r.1 >>= λ vs. register_at vs >>= λ q. Some (carry.Cells a.0.0 r.0 q.0, q.1)) r a.2) [
      | inl h ↦ (let b = bind _ _ r h.2 in
          subst P (same _ _ b.2) (both_true t (register-within h.0 b.0 b.1)))
      | inr e1 ↦ (let b = bind (after (codes " cells ") a.0.1) _ r e1 in
          let d = bind _ _ r b.2 in
          let g = bind (after (codes " ") d.0.1) _ r d.2 in
          let k = bind _ _ r g.2 in
          subst P (same _ _ k.2) (both_true (both_true t (register-within b.0 d.0 d.1)) (register-within g.0 k.0 k.1)))
    ]

next_carry-within : Passes next_carry_at (is_carry 16)
next_carry-within ts r e = let a = bind (after (codes ", ") ts) carry_at r e in carry-within a.0 r a.2

carries-within : (n : ℕ) → Passes (carries_at n) (list_all (is_carry 16))
unfolding carries_at
carries-within n ts r e =
    let P : List CarryAt × List ℕ → Type 0 = λ p. list_all (is_carry 16) p.0 ≡ true in
    elim (chosen {A = List CarryAt × List ℕ} (after (codes "none") ts) (λ us. Some ([], us)) (carry_at ts >>= λ c. many n next_carry_at c.1 >>= λ cs. Some (c.0 ∷ cs.0, cs.1)) r e) [
      | inl h ↦ subst P (same _ _ h.2) refl
      | inr e1 ↦ (let a = bind _ _ r e1 in
          let b = bind _ _ r a.2 in
          subst P (same _ _ b.2) (both_true (carry-within ts a.0 a.1) (many-within next_carry_at (is_carry 16) next_carry-within n a.0.1 b.0 b.1)))
    ]

-- ---- notes, where all labels are 0

abbrev no_label : List ℕ → ℕ
no_label = place_of []

jtppt-form : (n : ℕ) (us : List ℕ) (r : Note × List ℕ) → jtppt_rest no_label n us ≡ Some r → IsNoteForm 1 r.0
unfolding jtppt_rest target_rest cut_rest
jtppt-form n us r e =
    let t = bind (target_rest no_label n us) _ r e in
    let p = bind (policy_at us) _ t.0 t.1 in
    let rn = bind (renames_at n p.0.1) _ t.0 p.2 in
    let k = bind (cut_rest no_label rn.0.1) _ t.0 rn.2 in
    let c = bind (carries_at n k.0.1) _ t.0 k.2 in
    let x0 = bind (after (codes "; @") rn.0.1) _ k.0 k.1 in
    let x1 = bind (word_at x0.0) _ k.0 x0.2 in
    let x2 = bind (after (codes "; ") x1.0.1) _ k.0 x1.2 in
    let x3 = bind (kind_at x2.0) _ k.0 x2.2 in
    let cut_is : ((no_label x1.0.0, x3.0.0), x3.0.1) ≡ k.0 = same _ _ x3.2 in
    let low : k.0.0.0 ≡ 0 = ap (λ (q : (ℕ × CutKind) × List ℕ). q.0.0) (sym cut_is) in
    let N : Target × List ℕ → Type 0 = λ q. IsNoteForm 1 (note.Target q.0) in
    let M : Note × List ℕ → Type 0 = λ q. IsNoteForm 1 q.0 in
    subst M (same _ _ t.2) (subst N (same _ _ c.2) (renames-within n p.0.1 rn.0 rn.1, omega (arith, low), carries-within n k.0.1 c.0 c.1))

note-form : (n : ℕ) (ts : List ℕ) (r : Note × List ℕ) → note_rest no_label n ts ≡ Some r → IsNoteForm 1 r.0
unfolding note_rest ready_rest
note-form n ts r e =
    let M : Note × List ℕ → Type 0 = λ q. IsNoteForm 1 q.0 in
    elim (chosen {A = Note × List ℕ} (after (codes "plain") ts) (λ us. Some (note.Plain, us)) (branch (after (codes "prppt @") ts) (ready_rest no_label) (branch (after (codes "jtppt ") ts) (jtppt_rest no_label n) None)) r e) [
      | inl h ↦ subst M (same _ _ h.2) tt
      | inr e1 ↦ elim (chosen {A = Note × List ℕ} (after (codes "prppt @") ts) (ready_rest no_label) (branch (after (codes "jtppt ") ts) (jtppt_rest no_label n) None) r e1) [
        | inl h ↦ (let a = bind {A = List ℕ × List ℕ} (word_at h.0) (λ w. Some (note.Ready (no_label w.0), w.1)) r h.2 in subst M (same _ _ a.2) (omega arith))
        | inr e2 ↦ elim (chosen {A = Note × List ℕ} (after (codes "jtppt ") ts) (jtppt_rest no_label n) None r e2) [
          | inl h ↦ jtppt-form n h.0 r h.2
          | inr e3 ↦ absurd (none_some r e3)
        ]
      ]
    ]

pub header-form : (v : Version) (line name : List ℕ) (x : Note) → ended (header_rest v no_label line) ≡ Some (name, x) → IsNoteForm 1 x
unfolding header_rest
header-form v line name x read =
    let e = ended_is (header_rest v no_label line) (name, x) read in
    let a = bind (word_at line) _ ((name, x), e.0) e.1 in
    let m = bind (number_rest_of v a.0.1) _ ((name, x), e.0) a.2 in
    let b = bind (after (codes ": ") m.0.1) _ ((name, x), e.0) m.2 in
    let d = bind (note_rest no_label (length b.0) b.0) _ ((name, x), e.0) b.2 in
    let eq : ((a.0.0, d.0.0), d.0.1) ≡ ((name, x), e.0) = same _ _ d.2 in
    let is : d.0.0 ≡ x = ap (λ (p : (List ℕ × Note) × List ℕ). p.0.1) eq in
    let M : Note → Type 0 = λ y. IsNoteForm 1 y in
    subst M is (note-form (length b.0) b.0 d.0 d.1)
