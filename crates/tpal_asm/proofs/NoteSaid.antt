-- What is read of a note, of the first line of a block and of a table's line is what stands there.
use Rattle.std.proofs.Common.{◌≡◌, ℕ, zero, suc, Bool, true, false, ltb, List, [], ◌∷◌, ◌++◌}
use Rattle.std.proofs.Common.{Option, Some, None, get_or, refl, sym, ap, subst, ◌∙◌, inl, inr}
use Rattle.std.specs.Prelude.{codes}
use Rattle.std.specs.List.{flat_map, join_by}
use Rattle.std.proofs.lemmas.List.Concat.{flat_map-cons}
use Rattle.tpal_syntax.specs.declared.notes.CutKind.{CutKind}
use Rattle.tpal_syntax.specs.declared.notes.CutKind.TheVariants as cut
use Rattle.tpal_syntax.specs.declared.notes.CarryAt.{CarryAt}
use Rattle.tpal_syntax.specs.declared.notes.CarryAt.TheVariants as carry
use Rattle.tpal_syntax.specs.declared.notes.Note.{Note}
use Rattle.tpal_syntax.specs.declared.notes.Note.TheVariants as note
use Rattle.tpal_syntax.specs.declared.notes.Target.{Target}
use Rattle.tpal_syntax.specs.Text.{register_text, table_text, rename_text, carry_text, carries_text}
use Rattle.tpal_syntax.specs.Text.{policy_text, kind_text, target_text, note_text}
use Rattle.tpal_syntax.specs.Readers.{Reading, ◌>>=◌, after, branch, many, with_more, register_at}
use Rattle.tpal_syntax.specs.Readers.{word_at, rename_at, next_rename_at, renames_at, carry_at}
use Rattle.tpal_syntax.specs.Readers.{next_carry_at, carries_at, policy_at, kind_at}
use Rattle.tpal_asm.proofs.Sound.{bind, chosen, none_some, after-sound, word-sound, register-sound}
use Rattle.tpal_asm.proofs.Sound.{table-sound, join2, join3, join5, join6, Named, same}
use Rattle.tpal_asm.specs.Reading.{cut_rest, target_rest, ready_rest, jtppt_rest, note_rest}
use Rattle.tpal_asm.specs.Reading.{made_target}

-- ---- lists

abbrev Sound : {A : Type 0} → Reading A → (A → List ℕ) → Type 0
Sound {A} read text = (ts : List ℕ) (r : A × List ℕ) → read ts ≡ Some r → ts ≡ text r.0 ++ r.1

many_step : {A : Type 0} (read : Reading A) (text : A → List ℕ) → Sound read text → (n : ℕ) → Sound (many n read) (flat_map text) → (ts : List ℕ) (o : Option (A × List ℕ)) (r : List A × List ℕ) → read ts ≡ o → with_more ts (many n read) o ≡ Some r → ts ≡ flat_map text r.0 ++ r.1
many_step {A} read text sound n rest_sound ts None r q e = ap (λ (p : List A × List ℕ). flat_map text p.0 ++ p.1) (same ([], ts) r e)
many_step {A} read text sound n rest_sound ts (Some a) r q e =
    let b = bind (many n read a.1) _ r e in
    let P : List A × List ℕ → Type 0 = λ p. ts ≡ flat_map text p.0 ++ p.1 in
    subst P (same _ _ b.2) (
    sound ts a q ∙ ap (λ (x : List ℕ). text a.0 ++ x) (rest_sound a.1 b.0 b.1)
    ∙ join2 (text a.0) (flat_map text b.0.0) b.0.1 ∙ ap (λ (x : List ℕ). x ++ b.0.1) (sym (flat_map-cons text a.0 b.0.0)))

many-sound : {A : Type 0} (read : Reading A) (text : A → List ℕ) → Sound read text → (n : ℕ) (ts : List ℕ) (r : List A × List ℕ) → many n read ts ≡ Some r → ts ≡ flat_map text r.0 ++ r.1
many-sound {A} read text sound zero ts r e = ap (λ (p : List A × List ℕ). flat_map text p.0 ++ p.1) (same ([], ts) r e)
many-sound {A} read text sound (suc n) ts r e = many_step read text sound n (λ us q. many-sound read text sound n us q) ts (read ts) r refl e

rename-sound : Sound rename_at rename_text
rename-sound ts r e =
    let a = bind _ _ r e in
    let b = bind _ _ r a.2 in
    let d = bind _ _ r b.2 in
    let P : (ℕ × ℕ) × List ℕ → Type 0 = λ p. ts ≡ rename_text p.0 ++ p.1 in
    subst P (same _ _ d.2) (
    register-sound ts a.0.0 a.0.1 a.1 ∙ ap (λ (x : List ℕ). register_text a.0.0 ++ x) (after-sound (codes " -> ") a.0.1 b.0 b.1 ∙ ap (λ (x : List ℕ). codes " -> " ++ x) (register-sound b.0 d.0.0 d.0.1 d.1))
    ∙ join3 (register_text a.0.0) (codes " -> ") (register_text d.0.0) d.0.1)

next_rename-sound : Sound next_rename_at (λ p. codes ", " ++ rename_text p)
next_rename-sound ts r e =
    let a = bind (after (codes ", ") ts) rename_at r e in
    after-sound (codes ", ") ts a.0 a.1 ∙ ap (λ (x : List ℕ). codes ", " ++ x) (rename-sound a.0 r a.2)

renames-sound : (n : ℕ) (ts : List ℕ) (r : List (ℕ × ℕ) × List ℕ) → renames_at n ts ≡ Some r → ts ≡ join_by rename_text (codes ", ") r.0 ++ (125 ∷ r.1)
unfolding renames_at
renames-sound n ts r e =
    let P : List (ℕ × ℕ) × List ℕ → Type 0 = λ p. ts ≡ join_by rename_text (codes ", ") p.0 ++ (125 ∷ p.1) in
    elim (chosen {A = List (ℕ × ℕ) × List ℕ} (after (codes "}") ts) (λ us. Some ([], us)) (rename_at ts >>= λ p. many n next_rename_at p.1 >>= λ ps. after (codes "}") ps.1 >>= λ us. Some (p.0 ∷ ps.0, us)) r e) [
      | inl h ↦ subst P (same _ _ h.2) (after-sound (codes "}") ts h.0 h.1)
      | inr e1 ↦ (let a = bind _ _ r e1 in
          let b = bind _ _ r a.2 in
          let d = bind _ _ r b.2 in
          let others = many-sound next_rename_at (λ p. codes ", " ++ rename_text p) next_rename-sound n a.0.1 b.0 b.1 in
          subst P (same _ _ d.2) (
          rename-sound ts a.0 a.1
          ∙ ap (λ (x : List ℕ). rename_text a.0.0 ++ x) (others ∙ ap (λ (x : List ℕ). flat_map (λ p. codes ", " ++ rename_text p) b.0.0 ++ x) (after-sound (codes "}") b.0.1 d.0 d.1))
          ∙ join2 (rename_text a.0.0) (flat_map (λ p. codes ", " ++ rename_text p) b.0.0) (125 ∷ d.0)))
    ]

carry-sound : Sound carry_at carry_text
carry-sound ts r e =
    let a = bind _ _ r e in
    let P : CarryAt × List ℕ → Type 0 = λ p. ts ≡ carry_text p.0 ++ p.1 in
    let t = table-sound ts a.0.0 a.0.1 a.1 in
    elim (chosen {A = CarryAt × List ℕ} (after (codes " rows ") a.0.1) (λ us. register_at us >>= λ r. Some (carry.Rows a.0.0 r.0, r.1)) (after (codes " cells ") a.0.1 >>= λ us. register_at us >>= λ r. after (codes " ") r.1 >>= λ vs. register_at vs >>= λ q. Some (carry.Cells a.0.0 r.0 q.0, q.1)) r a.2) [
      | inl h ↦ (let b = bind _ _ r h.2 in
          subst P (same _ _ b.2) (
          t ∙ ap (λ (x : List ℕ). table_text a.0.0 ++ x) (after-sound (codes " rows ") a.0.1 h.0 h.1 ∙ ap (λ (x : List ℕ). codes " rows " ++ x) (register-sound h.0 b.0.0 b.0.1 b.1))
          ∙ join3 (table_text a.0.0) (codes " rows ") (register_text b.0.0) b.0.1))
      | inr e1 ↦ (let b = bind _ _ r e1 in
          let d = bind _ _ r b.2 in
          let g = bind _ _ r d.2 in
          let k = bind _ _ r g.2 in
          subst P (same _ _ k.2) (
          t ∙ ap (λ (x : List ℕ). table_text a.0.0 ++ x) (after-sound (codes " cells ") a.0.1 b.0 b.1 ∙ ap (λ (x : List ℕ). codes " cells " ++ x) (register-sound b.0 d.0.0 d.0.1 d.1
          ∙ ap (λ (x : List ℕ). register_text d.0.0 ++ x) (after-sound (codes " ") d.0.1 g.0 g.1 ∙ ap (λ (x : List ℕ). 32 ∷ x) (register-sound g.0 k.0.0 k.0.1 k.1))))
          ∙ join5 (table_text a.0.0) (codes " cells ") (register_text d.0.0) (codes " ") (register_text k.0.0) k.0.1))
    ]

next_carry-sound : Sound next_carry_at (λ c. codes ", " ++ carry_text c)
next_carry-sound ts r e =
    let a = bind (after (codes ", ") ts) carry_at r e in
    after-sound (codes ", ") ts a.0 a.1 ∙ ap (λ (x : List ℕ). codes ", " ++ x) (carry-sound a.0 r a.2)

carries-sound : (n : ℕ) → Sound (carries_at n) carries_text
unfolding carries_at
carries-sound n ts r e =
    let P : List CarryAt × List ℕ → Type 0 = λ p. ts ≡ carries_text p.0 ++ p.1 in
    elim (chosen {A = List CarryAt × List ℕ} (after (codes "none") ts) (λ us. Some ([], us)) (carry_at ts >>= λ c. many n next_carry_at c.1 >>= λ cs. Some (c.0 ∷ cs.0, cs.1)) r e) [
      | inl h ↦ subst P (same _ _ h.2) (after-sound (codes "none") ts h.0 h.1)
      | inr e1 ↦ (let a = bind _ _ r e1 in
          let b = bind _ _ r a.2 in
          let others = many-sound next_carry_at (λ c. codes ", " ++ carry_text c) next_carry-sound n a.0.1 b.0 b.1 in
          subst P (same _ _ b.2) (
          carry-sound ts a.0 a.1 ∙ ap (λ (x : List ℕ). carry_text a.0.0 ++ x) others
          ∙ join2 (carry_text a.0.0) (flat_map (λ c. codes ", " ++ carry_text c) b.0.0) b.0.1))
    ]

policy-sound : (ts : List ℕ) (r : Bool × List ℕ) → policy_at ts ≡ Some r → ts ≡ policy_text r.0 ++ (codes "; {" ++ r.1)
unfolding policy_at
policy-sound ts r e =
    let P : Bool × List ℕ → Type 0 = λ p. ts ≡ policy_text p.0 ++ (codes "; {" ++ p.1) in
    elim (chosen {A = Bool × List ℕ} (after (codes "assoc; {") ts) (λ us. Some (false, us)) (branch (after (codes "assoc-comm; {") ts) (λ us. Some (true, us)) None) r e) [
      | inl h ↦ subst P (same _ _ h.2) (after-sound (codes "assoc; {") ts h.0 h.1)
      | inr e1 ↦ elim (chosen {A = Bool × List ℕ} (after (codes "assoc-comm; {") ts) (λ us. Some (true, us)) None r e1) [
        | inl h ↦ subst P (same _ _ h.2) (after-sound (codes "assoc-comm; {") ts h.0 h.1)
        | inr e2 ↦ absurd (none_some r e2)
      ]
    ]

kind-sound : (ts : List ℕ) (r : CutKind × List ℕ) → kind_at ts ≡ Some r → ts ≡ kind_text r.0 ++ (codes "; carry " ++ r.1)
unfolding kind_at
kind-sound ts r e =
    let P : CutKind × List ℕ → Type 0 = λ p. ts ≡ kind_text p.0 ++ (codes "; carry " ++ p.1) in
    elim (chosen {A = CutKind × List ℕ} (after (codes "loop; carry ") ts) (λ us. Some (cut.Loop, us)) (branch (after (codes "call; carry ") ts) (λ us. Some (cut.Call, us)) None) r e) [
      | inl h ↦ subst P (same _ _ h.2) (after-sound (codes "loop; carry ") ts h.0 h.1)
      | inr e1 ↦ elim (chosen {A = CutKind × List ℕ} (after (codes "call; carry ") ts) (λ us. Some (cut.Call, us)) None r e1) [
        | inl h ↦ subst P (same _ _ h.2) (after-sound (codes "call; carry ") ts h.0 h.1)
        | inr e2 ↦ absurd (none_some r e2)
      ]
    ]

-- ---- notes

-- the label in a note is below this number
abbrev pub is_label_below : ℕ → Note → Bool
is_label_below blocks note.Plain = true
is_label_below blocks (note.Ready handler) = ltb handler blocks
is_label_below blocks (note.Target t) = ltb t.comb blocks

abbrev pub SaidNote : (List ℕ → ℕ) → List ℕ → Note × List ℕ → Type 0
SaidNote f ts r = Named f (λ names. note_text names r.0) (λ blocks. is_label_below blocks r.0) ts r.1

ready-said : (f : List ℕ → ℕ) (us : List ℕ) (r : Note × List ℕ) → ready_rest f us ≡ Some r → SaidNote f (codes "prppt @" ++ us) r
unfolding ready_rest
ready-said f us r e =
    let a = bind _ _ r e in
    let w = word-sound us a.0.0 a.0.1 a.1 in
    subst (SaidNote f (codes "prppt @" ++ us)) (same _ _ a.2) record {
      name = Some a.0.0;
      word = w.1;
      within = λ blocks ok. ok;
      spelled = λ names stands. ap (λ (x : List ℕ). codes "prppt @" ++ x) (w.0 ∙ ap (λ (x : List ℕ). x ++ a.0.1) (sym stands));
    }

-- the parts of a join target, one after another
module _ (f : List ℕ → ℕ) (us p0 p1 p2 p3 p4 p5 p6 : List ℕ) (comm : Bool) (renames : List (ℕ × ℕ)) (comb : List ℕ) (kind : CutKind) (carries : List CarryAt)
    (e0 : us ≡ policy_text comm ++ (codes "; {" ++ p0)) (e1 : p0 ≡ join_by rename_text (codes ", ") renames ++ (125 ∷ p1)) (e2 : p1 ≡ codes "; @" ++ p2) (e3 : p2 ≡ comb ++ p3)
    (e4 : p3 ≡ codes "; " ++ p4) (e5 : p4 ≡ kind_text kind ++ (codes "; carry " ++ p5)) (e6 : p5 ≡ carries_text carries ++ p6) where
  pub target_joined : (names : List (List ℕ)) → get_or names (f comb) [] ≡ comb → codes "jtppt " ++ us ≡ target_text names (made_target comm renames (f comb, kind) carries) ++ p6
  target_joined names stands =
      let list = join_by rename_text (codes ", ") renames in
      let name = get_or names (f comb) [] in
      let back : p3 ≡ codes "; " ++ (kind_text kind ++ (codes "; carry " ++ (carries_text carries ++ p6))) = e4 ∙ ap (λ (x : List ℕ). codes "; " ++ x) (e5 ∙ ap (λ (x : List ℕ). kind_text kind ++ (codes "; carry " ++ x)) e6) in
      let mid : p1 ≡ codes "; @" ++ (name ++ p3) = e2 ∙ ap (λ (x : List ℕ). codes "; @" ++ x) (e3 ∙ ap (λ (x : List ℕ). x ++ p3) (sym stands)) in
      let tail : List ℕ = name ++ (codes "; " ++ (kind_text kind ++ (codes "; carry " ++ carries_text carries))) in
      ap (λ (x : List ℕ). codes "jtppt " ++ x) (e0 ∙ ap (λ (x : List ℕ). policy_text comm ++ (codes "; {" ++ x)) (e1 ∙ ap (λ (x : List ℕ). list ++ (125 ∷ x)) (mid ∙ ap (λ (x : List ℕ). codes "; @" ++ (name ++ x)) back)))
      ∙ ap (λ (x : List ℕ). codes "jtppt " ++ (policy_text comm ++ (codes "; {" ++ (list ++ (codes "}; @" ++ x))))) (join5 name (codes "; ") (kind_text kind) (codes "; carry ") (carries_text carries) p6)
      ∙ join6 (codes "jtppt ") (policy_text comm) (codes "; {") list (codes "}; @") tail p6

jtppt-said : (f : List ℕ → ℕ) (n : ℕ) (us : List ℕ) (r : Note × List ℕ) → jtppt_rest f n us ≡ Some r → SaidNote f (codes "jtppt " ++ us) r
unfolding jtppt_rest target_rest cut_rest
jtppt-said f n us r e =
    let t = bind _ _ r e in
    let p = bind _ _ t.0 t.1 in
    let rn = bind _ _ t.0 p.2 in
    let k = bind _ _ t.0 rn.2 in
    let c = bind _ _ t.0 k.2 in
    let x0 = bind _ _ k.0 k.1 in
    let x1 = bind _ _ k.0 x0.2 in
    let x2 = bind _ _ k.0 x1.2 in
    let x3 = bind _ _ k.0 x2.2 in
    let w = word-sound x0.0 x1.0.0 x1.0.1 x1.1 in
    let cut_is = same _ _ x3.2 in
    let Q : (ℕ × CutKind) × List ℕ → Type 0 = λ q. carries_at n q.1 ≡ Some c.0 in
    let c_at : carries_at n x3.0.1 ≡ Some c.0 = subst Q (sym cut_is) c.1 in
    let target_is : (made_target p.0.0 rn.0.0 (f x1.0.0, x3.0.0) c.0.0, c.0.1) ≡ t.0 = ap (λ (q : (ℕ × CutKind) × List ℕ). (made_target p.0.0 rn.0.0 q.0 c.0.0, c.0.1)) cut_is ∙ same _ _ c.2 in
    let N : Target × List ℕ → Type 0 = λ q. SaidNote f (codes "jtppt " ++ us) (note.Target q.0, q.1) in
    subst (SaidNote f (codes "jtppt " ++ us)) (same _ _ t.2) (subst N target_is record {
      name = Some x1.0.0;
      word = w.1;
      within = λ blocks ok. ok;
      spelled = target_joined f us p.0.1 rn.0.1 x0.0 x1.0.1 x2.0 x3.0.1 c.0.1 p.0.0 rn.0.0 x1.0.0 x3.0.0 c.0.0
          (policy-sound us p.0 p.1) (renames-sound n p.0.1 rn.0 rn.1) (after-sound (codes "; @") rn.0.1 x0.0 x0.1) w.0
          (after-sound (codes "; ") x1.0.1 x2.0 x2.1) (kind-sound x2.0 x3.0 x3.1) (carries-sound n x3.0.1 c.0 c_at);
    })

-- a note that is read is spelled there
pub note-said : (f : List ℕ → ℕ) (n : ℕ) (ts : List ℕ) (r : Note × List ℕ) → note_rest f n ts ≡ Some r → SaidNote f ts r
unfolding note_rest
note-said f n ts r e =
    let P : List ℕ → Type 0 = λ x. SaidNote f x r in
    elim (chosen {A = Note × List ℕ} (after (codes "plain") ts) (λ us. Some (note.Plain, us)) (branch (after (codes "prppt @") ts) (ready_rest f) (branch (after (codes "jtppt ") ts) (jtppt_rest f n) None)) r e) [
      | inl h ↦ subst (SaidNote f ts) (same _ _ h.2) record { name = None; word = tt; within = λ blocks ok. tt; spelled = λ names stands. after-sound (codes "plain") ts h.0 h.1 }
      | inr e1 ↦ elim (chosen {A = Note × List ℕ} (after (codes "prppt @") ts) (ready_rest f) (branch (after (codes "jtppt ") ts) (jtppt_rest f n) None) r e1) [
        | inl h ↦ subst P (sym (after-sound (codes "prppt @") ts h.0 h.1)) (ready-said f h.0 r h.2)
        | inr e2 ↦ elim (chosen {A = Note × List ℕ} (after (codes "jtppt ") ts) (jtppt_rest f n) None r e2) [
          | inl h ↦ subst P (sym (after-sound (codes "jtppt ") ts h.0 h.1)) (jtppt-said f n h.0 r h.2)
          | inr e3 ↦ absurd (none_some r e3)
        ]
      ]
    ]

ready_no : (h : ℕ) → note.Plain ≡ note.Ready h → ⊥
ready_no h e = cc

target_no : (t : Target) (h : ℕ) → note.Target t ≡ note.Ready h → ⊥
target_no t h e = cc

ready_same : (a b : ℕ) → note.Ready a ≡ note.Ready b → a ≡ b
ready_same a b e = cc

-- the handler that is read is the label of a name
pub handler-said : (f : List ℕ → ℕ) (n : ℕ) (ts : List ℕ) (h : ℕ) (r : List ℕ) → note_rest f n ts ≡ Some (note.Ready h, r) → (m : List ℕ) × (f m ≡ h)
unfolding note_rest ready_rest jtppt_rest
handler-said f n ts h r e =
    let y : Note × List ℕ = (note.Ready h, r) in
    elim (chosen {A = Note × List ℕ} (after (codes "plain") ts) (λ us. Some (note.Plain, us)) (branch (after (codes "prppt @") ts) (ready_rest f) (branch (after (codes "jtppt ") ts) (jtppt_rest f n) None)) y e) [
      | inl g ↦ absurd (ready_no h (ap (λ (p : Note × List ℕ). p.0) (same (note.Plain, g.0) y g.2)))
      | inr e1 ↦ elim (chosen {A = Note × List ℕ} (after (codes "prppt @") ts) (ready_rest f) (branch (after (codes "jtppt ") ts) (jtppt_rest f n) None) y e1) [
        | inl g ↦ (let a = bind {A = List ℕ × List ℕ} (word_at g.0) (λ w. Some (note.Ready (f w.0), w.1)) y g.2 in (a.0.0, ready_same (f a.0.0) h (ap (λ (p : Note × List ℕ). p.0) (same (note.Ready (f a.0.0), a.0.1) y a.2))))
        | inr e2 ↦ elim (chosen {A = Note × List ℕ} (after (codes "jtppt ") ts) (jtppt_rest f n) None y e2) [
          | inl g ↦ (let a = bind {A = Target × List ℕ} (target_rest f n g.0) (λ t. Some (note.Target t.0, t.1)) y g.2 in absurd (target_no a.0.0 h (ap (λ (p : Note × List ℕ). p.0) (same (note.Target a.0.0, a.0.1) y a.2))))
          | inr e3 ↦ absurd (none_some y e3)
        ]
      ]
    ]
