-- What a line of a block that has begun says, and what is wrong with it.
use Rattle.std.proofs.Common.{◌≡◌, ℕ, zero, suc, ◌&&◌, ◌≤◌, ◌<◌, Bool, true, false, cond, eqb, ltb}
use Rattle.std.proofs.Common.{List, [], ◌∷◌, ◌++◌, length, Option, Some, None, get_or, refl, sym}
use Rattle.std.proofs.Common.{ap, subst, ◌∙◌, inl, inr, arith}
use Rattle.std.specs.Prelude.{codes}
use Rattle.std.specs.List.{list_all}
use Rattle.std.proofs.lemmas.Bool.{ltb-true, eqb-true, false≢true}
use Rattle.tpal_syntax.specs.declared.instructions.Instr.{Instr}
use Rattle.tpal_syntax.specs.declared.instructions.Term.{Term}
use Rattle.tpal_syntax.specs.declared.notes.Note.{Note}
use Rattle.tpal_syntax.specs.declared.blocks.Block.{Block}
use Rattle.tpal_syntax.specs.declared.blocks.CodeTable.{CodeTable}
use Rattle.tpal_syntax.specs.Parts.{is_word, is_instr, is_term}
use Rattle.tpal_syntax.specs.declared.versions.Version.{Version}
use Rattle.tpal_syntax.specs.Text.{instr_text, term_text, stands_in}
use Rattle.tpal_print.proofs.Reading.{relabel, relabel_term}
use Rattle.tpal_print.proofs.Lines.{instr_comes, term_is_no_instr}
use Rattle.tpal_asm.specs.Reading.{ended, instr_rest, term_rest}
use Rattle.tpal_asm.specs.Labels.{Head, names_of}
use Rattle.tpal_asm.specs.Drafts.{Draft, Outside, Inside, Says, an_instr, an_end}
use Rattle.tpal_asm.specs.Faults.{IsFormed, IsLabelled}
use Rattle.tpal_asm.proofs.Sound.{OnName, Stands}
use Rattle.tpal_asm.proofs.Said.{SaidInstr, SaidTerm, instr-said, term-said, term-stands}
use Rattle.tpal_asm.proofs.Inside.{instr-same, term-comes, end_is, instr_again, term_again}
use Rattle.tpal_asm.proofs.Inside.{words-all, inside_says}

-- Each name's label is below `most`. Where it is below the number of names it is the name's own, and each of the names has one.
pub record Finds (f : List ℕ → ℕ) (names : List (List ℕ)) (most : ℕ) : Type 0 where
  pub words : list_all is_word names ≡ true
  pub low : (n : List ℕ) → ltb (f n) most ≡ true
  pub right : (n : List ℕ) → ltb (f n) (length names) ≡ true → get_or names (f n) [] ≡ n
  pub known : (l : ℕ) → ltb l (length names) ≡ true → ltb (f (get_or names l [])) (length names) ≡ true

ended_case : {A : Type 0} (b : Bool) (x a : A) → cond b (Some x) None ≡ Some a → (b ≡ true) × (x ≡ a)
ended_case true x a e = (refl, cc)
ended_case false x a e = absurd cc

-- what was read where a line ends
pub ended_is : {A : Type 0} (o : Option (A × List ℕ)) (a : A) → ended o ≡ Some a → (r : List ℕ) × (o ≡ Some (a, r)) × (length r ≡ 1)
ended_is None a e = absurd cc
ended_is (Some read) a e =
    let h = ended_case (eqb (length read.1) 1) read.0 a e in
    (read.1, ap (λ y. Some (y, read.1)) h.1, eqb-true (length read.1) 1 h.0)

pub stands_by : (f : List ℕ → ℕ) (names : List (List ℕ)) (most : ℕ) (name : Option (List ℕ)) → Finds f names most → OnName (λ n. ltb (f n) (length names) ≡ true) name → Stands f names name
stands_by f names most None finds below = tt
stands_by f names most (Some n) finds below = finds.right n below

-- ---- names enough

-- so many names, all the same
copies : ℕ → List ℕ → List (List ℕ)
copies zero n = []
copies (suc m) n = n ∷ copies m n

length-copies : (m : ℕ) (n : List ℕ) → length (copies m n) ≡ m
unfolding copies
length-copies zero n = refl
length-copies (suc m) n = ap suc (length-copies m n)

get-copies : (m j : ℕ) (n : List ℕ) → j < m → get_or (copies m n) j [] ≡ n
unfolding copies
get-copies zero j n lt = absurd (omega arith)
get-copies (suc m) zero n lt = refl
get-copies (suc m) (suc j) n lt = get-copies m j n (omega arith)

words-copies : (m : ℕ) (n : List ℕ) → is_word n ≡ true → list_all is_word (copies m n) ≡ true
unfolding copies
words-copies zero n word = refl
words-copies (suc m) n word = ap (λ (b : Bool). b && list_all is_word (copies m n)) word ∙ words-copies m n word

-- names under which a name that was read stands at its label
pub record Under (f : List ℕ → ℕ) (most : ℕ) (name : Option (List ℕ)) : Type 0 where
  pub names : List (List ℕ)
  pub words : list_all is_word names ≡ true
  pub many : length names ≡ most
  pub stands : Stands f names name

pub under : (f : List ℕ → ℕ) (names : List (List ℕ)) (most : ℕ) (name : Option (List ℕ)) → Finds f names most → OnName (λ n. is_word n ≡ true) name → Under f most name
under f names most None finds word = record { names = copies most (codes "a"); words = words-copies most (codes "a") refl; many = length-copies most (codes "a"); stands = tt }
under f names most (Some n) finds word =
    record { names = copies most n; words = words-copies most n word; many = length-copies most n; stands = get-copies most (f n) n (ltb-true (f n) most (finds.low n)) }

-- ---- a line that begins with two spaces

module _ (v : Version) (heads : List Head) (tables : List CodeTable) (blocks : List Block) (name : List ℕ) (x : Note) (body : List Instr) (f : List ℕ → ℕ) (most : ℕ)
    (finds : Finds f (names_of heads) most) (few : length tables ≤ 16) (us bytes : List ℕ) (line : bytes ++ (10 ∷ []) ≡ 32 ∷ 32 ∷ us) where
  -- what stands behind the spaces
  behind_spaces : (text : List ℕ) → bytes ≡ codes "  " ++ text → us ≡ text ++ (10 ∷ [])
  behind_spaces text e = two us (text ++ (10 ∷ [])) (sym line ∙ ap (λ (y : List ℕ). y ++ (10 ∷ [])) e)
    where
      two : (a b : List ℕ) → 32 ∷ 32 ∷ a ≡ 32 ∷ 32 ∷ b → a ≡ b
      two a b e = cc

  -- an instruction that stands there is read
  reads_instr : (names : List (List ℕ)) (i : Instr) → list_all is_word names ≡ true → is_instr (length tables) (length names) i ≡ true → bytes ≡ codes "  " ++ instr_text names i
      → ended (instr_rest f us) ≡ Some (relabel (λ l. f (get_or names l [])) i)
  reads_instr names i words ok e =
      ap (λ (y : List ℕ). ended (instr_rest f y)) (behind_spaces (instr_text names i) e)
      ∙ ap ended (instr-same f (instr_text names i ++ (10 ∷ [])) ∙ instr_comes f names (length tables) (length names) i [] (words-all names words) few ok)

  reads_term : (names : List (List ℕ)) (t : Term) → list_all is_word names ≡ true → is_term (length names) t ≡ true → stands_in v t ≡ true → bytes ≡ codes "  " ++ term_text names t
      → ended (term_rest v f us) ≡ Some (relabel_term (λ l. f (get_or names l [])) t)
  reads_term names t words ok stands e =
      ap (λ (y : List ℕ). ended (term_rest v f y)) (behind_spaces (term_text names t) e)
      ∙ ap ended (term-comes v f names (length names) t [] (words-all names words) ok stands)

  -- an end that stands there is read as no instruction
  reads_no_instr : (names : List (List ℕ)) (t : Term) → bytes ≡ codes "  " ++ term_text names t → ended (instr_rest f us) ≡ None
  reads_no_instr names t e =
      ap (λ (y : List ℕ). ended (instr_rest f y)) (behind_spaces (term_text names t) e)
      ∙ ap ended (instr-same f (term_text names t ++ (10 ∷ [])) ∙ term_is_no_instr f names t (10 ∷ []))

  pub neither : ended (instr_rest f us) ≡ None → ended (term_rest v f us) ≡ None → ¬ IsFormed v heads (Inside tables blocks name x body) bytes
  neither no_instr no_term formed = elim (inside_says formed.says) [
    | inl h ↦ clash (sym no_instr ∙ reads_instr formed.names h.0 formed.words h.1 h.2)
    | inr h ↦ clash (sym no_term ∙ reads_term formed.names h.0 formed.words h.1 h.4 h.2)
  ]
    where
      clash : {A : Type 0} {a : A} → None ≡ Some a → ⊥
      clash e = cc

  -- ---- an instruction

  module _ (i : Instr) (read : ended (instr_rest f us) ≡ Some i) where
    end_of : (r : List ℕ) × (instr_rest f us ≡ Some (i, r)) × (length r ≡ 1)
    end_of = ended_is (instr_rest f us) i read

    said : SaidInstr (length tables) f us (i, end_of.0)
    said = instr-said (length tables) f us (i, end_of.0) end_of.1

    spelled_under : (names : List (List ℕ)) → Stands f names said.name → bytes ≡ codes "  " ++ instr_text names i
    spelled_under names stands = end_is bytes (codes "  " ++ instr_text names i) end_of.0 (line ∙ ap (λ (y : List ℕ). 32 ∷ 32 ∷ y) (said.spelled names stands)) end_of.2

    pub instr_right : is_instr (length tables) (length (names_of heads)) i ≡ true → bytes ≡ codes "  " ++ instr_text (names_of heads) i
    instr_right ok = spelled_under (names_of heads) (stands_by f (names_of heads) most said.name finds (said.within (length (names_of heads)) ok))

    pub instr_formed : is_instr (length tables) most i ≡ true → IsFormed v heads (Inside tables blocks name x body) bytes
    instr_formed ok =
        let u = under f (names_of heads) most said.name finds said.word in
        let P : List ℕ → Type 0 = λ y. Says v heads u.names (Inside tables blocks name x body) y (Inside tables blocks name x (body ++ i ∷ [])) in
        record {
          names = u.names;
          next = Inside tables blocks name x (body ++ i ∷ []);
          words = u.words;
          says = subst P (sym (spelled_under u.names u.stands)) (an_instr tables blocks name x body i (ap (λ (m : ℕ). is_instr (length tables) m i) u.many ∙ ok));
        }

    same_instr : (j : Instr) → ended (instr_rest f us) ≡ Some j → j ≡ i
    same_instr j e = one j i (sym e ∙ read)
      where
        one : (a b : Instr) → Some a ≡ Some b → a ≡ b
        one a b e = cc

    pub instr_unformed : is_instr (length tables) most i ≡ false → ¬ IsFormed v heads (Inside tables blocks name x body) bytes
    instr_unformed bad formed = elim (inside_says formed.says) [
      | inl h ↦
          (let ok = instr_again (λ l. f (get_or formed.names l [])) (length tables) (length formed.names) most (λ l lt. finds.low (get_or formed.names l [])) h.0 h.1 in
          let is = same_instr (relabel (λ l. f (get_or formed.names l [])) h.0) (reads_instr formed.names h.0 formed.words h.1 h.2) in
          false≢true (sym bad ∙ ap (is_instr (length tables) most) (sym is) ∙ ok))
      | inr h ↦ clash (sym (reads_no_instr formed.names h.0 h.2) ∙ read)
    ]
      where
        clash : None ≡ Some i → ⊥
        clash e = cc

    pub instr_unlabelled : is_instr (length tables) (length (names_of heads)) i ≡ false → ¬ IsLabelled v heads (Inside tables blocks name x body) bytes
    instr_unlabelled bad labelled = elim (inside_says labelled.says) [
      | inl h ↦
          (let ok = instr_again (λ l. f (get_or (names_of heads) l [])) (length tables) (length (names_of heads)) (length (names_of heads)) finds.known h.0 h.1 in
          let is = same_instr (relabel (λ l. f (get_or (names_of heads) l [])) h.0) (reads_instr (names_of heads) h.0 finds.words h.1 h.2) in
          false≢true (sym bad ∙ ap (is_instr (length tables) (length (names_of heads))) (sym is) ∙ ok))
      | inr h ↦ clash (sym (reads_no_instr (names_of heads) h.0 h.2) ∙ read)
    ]
      where
        clash : None ≡ Some i → ⊥
        clash e = cc

  -- ---- an end

  module _ (t : Term) (no_instr : ended (instr_rest f us) ≡ None) (read : ended (term_rest v f us) ≡ Some t) where
    term_end : (r : List ℕ) × (term_rest v f us ≡ Some (t, r)) × (length r ≡ 1)
    term_end = ended_is (term_rest v f us) t read

    term_is : SaidTerm f us (t, term_end.0)
    term_is = term-said v f us (t, term_end.0) term_end.1

    pub term_stands : stands_in v t ≡ true
    term_stands = term-stands v f us (t, term_end.0) term_end.1

    term_under : (names : List (List ℕ)) → Stands f names term_is.name → bytes ≡ codes "  " ++ term_text names t
    term_under names stands = end_is bytes (codes "  " ++ term_text names t) term_end.0 (line ∙ ap (λ (y : List ℕ). 32 ∷ 32 ∷ y) (term_is.spelled names stands)) term_end.2

    pub term_right : is_term (length (names_of heads)) t ≡ true → bytes ≡ codes "  " ++ term_text (names_of heads) t
    term_right ok = term_under (names_of heads) (stands_by f (names_of heads) most term_is.name finds (term_is.within (length (names_of heads)) ok))

    pub term_formed : is_term most t ≡ true → IsFormed v heads (Inside tables blocks name x body) bytes
    term_formed ok =
        let u = under f (names_of heads) most term_is.name finds term_is.word in
        let next : Draft = Outside tables (blocks ++ record { name = name; note = x; body = body; term = t } ∷ []) in
        let P : List ℕ → Type 0 = λ y. Says v heads u.names (Inside tables blocks name x body) y next in
        record {
          names = u.names;
          next = next;
          words = u.words;
          says = subst P (sym (term_under u.names u.stands)) (an_end tables blocks name x body t (ap (λ (m : ℕ). is_term m t) u.many ∙ ok) term_stands);
        }

    same_term : (j : Term) → ended (term_rest v f us) ≡ Some j → j ≡ t
    same_term j e = one j t (sym e ∙ read)
      where
        one : (a b : Term) → Some a ≡ Some b → a ≡ b
        one a b e = cc

    no_instruction : (i : Instr) → ended (instr_rest f us) ≡ Some i → ⊥
    no_instruction i e = clash (sym no_instr ∙ e)
      where
        clash : None ≡ Some i → ⊥
        clash e = cc

    pub term_unformed : is_term most t ≡ false → ¬ IsFormed v heads (Inside tables blocks name x body) bytes
    term_unformed bad formed = elim (inside_says formed.says) [
      | inl h ↦ no_instruction _ (reads_instr formed.names h.0 formed.words h.1 h.2)
      | inr h ↦
          (let ok = term_again (λ l. f (get_or formed.names l [])) (length formed.names) most (λ l lt. finds.low (get_or formed.names l [])) h.0 h.1 in
          let is = same_term (relabel_term (λ l. f (get_or formed.names l [])) h.0) (reads_term formed.names h.0 formed.words h.1 h.4 h.2) in
          false≢true (sym bad ∙ ap (is_term most) (sym is) ∙ ok))
    ]

    pub term_unlabelled : is_term (length (names_of heads)) t ≡ false → ¬ IsLabelled v heads (Inside tables blocks name x body) bytes
    term_unlabelled bad labelled = elim (inside_says labelled.says) [
      | inl h ↦ no_instruction _ (reads_instr (names_of heads) h.0 finds.words h.1 h.2)
      | inr h ↦
          (let ok = term_again (λ l. f (get_or (names_of heads) l [])) (length (names_of heads)) (length (names_of heads)) finds.known h.0 h.1 in
          let is = same_term (relabel_term (λ l. f (get_or (names_of heads) l [])) h.0) (reads_term (names_of heads) h.0 finds.words h.1 h.4 h.2) in
          false≢true (sym bad ∙ ap (is_term (length (names_of heads))) (sym is) ∙ ok))
    ]
