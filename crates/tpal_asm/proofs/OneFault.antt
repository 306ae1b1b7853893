-- A text has at most one first fault.
use Rattle.std.proofs.Common.{◌≡◌, ◌⊎◌, ℕ, ◌+◌, Bool, true, ◌&&◌, List, [], ◌∷◌, ◌++◌, length, refl}
use Rattle.std.proofs.Common.{sym, ap, subst, ◌∙◌, inl, inr, arith}
use Rattle.std.specs.List.{list_all}
use Rattle.std.proofs.lemmas.List.{map-append}
use Rattle.std.proofs.lemmas.List.Folds.{list_all-append}
use Rattle.tpal_syntax.specs.declared.versions.Version.{Version}
use Rattle.tpal_syntax.specs.Parts.{is_word}
use Rattle.tpal_syntax.specs.Conditions.{AreDistinct}
use Rattle.tpal_asm.specs.declared.fault.AsmFault.{AsmFault}
use Rattle.tpal_asm.specs.declared.fault.AsmFault.TheVariants as faults
use Rattle.tpal_asm.specs.declared.fault.Wrong.{Wrong}
use Rattle.tpal_asm.specs.declared.fault.Wrong.TheVariants as wrongs
use Rattle.tpal_asm.specs.Labels.{Head, names_of}
use Rattle.tpal_asm.specs.Drafts.{AreHeads, no_line, new_head, known_head, no_head, Draft, Says}
use Rattle.tpal_asm.specs.Drafts.{Leads, stay, go_on, IsNewName, IsWithin, first_draft}
use Rattle.tpal_syntax.specs.Readers.{parted}
use Rattle.tpal_asm.specs.Lines.{lines_before}
use Rattle.tpal_asm.specs.Faults.{IsFormed, IsLabelled, IsWrong, FirstFaultIn, FirstFault, at_line}
use Rattle.tpal_asm.specs.Faults.{at_end, fault_at}
use Rattle.tpal_asm.proofs.Sofar.{distinct-snoc}
use Rattle.tpal_asm.proofs.Certain.{says-once}
use Rattle.tpal_asm.proofs.Heads.{heads-are}
use Rattle.tpal_asm.proofs.Loops.{same-front, head_same, tail_same}

-- ---- names of blocks are words, and distinct

names_snoc : (hs : List Head) (head : Head) → names_of (hs ++ head ∷ []) ≡ names_of hs ++ head.0 ∷ []
names_snoc hs head = map-append (λ (h : Head). h.0) hs (head ∷ [])

pub heads-words : {v : Version} {hs : List Head} {lines : List (List ℕ)} {last : List Head} → AreHeads v hs lines last → list_all is_word (names_of hs) ≡ true → list_all is_word (names_of last) ≡ true
heads-words (no_line heads) words = words
heads-words (new_head heads last head bytes lines is new rest) words =
    heads-words rest (
    ap (list_all is_word) (names_snoc heads head) ∙ list_all-append is_word (names_of heads) (head.0 ∷ [])
    ∙ ap (λ (b : Bool). b && (is_word head.0 && true)) words ∙ ap (λ (b : Bool). b && true) is.word)
heads-words (known_head heads last head bytes lines is known rest) words = heads-words rest words
heads-words (no_head heads last bytes lines never rest) words = heads-words rest words

pub heads-distinct : {v : Version} {hs : List Head} {lines : List (List ℕ)} {last : List Head} → AreHeads v hs lines last → AreDistinct (names_of hs) → AreDistinct (names_of last)
heads-distinct (no_line heads) distinct = distinct
heads-distinct (new_head heads last head bytes lines is new rest) distinct = heads-distinct rest (subst AreDistinct (sym (names_snoc heads head)) (distinct-snoc (names_of heads) head.0 distinct new))
heads-distinct (known_head heads last head bytes lines is known rest) distinct = heads-distinct rest distinct
heads-distinct (no_head heads last bytes lines never rest) distinct = heads-distinct rest distinct

no_names : AreDistinct []
no_names i j d lt inside e = absurd (omega arith)

-- ---- wrong and right

-- the next draft of a line that is right
pub record Next (v : Version) (hs : List Head) (draft : Draft) (bytes : List ℕ) : Type 0 where
  pub next : Draft
  pub says : Says v hs (names_of hs) draft bytes next
  pub new : IsNewName next
  pub within : IsWithin next

pub not_wrong : (v : Version) (hs : List Head) (draft : Draft) (bytes : List ℕ) (w : Wrong) → list_all is_word (names_of hs) ≡ true → Next v hs draft bytes → IsWrong v hs draft bytes w → ⊥
not_wrong v hs draft bytes wrongs.Form words n bad = bad record { names = names_of hs; next = n.next; words = words; says = n.says }
not_wrong v hs draft bytes wrongs.Label words n bad = bad.1 record { next = n.next; says = n.says; new = n.new }
not_wrong v hs draft bytes wrongs.Limit words n bad = bad.1 record { next = n.next; says = n.says; new = n.new; within = n.within }
not_wrong v hs draft bytes wrongs.NoMemory words n bad = bad

formed_of : (v : Version) (hs : List Head) (draft : Draft) (bytes : List ℕ) → list_all is_word (names_of hs) ≡ true → IsLabelled v hs draft bytes → IsFormed v hs draft bytes
formed_of v hs draft bytes words l = record { names = names_of hs; next = l.next; words = words; says = l.says }

one_wrong : (v : Version) (hs : List Head) (draft : Draft) (bytes : List ℕ) (u w : Wrong) → list_all is_word (names_of hs) ≡ true → IsWrong v hs draft bytes u → IsWrong v hs draft bytes w → u ≡ w
one_wrong v hs draft bytes wrongs.Form wrongs.Form words a b = refl
one_wrong v hs draft bytes wrongs.Form wrongs.Label words a b = absurd (a b.0)
one_wrong v hs draft bytes wrongs.Form wrongs.Limit words a b = absurd (a (formed_of v hs draft bytes words b.0))
one_wrong v hs draft bytes wrongs.Form wrongs.NoMemory words a b = absurd b
one_wrong v hs draft bytes wrongs.Label wrongs.Form words a b = absurd (b a.0)
one_wrong v hs draft bytes wrongs.Label wrongs.Label words a b = refl
one_wrong v hs draft bytes wrongs.Label wrongs.Limit words a b = absurd (a.1 b.0)
one_wrong v hs draft bytes wrongs.Label wrongs.NoMemory words a b = absurd b
one_wrong v hs draft bytes wrongs.Limit wrongs.Form words a b = absurd (b (formed_of v hs draft bytes words a.0))
one_wrong v hs draft bytes wrongs.Limit wrongs.Label words a b = absurd (b.1 a.0)
one_wrong v hs draft bytes wrongs.Limit wrongs.Limit words a b = refl
one_wrong v hs draft bytes wrongs.Limit wrongs.NoMemory words a b = absurd b
one_wrong v hs draft bytes wrongs.NoMemory w words a b = absurd a

-- ---- lines that lead on

module _ (v : Version) (hs : List Head) (distinct : AreDistinct (names_of hs)) (words : list_all is_word (names_of hs) ≡ true) where
  first_next : {s a : Draft} {bytes : List ℕ} {lines : List (List ℕ)} → Leads v hs s (bytes ∷ lines) a → (n : Next v hs s bytes) × Leads v hs n.next lines a
  first_next (go_on draft next last bytes lines says new within rest) = (record { next = next; says = says; new = new; within = within }, rest)

  none_next : {s a : Draft} → Leads v hs s [] a → s ≡ a
  none_next (stay draft) = refl

  pub leads-once : (lines : List (List ℕ)) (s a b : Draft) → IsWithin s → Leads v hs s lines a → Leads v hs s lines b → a ≡ b
  leads-once [] s a b within one two = sym (none_next one) ∙ none_next two
  leads-once (bytes ∷ lines) s a b within one two =
      let m = first_next one in
      let n = first_next two in
      let same = says-once v hs distinct words s bytes n.0.next m.0.next within n.0.says m.0.says in
      let P : Draft → Type 0 = λ t. Leads v hs t lines b in
      leads-once lines m.0.next a b m.0.within m.1 (subst P same n.1)

  -- behind the same lines the next line is right too
  pub leads-next : (before : List (List ℕ)) (bytes : List ℕ) (behind : List (List ℕ)) (s a u : Draft) → IsWithin s → Leads v hs s (before ++ bytes ∷ behind) a → Leads v hs s before u → Next v hs u bytes
  leads-next [] bytes behind s a u within one two =
      let P : Draft → Type 0 = λ t. Next v hs t bytes in
      subst P (none_next two) (first_next one).0
  leads-next (x ∷ before) bytes behind s a u within one two =
      let m = first_next one in
      let n = first_next two in
      let same = says-once v hs distinct words s x n.0.next m.0.next within n.0.says m.0.says in
      let P : Draft → Type 0 = λ t. Leads v hs t before u in
      leads-next before bytes behind m.0.next a u m.0.within m.1 (subst P same n.1)

-- ---- two ways to cut lines

-- the first cut is the second, or before it, or behind it
cuts : (xs : List (List ℕ)) (x : List ℕ) (xs' ys : List (List ℕ)) (y : List ℕ) (ys' : List (List ℕ)) → xs ++ x ∷ xs' ≡ ys ++ y ∷ ys'
    → ((xs ≡ ys) × (x ≡ y)) ⊎ (((more : List (List ℕ)) × (ys ≡ xs ++ x ∷ more)) ⊎ ((more : List (List ℕ)) × (xs ≡ ys ++ y ∷ more)))
cuts [] x xs' [] y ys' e = inl (refl, head_same x y xs' ys' e)
cuts [] x xs' (z ∷ ys) y ys' e = inr (inl (ys, ap (λ (w : List ℕ). w ∷ ys) (sym (head_same x z xs' (ys ++ y ∷ ys') e))))
cuts (z ∷ xs) x xs' [] y ys' e = inr (inr (xs, ap (λ (w : List ℕ). w ∷ xs) (head_same z y (xs ++ x ∷ xs') ys' e)))
cuts (z ∷ xs) x xs' (w ∷ ys) y ys' e =
    let first = head_same z w (xs ++ x ∷ xs') (ys ++ y ∷ ys') e in
    elim (cuts xs x xs' ys y ys' (tail_same z w (xs ++ x ∷ xs') (ys ++ y ∷ ys') e)) [
      | inl h ↦ inl (ap (λ (v : List ℕ). v ∷ xs) first ∙ ap (λ (vs : List (List ℕ)). w ∷ vs) h.0, h.1)
      | inr h ↦ elim h [
        | inl k ↦ inr (inl (k.0, ap (λ (v : List ℕ). v ∷ ys) (sym first) ∙ ap (λ (vs : List (List ℕ)). z ∷ vs) k.1))
        | inr k ↦ inr (inr (k.0, ap (λ (v : List ℕ). v ∷ xs) first ∙ ap (λ (vs : List (List ℕ)). w ∷ vs) k.1))
      ]
    ]

-- ---- faults

pub start_within : IsWithin first_draft
start_within = (omega arith, omega arith)

module _ (v : Version) (text : List ℕ) (hs : List Head) (distinct : AreDistinct (names_of hs)) (words : list_all is_word (names_of hs) ≡ true) where
  -- a line at which a fault stands isn't right
  pub fault_next : (before behind : List (List ℕ)) (bytes : List ℕ) (u a : Draft) (w : Wrong) → Leads v hs first_draft before u → IsWrong v hs u bytes w → Leads v hs first_draft (before ++ bytes ∷ behind) a → ⊥
  fault_next before behind bytes u a w leads bad all = not_wrong v hs u bytes w words (leads-next v hs distinct words before bytes behind first_draft a u start_within all leads) bad

  lines_faults : (b1 h1 : List (List ℕ)) (x1 : List ℕ) (s1 : Draft) (w1 : Wrong) (b2 h2 : List (List ℕ)) (x2 : List ℕ) (s2 : Draft) (w2 : Wrong) → b1 ++ x1 ∷ h1 ≡ b2 ++ x2 ∷ h2
      → Leads v hs first_draft b1 s1 → IsWrong v hs s1 x1 w1 → Leads v hs first_draft b2 s2 → IsWrong v hs s2 x2 w2 → fault_at w1 (lines_before v + length b1 + 1) ≡ fault_at w2 (lines_before v + length b2 + 1)
  lines_faults b1 h1 x1 s1 w1 b2 h2 x2 s2 w2 e l1 bad1 l2 bad2 = elim (cuts b1 x1 h1 b2 x2 h2 e) [
    | inl k ↦
        let P : List (List ℕ) → Type 0 = λ b. Leads v hs first_draft b s2 in
        let drafts = leads-once v hs distinct words b1 first_draft s1 s2 start_within l1 (subst P (sym k.0) l2) in
        let Q : Draft → Type 0 = λ s. IsWrong v hs s x2 w2 in
        let R : List ℕ → Type 0 = λ x. IsWrong v hs s1 x w2 in
        let wrong = one_wrong v hs s1 x1 w1 w2 words bad1 (subst R (sym k.1) (subst Q (sym drafts) bad2)) in
        ap (λ (w : Wrong). fault_at w (lines_before v + length b1 + 1)) wrong ∙ ap (λ (b : List (List ℕ)). fault_at w2 (lines_before v + length b + 1)) k.0
    | inr k ↦ elim k [
      | inl m ↦ (let P : List (List ℕ) → Type 0 = λ b. Leads v hs first_draft b s2 in absurd (fault_next b1 m.0 x1 s1 s2 w1 l1 bad1 (subst P m.1 l2)))
      | inr m ↦ (let P : List (List ℕ) → Type 0 = λ b. Leads v hs first_draft b s1 in absurd (fault_next b2 m.0 x2 s2 s1 w2 l2 bad2 (subst P m.1 l1)))
    ]
  ]

pub same_heads : {v : Version} {lines lines' : List (List ℕ)} (hs ks : List Head) → AreHeads v [] lines hs → AreHeads v [] lines' ks → lines ≡ lines' → ks ≡ hs
same_heads {v} {lines} {lines'} hs ks one two e =
    let P : List (List ℕ) → Type 0 = λ ls. AreHeads v [] ls ks in
    heads-are (subst P (sym e) two) ∙ sym (heads-are one)

one_in : (v : Version) (text : List ℕ) (f g : AsmFault) → FirstFaultIn v text f → FirstFaultIn v text g → f ≡ g
one_in v text f g (at_line hs before behind bytes last draft w is are leads bad) (at_line ks before' behind' bytes' last' draft' w' is' are' leads' bad') =
    let lines = same-front (before ++ bytes ∷ behind) (before' ++ bytes' ∷ behind') last last' (sym is ∙ is') in
    let same = same_heads hs ks are are' lines in
    let P : List Head → Type 0 = λ xs. Leads v xs first_draft before' draft' in
    let Q : List Head → Type 0 = λ xs. IsWrong v xs draft' bytes' w' in
    lines_faults v text hs (heads-distinct are no_names) (heads-words are refl) before behind bytes draft w before' behind' bytes' draft' w' lines leads bad (subst P same leads') (subst Q same bad')
one_in v text f g (at_line hs before behind bytes last draft w is are leads bad) (at_end ks lines' last' draft' is' are' leads' bad') =
    let lines = same-front (before ++ bytes ∷ behind) lines' last last' (sym is ∙ is') in
    let same = same_heads hs ks are are' lines in
    let P : List Head → Type 0 = λ xs. Leads v xs first_draft lines' draft' in
    let Q : List (List ℕ) → Type 0 = λ ls. Leads v hs first_draft ls draft' in
    absurd (fault_next v text hs (heads-distinct are no_names) (heads-words are refl) before behind bytes draft draft' w leads bad (subst Q (sym lines) (subst P same leads')))
one_in v text f g (at_end hs lines last draft is are leads bad) (at_line ks before' behind' bytes' last' draft' w' is' are' leads' bad') =
    let front = same-front (before' ++ bytes' ∷ behind') lines last' last (sym is' ∙ is) in
    let same = same_heads ks hs are' are front in
    let P : List Head → Type 0 = λ xs. Leads v xs first_draft lines draft in
    let Q : List (List ℕ) → Type 0 = λ ls. Leads v ks first_draft ls draft in
    absurd (fault_next v text ks (heads-distinct are' no_names) (heads-words are' refl) before' behind' bytes' draft' draft w' leads' bad' (subst Q (sym front) (subst P same leads)))
one_in v text f g (at_end hs lines last draft is are leads bad) (at_end ks lines' last' draft' is' are' leads' bad') =
    ap (λ (ls : List (List ℕ)). faults.Form (lines_before v + length ls + 1)) (same-front lines lines' last last' (sym is ∙ is'))

pub one-fault : (text : List ℕ) (f g : AsmFault) → FirstFault text f → FirstFault text g → f ≡ g
one-fault text f g one two = one_in (parted text).0 (parted text).1 f g one two
