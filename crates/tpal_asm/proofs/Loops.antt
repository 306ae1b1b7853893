-- What the loops over the lines of a text keep.
use Rattle.std.proofs.Common.{◌≡◌, ℕ, ◌+◌, ◌≤◌, Bool, true, false, cond, List, [], ◌∷◌, ◌++◌}
use Rattle.std.proofs.Common.{length, Option, Some, None, Result, Ok, Err, IfOk, IfErr, refl, sym}
use Rattle.std.proofs.Common.{ap, subst, ◌∙◌, append_assoc, length-append, arith}
use Rattle.std.specs.List.{list_all, onto_first}
use Rattle.std.specs.Prelude.{◌==◌}
use Rattle.tpal_syntax.specs.declared.notes.Note.{Note}
use Rattle.tpal_syntax.specs.declared.blocks.Block.{Block}
use Rattle.tpal_syntax.specs.declared.blocks.CodeTable.{CodeTable}
use Rattle.tpal_syntax.specs.Parts.{is_word}
use Rattle.tpal_syntax.specs.Conditions.{IsCode, block_names}
use Rattle.tpal_syntax.specs.declared.versions.Version.{Version}
use Rattle.tpal_asm.specs.declared.fault.AsmFault.{AsmFault}
use Rattle.tpal_asm.specs.declared.fault.AsmFault.TheVariants as faults
use Rattle.tpal_asm.specs.declared.fault.Wrong.{Wrong}
use Rattle.tpal_asm.specs.declared.fault.Wrong.TheVariants as wrongs
use Rattle.tpal_asm.specs.declared.drafts.Begun.{Begun}
use Rattle.tpal_asm.specs.Reading.{ended, header_rest}
use Rattle.tpal_asm.specs.Lines.{pieces, lines_before, AreLines}
use Rattle.tpal_asm.specs.Labels.{Head, names_of, place_of}
use Rattle.tpal_asm.specs.Drafts.{AreHeads, is_among, Draft, Outside, Says, Leads, stay, go_on}
use Rattle.tpal_asm.specs.Drafts.{IsNewName, IsWithin, IsWhole, first_draft}
use Rattle.tpal_asm.specs.Faults.{FirstFaultIn, at_line, at_end, IsWrong, OnWrong, OnFault}
use Rattle.tpal_asm.specs.Faults.{fault_at}
use Rattle.tpal_asm.specs.Steps.{seen_with}
use Rattle.tpal_asm.proofs.Heads.{read_line, read_head, with_read, heads_after, are-heads}
use Rattle.tpal_asm.proofs.Heads.{heads-append, blocks-front, blocks_of}
use Rattle.tpal_asm.proofs.Sofar.{leads-code, leads-ends, leads-spelled}

-- ---- pieces

some_last : (x : List ℕ) (xs : List (List ℕ)) → (lines : List (List ℕ)) × (last : List ℕ) × (x ∷ xs ≡ lines ++ last ∷ [])
some_last x [] = ([], x, refl)
some_last x (y ∷ ys) = let rest = some_last y ys in (x ∷ rest.0, rest.1, ap (λ (l : List (List ℕ)). x ∷ l) rest.2)

onto_some : (t : ℕ) (lines : List (List ℕ)) (last : List ℕ) → (first : List ℕ) × (more : List (List ℕ)) × (onto_first t (lines ++ last ∷ []) ≡ first ∷ more)
onto_some t [] last = (t ∷ last, [], refl)
onto_some t (l ∷ lines) last = (t ∷ l, lines ++ last ∷ [], refl)

-- a text has a last piece
pub pieces-last : (text : List ℕ) → (lines : List (List ℕ)) × (last : List ℕ) × (pieces text ≡ lines ++ last ∷ [])
pieces-last [] = ([], [], refl)
pieces-last (t ∷ text) =
    let rest = pieces-last text in
    let on = onto_some t rest.0 rest.1 in
    let end = some_last on.0 on.1 in
    go (t == 10) rest.0 rest.1 rest.2 end.0 end.1 (ap (onto_first t) rest.2 ∙ on.2 ∙ end.2)
  where
    go : (b : Bool) (lines : List (List ℕ)) (last : List ℕ) → pieces text ≡ lines ++ last ∷ [] → (lines' : List (List ℕ)) (last' : List ℕ) → onto_first t (pieces text) ≡ lines' ++ last' ∷ []
        → (xs : List (List ℕ)) × (x : List ℕ) × (cond b ([] ∷ pieces text) (onto_first t (pieces text)) ≡ xs ++ x ∷ [])
    go true lines last e lines' last' f = ([] ∷ lines, last, ap (λ (l : List (List ℕ)). [] ∷ l) e)
    go false lines last e lines' last' f = (lines', last', f)

pub head_same : (x y : List ℕ) (xs ys : List (List ℕ)) → x ∷ xs ≡ y ∷ ys → x ≡ y
head_same x y xs ys e = cc

pub tail_same : (x y : List ℕ) (xs ys : List (List ℕ)) → x ∷ xs ≡ y ∷ ys → xs ≡ ys
tail_same x y xs ys e = cc

no_end : (x last : List ℕ) (xs : List (List ℕ)) → [] ≡ xs ++ last ∷ [] → ⊥
no_end x last [] e = absurd cc
no_end x last (y ∷ xs) e = absurd cc

-- the lines before the last piece are these
pub same-front : (xs ys : List (List ℕ)) (x y : List ℕ) → xs ++ x ∷ [] ≡ ys ++ y ∷ [] → xs ≡ ys
same-front [] [] x y e = refl
same-front [] (b ∷ ys) x y e = absurd (no_end x y ys (tail_same x b [] (ys ++ y ∷ []) e))
same-front (a ∷ xs) [] x y e = absurd (no_end x x xs (sym (tail_same a y (xs ++ x ∷ []) [] e)))
same-front (a ∷ xs) (b ∷ ys) x y e =
    ap (λ (c : List ℕ). c ∷ xs) (head_same a b (xs ++ x ∷ []) (ys ++ y ∷ []) e) ∙ ap (λ (l : List (List ℕ)). b ∷ l) (same-front xs ys x y (tail_same a b (xs ++ x ∷ []) (ys ++ y ∷ []) e))

-- ---- the names of the blocks

pub record Headed (v : Version) (text rest : List ℕ) (hs : List Head) : Type 0 where
  pub before : List (List ℕ)
  pub pieces_are : pieces text ≡ before ++ pieces rest
  pub are : hs ≡ heads_after v [] before
  pub room : length before + length rest ≤ length text

pub headed-step : (v : Version) (text rest first others : List ℕ) (hs next : List Head) → Headed v text rest hs → pieces rest ≡ first ∷ pieces others → length others + 1 ≤ length rest → next ≡ with_read hs (read_head v first) → Headed v text others next
headed-step v text rest first others hs next h e shorter is = record {
  before = h.before ++ first ∷ [];
  pieces_are = h.pieces_are ∙ ap (λ (ps : List (List ℕ)). h.before ++ ps) e ∙ sym (append_assoc h.before (first ∷ []) (pieces others));
  are = is ∙ ap (λ (xs : List Head). with_read xs (read_head v first)) h.are ∙ sym (heads-append v [] h.before (first ∷ []));
  room = omega (arith, h.room, shorter, length-append h.before (first ∷ []));
}

pub headed-end : (v : Version) (text rest : List ℕ) (hs : List Head) → Headed v text rest hs → pieces rest ≡ rest ∷ [] → (lines : List (List ℕ)) (last : List ℕ) → pieces text ≡ lines ++ last ∷ [] → AreHeads v [] lines hs
headed-end v text rest hs h e lines last is =
    let same = same-front h.before lines rest last (sym (h.pieces_are ∙ ap (λ (ps : List (List ℕ)). h.before ++ ps) e) ∙ is) in
    let P : List (List ℕ) → Type 0 = λ ls. AreHeads v [] ls hs in
    let Q : List Head → Type 0 = λ xs. AreHeads v [] h.before xs in
    subst P same (subst Q (sym h.are) (are-heads v [] h.before))

with_more_few : (hs : List Head) (o : Option Head) → length (with_read hs o) ≤ length hs + 1
with_more_few hs None = omega arith
with_more_few hs (Some h) = go (is_among h.0 (names_of hs))
  where
    go : (b : Bool) → length (cond b hs (hs ++ h ∷ [])) ≤ length hs + 1
    go true = omega arith
    go false = omega (arith, length-append hs (h ∷ []))

heads-few : (v : Version) (hs : List Head) (lines : List (List ℕ)) → length (heads_after v hs lines) ≤ length hs + length lines
heads-few v hs [] = omega arith
heads-few v hs (bytes ∷ lines) = omega (arith, with_more_few hs (read_head v bytes), heads-few v (with_read hs (read_head v bytes)) lines)

pub headed-few : (v : Version) (text rest : List ℕ) (hs : List Head) → Headed v text rest hs → length hs + length rest ≤ length text
headed-few v text rest hs h = omega (arith, ap (length {A = Head}) h.are, heads-few v [] h.before, h.room)

-- a line is read as where no labels are known
pub line-read : (v u : Version) (none : List Head) (line first : List ℕ) (o : Option (List ℕ × Note)) → u ≡ v → none ≡ [] → line ≡ first ++ (10 ∷ []) → ended (header_rest u (place_of none) line) ≡ o → read_line v first ≡ o
line-read v u none line first o same empty is read =
    ap (λ (x : List ℕ). ended (header_rest v (place_of []) x)) (sym is) ∙ ap (λ (hs : List Head). ended (header_rest v (place_of hs) line)) (sym empty)
    ∙ ap (λ (w : Version). ended (header_rest w (place_of none) line)) (sym same) ∙ read

-- ---- the drafts

pub record Led (v : Version) (text rest : List ℕ) (hs : List Head) (draft : Draft) (line : ℕ) : Type 0 where
  pub before : List (List ℕ)
  pub pieces_are : pieces text ≡ before ++ pieces rest
  pub leads : Leads v hs first_draft before draft
  pub number : line ≡ lines_before v + length before + 1
  pub room : length before + length rest ≤ length text
  pub named : IsNewName draft
  pub small : IsWithin draft

pub led-start : (v : Version) (text : List ℕ) (hs : List Head) (draft : Draft) (line : ℕ) → draft ≡ first_draft → line ≡ lines_before v + 1 → Led v text text hs draft line
led-start v text hs draft line e is =
    let P : Draft → Type 0 = λ s. Led v text text hs s line in
    subst P (sym e) record { before = []; pieces_are = refl; leads = stay first_draft; number = omega (arith, is); room = omega arith; named = tt; small = (omega arith, omega arith) }

pub leads-snoc : {v : Version} {hs : List Head} {draft : Draft} {lines : List (List ℕ)} {last : Draft} → Leads v hs draft lines last → (bytes : List ℕ) (next : Draft) → Says v hs (names_of hs) last bytes next → IsNewName next → IsWithin next
    → Leads v hs draft (lines ++ bytes ∷ []) next
leads-snoc (stay draft) bytes next says named within = go_on draft next next bytes [] says named within (stay next)
leads-snoc (go_on draft one last b lines s n w rest) bytes next says named within = go_on draft one next b (lines ++ bytes ∷ []) s n w (leads-snoc rest bytes next says named within)

pub led-step : (v : Version) (text rest first others : List ℕ) (hs : List Head) (draft next : Draft) (line number : ℕ) → Led v text rest hs draft line → pieces rest ≡ first ∷ pieces others → length others + 1 ≤ length rest
    → Says v hs (names_of hs) draft first next → IsNewName next → IsWithin next → number ≡ line + 1 → Led v text others hs next number
led-step v text rest first others hs draft next line number h e shorter says named within is = record {
  before = h.before ++ first ∷ [];
  pieces_are = h.pieces_are ∙ ap (λ (ps : List (List ℕ)). h.before ++ ps) e ∙ sym (append_assoc h.before (first ∷ []) (pieces others));
  leads = leads-snoc h.leads first next says named within;
  number = omega (arith, h.number, is, length-append h.before (first ∷ []));
  room = omega (arith, h.room, shorter, length-append h.before (first ∷ []));
  named = named;
  small = within;
}

abbrev pub Known : Version → List ℕ → List Head → Type 0
Known v text hs = (lines : List (List ℕ)) (last : List ℕ) → pieces text ≡ lines ++ last ∷ [] → AreHeads v [] lines hs

-- the lines so far, this line, the lines behind it and the last piece are the text
record Around (text : List ℕ) (before : List (List ℕ)) (first : List ℕ) : Type 0 where
  behind : List (List ℕ)
  last : List ℕ
  are : pieces text ≡ (before ++ first ∷ behind) ++ last ∷ []

around : (text rest first others : List ℕ) (before : List (List ℕ)) → pieces text ≡ before ++ pieces rest → pieces rest ≡ first ∷ pieces others → Around text before first
around text rest first others before is e =
    let p = pieces-last others in
    record {
      behind = p.0;
      last = p.1;
      are = is ∙ ap (λ (ps : List (List ℕ)). before ++ ps) (e ∙ ap (λ (ps : List (List ℕ)). first ∷ ps) p.2) ∙ sym (append_assoc before (first ∷ p.0) (p.1 ∷ []));
    }

pub led-front : (v : Version) (text rest first others : List ℕ) (hs : List Head) (draft : Draft) (line : ℕ) → Led v text rest hs draft line → pieces rest ≡ first ∷ pieces others → Known v text hs → list_all is_word (names_of hs) ≡ true
    → (more : List (List ℕ)) × (names_of hs ≡ block_names (blocks_of draft) ++ more)
led-front v text rest first others hs draft line h e known words =
    let a = around text rest first others h.before h.pieces_are e in
    blocks-front v hs draft h.before (first ∷ a.behind) (known (h.before ++ first ∷ a.behind) a.last a.are) h.leads words

pub blocks-seen : (tables : List CodeTable) (blocks : List Block) (begun : Option Begun) → blocks_of (seen_with tables blocks begun) ≡ blocks
blocks-seen tables blocks None = refl
blocks-seen tables blocks (Some begun) = refl

pub led-fault : (v : Version) (text rest first others : List ℕ) (hs : List Head) (draft : Draft) (line : ℕ) → Led v text rest hs draft line → pieces rest ≡ first ∷ pieces others → Known v text hs
    → (w : Wrong) → OnWrong w (IsWrong v hs draft first w) → OnFault (fault_at w line) (FirstFaultIn v text (fault_at w line))
led-fault v text rest first others hs draft line h e known w bad =
    let a = around text rest first others h.before h.pieces_are e in
    let are = known (h.before ++ first ∷ a.behind) a.last a.are in
    let P : ℕ → Type 0 = λ n. FirstFaultIn v text (fault_at w n) in
    each w (λ wrong. subst P (sym h.number) (at_line hs h.before a.behind first a.last draft w a.are are h.leads wrong)) bad
  where
    each : (w : Wrong) → (IsWrong v hs draft first w → FirstFaultIn v text (fault_at w line)) → OnWrong w (IsWrong v hs draft first w) → OnFault (fault_at w line) (FirstFaultIn v text (fault_at w line))
    each wrongs.Form make bad = make bad
    each wrongs.Label make bad = make bad
    each wrongs.Limit make bad = make bad
    each wrongs.NoMemory make bad = tt

-- the lines are over
ends : (text rest : List ℕ) (before : List (List ℕ)) → pieces text ≡ before ++ pieces rest → pieces rest ≡ rest ∷ [] → pieces text ≡ before ++ rest ∷ []
ends text rest before is e = is ∙ ap (λ (ps : List (List ℕ)). before ++ ps) e

pub led-missing : (v : Version) (text rest : List ℕ) (hs : List Head) (draft : Draft) (line : ℕ) → Led v text rest hs draft line → pieces rest ≡ rest ∷ [] → Known v text hs → (¬ ((rest ≡ []) × IsWhole draft)) → FirstFaultIn v text (faults.Form line)
led-missing v text rest hs draft line h e known bad =
    let are = ends text rest h.before h.pieces_are e in
    let P : ℕ → Type 0 = λ n. FirstFaultIn v text (faults.Form n) in
    subst P (sym h.number) (at_end hs h.before rest draft are (known h.before rest are) h.leads bad)

none_left : (text rest : List ℕ) (before : List (List ℕ)) → pieces text ≡ before ++ rest ∷ [] → rest ≡ [] → pieces text ≡ before ++ [] ∷ []
none_left text rest before is e = is ∙ ap (λ (r : List ℕ). before ++ r ∷ []) e

pub led-right : (v : Version) (text rest : List ℕ) (hs : List Head) (tables : List CodeTable) (blocks : List Block) (begun : Option Begun) (line : ℕ) → Led v text rest hs (seen_with tables blocks begun) line → pieces rest ≡ rest ∷ [] → Known v text hs
    → list_all is_word (names_of hs) ≡ true → IsWhole (seen_with tables blocks begun) → IsCode tables blocks
led-right v text rest hs tables blocks (Some begun) line h e known words whole = absurd whole
led-right v text rest hs tables [] None line h e known words whole = absurd whole
led-right v text rest hs tables (b ∷ blocks) None line h e known words whole =
    let are = ends text rest h.before h.pieces_are e in
    leads-code v hs h.before tables (b ∷ blocks) (known h.before rest are) words h.leads (omega arith)

pub led-code : (v : Version) (text rest : List ℕ) (hs : List Head) (draft : Draft) (tables : List CodeTable) (blocks : List Block) (line : ℕ) → Led v text rest hs draft line → pieces rest ≡ rest ∷ [] → rest ≡ [] → Known v text hs
    → list_all is_word (names_of hs) ≡ true → draft ≡ Outside tables blocks → IsCode tables blocks → AreLines v text tables blocks
led-code v text rest hs draft tables blocks line h e empty known words is right =
    let are = ends text rest h.before h.pieces_are e in
    let P : Draft → Type 0 = λ s. Leads v hs first_draft h.before s in
    let leads = subst P is h.leads in
    record {
      right = right;
      ends = leads-ends v hs h.before tables blocks (known h.before rest are) words leads;
      spelled = leads-spelled v hs h.before tables blocks (known h.before rest are) words leads text (none_left text rest h.before are empty);
    }

-- ---- what calls answer

-- what is said for each line that there may be, of the one that there is
pub one_line : (w : Wrong) (line first : List ℕ) (Q : List ℕ → Type 0) → line ≡ first ++ (10 ∷ []) → OnWrong w ((bytes : List ℕ) → line ≡ bytes ++ (10 ∷ []) → Q bytes) → OnWrong w (Q first)
one_line wrongs.Form line first Q is each = each first is
one_line wrongs.Label line first Q is each = each first is
one_line wrongs.Limit line first Q is each = each first is
one_line wrongs.NoMemory line first Q is each = tt

pub if_both : {C E : Type 0} (r : Result C E) (P Q R : C → Type 0) → ((x : C) → P x → Q x → R x) → IfOk r P → IfOk r Q → IfOk r R
if_both (Ok x) P Q R f p q = f x p q
if_both (Err e) P Q R f p q = tt

pub end_fault : {C : Type 0} (v : Version) (text : List ℕ) (line : ℕ) (W : Type 0) (r : Result C AsmFault) → ((¬ W) → FirstFaultIn v text (faults.Form line)) → IfErr r (λ f. OnFault f ((f ≡ faults.Form line) × (¬ W))) → IfErr r (λ f. OnFault f (FirstFaultIn v text f))
end_fault v text line W (Ok x) make bad = tt
end_fault v text line W (Err (faults.Form n)) make bad = subst (FirstFaultIn v text) (sym bad.0) (make bad.1)
end_fault v text line W (Err (faults.Label n)) make bad = subst (FirstFaultIn v text) (sym bad.0) (make bad.1)
end_fault v text line W (Err (faults.Limit n)) make bad = subst (FirstFaultIn v text) (sym bad.0) (make bad.1)
end_fault v text line W (Err faults.NoMemory) make bad = tt
