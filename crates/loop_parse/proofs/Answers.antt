-- Each form that is in the grammar is read, or is refused as too deep.
use Rattle.std.proofs.Common.{◌≡◌, ℕ, ◌<◌, ◌≤◌, List, [], ◌∷◌, length, Some, None, Ok, Err, Bool}
use Rattle.std.proofs.Common.{true, false, inl, inr, if◌then◌else◌, refl, ap, subst, ◌∙◌, arith}
use Rattle.tp_value.specs.declared.values.Op.{Op}
use Rattle.tp_value.specs.declared.values.Op.TheVariants as reducers
use Rattle.loop_syntax.specs.Tree.{Spelled, ReduceTree}
use Rattle.loop_parse.specs.declared.terminal.Fixed.{Fixed}
use Rattle.loop_parse.specs.declared.terminal.Fixed.TheVariants as words
use Rattle.loop_parse.specs.declared.terminal.Fixed.TheVariants.{Comma, OpenBrace, CloseBrace}
use Rattle.loop_parse.specs.declared.terminal.Fixed.TheVariants.{OpenRound, CloseRound, OpenSquare}
use Rattle.loop_parse.specs.declared.terminal.Fixed.TheVariants.{CloseSquare}
use Rattle.loop_parse.specs.Terms as kinds
use Rattle.loop_parse.specs.Terms.{Kind, Token, Is, IsName, IsLiteral}
use Rattle.loop_parse.specs.Grammar.{Item, The, AName, Params, MoreNames, ReduceList, MoreReduces}
use Rattle.loop_parse.specs.Grammar.{AReduce, AnOp, Makes, no_param, params, no_name, names}
use Rattle.loop_parse.specs.Grammar.{no_reduce, reduces, no_more_reduce, more_reduces, red, add_op}
use Rattle.loop_parse.specs.Grammar.{mul_op, min_op, max_op, affine_op, none, next_item, in_first}
use Rattle.loop_parse.specs.Reading.{Reply, Reader, Fault, Form, Deep, ◌>>=◌, tag, is_fixed, expect}
use Rattle.loop_parse.specs.Reading.{Limits, starts, begins_with, many_of, after_comma, further}
use Rattle.loop_parse.specs.Reading
use Rattle.loop_parse.proofs.Items.{Out, Full, Bad, Part, whole, bad, Parts, wholes, bads, Headed}
use Rattle.loop_parse.proofs.Items.{deep_head, head, headed, Opened, opened, open_part, part_length}
use Rattle.loop_parse.proofs.Items.{TheHead, the_head, head_the, NameHead, name_head, head_name}
use Rattle.loop_parse.proofs.Items.{none_left, First, ends, starts_first}
use Rattle.loop_parse.proofs.Complete.{expect_at}
use Rattle.loop_parse.proofs.Limits as limits
use Rattle.loop_parse.proofs.Answering.{Deeps, Answers, answers_along, the_then, name_then}
use Rattle.loop_parse.proofs.Answering.{item_then, finished, sole, made, Follows, follow_full}
use Rattle.loop_parse.proofs.Answering.{follow_bad, Split, stop, halt, go_on, many_answers}

-- what comes after an item begins with such a word
pub data Next (test : Fixed → Bool) : Out → Type 0 where
  next_full : {rest : List Token} → First test rest → Next test (Full rest)
  next_bad : {us : List Token} → Next test (Bad us)

pub next_of : {items : List Item} {out : Out} (test : Fixed → Bool) (o : Out) → ((mid : List Token) → o ≡ Full mid → Parts items mid out) → ((mid : List Token) → Parts items mid out → First test mid) → Next test o
next_of test (Full rest) ps first = next_full (first rest (ps rest refl))
next_of test (Bad us) ps first = next_bad

pub first_full : (test : Fixed → Bool) (out : Out) (ts : List Token) → Next test out → out ≡ Full ts → First test ts
first_full test _ ts (next_full {rest} f) e = let q : rest ≡ ts = cc in subst (λ (u : List Token). First test u) q f
first_full test _ ts next_bad e = cc

-- nothing is left of the items, and what comes after them begins with such a word
pub first_after : {ts : List Token} {out : Out} (test : Fixed → Bool) → Next test out → Parts [] ts out → First test ts
first_after {ts} {out} test f ps = first_full test out ts f (none_left ps)

pub first_weaken : (test weak : Fixed → Bool) (ts : List Token) → ((s : Fixed) → test s ≡ true → weak s ≡ true) → First test ts → First weak ts
first_weaken test weak ts h f = record { word = f.word; token = f.token; rest = f.rest; split = f.split; is_word = f.is_word; passes = h f.word f.passes }

pub follows_next : (begins : Kind → Bool) (test : Fixed → Bool) (out : Out) → ((s : Fixed) → test s ≡ true → begins (kinds.Spelling s) ≡ false) → Next test out → Follows begins out
follows_next begins test _ h (next_full {rest} f) = follow_full (starts_first begins test rest f h)
follows_next begins test _ h next_bad = follow_bad

-- a closing bracket
abbrev pub closing : Fixed → Bool
closing words.CloseRound = true
closing _ = false

-- the block of a parallel loop, or its reduce list
abbrev pub heading : Fixed → Bool
heading words.OpenBrace = true
heading words.Reduce = true
heading _ = false

-- a block
abbrev pub opening : Fixed → Bool
opening words.OpenBrace = true
opening _ = false

-- the end of statements
abbrev pub ending : Fixed → Bool
ending words.CloseBrace = true
ending words.Return = true
ending _ = false

pub closing_ends : (s : Fixed) → closing s ≡ true → ends s ≡ true
closing_ends words.CloseRound h = refl
closing_ends _ h = cc

pub closing_comma : (s : Fixed) → closing s ≡ true → is_fixed Comma (kinds.Spelling s) ≡ false
closing_comma words.CloseRound h = refl
closing_comma _ h = cc

pub heading_comma : (s : Fixed) → heading s ≡ true → is_fixed Comma (kinds.Spelling s) ≡ false
heading_comma words.OpenBrace h = refl
heading_comma words.Reduce h = refl
heading_comma _ h = cc

opening_comma : (s : Fixed) → opening s ≡ true → is_fixed Comma (kinds.Spelling s) ≡ false
opening_comma words.OpenBrace h = refl
opening_comma _ h = cc

opening_reduce : (s : Fixed) → opening s ≡ true → is_fixed words.Reduce (kinds.Spelling s) ≡ false
opening_reduce words.OpenBrace h = refl
opening_reduce _ h = cc

pub heading_carry : (s : Fixed) → heading s ≡ true → is_fixed words.Carry (kinds.Spelling s) ≡ false
heading_carry words.OpenBrace h = refl
heading_carry words.Reduce h = refl
heading_carry _ h = cc

-- a comma, or what comes after the carry list: no index
abbrev pub after_carry : Fixed → Bool
after_carry words.OpenBrace = true
after_carry words.Reduce = true
after_carry words.Comma = true
after_carry _ = false

pub after_square : (s : Fixed) → after_carry s ≡ true → is_fixed OpenSquare (kinds.Spelling s) ≡ false
after_square words.OpenBrace h = refl
after_square words.Reduce h = refl
after_square words.Comma h = refl
after_square _ h = cc

pub heading_after : (s : Fixed) → heading s ≡ true → after_carry s ≡ true
heading_after words.OpenBrace h = refl
heading_after words.Reduce h = refl
heading_after _ h = cc

comma_starts : (t : Token) (mid ts : List Token) → Is Comma t → ts ≡ t ∷ mid → starts (λ k. is_fixed Comma k) ts ≡ true
comma_starts t mid ts i e = ap (starts (λ k. is_fixed Comma k)) e ∙ ap (is_fixed Comma) i

after_reads : {A : Type 0} (item : Reader A) (t : Token) (mid ts : List Token) → Is Comma t → ts ≡ t ∷ mid → after_comma item ts ≡ item mid
after_reads item t mid ts i e = ap (after_comma item) e ∙ ap (λ r. r >>= λ k. item k.1) (expect_at Comma t mid i)

reads_after : {A : Type 0} {r q : Reply A} {x : A} {rest : List Token} → r ≡ q → limits.Reads q x rest → limits.Reads r x rest
reads_after e (inl h) = inl (e ∙ h)
reads_after e (inr d) = inr (d.0, e ∙ d.1, d.2)

deeps_after : {A : Type 0} {r q : Reply A} {us : List Token} → r ≡ q → Deeps q us → Deeps r us
deeps_after e d = record { at = d.at; is = e ∙ d.is; order = d.order }

-- an item after a comma
pub comma_go : {A : Type 0} {F : List A → Item} (G : A → Item) {L : Type 0} {x : A} {ys : List A} {ts : List Token} {out : Out} (item : Reader A) →
    ((mid : List Token) → length mid < length ts → (o : Out) → Part (G x) mid o → ((end : List Token) → o ≡ Full end → Parts (F ys ∷ []) end out) → Answers L (item mid) x o) →
    TheHead Comma (G x ∷ F ys ∷ []) ts out → Split F L (λ k. is_fixed Comma k) (after_comma item) (x ∷ ys) ts out
comma_go {F = F} G {L = L} {x = x} {ys = ys} {ts = ts} {out = out} item answers (the_head t mid i e zs) = go (headed zs)
  where
    less : length mid < length ts
    less = omega (arith, ap length e)

    go : Headed (G x) (F ys ∷ []) mid out → Split F L (λ k. is_fixed Comma k) (after_comma item) (x ∷ ys) ts out
    go (deep_head us q d) = halt us q (comma_starts t mid ts i e) (λ l. deeps_after (after_reads item t mid ts i e) ((answers mid less (Bad us) (bad d) (λ end h. cc)).says l))
    go (head end z rest) =
        go_on x ys end refl (comma_starts t mid ts i e) (reads_after (after_reads item t mid ts i e) (answers mid less (Full end) (whole z) (λ m h. let q : end ≡ m = cc in subst (λ (u : List Token). Parts (F ys ∷ []) u out) q rest)).says)
        (omega (arith, part_length (whole z), less)) (sole rest)

name_answers : {L : Type 0} {x : Spelled} {ts : List Token} (o : Out) → Part (AName x) ts o → Answers L (Reading.name ts) x o
name_answers {L} {x} {ts} o p = answers_along (same (Reading.name ts)) (name_then (λ y. Ok (y.0, y.1)) (alone p) (λ mid q ps. finished ps))
  where
    same : (r : Reply Spelled) → r ≡ (r >>= λ y. Ok (y.0, y.1))
    same (Ok y) = refl
    same (Err e) = refl

    alone : {o : Out} → Part (AName x) ts o → Parts (AName x ∷ []) ts o
    alone (whole z) = wholes (next_item z none)
    alone (bad d) = bads (record { what = d.what; at = d.at; comes = in_first d.comes; is_deep = d.is_deep })

names_split : {L : Type 0} {xs : List Spelled} {parts : List Item} {ts : List Token} {out : Out} → Makes (MoreNames xs) parts → Parts parts ts out → Split MoreNames L (λ k. is_fixed Comma k) (after_comma Reading.name) xs ts out
names_split no_name ps = stop refl (none_left ps)
names_split names ps = comma_go AName Reading.name (λ mid q o z _. name_answers o z) (head_the ps)

names_open : {L : Type 0} {xs : List Spelled} {ts : List Token} {out : Out} → Opened (MoreNames xs) ts out → Split MoreNames L (λ k. is_fixed Comma k) (after_comma Reading.name) xs ts out
names_open (opened parts m ps) = names_split m ps

pub names_answers : {L : Type 0} (n : ℕ) (xs : List Spelled) (ts : List Token) (out : Out) → length ts ≤ n → Part (MoreNames xs) ts out → Next closing out → Answers L (Reading.more_names n ts) xs out
unfolding Reading.more_names
names_answers {L} n xs ts out l p f = many_answers MoreNames L (λ k. is_fixed Comma k) (after_comma Reading.name) n out (follows_next (λ k. is_fixed Comma k) closing out closing_comma f) (λ ys us q z. names_open (open_part z refl)) n xs ts l l p

-- a list in brackets: where it is empty the bracket comes
pub none_before : {A : Type 0} {L : Type 0} (r : Reply (List A)) (ts : List Token) {out : Out} → First closing ts → Parts [] ts out → Answers L (if begins_with CloseRound ts then Ok ([], ts) else r) [] out
none_before {L = L} r ts {out} f ps = answers_along (ap (λ b. if b then Ok ([], ts) else r) (ap (begins_with CloseRound) f.split ∙ ap (is_fixed CloseRound) f.is_word ∙ at f.word f.passes)) (finished ps)
  where
    at : (s : Fixed) → closing s ≡ true → is_fixed CloseRound (kinds.Spelling s) ≡ true
    at words.CloseRound h = refl
    at _ h = cc

params_made : {L : Type 0} {xs : List Spelled} {parts : List Item} {ts : List Token} {out : Out} (n : ℕ) → length ts ≤ n → Makes (Params xs) parts → Parts parts ts out → Next closing out → Answers L (Reading.params n ts) xs out
unfolding Reading.params
params_made {ts = ts} n l no_param ps f = none_before (Reading.name ts >>= λ y. Reading.more_names n y.1 >>= λ ys. Ok (y.0 ∷ ys.0, ys.1)) ts (first_after closing f ps) ps
params_made {L} {ts = ts} {out = out} n l (params {x} {xs}) ps f = go (head_name ps)
  where
    go : NameHead x (MoreNames xs ∷ []) ts out → Answers L (if begins_with CloseRound ts then Ok ([], ts) else (Reading.name ts >>= λ y. Reading.more_names n y.1 >>= λ ys. Ok (y.0 ∷ ys.0, ys.1))) (x ∷ xs) out
    go (name_head t mid i e zs) =
        answers_along (ap (λ b. if b then Ok ([], ts) else (Reading.name ts >>= λ y. Reading.more_names n y.1 >>= λ ys. Ok (y.0 ∷ ys.0, ys.1))) (ap (begins_with CloseRound) e ∙ ap (is_fixed CloseRound) i.named))
        (name_then _ ps (λ mid q ys. made (λ v. x ∷ v) (names_answers n xs mid out (omega arith) (sole ys) f)))

params_open : {L : Type 0} {xs : List Spelled} {ts : List Token} {out : Out} (n : ℕ) → length ts ≤ n → Opened (Params xs) ts out → Next closing out → Answers L (Reading.params n ts) xs out
params_open n l (opened parts m ps) f = params_made n l m ps f

pub params_answers : {L : Type 0} (n : ℕ) (xs : List Spelled) (ts : List Token) (out : Out) → length ts ≤ n → Part (Params xs) ts out → Next closing out → Answers L (Reading.params n ts) xs out
params_answers n xs ts out l p f = params_open n l (open_part p refl) f

-- operators, reduced variables and carry items
op_word : {L : Type 0} (s : Fixed) (o : Op) {ts : List Token} {out : Out} → Reading.op_by s ≡ Some o → Parts (The s ∷ []) ts out → Answers L (Reading.reducer ts) o out
unfolding Reading.reducer
op_word {L} s o {ts} {out} h ps = go (head_the ps)
  where
    go : TheHead s [] ts out → Answers L (Reading.reducer ts) o out
    go (the_head t mid i e zs) = answers_along (ap Reading.reducer e ∙ ap (λ q. elim q [ None ↦ Err (Form (t ∷ mid)) | Some p ↦ Ok (p, mid) ]) (ap Reading.reducer_of i ∙ h)) (finished zs)

op_made : {L : Type 0} {o : Op} {parts : List Item} {ts : List Token} {out : Out} → Makes (AnOp o) parts → Parts parts ts out → Answers L (Reading.reducer ts) o out
op_made add_op ps = op_word words.Add reducers.Add refl ps
op_made mul_op ps = op_word words.Mul reducers.Mul refl ps
op_made min_op ps = op_word words.Min reducers.Min refl ps
op_made max_op ps = op_word words.Max reducers.Max refl ps
op_made affine_op ps = op_word words.Affine reducers.Affine refl ps

op_open : {L : Type 0} {o : Op} {ts : List Token} {out : Out} → Opened (AnOp o) ts out → Answers L (Reading.reducer ts) o out
op_open (opened parts m ps) = op_made m ps

reduce_made : {L : Type 0} {r : ReduceTree} {parts : List Item} {ts : List Token} {out : Out} → Makes (AReduce r) parts → Parts parts ts out → Answers L (Reading.reduce_item ts) r out
unfolding Reading.reduce_item
reduce_made (red {x} {o}) ps = name_then _ ps (λ m1 q1 p1. the_then words.By _ p1 (λ p m2 q2 p2. made (λ v. record { target = x; op = v }) (op_open (open_part (sole p2) refl))))

reduce_open : {L : Type 0} {r : ReduceTree} {ts : List Token} {out : Out} → Opened (AReduce r) ts out → Answers L (Reading.reduce_item ts) r out
reduce_open (opened parts m ps) = reduce_made m ps

reduces_split : {L : Type 0} {xs : List ReduceTree} {parts : List Item} {ts : List Token} {out : Out} → Makes (MoreReduces xs) parts → Parts parts ts out → Split MoreReduces L (λ k. is_fixed Comma k) (after_comma Reading.reduce_item) xs ts out
reduces_split no_more_reduce ps = stop refl (none_left ps)
reduces_split more_reduces ps = comma_go AReduce Reading.reduce_item (λ mid q o z _. reduce_open (open_part z refl)) (head_the ps)

reduces_open : {L : Type 0} {xs : List ReduceTree} {ts : List Token} {out : Out} → Opened (MoreReduces xs) ts out → Split MoreReduces L (λ k. is_fixed Comma k) (after_comma Reading.reduce_item) xs ts out
reduces_open (opened parts m ps) = reduces_split m ps

reduces_answers : {L : Type 0} (n : ℕ) (xs : List ReduceTree) (ts : List Token) (out : Out) → length ts ≤ n → Part (MoreReduces xs) ts out → Next opening out → Answers L (Reading.more_reduces n ts) xs out
unfolding Reading.more_reduces
reduces_answers {L} n xs ts out l p f = many_answers MoreReduces L (λ k. is_fixed Comma k) (after_comma Reading.reduce_item) n out (follows_next (λ k. is_fixed Comma k) opening out opening_comma f) (λ ys us q z. reduces_open (open_part z refl)) n xs ts l l p

reduce_list_made : {L : Type 0} {xs : List ReduceTree} {parts : List Item} {ts : List Token} {out : Out} (n : ℕ) → length ts ≤ n → Makes (ReduceList xs) parts → Parts parts ts out → Next opening out → Answers L (Reading.reduce_list n ts) xs out
unfolding Reading.reduce_list
reduce_list_made {ts = ts} n l no_reduce ps f = let h = first_after opening f ps in answers_along (ap (λ b. if b then (expect words.Reduce ts >>= λ w. Reading.reduce_item w.1 >>= λ y. Reading.more_reduces n y.1 >>= λ ys. Ok (y.0 ∷ ys.0, ys.1)) else Ok ([], ts)) (starts_first (λ k. is_fixed words.Reduce k) opening ts h opening_reduce)) (finished ps)
reduce_list_made {L} {ts = ts} {out = out} n l (reduces {r} {rs}) ps f = go (head_the ps)
  where
    go : TheHead words.Reduce (AReduce r ∷ MoreReduces rs ∷ []) ts out → Answers L (if begins_with words.Reduce ts then (expect words.Reduce ts >>= λ w. Reading.reduce_item w.1 >>= λ y. Reading.more_reduces n y.1 >>= λ ys. Ok (y.0 ∷ ys.0, ys.1)) else Ok ([], ts)) (r ∷ rs) out
    go (the_head t mid i e zs) =
        answers_along (ap (λ b. if b then (expect words.Reduce ts >>= λ w. Reading.reduce_item w.1 >>= λ y. Reading.more_reduces n y.1 >>= λ ys. Ok (y.0 ∷ ys.0, ys.1)) else Ok ([], ts)) (ap (begins_with words.Reduce) e ∙ ap (is_fixed words.Reduce) i))
        (the_then words.Reduce _ ps (λ p m1 q1 p1. item_then _ p1 (λ o z _. reduce_open (open_part z refl)) (λ m2 q2 p2. made (λ v. r ∷ v) (reduces_answers n rs m2 out (omega arith) (sole p2) f))))

reduce_list_open : {L : Type 0} {xs : List ReduceTree} {ts : List Token} {out : Out} (n : ℕ) → length ts ≤ n → Opened (ReduceList xs) ts out → Next opening out → Answers L (Reading.reduce_list n ts) xs out
reduce_list_open n l (opened parts m ps) f = reduce_list_made n l m ps f

pub reduce_list_answers : {L : Type 0} (n : ℕ) (xs : List ReduceTree) (ts : List Token) (out : Out) → length ts ≤ n → Part (ReduceList xs) ts out → Next opening out → Answers L (Reading.reduce_list n ts) xs out
reduce_list_answers n xs ts out l p f = reduce_list_open n l (open_part p refl) f
