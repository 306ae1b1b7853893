-- What is read from the start, in the words of the grammar.
use Rattle.std.proofs.Common.{◌≡◌, ◌<◌, ◌≤◌, List, [], ◌∷◌, ◌++◌, length, Option, Some, None, Ok}
use Rattle.std.proofs.Common.{Err, Bool, true, false, ◌⊎◌, inl, inr, refl, sym, ap, subst, ◌∙◌}
use Rattle.std.proofs.Common.{append_assoc, length-append, nat_lt, arith}
use Rattle.std.proofs.lemmas.Bool.Decides.{nat_tests}
use Rattle.loop_syntax.specs.Tree.{ProgramTree, Last}
use Rattle.loop_parse.specs.declared.terminal.Fixed.TheVariants.{Main}
use Rattle.loop_parse.specs.Terms.{Token}
use Rattle.loop_parse.specs.Grammar.{tree_from, IsProgram, Begins, NoneContinues, FormFault}
use Rattle.loop_parse.specs.Grammar.{DeepFault}
use Rattle.loop_parse.specs.Reading.{Reply, Fault, Form, Deep, within, unlimited}
use Rattle.loop_parse.specs.Reading
use Rattle.loop_parse.proofs.Machine.{Symbol, Want, Decls, a_block, run}
use Rattle.loop_parse.proofs.Exact.{Told, Past}
use Rattle.loop_parse.proofs.Items.{Full, Bad, whole, bad}
use Rattle.loop_parse.proofs.SoundBlocks.{AtProgram, DeepProgram, program_law}
use Rattle.loop_parse.proofs.Answering.{Deeps}
use Rattle.loop_parse.proofs.AnswersBlocks.{program_answers}
use Rattle.loop_parse.proofs.Bases.{within_base, unlimited_base, within_answers, unlimited_answers}
use Rattle.loop_parse.proofs.Continue.{completion, completed, reach, reach_good, reach_run, fronts}
use Rattle.loop_parse.proofs.Continue.{Stuck, stuck_run, stuck_end}

abbrev pub start : List Symbol
start = Decls ∷ Want Main ∷ a_block []

abbrev Unbound : List Token → Reply ProgramTree → Type 0
Unbound ts r = Told (AtProgram ts) (λ st. run (Decls ∷ Want Main ∷ a_block st) ts) (λ us. ⊥ × DeepProgram ts us) (length ts) r

-- where a reading of the whole list stops
abbrev left_over : List Token → Option (List Token)
left_over [] = None
left_over (t ∷ ts) = Some (t ∷ ts)

abbrev pub stop_of : Reply ProgramTree → Option (List Token)
stop_of (Err (Form us)) = Some us
stop_of (Err (Deep us)) = Some us
stop_of (Ok x) = left_over x.1

run_left : (ts : List Token) → run [] ts ≡ left_over ts
run_left [] = refl
run_left (t ∷ ts) = refl

run_told : (ts : List Token) (r : Reply ProgramTree) → Unbound ts r → run start ts ≡ stop_of r
run_told ts (Err (Form us)) h = h []
run_told ts (Err (Deep us)) h = absurd h.0.0
run_told ts (Ok x) h = h.2 [] ∙ run_left x.1

abbrev pub whole_read : List Token → Reply ProgramTree
whole_read ts = Reading.program unlimited (length ts) ts

whole_told : (ts : List Token) (r : Reply ProgramTree) → whole_read ts ≡ r → Unbound ts r
whole_told ts r e = subst (λ (q : Reply ProgramTree). Unbound ts q) e (program_law unlimited ⊥ unlimited_base (length ts) ts (omega arith)).told

pub run_is : (ts : List Token) → run start ts ≡ stop_of (whole_read ts)
run_is ts = run_told ts (whole_read ts) (whole_told ts (whole_read ts) refl)

is_program : (ts : List Token) (b : ProgramTree) → AtProgram ts b [] → IsProgram ts b
is_program ts b h = record { decls = h.ds; body = h.body; fits = h.fits; tree = h.tree }

pub program_of : (ts : List Token) (b : ProgramTree) → whole_read ts ≡ Ok (b, []) → IsProgram ts b
program_of ts b e = is_program ts b (whole_told ts (Ok (b, [])) e).0

found : (ts : List Token) → run start ts ≡ None → (b : ProgramTree) × IsProgram ts b
found ts h = go (whole_read ts) refl (sym (run_is ts) ∙ h)
  where
    at : (b : ProgramTree) (us : List Token) → whole_read ts ≡ Ok (b, us) → stop_of (Ok (b, us)) ≡ None → (b : ProgramTree) × IsProgram ts b
    at b [] e k = (b, program_of ts b e)
    at b (t ∷ us) e k = cc

    go : (r : Reply ProgramTree) → whole_read ts ≡ r → stop_of r ≡ None → (b : ProgramTree) × IsProgram ts b
    go (Err (Form us)) e k = cc
    go (Err (Deep us)) e k = cc
    go (Ok x) e k = at x.0 x.1 e k

-- what is a program is read, with its tree
pub program_read : {ts : List Token} {b : ProgramTree} → IsProgram ts b → whole_read ts ≡ Ok (b, [])
program_read {ts} {b} z = go (whole_answers z)
  where
    whole_answers : IsProgram ts b → (whole_read ts ≡ Ok (tree_from z.decls z.body, [])) ⊎ ((us : List Token) × (whole_read ts ≡ Err (Deep us)) × (length {A = Token} [] < length us))
    whole_answers _ = (program_answers unlimited ⊥ unlimited_answers (length ts) z.decls z.body ts (Full []) (omega arith) (whole z.fits)).says

    go : (whole_read ts ≡ Ok (tree_from z.decls z.body, [])) ⊎ ((us : List Token) × (whole_read ts ≡ Err (Deep us)) × (length {A = Token} [] < length us)) → whole_read ts ≡ Ok (b, [])
    go (inl e) = e ∙ ap (λ (p : ProgramTree). Ok (p, [])) (sym z.tree)
    go (inr d) = absurd (whole_told ts (Err (Deep d.0)) d.1).0.0

pub no_stop : {ts : List Token} {b : ProgramTree} → IsProgram ts b → run start ts ≡ None
no_stop {ts} {b} z = run_is ts ∙ ap stop_of (program_read z)

nothing_after : (ts : List Token) → ts ++ [] ≡ ts
nothing_after [] = refl
nothing_after (t ∷ ts) = ap (λ us. t ∷ us) (nothing_after ts)

front_begins : (front : List Token) (state : List Symbol) → reach start front ≡ Some state → Begins front
front_begins front state r =
    let g = reach_good front start state refl r in
    let f = found (front ++ completion state) (reach_run front (completion state) start state r ∙ completed state g) in
    (completion state, f.0, f.1)

none_continues : (front rest : List Token) (state : List Symbol) → reach start front ≡ Some state → Stuck state rest → NoneContinues front rest
none_continues front [] state r s = λ b z.
    let p : run start front ≡ Some [] = ap (run start) (sym (nothing_after front)) ∙ reach_run front [] start state r ∙ stuck_end state s in
    let q : run start front ≡ None = no_stop z in
    cc
none_continues front (t ∷ rest) state r s = λ x.
    let more = x.0 in
    let p : run start ((front ++ (t ∷ [])) ++ more) ≡ Some (t ∷ more) =
    ap (run start) (append_assoc front (t ∷ []) more) ∙ reach_run front (t ∷ more) start state r ∙ stuck_run state t more s in
    let q : run start ((front ++ (t ∷ [])) ++ more) ≡ None = no_stop x.2 in
    cc

pub form_fault : (ts rest : List Token) → run start ts ≡ Some rest → FormFault ts rest
form_fault ts rest h =
    let f = fronts ts rest start h in
    record { front = f.front; split = f.split; begins = front_begins f.front f.state f.reached; stuck = none_continues f.front rest f.state f.reached f.stuck }

-- the tree of a reply, or none
tree_read : Reply ProgramTree → ProgramTree
tree_read (Ok x) = x.0
tree_read (Err e) = record { tables = []; funcs = []; main = Last }

-- a list of tokens has one tree
pub one_tree : (ts : List Token) (a b : ProgramTree) → IsProgram ts a → IsProgram ts b → a ≡ b
unfolding tree_read
one_tree ts a b x y = ap tree_read (sym (program_read x) ∙ program_read y)

pub program_no_fault : (ts rest : List Token) (b : ProgramTree) → IsProgram ts b → FormFault ts rest → ⊥
program_no_fault ts [] b z f = f.stuck b (subst (λ (us : List Token). IsProgram us b) (f.split ∙ nothing_after f.front) z)
program_no_fault ts (t ∷ rest) b z f = f.stuck (rest, b, subst (λ (us : List Token). IsProgram us b) (f.split ∙ sym (append_assoc f.front (t ∷ []) rest)) z)

tail_of : List Token → List Token
tail_of [] = []
tail_of (t ∷ ts) = ts

split_more : (p rest q r : List Token) → p ++ rest ≡ q ++ r → length r < length rest → (t : Token) × (us x : List Token) × (rest ≡ t ∷ us) × (q ≡ (p ++ (t ∷ [])) ++ x)
unfolding tail_of
split_more [] rest [] r e l = absurd (omega (arith, ap length e))
split_more [] rest (t ∷ x) r e l = (t, x ++ r, x, e, refl)
split_more (u ∷ p) rest [] r e l = absurd (omega (arith, ap length e, length-append p rest))
split_more (u ∷ p) rest (v ∷ q) r e l =
    let k = split_more p rest q r (ap tail_of e) l in
    let same : u ≡ v = cc in
    (k.0, k.1, k.2, k.3, ap (λ z. v ∷ z) k.4 ∙ ap (λ z. z ∷ ((p ++ (k.0 ∷ [])) ++ k.2)) (sym same))

pub no_two_faults : {ts rest r : List Token} → FormFault ts rest → FormFault ts r → length r < length rest → ⊥
no_two_faults {ts} {rest} {r} f g l =
    let k = split_more f.front rest g.front r (sym f.split ∙ g.split) l in
    let more = g.begins.0 in
    stuck_at k.0 k.1 k.3 (k.2 ++ more, g.begins.1, subst (λ (us : List Token). IsProgram us g.begins.1) (ap (λ us. us ++ more) k.4 ∙ append_assoc (f.front ++ (k.0 ∷ [])) k.2 more) g.begins.2)
  where
    stuck_at : (t : Token) (us : List Token) → rest ≡ t ∷ us → Begins (f.front ++ (t ∷ [])) → ⊥
    stuck_at t us e b = (subst (λ (z : List Token). NoneContinues f.front z) e f.stuck) b

run_shorter : (ts : List Token) (s : List Symbol) (r : List Token) → run s ts ≡ Some r → length r ≤ length ts
run_shorter [] s r h = let p = fronts [] r s h in omega (arith, ap length p.split, length-append p.front r)
run_shorter (t ∷ ts) s r h = let p = fronts (t ∷ ts) r s h in omega (arith, ap length p.split, length-append p.front r)

-- where the machine takes a token, no program stops before it
pub fault_later : (ts us rest : List Token) → Past (run start ts) us → FormFault ts rest → length rest < length us
fault_later ts us rest p f = at (run p.2 p.1) refl
  where
    at : (o : Option (List Token)) → run p.2 p.1 ≡ o → length rest < length us
    at None e = absurd (program_no_fault ts rest (found ts (p.4 ∙ e)).0 (found ts (p.4 ∙ e)).1 f)
    at (Some r) e =
        let g = form_fault ts r (p.4 ∙ e) in
        let l = run_shorter p.1 p.2 r e in
        later (no_two_faults f g) (omega (arith, ap length p.3))
      where
        later : (length r < length rest → ⊥) → length r < length us → length rest < length us
        later h k = go (nat_lt (length r) (length rest)) refl
          where
            go : (b : Bool) → nat_lt (length r) (length rest) ≡ b → length rest < length us
            go true q = absurd (h (grind (arith, nat_tests)))
            go false q = grind (arith, nat_tests)

-- where something is too deep, the reading is refused, there or before
pub deep_refused : (ts us : List Token) → DeepFault ts us → Deeps (Reading.program within (length ts) ts) us
deep_refused ts us d = (program_answers within (Unit {0}) within_answers (length ts) d.0 d.1 ts (Bad us) (omega arith) (bad d.2)).says tt

abbrev Bound : List Token → Reply ProgramTree → Type 0
Bound ts r = Told (AtProgram ts) (λ st. run (Decls ∷ Want Main ∷ a_block st) ts) (λ us. Unit {0} × DeepProgram ts us) (length ts) r

pub bound_told : (ts : List Token) (r : Reply ProgramTree) → Reading.program within (length ts) ts ≡ r → Bound ts r
bound_told ts r e = subst (λ (q : Reply ProgramTree). Bound ts q) e (program_law within (Unit {0}) within_base (length ts) ts (omega arith)).told

-- what is read within the limits is a program, and nothing in it is too deep
pub read_program : (ts : List Token) (b : ProgramTree) → Reading.program within (length ts) ts ≡ Ok (b, []) → IsProgram ts b
read_program ts b e = is_program ts b (bound_told ts (Ok (b, [])) e).0

pub shallow : (ts : List Token) → ((us : List Token) → Reading.program within (length ts) ts ≡ Err (Deep us) → ⊥) → (us : List Token) → DeepFault ts us → ⊥
shallow ts h us d = let x = deep_refused ts us d in h x.at x.is

pub fault_after : (ts : List Token) (b : ProgramTree) (t : Token) (us : List Token) → Reading.program within (length ts) ts ≡ Ok (b, t ∷ us) → FormFault ts (t ∷ us)
fault_after ts b t us e = form_fault ts (t ∷ us) ((bound_told ts (Ok (b, t ∷ us)) e).2 [])

pub fault_at : (ts us : List Token) → Reading.program within (length ts) ts ≡ Err (Form us) → FormFault ts us
fault_at ts us e = form_fault ts us ((bound_told ts (Err (Form us)) e) [])

pub deep_at : (ts us : List Token) → Reading.program within (length ts) ts ≡ Err (Deep us) → DeepFault ts us × ((vs : List Token) → DeepFault ts vs → length vs ≤ length us) × ((rest : List Token) → FormFault ts rest → length rest < length us)
deep_at ts us e =
    let h = bound_told ts (Err (Deep us)) e in
    (h.0.1, λ vs d. let x = deep_refused ts vs d in let q : x.at ≡ us = cc in omega (arith, x.order, ap length q), λ rest f. fault_later ts us rest (h.1 []) f)
