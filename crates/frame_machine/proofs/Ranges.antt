-- The iterations of a range that is cut: what each part touches, and that both joined are the whole.
use Rattle.frame_machine.proofs.Bends.{Bend, Goes, Keeps, bent, keeps_lookup, keeps_trans}
use Rattle.frame_machine.proofs.Bends.{lookup_declare}
use Rattle.frame_machine.proofs.Following.{Joined, after_assoc, after_goes, goes_done, joined_from}
use Rattle.frame_machine.proofs.Guarding.{Guards, kept_iterate}
use Rattle.frame_machine.proofs.Guards.{Owned, kept_call, kept_list}
use Rattle.frame_machine.proofs.Moves.{moves_list}
use Rattle.frame_machine.proofs.Moving.{Moves, Near, moves_iterate}
use Rattle.frame_machine.proofs.MovingCalls.{near_call}
use Rattle.frame_machine.proofs.Owning.{Clear, Owns, OwnsAt}
use Rattle.frame_machine.proofs.Tables.{agree_trans}
use Rattle.frame_machine.specs.Bodies.{FuncsKeep, ListKeeps, Unreduced}
use Rattle.frame_machine.specs.Joins.{names_of}
use Rattle.frame_machine.specs.Modes.{AllOfLine, AllOfModes, Closed, Fixed, Line, Mode, Modes}
use Rattle.frame_machine.specs.Modes.{Named, OwnCell, OwnRow, Whole}
use Rattle.frame_machine.specs.Parts.{AgreeOn, Below, From, NotesKeep, Outside, Seen, SeenAt}
use Rattle.frame_machine.specs.Parts.{Written, WrittenAt, line_value}
use Rattle.loop_meaning.proofs.Runs.{after_alike, alike_back, alike_refl, alike_trans}
use Rattle.loop_meaning.specs.Calls.{call_at}
use Rattle.loop_meaning.specs.Ends.{EndAlike}
use Rattle.loop_meaning.specs.State.{Note, Ran, State, after, declare, done, lookup}
use Rattle.loop_meaning.specs.Statements.{iterate, iteration, run_list}
use Rattle.loop_meaning.specs.declared.value.Variable.{Variable}
use Rattle.loop_rules.specs.Names.{is_in}
use Rattle.loop_syntax.specs.declared.Func.{Func}
use Rattle.loop_syntax.specs.declared.Reduce.{Reduce}
use Rattle.loop_syntax.specs.declared.Stmt.{Stmt}
use Rattle.std.proofs.Common.{Bool, List, [], ap, arith, bytes_eq, cond, false, length, pos, refl}
use Rattle.std.proofs.Common.{subst, suc, sym, true, zero, ℕ, ℤ, ◌+ℤ◌, ◌+◌, ◌∙◌, ◌∷◌, ◌≡◌, ◌≤ℤ◌}
use Rattle.std.proofs.Common.{◌≤◌}
use Rattle.std.proofs.lemmas.Int.{ints}
use Rattle.std.proofs.lemmas.List.{append-nil}
use Rattle.std.proofs.lemmas.Slice.Eq.{bytes_eq-Decides}
use Rattle.std.specs.Prelude.{⊤}
use Rattle.tp_value.specs.declared.Table.{Table}
use Rattle.tp_value.specs.declared.Stop.TheVariants.{Done}

-- the same variables, of which the fixed ones have the same values
pub record Around (F : List ℕ → Type 0) (vs us : List Variable) : Type 0 where
  pub keeps : Keeps F vs us
  pub size : length us ≡ length vs

pub around_survives : (F : List ℕ → Type 0) (vs us ws : List Variable) → Keeps F us ws → length ws ≡ length us → Around F vs us → Around F vs ws
around_survives F vs us ws k l a = record { keeps = keeps_trans F vs us ws a.keeps k; size = l ∙ a.size }

-- the variable of the loop isn't visible before it
pub lookup_fresh : (F : List ℕ → Type 0) (vs us : List Variable) (x : List ℕ) (i : ℤ) → is_in (names_of vs) x ≡ false → Keeps F vs us → length us ≡ length vs → lookup (declare us x i) x ≡ i
lookup_fresh F [] [] x i f k l = self (bytes_eq x x) refl
  where
    self : (b : Bool) → bytes_eq x x ≡ b → cond b i (pos 0) ≡ i
    self true e = refl
    self false e = absurd (let z : true ≡ false = sym ((bytes_eq-Decides x x).1 refl) ∙ e in cc)
lookup_fresh F [] (u ∷ us) x i f k l = absurd (omega (arith, l))
lookup_fresh F (v ∷ vs) [] x i f k l = absurd k
lookup_fresh F (v ∷ vs) (u ∷ us) x i f k l = go (bytes_eq v.name x) refl (λ f2. lookup_fresh F vs us x i f2 k.2 (omega (arith, l)))
  where
    go : (b : Bool) → bytes_eq v.name x ≡ b → (is_in (names_of vs) x ≡ false → lookup (declare us x i) x ≡ i) → lookup (declare (u ∷ us) x i) x ≡ i
    go true e r = absurd (let z : true ≡ false = (rw e at f) in cc)
    go false e r =
        let e2 : bytes_eq u.name x ≡ false = ap (λ y. bytes_eq y x) k.0 ∙ e in
        let f2 : is_in (names_of vs) x ≡ false = rw e at f in
        rw e2 (r f2)

-- the mode is of a loop over x, and the variable of its row is fixed and another
abbrev pub Over : (List ℕ → Type 0) → List ℕ → Mode → Type 0
Over F x Whole = ⊤
Over F x Closed = ⊤
Over F x (OwnRow z) = z ≡ x
Over F x (OwnCell k z) = (z ≡ x) × AllOfLine F k × AllOfLine (λ y. x ≡ y → ⊥) k

line_around : (F : List ℕ → Type 0) (vs us : List Variable) (x : List ℕ) (i : ℤ) (k : Line) → AllOfLine F k → AllOfLine (λ y. x ≡ y → ⊥) k → Around F vs us → line_value k (declare us x i) ≡ line_value k vs
line_around F vs us x i (Named y) f g a = lookup_declare us x y i g ∙ keeps_lookup F vs us y a.keeps a.size f
line_around F vs us x i (Fixed n) f g a = refl

seen_owns : (P : ℤ → Type 0) (F : List ℕ → Type 0) (vs us : List Variable) (x : List ℕ) (i : ℤ) (md : Mode) → Over F x md → is_in (names_of vs) x ≡ false → P i → Around F vs us → OwnsAt (SeenAt P vs md) md (declare us x i)
seen_owns P F vs us x i Whole o f p a = tt
seen_owns P F vs us x i Closed o f p a = tt
seen_owns P F vs us x i (OwnRow z) o f p a = λ j. subst P (sym (ap (lookup (declare us x i)) o ∙ lookup_fresh F vs us x i f a.keeps a.size)) p
seen_owns P F vs us x i (OwnCell k z) o f p a = (line_around F vs us x i k o.1 o.2 a, subst P (sym (ap (lookup (declare us x i)) o.0 ∙ lookup_fresh F vs us x i f a.keeps a.size)) p)

written_owns : (P : ℤ → Type 0) (F : List ℕ → Type 0) (vs us : List Variable) (x : List ℕ) (i : ℤ) (md : Mode) → Over F x md → is_in (names_of vs) x ≡ false → P i → Around F vs us → OwnsAt (WrittenAt P vs md) md (declare us x i)
written_owns P F vs us x i Whole o f p a = tt
written_owns P F vs us x i Closed o f p a = tt
written_owns P F vs us x i (OwnRow z) o f p a = λ j. subst P (sym (ap (lookup (declare us x i)) o ∙ lookup_fresh F vs us x i f a.keeps a.size)) p
written_owns P F vs us x i (OwnCell k z) o f p a = (line_around F vs us x i k o.1 o.2 a, subst P (sym (ap (lookup (declare us x i)) o.0 ∙ lookup_fresh F vs us x i f a.keeps a.size)) p)

-- what one part sees, the other one doesn't write
apart : (P Q : ℤ → Type 0) → ((i : ℤ) → P i → Q i → ⊥) → (vs : List Variable) (md : Mode) (i j : ℤ) → SeenAt P vs md i j → WrittenAt Q vs md i j → ⊥
apart P Q f vs Whole i j p q = q
apart P Q f vs Closed i j p q = q
apart P Q f vs (OwnRow x) i j p q = f i p q
apart P Q f vs (OwnCell k x) i j p q = f j p.1 q.1

seen_clear : (P : ℤ → Type 0) (vs : List Variable) (m : Modes) → Clear (Seen P vs m) m
seen_clear P vs m y e i j = subst (λ md. SeenAt P vs md i j) (sym e) tt

from_next : (c i : ℤ) → From c i → From c (i +ℤ pos 1)
from_next c i p = omega (arith, ints, p)

from_below : (c i : ℤ) → From c i → Below c i → ⊥
from_below c i p q = omega (arith, ints, p, q)

-- so what the lower part leaves is what was there, where the upper part may see it
pub seen_spared : (c : ℤ) (vs : List Variable) (m : Modes) (us ws : List Table) → AgreeOn (Outside (Written (Below c) vs m)) us ws → AgreeOn (Seen (From c) vs m) us ws
seen_spared c vs m us ws k y = record {
  rows = (k y).rows;
  cols = (k y).cols;
  size = (k y).size;
  cells = λ j l p. (k y).cells j l (λ q. apart (From c) (Below c) (from_below c) vs (m y) j l p q);
}

-- n iterations from i on end before c
abbrev LeftBelow : ℤ → ℕ → ℤ → Type 0
LeftBelow c n i = (i +ℤ pos n) ≤ℤ c

left_next : (c : ℤ) (n : ℕ) (i : ℤ) → LeftBelow c (suc n) i → LeftBelow c n (i +ℤ pos 1)
left_next c n i p = omega (arith, ints, p)

left_below : (c : ℤ) (n : ℕ) (i : ℤ) → LeftBelow c (suc n) i → Below c i
left_below c n i p = omega (arith, ints, p)

module _ (fuel : ℕ) (x : List ℕ) (body : State → Ran) where
  none : (i : ℤ) (s : State) → iterate fuel x body [] [] 0 i s ≡ done s
  unfolding iterate
  none i s = refl

  one : (n : ℕ) (i : ℤ) (s : State) → iterate fuel x body [] [] (suc n) i s ≡ after (iteration fuel x body [] i s) (iterate fuel x body [] [] n (i +ℤ pos 1))
  unfolding iterate
  one n i s = refl

  -- the iterations are the lower ones and then the upper ones
  pub iterate_split : (m n : ℕ) (i : ℤ) (s : State) → EndAlike (iterate fuel x body [] [] (m + n) i s) (after (iterate fuel x body [] [] m i s) (iterate fuel x body [] [] n (i +ℤ pos m)))
  iterate_split zero n i s =
      let q : 0 + n ≡ n = omega arith in
      let r : i +ℤ pos 0 ≡ i = omega (arith, ints) in
      rw (q, r, none i s) (record { stop = refl; state = refl })
  iterate_split (suc m) n i s =
      let q : suc m + n ≡ suc (m + n) = omega arith in
      let r : i +ℤ pos (suc m) ≡ (i +ℤ pos 1) +ℤ pos m = omega (arith, ints) in
      rw (q, r, one (m + n) i s, one m i s)
      (alike_trans
      (after_alike (iteration fuel x body [] i s) (iteration fuel x body [] i s) _ _ (alike_refl _) (iterate_split m n (i +ℤ pos 1)))
      (alike_back (after_assoc (iteration fuel x body [] i s) (iterate fuel x body [] [] m (i +ℤ pos 1)) (iterate fuel x body [] [] n ((i +ℤ pos 1) +ℤ pos m)))))

-- ---- the law

-- what the law asks of a loop over x, where vs are the variables round it and m the modes in its body
pub record Cut (fs : List Func) (x : List ℕ) (rs : List Reduce) (body : List Stmt) (F Safe : List ℕ → Type 0) (m : Modes) (vs : List Variable) : Type 0 where
  pub fresh : is_in (names_of vs) x ≡ false
  pub plain : Unreduced rs x
  pub over : (y : List ℕ) → Over F x (m y)
  pub held : AllOfModes F m
  pub fine : ListKeeps rs Safe F rs m body
  pub safe : FuncsKeep Safe m fs

module _ (fs : List Func) (fuel room : ℕ) (x : List ℕ) (rs : List Reduce) (body : List Stmt) where
  abbrev pub act : State → Ran
  act s = run_list (record { reduces = rs; fuel = fuel; call = call_at fs fuel room }) body s

  -- the iterations, without what is noted where they begin
  abbrev pub loop : ℕ → ℤ → State → Ran
  loop n i = iterate fuel x act [] [] n i

  module _ (h : Bend) (goes : Goes rs h) (F Safe : List ℕ → Type 0) (m : Modes) (vs : List Variable) (rules : Cut fs x rs body F Safe m vs) where
    -- iterations before c touch only cells of numbers before c
    pub lower_guards : (c : ℤ) (n : ℕ) (again ns : List Note) (i : ℤ) → NotesKeep (Seen (Below c) vs m) (Written (Below c) vs m) again → NotesKeep (Seen (Below c) vs m) (Written (Below c) vs m) ns → (i +ℤ pos n) ≤ℤ c → Guards (Seen (Below c) vs m) (Written (Below c) vs m) F (Around F vs) (iterate fuel x act again ns n i)
    lower_guards c n again ns i p q r =
        kept_iterate (Seen (Below c) vs m) (Written (Below c) vs m) F (Around F vs) (Owned (Seen (Below c) vs m) (Written (Below c) vs m) m) (around_survives F vs) (LeftBelow c) (left_next c) fuel x act
        (λ k j l us a. (λ y. seen_owns (Below c) F vs us x j (m y) (rules.over y) rules.fresh (left_below c k j l) a, λ y. written_owns (Below c) F vs us x j (m y) (rules.over y) rules.fresh (left_below c k j l) a))
        (kept_list (Seen (Below c) vs m) (Written (Below c) vs m) rs Safe fuel (call_at fs fuel room) (kept_call (Seen (Below c) vs m) (Written (Below c) vs m) m (seen_clear (Below c) vs m) Safe fs fuel rules.safe room) F rs m (seen_clear (Below c) vs m) rules.held body rules.fine)
        n again ns i p q r

    -- iterations from c on touch only cells of numbers from c on
    pub upper_guards : (c : ℤ) (n : ℕ) (again ns : List Note) (i : ℤ) → NotesKeep (Seen (From c) vs m) (Written (From c) vs m) again → NotesKeep (Seen (From c) vs m) (Written (From c) vs m) ns → c ≤ℤ i → Guards (Seen (From c) vs m) (Written (From c) vs m) F (Around F vs) (iterate fuel x act again ns n i)
    upper_guards c n again ns i p q r =
        kept_iterate (Seen (From c) vs m) (Written (From c) vs m) F (Around F vs) (Owned (Seen (From c) vs m) (Written (From c) vs m) m) (around_survives F vs) (λ k j. From c j) (λ k j l. from_next c j l) fuel x act
        (λ k j l us a. (λ y. seen_owns (From c) F vs us x j (m y) (rules.over y) rules.fresh l a, λ y. written_owns (From c) F vs us x j (m y) (rules.over y) rules.fresh l a))
        (kept_list (Seen (From c) vs m) (Written (From c) vs m) rs Safe fuel (call_at fs fuel room) (kept_call (Seen (From c) vs m) (Written (From c) vs m) m (seen_clear (From c) vs m) Safe fs fuel rules.safe room) F rs m (seen_clear (From c) vs m) rules.held body rules.fine)
        n again ns i p q r

    -- and do the same from a state of the upper part as from one of the whole
    pub upper_moves : (t : ℕ) (o : List ℕ) (c : ℤ) (n : ℕ) (i : ℤ) → c ≤ℤ i → Moves fuel t o (Seen (From c) vs m) h F (Around F vs) (loop n i)
    upper_moves t o c n i q =
        moves_iterate fuel t o (Seen (From c) vs m) h F (Around F vs) (Owns (Seen (From c) vs m) m) (around_survives F vs) (From c) (from_next c) x act (goes.plain x rules.plain)
        (λ j p us a y. seen_owns (From c) F vs us x j (m y) (rules.over y) rules.fresh p a)
        (moves_list fuel t o (Seen (From c) vs m) rs h goes Safe (call_at fs fuel room) (near_call fuel t o (Seen (From c) vs m) m (seen_clear (From c) vs m) Safe fs rules.safe room) F rs m (seen_clear (From c) vs m) rules.held body rules.fine) n [] [] i q

    module _ (a b : ℕ) (i : ℤ) (s u : State) where
      abbrev pub middle : ℤ
      middle = i +ℤ pos a

      abbrev pub low : Ran
      low = loop a i s

      abbrev pub up : Ran
      up = loop b (i +ℤ pos a) u

      abbrev pub whole : Ran
      whole = loop (a + b) i s

      -- where the upper part begins: the same variables round the loop, with what h makes the whole's; the tables that the
      -- carries give it; no output and no ticks
      pub record Begins : Type 0 where
        pub within : s.ticks ≤ fuel
        pub around : Around F vs s.vars
        pub upper : Around F vs u.vars
        pub given : AgreeOn (Seen (From middle) vs m) u.tables s.tables
        pub output : u.output ≡ []
        pub ticks : u.ticks ≡ 0
        pub vars : low.stop ≡ Done → low.state.vars ≡ bent h u.vars

      near : Begins → low.stop ≡ Done → Near fuel low.state.ticks low.state.output (Seen (From middle) vs m) h (Around F vs) u low.state
      near g e =
          let l = (lower_guards middle a [] [] i tt tt (omega (arith, ints)) s g.around).leaves (goes_done e) in
          record {
            vars = g.vars e;
            claim = g.upper;
            base = record {
              tables = agree_trans (Seen (From middle) vs m) u.tables s.tables low.state.tables g.given (seen_spared middle vs m s.tables low.state.tables l.tables);
              output = sym (rw g.output (append-nil low.state.output));
              ticks = rw g.ticks (omega arith);
              fits = ((upper_moves 0 [] i a i (omega (arith, ints))).later s).keeps g.within (goes_done e);
            };
          }

      pub range_joined : Begins → Joined fuel (Near fuel low.state.ticks low.state.output (Seen (From middle) vs m) h (Around F vs)) low up whole
      range_joined g =
          let e = iterate_split fuel x act a b i s in
          let j = joined_from fuel (Near fuel low.state.ticks low.state.output (Seen (From middle) vs m) h (Around F vs)) low (loop b middle) u
          (λ d. (upper_moves low.state.ticks low.state.output middle b middle (omega (arith, ints))).near u low.state (near g d)) in
          record {
            stop = e.stop ∙ j.stop;
            ticks = ap (λ z. z.ticks) e.state ∙ j.ticks;
            merged = λ d. subst (λ w. Near fuel low.state.ticks low.state.output (Seen (From middle) vs m) h (Around F vs) up.state w) (sym e.state) (j.merged (sym e.stop ∙ d));
          }

      -- in all cells but those of the upper part the tables of the whole are those of the lower part
      pub range_lower : Begins → low.stop ≡ Done → whole.stop ≡ Done → AgreeOn (Outside (Written (From middle) vs m)) low.state.tables whole.state.tables
      range_lower g e d =
          let w = iterate_split fuel x act a b i s in
          let f = after_goes low (loop b middle) e in
          let l = (lower_guards middle a [] [] i tt tt (omega (arith, ints)) s g.around).leaves (goes_done e) in
          let k = (upper_guards middle b [] [] middle tt tt (omega (arith, ints)) low.state l.claim).leaves (goes_done (sym f.stop ∙ sym w.stop ∙ d)) in
          subst (λ z. AgreeOn (Outside (Written (From middle) vs m)) low.state.tables z.tables) (sym (w.state ∙ f.state)) k.tables
