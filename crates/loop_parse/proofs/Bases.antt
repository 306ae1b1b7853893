-- The two limits of a reading: within them, and without.
use Rattle.std.proofs.Common.{◌≡◌, ℕ, ◌<◌, ◌≤◌, List, ◌∷◌, length, drop, Ok, Err, Bool, true, false}
use Rattle.std.proofs.Common.{◌⊎◌, inl, inr, nat_le, if◌then◌else◌, refl, sym, ap, subst, arith}
use Rattle.std.proofs.lemmas.Bool.Decides.{nat_tests}
use Rattle.tp_value.specs.declared.values.Place.{Place}
use Rattle.loop_parse.specs.declared.terminal.Fixed.TheVariants.{OpenBrace}
use Rattle.loop_parse.specs.Terms.{Token, Is}
use Rattle.loop_parse.specs.Grammar.{ABrace, Fits, an_expr, a_brace, here, deep_brace, DeepIn}
use Rattle.loop_parse.specs.Reading.{Reply, Form, Deep, ◌>>=◌, expect, Limits, within, unlimited}
use Rattle.loop_parse.specs.Reading
use Rattle.loop_parse.proofs.Machine.{Want, run}
use Rattle.loop_parse.proofs.Exact.{Ends, done, bind, weaken, deeper, expects, AtFixed, expr_law}
use Rattle.loop_parse.proofs.Complete.{expect_at, bind_at, expr_read}
use Rattle.loop_parse.proofs.Outer.{outer_law}
use Rattle.loop_parse.proofs.Limits.{outer_reads, outer_long}
use Rattle.loop_parse.proofs.Items.{long_in}
use Rattle.loop_parse.proofs.Sound.{Base}
use Rattle.loop_parse.proofs.Answering.{Deeps, BaseAnswers}

le32 : (level : ℕ) → nat_le 32 level ≡ true → 32 ≤ level
le32 level h = grind (arith, nat_tests)

is32 : (level : ℕ) → 32 ≤ level → nat_le 32 level ≡ true
is32 level h = grind (arith, nat_tests)

brace_fits : (level : ℕ) (ts : List Token) (p : Place) (rest : List Token) → AtFixed OpenBrace ts p rest → Fits (ABrace level) ts rest
brace_fits level ts p rest z = subst (λ (us : List Token). Fits (ABrace level) us rest) (sym z.2) (a_brace z.1)

brace_in : (level : ℕ) (ts : List Token) (p : Place) (rest : List Token) → 32 ≤ level → AtFixed OpenBrace ts p rest → DeepIn (ABrace level) ts ts
brace_in level ts p rest l z =
    subst (λ (us : List Token). DeepIn (ABrace level) us us) (sym z.2) (record { what = ABrace level; at = z.0 ∷ rest; comes = here; is_deep = deep_brace l z.1 refl })

within_brace : (level : ℕ) (ts : List Token) → Ends (λ (p : Place) rest. Fits (ABrace level) ts rest) (λ st. run (Want OpenBrace ∷ st) ts) (λ us. Unit {0} × DeepIn (ABrace level) ts us) (length ts) (Reading.open_brace within level ts)
unfolding Reading.open_brace
within_brace level ts = bind (λ st. st) _ (λ st. refl) (expects OpenBrace ts) (λ p rest z l. go p rest z l (nat_le 32 level) refl)
  where
    go : (p : Place) (rest : List Token) → AtFixed OpenBrace ts p rest → length rest < length ts → (b : Bool) → nat_le 32 level ≡ b →
        Ends (λ (q : Place) r. Fits (ABrace level) ts r) (λ st. run st rest) (λ us. Unit {0} × DeepIn (ABrace level) ts us) (length ts) (if b then Err (Deep ts) else Ok (p, rest))
    go p rest z l true h = record { told = ((tt, brace_in level ts p rest (le32 level h) z), λ st. (z.0, rest, st, z.2, refl)) }
    go p rest z l false h = done (brace_fits level ts p rest z) l (λ st. refl)

pub within_base : Base within (Unit {0})
within_base = record {
  expr_law = λ n ts l. deeper (λ us d. (tt, long_in d)) (weaken (λ e rest z. an_expr z) (outer_law n ts l));
  brace_law = within_brace;
}

unlimited_brace : (level : ℕ) (ts : List Token) → Ends (λ (p : Place) rest. Fits (ABrace level) ts rest) (λ st. run (Want OpenBrace ∷ st) ts) (λ us. ⊥ × DeepIn (ABrace level) ts us) (length ts) (Reading.open_brace unlimited level ts)
unfolding Reading.open_brace
unlimited_brace level ts = bind (λ st. st) _ (λ st. refl) (expects OpenBrace ts) (λ p rest z l. done (brace_fits level ts p rest z) l (λ st. refl))

pub unlimited_base : Base unlimited ⊥
unlimited_base = record {
  expr_law = λ n ts l. deeper (λ us d. absurd d) (weaken (λ e rest z. an_expr z) (expr_law n ts l));
  brace_law = unlimited_brace;
}

within_reads : (level : ℕ) (o : Token) (ts : List Token) → Is OpenBrace o → (Reading.open_brace within level (o ∷ ts) ≡ Ok (o.place, ts)) ⊎ ((us : List Token) × (Reading.open_brace within level (o ∷ ts) ≡ Err (Deep us)) × (length ts < length us))
unfolding Reading.open_brace
within_reads level o ts i = go (nat_le 32 level) refl
  where
    go : (b : Bool) → nat_le 32 level ≡ b → (Reading.open_brace within level (o ∷ ts) ≡ Ok (o.place, ts)) ⊎ ((us : List Token) × (Reading.open_brace within level (o ∷ ts) ≡ Err (Deep us)) × (length ts < length us))
    go true h = inr (o ∷ ts, bind_at _ (expect_at OpenBrace o ts i) (ap (λ b. if b then Err (Deep (o ∷ ts)) else Ok (o.place, ts)) h), omega arith)
    go false h = inl (bind_at _ (expect_at OpenBrace o ts i) (ap (λ b. if b then Err (Deep (o ∷ ts)) else Ok (o.place, ts)) h))

within_deeps : (level : ℕ) (o : Token) (ts : List Token) → 32 ≤ level → Is OpenBrace o → Deeps (Reading.open_brace within level (o ∷ ts)) (o ∷ ts)
unfolding Reading.open_brace
within_deeps level o ts l i = record { at = o ∷ ts; is = bind_at _ (expect_at OpenBrace o ts i) (ap (λ b. if b then Err (Deep (o ∷ ts)) else Ok (o.place, ts)) (is32 level l)); order = omega arith }

pub within_answers : BaseAnswers within (Unit {0})
within_answers = record {
  expr_reads = λ n ts rest e z l s. outer_reads z n l s;
  expr_deeps = λ q n ts us l b. record { at = drop 256 ts; is = outer_long n ts l b.0 b.1; order = omega (arith, ap length b.2) };
  brace_reads = within_reads;
  brace_deeps = λ q level o ts l i. within_deeps level o ts l i;
}

unlimited_reads : (level : ℕ) (o : Token) (ts : List Token) → Is OpenBrace o → Reading.open_brace unlimited level (o ∷ ts) ≡ Ok (o.place, ts)
unfolding Reading.open_brace
unlimited_reads level o ts i = bind_at _ (expect_at OpenBrace o ts i) refl

pub unlimited_answers : BaseAnswers unlimited ⊥
unlimited_answers = record {
  expr_reads = λ n ts rest e z l s. inl (expr_read z n l s);
  expr_deeps = λ q n ts us l b. absurd q;
  brace_reads = λ level o ts i. inl (unlimited_reads level o ts i);
  brace_deeps = λ q level o ts l i. absurd q;
}
