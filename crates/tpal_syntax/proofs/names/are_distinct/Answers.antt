use Rattle.std.proofs.Common.{◌≡◌, Bool, [], false, true, not, sym, ◌∙◌, refl, arith}
use Rattle.std.proofs.lemmas.Bool.{false≢true}
use Rattle.tpal_syntax.proofs.Distinct.{Seen-more, Seen-all, Seen-twice}
use Rattle.tpal_syntax.proofs.names.are_distinct.Goals as goal

-- what a test that was turned round says
had : (b : Bool) → false ≡ not b → b ≡ true
had true e = refl
had false e = absurd (false≢true e)

new : (b : Bool) → true ≡ not b → b ≡ false
new true e = absurd (false≢true (sym e))
new false e = refl

pub returns-then-not-branch : goal.returns-then-not-branch
returns-then-not-branch c = (
  λ e. absurd (false≢true e),
  λ distinct. absurd (
      Seen-twice c.args.names.now c.loop-name.name-index c.loop-name.seen record { ref_ptr = (0, 0); now = [] } (omega arith) (had _ (sym c.if-not-branch.true ∙ c.in_ok-insert.ensures.added)) c.loop-name.invariant distinct),
)

pub loop-name-preserved : goal.loop-name-preserved
loop-name-preserved c =
    Seen-more c.args.names.now c.loop-name.name-index c.loop-name.seen c.insert.new.self record { ref_ptr = (0, 0); now = [] } (omega arith) (new _ (sym c.if-not-branch.false ∙ c.in_ok-insert.ensures.added)) c.in_ok-insert.ensures.updates c.loop-name.invariant

pub returns : goal.returns
returns c = (λ e. Seen-all c.args.names.now c.loop-name.name-index c.loop-name.seen (omega arith) c.loop-name.invariant, λ distinct. refl)
