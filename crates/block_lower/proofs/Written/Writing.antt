-- Where what was written at the end stands in a code, what was written before goes on there.
use Rattle.std.proofs.Common.{◌≡◌, ℕ, ◌+◌, ◌≤◌, List, [], ◌∷◌, ◌++◌, length, Some, refl, sym, ap}
use Rattle.std.proofs.Common.{subst, ◌∙◌, arith, append_assoc, append-nil}
use Rattle.tp_value.specs.declared.Place.{Place}
use Rattle.tp_value.specs.declared.TrapKind.{TrapKind}
use Rattle.loop_syntax.specs.declared.Expr.{Expr}
use Rattle.loop_rules.specs.Limits.{height}
use Rattle.loop_meaning.specs.InRange.{ExprInRange}
use Rattle.tpal_syntax.specs.declared.blocks.Block.{Block}
use Rattle.tpal_syntax.specs.declared.instructions.Instr.{Instr}
use Rattle.tpal_syntax.specs.declared.instructions.Term.{Term}
use Rattle.tpal_syntax.specs.declared.notes.Note.{Note}
use Rattle.tpal_syntax.specs.declared.notes.Note.TheVariants as note
use Rattle.tpal_syntax.specs.Listing.{Listing}
use Rattle.tpal_machine.specs.Reading.{block_at}
use Rattle.expr_lower.specs.declared.expression.Operation.{Operation}
use Rattle.expr_lower.specs.declared.scope.Scope.{Scope}
use Rattle.expr_lower.specs.Bodies.{body_of, traps_of, name_of, trap_block}
use Rattle.expr_lower.specs.Nodes.{IsNode, operation_height}
use Rattle.expr_lower.specs.Standing.{AreAt}
use Rattle.expr_lower.proofs.Standing.{front, back}
use Rattle.block_lower.specs.declared.output.Output.{Output}
use Rattle.scene_laws.specs.Code.{OpensAs, Opens}
use Rattle.block_lower.specs.Lowering.{WritesValue}
use Rattle.block_lower.specs.Writing.{label, next_label, IsEmpty, IsFresh, Pushes, Traps, Closes}
use Rattle.block_lower.specs.Writing.{Appends, Stands, Continues}
use Rattle.scene_laws.proofs.Scenes.Seeing.{visible_inside}
use Rattle.block_lower.proofs.Written.Standing.{stand_of}

-- the same block, named and put together in another way
pub reopened_as : (code : Listing) (a b : Note) (l m : ℕ) (xs ys : List Instr) (end : Term) → a ≡ b → l ≡ m → xs ≡ ys → OpensAs code a l xs end → OpensAs code b m ys end
reopened_as code a b l m xs ys end marked there same o = record {
  block = o.block;
  found = subst (λ (n : ℕ). block_at code n ≡ Some o.block) there o.found;
  noted = o.noted ∙ marked;
  body = o.body ∙ same;
  ends = o.ends;
}

pub reopened : (code : Listing) (l m : ℕ) (xs ys : List Instr) (end : Term) → l ≡ m → xs ≡ ys → Opens code l xs end → Opens code m ys end
reopened code l m xs ys end there same o = reopened_as code note.Plain note.Plain l m xs ys end refl there same o

pub pushed : (code : Listing) (old new : Output) (instrs more : List Instr) (end : Term) → Pushes instrs old new → Continues code new more end → Continues code old (instrs ++ more) end
pushed code old new instrs more end p c = record {
  closed = subst (λ (bs : List Block). AreAt code 0 bs) p.blocks c.closed;
  opens = reopened_as code new.note old.note (label new) (label old) (new.body.items ++ more) (old.body.items ++ (instrs ++ more)) end p.noted
      (ap (λ (bs : List Block). length bs) p.blocks)
      (ap (λ (is : List Instr). is ++ more) p.body ∙ append_assoc old.body.items instrs more)
      c.opens;
  traps = subst (λ (bs : List Block). AreAt code (label old + 1) bs) p.traps (subst (λ (bs : List Block). AreAt code (length bs + 1) new.traps.items) p.blocks c.traps);
}

-- a block that was closed
pub closed_block : (code : Listing) (old new : Output) (end : Term) → Closes end old new → Stands code new → Continues code old [] end
closed_block code old new end c stands =
    let block : Block = record { name = name_of (label old); note = old.note; body = old.body.items; term = end } in
    let all : AreAt code 0 (old.blocks.items ++ (block ∷ old.traps.items)) = subst (λ (bs : List Block). AreAt code 0 bs) c.blocks stands in
    let here : 0 + label old ≡ label old = omega arith in
    let rest : AreAt code (label old) (block ∷ old.traps.items) = subst (λ (n : ℕ). AreAt code n (block ∷ old.traps.items)) here (back code 0 old.blocks.items (block ∷ old.traps.items) all) in
    record {
      closed = front code 0 old.blocks.items (block ∷ old.traps.items) all;
      opens = record { block = block; found = rest.0; noted = refl; body = sym (append-nil old.body.items); ends = refl };
      traps = rest.1;
    }

-- where nothing is written in the open block yet, it is what follows
pub empty_opens : (code : Listing) (out : Output) (more : List Instr) (end : Term) → IsEmpty out → Continues code out more end → OpensAs code out.note (label out) more end
empty_opens code out more end empty c =
    reopened_as code out.note out.note (label out) (label out) (out.body.items ++ more) more end refl refl (ap (λ (is : List Instr). is ++ more) empty.body) c.opens

pub fresh_opens : (code : Listing) (out : Output) (more : List Instr) (end : Term) → IsFresh out → Continues code out more end → Opens code (label out) more end
fresh_opens code out more end fresh c =
    reopened_as code out.note note.Plain (label out) (label out) (out.body.items ++ more) more end fresh.plain refl (ap (λ (is : List Instr). is ++ more) fresh.body) c.opens

pub fresh_empty : (out : Output) → IsFresh out → IsEmpty out
fresh_empty out fresh = record { body = fresh.body; traps = fresh.traps }

-- blocks that were appended
pub appended : (code : Listing) (old new : Output) (more : List Block) → Appends more old new → Stands code new → Stands code old × AreAt code (label old) more
appended code old new more a stands =
    let all : AreAt code 0 (old.blocks.items ++ more) = subst (λ (bs : List Block). AreAt code 0 bs) a.blocks stands in
    let here : 0 + label old ≡ label old = omega arith in
    (front code 0 old.blocks.items more all, subst (λ (n : ℕ). AreAt code n more) here (back code 0 old.blocks.items more all))

-- the code of an expression, with its trap blocks
pub value_written : (scope : Scope) (e : Expr) (r : ℕ) (old new : Output) → new.blocks.items ≡ old.blocks.items → new.body.items ≡ old.body.items ++ body_of scope (next_label old) e r → new.traps.items ≡ old.traps.items ++ traps_of (next_label old) e
    → new.note ≡ old.note → r + height e ≤ 24 → ExprInRange e → WritesValue scope e r old new
value_written scope e r old new blocks body traps noted low ranged code act names registers more last sees visible c =
    let instrs : List Instr = body_of scope (next_label old) e r in
    let own : List Block = traps_of (next_label old) e in
    let all : AreAt code (label old + 1) (old.traps.items ++ own) =
    subst (λ (bs : List Block). AreAt code (label old + 1) bs) traps (subst (λ (bs : List Block). AreAt code (length bs + 1) new.traps.items) blocks c.traps) in
    record {
      instrs = instrs ++ more;
      end = last;
      continues = record {
        closed = subst (λ (bs : List Block). AreAt code 0 bs) blocks c.closed;
        opens = reopened_as code new.note old.note (label new) (label old) (new.body.items ++ more) (old.body.items ++ (instrs ++ more)) last noted
            (ap (λ (bs : List Block). length bs) blocks)
            (ap (λ (is : List Instr). is ++ more) body ∙ append_assoc old.body.items instrs more)
            c.opens;
        traps = front code (label old + 1) old.traps.items own all;
      };
      told = (
        refl,
        record {
          scope = scope;
          sees = sees.sees;
          kept = stand_of sees;
          inside = visible_inside scope names act.tables sees.sees e visible;
          low = low;
          ranged = ranged;
          first = next_label old;
          body = refl;
          traps = back code (label old + 1) old.traps.items own all;
        },
      );
    }

-- the same of an operation
pub operation_written : (scope : Scope) (o : Operation) (e : Expr) (r : ℕ) (old new : Output)
    → IsNode o e → new.blocks.items ≡ old.blocks.items
    → new.body.items ≡ old.body.items ++ body_of scope (next_label old) e r
    → new.traps.items ≡ old.traps.items ++ traps_of (next_label old) e
    → new.note ≡ old.note → r + operation_height o ≤ 24
    → ExprInRange o.left.now × ExprInRange o.right.now → WritesValue scope e r old new
operation_written scope o e r old new node blocks body traps noted low ranged =
    value_written scope e r old new blocks body traps noted
    (subst (λ (x : Expr). r + height x ≤ 24) (sym node.is) low)
    (subst ExprInRange (sym node.is) ranged)

-- a trap block that was appended
pub trapped : (code : Listing) (old new : Output) (kind : TrapKind) (place : Place) (more : List Instr) (end : Term) → Traps kind place old new → Continues code new more end
    → Continues code old more end × AreAt code (next_label old) (trap_block (next_label old) kind place ∷ [])
trapped code old new kind place more end t c =
    let own : List Block = trap_block (next_label old) kind place ∷ [] in
    let all : AreAt code (label old + 1) (old.traps.items ++ own) =
    subst (λ (bs : List Block). AreAt code (label old + 1) bs) t.traps (subst (λ (bs : List Block). AreAt code (length bs + 1) new.traps.items) t.blocks c.traps) in (
      record {
        closed = subst (λ (bs : List Block). AreAt code 0 bs) t.blocks c.closed;
        opens = reopened_as code new.note old.note (label new) (label old) (new.body.items ++ more) (old.body.items ++ more) end t.noted (ap (λ (bs : List Block). length bs) t.blocks) (ap (λ (is : List Instr). is ++ more) t.body) c.opens;
        traps = front code (label old + 1) old.traps.items own all;
      },
      back code (label old + 1) old.traps.items own all,
    )
