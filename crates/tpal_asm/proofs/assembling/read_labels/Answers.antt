use Rattle.std.proofs.Common.{Bool, Some, None, sym, ap, ◌∙◌, arith}
use Rattle.tpal_asm.specs.Labels.{heads, place_of, with_head}
use Rattle.tpal_asm.proofs.HeaderLine.{header-said}
use Rattle.tpal_asm.proofs.Heads.{head_seen, with_read}
use Rattle.tpal_asm.proofs.Adding.{length-view}
use Rattle.tpal_asm.proofs.Loops.{headed-step, headed-end, headed-few, line-read}
use Rattle.tpal_asm.proofs.assembling.read_labels.Goals as goal

pub add-requires-clause-word : goal.add-requires-clause-word
add-requires-clause-word c =
    let k = c.in-Some.ensures.cases in
    let read = rw c.in-Some-2.is at c.in_ok-name.ensures.read in
    (header-said c.new-none.result.version (place_of (heads c.new-none.result.places)) k.0 c.in-Some.line.now c.in-Some-2.name.now c.in-Some-2.note k.1 read).word

pub add-requires-clause-room : goal.add-requires-clause-room
add-requires-clause-room c =
    omega (arith, headed-few c.args.version c.args.text.now c.loop-line.rest.now (heads c.loop-line.labels.places) c.loop-line.invariant.so_far, c.requires.bound, c.in-Some.ensures.shorter, length-view c.loop-line.labels.places.entries)

pub loop-line-preserved-in_ok-add : goal.loop-line-preserved-in_ok-add
loop-line-preserved-in_ok-add c =
    let hs = heads c.loop-line.labels.places in
    let k = c.in-Some.ensures.cases in
    let name = c.in-Some-2.name.now in
    let read = rw c.in-Some-2.is at c.in_ok-name.ensures.read in
    let line = line-read c.args.version c.new-none.result.version (heads c.new-none.result.places) c.in-Some.line.now k.0 (Some (name, c.in-Some-2.note)) c.loop-line.invariant.same c.loop-line.invariant.none k.1 read in
    record {
      none = c.loop-line.invariant.none;
      same = c.loop-line.invariant.same;
      version = c.in_ok-add.ensures.version ∙ c.loop-line.invariant.version;
      so_far = headed-step c.args.version c.args.text.now c.loop-line.rest.now k.0 c.in-Some.others.now hs (heads c.add.new.self.places) c.loop-line.invariant.so_far k.2 c.in-Some.ensures.shorter
          (c.in_ok-add.ensures.added ∙ ap (λ (b : Bool). with_head hs (name, b)) c.is_ready.ensures ∙ ap (with_read hs) (sym (ap head_seen line)));
    }

pub loop-line-preserved : goal.loop-line-preserved
loop-line-preserved c =
    let hs = heads c.loop-line.labels.places in
    let k = c.in-Some.ensures.cases in
    let read = rw c.in_default-2.is at c.in_ok-name.ensures.read in
    let line = line-read c.args.version c.new-none.result.version (heads c.new-none.result.places) c.in-Some.line.now k.0 None c.loop-line.invariant.same c.loop-line.invariant.none k.1 read in
    record {
      none = c.loop-line.invariant.none;
      same = c.loop-line.invariant.same;
      version = c.loop-line.invariant.version;
      so_far = headed-step c.args.version c.args.text.now c.loop-line.rest.now k.0 c.in-Some.others.now hs hs c.loop-line.invariant.so_far k.2 c.in-Some.ensures.shorter (ap (with_read hs) (sym (ap head_seen line)));
    }

pub returns-clause-named : goal.returns-clause-named
returns-clause-named c = λ lines last is. headed-end c.args.version c.args.text.now c.loop-line.rest.now (heads c.loop-line.labels.places) c.loop-line.invariant.so_far c.in_default.ensures.cases lines last is
