use Rattle.std.proofs.Common.{rules, arith, length, ◌≡◌, ◌<◌, ◌++◌, ap, Err}
use Rattle.std.proofs.lemmas.List.{take-append-drop}
use Rattle.tpal_tool.specs.Sink.{PrefixAppended}
use Rattle.tpal_tool.proofs.Pieces.{nothing_left, piece_written, fault_met}
use Rattle.tpal_tool.proofs.writing.write_text.Goals as goal

pub returns-in_err-write-clause-prefix : goal.returns-in_err-write-clause-prefix
returns-in_err-write-clause-prefix g c =
    let split : c.split_at.result.0.now ++ c.split_at.result.1.now ≡ c.loop-rest.rest.now = search (rules, take-append-drop) in
    let part : PrefixAppended (g.K.Sink.written c.args.sink.now) (g.K.Sink.written c.write.new.self) c.args.text.now =
    fault_met c.in_err-write.field-0.0 _ _ _ _ _ _ _ c.loop-rest.invariant.written split
    (λ is. c.in_err-write.ensures.prefix (ap Err is)) (λ is. c.in_err-write.ensures.no_memory (ap Err is)) in
    search rules

pub loop-rest-preserved : goal.loop-rest-preserved
loop-rest-preserved g c =
    let split : c.split_at.result.0.now ++ c.split_at.result.1.now ≡ c.loop-rest.rest.now = search (rules, take-append-drop) in
    let more : 0 < length c.loop-rest.rest.now = search rules in
    record {
      written = piece_written _ _ _ _ _ _ _ c.loop-rest.invariant.written split (c.in_ok-write.ensures.appended);
      count = search rules;
      empty = λ none. absurd (omega (arith, more, nothing_left _ _ _ _ c.loop-rest.invariant.written none));
    }
