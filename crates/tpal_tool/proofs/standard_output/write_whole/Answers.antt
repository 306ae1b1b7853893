use Rattle.std.proofs.Common.{ℕ, List, take, sym, subst}
use Rattle.std.proofs.lemmas.List.{take-append-drop, take_rest}
use Rattle.tpal_tool.proofs.Appending.{appended_known}
use Rattle.tpal_tool.proofs.Pieces.{IsWrittenBut, piece_written}
use Rattle.tpal_tool.proofs.standard_output.write_whole.Goals as goal

pub loop-rest-preserved : goal.loop-rest-preserved
loop-rest-preserved g c =
    let n = c.in-Ok.taken in
    let rest : List ℕ = c.loop-rest.rest.now in
    let P : List ℕ → Type 0 = λ later. IsWrittenBut (g.W.Write.contents c.args.to.now) (g.W.Write.contents c.write.new.self) later c.args.piece.now in
    subst P (sym (take_rest rest n))
    (piece_written _ _ _ _ _ _ _ c.loop-rest.invariant (take-append-drop n rest) (appended_known _ _ (take n rest) c.in-Ok.ensures.bytes))
