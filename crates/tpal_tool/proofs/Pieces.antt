-- A text that is written piece by piece.
use Rattle.std.proofs.Common.{◌≡◌, ◌++◌, ℕ, List, [], Option, length, refl, ap, subst, ◌∙◌}
use Rattle.std.proofs.Common.{append_assoc, length-append, arith}
use Rattle.tpal_tool.specs.Sink.{Appended, PrefixAppended}
use Rattle.tpal_tool.specs.declared.sink.SinkFault.{SinkFault}
use Rattle.tpal_tool.specs.declared.sink.SinkFault.TheVariants.{Failed, NoMemory}
use Rattle.tpal_tool.proofs.Appending.{appended_nothing, appended_after, prefix_after}
use Rattle.tpal_tool.proofs.Appending.{prefix_longer, prefix_nothing}

-- of the text all but the rest has been written
pub record IsWrittenBut (first now : Option (List ℕ)) (rest text : List ℕ) : Type 0 where
  pub done : List ℕ
  pub whole : done ++ rest ≡ text
  pub appended : Appended first now done

-- at the start all of it is left
pub nothing_written : (first : Option (List ℕ)) (text : List ℕ) → IsWrittenBut first first text text
nothing_written first text = record { done = []; whole = refl; appended = appended_nothing first }

-- of an empty text nothing is left to write
pub nothing_left : (first now : Option (List ℕ)) (rest text : List ℕ) → IsWrittenBut first now rest text → text ≡ [] → length rest ≡ 0
nothing_left first now rest text before empty =
    omega (arith, length-append before.done rest, ap length before.whole, ap length empty)

-- a piece more is written
pub piece_written : (first now next : Option (List ℕ)) (rest text piece later : List ℕ) → IsWrittenBut first now rest text → piece ++ later ≡ rest → Appended now next piece → IsWrittenBut first next later text
piece_written first now next rest text piece later before split a = record {
  done = before.done ++ piece;
  whole = append_assoc before.done piece later ∙ ap (λ part. before.done ++ part) split ∙ before.whole;
  appended = appended_after first now next before.done piece before.appended a;
}

-- the first bytes of a piece more are written
piece_begun : (first now next : Option (List ℕ)) (rest text piece later : List ℕ) → IsWrittenBut first now rest text → piece ++ later ≡ rest → PrefixAppended now next piece → PrefixAppended first next text
piece_begun first now next rest text piece later before split a =
    let P : List ℕ → Type 0 = λ whole. PrefixAppended first next whole in
    subst P (ap (λ part. before.done ++ part) split ∙ before.whole)
    (prefix_after first now next before.done (piece ++ later) before.appended (prefix_longer now next piece later a))

-- a write that a fault ended leaves the first bytes of the text, whichever fault it was
pub fault_met : (fault : SinkFault) (first now next : Option (List ℕ)) (rest text piece later : List ℕ) → IsWrittenBut first now rest text → piece ++ later ≡ rest → (fault ≡ Failed → PrefixAppended now next piece) → (fault ≡ NoMemory → Appended now next []) → PrefixAppended first next text
fault_met Failed first now next rest text piece later before split failed no_memory =
    piece_begun first now next rest text piece later before split (failed refl)
fault_met NoMemory first now next rest text piece later before split failed no_memory =
    piece_begun first now next rest text piece later before split (prefix_nothing now next piece (no_memory refl))
