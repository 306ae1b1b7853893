use Rattle.std.proofs.Common.{◌≡◌, [], ℕ, List, Option, true, false, length, refl, sym, ap, ◌∙◌, subst}
use Rattle.std.proofs.Common.{arith}
use Rattle.std.proofs.lemmas.Bool.{lt-ltb, le-ltb}
use Rattle.tpal_asm.specs.Steps.{NoteFits, NoteUnfit, is_next, is_next_by, is_numbered}
use Rattle.tpal_asm.specs.Faults.{IsWrong}
use Rattle.tpal_syntax.specs.declared.instructions.Instr.{Instr}
use Rattle.tpal_syntax.specs.Conditions.{block_names}
use Rattle.tpal_asm.specs.Labels.{heads, names_of, place_of}
use Rattle.tpal_asm.specs.Drafts.{Outside, Inside, Says, is_among}
use Rattle.tpal_asm.proofs.HeaderSteps.{header_unread, header_right, header_formed, header_repeated}
use Rattle.tpal_asm.proofs.HeaderSteps.{header_many, header_labelled, header_misnumbered}
use Rattle.tpal_asm.proofs.HeaderFaults.{note_wrong, each_line}
use Rattle.tpal_asm.proofs.LabelsFind.{labels-find}
use Rattle.tpal_asm.proofs.Outside.{among_place, length-block_names}
use Rattle.tpal_asm.proofs.steps.header.Goals as goal

pub returns-in_default-clause-wrong : goal.returns-in_default-clause-wrong
returns-in_default-clause-wrong c = λ bytes e.
    let a = c.args in
    let none = rw c.in_default.is at c.in_ok-name.ensures.read in
    header_unread a.labels.now.version (heads a.labels.now.places) a.tables.items a.blocks.items c.requires.few c.requires.room 4294967295 (labels-find a.labels.now) a.line.now bytes e c.requires.no_table none

pub returns-then-not-is_next-clause-wrong : goal.returns-then-not-is_next-clause-wrong
returns-then-not-is_next-clause-wrong c = λ bytes e.
    let a = c.args in
    let count : c.len.result ≡ length a.blocks.items = omega arith in
    let other : is_numbered a.labels.now.version (length a.blocks.items) a.line.now ≡ false =
    ap (λ (o : Option ℕ). is_next_by a.labels.now.version o (length a.blocks.items)) (rw c.in-Some.is at c.in_ok-name.ensures.numbered) ∙ ap (is_next a.labels.now.version c.in-Some.number) (sym count) ∙ sym c.if-not-is_next.ensures in
    header_misnumbered a.labels.now.version (heads a.labels.now.places) a.tables.items a.blocks.items c.requires.few c.requires.room 4294967295 (labels-find a.labels.now) a.line.now bytes e c.requires.no_table other

pub returns-in-Err-clause-wrong : goal.returns-in-Err-clause-wrong
returns-in-Err-clause-wrong c =
    let a = c.args in
    let hs = heads a.labels.now.places in
    let read = rw c.in-Some.is at c.in_ok-name.ensures.read in
    let n : c.len-2.result ≡ length a.tables.items = omega arith in
    let count : c.len.result ≡ length a.blocks.items = omega arith in
    let numbered : is_numbered a.labels.now.version (length a.blocks.items) a.line.now ≡ true =
    ap (λ (o : Option ℕ). is_next_by a.labels.now.version o (length a.blocks.items)) (rw c.in-Some.is at c.in_ok-name.ensures.numbered) ∙ ap (is_next a.labels.now.version c.in-Some.number) (sym count) ∙ sym c.if-not-is_next.ensures in
    let P : ℕ → Type 0 = λ t. NoteUnfit hs t c.in-Some.note c.in-Err.wrong in
    each_line c.in-Err.wrong a.line.now (λ bytes. IsWrong a.labels.now.version hs (Outside a.tables.items a.blocks.items) bytes c.in-Err.wrong) (λ bytes e.
    note_wrong a.labels.now.version hs a.tables.items a.blocks.items c.requires.few c.requires.room (labels-find a.labels.now) a.line.now bytes e c.requires.no_table c.in-Some.name.now c.in-Some.note read numbered c.in-Some.note refl c.in-Err.wrong (subst P n c.in-Err.ensures.unfit))

pub returns-then-place-len-clause-wrong : goal.returns-then-place-len-clause-wrong
returns-then-place-len-clause-wrong c = λ bytes e.
    let a = c.args in
    let hs = heads a.labels.now.places in
    let read = rw c.in-Some.is at c.in_ok-name.ensures.read in
    let n : c.len-2.result ≡ length a.tables.items = omega arith in
    let count : c.len.result ≡ length a.blocks.items = omega arith in
    let numbered : is_numbered a.labels.now.version (length a.blocks.items) a.line.now ≡ true =
    ap (λ (o : Option ℕ). is_next_by a.labels.now.version o (length a.blocks.items)) (rw c.in-Some.is at c.in_ok-name.ensures.numbered) ∙ ap (is_next a.labels.now.version c.in-Some.number) (sym count) ∙ sym c.if-not-is_next.ensures in
    let P : ℕ → Type 0 = λ t. NoteFits hs t c.in-Some.note in
    let again : is_among c.in-Some.name.now (block_names a.blocks.items) ≡ true =
    sym (among_place c.in-Some.name.now hs (block_names a.blocks.items) c.requires.front.0 c.requires.front.1) ∙ lt-ltb (place_of hs c.in-Some.name.now) (length (block_names a.blocks.items)) (omega (arith, length-block_names a.blocks.items, c.place.ensures)) in (
      header_formed a.labels.now.version hs a.tables.items a.blocks.items c.requires.few c.requires.room 4294967295 (labels-find a.labels.now) a.line.now bytes e c.requires.no_table c.in-Some.name.now c.in-Some.note read numbered (subst P n c.in-Ok.ensures.fits),
      header_repeated a.labels.now.version hs a.tables.items a.blocks.items c.requires.few c.requires.room 4294967295 (labels-find a.labels.now) a.line.now bytes e c.requires.no_table c.in-Some.name.now c.in-Some.note read numbered again,
    )

pub returns-then-len-clause-wrong : goal.returns-then-len-clause-wrong
returns-then-len-clause-wrong c = λ bytes e.
    let a = c.args in
    let hs = heads a.labels.now.places in
    let read = rw c.in-Some.is at c.in_ok-name.ensures.read in
    let n : c.len-2.result ≡ length a.tables.items = omega arith in
    let count : c.len.result ≡ length a.blocks.items = omega arith in
    let numbered : is_numbered a.labels.now.version (length a.blocks.items) a.line.now ≡ true =
    ap (λ (o : Option ℕ). is_next_by a.labels.now.version o (length a.blocks.items)) (rw c.in-Some.is at c.in_ok-name.ensures.numbered) ∙ ap (is_next a.labels.now.version c.in-Some.number) (sym count) ∙ sym c.if-not-is_next.ensures in
    let P : ℕ → Type 0 = λ t. NoteFits hs t c.in-Some.note in
    let new : is_among c.in-Some.name.now (block_names a.blocks.items) ≡ false =
    sym (among_place c.in-Some.name.now hs (block_names a.blocks.items) c.requires.front.0 c.requires.front.1) ∙ le-ltb (place_of hs c.in-Some.name.now) (length (block_names a.blocks.items)) (omega (arith, length-block_names a.blocks.items, c.place.ensures)) in (
      header_labelled a.labels.now.version hs a.tables.items a.blocks.items c.requires.few c.requires.room 4294967295 (labels-find a.labels.now) a.line.now bytes e c.requires.no_table c.in-Some.name.now c.in-Some.note read numbered (subst P n c.in-Ok.ensures.fits) new,
      header_many a.labels.now.version hs a.tables.items a.blocks.items c.requires.few c.requires.room 4294967295 (labels-find a.labels.now) a.line.now bytes e c.requires.no_table c.in-Some.name.now c.in-Some.note read numbered (omega arith),
    )

pub returns-clause-right : goal.returns-clause-right
returns-clause-right c = λ bytes e.
    let a = c.args in
    let hs = heads a.labels.now.places in
    let read = rw c.in-Some.is at c.in_ok-name.ensures.read in
    let n : c.len-2.result ≡ length a.tables.items = omega arith in
    let count : c.len.result ≡ length a.blocks.items = omega arith in
    let numbered : is_numbered a.labels.now.version (length a.blocks.items) a.line.now ≡ true =
    ap (λ (o : Option ℕ). is_next_by a.labels.now.version o (length a.blocks.items)) (rw c.in-Some.is at c.in_ok-name.ensures.numbered) ∙ ap (is_next a.labels.now.version c.in-Some.number) (sym count) ∙ sym c.if-not-is_next.ensures in
    let P : ℕ → Type 0 = λ t. NoteFits hs t c.in-Some.note in
    let named : c.in-Some.name.now ≡ c.new.result = sym (c.new.ensures ∙ c.in_ok-from_slice.ensures.items) in
    let empty : [] ≡ c.new-2.result.items = cc in
    let Q : List ℕ → Type 0 = λ m. Says a.labels.now.version hs (names_of hs) (Outside a.tables.items a.blocks.items) bytes (Inside a.tables.items a.blocks.items m c.in-Some.note []) in
    let R : List Instr → Type 0 = λ body. Says a.labels.now.version hs (names_of hs) (Outside a.tables.items a.blocks.items) bytes (Inside a.tables.items a.blocks.items c.new.result c.in-Some.note body) in
    subst R empty (subst Q named (header_right a.labels.now.version hs a.tables.items a.blocks.items c.requires.few c.requires.room 4294967295 (labels-find a.labels.now) a.line.now bytes e c.requires.no_table c.in-Some.name.now c.in-Some.note read numbered (subst P n c.in-Ok.ensures.fits)))

pub returns-clause-new : goal.returns-clause-new
returns-clause-new c =
    let a = c.args in
    let hs = heads a.labels.now.places in
    let named : c.new.result ≡ c.in-Some.name.now = c.new.ensures ∙ c.in_ok-from_slice.ensures.items in
    ap (λ (m : List ℕ). is_among m (block_names a.blocks.items)) named
    ∙ sym (among_place c.in-Some.name.now hs (block_names a.blocks.items) c.requires.front.0 c.requires.front.1) ∙ le-ltb (place_of hs c.in-Some.name.now) (length (block_names a.blocks.items)) (omega (arith, length-block_names a.blocks.items, c.place.ensures))
