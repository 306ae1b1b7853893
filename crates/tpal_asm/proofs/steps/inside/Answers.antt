use Rattle.std.proofs.Common.{sym}
use Rattle.tpal_asm.specs.Labels.{heads, place_of}
use Rattle.tpal_asm.proofs.InsideSteps.{none_fits, instr_goes, instr_fails, term_goes, term_fails}
use Rattle.tpal_asm.proofs.LabelsFind.{labels-find}
use Rattle.tpal_asm.proofs.steps.inside.Goals as goal

pub returns-in-Some-whole_instr-clause-right : goal.returns-in-Some-whole_instr-clause-right
returns-in-Some-whole_instr-clause-right c =
    let a = c.args in
    let hs = heads a.labels.now.places in
    instr_goes a.labels.now.version hs a.tables.items a.blocks.items a.begun.name a.begun.note a.begun.body.items (place_of hs) (labels-find a.labels.now) c.requires.few a.line.now c.in-Some.rest.now c.in-Some.ensures
    c.in-Some-whole_instr.instr (sym c.in-Some-whole_instr.ensures) c.with_instr.result c.with_instr.ensures.fits c.with_instr.ensures.next

pub returns-in-Some-whole_instr-clause-wrong : goal.returns-in-Some-whole_instr-clause-wrong
returns-in-Some-whole_instr-clause-wrong c =
    let a = c.args in
    let hs = heads a.labels.now.places in
    instr_fails a.labels.now.version hs a.tables.items a.blocks.items a.begun.name a.begun.note a.begun.body.items (place_of hs) (labels-find a.labels.now) c.requires.few a.line.now c.in-Some.rest.now c.in-Some.ensures
    c.in-Some-whole_instr.instr (sym c.in-Some-whole_instr.ensures) c.with_instr.result c.with_instr.ensures.wrong

pub returns-in-None-clause-wrong : goal.returns-in-None-clause-wrong
returns-in-None-clause-wrong c =
    let a = c.args in
    let hs = heads a.labels.now.places in
    none_fits a.labels.now.version hs a.tables.items a.blocks.items a.begun.name a.begun.note a.begun.body.items (place_of hs) (labels-find a.labels.now) c.requires.few a.line.now c.in-Some.rest.now c.in-Some.ensures
    (sym c.in_default-whole_instr.ensures) (sym c.in-None.ensures)

pub returns-in-Some-whole_term-clause-right : goal.returns-in-Some-whole_term-clause-right
returns-in-Some-whole_term-clause-right c =
    let a = c.args in
    let hs = heads a.labels.now.places in
    term_goes a.labels.now.version hs a.tables.items a.blocks.items a.begun.name a.begun.note a.begun.body.items (place_of hs) (labels-find a.labels.now) c.requires.few a.line.now c.in-Some.rest.now c.in-Some.ensures
    c.in-Some-whole_term.term (sym c.in_default-whole_instr.ensures) (sym c.in-Some-whole_term.ensures) c.with_end.result c.with_end.ensures.fits c.with_end.ensures.next

pub returns-in-Some-whole_term-clause-wrong : goal.returns-in-Some-whole_term-clause-wrong
returns-in-Some-whole_term-clause-wrong c =
    let a = c.args in
    let hs = heads a.labels.now.places in
    term_fails a.labels.now.version hs a.tables.items a.blocks.items a.begun.name a.begun.note a.begun.body.items (place_of hs) (labels-find a.labels.now) c.requires.few a.line.now c.in-Some.rest.now c.in-Some.ensures
    c.in-Some-whole_term.term (sym c.in_default-whole_instr.ensures) (sym c.in-Some-whole_term.ensures) c.with_end.result c.with_end.ensures.wrong
