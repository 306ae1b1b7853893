use Rattle.std.proofs.Common.{List, ◌++◌, ◌∷◌, [], length, max, ap, subst, ◌∙◌, arith}
use Rattle.std.proofs.lemmas.List.{length-append}
use Rattle.tpal_syntax.specs.declared.blocks.Block.{Block}
use Rattle.expr_lower.specs.Standing.{AreAt}
use Rattle.handler_gen.specs.Blocks.{dispatch_block}
use Rattle.scene_laws.specs.Sizes.{kept_by_list, kept_by_decls}
use Rattle.block_lower.proofs.Written.Planning.{fitting_are_small}
use Rattle.block_lower.proofs.Written.WrittenPrograms.{funcs_fit_now, funcs_low, main_room}
use Rattle.block_lower.proofs.Written.WrittenPrograms.{program_written}
use Rattle.block_lower.proofs.program.program_blocks.Goals as goal

pub lower_main-requires-clause-room : goal.lower_main-requires-clause-room
lower_main-requires-clause-room c =
    rw c.no_code-lowering.ensures.on (main_room c.args.program.now c.in_ok-on.on c.requires.fits
    c.in_ok-on.ensures.most c.in_ok-on.ensures.size)

pub lower_funcs-requires-clause-low : goal.lower_funcs-requires-clause-low
lower_funcs-requires-clause-low c = rw c.deref.ensures.value
    (funcs_low c.args.program.now c.args.program.now.funcs.items c.requires.fits.functions)

pub lower_funcs-requires-clause-small : goal.lower_funcs-requires-clause-small
lower_funcs-requires-clause-small c = rw c.deref.ensures.value
    (fitting_are_small c.args.program.now c.args.program.now.funcs.items c.requires.fits.functions)

pub lower_funcs-requires-clause-labels : goal.lower_funcs-requires-clause-labels
lower_funcs-requires-clause-labels c =
    let on = c.in_ok-lower_main.ensures.on ∙ c.no_code-lowering.ensures.on in
    let none = ap length c.no_code-lowering.ensures.fresh.traps in
    let empty = ap length c.no_code-lowering.ensures.blocks in
    rw (c.deref.ensures.value, on, c.in_ok-on.ensures.calls)
    (omega (arith, c.in_ok-lower_main.ensures.labels, none, empty, c.requires.labels))

pub lower_funcs-requires-clause-fits : goal.lower_funcs-requires-clause-fits
lower_funcs-requires-clause-fits c =
    let on = c.in_ok-lower_main.ensures.on ∙ c.no_code-lowering.ensures.on in
    rw (c.deref.ensures.value, on) (funcs_fit_now c.args.program.now c.in_ok-on.on
    c.lower_main.new.self.scope c.requires.fits c.in_ok-on.ensures.callees
    c.in_ok-lower_main.ensures.sees)

pub returns-clause-count : goal.returns-clause-count
returns-clause-count c =
    let on = c.in_ok-lower_main.ensures.on ∙ c.no_code-lowering.ensures.on in
    let none = ap length c.no_code-lowering.ensures.fresh.traps in
    let empty = ap length c.no_code-lowering.ensures.blocks in
    let labels = rw (c.deref.ensures.value, on, c.in_ok-on.ensures.calls) at
    c.in_ok-lower_funcs.ensures.labels in
    rw c.in_ok-push.ensures.items
    (omega (
      arith,
      c.in_ok-lower_main.ensures.labels,
      none,
      empty,
      labels,
      ap length c.in_ok-lower_funcs.ensures.fresh.traps,
      length-append c.lower_funcs.new.self.out.blocks.items (c.in_ok-last.last ∷ []),
    ))

pub returns-clause-code : goal.returns-clause-code
returns-clause-code c = λ code declared stands.
    let p = c.args.program.now in
    let on = c.in_ok-on.on in
    let made = c.in_ok-on.ensures in
    let begun = c.no_code-lowering.ensures in
    let main = c.in_ok-lower_main.ensures in
    let same = main.on ∙ begun.on in
    let none = ap length begun.fresh.traps in
    let empty = ap length begun.blocks in
    let labels = rw (c.deref.ensures.value, same, made.calls) at c.in_ok-lower_funcs.ensures.labels
    in
    let blocks : List Block = c.lower_funcs.new.self.out.blocks.items in
    let all : AreAt code 0 (blocks ++ dispatch_block on.dispatch ∷ []) =
    subst (λ (b : Block). AreAt code 0 (blocks ++ b ∷ [])) c.in_ok-last.ensures.block
    (rw c.in_ok-push.ensures.items at stands) in
    program_written p on (max (kept_by_list p.main.items) (kept_by_decls p.tables.items))
    c.lower_main.new.self.scope c.no_code-lowering.result.out c.lower_main.new.self.out
    c.lower_funcs.new.self.out c.requires.fits c.requires.built made.callees made.most made.calls made.dispatch
    (main_room p on c.requires.fits made.most made.size) begun.blocks begun.fresh
    (rw begun.on at main.code) main.fresh
    main.labels main.sees (rw (c.deref.ensures.value, same) at c.in_ok-lower_funcs.ensures.code)
    (omega (
      arith,
      main.labels,
      none,
      empty,
      labels,
      ap length
          c.in_ok-lower_funcs.ensures.fresh.traps,
    ))
    code declared all
