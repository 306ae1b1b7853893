use Rattle.std.proofs.Common.{◌∷◌, [], sym, subst}
use Rattle.loop_syntax.specs.declared.TableDecl.{TableDecl}
use Rattle.block_lower.specs.Programs.{WritesMakes}
use Rattle.block_lower.proofs.Written.WrittenTables.{input_written}
use Rattle.block_lower.proofs.lowering.Lowering.push_decl.Goals as goal

pub returns-in-Input-clause-code : goal.returns-in-Input-clause-code
returns-in-Input-clause-code c =
    let self = c.args.self.now in
    subst (λ (d : TableDecl). WritesMakes self.on self.scope (d ∷ []) self.out self.out)
    (sym c.in-Input.is) (input_written self.on self.scope c.in-Input.field-0 self.out)
