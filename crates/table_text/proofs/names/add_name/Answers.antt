use Rattle.std.proofs.Common.{◌≡◌, ◌∙◌, ap, refl, Bool, true, false, cond, ◌||◌, bytes_eq}
use Rattle.std.proofs.lemmas.Map.Text.{is_eq-slice_cmp}
use Rattle.table_text.specs.Reading.{has_name}
use Rattle.table_text.proofs.names.add_name.Goals as goal

cond_or : (a b : Bool) → cond a true b ≡ (a || b)
cond_or true b = refl
cond_or false b = refl

pub returns-clause-names : goal.returns-clause-names
returns-clause-names c = λ other.
    c.in_ok-insert.ensures.updates.0 (record { ref_ptr = (0, 0); now = other })
    ∙ ap (λ t. cond t true (has_name c.args.names.now other)) (is_eq-slice_cmp c.args.name.now other)
    ∙ cond_or (bytes_eq c.args.name.now other) (has_name c.args.names.now other)
