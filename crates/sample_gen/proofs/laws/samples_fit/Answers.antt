use Rattle.sample_gen.proofs.Fits.{source_fits, tables_fit}
use Rattle.sample_gen.proofs.laws.samples_fit.Goals as goal

pub returns-clause-source : goal.returns-clause-source
returns-clause-source c = source_fits

pub returns-clause-tables : goal.returns-clause-tables
returns-clause-tables c = tables_fit
