use Rattle.std.proofs.Common.{map}
use Rattle.mcrl2_syntax.specs.Declarations.{spec_of}
use Rattle.process_terms.specs.PlainProcesses.{plain_equation}
use Rattle.lps_core.specs.PlainLinears.{plain_linear}
use Rattle.lin_driver.specs.declared.ending.Ending.TheVariants.{End}
use Rattle.lin_tasks.proofs.ShownTexts.{made_fits, made_rewrites}
use Rattle.lin_tasks.proofs.generating.counts_of.Goals as goal

pub shown_counts-requires-clause-fits : goal.shown_counts-requires-clause-fits
shown_counts-requires-clause-fits c =
    let m = c.args.made in
    made_fits End c.requires.0 (spec_of m.spec) m.sig m.pool.trees (map plain_equation m.theory.equations.items) m.name (plain_linear m.lin) c.requires.1

pub shown_counts-requires-clause-equations : goal.shown_counts-requires-clause-equations
shown_counts-requires-clause-equations c =
    let m = c.args.made in
    made_rewrites End c.requires.0 (spec_of m.spec) m.sig m.pool.trees m.theory m.name (plain_linear m.lin) c.requires.1
