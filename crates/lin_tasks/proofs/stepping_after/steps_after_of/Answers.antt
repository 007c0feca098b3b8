use Rattle.std.proofs.Common.{map}
use Rattle.mcrl2_syntax.specs.Declarations.{spec_of}
use Rattle.process_terms.specs.PlainProcesses.{plain_equation}
use Rattle.lps_core.specs.PlainLinears.{plain_linear}
use Rattle.lin_tasks.proofs.ProcessNames.{new_process}
use Rattle.lin_tasks.proofs.ShownTexts.{made_fits, made_rewrites}
use Rattle.lin_tasks.proofs.stepping_after.steps_after_of.Goals as goal

pub shown_after-requires-clause-name : goal.shown_after-requires-clause-name
shown_after-requires-clause-name c =
    let m = c.args.made in
    new_process c.requires.0 c.requires.1 (spec_of m.spec) m.sig m.pool.trees (map plain_equation m.theory.equations.items) m.name (plain_linear m.lin) c.requires.2

pub shown_after-requires-clause-fits : goal.shown_after-requires-clause-fits
shown_after-requires-clause-fits c =
    let m = c.args.made in
    made_fits c.requires.0 c.requires.1 (spec_of m.spec) m.sig m.pool.trees (map plain_equation m.theory.equations.items) m.name (plain_linear m.lin) c.requires.2

pub shown_after-requires-clause-equations : goal.shown_after-requires-clause-equations
shown_after-requires-clause-equations c =
    let m = c.args.made in
    made_rewrites c.requires.0 c.requires.1 (spec_of m.spec) m.sig m.pool.trees m.theory m.name (plain_linear m.lin) c.requires.2
