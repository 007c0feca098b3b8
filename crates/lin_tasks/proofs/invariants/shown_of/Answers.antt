use Rattle.std.proofs.Common.{map}
use Rattle.mcrl2_syntax.specs.Declarations.{spec_of}
use Rattle.process_terms.specs.PlainProcesses.{plain_equation}
use Rattle.lps_core.specs.PlainLinears.{plain_linear}
use Rattle.lin_driver.proofs.MadeTexts.{made_can_be_printed}
use Rattle.lin_tasks.proofs.ShownTexts.{made_fits, made_rewrites}
use Rattle.lin_tasks.proofs.invariants.shown_of.Goals as goal

pub shown_condition-requires-clause-name : goal.shown_condition-requires-clause-name
shown_condition-requires-clause-name c =
    let m = c.args.made in
    (made_can_be_printed c.requires.0 c.requires.1 (spec_of m.spec) m.sig m.pool.trees (map plain_equation m.theory.equations.items) m.name (plain_linear m.lin) c.requires.2).process_there

pub shown_condition-requires-clause-fits : goal.shown_condition-requires-clause-fits
shown_condition-requires-clause-fits c =
    let m = c.args.made in
    made_fits c.requires.0 c.requires.1 (spec_of m.spec) m.sig m.pool.trees (map plain_equation m.theory.equations.items) m.name (plain_linear m.lin) c.requires.2

pub shown_condition-requires-clause-equations : goal.shown_condition-requires-clause-equations
shown_condition-requires-clause-equations c =
    let m = c.args.made in
    made_rewrites c.requires.0 c.requires.1 (spec_of m.spec) m.sig m.pool.trees m.theory m.name (plain_linear m.lin) c.requires.2
