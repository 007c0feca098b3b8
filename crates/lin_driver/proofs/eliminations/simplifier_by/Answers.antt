use Rattle.lin_driver.specs.Eliminations.{equations_in}
use Rattle.lin_driver.proofs.eliminations.simplifier_by.Goals as goal

pub returns-clause-fits : goal.returns-clause-fits
returns-clause-fits g c = c.in_ok-rewriter.ensures.fits (equations_in c.args.sig.now c.args.pool.now.trees c.args.theory.now) c.requires.equations
