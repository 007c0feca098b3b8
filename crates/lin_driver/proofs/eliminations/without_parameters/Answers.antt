use Rattle.lps_core.specs.PlainLinears.{plain_linear}
use Rattle.lin_driver.proofs.LeftInCode.{left_without_parameters}
use Rattle.lin_driver.proofs.eliminations.without_parameters.Goals as goal

pub eliminate-requires : goal.eliminate-requires
eliminate-requires c = (c.args.sig.now, c.signature_stands.ensures, c.requires.fits)

pub returns : goal.returns
returns c =
    left_without_parameters c.args.sig.now c.signature_stands.ensures c.args.pool.now.trees c.eliminate.new.pool.trees c.eliminate.ensures.kept (plain_linear c.args.lin) c.requires.fits c.eliminate.result c.eliminate.ensures.fits c.eliminate.ensures.needed
