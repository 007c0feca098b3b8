use Rattle.std.proofs.Common.{List, sym, subst}
use Rattle.data_theory.specs.Provable.{Equation}
use Rattle.lps_core.specs.PlainLinears.{plain_linear}
use Rattle.lin_driver.specs.Eliminations.{equations_in, IsLeft}
use Rattle.lin_driver.specs.declared.eliminations.Elimination.{Elimination}
use Rattle.lin_driver.proofs.LeftInCode.{if_so}
use Rattle.lin_driver.proofs.eliminations.left_of.Goals as goal

pub returns-in-Parameters : goal.returns-in-Parameters
returns-in-Parameters c =
    let own : List Equation = equations_in c.args.sig.now c.args.pool.now.trees c.args.theory.now in
    if_so c.without_parameters.result _ _ c.without_parameters.ensures
    (λ left w. subst (λ (e : Elimination). IsLeft e c.args.sig.now own c.args.pool.now.trees c.without_parameters.new.pool.trees (plain_linear c.args.lin) (plain_linear left)) (sym c.in-Parameters.is) (w own))
