use Rattle.std.proofs.Common.{List, subst}
use Rattle.std.specs.Prelude.{ℕ, IfOk}
use Rattle.data_theory.specs.Provable.{Equation}
use Rattle.lps_core.specs.PlainLinears.{plain_linear}
use Rattle.lin_driver.specs.Eliminations.{equations_in, IsLeft}
use Rattle.lin_driver.specs.declared.eliminations.Elimination.TheVariants.{Constants}
use Rattle.lin_driver.proofs.LeftInCode.{if_so, left_without_constants}
use Rattle.lin_driver.proofs.eliminations.without_constants.Goals as goal

pub eliminate-requires : goal.eliminate-requires
eliminate-requires c =
    (c.args.sig.now, equations_in c.args.sig.now c.args.pool.now.trees c.args.theory.now, c.signature_stands.ensures, c.requires.fits, (c.in_ok-simplifier.ensures.fits, c.new-rules.ensures), c.requires.equations.well_formed)

pub returns : goal.returns
returns c =
    let g = c.args.sig.now in
    let own : List Equation = equations_in g c.args.pool.now.trees c.args.theory.now in
    let l = plain_linear c.args.lin in
    let well = c.requires.equations.well_formed in
    let stands = c.signature_stands.ensures in
    subst (λ (fuel : ℕ). IfOk c.eliminate.result (λ left. IsLeft (Constants fuel) g own c.args.pool.now.trees c.eliminate.new.pool.trees l (plain_linear left))) c.in_ok-simplifier.ensures.fuel
    (left_without_constants g stands c.args.pool.now.trees c.eliminate.new.pool.trees c.eliminate.ensures.kept l c.requires.fits own c.in_ok-simplifier.simplifier.fuel c.eliminate.result
    (if_so c.eliminate.result _ _ c.eliminate.ensures.fits (λ left w. w g own stands c.requires.fits (c.in_ok-simplifier.ensures.fits, c.new-rules.ensures) well)) (if_so c.eliminate.result _ _ c.eliminate.ensures.eliminated (λ left w. w g own stands c.requires.fits (c.in_ok-simplifier.ensures.fits, c.new-rules.ensures) well)))
