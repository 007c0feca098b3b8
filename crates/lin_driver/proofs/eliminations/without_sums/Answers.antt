use Rattle.std.proofs.Common.{List, subst}
use Rattle.std.specs.Prelude.{ℕ, IfOk}
use Rattle.data_theory.specs.Provable.{Equation}
use Rattle.data_rewriter.specs.Simplifying.{IsSimpleWith}
use Rattle.lps_core.specs.PlainLinears.{plain_linear}
use Rattle.lin_driver.specs.Eliminations.{equations_in, IsLeft}
use Rattle.lin_driver.specs.declared.eliminations.Elimination.TheVariants.{Sums}
use Rattle.lin_driver.proofs.LeftInCode.{if_so, left_without_sums}
use Rattle.lin_driver.proofs.eliminations.without_sums.Goals as goal

pub eliminate-requires-clause-simplifier : goal.eliminate-requires-clause-simplifier
eliminate-requires-clause-simplifier c =
    (equations_in c.args.sig.now c.args.pool.now.trees c.args.theory.now, (c.in_ok-simplifier.ensures.fits, c.new-rules.ensures), c.requires.equations.well_formed)

pub returns : goal.returns
returns c =
    let g = c.args.sig.now in
    let own : List Equation = equations_in g c.args.pool.now.trees c.args.theory.now in
    let l = plain_linear c.args.lin in
    let well = c.requires.equations.well_formed in
    let made = c.eliminate.ensures in
    subst (λ (fuel : ℕ). IfOk c.eliminate.result (λ left. IsLeft (Sums fuel) g own c.args.pool.now.trees c.eliminate.new.pool.trees l (plain_linear left))) c.in_ok-simplifier.ensures.fuel
    (left_without_sums g c.signature_stands.ensures c.args.pool.now.trees c.eliminate.new.pool.trees made.kept l c.requires.fits own c.in_ok-simplifier.simplifier.fuel
    (IsSimpleWith g own c.eliminate.new.simp.fuel) (λ t k. (made.same own t).0 k) c.eliminate.result made.params made.init made.fits
    (if_so c.eliminate.result _ _ made.summands (λ left w. w own (c.in_ok-simplifier.ensures.fits, c.new-rules.ensures) well)) made.solved made.used
    (if_so c.eliminate.result _ _ made.simple (λ left w. w own (c.in_ok-simplifier.ensures.fits, c.new-rules.ensures) well)) (if_so c.eliminate.result _ _ made.bisimilar (λ left w. w own (c.in_ok-simplifier.ensures.fits, c.new-rules.ensures) well)))
