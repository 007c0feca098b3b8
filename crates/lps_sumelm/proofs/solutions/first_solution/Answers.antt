use Rattle.std.proofs.Common.{sym, ap, ◌∙◌, subst}
use Rattle.std.specs.Prelude.{IfSome, option_map}
use Rattle.data_rewriter.specs.Standing.{IsTerm}
use Rattle.lps_core.specs.TreeSummands.{numbers_of}
use Rattle.lps_sumelm.specs.declared.solutions.Solution.{Solution}
use Rattle.lps_sumelm.specs.SummandsInCode.{meant_solution}
use Rattle.lps_sumelm.proofs.FirstParts.{found_first}
use Rattle.lps_sumelm.proofs.solutions.first_solution.Goals as goal

pub returns-in-Some : goal.returns-in-Some
returns-in-Some c =
    let g = c.args.sig.now in
    let ts = c.args.pool.now.trees in
    found_first g ts (numbers_of c.args.sums.now) c.args.parts.now c.loop-place.place (record { 0 = 0 }) c.in-Some.found c.loop-place-test.true c.loop-place.invariant (sym c.in_ok-found.ensures.gives ∙ ap (option_map (meant_solution g ts)) c.in-Some.is)
    (subst (λ o. IfSome o (λ (f : Solution). IsTerm g ts f.term)) c.in-Some.is c.in_ok-found.ensures.term)
