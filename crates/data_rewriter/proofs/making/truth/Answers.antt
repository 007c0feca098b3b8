use Rattle.std.proofs.Common.{sym, subst}
use Rattle.std.proofs.lemmas.List.Elements.{All-nil}
use Rattle.data_theory.specs.Terms as terms
use Rattle.data_theory.specs.Terms.{Term, Terms, apply, more, none, natural}
use Rattle.data_theory.specs.Equations.{truth_of}
use Rattle.data_rewriter.specs.Standing.{IsTerm, StandsFor}
use Rattle.data_rewriter.proofs.FixedFunctions.{true_at, false_at}
use Rattle.data_rewriter.proofs.making.truth.Goals as goal

pub returns-then-value-clause-made : goal.returns-then-value-clause-made
returns-then-value-clause-made c = λ sig ok. subst (λ b. StandsFor sig c.call.new.pool.trees c.in_ok-made.made (truth_of b)) (sym c.if-value.true) (c.in_ok-made.ensures.made sig ok.table terms.truth (true_at sig ok) (All-nil (IsTerm sig c.args.pool.now.trees)))

pub returns-clause-made : goal.returns-clause-made
returns-clause-made c = λ sig ok. subst (λ b. StandsFor sig c.call-2.new.pool.trees c.in_ok-made-2.made (truth_of b)) (sym c.if-value.false) (c.in_ok-made-2.ensures.made sig ok.table terms.falsity (false_at sig ok) (All-nil (IsTerm sig c.args.pool.now.trees)))
