use Rattle.std.proofs.Common.{◌≡◌, ◌++◌, [], ◌∷◌, map, sym, subst}
use Rattle.data_theory.specs.IdTrees.{variable}
use Rattle.term_pool.specs.HeadTrees.{trees_at}
use Rattle.lps_core.specs.NumberTrees.{number_tree}
use Rattle.lps_core.proofs.SealingLoops.{one_more_term}
use Rattle.lps_core.proofs.sealing.params_at.Goals as goal

pub returns-clause-terms : goal.returns-clause-terms
returns-clause-terms c =
    subst (λ z. trees_at c.numeral.new.pool.trees z ≡ map variable c.args.params.now ++ number_tree c.args.number ∷ []) (sym c.in_ok-push.ensures.items)
    (one_more_term _ _ c.in_ok-terms.terms.items _ _ _ c.numeral.ensures.kept c.in_ok-terms.ensures.within c.in_ok-terms.ensures.terms c.in_ok-numeral.ensures.tree)
