use Rattle.std.proofs.Common.{◌≤◌, ◌+◌, length, sym, ◌∙◌, subst, arith}
use Rattle.lps_parelm.proofs.UseLoops.{ListsVariables, lists_more, lists_all}
use Rattle.lps_parelm.proofs.uses.parameter_terms.Goals as goal

pub loop-param-preserved : goal.loop-param-preserved
loop-param-preserved c = (
  subst (λ z. ListsVariables c.args.pool.now.trees c.args.params.now (c.loop-param.param-index + 1) c.variable_term.new.pool.trees z) (sym c.in_ok-push.ensures.items)
      (lists_more _ _ _ _ _ (record { 0 = 0 }) c.loop-param.invariant.0 c.loop-param-test.true _ _ c.variable_term.ensures.kept c.in_ok-variable_term.ensures.tree c.in_ok-variable_term.ensures.within),
  c.variable_term.ensures.constants ∙ c.loop-param.invariant.1,
)

pub returns-clause-trees : goal.returns-clause-trees
returns-clause-trees c =
    let n = c.loop-param-test.false in
    let l : length c.args.params.now ≤ c.loop-param.param-index = omega (arith, n) in
    lists_all _ _ _ _ _ c.loop-param.invariant.0 l
