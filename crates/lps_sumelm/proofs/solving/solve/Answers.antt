use Rattle.std.proofs.Common.{◌≡◌, subst, rules}
use Rattle.process_terms.specs.PlainProcesses.{plain_label}
use Rattle.term_pool.specs.HeadTrees.{tree_at, trees_at}
use Rattle.lps_core.specs.PlainLinears.{plain_next, plain_summand}
use Rattle.lps_core.specs.TreeConditions.{conjunction_tree}
use Rattle.lps_sumelm.specs.SummandsInCode.{sums_but, parts_of_each}
use Rattle.lps_sumelm.proofs.MadeTrees.{made_trees}
use Rattle.lps_sumelm.proofs.solving.solve.Goals as goal

pub returns-clause-trees : goal.returns-clause-trees
returns-clause-trees c =
    let sums : c.in_ok-sums_but.field-0.items ≡ sums_but c.args.solution.var c.args.summand.now.sums.items = search rules in
    made_trees c.args.solution (plain_summand c.args.summand.now) c.args.rest.now c.args.pool.now.trees c.put_all.new.pool.trees c.joined.new.pool.trees c.put_label.new.pool.trees c.put_next.new.pool.trees c.put_all.ensures.kept c.joined.ensures.kept c.put_label.ensures.kept
    c.put_next.ensures.kept c.requires.summand c.requires.term (record { sums = c.in_ok-sums_but.field-0.items; condition = c.in_ok-cond.cond; label = plain_label c.in_ok-label.label; next = plain_next c.in_ok-next.next }) sums c.in_ok-put.put.items c.in_ok-put.ensures.terms
    c.in_ok-cond.ensures.within (subst (λ z. tree_at c.joined.new.pool.trees c.in_ok-cond.cond ≡ conjunction_tree (parts_of_each (trees_at c.put_all.new.pool.trees z))) c.as_slice.ensures.value c.in_ok-cond.ensures.tree) c.in_ok-label.ensures.within
    c.in_ok-label.ensures.label c.in_ok-next.ensures.next
