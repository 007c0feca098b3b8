use Rattle.lps_core.specs.PlainLinears.{plain_summand}
use Rattle.lps_sumelm.proofs.SummandVariables.{occurs_in_each}
use Rattle.lps_sumelm.proofs.variables.summand_variables.Goals as goal

pub returns : goal.returns
returns c =
    occurs_in_each c.args.pool.now.trees (plain_summand c.args.summand.now) c.new-found.result.keys c.add_terms.new.set.keys c.add_label.new.set.keys c.add_next.new.set.keys c.new-found.ensures.empty c.in_ok-add_terms.ensures c.in_ok-add_label.ensures c.in_ok-add_next.ensures
