use Rattle.std.proofs.Common.{◌≡◌, true, sym, subst}
use Rattle.std.specs.Prelude.{◌↔◌}
use Rattle.term_pool.specs.HeadTrees.{tree_at}
use Rattle.lps_sumelm.specs.OccurringVariables.{Occurs}
use Rattle.lps_sumelm.proofs.AddedVariables.{key_tells}
use Rattle.lps_sumelm.proofs.SummandVariables.{occurs_in_one}
use Rattle.lps_sumelm.proofs.variables.occurs.Goals as goal

pub returns : goal.returns
returns c =
    let found = occurs_in_one c.args.pool.now.trees c.args.term c.new-found.result.keys c.add_terms.new.set.keys c.new-found.ensures.empty c.in_ok-add_terms.ensures c.args.var in
    let told = key_tells c.add_terms.new.set.keys c.args.var in
    subst (λ b. (b ≡ true) ↔ Occurs c.args.var (tree_at c.args.pool.now.trees c.args.term)) (sym c.has_variable.ensures) (λ t. found.0 (told.0 t), λ o. told.1 (found.1 o))
