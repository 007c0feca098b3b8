use Rattle.summand_expander.proofs.StartingLoops.{flag_terms_made}
use Rattle.summand_expander.proofs.starts.flag_terms.Goals as goal

pub returns-clause-terms : goal.returns-clause-terms
returns-clause-terms c =
    flag_terms_made c.variable_term.new.pool.trees c.intern.new.self.trees c.intern-2.new.self.trees (record { var = c.args.var; column = c.in_ok-column.column; begun = c.in_ok-begun.begun; unset = c.in_ok-unset.unset }) c.intern.ensures.kept c.intern-2.ensures.kept
    c.in_ok-column.ensures.within c.in_ok-column.ensures.tree c.in_ok-begun.ensures.within c.in_ok-begun.ensures.tree c.in_ok-unset.ensures.within c.in_ok-unset.ensures.tree
