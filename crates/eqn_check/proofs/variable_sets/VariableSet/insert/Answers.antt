use Rattle.std.proofs.Common.{List, subst}
use Rattle.data_theory.specs.declared.ids.VarId.{VarId}
use Rattle.term_pool.proofs.InsertedTerms.{HasToo}
use Rattle.eqn_check.proofs.VariableSetLemmas.{has_key}
use Rattle.eqn_check.proofs.variable_sets.VariableSet.insert.Goals as goal

pub returns : goal.returns
returns c =
    let has : HasToo c.self.inside.vars.keys c.args.var c.insert.new.self.keys = rw (c.in_ok-insert.ensures.keys) (has_key c.self.inside.vars.keys c.args.var) in
    subst (λ (l : List VarId). HasToo l c.args.var c.insert.new.self.keys) c.self.view_is has
