use Rattle.std.proofs.Common.{List, subst}
use Rattle.std.specs.Prelude.{◌↔◌, IsTrue}
use Rattle.std.specs.List.{Contains}
use Rattle.data_theory.specs.declared.ids.VarId.{VarId}
use Rattle.eqn_check.proofs.VariableSetLemmas.{key_tells}
use Rattle.eqn_check.proofs.variable_sets.VariableSet.contains.Goals as goal

pub returns : goal.returns
returns c = subst (λ (l : List VarId). IsTrue c.contains.result ↔ Contains l c.args.var) c.self.view_is (key_tells c.self.inside.vars.keys c.args.var c.contains.result c.contains.ensures)
