use Rattle.std.proofs.Common.{List, get_or, take, subst}
use Rattle.std.proofs.lemmas.List.{take_more, take_all}
use Rattle.data_theory.specs.declared.ids.VarId.{VarId}
use Rattle.term_pool.proofs.InsertedTerms.{HasAll, HasToo, has_one_more}
use Rattle.greibach.proofs.AddedVariables.{has_key}
use Rattle.greibach.proofs.variables.add_variables.Goals as goal

pub loop-var-preserved : goal.loop-var-preserved
loop-var-preserved c =
    let next : VarId = get_or c.args.vars.now c.loop-var.var-index (record { 0 = 0 }) in
    let has : HasToo c.loop-var.set.keys next c.insert.new.self.keys = rw (c.in_ok-insert.ensures.keys) (has_key c.loop-var.set.keys next) in
    rw (take_more c.args.vars.now c.loop-var.var-index (record { 0 = 0 }) c.loop-var-test.true)
    (has_one_more c.args.set.now.keys (take c.loop-var.var-index c.args.vars.now) c.loop-var.set.keys next c.insert.new.self.keys c.loop-var.invariant has)

pub returns : goal.returns
returns c = subst (λ (vars : List VarId). HasAll c.args.set.now.keys vars c.loop-var.set.keys) (take_all c.loop-var.var-index c.args.vars.now c.loop-var-test.false) c.loop-var.invariant
