use Rattle.std.proofs.Common.{sym, ◌∙◌}
use Rattle.eqn_check.proofs.JudgedLemmas.{not_so}
use Rattle.eqn_check.proofs.FilledLemmas.{second_stands}
use Rattle.eqn_check.proofs.filled.second_resolved.Goals as goal

pub is_variable-requires : goal.is_variable-requires
is_variable-requires c = (c.requires.opposites.second c.args.var.0 c.in-Some.other (sym c.opposite_in.ensures ∙ c.in-Some.is)).inside

pub returns : goal.returns
returns c =
    second_stands c.args.sig.now c.args.pool.now.trees c.args.opposites.now c.args.filled c.args.var c.in-Some.other c.requires.variable c.requires.by c.requires.opposites
    (sym c.opposite_in.ensures ∙ c.in-Some.is) (not_so c.is_variable.result c.is_variable.ensures c.if-is_variable.false)
