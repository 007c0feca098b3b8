use Rattle.std.proofs.Common.{ap, sym, subst, ◌∙◌}
use Rattle.std.specs.Prelude.{unwrap_or}
use Rattle.term_pool.specs.HeadTrees.{tree_at, IsIn}
use Rattle.stack_encoder.proofs.FrameTrees.{column_is, column_in}
use Rattle.stack_encoder.proofs.frames.column_term.Goals as goal

pub returns-in-Some-clause-tree : goal.returns-in-Some-clause-tree
returns-in-Some-clause-tree c = λ ts. ap (λ o. tree_at ts (unwrap_or o c.args.default)) (sym c.in-Some.is ∙ c.value_beside.ensures) ∙ column_is ts c.args.place.now c.args.args.now c.args.column c.args.default

pub returns-in-Some-clause-within : goal.returns-in-Some-clause-within
returns-in-Some-clause-within c = λ ts a b. subst (λ o. IsIn ts (unwrap_or o c.args.default)) (sym (sym c.in-Some.is ∙ c.value_beside.ensures)) (column_in ts c.args.place.now c.args.args.now c.args.column c.args.default a b)

pub returns-in-None-clause-tree : goal.returns-in-None-clause-tree
returns-in-None-clause-tree c = λ ts. ap (λ o. tree_at ts (unwrap_or o c.args.default)) (sym c.in-None.is ∙ c.value_beside.ensures) ∙ column_is ts c.args.place.now c.args.args.now c.args.column c.args.default
