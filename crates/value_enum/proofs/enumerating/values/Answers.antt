use Rattle.std.proofs.Common.{sym, subst}
use Rattle.std.specs.List.{Contains}
use Rattle.value_enum.proofs.LeadingSorts.{listed_values}
use Rattle.value_enum.proofs.enumerating.values.Goals as goal

pub first_values-requires-clause-stands : goal.first_values-requires-clause-stands
first_values-requires-clause-stands c = c.in_ok-shapes.ensures.stands

pub first_values-requires-clause-sort : goal.first_values-requires-clause-sort
first_values-requires-clause-sort c = subst (λ l. Contains l c.args.sort) (sym c.in_ok-shapes.ensures.sorts) c.in_ok-sorts.ensures.has

pub returns-clause-listed : goal.returns-clause-listed
returns-clause-listed c =
    listed_values c.args.sig.now c.args.sort c.in_ok-sorts.sorts.keys c.args.bound c.first_values.new.pool.trees _ c.in_ok-list.all c.has_bare-bare.result c.in_ok-sorts.ensures c.has_bare-bare.ensures c.is_whole-whole.ensures c.in_ok-list.ensures.first
