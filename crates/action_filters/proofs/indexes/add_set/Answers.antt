use Rattle.std.proofs.Common.{◌||◌, subst, sym, ap, ◌∙◌}
use Rattle.std.specs.List.{list_any}
use Rattle.process_terms.specs.PlainProcesses.{items_of_each}
use Rattle.action_filters.specs.Filters.{same_name}
use Rattle.action_filters.specs.Indexes.{AreInOrder}
use Rattle.action_filters.specs.NameTests.{is_permuted}
use Rattle.action_filters.proofs.Ordered.{permuted_in_order}
use Rattle.action_filters.proofs.AddedNames.{more_sets, still_in_order}
use Rattle.action_filters.proofs.indexes.add_set.Goals as goal

pub returns-clause-sorted : goal.returns-clause-sorted
returns-clause-sorted c f = subst AreInOrder (sym c.in_ok-insert.ensures.keys) (still_in_order c.args.found.now.keys c.in_ok-in_order.field-0 _ f c.in_ok-in_order.ensures.sorted)

pub returns-clause-same : goal.returns-clause-same
returns-clause-same c ns =
    ap (λ ks. list_any (is_permuted same_name ns) (items_of_each ks)) c.in_ok-insert.ensures.keys
    ∙ more_sets (is_permuted same_name ns) c.args.found.now.keys c.in_ok-in_order.field-0
    ∙ ap (λ b. list_any (is_permuted same_name ns) (items_of_each c.args.found.now.keys) || b) (permuted_in_order ns c.args.set.now c.in_ok-in_order.field-0.items c.in_ok-in_order.ensures.same)
