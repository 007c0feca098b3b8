use Rattle.std.proofs.Common.{◌||◌, ap, ◌∙◌}
use Rattle.std.specs.Prelude.{Vec}
use Rattle.std.specs.Global.{Global}
use Rattle.std.specs.List.{list_any}
use Rattle.std.proofs.lemmas.List.{take_all}
use Rattle.data_theory.specs.declared.ids.NameId.{NameId}
use Rattle.process_terms.specs.PlainProcesses.{items_of_each}
use Rattle.action_filters.specs.NameTests.{is_among}
use Rattle.action_filters.specs.Filters.{same_name}
use Rattle.action_filters.proofs.AddedNames.{or_none, found_more}
use Rattle.summand_expander.proofs.nearby.add_members.Goals as goal

pub loop-names-init : goal.loop-names-init
loop-names-init c x = or_none (is_among same_name c.args.set.now.keys x)

pub loop-names-preserved : goal.loop-names-preserved
loop-names-preserved c x =
    found_more (λ (v : Vec NameId Global). v.items) (λ v. is_among same_name v x) c.args.sets.now c.loop-names.names-index c.names-item.result (is_among same_name c.args.set.now.keys x) (is_among same_name c.loop-names.set.keys x) (is_among same_name c.add_names.new.set.keys x) c.loop-names-test.true c.names-item.is
    (c.loop-names.invariant x) (c.in_ok-add_names.ensures x ∙ ap (λ ns. is_among same_name c.loop-names.set.keys x || is_among same_name ns x) c.as_slice.ensures.value)

pub returns : goal.returns
returns c x =
    c.loop-names.invariant x ∙ ap (λ vs. is_among same_name c.args.set.now.keys x || list_any (λ v. is_among same_name v x) (items_of_each vs)) (take_all c.loop-names.names-index c.args.sets.now c.loop-names-test.false)
