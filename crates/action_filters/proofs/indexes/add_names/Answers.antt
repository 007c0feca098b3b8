use Rattle.std.proofs.Common.{◌||◌, get_or, ap, ◌∙◌}
use Rattle.std.proofs.lemmas.List.{take_all}
use Rattle.data_theory.specs.declared.ids.NameId.{NameId}
use Rattle.action_filters.specs.NameTests.{is_among}
use Rattle.action_filters.specs.Filters.{same_name}
use Rattle.action_filters.proofs.AddedNames.{or_none, more_among, found_at}
use Rattle.action_filters.proofs.indexes.add_names.Goals as goal

pub loop-name-init : goal.loop-name-init
loop-name-init c x = or_none (is_among same_name c.args.set.now.keys x)

pub loop-name-preserved : goal.loop-name-preserved
loop-name-preserved c x =
    let next : NameId = get_or c.args.names.now c.loop-name.name-index (record { 0 = 0 }) in
    found_at (λ n. same_name n x) c.args.names.now c.loop-name.name-index (record { 0 = 0 }) (is_among same_name c.args.set.now.keys x) (is_among same_name c.loop-name.set.keys x) (is_among same_name c.insert.new.self.keys x) c.loop-name-test.true (c.loop-name.invariant x)
    (ap (λ ks. is_among same_name ks x) c.in_ok-insert.ensures.keys ∙ more_among c.loop-name.set.keys next x)

pub returns : goal.returns
returns c x = c.loop-name.invariant x ∙ ap (λ ns. is_among same_name c.args.set.now.keys x || is_among same_name ns x) (take_all c.loop-name.name-index c.args.names.now c.loop-name-test.false)
