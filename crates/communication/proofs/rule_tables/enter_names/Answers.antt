use Rattle.std.proofs.Common.{take, get_or, sym, subst}
use Rattle.std.proofs.lemmas.List.{take_more, take_all}
use Rattle.data_theory.specs.declared.ids.NameId.{NameId}
use Rattle.communication.specs.RuleTables.{AreEntered}
use Rattle.communication.proofs.NamedRules.{none_entered, one_more_entered}
use Rattle.communication.proofs.rule_tables.enter_names.Goals as goal

pub loop-name-init : goal.loop-name-init
loop-name-init c = none_entered c.args.place c.args.places.now.entries

pub loop-name-preserved : goal.loop-name-preserved
loop-name-preserved c =
    let next : NameId = get_or c.args.names.now c.loop-name.name-index (record { 0 = 0 }) in
    subst (λ ns. AreEntered ns c.args.place c.args.places.now.entries c.enter_name.new.places.entries) (sym (take_more c.args.names.now c.loop-name.name-index (record { 0 = 0 }) c.loop-name-test.true))
    (one_more_entered (take c.loop-name.name-index c.args.names.now) next c.args.place c.args.places.now.entries c.loop-name.places.entries c.enter_name.new.places.entries c.loop-name.invariant (c.in_ok-enter_name.ensures c.if-not-branch.false))

pub returns : goal.returns
returns c e = subst (λ ns. AreEntered ns c.args.place c.args.places.now.entries c.loop-name.places.entries) (take_all c.loop-name.name-index c.args.names.now c.loop-name-test.false) c.loop-name.invariant
