use Rattle.std.proofs.Common.{get_or, sym, ap, subst, ◌∙◌, true≢false}
use Rattle.std.specs.Prelude.{Contains}
use Rattle.std.proofs.lemmas.List.Elements.{Contains-get_or}
use Rattle.data_theory.specs.declared.ids.NameId.{NameId}
use Rattle.action_filters.specs.Filters.{same_name}
use Rattle.action_filters.specs.NameTests.{is_among}
use Rattle.process_terms.specs.PlainProcesses.{plain_rule}
use Rattle.communication.specs.Places.{joining_of}
use Rattle.communication.proofs.NoStarts.{first_missing, name_missing}
use Rattle.communication.proofs.starts.may_start.Goals as goal

pub returns-then-not-is_among : goal.returns-then-not-is_among
returns-then-not-is_among c e =
    first_missing (joining_of (plain_rule c.args.rule.now)) c.args.first c.args.later.now (ap (λ ns. is_among same_name ns c.args.first.name) (sym c.as_slice.ensures.value) ∙ sym c.is_among.ensures ∙ c.if-not-is_among.true)

pub returns-then-not-is_met : goal.returns-then-not-is_met
returns-then-not-is_met c e =
    let name : NameId = get_or c.deref-name-items.result.now c.loop-name.name-index (record { 0 = 0 }) in
    name_missing (joining_of (plain_rule c.args.rule.now)) c.args.first c.args.later.now name
    (subst (λ ns. Contains ns name) c.deref-name-items.ensures.value (Contains-get_or c.deref-name-items.result.now c.loop-name.name-index (record { 0 = 0 }) c.loop-name-test.true))
    (sym c.is_met.ensures ∙ c.if-not-is_met.true)

pub returns : goal.returns
returns c e = absurd (true≢false e)
