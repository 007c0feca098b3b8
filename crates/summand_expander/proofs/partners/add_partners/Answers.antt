use Rattle.std.proofs.Common.{◌≡◌, ◌||◌, map, sym, ap, ◌∙◌, subst}
use Rattle.process_terms.specs.PlainProcesses.{plain_label}
use Rattle.action_filters.specs.Filters.{naming, same_name}
use Rattle.action_filters.specs.NameTests.{is_among}
use Rattle.summand_expander.specs.Nearby.{ArePartners}
use Rattle.summand_expander.specs.PlainAllowed.{plain_allowed}
use Rattle.summand_expander.proofs.NamedPartners.{added_absent, nothing_there, partners_alone, partners_near}
use Rattle.summand_expander.proofs.NearNames.{near_first}
use Rattle.summand_expander.proofs.partners.add_partners.Goals as goal

pub returns-then-is_empty-clause-partners : goal.returns-then-is_empty-clause-partners
returns-then-is_empty-clause-partners c =
    let names = map (naming c.args.sig.now).name (plain_label c.args.label.now) in
    let are : c.as_slice-names.result.now ≡ names = c.as_slice-names.ensures.value ∙ c.in_ok-own.ensures in
    partners_alone (plain_allowed c.args.allowed.now) c.args.answers.now.alone.keys c.add_names.new.set.keys names (sym are ∙ nothing_there c.as_slice-names.result.now (sym c.is_empty.ensures ∙ c.if-is_empty.true)) c.requires.answers.alone
    (λ x e. added_absent (is_among same_name c.add_names.new.set.keys x) (is_among same_name c.args.found.now.keys x) (is_among same_name c.args.answers.now.alone.keys x)
    (c.in_ok-add_names.ensures x ∙ ap (λ ns. is_among same_name c.args.found.now.keys x || is_among same_name ns x) c.as_slice.ensures.keys) e)

pub returns-clause-partners : goal.returns-clause-partners
returns-clause-partners c =
    let a = plain_allowed c.args.allowed.now in
    let near = c.in_ok-near.near in
    let names = map (naming c.args.sig.now).name (plain_label c.args.label.now) in
    let are : c.as_slice-names.result.now ≡ names = c.as_slice-names.ensures.value ∙ c.in_ok-own.ensures in
    subst (ArePartners a c.add_names-2.new.set.keys) are
    (partners_near a (plain_allowed near.allowed) near.names.keys c.add_names-2.new.set.keys c.as_slice-names.result.now
    (near_first a (plain_allowed near.allowed) near.names.keys c.as_slice-names.result.now (record { 0 = 0 }) (sym c.is_empty.ensures ∙ c.if-is_empty.false) c.in_ok-near.ensures)
    (λ x e. added_absent (is_among same_name c.add_names-2.new.set.keys x) (is_among same_name c.args.found.now.keys x) (is_among same_name near.names.keys x)
    (c.in_ok-add_names-2.ensures x ∙ ap (λ ns. is_among same_name c.args.found.now.keys x || is_among same_name ns x) c.as_slice-2.ensures.keys) e))
