use Rattle.std.proofs.Common.{◌≡◌, ◌<◌, List, length, map, ap, sym, ◌∙◌, subst}
use Rattle.std.specs.Prelude.{option_map}
use Rattle.std.specs.List.{All}
use Rattle.data_theory.specs.declared.ids.SortId.{SortId}
use Rattle.data_theory.specs.IdTerms.{sort_under}
use Rattle.sort_table.specs.SignatureVocabularies.{vocabulary_of}
use Rattle.sort_checker.specs.Operators.{rule_fits_at}
use Rattle.sort_checker.specs.ActionTables.{key_of, keys_of, keys_in, actions_named}
use Rattle.sort_checker.specs.CommTrees.{rule_at}
use Rattle.sort_checker.proofs.ActionGroups.{absent_fits, entry_sorts, entry_fails, all_fit}
use Rattle.sort_checker.proofs.comm_shapes.fits_with.Goals as goal

pub returns-in_default : goal.returns-in_default
returns-in_default c =
    absent_fits c.args.sig.now c.args.name.now (rule_fits_at (vocabulary_of c.args.sig.now) (rule_at c.args.rule.now)) (keys_in c.args.table.now.groups c.args.name.now) (c.requires.groups c.args.name.now)
    (ap keys_of (sym c.get.ensures.value ∙ ap (option_map (λ v. v.now)) c.in_default.is))

pub fits_at-requires-clause-sorts : goal.fits_at-requires-clause-sorts
fits_at-requires-clause-sorts c =
    let under : map key_of c.as_slice-actions.result.now ≡ actions_named c.args.sig.now c.args.name.now c.args.sig.now.actions
    = ap (map key_of) c.as_slice-actions.ensures.value ∙ (sym (ap keys_of (sym c.get.ensures.value ∙ ap (option_map (λ v. v.now)) c.in-Some.is)) ∙ c.requires.groups c.args.name.now) in
    subst (All (λ (s : SortId). s.0 < length c.args.sig.now.sorts)) (sym c.as_slice.ensures.value)
    (entry_sorts c.args.sig.now c.next_sort.ensures.stands c.args.name.now c.as_slice-actions.result.now under c.loop-action.action-index c.action-item.result c.loop-action-test.true c.action-item.is)

pub returns-then-not-fits_at : goal.returns-then-not-fits_at
returns-then-not-fits_at c =
    let under : map key_of c.as_slice-actions.result.now ≡ actions_named c.args.sig.now c.args.name.now c.args.sig.now.actions
    = ap (map key_of) c.as_slice-actions.ensures.value ∙ (sym (ap keys_of (sym c.get.ensures.value ∙ ap (option_map (λ v. v.now)) c.in-Some.is)) ∙ c.requires.groups c.args.name.now) in
    entry_fails c.args.sig.now c.next_sort.ensures.stands c.args.name.now c.as_slice-actions.result.now under c.loop-action.action-index c.action-item.result c.loop-action-test.true c.action-item.is
    (rule_fits_at (vocabulary_of c.args.sig.now) (rule_at c.args.rule.now))
    (ap (λ (ids : List SortId). rule_fits_at (vocabulary_of c.args.sig.now) (rule_at c.args.rule.now) (map (sort_under c.args.sig.now) ids)) (sym c.as_slice.ensures.value) ∙ (sym c.fits_at.ensures ∙ c.if-not-fits_at.true))

pub returns : goal.returns
returns c =
    let under : map key_of c.as_slice-actions.result.now ≡ actions_named c.args.sig.now c.args.name.now c.args.sig.now.actions
    = ap (map key_of) c.as_slice-actions.ensures.value ∙ (sym (ap keys_of (sym c.get.ensures.value ∙ ap (option_map (λ v. v.now)) c.in-Some.is)) ∙ c.requires.groups c.args.name.now) in
    all_fit c.args.sig.now c.args.name.now (rule_fits_at (vocabulary_of c.args.sig.now) (rule_at c.args.rule.now)) c.as_slice-actions.result.now under c.loop-action.action-index c.loop-action-test.false c.loop-action.invariant
