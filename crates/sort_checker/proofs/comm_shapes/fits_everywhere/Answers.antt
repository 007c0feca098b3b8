use Rattle.std.proofs.Common.{◌<◌, List, length, map, ap, sym, ◌∙◌, subst}
use Rattle.std.specs.List.{All}
use Rattle.data_theory.specs.declared.ids.SortId.{SortId}
use Rattle.data_theory.specs.IdTerms.{sort_under}
use Rattle.sort_table.specs.SignatureVocabularies.{vocabulary_of}
use Rattle.sort_checker.specs.Operators.{rule_fits_at}
use Rattle.sort_checker.specs.CommTrees.{rule_at}
use Rattle.sort_checker.proofs.ActionGroups.{entry_within, one_action_fails}
use Rattle.sort_checker.proofs.comm_shapes.fits_everywhere.Goals as goal

pub fits_at-requires-clause-sorts : goal.fits_at-requires-clause-sorts
fits_at-requires-clause-sorts c =
    subst (All (λ (s : SortId). s.0 < length c.args.sig.now.sorts)) (sym c.as_slice.ensures.value)
    (entry_within c.args.sig.now c.next_sort.ensures.stands c.acts-action-items.result.now c.acts-action-items.ensures c.loop-action.action-index c.action-item.result c.loop-action-test.true c.action-item.is).takes

pub returns-then-not-fits_at : goal.returns-then-not-fits_at
returns-then-not-fits_at c =
    one_action_fails c.args.sig.now (rule_fits_at (vocabulary_of c.args.sig.now) (rule_at c.args.rule.now)) c.acts-action-items.result.now c.acts-action-items.ensures c.loop-action.action-index c.action-item.result c.loop-action-test.true c.action-item.is
    (ap (λ (ids : List SortId). rule_fits_at (vocabulary_of c.args.sig.now) (rule_at c.args.rule.now) (map (sort_under c.args.sig.now) ids)) (sym c.as_slice.ensures.value) ∙ (sym c.fits_at.ensures ∙ c.if-not-fits_at.true))
