use Rattle.std.proofs.Common.{[], List, map, sym, subst}
use Rattle.std.specs.Prelude.{option_map}
use Rattle.std.specs.List.{AllByRecursion}
use Rattle.mcrl2_syntax.specs.declared.process_tree.ActionTree.{ActionTree}
use Rattle.mcrl2_syntax.specs.ProcessParts.{plain_action, label_of}
use Rattle.mcrl2_syntax.specs.TreeWords.{IsActionOfWords}
use Rattle.process_terms.specs.PlainProcesses as code
use Rattle.sort_table.specs.BareProcesses.{bare_action}
use Rattle.sort_table.specs.SignatureVocabularies.{vocabulary_of}
use Rattle.sort_checker.specs.PartTypings.{label_in}
use Rattle.sort_checker.specs.TypedLabels.{IsLabelIn}
use Rattle.sort_checker.proofs.Adding.{goes_nowhere}
use Rattle.sort_checker.proofs.LabelsOver.{closed_found, ready_with_nothing, sees_nothing}
use Rattle.sort_checker.proofs.closed_labels.closed_label.Goals as goal

pub returns-in_err-tables-clause-kept : goal.returns-in_err-tables-clause-kept
returns-in_err-tables-clause-kept c = goes_nowhere c.args.sig.now c.args.pool.now

pub returns-in_err-actions-clause-kept : goal.returns-in_err-actions-clause-kept
returns-in_err-actions-clause-kept c = goes_nowhere c.args.sig.now c.args.pool.now

pub label_over-requires-clause-ready : goal.label_over-requires-clause-ready
label_over-requires-clause-ready c = ready_with_nothing c.args.sig.now c.args.pool.now c.in_ok-tables.tables c.next_sort.ensures.stands c.in_ok-tables.ensures c.requires.trees c.new-scope.result c.new-scope.ensures

pub label_over-requires-clause-words : goal.label_over-requires-clause-words
label_over-requires-clause-words c = subst (λ (ts : List ActionTree). AllByRecursion IsActionOfWords (map plain_action ts)) (sym c.as_slice-trees.ensures.value) c.requires.words

pub returns-clause-trees : goal.returns-clause-trees
returns-clause-trees c = c.in_ok-made.ensures.ready.trees

pub returns-clause-means : goal.returns-clause-means
returns-clause-means c =
    let g = c.args.sig.now in
    closed_found g c.label_over.new.pool c.next_sort.ensures.stands (label_of c.args.label.now) c.requires.words (option_map code.plain_label c.in_ok-made.made)
    (subst (λ (ts : List ActionTree). IsLabelIn g c.label_over.new.pool (label_in (vocabulary_of g) [] (map bare_action (map plain_action ts))) (option_map code.plain_label c.in_ok-made.made)) c.as_slice-trees.ensures.value
    (c.in_ok-made.ensures.means (vocabulary_of g) [] (sees_nothing g c.new-scope.result c.new-scope.ensures)))
