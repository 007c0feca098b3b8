use Rattle.std.proofs.Common.{◌≡◌, ◌≤◌, ◌++◌, ◌∷◌, [], List, map, length, refl, sym, subst, ap, ◌∙◌, arith}
use Rattle.std.specs.Prelude.{Some, option_map}
use Rattle.std.specs.List.{AllByRecursion}
use Rattle.std.proofs.lemmas.List.{map-append}
use Rattle.mcrl2_syntax.specs.declared.data_tree.DataTree.{DataTree}
use Rattle.mcrl2_syntax.specs.declared.process_tree.ActionTree.{ActionTree}
use Rattle.mcrl2_syntax.specs.DataTrees.{plain_data}
use Rattle.mcrl2_syntax.specs.ProcessParts.{plain_action}
use Rattle.mcrl2_syntax.specs.TreeWords.{IsActionOfWords, IsDataOfWords}
use Rattle.data_theory.specs.IdTerms.{variable_sorts}
use Rattle.process_terms.specs.PlainProcesses as code
use Rattle.sort_table.specs.BareProcesses.{act, bare_action}
use Rattle.data_typing.specs.Readings.{bare_trees}
use Rattle.sort_checker.specs.PartTypings.{label_in}
use Rattle.sort_checker.specs.TypedLabels.{ActionHasItsSortsIn, FitsItsSorts}
use Rattle.sort_checker.proofs.Adding.{goes_nowhere, goes_then}
use Rattle.sort_checker.proofs.LabelParts.{action_in, none_labelled, labelled_more, named_bare, tau_bare, next_label, next_tau, label_has_here}
use Rattle.sort_checker.proofs.LabelsOver.{all_and_one, the_action_in, no_action_in}
use Rattle.sort_checker.proofs.ReadLists.{at_mapped, take_whole}
use Rattle.sort_checker.proofs.closed_labels.label_over.Goals as goal

pub loop-tree-init : goal.loop-tree-init
loop-tree-init c = record { kept = goes_nowhere c.args.sig.now c.args.pool.now; ready = c.requires.ready; means = λ v s sees. ([], refl, none_labelled c.args.sig.now c.args.pool.now (map code.plain_action c.new-list.result.items) (ap (map code.plain_action) c.new-list.ensures.items), tt) }

pub action_over-requires-clause-words_name : goal.action_over-requires-clause-words_name
action_over-requires-clause-words_name c =
    (subst (λ (t : ActionTree). IsActionOfWords (plain_action t)) c.in-Named.is (at_mapped IsActionOfWords plain_action c.args.trees.now c.loop-tree.tree-index c.tree-item.result c.loop-tree-test.true c.tree-item.is c.requires.words)).0

pub action_over-requires-clause-words_arguments : goal.action_over-requires-clause-words_arguments
action_over-requires-clause-words_arguments c =
    subst (λ (ds : List DataTree). AllByRecursion IsDataOfWords (map plain_data ds)) (sym c.as_slice-arguments.ensures.value)
    (subst (λ (t : ActionTree). IsActionOfWords (plain_action t)) c.in-Named.is (at_mapped IsActionOfWords plain_action c.args.trees.now c.loop-tree.tree-index c.tree-item.result c.loop-tree-test.true c.tree-item.is c.requires.words)).1

pub returns-in_err-made-clause-kept : goal.returns-in_err-made-clause-kept
returns-in_err-made-clause-kept c = goes_then c.args.sig.now c.args.pool.now c.args.sig.now c.loop-tree.pool c.args.sig.now c.action_over.new.pool c.loop-tree.invariant.kept c.action_over.ensures.kept

pub returns-in_default-made-clause-kept : goal.returns-in_default-made-clause-kept
returns-in_default-made-clause-kept c = goes_then c.args.sig.now c.args.pool.now c.args.sig.now c.loop-tree.pool c.args.sig.now c.action_over.new.pool c.loop-tree.invariant.kept c.action_over.ensures.kept

pub returns-in_default-made-clause-means : goal.returns-in_default-made-clause-means
returns-in_default-made-clause-means c = λ v s sees. λ m e fits in_.
    let g = c.args.sig.now in
    let x = c.in-Named.name.bytes.items in
    let es = bare_trees c.as_slice-arguments.result.now in
    let is : bare_action (plain_action c.tree-item.result) ≡ act x es =
    ap (λ (t : ActionTree). bare_action (plain_action t)) c.in-Named.is ∙ (named_bare c.in-Named.field-0 c.in-Named.name c.in-Named.arguments ∙ ap (λ (ds : List DataTree). act x (bare_trees ds)) (sym c.as_slice-arguments.ensures.value)) in
    let has = label_has_here v s c.args.trees.now c.loop-tree.tree-index c.tree-item.result c.loop-tree-test.true c.tree-item.is x es is m e in
    no_action_in g c.action_over.new.pool (action_in v s x es) (option_map code.plain_action c.in_ok-made.made) (ap (option_map code.plain_action) c.in_default-made.is) (c.in_ok-made.ensures.means v s sees) has.action has.is
    (has.holds (FitsItsSorts g (variable_sorts g)) fits) (has.holds (ActionHasItsSortsIn g) in_)

pub returns-in_err-push-clause-kept : goal.returns-in_err-push-clause-kept
returns-in_err-push-clause-kept c = goes_then c.args.sig.now c.args.pool.now c.args.sig.now c.loop-tree.pool c.args.sig.now c.action_over.new.pool c.loop-tree.invariant.kept c.action_over.ensures.kept

pub loop-tree-preserved : goal.loop-tree-preserved
loop-tree-preserved c = record {
  kept = goes_then c.args.sig.now c.args.pool.now c.args.sig.now c.loop-tree.pool c.args.sig.now c.action_over.new.pool c.loop-tree.invariant.kept c.action_over.ensures.kept;
  ready = c.in_ok-made.ensures.ready;
  means = λ v s sees.
      let g = c.args.sig.now in
      let x = c.in-Named.name.bytes.items in
      let es = bare_trees c.as_slice-arguments.result.now in
      let is : bare_action (plain_action c.tree-item.result) ≡ act x es =
      ap (λ (t : ActionTree). bare_action (plain_action t)) c.in-Named.is ∙ (named_bare c.in-Named.field-0 c.in-Named.name c.in-Named.arguments ∙ ap (λ (ds : List DataTree). act x (bare_trees ds)) (sym c.as_slice-arguments.ensures.value)) in
      let so_far = c.loop-tree.invariant.means v s sees in
      let one = the_action_in g c.action_over.new.pool (action_in v s x es) (option_map code.plain_action c.in_ok-made.made) (code.plain_action c.in-Some.action) (ap (option_map code.plain_action) c.in-Some.is) (c.in_ok-made.ensures.means v s sees) in
      let pushed = ap (map code.plain_action) c.in_ok-push.ensures.items ∙ map-append code.plain_action c.loop-tree.list.items (c.in-Some.action ∷ []) in (
        so_far.0 ++ one.0 ∷ [],
        next_label v s c.args.trees.now c.loop-tree.tree-index c.tree-item.result c.loop-tree-test.true c.tree-item.is so_far.0 x es one.0 so_far.1 is one.1,
        labelled_more g c.loop-tree.pool g c.action_over.new.pool c.action_over.ensures.kept (map code.plain_action c.loop-tree.list.items) (map code.plain_action c.push.new.self.items) so_far.0 (code.plain_action c.in-Some.action) one.0 pushed so_far.2 one.2,
        all_and_one (ActionHasItsSortsIn g) so_far.0 (so_far.0 ++ one.0 ∷ []) one.0 refl so_far.3 one.3,
      );
}

pub loop-tree-preserved-in_default : goal.loop-tree-preserved-in_default
loop-tree-preserved-in_default c = record {
  kept = c.loop-tree.invariant.kept;
  ready = c.loop-tree.invariant.ready;
  means = λ v s sees.
      let so_far = c.loop-tree.invariant.means v s sees in
      (so_far.0, next_tau v s c.args.trees.now c.loop-tree.tree-index c.tree-item.result c.loop-tree-test.true c.tree-item.is (tau_bare c.tree-item.result c.in_default.not-Named) ∙ so_far.1, so_far.2, so_far.3);
}

pub returns-clause-means : goal.returns-clause-means
returns-clause-means c = λ v s sees.
    let so_far = c.loop-tree.invariant.means v s sees in
    let l : length c.args.trees.now ≤ c.loop-tree.tree-index = omega (arith, c.loop-tree-test.false) in
    (so_far.0, subst (λ (ts : List ActionTree). label_in v s (map bare_action (map plain_action ts)) ≡ Some so_far.0) (take_whole c.loop-tree.tree-index c.args.trees.now l) so_far.1, so_far.2, so_far.3)
