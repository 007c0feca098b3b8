use Rattle.std.proofs.Common.{◌≡◌, ◌<◌, ◌≤◌, ◌++◌, ◌∷◌, [], List, map, length, take, refl, sym, subst, ap, ◌∙◌, arith}
use Rattle.std.specs.Prelude.{Some, None, option_map}
use Rattle.std.specs.List.{AllByRecursion}
use Rattle.std.proofs.lemmas.List.{map-append}
use Rattle.mcrl2_syntax.specs.declared.data_tree.DataTree.{DataTree}
use Rattle.mcrl2_syntax.specs.declared.process_tree.ActionTree.{ActionTree}
use Rattle.mcrl2_syntax.specs.DataTrees.{plain_data}
use Rattle.mcrl2_syntax.specs.ProcessParts.{plain_action}
use Rattle.mcrl2_syntax.specs.TreeWords.{IsActionOfWords, IsDataOfWords}
use Rattle.process_terms.specs.PlainProcesses as code
use Rattle.sort_table.specs.BareProcesses.{act, bare_action}
use Rattle.data_typing.specs.Readings.{bare_trees}
use Rattle.sort_checker.specs.ElaboratedLabels.{no_label, the_label}
use Rattle.sort_checker.specs.PartTypings.{label_in}
use Rattle.sort_checker.proofs.Adding.{goes_nowhere, goes_then}
use Rattle.sort_checker.proofs.LabelParts.{action_in, none_labelled, labelled_more, named_bare, tau_bare, next_label, next_tau, no_label_here, the_action_found, no_action_found}
use Rattle.sort_checker.proofs.ReadLists.{at_mapped, take_whole}
use Rattle.sort_checker.proofs.SortedGroups.{actions_on}
use Rattle.sort_checker.proofs.WhatStays.{sees_data_after}
use Rattle.sort_checker.proofs.labels.label_of.Goals as goal

pub loop-tree-init : goal.loop-tree-init
loop-tree-init c = record { kept = goes_nowhere c.args.sig.now c.args.pool.now; ready = c.requires.ready; means = λ v s sees. ([], refl, none_labelled c.args.sig.now c.args.pool.now (map code.plain_action c.new-list.result.items) (ap (map code.plain_action) c.new-list.ensures.items)) }

pub named_action-requires-clause-actions : goal.named_action-requires-clause-actions
named_action-requires-clause-actions c = actions_on c.args.sig.now c.args.pool.now c.loop-tree.sig c.loop-tree.pool c.requires.ready.signature c.loop-tree.invariant.kept c.args.actions.now c.requires.actions

pub named_action-requires-clause-words_name : goal.named_action-requires-clause-words_name
named_action-requires-clause-words_name c =
    (subst (λ (t : ActionTree). IsActionOfWords (plain_action t)) c.in-Named.is (at_mapped IsActionOfWords plain_action c.args.trees.now c.loop-tree.tree-index c.tree-item.result c.loop-tree-test.true c.tree-item.is c.requires.words)).0

pub named_action-requires-clause-words_arguments : goal.named_action-requires-clause-words_arguments
named_action-requires-clause-words_arguments c =
    subst (λ (ds : List DataTree). AllByRecursion IsDataOfWords (map plain_data ds)) (sym c.as_slice-arguments.ensures.value)
    (subst (λ (t : ActionTree). IsActionOfWords (plain_action t)) c.in-Named.is (at_mapped IsActionOfWords plain_action c.args.trees.now c.loop-tree.tree-index c.tree-item.result c.loop-tree-test.true c.tree-item.is c.requires.words)).1

pub returns-in_err-made-clause-kept : goal.returns-in_err-made-clause-kept
returns-in_err-made-clause-kept c = goes_then c.args.sig.now c.args.pool.now c.loop-tree.sig c.loop-tree.pool c.named_action.new.sig c.named_action.new.pool c.loop-tree.invariant.kept c.named_action.ensures.kept

pub returns-in_default-made-clause-kept : goal.returns-in_default-made-clause-kept
returns-in_default-made-clause-kept c = goes_then c.args.sig.now c.args.pool.now c.loop-tree.sig c.loop-tree.pool c.named_action.new.sig c.named_action.new.pool c.loop-tree.invariant.kept c.named_action.ensures.kept

pub returns-in_default-made-clause-means : goal.returns-in_default-made-clause-means
returns-in_default-made-clause-means c = λ v s sees.
    let x = c.in-Named.name.bytes.items in
    let es = bare_trees c.as_slice-arguments.result.now in
    let is : bare_action (plain_action c.tree-item.result) ≡ act x es =
    ap (λ (t : ActionTree). bare_action (plain_action t)) c.in-Named.is ∙ (named_bare c.in-Named.field-0 c.in-Named.name c.in-Named.arguments ∙ ap (λ (ds : List DataTree). act x (bare_trees ds)) (sym c.as_slice-arguments.ensures.value)) in
    let there = sees_data_after c.args.sig.now c.args.pool.now c.loop-tree.sig c.loop-tree.pool c.requires.ready.signature c.loop-tree.invariant.kept c.args.scope.now v s sees in
    no_label (no_label_here v s c.args.trees.now c.loop-tree.tree-index c.tree-item.result c.loop-tree-test.true c.tree-item.is x es is
    (no_action_found c.named_action.new.sig c.named_action.new.pool (action_in v s x es) (option_map code.plain_action c.in_ok-made.made) (ap (option_map code.plain_action) c.in_default-made.is) (c.in_ok-made.ensures.means v s there)))

pub returns-in_err-push-clause-kept : goal.returns-in_err-push-clause-kept
returns-in_err-push-clause-kept c = goes_then c.args.sig.now c.args.pool.now c.loop-tree.sig c.loop-tree.pool c.named_action.new.sig c.named_action.new.pool c.loop-tree.invariant.kept c.named_action.ensures.kept

pub loop-tree-preserved : goal.loop-tree-preserved
loop-tree-preserved c = record {
  kept = goes_then c.args.sig.now c.args.pool.now c.loop-tree.sig c.loop-tree.pool c.named_action.new.sig c.named_action.new.pool c.loop-tree.invariant.kept c.named_action.ensures.kept;
  ready = c.in_ok-made.ensures.ready;
  means = λ v s sees.
      let x = c.in-Named.name.bytes.items in
      let es = bare_trees c.as_slice-arguments.result.now in
      let is : bare_action (plain_action c.tree-item.result) ≡ act x es =
      ap (λ (t : ActionTree). bare_action (plain_action t)) c.in-Named.is ∙ (named_bare c.in-Named.field-0 c.in-Named.name c.in-Named.arguments ∙ ap (λ (ds : List DataTree). act x (bare_trees ds)) (sym c.as_slice-arguments.ensures.value)) in
      let there = sees_data_after c.args.sig.now c.args.pool.now c.loop-tree.sig c.loop-tree.pool c.requires.ready.signature c.loop-tree.invariant.kept c.args.scope.now v s sees in
      let so_far = c.loop-tree.invariant.means v s sees in
      let one = the_action_found c.named_action.new.sig c.named_action.new.pool (action_in v s x es) (option_map code.plain_action c.in_ok-made.made) (code.plain_action c.in-Some.action) (ap (option_map code.plain_action) c.in-Some.is) (c.in_ok-made.ensures.means v s there) in
      let pushed = ap (map code.plain_action) c.in_ok-push.ensures.items ∙ map-append code.plain_action c.loop-tree.list.items (c.in-Some.action ∷ []) in (
        so_far.0 ++ one.0 ∷ [],
        next_label v s c.args.trees.now c.loop-tree.tree-index c.tree-item.result c.loop-tree-test.true c.tree-item.is so_far.0 x es one.0 so_far.1 is one.1,
        labelled_more c.loop-tree.sig c.loop-tree.pool c.named_action.new.sig c.named_action.new.pool c.named_action.ensures.kept (map code.plain_action c.loop-tree.list.items) (map code.plain_action c.push.new.self.items) so_far.0 (code.plain_action c.in-Some.action) one.0 pushed so_far.2 one.2,
      );
}

pub loop-tree-preserved-in_default : goal.loop-tree-preserved-in_default
loop-tree-preserved-in_default c = record {
  kept = c.loop-tree.invariant.kept;
  ready = c.loop-tree.invariant.ready;
  means = λ v s sees.
      let so_far = c.loop-tree.invariant.means v s sees in
      (so_far.0, next_tau v s c.args.trees.now c.loop-tree.tree-index c.tree-item.result c.loop-tree-test.true c.tree-item.is (tau_bare c.tree-item.result c.in_default.not-Named) ∙ so_far.1, so_far.2);
}

pub returns-clause-means : goal.returns-clause-means
returns-clause-means c = λ v s sees.
    let so_far = c.loop-tree.invariant.means v s sees in
    let l : length c.args.trees.now ≤ c.loop-tree.tree-index = omega (arith, c.loop-tree-test.false) in
    the_label so_far.0 (subst (λ (ts : List ActionTree). label_in v s (map bare_action (map plain_action ts)) ≡ Some so_far.0) (take_whole c.loop-tree.tree-index c.args.trees.now l) so_far.1) so_far.2
