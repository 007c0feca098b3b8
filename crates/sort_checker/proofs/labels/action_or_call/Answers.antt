use Rattle.std.proofs.Common.{◌≡◌, ◌++◌, ◌∷◌, [], List, Some, None, map, refl, sym, subst, ap, ◌∙◌}
use Rattle.std.specs.Prelude.{option_map}
use Rattle.std.specs.List.{AllByRecursion}
use Rattle.std.proofs.lemmas.Option.{none-some}
use Rattle.mcrl2_syntax.specs.declared.data_tree.DataTree.{DataTree}
use Rattle.mcrl2_syntax.specs.declared.process_tree.ActionTree.{ActionTree}
use Rattle.mcrl2_syntax.specs.DataTrees.{plain_data}
use Rattle.mcrl2_syntax.specs.ProcessParts.{plain_action}
use Rattle.mcrl2_syntax.specs.TreeWords.{IsActionOfWords, IsDataOfWords}
use Rattle.process_terms.specs.declared.labels.Action as code_action
use Rattle.process_terms.specs.declared.labels.Label as code_label
use Rattle.process_terms.specs.declared.processes.Proc.TheVariants as procs
use Rattle.process_terms.specs.PlainProcesses as code
use Rattle.process_terms.specs.Processes.{written_act}
use Rattle.sort_table.specs.BareProcesses as bare
use Rattle.sort_table.specs.BareProcesses.{Action, act, bare_action}
use Rattle.sort_table.specs.Expressions.{Name}
use Rattle.data_typing.specs.Readings.{bare_trees}
use Rattle.sort_checker.specs.CodeContexts.{IsElaborated}
use Rattle.sort_checker.specs.ElaboratedLabels.{IsWishedCall}
use Rattle.sort_checker.specs.Elaborations.{Elaborates, label}
use Rattle.sort_checker.proofs.Adding.{goes_nowhere, goes_then}
use Rattle.sort_checker.proofs.LabelParts.{action_in, act_made, none_labelled, labelled_more, named_bare, tau_bare, call_elaborates, no_call_found, the_action_found, no_action_found, one_elaborates, action_elaborates}
use Rattle.sort_checker.proofs.SortedGroups.{actions_on}
use Rattle.sort_checker.proofs.WhatStays.{sees_data_after}
use Rattle.sort_checker.proofs.labels.action_or_call.Goals as goal

pub returns-in_default-clause-kept : goal.returns-in_default-clause-kept
returns-in_default-clause-kept c = goes_nowhere c.args.sig.now c.args.pool.now

pub returns-in_default-clause-means : goal.returns-in_default-clause-means
returns-in_default-clause-means c = λ v s sees.
    let is = tau_bare c.args.action.now c.in_default.not-Named in
    let xs = map code.plain_action c.new-actions.result.items in
    record {
      body = written_act [];
      elaborates = subst (λ (a : Action). Elaborates v s (bare.acts (a ∷ [])) (written_act [])) (sym is) (label refl);
      stands = act_made c.args.sig.now c.args.pool.now (record { actions = c.new-actions.result }) [] (none_labelled c.args.sig.now c.args.pool.now xs (ap (map code.plain_action) c.new-actions.ensures.items));
    }

pub call_in_order-requires-clause-words : goal.call_in_order-requires-clause-words
call_in_order-requires-clause-words c =
    subst (λ (ds : List DataTree). AllByRecursion IsDataOfWords (map plain_data ds)) (sym c.as_slice-arguments.ensures.value) (subst (λ (t : ActionTree). IsActionOfWords (plain_action t)) c.in-Named.is c.requires.words).1

pub returns-in-Some-clause-means : goal.returns-in-Some-clause-means
returns-in-Some-clause-means c = λ v s sees.
    let g = c.call_in_order.new.sig in
    let p = c.call_in_order.new.pool in
    let x = c.in-Named.name.bytes.items in
    let es = bare_trees c.as_slice-arguments.result.now in
    let is : bare_action (plain_action c.args.action.now) ≡ act x es =
    ap (λ (t : ActionTree). bare_action (plain_action t)) c.in-Named.is ∙ (named_bare c.in-Named.field-0 c.in-Named.name c.in-Named.arguments ∙ ap (λ (ds : List DataTree). act x (bare_trees ds)) (sym c.as_slice-arguments.ensures.value)) in
    subst (λ (a : Action). IsElaborated v s (bare.acts (a ∷ [])) g p (code.plain_process c.in-Some.call)) (sym is)
    (call_elaborates v s x es g p (option_map code.plain_process c.in_ok-call.call) (code.plain_process c.in-Some.call) (ap (option_map code.plain_process) c.in-Some.is)
    (subst (λ (y : Name). IsWishedCall v s y es g p (option_map code.plain_process c.in_ok-call.call)) c.as_slice-text.ensures.value (c.in_ok-call.ensures.means v s sees)))

pub named_action-requires-clause-actions : goal.named_action-requires-clause-actions
named_action-requires-clause-actions c = actions_on c.args.sig.now c.args.pool.now c.call_in_order.new.sig c.call_in_order.new.pool c.requires.ready.signature c.call_in_order.ensures.kept c.args.processes.now.actions c.requires.table.actions

pub named_action-requires-clause-words_name : goal.named_action-requires-clause-words_name
named_action-requires-clause-words_name c = (subst (λ (t : ActionTree). IsActionOfWords (plain_action t)) c.in-Named.is c.requires.words).0

pub named_action-requires-clause-words_arguments : goal.named_action-requires-clause-words_arguments
named_action-requires-clause-words_arguments c =
    subst (λ (ds : List DataTree). AllByRecursion IsDataOfWords (map plain_data ds)) (sym c.as_slice-arguments.ensures.value) (subst (λ (t : ActionTree). IsActionOfWords (plain_action t)) c.in-Named.is c.requires.words).1

pub returns-in_err-made-clause-kept : goal.returns-in_err-made-clause-kept
returns-in_err-made-clause-kept c = goes_then c.args.sig.now c.args.pool.now c.call_in_order.new.sig c.call_in_order.new.pool c.named_action.new.sig c.named_action.new.pool c.call_in_order.ensures.kept c.named_action.ensures.kept

pub unreachable-requires : goal.unreachable-requires
unreachable-requires c =
    let e = c.requires.elaborates in
    let g = c.call_in_order.new.sig in
    let p = c.call_in_order.new.pool in
    let x = c.in-Named.name.bytes.items in
    let es = bare_trees c.as_slice-arguments.result.now in
    let is : bare_action (plain_action c.args.action.now) ≡ act x es =
    ap (λ (t : ActionTree). bare_action (plain_action t)) c.in-Named.is ∙ (named_bare c.in-Named.field-0 c.in-Named.name c.in-Named.arguments ∙ ap (λ (ds : List DataTree). act x (bare_trees ds)) (sym c.as_slice-arguments.ensures.value)) in
    let there = sees_data_after c.args.sig.now c.args.pool.now g p c.requires.ready.signature c.call_in_order.ensures.kept c.args.scope.now e.vocabulary.declared e.scope e.sees.sees_data in
    one_elaborates e.vocabulary e.scope ⊥ x es e.body (subst (λ (a : Action). Elaborates e.vocabulary e.scope (bare.acts (a ∷ [])) e.body) is e.elaborates)
    (λ a one.
    absurd (none-some a (sym (no_action_found c.named_action.new.sig c.named_action.new.pool (action_in e.vocabulary.declared e.scope x es) (option_map code.plain_action c.in_ok-made.made) (ap (option_map code.plain_action) c.in_default-made.is) (c.in_ok-made.ensures.means e.vocabulary.declared e.scope there)) ∙ one)))
    (no_call_found e.vocabulary e.scope x es g p (option_map code.plain_process c.in_ok-call.call) (ap (option_map code.plain_process) c.in_default-call.is)
    (subst (λ (y : Name). IsWishedCall e.vocabulary e.scope y es g p (option_map code.plain_process c.in_ok-call.call)) c.as_slice-text.ensures.value (c.in_ok-call.ensures.means e.vocabulary e.scope e.sees)))

pub returns-in_err-push-clause-kept : goal.returns-in_err-push-clause-kept
returns-in_err-push-clause-kept c = goes_then c.args.sig.now c.args.pool.now c.call_in_order.new.sig c.call_in_order.new.pool c.named_action.new.sig c.named_action.new.pool c.call_in_order.ensures.kept c.named_action.ensures.kept

pub returns-clause-kept : goal.returns-clause-kept
returns-clause-kept c = goes_then c.args.sig.now c.args.pool.now c.call_in_order.new.sig c.call_in_order.new.pool c.named_action.new.sig c.named_action.new.pool c.call_in_order.ensures.kept c.named_action.ensures.kept

pub returns-clause-means : goal.returns-clause-means
returns-clause-means c = λ v s sees.
    let g = c.named_action.new.sig in
    let p = c.named_action.new.pool in
    let x = c.in-Named.name.bytes.items in
    let es = bare_trees c.as_slice-arguments.result.now in
    let is : bare_action (plain_action c.args.action.now) ≡ act x es =
    ap (λ (t : ActionTree). bare_action (plain_action t)) c.in-Named.is ∙ (named_bare c.in-Named.field-0 c.in-Named.name c.in-Named.arguments ∙ ap (λ (ds : List DataTree). act x (bare_trees ds)) (sym c.as_slice-arguments.ensures.value)) in
    let there = sees_data_after c.args.sig.now c.args.pool.now c.call_in_order.new.sig c.call_in_order.new.pool c.requires.ready.signature c.call_in_order.ensures.kept c.args.scope.now v.declared s sees.sees_data in
    let one = the_action_found g p (action_in v.declared s x es) (option_map code.plain_action c.in_ok-made.made) (code.plain_action c.in-Some-made.action) (ap (option_map code.plain_action) c.in-Some-made.is) (c.in_ok-made.ensures.means v.declared s there) in
    let made : code_label.Label = record { actions = c.push.new.self } in
    let xs = map code.plain_action c.push.new.self.items in
    let pushed : xs ≡ [] ++ code.plain_action c.in-Some-made.action ∷ [] = ap (map code.plain_action) (c.in_ok-push.ensures.items ∙ ap (λ (ys : List code_action.Action). ys ++ c.in-Some-made.action ∷ []) c.new-actions-2.ensures.items) in
    subst (λ (b : Action). IsElaborated v s (bare.acts (b ∷ [])) g p (code.plain_process (procs.Act made))) (sym is)
    (record { body = written_act (one.0 ∷ []); elaborates = action_elaborates v s x es one.0 one.1; stands = act_made g p made (one.0 ∷ []) (labelled_more g p g p (goes_nowhere g p) [] xs [] (code.plain_action c.in-Some-made.action) one.0 pushed (none_labelled g p [] refl) one.2) })
