use Rattle.std.proofs.Common.{◌≡◌, List, length, map, sym, subst, ap, ◌∙◌, arith}
use Rattle.std.specs.Prelude.{option_map}
use Rattle.std.proofs.lemmas.Result.{IfOk-weaker}
use Rattle.mcrl2_syntax.specs.ProcessParts.{plain_action}
use Rattle.mcrl2_syntax.specs.TreeWords.{IsActionOfWords}
use Rattle.process_terms.specs.PlainProcesses as code
use Rattle.process_terms.specs.Processes.{written_act}
use Rattle.sort_table.specs.BareProcesses as bare
use Rattle.sort_table.specs.BareProcesses.{Action, bare_action}
use Rattle.sort_checker.specs.CodeContexts.{IsElaborated}
use Rattle.sort_checker.specs.Elaborations.{Elaborates, label}
use Rattle.sort_checker.specs.PartTypings.{label_in}
use Rattle.sort_checker.proofs.Adding.{goes_then}
use Rattle.sort_checker.proofs.AloneInCode.{alone_in_code, all_can_after, named_alike}
use Rattle.sort_checker.proofs.CallArguments.{images_long}
use Rattle.sort_checker.proofs.LabelParts.{act_made, single_bare, several_elaborate, the_label_found, no_label_found}
use Rattle.sort_checker.proofs.ReadLists.{at_mapped}
use Rattle.sort_checker.proofs.WhatStays.{sees_after, table_on}
use Rattle.sort_checker.proofs.labels.multi_action.Goals as goal

pub action_or_call-requires-clause-words : goal.action_or_call-requires-clause-words
action_or_call-requires-clause-words c = at_mapped IsActionOfWords plain_action c.args.actions.now 0 c.index-actions-0.result (let one = c.if-actions-eq1.true in omega (arith, one)) c.index-actions-0.is c.requires.words

pub action_or_call-requires-clause-elaborates : goal.action_or_call-requires-clause-elaborates
action_or_call-requires-clause-elaborates c =
    let e = c.requires.elaborates in
    record {
      vocabulary = e.vocabulary;
      scope = e.scope;
      sees = e.sees;
      body = e.body;
      elaborates = subst (λ (as_ : List Action). Elaborates e.vocabulary e.scope (bare.acts as_) e.body) (single_bare c.args.actions.now c.if-actions-eq1.true c.index-actions-0.result c.index-actions-0.is) e.elaborates;
    }

pub returns-then-actions-eq1-clause-means : goal.returns-then-actions-eq1-clause-means
returns-then-actions-eq1-clause-means c =
    IfOk-weaker c.action_or_call.result _ _
    (λ made k v s sees. subst (λ (as_ : List Action). IsElaborated v s (bare.acts as_) c.action_or_call.new.sig c.action_or_call.new.pool (code.plain_process made)) (sym (single_bare c.args.actions.now c.if-actions-eq1.true c.index-actions-0.result c.index-actions-0.is)) (k v s sees)) c.action_or_call.ensures.means

pub returns-in-Some-clause-means : goal.returns-in-Some-clause-means
returns-in-Some-clause-means c = λ v s sees.
    let as_ = map bare_action (map plain_action c.args.actions.now) in
    let one = the_label_found c.label_of.new.sig c.label_of.new.pool (label_in v.declared s as_) (option_map code.plain_label c.in_ok-made.made) (code.plain_label c.in-Some.label) (ap (option_map code.plain_label) c.in-Some.is) (c.in_ok-made.ensures.means v.declared s sees.sees_data) in
    record { body = written_act one.0; elaborates = label one.1; stands = act_made c.label_of.new.sig c.label_of.new.pool c.in-Some.label one.0 one.2 }

pub each_alone-requires-clause-table : goal.each_alone-requires-clause-table
each_alone-requires-clause-table c = table_on c.args.sig.now c.args.pool.now c.label_of.new.sig c.label_of.new.pool c.requires.ready.signature c.label_of.ensures.kept c.args.processes.now c.requires.table

pub each_alone-requires-clause-elaborates : goal.each_alone-requires-clause-elaborates
each_alone-requires-clause-elaborates c =
    let e = c.requires.elaborates in
    let as_ = map bare_action (map plain_action c.args.actions.now) in
    let none = no_label_found c.label_of.new.sig c.label_of.new.pool (label_in e.vocabulary.declared e.scope as_) (option_map code.plain_label c.in_ok-made.made) (ap (option_map code.plain_label) c.in_default.is) (c.in_ok-made.ensures.means e.vocabulary.declared e.scope e.sees.sees_data) in
    all_can_after c.args.sig.now c.args.pool.now c.label_of.new.sig c.label_of.new.pool c.requires.ready.signature c.label_of.ensures.kept c.args.processes.now c.args.scope.now e.vocabulary e.scope e.sees as_
    (several_elaborate e.vocabulary e.scope as_ e.body (λ one. c.if-actions-eq1.false (sym (images_long plain_action bare_action c.args.actions.now) ∙ one)) none e.elaborates)

pub returns-in_err-parts-clause-kept : goal.returns-in_err-parts-clause-kept
returns-in_err-parts-clause-kept c = goes_then c.args.sig.now c.args.pool.now c.label_of.new.sig c.label_of.new.pool c.each_alone.new.sig c.each_alone.new.pool c.label_of.ensures.kept c.each_alone.ensures.kept

pub returns-clause-kept : goal.returns-clause-kept
returns-clause-kept c = goes_then c.args.sig.now c.args.pool.now c.label_of.new.sig c.label_of.new.pool c.each_alone.new.sig c.each_alone.new.pool c.label_of.ensures.kept c.each_alone.ensures.kept

pub returns-clause-means : goal.returns-clause-means
returns-clause-means c = λ v s sees.
    let e = c.requires.elaborates in
    let as_ = map bare_action (map plain_action c.args.actions.now) in
    let several : ¬ (length as_ ≡ 1) = λ one. c.if-actions-eq1.false (sym (images_long plain_action bare_action c.args.actions.now) ∙ one) in
    let none = no_label_found c.label_of.new.sig c.label_of.new.pool (label_in e.vocabulary.declared e.scope as_) (option_map code.plain_label c.in_ok-made.made) (ap (option_map code.plain_label) c.in_default.is) (c.in_ok-made.ensures.means e.vocabulary.declared e.scope e.sees.sees_data) in
    let are = several_elaborate e.vocabulary e.scope as_ e.body several none e.elaborates in
    alone_in_code v s as_ several (named_alike c.args.sig.now c.args.processes.now c.args.scope.now e.vocabulary v e.scope s e.sees sees as_ are.named) c.each_alone.new.sig c.each_alone.new.pool c.in_ok-parts.parts
    (c.in_ok-parts.ensures.means v s (sees_after c.args.sig.now c.args.pool.now c.label_of.new.sig c.label_of.new.pool c.requires.ready.signature c.label_of.ensures.kept c.args.processes.now c.args.scope.now v s sees))
