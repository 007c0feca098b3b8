use Rattle.std.proofs.Common.{◌≡◌, List, Some, map, sym, subst, ap, ◌∙◌}
use Rattle.std.specs.Prelude.{option_map}
use Rattle.std.proofs.lemmas.Option.{none-some}
use Rattle.std.specs.List.{AllByRecursion}
use Rattle.data_typing.specs.Contexts.{IsFlatOver}
use Rattle.data_typing.specs.Readings.{bare_trees}
use Rattle.sort_checker.specs.declared.process_tables.Parameter.{Parameter}
use Rattle.sort_checker.specs.CodeContexts.{parameter_of}
use Rattle.sort_checker.specs.ElaboratedLabels.{no_call, the_call}
use Rattle.sort_checker.specs.FullVocabularies.{Parameters, process_named}
use Rattle.sort_checker.specs.PartTypings.{arguments_in}
use Rattle.sort_checker.proofs.Adding.{goes_nowhere}
use Rattle.sort_checker.proofs.CallTables.{process_seen, sorts_over, no_process, same_process}
use Rattle.sort_checker.proofs.LabelParts.{call_made}
use Rattle.sort_checker.proofs.WhatStays.{all_found, none_found}
use Rattle.sort_checker.proofs.labels.call_in_order.Goals as goal

pub returns-in_default-clause-kept : goal.returns-in_default-clause-kept
returns-in_default-clause-kept c = goes_nowhere c.args.sig.now c.args.pool.now

pub returns-in_default-clause-means : goal.returns-in_default-clause-means
returns-in_default-clause-means c = λ v s sees.
    no_call (λ k ps is. absurd (none-some (k, ps) (sym (no_process c.args.processes.now c.args.name.now (sym c.get.ensures ∙ c.in_default.is) c.args.sig.now c.args.scope.now v s sees) ∙ is)))

pub argument_terms-requires-clause-sorts : goal.argument_terms-requires-clause-sorts
argument_terms-requires-clause-sorts c =
    let place = sym c.get.ensures ∙ c.in-Some.is in
    subst (AllByRecursion (λ (p : Parameter). IsFlatOver c.args.sig.now p.sort)) (sym c.as_slice-parameters.ensures.value)
    (sorts_over c.args.processes.now c.args.name.now c.in-Some.place place c.index.result.now (c.requires.table.places c.args.name.now c.in-Some.place place) c.index.ensures c.args.sig.now c.requires.table)

pub returns-in-Some-terms-clause-means : goal.returns-in-Some-terms-clause-means
returns-in-Some-terms-clause-means c = λ v s sees.
    let place = sym c.get.ensures ∙ c.in-Some.is in
    let made =
    all_found c.argument_terms.new.sig c.argument_terms.new.pool (arguments_in v.declared s (map parameter_of c.as_slice-parameters.result.now) (bare_trees c.args.arguments.now)) (option_map (λ ids. ids.items) c.in_ok-terms.terms) c.in-Some-terms.terms.items
    (ap (option_map (λ ids. ids.items)) c.in-Some-terms.is) (c.in_ok-terms.ensures.means v.declared s sees.sees_data) in
    the_call c.in-Some.place (map parameter_of c.index.result.now.items) made.0
    (process_seen c.args.processes.now c.args.name.now c.in-Some.place place c.index.result.now (c.requires.table.places c.args.name.now c.in-Some.place place) c.index.ensures c.args.sig.now c.args.scope.now v s sees)
    (ap (λ (ps : List Parameter). arguments_in v.declared s (map parameter_of ps) (bare_trees c.args.arguments.now)) (sym c.as_slice-parameters.ensures.value) ∙ made.1)
    (call_made c.argument_terms.new.sig c.argument_terms.new.pool c.in-Some.place c.in-Some-terms.terms made.0 made.2)

pub returns-in-None-clause-means : goal.returns-in-None-clause-means
returns-in-None-clause-means c = λ v s sees.
    let place = sym c.get.ensures ∙ c.in-Some.is in
    let seen = process_seen c.args.processes.now c.args.name.now c.in-Some.place place c.index.result.now (c.requires.table.places c.args.name.now c.in-Some.place place) c.index.ensures c.args.sig.now c.args.scope.now v s sees in
    let none =
    none_found c.argument_terms.new.sig c.argument_terms.new.pool (arguments_in v.declared s (map parameter_of c.as_slice-parameters.result.now) (bare_trees c.args.arguments.now)) (option_map (λ ids. ids.items) c.in_ok-terms.terms)
    (ap (option_map (λ ids. ids.items)) c.in-None.is) (c.in_ok-terms.ensures.means v.declared s sees.sees_data) in
    no_call (λ k ps is. ap (λ (qs : Parameters). arguments_in v.declared s qs (bare_trees c.args.arguments.now)) (sym (same_process c.in-Some.place k (map parameter_of c.index.result.now.items) ps (process_named v c.args.name.now) seen is).1)
    ∙ (ap (λ (qs : List Parameter). arguments_in v.declared s (map parameter_of qs) (bare_trees c.args.arguments.now)) (sym c.as_slice-parameters.ensures.value) ∙ none))
