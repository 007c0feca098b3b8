use Rattle.std.proofs.Common.{◌≡◌, List, Some, None, map, sym, subst, ap, ◌∙◌}
use Rattle.std.specs.Prelude.{option_map}
use Rattle.std.specs.List.{AllByRecursion}
use Rattle.std.proofs.lemmas.Option.{none-some}
use Rattle.process_terms.specs.Processes.{written_call}
use Rattle.sort_checker.specs.declared.process_tables.Parameter.{Parameter}
use Rattle.sort_checker.specs.AssignedTrees.{assigned_value}
use Rattle.sort_checker.specs.CodeContexts.{parameter_of, IsParameterOver, AreWished}
use Rattle.sort_checker.specs.Elaborations as elaborations
use Rattle.sort_checker.specs.NameNumbers.{number_under}
use Rattle.sort_checker.specs.PartTypings.{assigned_in}
use Rattle.sort_checker.proofs.CallTables.{process_seen, parameters_over, no_process}
use Rattle.sort_checker.proofs.LabelParts.{of_call, assigned_here, call_made}
use Rattle.sort_checker.proofs.WhatStays.{all_found, none_found}
use Rattle.sort_checker.proofs.labels.call_by_name.Goals as goal

pub unreachable-requires : goal.unreachable-requires
unreachable-requires c =
    let e = c.requires.elaborates in
    let x = c.args.name.now.bytes.items in
    let is = of_call e.vocabulary e.scope x (map assigned_value c.args.assignments.now) e.body e.elaborates in
    let none : number_under c.args.processes.now.places x ≡ None = ap (number_under c.args.processes.now.places) (sym c.as_slice.ensures.value) ∙ (sym c.get.ensures ∙ c.in_default.is) in
    none-some (is.place, is.parameters) (sym (no_process c.args.processes.now x none c.args.sig.now c.args.scope.now e.vocabulary e.scope e.sees) ∙ is.process)

pub assigned_terms-requires-clause-parameters : goal.assigned_terms-requires-clause-parameters
assigned_terms-requires-clause-parameters c =
    let x = c.args.name.now.bytes.items in
    let place : number_under c.args.processes.now.places x ≡ Some c.in-Some.place = ap (number_under c.args.processes.now.places) (sym c.as_slice.ensures.value) ∙ (sym c.get.ensures ∙ c.in-Some.is) in
    subst (AllByRecursion (IsParameterOver c.args.sig.now)) (sym c.as_slice-parameters.ensures.value)
    (parameters_over c.args.processes.now x c.in-Some.place place c.index.result.now (c.requires.table.places x c.in-Some.place place) c.index.ensures c.args.sig.now c.requires.table)

pub unreachable-requires-in_default-made : goal.unreachable-requires-in_default-made
unreachable-requires-in_default-made c =
    let e = c.requires.elaborates in
    let x = c.args.name.now.bytes.items in
    let ds = map assigned_value c.args.assignments.now in
    let place : number_under c.args.processes.now.places x ≡ Some c.in-Some.place = ap (number_under c.args.processes.now.places) (sym c.as_slice.ensures.value) ∙ (sym c.get.ensures ∙ c.in-Some.is) in
    let seen = process_seen c.args.processes.now x c.in-Some.place place c.index.result.now (c.requires.table.places x c.in-Some.place place) c.index.ensures c.args.sig.now c.args.scope.now e.vocabulary e.scope e.sees in
    let has = assigned_here e.vocabulary e.scope x ds (of_call e.vocabulary e.scope x ds e.body e.elaborates) c.in-Some.place (map parameter_of c.index.result.now.items) seen in
    none-some has.1
    (sym (ap (λ (ps : List Parameter). assigned_in e.vocabulary.declared e.scope (map parameter_of ps) ds) (sym c.as_slice-parameters.ensures.value)
    ∙ none_found c.assigned_terms.new.sig c.assigned_terms.new.pool (assigned_in e.vocabulary.declared e.scope (map parameter_of c.as_slice-parameters.result.now) ds) (option_map (λ ids. ids.items) c.in_ok-made.made) (ap (option_map (λ ids. ids.items)) c.in_default-made.is)
    (c.in_ok-made.ensures.means e.vocabulary.declared e.scope e.sees.sees_data)) ∙ has.2)

pub returns-clause-means : goal.returns-clause-means
returns-clause-means c = λ v s sees.
    let e = c.requires.elaborates in
    let x = c.args.name.now.bytes.items in
    let ds = map assigned_value c.args.assignments.now in
    let ps = map parameter_of c.index.result.now.items in
    let place : number_under c.args.processes.now.places x ≡ Some c.in-Some.place = ap (number_under c.args.processes.now.places) (sym c.as_slice.ensures.value) ∙ (sym c.get.ensures ∙ c.in-Some.is) in
    let inside = c.requires.table.places x c.in-Some.place place in
    let has =
    assigned_here e.vocabulary e.scope x ds (of_call e.vocabulary e.scope x ds e.body e.elaborates) c.in-Some.place ps (process_seen c.args.processes.now x c.in-Some.place place c.index.result.now inside c.index.ensures c.args.sig.now c.args.scope.now e.vocabulary e.scope e.sees) in
    let made =
    all_found c.assigned_terms.new.sig c.assigned_terms.new.pool (assigned_in v.declared s (map parameter_of c.as_slice-parameters.result.now) ds) (option_map (λ ids. ids.items) c.in_ok-made.made) c.in-Some-made.terms.items (ap (option_map (λ ids. ids.items)) c.in-Some-made.is)
    (c.in_ok-made.ensures.means v.declared s sees.sees_data) in
    record {
      body = written_call c.in-Some.place made.0;
      elaborates = elaborations.call_by_name (process_seen c.args.processes.now x c.in-Some.place place c.index.result.now inside c.index.ensures c.args.sig.now c.args.scope.now v s sees) has.0
          (ap (λ (qs : List Parameter). assigned_in v.declared s (map parameter_of qs) ds) (sym c.as_slice-parameters.ensures.value) ∙ made.1);
      stands = call_made c.assigned_terms.new.sig c.assigned_terms.new.pool c.in-Some.place c.in-Some-made.terms made.0 made.2;
    }
