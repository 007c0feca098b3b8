use Rattle.std.proofs.Common.{◌≡◌, List, [], map, sym, subst, ap, ◌∙◌}
use Rattle.std.specs.List.{AllByRecursion, flat_map}
use Rattle.mcrl2_syntax.specs.Declarations.{spec_of}
use Rattle.process_terms.specs.PlainProcesses.{PlainModel, plain_model, plain_equation, plain_definition, plain_process}
use Rattle.sort_table.specs.BareDeclarations.{bare_sections}
use Rattle.sort_table.specs.Expressions.{Name}
use Rattle.sort_checker.specs.declared.scoped_declarations.ScopedDecl.{ScopedDecl}
use Rattle.sort_checker.specs.Parts.{scoped_declarations}
use Rattle.sort_checker.specs.ScopedTrees.{scoped_items}
use Rattle.sort_checker.specs.ElaboratedTexts.{IsReadyScoped}
use Rattle.sort_checker.proofs.Adding.{goes_nowhere, goes_then, texts_stay, vocabulary_stays}
use Rattle.sort_checker.proofs.ReadyLeaves.{sections_ready}
use Rattle.sort_checker.proofs.TextParts.{ready_first, equations_can, sees_text, definitions_can_all, start_can, text_made}
use Rattle.sort_checker.proofs.WhatStays.{sees_after, table_on}
use Rattle.sort_checker.proofs.elaborating.model_of.Goals as goal

pub returns-in_err-declarations-clause-kept : goal.returns-in_err-declarations-clause-kept
returns-in_err-declarations-clause-kept c = goes_nowhere c.args.sig.now c.args.pool.now

pub returns-in_err-tables-clause-kept : goal.returns-in_err-tables-clause-kept
returns-in_err-tables-clause-kept c = goes_nowhere c.args.sig.now c.args.pool.now

pub process_table-requires-clause-ready : goal.process_table-requires-clause-ready
process_table-requires-clause-ready c =
    subst (AllByRecursion (IsReadyScoped c.args.sig.now.texts)) (sym c.as_slice-list.ensures.value) (c.in_ok-declarations.ensures.ready c.args.sig.now.texts (sections_ready c.args.sig.now.texts c.args.spec.now c.requires.words c.requires.entered))

pub returns-in_err-processes-clause-kept : goal.returns-in_err-processes-clause-kept
returns-in_err-processes-clause-kept c = goes_nowhere c.args.sig.now c.args.pool.now

pub written_equations-requires-clause-ready : goal.written_equations-requires-clause-ready
written_equations-requires-clause-ready c = ready_first c.args.sig.now c.next_sort.ensures.stands c.args.pool.now c.in_ok-tables.tables c.in_ok-tables.ensures c.requires.trees

pub written_equations-requires-clause-words : goal.written_equations-requires-clause-words
written_equations-requires-clause-words c =
    subst (AllByRecursion (IsReadyScoped c.args.sig.now.texts)) (sym c.as_slice-list.ensures.value) (c.in_ok-declarations.ensures.ready c.args.sig.now.texts (sections_ready c.args.sig.now.texts c.args.spec.now c.requires.words c.requires.entered))

pub written_equations-requires-clause-elaborate : goal.written_equations-requires-clause-elaborate
written_equations-requires-clause-elaborate c =
    equations_can c.args.sig.now (bare_sections (spec_of c.args.spec.now)) c.as_slice-list.result.now (ap scoped_items c.as_slice-list.ensures.value ∙ c.in_ok-declarations.ensures.items) c.requires.elaborates

pub definitions-requires-clause-table : goal.definitions-requires-clause-table
definitions-requires-clause-table c =
    table_on c.args.sig.now c.args.pool.now c.written_equations.new.sig c.written_equations.new.pool c.next_sort.ensures.stands c.written_equations.ensures.kept c.in_ok-processes.processes c.in_ok-processes.ensures.over

pub definitions-requires-clause-words : goal.definitions-requires-clause-words
definitions-requires-clause-words c =
    subst (λ (ts : List Name). AllByRecursion (IsReadyScoped ts) c.as_slice-list.result.now) (sym (texts_stay c.args.sig.now c.written_equations.new.sig c.next_sort.ensures.stands c.written_equations.ensures.kept.added))
    (subst (AllByRecursion (IsReadyScoped c.args.sig.now.texts)) (sym c.as_slice-list.ensures.value) (c.in_ok-declarations.ensures.ready c.args.sig.now.texts (sections_ready c.args.sig.now.texts c.args.spec.now c.requires.words c.requires.entered)))

pub definitions-requires-clause-elaborate : goal.definitions-requires-clause-elaborate
definitions-requires-clause-elaborate c =
    definitions_can_all c.args.sig.now (bare_sections (spec_of c.args.spec.now)) c.as_slice-list.result.now (ap scoped_items c.as_slice-list.ensures.value ∙ c.in_ok-declarations.ensures.items) c.in_ok-processes.processes c.in_ok-processes.ensures.lists
    c.next_sort.ensures.stands c.args.pool.now c.written_equations.new.sig c.written_equations.new.pool c.written_equations.ensures.kept c.requires.elaborates

pub returns-in_err-procs-clause-kept : goal.returns-in_err-procs-clause-kept
returns-in_err-procs-clause-kept c = goes_then c.args.sig.now c.args.pool.now c.written_equations.new.sig c.written_equations.new.pool c.definitions.new.sig c.definitions.new.pool c.written_equations.ensures.kept c.definitions.ensures.kept

pub start-requires-clause-table : goal.start-requires-clause-table
start-requires-clause-table c =
    let kept = goes_then c.args.sig.now c.args.pool.now c.written_equations.new.sig c.written_equations.new.pool c.definitions.new.sig c.definitions.new.pool c.written_equations.ensures.kept c.definitions.ensures.kept in
    table_on c.args.sig.now c.args.pool.now c.definitions.new.sig c.definitions.new.pool c.next_sort.ensures.stands kept c.in_ok-processes.processes c.in_ok-processes.ensures.over

pub start-requires-clause-words : goal.start-requires-clause-words
start-requires-clause-words c =
    let kept = goes_then c.args.sig.now c.args.pool.now c.written_equations.new.sig c.written_equations.new.pool c.definitions.new.sig c.definitions.new.pool c.written_equations.ensures.kept c.definitions.ensures.kept in
    subst (λ (ts : List Name). AllByRecursion (IsReadyScoped ts) c.as_slice-list.result.now) (sym (texts_stay c.args.sig.now c.definitions.new.sig c.next_sort.ensures.stands kept.added))
    (subst (AllByRecursion (IsReadyScoped c.args.sig.now.texts)) (sym c.as_slice-list.ensures.value) (c.in_ok-declarations.ensures.ready c.args.sig.now.texts (sections_ready c.args.sig.now.texts c.args.spec.now c.requires.words c.requires.entered)))

pub start-requires-clause-elaborates : goal.start-requires-clause-elaborates
start-requires-clause-elaborates c =
    let kept = goes_then c.args.sig.now c.args.pool.now c.written_equations.new.sig c.written_equations.new.pool c.definitions.new.sig c.definitions.new.pool c.written_equations.ensures.kept c.definitions.ensures.kept in
    start_can c.args.sig.now (bare_sections (spec_of c.args.spec.now)) c.as_slice-list.result.now (ap scoped_items c.as_slice-list.ensures.value ∙ c.in_ok-declarations.ensures.items) c.in_ok-processes.processes c.in_ok-processes.ensures.lists
    c.next_sort.ensures.stands c.args.pool.now c.definitions.new.sig c.definitions.new.pool kept c.requires.elaborates

pub returns-in_err-init_declaration-clause-kept : goal.returns-in_err-init_declaration-clause-kept
returns-in_err-init_declaration-clause-kept c =
    let kept = goes_then c.args.sig.now c.args.pool.now c.written_equations.new.sig c.written_equations.new.pool c.definitions.new.sig c.definitions.new.pool c.written_equations.ensures.kept c.definitions.ensures.kept in
    goes_then c.args.sig.now c.args.pool.now c.definitions.new.sig c.definitions.new.pool c.start.new.sig c.start.new.pool kept c.start.ensures.kept

pub returns-clause-kept : goal.returns-clause-kept
returns-clause-kept c =
    let kept = goes_then c.args.sig.now c.args.pool.now c.written_equations.new.sig c.written_equations.new.pool c.definitions.new.sig c.definitions.new.pool c.written_equations.ensures.kept c.definitions.ensures.kept in
    goes_then c.args.sig.now c.args.pool.now c.definitions.new.sig c.definitions.new.pool c.start.new.sig c.start.new.pool kept c.start.ensures.kept

pub returns-clause-within : goal.returns-clause-within
returns-clause-within c = c.in_ok-init_declaration.ensures.ready.trees

pub returns-clause-means : goal.returns-clause-means
returns-clause-means c = λ v over.
    let g = c.args.sig.now in
    let o = c.args.pool.now in
    let ss = bare_sections (spec_of c.args.spec.now) in
    let list : List ScopedDecl = c.as_slice-list.result.now in
    let items = ap scoped_items c.as_slice-list.ensures.value ∙ c.in_ok-declarations.ensures.items in
    let t = c.in_ok-processes.processes in
    let kept = goes_then g o c.written_equations.new.sig c.written_equations.new.pool c.definitions.new.sig c.definitions.new.pool c.written_equations.ensures.kept c.definitions.ensures.kept in
    let rest = goes_then c.written_equations.new.sig c.written_equations.new.pool c.definitions.new.sig c.definitions.new.pool c.start.new.sig c.start.new.pool c.definitions.ensures.kept c.start.ensures.kept in
    let sees = sees_text g ss list items t c.in_ok-processes.ensures.lists v over in
    let m : PlainModel = record {
      equations = map plain_equation c.in_ok-equations.equations.items;
      definitions = map plain_definition c.in_ok-procs.procs.items;
      init = plain_process c.in_ok-init_declaration.init;
      init_declaration = c.in_ok-init_declaration.init_declaration;
    } in
    text_made g ss list items v c.written_equations.new.sig c.written_equations.new.pool c.definitions.new.sig c.definitions.new.pool c.in_ok-procs.ensures.ready.signature c.start.new.sig c.start.new.pool c.start.ensures.kept m
    (c.in_ok-equations.ensures.means v over.declared)
    (c.in_ok-procs.ensures.means v (sees_after g o c.written_equations.new.sig c.written_equations.new.pool c.next_sort.ensures.stands c.written_equations.ensures.kept t [] v [] sees))
    (c.in_ok-init_declaration.ensures.means v (sees_after g o c.definitions.new.sig c.definitions.new.pool c.next_sort.ensures.stands kept t [] v [] sees)) rest
