use Rattle.std.proofs.Common.{◌≡◌, ◌++◌, ◌∷◌, [], List, ℕ, map, sym, subst, ap, ◌∙◌}
use Rattle.std.specs.List.{AllByRecursion, Contains, flat_map}
use Rattle.std.proofs.lemmas.List.{append-nil}
use Rattle.mcrl2_syntax.specs.declared.declaration.Decl.{Decl}
use Rattle.mcrl2_syntax.specs.declared.process_tree.ProcTree.{ProcTree}
use Rattle.mcrl2_syntax.specs.declared.process_tree.VarGroup.{VarGroup}
use Rattle.mcrl2_syntax.specs.Declarations.{plain_decl}
use Rattle.mcrl2_syntax.specs.ProcessParts.{PlainVarGroup, var_group_of}
use Rattle.mcrl2_syntax.specs.ProcessTrees.{plain_process}
use Rattle.mcrl2_syntax.specs.TreeWords.{IsGroupOfWords, IsProcessOfWords}
use Rattle.mcrl2_syntax.proofs.Lists.{all_front, all_back}
use Rattle.process_terms.specs.PlainProcesses as code
use Rattle.process_terms.specs.PlainProcesses.{plain_definition}
use Rattle.sort_table.specs.BareProcesses.{bare_process, bare_variables}
use Rattle.sort_table.specs.DeclarationTrees.{declaration_of}
use Rattle.sort_table.specs.Expressions.{Name}
use Rattle.sort_table.specs.Identifiers.{in_group, in_process}
use Rattle.sort_table.specs.SignatureVocabularies.{vocabulary_of}
use Rattle.sort_table.specs.Vocabularies.{Vocabulary}
use Rattle.data_typing.specs.Meanings.{Scope}
use Rattle.sort_checker.specs.FullVocabularies.{FullVocabulary, Written, process_by}
use Rattle.sort_checker.specs.ReadyTrees.{IsReadyDeclaration, AreReadyLeaves, leaves_in}
use Rattle.sort_checker.specs.CodeContexts.{Sees, CanElaborate, IsElaborated, VariablesStand, AreBound, SumNamesStand}
use Rattle.sort_checker.specs.SoundTexts.{HaveSorts}
use Rattle.sort_checker.specs.ElaboratedTexts.{processes_at, CanElaborateDefinitions, AreElaboratedDefinitions}
use Rattle.sort_checker.proofs.Adding.{goes_nowhere, goes_then, texts_stay}
use Rattle.sort_checker.proofs.ElaboratedSound.{bound_sorts}
use Rattle.sort_checker.proofs.MadeDefinitions.{groups_stand, sums_stand, body_can, definition_made, definitions_on, definition_added}
use Rattle.sort_checker.proofs.OtherDeclarations.{no_process}
use Rattle.sort_checker.proofs.ReadyLeaves.{groups_ready, process_ready}
use Rattle.sort_checker.proofs.WhatStays.{table_on}
use Rattle.sort_checker.proofs.definitions.add_definition.Goals as goal

pub returns-in_default : goal.returns-in_default
returns-in_default c = record {
  kept = goes_nowhere c.args.sig.now c.args.pool.now;
  ready = c.requires.ready;
  empty = c.requires.empty;
  means = λ v ws sees all.
      subst (λ (xs : List (ℕ × Written)). AreElaboratedDefinitions v c.args.sig.now c.args.pool.now xs (map plain_definition c.args.definitions.now.items))
      (sym (append-nil ws) ∙ ap (λ (us : List Written). ws ++ map (λ (w : Written). (c.args.number, w)) us) (sym (no_process c.args.declaration.now c.in_default.not-Proc))) all;
}

pub enter_groups-requires-clause-groups : goal.enter_groups-requires-clause-groups
enter_groups-requires-clause-groups c =
    let ready = subst (λ (d : Decl). IsReadyDeclaration c.args.sig.now.texts (plain_decl d)) c.in-Proc.is c.requires.words in
    subst (λ (vs : List VarGroup). AllByRecursion IsGroupOfWords (map var_group_of vs)) (sym c.as_slice.ensures.value) ready.0.1

pub enter_groups-requires-clause-there : goal.enter_groups-requires-clause-there
enter_groups-requires-clause-there c =
    let texts = c.args.sig.now.texts in
    let ready = subst (λ (d : Decl). IsReadyDeclaration texts (plain_decl d)) c.in-Proc.is c.requires.words in
    let gs : List PlainVarGroup = map var_group_of c.in-Proc.groups.items in
    subst (λ (vs : List VarGroup). VariablesStand c.args.sig.now (bare_variables (map var_group_of vs))) (sym c.as_slice.ensures.value)
    (groups_stand c.args.sig.now gs (groups_ready texts gs ready.0.1 (all_front (Contains texts) (flat_map in_group gs) (in_process (plain_process c.in-Proc.body.value)) ready.1.1)))

pub enter_groups-requires-clause-sorts : goal.enter_groups-requires-clause-sorts
enter_groups-requires-clause-sorts c =
    let can = subst (λ (d : Decl). CanElaborateDefinitions c.args.sig.now c.args.processes.now (process_by (declaration_of d))) c.in-Proc.is c.requires.elaborates in
    subst (λ (vs : List VarGroup). HaveSorts (vocabulary_of c.args.sig.now) (bare_variables (map var_group_of vs))) (sym c.as_slice.ensures.value)
    (subst (λ (v : Vocabulary). HaveSorts v (bare_variables (map var_group_of c.in-Proc.groups.items))) can.sees.sees_data.vocabulary (bound_sorts can.elaborate.0.1.binds))

pub process_of-requires-clause-table : goal.process_of-requires-clause-table
process_of-requires-clause-table c = table_on c.args.sig.now c.args.pool.now c.enter_groups.new.sig c.args.pool.now c.requires.ready.signature c.enter_groups.ensures.kept c.args.processes.now c.requires.table

pub process_of-requires-clause-words : goal.process_of-requires-clause-words
process_of-requires-clause-words c = subst (λ (t : ProcTree). IsProcessOfWords (plain_process t)) (sym c.deref.ensures) (subst (λ (d : Decl). IsReadyDeclaration c.args.sig.now.texts (plain_decl d)) c.in-Proc.is c.requires.words).0.2

pub process_of-requires-clause-names : goal.process_of-requires-clause-names
process_of-requires-clause-names c =
    let texts = c.args.sig.now.texts in
    let ready = subst (λ (d : Decl). IsReadyDeclaration texts (plain_decl d)) c.in-Proc.is c.requires.words in
    let gs : List PlainVarGroup = map var_group_of c.in-Proc.groups.items in
    let body = plain_process c.in-Proc.body.value in
    let leaves = process_ready texts body ready.0.2 (all_back (Contains texts) (flat_map in_group gs) (in_process body) ready.1.1) in
    subst (λ (t : ProcTree). SumNamesStand c.enter_groups.new.sig (bare_process (plain_process t))) (sym c.deref.ensures)
    (sums_stand c.enter_groups.new.sig body
    (subst (λ (ts : List Name). AreReadyLeaves ts (leaves_in body)) (sym (texts_stay c.args.sig.now c.enter_groups.new.sig c.requires.ready.signature c.enter_groups.ensures.kept.added)) leaves))

pub process_of-requires-clause-elaborates : goal.process_of-requires-clause-elaborates
process_of-requires-clause-elaborates c =
    let can = subst (λ (d : Decl). CanElaborateDefinitions c.args.sig.now c.args.processes.now (process_by (declaration_of d))) c.in-Proc.is c.requires.elaborates in
    let gs : List PlainVarGroup = map var_group_of c.in-Proc.groups.items in
    let w : Written = record { name = c.in-Proc.name.bytes.items; parameters = bare_variables gs; body = bare_process (plain_process c.in-Proc.body.value) } in
    subst (λ (t : ProcTree). CanElaborate c.enter_groups.new.sig c.args.processes.now c.enter_groups.new.scope (bare_process (plain_process t))) (sym c.deref.ensures)
    (body_can c.args.sig.now c.requires.ready.signature c.args.processes.now w can c.args.pool.now c.enter_groups.new.sig c.enter_groups.ensures.kept c.args.scope.now c.enter_groups.new.scope c.in_ok-params.params.items c.requires.empty
    (subst (λ (vs : List VarGroup). AreBound c.args.sig.now c.args.scope.now (bare_variables (map var_group_of vs)) c.enter_groups.new.sig c.enter_groups.new.scope c.in_ok-params.params.items) c.as_slice.ensures.value c.in_ok-params.ensures.bound))

pub returns-in_err-body-clause-kept : goal.returns-in_err-body-clause-kept
returns-in_err-body-clause-kept c = goes_then c.args.sig.now c.args.pool.now c.enter_groups.new.sig c.args.pool.now c.process_of.new.sig c.process_of.new.pool c.enter_groups.ensures.kept c.process_of.ensures.kept

pub word_number-name-requires-clause-name : goal.word_number-name-requires-clause-name
word_number-name-requires-clause-name c = (subst (λ (d : Decl). IsReadyDeclaration c.args.sig.now.texts (plain_decl d)) c.in-Proc.is c.requires.words).0.0

pub word_number-name-requires-clause-there : goal.word_number-name-requires-clause-there
word_number-name-requires-clause-there c =
    let kept = goes_then c.args.sig.now c.args.pool.now c.enter_groups.new.sig c.args.pool.now c.process_of.new.sig c.process_of.new.pool c.enter_groups.ensures.kept c.process_of.ensures.kept in
    subst (λ (ts : List Name). Contains ts c.in-Proc.name.bytes.items) (sym (texts_stay c.args.sig.now c.process_of.new.sig c.requires.ready.signature kept.added))
    (subst (λ (d : Decl). IsReadyDeclaration c.args.sig.now.texts (plain_decl d)) c.in-Proc.is c.requires.words).1.0

pub returns-in_err-push-clause-kept : goal.returns-in_err-push-clause-kept
returns-in_err-push-clause-kept c = goes_then c.args.sig.now c.args.pool.now c.enter_groups.new.sig c.args.pool.now c.process_of.new.sig c.process_of.new.pool c.enter_groups.ensures.kept c.process_of.ensures.kept

pub returns-clause-kept : goal.returns-clause-kept
returns-clause-kept c = goes_then c.args.sig.now c.args.pool.now c.enter_groups.new.sig c.args.pool.now c.process_of.new.sig c.process_of.new.pool c.enter_groups.ensures.kept c.process_of.ensures.kept

pub returns-clause-means : goal.returns-clause-means
returns-clause-means c = λ v ws sees all.
    let gs : List PlainVarGroup = map var_group_of c.in-Proc.groups.items in
    let w : Written = record { name = c.in-Proc.name.bytes.items; parameters = bare_variables gs; body = bare_process (plain_process c.in-Proc.body.value) } in
    let k = c.process_of.new.sig in
    let q = c.process_of.new.pool in
    let bound = subst (λ (vs : List VarGroup). AreBound c.args.sig.now c.args.scope.now (bare_variables (map var_group_of vs)) c.enter_groups.new.sig c.enter_groups.new.scope c.in_ok-params.params.items) c.as_slice.ensures.value c.in_ok-params.ensures.bound in
    let kept = goes_then c.args.sig.now c.args.pool.now c.enter_groups.new.sig c.args.pool.now k q c.enter_groups.ensures.kept c.process_of.ensures.kept in
    let made = definition_made v w c.args.number c.args.sig.now c.requires.ready.signature c.args.processes.now sees c.args.pool.now c.enter_groups.new.sig c.enter_groups.ensures.kept c.args.scope.now c.enter_groups.new.scope c.in_ok-params.params.items
    c.requires.empty bound k q c.process_of.ensures.kept c.in_ok-body.ensures.ready.signature c.in_ok-body.ensures.ready.trees (code.plain_process c.in_ok-body.body)
    (subst (λ (t : ProcTree). (u : FullVocabulary) (variables : Scope) → Sees c.enter_groups.new.sig c.args.processes.now c.enter_groups.new.scope u variables → IsElaborated u variables (bare_process (plain_process t)) k q (code.plain_process c.in_ok-body.body))
    c.deref.ensures c.in_ok-body.ensures.means) c.word_number-name.result c.word_number-name.ensures in
    subst (λ (d : Decl). AreElaboratedDefinitions v k q (ws ++ processes_at (c.args.number, declaration_of d)) (map plain_definition c.push.new.self.items)) (sym c.in-Proc.is)
    (definition_added v k q ws (c.args.number, w) c.args.definitions.now.items c.push.new.self.items (record { name = c.word_number-name.result; params = c.in_ok-params.params; body = c.in_ok-body.body; declaration = c.args.number })
    (definitions_on v c.args.sig.now c.requires.ready.signature c.args.pool.now k q kept ws (map plain_definition c.args.definitions.now.items) all) made c.in_ok-push.ensures.items)
