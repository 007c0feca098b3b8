use Rattle.std.proofs.Common.{◌++◌, ◌∷◌, [], List, map, sym, ap, ◌∙◌, subst}
use Rattle.std.specs.Prelude.{Some}
use Rattle.std.specs.Prelude.{Vec, option_map, bytes_eq}
use Rattle.std.specs.Global.{Global}
use Rattle.std.specs.List.{Contains, flat_map}
use Rattle.std.proofs.lemmas.Map.Text.{btree_map_updates_str}
use Rattle.mcrl2_syntax.specs.declared.declaration.Decl.{Decl}
use Rattle.mcrl2_syntax.specs.declared.process_tree.VarGroup.{VarGroup}
use Rattle.mcrl2_syntax.specs.Declarations.{plain_decl}
use Rattle.mcrl2_syntax.specs.ProcessParts.{var_group_of}
use Rattle.mcrl2_syntax.specs.ProcessTrees.{plain_process}
use Rattle.mcrl2_syntax.proofs.Lists.{all_front}
use Rattle.sort_table.specs.BareProcesses.{bare_process, bare_variables}
use Rattle.sort_table.specs.DeclarationTrees.{declaration_of}
use Rattle.sort_table.specs.Expressions.{Name}
use Rattle.sort_table.specs.Identifiers.{in_group, in_process}
use Rattle.sort_table.specs.SignatureVocabularies.{vocabulary_of}
use Rattle.sort_checker.specs.declared.parameter_tables.Parameter.{Parameter}
use Rattle.sort_checker.specs.declared.parameter_tables.ParameterTable.{ParameterTable}
use Rattle.sort_checker.specs.FullVocabularies.{Written, process_by}
use Rattle.sort_checker.specs.ParameterTables.{sorted_variables, entry_under, HasProcesses}
use Rattle.sort_checker.specs.ReadyTrees.{AreReadyGroups, IsReadyDeclaration}
use Rattle.sort_checker.proofs.ParameterLists.{entry_there, entry_absent, items_put, told_again, told_new}
use Rattle.sort_checker.proofs.ReadyLeaves.{groups_ready}
use Rattle.sort_checker.proofs.parameter_tables.add_process.Goals as goal

pub returns-then-is_some : goal.returns-then-is_some
returns-then-is_some c = λ ws has.
    let written : Name → Written = λ n. record { name = n; parameters = bare_variables (map var_group_of c.in-Proc.groups.items); body = bare_process (plain_process c.in-Proc.field-3.value) } in
    let there = entry_there c.args.table.now c.as_slice-name.result.now c.get.result c.get.ensures (sym c.is_some.ensures ∙ c.if-is_some.true) in
    subst (λ (d : Decl). HasProcesses c.args.sig.now (ws ++ process_by (declaration_of d)) c.args.table.now) (sym c.in-Proc.is)
    (subst (λ (n : Name). HasProcesses c.args.sig.now (ws ++ written n ∷ []) c.args.table.now) c.as_slice-name.ensures.value (told_again c.args.sig.now ws c.args.table.now (written c.as_slice-name.result.now) there.0 has there.1))

pub parameters_of-requires-clause-ready : goal.parameters_of-requires-clause-ready
parameters_of-requires-clause-ready c =
    let ready = subst (λ (d : Decl). IsReadyDeclaration c.args.sig.now.texts (plain_decl d)) c.in-Proc.is c.requires.ready in
    let gs = map var_group_of c.in-Proc.groups.items in
    subst (λ (vs : List VarGroup). AreReadyGroups c.args.sig.now.texts (map var_group_of vs)) (sym c.as_slice.ensures.value)
    (groups_ready c.args.sig.now.texts gs ready.0.1 (all_front (Contains c.args.sig.now.texts) (flat_map in_group gs) (in_process (plain_process c.in-Proc.field-3.value)) ready.1.1))

pub returns : goal.returns
returns c = λ ws has.
    let written : Name → Written = λ n. record { name = n; parameters = bare_variables (map var_group_of c.in-Proc.groups.items); body = bare_process (plain_process c.in-Proc.field-3.value) } in
    let new : ParameterTable = record { processes = c.insert.new.self } in
    let name : Name = c.as_slice-name.result.now in
    subst (λ (d : Decl). HasProcesses c.args.sig.now (ws ++ process_by (declaration_of d)) new) (sym c.in-Proc.is)
    (subst (λ (n : Name). HasProcesses c.args.sig.now (ws ++ written n ∷ []) new) c.as_slice-name.ensures.value
    (told_new c.args.sig.now ws c.args.table.now new (written name) c.in_ok-parameters.parameters.items has (entry_absent c.args.table.now name c.get.result c.get.ensures (sym c.is_some.ensures ∙ c.if-is_some.false))
    (λ x. ap (option_map (λ (u : Vec Parameter Global). u.items)) (btree_map_updates_str name c.args.table.now.processes c.insert.new.self (Some c.in_ok-parameters.parameters) c.in_ok-insert.ensures.updates x) ∙ items_put (bytes_eq name x) c.in_ok-parameters.parameters (entry_under c.args.table.now x))
    (c.in_ok-parameters.ensures.means ∙ ap (λ (vs : List VarGroup). sorted_variables (vocabulary_of c.args.sig.now).sort_names (bare_variables (map var_group_of vs))) c.as_slice.ensures.value)
    c.in_ok-parameters.ensures.over))
