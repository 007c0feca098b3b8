use Rattle.std.proofs.Common.{◌≡◌, ◌++◌, ◌∙◌, List, map, ap, sym}
use Rattle.std.specs.Prelude.{option_map}
use Rattle.std.proofs.lemmas.Result.{on_ok_weaker}
use Rattle.mcrl2_syntax.specs.declared.sort_tree.SortTree.{SortTree}
use Rattle.sort_table.specs.TextFunctions.{declared_constructor, mapping}
use Rattle.sort_table.specs.FlatSorts.{expression_of, expressions_of}
use Rattle.mcrl2_syntax.specs.declared.word.Word.{Word}
use Rattle.mcrl2_syntax.specs.declared.declaration.Decl.{Decl}
use Rattle.mcrl2_syntax.specs.declared.declaration.Constructor.{Constructor}
use Rattle.mcrl2_syntax.specs.declared.process_tree.VarGroup.{VarGroup}
use Rattle.mcrl2_syntax.specs.Words.{word_of}
use Rattle.mcrl2_syntax.specs.ProcessParts.{var_group_of}
use Rattle.sort_table.specs.BareProcesses.{bare_names, bare_variables}
use Rattle.sort_table.specs.DeclarationTrees.{declaration_of}
use Rattle.sort_table.specs.Duplicates.{items_of}
use Rattle.sort_table.specs.Domains.{domain_under, domains_by}
use Rattle.sort_table.specs.Repeats.{Mark, marks_of}
use Rattle.sort_table.specs.ItemMarks.{items_marks, marks_of_sorts, marks_of_struct, marks_of_groups, marks_of_functions, marks_of_actions}
use Rattle.sort_table.proofs.ItemMarkLemmas.{sorts_marked, functions_marked, actions_marked, variables_marked, struct_marked}
use Rattle.sort_table.proofs.item_entries.add_declaration.Goals as goal

pub returns-in-Sorts : goal.returns-in-Sorts
returns-in-Sorts c =
    on_ok_weaker c.add_sorts.result (λ (added : marks_of c.add_sorts.new.entries.items ≡ marks_of c.args.entries.now.items ++ marks_of_sorts c.args.number c.as_slice.result.now).
    added ∙ ap (λ (ms : List Mark). marks_of c.args.entries.now.items ++ ms)
    (ap (λ (ws : List Word). marks_of_sorts c.args.number ws) c.as_slice.ensures.value
    ∙ (sorts_marked (domains_by c.args.table.now) c.args.number (bare_names (map word_of c.in-Sorts.names.items))
    ∙ ap (λ (d : Decl). items_marks (domains_by c.args.table.now) c.args.number (items_of c.args.section (declaration_of d))) (sym c.in-Sorts.is)))) c.add_sorts.ensures

pub returns-in-Struct : goal.returns-in-Struct
returns-in-Struct c =
    on_ok_weaker c.add_struct.result (λ (added : marks_of c.add_struct.new.entries.items ≡ marks_of c.args.entries.now.items ++ marks_of_struct (domains_by c.args.table.now) c.args.number c.in-Struct.name c.as_slice-in-Struct.result.now).
    added ∙ ap (λ (ms : List Mark). marks_of c.args.entries.now.items ++ ms)
    (ap (λ (cs : List Constructor). marks_of_struct (domains_by c.args.table.now) c.args.number c.in-Struct.name cs) c.as_slice-in-Struct.ensures.value
    ∙ (struct_marked (domains_by c.args.table.now) c.args.number c.in-Struct.name c.in-Struct.constructors.items
    ∙ ap (λ (d : Decl). items_marks (domains_by c.args.table.now) c.args.number (items_of c.args.section (declaration_of d))) (sym c.in-Struct.is)))) c.add_struct.ensures

pub returns-in-Vars : goal.returns-in-Vars
returns-in-Vars c =
    on_ok_weaker c.add_groups.result (λ (added : marks_of c.add_groups.new.entries.items ≡ marks_of c.args.entries.now.items ++ marks_of_groups c.args.number c.args.section c.as_slice-in-Vars.result.now).
    added ∙ ap (λ (ms : List Mark). marks_of c.args.entries.now.items ++ ms)
    (ap (λ (gs : List VarGroup). marks_of_groups c.args.number c.args.section gs) c.as_slice-in-Vars.ensures.value
    ∙ (variables_marked (domains_by c.args.table.now) c.args.number c.args.section (bare_variables (map var_group_of c.in-Vars.groups.items))
    ∙ ap (λ (d : Decl). items_marks (domains_by c.args.table.now) c.args.number (items_of c.args.section (declaration_of d))) (sym c.in-Vars.is)))) c.add_groups.ensures

pub returns-in_ok-domain-in-Act : goal.returns-in_ok-domain-in-Act
returns-in_ok-domain-in-Act c =
    let told : option_map domain_under c.in_ok-domain-in-Act.domain ≡ domains_by c.args.table.now (expressions_of c.in-Act.trees.items) =
    c.in_ok-domain-in-Act.ensures ∙ ap (λ (ts : List SortTree). domains_by c.args.table.now (expressions_of ts)) c.as_slice-in-Act.ensures.value in
    on_ok_weaker c.add_actions.result (λ (added : marks_of c.add_actions.new.entries.items ≡ marks_of c.args.entries.now.items ++ marks_of_actions c.args.number (option_map domain_under c.in_ok-domain-in-Act.domain) c.as_slice-in-Act-2.result.now).
    added ∙ ap (λ (ms : List Mark). marks_of c.args.entries.now.items ++ ms)
    ((λ j. marks_of_actions c.args.number (told j) (c.as_slice-in-Act-2.ensures.value j))
    ∙ (actions_marked (domains_by c.args.table.now) c.args.number (expressions_of c.in-Act.trees.items) (bare_names (map word_of c.in-Act.names.items))
    ∙ ap (λ (d : Decl). items_marks (domains_by c.args.table.now) c.args.number (items_of c.args.section (declaration_of d))) (sym c.in-Act.is)))) c.add_actions.ensures

pub returns-in_ok-domain-in-Cons : goal.returns-in_ok-domain-in-Cons
returns-in_ok-domain-in-Cons c =
    let told : option_map domain_under c.in_ok-domain-in-Cons.domain ≡ domains_by c.args.table.now (expressions_of c.in-Cons.trees.items) =
    c.in_ok-domain-in-Cons.ensures ∙ ap (λ (ts : List SortTree). domains_by c.args.table.now (expressions_of ts)) c.as_slice-in-Cons.ensures.value in
    on_ok_weaker c.add_functions.result (λ (added : marks_of c.add_functions.new.entries.items ≡ marks_of c.args.entries.now.items ++ marks_of_functions c.args.number (option_map domain_under c.in_ok-domain-in-Cons.domain) c.as_slice-in-Cons-2.result.now).
    added ∙ ap (λ (ms : List Mark). marks_of c.args.entries.now.items ++ ms)
    ((λ j. marks_of_functions c.args.number (told j) (c.as_slice-in-Cons-2.ensures.value j))
    ∙ (functions_marked (domains_by c.args.table.now) c.args.number (expressions_of c.in-Cons.trees.items) (expression_of c.in-Cons.field-3.value) declared_constructor (bare_names (map word_of c.in-Cons.names.items))
    ∙ ap (λ (d : Decl). items_marks (domains_by c.args.table.now) c.args.number (items_of c.args.section (declaration_of d))) (sym c.in-Cons.is)))) c.add_functions.ensures

pub returns-in_ok-domain-in-Map : goal.returns-in_ok-domain-in-Map
returns-in_ok-domain-in-Map c =
    let told : option_map domain_under c.in_ok-domain-in-Map.domain ≡ domains_by c.args.table.now (expressions_of c.in-Map.trees.items) =
    c.in_ok-domain-in-Map.ensures ∙ ap (λ (ts : List SortTree). domains_by c.args.table.now (expressions_of ts)) c.as_slice-in-Map.ensures.value in
    on_ok_weaker c.add_functions-in-Map.result (λ (added : marks_of c.add_functions-in-Map.new.entries.items ≡ marks_of c.args.entries.now.items ++ marks_of_functions c.args.number (option_map domain_under c.in_ok-domain-in-Map.domain) c.as_slice-in-Map-2.result.now).
    added ∙ ap (λ (ms : List Mark). marks_of c.args.entries.now.items ++ ms)
    ((λ j. marks_of_functions c.args.number (told j) (c.as_slice-in-Map-2.ensures.value j))
    ∙ (functions_marked (domains_by c.args.table.now) c.args.number (expressions_of c.in-Map.trees.items) (expression_of c.in-Map.field-3.value) mapping (bare_names (map word_of c.in-Map.names.items))
    ∙ ap (λ (d : Decl). items_marks (domains_by c.args.table.now) c.args.number (items_of c.args.section (declaration_of d))) (sym c.in-Map.is)))) c.add_functions-in-Map.ensures
