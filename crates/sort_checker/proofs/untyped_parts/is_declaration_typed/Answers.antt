use Rattle.std.proofs.Common.{List, map, sym, ap, ◌∙◌, subst}
use Rattle.std.specs.List.{Contains, flat_map}
use Rattle.mcrl2_syntax.specs.declared.declaration.Decl.{Decl}
use Rattle.mcrl2_syntax.specs.declared.process_tree.ProcTree.{ProcTree}
use Rattle.mcrl2_syntax.specs.declared.process_tree.VarGroup.{VarGroup}
use Rattle.mcrl2_syntax.specs.declared.sort_tree.SortTree.{SortTree}
use Rattle.mcrl2_syntax.specs.DataTrees.{plain_data}
use Rattle.mcrl2_syntax.specs.Declarations.{plain_decl, some_data}
use Rattle.mcrl2_syntax.specs.ProcessParts.{var_group_of}
use Rattle.mcrl2_syntax.specs.ProcessTrees.{plain_process}
use Rattle.mcrl2_syntax.proofs.Lists.{all_front, all_back}
use Rattle.sort_table.specs.BareData.{bare_data}
use Rattle.mcrl2_syntax.specs.SortTrees.{plain_sort}
use Rattle.sort_table.specs.BareDeclarations.{bare_condition}
use Rattle.sort_table.specs.BareSorts.{bare_sort}
use Rattle.sort_table.specs.DeclarationTrees.{declaration_of}
use Rattle.sort_table.specs.Identifiers.{in_group, in_process}
use Rattle.sort_table.specs.SignatureVocabularies.{vocabulary_of}
use Rattle.sort_table.specs.Vocabularies.{sort_in}
use Rattle.sort_checker.specs.Faults.{is_plain_sort}
use Rattle.sort_checker.specs.ReadyTrees.{AreReadyGroups, AreReadyLeaves, IsReadyDeclaration, leaves_in}
use Rattle.sort_checker.specs.TypedTrees.{are_parts_typed}
use Rattle.sort_checker.proofs.Firsts.{ok_then}
use Rattle.sort_checker.proofs.ReadyLeaves.{groups_ready, process_ready}
use Rattle.sort_checker.proofs.TypedParts.{and_true, equation_told, result_told}
use Rattle.sort_checker.proofs.untyped_parts.is_declaration_typed.Goals as goal

pub is_process_typed-requires-clause-groups : goal.is_process_typed-requires-clause-groups
is_process_typed-requires-clause-groups c =
    let texts = c.args.context.now.sig.now.texts in
    let ready = subst (λ (d : Decl). IsReadyDeclaration texts (plain_decl d)) c.in-Proc.is c.requires.ready in
    let gs = map var_group_of c.in-Proc.groups.items in
    subst (λ (vs : List VarGroup). AreReadyGroups texts (map var_group_of vs)) (sym c.as_slice.ensures.value)
    (groups_ready texts gs ready.0.1 (all_front (Contains texts) (flat_map in_group gs) (in_process (plain_process c.in-Proc.process.value)) ready.1.1))

pub is_process_typed-requires-clause-process : goal.is_process_typed-requires-clause-process
is_process_typed-requires-clause-process c =
    let texts = c.args.context.now.sig.now.texts in
    let ready = subst (λ (d : Decl). IsReadyDeclaration texts (plain_decl d)) c.in-Proc.is c.requires.ready in
    let gs = map var_group_of c.in-Proc.groups.items in
    subst (λ (p : ProcTree). AreReadyLeaves texts (leaves_in (plain_process p))) (sym c.deref-in-Proc.ensures)
    (process_ready texts (plain_process c.in-Proc.process.value) ready.0.2 (all_back (Contains texts) (flat_map in_group gs) (in_process (plain_process c.in-Proc.process.value)) ready.1.1))

pub is_process_typed-requires-in-Init-clause-process : goal.is_process_typed-requires-in-Init-clause-process
is_process_typed-requires-in-Init-clause-process c =
    let texts = c.args.context.now.sig.now.texts in
    let ready = subst (λ (d : Decl). IsReadyDeclaration texts (plain_decl d)) c.in-Init.is c.requires.ready in
    subst (λ (p : ProcTree). AreReadyLeaves texts (leaves_in (plain_process p))) (sym c.deref-in-Init.ensures) (process_ready texts (plain_process c.in-Init.process.value) ready.0 ready.1)

pub returns-in-Cons : goal.returns-in-Cons
returns-in-Cons c =
    ok_then c.is_result.result c.is_result.ensures
    (λ b h v xs over inside.
    h
    ∙ (ap (λ (s : SortTree). is_plain_sort (vocabulary_of c.args.context.now.sig.now).tables (sort_in (vocabulary_of c.args.context.now.sig.now).sort_names (bare_sort (plain_sort s)))) c.deref.ensures
    ∙ (result_told v xs c.args.context.now c.args.scope.now over inside (bare_sort (plain_sort c.in-Cons.to.value)) ∙ (sym (and_true _) ∙ ap (λ (d : Decl). are_parts_typed v (record { variables = xs; declaration = declaration_of d })) (sym c.in-Cons.is)))))

pub returns-in-Equation : goal.returns-in-Equation
returns-in-Equation c =
    ok_then c.is_equation.result c.is_equation.ensures
    (λ b h v xs over inside.
    h
    ∙ (equation_told v xs c.args.context.now c.args.scope.now over inside (bare_condition (some_data c.in-Equation.equation.condition)) (bare_data (plain_data c.in-Equation.equation.left)) (bare_data (plain_data c.in-Equation.equation.right)) ∙ (sym (and_true _) ∙ ap (λ (d : Decl). are_parts_typed v (record { variables = xs; declaration = declaration_of d })) (sym c.in-Equation.is))))
