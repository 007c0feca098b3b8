use Rattle.std.proofs.Common.{List, map, sym, ap, ◌∙◌, subst}
use Rattle.std.specs.List.{Contains, flat_map}
use Rattle.mcrl2_syntax.specs.declared.declaration.Decl.{Decl}
use Rattle.mcrl2_syntax.specs.declared.process_tree.ProcTree.{ProcTree}
use Rattle.mcrl2_syntax.specs.declared.process_tree.VarGroup.{VarGroup}
use Rattle.mcrl2_syntax.specs.Declarations.{plain_decl}
use Rattle.mcrl2_syntax.specs.ProcessParts.{var_group_of}
use Rattle.mcrl2_syntax.specs.ProcessTrees.{plain_process}
use Rattle.mcrl2_syntax.proofs.Lists.{all_front, all_back}
use Rattle.sort_table.specs.DeclarationTrees.{declaration_of}
use Rattle.sort_table.specs.Identifiers.{in_group, in_process}
use Rattle.sort_checker.specs.FreeTrees.{free_in}
use Rattle.sort_checker.specs.ReadyTrees.{AreReadyGroups, AreReadyLeaves, IsReadyDeclaration, leaves_in}
use Rattle.sort_checker.proofs.Firsts.{or_none, ok_then}
use Rattle.sort_checker.proofs.ReadyLeaves.{groups_ready, process_ready}
use Rattle.sort_checker.proofs.free_variables.free_in_declaration.Goals as goal

pub free_in_process-requires-clause-groups : goal.free_in_process-requires-clause-groups
free_in_process-requires-clause-groups c =
    let texts = c.args.context.now.sig.now.texts in
    let ready = subst (λ (d : Decl). IsReadyDeclaration texts (plain_decl d)) c.in-Proc.is c.requires.ready in
    let gs = map var_group_of c.in-Proc.groups.items in
    subst (λ (vs : List VarGroup). AreReadyGroups texts (map var_group_of vs)) (sym c.as_slice.ensures.value)
    (groups_ready texts gs ready.0.1 (all_front (Contains texts) (flat_map in_group gs) (in_process (plain_process c.in-Proc.process.value)) ready.1.1))

pub free_in_process-requires-clause-process : goal.free_in_process-requires-clause-process
free_in_process-requires-clause-process c =
    let texts = c.args.context.now.sig.now.texts in
    let ready = subst (λ (d : Decl). IsReadyDeclaration texts (plain_decl d)) c.in-Proc.is c.requires.ready in
    let gs = map var_group_of c.in-Proc.groups.items in
    subst (λ (p : ProcTree). AreReadyLeaves texts (leaves_in (plain_process p))) (sym c.deref.ensures)
    (process_ready texts (plain_process c.in-Proc.process.value) ready.0.2 (all_back (Contains texts) (flat_map in_group gs) (in_process (plain_process c.in-Proc.process.value)) ready.1.1))

pub free_in_process-requires-in-Init-clause-process : goal.free_in_process-requires-in-Init-clause-process
free_in_process-requires-in-Init-clause-process c =
    let texts = c.args.context.now.sig.now.texts in
    let ready = subst (λ (d : Decl). IsReadyDeclaration texts (plain_decl d)) c.in-Init.is c.requires.ready in
    subst (λ (p : ProcTree). AreReadyLeaves texts (leaves_in (plain_process p))) (sym c.deref-in-Init.ensures) (process_ready texts (plain_process c.in-Init.process.value) ready.0 ready.1)

pub returns-in-Equation : goal.returns-in-Equation
returns-in-Equation c =
    ok_then c.free_in_equation.result c.free_in_equation.ensures
    (λ found h v xs over has names.
    h v xs has names
    ∙ (sym (or_none _) ∙ ap (λ (d : Decl). free_in v (record { variables = xs; declaration = declaration_of d })) (sym c.in-Equation.is)))
