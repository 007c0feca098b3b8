use Rattle.std.proofs.Common.{List, map, sym, subst}
use Rattle.mcrl2_syntax.specs.declared.declaration.Decl.{Decl}
use Rattle.mcrl2_syntax.specs.declared.process_tree.VarGroup.{VarGroup}
use Rattle.mcrl2_syntax.specs.Declarations.{plain_decl}
use Rattle.mcrl2_syntax.specs.ProcessParts.{var_group_of}
use Rattle.sort_checker.specs.ReadyTrees.{AreReadyGroups, IsReadyDeclaration}
use Rattle.sort_checker.proofs.ReadyLeaves.{holds_at, groups_ready}
use Rattle.sort_checker.proofs.variable_scopes.section_scope.Goals as goal

pub loop-declaration-init : goal.loop-declaration-init
loop-declaration-init c = c.empty_scope-scope.ensures c.args.sig.now

pub enter_groups-requires-clause-ready : goal.enter_groups-requires-clause-ready
enter_groups-requires-clause-ready c =
    let ready = subst (λ (d : Decl). IsReadyDeclaration c.args.sig.now.texts (plain_decl d)) c.in-Vars.is (holds_at plain_decl (IsReadyDeclaration c.args.sig.now.texts) c.args.declarations.now c.requires.ready c.loop-declaration.declaration-index c.declaration-item.result c.loop-declaration-test.true c.declaration-item.is) in
    subst (λ (gs : List VarGroup). AreReadyGroups c.args.sig.now.texts (map var_group_of gs)) (sym c.as_slice.ensures.value) (groups_ready c.args.sig.now.texts (map var_group_of c.in-Vars.groups.items) ready.0 ready.1)
