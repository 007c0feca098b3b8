use Rattle.std.proofs.Common.{List, map, sym, subst}
use Rattle.mcrl2_syntax.specs.declared.declaration.Decl.{Decl}
use Rattle.mcrl2_syntax.specs.declared.process_tree.VarGroup.{VarGroup}
use Rattle.mcrl2_syntax.specs.Declarations.{plain_decl}
use Rattle.mcrl2_syntax.specs.ProcessParts.{var_group_of}
use Rattle.sort_table.specs.BareProcesses.{Variables, bare_variables}
use Rattle.sort_checker.specs.CodeContexts.{VariablesStand, EnterBehind}
use Rattle.sort_checker.specs.ReadyTrees.{IsReadyDeclaration}
use Rattle.sort_checker.proofs.Adding.{goes_nowhere}
use Rattle.sort_checker.proofs.Binding.{enter_none}
use Rattle.sort_checker.proofs.MadeDefinitions.{groups_stand}
use Rattle.sort_checker.proofs.OtherDeclarations.{no_variables}
use Rattle.sort_checker.proofs.ReadyLeaves.{groups_ready}
use Rattle.sort_checker.proofs.equation_elaborating.enter_declaration.Goals as goal

pub returns-in_default : goal.returns-in_default
returns-in_default c = record {
  kept = goes_nowhere c.args.sig.now c.args.pool.now;
  ready = c.requires.ready;
  bound =
      subst (λ (xs : Variables). EnterBehind c.args.sig.now c.args.scope.now c.args.variables.now.items xs c.args.sig.now c.args.scope.now c.args.variables.now.items) (sym (no_variables c.args.declaration.now c.in_default.not-Vars))
      (enter_none c.args.sig.now c.args.scope.now c.args.variables.now.items);
}

pub enter_groups-requires-clause-there : goal.enter_groups-requires-clause-there
enter_groups-requires-clause-there c =
    let texts = c.args.sig.now.texts in
    let ready = subst (λ (d : Decl). IsReadyDeclaration texts (plain_decl d)) c.in-Vars.is c.requires.words in
    let gs = map var_group_of c.in-Vars.groups.items in
    subst (λ (vs : List VarGroup). VariablesStand c.args.sig.now (bare_variables (map var_group_of vs))) (sym c.as_slice.ensures.value) (groups_stand c.args.sig.now gs (groups_ready texts gs ready.0 ready.1))
