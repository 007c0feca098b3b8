use Rattle.std.proofs.Common.{◌≡◌, ◌∙◌, ℕ, List, [], map, take, ap, sym, subst, arith, length}
use Rattle.std.specs.Prelude.{Some, Contains}
use Rattle.std.proofs.Math.Seq.{take-length}
use Rattle.data_theory.specs.Terms.{Sort}
use Rattle.mcrl2_syntax.specs.ProcessParts.{var_group_of}
use Rattle.mcrl2_syntax.specs.TreeWords.{IsGroupOfWords}
use Rattle.mcrl2_syntax.specs.declared.process_tree.VarGroup.{VarGroup}
use Rattle.sort_table.specs.BareProcesses.{bare_group, bare_variables}
use Rattle.sort_table.specs.BareSorts.{SortExpression}
use Rattle.sort_table.specs.Expressions.{Name}
use Rattle.sort_table.specs.SignatureVocabularies.{vocabulary_of}
use Rattle.sort_table.specs.Vocabularies.{sort_in}
use Rattle.sort_checker.specs.CodeContexts.{AreBound, EnterBehind}
use Rattle.sort_checker.proofs.Adding.{goes_nowhere, goes_then}
use Rattle.sort_checker.proofs.ReadLists.{at_mapped}
use Rattle.sort_checker.proofs.Binding.{enter_none}
use Rattle.sort_checker.proofs.EnteringWords.{next_group}
use Rattle.sort_checker.proofs.EnteringGroups.{variables_still, have_still, group_part, all_entered}
use Rattle.sort_checker.proofs.binders.enter_groups.Goals as goal

pub loop-group-init : goal.loop-group-init
loop-group-init c = record {
  kept = goes_nowhere c.args.sig.now c.args.pool.now;
  ready = c.requires.ready;
  bound = subst (EnterBehind c.args.sig.now c.args.scope.now [] [] c.args.sig.now c.args.scope.now) (sym c.new-variables.ensures.items) (enter_none c.args.sig.now c.args.scope.now []);
}

pub enter_group-requires-clause-group : goal.enter_group-requires-clause-group
enter_group-requires-clause-group c = at_mapped IsGroupOfWords var_group_of c.args.groups.now c.loop-group.group-index c.group-item.result c.loop-group-test.true c.group-item.is c.requires.groups

pub enter_group-requires-clause-there : goal.enter_group-requires-clause-there
enter_group-requires-clause-there c =
    variables_still c.args.sig.now c.requires.ready.signature c.args.pool.now c.loop-group.sig c.loop-group.invariant.kept (bare_group (var_group_of c.group-item.result))
    (group_part (λ (x : Name × SortExpression). Contains c.args.sig.now.texts x.0) c.args.groups.now c.loop-group.group-index c.group-item.result c.loop-group-test.true c.group-item.is c.requires.there)

pub enter_group-requires-clause-sorts : goal.enter_group-requires-clause-sorts
enter_group-requires-clause-sorts c =
    have_still c.args.sig.now c.requires.ready.signature c.args.pool.now c.loop-group.sig c.loop-group.invariant.kept (bare_group (var_group_of c.group-item.result))
    (group_part (λ (x : Name × SortExpression). (s : Sort) × (sort_in (vocabulary_of c.args.sig.now).sort_names x.1 ≡ Some s)) c.args.groups.now c.loop-group.group-index c.group-item.result c.loop-group-test.true c.group-item.is c.requires.sorts)

pub returns-in_err-enter_group-clause-kept : goal.returns-in_err-enter_group-clause-kept
returns-in_err-enter_group-clause-kept c = goes_then c.args.sig.now c.args.pool.now c.loop-group.sig c.args.pool.now c.enter_group.new.sig c.args.pool.now c.loop-group.invariant.kept c.enter_group.ensures.kept

pub loop-group-preserved : goal.loop-group-preserved
loop-group-preserved c = record {
  kept = goes_then c.args.sig.now c.args.pool.now c.loop-group.sig c.args.pool.now c.enter_group.new.sig c.args.pool.now c.loop-group.invariant.kept c.enter_group.ensures.kept;
  ready = c.in_ok-enter_group.ensures.ready;
  bound =
      next_group c.args.sig.now c.requires.ready.signature c.args.pool.now c.loop-group.sig c.loop-group.invariant.kept c.enter_group.new.sig c.enter_group.ensures.kept c.args.scope.now c.loop-group.scope c.enter_group.new.scope [] c.loop-group.variables.items c.enter_group.new.variables.items
      c.args.groups.now c.loop-group.group-index c.group-item.result c.loop-group-test.true c.group-item.is c.loop-group.invariant.bound c.in_ok-enter_group.ensures.bound;
}

pub returns-clause-bound : goal.returns-clause-bound
returns-clause-bound c =
    let groups = c.args.groups.now in
    let end : c.loop-group.group-index ≡ length groups = omega (arith, c.loop-group-test.false, c.loop-group.auto.group-index-end) in
    let whole : take c.loop-group.group-index groups ≡ groups = ap (λ (i : ℕ). take i groups) end ∙ take-length groups in
    subst (λ (gs : List VarGroup). AreBound c.args.sig.now c.args.scope.now (bare_variables (map var_group_of gs)) c.loop-group.sig c.loop-group.scope c.loop-group.variables.items) whole
    (all_entered c.args.sig.now c.args.scope.now (bare_variables (map var_group_of (take c.loop-group.group-index groups))) c.loop-group.sig c.loop-group.scope c.loop-group.variables.items c.loop-group.invariant.bound)
