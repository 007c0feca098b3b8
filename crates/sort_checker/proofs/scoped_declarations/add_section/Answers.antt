use Rattle.std.proofs.Common.{◌∷◌, [], sym, subst, rules, arith}
use Rattle.std.proofs.lemmas.Grind.{common_steps}
use Rattle.std.specs.List.{AllByRecursion}
use Rattle.mcrl2_syntax.specs.Declarations.{plain_decl}
use Rattle.mcrl2_syntax.proofs.Lists.{all_both}
use Rattle.sort_checker.specs.ElaboratedTexts.{IsReadyScoped}
use Rattle.sort_checker.specs.ReadyTrees.{IsReadyDeclaration}
use Rattle.sort_checker.proofs.ReadLists.{at_mapped}
use Rattle.sort_checker.proofs.scoped_declarations.add_section.Goals as goal

pub loop-declaration-preserved : goal.loop-declaration-preserved
loop-declaration-preserved c = record {
  items = first_of (search rules, grind (arith, common_steps));
  ready = λ texts before all list.
      let here = at_mapped (IsReadyDeclaration texts) plain_decl c.args.declarations.now c.loop-declaration.declaration-index c.declaration-item.result c.loop-declaration-test.true c.declaration-item.is all in
      subst (AllByRecursion (IsReadyScoped texts)) (sym c.in_ok-push.ensures.items) (all_both (IsReadyScoped texts) c.loop-declaration.list.items (_ ∷ []) (c.loop-declaration.invariant.ready texts before all list) ((before, here), tt));
}
