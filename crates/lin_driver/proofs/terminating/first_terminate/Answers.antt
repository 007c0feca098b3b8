use Rattle.std.proofs.Common.{List, suc, take, drop, arith, sym, subst, length}
use Rattle.std.proofs.lemmas.List.{length-map, length-take-le, take_all}
use denote.Ref.{Bor}
use Rattle.mcrl2_syntax.specs.declared.declaration.Decl.{Decl}
use Rattle.bisim_laws.specs.Terminations.{terminate_name}
use Rattle.sort_table.specs.DeclarationTrees.{declaration_of, declarations_under}
use Rattle.sort_table.specs.BareDeclarations.{Declaration}
use Rattle.sort_table.proofs.Searches.{split_map, all_more}
use Rattle.lin_driver.specs.Headline.{DeclaresAction}
use Rattle.lin_driver.proofs.terminating.first_terminate.Goals as goal

pub returns-then-declares_terminate : goal.returns-then-declares_terminate
returns-then-declares_terminate c =
    let ds : List (Bor Decl) = c.args.declarations.now in
    let i = c.loop-declaration.declaration-index in
    record {
      front = declarations_under (take i ds);
      declaration = declaration_of c.declaration-item.result.now;
      behind = declarations_under (drop (suc i) ds);
      text = split_map (λ (d : Bor Decl). declaration_of d.now) ds i c.declaration-item.result c.loop-declaration-test.true c.declaration-item.is;
      place = omega (arith, c.loop-declaration.invariant.counted, length-map (take i ds) (λ (d : Bor Decl). declaration_of d.now), length-take-le i ds (omega (arith, c.loop-declaration-test.true)));
      others = c.loop-declaration.invariant.others;
      declares = c.declares_terminate.ensures.named c.if-declares_terminate.true;
    }

pub loop-declaration-preserved : goal.loop-declaration-preserved
loop-declaration-preserved c = record {
  counted = omega (arith, c.loop-declaration.invariant.counted);
  others = all_more (λ (d : Bor Decl). declaration_of d.now) (λ (d : Declaration). ¬ (DeclaresAction terminate_name d)) c.args.declarations.now c.loop-declaration.declaration-index c.declaration-item.result c.loop-declaration-test.true c.declaration-item.is
      c.loop-declaration.invariant.others (c.declares_terminate.ensures.none c.if-declares_terminate.false);
}
