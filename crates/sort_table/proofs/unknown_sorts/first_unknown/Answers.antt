use Rattle.std.proofs.Common.{◌∙◌, List, suc, take, drop, sym, ap, arith}
use Rattle.std.specs.Prelude.{option_map}
use Rattle.std.proofs.lemmas.List.{length-map, length-take-le}
use denote.Ref.{Bor}
use Rattle.sort_table.specs.Expressions.{Name}
use Rattle.mcrl2_syntax.specs.declared.declaration.Decl.{Decl}
use Rattle.sort_table.specs.SortMeanings.{Kind}
use Rattle.sort_table.specs.DeclarationTrees.{declaration_of, declarations_under}
use Rattle.sort_table.specs.UnknownSorts.{sorts_used, HasKnownSorts}
use Rattle.sort_table.specs.UsedNames.{unknown_among}
use Rattle.sort_table.proofs.Searches.{split_map, all_more}
use Rattle.sort_table.proofs.unknown_sorts.first_unknown.Goals as goal

now_of : Bor Name → Name
now_of n = n.now

pub returns-in-Some : goal.returns-in-Some
returns-in-Some c =
    let ds : List (Bor Decl) = c.args.declarations.now in
    let i = c.loop-declaration.declaration-index in
    record {
      front = declarations_under (take i ds);
      declaration = declaration_of c.declaration-item.result.now;
      behind = declarations_under (drop (suc i) ds);
      text = split_map (λ (d : Bor Decl). declaration_of d.now) ds i c.declaration-item.result c.loop-declaration-test.true c.declaration-item.is;
      place = omega (arith, c.loop-declaration.invariant.counted, length-map (take i ds) (λ (d : Bor Decl). declaration_of d.now), length-take-le i ds (omega (arith, c.loop-declaration-test.true)));
      known = c.loop-declaration.invariant.known;
      unknown = ap (λ (ks : List (Name × Kind)). unknown_among ks (sorts_used (declaration_of c.declaration-item.result.now))) (sym c.requires)
          ∙ (sym c.unknown_in_declaration.ensures ∙ ap (option_map (λ (n : Bor Name). n.now)) c.in-Some.is);
    }

pub loop-declaration-preserved : goal.loop-declaration-preserved
loop-declaration-preserved c =
    let ds : List (Bor Decl) = c.args.declarations.now in
    record {
      counted = omega (arith, c.loop-declaration.invariant.counted);
      known = all_more (λ (d : Bor Decl). declaration_of d.now) (HasKnownSorts (declarations_under ds)) ds c.loop-declaration.declaration-index c.declaration-item.result c.loop-declaration-test.true c.declaration-item.is c.loop-declaration.invariant.known
          (ap (λ (ks : List (Name × Kind)). unknown_among ks (sorts_used (declaration_of c.declaration-item.result.now))) (sym c.requires)
          ∙ (sym c.unknown_in_declaration.ensures ∙ ap (option_map (λ (n : Bor Name). n.now)) c.in_default.is));
    }
