use Rattle.std.proofs.Common.{List, refl}
use denote.Ref.{Bor}
use Rattle.mcrl2_syntax.specs.declared.declaration.Decl.{Decl}
use Rattle.sort_table.specs.DeclarationTrees.{declaration_of, declarations_under}
use Rattle.sort_table.specs.Domains.{flats_by, domains_of, domains_in}
use Rattle.sort_table.proofs.DomainLemmas.{have_more}
use Rattle.sort_table.proofs.domains.domain_table.Goals as goal

pub loop-declaration-preserved : goal.loop-declaration-preserved
loop-declaration-preserved c = record {
  numbers = c.in_ok-number_declaration.ensures.sound c.loop-declaration.invariant.numbers;
  have = have_more (flats_by c.args.flats) (λ (ds : List (Bor Decl)). domains_in (declarations_under ds)) (λ (d : Bor Decl). domains_of (declaration_of d.now)) (record { of_none = refl; of_more = λ x xs. refl }) c.args.declarations.now c.loop-declaration.declaration-index c.declaration-item.result
      c.loop-declaration.numbers c.number_declaration.new.numbers c.loop-declaration-test.true c.declaration-item.is c.loop-declaration.invariant.have c.in_ok-number_declaration.ensures;
}
