use Rattle.std.proofs.Common.{take}
use Rattle.sort_table.specs.DeclarationTrees.{declarations_under}
use Rattle.sort_table.specs.Domains.{IsNumbering, flats_by, domains_in, number_under, HaveNumbers}
use Rattle.sort_table.proofs.domains.domain_table.Given as goal

abbrev pub invariant-loop-declaration : goal.invariant-loop-declaration
invariant-loop-declaration l = record {
  numbers : IsNumbering l.numbers;
  have : HaveNumbers (number_under l.numbers) (flats_by l.flats) (domains_in (declarations_under (take l.declaration-index l.declarations)));
}
