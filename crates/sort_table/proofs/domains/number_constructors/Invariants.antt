use Rattle.std.proofs.Common.{take}
use Rattle.sort_table.specs.Domains.{flats_by, domains_of_constructors, AddsNumbers}
use Rattle.sort_table.proofs.domains.number_constructors.Given as goal

abbrev pub invariant-loop-constructor : goal.invariant-loop-constructor
invariant-loop-constructor l = AddsNumbers (flats_by l.flats) (domains_of_constructors (take l.constructor-index l.constructors)) l.fn.numbers l.numbers
