use Rattle.std.proofs.Common.{map, take}
use Rattle.mcrl2_syntax.specs.Declarations.{constructor_of}
use Rattle.data_theory.specs.Structs.{cons_of}
use Rattle.sort_table.specs.BareDeclarations.{bare_constructor}
use Rattle.sort_table.specs.Vocabularies.{EachPair}
use Rattle.sort_table.specs.EnteredFunctions.{IsConOf}
use Rattle.sort_table.proofs.sort_declaring.SortNames.struct_constructors.Given as goal

abbrev pub invariant-loop-constructor : goal.invariant-loop-constructor
invariant-loop-constructor l = EachPair (IsConOf l.signature) (map bare_constructor (map constructor_of (take l.constructor-index l.constructors))) (cons_of l.made.items)
