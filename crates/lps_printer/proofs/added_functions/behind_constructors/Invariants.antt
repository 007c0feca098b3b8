use Rattle.std.proofs.Common.{◌≡◌, map, drop}
use Rattle.mcrl2_syntax.specs.Declarations.{constructor_of}
use Rattle.lps_printer.specs.AddedDeclarations.{behind_all, behind_constructor}
use Rattle.lps_printer.proofs.added_functions.behind_constructors.Given as goal

abbrev pub invariant-loop-constructor : goal.invariant-loop-constructor
invariant-loop-constructor l = behind_all behind_constructor (map constructor_of (drop l.constructor-index l.constructors)) l.rest ≡ behind_all behind_constructor (map constructor_of l.constructors) l.fn.funs
