use Rattle.std.proofs.Common.{map, take}
use Rattle.mcrl2_syntax.specs.Declarations.{field_of}
use Rattle.sort_table.specs.BareDeclarations.{bare_field}
use Rattle.sort_table.specs.Vocabularies.{EachPair}
use Rattle.sort_table.specs.EnteredFunctions.{IsFieldOf}
use Rattle.sort_table.proofs.sort_declaring.SortNames.fields.Given as goal

abbrev pub invariant-loop-field : goal.invariant-loop-field
invariant-loop-field l = EachPair (IsFieldOf l.signature) (map bare_field (map field_of (take l.field-index l.fields))) l.made.items
