-- Operators as plain data.
use Rattle.std.specs.Prelude.{map}
use Rattle.mcrl2_syntax.specs.Words.{word_of}
use Rattle.mcrl2_syntax.specs.ProcessParts.{name_set_of, renaming_of, comm_rule_of}
use Rattle.mcrl2_syntax.specs.SpelledLabels.{Operation, allowing, blocking, hiding, renamed_by, communicating}
use Rattle.mcrl2_parser.specs.declared.operators.Operator.{Operator}
use Rattle.mcrl2_parser.specs.declared.operators.Operator.TheVariants.{Allow, Block, Hide, Rename, Comm}

abbrev pub operation_of : Operator → Operation
operation_of (Allow sets) = allowing (map name_set_of sets.items)
operation_of (Block names) = blocking (map word_of names.items)
operation_of (Hide names) = hiding (map word_of names.items)
operation_of (Rename renamings) = renamed_by (map renaming_of renamings.items)
operation_of (Comm rules) = communicating (map comm_rule_of rules.items)
