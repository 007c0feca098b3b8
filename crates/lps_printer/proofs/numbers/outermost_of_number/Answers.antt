use Rattle.std.proofs.Common.{sym, false}
use Rattle.mcrl2_syntax.specs.declared.data_tree.PrefixSign.TheVariants.{Negate}
use Rattle.lps_printer.specs.PrintedExpressions.{numeral}
use Rattle.lps_printer.specs.WordForms.{cast_text}
use Rattle.lps_printer.proofs.NumeralPieces.{negative_worded, opened_worded}
use Rattle.lps_printer.proofs.Outermosts.{outermost_equal, outermost_prefix, cast_closed}
use Rattle.lps_printer.proofs.numbers.outermost_of_number.Goals as goal

pub returns-then-num : goal.returns-then-num
returns-then-num c = λ s. outermost_equal (sym (negative_worded false s c.args.num c.if-num.true)) (outermost_prefix Negate (numeral c.args.num.magnitude))

pub returns-else-num : goal.returns-else-num
returns-else-num c = λ s. outermost_equal (sym (opened_worded s c.args.num c.if-num.false)) (cast_closed (cast_text s c.args.num.magnitude) c.args.num.magnitude)
