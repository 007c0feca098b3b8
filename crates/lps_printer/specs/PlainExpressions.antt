-- The expression that is typed, of one that is printed.
use Rattle.std.specs.Prelude.{codes}
use Rattle.sort_table.specs.Expressions as typed
use Rattle.sort_table.specs.BareData.{prefix_text, infix_text}
use Rattle.lps_printer.specs.PrintedExpressions.{Expression, Expressions, named, numeral, true_, false_, listed, applied, prefix, binary, none, more}

abbrev mutual
  pub plain : Expression → typed.Expression
  plain (named x) = typed.word x typed.none
  plain (numeral n) = typed.numeral n
  plain true_ = typed.word (codes "true") typed.none
  plain false_ = typed.word (codes "false") typed.none
  plain (listed es) = typed.listed (plain_all es)
  plain (applied x es) = typed.word x (plain_all es)
  plain (prefix sign e) = typed.one (prefix_text sign) (plain e)
  plain (binary sign e f) = typed.two (infix_text sign) (plain e) (plain f)

  pub plain_all : Expressions → typed.Expressions
  plain_all none = typed.none
  plain_all (more e es) = typed.more (plain e) (plain_all es)
