use Rattle.std.proofs.Common.{rules}
use Rattle.aut_check.proofs.PartLemmas.{number_found}
use Rattle.aut_check.specs.LineParts.{IsNumeral}
use Rattle.aut_check.proofs.line_parts.number_of.Goals as goal

pub returns : goal.returns
returns c =
    let numeral : IsNumeral c.args.digits.now = search (rules) in
    number_found c.args.digits.now c.in_ok-value.value c.try_from.result c.ok.result c.requires numeral (c.in_ok-value.ensures) c.try_from.ensures c.ok.ensures.value
