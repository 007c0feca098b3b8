use Rattle.std.proofs.Common.{rules, sym}
use Rattle.lin_words.proofs.Numbers.{too_large}
use Rattle.lin_words.proofs.options.number.Goals as goal

pub returns-in_default-2-clause-value : goal.returns-in_default-2-clause-value
returns-in_default-2-clause-value c =
    sym (too_large c.args.greatest c.args.text.now c.parse.result c.in_default.field-0 (search rules) (search rules) c.parse.ensures.value.0 c.in_default.is)
