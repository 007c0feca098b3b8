use Rattle.mcrl2_lexer.specs.Words.{decimal}
use Rattle.data_typing.specs.declared.nodes.Kind.TheVariants as kinds
use Rattle.data_typing.proofs.ReadingLemmas.{one_on, numeral_stands}
use Rattle.data_typing.proofs.reading.add_numeral.Goals as goal

pub returns-clause-grown : goal.returns-clause-grown
returns-clause-grown c = one_on c.args.nodes.now.items c.add.new.nodes.items (record { kind = kinds.Numeral c.in-Some.value; arguments = c.new.result }) c.in_ok-at.ensures.nodes c.in_ok-at.ensures.added

pub returns-clause-stands : goal.returns-clause-stands
returns-clause-stands c = λ y m.
    numeral_stands y m c.args.nodes.now.items c.add.new.nodes.items c.in-Some.value (decimal c.args.digits.now) c.in-Some.ensures c.new.result c.new.ensures.items c.in_ok-at.at c.in_ok-at.ensures.at c.in_ok-at.ensures.added
