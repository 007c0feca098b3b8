use Rattle.data_theory.specs.IdTerms.{symbol_under}
use Rattle.data_typing.specs.CodeWords.{meaning_in}
use Rattle.data_typing.specs.Readings.{expressions_of}
use Rattle.sort_table.specs.Expressions.{word, none}
use Rattle.std.proofs.Common.{[], refl}
use Rattle.data_typing.proofs.ReadingLemmas.{read_by, no_parts}
use Rattle.data_typing.proofs.reading.add_name.Goals as goal

pub returns-clause-stands : goal.returns-clause-stands
returns-clause-stands c =
    read_by (symbol_under c.args.context.now.sig.now) (meaning_in c.args.context.now.sig.now c.args.context.now.scope.now) c.args.nodes.now.items c.add_word.new.nodes.items c.new.result.items []
    (no_parts (symbol_under c.args.context.now.sig.now) (meaning_in c.args.context.now.sig.now c.args.context.now.scope.now) c.args.nodes.now.items c.new.result.items c.new.ensures.items)
    (λ ds. word c.args.text.now (expressions_of ds)) c.add_word.result c.add_word.ensures.stands (word c.args.text.now none) refl
