use Rattle.sort_table.proofs.Searches.{further, here}
use Rattle.sort_checker.specs.UnknownTrees.{is_unknown_action}
use Rattle.sort_checker.proofs.NameLists.{of_word, of_words, words_listed}
use Rattle.sort_checker.proofs.unknown_names.unknown_among.Goals as goal

pub returns-in-Some : goal.returns-in-Some
returns-in-Some c =
    here of_words of_word (is_unknown_action c.args.known.now) words_listed c.args.names.now c.loop-word.word-index c.word-item.result c.unknown_action.result c.in-Some.name c.loop-word-test.true c.word-item.is c.loop-word.invariant c.unknown_action.ensures c.in-Some.is

pub loop-word-preserved : goal.loop-word-preserved
loop-word-preserved c =
    further of_words of_word (is_unknown_action c.args.known.now) words_listed c.args.names.now c.loop-word.word-index c.word-item.result c.unknown_action.result c.loop-word-test.true c.word-item.is c.loop-word.invariant c.unknown_action.ensures c.in_default.is
