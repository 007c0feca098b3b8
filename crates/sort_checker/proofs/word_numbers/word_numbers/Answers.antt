use Rattle.std.specs.List.{Contains}
use Rattle.mcrl2_syntax.specs.Words.{word_of}
use Rattle.mcrl2_syntax.specs.TreeWords.{IsName}
use Rattle.sort_table.specs.BareProcesses.{bare_name}
use Rattle.sort_table.proofs.KeptFunctions.{nothing_yet, next_pair}
use Rattle.sort_checker.specs.NumberedWords.{IsNumberOf}
use Rattle.sort_checker.proofs.ReadLists.{at_mapped, at_twice}
use Rattle.sort_checker.proofs.word_numbers.word_numbers.Goals as goal

pub loop-word-init : goal.loop-word-init
loop-word-init c = nothing_yet (IsNumberOf c.args.sig.now) c.new-numbers.result.items c.new-numbers.ensures.items

pub word_number-requires-clause-name : goal.word_number-requires-clause-name
word_number-requires-clause-name c = at_mapped IsName word_of c.args.words.now c.loop-word.word-index c.word-item.result c.loop-word-test.true c.word-item.is c.requires.names

pub word_number-requires-clause-there : goal.word_number-requires-clause-there
word_number-requires-clause-there c = at_twice (Contains c.args.sig.now.texts) word_of bare_name c.args.words.now c.loop-word.word-index c.word-item.result c.loop-word-test.true c.word-item.is c.requires.there

pub loop-word-preserved : goal.loop-word-preserved
loop-word-preserved c = next_pair (IsNumberOf c.args.sig.now) word_of bare_name c.args.words.now c.loop-word.word-index c.word-item.result c.loop-word.numbers.items c.push.new.self.items c.word_number.result c.loop-word-test.true c.word-item.is c.loop-word.invariant c.word_number.ensures c.in_ok-push.ensures.items
