use Rattle.mcrl2_syntax.specs.ProcessParts.{renaming_of}
use Rattle.mcrl2_syntax.specs.TreeWords.{IsRenamingOfWords}
use Rattle.sort_table.proofs.KeptFunctions.{nothing_yet}
use Rattle.sort_checker.specs.NumberedWords.{written_renaming, renaming_names, StandIn, IsRenamingOf}
use Rattle.sort_checker.proofs.ReadLists.{at_one, at_mapped, next_one}
use Rattle.sort_checker.proofs.word_numbers.renaming_numbers.Goals as goal

pub loop-renaming-init : goal.loop-renaming-init
loop-renaming-init c = nothing_yet (IsRenamingOf c.args.sig.now) c.new-numbers.result.items c.new-numbers.ensures.items

pub word_number-old-requires-clause-name : goal.word_number-old-requires-clause-name
word_number-old-requires-clause-name c = (at_mapped IsRenamingOfWords renaming_of c.args.renamings.now c.loop-renaming.renaming-index c.renaming-item.result c.loop-renaming-test.true c.renaming-item.is c.requires.names).0

pub word_number-old-requires-clause-there : goal.word_number-old-requires-clause-there
word_number-old-requires-clause-there c = (at_one (λ r. StandIn c.args.sig.now (renaming_names r)) c.args.renamings.now c.loop-renaming.renaming-index c.renaming-item.result c.loop-renaming-test.true c.renaming-item.is c.requires.there).0

pub word_number-renamed-requires-clause-name : goal.word_number-renamed-requires-clause-name
word_number-renamed-requires-clause-name c = (at_mapped IsRenamingOfWords renaming_of c.args.renamings.now c.loop-renaming.renaming-index c.renaming-item.result c.loop-renaming-test.true c.renaming-item.is c.requires.names).1

pub word_number-renamed-requires-clause-there : goal.word_number-renamed-requires-clause-there
word_number-renamed-requires-clause-there c = (at_one (λ r. StandIn c.args.sig.now (renaming_names r)) c.args.renamings.now c.loop-renaming.renaming-index c.renaming-item.result c.loop-renaming-test.true c.renaming-item.is c.requires.there).1.0

pub loop-renaming-preserved : goal.loop-renaming-preserved
loop-renaming-preserved c =
    next_one (IsRenamingOf c.args.sig.now) written_renaming c.args.renamings.now c.loop-renaming.renaming-index c.renaming-item.result c.loop-renaming.numbers.items c.push.new.self.items (c.word_number-old.result, c.word_number-renamed.result) c.loop-renaming-test.true c.renaming-item.is c.loop-renaming.invariant
    (c.word_number-old.ensures, c.word_number-renamed.ensures) c.in_ok-push.ensures.items
