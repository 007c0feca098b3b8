use Rattle.mcrl2_syntax.specs.ProcessTrees.{plain_process}
use Rattle.sort_checker.proofs.MadeDefinitions.{sums_stand}
use Rattle.sort_checker.proofs.definitions.start.Goals as goal

pub process_of-requires-clause-words : goal.process_of-requires-clause-words
process_of-requires-clause-words c = (c.in-Some.ensures.ready c.args.sig.now.texts c.requires.words).0

pub process_of-requires-clause-names : goal.process_of-requires-clause-names
process_of-requires-clause-names c = sums_stand c.args.sig.now (plain_process c.in-Some.tree.now) (c.in-Some.ensures.ready c.args.sig.now.texts c.requires.words).1
