use Rattle.std.proofs.Common.{◌≡◌, None, map, take}
use Rattle.mcrl2_syntax.specs.Words.{word_of}
use Rattle.sort_table.specs.BareProcesses.{bare_names}
use Rattle.sort_checker.specs.UnknownTrees.{unknown_action}
use Rattle.sort_checker.proofs.unknown_names.unknown_among.Given as goal

abbrev pub invariant-loop-word : goal.invariant-loop-word
invariant-loop-word l = unknown_action l.known (bare_names (map word_of (take l.word-index l.names))) ≡ None
