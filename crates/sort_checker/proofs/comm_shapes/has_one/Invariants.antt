use Rattle.std.proofs.Common.{◌≡◌, false, map, take}
use Rattle.std.specs.List.{list_any}
use Rattle.mcrl2_syntax.specs.Words.{word_of}
use Rattle.sort_table.specs.BareProcesses.{bare_names}
use Rattle.sort_checker.specs.NameNumbers.{has_name}
use Rattle.sort_checker.proofs.comm_shapes.has_one.Given as goal

abbrev pub invariant-loop-word : goal.invariant-loop-word
invariant-loop-word l = list_any (has_name l.names) (bare_names (map word_of (take l.word-index l.words))) ≡ false
