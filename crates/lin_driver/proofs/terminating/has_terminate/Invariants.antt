use Rattle.std.proofs.Common.{◌≡◌, ◌≢◌, map, take}
use Rattle.std.specs.List.{AllByRecursion}
use Rattle.mcrl2_syntax.specs.declared.word.Word.{Word}
use Rattle.mcrl2_syntax.specs.Words.{word_of}
use Rattle.bisim_laws.specs.Terminations.{terminate_name}
use Rattle.sort_table.specs.BareProcesses.{bare_name}
use Rattle.sort_table.specs.Expressions.{Name}
use Rattle.lin_driver.proofs.terminating.has_terminate.Given as goal

abbrev pub invariant-loop-word : goal.invariant-loop-word
invariant-loop-word l = AllByRecursion (λ (n : Name). n ≢ terminate_name) (map (λ (w : Word). bare_name (word_of w)) (take l.word-index l.words))
