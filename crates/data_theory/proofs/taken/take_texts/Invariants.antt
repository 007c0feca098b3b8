use Rattle.std.proofs.Common.{map, take}
use Rattle.data_theory.specs.Taken.{Takes}
use Rattle.data_theory.proofs.taken.take_texts.Given as goal

abbrev pub invariant-loop-text : goal.invariant-loop-text
invariant-loop-text l = Takes l.initial.names l.initial.taken.keys (map (λ text. text.now) (take l.text-index l.texts)) l.names l.taken.keys
