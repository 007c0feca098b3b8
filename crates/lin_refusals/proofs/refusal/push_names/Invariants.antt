use Rattle.std.proofs.Common.{◌≡◌, ◌++◌, take}
use Rattle.std.specs.List.{flat_map}
use Rattle.data_theory.specs.declared.ids.NameId.{NameId}
use Rattle.lin_refusals.specs.Lines.{spaced, text_of}
use Rattle.lin_refusals.proofs.refusal.push_names.Given as goal

abbrev pub invariant-loop-name : goal.invariant-loop-name
invariant-loop-name l = l.line.items ≡ l.initial.line.items ++ flat_map (λ (n : NameId). spaced (text_of l.names n)) (take l.name-index l.list)
