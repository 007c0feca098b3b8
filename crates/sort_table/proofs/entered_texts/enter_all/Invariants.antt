use Rattle.std.proofs.Common.{◌≡◌, map, take}
use denote.Ref.{Bor}
use Rattle.data_theory.specs.Names.{with_texts}
use Rattle.sort_table.specs.Expressions.{Name}
use Rattle.sort_table.specs.Built.{AreNamesOfAll}
use Rattle.sort_table.proofs.entered_texts.enter_all.Given as goal

abbrev pub invariant-loop-text : goal.invariant-loop-text
invariant-loop-text l = AreNamesOfAll l.names l.ids.items (map (λ (t : Bor Name). t.now) (take l.text-index l.texts)) × (l.names ≡ with_texts l.fn.names (map (λ (t : Bor Name). t.now) (take l.text-index l.texts)))
