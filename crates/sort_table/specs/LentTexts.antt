-- Texts that are lent from a tree.
use Rattle.std.specs.Prelude.{List, map}
use denote.Ref.{Bor}
use Rattle.sort_table.specs.Expressions.{Name}

abbrev pub texts_of : List (Bor Name) → List Name
texts_of ts = map (λ (t : Bor Name). t.now) ts
