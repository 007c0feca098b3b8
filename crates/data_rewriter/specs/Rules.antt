-- The rules of a function.
use Rattle.std.specs.Prelude.{ℕ, List, [], map, get_or}
use Rattle.data_theory.specs.declared.ids.FunId.{FunId}
use Rattle.data_rewriter.specs.declared.tables.Tables.{Tables}

-- the numbers that the index has for a function
abbrev pub numbers_at : Tables → FunId → List ℕ
numbers_at tables f = get_or (map (λ v. v.items) tables.by_head.items) f.0 []
