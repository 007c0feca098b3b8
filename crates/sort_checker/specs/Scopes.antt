-- The variables in scope: under any numbers, and as faults number them.
use Rattle.std.specs.Prelude.{◌≡◌, ℕ, List, [], ◌∷◌, ◌++◌, map, length, Option, Some, option_map, option_to_list}
use Rattle.std.specs.List.{Contains}
use Rattle.data_theory.specs.Terms.{Sort}
use Rattle.process_terms.specs.Processes as processes
use Rattle.sort_table.specs.Expressions.{Name}
use Rattle.sort_table.specs.BareSorts.{SortExpression}
use Rattle.sort_table.specs.BareProcesses.{Variables}
use Rattle.sort_table.specs.Vocabularies.{Vocabulary, sort_in}
use Rattle.data_typing.specs.Meanings.{Bound, Scope}

abbrev pub numbers_of : Scope → List ℕ
numbers_of scope = map (λ (b : Bound). b.number) scope

-- The variables come into scope in their order, each with its sort and under any number that isn't in scope.
pub data Binds (v : Vocabulary) : Scope → Variables → Scope → List processes.Bound → Type 0 where
  binds_none : {scope : Scope} → Binds v scope [] scope []
  binds_more : {scope inner : Scope} {x : Name} {n : ℕ} {s : Sort} {e : SortExpression} {xs : Variables} {bs : List processes.Bound} → sort_in v.sort_names e ≡ Some s
      → ¬ (Contains (numbers_of scope) n) → Binds v (record { name = x; number = n; sort = s } ∷ scope) xs inner bs → Binds v scope ((x, e) ∷ xs) inner (record { var = n; sort = s } ∷ bs)

-- ---- one numbering
-- a variable that is numbered by how many are in scope already, where its sort is known
abbrev pub numbered : Vocabulary → Scope → Name × SortExpression → Option Bound
numbered v scope x = option_map (λ s. record { name = x.0; number = length scope; sort = s }) (sort_in v.sort_names x.1)

abbrev pub scope_behind : Vocabulary → Scope → Variables → Scope
scope_behind v scope [] = scope
scope_behind v scope (x ∷ xs) = scope_behind v (option_to_list (numbered v scope x) ++ scope) xs

-- the scope of these variables, the outermost first
abbrev pub scope_of : Vocabulary → Variables → Scope
scope_of v xs = scope_behind v [] xs
