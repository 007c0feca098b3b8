-- The sorts of terms, over any signature that has the functions 0 to 5 of the table.
use Rattle.std.specs.Prelude.{◌≡◌, List, map, take, Some, slice_get}
use Rattle.std.specs.List.{All}
use Rattle.data_theory.specs.declared.ids.SortId.{SortId}
use Rattle.data_theory.specs.declared.ids.VarId.{VarId}
use Rattle.data_theory.specs.declared.ids.TermId.{TermId}
use Rattle.data_theory.specs.Whole.{whole_of}
use Rattle.data_theory.specs.Functions.{Function, arguments_of}
use Rattle.data_theory.specs.Rows.{row_sorts, row_result}
use Rattle.data_theory.specs.Table.{first_rows}
use Rattle.data_theory.specs.Signature.{Sig}
use Rattle.data_theory.specs.IdTrees.{Tree, trees_of, put_tree}
use Rattle.data_theory.specs.IdTreeSorts.{HasNumber, IsVariableOf, HasTreeSort, HaveTreeSorts}
use Rattle.term_pool.specs.declared.terms.Head.{Head}
use Rattle.term_pool.specs.declared.terms.Head.TheVariants.{Var, Num, Fun}
use Rattle.term_pool.specs.HeadTrees.{head_tree, tree_at, trees_at}
use Rattle.term_pool.specs.Bindings.{listed}

abbrev pub sorts_of : Function → List SortId × SortId
sorts_of f = (arguments_of f, f.result)

-- the prefix `-` and the upcasts stand under their numbers
abbrev pub HasFirstFunctions : Sig → Type 0
HasFirstFunctions g = map sorts_of (take 6 g.functions) ≡ map (λ row. (row_sorts row, row_result row)) first_rows

-- the arguments fit the head, and the term has this sort
abbrev pub HasHeadSort : Sig → List Tree → Head → List TermId → SortId → Type 0
HasHeadSort g ts (Var v) ids s = IsVariableOf g v s
HasHeadSort g ts (Num a n) ids s = (a ≡ s) × HasNumber a (whole_of n)
HasHeadSort g ts (Fun f) ids s = (e : Function) × (slice_get g.functions f.0 ≡ Some e) × (e.result ≡ s) × HaveTreeSorts g (trees_of (trees_at ts ids)) (arguments_of e)

-- each listed term has its variable's sort
abbrev pub HaveVariableSorts : Sig → List Tree → List (VarId × TermId) → Type 0
HaveVariableSorts g ts by = All (λ p. (s : SortId) → IsVariableOf g p.0 s → HasTreeSort g (tree_at ts p.1) s) by

abbrev pub HeadsHaveSorts : Type 0
HeadsHaveSorts = (g : Sig) → HasFirstFunctions g → (ts : List Tree) (h : Head) (ids : List TermId) (s : SortId) → HasHeadSort g ts h ids s → HasTreeSort g (head_tree h (trees_at ts ids)) s

abbrev pub PuttingInKeepsSorts : Type 0
PuttingInKeepsSorts = (g : Sig) → HasFirstFunctions g → (ts : List Tree) (by : List (VarId × TermId)) → HaveVariableSorts g ts by → (t : Tree) (s : SortId) → HasTreeSort g t s → HasTreeSort g (put_tree (listed ts by) t) s
