-- What nodes in code mean: the sortings of expressions, each behind those of its parts.
use Rattle.std.specs.Prelude.{Bool, false, cond, is_some, ◌≡◌, ◌<◌, ◌≤◌, ◌+◌, ℕ, List, [], ◌∷◌, ◌++◌, map, length, get_or, Option, None, option_map}
use Rattle.std.specs.List.{AllByRecursion}
use Rattle.data_theory.specs.Terms.{Sort}
use Rattle.data_typing.specs.declared.flat_sorts.FlatSort.{FlatSort}
use Rattle.data_typing.specs.declared.nodes.Overload as code
use Rattle.data_typing.specs.declared.nodes.AnyOverload as code_any
use Rattle.data_typing.specs.declared.nodes.Kind.{Kind}
use Rattle.data_typing.specs.declared.nodes.Kind.TheVariants as kinds
use Rattle.data_typing.specs.declared.nodes.Node.{Node}
use Rattle.data_typing.specs.Typings.{elements, read_off, least_sort}
use Rattle.data_typing.specs.Sortings.{Sorting, Profile, AnyProfile, first_exact_sort, may_check, each_checks_at, no_sorting, rigid_sorting, call_sorting, list_sorting}
use Rattle.data_typing.specs.FlatSorts.{flat_sort, place_of}

abbrev pub profile_of : code.Overload → Profile
profile_of f = record { arguments = map flat_sort f.arguments.items; result = flat_sort f.result }

abbrev pub any_profile_of : code_any.AnyOverload → AnyProfile
any_profile_of c = record { arguments = map place_of c.arguments.items; result = place_of c.result; by_result = c.by_result }

abbrev pub kind_sorting : Kind → List Sorting → Sorting
kind_sorting (kinds.Variable v s) ts = rigid_sorting (flat_sort s)
kind_sorting (kinds.Numeral n) ts = rigid_sorting (least_sort n)
kind_sorting (kinds.Call fs) ts = call_sorting (map profile_of fs.value.signatures.items) (option_map any_profile_of fs.value.any) ts
kind_sorting kinds.List ts = list_sorting ts

-- whether it checks by the wanted sort
abbrev pub checks_by : Kind → List Sorting → Sort → Bool
checks_by (kinds.Variable v s) ts r = false
checks_by (kinds.Numeral n) ts r = false
checks_by (kinds.Call fs) ts r = cond (is_some (first_exact_sort ts (map profile_of fs.value.signatures.items))) false (may_check ts (option_map any_profile_of fs.value.any) r)
checks_by kinds.List ts r = each_checks_at ts (read_off r elements)

-- ---- values of nodes, each made from those of its parts
abbrev pub values_at : {A : Type 0} → A → List A → List ℕ → List A
values_at z xs ks = map (λ k. get_or xs k z) ks

-- behind the values of some nodes those of further ones
abbrev pub values_behind : {A : Type 0} → A → (Kind → List A → A) → List A → List Node → List A
values_behind z f xs [] = xs
values_behind z f xs (n ∷ ns) = values_behind z f (xs ++ f n.kind (values_at z xs n.arguments.items) ∷ []) ns

abbrev pub sorting_at : List Sorting → ℕ → Sorting
sorting_at ts k = get_or ts k no_sorting

abbrev pub sortings_at : List Sorting → List ℕ → List Sorting
sortings_at ts ks = map (sorting_at ts) ks

abbrev pub node_sorting : List Sorting → Node → Sorting
node_sorting ts n = kind_sorting n.kind (sortings_at ts n.arguments.items)

unfoldable pub sortings : List Node → List Sorting
sortings ns = values_behind no_sorting kind_sorting [] ns

-- numbers below a limit
abbrev pub AreBelow : ℕ → List ℕ → Type 0
AreBelow n = AllByRecursion (λ k. k < n)

-- nodes that stand at this number and behind it have their parts in front
abbrev pub AreNodesFrom : ℕ → List Node → Type 0
AreNodesFrom k [] = Unit {0}
AreNodesFrom k (n ∷ ns) = AreBelow k n.arguments.items × AreNodesFrom (k + 1) ns

unfoldable pub AreNodes : List Node → Type 0
AreNodes ns = AreNodesFrom 0 ns

-- the first nodes' inferred sorts are known
pub record AreKnown (ns : List Node) (known : List (Option FlatSort)) : Type 0 where
  pub nodes : AreNodes ns
  pub within : length known ≤ length ns
  pub told : (k : ℕ) → k < length known → option_map flat_sort (get_or known k None) ≡ (sorting_at (sortings ns) k).infers
