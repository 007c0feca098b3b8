-- What nodes in code mean: the typings of expressions, by what the numbers of functions mean.
use Rattle.std.specs.Prelude.{◌≡◌, ◌<◌, ◌++◌, ℕ, List, [], ◌∷◌, map, length, get_or, option_map, pos}
use Rattle.data_theory.specs.declared.ids.FunId.{FunId}
use Rattle.data_theory.specs.Terms.{Sort, Symbol, variable}
use Rattle.data_theory.specs.Terms as terms
use Rattle.data_theory.specs.IdSymbols.{word_symbol}
use Rattle.data_typing.specs.declared.nodes.Callee.{Callee}
use Rattle.data_typing.specs.declared.nodes.Callee.TheVariants as callees
use Rattle.data_typing.specs.declared.nodes.Overload as code
use Rattle.data_typing.specs.declared.nodes.AnyOverload as code_any
use Rattle.data_typing.specs.declared.nodes.WordFunctions.{WordFunctions}
use Rattle.data_typing.specs.declared.nodes.Kind.{Kind}
use Rattle.data_typing.specs.declared.nodes.Kind.TheVariants as kinds
use Rattle.data_typing.specs.declared.nodes.Node.{Node}
use Rattle.sort_table.specs.Expressions.{Name, Expression}
use Rattle.data_typing.specs.Typings.{Signature, Scheme, Typing, Meaning, functions, untyped, flexible, rigid, list_by_sort, list_infers, least_sort, word_typing, typing}
use Rattle.data_typing.specs.BuiltIns.{word_scheme}
use Rattle.data_typing.specs.FlatSorts.{flat_sort, place_of}
use Rattle.data_typing.specs.Nodes.{values_behind, AreNodes}

abbrev pub callee_symbol : (FunId → Symbol) → Callee → List Sort → Sort → Symbol
callee_symbol y (callees.Declared i) ss to = y i
callee_symbol y (callees.BuiltIn w) ss to = word_symbol w ss to

abbrev pub signature_of : (FunId → Symbol) → code.Overload → Signature
signature_of y f = record { symbol = callee_symbol y f.callee (map flat_sort f.arguments.items) (flat_sort f.result); arguments = map flat_sort f.arguments.items; result = flat_sort f.result }

abbrev pub scheme_of : code_any.AnyOverload → Scheme
scheme_of c = word_scheme c.word (map place_of c.arguments.items) (place_of c.result) c.by_result

-- what a word of these functions means
abbrev pub meaning_of_functions : (FunId → Symbol) → WordFunctions → Meaning
meaning_of_functions y fs = functions (map (signature_of y) fs.signatures.items) (option_map scheme_of fs.any)

abbrev pub kind_typing : (FunId → Symbol) → Kind → List Typing → Typing
kind_typing y (kinds.Variable v s) ts = rigid (record { term = variable v.0; sort = flat_sort s })
kind_typing y (kinds.Numeral n) ts = rigid (record { term = terms.numeral (least_sort n) (pos n); sort = least_sort n })
kind_typing y (kinds.Call fs) ts = word_typing (meaning_of_functions y fs.value) ts
kind_typing y kinds.List ts = flexible (list_by_sort ts) (list_infers ts)

unfoldable pub node_typings : (FunId → Symbol) → List Node → List Typing
node_typings y ns = values_behind untyped (kind_typing y) [] ns

abbrev pub typing_at : List Typing → ℕ → Typing
typing_at ts k = get_or ts k untyped

-- the node with this number stands for an expression, by what its words mean
abbrev pub Stands : (FunId → Symbol) → (Name → Meaning) → List Node → ℕ → Expression → Type 0
Stands y m ns k e = (k < length ns) × (typing_at (node_typings y ns) k ≡ typing m e)

abbrev pub EachStands : (FunId → Symbol) → (Name → Meaning) → List Node → List ℕ → List Expression → Type 0
EachStands y m ns [] [] = Unit {0}
EachStands y m ns (k ∷ ks) (e ∷ es) = Stands y m ns k e × EachStands y m ns ks es
EachStands y m ns _ _ = ⊥

-- nodes come behind the old ones
pub record GoOn (old new : List Node) : Type 0 where
  pub nodes : AreNodes new
  pub behind : List Node
  pub are : new ≡ old ++ behind
