-- Data terms over a signature to which nothing is added: which terms trees are, and which number was found for one.
use Rattle.std.specs.Prelude.{List, map, reverse, get_or, Option, Some, None}
use Rattle.data_theory.specs.declared.ids.SortId.{SortId}
use Rattle.data_theory.specs.declared.ids.TermId.{TermId}
use Rattle.data_theory.specs.declared.ids.VarId.{VarId}
use Rattle.data_theory.specs.declared.signature.Variable.{Variable}
use Rattle.data_theory.specs.Terms.{Term}
use Rattle.data_theory.specs.Environments.{IsOver}
use Rattle.data_theory.specs.Signature.{Sig}
use Rattle.data_theory.specs.Table.{bool_sort}
use Rattle.data_theory.specs.IdTerms.{sort_under}
use Rattle.data_theory.specs.IdTreeSorts.{HasTreeSort}
use Rattle.mcrl2_syntax.specs.DataTrees.{PlainData}
use Rattle.term_pool.specs.HeadTrees.{tree_at, IsIn}
use Rattle.term_pool.specs.Pools.{PoolContents}
use Rattle.sort_table.specs.BareData.{bare_data}
use Rattle.sort_table.specs.SignatureVocabularies.{text_under, vocabulary_of}
use Rattle.data_typing.specs.CodeParts.{term_at}
use Rattle.data_typing.specs.Meanings.{Bound, Scope, ChecksAs}
use Rattle.data_typing.specs.StandingSorts.{HasItsSortsIn}

-- ---- variables in scope
-- an entry that no signature needs to have, for numbers that none gave out
abbrev pub no_variable : Variable
no_variable = record { name = record { 0 = 0 }; sort = bool_sort }

-- the entry with this number
abbrev pub variable_under : Sig → VarId → Variable
variable_under g x = get_or g.variables x.0 no_variable

-- a variable of the signature, under its name and with its sort
abbrev pub bound_under : Sig → VarId → Bound
bound_under g x = record { name = text_under g (variable_under g x).name; number = x.0; sort = sort_under g (variable_under g x).sort }

-- the scope of these variables; the last one is the innermost
abbrev pub scope_under : Sig → List VarId → Scope
scope_under g xs = reverse (map (bound_under g) xs)

-- ---- terms
-- A typed term: where these variables are in scope the tree checks at the sort as this one, and the sort of each subterm is in the signature.
pub record IsTypedData (g : Sig) (xs : List VarId) (s : SortId) (d : PlainData) (t : Term) : Type 0 where
  pub checks : ChecksAs (vocabulary_of g) (scope_under g xs) (bare_data d) (sort_under g s) t
  pub sorts : HasItsSortsIn g t

-- The number is that of a term in the pool, which is the typed term of the tree. It has the sort, and no variables but these.
pub record IsDataTermOf (g : Sig) (p : PoolContents) (xs : List VarId) (s : SortId) (d : PlainData) (id : TermId) : Type 0 where
  pub typed : IsTypedData g xs s d (term_at g p.trees id)
  pub within : IsIn p.trees id
  pub sorted : HasTreeSort g (tree_at p.trees id) s
  pub over : IsOver (map (λ (x : VarId). x.0) xs) (term_at g p.trees id)

-- what was found of a tree: the number of its term, or nothing where it is no typed one
abbrev pub IsDataTermIn : Sig → PoolContents → List VarId → SortId → PlainData → Option TermId → Type 0
IsDataTermIn g p xs s d None = (t : Term) → ¬ (IsTypedData g xs s d t)
IsDataTermIn g p xs s d (Some id) = IsDataTermOf g p xs s d id
