-- The sort that is added: its names, its declaration, and the parameter of that sort.
use Rattle.std.specs.Prelude.{◌≡◌, ℕ, List, [], ◌∷◌, ◌++◌, map, length, codes, get_or}
use Rattle.data_theory.specs.declared.ids.NameId.{NameId}
use Rattle.data_theory.specs.declared.ids.SortId.{SortId}
use Rattle.data_theory.specs.declared.ids.VarId.{VarId}
use Rattle.data_theory.specs.Structs.{Con}
use Rattle.data_theory.specs.Signature.{Sig, with_sort, with_struct_sort, with_variable}
use Rattle.data_theory.specs.Fresh.{IsFreshIn}
use Rattle.stack_encoder.specs.StackEntries.{StackIds, push_declared, empty_declared, ids_behind}

-- ---- names
-- a fresh name for each base, in their order
pub data AreFreshNames (g : Sig) : List (List ℕ) → Sig → List NameId → Type 0 where
  no_name : AreFreshNames g [] g []
  one_more_name : {bases : List (List ℕ)} {names : List NameId} {h i : Sig} {base : List ℕ} {name : NameId} → AreFreshNames g bases h names → IsFreshIn h base name i → AreFreshNames g (bases ++ base ∷ []) i (names ++ name ∷ [])

abbrev pub text_of : Sig → NameId → List ℕ
text_of g n = get_or g.texts n.0 []

-- the names of the columns
abbrev pub column_bases : Sig → List (NameId × SortId) → List (List ℕ)
column_bases g kinds = map (λ k. text_of g k.0) kinds

-- the bases of the names, in the order of the declaration's text
abbrev pub all_bases : Sig → List (NameId × SortId) → List (List ℕ)
all_bases g kinds = codes "Stack" ∷ codes "push" ∷ codes "pc" ∷ (column_bases g kinds ++ codes "rest" ∷ codes "is_push" ∷ codes "empty" ∷ [])

-- the names of the sort and of its functions; a column's field has the column's sort
pub record StackWords : Type 0 where
  pub sort : NameId
  pub push : NameId
  pub pc : NameId
  pub fields : List (NameId × SortId)
  pub rest : NameId
  pub is_push : NameId
  pub empty : NameId

abbrev pub in_order : StackWords → List NameId
in_order w = w.sort ∷ w.push ∷ w.pc ∷ (map (λ f. f.0) w.fields ++ w.rest ∷ w.is_push ∷ w.empty ∷ [])

-- the words are fresh, and the fields have the sorts of the columns
pub record AreWords (g : Sig) (kinds : List (NameId × SortId)) (h : Sig) (w : StackWords) : Type 0 where
  pub fresh : AreFreshNames g (all_bases g kinds) h (in_order w)
  pub sorts : map (λ f. f.1) w.fields ≡ map (λ k. k.1) kinds

-- ---- the declaration
abbrev pub constructors_declared : StackWords → SortId → List Con
constructors_declared w sort = push_declared w.push w.pc w.fields w.rest w.is_push sort ∷ empty_declared w.empty ∷ []

abbrev pub with_stack_sort : Sig → StackWords → Sig
with_stack_sort g w = with_struct_sort g w.sort (constructors_declared w (record { 0 = length g.sorts }))

-- the words are made first, and then the sort
pub record AddsStackSort (g : Sig) (kinds : List (NameId × SortId)) (h : Sig) (sort : SortId) : Type 0 where
  pub words : StackWords
  pub named : Sig
  pub are_words : AreWords g kinds named words
  pub is : h ≡ with_stack_sort named words
  pub number : sort.0 ≡ length named.sorts

-- the name of the parameter is fresh
pub record AddsParameter (g : Sig) (sort : SortId) (h : Sig) (v : VarId) : Type 0 where
  pub name : NameId
  pub named : Sig
  pub fresh : IsFreshIn g (codes "q") name named
  pub is : h ≡ with_variable named (record { name = name; sort = sort })
  pub number : v.0 ≡ length named.variables

-- The sort comes first, whose functions have the numbers behind those of the functions that were there and of the built-in functions
-- over the sort; and then the parameter.
pub record DeclaresStack (g : Sig) (kinds : List (NameId × SortId)) (h : Sig) (y : StackIds) (v : VarId) : Type 0 where
  pub with_sort_only : Sig
  pub sort : AddsStackSort g kinds with_sort_only y.sort
  pub parameter : AddsParameter with_sort_only y.sort h v
  pub ids : y ≡ ids_behind (length sort.named.sorts) (length (with_sort sort.named sort.words.sort).functions) (length kinds)
