-- What the laws of numbers and their meanings say.
use Rattle.std.specs.Prelude.{◌≡◌, ◌<◌, ℕ, List, [], ◌∷◌, map, length, take, slice_get, Some, None}
use Rattle.data_theory.specs.declared.ids.SortId.{SortId}
use Rattle.data_theory.specs.declared.ids.FunId.{FunId}
use Rattle.data_theory.specs.declared.ids.VarId.{VarId}
use Rattle.data_theory.specs.Terms.{function, apply, put}
use Rattle.data_theory.specs.Declarations.{Construction, sort_at, function_at, HasSort}
use Rattle.data_theory.specs.Sorts.{Kind, SortInfo, IsBare, with_kind}
use Rattle.data_theory.specs.Functions.{Function}
use Rattle.data_theory.specs.Signature.{Sig}
use Rattle.data_theory.specs.IdTrees.{Tree, Trees, apply_tree, put_tree}
use Rattle.data_theory.specs.IdTreeSorts.{HasTreeSort}
use Rattle.data_theory.specs.IdSorts.{construction_of, constructions, IsDeclaredKind, meaning_of, sort_meant, AreSorts}
use Rattle.data_theory.specs.IdSymbols.{declared_from}
use Rattle.data_theory.specs.IdTables.{IsTable}
use Rattle.data_theory.specs.IdData.{role_meant, data_meant}
use Rattle.data_theory.specs.IdTerms.{sort_under, symbol_under, term_under, terms_under, variable_sorts, IsTreeWithin, IsGrown}

-- ---- sorts
-- a list sort means the lists over what its element means, and the declared sorts are numbered among themselves
abbrev pub SortsMeanTheirKinds : Type 0
SortsMeanTheirKinds =
    (ss : List SortInfo) → AreSorts ss → (i : SortId) (s : SortInfo) → slice_get ss i.0 ≡ Some s
    → sort_meant ss i ≡ meaning_of (sort_meant ss) (length (constructions (take i.0 ss))) s.kind

-- a declared sort stands in the data at that number, with its construction
abbrev pub DeclaredSortsStandInTheData : Type 0
DeclaredSortsStandInTheData =
    (g : Sig) (i : SortId) (s : SortInfo) (c : Construction) → slice_get g.sorts i.0 ≡ Some s → construction_of s.kind ≡ c ∷ []
    → sort_at (data_meant g) (length (constructions (take i.0 g.sorts))) ≡ c

-- a declared function means the one with its number among the declared ones, which has its sorts and its role
abbrev pub DeclaredFunctionsStandInTheData : Type 0
DeclaredFunctionsStandInTheData =
    (g : Sig) (i : FunId) (f : Function) → slice_get g.functions i.0 ≡ Some f → f.word ≡ None
    → (symbol_under g i ≡ function (length (declared_from 0 (take i.0 g.functions))))
    × (function_at (data_meant g) (length (declared_from 0 (take i.0 g.functions))) ≡ record { arguments = map (sort_under g) f.sorts; result = sort_under g f.result; role = role_meant g i })

abbrev pub ListedFunctionsMeanTheirPlaces : Type 0
ListedFunctionsMeanTheirPlaces = (g : Sig) → IsTable g → (k : ℕ) (i : FunId) → slice_get g.declared k ≡ Some i → symbol_under g i ≡ function k

-- ---- different numbers, and different trees over them
abbrev pub DifferentSortsMeanDifferentSorts : Type 0
DifferentSortsMeanDifferentSorts =
    (g : Sig) → IsTable g → (i j : SortId) → i.0 < length g.sorts → j.0 < length g.sorts → sort_under g i ≡ sort_under g j → i ≡ j

abbrev pub DifferentFunctionsMeanDifferentSymbols : Type 0
DifferentFunctionsMeanDifferentSymbols =
    (g : Sig) → IsTable g → (i j : FunId) → i.0 < length g.functions → j.0 < length g.functions → symbol_under g i ≡ symbol_under g j → i ≡ j

abbrev pub DifferentTreesMeanDifferentTerms : Type 0
DifferentTreesMeanDifferentTerms = (g : Sig) → IsTable g → (t u : Tree) → IsTreeWithin g t → IsTreeWithin g u → term_under g t ≡ term_under g u → t ≡ u

-- ---- merging, and putting in
abbrev pub MergingTreesMergesTerms : Type 0
MergingTreesMergesTerms = (g : Sig) → IsTable g → (f : FunId) (ts : Trees) → term_under g (apply_tree f ts) ≡ apply (symbol_under g f) (terms_under g ts)

abbrev pub PuttingInTreesPutsInTerms : Type 0
PuttingInTreesPutsInTerms =
    (g : Sig) → IsTable g → (e : VarId → Tree) (t : Tree)
    → term_under g (put_tree e t) ≡ put (λ v. term_under g (e (record { 0 = v }))) (term_under g t)

-- ---- growth
abbrev pub GrowthKeepsMeantSorts : Type 0
GrowthKeepsMeantSorts = (g h : Sig) → IsGrown g h → (i : SortId) → i.0 < length g.sorts → sort_under h i ≡ sort_under g i

abbrev pub GrowthKeepsMeantSymbols : Type 0
GrowthKeepsMeantSymbols = (g h : Sig) → IsTable g → IsGrown g h → (i : FunId) → i.0 < length g.functions → symbol_under h i ≡ symbol_under g i

abbrev pub GrowthKeepsMeantTerms : Type 0
GrowthKeepsMeantTerms = (g h : Sig) → IsTable g → IsGrown g h → (t : Tree) → IsTreeWithin g t → term_under h t ≡ term_under g t

-- a declared sort that gets its constructors means what it meant
abbrev pub SettingConstructorsKeepsMeantTerms : Type 0
SettingConstructorsKeepsMeantTerms =
    (g : Sig) (s : SortId) (k : Kind) → IsBare g.sorts s → IsDeclaredKind k → (t : Tree) → term_under (record g { sorts = with_kind g.sorts s.0 k }) t ≡ term_under g t

-- ---- sorts of terms
abbrev pub SortedTreesMeanSortedTerms : Type 0
SortedTreesMeanSortedTerms =
    (g : Sig) → IsTable g → (t : Tree) (s : SortId) → HasTreeSort g t s → HasSort (data_meant g) (variable_sorts g) (term_under g t) (sort_under g s)

abbrev pub SortedTreesAreWithin : Type 0
SortedTreesAreWithin = (g : Sig) → IsTable g → (t : Tree) (s : SortId) → HasTreeSort g t s → IsTreeWithin g t
