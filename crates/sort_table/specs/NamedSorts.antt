-- The names of sorts in a signature, and what is added for them.
use Rattle.std.specs.Prelude.{◌≡◌, ◌<◌, ◌↔◌, ℕ, suc, List, [], ◌∷◌, ◌++◌, length, map, Some, None, slice_get}
use Rattle.data_theory.specs.declared.ids.NameId.{NameId}
use Rattle.data_theory.specs.declared.ids.SortId.{SortId}
use Rattle.data_theory.specs.Terms.{Sort, named}
use Rattle.data_theory.specs.Sorts.{IsAnyListOver}
use Rattle.data_theory.specs.SortNames.{IsName}
use Rattle.data_theory.specs.IdSorts.{constructions}
use Rattle.data_theory.specs.Signature.{Sig, with_sort, with_alias, with_list}
use Rattle.sort_table.specs.Expressions.{Name}
use Rattle.sort_table.specs.NamedLists.{first_named}
use Rattle.sort_table.specs.BareSorts.{SortExpression, a_name}
use Rattle.sort_table.specs.SortMeanings.{Kind, alone, a_struct, equal_to, kinds_in, UnderNames, StandsFor}
use Rattle.sort_table.specs.Vocabularies.{sort_in, IsOwn}
use Rattle.sort_table.specs.BareDeclarations.{Declaration}
use Rattle.sort_table.specs.UnknownSorts.{AllAreKnown}
use Rattle.sort_table.specs.SortCycles.{NoCycle}
use Rattle.sort_table.specs.SignatureVocabularies.{sort_name_under}

-- the names of a signature's sorts, with what they mean
abbrev pub sort_names_of : Sig → List (Name × Sort)
sort_names_of g = map (sort_name_under g) g.sort_names

-- how many declared sorts a signature has
abbrev pub sort_count : Sig → ℕ
sort_count g = length (constructions g.sorts)

-- the name has the declared sort with this number
abbrev pub HasSortNumber : List (Name × Sort) → Name → ℕ → Type 0
HasSortNumber ns n d = first_named n ns ≡ Some (named d)

-- What `HasSorts` says of the names and of how many sorts there are, whatever the constructors of these are.
pub record HaveSortNames (u : UnderNames) (ns : List (Name × Sort)) (count : ℕ) : Type 0 where
  pub named : (n : Name) → ((s : Sort) × (first_named n ns ≡ Some s)) ↔ ((e : SortExpression) × StandsFor u (a_name n) e)
  pub aliases : (n : Name) (e : SortExpression) → u.sort n ≡ Some (equal_to e) → first_named n ns ≡ sort_in ns e
  pub others : (n : Name) → IsOwn u n → (d : ℕ) × HasSortNumber ns n d × (d < count)
  pub different : (n m : Name) (d : ℕ) → IsOwn u n → IsOwn u m → HasSortNumber ns n d → HasSortNumber ns m d → n ≡ m
  pub no_more : (d : ℕ) → d < count → (n : Name) × IsOwn u n × HasSortNumber ns n d

-- a name that is no alias
abbrev pub IsOwnKind : Kind → Type 0
IsOwnKind alone = Unit {0}
IsOwnKind a_struct = Unit {0}
IsOwnKind (equal_to e) = ⊥

-- Names get sorts one after the other: a name that is no alias the next number, and an alias the sort that its expression has by
-- then. The first declaration of a name counts.
pub data NamesSorts (ks : List (Name × Kind)) : List (Name × Sort) → ℕ → Type 0 where
  no_names : NamesSorts ks [] 0
  own_name : (ns : List (Name × Sort)) (count : ℕ) (n : Name) (k : Kind) → first_named n ks ≡ Some k → IsOwnKind k → first_named n ns ≡ None → NamesSorts ks ns count → NamesSorts ks (ns ++ (n, named count) ∷ []) (suc count)
  alias_name : (ns : List (Name × Sort)) (count : ℕ) (n : Name) (e : SortExpression) (s : Sort) → first_named n ks ≡ Some (equal_to e) → first_named n ns ≡ None → sort_in ns e ≡ Some s → NamesSorts ks ns count → NamesSorts ks (ns ++ (n, s) ∷ []) count

-- list sorts are added one after the other
pub data AddsLists (g : Sig) : Sig → Type 0 where
  no_lists : AddsLists g g
  one_list : (h : Sig) (e : SortId) → e.0 < length h.sorts → ¬ (IsAnyListOver h.sorts e) → AddsLists g h → AddsLists g (with_list h e)

-- sorts without constructors, aliases and list sorts are added one after the other, for names that the texts have
pub data AddsSorts (g : Sig) : Sig → Type 0 where
  no_sorts : AddsSorts g g
  one_sort : (h : Sig) (n : NameId) → n.0 < length h.texts → ¬ (IsName h.sort_names n) → AddsSorts g h → AddsSorts g (with_sort h n)
  one_alias : (h : Sig) (n : NameId) (s : SortId) → n.0 < length h.texts → s.0 < length h.sorts → ¬ (IsName h.sort_names n) → AddsSorts g h → AddsSorts g (with_alias h n s)
  one_list_sort : (h : Sig) (e : SortId) → e.0 < length h.sorts → ¬ (IsAnyListOver h.sorts e) → AddsSorts g h → AddsSorts g (with_list h e)

-- each entry's name has the text at the place of the id beside it
abbrev pub AreIdsOf : List (List ℕ) → List (Name × Kind) → List NameId → Type 0
AreIdsOf texts kinds ids = map (λ (i : NameId). slice_get texts i.0) ids ≡ map (λ (r : Name × Kind). Some r.0) kinds

-- these sort names are those of declarations that use declared names alone and have no cycle of aliases
abbrev pub AreSoundKinds : List (Name × Kind) → Type 0
AreSoundKinds kinds = (ds : List Declaration) × (kinds ≡ kinds_in ds) × AllAreKnown ds × NoCycle ds

-- the name has a sort
abbrev pub IsNamed : Sig → Name → Type 0
IsNamed g n = (s : Sort) × (first_named n (sort_names_of g) ≡ Some s)

-- The ids are those of the declared names, and a name has a sort only where it is declared.
pub record ReadsSorts (kinds : List (Name × Kind)) (ids : List NameId) (g : Sig) : Type 0 where
  pub ids_are : AreIdsOf g.texts kinds ids
  pub declared : (n : Name) → IsNamed g n → (k : Kind) × (first_named n kinds ≡ Some k)
