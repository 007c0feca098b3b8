-- How the declared sorts come into a signature.
use Rattle.std.specs.Prelude.{◌≡◌, ◌<◌, ◌↔◌, ◌⊎◌, ℕ, List, [], ◌∷◌, length, Some, slice_index}
use Rattle.std.specs.Global.{Vec}
use Rattle.graphs.specs.Graphs.{HasEdge}
use Rattle.data_theory.specs.declared.ids.NameId.{NameId}
use Rattle.data_theory.specs.Terms.{Sort, boolean, positive, natural, integer}
use Rattle.data_theory.specs.declared.ids.SortId.{SortId}
use Rattle.data_theory.specs.Sorts.{IsListOver}
use Rattle.data_theory.specs.WholeSignatures.{IsSignature}
use Rattle.data_theory.specs.Signature.{Sig}
use Rattle.sort_table.specs.Expressions.{Name}
use Rattle.sort_table.specs.NamedLists.{first_named}
use Rattle.sort_table.specs.BareSorts.{SortExpression}
use Rattle.sort_table.specs.SortMeanings.{Kind, equal_to}
use Rattle.sort_table.specs.SortIndexes.{first_place}
use Rattle.sort_table.specs.UsedNames.{leaf_of}
use Rattle.sort_table.specs.AliasGraphs.{HasAliasEdge}
use Rattle.sort_table.specs.WrittenLists.{IsPartSort}
use Rattle.sort_table.specs.NamedSorts.{AreIdsOf, IsNamed, IsOwnKind, NamesSorts, AddsSorts, sort_names_of, sort_count}

-- the sorts that are always there, in the order of their numbers
abbrev pub first_four : List Sort
first_four = boolean ∷ positive ∷ natural ∷ integer ∷ []

-- a name is declared first at this place, as this
pub record IsFirst (ks : List (Name × Kind)) (place : ℕ) (n : Name) (k : Kind) : Type 0 where
  pub place_is : first_place n ks ≡ Some place
  pub kind_is : first_named n ks ≡ Some k

-- the names that have sorts got them one after the other
pub record IsDeclaring (ks : List (Name × Kind)) (ids : List NameId) (g : Sig) : Type 0 where
  pub ids_are : AreIdsOf g.texts ks ids
  pub names : NamesSorts ks (sort_names_of g) (sort_count g)

-- A list sort was added for an alias: at that time it was that of a part of the alias's expression.
pub record IsOfAlias (ks : List (Name × Kind)) (h : Sig) (l : SortId) : Type 0 where
  pub name : Name
  pub expression : SortExpression
  pub declared : first_named name ks ≡ Some (equal_to expression)
  pub before : Sig
  pub stands : IsSignature before
  pub within : l.0 < length before.sorts
  pub part : IsPartSort expression before l
  pub since : AddsSorts before h

abbrev pub NewListsOfAliases : List (Name × Kind) → Sig → Sig → Type 0
NewListsOfAliases ks g h = (x l : SortId) → IsListOver h.sorts x l → IsListOver g.sorts x l ⊎ IsOfAlias ks h l

-- sorts are added, and no name loses its sort
pub record GoesOn (ks : List (Name × Kind)) (ids : List NameId) (g h : Sig) : Type 0 where
  pub state : IsDeclaring ks ids h
  pub adds : AddsSorts g h
  pub keeps : (n : Name) → IsNamed g n → IsNamed h n
  pub lists : NewListsOfAliases ks g h

-- a name that is declared first at this place, and is no alias, has a sort
abbrev pub OwnIsNamed : List (Name × Kind) → ℕ → Sig → Type 0
OwnIsNamed ks place g = (n : Name) (k : Kind) → IsFirst ks place n k → IsOwnKind k → IsNamed g n

-- an alias that is declared first at this place has a sort
abbrev pub AliasIsNamed : List (Name × Kind) → ℕ → Sig → Type 0
AliasIsNamed ks place g = (n : Name) (e : SortExpression) → IsFirst ks place n (equal_to e) → IsNamed g n

-- what an alias that is declared first at this place uses has a sort
abbrev pub IsReady : List (Name × Kind) → ℕ → Sig → Type 0
IsReady ks place g = (n : Name) (e : SortExpression) → IsFirst ks place n (equal_to e) → (m : Name) → leaf_of e ≡ Some m → IsNamed g m

-- each place stands in a level, and what it uses in one below
pub record AreLevels (ks : List (Name × Kind)) (levels : List (Vec ℕ)) : Type 0 where
  pub each : (p : ℕ) → p < length ks → (r : ℕ) × HasEdge levels r p
  pub within : (r p : ℕ) → HasEdge levels r p → p < length ks
  pub down : (r p b : ℕ) → HasEdge levels r p → HasAliasEdge ks ks p b → (q : ℕ) × (q < r) × HasEdge levels q b

-- of the first places each stands at its rank
pub record AreByRank (ranks : List ℕ) (count : ℕ) (levels : List (Vec ℕ)) : Type 0 where
  pub size : length levels ≡ length ranks
  pub exact : (r p : ℕ) → HasEdge levels r p ↔ ((p < count) × (slice_index ranks p ≡ r))
