-- The first cycle of sort definitions.
use Rattle.std.specs.Prelude.{◌≡◌, ◌<◌, ◌⊎◌, ℕ, suc, cond, List, [], ◌∷◌, length, map, bytes_eq}
use Rattle.std.specs.List.{Contains}
use Rattle.sort_table.specs.Expressions.{Name}
use Rattle.sort_table.specs.BareSorts.{SortExpression}
use Rattle.sort_table.specs.BareDeclarations.{Declaration, alias}
use Rattle.sort_table.specs.SortMeanings.{Kind, kinds_in}
use Rattle.sort_table.specs.UnknownSorts.{name_in}

-- a name is defined by an expression that uses the other one, through `=` and `List` alone
abbrev pub Refers : List Declaration → Name → Name → Type 0
Refers ds n m = (e : SortExpression) × Contains ds (alias n e) × (name_in e ≡ m ∷ [])

-- each of these refers to the next one, and the last one to this
abbrev pub ReferOn : List Declaration → Name → Name → List Name → Type 0
ReferOn ds first n [] = Refers ds n first
ReferOn ds first n (m ∷ ms) = Refers ds n m × ReferOn ds first m ms

abbrev pub IsCycle : List Declaration → List Name → Type 0
IsCycle ds [] = ⊥
IsCycle ds (n ∷ ns) = ReferOn ds n n ns

-- one list of numbers comes before the other, by the first place where they differ, or is the same
abbrev pub ComesFirst : List ℕ → List ℕ → Type 0
ComesFirst [] ms = Unit {0}
ComesFirst (n ∷ ns) [] = ⊥
ComesFirst (n ∷ ns) (m ∷ ms) = (n < m) ⊎ ((n ≡ m) × ComesFirst ns ms)

-- the place of a name among the declared ones
abbrev pub place_of : Name → List (Name × Kind) → ℕ
place_of n [] = 0
place_of n (k ∷ ks) = cond (bytes_eq k.0 n) 0 (suc (place_of n ks))

abbrev pub places : List Declaration → List Name → List ℕ
places ds ns = map (λ n. place_of n (kinds_in ds)) ns

abbrev pub first_of_list : List ℕ → ℕ
first_of_list [] = 0
first_of_list (i ∷ is) = i

-- it starts at the name that is declared first, is a shortest from there, and its next names are declared first
abbrev pub rank_of : List Declaration → List Name → List ℕ
rank_of ds ns = first_of_list (places ds ns) ∷ length ns ∷ places ds ns

abbrev pub IsFirstCycle : List Declaration → List Name → Type 0
IsFirstCycle ds ns = IsCycle ds ns × ((ms : List Name) → IsCycle ds ms → ComesFirst (rank_of ds ns) (rank_of ds ms))

abbrev pub NoCycle : List Declaration → Type 0
NoCycle ds = (ns : List Name) → ¬ (IsCycle ds ns)
