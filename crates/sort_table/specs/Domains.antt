-- The sorts of arguments, with a number for each list of them.
use Rattle.std.specs.Prelude.{◌≡◌, ◌<◌, ℕ, List, [], ◌∷◌, map, Option, Some, option_map, option_and_then}
use Rattle.std.specs.Option.{IsSome}
use Rattle.std.specs.List.{AllByRecursion, flat_map}
use Rattle.std.specs.BTreeMap.{BTreeMap, get_by, btree_map_len}
use Rattle.std.specs.Cmp.Lexicographic.{slice_cmp}
use Rattle.std.specs.Ordering.{nat_cmp}
use Rattle.std.specs.Global.{Vec}
use Rattle.mcrl2_syntax.specs.declared.declaration.Field.{Field}
use Rattle.mcrl2_syntax.specs.declared.declaration.Constructor as trees
use Rattle.mcrl2_syntax.specs.Declarations.{field_of, constructor_of}
use Rattle.sort_table.specs.declared.flat_sorts.FlatSort.{FlatSort}
use Rattle.sort_table.specs.declared.flat_sorts.FlatTable.{FlatTable}
use Rattle.sort_table.specs.declared.domains.Domain.{Domain}
use Rattle.sort_table.specs.declared.domains.DomainTable.{DomainTable}
use Rattle.sort_table.specs.Expressions.{Name}
use Rattle.sort_table.specs.BareSorts.{SortExpression, a_name}
use Rattle.sort_table.specs.BareDeclarations as bare
use Rattle.sort_table.specs.BareDeclarations.{Declaration, struct, constructors, mappings, actions, bare_field, bare_constructor}
use Rattle.sort_table.specs.SortMeanings.{Kind}
use Rattle.sort_table.specs.TextFunctions.{fields_of}
use Rattle.sort_table.specs.FlatSorts.{flats_in}
use Rattle.sort_table.specs.IndexedKinds.{kinds_of_index}

-- ---- numbers for lists of sorts
abbrev pub sorts_code : List FlatSort → List ℕ
sorts_code [] = []
sorts_code (s ∷ ss) = s.depth ∷ s.kind ∷ s.place ∷ sorts_code ss

-- what a map has under a list of numbers
abbrev pub value_under : BTreeMap (Vec ℕ) ℕ → List ℕ → Option ℕ
value_under m code = get_by (λ (k : Vec ℕ). slice_cmp nat_cmp code k.items) m

-- the number of a list of sorts
abbrev pub number_under : BTreeMap (Vec ℕ) ℕ → List FlatSort → Option ℕ
number_under m ss = value_under m (sorts_code ss)

-- lists of sorts with one number are equal
abbrev pub TellsApart : (List FlatSort → Option ℕ) → Type 0
TellsApart by = (ss ts : List FlatSort) (k : ℕ) → by ss ≡ Some k → by ts ≡ Some k → ss ≡ ts

-- no two have one number, and each number is below how many there are
pub record IsNumbering (m : BTreeMap (Vec ℕ) ℕ) : Type 0 where
  pub apart : (cs ds : List ℕ) (k : ℕ) → value_under m cs ≡ Some k → value_under m ds ≡ Some k → cs ≡ ds
  pub below : (cs : List ℕ) (k : ℕ) → value_under m cs ≡ Some k → k < btree_map_len m

-- no list loses its number
abbrev pub KeepsNumbers : BTreeMap (Vec ℕ) ℕ → BTreeMap (Vec ℕ) ℕ → Type 0
KeepsNumbers old new = (ss : List FlatSort) (k : ℕ) → number_under old ss ≡ Some k → number_under new ss ≡ Some k

-- ---- domains
-- the sorts of sort expressions, with the number of their list
abbrev pub Domains : Type 0
Domains = List SortExpression → Option (ℕ × List FlatSort)

abbrev pub with_number : (List FlatSort → Option ℕ) → List FlatSort → Option (ℕ × List FlatSort)
with_number by ss = option_map (λ (k : ℕ). (k, ss)) (by ss)

-- where each name has its sort, and the list its number
abbrev pub domain_in : (List FlatSort → Option ℕ) → List (Name × Kind) → List FlatSort → Domains
domain_in by ks table es = option_and_then (with_number by) (flats_in ks table es)

abbrev pub domain_under : Domain → ℕ × List FlatSort
domain_under d = (d.number, d.sorts.items)

abbrev pub flats_by : FlatTable → List SortExpression → Option (List FlatSort)
flats_by t es = flats_in (kinds_of_index t.index) t.sorts.items es

abbrev pub domains_by : DomainTable → Domains
domains_by t = domain_in (number_under t.numbers) (kinds_of_index t.flats.index) t.flats.sorts.items

-- the sort expressions of fields
abbrev pub fields_in : List Field → List SortExpression
fields_in fs = map (λ (f : bare.Field). f.sort) (map bare_field (map field_of fs))

-- ---- the domains of what declarations declare
abbrev pub domains_of_constructors : List trees.Constructor → List (List SortExpression)
domains_of_constructors cs = map fields_of (map bare_constructor (map constructor_of cs))

abbrev pub domains_of : Declaration → List (List SortExpression)
domains_of (struct n cs) = (a_name n ∷ []) ∷ map fields_of cs
domains_of (constructors fs es to) = es ∷ []
domains_of (mappings fs es to) = es ∷ []
domains_of (actions as_ es) = es ∷ []
domains_of _ = []

abbrev pub domains_in : List Declaration → List (List SortExpression)
domains_in ds = flat_map domains_of ds

-- the sorts of sort expressions, where they have some, have a number
abbrev pub HasNumber : (List FlatSort → Option ℕ) → (List SortExpression → Option (List FlatSort)) → List SortExpression → Type 0
HasNumber by flats es = (ss : List FlatSort) → flats es ≡ Some ss → IsSome (by ss)

abbrev pub HaveNumbers : (List FlatSort → Option ℕ) → (List SortExpression → Option (List FlatSort)) → List (List SortExpression) → Type 0
HaveNumbers by flats ess = AllByRecursion (HasNumber by flats) ess

-- the map goes on, and has the number of a list of sorts, where it is known
pub record NumbersList (sorts : Option (List FlatSort)) (old new : BTreeMap (Vec ℕ) ℕ) : Type 0 where
  pub sound : IsNumbering old → IsNumbering new
  pub kept : KeepsNumbers old new
  pub has : (ss : List FlatSort) → sorts ≡ Some ss → IsSome (number_under new ss)

-- the map goes on, and has the numbers of these
pub record AddsNumbers (flats : List SortExpression → Option (List FlatSort)) (ess : List (List SortExpression)) (old new : BTreeMap (Vec ℕ) ℕ) : Type 0 where
  pub sound : IsNumbering old → IsNumbering new
  pub kept : KeepsNumbers old new
  pub have : HaveNumbers (number_under new) flats ess
