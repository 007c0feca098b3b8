-- Which refusal the declarations of a text meet: each comes where its condition holds, and none of a smaller number does.
use Rattle.std.specs.Prelude.{◌≡◌, ℕ, List}
use Rattle.sort_table.specs.Expressions.{Name}
use Rattle.sort_table.specs.BareDeclarations.{Section, declarations_in}
use Rattle.sort_table.specs.UnknownSorts.{AllAreKnown, UsesUnknownSort}
use Rattle.sort_table.specs.SortCycles.{NoCycle, IsFirstCycle}
use Rattle.sort_table.specs.Duplicates.{NothingAgain, IsDuplicate}
use Rattle.sort_table.specs.EmptySorts.{NoEmptySort, IsFirstEmptySort}

-- in the order of their numbers, from 8 to 11
pub data DeclarationFault : Type 0 where
  unknown_sort : ℕ → Name → DeclarationFault
  sort_cycle : List Name → DeclarationFault
  duplicate : ℕ → ℕ → DeclarationFault
  empty_sort : Name → DeclarationFault

abbrev pub IsRefusedWith : List Section → DeclarationFault → Type 0
IsRefusedWith ss (unknown_sort number name) = UsesUnknownSort (declarations_in ss) number name
IsRefusedWith ss (sort_cycle names) = AllAreKnown (declarations_in ss) × IsFirstCycle (declarations_in ss) names
IsRefusedWith ss (duplicate first second) = AllAreKnown (declarations_in ss) × NoCycle (declarations_in ss) × IsDuplicate ss first second
IsRefusedWith ss (empty_sort name) = AllAreKnown (declarations_in ss) × NoCycle (declarations_in ss) × NothingAgain ss × IsFirstEmptySort (declarations_in ss) name

-- none of the conditions holds
pub record IsSoundlyDeclared (ss : List Section) : Type 0 where
  pub known : AllAreKnown (declarations_in ss)
  pub no_cycle : NoCycle (declarations_in ss)
  pub once : NothingAgain ss
  pub inhabited : NoEmptySort (declarations_in ss)

-- ---- laws
-- a text is refused with one fault at most
abbrev pub RefusalsAreSingle : Type 0
RefusalsAreSingle = (ss : List Section) (f g : DeclarationFault) → IsRefusedWith ss f → IsRefusedWith ss g → f ≡ g

-- with none where no condition holds
abbrev pub SoundDeclarationsAreNotRefused : Type 0
SoundDeclarationsAreNotRefused = (ss : List Section) (f : DeclarationFault) → IsSoundlyDeclared ss → ¬ (IsRefusedWith ss f)
