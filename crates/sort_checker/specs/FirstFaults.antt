-- What a search for the first declaration with a fault finds.
use Rattle.std.specs.Prelude.{◌≡◌, ◌↔◌, ◌+◌, ℕ, List, ◌∷◌, ◌++◌, length, Option, Some, None}
use Rattle.std.specs.List.{AllByRecursion}
use Rattle.sort_table.specs.Expressions.{Name}
use Rattle.sort_checker.specs.Parts.{ScopedDeclaration}
use Rattle.sort_checker.specs.Refusals.{first_from}

-- Numbered from k on, the declaration with this number has a fault with this name, and none in front of it has one.
pub record IsFirstNamed (f : ScopedDeclaration → Option Name) (k : ℕ) (ds : List ScopedDeclaration) (number : ℕ) (name : Name) : Type 0 where
  pub front : List ScopedDeclaration
  pub declaration : ScopedDeclaration
  pub behind : List ScopedDeclaration
  pub text : ds ≡ front ++ (declaration ∷ behind)
  pub place : number ≡ k + length front
  pub earlier : AllByRecursion (λ (d : ScopedDeclaration). f d ≡ None) front
  pub here : f declaration ≡ Some name

abbrev pub TheFirstIsFound : Type 0
TheFirstIsFound = (f : ScopedDeclaration → Option Name) (k : ℕ) (ds : List ScopedDeclaration) (number : ℕ) (name : Name) → (first_from f k ds ≡ Some (number, name)) ↔ IsFirstNamed f k ds number name
