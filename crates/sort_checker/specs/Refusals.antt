-- Which refusal of typing a text meets.
use Rattle.std.specs.Prelude.{◌≡◌, ℕ, suc, Bool, not, cond, List, [], ◌∷◌, Option, Some, None, option_map}
use Rattle.std.specs.Option.{option_or}
use Rattle.std.specs.List.{list_any, list_all}
use Rattle.sort_table.specs.Expressions.{Name}
use Rattle.sort_table.specs.BareDeclarations.{Section, declarations_in}
use Rattle.sort_table.specs.Refusals.{IsSoundlyDeclared}
use Rattle.data_typing.specs.Typings.{first_of}
use Rattle.sort_checker.specs.FullVocabularies.{FullVocabulary, IsFullVocabularyOf}
use Rattle.sort_checker.specs.Operators.{renamed_twice, has_comm_fault}
use Rattle.sort_checker.specs.Parts.{ScopedDeclaration, scoped_declarations, parts_of}
use Rattle.sort_checker.specs.Faults.{unknown_name, is_typed, free_variable, has_variable_left, operators_of}

-- the first of these declarations at which this gives something, as its number with what it gives; the first one has the number k
abbrev pub first_from : {D A : Type 0} → (D → Option A) → ℕ → List D → Option (ℕ × A)
first_from f k [] = None
first_from f k (d ∷ ds) = option_or (option_map (λ a. (k, a)) (f d)) (first_from f (suc k) ds)

-- the number of the first of these declarations that passes a test
abbrev pub number_from : {D : Type 0} → (D → Bool) → ℕ → List D → Option ℕ
number_from test k [] = None
number_from test k (d ∷ ds) = cond (test d) (Some k) (number_from test (suc k) ds)

-- in the order of their numbers, from 12 to 17
pub data TypeFault : Type 0 where
  unknown_in : ℕ → Name → TypeFault
  untyped : ℕ → TypeFault
  free_in : ℕ → Name → TypeFault
  variable_left : ℕ → TypeFault
  comm_shape : ℕ → TypeFault
  rename_twice : ℕ → Name → TypeFault

-- ---- one by one: the first declaration that has it, and the first name in that
abbrev pub unknown_fault : FullVocabulary → List Section → Option (ℕ × Name)
unknown_fault v ss = first_from (λ d. first_of (unknown_name v) (parts_of d)) 1 (scoped_declarations ss)

abbrev pub untyped_fault : FullVocabulary → List Section → Option ℕ
untyped_fault v ss = number_from (λ d. not (list_all (is_typed v) (parts_of d))) 1 (scoped_declarations ss)

abbrev pub free_fault : FullVocabulary → List Section → Option (ℕ × Name)
free_fault v ss = first_from (λ d. first_of (free_variable v) (parts_of d)) 1 (scoped_declarations ss)

abbrev pub left_fault : List Section → Option ℕ
left_fault ss = number_from has_variable_left 1 (scoped_declarations ss)

abbrev pub comm_fault : FullVocabulary → List Section → Option ℕ
comm_fault v ss = number_from (λ (d : ScopedDeclaration). list_any (has_comm_fault v.declared) (operators_of d.declaration)) 1 (scoped_declarations ss)

abbrev pub rename_fault : List Section → Option (ℕ × Name)
rename_fault ss = first_from (λ (d : ScopedDeclaration). first_of renamed_twice (operators_of d.declaration)) 1 (scoped_declarations ss)

-- ---- the first of them, in the order of their numbers
abbrev pub type_fault : FullVocabulary → List Section → Option TypeFault
type_fault v ss =
    first_of (λ (f : Option TypeFault). f)
    (option_map (λ (r : ℕ × Name). unknown_in r.0 r.1) (unknown_fault v ss)
    ∷ option_map untyped (untyped_fault v ss)
    ∷ option_map (λ (r : ℕ × Name). free_in r.0 r.1) (free_fault v ss)
    ∷ option_map variable_left (left_fault ss)
    ∷ option_map comm_shape (comm_fault v ss)
    ∷ option_map (λ (r : ℕ × Name). rename_twice r.0 r.1) (rename_fault ss)
    ∷ [])

-- a text whose declarations are sound is refused with this fault, over a vocabulary of it
pub record IsRefusedWith (v : FullVocabulary) (ss : List Section) (fault : TypeFault) : Type 0 where
  pub vocabulary : IsFullVocabularyOf (declarations_in ss) v
  pub sound : IsSoundlyDeclared ss
  pub first : type_fault v ss ≡ Some fault

-- none of the conditions holds, from 8 to 17
pub record IsWellTyped (v : FullVocabulary) (ss : List Section) : Type 0 where
  pub vocabulary : IsFullVocabularyOf (declarations_in ss) v
  pub sound : IsSoundlyDeclared ss
  pub no_fault : type_fault v ss ≡ None

-- a text is refused with one fault at most
abbrev pub RefusalsAreSingle : Type 0
RefusalsAreSingle = (v : FullVocabulary) (ss : List Section) (f g : TypeFault) → IsRefusedWith v ss f → IsRefusedWith v ss g → f ≡ g
