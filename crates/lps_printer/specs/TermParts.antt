-- Parts of terms that tell how they are written.
use Rattle.std.specs.Prelude.{ℕ, Bool, true, false, cond, List, Option, Some, None}
use Rattle.data_theory.specs.Terms.{Term, Terms, variable, numeral, unknown, application, none, more}
use Rattle.lps_printer.specs.PrintedExpressions as printed
use Rattle.lps_printer.specs.PrintedExpressions.{Expression, Expressions}
use Rattle.lps_printer.specs.WrittenTerms.{Manner, no_elements, an_element, a_cast, declared, built_in, manner, Written, elements_written, written}
use Rattle.lps_printer.specs.EmptyLists.{filled}
use Rattle.lps_printer.specs.Wordings.{Wording, in_place}

-- the element and the rest of what `|>` makes
abbrev pub parts_in : Manner → Terms → Option (Term × Term)
parts_in an_element (more t (more u none)) = Some (t, u)
parts_in an_element none = None
parts_in an_element (more t none) = None
parts_in an_element (more t (more u (more v ts))) = None
parts_in (no_elements s) ts = None
parts_in a_cast ts = None
parts_in (declared k) ts = None
parts_in built_in ts = None

abbrev pub element_parts : Term → Option (Term × Term)
element_parts (variable v) = None
element_parts (numeral s z) = None
element_parts (unknown d k) = None
element_parts (application f ts) = parts_in (manner f) ts

-- whether a chain of `|>` ends in `[]`, by whether its rest does
abbrev pub ends_in : Manner → Bool → Bool
ends_in (no_elements s) b = true
ends_in an_element b = b
ends_in a_cast b = false
ends_in (declared k) b = false
ends_in built_in b = false

abbrev mutual
  pub ends_in_empty : Term → Bool
  ends_in_empty (variable v) = false
  ends_in_empty (numeral s z) = false
  ends_in_empty (unknown d k) = false
  ends_in_empty (application f ts) = ends_in (manner f) (rest_ends ts)

  pub rest_ends : Terms → Bool
  rest_ends none = false
  rest_ends (more t ts) = last_ends ts

  pub last_ends : Terms → Bool
  last_ends none = false
  last_ends (more t none) = ends_in_empty t
  last_ends (more t (more u ts)) = false

-- the variable that a term is
abbrev pub variable_of : Term → Option ℕ
variable_of (variable v) = Some v
variable_of (numeral s z) = None
variable_of (unknown d k) = None
variable_of (application f ts) = None

-- the only one of the terms, where it is a variable
abbrev pub only_variable : Terms → Option ℕ
only_variable none = None
only_variable (more t none) = variable_of t
only_variable (more t (more u ts)) = None

-- the variable directly under an upcast in a place of declared sort
abbrev pub variable_under : Bool → Bool → Terms → Option ℕ
variable_under placed is_cast ts = cond placed (cond is_cast (only_variable ts) None) None

-- the name of a variable in the place of what is written
abbrev pub named_or : Option (List ℕ) → Expression → Expression
named_or None e = e
named_or (Some x) e = printed.named x

-- the constant in the place of an empty list, where there is one
abbrev pub nil_or : Option (List ℕ) → Expression
nil_or None = printed.listed printed.none
nil_or (Some x) = printed.named x

-- two terms
abbrev pub are_two : Terms → Bool
are_two none = false
are_two (more t none) = false
are_two (more t (more u none)) = true
are_two (more t (more u (more v ts))) = false

-- terms in places of one kind
abbrev pub worded : Wording → Bool → Terms → Expressions
worded w b none = printed.none
worded w b (more t ts) = printed.more (in_place w b t) (worded w b ts)

-- a term as the rest of a chain, and `t |> u`
abbrev pub rest_of : Wording → Term → Written
rest_of w t = written w.names (filled w.constant w.names.once t).placed

abbrev pub both_of : Wording → Term → Term → Written
both_of w t u = elements_written (rest_of w u).chain (written w.names (filled w.constant w.names.once t).opened) (rest_of w u)
