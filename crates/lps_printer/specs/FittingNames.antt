-- When the names of a specification fit its terms: no name has two functions with the same argument sorts, and no variable has the name of a function.
use Rattle.std.specs.Prelude.{◌≡◌, ◌<◌, ℕ, Bool, true, false, List, [], ◌∷◌, length, Some, None, map}
use Rattle.std.specs.List.{Contains}
use Rattle.data_theory.specs.Terms.{Sort, Symbol, equality, inequality, conditional, cons, snoc, concatenation, size, element_at, head, rhead, tail, rtail, membership, function}
use Rattle.data_theory.specs.Declarations.{argument_sorts, IsSymbol, Declares}
use Rattle.sort_table.specs.Expressions.{Name}
use Rattle.sort_table.specs.NamedLists.{first_named, all_named}
use Rattle.sort_table.specs.Vocabularies.{Vocabulary}
use Rattle.data_typing.specs.BuiltIns.{scheme_named}
use Rattle.data_typing.specs.Meanings.{Bound, Scope, bound_row, declared_signature, signatures_named, meaning}
use Rattle.data_typing.specs.Typings.{Signature}
use Rattle.lps_printer.specs.WrittenTerms.{Names}
use Rattle.lps_printer.specs.ReadableNames.{signature, find_exact, symbol_text, ReadsNames}

-- a built-in function over any sort
abbrev pub is_over_any : Symbol → Bool
is_over_any (equality s) = true
is_over_any (inequality s) = true
is_over_any (conditional s) = true
is_over_any (cons s) = true
is_over_any (snoc s) = true
is_over_any (concatenation s) = true
is_over_any (size s) = true
is_over_any (element_at s) = true
is_over_any (head s) = true
is_over_any (rhead s) = true
is_over_any (tail s) = true
is_over_any (rtail s) = true
is_over_any (membership s) = true
is_over_any _ = false

-- the declared functions of a name
abbrev pub declared_signatures : Vocabulary → Name → List Signature
declared_signatures d f = map (declared_signature d.tables) (all_named f d.function_names)

abbrev pub numbers : Scope → List ℕ
numbers scope = map (λ (b : Bound). b.number) scope

pub record FitNames (d : Vocabulary) (vs : List Sort) (scope : Scope) (n : Names) : Type 0 where
  -- each variable is the innermost of its name
  pub variables : (v : ℕ) (s : Sort) → Contains (numbers scope) v → Declares vs v s → first_named (n.variable v) (map bound_row scope) ≡ Some (record { name = n.variable v; number = v; sort = s })
  -- no variable has the name of a function
  pub unbound : (f : Symbol) → IsSymbol d.tables f → first_named (symbol_text n f) (map bound_row scope) ≡ None
  -- a declared function is the first of its name with its argument sorts, built-in ones included
  pub own_sorts : (k : ℕ) → k < length d.tables.functions
      → find_exact (argument_sorts d.tables (function k)) (signatures_named d (n.function k)) ≡ Some (signature d.tables (function k))
  -- no declared function has the name and the argument sorts of a built-in one over any sort
  pub free : (f : Symbol) → IsSymbol d.tables f → is_over_any f ≡ true → find_exact (argument_sorts d.tables f) (declared_signatures d (symbol_text n f)) ≡ None
  -- a name that is declared once isn't built in
  pub once : (k : ℕ) → n.once k ≡ true → (signatures_named d (n.function k) ≡ signature d.tables (function k) ∷ []) × (scheme_named (n.function k) ≡ None) × (first_named (n.function k) (map bound_row scope) ≡ None)

abbrev pub NamesThatFitRead : Type 0
NamesThatFitRead = (d : Vocabulary) (vs : List Sort) (scope : Scope) (n : Names) → FitNames d vs scope n → ReadsNames d.tables vs (numbers scope) n (meaning d scope)
