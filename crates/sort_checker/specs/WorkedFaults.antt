-- Worked texts that are ill typed, and some that aren't.
use Rattle.std.specs.Prelude.{◌≡◌, List, [], ◌∷◌, Option, Some, None, codes}
use Rattle.mcrl2_syntax.specs.declared.declaration.SectionWord.TheVariants as words
use Rattle.data_theory.specs.Terms.{boolean, natural}
use Rattle.data_theory.specs.Declarations.{mapping}
use Rattle.sort_table.specs.Expressions.{Name, Expression, numeral, listed, word, one}
use Rattle.sort_table.specs.Expressions as expressions
use Rattle.sort_table.specs.BareSorts.{truth_values, naturals}
use Rattle.sort_table.specs.BareProcesses.{Variables, Process, acts, act, call, hide, rename, comm, sum, when, delta}
use Rattle.sort_table.specs.BareDeclarations.{Section, constructors, variables, equation, initial}
use Rattle.sort_checker.specs.FullVocabularies.{FullVocabulary}
use Rattle.sort_checker.specs.Refusals.{TypeFault, unknown_in, untyped, free_in, variable_left, comm_shape, rename_twice, type_fault}

-- map f: Nat -> Nat; act a: Nat; a: Bool; c: Nat; proc P(n: Nat, q: Bool) = ..
abbrev pub small : FullVocabulary
small = record {
  declared = record {
    tables = record { sorts = []; functions = record { arguments = natural ∷ []; result = natural; role = mapping } ∷ [] };
    sort_names = [];
    function_names = (codes "f", 0) ∷ [];
    actions = (codes "a", natural ∷ []) ∷ (codes "a", boolean ∷ []) ∷ (codes "c", natural ∷ []) ∷ [];
  };
  processes = (codes "P", (codes "n", natural) ∷ (codes "q", boolean) ∷ []) ∷ [];
}

-- ---- texts: an `eqn` section with its variables, and `init`
abbrev pub starts : Process → List Section
starts p = record { word = words.Init; declarations = initial p ∷ [] } ∷ []

abbrev pub with_equation : Variables → Expression → Expression → Process → List Section
with_equation xs l r p = record { word = words.Var; declarations = variables xs ∷ [] } ∷ record { word = words.Eqn; declarations = equation None l r ∷ [] } ∷ starts p

abbrev pub name : Name → Expression
name x = word x expressions.none

abbrev pub does : Name → Expression → Process
does x e = acts (act x (e ∷ []) ∷ [])

abbrev pub n_is : Expression → Name × Expression
n_is e = (codes "n", e)

abbrev pub x_and_y : Variables
x_and_y = (codes "x", naturals) ∷ (codes "y", naturals) ∷ []

abbrev pub x : Expression
x = name (codes "x")

abbrev pub y : Expression
y = name (codes "y")

abbrev pub f_of : Expression → Expression
f_of e = one (codes "f") e

-- ---- what they are refused with
abbrev pub Has : List Section → Option TypeFault → Type 0
Has ss fault = type_fault small ss ≡ fault

pub record TheseHaveFaults : Type 0 where
  -- a(z), d(1), and hide({a, P}, delta); but sum z: Nat . a(z) is well typed
  pub unknown_in_data : Has (starts (does (codes "a") (name (codes "z")))) (Some (unknown_in 1 (codes "z")))
  pub unknown_action : Has (starts (does (codes "d") (numeral 1))) (Some (unknown_in 1 (codes "d")))
  pub no_action : Has (starts (hide (codes "a" ∷ codes "P" ∷ []) delta)) (Some (unknown_in 1 (codes "P")))
  pub bound : Has (starts (sum ((codes "z", naturals) ∷ []) (does (codes "a") (name (codes "z"))))) None
  -- a([]), and 1 as a condition
  pub no_sort : Has (starts (does (codes "a") (listed expressions.none))) (Some (untyped 1))
  pub no_truth : Has (starts (when (numeral 1) delta)) (Some (untyped 1))
  -- P(1), a(1)|P(1), a(), P(z = 1, ..) and P(n = 1, n = 2, ..); but P(1, true) and a(1)|P(1, true) are well typed
  pub argument_missing : Has (starts (does (codes "P") (numeral 1))) (Some (untyped 1))
  pub argument_missing_at_once : Has (starts (acts (act (codes "a") (numeral 1 ∷ []) ∷ act (codes "P") (numeral 1 ∷ []) ∷ []))) (Some (untyped 1))
  pub action_called : Has (starts (call (codes "a") [])) (Some (untyped 1))
  pub no_parameter : Has (starts (call (codes "P") ((codes "z", numeral 1) ∷ []))) (Some (untyped 1))
  pub assigned_again : Has (starts (call (codes "P") (n_is (numeral 1) ∷ n_is (numeral 2) ∷ []))) (Some (untyped 1))
  pub called : Has (starts (acts (act (codes "P") (numeral 1 ∷ name (codes "true") ∷ []) ∷ []))) None
  pub called_at_once : Has (starts (acts (act (codes "a") (numeral 1 ∷ []) ∷ act (codes "P") (numeral 1 ∷ name (codes "true") ∷ []) ∷ []))) None
  -- c isn't declared with a Bool, as a is
  pub new_name_lacks_sorts : Has (starts (rename ((codes "a", codes "c") ∷ []) delta)) (Some (untyped 1))
  -- cons k: Nat
  pub no_constructor : Has (record { word = words.Cons; declarations = constructors (codes "k" ∷ []) [] naturals ∷ [] } ∷ starts delta) (Some (untyped 1))
  -- P(n = 1) leaves out q, also where q is a Nat, but not where it is a Bool
  pub left_out : Has (starts (call (codes "P") (n_is (numeral 1) ∷ []))) (Some (free_in 1 (codes "q")))
  pub of_another_sort : Has (starts (sum ((codes "q", naturals) ∷ []) (call (codes "P") (n_is (numeral 1) ∷ [])))) (Some (free_in 1 (codes "q")))
  pub taken_from_the_scope : Has (starts (sum ((codes "q", truth_values) ∷ []) (call (codes "P") (n_is (numeral 1) ∷ [])))) None
  -- f(x) = y, x = y and f(x) = x
  pub right_side_is_free : Has (with_equation x_and_y (f_of x) y delta) (Some (free_in 2 (codes "y")))
  pub left_side_is_variable : Has (with_equation x_and_y x x delta) (Some (variable_left 2))
  pub sound_equation : Has (with_equation x_and_y (f_of x) x delta) None
  -- a variable of a `var` section isn't in scope in `init`
  pub scope_has_ended : Has (with_equation x_and_y (f_of x) x (does (codes "a") x)) (Some (unknown_in 3 (codes "x")))
  -- comm({a|a -> c}, delta), where c lacks a Bool; a name in two left sides; comm({a|c -> c}, delta)
  pub result_lacks_sorts : Has (starts (comm ((codes "a" ∷ codes "a" ∷ [], codes "c") ∷ []) delta)) (Some (comm_shape 1))
  pub not_apart : Has (starts (comm ((codes "a" ∷ codes "c" ∷ [], codes "c") ∷ (codes "c" ∷ codes "c" ∷ [], codes "a") ∷ []) delta)) (Some (comm_shape 1))
  pub sound_comm : Has (starts (comm ((codes "a" ∷ codes "c" ∷ [], codes "c") ∷ []) delta)) None
  -- rename({c -> a, a -> a, a -> a, c -> c}, delta)
  pub renamed_again : Has (starts (rename ((codes "c", codes "a") ∷ (codes "a", codes "a") ∷ (codes "a", codes "a") ∷ (codes "c", codes "c") ∷ []) delta)) (Some (rename_twice 1 (codes "c")))
  -- of two faults the one of the smaller number, also in a later declaration
  pub smaller_number : Has (with_equation x_and_y x y (does (codes "a") (name (codes "z")))) (Some (unknown_in 3 (codes "z")))
  pub smaller_of_one : Has (with_equation x_and_y x y delta) (Some (free_in 2 (codes "y")))
