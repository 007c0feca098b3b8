-- The free variables of an equation are found among its identifiers.
use Rattle.std.proofs.Common.{◌≡◌, Bool, true, false, not, ◌&&◌, ◌++◌, refl, sym, ap, ap₂, ◌∙◌}
use Rattle.std.specs.Prelude.{Option, Some, None}
use Rattle.std.specs.Option.{option_or}
use Rattle.std.specs.List.{find}
use Rattle.std.proofs.lemmas.List.Folds.{find-append}
use Rattle.mcrl2_syntax.specs.DataTrees.{PlainData}
use Rattle.sort_table.specs.Expressions.{Name}
use Rattle.sort_table.specs.BareData.{bare_data}
use Rattle.sort_table.specs.BareDeclarations.{bare_condition}
use Rattle.sort_table.specs.BareProcesses.{Variables}
use Rattle.sort_table.specs.Identifiers.{in_data, in_condition}
use Rattle.sort_checker.specs.declared.name_numbers.NameNumbers.{NameNumbers}
use Rattle.sort_checker.specs.NameNumbers.{has_name}
use Rattle.sort_checker.specs.Operators.{stands_in}
use Rattle.sort_checker.specs.Faults as faults
use Rattle.sort_checker.specs.Faults.{words_in, words_of_option, names_of_variables}
use Rattle.sort_checker.specs.FreeTrees.{is_free, first_free, AreVariableNames, HasNamesOf}
use Rattle.sort_checker.proofs.DataWords.{identifier_passes}
use Rattle.sort_checker.proofs.UnknownParts.{find_same}
use Rattle.sort_checker.proofs.VariableNames.{stands_as_name, only_variables, stands_in_data}

module _ (xs : Variables) (names : AreVariableNames xs) (variables left : NameNumbers) (has : HasNamesOf xs variables) (l : PlainData) (its : (n : Name) → has_name left n ≡ stands_in n (in_data l)) where
  abbrev free : Name → Bool
  free x = stands_in x (names_of_variables xs) && not (stands_in x (words_in (bare_data l)))

  same_test : (x : Name) → free x ≡ is_free variables left x
  same_test x = by_test (stands_in x (names_of_variables xs)) refl ∙ ap₂ (λ (a b : Bool). a && not b) (sym (has x)) (sym (its x))
    where
      by_test : (b : Bool) → stands_in x (names_of_variables xs) ≡ b → (b && not (stands_in x (words_in (bare_data l)))) ≡ (b && not (stands_in x (in_data l)))
      by_test false e = refl
      by_test true e = ap not (stands_in_data x (stands_as_name xs names x e) l)

  in_one : (d : PlainData) → find free (words_in (bare_data d)) ≡ first_free variables left (in_data d)
  in_one d = identifier_passes free (only_variables xs names (λ x. not (stands_in x (words_in (bare_data l))))) d ∙ find_same free (is_free variables left) same_test (in_data d)

  in_a_condition : (c : Option PlainData) → find free (words_of_option (bare_condition c)) ≡ first_free variables left (in_condition c)
  in_a_condition None = refl
  in_a_condition (Some d) = in_one d

  -- in an equation with this left side
  pub equation_is_free : (c : Option PlainData) (r : PlainData) → option_or (first_free variables left (in_condition c)) (first_free variables left (in_data r)) ≡ faults.first_free xs (words_in (bare_data l)) (words_of_option (bare_condition c) ++ words_in (bare_data r))
  equation_is_free c r = sym (find-append free (words_of_option (bare_condition c)) (words_in (bare_data r)) ∙ ap₂ option_or (in_a_condition c) (in_one r))
