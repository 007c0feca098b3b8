-- The equations of constants for empty lists elaborate.
use Rattle.std.proofs.Common.{◌≡◌, ◌<◌, Bool, true, false, cond, ℕ, [], length, refl, sym, ap, ◌∙◌, subst, Option, Some}
use Rattle.std.specs.Prelude.{option_map, option_and_then}
use Rattle.std.specs.Option.{option_or}
use Rattle.data_theory.specs.Terms as terms
use Rattle.data_theory.specs.Terms.{Sort, list, function, Term, Terms, application}
use Rattle.data_theory.specs.Declarations.{Data, function_at, HasSort, HaveSorts}
use Rattle.data_theory.proofs.EnvironmentLemmas.{contains_nothing}
use Rattle.data_typing.specs.Meanings.{meaning, typing_in}
use Rattle.data_typing.specs.Typings.{Inferred, typing}
use Rattle.sort_table.specs.Expressions as typed
use Rattle.sort_table.specs.Expressions.{Name, word, listed, none}
use Rattle.sort_checker.specs.Scopes.{binds_none}
use Rattle.lps_printer.specs.EmptyEquations.{EmptyEquationsElaborate}
use Rattle.lps_printer.specs.PlainExpressions.{plain}
use Rattle.lps_printer.specs.PrintedExpressions as printed_
use Rattle.lps_printer.specs.WrittenTerms.{call}
use Rattle.lps_printer.proofs.ReadBack.{terms_read_back}

abbrev constant : ℕ → Term
constant k = application (function k) terms.none

plain_constant : (x : Name) (b : Bool) → plain (call x (cond b printed_.none printed_.none)) ≡ word x none
plain_constant x true = refl
plain_constant x false = refl

constant_has_sort : (g : Data) (k : ℕ) (s : Sort) → k < length g.functions → (function_at g k).arguments ≡ [] → (function_at g k).result ≡ s → HasSort g [] (constant k) s
constant_has_sort g k s low takes gives = (low, subst (HaveSorts g [] terms.none) (sym takes) tt, gives, refl)

pub empty_equations_elaborate : EmptyEquationsElaborate
empty_equations_elaborate v n reads k s low takes gives =
    let read = terms_read_back v.declared.tables [] [] n (meaning v.declared []) reads (constant k) (list s) (constant_has_sort v.declared.tables k (list s) low takes gives) tt tt in
    let infers : (typing_in v.declared [] (word (n.function k) none)).infers ≡ Some (record { term = constant k; sort = list s }) =
    ap (λ (e : typed.Expression). (typing (meaning v.declared []) e).infers) (sym (plain_constant (n.function k) (n.once k))) ∙ read.0 refl in
    let by_right : Option Inferred =
    option_and_then (λ (i : Inferred). option_map (λ (t : Term). record { term = t; sort = i.sort }) ((typing_in v.declared [] (word (n.function k) none)).checks i.sort)) (typing_in v.declared [] (listed none)).infers in
    record {
      scope = [];
      bounds = [];
      binds = binds_none;
      sorts = tt;
      sort = list s;
      left = ap (λ (o : Option Inferred). option_or o by_right) infers;
      right = refl;
      condition = refl;
      no_variable = λ m e. cc;
      no_other = λ m c. absurd (contains_nothing m c);
    }
