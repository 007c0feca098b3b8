-- Names that fit lead to their functions.
use Rattle.std.proofs.Common.{◌≡◌, true, false, List, [], ◌∷◌, inl, inr, refl, ap, ◌∙◌}
use Rattle.std.specs.Prelude.{Option, Some, None, map}
use Rattle.data_theory.specs.Table as table
use Rattle.data_theory.specs.Terms.{Sort, positive, natural, integer, Comparison, less, at_most, greater, at_least, Operation, add, subtract, multiply, divide, modulo, power, minimum, maximum, absolute, successor, predecessor, to_positive, to_natural, Symbol, truth, falsity, negation, conjunction, disjunction, implication, equality, inequality, conditional, comparison, arithmetic, minus, upcast, empty, cons, snoc, concatenation, size, element_at, head, rhead, tail, rtail, membership, function}
use Rattle.data_theory.specs.Declarations.{argument_sorts, IsSymbol, IsUpcast, pos2nat, nat2int, pos2int, IsNumberSort, positives, naturals, integers, IsOperation, add_pos_pos, add_pos_nat, add_nat_pos, add_nat_nat, add_int_int, subtract_pos, subtract_nat, subtract_int, multiply_pos, multiply_nat, multiply_int, div_nat, div_int, mod_nat, mod_int, exp_pos, exp_nat, exp_int, min_pos, min_nat, min_int, max_pos, max_nat, max_int, abs_int, succ_pos, succ_nat, succ_int, pred_pos, pred_nat, pred_int, nat2pos, int2nat, int2pos}
use Rattle.sort_table.specs.Expressions.{Name}
use Rattle.sort_table.specs.NamedLists.{first_named}
use Rattle.sort_table.specs.Vocabularies.{Vocabulary}
use Rattle.data_typing.specs.BuiltIns.{scheme_named}
use Rattle.data_typing.specs.Meanings.{Scope, bound_row, signatures_named, meaning, meaning_or}
use Rattle.data_typing.specs.Typings.{Signature, Scheme, scheme_at, functions}
use Rattle.lps_printer.specs.WrittenTerms.{Names}
use Rattle.lps_printer.specs.ReadableNames.{signature, find_exact, IsAt, symbol_text, Means, by_signature, by_scheme, is_empty}
use Rattle.lps_printer.specs.FittingNames.{FitNames, NamesThatFitRead, declared_signatures, is_over_any}

-- the functions of a name that no variable has
named_so : (d : Vocabulary) (scope : Scope) (f : Name) → first_named f (map bound_row scope) ≡ None → meaning d scope f ≡ functions (signatures_named d f) (scheme_named f)
named_so d scope f h = ap (meaning_or (functions (signatures_named d f) (scheme_named f))) h

fixed : {d : Vocabulary} {vs : List Sort} {scope : Scope} {n : Names} (ok : FitNames d vs scope n) (f : Symbol) → IsSymbol d.tables f → find_exact (argument_sorts d.tables f) (signatures_named d (symbol_text n f)) ≡ Some (signature d.tables f)
    → Means d.tables n (meaning d scope) f
fixed {d = d} {scope = scope} {n = n} ok f is found = by_signature (named_so d scope (symbol_text n f) (ok.unbound f is)) found

any : {d : Vocabulary} {vs : List Sort} {scope : Scope} {n : Names} (ok : FitNames d vs scope n) (f : Symbol) (c : Scheme) (s : Sort) → IsSymbol d.tables f → is_over_any f ≡ true → scheme_named (symbol_text n f) ≡ Some c
    → signatures_named d (symbol_text n f) ≡ declared_signatures d (symbol_text n f) → IsAt c s → scheme_at c s ≡ signature d.tables f → Means d.tables n (meaning d scope) f
any {d = d} {scope = scope} {n = n} ok f c s is over_ found only at same =
    by_scheme (named_so d scope (symbol_text n f) (ok.unbound f is) ∙ ap (λ (o : Option Scheme). functions (signatures_named d (symbol_text n f)) o) found)
    (ap (find_exact (argument_sorts d.tables f)) only ∙ ok.free f is over_) at same

by_operation : {d : Vocabulary} {vs : List Sort} {scope : Scope} {n : Names} (ok : FitNames d vs scope n) {op : Operation} {ss : List Sort} {to : Sort} → IsOperation op ss to → Means d.tables n (meaning d scope) (arithmetic op ss to)
unfolding table.language_table table.truth_rows table.sort_rows table.comparison_rows table.sum_rows table.first_rows table.quotient_rows table.extreme_rows table.step_rows table.list_rows
by_operation ok add_pos_pos = fixed ok (arithmetic add (positive ∷ positive ∷ []) positive) add_pos_pos refl
by_operation ok add_pos_nat = fixed ok (arithmetic add (positive ∷ natural ∷ []) positive) add_pos_nat refl
by_operation ok add_nat_pos = fixed ok (arithmetic add (natural ∷ positive ∷ []) positive) add_nat_pos refl
by_operation ok add_nat_nat = fixed ok (arithmetic add (natural ∷ natural ∷ []) natural) add_nat_nat refl
by_operation ok add_int_int = fixed ok (arithmetic add (integer ∷ integer ∷ []) integer) add_int_int refl
by_operation ok subtract_pos = fixed ok (arithmetic subtract (positive ∷ positive ∷ []) integer) subtract_pos refl
by_operation ok subtract_nat = fixed ok (arithmetic subtract (natural ∷ natural ∷ []) integer) subtract_nat refl
by_operation ok subtract_int = fixed ok (arithmetic subtract (integer ∷ integer ∷ []) integer) subtract_int refl
by_operation ok multiply_pos = fixed ok (arithmetic multiply (positive ∷ positive ∷ []) positive) multiply_pos refl
by_operation ok multiply_nat = fixed ok (arithmetic multiply (natural ∷ natural ∷ []) natural) multiply_nat refl
by_operation ok multiply_int = fixed ok (arithmetic multiply (integer ∷ integer ∷ []) integer) multiply_int refl
by_operation ok div_nat = fixed ok (arithmetic divide (natural ∷ positive ∷ []) natural) div_nat refl
by_operation ok div_int = fixed ok (arithmetic divide (integer ∷ positive ∷ []) integer) div_int refl
by_operation ok mod_nat = fixed ok (arithmetic modulo (natural ∷ positive ∷ []) natural) mod_nat refl
by_operation ok mod_int = fixed ok (arithmetic modulo (integer ∷ positive ∷ []) natural) mod_int refl
by_operation ok exp_pos = fixed ok (arithmetic power (positive ∷ natural ∷ []) positive) exp_pos refl
by_operation ok exp_nat = fixed ok (arithmetic power (natural ∷ natural ∷ []) natural) exp_nat refl
by_operation ok exp_int = fixed ok (arithmetic power (integer ∷ natural ∷ []) integer) exp_int refl
by_operation ok min_pos = fixed ok (arithmetic minimum (positive ∷ positive ∷ []) positive) min_pos refl
by_operation ok min_nat = fixed ok (arithmetic minimum (natural ∷ natural ∷ []) natural) min_nat refl
by_operation ok min_int = fixed ok (arithmetic minimum (integer ∷ integer ∷ []) integer) min_int refl
by_operation ok max_pos = fixed ok (arithmetic maximum (positive ∷ positive ∷ []) positive) max_pos refl
by_operation ok max_nat = fixed ok (arithmetic maximum (natural ∷ natural ∷ []) natural) max_nat refl
by_operation ok max_int = fixed ok (arithmetic maximum (integer ∷ integer ∷ []) integer) max_int refl
by_operation ok abs_int = fixed ok (arithmetic absolute (integer ∷ []) natural) abs_int refl
by_operation ok succ_pos = fixed ok (arithmetic successor (positive ∷ []) positive) succ_pos refl
by_operation ok succ_nat = fixed ok (arithmetic successor (natural ∷ []) positive) succ_nat refl
by_operation ok succ_int = fixed ok (arithmetic successor (integer ∷ []) integer) succ_int refl
by_operation ok pred_pos = fixed ok (arithmetic predecessor (positive ∷ []) natural) pred_pos refl
by_operation ok pred_nat = fixed ok (arithmetic predecessor (natural ∷ []) integer) pred_nat refl
by_operation ok pred_int = fixed ok (arithmetic predecessor (integer ∷ []) integer) pred_int refl
by_operation ok nat2pos = fixed ok (arithmetic to_positive (natural ∷ []) positive) nat2pos refl
by_operation ok int2nat = fixed ok (arithmetic to_natural (integer ∷ []) natural) int2nat refl
by_operation ok int2pos = fixed ok (arithmetic to_positive (integer ∷ []) positive) int2pos refl

by_comparison : {d : Vocabulary} {vs : List Sort} {scope : Scope} {n : Names} (ok : FitNames d vs scope n) (c : Comparison) {s : Sort} → IsNumberSort s → Means d.tables n (meaning d scope) (comparison c s)
unfolding table.language_table table.truth_rows table.sort_rows table.comparison_rows table.sum_rows table.first_rows table.quotient_rows table.extreme_rows table.step_rows table.list_rows
by_comparison ok less positives = fixed ok (comparison less positive) positives refl
by_comparison ok less naturals = fixed ok (comparison less natural) naturals refl
by_comparison ok less integers = fixed ok (comparison less integer) integers refl
by_comparison ok at_most positives = fixed ok (comparison at_most positive) positives refl
by_comparison ok at_most naturals = fixed ok (comparison at_most natural) naturals refl
by_comparison ok at_most integers = fixed ok (comparison at_most integer) integers refl
by_comparison ok greater positives = fixed ok (comparison greater positive) positives refl
by_comparison ok greater naturals = fixed ok (comparison greater natural) naturals refl
by_comparison ok greater integers = fixed ok (comparison greater integer) integers refl
by_comparison ok at_least positives = fixed ok (comparison at_least positive) positives refl
by_comparison ok at_least naturals = fixed ok (comparison at_least natural) naturals refl
by_comparison ok at_least integers = fixed ok (comparison at_least integer) integers refl

by_minus : {d : Vocabulary} {vs : List Sort} {scope : Scope} {n : Names} (ok : FitNames d vs scope n) {s : Sort} → IsNumberSort s → Means d.tables n (meaning d scope) (minus s)
unfolding table.language_table table.truth_rows table.sort_rows table.comparison_rows table.sum_rows table.first_rows table.quotient_rows table.extreme_rows table.step_rows table.list_rows
by_minus ok positives = fixed ok (minus positive) positives refl
by_minus ok naturals = fixed ok (minus natural) naturals refl
by_minus ok integers = fixed ok (minus integer) integers refl

by_upcast : {d : Vocabulary} {vs : List Sort} {scope : Scope} {n : Names} (ok : FitNames d vs scope n) {s to : Sort} → IsUpcast s to → Means d.tables n (meaning d scope) (upcast s to)
unfolding table.language_table table.truth_rows table.sort_rows table.comparison_rows table.sum_rows table.first_rows table.quotient_rows table.extreme_rows table.step_rows table.list_rows
by_upcast ok pos2nat = fixed ok (upcast positive natural) pos2nat refl
by_upcast ok nat2int = fixed ok (upcast natural integer) nat2int refl
by_upcast ok pos2int = fixed ok (upcast positive integer) pos2int refl

means : {d : Vocabulary} {vs : List Sort} {scope : Scope} {n : Names} (ok : FitNames d vs scope n) (f : Symbol) → IsSymbol d.tables f → is_empty f ≡ false → Means d.tables n (meaning d scope) f
unfolding table.language_table table.truth_rows table.sort_rows table.comparison_rows table.sum_rows table.first_rows table.quotient_rows table.extreme_rows table.step_rows table.list_rows
means ok truth is h = fixed ok truth is refl
means ok falsity is h = fixed ok falsity is refl
means ok negation is h = fixed ok negation is refl
means ok conjunction is h = fixed ok conjunction is refl
means ok disjunction is h = fixed ok disjunction is refl
means ok implication is h = fixed ok implication is refl
means ok (equality s) is h = any ok (equality s) _ s is refl refl refl (record { others = _; first = refl; by = inr refl }) refl
means ok (inequality s) is h = any ok (inequality s) _ s is refl refl refl (record { others = _; first = refl; by = inr refl }) refl
means ok (conditional s) is h = any ok (conditional s) _ s is refl refl refl (record { others = _; first = refl; by = inl (refl, refl) }) refl
means ok (cons s) is h = any ok (cons s) _ s is refl refl refl (record { others = _; first = refl; by = inl (refl, refl) }) refl
means ok (snoc s) is h = any ok (snoc s) _ s is refl refl refl (record { others = _; first = refl; by = inl (refl, refl) }) refl
means ok (concatenation s) is h = any ok (concatenation s) _ s is refl refl refl (record { others = _; first = refl; by = inl (refl, refl) }) refl
means ok (size s) is h = any ok (size s) _ s is refl refl refl (record { others = _; first = refl; by = inr refl }) refl
means ok (element_at s) is h = any ok (element_at s) _ s is refl refl refl (record { others = _; first = refl; by = inr refl }) refl
means ok (head s) is h = any ok (head s) _ s is refl refl refl (record { others = _; first = refl; by = inr refl }) refl
means ok (rhead s) is h = any ok (rhead s) _ s is refl refl refl (record { others = _; first = refl; by = inr refl }) refl
means ok (tail s) is h = any ok (tail s) _ s is refl refl refl (record { others = _; first = refl; by = inl (refl, refl) }) refl
means ok (rtail s) is h = any ok (rtail s) _ s is refl refl refl (record { others = _; first = refl; by = inl (refl, refl) }) refl
means ok (membership s) is h = any ok (membership s) _ s is refl refl refl (record { others = _; first = refl; by = inr refl }) refl
means ok (comparison c s) is h = by_comparison ok c is
means ok (arithmetic op ss to) is h = by_operation ok is
means ok (minus s) is h = by_minus ok is
means ok (upcast s to) is h = by_upcast ok is
means ok (empty s) is h = absurd cc
means ok (function k) is h = fixed ok (function k) is (ok.own_sorts k is)

pub names_that_fit_read : NamesThatFitRead
names_that_fit_read d vs scope n ok = record {
  variables = λ v s q h. ap (meaning_or (functions (signatures_named d (n.variable v)) (scheme_named (n.variable v)))) (ok.variables v s q h);
  symbols = λ f is h. means ok f is h;
  once = λ k h. let p = ok.once k h in
      named_so d scope (n.function k) p.2 ∙ ap (λ (fs : List Signature). functions fs (scheme_named (n.function k))) p.0 ∙ ap (λ (o : Option Scheme). functions (signature d.tables (function k) ∷ []) o) p.1;
}
