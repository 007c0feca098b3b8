-- The premises on names can be met: one function `f` from Nat, and one variable `x` of sort Pos.
use Rattle.std.proofs.Common.{◌≡◌, ◌<◌, ℕ, zero, suc, true, nat_eq, List, [], ◌∷◌, length, codes, refl, ap, sym, arith, eqb-true}
use Rattle.std.specs.Prelude.{Some, None, map}
use Rattle.std.specs.List.{Contains}
use Rattle.data_theory.specs.Table as table
use Rattle.data_theory.specs.Terms.{Sort, boolean, positive, natural, integer, list, named as declared_sort, less, at_most, greater, at_least, add, subtract, multiply, divide, modulo, power, minimum, maximum, absolute, successor, predecessor, to_positive, to_natural, Symbol, truth, falsity, negation, conjunction, disjunction, implication, equality, inequality, conditional, comparison, arithmetic, minus, upcast, empty, cons, snoc, concatenation, size, element_at, head, rhead, tail, rtail, membership, function, variable, application, none, more}
use Rattle.data_theory.specs.Declarations.{Data, mapping, IsSymbol, IsUpcast, pos2nat, nat2int, pos2int, Declares, argument_sorts}
use Rattle.sort_table.specs.NamedLists.{first_named}
use Rattle.sort_table.specs.Vocabularies.{Vocabulary}
use Rattle.data_typing.specs.Meanings.{Scope, bound_row, signatures_named}
use Rattle.lps_printer.specs.WrittenTerms.{Names}
use Rattle.lps_printer.specs.ReadableNames.{signature, find_exact, symbol_text}
use Rattle.lps_printer.specs.FittingNames.{FitNames, numbers, is_over_any, declared_signatures}
use Rattle.lps_printer.specs.TermTexts.{ReadsAs, term_text}
use Rattle.lps_printer.proofs.TermTexts.{term_texts_read_back}

abbrev g : Data
g = record { sorts = []; functions = record { arguments = natural ∷ []; result = boolean; role = mapping } ∷ [] }

abbrev d : Vocabulary
d = record { tables = g; sort_names = []; function_names = (codes "f", 0) ∷ []; actions = [] }

abbrev vs : List Sort
vs = positive ∷ []

abbrev scope : Scope
scope = record { name = codes "x"; number = 0; sort = positive } ∷ []

abbrev n : Names
n = record { variable = λ v. codes "x"; function = λ k. codes "f"; once = λ k. nat_eq k 0 }

variables : (v : ℕ) (s : Sort) → Contains (numbers scope) v → Declares vs v s → first_named (codes "x") (map bound_row scope) ≡ Some (record { name = codes "x"; number = v; sort = s })
variables zero s q h = ap (λ (r : Sort). Some (record { name = codes "x"; number = 0; sort = r })) h
variables (suc v) s q h = absurd h

unbound_upcast : {a b : Sort} → IsUpcast a b → first_named (symbol_text n (upcast a b)) (map bound_row scope) ≡ None
unbound_upcast pos2nat = refl
unbound_upcast nat2int = refl
unbound_upcast pos2int = refl

unbound : (f : Symbol) → IsSymbol g f → first_named (symbol_text n f) (map bound_row scope) ≡ None
unbound truth h = refl
unbound falsity h = refl
unbound negation h = refl
unbound conjunction h = refl
unbound disjunction h = refl
unbound implication h = refl
unbound (equality a) h = refl
unbound (inequality a) h = refl
unbound (conditional a) h = refl
unbound (minus a) h = refl
unbound (upcast a b) h = unbound_upcast h
unbound (empty a) h = refl
unbound (cons a) h = refl
unbound (snoc a) h = refl
unbound (concatenation a) h = refl
unbound (size a) h = refl
unbound (element_at a) h = refl
unbound (head a) h = refl
unbound (rhead a) h = refl
unbound (tail a) h = refl
unbound (rtail a) h = refl
unbound (membership a) h = refl
unbound (function k) h = refl
unbound (comparison less a) h = refl
unbound (comparison at_most a) h = refl
unbound (comparison greater a) h = refl
unbound (comparison at_least a) h = refl
unbound (arithmetic add ss to) h = refl
unbound (arithmetic subtract ss to) h = refl
unbound (arithmetic multiply ss to) h = refl
unbound (arithmetic divide ss to) h = refl
unbound (arithmetic modulo ss to) h = refl
unbound (arithmetic power ss to) h = refl
unbound (arithmetic minimum ss to) h = refl
unbound (arithmetic maximum ss to) h = refl
unbound (arithmetic absolute ss to) h = refl
unbound (arithmetic successor ss to) h = refl
unbound (arithmetic predecessor ss to) h = refl
unbound (arithmetic to_natural ss to) h = refl
unbound (arithmetic to_positive [] to) h = refl
unbound (arithmetic to_positive (boolean ∷ ss) to) h = refl
unbound (arithmetic to_positive (positive ∷ ss) to) h = refl
unbound (arithmetic to_positive (natural ∷ ss) to) h = refl
unbound (arithmetic to_positive (integer ∷ ss) to) h = refl
unbound (arithmetic to_positive ((list r) ∷ ss) to) h = refl
unbound (arithmetic to_positive ((declared_sort e) ∷ ss) to) h = refl

own_sorts : (k : ℕ) → k < length g.functions → find_exact (argument_sorts g (function k)) (signatures_named d (codes "f")) ≡ Some (signature g (function k))
unfolding table.language_table table.truth_rows table.sort_rows table.comparison_rows table.sum_rows table.first_rows table.quotient_rows table.extreme_rows table.step_rows table.list_rows
own_sorts zero h = refl
own_sorts (suc k) h = absurd (omega (arith, h))

free : (f : Symbol) → IsSymbol g f → is_over_any f ≡ true → find_exact (argument_sorts g f) (declared_signatures d (symbol_text n f)) ≡ None
free truth h o = absurd cc
free falsity h o = absurd cc
free negation h o = absurd cc
free conjunction h o = absurd cc
free disjunction h o = absurd cc
free implication h o = absurd cc
free (equality a) h o = refl
free (inequality a) h o = refl
free (conditional a) h o = refl
free (minus a) h o = absurd cc
free (upcast a b) h o = absurd cc
free (empty a) h o = absurd cc
free (cons a) h o = refl
free (snoc a) h o = refl
free (concatenation a) h o = refl
free (size a) h o = refl
free (element_at a) h o = refl
free (head a) h o = refl
free (rhead a) h o = refl
free (tail a) h o = refl
free (rtail a) h o = refl
free (membership a) h o = refl
free (function k) h o = absurd cc
free (comparison c a) h o = absurd cc
free (arithmetic op ss to) h o = absurd cc

fit : FitNames d vs scope n
unfolding table.language_table table.truth_rows table.sort_rows table.comparison_rows table.sum_rows table.first_rows table.quotient_rows table.extreme_rows table.step_rows table.list_rows
fit = record {
  variables = variables;
  unbound = unbound;
  own_sorts = own_sorts;
  free = free;
  once = λ k h. let e : k ≡ 0 = eqb-true k 0 h in (ap (λ (j : ℕ). signature g (function j) ∷ []) (sym e), refl, refl);
}

-- `f(x)` reads back with its upcast
example : ReadsAs d scope (term_text n (application (function 0) (more (application (upcast positive natural) (more (variable 0) none)) none))) (application (function 0) (more (application (upcast positive natural) (more (variable 0) none)) none)) boolean
example = term_texts_read_back d vs scope n fit (record { variable = λ v i. (refl, refl); function = λ k. (refl, refl) }) _ boolean
    (omega arith, ((pos2nat, (refl, tt), refl, refl), tt), refl, refl) ((tt, λ e. refl, tt), λ e. refl, tt) (((0, omega arith, refl), tt), tt) refl
