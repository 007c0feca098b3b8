-- Numbers within the tables, and the sorts of terms.
use Rattle.std.proofs.Common.{◌≡◌, ◌≢◌, ℕ, zero, suc, ◌<◌, List, [], ◌∷◌, length, get_or, sym, subst, arith}
use Rattle.std.specs.Prelude.{ℤ}
use Rattle.data_theory.specs.Terms.{Sort, boolean, positive, natural, integer, list, named, Operation, Symbol, truth, falsity, negation, conjunction, disjunction, implication, equality, inequality, conditional, comparison, arithmetic, minus, upcast, empty, cons, snoc, concatenation, size, element_at, head, rhead, tail, rtail, membership, function, Term, variable, numeral, unknown, application}
use Rattle.data_theory.specs.Declarations.{Data, DeclaredFunction, Construction, by_declarations, structured, Role, mapping, function_at, sort_at, IsSort, IsUpcast, pos2nat, nat2int, pos2int, IsOperation, add_pos_pos, add_pos_nat, add_nat_pos, add_nat_nat, add_int_int, subtract_pos, subtract_nat, subtract_int, multiply_pos, multiply_nat, multiply_int, div_nat, div_int, mod_nat, mod_int, exp_pos, exp_nat, exp_int, min_pos, min_nat, min_int, max_pos, max_nat, max_int, abs_int, succ_pos, succ_nat, succ_int, pred_pos, pred_nat, pred_int, nat2pos, int2nat, int2pos, result_sort, IsSymbol, HasNumeral, HasSort, IsData}

-- past its end the table of functions has mappings, and the table of sorts has no structured sort
role_within : (fs : List DeclaredFunction) (k : ℕ) (r : Role) → (get_or fs k (record { arguments = []; result = boolean; role = mapping })).role ≡ r → r ≢ mapping → k < length fs
role_within [] k r e n = absurd (n (sym e))
role_within (f ∷ fs) zero r e n = omega arith
role_within (f ∷ fs) (suc k) r e n = omega (arith, role_within fs k r e n)

structured_within : (ks : List Construction) (d : ℕ) → get_or ks d by_declarations ≡ structured → d < length ks
structured_within [] d e = cc
structured_within (k ∷ ks) zero e = omega arith
structured_within (k ∷ ks) (suc d) e = omega (arith, structured_within ks d e)

pub function_within : (g : Data) (k : ℕ) (r : Role) → (function_at g k).role ≡ r → r ≢ mapping → k < length g.functions
function_within g k r e n = role_within g.functions k r e n

pub sort_within : (g : Data) (d : ℕ) → sort_at g d ≡ structured → d < length g.sorts
sort_within g d e = structured_within g.sorts d e

operation_sort : (g : Data) (op : Operation) (ss : List Sort) (to : Sort) → IsOperation op ss to → IsSort g to
operation_sort g op ss to add_pos_pos = tt
operation_sort g op ss to add_pos_nat = tt
operation_sort g op ss to add_nat_pos = tt
operation_sort g op ss to add_nat_nat = tt
operation_sort g op ss to add_int_int = tt
operation_sort g op ss to subtract_pos = tt
operation_sort g op ss to subtract_nat = tt
operation_sort g op ss to subtract_int = tt
operation_sort g op ss to multiply_pos = tt
operation_sort g op ss to multiply_nat = tt
operation_sort g op ss to multiply_int = tt
operation_sort g op ss to div_nat = tt
operation_sort g op ss to div_int = tt
operation_sort g op ss to mod_nat = tt
operation_sort g op ss to mod_int = tt
operation_sort g op ss to exp_pos = tt
operation_sort g op ss to exp_nat = tt
operation_sort g op ss to exp_int = tt
operation_sort g op ss to min_pos = tt
operation_sort g op ss to min_nat = tt
operation_sort g op ss to min_int = tt
operation_sort g op ss to max_pos = tt
operation_sort g op ss to max_nat = tt
operation_sort g op ss to max_int = tt
operation_sort g op ss to abs_int = tt
operation_sort g op ss to succ_pos = tt
operation_sort g op ss to succ_nat = tt
operation_sort g op ss to succ_int = tt
operation_sort g op ss to pred_pos = tt
operation_sort g op ss to pred_nat = tt
operation_sort g op ss to pred_int = tt
operation_sort g op ss to nat2pos = tt
operation_sort g op ss to int2nat = tt
operation_sort g op ss to int2pos = tt

upcast_sort : (g : Data) (s to : Sort) → IsUpcast s to → IsSort g to
upcast_sort g s to pos2nat = tt
upcast_sort g s to nat2int = tt
upcast_sort g s to pos2int = tt

pub numeral_sort : (g : Data) (s : Sort) (z : ℤ) → HasNumeral s z → IsSort g s
numeral_sort g positive z h = tt
numeral_sort g natural z h = tt
numeral_sort g integer z h = tt
numeral_sort g boolean z h = absurd h.0
numeral_sort g (list s) z h = absurd h.0
numeral_sort g (named d) z h = absurd h.0

module _ (g : Data) (ok : IsData g) where
  pub symbol_sort : (f : Symbol) → IsSymbol g f → IsSort g (result_sort g f)
  symbol_sort truth k = tt
  symbol_sort falsity k = tt
  symbol_sort negation k = tt
  symbol_sort conjunction k = tt
  symbol_sort disjunction k = tt
  symbol_sort implication k = tt
  symbol_sort (equality s) k = tt
  symbol_sort (inequality s) k = tt
  symbol_sort (conditional s) k = k
  symbol_sort (comparison c s) k = tt
  symbol_sort (arithmetic op ss to) k = operation_sort g op ss to k
  symbol_sort (minus s) k = tt
  symbol_sort (upcast s to) k = upcast_sort g s to k
  symbol_sort (empty s) k = k
  symbol_sort (cons s) k = k
  symbol_sort (snoc s) k = k
  symbol_sort (concatenation s) k = k
  symbol_sort (size s) k = tt
  symbol_sort (element_at s) k = k
  symbol_sort (head s) k = k
  symbol_sort (rhead s) k = k
  symbol_sort (tail s) k = k
  symbol_sort (rtail s) k = k
  symbol_sort (membership s) k = tt
  symbol_sort (function j) k = ok.results j k

  -- the sort of a closed term is a sort of the data
  pub sort_of_term : (t : Term) (s : Sort) → HasSort g [] t s → IsSort g s
  sort_of_term (variable v) s h = absurd h
  sort_of_term (numeral a z) s h = numeral_sort g s z h.1
  sort_of_term (unknown d i) s h = rw h.0 h.1
  sort_of_term (application f ts) s h = subst (IsSort g) h.2 (symbol_sort f h.0)
