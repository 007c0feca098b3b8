-- The layout of some terms, computed.
use Rattle.std.proofs.Common.{◌≡◌, ℕ, List, [], ◌∷◌, cond, nat_eq, codes, decimal, arith, refl, Some}
use Rattle.std.specs.Prelude.{pos, negsuc}
use Rattle.std.proofs.lemmas.Fmt.{decimal_digit}
use Rattle.data_theory.specs.Terms.{positive, natural, integer, subtract, Symbol, negation, conjunction, disjunction, equality, arithmetic, minus, upcast, empty, cons, concatenation, element_at, function, Term, variable, numeral, application, none, more}
use Rattle.lps_printer.specs.Pieces.{bytes_of}
use Rattle.lps_printer.specs.DataLayout.{print}
use Rattle.lps_printer.specs.WrittenTerms.{Names, written}
use Rattle.sort_table.specs.BareSorts.{naturals, lists_of, a_name}
use Rattle.lps_printer.specs.PrintedProcesses.{act, goes}
use Rattle.lps_printer.specs.SummandLayout.{print_summand}
use Rattle.lps_printer.specs.PrintedExpressions as exp_

abbrev n : Names
n = record { variable = λ v. cond (nat_eq v 0) (codes "q") (codes "x"); function = λ k. cond (nat_eq k 0) (codes "is_push") (cond (nat_eq k 1) (codes "pc") (codes "rest")); once = λ k. nat_eq k 2 }

abbrev one : Symbol → Term → Term
one f t = application f (more t none)

abbrev two : Symbol → Term → Term → Term
two f t u = application f (more t (more u none))

abbrev shown : Term → List ℕ
shown t = bytes_of (print (written n t).opened [] []) []

d0 : decimal 0 ≡ 48 ∷ []
d0 = decimal_digit 0 (omega arith)

d1 : decimal 1 ≡ 49 ∷ []
d1 = decimal_digit 1 (omega arith)

d2 : decimal 2 ≡ 50 ∷ []
d2 = decimal_digit 2 (omega arith)

d3 : decimal 3 ≡ 51 ∷ []
d3 = decimal_digit 3 (omega arith)

d5 : decimal 5 ≡ 53 ∷ []
d5 = decimal_digit 5 (omega arith)

stack_condition : shown (two conjunction (one (function 0) (variable 0)) (two conjunction (two (equality positive) (one (function 1) (variable 0)) (numeral positive (pos 1))) (one negation (one (function 0) (one (function 2) (variable 0))))))
    ≡ codes "is_push(q) && (pc(q) == 1) && !is_push(rest(q))"
stack_condition = simp d1

mixed_chains : shown (two conjunction (two conjunction (variable 0) (variable 1)) (two disjunction (variable 0) (two disjunction (variable 1) (variable 0)))) ≡ codes "(q && x) && (q || x || q)"
mixed_chains = refl

negatives : shown (two (arithmetic subtract (integer ∷ integer ∷ []) integer) (numeral integer (negsuc 4)) (one (minus integer) (numeral integer (negsuc 0)))) ≡ codes "(-5) - (-(-1))"
negatives = simp (d5, d1)

lists : shown (two (concatenation natural) (two (cons natural) (numeral natural (pos 1)) (two (cons natural) (variable 0) (application (empty natural) none))) (two (cons natural) (numeral natural (pos 0)) (variable 1))) ≡ codes "[Pos2Nat(1), q] ++ (0 |> x)"
lists = simp (d1, d0)

at_place : shown (two (element_at natural) (variable 0) (numeral natural (pos 3))) ≡ codes "q . Pos2Nat(3)"
at_place = simp d3

once_declared : shown (one (function 2) (one (upcast positive integer) (variable 1))) ≡ codes "rest(x)"
once_declared = refl

summand : bytes_of (print_summand (record {
  sums = record { name = codes "d"; sort = lists_of naturals } ∷ record { name = codes "e"; sort = a_name (codes "D") } ∷ [];
  condition = Some (exp_.named (codes "b"));
  first = act (codes "a") (exp_.more (exp_.numeral 1) exp_.none);
  others = act (codes "c") exp_.none ∷ [];
  next = goes (codes "P") (record { name = codes "s"; value = exp_.numeral 2 } ∷ []);
}) [] []) [] ≡ codes "sum d: List(Nat), e: D . (b) -> a(1)|c . P(s = 2)"
summand = simp (d1, d2)
