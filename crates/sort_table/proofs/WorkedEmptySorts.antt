-- A struct whose one constructor takes the struct itself has no value.
use Rattle.std.proofs.Common.{◌≡◌, ◌<◌, ℕ, zero, suc, [], ◌∷◌, refl, subst, arith}
use Rattle.std.specs.Prelude.{Some, codes}
use Rattle.std.specs.List.{Contains}
use Rattle.data_theory.specs.Terms.{named, list, boolean, truth, falsity, empty, cons, function, negation, conjunction, disjunction, implication, equality, inequality, conditional, comparison, arithmetic, minus, upcast, snoc, concatenation, size, element_at, head, rhead, tail, rtail, membership, Term, Terms, variable, numeral, unknown, application, none, more}
use Rattle.data_theory.specs.Declarations as theory
use Rattle.data_theory.specs.Declarations.{IsConstructed, HasSort, result_sort, HaveSorts, AreConstructed}
use Rattle.sort_table.specs.Expressions.{Name}
use Rattle.sort_table.specs.BareSorts.{a_name}
use Rattle.sort_table.specs.BareDeclarations.{declarations_in}
use Rattle.sort_table.specs.SortMeanings.{a_struct, UnderNames, under_names, StandsFor, for_struct}
use Rattle.sort_table.specs.TextFunctions.{functions_in}
use Rattle.sort_table.specs.Vocabularies.{Vocabulary, IsConstruction, by_struct, declared_as_struct, IsOwn, IsSortNamed, IsFunction, of_struct, IsVocabularyOf}
use Rattle.sort_table.specs.EmptySorts.{IsFirstEmptySort}
use Rattle.sort_table.specs.WorkedRefusals.{empty_text}
use Rattle.sort_table.proofs.ListForms.{have_one_place, each_named, has_sorts}

abbrev name : Name
name = codes "A"

abbrev u : UnderNames
u = under_names (declarations_in empty_text)

abbrev v : Vocabulary
v = record {
  tables = record { sorts = theory.structured ∷ []; functions = record { arguments = named 0 ∷ []; result = named 0; role = theory.constructor } ∷ [] };
  sort_names = (name, named 0) ∷ [];
  function_names = (codes "c", 0) ∷ [];
  actions = [];
}

-- ---- it is a vocabulary of the text
stands : StandsFor u (a_name name) (a_name name)
stands = for_struct name refl

is_struct : IsConstruction u name theory.structured
is_struct = by_struct refl

is_named : IsSortNamed u v name 0
is_named = (refl, omega arith, is_struct)

by_number : ℕ → Name
by_number d = name

told : (d : ℕ) → Some (named 0) ≡ Some (named d) → name ≡ name
told d h = refl

sorts_used : (d : ℕ) → d < 1 → (n : Name) × IsOwn u n × IsSortNamed u v n d
sorts_used zero h = (name, declared_as_struct refl, is_named)
sorts_used (suc d) h = let never : ⊥ = omega (arith, h) in absurd never

functions_used : (k : ℕ) → k < 1 → (f : Name) × Contains v.function_names (f, k)
functions_used zero h = (codes "c", (0, omega arith, refl))
functions_used (suc k) h = let never : ⊥ = omega (arith, h) in absurd never

is_vocabulary : IsVocabularyOf u v
unfolding by_number
is_vocabulary = record {
  sorts = has_sorts (declarations_in empty_text) v by_number (((0, is_named), told), tt) (refl, tt) ((a_name name, stands), tt) sorts_used;
  functions = record {
    each = each_named (IsFunction u v) (functions_in (declarations_in empty_text)) v.function_names (refl, record { within = omega arith; arguments = refl; result = refl; role = of_struct }, tt);
    no_more = functions_used;
    once = have_one_place (λ i. i) (0 ∷ []) (refl, tt);
  };
  actions = λ a. tt;
}

-- ---- no constructed term has the sort
mutual
  no_value : (t : Term) → IsConstructed v.tables t → ¬ (HasSort v.tables [] t (named 0))
  no_value (variable i) c h = h
  no_value (numeral s z) c h = h.1.0
  no_value (unknown d k) c h = let same : named 0 ≡ named d = h.0 in let number : d ≡ 0 = cc in let kind : theory.structured ≡ theory.without_constructors = subst (λ i. theory.sort_at v.tables i ≡ theory.without_constructors) number h.2 in cc
  no_value (application truth ts) c h = let same : boolean ≡ named 0 = h.2 in cc
  no_value (application falsity ts) c h = let same : boolean ≡ named 0 = h.2 in cc
  no_value (application (empty s) ts) c h = let same : list s ≡ named 0 = h.2 in cc
  no_value (application (cons s) ts) c h = let same : list s ≡ named 0 = h.2 in cc
  no_value (application (function zero) ts) c h = no_values ts c.1 h.1
  no_value (application (function (suc k)) ts) c h = let l : suc k < 1 = h.0 in let no_way : ⊥ = omega (arith, l) in absurd no_way
  no_value (application negation ts) c h = c
  no_value (application conjunction ts) c h = c
  no_value (application disjunction ts) c h = c
  no_value (application implication ts) c h = c
  no_value (application (equality s) ts) c h = c
  no_value (application (inequality s) ts) c h = c
  no_value (application (conditional s) ts) c h = c
  no_value (application (comparison o s) ts) c h = c
  no_value (application (arithmetic o ss s) ts) c h = c
  no_value (application (minus s) ts) c h = c
  no_value (application (upcast s r) ts) c h = c
  no_value (application (snoc s) ts) c h = c
  no_value (application (concatenation s) ts) c h = c
  no_value (application (size s) ts) c h = c
  no_value (application (element_at s) ts) c h = c
  no_value (application (head s) ts) c h = c
  no_value (application (rhead s) ts) c h = c
  no_value (application (tail s) ts) c h = c
  no_value (application (rtail s) ts) c h = c
  no_value (application (membership s) ts) c h = c

  no_values : (ts : Terms) → AreConstructed v.tables ts → ¬ (HaveSorts v.tables [] ts (named 0 ∷ []))
  no_values none c h = h
  no_values (more t ts) c h = no_value t c.0 h.0

pub first_empty_sort : IsFirstEmptySort (declarations_in empty_text) name
first_empty_sort = record {
  front = [];
  kind = a_struct;
  behind = [];
  names = refl;
  empty = record { vocabulary = v; number = 0; declared = is_vocabulary; own = declared_as_struct refl; named_so = refl; within = omega arith; empty = ((λ h. cc), no_value) };
  earlier = tt;
}
