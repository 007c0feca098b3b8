-- Terms under new numbers.
use Rattle.std.proofs.Common.{◌≡◌, ℕ, ◌<◌, List, [], ◌∷◌, Bool, true, false, cond, refl, suc, sym, ap, ap₂, ◌∙◌, subst, map, length}
use Rattle.std.specs.Prelude.{ℤ, pos}
use lib.Signed.{lt_z}
use lib.IntN.{neg_ℤ}
use Rattle.data_theory.specs.Terms.{Sort, boolean, positive, natural, integer, list, named, Symbol, truth, falsity, negation, conjunction, disjunction, implication, equality, inequality, conditional, comparison, arithmetic, minus, upcast, empty, cons, snoc, concatenation, size, element_at, head, rhead, tail, rtail, membership, function, Term, Terms, variable, numeral, unknown, application, none, more, apply}
use Rattle.data_theory.specs.Declarations.{Role, constructor, projection, recogniser, mapping, DeclaredFunction, Data, function_at, sort_at}
use Rattle.data_theory.specs.Environments.{terms_of, list_of}
use Rattle.lin_driver.specs.Renumberings.{Renumbering, back, new_sort, new_symbol, new_term, new_terms, new_role, new_function, TakesData}

-- ---- back again
pub sort_back : (r : Renumbering) (s : Sort) → new_sort (back r) (new_sort r s) ≡ s
sort_back r boolean = refl
sort_back r positive = refl
sort_back r natural = refl
sort_back r integer = refl
sort_back r (list s) = ap list (sort_back r s)
sort_back r (named d) = ap named (r.sorts_back d)

pub sorts_back : (r : Renumbering) (ss : List Sort) → map (new_sort (back r)) (map (new_sort r) ss) ≡ ss
sorts_back r [] = refl
sorts_back r (s ∷ ss) = ap₂ (λ (x : Sort) (xs : List Sort). x ∷ xs) (sort_back r s) (sorts_back r ss)

symbol_back : (r : Renumbering) (f : Symbol) → new_symbol (back r) (new_symbol r f) ≡ f
symbol_back r truth = refl
symbol_back r falsity = refl
symbol_back r negation = refl
symbol_back r conjunction = refl
symbol_back r disjunction = refl
symbol_back r implication = refl
symbol_back r (equality s) = ap equality (sort_back r s)
symbol_back r (inequality s) = ap inequality (sort_back r s)
symbol_back r (conditional s) = ap conditional (sort_back r s)
symbol_back r (comparison c s) = ap (comparison c) (sort_back r s)
symbol_back r (arithmetic op ss to) = ap₂ (arithmetic op) (sorts_back r ss) (sort_back r to)
symbol_back r (minus s) = ap minus (sort_back r s)
symbol_back r (upcast s to) = ap₂ upcast (sort_back r s) (sort_back r to)
symbol_back r (empty s) = ap empty (sort_back r s)
symbol_back r (cons s) = ap cons (sort_back r s)
symbol_back r (snoc s) = ap snoc (sort_back r s)
symbol_back r (concatenation s) = ap concatenation (sort_back r s)
symbol_back r (size s) = ap size (sort_back r s)
symbol_back r (element_at s) = ap element_at (sort_back r s)
symbol_back r (head s) = ap head (sort_back r s)
symbol_back r (rhead s) = ap rhead (sort_back r s)
symbol_back r (tail s) = ap tail (sort_back r s)
symbol_back r (rtail s) = ap rtail (sort_back r s)
symbol_back r (membership s) = ap membership (sort_back r s)
symbol_back r (function k) = ap function (r.functions_back k)

mutual
  pub term_back : (r : Renumbering) (t : Term) → new_term (back r) (new_term r t) ≡ t
  term_back r (variable v) = refl
  term_back r (numeral s z) = ap (λ (x : Sort). numeral x z) (sort_back r s)
  term_back r (unknown d k) = ap (λ (x : ℕ). unknown x k) (r.sorts_back d)
  term_back r (application f ts) = ap₂ application (symbol_back r f) (terms_back r ts)

  terms_back : (r : Renumbering) (ts : Terms) → new_terms (back r) (new_terms r ts) ≡ ts
  terms_back r none = refl
  terms_back r (more t ts) = ap₂ more (term_back r t) (terms_back r ts)

pub list_back : (r : Renumbering) (ts : List Term) → map (new_term (back r)) (map (new_term r) ts) ≡ ts
list_back r [] = refl
list_back r (t ∷ ts) = ap₂ (λ (x : Term) (xs : List Term). x ∷ xs) (term_back r t) (list_back r ts)

-- ---- the application that merges
new_minus : (r : Renumbering) (s : Sort) (z : ℤ) (b : Bool) → new_term r (cond b (numeral integer (neg_ℤ z)) (application (minus s) (more (numeral s z) none))) ≡ cond b (numeral integer (neg_ℤ z)) (application (minus (new_sort r s)) (more (numeral (new_sort r s) z) none))
new_minus r s z true = refl
new_minus r s z false = refl

pub new_apply : (r : Renumbering) (f : Symbol) (ts : Terms) → new_term r (apply f ts) ≡ apply (new_symbol r f) (new_terms r ts)
new_apply r (upcast positive natural) (more (numeral positive z) none) = refl
new_apply r (upcast natural integer) (more (numeral natural z) none) = refl
new_apply r (upcast positive integer) (more (numeral positive z) none) = refl
new_apply r (minus positive) (more (numeral positive z) none) = new_minus r positive z (lt_z (pos 0) z)
new_apply r (minus natural) (more (numeral natural z) none) = new_minus r natural z (lt_z (pos 0) z)
new_apply r (minus integer) (more (numeral integer z) none) = new_minus r integer z (lt_z (pos 0) z)
new_apply r f ts = refl

-- ---- lists
pub new_list : (r : Renumbering) (ts : List Term) → new_terms r (terms_of ts) ≡ terms_of (map (new_term r) ts)
new_list r [] = refl
new_list r (t ∷ ts) = ap (more (new_term r t)) (new_list r ts)

pub new_list_of : (r : Renumbering) (ts : Terms) → map (new_term r) (list_of ts) ≡ list_of (new_terms r ts)
new_list_of r none = refl
new_list_of r (more t ts) = ap (λ (us : List Term). new_term r t ∷ us) (new_list_of r ts)

pub new_long : {A B : Type 0} (f : A → B) (xs : List A) → length (map f xs) ≡ length xs
new_long f [] = refl
new_long f (x ∷ xs) = ap suc (new_long f xs)

-- ---- functions
role_back : (r : Renumbering) (o : Role) → new_role (back r) (new_role r o) ≡ o
role_back r constructor = refl
role_back r (projection c i) = ap (λ (k : ℕ). projection k i) (r.functions_back c)
role_back r (recogniser c) = ap recogniser (r.functions_back c)
role_back r mapping = refl

function_back : (r : Renumbering) (f : DeclaredFunction) → new_function (back r) (new_function r f) ≡ f
function_back r f = λ i. record { arguments = sorts_back r f.arguments i; result = sort_back r f.result i; role = role_back r f.role i }

-- ---- the way back
pub data_back : (r : Renumbering) (g h : Data) → TakesData r g h → TakesData (back r) h g
data_back r g h takes = record {
  sorts = λ d. sym (takes.sorts (r.old_sorts d)) ∙ ap (sort_at h) (r.sorts_there d);
  all_sorts = λ d. (λ l. (takes.all_sorts (r.old_sorts d)).1 (subst (λ (n : ℕ). n < length h.sorts) (sym (r.sorts_there d)) l), λ l. subst (λ (n : ℕ). n < length h.sorts) (r.sorts_there d) ((takes.all_sorts (r.old_sorts d)).0 l));
  functions = λ k. sym (function_back r (function_at g (r.old_functions k))) ∙ ap (new_function (back r)) (sym (takes.functions (r.old_functions k)) ∙ ap (function_at h) (r.functions_there k));
  all_functions = λ k. (λ l. (takes.all_functions (r.old_functions k)).1 (subst (λ (n : ℕ). n < length h.functions) (sym (r.functions_there k)) l), λ l. subst (λ (n : ℕ). n < length h.functions) (r.functions_there k) ((takes.all_functions (r.old_functions k)).0 l));
}
