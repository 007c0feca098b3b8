-- Looking up names: parameters that are assigned or left out, and variables in scope.
use Rattle.std.proofs.Common.{◌≡◌, ◌≢◌, ℕ, Bool, true, false, cond, nat_eq, ◌&&◌, List, [], ◌∷◌, ◌⊎◌, inl, inr, ⊎_elim, if◌then◌else◌, map, refl, sym, ap, ap₂, ◌∙◌, subst, eqb-true, eq-eqb}
use Rattle.std.specs.Prelude.{◌||◌, Option, Some, None, is_none, option_and_then, Contains, bytes_eq}
use Rattle.data_theory.specs.Terms.{Sort, Term, Terms, variable, unknown, application}
use Rattle.data_theory.specs.Terms as terms
use Rattle.data_theory.specs.Environments.{IsOver, AreOver}
use Rattle.data_theory.proofs.EnvironmentLemmas.{contains_first, contains_later, contains_cases, contains_nothing}
use Rattle.process_terms.specs.Processes as processes
use Rattle.bisim_laws.specs.LinearProcesses.{variables}
use Rattle.sort_table.specs.Expressions.{Name, Expression}
use Rattle.data_typing.specs.Typings.{sort_eq, Signature, Scheme, bound, functions}
use Rattle.data_typing.specs.Meanings.{Bound, Scope, bound_row, meaning, meaning_or}
use Rattle.sort_table.specs.NamedLists.{first_named}
use Rattle.data_typing.proofs.SortTests.{sort_told_itself}
use Rattle.lps_printer.specs.PlainExpressions.{plain}
use Rattle.lps_printer.specs.WrittenTerms.{written}
use Rattle.lps_printer.proofs.Exact.{and_true}
use Rattle.sort_checker.specs.FullVocabularies.{FullVocabulary}
use Rattle.std.specs.List.{AllByRecursion, list_all}
use Rattle.lps_printer.specs.LinearBack.{EachTwo}
use Rattle.sort_checker.specs.PartTypings.{variable_at, left_out, are_assignments}
use Rattle.sort_checker.specs.Operators.{stands_in, first_again}
use Rattle.sort_checker.specs.Scopes.{numbers_of}
use Rattle.lps_printer.specs.WrittenProcesses.{TextNames, is_own, assignments_written, plain_assignment, bound_named, scope_behind}
use Rattle.lps_printer.specs.LinearBack.{parameters_of}

-- ---- texts
same_bytes : (x y : List ℕ) → bytes_eq x y ≡ true → x ≡ y
same_bytes [] [] e = refl
same_bytes [] (b ∷ y) e = absurd cc
same_bytes (a ∷ x) [] e = absurd cc
same_bytes (a ∷ x) (b ∷ y) e = let p = and_true (nat_eq a b) (bytes_eq x y) e in ap₂ (λ (c : ℕ) (z : List ℕ). c ∷ z) (eqb-true a b p.0) (same_bytes x y p.1)

itself : (x : List ℕ) → bytes_eq x x ≡ true
itself [] = refl
itself (a ∷ x) = ap (λ (b : Bool). b && bytes_eq x x) (eq-eqb a a refl) ∙ itself x

other_bytes : (x y : List ℕ) → x ≢ y → bytes_eq x y ≡ false
other_bytes x y h = by_test (bytes_eq x y) refl
  where
    by_test : (b : Bool) → bytes_eq x y ≡ b → b ≡ false
    by_test true e = absurd (h (same_bytes x y e))
    by_test false e = refl

-- ---- assignments
abbrev Apart : TextNames → processes.Bound → List processes.Bound → Type 0
Apart n x xs = AllByRecursion (λ (y : processes.Bound). n.terms.variable x.var ≢ n.terms.variable y.var) xs

abbrev pub AreApart : TextNames → List processes.Bound → Type 0
AreApart n xs = EachTwo (λ (x y : processes.Bound). n.terms.variable x.var ≢ n.terms.variable y.var) xs

abbrev pub assigned : TextNames → List processes.Bound → List Term → List (Name × Expression)
assigned n xs ts = map plain_assignment (assignments_written n xs ts)

abbrev pub value_of : TextNames → processes.Bound → Term → Option Expression
value_of n x t = cond (is_own x t) None (Some (plain (written n.terms t).placed))

abbrev pub LooksUp : TextNames → List (Name × Expression) → List processes.Bound → List Term → Type 0
LooksUp n ds (x ∷ xs) (t ∷ ts) = (first_named (n.terms.variable x.var) ds ≡ value_of n x t) × LooksUp n ds xs ts
LooksUp n ds _ _ = Unit {0}

skipped : (x y : Name) (e : Expression) (ds : List (Name × Expression)) (o : Option Expression) → y ≢ x → first_named x ds ≡ o → first_named x ((y, e) ∷ ds) ≡ o
skipped x y e ds o h k = ap (λ (b : Bool). cond b (Some e) (first_named x ds)) (other_bytes y x h) ∙ k

abbrev with_test : TextNames → processes.Bound → List processes.Bound → Term → List Term → Bool → List (Name × Expression)
with_test n x xs t ts b = map plain_assignment (cond b (assignments_written n xs ts) (record { name = n.terms.variable x.var; value = (written n.terms t).placed } ∷ assignments_written n xs ts))

not_in_test : (n : TextNames) (x y : processes.Bound) (ys : List processes.Bound) (t : Term) (ts : List Term) (b : Bool) → n.terms.variable y.var ≢ n.terms.variable x.var → first_named (n.terms.variable x.var) (assigned n ys ts) ≡ None
    → first_named (n.terms.variable x.var) (with_test n y ys t ts b) ≡ None
not_in_test n x y ys t ts true h k = k
not_in_test n x y ys t ts false h k = skipped (n.terms.variable x.var) (n.terms.variable y.var) (plain (written n.terms t).placed) (assigned n ys ts) None h k

not_there : (n : TextNames) (x : processes.Bound) (ys : List processes.Bound) (ts : List Term) → Apart n x ys → first_named (n.terms.variable x.var) (assigned n ys ts) ≡ None
not_there n x [] ts h = refl
not_there n x (y ∷ ys) [] h = refl
not_there n x (y ∷ ys) (t ∷ ts) h = not_in_test n x y ys t ts (is_own y t) (λ e. h.0 (sym e)) (not_there n x ys ts h.1)

in_front : (n : TextNames) (x : processes.Bound) (e : Expression) (ds : List (Name × Expression)) (ys : List processes.Bound) (ts : List Term) → Apart n x ys → LooksUp n ds ys ts → LooksUp n ((n.terms.variable x.var, e) ∷ ds) ys ts
in_front n x e ds [] ts h k = tt
in_front n x e ds (y ∷ ys) [] h k = tt
in_front n x e ds (y ∷ ys) (t ∷ ts) h k = (skipped (n.terms.variable y.var) (n.terms.variable x.var) e ds (value_of n y t) h.0 k.0, in_front n x e ds ys ts h.1 k.1)

own_found : (n : TextNames) (x : processes.Bound) (xs : List processes.Bound) (t : Term) (ts : List Term) (b : Bool) → Apart n x xs → first_named (n.terms.variable x.var) (with_test n x xs t ts b) ≡ cond b None (Some (plain (written n.terms t).placed))
own_found n x xs t ts true h = not_there n x xs ts h
own_found n x xs t ts false h = ap (λ (b : Bool). cond b (Some (plain (written n.terms t).placed)) (first_named (n.terms.variable x.var) (assigned n xs ts))) (itself (n.terms.variable x.var))

others_found : (n : TextNames) (x : processes.Bound) (xs : List processes.Bound) (t : Term) (ts : List Term) (b : Bool) → Apart n x xs → LooksUp n (assigned n xs ts) xs ts → LooksUp n (with_test n x xs t ts b) xs ts
others_found n x xs t ts true h k = k
others_found n x xs t ts false h k = in_front n x (plain (written n.terms t).placed) (assigned n xs ts) xs ts h k

pub looks_up : (n : TextNames) (xs : List processes.Bound) (ts : List Term) → AreApart n xs → LooksUp n (assigned n xs ts) xs ts
looks_up n [] ts h = tt
looks_up n (x ∷ xs) [] h = tt
looks_up n (x ∷ xs) (t ∷ ts) h = (own_found n x xs t ts (is_own x t) h.0, others_found n x xs t ts (is_own x t) h.0 (looks_up n xs ts h.1))

-- ---- which assignments there are
names_in : List (Name × Expression) → List Name
names_in ds = map (λ (d : Name × Expression). d.0) ds

parameter_names : TextNames → List processes.Bound → List Name
parameter_names n xs = map (λ (p : Name × Sort). p.0) (parameters_of n xs)

with_rest : (P : Name × Expression → Type 0) (n : TextNames) (x : processes.Bound) (xs : List processes.Bound) (t : Term) (ts : List Term) (b : Bool) → P (n.terms.variable x.var, plain (written n.terms t).placed) → AllByRecursion P (assigned n xs ts) → AllByRecursion P (with_test n x xs t ts b)
with_rest P n x xs t ts true h k = k
with_rest P n x xs t ts false h k = (h, k)

each_map : {A : Type 0} (P Q : A → Type 0) → ((x : A) → P x → Q x) → (xs : List A) → AllByRecursion P xs → AllByRecursion Q xs
each_map P Q f [] h = tt
each_map P Q f (x ∷ xs) h = (f x h.0, each_map P Q f xs h.1)

abbrev Stands : List Name → Name × Expression → Type 0
Stands ys d = stands_in d.0 ys ≡ true

stands_first : (x : Name) (ys : List Name) → stands_in x (x ∷ ys) ≡ true
stands_first x ys = ap (λ (b : Bool). b || stands_in x ys) (itself x)

stands_later : (x y : Name) (ys : List Name) → stands_in x ys ≡ true → stands_in x (y ∷ ys) ≡ true
stands_later x y ys h = ap (λ (b : Bool). bytes_eq y x || b) h ∙ or_true (bytes_eq y x)
  where
    or_true : (b : Bool) → (b || true) ≡ true
    or_true true = refl
    or_true false = refl

known : (n : TextNames) (xs : List processes.Bound) (ts : List Term) → AllByRecursion (Stands (parameter_names n xs)) (assigned n xs ts)
unfolding parameter_names
known n [] ts = tt
known n (x ∷ xs) [] = tt
known n (x ∷ xs) (t ∷ ts) =
    with_rest (Stands (parameter_names n (x ∷ xs))) n x xs t ts (is_own x t) (stands_first (n.terms.variable x.var) (parameter_names n xs))
    (each_map (Stands (parameter_names n xs)) (Stands (parameter_names n (x ∷ xs))) (λ d h. stands_later d.0 (n.terms.variable x.var) (parameter_names n xs) h) (assigned n xs ts) (known n xs ts))

all_pass : (ys : List Name) (ds : List (Name × Expression)) → AllByRecursion (Stands ys) ds → list_all (λ (x : Name). stands_in x ys) (names_in ds) ≡ true
unfolding names_in
all_pass ys [] h = refl
all_pass ys (d ∷ ds) h = ap (λ (b : Bool). b && list_all (λ (x : Name). stands_in x ys) (names_in ds)) h.0 ∙ all_pass ys ds h.1

abbrev IsOther : Name → Name × Expression → Type 0
IsOther x d = x ≢ d.0

none_same : (n : TextNames) (x : processes.Bound) (ys : List processes.Bound) (ts : List Term) → Apart n x ys → AllByRecursion (IsOther (n.terms.variable x.var)) (assigned n ys ts)
none_same n x [] ts h = tt
none_same n x (y ∷ ys) [] h = tt
none_same n x (y ∷ ys) (t ∷ ts) h = with_rest (IsOther (n.terms.variable x.var)) n y ys t ts (is_own y t) h.0 (none_same n x ys ts h.1)

stands_nowhere : (x : Name) (ds : List (Name × Expression)) → AllByRecursion (IsOther x) ds → stands_in x (names_in ds) ≡ false
unfolding names_in
stands_nowhere x [] h = refl
stands_nowhere x (d ∷ ds) h = ap (λ (b : Bool). b || stands_in x (names_in ds)) (other_bytes d.0 x (λ e. h.0 (sym e))) ∙ stands_nowhere x ds h.1

again_in_test : (n : TextNames) (x : processes.Bound) (xs : List processes.Bound) (t : Term) (ts : List Term) (b : Bool) → AllByRecursion (IsOther (n.terms.variable x.var)) (assigned n xs ts) → first_again (names_in (assigned n xs ts)) ≡ None
    → first_again (names_in (with_test n x xs t ts b)) ≡ None
unfolding names_in
again_in_test n x xs t ts true h k = k
again_in_test n x xs t ts false h k = ap (λ (b : Bool). cond b (Some (n.terms.variable x.var)) (first_again (names_in (assigned n xs ts)))) (stands_nowhere (n.terms.variable x.var) (assigned n xs ts) h) ∙ k

never_again : (n : TextNames) (xs : List processes.Bound) (ts : List Term) → AreApart n xs → first_again (names_in (assigned n xs ts)) ≡ None
unfolding names_in
never_again n [] ts h = refl
never_again n (x ∷ xs) [] h = refl
never_again n (x ∷ xs) (t ∷ ts) h = again_in_test n x xs t ts (is_own x t) (none_same n x xs ts h.0) (never_again n xs ts h.1)

pub are_assigned : (n : TextNames) (xs : List processes.Bound) (ts : List Term) → AreApart n xs → are_assignments (parameters_of n xs) (assigned n xs ts) ≡ true
unfolding names_in parameter_names
are_assigned n xs ts h =
    ap₂ (λ (a : Bool) (o : Option Name). a && is_none o) (all_pass (parameter_names n xs) (assigned n xs ts) (known n xs ts)) (never_again n xs ts h)

-- ---- variables in scope
pub own_is : (x : processes.Bound) (t : Term) → is_own x t ≡ true → variable x.var ≡ t
own_is x (variable v) e = ap variable (sym (eqb-true v x.var e))
own_is x (terms.numeral s z) e = absurd cc
own_is x (unknown d k) e = absurd cc
own_is x (application f ts) e = absurd cc

read_at : (fs : List Signature) (c : Option Scheme) (o : Option Bound) (k : ℕ) (s : Sort) → meaning_or (functions fs c) o ≡ bound k s → option_and_then (variable_at s) o ≡ Some (variable k)
read_at fs c None k s e = absurd cc
read_at fs c (Some b) k s e =
    let number : b.number ≡ k = cc in
    let sort : b.sort ≡ s = cc in
    ap₂ (λ (r : Sort) (m : ℕ). if sort_eq r s then Some (variable m) else None) sort number ∙ ap (λ (q : Bool). if q then Some (variable k) else None) (sort_told_itself s)

-- a name that means a variable is left out as it
pub left_is : (v : FullVocabulary) (scope : Scope) (x : Name) (k : ℕ) (s : Sort) → meaning v.declared scope x ≡ bound k s → left_out scope (x, s) ≡ Some (variable k)
left_is v scope x k s e = read_at _ _ (first_named x (map bound_row scope)) k s e

pub in_scope : (n : TextNames) (xs : List processes.Bound) (scope : Scope) (v : ℕ) → Contains (variables xs) v ⊎ Contains (numbers_of scope) v → Contains (numbers_of (scope_behind n scope xs)) v
in_scope n [] scope v (inl h) = absurd (contains_nothing v h)
in_scope n [] scope v (inr h) = h
in_scope n (x ∷ xs) scope v (inl h) =
    in_scope n xs (bound_named n x ∷ scope) v (⊎_elim (λ e. inr (subst (λ (k : ℕ). Contains (x.var ∷ numbers_of scope) k) e (contains_first x.var (numbers_of scope)))) (λ k. inl k) (contains_cases x.var v (variables xs) h))
in_scope n (x ∷ xs) scope v (inr h) = in_scope n xs (bound_named n x ∷ scope) v (inr (contains_later x.var v (numbers_of scope) h))

mutual
  pub over_more : (xs ys : List ℕ) → ((v : ℕ) → Contains xs v → Contains ys v) → (t : Term) → IsOver xs t → IsOver ys t
  over_more xs ys f (variable v) h = f v h
  over_more xs ys f (terms.numeral s z) h = tt
  over_more xs ys f (unknown d k) h = tt
  over_more xs ys f (application g ts) h = all_over_more xs ys f ts h

  pub all_over_more : (xs ys : List ℕ) → ((v : ℕ) → Contains xs v → Contains ys v) → (ts : Terms) → AreOver xs ts → AreOver ys ts
  all_over_more xs ys f terms.none h = tt
  all_over_more xs ys f (terms.more t ts) h = (over_more xs ys f t h.0, all_over_more xs ys f ts h.1)
