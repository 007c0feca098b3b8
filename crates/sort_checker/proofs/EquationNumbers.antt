-- Whether an equation elaborates doesn't depend on the numbers of its variables.
use Rattle.std.proofs.Common.{◌≡◌, ◌≢◌, ℕ, zero, suc, Bool, true, false, cond, nat_eq, List, [], ◌∷◌, ◌++◌, ⊎_elim, map, refl, sym, ap, ap₂, ◌∙◌, subst, eqb-true, eq-eqb}
use Rattle.std.specs.Prelude.{Option, Some, None, option_map, Contains, pos, ℤ}
use Rattle.std.specs.List.{AllByRecursion}
use Rattle.std.proofs.lemmas.List.{map-append}
use lib.Signed.{lt_z}
use lib.IntN.{neg_ℤ}
use Rattle.data_theory.specs.Terms.{Sort, boolean, positive, natural, integer, Symbol, minus, upcast, Term, Terms, variable, numeral, unknown, application, apply, negated, put, put_all, variables_of, variables_of_all}
use Rattle.data_theory.specs.Terms as terms
use Rattle.data_theory.specs.Declarations.{Declares}
use Rattle.data_theory.specs.Provable.{variables_of_equation}
use Rattle.data_theory.proofs.EnvironmentLemmas.{contains_first, contains_later, contains_cases, contains_nothing}
use Rattle.process_terms.specs.Processes as processes
use Rattle.sort_table.specs.Expressions.{Expression}
use Rattle.data_typing.specs.Typings.{Inferred, Typing}
use Rattle.data_typing.specs.Meanings.{Scope, typing_in}
use Rattle.sort_table.specs.BareProcesses.{Variables}
use Rattle.sort_table.specs.Vocabularies.{Vocabulary}
use Rattle.sort_checker.specs.Scopes.{numbers_of, Binds, binds_none, binds_more}
use Rattle.sort_checker.specs.PartTypings.{left_side, condition_at}
use Rattle.sort_checker.specs.ScopeLaws.{Both, neither, both, RelatedInferred, RelatedTypings, with_number, IsRenamed, SameNames, same_none, same_more, EquationsNeedNoNumbers}
use Rattle.sort_checker.proofs.RelatedTypings.{then_both, map_both, or_both}
use Rattle.sort_checker.proofs.OtherNumbers.{typings_are_renamed, bound_alike}

-- ---- from the numbers of one scope to those of another
abbrev to_other : Scope → Scope → ℕ → ℕ
to_other (b ∷ one) (c ∷ other) n = cond (nat_eq n b.number) c.number (to_other one other n)
to_other _ _ n = n

abbrev pub NumbersDiffer : Scope → Type 0
NumbersDiffer [] = Unit {0}
NumbersDiffer (b ∷ scope) = (Contains (numbers_of scope) b.number → ⊥) × NumbersDiffer scope

pub differ : {v : Vocabulary} {scope inner : Scope} {xs : Variables} {bs : List processes.Bound} → NumbersDiffer scope → Binds v scope xs inner bs → NumbersDiffer inner
differ h binds_none = h
differ h (binds_more e f bs) = differ (f, h) bs

not_equal : (n k : ℕ) → n ≢ k → nat_eq n k ≡ false
not_equal n k h = by_test (nat_eq n k) refl
  where
    by_test : (b : Bool) → nat_eq n k ≡ b → b ≡ false
    by_test true e = absurd (h (eqb-true n k e))
    by_test false e = refl

same_numbers : (f g : ℕ → ℕ) (scope : Scope) → ((n : ℕ) → Contains (numbers_of scope) n → f n ≡ g n) → map (with_number f) scope ≡ map (with_number g) scope
same_numbers f g [] h = refl
same_numbers f g (b ∷ scope) h =
    ap₂ (λ (n : ℕ) (bs : Scope). record { name = b.name; number = n; sort = b.sort } ∷ bs) (h b.number (contains_first b.number (numbers_of scope))) (same_numbers f g scope (λ n c. h n (contains_later b.number n (numbers_of scope) c)))

is_other : {one other : Scope} → SameNames one other → NumbersDiffer one → map (with_number (to_other one other)) one ≡ other
is_other same_none d = refl
is_other (same_more {x = x} {n = n} {k = k} {s = s} {one = one} {other = other} h) d =
    ap₂ (λ (m : ℕ) (bs : Scope). record { name = x; number = m; sort = s } ∷ bs) (ap (λ (b : Bool). cond b k (to_other one other n)) (eq-eqb n n refl))
    (same_numbers (λ m. cond (nat_eq m n) k (to_other one other m)) (to_other one other) one (λ m c. ap (λ (b : Bool). cond b k (to_other one other m)) (not_equal m n (λ e. d.0 (subst (λ (q : ℕ). Contains (numbers_of one) q) e c)))) ∙ is_other h d.1)

-- ---- the variables of a renamed term
of_negated : (s : Sort) (z : ℤ) (b : Bool) → variables_of (cond b (numeral integer (neg_ℤ z)) (application (minus s) (terms.more (numeral s z) terms.none))) ≡ []
of_negated s z true = refl
of_negated s z false = refl

pub of_applied : (f : Symbol) (ts : Terms) → variables_of (apply f ts) ≡ variables_of_all ts
of_applied (upcast positive natural) (terms.more (numeral positive z) terms.none) = refl
of_applied (upcast natural integer) (terms.more (numeral natural z) terms.none) = refl
of_applied (upcast positive integer) (terms.more (numeral positive z) terms.none) = refl
of_applied (minus positive) (terms.more (numeral positive z) terms.none) = of_negated positive z (lt_z (pos 0) z)
of_applied (minus natural) (terms.more (numeral natural z) terms.none) = of_negated natural z (lt_z (pos 0) z)
of_applied (minus integer) (terms.more (numeral integer z) terms.none) = of_negated integer z (lt_z (pos 0) z)
of_applied f ts = refl

abbrev renamed : (ℕ → ℕ) → Term → Term
renamed f t = put (λ n. variable (f n)) t

mutual
  of_renamed : (f : ℕ → ℕ) (t : Term) → variables_of (put (λ n. variable (f n)) t) ≡ map f (variables_of t)
  of_renamed f (variable v) = refl
  of_renamed f (numeral s z) = refl
  of_renamed f (unknown d k) = refl
  of_renamed f (application g ts) = of_applied g (put_all (λ n. variable (f n)) ts) ∙ of_all_renamed f ts

  of_all_renamed : (f : ℕ → ℕ) (ts : Terms) → variables_of_all (put_all (λ n. variable (f n)) ts) ≡ map f (variables_of_all ts)
  of_all_renamed f terms.none = refl
  of_all_renamed f (terms.more t ts) = ap₂ (λ (xs ys : List ℕ). xs ++ ys) (of_renamed f t) (of_all_renamed f ts) ∙ sym (map-append f (variables_of t) (variables_of_all ts))

in_map : (f : ℕ → ℕ) (xs : List ℕ) (n : ℕ) → Contains xs n → Contains (map f xs) (f n)
in_map f [] n h = absurd (contains_nothing n h)
in_map f (x ∷ xs) n h =
    ⊎_elim (λ e. subst (λ (m : ℕ). Contains (f x ∷ map f xs) (f m)) e (contains_first (f x) (map f xs))) (λ k. contains_later (f x) (f n) (map f xs) (in_map f xs n k)) (contains_cases x n xs h)

out_of_map : (f : ℕ → ℕ) (xs : List ℕ) (n : ℕ) → Contains (map f xs) n → (m : ℕ) × (Contains xs m × (f m ≡ n))
out_of_map f [] n h = absurd (contains_nothing n h)
out_of_map f (x ∷ xs) n h =
    ⊎_elim (λ e. (x, (contains_first x xs, e))) (λ k. let r = out_of_map f xs n k in (r.0, (contains_later x r.0 xs r.1.0, r.1.1))) (contains_cases (f x) n (map f xs) h)

still_no_other : (f : ℕ → ℕ) (xs ys zs : List ℕ) → ((n : ℕ) → Contains (xs ++ ys) n → Contains zs n) → (n : ℕ) → Contains (map f xs ++ map f ys) n → Contains (map f zs) n
still_no_other f xs ys zs h n c =
    let r = out_of_map f (xs ++ ys) n (subst (λ (l : List ℕ). Contains l n) (sym (map-append f xs ys)) c) in
    subst (λ (m : ℕ). Contains (map f zs) m) r.1.1 (in_map f zs r.0 (h r.0 r.1.0))

unfoldable pub is_variable : Term → Bool
is_variable (variable v) = true
is_variable _ = false

negated_is : (s : Sort) (z : ℤ) (b : Bool) → is_variable (cond b (numeral integer (neg_ℤ z)) (application (minus s) (terms.more (numeral s z) terms.none))) ≡ false
unfolding is_variable
negated_is s z true = refl
negated_is s z false = refl

pub applied_is : (f : Symbol) (ts : Terms) → is_variable (apply f ts) ≡ false
unfolding is_variable
applied_is (upcast positive natural) (terms.more (numeral positive z) terms.none) = refl
applied_is (upcast natural integer) (terms.more (numeral natural z) terms.none) = refl
applied_is (upcast positive integer) (terms.more (numeral positive z) terms.none) = refl
applied_is (minus positive) (terms.more (numeral positive z) terms.none) = negated_is positive z (lt_z (pos 0) z)
applied_is (minus natural) (terms.more (numeral natural z) terms.none) = negated_is natural z (lt_z (pos 0) z)
applied_is (minus integer) (terms.more (numeral integer z) terms.none) = negated_is integer z (lt_z (pos 0) z)
applied_is f ts = refl

still_no_variable : (f : ℕ → ℕ) (t : Term) → ((n : ℕ) → t ≡ variable n → ⊥) → (n : ℕ) → renamed f t ≡ variable n → ⊥
unfolding is_variable
still_no_variable f (variable v) h n e = h v refl
still_no_variable f (numeral s z) h n e = let c : false ≡ true = ap is_variable e in absurd cc
still_no_variable f (unknown d k) h n e = let c : false ≡ true = ap is_variable e in absurd cc
still_no_variable f (application g ts) h n e = let c : false ≡ true = sym (applied_is g (put_all (λ m. variable (f m)) ts)) ∙ ap is_variable e in absurd cc

-- ---- sorts for the numbers
abbrev set_sort : ℕ → Sort → List Sort → List Sort
set_sort zero s [] = s ∷ []
set_sort zero s (r ∷ rs) = s ∷ rs
set_sort (suc n) s [] = boolean ∷ set_sort n s []
set_sort (suc n) s (r ∷ rs) = r ∷ set_sort n s rs

set_here : (n : ℕ) (s : Sort) (rs : List Sort) → Declares (set_sort n s rs) n s
set_here zero s [] = refl
set_here zero s (r ∷ rs) = refl
set_here (suc n) s [] = set_here n s []
set_here (suc n) s (r ∷ rs) = set_here n s rs

set_there : (n k : ℕ) (s t : Sort) (rs : List Sort) → (n ≡ k → ⊥) → Declares rs k t → Declares (set_sort n s rs) k t
set_there n k s t [] h d = absurd d
set_there zero zero s t (r ∷ rs) h d = absurd (h refl)
set_there zero (suc k) s t (r ∷ rs) h d = d
set_there (suc n) zero s t (r ∷ rs) h d = d
set_there (suc n) (suc k) s t (r ∷ rs) h d = set_there n k s t rs (λ e. h (ap suc e)) d

pub sorts_for : List processes.Bound → List Sort
sorts_for [] = []
sorts_for (b ∷ bs) = set_sort b.var b.sort (sorts_for bs)

outside : {v : Vocabulary} {scope inner : Scope} {xs : Variables} {bs : List processes.Bound} (n : ℕ) → Contains (numbers_of scope) n → Binds v scope xs inner bs → AllByRecursion (λ (b : processes.Bound). n ≡ b.var → ⊥) bs
outside n c binds_none = tt
outside {scope = scope} n c (binds_more {n = k} e f bs) = (λ q. f (subst (λ (m : ℕ). Contains (numbers_of scope) m) q c), outside n (contains_later k n (numbers_of scope) c) bs)

all_there : (n : ℕ) (s : Sort) (rs : List Sort) (bs : List processes.Bound) → AllByRecursion (λ (b : processes.Bound). n ≡ b.var → ⊥) bs → AllByRecursion (λ (b : processes.Bound). Declares rs b.var b.sort) bs → AllByRecursion (λ (b : processes.Bound). Declares (set_sort n s rs) b.var b.sort) bs
all_there n s rs [] h d = tt
all_there n s rs (b ∷ bs) h d = (set_there n b.var s b.sort rs h.0 d.0, all_there n s rs bs h.1 d.1)

pub declared : {v : Vocabulary} {scope inner : Scope} {xs : Variables} {bs : List processes.Bound} → Binds v scope xs inner bs → AllByRecursion (λ (b : processes.Bound). Declares (sorts_for bs) b.var b.sort) bs
unfolding sorts_for
declared binds_none = tt
declared {scope = scope} (binds_more {n = n} {s = s} {bs = cs} e f bs) =
    (set_here n s (sorts_for cs), all_there n s (sorts_for cs) cs (outside n (contains_first n (numbers_of scope)) bs) (declared bs))

pub where_they_occur : (ns : List ℕ) (rs : List Sort) (bs : List processes.Bound) → AllByRecursion (λ (b : processes.Bound). Declares rs b.var b.sort) bs → AllByRecursion (λ (b : processes.Bound). Contains ns b.var → Declares rs b.var b.sort) bs
where_they_occur ns rs [] h = tt
where_they_occur ns rs (b ∷ bs) h = ((λ c. h.0), where_they_occur ns rs bs h.1)

-- ---- the equation
found : {A B : Type 0} {R : A → B → Type 0} {o : Option A} {p : Option B} (x : A) → Both R o p → o ≡ Some x → (y : B) × ((p ≡ Some y) × R x y)
found x neither e = absurd cc
found {R = R} x (both {x = z} {y = y} r) e = let same : z ≡ x = cc in (y, (refl, subst (λ w. R w y) same r))

pub left_both : (f : ℕ → ℕ) {l r k q : Typing} → RelatedTypings (IsRenamed f) l k → RelatedTypings (IsRenamed f) r q → Both (RelatedInferred (IsRenamed f)) (left_side l r) (left_side k q)
left_both f {l = l} {k = k} a b =
    or_both a.infers (then_both (λ (i : Inferred). option_map (λ (t : Term). record { term = t; sort = i.sort }) (l.checks i.sort)) (λ (i : Inferred). option_map (λ (t : Term). record { term = t; sort = i.sort }) (k.checks i.sort)) b.infers
    (λ i j h. subst (λ (s : Sort). Both (RelatedInferred (IsRenamed f)) (option_map (λ (t : Term). record { term = t; sort = i.sort }) (l.checks i.sort)) (option_map (λ (t : Term). record { term = t; sort = s }) (k.checks s))) h.sort
    (map_both (λ (t : Term). record { term = t; sort = i.sort }) (λ (t : Term). record { term = t; sort = i.sort }) (a.checks i.sort) (λ t u c. record { sort = refl; term = c }))))

condition_both : (v : Vocabulary) (f : ℕ → ℕ) (one other : Scope) → ((d : Expression) → RelatedTypings (IsRenamed f) (typing_in v one d) (typing_in v other d)) → (c : Option Expression) → Both (IsRenamed f) (condition_at v one c) (condition_at v other c)
condition_both v f one other h None = both refl
condition_both v f one other h (Some d) = (h d).checks boolean

pub equations_need_no_numbers : EquationsNeedNoNumbers
equations_need_no_numbers v e q h scope bounds bs =
    let f : ℕ → ℕ = to_other h.scope scope in
    let is : map (with_number f) h.scope ≡ scope = is_other (bound_alike same_none h.binds bs) (differ tt h.binds) in
    let typed : (d : Expression) → RelatedTypings (IsRenamed f) (typing_in v.declared h.scope d) (typing_in v.declared scope d)
    = λ d. subst (λ (s : Scope). RelatedTypings (IsRenamed f) (typing_in v.declared h.scope d) (typing_in v.declared s d)) is (typings_are_renamed v.declared f h.scope d) in
    let conditions : (c : Option Expression) → Both (IsRenamed f) (condition_at v.declared h.scope c) (condition_at v.declared scope c) = λ c. condition_both v.declared f h.scope scope typed c in
    let left = found (record { term = q.left; sort = h.sort }) (left_both f (typed e.left) (typed e.right)) h.left in
    let right = found q.right ((typed e.right).checks h.sort) h.right in
    let condition = found q.condition (conditions e.condition) h.condition in (
      record { sorts = sorts_for bounds; condition = renamed f q.condition; left = renamed f q.left; right = renamed f q.right },
      record {
        scope = scope;
        bounds = bounds;
        binds = bs;
        sorts = where_they_occur (variables_of_equation (record { sorts = sorts_for bounds; condition = renamed f q.condition; left = renamed f q.left; right = renamed f q.right })) (sorts_for bounds) bounds (declared bs);
        sort = h.sort;
        left = left.1.0 ∙ ap₂ (λ (t : Term) (s : Sort). Some (record { term = t; sort = s })) (sym left.1.1.term) (sym left.1.1.sort);
        right = right.1.0 ∙ ap (λ (t : Term). Some t) (sym right.1.1);
        condition = condition.1.0 ∙ ap (λ (t : Term). Some t) (sym condition.1.1);
        no_variable = still_no_variable f q.left h.no_variable;
        no_other = λ n c.
            subst (λ (l : List ℕ). Contains l n) (sym (of_renamed f q.left))
            (still_no_other f (variables_of q.condition) (variables_of q.right) (variables_of q.left) h.no_other n
            (subst (λ (l : List ℕ). Contains l n) (ap₂ (λ (xs ys : List ℕ). xs ++ ys) (of_renamed f q.condition) (of_renamed f q.right)) c));
      },
      refl,
    )
