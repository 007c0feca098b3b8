-- The steps of nodes are over what the nodes are over.
use Rattle.std.proofs.Common.{◌≡◌, ◌<◌, ℕ, zero, suc, List, [], ◌∷◌, ◌++◌, map, length, get_or, refl, sym, subst, ap, ◌∙◌, arith}
use Rattle.std.specs.Prelude.{Option, Some, None, IfSome, option_map, option_to_list, slice_get}
use Rattle.std.specs.List.{AllByRecursion, Contains}
use Rattle.data_theory.specs.declared.words.ListWord.TheVariants as list_words
use Rattle.data_theory.specs.declared.words.NumberWord.{NumberWord}
use Rattle.data_theory.specs.declared.words.NumberWord.TheVariants as numbers
use Rattle.data_theory.specs.declared.words.Word.TheVariants.{Number, List as ListWord'}
use Rattle.data_theory.specs.declared.rows.Row.{Row}
use Rattle.data_theory.specs.declared.rows.Row.TheVariants as rows
use Rattle.data_theory.specs.Terms.{Sort, boolean, positive, natural, integer, list}
use Rattle.data_theory.specs.Table.{pos_sort, nat_sort, int_sort, language_table, first_rows, truth_rows, comparison_rows, sum_rows, quotient_rows, extreme_rows, step_rows, sort_rows, list_rows}
use Rattle.data_theory.proofs.PlaceLemmas.{contains_read}
use Rattle.sort_table.specs.Duplicates.{any_sort, lists_of_any}
use Rattle.data_typing.specs.declared.flat_sorts.Base.{Base}
use Rattle.data_typing.specs.declared.flat_sorts.FlatSort.{FlatSort}
use Rattle.data_typing.specs.declared.nodes.Callee.TheVariants as callees
use Rattle.data_typing.specs.declared.nodes.Overload.{Overload}
use Rattle.data_typing.specs.declared.nodes.AnyOverload.{AnyOverload}
use Rattle.data_typing.specs.declared.nodes.Node.{Node}
use Rattle.data_typing.specs.declared.plans.CallPlan.{CallPlan}
use Rattle.data_typing.specs.declared.plans.CallPlan.TheVariants as plans
use Rattle.data_typing.specs.declared.steps.Task as code
use Rattle.data_typing.specs.declared.steps.Step.{Step}
use Rattle.data_typing.specs.declared.steps.Step.TheVariants as steps
use Rattle.data_typing.specs.declared.steps.Expansion.{Expansion}
use Rattle.data_typing.specs.Typings.{itself, elements, settled}
use Rattle.data_typing.specs.Sortings.{Profile, AnyProfile}
use Rattle.data_typing.specs.Plans.{call_plan}
use Rattle.data_typing.specs.FlatSorts.{flat_sort, base_sort}
use Rattle.data_typing.specs.Nodes.{sortings, sortings_at}
use Rattle.data_typing.specs.CodePlans.{plan_of}
use Rattle.data_typing.specs.CodeSteps.{task_inferred, task_at, tasks_at, IsStepWithin, IsWantedWithin, IsExpansionWithin, IsSomeExpansionWithin, IsPlanWithin, IsUpcastRow}
use Rattle.data_typing.specs.Within.{IsFlatWithin, IsCallee, IsBuiltIn, IsOverloadWithin, IsSomeAnyWithin, AreNodesWithin}
use Rattle.data_typing.proofs.WithinLemmas.{flat_back, flat_more, plan_is_within}

-- ---- tasks
pub inferred_within : (n : ℕ) (ks : List ℕ) → AllByRecursion (λ (k : code.Task). IsWantedWithin n k.wanted) (map task_inferred ks)
inferred_within n [] = tt
inferred_within n (k ∷ ks) = (tt, inferred_within n ks)

pub elements_within : (n : ℕ) (s : FlatSort) → IsFlatWithin n s → (ks : List ℕ) → AllByRecursion (λ (k : code.Task). IsWantedWithin n k.wanted) (map (task_at s) ks)
elements_within n s h [] = tt
elements_within n s h (k ∷ ks) = (h, elements_within n s h ks)

pub arguments_within : (n : ℕ) (ks : List ℕ) (ss : List FlatSort) → AllByRecursion (IsFlatWithin n) ss → AllByRecursion (λ (k : code.Task). IsWantedWithin n k.wanted) (tasks_at ks ss)
arguments_within n [] ss h = tt
arguments_within n (k ∷ ks) [] h = tt
arguments_within n (k ∷ ks) (s ∷ ss) h = (h.0, arguments_within n ks ss h.1)

-- ---- expansions
pub one_function : (n c : ℕ) (e : Expansion) (f : Overload) (k : ℕ) (ks : List code.Task) → e.steps.items ≡ steps.Apply f k ∷ [] → e.tasks.items ≡ ks → IsOverloadWithin n c f → AllByRecursion (λ (t : code.Task). IsWantedWithin n t.wanted) ks → IsExpansionWithin n c e
one_function n c e f k ks is are h all = record {
  steps = subst (AllByRecursion (IsStepWithin n c)) (sym is) (h, tt);
  tasks = subst (AllByRecursion (λ (t : code.Task). IsWantedWithin n t.wanted)) (sym are) all;
}

pub expanded : (n c : ℕ) (e : Expansion) (hs : List Step) (ks : List code.Task) → e.steps.items ≡ hs → e.tasks.items ≡ ks → AllByRecursion (IsStepWithin n c) hs → AllByRecursion (λ (t : code.Task). IsWantedWithin n t.wanted) ks → IsExpansionWithin n c e
expanded n c e hs ks is are all tasks = record {
  steps = subst (AllByRecursion (IsStepWithin n c)) (sym is) all;
  tasks = subst (AllByRecursion (λ (t : code.Task). IsWantedWithin n t.wanted)) (sym are) tasks;
}

all_both : {A : Type 0} (P : A → Type 0) (xs ys : List A) → AllByRecursion P xs → AllByRecursion P ys → AllByRecursion P (xs ++ ys)
all_both P [] ys a b = b
all_both P (x ∷ xs) ys a b = (a.0, all_both P xs ys a.1 b)

pub all_appended : {A : Type 0} (P : A → Type 0) (xs ys zs : List A) → zs ≡ xs ++ ys → AllByRecursion P xs → AllByRecursion P ys → AllByRecursion P zs
all_appended P xs ys zs e a b = subst (AllByRecursion P) (sym e) (all_both P xs ys a b)

all_front : {A : Type 0} (P : A → Type 0) (xs ys : List A) → AllByRecursion P (xs ++ ys) → AllByRecursion P xs
all_front P [] ys a = tt
all_front P (x ∷ xs) ys a = (a.0, all_front P xs ys a.1)

all_back : {A : Type 0} (P : A → Type 0) (xs ys : List A) → AllByRecursion P (xs ++ ys) → AllByRecursion P ys
all_back P [] ys a = a
all_back P (x ∷ xs) ys a = all_back P xs ys a.1

-- the last one, and those in front of it
pub all_popped : {A : Type 0} (P : A → Type 0) (xs zs : List A) (x : A) → zs ≡ xs ++ x ∷ [] → AllByRecursion P zs → AllByRecursion P xs × P x
all_popped P xs zs x e a = let b = subst (AllByRecursion P) e a in (all_front P xs (x ∷ []) b, (all_back P xs (x ∷ []) b).0)

pub all_at : {A : Type 0} (P : A → Type 0) (xs : List A) (k : ℕ) (x : A) → slice_get xs k ≡ Some x → AllByRecursion P xs → P x
all_at P [] k x e a = cc
all_at P (y ∷ xs) zero x e a = let same : y ≡ x = cc in subst P same a.0
all_at P (y ∷ xs) (suc k) x e a = all_at P xs k x e a.1

pub all_read : {A : Type 0} (P : A → Type 0) (xs : List A) (k : ℕ) (x : A) → k < length xs → x ≡ get_or xs k x → AllByRecursion P xs → P x
all_read P [] k x l e a = absurd (omega (arith, l))
all_read P (y ∷ xs) zero x l e a = subst P (sym e) a.0
all_read P (y ∷ xs) (suc k) x l e a = all_read P xs k x (omega (arith, l)) e a.1

pub all_get : {A : Type 0} (P : A → Type 0) (xs : List A) (k : ℕ) (d : A) → k < length xs → AllByRecursion P xs → P (get_or xs k d)
all_get P [] k d l a = absurd (omega (arith, l))
all_get P (y ∷ xs) zero d l a = a.0
all_get P (y ∷ xs) (suc k) d l a = all_get P xs k d (omega (arith, l)) a.1

pub all_some : {A : Type 0} (P : A → Type 0) (o : Option A) → IfSome o P → AllByRecursion P (option_to_list o)
all_some P None h = tt
all_some P (Some x) h = (h, tt)

pub some_any : (n : ℕ) (o : Option AnyOverload) (a : AnyOverload) → o ≡ Some a → IsSomeAnyWithin n o → IsSomeAnyWithin n (Some a)
some_any n o a e h = subst (IsSomeAnyWithin n) e h

-- ---- rows
row_within : (r : Row) (k : ℕ) → slice_get (language_table any_sort lists_of_any) k ≡ Some r → Contains (language_table any_sort lists_of_any) r
row_within r k e = contains_read (language_table any_sort lists_of_any) k r e

pub pos_to_nat : IsBuiltIn (Number numbers.PosToNat) (positive ∷ []) natural
unfolding language_table first_rows truth_rows comparison_rows sum_rows quotient_rows extreme_rows step_rows sort_rows list_rows
pos_to_nat = record { at = boolean; arguments = settled positive ∷ []; result = settled natural; row = record { row = rows.One (Number numbers.PosToNat) pos_sort nat_sort; stands = row_within _ 35 refl; word = refl; places = refl; result = refl }; sorts = refl; result_sort = refl }

pub nat_to_int : IsBuiltIn (Number numbers.NatToInt) (natural ∷ []) integer
unfolding language_table first_rows truth_rows comparison_rows sum_rows quotient_rows extreme_rows step_rows sort_rows list_rows
nat_to_int = record { at = boolean; arguments = settled natural ∷ []; result = settled integer; row = record { row = rows.One (Number numbers.NatToInt) nat_sort int_sort; stands = row_within _ 36 refl; word = refl; places = refl; result = refl }; sorts = refl; result_sort = refl }

pub pos_to_int : IsBuiltIn (Number numbers.PosToInt) (positive ∷ []) integer
unfolding language_table first_rows truth_rows comparison_rows sum_rows quotient_rows extreme_rows step_rows sort_rows list_rows
pos_to_int = record { at = boolean; arguments = settled positive ∷ []; result = settled integer; row = record { row = rows.One (Number numbers.PosToInt) pos_sort int_sort; stands = row_within _ 37 refl; word = refl; places = refl; result = refl }; sorts = refl; result_sort = refl }

cons_row : (s : Sort) → IsBuiltIn (ListWord' list_words.Cons) (s ∷ list s ∷ []) (list s)
unfolding language_table first_rows truth_rows comparison_rows sum_rows quotient_rows extreme_rows step_rows sort_rows list_rows
cons_row s = record { at = s; arguments = itself ∷ elements ∷ []; result = elements; row = record { row = rows.Two (ListWord' list_words.Cons) any_sort lists_of_any lists_of_any; stands = row_within _ 62 refl; word = refl; places = refl; result = refl }; sorts = refl; result_sort = refl }

empty_row : (s : Sort) → IsBuiltIn (ListWord' list_words.Empty) (list s ∷ []) (list s)
unfolding language_table first_rows truth_rows comparison_rows sum_rows quotient_rows extreme_rows step_rows sort_rows list_rows
empty_row s = record { at = s; arguments = elements ∷ []; result = elements; row = record { row = rows.ListConstant (ListWord' list_words.Empty) lists_of_any; stands = row_within _ 61 refl; word = refl; places = refl; result = refl }; sorts = refl; result_sort = refl }

flat_plain : (f : FlatSort) (b : Base) → f.depth ≡ 0 → f.base ≡ b → flat_sort f ≡ base_sort b
flat_plain f b d e = ap (λ k. flat_sort (record { depth = k; base = f.base })) d ∙ ap base_sort e

pub upcast_is : (f to : FlatSort) (b d : Base) (w : NumberWord) → f.depth ≡ 0 → to.depth ≡ 0 → f.base ≡ b → to.base ≡ d → IsBuiltIn (Number w) (base_sort b ∷ []) (base_sort d) → IsFlatWithin 0 (record { depth = 0; base = b }) → IsFlatWithin 0 (record { depth = 0; base = d }) → IsUpcastRow w f to
upcast_is f to b d w df dt bf bt row hf ht = record {
  row = subst (λ s. IsBuiltIn (Number w) (s ∷ []) (flat_sort to)) (sym (flat_plain f b df bf)) (subst (IsBuiltIn (Number w) (base_sort b ∷ [])) (sym (flat_plain to d dt bt)) row);
  from_number = subst (λ k. IsFlatWithin 0 (record { depth = f.depth; base = k })) (sym bf) hf;
  to_number = subst (λ k. IsFlatWithin 0 (record { depth = to.depth; base = k })) (sym bt) ht;
}

list_sorts : (e l : FlatSort) → flat_sort l ≡ list (flat_sort e) → (f : Overload) → f.result ≡ l → flat_sort f.result ≡ list (flat_sort e)
list_sorts e l is f r = ap flat_sort r ∙ is

pub cons_within : (n c : ℕ) (e l : FlatSort) → flat_sort l ≡ list (flat_sort e) → IsFlatWithin n e → IsFlatWithin n l → (f : Overload) → f.callee ≡ callees.BuiltIn (ListWord' list_words.Cons) → f.arguments.items ≡ e ∷ l ∷ [] → f.result ≡ l → IsOverloadWithin n c f
cons_within n c e l is h k f same args r = record {
  callee = subst (λ w. IsCallee c w (map flat_sort f.arguments.items) (flat_sort f.result)) (sym same)
      (subst (λ ss. IsBuiltIn (ListWord' list_words.Cons) ss (flat_sort f.result)) (sym (ap (map flat_sort) args ∙ ap (λ s. flat_sort e ∷ s ∷ []) is)) (subst (IsBuiltIn (ListWord' list_words.Cons) (flat_sort e ∷ list (flat_sort e) ∷ [])) (sym (list_sorts e l is f r)) (cons_row (flat_sort e))));
  arguments = subst (AllByRecursion (IsFlatWithin n)) (sym args) (h, (k, tt));
  result = subst (IsFlatWithin n) (sym r) k;
}

pub empty_within : (n c : ℕ) (e l : FlatSort) → flat_sort l ≡ list (flat_sort e) → IsFlatWithin n e → IsFlatWithin n l → (f : Overload) → f.callee ≡ callees.BuiltIn (ListWord' list_words.Empty) → f.arguments.items ≡ l ∷ [] → f.result ≡ l → IsOverloadWithin n c f
empty_within n c e l is h k f same args r = record {
  callee = subst (λ w. IsCallee c w (map flat_sort f.arguments.items) (flat_sort f.result)) (sym same)
      (subst (λ ss. IsBuiltIn (ListWord' list_words.Empty) ss (flat_sort f.result)) (sym (ap (map flat_sort) args ∙ ap (λ s. s ∷ []) is)) (subst (IsBuiltIn (ListWord' list_words.Empty) (list (flat_sort e) ∷ [])) (sym (list_sorts e l is f r)) (empty_row (flat_sort e))));
  arguments = subst (AllByRecursion (IsFlatWithin n)) (sym args) (k, tt);
  result = subst (IsFlatWithin n) (sym r) k;
}

pub upcast_within : (n c : ℕ) (s to : FlatSort) (w : NumberWord) → IsUpcastRow w s to → (f : Overload) → f.callee ≡ callees.BuiltIn (Number w) → f.arguments.items ≡ s ∷ [] → f.result ≡ to → IsOverloadWithin n c f
upcast_within n c s to w row f same args r = record {
  callee = subst (λ k. IsCallee c k (map flat_sort f.arguments.items) (flat_sort f.result)) (sym same)
      (subst (λ ss. IsBuiltIn (Number w) ss (flat_sort f.result)) (sym (ap (map flat_sort) args)) (subst (λ t. IsBuiltIn (Number w) (flat_sort s ∷ []) (flat_sort t)) (sym r) row.row));
  arguments = subst (AllByRecursion (IsFlatWithin n)) (sym args) (flat_more 0 n (omega arith) s row.from_number, tt);
  result = subst (IsFlatWithin n) (sym r) (flat_more 0 n (omega arith) to row.to_number);
}

-- ---- plans
pub plan_code_within : (n c : ℕ) (ns : List Node) → AreNodesWithin n c ns → (ks : List ℕ) (fs : List Profile) (a : Option AnyProfile) (o : Option CallPlan) → option_map plan_of o ≡ call_plan fs a (sortings_at (sortings ns) ks) → (p : CallPlan) → o ≡ Some p → IsPlanWithin n p
plan_code_within n c ns h ks fs a o e (plans.Exact k) is = tt
plan_code_within n c ns h ks fs a o e (plans.Fitting k) is = tt
plan_code_within n c ns h ks fs a o e (plans.Over s) is = flat_back n s (plan_is_within n c ns h ks fs a (option_map plan_of o) e (flat_sort s) (ap (option_map plan_of) is))

pub some_expansion : (n c : ℕ) (o : Option Expansion) (e : Expansion) → o ≡ Some e → IsSomeExpansionWithin n c o → IsExpansionWithin n c e
some_expansion n c o e is h = subst (IsSomeExpansionWithin n c) is h
