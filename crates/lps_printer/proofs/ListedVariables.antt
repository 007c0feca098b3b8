-- The parameters and the sums of a linear process that reads back differ in their names, and have sorts.
use Rattle.std.proofs.Common.{◌≡◌, ◌≢◌, zero, suc, List, [], ◌∷◌, inl, map, refl, ap, sym, ◌∙◌, subst, arith}
use Rattle.std.specs.Prelude.{Option, Some, None}
use Rattle.std.specs.List.{AllByRecursion, Contains, flat_map}
use Rattle.mcrl2_syntax.proofs.Lists.{all_both}
use Rattle.data_theory.specs.Terms.{Sort}
use Rattle.data_theory.specs.Environments.{AreDistinct}
use Rattle.process_terms.specs.Processes.{Bound}
use Rattle.bisim_laws.specs.LinearProcesses.{Summand, variables}
use Rattle.sort_table.specs.Expressions.{Name}
use Rattle.sort_table.specs.BareSorts.{SortExpression}
use Rattle.sort_table.specs.BareProcesses.{Variables, sums_in, sums_in_all}
use Rattle.sort_table.specs.Vocabularies.{sort_in}
use Rattle.sort_checker.specs.FullVocabularies.{FullVocabulary}
use Rattle.data_typing.specs.Meanings.{Scope, meaning}
use Rattle.data_typing.specs.Typings.{Meaning, bound}
use Rattle.lps_printer.specs.PrintedExpressions.{Expression}
use Rattle.lps_printer.specs.PrintedProcesses as printed_
use Rattle.lps_printer.specs.PrintedProcesses.{Next, ends, goes_bare, goes, Variable, one_variable, with_next, with_condition, with_sums, summand_process, all_summands, choice_process}
use Rattle.lps_printer.specs.WrittenProcesses.{TextNames, sort_written, variable_written, summand_written, body_written, parameters_written, plain_group, plain_process, plain_processes, bound_named, scope_behind}
use Rattle.lps_printer.specs.LinearBack.{EachTwo, CanBind, SummandReads}
use Rattle.lps_printer.specs.PrintedDeclarations.{CanBeListed, VariablesThatReadCanBeListed}
use Rattle.lps_printer.proofs.Lookups.{in_scope}
use Rattle.lps_printer.proofs.TwoOfLists.{in_front, behind_one, in_nothing, all_from, two_mapped}

-- ---- the sums of a printed process
abbrev sum_lists : List Variable → List Variables
sum_lists [] = []
sum_lists (v ∷ vs) = flat_map plain_group (map one_variable (v ∷ vs)) ∷ []

no_sums : (c : Option Expression) (p : Next) (as_ : List printed_.Action) → sums_in (plain_process (with_condition c (with_next (printed_.acts as_) p))) ≡ []
no_sums None ends as_ = refl
no_sums None (goes_bare x) as_ = refl
no_sums None (goes x xs) as_ = refl
no_sums (Some c) ends as_ = refl
no_sums (Some c) (goes_bare x) as_ = refl
no_sums (Some c) (goes x xs) as_ = refl

with_its_sums : (vs : List Variable) (p : printed_.Process) → sums_in (plain_process p) ≡ [] → sums_in (plain_process (with_sums vs p)) ≡ sum_lists vs
with_its_sums [] p e = e
with_its_sums (v ∷ vs) p e = ap (λ xss. flat_map plain_group (map one_variable (v ∷ vs)) ∷ xss) e

summand_sums : (s : printed_.Summand) → sums_in (plain_process (summand_process s)) ≡ sum_lists s.sums
summand_sums s = with_its_sums s.sums (with_condition s.condition (with_next (printed_.acts (s.first ∷ s.others)) s.next)) (no_sums s.condition s.next (s.first ∷ s.others))

module _ (Q : Variables → Type 0) where
  of_summand : (s : printed_.Summand) → AllByRecursion Q (sum_lists s.sums) → AllByRecursion Q (sums_in (plain_process (summand_process s)))
  of_summand s h = subst (AllByRecursion Q) (sym (summand_sums s)) h

  of_summands : (s : printed_.Summand) (ss : List printed_.Summand) → AllByRecursion Q (sum_lists s.sums) → AllByRecursion (λ (r : printed_.Summand). AllByRecursion Q (sum_lists r.sums)) ss → AllByRecursion Q (sums_in_all (plain_processes (all_summands s ss)))
  of_summands s [] h k = all_both Q (sums_in (plain_process (summand_process s))) [] (of_summand s h) tt
  of_summands s (r ∷ rs) h k = all_both Q (sums_in (plain_process (summand_process s))) (sums_in_all (plain_processes (all_summands r rs))) (of_summand s h) (of_summands r rs k.0 k.1)

  of_choice : (s : printed_.Summand) (ss : List printed_.Summand) → AllByRecursion Q (sum_lists s.sums) → AllByRecursion (λ (r : printed_.Summand). AllByRecursion Q (sum_lists r.sums)) ss → AllByRecursion Q (sums_in (plain_process (choice_process s ss)))
  of_choice s [] h k = of_summand s h
  of_choice s (r ∷ rs) h k = of_summands s (r ∷ rs) h k

-- ---- variables that come into scope
module _ (v : FullVocabulary) (n : TextNames) where
  abbrev pub ListsOf : List Bound → Type 0
  ListsOf xs = CanBeListed v.declared.sort_names (parameters_written n xs)

  abbrev written : Bound → Name × SortExpression
  written x = (n.terms.variable x.var, sort_written n x.sort)

  abbrev HasSortThere : Name × SortExpression → Type 0
  HasSortThere x = (s : Sort) × (sort_in v.declared.sort_names x.1 ≡ Some s)

  sorts_there : (scope : Scope) (xs : List Bound) → CanBind v n scope xs → AllByRecursion HasSortThere (parameters_written n xs)
  sorts_there scope [] can = tt
  sorts_there scope (x ∷ xs) can = ((x.sort, can.0), sorts_there (bound_named n x ∷ scope) xs can.2)

  listed : (scope : Scope) (xs : List Bound) → CanBind v n scope xs → EachTwo (λ (x y : Bound). n.terms.variable x.var ≢ n.terms.variable y.var) xs → ListsOf xs
  listed scope xs can differ = record { differ = two_mapped (λ (x y : Name × SortExpression). x.0 ≢ y.0) written xs differ; sorts = sorts_there scope xs can }

  same_groups : (xs : List Bound) → flat_map plain_group (map one_variable (map (variable_written n) xs)) ≡ parameters_written n xs
  same_groups [] = refl
  same_groups (x ∷ xs) = ap (λ ys. written x ∷ ys) (same_groups xs)

  -- variables whose names read back have different names
  same_number : (m : Name → Meaning) (x y : Bound) → m (n.terms.variable x.var) ≡ bound x.var x.sort → m (n.terms.variable y.var) ≡ bound y.var y.sort → n.terms.variable x.var ≡ n.terms.variable y.var → x.var ≡ y.var
  same_number m x y p q e = let same : bound x.var x.sort ≡ bound y.var y.sort = sym p ∙ (ap m e ∙ q) in cc

  names_differ : (m : Name → Meaning) (xs : List Bound) → AllByRecursion (λ (x : Bound). m (n.terms.variable x.var) ≡ bound x.var x.sort) xs → AreDistinct (variables xs) → EachTwo (λ (x y : Bound). n.terms.variable x.var ≢ n.terms.variable y.var) xs
  names_differ m [] reads distinct = tt
  names_differ m (x ∷ xs) reads distinct = (others xs reads.1 distinct.0, names_differ m xs reads.1 distinct.1)
    where
      others : (ys : List Bound) → AllByRecursion (λ (y : Bound). m (n.terms.variable y.var) ≡ bound y.var y.sort) ys → (Contains (variables ys) x.var → ⊥) → AllByRecursion (λ (y : Bound). n.terms.variable x.var ≢ n.terms.variable y.var) ys
      others [] all apart = tt
      others (y ∷ ys) all apart =
          ((λ e. apart (subst (λ k. Contains (y.var ∷ variables ys) k) (sym (same_number m x y reads.0 all.0 e)) (in_front y.var (variables ys)))), others ys all.1 (λ c. apart (behind_one y.var (variables ys) x.var c)))

  of_variable : (xs : List Bound) (x : Bound) → Contains xs x → Contains (variables xs) x.var
  of_variable [] x c = in_nothing x c
  of_variable (y ∷ ys) x (zero, l, e) = (zero, omega arith, ap (λ (z : Bound). z.var) e)
  of_variable (y ∷ ys) x (suc i, l, e) = behind_one y.var (variables ys) x.var (of_variable ys x (i, omega (arith, l), e))

  summand_lists : (scope : Scope) (params : List Bound) (s : Summand) → SummandReads v n scope params s → AllByRecursion (CanBeListed v.declared.sort_names) (sum_lists (map (variable_written n) s.sums))
  summand_lists scope params s reads = of_sums s.sums refl
    where
      differ : EachTwo (λ (x y : Bound). n.terms.variable x.var ≢ n.terms.variable y.var) s.sums
      differ = names_differ (meaning v.declared (scope_behind n scope s.sums)) s.sums
          (all_from (λ (x : Bound). meaning v.declared (scope_behind n scope s.sums) (n.terms.variable x.var) ≡ bound x.var x.sort) s.sums
          (λ x c. reads.names.variables x.var x.sort (in_scope n s.sums scope x.var (inl (of_variable s.sums x c))) (reads.sorted.sums x c)))
          reads.shape.distinct

      of_sums : (xs : List Bound) → xs ≡ s.sums → AllByRecursion (CanBeListed v.declared.sort_names) (sum_lists (map (variable_written n) xs))
      of_sums [] e = tt
      of_sums (x ∷ xs) e = (subst (CanBeListed v.declared.sort_names) (sym (same_groups (x ∷ xs))) (subst ListsOf (sym e) (listed scope s.sums reads.sums differ)), tt)

  all_lists : (scope : Scope) (params : List Bound) (ss : List Summand) → AllByRecursion (SummandReads v n scope params) ss
      → AllByRecursion (λ (r : printed_.Summand). AllByRecursion (CanBeListed v.declared.sort_names) (sum_lists r.sums)) (map (summand_written n params) ss)
  all_lists scope params [] h = tt
  all_lists scope params (s ∷ ss) h = (summand_lists scope params s h.0, all_lists scope params ss h.1)

pub variables_that_read_can_be_listed : VariablesThatReadCanBeListed
variables_that_read_can_be_listed v n l ts reads = (listed v n [] l.params reads.params reads.distinct, of_body l.summands reads.summands)
  where
    of_body : (ss : List Summand) → AllByRecursion (SummandReads v n (scope_behind n [] l.params) l.params) ss → AllByRecursion (CanBeListed v.declared.sort_names) (sums_in (plain_process (body_written n (record l { summands = ss }))))
    of_body [] h = tt
    of_body (s ∷ ss) h =
        of_choice (CanBeListed v.declared.sort_names) (summand_written n l.params s) (map (summand_written n l.params) ss) (summand_lists v n (scope_behind n [] l.params) l.params s h.0) (all_lists v n (scope_behind n [] l.params) l.params ss h.1)
