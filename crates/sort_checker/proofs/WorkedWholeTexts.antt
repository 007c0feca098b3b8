-- The worked whole text is well typed.
use Rattle.std.proofs.Common.{◌≡◌, ◌<◌, ℕ, zero, suc, Bool, true, false, not, cond, List, [], ◌∷◌, length, refl, ap, sym, ◌∙◌, arith}
use Rattle.std.specs.Prelude.{None, codes, bytes_eq}
use Rattle.std.specs.List.{Contains, AllByRecursion, list_all}
use Rattle.std.proofs.lemmas.List.Elements.{All-contains, All-from_recursion}
use Rattle.std.proofs.lemmas.Option.{none-some, slice_get_within}
use Rattle.std.proofs.lemmas.Slice.Eq.{bytes_eq-Decides}
use Rattle.data_theory.specs.declared.rows.Row.{Row}
use Rattle.data_theory.specs.Rows.{row_text}
use Rattle.data_theory.specs.Table.{language_table, truth_rows, sort_rows, comparison_rows, sum_rows, first_rows, quotient_rows, extreme_rows, step_rows, list_rows}
use Rattle.data_theory.specs.Terms.{named}
use Rattle.sort_table.specs.Expressions.{Name}
use Rattle.sort_table.specs.BareProcesses.{Variables}
use Rattle.sort_table.specs.BareDeclarations.{Declaration, alias, declarations_in}
use Rattle.sort_table.specs.SortMeanings.{UnderNames, under_names, actions_in}
use Rattle.sort_table.specs.TextFunctions.{functions_in}
use Rattle.sort_table.specs.Vocabularies.{Vocabulary, IsOwn, IsSortNamed, IsFunction, of_map, AreSortsOf, IsVocabularyOf}
use Rattle.sort_table.specs.SortCycles.{NoCycle}
use Rattle.sort_table.specs.EmptySorts.{NoEmptySort}
use Rattle.sort_table.specs.Duplicates.{Item, a_sort, a_function, an_action, a_process, a_variable, all_items, any_sort, lists_of_any, IsAgain, sort_again, function_again, action_again, process_again, process_as_action, action_as_process, variable_again, variable_lists, two_of_them, within_one, built_in, its_variables, NothingAgain}
use Rattle.sort_table.proofs.ListForms.{EachOf, each_at, each_named, have_one_place, has_sorts, is_declared}
use Rattle.sort_checker.specs.FullVocabularies.{IsFullVocabularyOf}
use Rattle.sort_checker.specs.Refusals.{type_fault}
use Rattle.sort_checker.proofs.CommRules.{all_of}
use Rattle.sort_checker.specs.WorkedWholeTexts.{whole_text, its_vocabulary, TheWholeTextIsWellTyped}

abbrev ds : List Declaration
ds = declarations_in whole_text

abbrev u : UnderNames
u = under_names ds

abbrev v : Vocabulary
v = its_vocabulary.declared

among : {A : Type 0} (P : A → Type 0) (xs : List A) → AllByRecursion P xs → (x : A) → Contains xs x → P x
among P xs all x there = All-contains P xs x (All-from_recursion P xs all) there

-- ---- its vocabulary
no_sorts_used : (d : ℕ) → d < 0 → (n : Name) × IsOwn u n × IsSortNamed u v n d
no_sorts_used d h = let never : ⊥ = omega (arith, h) in absurd never

functions_used : (k : ℕ) → k < 1 → (f : Name) × Contains v.function_names (f, k)
functions_used zero h = (codes "f", (0, omega arith, refl))
functions_used (suc k) h = let never : ⊥ = omega (arith, h) in absurd never

declares : IsVocabularyOf u v
declares = record {
  sorts = has_sorts ds v (λ d. codes "f") tt tt tt no_sorts_used;
  functions = record {
    each = each_named (IsFunction u v) (functions_in ds) v.function_names (refl, record { within = omega arith; arguments = refl; result = refl; role = of_map }, tt);
    no_more = functions_used;
    once = have_one_place (λ i. i) (0 ∷ []) (refl, tt);
  };
  actions = each_named (AreSortsOf v) (actions_in ds) v.actions (refl, refl, tt);
}

is_vocabulary : IsFullVocabularyOf ds its_vocabulary
is_vocabulary = record { declared = declares; processes = (record { name = refl; parameters = refl }, tt) }

-- ---- it declares no sorts
abbrev IsNoAlias : Declaration → Type 0
IsNoAlias (alias n e) = ⊥
IsNoAlias _ = Unit {0}

no_cycle : NoCycle ds
no_cycle [] h = h
no_cycle (n ∷ []) h = among IsNoAlias ds (tt, (tt, (tt, (tt, (tt, (tt, tt)))))) (alias n h.0) h.1
no_cycle (n ∷ m ∷ ms) h = among IsNoAlias ds (tt, (tt, (tt, (tt, (tt, (tt, tt)))))) (alias n h.0.0) h.0.1

no_empty_sort : NoEmptySort ds
no_empty_sort n e =
    let s = (e.declared.sorts.named n).0 (named e.number, e.named_so) in
    let k = is_declared u n s.0 s.1 in none-some k.0 k.1

-- ---- and nothing twice: its names differ
abbrev item_name : Item → Name
item_name (a_sort n) = n
item_name (a_function f es) = f
item_name (an_action a es) = a
item_name (a_process p) = p
item_name (a_variable k x) = x

same_name : (x y : Item) → IsAgain u x y → item_name x ≡ item_name y
same_name _ _ (sort_again n) = refl
same_name _ _ (function_again f es fs s) = refl
same_name _ _ (action_again a es fs s) = refl
same_name _ _ (process_again p) = refl
same_name _ _ (process_as_action n es) = refl
same_name _ _ (action_as_process n es) = refl
same_name _ _ (variable_again k x) = refl

abbrev place_among : List Name → Name → ℕ
place_among [] n = 0
place_among (m ∷ ms) n = cond (bytes_eq m n) 0 (suc (place_among ms n))

-- the number of the declaration with this name
abbrev place : Name → ℕ
place n = place_among (codes "f" ∷ codes "a" ∷ codes "P" ∷ codes "x" ∷ []) n

abbrev IsAt : ℕ → List Item → Type 0
IsAt i xs = AllByRecursion (λ (x : Item). place (item_name x) ≡ i) xs × (length xs < 2)

at_places : EachOf IsAt (all_items 0 whole_text)
at_places = (((refl, tt), omega arith), (((refl, tt), omega arith), (((refl, tt), omega arith), (((refl, tt), omega arith), ((tt, omega arith), ((tt, omega arith), tt))))))

-- the one function
abbrev IsF : Item → Type 0
IsF (a_function f es) = f ≡ codes "f"
IsF _ = Unit {0}

abbrev AllAreF : ℕ → List Item → Type 0
AllAreF i xs = AllByRecursion IsF xs

isn_t_f : Row → Bool
isn_t_f r = not (bytes_eq (row_text r) (codes "f"))

no_row : list_all isn_t_f (language_table any_sort lists_of_any) ≡ true
unfolding isn_t_f language_table truth_rows sort_rows comparison_rows sum_rows first_rows quotient_rows extreme_rows step_rows list_rows
no_row = refl

no_built_in : (r : Row) → Contains (language_table any_sort lists_of_any) r → row_text r ≡ codes "f" → ⊥
unfolding isn_t_f
no_built_in r there is =
    let passes : isn_t_f r ≡ true = all_of isn_t_f r (language_table any_sort lists_of_any) no_row there in
    let same : bytes_eq (row_text r) (codes "f") ≡ true = (bytes_eq-Decides (row_text r) (codes "f")).1 is in
    let never : false ≡ true = sym (ap not same) ∙ passes in cc

-- lists of at most one variable
abbrev AreShort : ℕ → Declaration → Type 0
AreShort i d = AllByRecursion (λ (xs : Variables). length xs < 2) (variable_lists d)

nothing_again : NothingAgain whole_text
nothing_again _ _ (two_of_them i j xs ys x y before first second here there again) =
    let p : place (item_name x) ≡ i = among (λ (z : Item). place (item_name z) ≡ i) xs (each_at IsAt (all_items 0 whole_text) i xs at_places first).0 x here in
    let q : place (item_name y) ≡ j = among (λ (z : Item). place (item_name z) ≡ j) ys (each_at IsAt (all_items 0 whole_text) j ys at_places second).0 y there in
    let same : i ≡ j = sym p ∙ (ap place (same_name x y again) ∙ q) in omega (arith, same, before)
nothing_again _ _ (within_one i k l xs x y here before first second again) =
    let short = (each_at IsAt (all_items 0 whole_text) i xs at_places here).1 in
    let within = slice_get_within xs l y second in omega (arith, short, within, before)
nothing_again _ _ (built_in i xs f es rs here there stand is) =
    let named_f = among IsF xs (each_at AllAreF (all_items 0 whole_text) i xs ((refl, tt), ((tt, tt), ((tt, tt), ((tt, tt), (tt, (tt, tt)))))) here) (a_function f es) there in
    no_built_in is.0 is.2 (is.3 ∙ named_f)
nothing_again _ _ (its_variables i d vs here there twice) =
    let short = among (λ (xs : Variables). length xs < 2) (variable_lists d) (each_at AreShort ds i d (tt, (tt, ((omega arith, (omega arith, tt)), (tt, (tt, (tt, tt)))))) here) vs there in
    let within = slice_get_within vs twice.1 (twice.2, twice.4) twice.7 in
    let before = twice.5 in omega (arith, short, within, before)

no_fault : type_fault its_vocabulary whole_text ≡ None
unfolding language_table truth_rows sort_rows comparison_rows sum_rows first_rows quotient_rows extreme_rows step_rows list_rows
no_fault = refl

pub the_whole_text_is_well_typed : TheWholeTextIsWellTyped
the_whole_text_is_well_typed = record {
  vocabulary = is_vocabulary;
  sound = record { known = (refl, (refl, (refl, (refl, (refl, (refl, tt)))))); no_cycle = no_cycle; once = nothing_again; inhabited = no_empty_sort };
  no_fault = no_fault;
}
