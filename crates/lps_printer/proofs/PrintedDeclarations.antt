-- The declarations of a printed text are sound, and the signature has their vocabulary.
use Rattle.std.proofs.Common.{◌≡◌, ◌≢◌, ◌<◌, ◌⊎◌, inl, inr, ⊎_elim, zero, suc, Bool, true, false, cond, List, [], ◌∷◌, ◌++◌, length, map, refl, ap, ap₂, sym, ◌∙◌, subst, arith, append_assoc}
use Rattle.std.specs.Prelude.{Option, Some, None, not, is_some, bytes_eq, option_map, option_and_then}
use Rattle.std.specs.List.{All, AllByRecursion, Contains, find, flat_map}
use Rattle.std.proofs.lemmas.List.{append-nil, map-append}
use Rattle.std.proofs.lemmas.List.Elements.{All-contains, All-head, All-tail}
use Rattle.std.proofs.lemmas.Option.{none-some, slice_get-get_or}
use Rattle.std.proofs.lemmas.Slice.Eq.{bytes_eq-Decides}
use Rattle.mcrl2_syntax.specs.Declarations.{PlainSpec}
use Rattle.mcrl2_syntax.proofs.Lists.{all_both}
use Rattle.data_theory.specs.declared.ids.FunId.{FunId}
use Rattle.data_theory.specs.declared.ids.NameId.{NameId}
use Rattle.data_theory.specs.declared.ids.SortId.{SortId}
use Rattle.data_theory.specs.Complete.{IsActionWithin}
use Rattle.data_theory.specs.Terms.{Sort, Term}
use Rattle.data_theory.specs.FirstNames.{first_names}
use Rattle.data_theory.specs.Rows.{row_word}
use Rattle.data_theory.specs.Signature.{Sig, IsTaken}
use Rattle.data_theory.specs.Declarations.{function_at}
use Rattle.data_theory.specs.IdTerms.{sort_under}
use Rattle.data_theory.specs.Structs.{Con}
use Rattle.data_theory.proofs.PlaceLemmas.{read_contained}
use Rattle.data_theory.proofs.TableLemmas.{is_first_name}
use Rattle.bisim_laws.specs.LinearProcesses.{Linear}
use Rattle.lps_core.specs.SealedTrees.{IsNoAction}
use Rattle.sort_table.specs.Expressions.{Name}
use Rattle.sort_table.specs.BareSorts.{SortExpression}
use Rattle.sort_table.specs.BareProcesses.{Variables}
use Rattle.sort_table.specs.BareDeclarations.{Field, Declaration, sorts, alias, struct, constructors, mappings, variables, equation, actions, process, initial, Section, bare_section, bare_sections, declarations_in}
use Rattle.sort_table.specs.NamedLists.{all_named, first_named}
use Rattle.sort_table.specs.SortMeanings.{Kind, kinds_by, kinds_in, actions_by, actions_in, UnderNames, under_names, StandsFor, for_truth_values, for_positives, for_naturals, for_integers, for_lists, for_plain, for_struct, for_alias, StandForEach, no_sorts, and_sort}
use Rattle.sort_table.specs.TextFunctions.{Named, functions_by, functions_in}
use Rattle.sort_table.specs.Duplicates.{Item, a_sort, a_function, an_action, a_process, a_variable, function_item, SameSorts, IsAgain, sort_again, function_again, action_again, process_again, process_as_action, action_as_process, variable_again, IsBuiltIn, StandsTwice, variable_lists, built_in, its_variables, NothingAgain}
use Rattle.sort_table.specs.UnknownSorts.{name_in, names_of_variables, names_of_fields, sorts_used, AllAreKnown}
use Rattle.sort_table.specs.SortCycles.{Refers, ReferOn, NoCycle}
use Rattle.sort_table.specs.EmptySorts.{NoEmptySort}
use Rattle.sort_table.specs.Vocabularies.{Vocabulary, sort_in, sorts_in, HasSorts, IsFunction, EachPair, AreSortsOf, IsVocabularyOf}
use Rattle.sort_table.specs.SignatureVocabularies.{text_under, action_under, vocabulary_of}
use Rattle.sort_table.specs.Identifiers.{copied_identifiers}
use Rattle.sort_table.proofs.AddedStructs.{all_contained}
use Rattle.sort_table.proofs.Growing.{first_behind, paired, contains_behind, contains_after, in_either, stands_after, has_stood}
use Rattle.sort_table.proofs.GrowingTexts.{flat_behind}
use Rattle.sort_table.proofs.ListForms.{entry_found}
use Rattle.sort_table.proofs.OneSort.{one_sort}
use Rattle.sort_table.proofs.SameEmptiness.{empty_sorts_are_empty_in_each_vocabulary}
use Rattle.sort_table.proofs.StandingNames.{declared_names_stand}
use Rattle.lps_printer.specs.WrittenProcesses.{TextNames, sort_written, start_written}
use Rattle.lps_printer.specs.CopiedSections.{kept_sections}
use Rattle.lps_printer.specs.LinearBack.{EachTwo}
use Rattle.lps_printer.specs.AddedDeclarations.{name_at, empty_list_declared, action_declared}
use Rattle.lps_printer.specs.DeclaredAdditions.{field_declared, constructor_declared, declaration_of}
use Rattle.lps_printer.specs.GrowingByAdditions.{Struct, added_structs, added_constants, added_actions}
use Rattle.lps_printer.specs.GrownTexts.{mapping_declared}
use Rattle.lps_printer.specs.SignatureNames.{text_names_under}
use Rattle.lps_printer.specs.PrintedDeclarations.{IsEquation, WhatIsAddedIsDeclared, CanBeListed, process_declared, DeclaresMore, printed_declared, AreSoundOver, PrintedDeclarationsAreSound}
use Rattle.lps_printer.proofs.TwoOfLists.{in_front, behind_one, in_nothing, in_mapped, all_from, all_weaker, all_mapped, all_unmapped, all_flat, two_both, two_at, two_weaker, two_unmapped, Within, within_flat, within_all, within_contains, within_two}
use Rattle.lps_printer.proofs.TextItems.{fixed_by, vars_by, is_action, is_process, name_of, again_name, NotAgain, HasOtherVariables, AreOthers, ItemsDiffer, items_differ, fixed_stands, nothing_again}
use Rattle.lps_printer.proofs.KeptDeclarations.{kept_within, kept_names, IsNoProcess, kept_without_processes, kept_kinds, kept_functions, kept_actions}
use Rattle.lps_printer.proofs.AddedVocabularies.{flat_ones, HasSortsBelow, structs_below, constants_below, additions_have_vocabulary}
use Rattle.lps_printer.proofs.ApartAdditions.{Other, Apart, ActionsApart, acts_in, structs_in, mappings_in, action_names, struct_names, constant_names, names_apart, actions_apart, structs_in_front}
use Rattle.lps_printer.proofs.GrowingByConstants.{two_by}
use Rattle.lps_printer.proofs.GrownSorts.{read_still}
use Rattle.term_pool.proofs.DeclaredConstants.{grown_itself}
use Rattle.lps_core.proofs.Members.{map_contains}

-- ---- declarations of equations
of_equation : (Q : Declaration → Type 0) → ((c : _) (l r : _) → Q (equation c l r)) → (d : Declaration) → IsEquation d → Q d
of_equation Q f (sorts ns) is = absurd is
of_equation Q f (alias n e) is = absurd is
of_equation Q f (struct n cs) is = absurd is
of_equation Q f (constructors fs es to) is = absurd is
of_equation Q f (mappings fs es to) is = absurd is
of_equation Q f (variables vs) is = absurd is
of_equation Q f (equation c l r) is = f c l r
of_equation Q f (actions as_ es) is = absurd is
of_equation Q f (process p vs body) is = absurd is
of_equation Q f (initial body) is = absurd is

no_equations : {B : Type 0} (by : Declaration → List B) → ((c : _) (l r : _) → by (equation c l r) ≡ []) → (es : List Declaration) → AllByRecursion IsEquation es → flat_map by es ≡ []
no_equations by none [] h = refl
no_equations by none (e ∷ es) h = ap₂ (λ xs ys. xs ++ ys) (of_equation (λ d. by d ≡ []) none e h.0) (no_equations by none es h.1)

-- ---- known names
abbrev IsKnown : List (Name × Kind) → Name → Type 0
IsKnown ks n = is_some (first_named n ks) ≡ true

abbrev UsesKnown : List (Name × Kind) → Declaration → Type 0
UsesKnown ks d = find (λ n. not (is_some (first_named n ks))) (sorts_used d) ≡ None

none_unknown : (ks : List (Name × Kind)) (ns : List Name) → AllByRecursion (IsKnown ks) ns → find (λ n. not (is_some (first_named n ks))) ns ≡ None
none_unknown ks [] h = refl
none_unknown ks (n ∷ ns) h = ap (λ b. cond (not b) (Some n) (find (λ m. not (is_some (first_named m ks))) ns)) h.0 ∙ none_unknown ks ns h.1

-- the name of what stands for a sort is declared
standing_known : (ks : List (Name × Kind)) (u : UnderNames) → ((n : Name) (k : Kind) → u.sort n ≡ Some k → first_named n ks ≡ Some k) → (e r : SortExpression) → StandsFor u e r → AllByRecursion (IsKnown ks) (name_in e)
standing_known ks u f _ _ for_truth_values = tt
standing_known ks u f _ _ for_positives = tt
standing_known ks u f _ _ for_naturals = tt
standing_known ks u f _ _ for_integers = tt
standing_known ks u f _ _ (for_lists e s h) = standing_known ks u f e s h
standing_known ks u f _ _ (for_plain n h) = (ap is_some (f n _ h), tt)
standing_known ks u f _ _ (for_struct n h) = (ap is_some (f n _ h), tt)
standing_known ks u f _ _ (for_alias n e s h r) = (ap is_some (f n _ h), tt)

-- what was known is known where more is declared
still_known : (ks ls : List (Name × Kind)) → ((n : Name) → is_some (first_named n ks) ≡ true → is_some (first_named n ls) ≡ true) → (ns : List Name) → find (λ n. not (is_some (first_named n ks))) ns ≡ None → AllByRecursion (IsKnown ls) ns
still_known ks ls w [] e = tt
still_known ks ls w (n ∷ ns) e = by_test (is_some (first_named n ks)) refl (still_known ks ls w ns) e
  where
    by_test : (b : Bool) → is_some (first_named n ks) ≡ b → (find (λ m. not (is_some (first_named m ks))) ns ≡ None → AllByRecursion (IsKnown ls) ns) → cond (not b) (Some n) (find (λ m. not (is_some (first_named m ks))) ns) ≡ None
        → AllByRecursion (IsKnown ls) (n ∷ ns)
    by_test true known rest q = (w n known, rest q)
    by_test false unknown rest q = absurd (none-some n (sym q))

-- ---- the same sorts under other names
abbrev sorts_of_item : Item → List SortExpression
sorts_of_item (a_function f es) = es
sorts_of_item (an_action a es) = es
sorts_of_item (a_sort n) = []
sorts_of_item (a_process p) = []
sorts_of_item (a_variable k x) = []

module _ (u w : UnderNames) (kept : (n : Name) (k : Kind) → u.sort n ≡ Some k → w.sort n ≡ Some k) where
  -- what stands for a sort in both stands for the same one
  one_before : (e r s : SortExpression) → StandsFor u e r → StandsFor w e s → StandsFor u e s
  one_before e r s h k = subst (StandsFor u e) (one_sort w e r s (stands_after u w kept e r h) k) h

  each_before : (es rs ss : List SortExpression) → StandForEach u es rs → StandForEach w es ss → StandForEach u es ss
  each_before _ _ _ no_sorts no_sorts = no_sorts
  each_before _ _ _ (and_sort e r es rs h hs) (and_sort _ s _ ss k ks) = and_sort e s es ss (one_before e r s h k) (each_before es rs ss hs ks)

  abbrev Stand : List SortExpression → Type 0
  Stand es = (rs : List SortExpression) × StandForEach u es rs

  same_before : (es fs : List SortExpression) → Stand es → Stand fs → SameSorts w es fs → SameSorts u es fs
  same_before es fs a b (ss, k, l) = (ss, each_before es a.0 ss a.1 k, each_before fs b.0 ss b.1 l)

  again_before : (x y : Item) → Stand (sorts_of_item x) → Stand (sorts_of_item y) → IsAgain w x y → IsAgain u x y
  again_before _ _ p q (sort_again n) = sort_again n
  again_before _ _ p q (function_again f es fs s) = function_again f es fs (same_before es fs p q s)
  again_before _ _ p q (action_again a es fs s) = action_again a es fs (same_before es fs p q s)
  again_before _ _ p q (process_again p_) = process_again p_
  again_before _ _ p q (process_as_action n es) = process_as_action n es
  again_before _ _ p q (action_as_process n es) = action_as_process n es
  again_before _ _ p q (variable_again k x) = variable_again k x

-- ---- the items of a text have sorts in each of its vocabularies
of_functions : (fs : List Named) (x : Item) → Contains (map function_item fs) x → (f : Named) × Contains fs f × (sorts_of_item x ≡ f.1.arguments)
of_functions fs x c = let r = in_mapped function_item fs x c in (r.0, r.1, ap sorts_of_item (sym r.2))

abbrev HasSortsBy : Declaration → Item → Type 0
HasSortsBy d x = ((f : Named) × Contains (functions_by d) f × (sorts_of_item x ≡ f.1.arguments)) ⊎ (((a : Name × List SortExpression) × Contains (actions_by d) a × (sorts_of_item x ≡ a.1)) ⊎ (sorts_of_item x ≡ []))

item_by : (d : Declaration) (x : Item) → Contains (fixed_by d) x → HasSortsBy d x
item_by (sorts ns) x c = inr (inr (let r = in_mapped a_sort ns x c in ap sorts_of_item (sym r.2)))
item_by (alias n e) x (zero, l, q) = inr (inr (ap sorts_of_item (sym q)))
item_by (alias n e) x (suc i, l, q) = absurd (omega (arith, l))
item_by (struct n cs) x (zero, l, q) = inr (inr (ap sorts_of_item (sym q)))
item_by (struct n cs) x (suc i, l, q) = inl (of_functions (functions_by (struct n cs)) x (i, omega (arith, l), q))
item_by (constructors fs es to) x c = inl (of_functions (functions_by (constructors fs es to)) x c)
item_by (mappings fs es to) x c = inl (of_functions (functions_by (mappings fs es to)) x c)
item_by (variables vs) x c = in_nothing x c
item_by (equation c_ l r) x c = in_nothing x c
item_by (actions as_ es) x c = inr (inl (let r = in_mapped (λ a. an_action a es) as_ x c in ((r.0, es), map_contains (λ a. (a, es)) as_ r.0 r.1, ap sorts_of_item (sym r.2))))
item_by (process p vs body) x (zero, l, q) = inr (inr (ap sorts_of_item (sym q)))
item_by (process p vs body) x (suc i, l, q) = absurd (omega (arith, l))
item_by (initial body) x c = in_nothing x c

has_sort : (by : Declaration → Item → Type 0) → ((d : Declaration) (x : Item) → Contains (fixed_by d) x → by d x) → (ds : List Declaration) (x : Item) → Contains (flat_map fixed_by ds) x → (d : Declaration) × Contains ds d × by d x
has_sort by each [] x c = in_nothing x c
has_sort by each (d ∷ ds) x c = ⊎_elim (λ here. (d, in_front d ds, each d x here)) (λ there. (let r = has_sort by each ds x there in (r.0, behind_one d ds r.0 r.1, r.2))) (in_either (fixed_by d) (flat_map fixed_by ds) x c)

in_flat : {A B : Type 0} (f : A → List B) (xs : List A) (x : A) (y : B) → Contains xs x → Contains (f x) y → Contains (flat_map f xs) y
in_flat f [] x y c k = in_nothing x c
in_flat f (z ∷ xs) x y (zero, l, e) k = contains_behind (f z) (flat_map f xs) y (subst (λ w. Contains (f w) y) (sym e) k)
in_flat f (z ∷ xs) x y (suc i, l, e) k = contains_after (f z) (flat_map f xs) y (in_flat f xs x y (i, omega (arith, l), e) k)

named_among : {A : Type 0} (rs : List (Name × A)) (r : Name × A) → Contains rs r → Contains (all_named r.0 rs) r.1
named_among [] r c = in_nothing r c
named_among {A = A} (q ∷ rs) r (zero, l, e) =
    let is : bytes_eq q.0 r.0 ≡ true = (bytes_eq-Decides q.0 r.0).1 (ap (λ (y : Name × A). y.0) e) in
    subst (λ (b : Bool). Contains (cond b (q.1 ∷ all_named r.0 rs) (all_named r.0 rs)) r.1) (sym is) (zero, omega arith, ap (λ (y : Name × A). y.1) e)
named_among (q ∷ rs) r (suc i, l, e) = by_test (bytes_eq q.0 r.0) (named_among rs r (i, omega (arith, l), e))
  where
    by_test : (b : Bool) → Contains (all_named r.0 rs) r.1 → Contains (cond b (q.1 ∷ all_named r.0 rs) (all_named r.0 rs)) r.1
    by_test true c = behind_one q.1 (all_named r.0 rs) r.1 c
    by_test false c = c

-- what has sorts stands for some
each_stands : (u : UnderNames) (v : Vocabulary) → HasSorts u v → (es : List SortExpression) (ss : List Sort) → sorts_in v.sort_names es ≡ Some ss → (rs : List SortExpression) × StandForEach u es rs
each_stands u v is [] ss h = ([], no_sorts)
each_stands u v is (e ∷ es) ss h = of_first (λ rs q. each_stands u v is es rs q) (sort_in v.sort_names e) refl h
  where
    of_rest : ((rs : List Sort) → sorts_in v.sort_names es ≡ Some rs → (ts : List SortExpression) × StandForEach u es ts) → (s : Sort) → sort_in v.sort_names e ≡ Some s → (o : Option (List Sort)) → sorts_in v.sort_names es ≡ o → option_map (λ rs. s ∷ rs) o ≡ Some ss
        → (rs : List SortExpression) × StandForEach u (e ∷ es) rs
    of_rest rest s p None q k = absurd (none-some ss k)
    of_rest rest s p (Some rs) q k = (let a = has_stood u v is e s p in let b = rest rs q in (a.0 ∷ b.0, and_sort e a.0 es b.0 a.1 b.1))

    of_first : ((rs : List Sort) → sorts_in v.sort_names es ≡ Some rs → (ts : List SortExpression) × StandForEach u es ts) → (o : Option Sort) → sort_in v.sort_names e ≡ o → option_and_then (λ s. option_map (λ rs. s ∷ rs) (sorts_in v.sort_names es)) o ≡ Some ss
        → (rs : List SortExpression) × StandForEach u (e ∷ es) rs
    of_first rest None q k = absurd (none-some ss k)
    of_first rest (Some s) q k = of_rest rest s q (sorts_in v.sort_names es) refl k

items_stand : (ds : List Declaration) (v : Vocabulary) → IsVocabularyOf (under_names ds) v → (x : Item) → Contains (flat_map fixed_by ds) x → (rs : List SortExpression) × StandForEach (under_names ds) (sorts_of_item x) rs
items_stand ds v is x c =
    let u = under_names ds in
    let r = has_sort HasSortsBy item_by ds x c in
    let Goal = λ (es : List SortExpression). (rs : List SortExpression) × StandForEach u es rs in
    ⊎_elim
    (λ f. (let k = paired (IsFunction u v) (all_named f.0.0 (functions_in ds)) (all_named f.0.0 v.function_names) f.0.1 (is.functions.each f.0.0) (named_among (functions_in ds) f.0 (in_flat functions_by ds r.0 f.0 r.1 f.1)) in
    subst Goal (sym f.2) (each_stands u v is.sorts f.0.1.arguments (function_at v.tables k.0).arguments k.1.arguments)))
    (λ rest. ⊎_elim
    (λ a. (let k = paired (AreSortsOf v) (all_named a.0.0 (actions_in ds)) (all_named a.0.0 v.actions) a.0.1 (is.actions a.0.0) (named_among (actions_in ds) a.0 (in_flat actions_by ds r.0 a.0 r.1 a.1)) in
    subst Goal (sym a.2) (each_stands u v is.sorts a.0.1 k.0 k.1)))
    (λ e. subst Goal (sym e) ([], no_sorts)) rest) r.2

-- ---- the actions of a text are in each of its vocabularies
abbrev DeclaresAction : Declaration → Item → Type 0
DeclaresAction d (an_action a es) = Contains (actions_by d) (a, es)
DeclaresAction d (a_sort n) = Unit {0}
DeclaresAction d (a_function f es) = Unit {0}
DeclaresAction d (a_process p) = Unit {0}
DeclaresAction d (a_variable k x) = Unit {0}

functions_only : (d : Declaration) (fs : List Named) → AllByRecursion (DeclaresAction d) (map function_item fs)
functions_only d fs = all_mapped (DeclaresAction d) function_item fs (all_from (λ f. Unit {0}) fs (λ f c. tt))

action_by : (d : Declaration) → AllByRecursion (DeclaresAction d) (fixed_by d)
action_by (sorts ns) = all_mapped (DeclaresAction (sorts ns)) a_sort ns (all_from (λ n. Unit {0}) ns (λ n c. tt))
action_by (alias n e) = (tt, tt)
action_by (struct n cs) = (tt, functions_only (struct n cs) (functions_by (struct n cs)))
action_by (constructors fs es to) = functions_only (constructors fs es to) (functions_by (constructors fs es to))
action_by (mappings fs es to) = functions_only (mappings fs es to) (functions_by (mappings fs es to))
action_by (variables vs) = tt
action_by (equation c l r) = tt
action_by (actions as_ es) = all_mapped (DeclaresAction (actions as_ es)) (λ a. an_action a es) as_ (all_from (λ a. Contains (actions_by (actions as_ es)) (a, es)) as_ (λ a c. map_contains (λ b. (b, es)) as_ a c))
action_by (process p vs body) = (tt, tt)
action_by (initial body) = tt

-- where something is paired with what has a name, something has the name
one_is_named : {A B : Type 0} (Q : A → B → Type 0) (a : Name) (xs : List A) (rs : List (Name × B)) (x : A) → EachPair Q xs (all_named a rs) → Contains xs x → (y : B) × Contains rs (a, y)
one_is_named Q a [] rs x pairs c = in_nothing x c
one_is_named Q a (z ∷ xs) [] x pairs c = absurd pairs
one_is_named {B = B} Q a (z ∷ xs) (r ∷ rs) x pairs c = by_test (bytes_eq r.0 a) refl (one_is_named Q a (z ∷ xs) rs x) pairs
  where
    by_test : (b : Bool) → bytes_eq r.0 a ≡ b → (EachPair Q (z ∷ xs) (all_named a rs) → Contains (z ∷ xs) x → (y : B) × Contains rs (a, y)) → EachPair Q (z ∷ xs) (cond b (r.1 ∷ all_named a rs) (all_named a rs))
        → (y : B) × Contains (r ∷ rs) (a, y)
    by_test true is later all = (r.1, subst (λ n. Contains (r ∷ rs) (n, r.1)) ((bytes_eq-Decides r.0 a).0 is) (in_front r rs))
    by_test false is later all = let e = later all c in (e.0, behind_one r rs (a, e.0) e.1)

action_stands : (ds : List Declaration) (v : Vocabulary) → IsVocabularyOf (under_names ds) v → (a : Name) (es : List SortExpression) → Contains (flat_map fixed_by ds) (an_action a es) → (ss : List Sort) × Contains v.actions (a, ss)
action_stands ds v is a es c =
    let r = has_sort DeclaresAction (λ d x k. all_contained (DeclaresAction d) (fixed_by d) x (action_by d) k) ds (an_action a es) c in
    one_is_named (AreSortsOf v) a (all_named a (actions_in ds)) v.actions es (is.actions a) (named_among (actions_in ds) (a, es) (in_flat actions_by ds r.0 (a, es) r.1 r.2))

map_flat : {A B C : Type 0} (f : B → C) (k : A → List B) (xs : List A) → map f (flat_map k xs) ≡ flat_map (λ x. map f (k x)) xs
map_flat f k [] = refl
map_flat f k (x ∷ xs) = map-append f (k x) (flat_map k xs) ∙ ap (λ ys. map f (k x) ++ ys) (map_flat f k xs)

map_map : {A B C : Type 0} (f : A → B) (k : B → C) (xs : List A) → map (λ x. k (f x)) xs ≡ map k (map f xs)
map_map f k [] = refl
map_map f k (x ∷ xs) = ap (λ ys. k (f x) ∷ ys) (map_map f k xs)

-- ---- sorts and functions are no processes
abbrev is_datum : Item → Bool
is_datum (a_function f es) = true
is_datum (a_sort n) = true
is_datum (a_variable k x) = false
is_datum (an_action a es) = false
is_datum (a_process p) = false

again_datum : {u : UnderNames} (x y : Item) → IsAgain u x y → is_datum x ≡ is_datum y
again_datum _ _ (sort_again n) = refl
again_datum _ _ (function_again f es fs s) = refl
again_datum _ _ (action_again a es fs s) = refl
again_datum _ _ (process_again p) = refl
again_datum _ _ (process_as_action n es) = refl
again_datum _ _ (action_as_process n es) = refl
again_datum _ _ (variable_again k x) = refl

-- ---- lists of variables
not_twice : (vs : Variables) → EachTwo (λ (x y : Name × SortExpression). x.0 ≢ y.0) vs → ¬ (StandsTwice vs)
not_twice vs e (i, j, n, a, b, l, p, q) = two_at (λ (x y : Name × SortExpression). x.0 ≢ y.0) vs i j (n, a) (n, b) e l p q refl

no_variables : (ds : List Declaration) → AllByRecursion (λ (d : Declaration). vars_by d ≡ []) ds → flat_map vars_by ds ≡ []
no_variables [] h = refl
no_variables (d ∷ ds) h = ap₂ (λ xs ys. xs ++ ys) h.0 (no_variables ds h.1)

in_sections : (P : Declaration → Type 0) (Q : Section → Type 0) → ((s : Section) → AllByRecursion P s.declarations → Q s) → (ss : List Section) → AllByRecursion P (declarations_in ss) → AllByRecursion Q ss
in_sections P Q f [] h = tt
in_sections P Q f (s ∷ ss) h = (f s (front s.declarations h), in_sections P Q f ss (back s.declarations h))
  where
    front : (ds : List Declaration) → AllByRecursion P (ds ++ declarations_in ss) → AllByRecursion P ds
    front [] k = tt
    front (d ∷ ds) k = (k.0, front ds k.1)

    back : (ds : List Declaration) → AllByRecursion P (ds ++ declarations_in ss) → AllByRecursion P (declarations_in ss)
    back [] k = k
    back (d ∷ ds) k = back ds k.1

abbrev is_alias : Declaration → Bool
is_alias (alias n e) = true
is_alias (sorts ns) = false
is_alias (struct n cs) = false
is_alias (constructors fs es to) = false
is_alias (mappings fs es to) = false
is_alias (variables vs) = false
is_alias (equation c l r) = false
is_alias (actions as_ es) = false
is_alias (process p vs body) = false
is_alias (initial body) = false

-- ---- a printed text
module _ (spec : PlainSpec) (g h : Sig) (added : List Section) (x : Name) (l : Linear) (ts : List Term) (m : DeclaresMore spec g h added x l) where
  abbrev n : TextNames
  n = text_names_under h x

  abbrev own : List Section
  own = bare_sections spec

  abbrev copied : List Section
  copied = map bare_section (kept_sections spec.sections)

  abbrev O : List Declaration
  O = declarations_in own

  abbrev C : List Declaration
  C = declarations_in copied

  abbrev N : List Declaration
  N = acts_in g m.stands h x m.grows

  abbrev S : List Declaration
  S = structs_in g m.stands h x m.grows

  abbrev M : List Declaration
  M = mappings_in g m.stands h x m.grows

  abbrev E : List Declaration
  E = m.additions.equations

  abbrev P : Declaration
  P = process_declared n l

  abbrev I : Declaration
  I = initial (start_written n ts)

  abbrev ss : List Section
  ss = printed_declared spec added n l ts

  abbrev ds : List Declaration
  ds = declarations_in ss

  abbrev u : UnderNames
  u = under_names O

  abbrev w : UnderNames
  w = under_names ds

  abbrev behind : List Declaration
  behind = N ++ (S ++ (M ++ (E ++ (P ∷ I ∷ []))))

  its_declarations : ds ≡ C ++ behind
  its_declarations =
      flat_behind (λ (s : Section). s.declarations) (copied ++ added) _
      ∙ (ap (λ xs. xs ++ (P ∷ I ∷ [])) (flat_behind (λ (s : Section). s.declarations) copied added ∙ ap (λ xs. C ++ xs) m.additions.declared)
      ∙ (append_assoc C (N ++ (S ++ (M ++ E))) (P ∷ I ∷ [])
      ∙ ap (λ xs. C ++ xs) (append_assoc N (S ++ (M ++ E)) (P ∷ I ∷ []) ∙ ap (λ xs. N ++ xs) (append_assoc S (M ++ E) (P ∷ I ∷ []) ∙ ap (λ xs. S ++ xs) (append_assoc M E (P ∷ I ∷ []))))))

  -- what declarations give, where equations give nothing
  module _ {B : Type 0} (by : Declaration → List B) (none : (c : _) (f r : _) → by (equation c f r) ≡ []) where
    in_parts : flat_map by ds ≡ flat_map by C ++ (flat_map by N ++ (flat_map by S ++ (flat_map by M ++ (by P ++ (by I ++ [])))))
    in_parts =
        ap (flat_map by) its_declarations
        ∙ (flat_behind by C behind ∙ ap (λ xs. flat_map by C ++ xs) (flat_behind by N (S ++ (M ++ (E ++ (P ∷ I ∷ [])))) ∙ ap (λ xs. flat_map by N ++ xs) (flat_behind by S (M ++ (E ++ (P ∷ I ∷ [])))
        ∙ ap (λ xs. flat_map by S ++ xs) (flat_behind by M (E ++ (P ∷ I ∷ []))
        ∙ ap (λ xs. flat_map by M ++ xs) (flat_behind by E (P ∷ I ∷ []) ∙ ap (λ xs. xs ++ flat_map by (P ∷ I ∷ [])) (no_equations by none E m.additions.others))))))

  in_both : {B : Type 0} (by : Declaration → List B) → flat_map by (O ++ (N ++ (S ++ M))) ≡ flat_map by O ++ (flat_map by N ++ (flat_map by S ++ flat_map by M))
  in_both by = flat_behind by O (N ++ (S ++ M)) ∙ ap (λ xs. flat_map by O ++ xs) (flat_behind by N (S ++ M) ∙ ap (λ xs. flat_map by N ++ xs) (flat_behind by S M))

  -- ---- what stands under its names
  same_kinds : kinds_in ds ≡ kinds_in (O ++ (N ++ (S ++ M)))
  same_kinds =
      in_parts kinds_by (λ c f r. refl) ∙ ap₂ (λ xs ys. xs ++ ys) (kept_kinds spec.sections m.placed) (ap (λ xs. kinds_in N ++ (kinds_in S ++ xs)) (append-nil (kinds_in M))) ∙ sym (in_both kinds_by)

  same_actions : actions_in ds ≡ actions_in (O ++ (N ++ (S ++ M)))
  same_actions =
      in_parts actions_by (λ c f r. refl) ∙ ap₂ (λ xs ys. xs ++ ys) (kept_actions spec.sections m.placed) (ap (λ xs. actions_in N ++ (actions_in S ++ xs)) (append-nil (actions_in M))) ∙ sym (in_both actions_by)

  same_functions : functions_in ds ≡ functions_in (O ++ (N ++ (S ++ M)))
  same_functions =
      in_parts functions_by (λ c f r. refl) ∙ ap₂ (λ xs ys. xs ++ ys) (kept_functions spec.sections m.placed) (ap (λ xs. functions_in N ++ (functions_in S ++ xs)) (append-nil (functions_in M))) ∙ sym (in_both functions_by)

  under_printed : w ≡ under_names (O ++ (N ++ (S ++ M)))
  under_printed = λ i. record { sort = λ y. first_named y (same_kinds i); functions = λ f. all_named f (same_functions i); actions = λ a. all_named a (same_actions i) }

  its_vocabulary : IsVocabularyOf w (vocabulary_of h)
  its_vocabulary =
      subst (λ (y : UnderNames). IsVocabularyOf y (vocabulary_of h)) (structs_in_front g m.stands h x O m.grows (grown_itself h) ∙ sym under_printed)
      (additions_have_vocabulary g m.stands h x O m.vocabulary (declared_names_stand O m.sound.known m.sound.no_cycle) m.grows (grown_itself h)).0

  kept : (y : Name) (k : Kind) → u.sort y ≡ Some k → w.sort y ≡ Some k
  kept y k q = ap (first_named y) (same_kinds ∙ flat_behind kinds_by O (N ++ (S ++ M))) ∙ first_behind y (kinds_in O) (kinds_in (N ++ (S ++ M))) k q

  -- ---- sort names
  has_known : (e : SortExpression) (s : Sort) → sort_in (vocabulary_of h).sort_names e ≡ Some s → AllByRecursion (IsKnown (kinds_in ds)) (name_in e)
  has_known e s q = let r = has_stood w (vocabulary_of h) its_vocabulary.sorts e s q in standing_known (kinds_in ds) w (λ y k k_. k_) e r.0 r.1

  sort_known : (s : SortId) → s.0 < length h.sorts → AllByRecursion (IsKnown (kinds_in ds)) (name_in (sort_written n (sort_under h s)))
  sort_known s low = has_known (sort_written n (sort_under h s)) (sort_under h s) (read_still h h m.stands_later (grown_itself h) x s low)

  known_variables : (vs : Variables) → CanBeListed (vocabulary_of h).sort_names vs → AllByRecursion (IsKnown (kinds_in ds)) (names_of_variables vs)
  known_variables vs can = all_flat (IsKnown (kinds_in ds)) (λ (v : Name × SortExpression). name_in v.1) vs
      (all_weaker (λ (y : Name × SortExpression). (s : Sort) × (sort_in (vocabulary_of h).sort_names y.1 ≡ Some s)) (λ (y : Name × SortExpression). AllByRecursion (IsKnown (kinds_in ds)) (name_in y.1)) (λ y s. has_known y.1 s.0 s.1) vs can.sorts)

  known_fields : (fs : List (Option NameId × SortId)) → All (λ (f : Option NameId × SortId). f.1.0 < length h.sorts) fs → AllByRecursion (IsKnown (kinds_in ds)) (flat_map (λ (f : Field). name_in f.sort) (map (field_declared h n) fs))
  known_fields [] all = tt
  known_fields (f ∷ fs) all =
      let Low = λ (y : Option NameId × SortId). y.1.0 < length h.sorts in
      all_both (IsKnown (kinds_in ds)) (name_in (sort_written n (sort_under h f.1))) (flat_map (λ (y : Field). name_in y.sort) (map (field_declared h n) fs)) (sort_known f.1 (All-head Low f fs all)) (known_fields fs (All-tail Low f fs all))

  known_constructors : (cs : List Con) → All (HasSortsBelow (length h.sorts)) cs → AllByRecursion (IsKnown (kinds_in ds)) (flat_map names_of_fields (map (constructor_declared h n) cs))
  known_constructors [] all = tt
  known_constructors (c ∷ cs) all =
      all_both (IsKnown (kinds_in ds)) (flat_map (λ (y : Field). name_in y.sort) (map (field_declared h n) c.fields)) (flat_map names_of_fields (map (constructor_declared h n) cs))
      (known_fields c.fields (All-head (HasSortsBelow (length h.sorts)) c cs all)) (known_constructors cs (All-tail (HasSortsBelow (length h.sorts)) c cs all))

  known_actions : AllByRecursion (UsesKnown (kinds_in ds)) N
  known_actions = all_mapped (UsesKnown (kinds_in ds)) (action_declared h) (added_actions m.grows) (all_from (λ a. UsesKnown (kinds_in ds) (action_declared h a)) (added_actions m.grows) (λ a c. refl))

  known_structs : AllByRecursion (UsesKnown (kinds_in ds)) S
  known_structs = all_mapped (UsesKnown (kinds_in ds)) (declaration_of h n) (added_structs m.grows)
      (all_weaker (λ (s : Struct). All (HasSortsBelow (length h.sorts)) s.1) (λ (s : Struct). UsesKnown (kinds_in ds) (declaration_of h n s)) (λ s all. none_unknown (kinds_in ds) (sorts_used (declaration_of h n s)) (known_constructors s.1 all)) (added_structs m.grows)
      (structs_below g m.stands h m.grows (grown_itself h)))

  known_mappings : AllByRecursion (UsesKnown (kinds_in ds)) M
  known_mappings = all_mapped (UsesKnown (kinds_in ds)) (mapping_declared h n) (added_constants m.grows)
      (all_weaker (λ (c : NameId × SortId). c.1.0 < length h.sorts) (λ (c : NameId × SortId). UsesKnown (kinds_in ds) (mapping_declared h n c)) (λ c low. none_unknown (kinds_in ds) (name_in (sort_written n (sort_under h c.1))) (sort_known c.1 low)) (added_constants m.grows)
      (constants_below g m.stands h m.grows (grown_itself h)))

  known_process : UsesKnown (kinds_in ds) P
  known_process = none_unknown (kinds_in ds) (sorts_used P)
      (all_flat (IsKnown (kinds_in ds)) names_of_variables (variable_lists P)
      (all_weaker (CanBeListed (vocabulary_of h).sort_names) (λ (vs : Variables). AllByRecursion (IsKnown (kinds_in ds)) (names_of_variables vs)) known_variables (variable_lists P) m.listed))

  declarations_within : Within C O
  declarations_within = within_flat (λ (s : Section). s.declarations) (kept_within spec.sections)

  was_known : (y : Name) → is_some (first_named y (kinds_in O)) ≡ true → is_some (first_named y (kinds_in ds)) ≡ true
  was_known y e = let k = entry_found (first_named y (kinds_in O)) e in ap is_some (kept y k.0 k.1)

  its_known : AllAreKnown ds
  its_known =
      let uses = UsesKnown (kinds_in ds) in
      subst (AllByRecursion uses) (sym its_declarations)
      (all_both uses C behind
      (all_weaker (UsesKnown (kinds_in O)) uses (λ d k. none_unknown (kinds_in ds) (sorts_used d) (still_known (kinds_in O) (kinds_in ds) was_known (sorts_used d) k)) C (within_all (UsesKnown (kinds_in O)) declarations_within m.sound.known))
      (all_both uses N (S ++ (M ++ (E ++ (P ∷ I ∷ [])))) known_actions
      (all_both uses S (M ++ (E ++ (P ∷ I ∷ []))) known_structs
      (all_both uses M (E ++ (P ∷ I ∷ [])) known_mappings
      (all_both uses E (P ∷ I ∷ []) (all_weaker IsEquation uses (of_equation uses (λ c f r. refl)) E m.additions.others) (known_process, (refl, tt)))))))

  -- what holds of each declaration behind the copied ones
  all_behind : (Q : Declaration → Type 0) → ((k : NameId) → Q (action_declared h k)) → ((s : Struct) → Q (declaration_of h n s)) → ((c : NameId × SortId) → Q (mapping_declared h n c)) → ((c : _) (f r : _) → Q (equation c f r)) → Q P → Q I → AllByRecursion Q behind
  all_behind Q act a b c p i =
      all_both Q N (S ++ (M ++ (E ++ (P ∷ I ∷ [])))) (all_mapped Q (action_declared h) (added_actions m.grows) (all_from (λ k. Q (action_declared h k)) (added_actions m.grows) (λ k j. act k)))
      (all_both Q S (M ++ (E ++ (P ∷ I ∷ []))) (all_mapped Q (declaration_of h n) (added_structs m.grows) (all_from (λ s. Q (declaration_of h n s)) (added_structs m.grows) (λ s k. a s)))
      (all_both Q M (E ++ (P ∷ I ∷ [])) (all_mapped Q (mapping_declared h n) (added_constants m.grows) (all_from (λ y. Q (mapping_declared h n y)) (added_constants m.grows) (λ y k. b y)))
      (all_both Q E (P ∷ I ∷ []) (all_weaker IsEquation Q (of_equation Q c) E m.additions.others) (p, (i, tt)))))

  -- ---- cycles
  abbrev IsNoAlias : Declaration → Type 0
  IsNoAlias d = is_alias d ≡ false

  no_alias_behind : AllByRecursion IsNoAlias behind
  no_alias_behind = all_behind IsNoAlias (λ k. refl) (λ s. refl) (λ c. refl) (λ c f r. refl) refl refl

  its_alias : (y : Name) (e : SortExpression) → Contains ds (alias y e) → Contains O (alias y e)
  its_alias y e c = ⊎_elim (λ here. within_contains (alias y e) declarations_within here) (λ there. (let never : true ≡ false = all_contained IsNoAlias behind (alias y e) no_alias_behind there in absurd cc))
      (in_either C behind (alias y e) (subst (λ xs. Contains xs (alias y e)) its_declarations c))

  refers_then : (a b : Name) → Refers ds a b → Refers O a b
  refers_then a b (e, there, uses) = (e, its_alias a e there, uses)

  refer_then : (first a : Name) (ns : List Name) → ReferOn ds first a ns → ReferOn O first a ns
  refer_then first a [] r = refers_then a first r
  refer_then first a (b ∷ ns) r = (refers_then a b r.0, refer_then first b ns r.1)

  its_no_cycle : NoCycle ds
  its_no_cycle [] is = is
  its_no_cycle (a ∷ ns) is = m.sound.no_cycle (a ∷ ns) (refer_then a a ns is)

  -- ---- what is declared once
  abbrev action_items : List Item
  action_items = flat_map fixed_by N

  abbrev struct_items : List Item
  struct_items = flat_map fixed_by S

  abbrev mapping_items : List Item
  mapping_items = flat_map fixed_by M

  abbrev other_items : List Item
  other_items = struct_items ++ (mapping_items ++ (a_process x ∷ []))

  abbrev more_items : List Item
  more_items = action_items ++ other_items

  its_items : flat_map fixed_by ds ≡ flat_map fixed_by C ++ more_items
  its_items = in_parts fixed_by (λ c f r. refl)

  apart : Apart g h (struct_names g m.stands h x m.grows) (constant_names g m.stands h x m.grows)
  apart = names_apart g m.stands h x m.grows (grown_itself h)

  acts_apart : ActionsApart g (action_names g m.stands h x m.grows)
  acts_apart = actions_apart g m.stands h x m.grows (grown_itself h)

  action_items_are : action_items ≡ map (λ (a : NameId). an_action (text_under h a) []) (added_actions m.grows)
  action_items_are = flat_ones fixed_by (action_declared h) (λ (a : NameId). an_action (text_under h a) []) (λ a. refl) (added_actions m.grows)

  action_items_named : map name_of action_items ≡ action_names g m.stands h x m.grows
  action_items_named = ap (map name_of) action_items_are ∙ sym (map_map (λ (a : NameId). an_action (text_under h a) []) name_of (added_actions m.grows))

  struct_items_named : map name_of struct_items ≡ struct_names g m.stands h x m.grows
  struct_items_named = map_flat name_of fixed_by S

  mapping_items_named : map name_of mapping_items ≡ constant_names g m.stands h x m.grows
  mapping_items_named =
      ap (map name_of) (flat_ones fixed_by (mapping_declared h n) (λ (c : NameId × SortId). a_function (text_under h c.0) []) (λ c. refl) (added_constants m.grows))
      ∙ sym (map_map (λ (c : NameId × SortId). a_function (text_under h c.0) []) name_of (added_constants m.grows))

  new_actions : AllByRecursion (λ (y : Item). IsNoAction g (name_of y)) action_items
  new_actions = all_unmapped (IsNoAction g) name_of action_items (subst (AllByRecursion (IsNoAction g)) (sym action_items_named) acts_apart.new)

  are_actions : AllByRecursion (λ (y : Item). is_action y ≡ true) action_items
  are_actions = subst (AllByRecursion (λ (y : Item). is_action y ≡ true)) (sym action_items_are)
      (all_mapped (λ (y : Item). is_action y ≡ true) (λ (a : NameId). an_action (text_under h a) []) (added_actions m.grows) (all_from (λ a. is_action (an_action (text_under h a) []) ≡ true) (added_actions m.grows) (λ a c. refl)))

  new_structs : AllByRecursion (λ (y : Item). ¬ (IsTaken g (name_of y))) struct_items
  new_structs = all_unmapped (λ (t : Name). ¬ (IsTaken g t)) name_of struct_items (subst (AllByRecursion (λ (t : Name). ¬ (IsTaken g t))) (sym struct_items_named) apart.structs_new)

  new_mappings : AllByRecursion (λ (y : Item). ¬ (IsTaken g (name_of y))) mapping_items
  new_mappings = all_unmapped (λ (t : Name). ¬ (IsTaken g t)) name_of mapping_items (subst (AllByRecursion (λ (t : Name). ¬ (IsTaken g t))) (sym mapping_items_named) apart.constants_new)

  new_names : AllByRecursion (λ (y : Item). ¬ (IsTaken g (name_of y))) other_items
  new_names =
      let IsNew = λ (y : Item). ¬ (IsTaken g (name_of y)) in
      all_both IsNew struct_items (mapping_items ++ (a_process x ∷ [])) new_structs (all_both IsNew mapping_items (a_process x ∷ []) new_mappings (m.new_process, tt))

  old_names : AllByRecursion (λ (y : Item). IsTaken g (name_of y)) (flat_map fixed_by C)
  old_names = kept_names (IsTaken g) spec.sections (all_from (IsTaken g) (copied_identifiers spec) m.taken)

  -- an item that is copied has sorts under the names of the text
  old_stand : (y : Item) → Contains (flat_map fixed_by C) y → (rs : List SortExpression) × StandForEach u (sorts_of_item y) rs
  old_stand y c = items_stand O (vocabulary_of g) m.vocabulary y (within_contains y (within_flat fixed_by declarations_within) c)

  old_differ : EachTwo (NotAgain w) (flat_map fixed_by C)
  old_differ =
      two_by (NotAgain u) (NotAgain w) (flat_map fixed_by C) (λ y z c d no again. no (again_before u w kept y z (old_stand y c) (old_stand z d) again))
      (within_two (NotAgain u) (within_flat fixed_by declarations_within) (items_differ own m.sound.once).fixed)

  -- an action that is copied is an action of the signature
  is_an_action : (a : Name) (es : List SortExpression) → Contains (flat_map fixed_by C) (an_action a es) → ¬ (IsNoAction g a)
  is_an_action a es c absent =
      let r = action_stands O (vocabulary_of g) m.vocabulary a es (within_contains (an_action a es) (within_flat fixed_by declarations_within) c) in
      let s = in_mapped (action_under g) g.actions (a, r.0) r.1 in
      let name = s.0.name in
      let low : name.0 < length g.texts = (All-contains (IsActionWithin (length g.texts) (length g.sorts)) g.actions s.0 m.stands.complete.within.actions s.1).named in
      absent name s.0 (slice_get-get_or g.texts name.0 [] low ∙ ap (λ (e : Name × List Sort). Some e.0) s.2) s.1 refl

  -- What is copied is no action that is added: only an action or a process could be, and no process is copied.
  no_added_action : (y z : Item) → Contains (flat_map fixed_by C) y → is_process y ≡ false → is_action z ≡ true → IsNoAction g (name_of z) → IsAgain w y z → ⊥
  no_added_action _ _ c other is absent (action_again a es fs s) = is_an_action a es c absent
  no_added_action _ _ c other is absent (process_as_action n_ es) = cc
  no_added_action _ _ c other is absent (sort_again n_) = cc
  no_added_action _ _ c other is absent (function_again f es fs s) = cc
  no_added_action _ _ c other is absent (process_again p) = cc
  no_added_action _ _ c other is absent (action_as_process n_ es) = cc
  no_added_action _ _ c other is absent (variable_again k y) = cc

  copied_and_added : (y z : Item) → Contains (flat_map fixed_by C) y → Contains more_items z → NotAgain w y z
  copied_and_added y z c d = ⊎_elim
      (λ act. no_added_action y z c (all_contained IsNoProcess (flat_map fixed_by C) y (kept_without_processes spec.sections m.placed) c) (all_contained (λ (k : Item). is_action k ≡ true) action_items z are_actions act)
      (all_contained (λ (k : Item). IsNoAction g (name_of k)) action_items z new_actions act))
      (λ other again. all_contained (λ (k : Item). ¬ (IsTaken g (name_of k))) other_items z new_names other (subst (IsTaken g) (again_name y z again) (all_contained (λ (k : Item). IsTaken g (name_of k)) (flat_map fixed_by C) y old_names c)))
      (in_either action_items other_items z d)

  -- two that have other names
  by_names : (xs : List Item) (names : List Name) → map name_of xs ≡ names → EachTwo Other names → EachTwo (NotAgain w) xs
  by_names xs names e two =
      two_weaker (λ (y z : Item). Other (name_of y) (name_of z)) (NotAgain w) (λ y z no again. no (again_name y z again)) xs (two_unmapped Other name_of xs (subst (EachTwo Other) (sym e) two))

  data_structs : AllByRecursion (λ (y : Item). is_datum y ≡ true) struct_items
  data_structs = all_flat (λ (y : Item). is_datum y ≡ true) fixed_by S
      (all_mapped (λ d. AllByRecursion (λ (y : Item). is_datum y ≡ true) (fixed_by d)) (declaration_of h n) (added_structs m.grows)
      (all_from (λ s. AllByRecursion (λ (y : Item). is_datum y ≡ true) (fixed_by (declaration_of h n s))) (added_structs m.grows)
      (λ s c. (refl, all_mapped (λ (y : Item). is_datum y ≡ true) function_item (functions_by (declaration_of h n s)) (all_from (λ f. is_datum (function_item f) ≡ true) (functions_by (declaration_of h n s)) (λ f k. refl))))))

  data_mappings : AllByRecursion (λ (y : Item). is_datum y ≡ true) mapping_items
  data_mappings = all_flat (λ (y : Item). is_datum y ≡ true) fixed_by M
      (all_mapped (λ d. AllByRecursion (λ (y : Item). is_datum y ≡ true) (fixed_by d)) (mapping_declared h n) (added_constants m.grows)
      (all_from (λ c. AllByRecursion (λ (y : Item). is_datum y ≡ true) (fixed_by (mapping_declared h n c))) (added_constants m.grows) (λ c k. (refl, tt))))

  no_process : (xs : List Item) → AllByRecursion (λ (y : Item). is_datum y ≡ true) xs → (y z : Item) → Contains xs y → Contains (a_process x ∷ []) z → NotAgain w y z
  no_process xs all y z c (zero, low, q) again = let never : true ≡ false = sym (all_contained (λ (k : Item). is_datum k ≡ true) xs y all c) ∙ (again_datum y z again ∙ ap is_datum (sym q)) in absurd cc
  no_process xs all y z c (suc i, low, q) again = absurd (omega (arith, low))

  named_there : (xs : List Item) (names : List Name) → map name_of xs ≡ names → (y : Item) → Contains xs y → Contains names (name_of y)
  named_there xs names e y c = subst (λ ns. Contains ns (name_of y)) e (map_contains name_of xs y c)

  -- actions are neither data nor the process
  no_data_actions : AllByRecursion (λ (y : Item). is_datum y ≡ false) action_items
  no_data_actions = subst (AllByRecursion (λ (y : Item). is_datum y ≡ false)) (sym action_items_are)
      (all_mapped (λ (y : Item). is_datum y ≡ false) (λ (a : NameId). an_action (text_under h a) []) (added_actions m.grows) (all_from (λ a. is_datum (an_action (text_under h a) []) ≡ false) (added_actions m.grows) (λ a c. refl)))

  no_datum : (xs : List Item) → AllByRecursion (λ (y : Item). is_datum y ≡ true) xs → (y z : Item) → Contains action_items y → Contains xs z → NotAgain w y z
  no_datum xs all y z c d again =
      let never : true ≡ false =
      sym (all_contained (λ (k : Item). is_datum k ≡ true) xs z all d) ∙ (sym (again_datum y z again) ∙ all_contained (λ (k : Item). is_datum k ≡ false) action_items y no_data_actions c) in absurd cc

  other_names : AllByRecursion (λ (y : Item). name_of y ≢ x) action_items
  other_names = all_unmapped (λ (t : Name). t ≢ x) name_of action_items (subst (AllByRecursion (λ (t : Name). t ≢ x)) (sym action_items_named) (all_mapped (λ (t : Name). t ≢ x) (text_under h) (added_actions m.grows) m.no_action))

  not_the_process : (y z : Item) → Contains action_items y → Contains (a_process x ∷ []) z → NotAgain w y z
  not_the_process y z c d again =
      all_contained (λ (k : Item). name_of k ≢ x) action_items y other_names c (again_name y z again ∙ all_contained (λ (k : Item). name_of k ≡ x) (a_process x ∷ []) z (refl, tt) d)

  data_differ : EachTwo (NotAgain w) other_items
  data_differ =
      two_both (NotAgain w) struct_items (mapping_items ++ (a_process x ∷ [])) (by_names struct_items _ struct_items_named apart.structs_differ)
      (two_both (NotAgain w) mapping_items (a_process x ∷ []) (by_names mapping_items _ mapping_items_named apart.constants_differ) (tt, tt) (no_process mapping_items data_mappings))
      (λ y z c d. ⊎_elim
      (λ mapping. (λ again. apart.across (name_of y) (name_of z) (named_there struct_items _ struct_items_named y c) (named_there mapping_items _ mapping_items_named z mapping) (again_name y z again)))
      (λ process_. no_process struct_items data_structs y z c process_)
      (in_either mapping_items (a_process x ∷ []) z d))

  new_differ : EachTwo (NotAgain w) more_items
  new_differ =
      two_both (NotAgain w) action_items other_items (by_names action_items _ action_items_named acts_apart.differ) data_differ
      (λ y z c d. ⊎_elim (λ struct_. no_datum struct_items data_structs y z c struct_)
      (λ rest. ⊎_elim (λ mapping. no_datum mapping_items data_mappings y z c mapping) (λ process_. not_the_process y z c process_) (in_either mapping_items (a_process x ∷ []) z rest))
      (in_either struct_items (mapping_items ++ (a_process x ∷ [])) z d))

  abbrev HasNone : Declaration → Type 0
  HasNone d = vars_by d ≡ []

  its_differ : ItemsDiffer w ss
  its_differ = record {
    fixed = subst (EachTwo (NotAgain w)) (sym its_items)
        (two_both (NotAgain w) (flat_map fixed_by C) more_items old_differ new_differ copied_and_added);
    variables = all_both HasOtherVariables (copied ++ added) _ (all_both HasOtherVariables copied added (within_all HasOtherVariables (kept_within spec.sections) (items_differ own m.sound.once).variables) added_variables) (tt, (tt, tt));
  }
    where
      none_added : AllByRecursion HasNone (declarations_in added)
      none_added = subst (AllByRecursion HasNone) (sym m.additions.declared)
          (all_both HasNone N (S ++ (M ++ E)) (all_mapped HasNone (action_declared h) (added_actions m.grows) (all_from (λ a. HasNone (action_declared h a)) (added_actions m.grows) (λ a k. refl)))
          (all_both HasNone S (M ++ E) (all_mapped HasNone (declaration_of h n) (added_structs m.grows) (all_from (λ s. HasNone (declaration_of h n s)) (added_structs m.grows) (λ s k. refl)))
          (all_both HasNone M E (all_mapped HasNone (mapping_declared h n) (added_constants m.grows) (all_from (λ c. HasNone (mapping_declared h n c)) (added_constants m.grows) (λ c k. refl)))
          (all_weaker IsEquation HasNone (of_equation HasNone (λ c f r. refl)) E m.additions.others))))

      added_variables : AllByRecursion HasOtherVariables added
      added_variables = in_sections HasNone HasOtherVariables (λ s all. subst AreOthers (sym (no_variables s.declarations all)) tt) added none_added

  built_is_taken : (f : Name) (rs : List SortExpression) → IsBuiltIn f rs → IsTaken g f
  built_is_taken f rs (r, e, among, text, same) = All-contains (IsTaken g) first_names f m.stands.words_taken (subst (Contains first_names) text (is_first_name (row_word r)))

  not_built : (f : Name) (es rs : List SortExpression) → Contains (flat_map fixed_by ds) (a_function f es) → StandForEach w es rs → ¬ (IsBuiltIn f rs)
  not_built f es rs c stand is = ⊎_elim
      (λ here. (let r = fixed_stands own (a_function f es) (within_contains (a_function f es) (within_flat fixed_by declarations_within) here) in
      let old = old_stand (a_function f es) here in
      m.sound.once (suc r.0) (suc r.0) (built_in r.0 r.1 f es rs r.2 r.3 (each_before u w kept es old.0 rs old.1 stand) is)))
      (λ there. ⊎_elim
      (λ act. (let never : false ≡ true = all_contained (λ (k : Item). is_action k ≡ true) action_items (a_function f es) are_actions act in absurd cc))
      (λ other. all_contained (λ (k : Item). ¬ (IsTaken g (name_of k))) other_items (a_function f es) new_names other (built_is_taken f rs is))
      (in_either action_items other_items (a_function f es) there))
      (in_either (flat_map fixed_by C) more_items (a_function f es) (subst (λ xs. Contains xs (a_function f es)) its_items c))

  abbrev HasNoneTwice : Declaration → Type 0
  HasNoneTwice d = AllByRecursion (λ (vs : Variables). ¬ (StandsTwice vs)) (variable_lists d)

  none_twice_behind : AllByRecursion HasNoneTwice behind
  none_twice_behind =
      all_behind HasNoneTwice (λ k. tt) (λ s. tt) (λ c. tt) (λ c f r. tt) (all_weaker (CanBeListed (vocabulary_of h).sort_names) (λ (vs : Variables). ¬ (StandsTwice vs)) (λ vs can. not_twice vs can.differ) (variable_lists P) m.listed) tt

  none_twice : (d : Declaration) (vs : Variables) → Contains ds d → Contains (variable_lists d) vs → ¬ (StandsTwice vs)
  none_twice d vs c k twice = ⊎_elim
      (λ here. (let r = read_contained O d (within_contains d declarations_within here) in m.sound.once (suc r.0) (suc r.0) (its_variables r.0 d vs r.1 k twice)))
      (λ there. all_contained (λ (xs : Variables). ¬ (StandsTwice xs)) (variable_lists d) vs (all_contained HasNoneTwice behind d none_twice_behind there) k twice)
      (in_either C behind d (subst (λ xs. Contains xs d) its_declarations c))

  its_once : NothingAgain ss
  its_once = nothing_again ss its_differ not_built none_twice

  -- ---- no sort is empty
  its_inhabited : NoEmptySort ds
  its_inhabited y e =
      let o = its_vocabulary.sorts.others y e.own in
      let empty = empty_sorts_are_empty_in_each_vocabulary w e.vocabulary (vocabulary_of h) e.declared its_vocabulary y e.number o.0 e.named_so o.1.0 e.empty in
      let value = m.inhabited o.0 o.1.1 in
      empty.1 value.0 value.1.0 value.1.1

  pub sound_over : AreSoundOver ss h
  sound_over = record { sound = record { known = its_known; no_cycle = its_no_cycle; once = its_once; inhabited = its_inhabited }; vocabulary = its_vocabulary }

pub printed_declarations_are_sound : PrintedDeclarationsAreSound
printed_declarations_are_sound spec g h added x l ts m = sound_over spec g h added x l ts m

pub what_is_added_is_declared : WhatIsAddedIsDeclared
what_is_added_is_declared spec g h w adds x empty_lists =
    let of_list : FunId → Declaration = λ f. empty_list_declared (name_at h f) in
    record { equations = map of_list empty_lists; declared = adds.declarations x empty_lists; others = all_mapped IsEquation of_list empty_lists (all_from (λ f. IsEquation (of_list f)) empty_lists (λ f c. tt)) }
