-- The names of functions, actions and processes.
use Rattle.std.proofs.Common.{◌≡◌, ℕ, suc, Bool, true, false, not, cond, ◌||◌, List, [], ◌∷◌, ◌++◌, map, refl, sym, ap, ap₂, ◌∙◌, subst, ⊎_elim}
use Rattle.std.specs.Prelude.{Option, Some, None, is_some, bytes_eq, slice_get}
use Rattle.std.specs.List.{Contains, filter, flat_map, list_any, list_all}
use Rattle.std.proofs.lemmas.Grind.{flat_map-append}
use Rattle.std.proofs.lemmas.List.{map-append}
use Rattle.std.proofs.lemmas.Simd.{map-map}
use Rattle.mcrl2_syntax.specs.declared.declaration.Decl.{Decl}
use Rattle.mcrl2_syntax.specs.declared.declaration.Section.{Section}
use Rattle.mcrl2_syntax.specs.Declarations.{plain_decl}
use Rattle.data_theory.specs.declared.ids.FunId.{FunId}
use Rattle.data_theory.specs.declared.rows.Row.{Row}
use Rattle.data_theory.specs.Keys.{Key}
use Rattle.data_theory.specs.Rows.{row_text, row_is_list_constant}
use Rattle.data_theory.specs.RowsOfWords as rows
use Rattle.data_theory.specs.Signature.{Sig}
use Rattle.data_theory.specs.Table.{language_table, truth_rows, sort_rows, comparison_rows, sum_rows, first_rows, quotient_rows, extreme_rows, step_rows, list_rows}
use Rattle.data_theory.specs.Words.{text_of}
use Rattle.sort_table.specs.Expressions.{Name}
use Rattle.sort_table.specs.NamedLists.{all_named, first_named}
use Rattle.sort_table.specs.BareDeclarations as bare
use Rattle.sort_table.specs.BareDeclarations.{Declaration, bare_section, bare_declaration, declarations_in}
use Rattle.sort_table.specs.DeclarationTrees.{declaration_of}
use Rattle.sort_table.specs.Duplicates.{any_sort, lists_of_any}
use Rattle.sort_table.specs.SignatureVocabularies.{function_name_of, function_names_from, action_under, vocabulary_of}
use Rattle.sort_table.proofs.Searches.{IsListed}
use Rattle.data_typing.specs.BuiltIns.{hangs, row_places, is_over_any, is_settled, row_scheme, row_signature, named_rows, built_ins, scheme_named}
use Rattle.data_typing.specs.Meanings.{declared_signature}
use Rattle.sort_checker.specs.FullVocabularies.{Written, process_by, processes_in, FullVocabulary, process_from, Parameters, IsEntry, IsOver}
use Rattle.sort_checker.specs.Operators.{stands_in}
use Rattle.sort_checker.specs.Faults.{is_function, is_action}
use Rattle.sort_checker.specs.KnownNames.{plain_words, number_words, list_words, built_in_words, declared_names, action_names, process_names, process_names_by, process_names_of, Knows}
use Rattle.data_theory.specs.declared.words.Word.{Word}
use Rattle.sort_checker.specs.declared.name_numbers.NameNumbers.{NameNumbers}
use Rattle.sort_checker.specs.NameNumbers.{number_under, has_name, AddsNames}
use Rattle.sort_checker.specs.UnknownTrees.{IsKnown}
use Rattle.sort_checker.specs.declared.known_names.KnownNames.{KnownNames}
use Rattle.sort_checker.proofs.NameLists.{added_then}
use Rattle.sort_checker.proofs.Members.{contains_cases, contains_none}
use Rattle.sort_checker.proofs.SoundElaborations.{both_true}
use Rattle.sort_checker.proofs.TypedEquations.{stands_among}
use Rattle.sort_checker.proofs.ScopedLists.{bare_of}
use Rattle.sort_table.specs.Vocabularies.{EachPair}

-- ---- tests
same_test : (a b : Bool) → (a ≡ true → b ≡ true) → (b ≡ true → a ≡ true) → a ≡ b
same_test true true h k = refl
same_test true false h k = sym (h refl)
same_test false true h k = k refl
same_test false false h k = refl

or_true : (b : Bool) → (b || true) ≡ true
or_true true = refl
or_true false = refl

-- ---- the table of built-in functions
abbrev row_name : Row → List Name
row_name r = cond (row_is_list_constant r) [] (row_text r ∷ [])

abbrev row_names : List Row → List Name
row_names rs = flat_map row_name rs

abbrev has_first : {A : Type 0} → List A → Bool
has_first xs = is_some (slice_get xs 0)

settled_or_any : (rs : List Row) → (has_first (map row_signature (filter is_settled rs)) || has_first (map row_scheme (filter is_over_any rs))) ≡ list_any (λ r. not (row_is_list_constant r)) rs
settled_or_any [] = refl
settled_or_any (r ∷ rs) = by_tests (row_is_list_constant r) (list_any hangs (row_places r)) (settled_or_any rs)
  where
    by_tests : (c h : Bool) → (has_first (map row_signature (filter is_settled rs)) || has_first (map row_scheme (filter is_over_any rs))) ≡ list_any (λ q. not (row_is_list_constant q)) rs
        → (has_first (map row_signature (cond (cond c false (cond h false true)) (r ∷ filter is_settled rs) (filter is_settled rs))) || has_first (map row_scheme (cond (cond c false h) (r ∷ filter is_over_any rs) (filter is_over_any rs))))
        ≡ (not c || list_any (λ q. not (row_is_list_constant q)) rs)
    by_tests true h e = e
    by_tests false true e = or_true (has_first (map row_signature (filter is_settled rs)))
    by_tests false false e = refl

named_in_rows : (f : Name) (rs : List Row) → list_any (λ r. not (row_is_list_constant r)) (filter (rows.has_name f) rs) ≡ stands_in f (row_names rs)
named_in_rows f [] = refl
named_in_rows f (r ∷ rs) = by_tests (bytes_eq (row_text r) f) (row_is_list_constant r) refl refl (named_in_rows f rs)
  where
    by_tests : (b c : Bool) → bytes_eq (row_text r) f ≡ b → row_is_list_constant r ≡ c → list_any (λ q. not (row_is_list_constant q)) (filter (rows.has_name f) rs) ≡ stands_in f (row_names rs)
        → list_any (λ q. not (row_is_list_constant q)) (cond b (r ∷ filter (rows.has_name f) rs) (filter (rows.has_name f) rs)) ≡ stands_in f (cond c [] (row_text r ∷ []) ++ row_names rs)
    by_tests true true e d h = ap (λ (k : Bool). not k || list_any (λ q. not (row_is_list_constant q)) (filter (rows.has_name f) rs)) d ∙ h
    by_tests true false e d h = ap (λ (k : Bool). not k || list_any (λ q. not (row_is_list_constant q)) (filter (rows.has_name f) rs)) d ∙ sym (ap (λ (k : Bool). k || stands_in f (row_names rs)) e)
    by_tests false true e d h = h
    by_tests false false e d h = h ∙ sym (ap (λ (k : Bool). k || stands_in f (row_names rs)) e)

-- ---- the names of the table are these words
all_among : (xs ys : List Name) → list_all (λ x. stands_in x ys) xs ≡ true → (f : Name) → stands_in f xs ≡ true → stands_in f ys ≡ true
all_among xs ys h f k = of_list xs h (stands_among f xs k)
  where
    of_list : (zs : List Name) → list_all (λ x. stands_in x ys) zs ≡ true → Contains zs f → stands_in f ys ≡ true
    of_list [] h c = absurd (contains_none f c)
    of_list (z ∷ zs) h c = let r = both_true (stands_in z ys) (list_all (λ x. stands_in x ys) zs) h in ⊎_elim (λ (e : z ≡ f). subst (λ x. stands_in x ys ≡ true) e r.0) (λ d. of_list zs r.1 d) (contains_cases z f zs c)

words_are_rows : (f : Name) → stands_in f (row_names (language_table any_sort lists_of_any)) ≡ stands_in f (map text_of built_in_words)
unfolding language_table truth_rows sort_rows comparison_rows sum_rows first_rows quotient_rows extreme_rows step_rows list_rows plain_words number_words list_words
words_are_rows f =
    same_test (stands_in f (row_names (language_table any_sort lists_of_any))) (stands_in f (map text_of built_in_words))
    (all_among (row_names (language_table any_sort lists_of_any)) (map text_of built_in_words) refl f)
    (all_among (map text_of built_in_words) (row_names (language_table any_sort lists_of_any)) refl f)

built_in_known : (f : Name) → (has_first (built_ins f) || is_some (scheme_named f)) ≡ stands_in f (map text_of built_in_words)
built_in_known f = settled_or_any (named_rows f) ∙ (named_in_rows f (language_table any_sort lists_of_any) ∙ words_are_rows f)

-- ---- declared functions
first_of_both : {A : Type 0} (xs ys : List A) → has_first (xs ++ ys) ≡ (has_first xs || has_first ys)
first_of_both [] ys = refl
first_of_both (x ∷ xs) ys = refl

first_mapped : {A B : Type 0} (f : A → B) (xs : List A) → has_first (map f xs) ≡ has_first xs
first_mapped f [] = refl
first_mapped f (x ∷ xs) = refl

all_has_first : {A : Type 0} (x : Name) (rs : List (Name × A)) → has_first (all_named x rs) ≡ stands_in x (map (λ (r : Name × A). r.0) rs)
all_has_first x [] = refl
all_has_first {A = A} x (r ∷ rs) = by_test (bytes_eq r.0 x) (all_has_first x rs)
  where
    by_test : (b : Bool) → has_first (all_named x rs) ≡ stands_in x (map (λ (q : Name × A). q.0) rs) → has_first (cond b (r.1 ∷ all_named x rs) (all_named x rs)) ≡ (b || stands_in x (map (λ (q : Name × A). q.0) rs))
    by_test true h = refl
    by_test false h = h

pub first_is_some : {A : Type 0} (x : Name) (rs : List (Name × A)) → is_some (first_named x rs) ≡ stands_in x (map (λ (r : Name × A). r.0) rs)
first_is_some x [] = refl
first_is_some {A = A} x (r ∷ rs) = by_test (bytes_eq r.0 x) (first_is_some x rs)
  where
    by_test : (b : Bool) → is_some (first_named x rs) ≡ stands_in x (map (λ (q : Name × A). q.0) rs) → is_some (cond b (Some r.1) (first_named x rs)) ≡ (b || stands_in x (map (λ (q : Name × A). q.0) rs))
    by_test true h = refl
    by_test false h = h

names_from : (g : Sig) (k : ℕ) (is : List FunId) → map (λ (r : Name × ℕ). r.0) (function_names_from g k is) ≡ declared_names g is
names_from g k [] = refl
names_from g k (i ∷ is) = ap (λ (ns : List Name). function_name_of g (slice_get g.functions i.0) ∷ ns) (names_from g (suc k) is)

declared_known : (g : Sig) (f : Name) → has_first (map (declared_signature (vocabulary_of g).tables) (all_named f (vocabulary_of g).function_names)) ≡ stands_in f (declared_names g g.declared)
declared_known g f = first_mapped _ (all_named f (vocabulary_of g).function_names) ∙ (all_has_first f (vocabulary_of g).function_names ∙ ap (stands_in f) (names_from g 0 g.declared))

swapped : (a b c : Bool) → ((a || b) || c) ≡ ((a || c) || b)
swapped true b c = refl
swapped false true c = sym (or_true c)
swapped false false true = refl
swapped false false false = refl

-- a function is built in or declared
pub functions_are : (g : Sig) (f : Name) → is_function (vocabulary_of g) f ≡ (stands_in f (map text_of built_in_words) || stands_in f (declared_names g g.declared))
functions_are g f =
    ap (λ (b : Bool). b || is_some (scheme_named f)) (first_of_both (built_ins f) (map (declared_signature (vocabulary_of g).tables) (all_named f (vocabulary_of g).function_names)))
    ∙ (swapped (has_first (built_ins f)) (has_first (map (declared_signature (vocabulary_of g).tables) (all_named f (vocabulary_of g).function_names))) (is_some (scheme_named f))
    ∙ ap₂ (λ (a b : Bool). a || b) (built_in_known f) (declared_known g f))

pub actions_are : (g : Sig) (x : Name) → is_action (vocabulary_of g) x ≡ stands_in x (action_names g g.actions)
actions_are g x = first_is_some x (vocabulary_of g).actions ∙ ap (stands_in x) (map-map (λ (r : Name × _). r.0) (action_under g) g.actions)

-- ---- processes
process_list : IsListed process_names_of (λ (d : Decl). process_names_by (declaration_of d))
process_list = record { of_none = refl; of_more = λ d ds. map-append (λ (w : Written). w.name) (process_by (declaration_of d)) (processes_in (map declaration_of ds)) }

pub process_names_listed : IsListed process_names_of (λ (d : Decl). process_names_by (declaration_of d))
process_names_listed = process_list

pub section_names_listed : IsListed (λ (ss : List Section). process_names (bare_of ss)) (λ (s : Section). process_names_of s.declarations.items)
section_names_listed = record {
  of_none = refl;
  of_more = λ s ss.
      ap (map (λ (w : Written). w.name)) (flat_map-append process_by (map bare_declaration (map plain_decl s.declarations.items)) (declarations_in (bare_of ss)))
      ∙ (map-append (λ (w : Written). w.name) (processes_in (map bare_declaration (map plain_decl s.declarations.items))) (processes_in (declarations_in (bare_of ss)))
      ∙ ap (λ (ds : List Declaration). map (λ (w : Written). w.name) (processes_in ds) ++ process_names (bare_of ss)) (map-map bare_declaration plain_decl s.declarations.items));
}

-- by the entries of a full vocabulary
named_from : (k : ℕ) (x : Name) (rs : List (Name × Parameters)) → is_some (process_from k x rs) ≡ stands_in x (map (λ (r : Name × Parameters). r.0) rs)
named_from k x [] = refl
named_from k x (r ∷ rs) = by_test (bytes_eq r.0 x) (named_from (suc k) x rs)
  where
    by_test : (b : Bool) → is_some (process_from (suc k) x rs) ≡ stands_in x (map (λ (q : Name × Parameters). q.0) rs) → is_some (cond b (Some (k, r.1)) (process_from (suc k) x rs)) ≡ (b || stands_in x (map (λ (q : Name × Parameters). q.0) rs))
    by_test true h = refl
    by_test false h = h

entry_names : (v : _) (ws : List Written) (es : List (Name × Parameters)) → EachPair (IsEntry v) ws es → map (λ (r : Name × Parameters). r.0) es ≡ map (λ (w : Written). w.name) ws
entry_names v [] [] h = refl
entry_names v [] (e ∷ es) h = absurd h
entry_names v (w ∷ ws) [] h = absurd h
entry_names v (w ∷ ws) (e ∷ es) h = ap₂ (λ (n : Name) (ns : List Name). n ∷ ns) (sym h.0.name) (entry_names v ws es h.1)

pub known_over : (g : Sig) (ss : List bare.Section) (v : FullVocabulary) (k : KnownNames) → IsOver g ss v → Knows (vocabulary_of g) ss k → IsKnown v k
known_over g ss v k over knows = record {
  functions = λ x. knows.functions x ∙ ap (λ w. is_function w x) (sym over.declared);
  actions = λ x. knows.actions x ∙ ap (λ w. is_action w x) (sym over.declared);
  processes = λ x. knows.processes x ∙ sym (named_from 0 x v.processes ∙ ap (stands_in x) (entry_names v.declared (processes_in (declarations_in ss)) v.processes over.processes));
}

-- ---- what is told once all are added
pub words_told : (a b c d : NameNumbers) (ws ns ls : List Word) → ws ≡ plain_words → ns ≡ number_words → ls ≡ list_words → AddsNames a b (map text_of ws) → AddsNames b c (map text_of ns) → AddsNames c d (map text_of ls) → AddsNames a d (map text_of built_in_words)
words_told a b c d ws ns ls plain number list one two three =
    let all : map text_of ws ++ (map text_of ns ++ map text_of ls) ≡ map text_of built_in_words =
    ap (λ (xs : List Name). map text_of ws ++ xs) (sym (map-append text_of ns ls))
    ∙ (sym (map-append text_of ws (ns ++ ls)) ∙ (ap (λ (xs : List Word). map text_of (xs ++ (ns ++ ls))) plain ∙ ap₂ (λ (xs ys : List Word). map text_of (plain_words ++ (xs ++ ys))) number list)) in
    subst (AddsNames a d) all (added_then a b d (map text_of ws) (map text_of ns ++ map text_of ls) one (added_then b c d (map text_of ns) (map text_of ls) two three))

pub functions_told : (g : Sig) (a b c : NameNumbers) (is : List FunId) → ((n : Name) → number_under a n ≡ None) → AddsNames a b (map text_of built_in_words) → is ≡ g.declared → AddsNames b c (declared_names g is)
    → (x : Name) → has_name c x ≡ is_function (vocabulary_of g) x
functions_told g a b c is new built declared more x =
    more x
    ∙ (ap₂ (λ (p : Bool) (js : List FunId). p || stands_in x (declared_names g js)) (built x ∙ ap (λ (o : Option ℕ). is_some o || stands_in x (map text_of built_in_words)) (new x)) declared
    ∙ sym (functions_are g x))

pub actions_told : (g : Sig) (a b : NameNumbers) (as_ : List Key) → ((n : Name) → number_under a n ≡ None) → as_ ≡ g.actions → AddsNames a b (action_names g as_) → (x : Name) → has_name b x ≡ is_action (vocabulary_of g) x
actions_told g a b as_ new all more x =
    more x ∙ (ap₂ (λ (o : Option ℕ) (bs : List Key). is_some o || stands_in x (action_names g bs)) (new x) all ∙ sym (actions_are g x))
