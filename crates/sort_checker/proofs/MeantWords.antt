-- The words of an expression that types mean something.
use Rattle.std.proofs.Common.{◌≡◌, Bool, true, false, cond, ◌||◌, List, [], ◌∷◌, ◌++◌, length, map, refl, sym, ap, ◌∙◌}
use Rattle.std.specs.Prelude.{Option, Some, None, is_some, option_map, option_to_list, bytes_eq, slice_get}
use Rattle.std.specs.List.{AllByRecursion, flat_map}
use Rattle.std.proofs.lemmas.Option.{none-some, option_and_then_some}
use Rattle.data_theory.specs.Terms.{Sort, Term, Terms}
use Rattle.data_theory.specs.Terms as terms
use Rattle.process_terms.specs.Labels as written
use Rattle.process_terms.specs.Labels.{Label}
use Rattle.sort_table.specs.Expressions.{Name, Expression, Expressions}
use Rattle.sort_table.specs.NamedLists.{first_named}
use Rattle.sort_table.specs.BareProcesses.{Variables}
use Rattle.sort_table.specs.Vocabularies.{Vocabulary, sort_in}
use Rattle.data_typing.specs.Typings.{Inferred, Typing, Signature, Scheme, Meaning, bound, functions, typing, exactly, checked, all_at, first_of, sort_eq}
use Rattle.data_typing.specs.TypingLaws.{IsAmong, Reads, a_numeral, a_variable, a_call, a_call_over, a_list, upcast_before, ReadEach, no_more, one_more, ReadList, no_element, one_element}
use Rattle.data_typing.specs.Meanings.{Bound, Scope, bound_row, meaning_or, meaning, signatures_named}
use Rattle.data_typing.specs.BuiltIns.{scheme_named}
use Rattle.data_typing.proofs.Options.{one_or_other, mapped}
use Rattle.data_typing.proofs.NamedParts.{all_appended}
use Rattle.data_typing.proofs.Readings.{typing_reads_the_expression}
use Rattle.sort_checker.specs.FullVocabularies.{FullVocabulary}
use Rattle.sort_checker.specs.Operators.{stands_in}
use Rattle.sort_checker.specs.Scopes.{numbered, scope_behind, scope_of}
use Rattle.sort_checker.specs.PartTypings.{action_at, action_of}
use Rattle.sort_checker.specs.Faults.{words_in, words_in_all, names_of_variables, is_function, of_data, is_known}

-- ---- words that mean something
abbrev pub is_meant : Meaning → Bool
is_meant (bound n s) = true
is_meant (functions fs c) = is_some (slice_get fs 0) || is_some c

abbrev pub AreMeant : (Name → Meaning) → List Name → Type 0
AreMeant m fs = AllByRecursion (λ f. is_meant (m f) ≡ true) fs

or_true : (b : Bool) → (b || true) ≡ true
or_true true = refl
or_true false = refl

meant_among : (fs : List Signature) (c : Option Scheme) (g : Signature) → IsAmong g fs → is_meant (functions fs c) ≡ true
meant_among [] c g h = absurd h
meant_among (f ∷ fs) c g h = refl

mutual
  pub reads_words : {m : Name → Meaning} {e : Expression} {t : Term} → Reads m e t → AreMeant m (words_in e)
  reads_words (a_numeral n s) = tt
  reads_words (a_variable f v s h) = (ap is_meant h, tt)
  reads_words (a_call f es fs c g us h among rs) = (ap is_meant h ∙ meant_among fs c g among, reads_each rs)
  reads_words (a_call_over f es fs c s us h rs) = (ap is_meant h ∙ or_true (is_some (slice_get fs 0)), reads_each rs)
  reads_words (a_list es s t r) = reads_list r
  reads_words (upcast_before e t s to f u r) = reads_words r

  reads_each : {m : Name → Meaning} {es : Expressions} {ts : Terms} → ReadEach m es ts → AreMeant m (words_in_all es)
  reads_each no_more = tt
  reads_each {m = m} (one_more e es t ts r rs) = all_appended (λ f. is_meant (m f) ≡ true) (words_in e) (words_in_all es) (reads_words r) (reads_each rs)

  reads_list : {m : Name → Meaning} {es : Expressions} {s : Sort} {t : Term} → ReadList m es s t → AreMeant m (words_in_all es)
  reads_list (no_element s) = tt
  reads_list {m = m} (one_element e es s t u r rs) = all_appended (λ f. is_meant (m f) ≡ true) (words_in e) (words_in_all es) (reads_words r) (reads_list rs)

-- ---- typed expressions
pub checked_words : (m : Name → Meaning) (e : Expression) (s : Sort) (t : Term) → (typing m e).checks s ≡ Some t → AreMeant m (words_in e)
checked_words m e s t h = reads_words ((typing_reads_the_expression m e).checks s t h)

inferred_words : (m : Name → Meaning) (e : Expression) (i : Inferred) → (typing m e).infers ≡ Some i → AreMeant m (words_in e)
inferred_words m e i h = reads_words ((typing_reads_the_expression m e).infers i h)

-- a way to a term at a sort that reads the expression
abbrev ReadsWords : (Sort → Typing → Option Term) → Type 0
ReadsWords how = (m : Name → Meaning) (e : Expression) (s : Sort) (t : Term) → how s (typing m e) ≡ Some t → AreMeant m (words_in e)

exact_words : ReadsWords exactly
exact_words m e s t h = option_and_then_some (λ (i : Inferred). cond (sort_eq i.sort s) (Some i.term) None) (typing m e).infers t h (λ i there w. inferred_words m e i there)

all_words : (how : Sort → Typing → Option Term) → ReadsWords how → (m : Name → Meaning) (ss : List Sort) (es : List Expression) (us : Terms) → all_at how ss (map (typing m) es) ≡ Some us → AreMeant m (flat_map words_in es)
all_words how reads m [] [] us h = tt
all_words how reads m [] (e ∷ es) us h = absurd (none-some us h)
all_words how reads m (s ∷ ss) [] us h = absurd (none-some us h)
all_words how reads m (s ∷ ss) (e ∷ es) us h =
    option_and_then_some (λ (u : Term). option_map (terms.more u) (all_at how ss (map (typing m) es))) (how s (typing m e)) us h
    (λ u first w. mapped (terms.more u) (all_at how ss (map (typing m) es)) us w
    (λ rest others q. all_appended (λ f. is_meant (m f) ≡ true) (words_in e) (flat_map words_in es) (reads m e s u first) (all_words how reads m ss es rest others)))

first_words : (x : Name) (how : Sort → Typing → Option Term) → ReadsWords how → (m : Name → Meaning) (es : List Expression) (sss : List (List Sort)) (a : written.Action) → first_of (action_at x how (map (typing m) es)) sss ≡ Some a → AreMeant m (flat_map words_in es)
first_words x how reads m es [] a h = absurd (none-some a h)
first_words x how reads m es (ss ∷ sss) a h =
    one_or_other (action_at x how (map (typing m) es) ss) (first_of (action_at x how (map (typing m) es)) sss) a h
    (λ w. mapped _ (all_at how ss (map (typing m) es)) a w (λ us there q. all_words how reads m ss es us there))
    (λ w. first_words x how reads m es sss a w)

pub action_words : (x : Name) (m : Name → Meaning) (es : List Expression) (sss : List (List Sort)) (a : written.Action) → action_of x (map (typing m) es) sss ≡ Some a → AreMeant m (flat_map words_in es)
action_words x m es sss a h =
    one_or_other (first_of (action_at x exactly (map (typing m) es)) sss) (first_of (action_at x checked (map (typing m) es)) sss) a h
    (λ w. first_words x exactly exact_words m es sss a w)
    (λ w. first_words x checked (λ n e s t k. checked_words n e s t k) m es sss a w)

pub argument_words : (m : Name → Meaning) (ss : List Sort) (es : List Expression) (us : Terms) → all_at checked ss (map (typing m) es) ≡ Some us → AreMeant m (flat_map words_in es)
argument_words m ss es us h = all_words checked (λ n e s t k. checked_words n e s t k) m ss es us h

-- ---- what words mean over a vocabulary
by_cases : (a b c : Bool) → (a || c) ≡ true → (a || (b || c)) ≡ true
by_cases true b c h = refl
by_cases false true c h = refl
by_cases false false c h = h

one_more_name : (a b c : Bool) → ((b || a) || c) ≡ true → (a || (b || c)) ≡ true
one_more_name true b c h = refl
one_more_name false true c h = refl
one_more_name false false c h = h

pub some_cond : {A : Type 0} (b : Bool) (x : A) (o : Option A) → is_some (cond b (Some x) o) ≡ (b || is_some o)
some_cond true x o = refl
some_cond false x o = refl

abbrev pub in_scope : Name → Scope → Bool
in_scope f scope = is_some (first_named f (map bound_row scope))

pub scope_names : (v : Vocabulary) (f : Name) (scope : Scope) (xs : Variables) → in_scope f (scope_behind v scope xs) ≡ true → (in_scope f scope || stands_in f (names_of_variables xs)) ≡ true
scope_names v f scope [] h = ap (λ (b : Bool). b || false) h
scope_names v f scope (x ∷ xs) h = by_sort (sort_in v.sort_names x.1) (scope_names v f (option_to_list (numbered v scope x) ++ scope) xs h)
  where
    by_sort : (o : Option Sort) → (in_scope f (option_to_list (option_map (λ (s : Sort). record { name = x.0; number = length scope; sort = s }) o) ++ scope) || stands_in f (names_of_variables xs)) ≡ true → (in_scope f scope || (bytes_eq x.0 f || stands_in f (names_of_variables xs))) ≡ true
    by_sort None k = by_cases (in_scope f scope) (bytes_eq x.0 f) (stands_in f (names_of_variables xs)) k
    by_sort (Some s) k = one_more_name (in_scope f scope) (bytes_eq x.0 f) (stands_in f (names_of_variables xs)) (ap (λ (b : Bool). b || stands_in f (names_of_variables xs)) (sym (some_cond (bytes_eq x.0 f) (record { name = x.0; number = length scope; sort = s }) (first_named f (map bound_row scope)))) ∙ k)

pub meant_is_known : (v : FullVocabulary) (xs : Variables) (f : Name) → is_meant (meaning v.declared (scope_of v.declared xs) f) ≡ true → is_known v xs (of_data f) ≡ true
meant_is_known v xs f h = by_variable (first_named f (map bound_row (scope_of v.declared xs))) (scope_names v.declared f [] xs) h
  where
    by_variable : (o : Option Bound) → (is_some o ≡ true → stands_in f (names_of_variables xs) ≡ true) → is_meant (meaning_or (functions (signatures_named v.declared f) (scheme_named f)) o) ≡ true → (stands_in f (names_of_variables xs) || is_function v.declared f) ≡ true
    by_variable (Some b) names k = ap (λ (t : Bool). t || is_function v.declared f) (names refl)
    by_variable None names k = ap (λ (t : Bool). stands_in f (names_of_variables xs) || t) k ∙ or_true (stands_in f (names_of_variables xs))
