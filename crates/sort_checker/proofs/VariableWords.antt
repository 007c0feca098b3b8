-- The variables of a term that reads an expression are those of its words that are variables.
use Rattle.std.proofs.Common.{◌≡◌, ℕ, true, false, List, [], ◌∷◌, ◌++◌, ⊎_elim, refl, sym, ap, ◌∙◌, subst}
use Rattle.std.specs.Prelude.{ℤ, Option}
use Rattle.std.specs.List.{Contains}
use Rattle.std.proofs.lemmas.List.Elements.{Contains-append_left, Contains-append_right, Contains-append_cases}
use Rattle.data_theory.specs.Terms.{Sort, Symbol, empty, cons, Term, Terms, variable, numeral, unknown, application, apply, variables_of, variables_of_all}
use Rattle.data_theory.specs.Terms as terms
use Rattle.sort_table.specs.Expressions.{Name, Expression, Expressions}
use Rattle.sort_table.specs.Expressions as expressions
use Rattle.data_typing.specs.Typings.{Signature, Scheme, Meaning, bound, functions}
use Rattle.data_typing.specs.TypingLaws.{Reads, a_numeral, a_variable, a_call, a_call_over, a_list, upcast_before, ReadEach, no_more, one_more, ReadList, no_element, one_element}
use Rattle.sort_checker.specs.Faults.{words_in, words_in_all}
use Rattle.sort_checker.proofs.Members.{contains_first, contains_later, contains_cases, contains_none}
use Rattle.sort_checker.proofs.EquationNumbers.{is_variable, of_applied, applied_is}

-- one of these words is this variable
pub record IsWord (m : Name → Meaning) (fs : List Name) (n : ℕ) : Type 0 where
  pub word : Name
  pub sort : Sort
  pub among : Contains fs word
  pub meant : m word ≡ bound n sort

abbrev word_behind : {m : Name → Meaning} {n : ℕ} (f : Name) (fs : List Name) → IsWord m fs n → IsWord m (f ∷ fs) n
word_behind f fs w = record { word = w.word; sort = w.sort; among = contains_later f w.word fs w.among; meant = w.meant }

abbrev word_in_front : {m : Name → Meaning} {n : ℕ} (fs gs : List Name) → IsWord m fs n → IsWord m (fs ++ gs) n
word_in_front fs gs w = record { word = w.word; sort = w.sort; among = Contains-append_left fs gs w.word w.among; meant = w.meant }

abbrev word_further : {m : Name → Meaning} {n : ℕ} (fs gs : List Name) → IsWord m gs n → IsWord m (fs ++ gs) n
word_further fs gs w = record { word = w.word; sort = w.sort; among = Contains-append_right fs gs w.word w.among; meant = w.meant }

under_one : (f : Symbol) (t : Term) (n : ℕ) → Contains (variables_of (apply f (terms.more t terms.none))) n → Contains (variables_of t) n
under_one f t n c =
    ⊎_elim (λ d. d) (λ d. absurd (contains_none n d)) (Contains-append_cases (variables_of t) [] n (subst (λ (l : List ℕ). Contains l n) (of_applied f (terms.more t terms.none)) c))

-- ---- each variable is a word
mutual
  pub variable_is_word : {m : Name → Meaning} {e : Expression} {t : Term} → Reads m e t → (n : ℕ) → Contains (variables_of t) n → IsWord m (words_in e) n
  variable_is_word (a_numeral k s) n c = absurd (contains_none n c)
  variable_is_word {m = m} (a_variable f v s h) n c =
      ⊎_elim (λ (e : v ≡ n). record { word = f; sort = s; among = contains_first f []; meant = h ∙ ap (λ (k : ℕ). bound k s) e }) (λ d. absurd (contains_none n d)) (contains_cases v n [] c)
  variable_is_word (a_call f es fs c g us h among rs) n i = word_behind f (words_in_all es) (variables_are_words rs n (subst (λ (l : List ℕ). Contains l n) (of_applied g.symbol us) i))
  variable_is_word (a_call_over f es fs c s us h rs) n i = word_behind f (words_in_all es) (variables_are_words rs n (subst (λ (l : List ℕ). Contains l n) (of_applied (c.symbol s) us) i))
  variable_is_word (a_list es s t r) n i = list_variable_is_word r n i
  variable_is_word (upcast_before e t s to f u r) n i = variable_is_word r n (under_one f t n i)

  variables_are_words : {m : Name → Meaning} {es : Expressions} {ts : Terms} → ReadEach m es ts → (n : ℕ) → Contains (variables_of_all ts) n → IsWord m (words_in_all es) n
  variables_are_words no_more n c = absurd (contains_none n c)
  variables_are_words (one_more e es t ts r rs) n c =
      ⊎_elim (λ d. word_in_front (words_in e) (words_in_all es) (variable_is_word r n d)) (λ d. word_further (words_in e) (words_in_all es) (variables_are_words rs n d)) (Contains-append_cases (variables_of t) (variables_of_all ts) n c)

  list_variable_is_word : {m : Name → Meaning} {es : Expressions} {s : Sort} {t : Term} → ReadList m es s t → (n : ℕ) → Contains (variables_of t) n → IsWord m (words_in_all es) n
  list_variable_is_word (no_element s) n c = absurd (contains_none n c)
  list_variable_is_word (one_element e es s t u r rs) n c =
      ⊎_elim (λ d. word_in_front (words_in e) (words_in_all es) (variable_is_word r n d))
      (λ d. word_further (words_in e) (words_in_all es) (list_variable_is_word rs n (⊎_elim (λ b. b) (λ b. absurd (contains_none n b)) (Contains-append_cases (variables_of u) [] n d))))
      (Contains-append_cases (variables_of t) (variables_of_all (terms.more u terms.none)) n c)

-- ---- each word that is a variable is one of the term
other_meaning : {P : Type 0} (m : Name → Meaning) {f x : Name} {fs : List Signature} {c : Option Scheme} {n : ℕ} {s : Sort} → m f ≡ functions fs c → f ≡ x → m x ≡ bound n s → P
other_meaning m h e k = cc

same_number : (m : Name → Meaning) {f x : Name} {n k : ℕ} {s r : Sort} → m f ≡ bound n s → f ≡ x → m x ≡ bound k r → n ≡ k
same_number m h e k = cc

mutual
  pub word_is_variable : {m : Name → Meaning} {e : Expression} {t : Term} → Reads m e t → (x : Name) (n : ℕ) (s : Sort) → Contains (words_in e) x → m x ≡ bound n s → Contains (variables_of t) n
  word_is_variable (a_numeral k r) x n s c h = absurd (contains_none x c)
  word_is_variable {m = m} (a_variable f v r k) x n s c h =
      ⊎_elim (λ (e : f ≡ x). subst (λ (l : ℕ). Contains (variables_of (variable v)) l) (same_number m k e h) (contains_first v [])) (λ d. absurd (contains_none x d)) (contains_cases f x [] c)
  word_is_variable {m = m} (a_call f es fs c g us k among rs) x n s i h =
      ⊎_elim (λ (e : f ≡ x). other_meaning m k e h) (λ d. subst (λ (l : List ℕ). Contains l n) (sym (of_applied g.symbol us)) (words_are_variables rs x n s d h)) (contains_cases f x (words_in_all es) i)
  word_is_variable {m = m} (a_call_over f es fs c r us k rs) x n s i h =
      ⊎_elim (λ (e : f ≡ x). other_meaning m k e h) (λ d. subst (λ (l : List ℕ). Contains l n) (sym (of_applied (c.symbol r) us)) (words_are_variables rs x n s d h)) (contains_cases f x (words_in_all es) i)
  word_is_variable (a_list es r t k) x n s i h = list_words_are_variables k x n s i h
  word_is_variable (upcast_before e t r to f u k) x n s i h =
      subst (λ (l : List ℕ). Contains l n) (sym (of_applied f (terms.more t terms.none))) (Contains-append_left (variables_of t) [] n (word_is_variable k x n s i h))

  words_are_variables : {m : Name → Meaning} {es : Expressions} {ts : Terms} → ReadEach m es ts → (x : Name) (n : ℕ) (s : Sort) → Contains (words_in_all es) x → m x ≡ bound n s → Contains (variables_of_all ts) n
  words_are_variables no_more x n s c h = absurd (contains_none x c)
  words_are_variables (one_more e es t ts r rs) x n s c h =
      ⊎_elim (λ d. Contains-append_left (variables_of t) (variables_of_all ts) n (word_is_variable r x n s d h)) (λ d. Contains-append_right (variables_of t) (variables_of_all ts) n (words_are_variables rs x n s d h))
      (Contains-append_cases (words_in e) (words_in_all es) x c)

  list_words_are_variables : {m : Name → Meaning} {es : Expressions} {r : Sort} {t : Term} → ReadList m es r t → (x : Name) (n : ℕ) (s : Sort) → Contains (words_in_all es) x → m x ≡ bound n s → Contains (variables_of t) n
  list_words_are_variables (no_element r) x n s c h = absurd (contains_none x c)
  list_words_are_variables (one_element e es r t u k ks) x n s c h =
      ⊎_elim (λ d. Contains-append_left (variables_of t) (variables_of_all (terms.more u terms.none)) n (word_is_variable k x n s d h))
      (λ d. Contains-append_right (variables_of t) (variables_of_all (terms.more u terms.none)) n (Contains-append_left (variables_of u) [] n (list_words_are_variables ks x n s d h)))
      (Contains-append_cases (words_in e) (words_in_all es) x c)

-- ---- a term that is a variable
-- the expression is a word that is this variable
pub record IsLoneVariable (m : Name → Meaning) (e : Expression) (n : ℕ) : Type 0 where
  pub word : Name
  pub sort : Sort
  pub is : e ≡ expressions.word word expressions.none
  pub meant : m word ≡ bound n sort

never_applied : {P : Type 0} (f : Symbol) (ts : Terms) (n : ℕ) → apply f ts ≡ variable n → P
unfolding is_variable
never_applied f ts n e = let c : false ≡ true = sym (applied_is f ts) ∙ ap is_variable e in absurd cc

never_a_numeral : {P : Type 0} (s : Sort) (z : ℤ) (n : ℕ) → numeral s z ≡ variable n → P
unfolding is_variable
never_a_numeral s z n e = let c : false ≡ true = ap is_variable e in absurd cc

list_is_no_variable : {P : Type 0} {m : Name → Meaning} {es : Expressions} {s : Sort} {t : Term} → ReadList m es s t → (n : ℕ) → t ≡ variable n → P
list_is_no_variable (no_element s) n e = never_applied (empty s) terms.none n e
list_is_no_variable (one_element d es s t u r rs) n e = never_applied (cons s) (terms.more t (terms.more u terms.none)) n e

variable_number : (v n : ℕ) → variable v ≡ variable n → v ≡ n
variable_number v n e = cc

pub variables_read_words : {m : Name → Meaning} {e : Expression} {t : Term} → Reads m e t → (n : ℕ) → t ≡ variable n → IsLoneVariable m e n
variables_read_words (a_numeral k s) n q = never_a_numeral s _ n q
variables_read_words (a_variable f v s h) n q = record { word = f; sort = s; is = refl; meant = h ∙ ap (λ (k : ℕ). bound k s) (variable_number v n q) }
variables_read_words (a_call f es fs c g us h among rs) n q = never_applied g.symbol us n q
variables_read_words (a_call_over f es fs c s us h rs) n q = never_applied (c.symbol s) us n q
variables_read_words (a_list es s t r) n q = list_is_no_variable r n q
variables_read_words (upcast_before e t s to f u r) n q = never_applied f (terms.more t terms.none) n q
