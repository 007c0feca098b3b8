-- An equation that elaborates has no fault.
use Rattle.std.proofs.Common.{◌≡◌, ℕ, Bool, true, false, not, cond, ◌&&◌, ◌||◌, List, [], ◌∷◌, ◌++◌, ⊎_elim, map, length, refl, sym, ap, ap₂, ◌∙◌, subst}
use Rattle.std.specs.Prelude.{Option, Some, None, is_some, option_map, option_and_then, option_to_list, bytes_eq}
use Rattle.std.specs.List.{Contains, find}
use Rattle.std.proofs.lemmas.Option.{none-some, same_Some}
use Rattle.std.proofs.lemmas.List.Elements.{Contains-append_left, Contains-append_right, Contains-append_cases}
use Rattle.std.proofs.lemmas.Slice.Eq.{bytes_eq-Decides}
use Rattle.data_theory.specs.Terms.{Sort, boolean, Term, variable, variables_of}
use Rattle.data_theory.specs.Provable.{Equation}
use Rattle.sort_table.specs.Expressions.{Name, Expression, word, none}
use Rattle.sort_table.specs.Expressions as expressions
use Rattle.sort_table.specs.NamedLists.{first_named}
use Rattle.sort_table.specs.BareProcesses.{Variables}
use Rattle.sort_table.specs.Vocabularies.{Vocabulary}
use Rattle.data_typing.specs.BuiltIns.{scheme_named}
use Rattle.data_typing.specs.Typings.{Inferred, Meaning, bound, functions, word_typing}
use Rattle.data_typing.specs.TypingLaws.{Reads}
use Rattle.data_typing.specs.Meanings.{Bound, Scope, bound_row, meaning, meaning_or, signatures_named, typing_in}
use Rattle.data_typing.proofs.NamedParts.{all_appended}
use Rattle.data_typing.proofs.Readings.{typing_reads_the_expression}
use Rattle.sort_checker.specs.FullVocabularies.{FullVocabulary}
use Rattle.sort_checker.specs.Operators.{stands_in}
use Rattle.sort_checker.specs.Parts.{an_equation, scoped}
use Rattle.sort_checker.specs.Scopes.{numbers_of, numbered, scope_behind, scope_of}
use Rattle.sort_checker.specs.PartTypings.{left_side, condition_at}
use Rattle.sort_checker.specs.Faults.{words_in, words_of_option, name_of, names_of_variables, first_free, is_variable}
use Rattle.sort_checker.specs.SoundTexts.{IsSoundPart, HaveSorts, ElaboratedEquationsAreSound}
use Rattle.sort_checker.proofs.Members.{contains_first, contains_later, contains_cases, contains_none}
use Rattle.sort_checker.proofs.SoundElaborations.{bind_all, none_below}
use Rattle.sort_checker.proofs.EquationNumbers.{NumbersDiffer, differ, equations_need_no_numbers}
use Rattle.sort_checker.proofs.MeantWords.{AreMeant, reads_words, some_cond, in_scope}
use Rattle.sort_checker.proofs.ElaboratedSound.{data_known, bound_sorts}
use Rattle.sort_checker.proofs.FittingEquations.{word_in_scope}
use Rattle.sort_checker.proofs.VariableWords.{variable_is_word, word_is_variable}
use Rattle.sort_checker.proofs.TypedEquations.{left_reads}

-- ---- lists
pub nothing_passes : {A : Type 0} (p : A → Bool) (xs : List A) → ((x : A) → Contains xs x → p x ≡ false) → find p xs ≡ None
nothing_passes p [] h = refl
nothing_passes p (x ∷ xs) h = ap (λ (b : Bool). cond b (Some x) (find p xs)) (h x (contains_first x xs)) ∙ nothing_passes p xs (λ y c. h y (contains_later x y xs c))

or_true : (b : Bool) → (b || true) ≡ true
or_true true = refl
or_true false = refl

pub among_stands : (x : Name) (ys : List Name) → Contains ys x → stands_in x ys ≡ true
among_stands x [] c = absurd (contains_none x c)
among_stands x (y ∷ ys) c =
    ⊎_elim (λ (e : y ≡ x). ap (λ (b : Bool). b || stands_in x ys) ((bytes_eq-Decides y x).1 e)) (λ d. ap (λ (b : Bool). bytes_eq y x || b) (among_stands x ys d) ∙ or_true (bytes_eq y x)) (contains_cases y x ys c)

-- ---- variables in scope
either_way : (a b c : Bool) → ((b || a) || c) ≡ (a || (b || c))
either_way true true c = refl
either_way true false c = refl
either_way false true c = refl
either_way false false c = refl

-- each variable with a sort comes into scope
names_in_scope : (v : Vocabulary) (f : Name) (scope : Scope) (xs : Variables) → HaveSorts v xs → (in_scope f scope || stands_in f (names_of_variables xs)) ≡ true → in_scope f (scope_behind v scope xs) ≡ true
names_in_scope v f scope [] s h = by_test (in_scope f scope) h
  where
    by_test : (b : Bool) → (b || false) ≡ true → b ≡ true
    by_test true e = refl
    by_test false e = e
names_in_scope v f scope (x ∷ xs) s h =
    let b : Bound = record { name = x.0; number = length scope; sort = s.0.0 } in
    let next : option_to_list (numbered v scope x) ++ scope ≡ b ∷ scope = ap (λ (o : Option Sort). option_to_list (option_map (λ (r : Sort). record { name = x.0; number = length scope; sort = r }) o) ++ scope) s.0.1 in
    let there : (in_scope f (b ∷ scope) || stands_in f (names_of_variables xs)) ≡ true
    = ap (λ (t : Bool). t || stands_in f (names_of_variables xs)) (some_cond (bytes_eq x.0 f) b (first_named f (map bound_row scope))) ∙ (either_way (in_scope f scope) (bytes_eq x.0 f) (stands_in f (names_of_variables xs)) ∙ h) in
    subst (λ (sc : Scope). in_scope f (scope_behind v sc xs) ≡ true) (sym next) (names_in_scope v f (b ∷ scope) xs s.1 there)

record IsFoundIn (f : Name) (scope : Scope) (b : Bound) : Type 0 where
  among : Contains scope b
  named : b.name ≡ f

found_in : (f : Name) (scope : Scope) (b : Bound) → first_named f (map bound_row scope) ≡ Some b → IsFoundIn f scope b
found_in f [] b h = absurd (none-some b h)
found_in f (a ∷ scope) b h = by_test (bytes_eq a.name f) refl (found_in f scope b) h
  where
    by_test : (t : Bool) → bytes_eq a.name f ≡ t → (first_named f (map bound_row scope) ≡ Some b → IsFoundIn f scope b) → cond t (Some a) (first_named f (map bound_row scope)) ≡ Some b → IsFoundIn f (a ∷ scope) b
    by_test true e g k = let same : a ≡ b = same_Some _ _ k in record { among = subst (Contains (a ∷ scope)) same (contains_first a scope); named = ap (λ (c : Bound). c.name) (sym same) ∙ (bytes_eq-Decides a.name f).0 e }
    by_test false e g k = let r = g k in record { among = contains_later a b scope r.among; named = r.named }

number_among : (scope : Scope) (b : Bound) → Contains scope b → Contains (numbers_of scope) b.number
number_among [] b c = absurd (contains_none b c)
number_among (a ∷ scope) b c =
    ⊎_elim (λ (e : a ≡ b). subst (λ (d : Bound). Contains (numbers_of (a ∷ scope)) d.number) e (contains_first a.number (numbers_of scope))) (λ d. contains_later a.number b.number (numbers_of scope) (number_among scope b d)) (contains_cases a b scope c)

-- one number is that of one variable
one_of_number : (scope : Scope) → NumbersDiffer scope → (b c : Bound) → Contains scope b → Contains scope c → b.number ≡ c.number → b ≡ c
one_of_number [] d b c h k e = absurd (contains_none b h)
one_of_number (a ∷ scope) d b c h k e =
    ⊎_elim
    (λ (p : a ≡ b). ⊎_elim (λ (q : a ≡ c). sym p ∙ q) (λ q. absurd (d.0 (subst (λ (n : ℕ). Contains (numbers_of scope) n) (sym e ∙ ap (λ (x : Bound). x.number) (sym p)) (number_among scope c q)))) (contains_cases a c scope k))
    (λ p. ⊎_elim (λ (q : a ≡ c). absurd (d.0 (subst (λ (n : ℕ). Contains (numbers_of scope) n) (e ∙ ap (λ (x : Bound). x.number) (sym q)) (number_among scope b p)))) (λ q. one_of_number scope d.1 b c p q e) (contains_cases a c scope k))
    (contains_cases a b scope h)

-- ---- an equation under the numbers of faults
module _ (v : FullVocabulary) (xs : Variables) (sorts : HaveSorts v.declared xs) (differs : NumbersDiffer (scope_of v.declared xs)) (c : Option Expression) (l r : Expression) (q : Equation) (s : Sort)
    (left : left_side (typing_in v.declared (scope_of v.declared xs) l) (typing_in v.declared (scope_of v.declared xs) r) ≡ Some (record { term = q.left; sort = s }))
    (right : (typing_in v.declared (scope_of v.declared xs) r).checks s ≡ Some q.right) (condition : condition_at v.declared (scope_of v.declared xs) c ≡ Some q.condition)
    (no_variable : (n : ℕ) → ¬ (q.left ≡ variable n)) (no_other : (n : ℕ) → Contains (variables_of q.condition ++ variables_of q.right) n → Contains (variables_of q.left) n) where
  abbrev scope : Scope
  scope = scope_of v.declared xs

  left_read : Reads (meaning v.declared scope) l q.left
  left_read = left_reads v xs l r q.left s left

  right_read : Reads (meaning v.declared scope) r q.right
  right_read = (typing_reads_the_expression (meaning v.declared scope) r).checks s q.right right

  condition_meant : (d : Option Expression) → condition_at v.declared scope d ≡ Some q.condition → AreMeant (meaning v.declared scope) (words_of_option d)
  condition_meant None h = tt
  condition_meant (Some e) h = reads_words ((typing_reads_the_expression (meaning v.declared scope) e).checks boolean q.condition h)

  -- a name of a variable is that of one in scope
  variable_found : (x : Name) → stands_in x (names_of_variables xs) ≡ true → (b : Bound) × (first_named x (map bound_row scope) ≡ Some b) × (meaning v.declared scope x ≡ bound b.number b.sort)
  variable_found x h = by_option (first_named x (map bound_row scope)) refl (names_in_scope v.declared x [] xs sorts h)
    where
      by_option : (o : Option Bound) → first_named x (map bound_row scope) ≡ o → is_some o ≡ true → (b : Bound) × (first_named x (map bound_row scope) ≡ Some b) × (meaning v.declared scope x ≡ bound b.number b.sort)
      by_option None e k = let never : false ≡ true = k in absurd cc
      by_option (Some b) e k = (b, e, ap (meaning_or (functions (signatures_named v.declared x) (scheme_named x))) e)

  -- a variable of the left side's term stands there
  on_the_left : (x : Name) (b : Bound) → first_named x (map bound_row scope) ≡ Some b → Contains (variables_of q.left) b.number → stands_in x (words_in l) ≡ true
  on_the_left x b h among =
      let w = variable_is_word left_read b.number among in
      let d = word_in_scope v.declared scope w.word b.number w.sort w.meant in
      let one = found_in x scope b h in
      let other = found_in w.word scope d.0 d.1 in
      let same : b ≡ d.0 = one_of_number scope differs b d.0 one.among other.among (sym d.2) in
      let name : w.word ≡ x = sym other.named ∙ (ap (λ (e : Bound). e.name) (sym same) ∙ one.named) in
      among_stands x (words_in l) (subst (Contains (words_in l)) name w.among)

  occurs : (x : Name) (b : Bound) → meaning v.declared scope x ≡ bound b.number b.sort → Contains (words_of_option c ++ words_in r) x → Contains (variables_of q.condition ++ variables_of q.right) b.number
  occurs x b m among =
      ⊎_elim (λ k. Contains-append_left (variables_of q.condition) (variables_of q.right) b.number (in_condition c condition k)) (λ k. Contains-append_right (variables_of q.condition) (variables_of q.right) b.number (word_is_variable right_read x b.number b.sort k m))
      (Contains-append_cases (words_of_option c) (words_in r) x among)
    where
      in_condition : (d : Option Expression) → condition_at v.declared scope d ≡ Some q.condition → Contains (words_of_option d) x → Contains (variables_of q.condition) b.number
      in_condition None h k = absurd (contains_none x k)
      in_condition (Some e) h k = word_is_variable ((typing_reads_the_expression (meaning v.declared scope) e).checks boolean q.condition h) x b.number b.sort k m

  closed : first_free xs (words_in l) (words_of_option c ++ words_in r) ≡ None
  closed = nothing_passes (λ x. stands_in x (names_of_variables xs) && not (stands_in x (words_in l))) (words_of_option c ++ words_in r) (λ x among. by_test (stands_in x (names_of_variables xs)) x refl among)
    where
      by_test : (t : Bool) (x : Name) → stands_in x (names_of_variables xs) ≡ t → Contains (words_of_option c ++ words_in r) x → (t && not (stands_in x (words_in l))) ≡ false
      by_test false x e among = refl
      by_test true x e among = let b = variable_found x e in ap not (on_the_left x b.0 b.1 (no_other b.0.number (occurs x b.0 b.2 among)))

  part_sound : IsSoundPart v (scoped xs (an_equation c l r))
  part_sound = record {
    known = ap (option_map name_of) (data_known v xs (words_of_option c ++ words_in l ++ words_in r) (all_appended _ (words_of_option c ++ words_in l) (words_in r) (all_appended _ (words_of_option c) (words_in l) (condition_meant c condition) (reads_words left_read)) (reads_words right_read)));
    typed = ap₂ (λ (a b : Option Term). is_some a && is_some b) condition (ap (option_and_then (λ (i : Inferred). (typing_in v.declared scope r).checks i.sort)) left ∙ right);
    closed = closed;
  }

  not_variable : is_variable xs l ≡ false
  not_variable = by_form l left
    where
      by_form : (e : Expression) → left_side (typing_in v.declared scope e) (typing_in v.declared scope r) ≡ Some (record { term = q.left; sort = s }) → is_variable xs e ≡ false
      by_form (expressions.numeral n) h = refl
      by_form (expressions.listed es) h = refl
      by_form (word x (expressions.more e es)) h = refl
      by_form (word x none) h = by_test (stands_in x (names_of_variables xs)) refl
        where
          by_test : (t : Bool) → stands_in x (names_of_variables xs) ≡ t → t ≡ false
          by_test false e = refl
          by_test true e =
              let b = variable_found x e in
              let is : Some (record { term = variable b.0.number; sort = b.0.sort }) ≡ Some (record { term = q.left; sort = s }) = sym (ap (λ (m : Meaning). left_side (word_typing m []) (typing_in v.declared scope r)) b.2) ∙ h in
              absurd (no_variable b.0.number (sym (ap (λ (i : Inferred). i.term) (same_Some _ _ is))))

pub elaborated_equations_are_sound : ElaboratedEquationsAreSound
elaborated_equations_are_sound v xs c l r q h =
    let sorts = bound_sorts h.binds in
    let i = bind_all v.declared [] xs none_below sorts in
    let k = equations_need_no_numbers v (record { variables = xs; condition = c; left = l; right = r }) q h (scope_of v.declared xs) i.bounds i.binds in
    let differs : NumbersDiffer (scope_of v.declared xs) = differ tt i.binds in
    let left = subst (λ (sc : Scope). left_side (typing_in v.declared sc l) (typing_in v.declared sc r) ≡ Some (record { term = k.0.left; sort = k.1.sort })) k.2 k.1.left in
    let right = subst (λ (sc : Scope). (typing_in v.declared sc r).checks k.1.sort ≡ Some k.0.right) k.2 k.1.right in
    let condition = subst (λ (sc : Scope). condition_at v.declared sc c ≡ Some k.0.condition) k.2 k.1.condition in
    (part_sound v xs sorts differs c l r k.0 k.1.sort left right condition k.1.no_variable k.1.no_other, not_variable v xs sorts differs c l r k.0 k.1.sort left right condition k.1.no_variable k.1.no_other)
