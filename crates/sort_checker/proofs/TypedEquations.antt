-- An equation without a fault elaborates.
use Rattle.std.proofs.Common.{◌≡◌, ℕ, Bool, true, false, not, ◌&&◌, ◌||◌, List, [], ◌∷◌, ◌++◌, ⊎_elim, refl, sym, ap, ◌∙◌, subst}
use Rattle.std.specs.Prelude.{Option, Some, None, is_some, option_map, option_and_then, bytes_eq}
use Rattle.std.specs.List.{Contains, find}
use Rattle.std.proofs.lemmas.Option.{same_Some, option_and_then_some}
use Rattle.std.proofs.lemmas.List.Elements.{Contains-append_left, Contains-append_right, Contains-append_cases}
use Rattle.std.proofs.lemmas.Slice.Eq.{bytes_eq-Decides}
use Rattle.data_theory.specs.Terms.{Sort, boolean, Term, variable, variables_of}
use Rattle.data_theory.specs.Equations.{trueᵗ}
use Rattle.data_theory.specs.Provable.{Equation, variables_of_equation}
use Rattle.sort_table.specs.Expressions.{Name, Expression}
use Rattle.sort_table.specs.BareProcesses.{Variables}
use Rattle.data_typing.specs.Typings.{Inferred, Typing, bound}
use Rattle.data_typing.specs.TypingLaws.{Reads}
use Rattle.data_typing.specs.Meanings.{Scope, meaning, typing_in}
use Rattle.data_typing.proofs.Options.{one_or_other, mapped}
use Rattle.data_typing.proofs.Readings.{typing_reads_the_expression}
use Rattle.sort_checker.specs.FullVocabularies.{FullVocabulary}
use Rattle.sort_checker.specs.Operators.{stands_in}
use Rattle.sort_checker.specs.Parts.{an_equation, scoped}
use Rattle.sort_checker.specs.Scopes.{scope_of}
use Rattle.sort_checker.specs.PartTypings.{left_side, right_side, condition_at}
use Rattle.sort_checker.specs.Faults.{words_in, words_of_option, names_of_variables, first_free, is_variable}
use Rattle.sort_checker.specs.Elaborations.{ElaboratesEquation}
use Rattle.sort_checker.specs.SoundTexts.{IsSoundPart, HaveSorts}
use Rattle.sort_checker.proofs.Members.{contains_first, contains_later, contains_cases, contains_none}
use Rattle.sort_checker.proofs.SoundElaborations.{there, there_then, both_true, none_found, bind_all, none_below}
use Rattle.sort_checker.proofs.EquationNumbers.{sorts_for, declared, where_they_occur}
use Rattle.sort_checker.proofs.MeantWords.{scope_names}
use Rattle.sort_checker.proofs.FittingEquations.{word_in_scope}
use Rattle.sort_checker.proofs.VariableWords.{variable_is_word, word_is_variable, variables_read_words}

-- ---- what isn't found
none_passes : {A : Type 0} (p : A → Bool) (x : A) (xs : List A) → find p xs ≡ None → Contains xs x → p x ≡ false
none_passes p x [] h c = absurd (contains_none x c)
none_passes p x (y ∷ ys) h c =
    let r = none_found p y ys h in ⊎_elim (λ (e : y ≡ x). subst (λ z. p z ≡ false) e r.0) (λ d. none_passes p x ys r.1 d) (contains_cases y x ys c)

pub stands_among : (x : Name) (ys : List Name) → stands_in x ys ≡ true → Contains ys x
stands_among x [] h = let never : false ≡ true = h in absurd cc
stands_among x (y ∷ ys) h = by_test (bytes_eq y x) refl (stands_among x ys) h
  where
    by_test : (b : Bool) → bytes_eq y x ≡ b → (stands_in x ys ≡ true → Contains ys x) → (b || stands_in x ys) ≡ true → Contains (y ∷ ys) x
    by_test true e f k = subst (Contains (y ∷ ys)) ((bytes_eq-Decides y x).0 e) (contains_first y ys)
    by_test false e f k = contains_later y x ys (f k)

-- a variable that isn't free stands on the left
on_the_left : (a b : Bool) → (a && not b) ≡ false → a ≡ true → b ≡ true
on_the_left true true h e = refl
on_the_left true false h e = let never : true ≡ false = h in absurd cc
on_the_left false b h e = let never : false ≡ true = e in absurd cc

module _ (v : FullVocabulary) (xs : Variables) where
  abbrev scope : Scope
  scope = scope_of v.declared xs

  -- a word that is a variable is one of these
  variable_stands : (x : Name) (n : ℕ) (s : Sort) → meaning v.declared scope x ≡ bound n s → stands_in x (names_of_variables xs) ≡ true
  variable_stands x n s h = let found = word_in_scope v.declared scope x n s h in scope_names v.declared x [] xs (ap is_some found.1)

  pub left_reads : (l r : Expression) (t : Term) (s : Sort) → left_side (typing_in v.declared scope l) (typing_in v.declared scope r) ≡ Some (record { term = t; sort = s }) → Reads (meaning v.declared scope) l t
  left_reads l r t s h =
      let lt : Typing = typing_in v.declared scope l in
      let rt : Typing = typing_in v.declared scope r in
      one_or_other lt.infers (option_and_then (λ (i : Inferred). option_map (λ u. record { term = u; sort = i.sort }) (lt.checks i.sort)) rt.infers) (record { term = t; sort = s }) h
      (λ w. (typing_reads_the_expression (meaning v.declared scope) l).infers (record { term = t; sort = s }) w)
      (λ w. option_and_then_some (λ (i : Inferred). option_map (λ u. record { term = u; sort = i.sort }) (lt.checks i.sort)) rt.infers (record { term = t; sort = s }) w
      (λ i there k. mapped (λ u. record { term = u; sort = i.sort }) (lt.checks i.sort) (record { term = t; sort = s }) k
      (λ u checks same. let is : u ≡ t = ap (λ (j : Inferred). j.term) same in
      subst (Reads (meaning v.declared scope) l) is ((typing_reads_the_expression (meaning v.declared scope) l).checks i.sort u checks))))

  -- a variable of the condition or of the right side is one of the left side
  module _ (c : Option Expression) (l r : Expression) (t : Term) (reads : Reads (meaning v.declared scope) l t) (closed : first_free xs (words_in l) (words_of_option c ++ words_in r) ≡ None) where
    known_on_the_left : (x : Name) (n : ℕ) (s : Sort) → Contains (words_of_option c ++ words_in r) x → meaning v.declared scope x ≡ bound n s → Contains (variables_of t) n
    known_on_the_left x n s among h =
        let test = none_passes (λ y. stands_in y (names_of_variables xs) && not (stands_in y (words_in l))) x (words_of_option c ++ words_in r) closed among in
        let left : stands_in x (words_in l) ≡ true = on_the_left (stands_in x (names_of_variables xs)) (stands_in x (words_in l)) test (variable_stands x n s h) in
        word_is_variable reads x n s (stands_among x (words_in l) left) h

    of_condition : (u : Term) → condition_at v.declared scope c ≡ Some u → (n : ℕ) → Contains (variables_of u) n → Contains (variables_of t) n
    of_condition u h n among = by_form c refl h
      where
        by_form : (d : Option Expression) → c ≡ d → condition_at v.declared scope d ≡ Some u → Contains (variables_of t) n
        by_form None e k = let is : trueᵗ ≡ u = same_Some _ _ k in absurd (contains_none n (subst (λ (w : Term). Contains (variables_of w) n) (sym is) among))
        by_form (Some d) e k =
            let w = variable_is_word ((typing_reads_the_expression (meaning v.declared scope) d).checks boolean u k) n among in
            known_on_the_left w.word n w.sort (Contains-append_left (words_of_option c) (words_in r) w.word (subst (λ (o : Option Expression). Contains (words_of_option o) w.word) (sym e) w.among)) w.meant

    of_right : (s : Sort) (u : Term) → (typing_in v.declared scope r).checks s ≡ Some u → (n : ℕ) → Contains (variables_of u) n → Contains (variables_of t) n
    of_right s u h n among =
        let w = variable_is_word ((typing_reads_the_expression (meaning v.declared scope) r).checks s u h) n among in
        known_on_the_left w.word n w.sort (Contains-append_right (words_of_option c) (words_in r) w.word w.among) w.meant

  -- a left side that isn't a variable
  no_variable_left : (l : Expression) (t : Term) → Reads (meaning v.declared scope) l t → is_variable xs l ≡ false → (n : ℕ) → t ≡ variable n → ⊥
  no_variable_left l t reads h n e =
      let lone = variables_read_words reads n e in
      let yes : is_variable xs l ≡ true = ap (is_variable xs) lone.is ∙ variable_stands lone.word n lone.sort lone.meant in
      let never : true ≡ false = sym yes ∙ h in absurd cc

  pub sound_equation_elaborates : (c : Option Expression) (l r : Expression) → HaveSorts v.declared xs → IsSoundPart v (scoped xs (an_equation c l r)) → is_variable xs l ≡ false
      → (q : Equation) × ElaboratesEquation v (record { variables = xs; condition = c; left = l; right = r }) q
  sound_equation_elaborates c l r sorts sound not_one =
      let lt : Typing = typing_in v.declared scope l in
      let rt : Typing = typing_in v.declared scope r in
      let typed = both_true (is_some (condition_at v.declared scope c)) (is_some (right_side lt rt)) sound.typed in
      let condition = there (condition_at v.declared scope c) typed.0 in
      let left = there_then (λ (i : Inferred). rt.checks i.sort) (left_side lt rt) typed.1 in
      let right = there (rt.checks left.0.sort) left.1.1 in
      let i = bind_all v.declared [] xs none_below sorts in
      let reads = left_reads l r left.0.term left.0.sort left.1.0 in
      let q : Equation = record { sorts = sorts_for i.bounds; condition = condition.0; left = left.0.term; right = right.0 } in (
        q,
        record {
          scope = scope_of v.declared xs;
          bounds = i.bounds;
          binds = i.binds;
          sorts = where_they_occur (variables_of_equation q) (sorts_for i.bounds) i.bounds (declared i.binds);
          sort = left.0.sort;
          left = left.1.0;
          right = right.1;
          condition = condition.1;
          no_variable = no_variable_left l left.0.term reads not_one;
          no_other = λ n among. ⊎_elim (λ d. of_condition c l r left.0.term reads sound.closed condition.0 condition.1 n d) (λ d. of_right c l r left.0.term reads sound.closed left.0.sort right.0 right.1 n d)
              (Contains-append_cases (variables_of condition.0) (variables_of right.0) n among);
        },
      )
