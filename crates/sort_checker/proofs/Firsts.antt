-- Searches for the first element of a list that gives something.
use Rattle.std.proofs.Common.{◌≡◌, ◌<◌, ◌+◌, ℕ, List, [], ◌∷◌, ◌++◌, length, take, drop, get_or, refl, ap, sym, ◌∙◌}
use Rattle.std.specs.Prelude.{Option, Some, None, option_map, Result, Ok, Err, IfOk}
use Rattle.std.specs.Option.{option_or}
use Rattle.std.proofs.lemmas.List.{take_more, take-append-drop}
use Rattle.data_typing.specs.Typings.{first_of}

-- what the first element gives, or else what a later one does
pub record IsSearch {A B : Type 0} (h : List A → Option B) (f : A → Option B) : Type 0 where
  pub of_none : h [] ≡ None
  pub of_more : (x : A) (xs : List A) → h (x ∷ xs) ≡ option_or (f x) (h xs)

or_or : {A : Type 0} (o p q : Option A) → option_or (option_or o p) q ≡ option_or o (option_or p q)
or_or None p q = refl
or_or (Some x) p q = refl

pub or_none : {A : Type 0} (o : Option A) → option_or o None ≡ o
or_none None = refl
or_none (Some x) = refl

-- a search along the list that each element gives
pub first_append : {A B : Type 0} (f : A → Option B) (xs ys : List A) → first_of f (xs ++ ys) ≡ option_or (first_of f xs) (first_of f ys)
first_append f [] ys = refl
first_append f (x ∷ xs) ys = ap (option_or (f x)) (first_append f xs ys) ∙ sym (or_or (f x) (first_of f xs) (first_of f ys))

module _ {A B : Type 0} (h : List A → Option B) (f : A → Option B) (is : IsSearch h f) where
  search_behind : (xs ys : List A) → h (xs ++ ys) ≡ option_or (h xs) (h ys)
  search_behind [] ys = ap (λ (o : Option B). option_or o (h ys)) (sym is.of_none)
  search_behind (x ∷ xs) ys =
      is.of_more x (xs ++ ys) ∙ (ap (option_or (f x)) (search_behind xs ys) ∙ (sym (or_or (f x) (h xs) (h ys)) ∙ ap (λ (o : Option B). option_or o (h ys)) (sym (is.of_more x xs))))

  search_one : (x : A) → h (x ∷ []) ≡ f x
  search_one x = is.of_more x [] ∙ (ap (option_or (f x)) is.of_none ∙ or_none (f x))

  next : (xs : List A) (i : ℕ) (x : A) → i < length xs → x ≡ get_or xs i x → h (take i xs) ≡ None → h (take (i + 1) xs) ≡ f x
  next xs i x l e none =
      ap h (take_more xs i x l) ∙ (search_behind (take i xs) (get_or xs i x ∷ []) ∙ (ap (λ (o : Option B). option_or o (h (get_or xs i x ∷ []))) none ∙ (search_one (get_or xs i x) ∙ ap f (sym e))))

  pub further : (xs : List A) (i : ℕ) (x : A) → i < length xs → x ≡ get_or xs i x → h (take i xs) ≡ None → f x ≡ None → h (take (i + 1) xs) ≡ None
  further xs i x l e none absent = next xs i x l e none ∙ absent

  pub here : (xs : List A) (i : ℕ) (x : A) (b : B) → i < length xs → x ≡ get_or xs i x → h (take i xs) ≡ None → f x ≡ Some b → h xs ≡ Some b
  here xs i x b l e none it =
      ap h (sym (take-append-drop (i + 1) xs)) ∙ (search_behind (take (i + 1) xs) (drop (i + 1) xs) ∙ ap (λ (o : Option B). option_or o (h (drop (i + 1) xs))) (next xs i x l e none ∙ it))

-- the same through a look at what is found
pub none_told : {A B : Type 0} (g : A → B) (o : Option A) (p : Option B) → option_map g o ≡ p → o ≡ None → p ≡ None
none_told g o p told e = sym told ∙ ap (option_map g) e

pub some_told : {A B : Type 0} (g : A → B) (o : Option A) (p : Option B) (x : A) → option_map g o ≡ p → o ≡ Some x → p ≡ Some (g x)
some_told g o p x told e = sym told ∙ ap (option_map g) e

pub ok_then : {A E : Type 0} {P Q : A → Type 0} (r : Result A E) → IfOk r P → ((x : A) → P x → Q x) → IfOk r Q
ok_then (Ok x) h k = k x h
ok_then (Err e) h k = tt
