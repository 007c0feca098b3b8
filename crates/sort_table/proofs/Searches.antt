-- Searches along a list whose elements give lists of names.
use Rattle.std.proofs.Common.{◌≡◌, ◌<◌, ◌+◌, ℕ, suc, Bool, List, [], ◌∷◌, ◌++◌, length, map, take, drop, get_or, ap, sym, ◌∙◌, subst, append_assoc}
use Rattle.std.specs.Prelude.{Option, Some, None, option_map}
use Rattle.std.specs.Option.{option_or}
use Rattle.std.specs.List.{find, AllByRecursion}
use Rattle.std.proofs.lemmas.List.{take_more, append-nil, take-append-drop, map-append}
use Rattle.std.proofs.lemmas.List.Folds.{find-append}
use Rattle.std.proofs.Math.Seq.{drop-cons}
use denote.Ref.{Bor}
use Rattle.sort_table.specs.Expressions.{Name}

-- what each element gives, one after the other
pub record IsListed {A B : Type 0} (h : List A → List B) (f : A → List B) : Type 0 where
  pub of_none : h [] ≡ []
  pub of_more : (x : A) (xs : List A) → h (x ∷ xs) ≡ f x ++ h xs

module _ {A B : Type 0} (h : List A → List B) (f : A → List B) (is : IsListed h f) where
  pub listed_behind : (xs ys : List A) → h (xs ++ ys) ≡ h xs ++ h ys
  listed_behind [] ys = ap (λ l. l ++ h ys) (sym is.of_none)
  listed_behind (x ∷ xs) ys =
      is.of_more x (xs ++ ys) ∙ (ap (λ l. f x ++ l) (listed_behind xs ys) ∙ (sym (append_assoc (f x) (h xs) (h ys)) ∙ ap (λ l. l ++ h ys) (sym (is.of_more x xs))))

  listed_one : (x : A) → h (x ∷ []) ≡ f x
  listed_one x = is.of_more x [] ∙ (ap (λ l. f x ++ l) is.of_none ∙ append-nil (f x))

  pub listed_more : (xs : List A) (i : ℕ) (x : A) → i < length xs → x ≡ get_or xs i x → h (take (i + 1) xs) ≡ h (take i xs) ++ f x
  listed_more xs i x l e =
      ap h (take_more xs i x l) ∙ (listed_behind (take i xs) (get_or xs i x ∷ []) ∙ (ap (λ l. h (take i xs) ++ l) (listed_one (get_or xs i x)) ∙ ap (λ (y : A). h (take i xs) ++ f y) (sym e)))

module _ {A : Type 0} (h : List A → List Name) (f : A → List Name) (p : Name → Bool) (is : IsListed h f) where
  found_next : (xs : List A) (i : ℕ) (x : A) → i < length xs → x ≡ get_or xs i x → find p (h (take i xs)) ≡ None → find p (h (take (i + 1) xs)) ≡ find p (f x)
  found_next xs i x l e none = ap (find p) (listed_more h f is xs i x l e) ∙ (find-append p (h (take i xs)) (f x) ∙ ap (λ o. option_or o (find p (f x))) none)

  pub further : (xs : List A) (i : ℕ) (x : A) (o : Option (Bor Name)) → i < length xs → x ≡ get_or xs i x → find p (h (take i xs)) ≡ None
      → option_map (λ (n : Bor Name). n.now) o ≡ find p (f x) → o ≡ None → find p (h (take (i + 1) xs)) ≡ None
  further xs i x o l e none q absent = found_next xs i x l e none ∙ (sym q ∙ ap (option_map (λ (n : Bor Name). n.now)) absent)

  pub here : (xs : List A) (i : ℕ) (x : A) (o : Option (Bor Name)) (b : Bor Name) → i < length xs → x ≡ get_or xs i x → find p (h (take i xs)) ≡ None
      → option_map (λ (n : Bor Name). n.now) o ≡ find p (f x) → o ≡ Some b → Some b.now ≡ find p (h xs)
  here xs i x o b l e none q is_it =
      let told : find p (h (take (i + 1) xs)) ≡ Some b.now = found_next xs i x l e none ∙ (sym q ∙ ap (option_map (λ (n : Bor Name). n.now)) is_it) in
      sym (ap (λ ys. find p (h ys)) (sym (take-append-drop (i + 1) xs)) ∙ (ap (find p) (listed_behind h f is (take (i + 1) xs) (drop (i + 1) xs))
      ∙ (find-append p (h (take (i + 1) xs)) (h (drop (i + 1) xs)) ∙ ap (λ o. option_or o (find p (h (drop (i + 1) xs)))) told)))

-- ---- one element of a list
pub split_map : {A B : Type 0} (f : A → B) (xs : List A) (i : ℕ) (x : A) → i < length xs → x ≡ get_or xs i x → map f xs ≡ map f (take i xs) ++ (f x ∷ map f (drop (suc i) xs))
split_map f xs i x l e =
    ap (map f) (sym (take-append-drop i xs)) ∙ (map-append f (take i xs) (drop i xs)
    ∙ (ap (λ ys. map f (take i xs) ++ map f ys) (drop-cons xs i x l) ∙ ap (λ y. map f (take i xs) ++ (f y ∷ map f (drop (suc i) xs))) (sym e)))

all_behind : {A : Type 0} (P : A → Type 0) (xs : List A) (x : A) → AllByRecursion P xs → P x → AllByRecursion P (xs ++ x ∷ [])
all_behind P [] x all one = (one, tt)
all_behind P (y ∷ xs) x all one = (all.0, all_behind P xs x all.1 one)

pub all_more : {A B : Type 0} (f : A → B) (P : B → Type 0) (xs : List A) (i : ℕ) (x : A) → i < length xs → x ≡ get_or xs i x → AllByRecursion P (map f (take i xs)) → P (f x) → AllByRecursion P (map f (take (i + 1) xs))
all_more f P xs i x l e all one =
    subst (λ ys. AllByRecursion P ys)
    (sym (ap (map f) (take_more xs i x l) ∙ (map-append f (take i xs) (get_or xs i x ∷ []) ∙ ap (λ y. map f (take i xs) ++ f y ∷ []) (sym e))))
    (all_behind P (map f (take i xs)) (f x) all one)
