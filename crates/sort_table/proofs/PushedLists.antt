-- What a pass over trees puts behind a list.
use Rattle.std.proofs.Common.{◌≡◌, ◌<◌, ◌+◌, ℕ, List, [], ◌∷◌, ◌++◌, length, map, take, get_or, ap, sym, ◌∙◌, append_assoc}
use Rattle.std.proofs.Common.{Result, Ok, Err}
use Rattle.std.specs.Result.{OnOk}
use Rattle.std.proofs.lemmas.List.{map-append}
use Rattle.sort_table.proofs.Searches.{IsListed, listed_more}

-- one element more in a loop
pub pushed_more : {A B : Type 0} (h : List A → List B) (f : A → List B) → IsListed h f → (xs : List A) (i : ℕ) (x : A) (old mid new : List B) → i < length xs → x ≡ get_or xs i x
    → mid ≡ old ++ h (take i xs) → new ≡ mid ++ f x → new ≡ old ++ h (take (i + 1) xs)
pushed_more h f is xs i x old mid new l e before step =
    step ∙ (ap (λ ys. ys ++ f x) before ∙ (append_assoc old (h (take i xs)) (f x) ∙ ap (λ ys. old ++ ys) (sym (listed_more h f is xs i x l e))))

-- one part and then another
pub pushed_both : {B : Type 0} (old mid new xs ys zs : List B) → zs ≡ xs ++ ys → mid ≡ old ++ xs → new ≡ mid ++ ys → new ≡ old ++ zs
pushed_both old mid new xs ys zs is first then = then ∙ (ap (λ l. l ++ ys) first ∙ (append_assoc old xs ys ∙ ap (λ l. old ++ l) (sym is)))

pub then_pushed : {T E B : Type 0} (r : Result T E) (old mid new xs ys zs : List B) → zs ≡ xs ++ ys → mid ≡ old ++ xs → OnOk r (new ≡ mid ++ ys) → OnOk r (new ≡ old ++ zs)
then_pushed (Ok t) old mid new xs ys zs is first then = pushed_both old mid new xs ys zs is first then
then_pushed (Err e) old mid new xs ys zs is first then = tt

-- one element that is pushed
pub pushed_one : {A B : Type 0} (f : A → B) (xs ys : List A) (x : A) (y : B) → ys ≡ xs ++ x ∷ [] → f x ≡ y → map f ys ≡ map f xs ++ y ∷ []
pushed_one f xs ys x y pushed is = ap (map f) pushed ∙ (map-append f xs (x ∷ []) ∙ ap (λ z. map f xs ++ z ∷ []) is)
