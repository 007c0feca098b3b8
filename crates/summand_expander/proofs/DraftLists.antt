-- Drafts behind drafts, move by move.
use Rattle.std.proofs.Common.{◌≡◌, ◌+◌, ◌<◌, ℕ, List, [], ◌∷◌, ◌++◌, map, length, get_or, sym, ap, ◌∙◌, append_assoc}
use Rattle.std.specs.Prelude.{take, flat_map}
use Rattle.std.proofs.lemmas.List.{map-append, take_more, append-nil}
use Rattle.std.proofs.lemmas.List.Concat.{flat_map-append}

-- what is made of one more
pub mapped_more : {A B C : Type 0} (f : B → List C) (p : A → B) (xs : List A) (n : ℕ) (x : A) → n < length xs → x ≡ get_or xs n x → flat_map f (map p (take (n + 1) xs)) ≡ flat_map f (map p (take n xs)) ++ f (p x)
mapped_more f p xs n x l at =
    ap (λ ys. flat_map f (map p ys)) (take_more xs n x l ∙ ap (λ y. take n xs ++ y ∷ []) (sym at))
    ∙ ap (flat_map f) (map-append p (take n xs) (x ∷ []))
    ∙ flat_map-append f (map p (take n xs)) (p x ∷ [])
    ∙ ap (λ z. flat_map f (map p (take n xs)) ++ z) (append-nil (f (p x)))

-- what a turn of a loop adds
pub added_more : {A B C : Type 0} (f : B → List C) (p : A → B) (xs : List A) (n : ℕ) (x : A) (start old new : List C) → n < length xs → x ≡ get_or xs n x → old ≡ start ++ flat_map f (map p (take n xs)) → new ≡ old ++ f (p x)
    → new ≡ start ++ flat_map f (map p (take (n + 1) xs))
added_more f p xs n x start old new l at before e =
    e ∙ ap (λ z. z ++ f (p x)) before ∙ append_assoc start (flat_map f (map p (take n xs))) (f (p x)) ∙ ap (λ z. start ++ z) (sym (mapped_more f p xs n x l at))
