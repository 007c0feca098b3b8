-- Loops that add to a list until it is cut.
use Rattle.std.proofs.Common.{◌≡◌, ◌<◌, ◌≤◌, ◌+◌, ◌++◌, ℕ, List, [], ◌∷◌, map, take, drop, length, get_or, refl, sym, ap, ◌∙◌, arith}
use Rattle.std.specs.List.{flat_map}
use Rattle.std.proofs.lemmas.List.{take_all, take_more, take-append-drop, map-append, append_assoc, append-nil}
use Rattle.value_enum.proofs.Capped.{cut_already, cut_left, one_pushed}

flat_append : {X B : Type 0} (g : X → List B) (xs ys : List X) → flat_map g (xs ++ ys) ≡ flat_map g xs ++ flat_map g ys
flat_append g [] ys = refl
flat_append g (x ∷ xs) ys = ap (λ l. g x ++ l) (flat_append g xs ys) ∙ sym (append_assoc (g x) (flat_map g xs) (flat_map g ys))

module _ {X B : Type 0} (f : X → B) (n : ℕ) (old : List B) (xs : List X) where
  pub pushing_begins : length old ≤ n + 1 → old ≡ take (n + 1) (old ++ map f (take 0 xs))
  pushing_begins l = sym (take_all (n + 1) old l) ∙ ap (take (n + 1)) (sym (append-nil old))

  pub pushing_goes_on : (i : ℕ) (d : X) (now new : List B) → i < length xs → now ≡ take (n + 1) (old ++ map f (take i xs)) → length now ≤ n → new ≡ now ++ f (get_or xs i d) ∷ [] → new ≡ take (n + 1) (old ++ map f (take (i + 1) xs))
  pushing_goes_on i d now new l e room is =
      is
      ∙ (one_pushed n now (old ++ map f (take i xs)) (f (get_or xs i d)) e room
      ∙ ap (take (n + 1)) (append_assoc old (map f (take i xs)) (f (get_or xs i d) ∷ []) ∙ ap (λ l. old ++ l) (sym (map-append f (take i xs) (get_or xs i d ∷ [])) ∙ ap (map f) (sym (take_more xs i d l)))))

  pub pushing_stops : (i : ℕ) (now : List B) → now ≡ take (n + 1) (old ++ map f (take i xs)) → n < length now → now ≡ take (n + 1) (old ++ map f xs)
  pushing_stops i now e l =
      e
      ∙ (sym (cut_already n (old ++ map f (take i xs)) (map f (drop i xs)) (let m = ap length e in omega (arith, m, l)))
      ∙ ap (take (n + 1)) (append_assoc old (map f (take i xs)) (map f (drop i xs)) ∙ ap (λ l. old ++ l) (sym (map-append f (take i xs) (drop i xs)) ∙ ap (map f) (take-append-drop i xs))))

  pub pushing_ends : (i : ℕ) (now : List B) → now ≡ take (n + 1) (old ++ map f (take i xs)) → length xs ≤ i → now ≡ take (n + 1) (old ++ map f xs)
  pushing_ends i now e l = e ∙ ap (λ ys. take (n + 1) (old ++ map f ys)) (take_all i xs l)

module _ {X B : Type 0} (f : X → List B) (n : ℕ) (old : List B) (xs : List X) where
  pub joining_begins : length old ≤ n + 1 → old ≡ take (n + 1) (old ++ flat_map f (take 0 xs))
  joining_begins l = sym (take_all (n + 1) old l) ∙ ap (take (n + 1)) (sym (append-nil old))

  pub joining_goes_on : (i : ℕ) (d : X) (now new : List B) → i < length xs → now ≡ take (n + 1) (old ++ flat_map f (take i xs)) → new ≡ take (n + 1) (now ++ f (get_or xs i d)) → new ≡ take (n + 1) (old ++ flat_map f (take (i + 1) xs))
  joining_goes_on i d now new l e is =
      is
      ∙ (ap (λ ys. take (n + 1) (ys ++ f (get_or xs i d))) e
      ∙ (cut_left (n + 1) (old ++ flat_map f (take i xs)) (f (get_or xs i d))
      ∙ ap (take (n + 1))
      (append_assoc old (flat_map f (take i xs)) (f (get_or xs i d))
      ∙ ap (λ l. old ++ l) (ap (λ l. flat_map f (take i xs) ++ l) (sym (append-nil (f (get_or xs i d)))) ∙ (sym (flat_append f (take i xs) (get_or xs i d ∷ [])) ∙ ap (flat_map f) (sym (take_more xs i d l)))))))

  pub joining_stops : (i : ℕ) (now : List B) → now ≡ take (n + 1) (old ++ flat_map f (take i xs)) → n < length now → now ≡ take (n + 1) (old ++ flat_map f xs)
  joining_stops i now e l =
      e
      ∙ (sym (cut_already n (old ++ flat_map f (take i xs)) (flat_map f (drop i xs)) (let m = ap length e in omega (arith, m, l)))
      ∙ ap (take (n + 1)) (append_assoc old (flat_map f (take i xs)) (flat_map f (drop i xs)) ∙ ap (λ l. old ++ l) (sym (flat_append f (take i xs) (drop i xs)) ∙ ap (flat_map f) (take-append-drop i xs))))

  pub joining_ends : (i : ℕ) (now : List B) → now ≡ take (n + 1) (old ++ flat_map f (take i xs)) → length xs ≤ i → now ≡ take (n + 1) (old ++ flat_map f xs)
  joining_ends i now e l = e ∙ ap (λ ys. take (n + 1) (old ++ flat_map f ys)) (take_all i xs l)
