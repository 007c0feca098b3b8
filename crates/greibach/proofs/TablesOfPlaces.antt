-- What stands in the table of places.
use Rattle.std.proofs.Common.{◌≡◌, ◌<◌, ℕ, zero, suc, List, [], ◌∷◌, None, map, length, get_or, refl, sym, ap, ◌∙◌, arith}
use Rattle.greibach.specs.declared.places.Place.{Place}
use Rattle.greibach.specs.declared.places.Places.{Places}
use Rattle.greibach.specs.PlacesInCode.{delta, PlainPlace, plain_place, plain_places}
use Rattle.greibach.specs.OnwardCalls.{params_of_place}
use Rattle.greibach.specs.OccurringVariables.{params_at}

pub mapped_there : {A B : Type 0} (f : A → B) (xs : List A) (i : ℕ) (d : A) (e : B) → i < length xs → get_or (map f xs) i e ≡ f (get_or xs i d)
mapped_there f [] i d e l = absurd (omega (arith, l))
mapped_there f (x ∷ xs) zero d e l = refl
mapped_there f (x ∷ xs) (suc i) d e l = mapped_there f xs i d e (omega (arith, l))

pub params_there : (t : Places) (n : ℕ) (p : Place) → n < length t.places.items → p ≡ get_or t.places.items n p → params_of_place (plain_places t) n ≡ p.params.items
params_there t n p l e =
    ap (λ (z : PlainPlace). z.params) (mapped_there plain_place t.places.items n p (record { part = delta; rest = None; params = [] }) l)
    ∙ ap (λ (z : Place). z.params.items) (sym e)

pub params_in : (items : List Place) (n : ℕ) (d : Place) → n < length items → params_at (map plain_place items) n ≡ (get_or items n d).params.items
params_in items n d l = ap (λ (z : PlainPlace). z.params) (mapped_there plain_place items n d (record { part = delta; rest = None; params = [] }) l)
