-- Provable equality: an equivalence, a congruence, putting in, and `==`.
use Rattle.std.proofs.Common.{List, [], refl}
use Rattle.data_theory.specs.Terms.{Sort, boolean, equality, Term, Terms, variable, numeral, unknown, application, none, more}
use Rattle.data_theory.specs.Declarations.{Data, IsSort, HasSort}
use Rattle.data_theory.specs.Equations.{equals, equal_itself}
use Rattle.data_theory.specs.Provable.{Equation, ProvablyEqual, PlacesEqual, reflexive, symmetric, transitive, congruent, built_in, reflected, no_places, place, ProvablyTrue}
use Rattle.data_theory.proofs.WellSorted.{sort_of_term}
use Rattle.data_theory.specs.EqualityLaws.{EqualityIsReflexive, EqualityIsSymmetric, EqualityIsTransitive, PlacesAreReflexive, PlacesAreSymmetric, PlacesAreTransitive, EqualityIsACongruence, PuttingInRespectsEquality, PuttingAllInRespectsEquality, EqualsIsProvableEquality, EqualsItself}

pub equality_reflexive : EqualityIsReflexive
equality_reflexive g own t = reflexive

pub equality_symmetric : EqualityIsSymmetric
equality_symmetric g own t u h = symmetric h

pub equality_transitive : EqualityIsTransitive
equality_transitive g own t u v h k = transitive h k

pub places_reflexive : PlacesAreReflexive
places_reflexive g own none = no_places
places_reflexive g own (more t ts) = place reflexive (places_reflexive g own ts)

places_swapped : {g : Data} {own : List Equation} {ts us : Terms} → PlacesEqual g own ts us → PlacesEqual g own us ts
places_swapped no_places = no_places
places_swapped (place h k) = place (symmetric h) (places_swapped k)

pub places_symmetric : PlacesAreSymmetric
places_symmetric g own ts us h = places_swapped h

places_chained : {g : Data} {own : List Equation} {ts us vs : Terms} → PlacesEqual g own ts us → PlacesEqual g own us vs → PlacesEqual g own ts vs
places_chained no_places no_places = no_places
places_chained (place h k) (place h' k') = place (transitive h h') (places_chained k k')

pub places_transitive : PlacesAreTransitive
places_transitive g own ts us vs h k = places_chained h k

pub equality_congruence : EqualityIsACongruence
equality_congruence g own f ts us h = congruent f h

mutual
  pub put_equal : PuttingInRespectsEquality
  put_equal g own d e h (variable v) = h v
  put_equal g own d e h (numeral a z) = reflexive
  put_equal g own d e h (unknown a k) = reflexive
  put_equal g own d e h (application f ts) = congruent f (put_all_equal g own d e h ts)

  pub put_all_equal : PuttingAllInRespectsEquality
  put_all_equal g own d e h none = no_places
  put_all_equal g own d e h (more t ts) = place (put_equal g own d e h t) (put_all_equal g own d e h ts)

-- ---- `==` and provable equality
abbrev pub equals_has_sort : (g : Data) (s : Sort) (x y : Term) → IsSort g s → HasSort g [] x s → HasSort g [] y s → HasSort g [] (equals s x y) boolean
equals_has_sort g s x y i h k = (i, (h, (k, tt)), refl, refl)

pub equals_of_equal : (g : Data) (own : List Equation) (s : Sort) (x y : Term) → IsSort g s → HasSort g [] x s → ProvablyEqual g own x y → ProvablyTrue g own (equals s x y)
equals_of_equal g own s x y i h e =
    transitive (congruent (equality s) (place reflexive (place (symmetric e) no_places))) (built_in boolean equal_itself (equals_has_sort g s x x i h h) reflexive)

pub equals_is : EqualsIsProvableEquality
equals_is g own ok s x y h k = (λ e. reflected e, λ e. equals_of_equal g own s x y (sort_of_term g ok x s h) h e)

pub equals_itself : EqualsItself
equals_itself g own ok s x h = equals_of_equal g own s x x (sort_of_term g ok x s h) h reflexive
