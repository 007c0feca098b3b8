-- Derivations stay where the data grow.
use Rattle.std.proofs.Common.{◌≡◌, ◌≢◌, ℕ, ◌<◌, ◌≤◌, List, [], ◌∷◌, length, get_or, refl, sym, ap, ◌∙◌, subst, arith, length-append}
use Rattle.std.proofs.lemmas.List.{get_or_append_left}
use Rattle.data_theory.specs.Terms.{Sort, boolean, positive, natural, integer, list, named, Symbol, truth, falsity, negation, conjunction, disjunction, implication, equality, inequality, conditional, comparison, arithmetic, minus, upcast, empty, cons, snoc, concatenation, size, element_at, head, rhead, tail, rtail, membership, function, Term, Terms, variable, numeral, unknown, application, none, more}
use Rattle.data_theory.specs.Declarations.{Data, DeclaredFunction, Role, by_declarations, structured, constructor, projection, recogniser, mapping, function_at, sort_at, IsSort, IsSymbol, argument_sorts, result_sort, HasSort, HaveSorts}
use Rattle.data_theory.specs.Equations.{BuiltIn, trueᵗ, equals, all_equal, not_true, not_false, not_not, true_and, and_true, false_and, and_false, and_same, true_or, or_true, false_or, or_false, or_same, true_implies, false_implies, implies, and_commutes, or_commutes, and_associates, or_associates, and_distributes, or_distributes, and_absorbs, or_absorbs, not_and, not_or, and_not, or_not, equal_itself, not_equal, if_true, if_false, if_same, equal_commutes, equal_true, true_equal, equal_false, false_equal, operation_of_one, operation_of_two, minus_of, compared, equal_numerals, empty_equal_cons, cons_equal_empty, cons_equal_cons, empty_concat, concat_empty, cons_concat, empty_snoc, cons_snoc, size_empty, size_cons, head_cons, tail_cons, rhead_one, rhead_more, rtail_one, rtail_more, at_zero, at_later, in_empty, in_cons, different_constructors, same_constructor, projected, recognised, not_recognised}
use Rattle.data_theory.specs.Provable.{ProvablyEqual, PlacesEqual, Equation, reflexive, symmetric, transitive, congruent, built_in, written, reflected, no_places, place}
use Rattle.data_theory.specs.EqualityLaws.{Grows, AreAmong, GrowthKeepsDerivations, GrowthKeepsSorts}
use Rattle.data_theory.proofs.WellSorted.{function_within, sort_within}

module _ (g h : Data) (grows : Grows g h) where
  pub function_in_grown : (k : ℕ) → k < length g.functions → function_at h k ≡ function_at g k
  function_in_grown k l = ap (λ fs. get_or fs k (record { arguments = []; result = boolean; role = mapping })) grows.functions ∙ get_or_append_left g.functions grows.new_functions (record { arguments = []; result = boolean; role = mapping }) k l

  construction_in_grown : (d : ℕ) → d < length g.sorts → sort_at h d ≡ sort_at g d
  construction_in_grown d l = ap (λ ks. get_or ks d by_declarations) grows.sorts ∙ get_or_append_left g.sorts grows.new_sorts by_declarations d l

  more_sorts : length g.sorts ≤ length h.sorts
  more_sorts = omega (arith, ap length grows.sorts, length-append g.sorts grows.new_sorts)

  more_functions : length g.functions ≤ length h.functions
  more_functions = omega (arith, ap length grows.functions, length-append g.functions grows.new_functions)

  role_in_grown : (k : ℕ) (r : Role) → (function_at g k).role ≡ r → r ≢ mapping → (function_at h k).role ≡ r
  role_in_grown k r e n = ap (λ (f : DeclaredFunction). f.role) (function_in_grown k (function_within g k r e n)) ∙ e

  structured_in_grown : (d : ℕ) → sort_at g d ≡ structured → sort_at h d ≡ structured
  structured_in_grown d e = construction_in_grown d (sort_within g d e) ∙ e

  pub line_in_grown : {c l r : Term} → BuiltIn g c l r → BuiltIn h c l r
  line_in_grown not_true = not_true
  line_in_grown not_false = not_false
  line_in_grown not_not = not_not
  line_in_grown true_and = true_and
  line_in_grown and_true = and_true
  line_in_grown false_and = false_and
  line_in_grown and_false = and_false
  line_in_grown and_same = and_same
  line_in_grown true_or = true_or
  line_in_grown or_true = or_true
  line_in_grown false_or = false_or
  line_in_grown or_false = or_false
  line_in_grown or_same = or_same
  line_in_grown true_implies = true_implies
  line_in_grown false_implies = false_implies
  line_in_grown implies = implies
  line_in_grown and_commutes = and_commutes
  line_in_grown or_commutes = or_commutes
  line_in_grown and_associates = and_associates
  line_in_grown or_associates = or_associates
  line_in_grown and_distributes = and_distributes
  line_in_grown or_distributes = or_distributes
  line_in_grown and_absorbs = and_absorbs
  line_in_grown or_absorbs = or_absorbs
  line_in_grown not_and = not_and
  line_in_grown not_or = not_or
  line_in_grown and_not = and_not
  line_in_grown or_not = or_not
  line_in_grown equal_itself = equal_itself
  line_in_grown not_equal = not_equal
  line_in_grown if_true = if_true
  line_in_grown if_false = if_false
  line_in_grown if_same = if_same
  line_in_grown equal_commutes = equal_commutes
  line_in_grown equal_true = equal_true
  line_in_grown true_equal = true_equal
  line_in_grown equal_false = equal_false
  line_in_grown false_equal = false_equal
  line_in_grown (operation_of_one p f) = operation_of_one p f
  line_in_grown (operation_of_two p f) = operation_of_two p f
  line_in_grown (minus_of f) = minus_of f
  line_in_grown compared = compared
  line_in_grown equal_numerals = equal_numerals
  line_in_grown empty_equal_cons = empty_equal_cons
  line_in_grown cons_equal_empty = cons_equal_empty
  line_in_grown cons_equal_cons = cons_equal_cons
  line_in_grown empty_concat = empty_concat
  line_in_grown concat_empty = concat_empty
  line_in_grown cons_concat = cons_concat
  line_in_grown empty_snoc = empty_snoc
  line_in_grown cons_snoc = cons_snoc
  line_in_grown size_empty = size_empty
  line_in_grown size_cons = size_cons
  line_in_grown head_cons = head_cons
  line_in_grown tail_cons = tail_cons
  line_in_grown rhead_one = rhead_one
  line_in_grown rhead_more = rhead_more
  line_in_grown rtail_one = rtail_one
  line_in_grown rtail_more = rtail_more
  line_in_grown at_zero = at_zero
  line_in_grown at_later = at_later
  line_in_grown in_empty = in_empty
  line_in_grown in_cons = in_cons
  line_in_grown (different_constructors {b = b} {c = c} k p q n) = different_constructors (structured_in_grown _ k) (role_in_grown b constructor p (λ e. cc)) (role_in_grown c constructor q (λ e. cc)) n
  line_in_grown (same_constructor {d = d} {c = c} {xs = xs} {ys = ys} k p) =
      subst (λ (f : DeclaredFunction). BuiltIn h trueᵗ (equals (named d) (application (function c) xs) (application (function c) ys)) (all_equal f.arguments xs ys)) (function_in_grown c (function_within g c constructor p (λ e. cc)))
      (same_constructor (structured_in_grown d k) (role_in_grown c constructor p (λ e. cc)))
  line_in_grown (projected {p = f} {c = c} {i = i} p) = projected (role_in_grown f (projection c i) p (λ e. cc))
  line_in_grown (recognised {r = f} {c = c} p) = recognised (role_in_grown f (recogniser c) p (λ e. cc))
  line_in_grown (not_recognised {r = f} {b = b} {c = c} p q n) = not_recognised (role_in_grown f (recogniser c) p (λ e. cc)) (role_in_grown b constructor q (λ e. cc)) n

  sort_in_grown : (s : Sort) → IsSort g s → IsSort h s
  sort_in_grown boolean i = tt
  sort_in_grown positive i = tt
  sort_in_grown natural i = tt
  sort_in_grown integer i = tt
  sort_in_grown (list s) i = sort_in_grown s i
  sort_in_grown (named d) i = omega (arith, i, more_sorts)

  symbol_in_grown : (f : Symbol) → IsSymbol g f → IsSymbol h f
  symbol_in_grown truth i = tt
  symbol_in_grown falsity i = tt
  symbol_in_grown negation i = tt
  symbol_in_grown conjunction i = tt
  symbol_in_grown disjunction i = tt
  symbol_in_grown implication i = tt
  symbol_in_grown (equality s) i = sort_in_grown s i
  symbol_in_grown (inequality s) i = sort_in_grown s i
  symbol_in_grown (conditional s) i = sort_in_grown s i
  symbol_in_grown (comparison c s) i = i
  symbol_in_grown (arithmetic op ss to) i = i
  symbol_in_grown (minus s) i = i
  symbol_in_grown (upcast s to) i = i
  symbol_in_grown (empty s) i = sort_in_grown s i
  symbol_in_grown (cons s) i = sort_in_grown s i
  symbol_in_grown (snoc s) i = sort_in_grown s i
  symbol_in_grown (concatenation s) i = sort_in_grown s i
  symbol_in_grown (size s) i = sort_in_grown s i
  symbol_in_grown (element_at s) i = sort_in_grown s i
  symbol_in_grown (head s) i = sort_in_grown s i
  symbol_in_grown (rhead s) i = sort_in_grown s i
  symbol_in_grown (tail s) i = sort_in_grown s i
  symbol_in_grown (rtail s) i = sort_in_grown s i
  symbol_in_grown (membership s) i = sort_in_grown s i
  symbol_in_grown (function k) i = omega (arith, i, more_functions)

  arguments_in_grown : (f : Symbol) → IsSymbol g f → argument_sorts h f ≡ argument_sorts g f
  arguments_in_grown (function k) i = ap (λ (d : DeclaredFunction). d.arguments) (function_in_grown k i)
  arguments_in_grown _ i = refl

  result_in_grown : (f : Symbol) → IsSymbol g f → result_sort h f ≡ result_sort g f
  result_in_grown (function k) i = ap (λ (d : DeclaredFunction). d.result) (function_in_grown k i)
  result_in_grown _ i = refl

  mutual
    pub has_sort_in_grown : (vs : List Sort) (t : Term) (s : Sort) → HasSort g vs t s → HasSort h vs t s
    has_sort_in_grown vs (variable v) s i = i
    has_sort_in_grown vs (numeral a z) s i = i
    has_sort_in_grown vs (unknown d k) s i = let l = more_sorts in (i.0, omega (arith, i.1, l), construction_in_grown d i.1 ∙ i.2)
    has_sort_in_grown vs (application f ts) s i = (symbol_in_grown f i.0, subst (HaveSorts h vs ts) (sym (arguments_in_grown f i.0)) (have_sorts_in_grown vs ts (argument_sorts g f) i.1), result_in_grown f i.0 ∙ i.2, i.3)

    pub have_sorts_in_grown : (vs : List Sort) (ts : Terms) (ss : List Sort) → HaveSorts g vs ts ss → HaveSorts h vs ts ss
    have_sorts_in_grown vs none [] i = tt
    have_sorts_in_grown vs none (s ∷ ss) i = absurd i
    have_sorts_in_grown vs (more t ts) [] i = absurd i
    have_sorts_in_grown vs (more t ts) (s ∷ ss) i = (has_sort_in_grown vs t s i.0, have_sorts_in_grown vs ts ss i.1)

  module _ (own more' : List Equation) (among : AreAmong own more') where
    mutual
      pub equal_in_grown : {t u : Term} → ProvablyEqual g own t u → ProvablyEqual h more' t u
      equal_in_grown reflexive = reflexive
      equal_in_grown (symmetric e) = symmetric (equal_in_grown e)
      equal_in_grown (transitive e f) = transitive (equal_in_grown e) (equal_in_grown f)
      equal_in_grown (congruent f es) = congruent f (places_in_grown es)
      equal_in_grown (built_in {l = l} s a i c) = built_in s (line_in_grown a) (has_sort_in_grown [] l s i) (equal_in_grown c)
      equal_in_grown (written q e a f c) = written q e (among q a) (λ v o. let h = f v o in (h.0, h.1, has_sort_in_grown [] (e v) h.0 h.2)) (equal_in_grown c)
      equal_in_grown (reflected e) = reflected (equal_in_grown e)

      places_in_grown : {ts us : Terms} → PlacesEqual g own ts us → PlacesEqual h more' ts us
      places_in_grown no_places = no_places
      places_in_grown (place e es) = place (equal_in_grown e) (places_in_grown es)

pub growth_keeps_derivations : GrowthKeepsDerivations
growth_keeps_derivations g h grows own more' among t u e = equal_in_grown g h grows own more' among e

pub growth_keeps_sorts : GrowthKeepsSorts
growth_keeps_sorts g h grows vs t s i = has_sort_in_grown g h grows vs t s i
