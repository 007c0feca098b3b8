-- A term of constructors has a value of its sort, over any interpretation.
use Rattle.std.proofs.Common.{◌≡◌, ℕ, ◌<◌, List, [], ◌∷◌, length, refl, subst, arith}
use native.Mathlib.Decide.{dec_lt}
use Rattle.std.specs.Prelude.{true}
use Rattle.data_theory.specs.Terms.{Sort, list, named, truth, falsity, empty, cons, function, Term, Terms, numeral, unknown, application, none, more}
use Rattle.data_theory.specs.Declarations.{Data, function_at, constructor, HasSort, HaveSorts, FitsRole, IsData, IsConstructed, AreConstructed, NoSortIsEmpty}
use Rattle.data_theory.specs.Values.{Value, Values, a_truth, a_number, constructed, Interpretation, by_defaults, value, values, function_value, IsValue, AreValues, KeepsSorts}
use Rattle.data_theory.proofs.SortedValues.{numeral_is, value_at_is, list_in_is, default_is}

module _ (g : Data) (m : Interpretation) (ok : IsData g) where
  by_constructor_is : (k : ℕ) (vs : Values) → k < length g.functions → (function_at g k).role ≡ constructor → AreValues g (function_at g k).arguments vs → IsValue g (function_at g k).result (function_value m (function_at g k).result (function_at g k).role k vs)
  by_constructor_is k vs l e h =
      let fits = subst (FitsRole g (function_at g k)) e (ok.roles k l) in
      let made : IsValue g (function_at g k).result (constructed k vs) = rw fits.1 (e, fits.1, h) in
      rw e made

  mutual
    pub constructed_term_is : (t : Term) (s : Sort) → IsConstructed g t → HasSort g [] t s → IsValue g s (value g m t)
    constructed_term_is (numeral a z) s c h = subst (λ a. IsValue g a (a_number z)) h.0 (numeral_is g a z (rw h.0 h.1))
    constructed_term_is (unknown d i) s c h = rw h.0 (refl, h.2)
    constructed_term_is (application truth ts) s c h = rw (← h.2) tt
    constructed_term_is (application falsity ts) s c h = rw (← h.2) tt
    constructed_term_is (application (empty a) ts) s c h = rw (← h.2) tt
    constructed_term_is (application (cons a) ts) s c h =
        let vs = constructed_terms_are ts (a ∷ list a ∷ []) c h.1 in
        let here : IsValue g (list a) (value g m (application (cons a) ts)) = (value_at_is g (a ∷ list a ∷ []) (values g m ts) 0 vs (omega arith), (list_in_is g a _ (value_at_is g (a ∷ list a ∷ []) (values g m ts) 1 vs (omega arith))).1) in
        rw (← h.2) here
    constructed_term_is (application (function k) ts) s c h =
        subst (λ a. IsValue g a (value g m (application (function k) ts))) h.2 (by_constructor_is k (values g m ts) h.0 c.0 (constructed_terms_are ts (function_at g k).arguments c.1 h.1))
    constructed_term_is _ s c h = absurd c

    pub constructed_terms_are : (ts : Terms) (ss : List Sort) → AreConstructed g ts → HaveSorts g [] ts ss → AreValues g ss (values g m ts)
    constructed_terms_are none [] c h = tt
    constructed_terms_are none (s ∷ ss) c h = absurd h
    constructed_terms_are (more t ts) [] c h = absurd h
    constructed_terms_are (more t ts) (s ∷ ss) c h = (constructed_term_is t s c.0 h.0, constructed_terms_are ts ss c.1 h.1)

-- a value of each declared sort: that of the term by which it isn't empty
module _ (g : Data) (ok : IsData g) (some : NoSortIsEmpty g) where
  abbrev anything : Interpretation
  anything = by_defaults g (λ d. a_truth true)

  abbrev some_by : (d : ℕ) → Dec (d < length g.sorts) → Value
  some_by d (yes l) = value g anything (some d l).0
  some_by d (no _) = a_truth true

  abbrev pub some_value : ℕ → Value
  some_value d = some_by d (dec_lt d (length g.sorts))

  some_by_is : (d : ℕ) (x : Dec (d < length g.sorts)) → d < length g.sorts → IsValue g (named d) (some_by d x)
  some_by_is d (yes l) _ = let t = some d l in constructed_term_is g anything ok t.0 (named d) t.1.0 t.1.1
  some_by_is d (no n) l = absurd (n l)

  some_value_is : (d : ℕ) → d < length g.sorts → IsValue g (named d) (some_value d)
  some_value_is d l = some_by_is d (dec_lt d (length g.sorts)) l

  pub some_values_keep : KeepsSorts g (by_defaults g some_value)
  some_values_keep = record { sorts = some_value_is; mappings = λ k vs l e h. default_is g some_value some_value_is (function_at g k).result (ok.results k l) }
