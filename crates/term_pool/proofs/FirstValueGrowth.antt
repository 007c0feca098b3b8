-- First values stay where functions are added.
use Rattle.std.proofs.Common.{◌≡◌, inl, inr, ⊎_elim, ℕ, ◌<◌, ◌≤◌, List, [], ◌∷◌, length, get_or, Some, sym, ap, ◌∙◌, subst, arith}
use Rattle.std.specs.Prelude.{slice_get}
use Rattle.std.proofs.lemmas.List.Elements.{All-get_or}
use Rattle.std.proofs.lemmas.Option.{slice_get_within, slice_get-get_or, get_or_from_slice_get}
use Rattle.data_theory.specs.declared.ids.SortId.{SortId}
use Rattle.data_theory.specs.declared.ids.FunId.{FunId}
use Rattle.data_theory.specs.declared.words.Word.{Word}
use Rattle.data_theory.specs.declared.words.Word.TheVariants as words
use Rattle.data_theory.specs.declared.words.ListWord.TheVariants as lists
use Rattle.data_theory.specs.Words.{text_of}
use Rattle.data_theory.specs.Functions.{Function, arguments_of}
use Rattle.data_theory.specs.Sorts.{Kind, booleans, positives, naturals, integers, lists_over, without_constructors, by_declarations, structured}
use Rattle.data_theory.specs.IdSorts.{HasKind}
use Rattle.data_theory.specs.Complete.{IsComplete, IsFunctionWithin}
use Rattle.data_theory.specs.Signature.{Sig, IsFun}
use Rattle.term_pool.specs.ConstructorValues.{ConstructorValue, ConstructorValues, a_number, built, a_constant, no_value, value_then, IsConstructorOf, IsConstructorAt, IsValueOf, AreValuesOf, ComesBefore, ComeBefore, lighter, of_earlier_constructor, over_earlier_arguments, here, later, IsFirstValue}
use Rattle.term_pool.specs.FirstValueLaws.{AddsFunctions}
use Rattle.term_pool.proofs.ConstructorPlaces.{within_functions}

-- ---- constructors
module _ (g h : Sig) (complete : IsComplete g) (adds : AddsFunctions g h) where
  has_text : (f : FunId) (e : Function) → slice_get g.functions f.0 ≡ Some e → (t : List ℕ) × (slice_get g.texts e.name.0 ≡ Some t) × (slice_get h.texts e.name.0 ≡ Some t)
  has_text f e at =
      let its = subst (IsFunctionWithin (length g.texts) (length g.sorts) (length g.functions)) (get_or_from_slice_get g.functions f.0 e e at)
      (All-get_or (IsFunctionWithin (length g.texts) (length g.sorts) (length g.functions)) g.functions f.0 e (slice_get_within g.functions f.0 e at) complete.within.functions_within) in
      let there = slice_get-get_or g.texts e.name.0 [] its.named in
      (get_or g.texts e.name.0 [], there, adds.texts e.name.0 (get_or g.texts e.name.0 []) there)

  -- a built-in function is found as before
  found_after : (w : Word) (ss : List SortId) (k : ℕ) → IsFun g (text_of w) ss k → IsFun h (text_of w) ss k
  found_after w ss k p = (p.0, adds.functions (record { 0 = k }) p.0 p.1, adds.texts p.0.name.0 (text_of w) p.2, p.3)

  found_before : (w : Word) (ss : List SortId) (k : ℕ) → IsFun h (text_of w) ss k → IsFun g (text_of w) ss k
  found_before w ss k p =
      let never : length g.functions ≤ k → ⊥ = λ l. adds.added (record { 0 = k }) p.0 w l p.1 p.2 in
      let below : k < length g.functions = omega (arith, never) in
      let at = slice_get-get_or g.functions k p.0 below in
      let same : get_or g.functions k p.0 ≡ p.0 = (let both : Some (get_or g.functions k p.0) ≡ Some p.0 = sym (adds.functions (record { 0 = k }) (get_or g.functions k p.0) at) ∙ p.1 in cc) in
      let entry : slice_get g.functions k ≡ Some p.0 = at ∙ ap Some same in
      let named = has_text (record { 0 = k }) p.0 entry in
      let text : named.0 ≡ text_of w = (let both : Some named.0 ≡ Some (text_of w) = sym named.2 ∙ p.2 in cc) in
      (p.0, entry, named.1 ∙ ap Some text, p.3)

  of_kind_after : (s : SortId) (d : Kind) (k : ℕ) (f : FunId) → IsConstructorOf g s d k f → IsConstructorOf h s d k f
  of_kind_after s booleans k f c = ⊎_elim (λ p. inl (p.0, found_after words.True [] f.0 p.1)) (λ p. inr (p.0, found_after words.False [] f.0 p.1)) c
  of_kind_after s positives k f c = c
  of_kind_after s naturals k f c = c
  of_kind_after s integers k f c = c
  of_kind_after s (lists_over e) k f c = ⊎_elim (λ p. inl (p.0, found_after (words.List lists.Empty) (s ∷ []) f.0 p.1)) (λ p. inr (p.0, found_after (words.List lists.Cons) (e ∷ s ∷ []) f.0 p.1)) c
  of_kind_after s without_constructors k f c = c
  of_kind_after s (by_declarations fs) k f c = c
  of_kind_after s (structured fs) k f c = c

  of_kind_before : (s : SortId) (d : Kind) (k : ℕ) (f : FunId) → IsConstructorOf h s d k f → IsConstructorOf g s d k f
  of_kind_before s booleans k f c = ⊎_elim (λ p. inl (p.0, found_before words.True [] f.0 p.1)) (λ p. inr (p.0, found_before words.False [] f.0 p.1)) c
  of_kind_before s positives k f c = c
  of_kind_before s naturals k f c = c
  of_kind_before s integers k f c = c
  of_kind_before s (lists_over e) k f c = ⊎_elim (λ p. inl (p.0, found_before (words.List lists.Empty) (s ∷ []) f.0 p.1)) (λ p. inr (p.0, found_before (words.List lists.Cons) (e ∷ s ∷ []) f.0 p.1)) c
  of_kind_before s without_constructors k f c = c
  of_kind_before s (by_declarations fs) k f c = c
  of_kind_before s (structured fs) k f c = c

  at_after : (s : SortId) (k : ℕ) (f : FunId) → IsConstructorAt g s k f → IsConstructorAt h s k f
  at_after s k f c = (c.0, ap (λ ss. slice_get ss s.0) adds.sorts ∙ c.1, of_kind_after s c.0.kind k f c.2)

  at_before : (s : SortId) (k : ℕ) (f : FunId) → IsConstructorAt h s k f → IsConstructorAt g s k f
  at_before s k f c = (c.0, ap (λ ss. slice_get ss s.0) (sym adds.sorts) ∙ c.1, of_kind_before s c.0.kind k f c.2)

  -- the entry of a constructor was there
  entry_before : (s : SortId) (k : ℕ) (f : FunId) (e : Function) → IsConstructorAt g s k f → slice_get h.functions f.0 ≡ Some e → slice_get g.functions f.0 ≡ Some e
  entry_before s k f e c at =
      let there = slice_get-get_or g.functions f.0 e (within_functions g complete s k f c) in
      let same : get_or g.functions f.0 e ≡ e = (let both : Some (get_or g.functions f.0 e) ≡ Some e = sym (adds.functions f (get_or g.functions f.0 e) there) ∙ at in cc) in
      there ∙ ap Some same

  -- ---- values
  mutual
    value_after : (v : ConstructorValue) (s : SortId) → IsValueOf g v s → IsValueOf h v s
    value_after (a_number a z) s is = is
    value_after (a_constant d) s is = (is.0, subst (λ ss. HasKind ss s.0 without_constructors) (sym adds.sorts) is.1)
    value_after (built f vs) s is = (is.0, at_after s is.0 f is.1, (is.2.0, adds.functions f is.2.0 is.2.1, values_after vs (arguments_of is.2.0) is.2.2))

    values_after : (vs : ConstructorValues) (ss : List SortId) → AreValuesOf g vs ss → AreValuesOf h vs ss
    values_after no_value [] are = are
    values_after no_value (s ∷ ss) are = are
    values_after (value_then v vs) [] are = are
    values_after (value_then v vs) (s ∷ ss) are = (value_after v s are.0, values_after vs ss are.1)

  mutual
    value_before : (v : ConstructorValue) (s : SortId) → IsValueOf h v s → IsValueOf g v s
    value_before (a_number a z) s is = is
    value_before (a_constant d) s is = (is.0, subst (λ ss. HasKind ss s.0 without_constructors) adds.sorts is.1)
    value_before (built f vs) s is = let c = at_before s is.0 f is.1 in (is.0, c, (is.2.0, entry_before s is.0 f is.2.0 c is.2.1, values_before vs (arguments_of is.2.0) is.2.2))

    values_before : (vs : ConstructorValues) (ss : List SortId) → AreValuesOf h vs ss → AreValuesOf g vs ss
    values_before no_value [] are = are
    values_before no_value (s ∷ ss) are = are
    values_before (value_then v vs) [] are = are
    values_before (value_then v vs) (s ∷ ss) are = (value_before v s are.0, values_before vs ss are.1)

  mutual
    before_after : (s : SortId) (v w : ConstructorValue) → ComesBefore g s v w → ComesBefore h s v w
    before_after s v w (lighter l) = lighter l
    before_after s (built f vs) (built x ws) (of_earlier_constructor e early) = of_earlier_constructor e (early.0, at_after s early.0 f early.1, λ k at. early.2 k (at_before s k x at))
    before_after s (built f vs) (built x ws) (over_earlier_arguments e q d at b) = over_earlier_arguments e q d (adds.functions f d at) (all_before_after (arguments_of d) vs ws b)

    all_before_after : (ss : List SortId) (vs ws : ConstructorValues) → ComeBefore g ss vs ws → ComeBefore h ss vs ws
    all_before_after [] vs ws b = elim b [ ]
    all_before_after (s ∷ ss) no_value ws b = elim b [ ]
    all_before_after (s ∷ ss) (value_then v vs) no_value b = elim b [ ]
    all_before_after (s ∷ ss) (value_then v vs) (value_then w ws) (here b) = here (before_after s v w b)
    all_before_after (s ∷ ss) (value_then v vs) (value_then w ws) (later e b) = later e (all_before_after ss vs ws b)

  pub first_value_stays : (s : SortId) (v : ConstructorValue) → IsFirstValue g s v → IsFirstValue h s v
  first_value_stays s v first = record { of_sort = value_after v s first.of_sort; first = λ w is. ⊎_elim inl (λ b. inr (before_after s v w b)) (first.first w (value_before w s is)) }
