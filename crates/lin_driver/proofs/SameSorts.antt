-- The same sorts and functions of one text under two numberings.
use Rattle.std.proofs.Common.{◌≡◌, ℕ, zero, suc, Bool, true, false, cond, List, [], ◌∷◌, ◌++◌, refl, ap, sym, ◌∙◌, subst, map}
use Rattle.std.specs.Prelude.{Option, Some, None, is_some, nat_eq, bytes_eq, option_map, option_and_then, slice_get, get_or}
use Rattle.std.specs.List.{AllByRecursion, filter}
use Rattle.std.proofs.lemmas.Option.{none-some, same_Some}
use Rattle.std.proofs.lemmas.Bool.Decides.{Decides-eqb, Decides-like, same_from_decides}
use Rattle.data_theory.specs.declared.ids.SortId.{SortId}
use Rattle.data_theory.specs.declared.rows.Row.{Row}
use Rattle.data_theory.specs.Rows.{row_sorts, row_result}
use Rattle.data_theory.specs.Terms.{Sort, boolean, positive, natural, integer, list, named}
use Rattle.data_theory.specs.Declarations.{Data, function_at}
use Rattle.sort_table.specs.Expressions.{Name, Expression}
use Rattle.sort_table.specs.NamedLists.{all_named, first_named}
use Rattle.sort_table.specs.BareSorts.{SortExpression, truth_values, positives, naturals, integers, lists_of, a_name}
use Rattle.sort_table.specs.SortMeanings.{UnderNames, StandsFor, for_truth_values, for_positives, for_naturals, for_integers, for_lists, for_plain, for_struct, for_alias}
use Rattle.sort_table.specs.TextFunctions.{TextFunction}
use Rattle.sort_table.specs.Vocabularies.{Vocabulary, sort_in, sorts_in, IsOwn, declared_alone, declared_as_struct, IsSortNamed, HasSorts, IsFunction, EachPair, HasFunctions, AreSortsOf, IsVocabularyOf}
use Rattle.sort_table.proofs.OneSort.{what_stands_for_a_sort_has_it}
use Rattle.data_typing.specs.Typings.{sort_eq, upcast_to, Place, itself, elements, settled, read_off, Signature, Scheme}
use Rattle.data_typing.specs.BuiltIns.{place_numbered, is_over_any, is_settled, row_places, row_scheme, row_signature, named_rows, built_ins, scheme_named}
use Rattle.data_typing.specs.Meanings.{Scope, declared_signature, signatures_named, meaning, typing_in}
use Rattle.sort_checker.specs.ScopeLaws.{Both, neither, both}
use Rattle.sort_checker.proofs.RelatedTypings.{map_both, then_both}
use Rattle.lin_driver.proofs.AlikeTypings.{EachWith, each_none, each_more, each_pair, each_behind, each_mapped, AreSame, IsOwnPlace, IsOwnScheme, IsOwnOption, AlikeTypings, AlikeSignatures, AlikeMeanings, scheme_alike, typing_alike, AlikeScopes, found_alike, meant_alike}

-- a sort of one vocabulary and the same one of the other
pub data SameSort (u : UnderNames) (v w : Vocabulary) : Sort → Sort → Type 0 where
  same_booleans : SameSort u v w boolean boolean
  same_positives : SameSort u v w positive positive
  same_naturals : SameSort u v w natural natural
  same_integers : SameSort u v w integer integer
  same_lists : {s r : Sort} → SameSort u v w s r → SameSort u v w (list s) (list r)
  same_named : {d k : ℕ} (n : Name) → IsOwn u n → IsSortNamed u v n d → IsSortNamed u w n k → SameSort u v w (named d) (named k)

same_number : (a b : ℕ) → named a ≡ named b → a ≡ b
same_number a b e = cc

pub met : {A B : Type 0} {S : A → B → Type 0} {o : Option A} {p : Option B} {x : A} {y : B} → Both S o p → o ≡ Some x → p ≡ Some y → S x y
met neither f g = absurd cc
met {S = S} {x = x} {y = y} (both {x = a} {y = b} r) f g = let one : a ≡ x = cc in let two : b ≡ y = cc in subst (λ q. S x q) two (subst (λ q. S q b) one r)

module _ (u : UnderNames) (v w : Vocabulary) (hv : HasSorts u v) (hw : HasSorts u w) where
  abbrev S : Sort → Sort → Type 0
  S = SameSort u v w

  -- ---- numbers
  only_number : (x : Vocabulary) (n : Name) (d k : ℕ) → IsSortNamed u x n d → IsSortNamed u x n k → d ≡ k
  only_number x n d k a b = same_number d k (same_Some (named d) (named k) (sym a.0 ∙ b.0))

  numbers_equal : (n m : Name) (d k e j : ℕ) → IsOwn u n → IsOwn u m → IsSortNamed u v n d → IsSortNamed u w n k → IsSortNamed u v m e → IsSortNamed u w m j → nat_eq d e ≡ nat_eq k j
  numbers_equal n m d k e j on om a b c f =
      let there : d ≡ e → k ≡ j = λ q. (
      let one : n ≡ m = hv.different n m e on om (subst (IsSortNamed u v n) q a) c in
      only_number w m k j (subst (λ x. IsSortNamed u w x k) one b) f
      ) in
      let back : k ≡ j → d ≡ e = λ q. (
      let one : n ≡ m = hw.different n m j on om (subst (IsSortNamed u w n) q b) f in
      only_number v m d e (subst (λ x. IsSortNamed u v x d) one a) c
      ) in
      same_from_decides (nat_eq d e) (nat_eq k j) (Decides-like (nat_eq d e) there back (Decides-eqb d e)) (Decides-eqb k j)

  equal : (s r p q : Sort) → S s r → S p q → sort_eq s p ≡ sort_eq r q
  equal _ _ _ _ same_booleans same_booleans = refl
  equal _ _ _ _ same_positives same_positives = refl
  equal _ _ _ _ same_naturals same_naturals = refl
  equal _ _ _ _ same_integers same_integers = refl
  equal _ _ _ _ (same_lists {s = s} {r = r} h) (same_lists {s = p} {r = q} k) = equal s r p q h k
  equal _ _ _ _ (same_named {d = d} {k = k} n on a b) (same_named {d = e} {k = j} m om c f) = numbers_equal n m d k e j on om a b c f
  equal _ _ _ _ _ _ = refl

  upcasts : (s r p q : Sort) → S s r → S p q → is_some (upcast_to s p) ≡ is_some (upcast_to r q)
  upcasts _ _ _ _ same_positives same_naturals = refl
  upcasts _ _ _ _ same_naturals same_integers = refl
  upcasts _ _ _ _ same_positives same_integers = refl
  upcasts _ _ _ _ _ _ = refl

  reads_off : (s r : Sort) (p : Place) → S s r → Both S (read_off s p) (read_off r p)
  reads_off s r itself h = both h
  reads_off _ _ elements (same_lists h) = both h
  reads_off _ _ elements _ = neither
  reads_off _ _ (settled q) _ = neither

  pub are_same : AreSame S
  are_same = record {
    booleans = same_booleans;
    positives = same_positives;
    naturals = same_naturals;
    integers = same_integers;
    lists = λ s r h. same_lists h;
    equal = equal;
    upcasts = upcasts;
    read_off = reads_off;
  }

  -- ---- the sorts of expressions
  own_both : (n : Name) → IsOwn u n → Both S (first_named n v.sort_names) (first_named n w.sort_names)
  own_both n own =
      let a = hv.others n own in
      let b = hw.others n own in
      subst (λ o. Both S o (first_named n w.sort_names)) (sym a.1.0) (subst (λ o. Both S (Some (named a.0)) o) (sym b.1.0) (both (same_named n own a.1 b.1)))

  final_both : (x e : SortExpression) → StandsFor u x e → Both S (sort_in v.sort_names e) (sort_in w.sort_names e)
  final_both _ _ for_truth_values = both same_booleans
  final_both _ _ for_positives = both same_positives
  final_both _ _ for_naturals = both same_naturals
  final_both _ _ for_integers = both same_integers
  final_both _ _ (for_lists e s h) = map_both list list (final_both e s h) (λ p q k. same_lists k)
  final_both _ _ (for_plain n k) = own_both n (declared_alone k)
  final_both _ _ (for_struct n k) = own_both n (declared_as_struct k)
  final_both _ _ (for_alias n e s k h) = final_both e s h

  -- a name has a sort in one vocabulary where it has one in the other
  name_both : (n : Name) → Both S (first_named n v.sort_names) (first_named n w.sort_names)
  name_both n = by_sorts (first_named n v.sort_names) refl (first_named n w.sort_names) refl
    where
      by_meaning : (e : SortExpression) → StandsFor u (a_name n) e → Both S (first_named n v.sort_names) (first_named n w.sort_names)
      by_meaning e h =
          subst (λ o. Both S o (first_named n w.sort_names)) (sym (what_stands_for_a_sort_has_it u v hv (a_name n) e h))
          (subst (λ o. Both S (sort_in v.sort_names e) o) (sym (what_stands_for_a_sort_has_it u w hw (a_name n) e h)) (final_both (a_name n) e h))

      by_sorts : (o : Option Sort) → first_named n v.sort_names ≡ o → (q : Option Sort) → first_named n w.sort_names ≡ q → Both S (first_named n v.sort_names) (first_named n w.sort_names)
      by_sorts (Some s) a q b = let e = (hv.named n).0 (s, a) in by_meaning e.0 e.1
      by_sorts None a (Some s) b = let e = (hw.named n).0 (s, b) in by_meaning e.0 e.1
      by_sorts None a None b = subst (λ o. Both S o (first_named n w.sort_names)) (sym a) (subst (λ o. Both S None o) (sym b) neither)

  pub sorts_both : (e : SortExpression) → Both S (sort_in v.sort_names e) (sort_in w.sort_names e)
  sorts_both truth_values = both same_booleans
  sorts_both positives = both same_positives
  sorts_both naturals = both same_naturals
  sorts_both integers = both same_integers
  sorts_both (lists_of e) = map_both list list (sorts_both e) (λ p q k. same_lists k)
  sorts_both (a_name n) = name_both n

  pub all_sorts_both : (es : List SortExpression) → Both (EachWith S) (sorts_in v.sort_names es) (sorts_in w.sort_names es)
  all_sorts_both [] = both each_none
  all_sorts_both (e ∷ es) =
      then_both (λ (s : Sort). option_map (λ (ss : List Sort). s ∷ ss) (sorts_in v.sort_names es)) (λ (s : Sort). option_map (λ (ss : List Sort). s ∷ ss) (sorts_in w.sort_names es)) (sorts_both e)
      (λ s r h. map_both (λ (ss : List Sort). s ∷ ss) (λ (ss : List Sort). r ∷ ss) (all_sorts_both es) (λ ss rs hs. each_more h hs))

  -- ---- functions
  declared_alike : (f : TextFunction) (i j : ℕ) → IsFunction u v f i → IsFunction u w f j → AlikeSignatures S (declared_signature v.tables i) (declared_signature w.tables j)
  declared_alike f i j a b = record { arguments = met (all_sorts_both f.arguments) a.arguments b.arguments; result = met (sorts_both f.result) a.result b.result }

  all_declared : (fs : List TextFunction) (is js : List ℕ) → EachPair (IsFunction u v) fs is → EachPair (IsFunction u w) fs js → EachWith (AlikeSignatures S) (map (declared_signature v.tables) is) (map (declared_signature w.tables) js)
  all_declared [] [] [] a b = each_none
  all_declared [] (i ∷ is) js a b = absurd a
  all_declared [] [] (j ∷ js) a b = absurd b
  all_declared (f ∷ fs) [] js a b = absurd a
  all_declared (f ∷ fs) (i ∷ is) [] a b = absurd b
  all_declared (f ∷ fs) (i ∷ is) (j ∷ js) a b = each_more (declared_alike f i j a.0 b.0) (all_declared fs is js a.1 b.1)

  -- built-in functions are the same in each vocabulary
  place_at : (n : ℕ) → IsOwnPlace S (get_or (settled boolean ∷ settled positive ∷ settled natural ∷ settled integer ∷ itself ∷ elements ∷ []) n itself)
  place_at zero = same_booleans
  place_at (suc zero) = same_positives
  place_at (suc (suc zero)) = same_naturals
  place_at (suc (suc (suc zero))) = same_integers
  place_at (suc (suc (suc (suc zero)))) = tt
  place_at (suc (suc (suc (suc (suc zero))))) = tt
  place_at (suc (suc (suc (suc (suc (suc n)))))) = tt

  own_places : (is : List SortId) → AllByRecursion (IsOwnPlace S) (map place_numbered is)
  own_places [] = tt
  own_places (i ∷ is) = (place_at i.0, own_places is)

  own_row : (r : Row) → IsOwnScheme S (row_scheme r)
  own_row r = record { arguments = own_places (row_sorts r); result = place_at (row_result r).0 }

  rows_alike : (rs : List Row) → EachWith (AlikeSignatures S) (map row_signature rs) (map row_signature rs)
  rows_alike [] = each_none
  rows_alike (r ∷ rs) = each_more (scheme_alike S are_same boolean boolean (row_scheme r) same_booleans (own_row r)) (rows_alike rs)

  own_first : (rs : List Row) → IsOwnOption S (slice_get (map row_scheme rs) 0)
  own_first [] = tt
  own_first (r ∷ rs) = own_row r

  pub own_scheme : (f : Name) → IsOwnOption S (scheme_named f)
  own_scheme f = own_first (filter is_over_any (named_rows f))

  module _ (fv : HasFunctions u v) (fw : HasFunctions u w) where
    pub functions_alike : (f : Name) → EachWith (AlikeSignatures S) (signatures_named v f) (signatures_named w f)
    functions_alike f = each_behind (rows_alike (filter is_settled (named_rows f))) (all_declared (u.functions f) (all_named f v.function_names) (all_named f w.function_names) (fv.each f) (fw.each f))

    -- ---- expressions
    meanings_alike : (one other : Scope) → AlikeScopes S one other → (f : Name) → AlikeMeanings S (meaning v one f) (meaning w other f)
    meanings_alike one other h f = meant_alike S (scheme_named f) (functions_alike f) (own_scheme f) (found_alike S f h)

    pub typed_alike : (one other : Scope) → AlikeScopes S one other → (e : Expression) → AlikeTypings S (typing_in v one e) (typing_in w other e)
    typed_alike one other h e = typing_alike S are_same (meaning v one) (meaning w other) (meanings_alike one other h) e

    pub all_typed : (one other : Scope) → AlikeScopes S one other → (es : List Expression) → EachWith (AlikeTypings S) (map (typing_in v one) es) (map (typing_in w other) es)
    all_typed one other h [] = each_none
    all_typed one other h (e ∷ es) = each_more (typed_alike one other h e) (all_typed one other h es)
