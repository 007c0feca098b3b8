-- The vocabulary of a signature that has grown by an action.
use Rattle.std.proofs.Common.{◌≡◌, ◌<◌, ◌≤◌, inl, ℕ, Bool, true, false, cond, List, [], ◌∷◌, length, map, refl, ap, sym, ◌∙◌, subst, arith}
use Rattle.std.specs.Prelude.{Some, bytes_eq}
use Rattle.std.specs.List.{AllByRecursion, Contains}
use Rattle.std.proofs.lemmas.List.{append-nil, length-map}
use Rattle.std.proofs.lemmas.List.Elements.{All-contains, Contains-append_right}
use Rattle.data_theory.specs.Complete.{IsActionWithin}
use Rattle.data_theory.specs.IdSorts.{constructions}
use Rattle.data_theory.specs.IdSymbols.{declared_from}
use Rattle.data_theory.specs.IdData.{function_meant, data_meant}
use Rattle.data_theory.specs.Keys.{Key, key}
use Rattle.data_theory.specs.Signature.{Sig}
use Rattle.data_theory.specs.Terms.{Sort}
use Rattle.data_theory.specs.WholeSignatures.{IsSignature}
use Rattle.sort_table.specs.Expressions.{Name}
use Rattle.sort_table.specs.NamedLists.{all_named}
use Rattle.sort_table.specs.BareSorts.{SortExpression}
use Rattle.sort_table.specs.Growth.{More, with_more, with_declared, AllStand, IsMore}
use Rattle.sort_table.specs.SortMeanings.{a_struct, UnderNames}
use Rattle.sort_table.specs.SignatureVocabularies.{text_under, sort_name_under, action_under, function_names_from, vocabulary_of}
use Rattle.sort_table.specs.TextFunctions.{TextFunction}
use Rattle.sort_table.specs.Vocabularies.{Vocabulary, AreSortsOf, EachPair, IsFunction, IsVocabularyOf}
use Rattle.sort_table.proofs.Growing.{vocabularies_grow}
use Rattle.sort_table.proofs.GrowingSignatures.{grown_signatures_have_more}
use Rattle.lps_printer.specs.GrowingByActions.{GrowsByAction}
use Rattle.lps_printer.proofs.ConstantVocabularies.{same_rest, names_long, numbers_once}
use Rattle.lps_printer.proofs.TwoOfLists.{in_front}

-- its name has a text
pub action_within : (g h : Sig) → IsSignature h → (w : GrowsByAction g h) → w.name.0 < length h.texts
action_within g h after w =
    let among : Contains h.actions (key w.name []) = subst (λ (as_ : List Key). Contains as_ (key w.name [])) (sym w.actions) (Contains-append_right g.actions (key w.name [] ∷ []) (key w.name []) (in_front (key w.name []) [])) in
    (All-contains (IsActionWithin (length h.texts) (length h.sorts)) h.actions (key w.name []) after.complete.within.actions among).named

module _ (g h : Sig) (stands : IsSignature g) (later : IsSignature h) (w : GrowsByAction g h) where
  abbrev x : Vocabulary
  x = vocabulary_of h

  abbrev t : Name
  t = text_under h w.name

  -- ---- what is added
  has_more : (m : More) × (x ≡ with_more (vocabulary_of g) m) × (m.actions ≡ map (action_under h) w.grown.new_actions)
  has_more = grown_signatures_have_more g h stands.complete stands.table stands.roles later.roles w.grown

  new_actions_are : w.grown.new_actions ≡ key w.name [] ∷ []
  new_actions_are = same_rest g.actions g.actions w.grown.new_actions (key w.name [] ∷ []) (sym w.grown.actions ∙ w.actions) refl

  action_rest : has_more.0.actions ≡ (t, []) ∷ []
  action_rest = has_more.2 ∙ ap (map (action_under h)) new_actions_are

  name_rest : has_more.0.sort_names ≡ []
  name_rest =
      let own = map (sort_name_under g) g.sort_names in
      let now = map (sort_name_under h) g.sort_names in
      same_rest own now has_more.0.sort_names [] (sym (ap (λ (v : Vocabulary). v.sort_names) has_more.1) ∙ (ap (map (sort_name_under h)) w.sort_names ∙ sym (append-nil now))) (length-map g.sort_names (sort_name_under g) ∙ sym (length-map g.sort_names (sort_name_under h)))

  function_rest : has_more.0.function_names ≡ []
  function_rest =
      let own = function_names_from g 0 g.declared in
      let now = function_names_from h 0 g.declared in
      same_rest own now has_more.0.function_names [] (sym (ap (λ (v : Vocabulary). v.function_names) has_more.1) ∙ (ap (function_names_from h 0) w.declared ∙ sym (append-nil now))) (names_long g 0 g.declared ∙ sym (names_long h 0 g.declared))

  no_sort : (d : ℕ) → length (constructions g.sorts) ≤ d → d < length (constructions h.sorts) → ⊥
  no_sort d high low = let same : length (constructions h.sorts) ≡ length (constructions g.sorts) = ap (λ ss. length (constructions ss)) w.sorts in omega (arith, high, low, same)

  functions_long : (s : Sig) → IsSignature s → length (data_meant s).functions ≡ length s.declared
  functions_long s is = length-map (declared_from 0 s.functions) (function_meant s) ∙ ap length (sym is.table.listed)

  no_function : (k : ℕ) → length (data_meant g).functions ≤ k → k < length (data_meant h).functions → ⊥
  no_function k high low =
      let a = functions_long g stands in
      let b = functions_long h later in
      let same : length h.declared ≡ length g.declared = ap length w.declared in
      omega (arith, high, low, a, b, same)

  -- ---- with it declared under its name, the signature has the vocabulary
  module _ (u : UnderNames) where
    abbrev more : Name → List TextFunction
    more f = []

    abbrev acts : Name → List (List SortExpression)
    acts a = all_named a ((t, []) ∷ [])

    abbrev v : UnderNames
    v = with_declared u u.sort more acts

    its_pair : (a : Name) → EachPair (AreSortsOf x) (acts a) (all_named a ((t, []) ∷ []))
    its_pair a = by_test (bytes_eq t a)
      where
        by_test : (b : Bool) → EachPair (AreSortsOf x) (cond b ([] ∷ []) []) (cond b ([] ∷ []) [])
        by_test true = (refl, tt)
        by_test false = tt

    is_more : IsMore u v (vocabulary_of g) x has_more.0 more acts
    is_more = record {
      kept = λ n k q. q;
      new_names = λ n k q. inl q;
      are_new = subst (AllByRecursion (λ (r : Name × Sort). v.sort r.0 ≡ Some a_struct)) (sym name_rest) tt;
      different = λ n l d high a b. absurd (no_sort d high a.1);
      sorts_used = λ d high low. absurd (no_sort d high low);
      no_cons = λ f y c. absurd (let low : c.0 < 0 = c.1 in omega (arith, low));
      each = λ f. subst (λ rs. EachPair (IsFunction v x) [] (all_named f rs)) (sym function_rest) tt;
      functions_used = λ k high low. absurd (no_function k high low);
      once = numbers_once h h.declared;
      actions = λ a. subst (λ as_. EachPair (AreSortsOf x) (acts a) (all_named a as_)) (sym action_rest) (its_pair a);
    }

    pub action_has_vocabulary : IsVocabularyOf u (vocabulary_of g) → AllStand u → IsVocabularyOf v x
    action_has_vocabulary is stand =
        subst (IsVocabularyOf v) (sym has_more.1) (vocabularies_grow u u.sort more acts (vocabulary_of g) has_more.0 is stand (subst (λ y. IsMore u v (vocabulary_of g) y has_more.0 more acts) has_more.1 is_more))
