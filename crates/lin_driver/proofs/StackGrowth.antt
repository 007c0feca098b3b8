-- What the stack encoder adds to a signature are names, a struct, a variable and constants.
use Rattle.std.proofs.Common.{◌≡◌, ◌≢◌, ◌+◌, ◌<◌, ℕ, zero, suc, List, [], ◌∷◌, ◌++◌, map, length, codes, Some, refl, sym, ap, ◌∙◌, subst, arith, length-append, append_assoc}
use Rattle.std.specs.Prelude.{slice_get, Contains}
use Rattle.std.specs.List.{All}
use Rattle.std.proofs.lemmas.List.Elements.{All-nil, All-push, All-cons, All-head, All-tail, All-append, All-weaker, All-contains}
use Rattle.std.proofs.lemmas.Option.{get_or_from_slice_get, slice_get-get_or, slice_get_within}
use Rattle.data_theory.specs.declared.ids.NameId.{NameId}
use Rattle.data_theory.specs.declared.ids.SortId.{SortId}
use Rattle.data_theory.specs.declared.ids.VarId.{VarId}
use Rattle.data_theory.specs.declared.ids.TermId.{TermId}
use Rattle.data_theory.specs.declared.signature.Variable.{Variable}
use Rattle.data_theory.specs.Environments.{AreDistinct}
use Rattle.data_theory.specs.Functions.{Function}
use Rattle.data_theory.specs.Sorts.{abstract_sort}
use Rattle.data_theory.specs.Structs.{IsConWithin}
use Rattle.data_theory.specs.Signature.{Sig, IsTaken, with_sort, with_struct, with_variable}
use Rattle.data_theory.specs.WholeSignatures.{IsSignature}
use Rattle.data_theory.proofs.ListSortLemmas.{abstract_is_bare}
use Rattle.data_theory.proofs.WholeSignatureLemmas.{sort_stands, struct_stands, signature_as}
use Rattle.bisim_laws.proofs.Firing.{contains_first, contains_later}
use Rattle.term_pool.specs.Pools.{PoolContents}
use Rattle.term_pool.proofs.DeclaredConstants.{fresh_grows}
use Rattle.lps_core.proofs.Members.{all_from, contains_map, map_contains}
use Rattle.lps_core.proofs.NamedSums.{all_front, all_last}
use Rattle.sort_table.specs.SignatureVocabularies.{text_under}
use Rattle.regular_encoder.specs.FormColumns.{IsKindIn}
use Rattle.stack_encoder.specs.AddedSort.{AreFreshNames, no_name, one_more_name, text_of, column_bases, all_bases, StackWords, in_order, constructors_declared, AddsStackSort, AddsParameter}
use Rattle.stack_encoder.specs.StackColumns.{AreClosedTerms, no_closed_term, one_more_closed_term}
use Rattle.stack_encoder.proofs.FreshWords.{IsNewName, WordsStand, words_stand, function_names_are, moved_behind, names_differ, stack_is_new, sort_absent, sort_word_within, constructors_within, fields_within}
use Rattle.lps_printer.specs.DataLayout.{IsIdentifier}
use Rattle.lps_printer.specs.GrowingByAdditions.{Struct, functions_of_struct, names_of_struct, GrowsByStruct}
use Rattle.lps_printer.specs.LinearBack.{EachTwo}
use Rattle.lps_printer.proofs.TwoOfLists.{behind_one, all_from as each_from, two_weaker}
use Rattle.lps_printer.proofs.GrowingByConstants.{GrowsOn, on_itself, on_fresh, on_variable, on_declared, on_then}
use Rattle.lin_driver.specs.TakenNames.{HasIdentifierText}
use Rattle.lin_driver.proofs.NamedVariables.{KindNamed, text_still, fresh_text}

-- ---- the words are identifiers
words_named : (g : Sig) (bases : List (List ℕ)) (h : Sig) (names : List NameId) → AreFreshNames g bases h names → All IsIdentifier bases → All (HasIdentifierText h) names
words_named g _ _ _ no_name all = All-nil (HasIdentifierText g)
words_named g _ i _ (one_more_name {bases = bases} {names = names} {h = h} {base = base} {name = name} a f) all =
    All-push (HasIdentifierText i) names name (All-weaker (HasIdentifierText h) (HasIdentifierText i) (λ n u. text_still h i n (fresh_grows h base name i f) u) names (words_named g bases h names a (all_front IsIdentifier bases base all)))
    (fresh_text h i base name (all_last IsIdentifier bases base all) f)

columns_named : (g : Sig) (kinds : List (NameId × SortId)) → All (KindNamed g) kinds → All IsIdentifier (column_bases g kinds)
columns_named g kinds all = all_from IsIdentifier (column_bases g kinds) (λ t i.
    let r = contains_map (λ (k : NameId × SortId). text_of g k.0) kinds t i in
    let u = All-contains (KindNamed g) kinds r.0 all r.1.0 in
    subst IsIdentifier (sym (r.1.1 ∙ get_or_from_slice_get g.texts r.0.0.0 u.0 [] u.1)) u.2)

bases_named : (g : Sig) (kinds : List (NameId × SortId)) → All (KindNamed g) kinds → All IsIdentifier (all_bases g kinds)
bases_named g kinds all =
    let one = λ (t : List ℕ) (ts : List (List ℕ)) (is : IsIdentifier t) (rest : All IsIdentifier ts). All-cons IsIdentifier t ts is rest in
    let ends = codes "rest" ∷ codes "is_push" ∷ codes "empty" ∷ [] in
    one (codes "Stack") (codes "push" ∷ codes "pc" ∷ (column_bases g kinds ++ ends)) (refl, refl)
    (one (codes "push") (codes "pc" ∷ (column_bases g kinds ++ ends)) (refl, refl)
    (one (codes "pc") (column_bases g kinds ++ ends) (refl, refl)
    (All-append IsIdentifier (column_bases g kinds) ends (columns_named g kinds all)
    (one (codes "rest") (codes "is_push" ∷ codes "empty" ∷ []) (refl, refl) (one (codes "is_push") (codes "empty" ∷ []) (refl, refl) (one (codes "empty") [] (refl, refl) (All-nil IsIdentifier)))))))

-- ---- the struct
-- names with different numbers have different texts
apart_by_text : (k : Sig) → IsSignature k → (ns : List NameId) → All (λ (n : NameId). n.0 < length k.texts) ns → AreDistinct (map (λ (n : NameId). n.0) ns) → EachTwo (λ (m n : NameId). text_under k m ≢ text_under k n) ns
apart_by_text k s [] low d = tt
apart_by_text k s (n ∷ ns) low d =
    let Low = λ (m : NameId). m.0 < length k.texts in (
      each_from (λ (m : NameId). text_under k n ≢ text_under k m) ns (λ m i e.
          let here : slice_get k.texts n.0 ≡ Some (text_under k n) = slice_get-get_or k.texts n.0 [] (All-head Low n ns low) in
          let there : slice_get k.texts m.0 ≡ Some (text_under k n) = slice_get-get_or k.texts m.0 [] (All-contains Low ns m (All-tail Low n ns low) i) ∙ ap Some (sym e) in
          d.0 (subst (Contains (map (λ (x : NameId). x.0) ns)) (s.table.different m.0 n.0 (text_under k n) there here) (map_contains (λ (x : NameId). x.0) ns m i))),
      apart_by_text k s ns (All-tail Low n ns low) d.1,
    )

module _ (g : Sig) (kinds : List (NameId × SortId)) (h : Sig) (sort : SortId) (s : IsSignature g) (x : AddsStackSort g kinds h sort) (there : All (IsKindIn g) kinds) (its_names : All (KindNamed g) kinds) where
  abbrev w : StackWords
  w = x.words

  abbrev k : Sig
  k = x.named

  stand : WordsStand g k (in_order w)
  stand = words_stand g s (all_bases g kinds) k (in_order w) x.are_words.fresh

  abbrev struct : Struct
  struct = (w.sort, constructors_declared w (record { 0 = length k.sorts }))

  within : All (IsConWithin (length k.texts) (length k.sorts + 1)) struct.1
  within = constructors_within g k s w stand (fields_within g k kinds w x.are_words stand.on there)

  abbrev others : List NameId
  others = map (λ f. f.0) w.fields ++ w.rest ∷ w.is_push ∷ []

  names_are : names_of_struct k struct ≡ w.sort ∷ w.push ∷ w.empty ∷ w.pc ∷ others
  names_are = ap (λ ns. w.sort ∷ ns) (function_names_are w (record { 0 = length k.sorts }) (length (with_sort k w.sort).functions))

  in_words : (n : NameId) → Contains (w.sort ∷ w.push ∷ w.empty ∷ w.pc ∷ others) n → Contains (in_order w) n
  in_words n (zero, l, e) = subst (Contains (in_order w)) e (contains_first w.sort (w.push ∷ w.pc ∷ (map (λ f. f.0) w.fields ++ w.rest ∷ w.is_push ∷ w.empty ∷ [])))
  in_words n (suc i, l, e) =
      subst (λ ns. Contains (w.sort ∷ w.push ∷ w.pc ∷ ns) n) (append_assoc (map (λ f. f.0) w.fields) (w.rest ∷ w.is_push ∷ []) (w.empty ∷ []))
      (contains_later w.sort n (w.push ∷ w.pc ∷ (others ++ w.empty ∷ [])) (moved_behind w.push w.pc w.empty n others (i, omega (arith, l), e)))

  new_at : (n : NameId) → Contains (names_of_struct k struct) n → IsNewName g k n
  new_at n i = All-contains (IsNewName g k) (in_order w) n stand.new (in_words n (subst (λ ns. Contains ns n) names_are i))

  text_is : (n : NameId) → text_under h n ≡ text_under k n
  text_is n = ap (λ (y : Sig). text_under y n) x.is

  sort_differs : Contains (map (λ (n : NameId). n.0) (w.push ∷ w.empty ∷ w.pc ∷ others)) w.sort.0 → ⊥
  sort_differs i =
      let r = contains_map (λ (n : NameId). n.0) (w.push ∷ w.empty ∷ w.pc ∷ others) w.sort.0 i in
      let same : w.sort ≡ r.0 = ap (λ m. record { 0 = m }) r.1.1 in
      let last = subst (λ ns. Contains (w.push ∷ w.pc ∷ ns) r.0) (append_assoc (map (λ f. f.0) w.fields) (w.rest ∷ w.is_push ∷ []) (w.empty ∷ [])) (moved_behind w.push w.pc w.empty r.0 others r.1.0) in
      stand.distinct.0 (subst (λ m. Contains (map (λ (n : NameId). n.0) (w.push ∷ w.pc ∷ (map (λ f. f.0) w.fields ++ w.rest ∷ w.is_push ∷ w.empty ∷ []))) m.0) (sym same) (map_contains (λ (n : NameId). n.0) (w.push ∷ w.pc ∷ (map (λ f. f.0) w.fields ++ w.rest ∷ w.is_push ∷ w.empty ∷ [])) r.0 last))

  distinct_names : AreDistinct (map (λ (n : NameId). n.0) (names_of_struct k struct))
  distinct_names = subst (λ ns. AreDistinct (map (λ (n : NameId). n.0) ns)) (sym names_are) (sort_differs, names_differ g k s w stand)

  pub by_struct : GrowsByStruct g h
  by_struct = record {
    named = k;
    by_names = stand.on;
    declared = struct;
    is = x.is;
    some = omega arith;
    within = within;
    taken_now = all_from (λ (f : Function). Contains k.taken f.name) (functions_of_struct k struct) (λ f i. (new_at f.name (behind_one w.sort (map (λ (e : Function). e.name) (functions_of_struct k struct)) f.name (map_contains (λ (e : Function). e.name) (functions_of_struct k struct) f i))).taken);
    sort_taken_now = (new_at w.sort (contains_first w.sort (map (λ (e : Function). e.name) (functions_of_struct k struct)))).taken;
    new = all_from (λ (n : NameId). ¬ (IsTaken g (text_under h n))) (names_of_struct k struct) (λ n i t. (let u = new_at n i in u.free (subst (IsTaken g) (text_is n ∙ get_or_from_slice_get k.texts n.0 u.text [] u.named) t)));
    differ = two_same (λ n. sym (text_is n)) (names_of_struct k struct)
        (apart_by_text k stand.on.stands (names_of_struct k struct) (all_from (λ (n : NameId). n.0 < length k.texts) (names_of_struct k struct) (λ n i. (let u = new_at n i in slice_get_within k.texts n.0 u.text u.named))) distinct_names);
    identifiers = all_from (λ (n : NameId). IsIdentifier (text_under h n)) (names_of_struct k struct) (λ n i.
        let u = All-contains (HasIdentifierText k) (in_order w) n (words_named g (all_bases g kinds) k (in_order w) x.are_words.fresh (bases_named g kinds its_names)) (in_words n (subst (λ ns. Contains ns n) names_are i)) in
        subst IsIdentifier (sym (text_is n ∙ get_or_from_slice_get k.texts n.0 u.0 [] u.1)) u.2);
  }
    where
      two_same : ((n : NameId) → text_under k n ≡ text_under h n) → (ns : List NameId) → EachTwo (λ (m n : NameId). text_under k m ≢ text_under k n) ns → EachTwo (λ (m n : NameId). text_under h m ≢ text_under h n) ns
      two_same e ns two = two_weaker (λ (m n : NameId). text_under k m ≢ text_under k n) (λ (m n : NameId). text_under h m ≢ text_under h n) (λ m n no q. no (e m ∙ q ∙ sym (e n))) ns two

  pub struct_sort_stands : IsSignature h
  struct_sort_stands =
      let bare = with_sort k w.sort in
      let long = length-append k.sorts (abstract_sort w.sort ∷ []) in
      let one : length k.sorts + 1 ≡ length bare.sorts = omega (arith, long) in
      signature_as (with_struct bare (record { 0 = length k.sorts }) struct.1) h
      (struct_stands bare (record { 0 = length k.sorts }) struct.1 (sort_stands k w.sort stand.on.stands (sort_word_within g k s w stand) (sort_absent g k s w stand)) (abstract_is_bare k.sorts w.sort (record { 0 = length k.sorts }) refl)
      (subst (λ n. All (IsConWithin (length k.texts) n) struct.1) one within) (stack_is_new g k s w stand)) x.is

-- ---- the parameter and the closed terms
pub parameter_grows : (g h : Sig) (sort : SortId) (v : VarId) → AddsParameter g sort h v → GrowsOn g h
parameter_grows g h sort v p =
    let one : Variable = record { name = p.name; sort = sort } in
    subst (GrowsOn g) (sym p.is) (on_then g p.named (with_variable p.named one) (on_fresh g p.named (codes "q") p.name p.fresh) (on_variable p.named one))

pub closed_terms_grow : {g : Sig} {p : PoolContents} {h : Sig} {q : PoolContents} {ss : List SortId} {ts : List TermId} → AreClosedTerms g p ss h q ts → GrowsOn g h
closed_terms_grow {g = g} no_closed_term = on_itself g
closed_terms_grow {g = g} (one_more_closed_term {h = h} {i = i} a one) = on_then g h i (closed_terms_grow a) (on_declared one.declared)
