-- The vocabulary of a signature that has grown by constants.
use Rattle.std.proofs.Common.{◌≡◌, ◌+◌, ◌-◌, ◌<◌, ◌≤◌, inl, ℕ, zero, suc, Bool, true, false, cond, List, [], ◌∷◌, ◌++◌, length, map, refl, ap, sym, ◌∙◌, subst, arith}
use Rattle.std.specs.Prelude.{Option, Some, IfSome, slice_get, bytes_eq}
use Rattle.std.specs.List.{All, AllByRecursion, Contains}
use Rattle.std.proofs.lemmas.List.{append-nil, length-append, length-map}
use Rattle.std.proofs.lemmas.List.Elements.{All-append, All-contains, All-cons, All-nil, All-weaker}
use Rattle.std.proofs.lemmas.Option.{none-some, slice_get_within, get_or_from_slice_get}
use Rattle.data_theory.specs.declared.ids.NameId.{NameId}
use Rattle.data_theory.specs.declared.ids.SortId.{SortId}
use Rattle.data_theory.specs.declared.ids.FunId.{FunId}
use Rattle.data_theory.specs.Terms.{Sort}
use Rattle.data_theory.specs.Declarations.{DeclaredFunction, mapping, constructor}
use Rattle.data_theory.specs.Places.{HaveOnePlace}
use Rattle.data_theory.specs.Sorts as sorts
use Rattle.data_theory.specs.Sorts.{Kind}
use Rattle.data_theory.specs.Functions.{Function, declared_function}
use Rattle.data_theory.specs.Structs.{numbers_from}
use Rattle.data_theory.specs.Signature.{Sig}
use Rattle.data_theory.specs.Complete.{IsFunctionWithin, IsKindWithin, IsSortWithin}
use Rattle.data_theory.specs.WholeSignatures.{IsSignature}
use Rattle.data_theory.specs.IdSorts.{constructions}
use Rattle.data_theory.specs.IdSymbols.{declared_from}
use Rattle.data_theory.specs.IdData.{constructors_of, is_constructor, role_meant, function_meant, function_at_meant, data_meant}
use Rattle.data_theory.specs.IdTerms.{sort_under}
use Rattle.data_theory.proofs.PlaceLemmas.{read_behind}
use Rattle.data_theory.proofs.IdSortLemmas.{read_within}
use Rattle.data_theory.proofs.IdSymbolLemmas.{holds_at}
use Rattle.data_theory.proofs.IdDataLemmas.{constructor_tells, holds_of_role}
use Rattle.sort_table.specs.Expressions.{Name}
use Rattle.sort_table.specs.NamedLists.{all_named}
use Rattle.sort_table.specs.BareSorts.{SortExpression}
use Rattle.sort_table.specs.SortMeanings.{a_struct, UnderNames}
use Rattle.sort_table.specs.TextFunctions as text
use Rattle.sort_table.specs.TextFunctions.{TextFunction, Named, declared_constructor}
use Rattle.sort_table.specs.Vocabularies.{Vocabulary, sort_in, EachPair, AreSortsOf, IsRole, of_map, IsFunction, IsVocabularyOf}
use Rattle.sort_table.specs.SignatureVocabularies.{text_under, function_name_of, function_names_from, sort_name_under, action_under, vocabulary_of}
use Rattle.sort_table.specs.Growth.{More, with_more, with_declared, AllStand, IsMore}
use Rattle.sort_table.proofs.Growing.{vocabularies_grow}
use Rattle.sort_table.proofs.GrowingSignatures.{grown_signatures_have_more}
use Rattle.sort_table.proofs.NothingTwice.{mapped_at}
use Rattle.sort_table.proofs.AddedStructs.{all_contained}
use Rattle.lps_printer.specs.GrowingByConstants.{GrowsByConstants}
use Rattle.lps_printer.specs.PrintedDeclarations.{numbered_constants, HasConstantsMore, GrowthByConstantsIsMore}
use Rattle.lps_printer.proofs.TwoOfLists.{behind_one, all_mapped, all_from}

-- ---- lists
pub same_rest : {A : Type 0} (xs us ys vs : List A) → xs ++ ys ≡ us ++ vs → length xs ≡ length us → ys ≡ vs
same_rest [] [] ys vs e l = e
same_rest [] (u ∷ us) ys vs e l = absurd (omega (arith, l))
same_rest (x ∷ xs) [] ys vs e l = absurd (omega (arith, l))
same_rest (x ∷ xs) (u ∷ us) ys vs e l = same_rest xs us ys vs (let t : xs ++ ys ≡ us ++ vs = cc in t) (omega (arith, l))

-- a signature with the same actions has none behind its vocabulary
pub no_actions_behind : (g h : Sig) (m : More) → vocabulary_of h ≡ with_more (vocabulary_of g) m → h.actions ≡ g.actions → m.actions ≡ []
no_actions_behind g h m is same =
    let own = map (action_under g) g.actions in
    let now = map (action_under h) g.actions in
    same_rest own now m.actions [] (sym (ap (λ (v : Vocabulary). v.actions) is) ∙ (ap (map (action_under h)) same ∙ sym (append-nil now))) (length-map g.actions (action_under g) ∙ sym (length-map g.actions (action_under h)))

pub numbers_at : (n m i : ℕ) → i < m → slice_get (numbers_from n m) i ≡ Some (record { 0 = n + i })
numbers_at n zero i l = absurd (omega (arith, l))
numbers_at n (suc m) zero l = let z : n ≡ n + 0 = omega arith in ap (λ k. Some (record { 0 = k })) z
numbers_at n (suc m) (suc i) l = let z : n + 1 + i ≡ n + suc i = omega arith in numbers_at (n + 1) m i (omega (arith, l)) ∙ ap (λ k. Some (record { 0 = k })) z

pub all_of_name : {A : Type 0} (P : A → Type 0) (f : Name) (rs : List (Name × A)) → AllByRecursion (λ (r : Name × A). P r.1) rs → AllByRecursion P (all_named f rs)
all_of_name P f [] h = tt
all_of_name P f (r ∷ rs) h = by_test (bytes_eq r.0 f) (all_of_name P f rs h.1)
  where
    by_test : (b : Bool) → AllByRecursion P (all_named f rs) → AllByRecursion P (cond b (r.1 ∷ all_named f rs) (all_named f rs))
    by_test true k = (h.0, k)
    by_test false k = k

pub numbers_long : (n k : ℕ) → length (numbers_from n k) ≡ k
numbers_long n zero = refl
numbers_long n (suc k) = ap suc (numbers_long (n + 1) k)

-- ---- names with numbers
module _ (h : Sig) where
  pub names_long : (k : ℕ) (is : List FunId) → length (function_names_from h k is) ≡ length is
  names_long k [] = refl
  names_long k (i ∷ is) = ap suc (names_long (suc k) is)

  pub names_after : (k : ℕ) (is js : List FunId) → function_names_from h k (is ++ js) ≡ function_names_from h k is ++ function_names_from h (k + length is) js
  names_after k [] js = let z : k ≡ k + 0 = omega arith in ap (λ n. function_names_from h n js) z
  names_after k (i ∷ is) js =
      let z : suc k + length is ≡ k + suc (length is) = omega arith in
      ap (λ rs. (function_name_of h (slice_get h.functions i.0), k) ∷ rs) (names_after (suc k) is js ∙ ap (λ n. function_names_from h (suc k) is ++ function_names_from h n js) z)

  names_numbered : (k n : ℕ) (cs : List (NameId × SortId)) → ((i : ℕ) (c : NameId × SortId) → slice_get cs i ≡ Some c → slice_get h.functions (n + i) ≡ Some (declared_function c.0 [] c.1))
      → function_names_from h k (numbers_from n (length cs)) ≡ numbered_constants h k cs
  names_numbered k n [] each = refl
  names_numbered k n (c ∷ cs) each =
      let z : n ≡ n + 0 = omega arith in
      let here : function_name_of h (slice_get h.functions n) ≡ text_under h c.0 = ap (λ m. function_name_of h (slice_get h.functions m)) z ∙ ap (function_name_of h) (each 0 c refl) in
      let rest : function_names_from h (suc k) (numbers_from (n + 1) (length cs)) ≡ numbered_constants h (suc k) cs =
      names_numbered (suc k) (n + 1) cs (λ i d at. (let s : n + 1 + i ≡ n + suc i = omega arith in ap (slice_get h.functions) s ∙ each (suc i) d at)) in
      λ j. (here j, k) ∷ rest j

  number_at : (k : ℕ) (is : List FunId) (i a : ℕ) → slice_get (map (λ (r : Name × ℕ). r.1) (function_names_from h k is)) i ≡ Some a → k + i ≡ a
  number_at k [] i a e = absurd (none-some a e)
  number_at k (f ∷ is) zero a e = let same : k ≡ a = cc in omega (arith, same)
  number_at k (f ∷ is) (suc i) a e = let r = number_at (suc k) is i a e in omega (arith, r)

  pub numbers_once : (is : List FunId) → HaveOnePlace (map (λ (r : Name × ℕ). r.1) (function_names_from h 0 is))
  numbers_once is i j a p q = let r = number_at 0 is i a p in let s = number_at 0 is j a q in omega (arith, r, s)

  constant_numbered : (k : ℕ) (cs : List (NameId × SortId)) (i : ℕ) (c : NameId × SortId) → slice_get cs i ≡ Some c → Contains (numbered_constants h k cs) (text_under h c.0, k + i)
  constant_numbered k [] i c e = absurd (none-some c e)
  constant_numbered k (d ∷ cs) zero c e =
      let same : d ≡ c = cc in
      let z : k ≡ k + 0 = omega arith in
      (zero, omega arith, λ j. (text_under h (same j).0, z j))
  constant_numbered k (d ∷ cs) (suc i) c e =
      let r : Contains (numbered_constants h (suc k) cs) (text_under h c.0, suc k + i) = constant_numbered (suc k) cs i c e in
      let z : suc k + i ≡ k + suc i = omega arith in
      subst (λ n. Contains (numbered_constants h k (d ∷ cs)) (text_under h c.0, n)) z (behind_one (text_under h d.0, k) (numbered_constants h (suc k) cs) (text_under h c.0, suc k + i) r)

-- ---- functions without a role
-- the projections and the recogniser of a function stand below f
abbrev ArePartsBelow : ℕ → Function → Type 0
ArePartsBelow f x = All (λ (p : Option FunId). IfSome p (λ (q : FunId). q.0 < f)) x.projections × IfSome x.test (λ (t : FunId). t.0 < f)

constants_below : (f : ℕ) (cs : List (NameId × SortId)) → All (ArePartsBelow f) (map (λ (c : NameId × SortId). declared_function c.0 [] c.1) cs)
constants_below f [] = All-nil (ArePartsBelow f)
constants_below f (c ∷ cs) =
    All-cons (ArePartsBelow f) (declared_function c.0 [] c.1) (map (λ (d : NameId × SortId). declared_function d.0 [] d.1) cs) (All-nil (λ (p : Option FunId). IfSome p (λ (q : FunId). q.0 < f)), tt) (constants_below f cs)

kind_below : (ss f : ℕ) (k : Kind) → IsKindWithin ss f k → All (λ (i : FunId). i.0 < f) (constructors_of k)
kind_below ss f sorts.booleans w = All-nil (λ (i : FunId). i.0 < f)
kind_below ss f sorts.positives w = All-nil (λ (i : FunId). i.0 < f)
kind_below ss f sorts.naturals w = All-nil (λ (i : FunId). i.0 < f)
kind_below ss f sorts.integers w = All-nil (λ (i : FunId). i.0 < f)
kind_below ss f (sorts.lists_over e) w = All-nil (λ (i : FunId). i.0 < f)
kind_below ss f sorts.without_constructors w = All-nil (λ (i : FunId). i.0 < f)
kind_below ss f (sorts.by_declarations fs) w = w
kind_below ss f (sorts.structured fs) w = w

some_below : (f : ℕ) (o : Option FunId) (i : FunId) → IfSome o (λ (q : FunId). q.0 < f) → o ≡ Some i → i.0 < f
some_below f o i w e = let k : IfSome (Some i) (λ (q : FunId). q.0 < f) = subst (λ p. IfSome p (λ (q : FunId). q.0 < f)) e w in k

module _ (g h : Sig) (stands : IsSignature g) (later : IsSignature h) (w : GrowsByConstants g h) where
  abbrev cs : List (NameId × SortId)
  cs = w.constants

  abbrev of_constant : NameId × SortId → Function
  of_constant c = declared_function c.0 [] c.1

  abbrev K : ℕ
  K = length g.declared

  entry_at : (i : ℕ) (c : NameId × SortId) → slice_get cs i ≡ Some c → slice_get h.functions (length g.functions + i) ≡ Some (of_constant c)
  entry_at i c at = ap (λ fs. slice_get fs (length g.functions + i)) w.functions ∙ read_behind g.functions (map of_constant cs) i (of_constant c) (mapped_at of_constant cs i c at)

  -- ---- what is added
  pub has_constants_more : HasConstantsMore g h cs
  has_constants_more =
      let m = grown_signatures_have_more g h stands.complete stands.table stands.roles later.roles w.grown in
      let own_sorts = constructions g.sorts in
      let own_names = map (sort_name_under g) g.sort_names in
      let now_names = map (sort_name_under h) g.sort_names in
      let rest = function_names_from h (0 + K) (numbers_from (length g.functions) (length cs)) in
      let sort_rest : m.0.sorts ≡ [] = same_rest own_sorts own_sorts m.0.sorts [] (sym (ap (λ (v : Vocabulary). v.tables.sorts) m.1) ∙ (ap constructions w.sorts ∙ sym (append-nil own_sorts))) refl in
      let name_rest : m.0.sort_names ≡ [] =
      same_rest own_names now_names m.0.sort_names [] (sym (ap (λ (v : Vocabulary). v.sort_names) m.1) ∙ (ap (map (sort_name_under h)) w.sort_names ∙ sym (append-nil now_names))) (length-map g.sort_names (sort_name_under g) ∙ sym (length-map g.sort_names (sort_name_under h))) in
      let function_rest : m.0.function_names ≡ rest =
      same_rest (function_names_from g 0 g.declared) (function_names_from h 0 g.declared) m.0.function_names rest
      (sym (ap (λ (v : Vocabulary). v.function_names) m.1) ∙ (ap (function_names_from h 0) w.declared ∙ names_after h 0 g.declared (numbers_from (length g.functions) (length cs)))) (names_long g 0 g.declared ∙ sym (names_long h 0 g.declared)) in
      let z : 0 + K ≡ K = omega arith in
      record {
        more = m.0;
        is = m.1;
        sorts = sort_rest;
        sort_names = name_rest;
        actions = no_actions_behind g h m.0 m.1 w.actions;
        function_names = function_rest ∙ (ap (λ n. function_names_from h n (numbers_from (length g.functions) (length cs))) z ∙ names_numbered h K (length g.functions) cs entry_at);
      }

  -- ---- its functions
  parts_below : All (ArePartsBelow (length g.functions)) h.functions
  parts_below =
      let F : ℕ = length g.functions in
      subst (All (ArePartsBelow F)) (sym w.functions)
      (All-append (ArePartsBelow F) g.functions (map of_constant cs)
      (All-weaker (IsFunctionWithin (length g.texts) (length g.sorts) F) (ArePartsBelow F) (λ x is. (is.projected, is.recognised)) g.functions stands.complete.within.functions_within)
      (constants_below F cs))

  abbrev F : ℕ
  F = length g.functions

  no_role : (i : FunId) → F ≤ i.0 → role_meant h i ≡ mapping
  no_role i high =
      holds_of_role h i (λ r. r ≡ mapping) refl
      (λ c x k at p. absurd (low (holds_at (λ (q : Option FunId). IfSome q (λ (j : FunId). j.0 < F)) x.projections k (Some i) (holds_at (ArePartsBelow F) h.functions c.0 x parts_below at).0 p)))
      (λ c x at t. absurd (low (some_below F x.test i (holds_at (ArePartsBelow F) h.functions c.0 x parts_below at).1 t))) made
    where
      low : i.0 < F → ⊥
      low l = omega (arith, l, high)

      made : is_constructor h.sorts i ≡ true → constructor ≡ mapping
      made told =
          let r = constructor_tells h.sorts i told in
          let there : slice_get g.sorts r.0 ≡ Some r.1 = ap (λ ss. slice_get ss r.0) (sym w.sorts) ∙ r.2 in
          let within = holds_at (IsSortWithin (length g.texts) (length g.sorts) F) g.sorts r.0 r.1 stands.complete.within.sorts_within there in
          absurd (low (All-contains (λ (j : FunId). j.0 < F) (constructors_of r.1.kind) i (kind_below (length g.sorts) F r.1.kind within.built) r.3))

  declared_at : (i : ℕ) → i < length cs → slice_get h.declared (K + i) ≡ Some (record { 0 = length g.functions + i })
  declared_at i l =
      ap (λ fs. slice_get fs (K + i)) w.declared
      ∙ read_behind g.declared (numbers_from (length g.functions) (length cs)) i (record { 0 = length g.functions + i }) (numbers_at (length g.functions) (length cs) i l)

  pub constant_at : (i : ℕ) (c : NameId × SortId) → slice_get cs i ≡ Some c → slice_get (data_meant h).functions (K + i) ≡ Some (record { arguments = []; result = sort_under h c.1; role = mapping })
  constant_at i c at =
      let id : FunId = record { 0 = length g.functions + i } in
      ap (λ fs. slice_get (map (function_meant h) fs) (K + i)) (sym later.table.listed)
      ∙ (mapped_at (function_meant h) h.declared (K + i) id (declared_at i (slice_get_within cs i c at))
      ∙ (ap (λ o. Some (function_at_meant h id o)) (entry_at i c at) ∙ ap (λ r. Some (record { arguments = []; result = sort_under h c.1; role = r })) (no_role id (omega arith))))

  functions_long : (x : Sig) → IsSignature x → length (data_meant x).functions ≡ length x.declared
  functions_long x s = length-map (declared_from 0 x.functions) (function_meant x) ∙ ap length (sym s.table.listed)

  declared_long : length h.declared ≡ K + length cs
  declared_long = ap length w.declared ∙ (length-append g.declared (numbers_from (length g.functions) (length cs)) ∙ ap (λ n. K + n) (numbers_long (length g.functions) (length cs)))

  -- ---- with these declared under names, the signature has the vocabulary
  module _ (u : UnderNames) (to : NameId × SortId → SortExpression) (reads : All (λ (c : NameId × SortId). sort_in (vocabulary_of h).sort_names (to c) ≡ Some (sort_under h c.1)) cs) where
    abbrev written : NameId × SortId → Named
    written c = (text_under h c.0, record { arguments = []; result = to c; role = text.mapping })

    abbrev more : Name → List TextFunction
    more f = all_named f (map written cs)

    abbrev v : UnderNames
    v = with_declared u u.sort more (λ a. [])

    its_function : (i : ℕ) (c : NameId × SortId) → slice_get cs i ≡ Some c → IsFunction v (vocabulary_of h) (written c).1 (K + i)
    its_function i c at =
        let there = constant_at i c at in
        let is = get_or_from_slice_get (data_meant h).functions (K + i) (record { arguments = []; result = sort_under h c.1; role = mapping }) (record { arguments = []; result = _; role = mapping }) there in
        record {
          within = slice_get_within (data_meant h).functions (K + i) (record { arguments = []; result = sort_under h c.1; role = mapping }) there;
          arguments = ap (λ (f : DeclaredFunction). Some f.arguments) (sym is);
          result = holds_at (λ (d : NameId × SortId). sort_in (vocabulary_of h).sort_names (to d) ≡ Some (sort_under h d.1)) cs i c reads at ∙ ap (λ (f : DeclaredFunction). Some f.result) (sym is);
          role = subst (IsRole v (vocabulary_of h) (to c) text.mapping) (ap (λ (f : DeclaredFunction). f.role) (sym is)) of_map;
        }

    pairs : (f : Name) (k : ℕ) (ds : List (NameId × SortId)) → ((i : ℕ) (c : NameId × SortId) → slice_get ds i ≡ Some c → IsFunction v (vocabulary_of h) (written c).1 (k + i))
        → EachPair (IsFunction v (vocabulary_of h)) (all_named f (map written ds)) (all_named f (numbered_constants h k ds))
    pairs f k [] each = tt
    pairs f k (c ∷ ds) each =
        let z : k + 0 ≡ k = omega arith in
        by_test (bytes_eq (text_under h c.0) f) (subst (IsFunction v (vocabulary_of h) (written c).1) z (each 0 c refl))
        (pairs f (suc k) ds (λ i d at. (let s : k + suc i ≡ suc k + i = omega arith in subst (IsFunction v (vocabulary_of h) (written d).1) s (each (suc i) d at))))
      where
        by_test : (b : Bool) → IsFunction v (vocabulary_of h) (written c).1 k → EachPair (IsFunction v (vocabulary_of h)) (all_named f (map written ds)) (all_named f (numbered_constants h (suc k) ds))
            → EachPair (IsFunction v (vocabulary_of h)) (cond b ((written c).1 ∷ all_named f (map written ds)) (all_named f (map written ds))) (cond b (k ∷ all_named f (numbered_constants h (suc k) ds)) (all_named f (numbered_constants h (suc k) ds)))
        by_test true here rest = (here, rest)
        by_test false here rest = rest

    no_sort : (d : ℕ) → length (constructions g.sorts) ≤ d → d < length (constructions h.sorts) → ⊥
    no_sort d high low = let same : length (constructions h.sorts) ≡ length (constructions g.sorts) = ap (λ ss. length (constructions ss)) w.sorts in omega (arith, high, low, same)

    no_cons : (f : Name) (x : TextFunction) → Contains (more f) x → x.role ≡ declared_constructor → ⊥
    no_cons f x c role =
        let is_mapping : x.role ≡ text.mapping =
        all_contained (λ (y : TextFunction). y.role ≡ text.mapping) (more f) x
        (all_of_name (λ (y : TextFunction). y.role ≡ text.mapping) f (map written cs) (all_mapped (λ (r : Named). r.1.role ≡ text.mapping) written cs (all_from (λ d. (written d).1.role ≡ text.mapping) cs (λ d k. refl)))) c in
        let never : text.mapping ≡ declared_constructor = sym is_mapping ∙ role in
        cc

    used : (k : ℕ) → length (data_meant g).functions ≤ k → k < length (data_meant h).functions → (f : Name) × Contains has_constants_more.more.function_names (f, k)
    used k high low =
        let a : length (data_meant g).functions ≡ K = functions_long g stands in
        let b : length (data_meant h).functions ≡ length h.declared = functions_long h later in
        let i : ℕ = k - K in
        let l : i < length cs = omega (arith, high, low, a, b, declared_long) in
        let z : K + i ≡ k = omega (arith, high, a) in
        let c = read_within cs i l in
        let there : Contains (numbered_constants h K cs) (text_under h c.0.0, K + i) = constant_numbered h K cs i c.0 c.1 in
        (text_under h c.0.0, subst (λ rs. Contains rs (text_under h c.0.0, k)) (sym has_constants_more.function_names) (subst (λ n. Contains (numbered_constants h K cs) (text_under h c.0.0, n)) z there))

    is_more : IsMore u v (vocabulary_of g) (vocabulary_of h) has_constants_more.more more (λ a. [])
    is_more = record {
      kept = λ n k q. q;
      new_names = λ n k q. inl q;
      are_new = subst (AllByRecursion (λ (r : Name × Sort). v.sort r.0 ≡ Some a_struct)) (sym has_constants_more.sort_names) tt;
      different = λ n l d high a b. absurd (no_sort d high a.1);
      sorts_used = λ d high low. absurd (no_sort d high low);
      no_cons = no_cons;
      each = λ f. subst (λ rs. EachPair (IsFunction v (vocabulary_of h)) (more f) (all_named f rs)) (sym has_constants_more.function_names) (pairs f K cs its_function);
      functions_used = used;
      once = numbers_once h h.declared;
      actions = λ a. subst (λ as_. EachPair (AreSortsOf (vocabulary_of h)) [] (all_named a as_)) (sym has_constants_more.actions) tt;
    }

    pub constants_have_vocabulary : IsVocabularyOf u (vocabulary_of g) → AllStand u → IsVocabularyOf v (vocabulary_of h)
    constants_have_vocabulary is stand =
        let added = has_constants_more in
        subst (IsVocabularyOf v) (sym added.is) (vocabularies_grow u u.sort more (λ a. []) (vocabulary_of g) added.more is stand (subst (λ x. IsMore u v (vocabulary_of g) x added.more more (λ a. [])) added.is is_more))

pub growth_by_constants_is_more : GrowthByConstantsIsMore
growth_by_constants_is_more g h stands later w = has_constants_more g h stands later w
