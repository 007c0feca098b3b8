-- The vocabulary of a signature into which a struct has come.
use Rattle.std.proofs.Common.{◌≡◌, ◌+◌, ◌<◌, ◌≤◌, ◌⊎◌, inl, inr, ⊎_elim, ℕ, zero, suc, Bool, true, false, cond, ◌-◌, List, [], ◌∷◌, ◌++◌, length, map, take, refl, sym, ap, ◌∙◌, subst, arith, length-append}
use Rattle.std.specs.Prelude.{Option, Some, None, slice_get, bytes_eq}
use Rattle.std.specs.List.{AllByRecursion, Contains, flat_map}
use Rattle.std.proofs.Math.Seq.{take-append_seam}
use Rattle.std.proofs.lemmas.List.{length-map}
use Rattle.std.proofs.lemmas.List.Elements.{All-contains}
use Rattle.std.proofs.lemmas.Option.{none-some, same_Some}
use Rattle.std.proofs.lemmas.Slice.Eq.{bytes_eq-Decides}
use Rattle.data_theory.specs.declared.ids.FunId.{FunId}
use Rattle.data_theory.specs.declared.ids.NameId.{NameId}
use Rattle.data_theory.specs.declared.ids.SortId.{SortId}
use Rattle.data_theory.specs.Terms.{Sort, named}
use Rattle.data_theory.specs.Declarations as theory
use Rattle.data_theory.specs.Declarations.{DeclaredFunction, constructor, projection, recogniser, mapping, sort_at, IsSort}
use Rattle.data_theory.specs.Functions.{Function}
use Rattle.data_theory.specs.Sorts.{SortInfo, structured, abstract_sort}
use Rattle.data_theory.specs.Signature.{Sig}
use Rattle.data_theory.specs.IdData.{role_meant, function_meant, data_meant}
use Rattle.data_theory.specs.IdRoles.{HasNoRole, constructs, projects, recognises, declared_number}
use Rattle.data_theory.specs.IdSorts.{construction_of, constructions}
use Rattle.data_theory.specs.IdSymbols.{declared_from}
use Rattle.data_theory.specs.IdTerms.{sort_under}
use Rattle.data_theory.specs.Structs.{numbers_from}
use Rattle.data_theory.specs.WholeSignatures.{IsSignature}
use Rattle.data_theory.proofs.IdDataLemmas.{holds_of_role, constructor_tells, roles_are_found}
use Rattle.data_theory.proofs.IdSortLemmas.{declared_sorts_stand_in_the_data}
use Rattle.data_theory.proofs.IdSymbolLemmas.{sort_is}
use Rattle.data_theory.proofs.PlaceLemmas.{read_behind}
use Rattle.mcrl2_syntax.proofs.Lists.{all_both}
use Rattle.sort_table.specs.Expressions.{Name}
use Rattle.sort_table.specs.NamedLists.{all_named, first_named}
use Rattle.sort_table.specs.BareSorts.{SortExpression, truth_values, a_name}
use Rattle.sort_table.specs.BareDeclarations.{Field, Constructor, struct}
use Rattle.sort_table.specs.Growth.{More, with_more, with_declared, AllStand, IsMore}
use Rattle.sort_table.specs.SortMeanings.{Kind, a_struct, UnderNames, for_struct}
use Rattle.sort_table.specs.SignatureVocabularies.{text_under, sort_name_under, function_name_of, function_names_from, vocabulary_of}
use Rattle.sort_table.specs.NamedSorts.{sort_names_of, sort_count}
use Rattle.sort_table.specs.TextFunctions as text
use Rattle.sort_table.specs.TextFunctions.{TextRole, TextFunction, Named, struct_constructor, declared_constructor, declared, where_named, fields_of, projections_from, functions_by}
use Rattle.sort_table.specs.Vocabularies as vocabulary
use Rattle.sort_table.specs.Vocabularies.{Vocabulary, sorts_in, IsConstruction, by_struct, HasNumber, IsRole, IsFunction, IsSortNamed, EachPair, AreSortsOf, IsVocabularyOf}
use Rattle.sort_table.specs.EnteredFunctions as entered
use Rattle.sort_table.specs.EnteredFunctions.{HasTextRole, IsConstructorAt, IsConOf, IsEntered}
use Rattle.sort_table.proofs.AddedStructs.{all_contained}
use Rattle.sort_table.proofs.Growing.{first_of_two, stands_after, vocabularies_grow}
use Rattle.sort_table.proofs.GrowingSignatures.{grown_signatures_have_more}
use Rattle.sort_table.proofs.ListForms.{SameNames, each_named, found_entry}
use Rattle.sort_table.proofs.ListedFunctions.{listed_place, within_listed, place_of_listed, listed_meant}
use Rattle.sort_table.proofs.NamedSignatures.{text_of_id}
use Rattle.sort_table.proofs.NewFunctions.{sorts_meant}
use Rattle.lps_printer.specs.GrowingByAdditions.{GrowsByStruct}
use Rattle.lps_printer.proofs.ConstantVocabularies.{same_rest, no_actions_behind, all_of_name, numbers_at, numbers_long, names_long, names_after, numbers_once}
use Rattle.lps_printer.proofs.TwoOfLists.{all_mapped, all_flat, all_from}
use Rattle.lps_printer.proofs.GrownStructs.{first, fs, none_yet, it_is_grown, sorts_are, declared_are, actions_are, sort_names_are, struct_entered}

-- ---- functions that are entered
no_role : (h : Sig) (i : FunId) → HasNoRole h i → role_meant h i ≡ mapping
no_role h i none =
    holds_of_role h i (λ r. r ≡ mapping) refl (λ c x k at p. absurd (none (projection (declared_number h.functions c) k) (projects c x k at p)))
    (λ c x at t. absurd (none (recogniser (declared_number h.functions c)) (recognises c x at t)))
    (λ made. (let r = constructor_tells h.sorts i made in absurd (none constructor (constructs (record { 0 = r.0 }) r.1 r.2 r.3))))

name_listed : (h : Sig) (is : List FunId) (k p : ℕ) (i : FunId) → slice_get is p ≡ Some i → Contains (function_names_from h k is) (function_name_of h (slice_get h.functions i.0), k + p)
name_listed h [] k p i at = absurd (none-some i at)
name_listed h (j ∷ is) k zero i at =
    let same : j ≡ i = same_Some j i at in
    let number : k ≡ k + 0 = omega arith in
    (zero, omega arith, (λ l. (function_name_of h (slice_get h.functions (same l).0), number l)))
name_listed h (j ∷ is) k (suc p) i at =
    let number : suc k + p ≡ k + suc p = omega arith in
    let c = subst (λ (m : ℕ). Contains (function_names_from h (suc k) is) (function_name_of h (slice_get h.functions i.0), m)) number (name_listed h is (suc k) p i at) in
    let low = c.1 in
    (suc c.0, omega (arith, low), c.2)

module _ (u : UnderNames) (h : Sig) (stands : IsSignature h) where
  abbrev x : Vocabulary
  x = vocabulary_of h

  has_number : (c : Name) (es : List SortExpression) (j : FunId) (f : Function) → IsConstructorAt h c es j f → HasNumber x c es (declared_number h.functions j)
  has_number c es j f is =
      let p = listed_place h stands.table j f is.there is.declared in
      let number : p.0 ≡ declared_number h.functions j = sym (place_of_listed h stands.table p.0 j f p.1 is.there is.declared) in
      let name : function_name_of h (slice_get h.functions j.0) ≡ c = ap (function_name_of h) is.there ∙ text_of_id h f.name c is.name in
      let place : 0 + p.0 ≡ p.0 = omega arith in
      subst (HasNumber x c es) number (
        subst (Contains x.function_names) (λ l. (name l, place l)) (name_listed h h.declared 0 p.0 j p.1),
        within_listed h stands.table p.0 j p.1,
        sorts_meant h es f.sorts is.arguments ∙ ap (λ (y : DeclaredFunction). Some y.arguments) (sym (listed_meant h stands.table p.0 j f p.1 is.there is.declared)),
      )

  role_is : (f : Named) (i : FunId) (r : TextRole) → (r ≡ declared_constructor → ⊥) → HasTextRole h i r → IsRole u x f.1.result r (role_meant h i)
  role_is f i _ never (entered.of_struct (s, t, at, c)) = subst (IsRole u x f.1.result struct_constructor) (sym (roles_are_found h stands.roles i constructor (constructs s t at c))) vocabulary.of_struct
  role_is f i _ never (entered.of_cons none) = absurd (never refl)
  role_is f i _ never (entered.of_map none) = subst (IsRole u x f.1.result text.mapping) (sym (no_role h i none)) vocabulary.of_map
  role_is f i _ never (entered.of_place c es k j y con place) =
      subst (IsRole u x f.1.result (text.projection c es k)) (sym (roles_are_found h stands.roles i (projection (declared_number h.functions j) k) (projects j y k con.there place)))
      (vocabulary.of_place c es k (declared_number h.functions j) (has_number c es j y con))
  role_is f i _ never (entered.of_test c es j y con test) =
      subst (IsRole u x f.1.result (text.recogniser c es)) (sym (roles_are_found h stands.roles i (recogniser (declared_number h.functions j)) (recognises j y con.there test)))
      (vocabulary.of_test c es (declared_number h.functions j) (has_number c es j y con))

  pub entered_function : (f : Named) (i : FunId) (p : ℕ) → slice_get h.declared p ≡ Some i → IsEntered h f i → (f.1.role ≡ declared_constructor → ⊥) → IsFunction u x f.1 p
  entered_function f i p at is never =
      let meant = listed_meant h stands.table p i is.entry at is.there is.is.declared in
      record {
        within = within_listed h stands.table p i at;
        arguments = sorts_meant h f.1.arguments is.entry.sorts is.is.arguments ∙ ap (λ (y : DeclaredFunction). Some y.arguments) (sym meant);
        result = is.is.result.meant ∙ ap (λ (y : DeclaredFunction). Some y.result) (sym meant);
        role = subst (IsRole u x f.1.result f.1.role) (ap (λ (y : DeclaredFunction). y.role) (sym meant)) (role_is f i f.1.role never is.role);
      }

  -- those of a list that stands at the end of the declared ones
  entered_names : (k : ℕ) (gs : List Named) (is : List FunId) → EachPair (IsEntered h) gs is → ((j : ℕ) (i : FunId) → slice_get is j ≡ Some i → slice_get h.declared (k + j) ≡ Some i) → AllByRecursion (λ (f : Named). f.1.role ≡ declared_constructor → ⊥) gs
      → SameNames (IsFunction u x) gs (function_names_from h k is)
  entered_names k [] [] all at never = tt
  entered_names k [] (i ∷ is) all at never = absurd all
  entered_names k (f ∷ gs) [] all at never = absurd all
  entered_names k (f ∷ gs) (i ∷ is) all at never =
      let here : k + 0 ≡ k = omega arith in (
        sym (ap (function_name_of h) all.0.there ∙ text_of_id h all.0.entry.name f.0 all.0.is.name),
        entered_function f i k (subst (λ n. slice_get h.declared n ≡ Some i) here (at 0 i refl)) all.0 never.0,
        entered_names (suc k) gs is all.1 (λ j y e. (let s : k + suc j ≡ suc k + j = omega arith in subst (λ n. slice_get h.declared n ≡ Some y) s (at (suc j) y e))) never.1,
      )

-- ---- what a struct declares
abbrev IsNoCons : Named → Type 0
IsNoCons f = f.1.role ≡ declared_constructor → ⊥

module _ (n : Name) where
  where_named_no : (e : SortExpression) (r : TextRole) (o : Option Name) → (r ≡ declared_constructor → ⊥) → AllByRecursion IsNoCons (where_named (a_name n) e r o)
  where_named_no e r None never = tt
  where_named_no e r (Some m) never = (never, tt)

  projections_no : (c : Constructor) (k : ℕ) (fs : List Field) → AllByRecursion IsNoCons (projections_from (a_name n) c k fs)
  projections_no c k [] = tt
  projections_no c k (f ∷ fs) =
      all_both IsNoCons (where_named (a_name n) f.sort (text.projection c.name (fields_of c) k) f.name) (projections_from (a_name n) c (suc k) fs)
      (where_named_no f.sort (text.projection c.name (fields_of c) k) f.name (λ e. cc)) (projections_no c (suc k) fs)

  pub no_cons_by_struct : (cs : List Constructor) → AllByRecursion IsNoCons (functions_by (struct n cs))
  no_cons_by_struct cs =
      all_both IsNoCons (map (λ (c : Constructor). declared (fields_of c) (a_name n) struct_constructor c.name) cs) _
      (all_mapped IsNoCons (λ (c : Constructor). declared (fields_of c) (a_name n) struct_constructor c.name) cs (all_from (λ c. IsNoCons (declared (fields_of c) (a_name n) struct_constructor c.name)) cs (λ c k e. cc)))
      (all_both IsNoCons (flat_map (λ (c : Constructor). projections_from (a_name n) c 0 c.fields) cs) _
      (all_flat IsNoCons (λ (c : Constructor). projections_from (a_name n) c 0 c.fields) cs (all_from (λ c. AllByRecursion IsNoCons (projections_from (a_name n) c 0 c.fields)) cs (λ c k. projections_no c 0 c.fields)))
      (all_flat IsNoCons (λ (c : Constructor). where_named (a_name n) truth_values (text.recogniser c.name (fields_of c)) c.recogniser) cs
      (all_from (λ c. AllByRecursion IsNoCons (where_named (a_name n) truth_values (text.recogniser c.name (fields_of c)) c.recogniser)) cs (λ c k. where_named_no truth_values (text.recogniser c.name (fields_of c)) c.recogniser (λ e. cc)))))

-- ---- lists of names
pub first_none : {A : Type 0} (n : Name) (rs qs : List (Name × A)) → first_named n rs ≡ None → first_named n (rs ++ qs) ≡ first_named n qs
first_none n [] qs e = refl
first_none n (r ∷ rs) qs e = by_test (bytes_eq r.0 n) e (first_none n rs qs)
  where
    by_test : (b : Bool) → cond b (Some r.1) (first_named n rs) ≡ None → (first_named n rs ≡ None → first_named n (rs ++ qs) ≡ first_named n qs) → cond b (Some r.1) (first_named n (rs ++ qs)) ≡ first_named n qs
    by_test true q rest = absurd (none-some r.1 (sym q))
    by_test false q rest = rest q

pub one_named : {A : Type 0} (n m : Name) (x y : A) → first_named n ((m, x) ∷ []) ≡ Some y → (y ≡ x) × (n ≡ m)
one_named n m x y e = by_test (bytes_eq m n) refl e
  where
    by_test : (b : Bool) → bytes_eq m n ≡ b → cond b (Some x) None ≡ Some y → (y ≡ x) × (n ≡ m)
    by_test true same q = (sym (same_Some x y q), sym ((bytes_eq-Decides m n).0 same))
    by_test false other q = absurd (none-some y q)

pub named_first : {A : Type 0} (n : Name) (x : A) → first_named n ((n, x) ∷ []) ≡ Some x
named_first n x = ap (λ (b : Bool). cond b (Some x) None) ((bytes_eq-Decides n n).1 refl)

count_behind : (ss : List SortInfo) (s : SortInfo) → length (constructions (ss ++ s ∷ [])) ≡ length (constructions ss) + length (construction_of s.kind)
count_behind [] s = let z = length-append (construction_of s.kind) [] in omega (arith, z)
count_behind (r ∷ ss) s =
    let a = length-append (construction_of r.kind) (constructions (ss ++ s ∷ [])) in
    let b = length-append (construction_of r.kind) (constructions ss) in
    let rest = count_behind ss s in
    omega (arith, a, b, rest)

-- names have sorts of the data
pub named_sorts : (g : Sig) → IsSignature g → AllByRecursion (λ (r : Name × Sort). IsSort (data_meant g) r.1) (sort_names_of g)
named_sorts g stands = all_mapped (λ (r : Name × Sort). IsSort (data_meant g) r.1) (sort_name_under g) g.sort_names
    (all_from (λ (e : NameId × SortId). IsSort (data_meant g) (sort_under g e.1)) g.sort_names
    (λ e c. sort_is g stands.table e.1 (All-contains (λ (x : NameId × SortId). (x.0.0 < length g.texts) × (x.1.0 < length g.sorts)) g.sort_names e stands.complete.within.sort_names c).1))

-- ---- the vocabulary
module _ (g h : Sig) (stands : IsSignature g) (later : IsSignature h) (w : GrowsByStruct g h) (cs : List Constructor) (are : EachPair (IsConOf h) cs w.declared.1)
    (u : UnderNames) (is : IsVocabularyOf u (vocabulary_of g)) (stand : AllStand u) (sort : Name → Option Kind)
    (old : (n : Name) (k : Kind) → u.sort n ≡ Some k → sort n ≡ Some k) (now : sort (text_under h w.declared.0) ≡ Some a_struct)
    (only : (n : Name) (k : Kind) → sort n ≡ Some k → (u.sort n ≡ Some k) ⊎ ((k ≡ a_struct) × (n ≡ text_under h w.declared.0))) where
  abbrev t : Name
  t = text_under h w.declared.0

  abbrev d : ℕ
  d = sort_count g

  abbrev K : ℕ
  K = length g.declared

  abbrev new : List Named
  new = functions_by (struct t cs)

  abbrev more : Name → List TextFunction
  more f = all_named f new

  abbrev numbers : List FunId
  numbers = numbers_from (first g h stands w) (length (fs g h stands w))

  abbrev v : UnderNames
  v = with_declared u sort more (λ a. [])

  abbrev y : Vocabulary
  y = vocabulary_of h

  has_more : (m : More) × (y ≡ with_more (vocabulary_of g) m)
  has_more = let m = grown_signatures_have_more g h stands.complete stands.table stands.roles later.roles (it_is_grown g h stands w) in (m.0, m.1)

  action_rest : has_more.0.actions ≡ []
  action_rest = no_actions_behind g h has_more.0 has_more.1 (actions_are g h stands w)

  sort_rest : has_more.0.sort_names ≡ (t, named d) ∷ []
  sort_rest = same_rest (sort_names_of g) (sort_names_of g) has_more.0.sort_names ((t, named d) ∷ []) (sym (ap (λ (x : Vocabulary). x.sort_names) has_more.1) ∙ sort_names_are g h stands w) refl

  function_rest : has_more.0.function_names ≡ function_names_from h K numbers
  function_rest =
      let z : 0 + K ≡ K = omega arith in
      same_rest (function_names_from g 0 g.declared) (function_names_from h 0 g.declared) has_more.0.function_names (function_names_from h (0 + K) numbers)
      (sym (ap (λ (x : Vocabulary). x.function_names) has_more.1) ∙ (ap (function_names_from h 0) (declared_are g h stands w) ∙ names_after h 0 g.declared numbers)) (names_long g 0 g.declared ∙ sym (names_long h 0 g.declared))
      ∙ ap (λ n. function_names_from h n numbers) z

  -- ---- the sort
  abbrev made : SortInfo
  made = record (abstract_sort w.declared.0) { kind = structured (numbers_from (first g h stands w) (length w.declared.1)) }

  one_sort_more : length (data_meant h).sorts ≡ d + 1
  one_sort_more = ap (λ ss. length (constructions ss)) (sorts_are g h stands w) ∙ count_behind g.sorts made

  sort_there : slice_get h.sorts (length g.sorts) ≡ Some made
  sort_there =
      let z : length g.sorts ≡ length g.sorts + 0 = omega arith in
      ap (λ ss. slice_get ss (length g.sorts)) (sorts_are g h stands w) ∙ ap (slice_get (g.sorts ++ made ∷ [])) z ∙ read_behind g.sorts (made ∷ []) 0 made refl

  its_construction : sort_at (data_meant h) d ≡ theory.structured
  its_construction =
      let place : length (constructions (take (length g.sorts) h.sorts)) ≡ d = ap (λ ss. length (constructions (take (length g.sorts) ss))) (sorts_are g h stands w) ∙ ap (λ ss. length (constructions ss)) (take-append_seam g.sorts (made ∷ [])) in
      ap (sort_at (data_meant h)) (sym place) ∙ declared_sorts_stand_in_the_data h (record { 0 = length g.sorts }) made theory.structured sort_there refl

  its_sort : IsSortNamed v y t d
  its_sort = (
    ap (first_named t) (sort_names_are g h stands w) ∙ first_none t (sort_names_of g) ((t, named d) ∷ []) (none_yet g h stands w) ∙ named_first t (named d),
    (let many = one_sort_more in omega (arith, many)),
    subst (IsConstruction v t) (sym its_construction) (by_struct now),
  )

  is_this : (n : Name) (k : ℕ) → d ≤ k → IsSortNamed v y n k → n ≡ t
  is_this n k high at = ⊎_elim
      (λ before. absurd (let low : k < d = found_entry (λ (m : Name) (s : Sort). IsSort (data_meant g) s) n (sort_names_of g) (named k) (named_sorts g stands) before in omega (arith, low, high)))
      (λ last. (one_named n t (named d) (named k) last).1)
      (first_of_two n (sort_names_of g) ((t, named d) ∷ []) (named k) (ap (first_named n) (sym (sort_names_are g h stands w)) ∙ at.0))

  -- ---- the functions
  no_cons : (f : Name) (x : TextFunction) → Contains (more f) x → x.role ≡ declared_constructor → ⊥
  no_cons f x c = all_contained (λ (z : TextFunction). z.role ≡ declared_constructor → ⊥) (more f) x (all_of_name (λ (z : TextFunction). z.role ≡ declared_constructor → ⊥) f new (no_cons_by_struct t cs)) c

  number_listed : (j : ℕ) (i : FunId) → slice_get numbers j ≡ Some i → slice_get h.declared (K + j) ≡ Some i
  number_listed j i at = ap (λ is. slice_get is (K + j)) (declared_are g h stands w) ∙ read_behind g.declared numbers j i at

  same_names : SameNames (IsFunction v y) new (function_names_from h K numbers)
  same_names = entered_names v h later K new numbers (struct_entered g h stands w cs are) number_listed (no_cons_by_struct t cs)

  functions_long : (x : Sig) → IsSignature x → length (data_meant x).functions ≡ length x.declared
  functions_long x s = length-map (declared_from 0 x.functions) (function_meant x) ∙ ap length (sym s.table.listed)

  used : (k : ℕ) → length (data_meant g).functions ≤ k → k < length (data_meant h).functions → (f : Name) × Contains has_more.0.function_names (f, k)
  used k high low =
      let a : length (data_meant g).functions ≡ K = functions_long g stands in
      let b : length (data_meant h).functions ≡ length h.declared = functions_long h later in
      let long = ap length (declared_are g h stands w) ∙ (length-append g.declared numbers ∙ ap (λ n. K + n) (numbers_long (first g h stands w) (length (fs g h stands w)))) in
      let i : ℕ = k - K in
      let l : i < length (fs g h stands w) = omega (arith, high, low, a, b, long) in
      let z : K + i ≡ k = omega (arith, high, a) in
      let id : FunId = record { 0 = first g h stands w + i } in
      let name : Name = function_name_of h (slice_get h.functions id.0) in
      let there : Contains (function_names_from h K numbers) (name, K + i) = name_listed h numbers K i id (numbers_at (first g h stands w) (length (fs g h stands w)) i l) in
      (name, subst (λ rs. Contains rs (name, k)) (sym function_rest) (subst (λ n. Contains (function_names_from h K numbers) (name, n)) z there))

  is_more : IsMore u v (vocabulary_of g) y has_more.0 more (λ a. [])
  is_more = record {
    kept = old;
    new_names = λ n k q. ⊎_elim (λ a. inl a) (λ b. inr (b.0, (d, omega arith, subst (λ (m : Name). IsSortNamed v y m d) (sym b.1) its_sort))) (only n k q);
    are_new = subst (AllByRecursion (λ (r : Name × Sort). v.sort r.0 ≡ Some a_struct)) (sym sort_rest) (now, tt);
    different = λ n l k high a b. is_this n k high a ∙ sym (is_this l k high b);
    sorts_used = λ k high low. (let many = one_sort_more in let e : d ≡ k = omega (arith, high, low, many) in (t, now, subst (IsSortNamed v y t) e its_sort));
    no_cons = no_cons;
    each = λ f. subst (λ rs. EachPair (IsFunction v y) (more f) (all_named f rs)) (sym function_rest) (each_named (IsFunction v y) new (function_names_from h K numbers) same_names f);
    functions_used = used;
    once = numbers_once h h.declared;
    actions = λ a. subst (λ as_. EachPair (AreSortsOf y) [] (all_named a as_)) (sym action_rest) tt;
  }

  pub struct_has_vocabulary : IsVocabularyOf v y
  struct_has_vocabulary =
      subst (IsVocabularyOf v) (sym has_more.1) (vocabularies_grow u sort more (λ a. []) (vocabulary_of g) has_more.0 is stand (subst (λ x. IsMore u v (vocabulary_of g) x has_more.0 more (λ a. [])) has_more.1 is_more))

  pub struct_stands : AllStand v
  struct_stands n k q = ⊎_elim
      (λ before. (let s = stand n k before in (s.0, stands_after u v old (a_name n) s.0 s.1)))
      (λ last. (a_name n, for_struct n (q ∙ ap Some last.0)))
      (only n k q)
