-- The vocabulary of a signature that has grown by structs, by constants and by actions, one behind the other.
use Rattle.std.proofs.Common.{◌≡◌, ◌+◌, ◌<◌, ◌≤◌, ◌⊎◌, inl, inr, ⊎_elim, ℕ, List, [], ◌∷◌, ◌++◌, length, map, get_or, refl, sym, ap, ◌∙◌, subst, append-nil, append_assoc, length-append, arith}
use Rattle.std.specs.Prelude.{Option, Some, None, IfSome, option_map, slice_get}
use Rattle.std.specs.List.{All, AllByRecursion, Contains, flat_map}
use Rattle.mcrl2_syntax.proofs.Lists.{all_both}
use Rattle.std.proofs.lemmas.List.Elements.{All-head, All-tail, All-weaker}
use Rattle.std.proofs.lemmas.Option.{none-some, slice_get-get_or}
use Rattle.data_theory.specs.declared.ids.NameId.{NameId}
use Rattle.data_theory.specs.declared.ids.SortId.{SortId}
use Rattle.data_theory.specs.Complete.{IsFunctionWithin}
use Rattle.data_theory.specs.Functions.{declared_function}
use Rattle.data_theory.specs.Structs.{Con, IsConWithin}
use Rattle.data_theory.specs.Signature.{Sig}
use Rattle.data_theory.specs.IdTerms.{sort_under, IsGrown}
use Rattle.data_theory.specs.WholeSignatures.{IsSignature}
use Rattle.data_theory.proofs.IdGrowthLemmas.{growth_after_growth_is_growth}
use Rattle.data_theory.proofs.IdSymbolLemmas.{holds_at}
use Rattle.data_theory.proofs.PlaceLemmas.{contains_read, read_contained}
use Rattle.sort_table.specs.Expressions.{Name}
use Rattle.sort_table.specs.NamedLists.{all_named, first_named}
use Rattle.sort_table.specs.BareSorts.{SortExpression, a_name}
use Rattle.sort_table.specs.BareDeclarations.{Constructor, Declaration, struct}
use Rattle.sort_table.specs.Growth.{with_declared, AllStand}
use Rattle.sort_table.specs.SortMeanings.{Kind, a_struct, kinds_by, kinds_in, actions_by, actions_in, UnderNames, under_names}
use Rattle.sort_table.specs.SignatureVocabularies.{text_under, vocabulary_of}
use Rattle.sort_table.specs.TextFunctions.{TextFunction, Named, mapping, functions_by, functions_in}
use Rattle.sort_table.specs.Vocabularies.{sort_in, EachPair, IsVocabularyOf}
use Rattle.sort_table.specs.EnteredFunctions.{IsFieldOf, IsOptionalId, IsConOf}
use Rattle.sort_table.proofs.Growing.{first_behind, first_of_two, all_behind, stands_after}
use Rattle.sort_table.proofs.GrowingTexts.{flat_behind}
use Rattle.lps_printer.specs.AddedDeclarations.{action_declared}
use Rattle.lps_printer.specs.DeclaredAdditions.{field_declared, constructor_declared, declaration_of}
use Rattle.lps_printer.specs.GrowingByActions.{GrowsByAction}
use Rattle.lps_printer.specs.GrowingByConstants.{GrowsByConstants}
use Rattle.lps_printer.specs.GrowingByAdditions.{Struct, GrowsByStruct, GrowsByAdditions, nothing_added, then_constants, then_struct, then_action, added_structs, added_constants}
use Rattle.lps_printer.specs.GrownTexts.{mapping_declared}
use Rattle.lps_printer.specs.SignatureNames.{text_names_under}
use Rattle.lps_printer.specs.WrittenProcesses.{TextNames, sort_written}
use Rattle.lps_printer.proofs.ActionVocabularies.{action_within, action_has_vocabulary}
use Rattle.lps_printer.proofs.ConstantVocabularies.{constants_have_vocabulary}
use Rattle.lps_printer.proofs.GrowingByAdditions.{still_stands}
use Rattle.lps_printer.proofs.GrownIdentifiers.{constant_there}
use Rattle.lps_printer.proofs.GrownSorts.{text_still, read_still}
use Rattle.lps_printer.proofs.GrownStructs.{name_within, it_is_grown, none_yet, sorts_are}
use Rattle.lps_printer.proofs.TwoOfLists.{all_from}
use Rattle.lps_printer.proofs.StructVocabularies.{first_none, one_named, named_first, struct_has_vocabulary, struct_stands}

-- ---- lists of declarations
pub flat_ones : {A B C : Type 0} (by : B → List C) (d : A → B) (f : A → C) → ((a : A) → by (d a) ≡ f a ∷ []) → (xs : List A) → flat_map by (map d xs) ≡ map f xs
flat_ones by d f one [] = refl
flat_ones by d f one (x ∷ xs) = λ i. one x i ++ flat_ones by d f one xs i

pub flat_none : {A B C : Type 0} (by : B → List C) (d : A → B) → ((a : A) → by (d a) ≡ []) → (xs : List A) → flat_map by (map d xs) ≡ []
flat_none by d none [] = refl
flat_none by d none (x ∷ xs) = λ i. none x i ++ flat_none by d none xs i

map_within : {A B : Type 0} (P : A → Type 0) (f k : A → B) → ((x : A) → P x → f x ≡ k x) → (xs : List A) → All P xs → map f xs ≡ map k xs
map_within P f k same [] all = refl
map_within P f k same (x ∷ xs) all =
    let p = same x (All-head P x xs all) in
    let q = map_within P f k same xs (All-tail P x xs all) in
    λ i. p i ∷ q i

-- ---- the names and sorts of constants and of structs are there
pub constant_within : (g h : Sig) → IsSignature h → (w : GrowsByConstants g h) → (c : NameId × SortId) → Contains w.constants c → (c.0.0 < length h.texts) × (c.1.0 < length h.sorts)
constant_within g h after w c k =
    let at = read_contained w.constants c k in
    let is = holds_at (IsFunctionWithin (length h.texts) (length h.sorts) (length h.functions)) h.functions (length g.functions + at.0) (declared_function c.0 [] c.1) after.complete.within.functions_within (constant_there g h w at.0 c at.1) in
    (is.named, is.gives)

-- what is written for them
module _ (g h : Sig) (stands : IsSignature g) (grown : IsGrown g h) (x : Name) where
  abbrev n : TextNames
  n = text_names_under h x

  id_at : (i : NameId) → i.0 < length g.texts → slice_get g.texts i.0 ≡ Some (text_under h i)
  id_at i l = slice_get-get_or g.texts i.0 [] l ∙ ap Some (sym (text_still g h stands grown x i l))

  option_at : (o : Option NameId) → IfSome o (λ (i : NameId). i.0 < length g.texts) → IsOptionalId g (option_map (text_under h) o) o
  option_at None l = tt
  option_at (Some i) l = id_at i l

  fields_at : (fs : List (Option NameId × SortId)) → All (λ (f : Option NameId × SortId). (f.1.0 < length g.sorts) × IfSome f.0 (λ (i : NameId). i.0 < length g.texts)) fs → EachPair (IsFieldOf g) (map (field_declared h n) fs) fs
  fields_at [] all = tt
  fields_at (f ∷ fs) all =
      let P = λ (e : Option NameId × SortId). (e.1.0 < length g.sorts) × IfSome e.0 (λ (i : NameId). i.0 < length g.texts) in
      let here = All-head P f fs all in
      ((option_at f.0 here.1, record { within = here.0; meant = read_still g h stands grown x f.1 here.0 }), fields_at fs (All-tail P f fs all))

  pub constructors_at : (cs : List Con) → All (IsConWithin (length g.texts) (length g.sorts)) cs → EachPair (IsConOf g) (map (constructor_declared h n) cs) cs
  constructors_at [] all = tt
  constructors_at (c ∷ cs) all =
      let here = All-head (IsConWithin (length g.texts) (length g.sorts)) c cs all in
      (record { name = id_at c.name here.named; fields = fields_at c.fields here.over; recogniser = option_at c.test here.recognised }, constructors_at cs (All-tail (IsConWithin (length g.texts) (length g.sorts)) c cs all))

-- its constructors stand in a signature into which a struct has come
pub struct_within : (g h : Sig) → IsSignature g → (w : GrowsByStruct g h) → All (IsConWithin (length h.texts) (length h.sorts)) w.declared.1
struct_within g h stands w =
    let texts : length w.named.texts ≡ length h.texts = ap (λ (y : Sig). length y.texts) (sym w.is) in
    let sorts : length w.named.sorts + 1 ≡ length h.sorts =
    ap (λ ss. length ss + 1) w.by_names.sorts ∙ sym (ap length (sorts_are g h stands w) ∙ length-append g.sorts _) in
    subst (λ m. All (IsConWithin m (length h.sorts)) w.declared.1) texts (subst (λ m. All (IsConWithin (length w.named.texts) m) w.declared.1) sorts w.within)

-- ---- in the order of growth
module _ (g : Sig) (stands : IsSignature g) (h : Sig) (x : Name) where
  abbrev m : TextNames
  m = text_names_under h x

  abbrev pub in_growth : {k : Sig} → GrowsByAdditions g k → List Declaration
  in_growth nothing_added = []
  in_growth (then_constants before by after) = in_growth before ++ map (mapping_declared h m) by.constants
  in_growth (then_struct before by after) = in_growth before ++ declaration_of h m by.declared ∷ []
  in_growth (then_action before by after) = in_growth before ++ action_declared h by.name ∷ []

  -- one step each
  module _ (D : List Declaration) (j k : Sig) (before : IsSignature j) (after : IsSignature k) (grown : IsGrown k h) (is : IsVocabularyOf (under_names D) (vocabulary_of j)) (stand : AllStand (under_names D)) where
    abbrev u : UnderNames
    u = under_names D

    abbrev HasBoth : List Declaration → Type 0
    HasBoth E = IsVocabularyOf (under_names E) (vocabulary_of k) × AllStand (under_names E)

    with_constants : (w : GrowsByConstants j k) → HasBoth (D ++ map (mapping_declared h m) w.constants)
    with_constants w = subst (λ v. IsVocabularyOf v (vocabulary_of k) × AllStand v) (sym same) (have, all_stand)
      where
        to : NameId × SortId → SortExpression
        to c = sort_written m (sort_under h c.1)

        written : NameId × SortId → Named
        written c = (text_under k c.0, record { arguments = []; result = to c; role = mapping })

        there : (c : NameId × SortId) → Contains w.constants c → (c.0.0 < length k.texts) × (c.1.0 < length k.sorts)
        there c i = constant_within j k after w c i

        all_there : All (λ (c : NameId × SortId). (c.0.0 < length k.texts) × (c.1.0 < length k.sorts)) w.constants
        all_there = λ i d l. there (get_or w.constants i d) (contains_read w.constants i (get_or w.constants i d) (slice_get-get_or w.constants i d l))

        reads : All (λ (c : NameId × SortId). sort_in (vocabulary_of k).sort_names (to c) ≡ Some (sort_under k c.1)) w.constants
        reads = All-weaker (λ (c : NameId × SortId). (c.0.0 < length k.texts) × (c.1.0 < length k.sorts)) (λ (c : NameId × SortId). sort_in (vocabulary_of k).sort_names (to c) ≡ Some (sort_under k c.1)) (λ c l. read_still k h after grown x c.1 l.1) w.constants all_there

        more : Name → List TextFunction
        more f = all_named f (map written w.constants)

        have : IsVocabularyOf (with_declared u u.sort more (λ a. [])) (vocabulary_of k)
        have = constants_have_vocabulary j k before after w u to reads is stand

        all_stand : AllStand (with_declared u u.sort more (λ a. []))
        all_stand y z q = let s = stand y z q in (s.0, stands_after u (with_declared u u.sort more (λ a. [])) (λ l r e. e) (a_name y) s.0 s.1)

        M : List Declaration
        M = map (mapping_declared h m) w.constants

        functions : functions_in M ≡ map written w.constants
        functions =
            flat_ones functions_by (mapping_declared h m) (λ (c : NameId × SortId). (text_under h c.0, record { arguments = []; result = to c; role = mapping })) (λ c. refl) w.constants
            ∙ map_within (λ (c : NameId × SortId). (c.0.0 < length k.texts) × (c.1.0 < length k.sorts)) (λ (c : NameId × SortId). (text_under h c.0, record { arguments = []; result = to c; role = mapping })) written (λ c l. (let e = text_still k h after grown x c.0 l.0 in λ i. (e i, record { arguments = []; result = to c; role = mapping }))) w.constants all_there

        same : under_names (D ++ M) ≡ with_declared u u.sort more (λ a. [])
        same =
            let kinds : kinds_in (D ++ M) ≡ kinds_in D = flat_behind kinds_by D M ∙ ap (λ ks. kinds_in D ++ ks) (flat_none kinds_by (mapping_declared h m) (λ c. refl) w.constants) ∙ append-nil (kinds_in D) in
            let acts : actions_in (D ++ M) ≡ actions_in D = flat_behind actions_by D M ∙ ap (λ ks. actions_in D ++ ks) (flat_none actions_by (mapping_declared h m) (λ c. refl) w.constants) ∙ append-nil (actions_in D) in
            let none : (a : Name) → all_named a (actions_in (D ++ M)) ≡ all_named a (actions_in D) ++ [] = λ a. ap (all_named a) acts ∙ sym (append-nil (all_named a (actions_in D))) in
            let each : (f : Name) → all_named f (functions_in (D ++ M)) ≡ all_named f (functions_in D) ++ more f =
            λ f. ap (all_named f) (flat_behind functions_by D M) ∙ all_behind f (functions_in D) (functions_in M) ∙ ap (λ fs. all_named f (functions_in D) ++ all_named f fs) functions in
            λ i. record { sort = λ n. first_named n (kinds i); functions = λ f. each f i; actions = λ a. none a i }

    with_struct : (w : GrowsByStruct j k) → HasBoth (D ++ declaration_of h m w.declared ∷ [])
    with_struct w = subst (λ v. IsVocabularyOf v (vocabulary_of k) × AllStand v) (sym same) (
      struct_has_vocabulary j k before after w cs are u is stand sort old now only,
      struct_stands j k before after w cs are u is stand sort old now only,
    )
      where
        cs : List Constructor
        cs = map (constructor_declared h m) w.declared.1

        are : EachPair (IsConOf k) cs w.declared.1
        are = constructors_at k h after grown x w.declared.1 (struct_within j k before w)

        t : Name
        t = text_under k w.declared.0

        sort : Name → Option Kind
        sort y = first_named y (kinds_in D ++ (t, a_struct) ∷ [])

        old : (n : Name) (z : Kind) → u.sort n ≡ Some z → sort n ≡ Some z
        old y z q = first_behind y (kinds_in D) ((t, a_struct) ∷ []) z q

        not_yet : (o : Option Kind) → first_named t (kinds_in D) ≡ o → first_named t (kinds_in D) ≡ None
        not_yet None q = q
        not_yet (Some z) q = let s = (is.sorts.named t).1 (stand t z q) in absurd (none-some s.0 (sym (none_yet j k before w) ∙ s.1))

        now : sort t ≡ Some a_struct
        now = first_none t (kinds_in D) ((t, a_struct) ∷ []) (not_yet (first_named t (kinds_in D)) refl) ∙ named_first t a_struct

        only : (n : Name) (z : Kind) → sort n ≡ Some z → (u.sort n ≡ Some z) ⊎ ((z ≡ a_struct) × (n ≡ t))
        only y z q = ⊎_elim (λ before_. inl before_) (λ last. inr (one_named y t a_struct z last)) (first_of_two y (kinds_in D) ((t, a_struct) ∷ []) z q)

        name : text_under h w.declared.0 ≡ t
        name = text_still k h after grown x w.declared.0 (subst (λ ts. w.declared.0.0 < length ts) (sym (ap (λ (y : Sig). y.texts) w.is)) (name_within j k before w))

        S : List Declaration
        S = declaration_of h m w.declared ∷ []

        same : under_names (D ++ S) ≡ with_declared u sort (λ f. all_named f (functions_by (struct t cs))) (λ a. [])
        same =
            let kinds : kinds_in (D ++ S) ≡ kinds_in D ++ (t, a_struct) ∷ [] = flat_behind kinds_by D S ∙ (λ i. kinds_in D ++ (name i, a_struct) ∷ []) in
            let acts : actions_in (D ++ S) ≡ actions_in D = flat_behind actions_by D S ∙ append-nil (actions_in D) in
            let none : (a : Name) → all_named a (actions_in (D ++ S)) ≡ all_named a (actions_in D) ++ [] = λ a. ap (all_named a) acts ∙ sym (append-nil (all_named a (actions_in D))) in
            let each : (f : Name) → all_named f (functions_in (D ++ S)) ≡ all_named f (functions_in D) ++ all_named f (functions_by (struct t cs)) =
            λ f. ap (all_named f) (flat_behind functions_by D S) ∙ all_behind f (functions_in D) (functions_in S)
            ∙ ap (λ fs. all_named f (functions_in D) ++ all_named f fs) (append-nil (functions_by (declaration_of h m w.declared)) ∙ ap (λ y. functions_by (struct y cs)) name) in
            λ i. record { sort = λ n. first_named n (kinds i); functions = λ f. each f i; actions = λ a. none a i }

    with_action : (w : GrowsByAction j k) → HasBoth (D ++ action_declared h w.name ∷ [])
    with_action w = subst (λ v. IsVocabularyOf v (vocabulary_of k) × AllStand v) (sym same) (have, all_stand)
      where
        t : Name
        t = text_under k w.name

        acts : Name → List (List SortExpression)
        acts a = all_named a ((t, []) ∷ [])

        have : IsVocabularyOf (with_declared u u.sort (λ f. []) acts) (vocabulary_of k)
        have = action_has_vocabulary j k before after w u is stand

        all_stand : AllStand (with_declared u u.sort (λ f. []) acts)
        all_stand y z q = let s = stand y z q in (s.0, stands_after u (with_declared u u.sort (λ f. []) acts) (λ l r e. e) (a_name y) s.0 s.1)

        name : text_under h w.name ≡ t
        name = text_still k h after grown x w.name (action_within j k after w)

        A : List Declaration
        A = action_declared h w.name ∷ []

        same : under_names (D ++ A) ≡ with_declared u u.sort (λ f. []) acts
        same =
            let kinds : kinds_in (D ++ A) ≡ kinds_in D = flat_behind kinds_by D A ∙ append-nil (kinds_in D) in
            let none : (f : Name) → all_named f (functions_in (D ++ A)) ≡ all_named f (functions_in D) ++ [] =
            λ f. ap (all_named f) (flat_behind functions_by D A) ∙ all_behind f (functions_in D) (functions_in A) in
            let each : (a : Name) → all_named a (actions_in (D ++ A)) ≡ all_named a (actions_in D) ++ acts a =
            λ a. ap (all_named a) (flat_behind actions_by D A) ∙ all_behind a (actions_in D) (actions_in A) ∙ ap (λ (y : Name). all_named a (actions_in D) ++ all_named a ((y, []) ∷ [])) name in
            λ i. record { sort = λ n. first_named n (kinds i); functions = λ f. none f i; actions = λ a. each a i }

  -- any number of them
  pub additions_have_vocabulary : (D : List Declaration) → IsVocabularyOf (under_names D) (vocabulary_of g) → AllStand (under_names D) → {k : Sig} (w : GrowsByAdditions g k) → IsGrown k h
      → IsVocabularyOf (under_names (D ++ in_growth w)) (vocabulary_of k) × AllStand (under_names (D ++ in_growth w))
  additions_have_vocabulary D is stand nothing_added grown = subst (λ E. IsVocabularyOf (under_names E) (vocabulary_of g) × AllStand (under_names E)) (sym (append-nil D)) (is, stand)
  additions_have_vocabulary D is stand (then_constants {h = j} {k = k} before by after) grown =
      let rest = additions_have_vocabulary D is stand before (growth_after_growth_is_growth j k h by.grown grown) in
      subst (λ E. IsVocabularyOf (under_names E) (vocabulary_of k) × AllStand (under_names E)) (append_assoc D (in_growth before) (map (mapping_declared h m) by.constants))
      (with_constants (D ++ in_growth before) j k (still_stands g stands before) after grown rest.0 rest.1 by)
  additions_have_vocabulary D is stand (then_struct {h = j} {k = k} before by after) grown =
      let its = still_stands g stands before in
      let rest = additions_have_vocabulary D is stand before (growth_after_growth_is_growth j k h (it_is_grown j k its by) grown) in
      subst (λ E. IsVocabularyOf (under_names E) (vocabulary_of k) × AllStand (under_names E)) (append_assoc D (in_growth before) (declaration_of h m by.declared ∷ []))
      (with_struct (D ++ in_growth before) j k its after grown rest.0 rest.1 by)
  additions_have_vocabulary D is stand (then_action {h = j} {k = k} before by after) grown =
      let rest = additions_have_vocabulary D is stand before (growth_after_growth_is_growth j k h by.grown grown) in
      subst (λ E. IsVocabularyOf (under_names E) (vocabulary_of k) × AllStand (under_names E)) (append_assoc D (in_growth before) (action_declared h by.name ∷ []))
      (with_action (D ++ in_growth before) j k (still_stands g stands before) after grown rest.0 rest.1 by)

-- ---- the sorts of what is added
abbrev pub HasSortsBelow : ℕ → Con → Type 0
HasSortsBelow m c = All (λ (f : Option NameId × SortId). f.1.0 < m) c.fields

below_too : (a b : ℕ) → a ≤ b → (s : Struct) → All (HasSortsBelow a) s.1 → All (HasSortsBelow b) s.1
below_too a b le s all = All-weaker (HasSortsBelow a) (HasSortsBelow b) (λ c fs. All-weaker (λ (f : Option NameId × SortId). f.1.0 < a) (λ (f : Option NameId × SortId). f.1.0 < b) (λ f l. omega (arith, l, le)) c.fields fs) s.1 all

module _ (g : Sig) (stands : IsSignature g) (h : Sig) where
  longer_sorts : (k : Sig) → IsGrown k h → length k.sorts ≤ length h.sorts
  longer_sorts k grown = let long = ap length grown.sorts ∙ length-append k.sorts grown.new_sorts in omega (arith, long)

  pub structs_below : {k : Sig} (w : GrowsByAdditions g k) → IsGrown k h → AllByRecursion (λ (s : Struct). All (HasSortsBelow (length h.sorts)) s.1) (added_structs w)
  structs_below nothing_added grown = tt
  structs_below (then_constants {h = j} {k = k} before by after) grown = structs_below before (growth_after_growth_is_growth j k h by.grown grown)
  structs_below (then_struct {h = j} {k = k} before by after) grown =
      let its = still_stands g stands before in
      all_both (λ (s : Struct). All (HasSortsBelow (length h.sorts)) s.1) (added_structs before) (by.declared ∷ []) (structs_below before (growth_after_growth_is_growth j k h (it_is_grown j k its by) grown)) (
        below_too (length k.sorts) (length h.sorts) (longer_sorts k grown) by.declared
            (All-weaker (IsConWithin (length k.texts) (length k.sorts)) (HasSortsBelow (length k.sorts))
            (λ c is. All-weaker (λ (f : Option NameId × SortId). (f.1.0 < length k.sorts) × IfSome f.0 (λ (i : NameId). i.0 < length k.texts)) (λ (f : Option NameId × SortId). f.1.0 < length k.sorts) (λ f l. l.0) c.fields is.over) by.declared.1 (struct_within j k its by)),
        tt,
      )
  structs_below (then_action {h = j} {k = k} before by after) grown = structs_below before (growth_after_growth_is_growth j k h by.grown grown)

  pub constants_below : {k : Sig} (w : GrowsByAdditions g k) → IsGrown k h → AllByRecursion (λ (c : NameId × SortId). c.1.0 < length h.sorts) (added_constants w)
  constants_below nothing_added grown = tt
  constants_below (then_constants {h = j} {k = k} before by after) grown =
      let long = longer_sorts k grown in
      all_both (λ (c : NameId × SortId). c.1.0 < length h.sorts) (added_constants before) by.constants (constants_below before (growth_after_growth_is_growth j k h by.grown grown))
      (all_from (λ (c : NameId × SortId). c.1.0 < length h.sorts) by.constants (λ c i. (let l = (constant_within j k after by c i).1 in omega (arith, l, long))))
  constants_below (then_struct {h = j} {k = k} before by after) grown = constants_below before (growth_after_growth_is_growth j k h (it_is_grown j k (still_stands g stands before) by) grown)
  constants_below (then_action {h = j} {k = k} before by after) grown = constants_below before (growth_after_growth_is_growth j k h by.grown grown)
