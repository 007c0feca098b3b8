-- What a text of words declares is named by identifiers.
use Rattle.std.proofs.Common.{◌≡◌, ℕ, suc, Bool, true, false, cond, bytes_eq, List, [], ◌∷◌, ◌++◌, map, refl, sym, ap, subst, ◌∙◌, ⊎_elim, Option, Some, None}
use Rattle.std.specs.Prelude.{slice_get, Contains}
use Rattle.std.specs.List.{All, AllByRecursion, flat_map}
use Rattle.std.proofs.lemmas.Grind.{flat_map-append}
use Rattle.std.proofs.lemmas.List.Elements.{All-nil, All-cons}
use Rattle.std.proofs.lemmas.Slice.Eq.{bytes_eq-Decides}
use Rattle.data_theory.specs.declared.ids.FunId.{FunId}
use Rattle.data_theory.specs.Signature.{Sig}
use Rattle.mcrl2_syntax.specs.Words.{PlainWord}
use Rattle.mcrl2_syntax.specs.Declarations as trees
use Rattle.mcrl2_syntax.specs.Declarations.{PlainField, PlainConstructor, PlainDecl, PlainSection, PlainSpec}
use Rattle.mcrl2_syntax.specs.TreeWords.{AreNames, IsOptionalName, IsFieldOfWords, IsConstructorOfWords, IsDeclarationOfWords, IsSectionOfWords}
use Rattle.mcrl2_syntax.proofs.Lists.{all_both}
use Rattle.bisim_laws.proofs.Firing.{contains_first, contains_later, contains_none, contains_cases}
use Rattle.lps_core.proofs.Members.{all_from, map_contains}
use Rattle.sort_table.specs.Expressions.{Name}
use Rattle.sort_table.specs.NamedLists.{all_named, first_named}
use Rattle.sort_table.specs.BareSorts.{SortExpression, truth_values, a_name, bare_sort}
use Rattle.sort_table.specs.BareProcesses.{bare_names}
use Rattle.sort_table.specs.BareDeclarations.{Constructor, Declaration, bare_word, bare_field, bare_constructor, bare_declaration, bare_section, bare_sections, declarations_in}
use Rattle.sort_table.specs.SignatureVocabularies.{function_name_of, function_names_from, sort_name_under, action_under, vocabulary_of}
use Rattle.sort_table.specs.SortMeanings as texts
use Rattle.sort_table.specs.SortMeanings.{kinds_by, kinds_in, actions_by, actions_in, under_names, StandsFor, for_truth_values, for_positives, for_naturals, for_integers, for_lists, for_plain, for_struct, for_alias}
use Rattle.sort_table.specs.TextFunctions.{TextRole, Named, declared, where_named, projections_from, projection, recogniser, struct_constructor, declared_constructor, mapping, fields_of, functions_by, functions_in}
use Rattle.sort_table.specs.Vocabularies.{EachPair, IsFunction, AreSortsOf}
use Rattle.lps_printer.specs.DataLayout.{IsIdentifier}
use Rattle.lin_driver.specs.NamedSignatures.{TextsDeclareIdentifiers}
use Rattle.lin_driver.proofs.Identifiers.{identifier_named}

-- ---- rows under names
abbrev pub AreRows : {X : Type 0} → List (Name × X) → Type 0
AreRows {X} rs = AllByRecursion (λ (r : Name × X). IsIdentifier r.0) rs

rows_of : {X : Type 0} (x : Name → X) (ws : List PlainWord) → AreNames ws → AreRows (map (λ (n : Name). (n, x n)) (bare_names ws))
rows_of x [] all = tt
rows_of x (w ∷ ws) all = (identifier_named w.bytes all.0, rows_of x ws all.1)

-- ---- functions
where_rows : (e to : SortExpression) (r : TextRole) (o : Option PlainWord) → IsOptionalName o → AreRows (where_named e to r (bare_word o))
where_rows e to r None is = tt
where_rows e to r (Some w) is = (identifier_named w.bytes is, tt)

projection_rows : (e : SortExpression) (c : Constructor) (i : ℕ) (fs : List PlainField) → AllByRecursion IsFieldOfWords fs → AreRows (projections_from e c i (map bare_field fs))
projection_rows e c i [] all = tt
projection_rows e c i (f ∷ fs) all =
    all_both (λ (r : Named). IsIdentifier r.0) (where_named e (bare_sort f.sort) (projection c.name (fields_of c) i) (bare_word f.name)) (projections_from e c (suc i) (map bare_field fs))
    (where_rows e (bare_sort f.sort) (projection c.name (fields_of c) i) f.name all.0.0) (projection_rows e c (suc i) fs all.1)

constructor_rows : (e : SortExpression) (cs : List PlainConstructor) → AllByRecursion IsConstructorOfWords cs → AreRows (map (λ (c : Constructor). declared (fields_of c) e struct_constructor c.name) (map bare_constructor cs))
constructor_rows e [] all = tt
constructor_rows e (c ∷ cs) all = (identifier_named c.name.bytes all.0.0, constructor_rows e cs all.1)

all_projections : (e : SortExpression) (cs : List PlainConstructor) → AllByRecursion IsConstructorOfWords cs → AreRows (flat_map (λ (c : Constructor). projections_from e c 0 c.fields) (map bare_constructor cs))
all_projections e [] all = tt
all_projections e (c ∷ cs) all =
    all_both (λ (r : Named). IsIdentifier r.0) (projections_from e (bare_constructor c) 0 (map bare_field c.fields)) (flat_map (λ (c : Constructor). projections_from e c 0 c.fields) (map bare_constructor cs))
    (projection_rows e (bare_constructor c) 0 c.fields all.0.1) (all_projections e cs all.1)

all_recognisers : (e : SortExpression) (cs : List PlainConstructor) → AllByRecursion IsConstructorOfWords cs → AreRows (flat_map (λ (c : Constructor). where_named e truth_values (recogniser c.name (fields_of c)) c.recogniser) (map bare_constructor cs))
all_recognisers e [] all = tt
all_recognisers e (c ∷ cs) all =
    all_both (λ (r : Named). IsIdentifier r.0) (where_named e truth_values (recogniser c.name.bytes (fields_of (bare_constructor c))) (bare_word c.recogniser)) (flat_map (λ (c : Constructor). where_named e truth_values (recogniser c.name (fields_of c)) c.recogniser) (map bare_constructor cs))
    (where_rows e truth_values (recogniser c.name.bytes (fields_of (bare_constructor c))) c.recogniser all.0.2) (all_recognisers e cs all.1)

pub functions_named : (d : PlainDecl) → IsDeclarationOfWords d → AreRows (functions_by (bare_declaration d))
functions_named (trees.sorts_decl span ns) is = tt
functions_named (trees.alias_decl span n s) is = tt
functions_named (trees.struct_decl span n cs) is =
    let e = a_name n.bytes in
    all_both (λ (r : Named). IsIdentifier r.0) (map (λ (c : Constructor). declared (fields_of c) e struct_constructor c.name) (map bare_constructor cs))
    (flat_map (λ (c : Constructor). projections_from e c 0 c.fields) (map bare_constructor cs) ++ flat_map (λ (c : Constructor). where_named e truth_values (recogniser c.name (fields_of c)) c.recogniser) (map bare_constructor cs))
    (constructor_rows e cs is.1)
    (all_both (λ (r : Named). IsIdentifier r.0) (flat_map (λ (c : Constructor). projections_from e c 0 c.fields) (map bare_constructor cs)) (flat_map (λ (c : Constructor). where_named e truth_values (recogniser c.name (fields_of c)) c.recogniser) (map bare_constructor cs)) (all_projections e cs is.1) (all_recognisers e cs is.1))
functions_named (trees.cons_decl span ns ss to) is = rows_of (λ n. record { arguments = map bare_sort ss; result = bare_sort to; role = declared_constructor }) ns is.0
functions_named (trees.map_decl span ns ss to) is = rows_of (λ n. record { arguments = map bare_sort ss; result = bare_sort to; role = mapping }) ns is.0
functions_named (trees.vars_decl span gs) is = tt
functions_named (trees.equation_decl span c l r) is = tt
functions_named (trees.act_decl span ns ss) is = tt
functions_named (trees.proc_decl span p gs body) is = tt
functions_named (trees.init_decl span body) is = tt

-- ---- sorts and actions
kinds_named : (d : PlainDecl) → IsDeclarationOfWords d → AreRows (kinds_by (bare_declaration d))
kinds_named (trees.sorts_decl span ns) is = rows_of (λ n. texts.alone) ns is
kinds_named (trees.alias_decl span n s) is = (identifier_named n.bytes is.0, tt)
kinds_named (trees.struct_decl span n cs) is = (identifier_named n.bytes is.0, tt)
kinds_named (trees.cons_decl span ns ss to) is = tt
kinds_named (trees.map_decl span ns ss to) is = tt
kinds_named (trees.vars_decl span gs) is = tt
kinds_named (trees.equation_decl span c l r) is = tt
kinds_named (trees.act_decl span ns ss) is = tt
kinds_named (trees.proc_decl span p gs body) is = tt
kinds_named (trees.init_decl span body) is = tt

actions_named : (d : PlainDecl) → IsDeclarationOfWords d → AreRows (actions_by (bare_declaration d))
actions_named (trees.sorts_decl span ns) is = tt
actions_named (trees.alias_decl span n s) is = tt
actions_named (trees.struct_decl span n cs) is = tt
actions_named (trees.cons_decl span ns ss to) is = tt
actions_named (trees.map_decl span ns ss to) is = tt
actions_named (trees.vars_decl span gs) is = tt
actions_named (trees.equation_decl span c l r) is = tt
actions_named (trees.act_decl span ns ss) is = rows_of (λ n. map bare_sort ss) ns is.0
actions_named (trees.proc_decl span p gs body) is = tt
actions_named (trees.init_decl span body) is = tt

-- ---- of all declarations
module _ {X : Type 0} (by : Declaration → List (Name × X)) (each : (d : PlainDecl) → IsDeclarationOfWords d → AreRows (by (bare_declaration d))) where
  of_declarations : (ds : List PlainDecl) → AllByRecursion IsDeclarationOfWords ds → AreRows (flat_map by (map bare_declaration ds))
  of_declarations [] all = tt
  of_declarations (d ∷ ds) all = all_both (λ (r : Name × X). IsIdentifier r.0) (by (bare_declaration d)) (flat_map by (map bare_declaration ds)) (each d all.0) (of_declarations ds all.1)

  pub of_sections : (ss : List PlainSection) → AllByRecursion IsSectionOfWords ss → AreRows (flat_map by (declarations_in (map bare_section ss)))
  of_sections [] all = tt
  of_sections (s ∷ ss) all =
      subst (λ rs. AreRows rs) (sym (flat_map-append by (map bare_declaration s.declarations) (declarations_in (map bare_section ss))))
      (all_both (λ (r : Name × X). IsIdentifier r.0) (flat_map by (map bare_declaration s.declarations)) (flat_map by (declarations_in (map bare_section ss))) (of_declarations s.declarations all.0) (of_sections ss all.1))

-- ---- of names that a text declares
-- a name that has rows is one of them
has_rows : {X : Type 0} (n : Name) (rs : List (Name × X)) (x : X) (xs : List X) → AreRows rs → all_named n rs ≡ x ∷ xs → IsIdentifier n
has_rows n [] x xs all e = cc
has_rows n (r ∷ rs) x xs all e = by_test (has_rows n rs x xs all.1) (bytes_eq r.0 n) refl
  where
    by_test : (all_named n rs ≡ x ∷ xs → IsIdentifier n) → (b : Bool) → bytes_eq r.0 n ≡ b → IsIdentifier n
    by_test later true q = subst IsIdentifier ((bytes_eq-Decides r.0 n).0 q) all.0
    by_test later false q = later (sym (ap (λ (c : Bool). cond c (r.1 ∷ all_named n rs) (all_named n rs)) q) ∙ e)

has_first : {X : Type 0} (n : Name) (rs : List (Name × X)) (x : X) → AreRows rs → first_named n rs ≡ Some x → IsIdentifier n
has_first n [] x all e = cc
has_first n (r ∷ rs) x all e = by_test (has_first n rs x all.1) (bytes_eq r.0 n) refl
  where
    by_test : (first_named n rs ≡ Some x → IsIdentifier n) → (b : Bool) → bytes_eq r.0 n ≡ b → IsIdentifier n
    by_test later true q = subst IsIdentifier ((bytes_eq-Decides r.0 n).0 q) all.0
    by_test later false q = later (sym (ap (λ (c : Bool). cond c (Some r.1) (first_named n rs)) q) ∙ e)

-- where each row of the first list under a name has a partner, a name of the second list is one of the first
paired_name : {X Y : Type 0} (Q : X → Y → Type 0) (n : Name) (rs : List (Name × X)) (ys : List Y) (y : Y) → AreRows rs → EachPair Q (all_named n rs) (y ∷ ys) → IsIdentifier n
paired_name {X = X} Q n rs ys y all pairs = by_list (all_named n rs) refl pairs
  where
    by_list : (xs : List X) → all_named n rs ≡ xs → EachPair Q xs (y ∷ ys) → IsIdentifier n
    by_list [] e p = absurd p
    by_list (x ∷ xs) e p = has_rows n rs x xs all e

-- a row is not alone under its name
some_named : {Y : Type 0} (n : Name) (y : Y) (rs : List (Name × Y)) → Contains rs (n, y) → (z : Y) × (zs : List Y) × (all_named n rs ≡ z ∷ zs)
some_named {Y = Y} n y [] i = absurd (contains_none (n, y) i)
some_named {Y = Y} n y (r ∷ rs) i = ⊎_elim
    (λ q. (r.1, all_named n rs, ap (λ (b : Bool). cond b (r.1 ∷ all_named n rs) (all_named n rs)) ((bytes_eq-Decides r.0 n).1 (ap (λ (s : Name × Y). s.0) q))))
    (λ j. by_test (some_named n y rs j) (bytes_eq r.0 n))
    (contains_cases r (n, y) rs i)
  where
    by_test : ((z : Y) × (zs : List Y) × (all_named n rs ≡ z ∷ zs)) → (b : Bool) → (z : Y) × (zs : List Y) × (cond b (r.1 ∷ all_named n rs) (all_named n rs) ≡ z ∷ zs)
    by_test k true = (r.1, all_named n rs, refl)
    by_test k false = k

some_first : {Y : Type 0} (n : Name) (y : Y) (rs : List (Name × Y)) → Contains rs (n, y) → (z : Y) × (first_named n rs ≡ Some z)
some_first {Y = Y} n y [] i = absurd (contains_none (n, y) i)
some_first {Y = Y} n y (r ∷ rs) i = ⊎_elim
    (λ q. (r.1, ap (λ (b : Bool). cond b (Some r.1) (first_named n rs)) ((bytes_eq-Decides r.0 n).1 (ap (λ (s : Name × Y). s.0) q))))
    (λ j. by_test (some_first n y rs j) (bytes_eq r.0 n))
    (contains_cases r (n, y) rs i)
  where
    by_test : ((z : Y) × (first_named n rs ≡ Some z)) → (b : Bool) → (z : Y) × (cond b (Some r.1) (first_named n rs) ≡ Some z)
    by_test k true = (r.1, refl)
    by_test k false = k

pub paired_row : {X Y : Type 0} (Q : X → Y → Type 0) (rs : List (Name × X)) (vs : List (Name × Y)) → AreRows rs → ((n : Name) → EachPair Q (all_named n rs) (all_named n vs)) → (v : Name × Y) → Contains vs v → IsIdentifier v.0
paired_row Q rs vs all pairs v i =
    let s = some_named v.0 v.1 vs i in
    paired_name Q v.0 rs s.1 s.0 all (subst (λ ys. EachPair Q (all_named v.0 rs) ys) s.2 (pairs v.0))

-- ---- of a signature
function_rows : (g : Sig) (k : ℕ) (fs : List FunId) → ((r : Name × ℕ) → Contains (function_names_from g k fs) r → IsIdentifier r.0) → All (λ (f : FunId). IsIdentifier (function_name_of g (slice_get g.functions f.0))) fs
function_rows g k [] h = All-nil (λ (f : FunId). IsIdentifier (function_name_of g (slice_get g.functions f.0)))
function_rows g k (f ∷ fs) h =
    let row : Name × ℕ = (function_name_of g (slice_get g.functions f.0), k) in
    All-cons (λ (f : FunId). IsIdentifier (function_name_of g (slice_get g.functions f.0))) f fs (h row (contains_first row (function_names_from g (suc k) fs))) (function_rows g (suc k) fs (λ r i. h r (contains_later row r (function_names_from g (suc k) fs) i)))

mapped_rows : {A Y : Type 0} (f : A → Name × Y) (xs : List A) → ((r : Name × Y) → Contains (map f xs) r → IsIdentifier r.0) → All (λ (x : A). IsIdentifier (f x).0) xs
mapped_rows f xs h = all_from (λ x. IsIdentifier (f x).0) xs (λ x i. h (f x) (map_contains f xs x i))

sort_named : (ds : List Declaration) (t e : SortExpression) → AreRows (kinds_in ds) → StandsFor (under_names ds) t e → (n : Name) → t ≡ a_name n → IsIdentifier n
sort_named ds _ _ all for_truth_values n same = cc
sort_named ds _ _ all for_positives n same = cc
sort_named ds _ _ all for_naturals n same = cc
sort_named ds _ _ all for_integers n same = cc
sort_named ds _ _ all (for_lists e s k) n same = cc
sort_named ds _ _ all (for_plain m q) n same = let own : m ≡ n = cc in subst IsIdentifier own (has_first m (kinds_in ds) texts.alone all q)
sort_named ds _ _ all (for_struct m q) n same = let own : m ≡ n = cc in subst IsIdentifier own (has_first m (kinds_in ds) texts.a_struct all q)
sort_named ds _ _ all (for_alias m c s q k) n same = let own : m ≡ n = cc in subst IsIdentifier own (has_first m (kinds_in ds) (texts.equal_to c) all q)

pub texts_declare_identifiers : TextsDeclareIdentifiers
texts_declare_identifiers spec g words is =
    let ds = declarations_in (bare_sections spec) in
    let v = vocabulary_of g in
    record {
      functions = function_rows g 0 g.declared (paired_row (IsFunction (under_names ds) v) (functions_in ds) v.function_names (of_sections functions_by functions_named spec.sections words) is.functions.each);
      sorts = mapped_rows (sort_name_under g) g.sort_names (λ r i.
          let f = some_first r.0 r.1 v.sort_names i in
          let s = (is.sorts.named r.0).0 f in
          sort_named ds (a_name r.0) s.0 (of_sections kinds_by kinds_named spec.sections words) s.1 r.0 refl);
      actions = mapped_rows (action_under g) g.actions (paired_row (AreSortsOf v) (actions_in ds) v.actions (of_sections actions_by actions_named spec.sections words) is.actions);
    }
