-- Structs and constants that a text doesn't declare may be added to it.
use Rattle.std.proofs.Common.{◌≡◌, inl, inr, ℕ, suc, List, [], ◌∷◌, ◌++◌, map, All, Option, Some, None, refl, sym, ap, ap₂, ◌∙◌, subst, append-nil}
use Rattle.std.specs.Prelude.{option_to_list}
use Rattle.std.specs.List.{AllByRecursion, Contains, flat_map}
use Rattle.std.proofs.lemmas.List.Elements.{All-contains, All-head, All-tail, Contains-append_right}
use Rattle.data_theory.specs.FirstNames.{first_names}
use Rattle.data_theory.specs.declared.ids.FunId.{FunId}
use Rattle.data_theory.specs.declared.ids.NameId.{NameId}
use Rattle.data_theory.specs.declared.ids.SortId.{SortId}
use Rattle.data_theory.specs.Signature.{Sig, IsTaken}
use Rattle.sort_table.specs.BareProcesses.{Variables}
use Rattle.sort_table.specs.BareDeclarations.{Field, Constructor, Declaration, struct, Section, declarations_in}
use Rattle.sort_table.specs.BareSorts.{SortExpression, truth_values, a_name}
use Rattle.sort_table.specs.Duplicates.{function_item}
use Rattle.sort_table.specs.TextFunctions.{TextRole, struct_constructor, projection, recogniser, Named, declared, where_named, fields_of, projections_from, functions_by}
use Rattle.sort_table.specs.Expressions.{Name}
use Rattle.sort_table.specs.Identifiers.{copied_identifiers}
use Rattle.sort_table.specs.SignatureVocabularies.{text_under}
use Rattle.sort_checker.specs.Parts.{ScopedDeclaration, variables_by, scoped_behind}
use Rattle.sort_checker.specs.Systems.{equation_under, equations_in}
use Rattle.lps_printer.specs.WrittenProcesses.{TextNames}
use Rattle.lps_printer.specs.AddedDeclarations.{name_at, added_functions, constants_among, empty_list_declared, action_declared, added_declared}
use Rattle.lps_printer.specs.DeclaredAdditions.{constructor_declared, declaration_of}
use Rattle.lps_printer.specs.GrowingByAdditions.{Struct, added_structs, added_constants, added_actions}
use Rattle.lps_printer.specs.CopiedParts.{data_by, data_in}
use Rattle.lps_printer.specs.GrownTexts.{mapping_declared}
use Rattle.lps_printer.specs.SignatureNames.{text_names_under}
use Rattle.lps_printer.proofs.CopiedParts.{flat_append, under}
use Rattle.lps_printer.proofs.ApartAdditions.{item_names, names_apart}
use Rattle.lps_printer.proofs.DeclaredAdditions.{what_is_added_is_printed}
use Rattle.lps_printer.proofs.TextItems.{name_of}
use Rattle.lps_printer.proofs.TwoOfLists.{all_weaker, all_unmapped}
use Rattle.lps_core.proofs.Members.{map_contains}
use Rattle.term_pool.proofs.DeclaredConstants.{grown_itself}
use Rattle.lin_driver.specs.Headline.{IsAddition, names_of_constructor, names_of_addition, IsOfAnEmptyList}
use Rattle.lin_driver.specs.Additions.{AreTerminate, AdditionsMayBeAdded}
use Rattle.lin_driver.specs.declared.ending.Ending.{Ending}
use Rattle.lin_driver.specs.declared.ending.Ending.TheVariants.{End, Terminate}

abbrev Constant : Type 0
Constant = NameId × SortId

module _ {A : Type 0} (P : A → Type 0) where
  all_both : (xs ys : List A) → AllByRecursion P xs → AllByRecursion P ys → AllByRecursion P (xs ++ ys)
  all_both [] ys h k = k
  all_both (x ∷ xs) ys h k = (h.0, all_both xs ys h.1 k)

  all_front : (xs ys : List A) → AllByRecursion P (xs ++ ys) → AllByRecursion P xs
  all_front [] ys h = tt
  all_front (x ∷ xs) ys h = (h.0, all_front xs ys h.1)

  all_back : (xs ys : List A) → AllByRecursion P (xs ++ ys) → AllByRecursion P ys
  all_back [] ys h = h
  all_back (x ∷ xs) ys h = all_back xs ys h.1

-- ---- equations, whatever variables are in scope
module _ (names : List Name) where
  abbrev GivesEmptyLists : Declaration → Type 0
  GivesEmptyLists d = (xs : Variables) → AllByRecursion (IsOfAnEmptyList names) (equation_under xs d)

  of_declarations : (xs : Variables) (ds : List Declaration) → AllByRecursion GivesEmptyLists ds → AllByRecursion (IsOfAnEmptyList names) (flat_map under (map (λ (d : Declaration). record { variables = xs; declaration = d }) ds))
  of_declarations xs [] all = tt
  of_declarations xs (d ∷ ds) all =
      all_both (IsOfAnEmptyList names) (equation_under xs d) (flat_map under (map (λ (e : Declaration). record { variables = xs; declaration = e }) ds)) (all.0 xs) (of_declarations xs ds all.1)

  of_sections : (xs : Variables) (ss : List Section) → AllByRecursion GivesEmptyLists (declarations_in ss) → AllByRecursion (IsOfAnEmptyList names) (flat_map under (scoped_behind xs ss))
  of_sections xs [] all = tt
  of_sections xs (s ∷ ss) all =
      let here : List ScopedDeclaration = map (λ (d : Declaration). record { variables = xs; declaration = d }) s.declarations in
      let vs = flat_map variables_by s.declarations in
      subst (AllByRecursion (IsOfAnEmptyList names)) (sym (flat_append under here (scoped_behind vs ss)))
      (all_both (IsOfAnEmptyList names) (flat_map under here) (flat_map under (scoped_behind vs ss)) (of_declarations xs s.declarations (all_front GivesEmptyLists s.declarations (declarations_in ss) all)) (of_sections vs ss (all_back GivesEmptyLists s.declarations (declarations_in ss) all)))

-- ---- the names of a struct
module _ (P : Name → Type 0) (n : Name) where
  abbrev HasName : Named → Type 0
  HasName f = P f.0

  of_option : (e : SortExpression) (r : TextRole) (o : Option Name) → AllByRecursion HasName (where_named (a_name n) e r o) → AllByRecursion P (option_to_list o)
  of_option e r None all = tt
  of_option e r (Some t) all = (all.0, tt)

  of_fields : (c : Constructor) (k : ℕ) (fs : List Field) → AllByRecursion HasName (projections_from (a_name n) c k fs) → AllByRecursion P (flat_map (λ (f : Field). option_to_list f.name) fs)
  of_fields c k [] all = tt
  of_fields c k (f ∷ fs) all =
      let one = where_named (a_name n) f.sort (projection c.name (fields_of c) k) f.name in
      let rest = projections_from (a_name n) c (suc k) fs in
      all_both P (option_to_list f.name) (flat_map (λ (e : Field). option_to_list e.name) fs) (of_option f.sort (projection c.name (fields_of c) k) f.name (all_front HasName one rest all)) (of_fields c (suc k) fs (all_back HasName one rest all))

  abbrev made : Constructor → Named
  made c = declared (fields_of c) (a_name n) struct_constructor c.name

  abbrev shown : Constructor → List Named
  shown c = projections_from (a_name n) c 0 c.fields

  abbrev told : Constructor → List Named
  told c = where_named (a_name n) truth_values (recogniser c.name (fields_of c)) c.recogniser

  of_constructors : (cs : List Constructor) → AllByRecursion HasName (map made cs) → AllByRecursion HasName (flat_map shown cs) → AllByRecursion HasName (flat_map told cs) → AllByRecursion P (flat_map names_of_constructor cs)
  of_constructors [] a b c = tt
  of_constructors (d ∷ cs) a b c =
      all_both P (names_of_constructor d) (flat_map names_of_constructor cs)
      (a.0, all_both P (flat_map (λ (f : Field). option_to_list f.name) d.fields) (option_to_list d.recogniser) (of_fields d 0 d.fields (all_front HasName (shown d) (flat_map shown cs) b)) (of_option truth_values (recogniser d.name (fields_of d)) d.recogniser (all_front HasName (told d) (flat_map told cs) c)))
      (of_constructors cs a.1 (all_back HasName (shown d) (flat_map shown cs) b) (all_back HasName (told d) (flat_map told cs) c))

  of_struct : (cs : List Constructor) → AllByRecursion P (item_names (struct n cs)) → AllByRecursion P (names_of_addition (struct n cs))
  of_struct cs all =
      let fs = functions_by (struct n cs) in
      let names : AllByRecursion HasName fs = all_unmapped (λ y. P (name_of y)) function_item fs (all_unmapped P name_of (map function_item fs) all.1) in
      let rest = all_back HasName (map made cs) (flat_map shown cs ++ flat_map told cs) names in
      (all.0, of_constructors cs (all_front HasName (map made cs) (flat_map shown cs ++ flat_map told cs) names) (all_front HasName (flat_map shown cs) (flat_map told cs) rest) (all_back HasName (flat_map shown cs) (flat_map told cs) rest))

-- ---- what is added
module _ (h : Sig) (n : TextNames) where
  struct_data : (ss : List Struct) → flat_map data_by (map (declaration_of h n) ss) ≡ map (declaration_of h n) ss
  struct_data [] = refl
  struct_data (s ∷ ss) = ap (λ (ds : List Declaration). declaration_of h n s ∷ ds) (struct_data ss)

  mapping_data : (cs : List Constant) → flat_map data_by (map (mapping_declared h n) cs) ≡ map (mapping_declared h n) cs
  mapping_data [] = refl
  mapping_data (c ∷ cs) = ap (λ (ds : List Declaration). mapping_declared h n c ∷ ds) (mapping_data cs)

  no_data : (fs : List FunId) → flat_map data_by (map (λ (f : FunId). empty_list_declared (name_at h f)) fs) ≡ []
  no_data [] = refl
  no_data (f ∷ fs) = no_data fs

  mapping_names : (cs : List Constant) → flat_map names_of_addition (map (mapping_declared h n) cs) ≡ map (λ (c : Constant). text_under h c.0) cs
  mapping_names [] = refl
  mapping_names (c ∷ cs) = ap (λ (xs : List Name). text_under h c.0 ∷ xs) (mapping_names cs)

  struct_names_have : (P : Name → Type 0) (ss : List Struct) → AllByRecursion P (flat_map item_names (map (declaration_of h n) ss)) → AllByRecursion P (flat_map names_of_addition (map (declaration_of h n) ss))
  struct_names_have P [] all = tt
  struct_names_have P (s ∷ ss) all =
      let d = declaration_of h n s in
      let rest = map (declaration_of h n) ss in
      all_both P (names_of_addition d) (flat_map names_of_addition rest) (of_struct P (text_under h s.0) (map (constructor_declared h n) s.1) (all_front P (item_names d) (flat_map item_names rest) all))
      (struct_names_have P ss (all_back P (item_names d) (flat_map item_names rest) all))

  structs_are_additions : (ending : Ending) (ss : List Struct) → AllByRecursion (IsAddition ending) (map (declaration_of h n) ss)
  structs_are_additions ending [] = tt
  structs_are_additions ending (s ∷ ss) = (tt, structs_are_additions ending ss)

  mappings_are_additions : (ending : Ending) (cs : List Constant) → AllByRecursion (IsAddition ending) (map (mapping_declared h n) cs)
  mappings_are_additions ending [] = tt
  mappings_are_additions ending (c ∷ cs) = (tt, mappings_are_additions ending cs)

  -- the actions
  acts_data : (ns : List NameId) → flat_map data_by (map (action_declared h) ns) ≡ map (action_declared h) ns
  acts_data [] = refl
  acts_data (a ∷ ns) = ap (λ (ds : List Declaration). action_declared h a ∷ ds) (acts_data ns)

  acts_name_nothing : (ns : List NameId) → flat_map names_of_addition (map (action_declared h) ns) ≡ []
  acts_name_nothing [] = refl
  acts_name_nothing (a ∷ ns) = acts_name_nothing ns

  acts_give : (names : List Name) (ns : List NameId) → AllByRecursion (GivesEmptyLists names) (map (action_declared h) ns)
  acts_give names [] = tt
  acts_give names (a ∷ ns) = ((λ xs. tt), acts_give names ns)

  acts_are_additions : (ending : Ending) (ns : List NameId) → AreTerminate ending h ns → AllByRecursion (IsAddition ending) (map (action_declared h) ns)
  acts_are_additions End ns none = subst (λ (as_ : List NameId). AllByRecursion (IsAddition End) (map (action_declared h) as_)) (sym none) tt
  acts_are_additions Terminate ns (inl none) = subst (λ (as_ : List NameId). AllByRecursion (IsAddition Terminate) (map (action_declared h) as_)) (sym none) tt
  acts_are_additions Terminate ns (inr (a, one, text)) =
      subst (λ (as_ : List NameId). AllByRecursion (IsAddition Terminate) (map (action_declared h) as_)) (sym one) ((refl, ap (λ (t : List ℕ). t ∷ []) text), tt)

  structs_give : (names : List Name) (ss : List Struct) → AllByRecursion (GivesEmptyLists names) (map (declaration_of h n) ss)
  structs_give names [] = tt
  structs_give names (s ∷ ss) = ((λ xs. tt), structs_give names ss)

  mappings_give : (names : List Name) (cs : List Constant) → AllByRecursion (GivesEmptyLists names) (map (mapping_declared h n) cs)
  mappings_give names [] = tt
  mappings_give names (c ∷ cs) = ((λ xs. tt), mappings_give names cs)

  empty_lists_give : (names : List Name) (added : List FunId) → ((f : FunId) → Contains added f → Contains names (name_at h f)) → (fs : List FunId) → All (Contains added) fs → AllByRecursion (GivesEmptyLists names) (map (λ (f : FunId). empty_list_declared (name_at h f)) fs)
  empty_lists_give names added named [] among = tt
  empty_lists_give names added named (f ∷ fs) among =
      let its_name = named f (All-head (Contains added) f fs among) in
      ((λ xs. (record { name = name_at h f; added = its_name; condition = refl; left = refl; right = refl }, tt)), empty_lists_give names added named fs (All-tail (Contains added) f fs among))

pub additions_may_be_added : AdditionsMayBeAdded
additions_may_be_added ending spec g h x empty_lists stands is taken w are among =
    let n = text_names_under h x in
    let adds = what_is_added_is_printed spec g h stands is w in
    let added = added_declared spec h n empty_lists in
    let acts = map (action_declared h) (added_actions w) in
    let structs = map (declaration_of h n) (added_structs w) in
    let mappings = map (mapping_declared h n) (added_constants w) in
    let equations = map (λ (f : FunId). empty_list_declared (name_at h f)) empty_lists in
    let names = flat_map names_of_addition structs ++ map (λ (c : Constant). text_under h c.0) (added_constants w) in
    let apart = names_apart g stands h x w (grown_itself h) in
    let New = λ (t : Name). ¬ (Contains first_names t) × ¬ (Contains (copied_identifiers spec) t) in
    let new : (ts : List Name) → AllByRecursion (λ (t : Name). ¬ (IsTaken g t)) ts → AllByRecursion New ts = all_weaker (λ (t : Name). ¬ (IsTaken g t)) New (λ t free. (λ there. free (All-contains (IsTaken g) first_names t stands.words_taken there), λ there. free (taken t there))) in
    let declared_ : declarations_in added ≡ acts ++ (structs ++ (mappings ++ equations)) = adds.declarations x empty_lists in
    let data_is : data_in added ≡ acts ++ (structs ++ mappings)
    = ap (flat_map data_by) declared_ ∙ flat_append data_by acts (structs ++ (mappings ++ equations)) ∙ ap₂ (λ (xs ys : List Declaration). xs ++ ys) (acts_data h n (added_actions w)) (flat_append data_by structs (mappings ++ equations)
    ∙ ap₂ (λ (xs ys : List Declaration). xs ++ ys) (struct_data h n (added_structs w)) (flat_append data_by mappings equations ∙ ap₂ (λ (xs ys : List Declaration). xs ++ ys) (mapping_data h n (added_constants w)) (no_data h n empty_lists) ∙ append-nil mappings)) in
    let names_is : flat_map names_of_addition (data_in added) ≡ names
    = ap (flat_map names_of_addition) data_is ∙ flat_append names_of_addition acts (structs ++ mappings) ∙ ap (λ (xs : List Name). xs ++ flat_map names_of_addition (structs ++ mappings)) (acts_name_nothing h n (added_actions w))
    ∙ flat_append names_of_addition structs mappings ∙ ap (λ xs. flat_map names_of_addition structs ++ xs) (mapping_names h n (added_constants w)) in
    let constant_there : (f : FunId) → Contains (constants_among h (added_functions spec h)) f → Contains names (name_at h f)
    = λ f c. Contains-append_right (flat_map names_of_addition structs) (map (λ (k : Constant). text_under h k.0) (added_constants w)) (name_at h f)
    (subst (λ ts. Contains ts (name_at h f)) adds.constants (map_contains (name_at h) (constants_among h (added_functions spec h)) f c)) in
    let give : AllByRecursion (GivesEmptyLists names) (declarations_in added)
    = subst (AllByRecursion (GivesEmptyLists names)) (sym declared_)
    (all_both (GivesEmptyLists names) acts (structs ++ (mappings ++ equations)) (acts_give h n names (added_actions w))
    (all_both (GivesEmptyLists names) structs (mappings ++ equations) (structs_give h n names (added_structs w))
    (all_both (GivesEmptyLists names) mappings equations (mappings_give h n names (added_constants w)) (empty_lists_give h n names (constants_among h (added_functions spec h)) constant_there empty_lists among)))) in
    record {
      each_declaration = subst (AllByRecursion (IsAddition ending)) (sym data_is)
          (all_both (IsAddition ending) acts (structs ++ mappings) (acts_are_additions h n ending (added_actions w) are)
          (all_both (IsAddition ending) structs mappings (structs_are_additions h n ending (added_structs w)) (mappings_are_additions h n ending (added_constants w))));
      new_names = subst (AllByRecursion New) (sym names_is)
          (all_both New (flat_map names_of_addition structs) (map (λ (c : Constant). text_under h c.0) (added_constants w)) (struct_names_have h n New (added_structs w) (new _ apart.structs_new)) (new _ apart.constants_new));
      each_equation = subst (λ (xs : List Name). AllByRecursion (IsOfAnEmptyList xs) (equations_in added)) (sym names_is) (of_sections names [] added give);
    }
