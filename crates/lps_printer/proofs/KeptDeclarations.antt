-- What the copied sections declare: some of the text's declarations, under copied identifiers, and all of its data.
use Rattle.std.proofs.Common.{◌≡◌, ℕ, suc, Bool, true, false, cond, List, [], ◌∷◌, ◌++◌, map, refl, ap, ap₂, sym, ◌∙◌, subst}
use Rattle.std.specs.Prelude.{Option, Some, None}
use Rattle.std.specs.List.{AllByRecursion, flat_map}
use Rattle.std.proofs.lemmas.List.{append-nil}
use Rattle.mcrl2_syntax.specs.Words.{PlainWord}
use Rattle.mcrl2_syntax.specs.declared.declaration.SectionWord.{SectionWord}
use Rattle.mcrl2_syntax.specs.Copied.{has_declarations, word_is_copied, is_copied}
use Rattle.mcrl2_syntax.specs.Declarations as trees
use Rattle.mcrl2_syntax.specs.Declarations.{PlainField, PlainConstructor, PlainDecl, PlainSection}
use Rattle.mcrl2_syntax.proofs.Lists.{all_front, all_back, all_both}
use Rattle.sort_table.specs.Expressions.{Name}
use Rattle.sort_table.specs.BareSorts.{SortExpression, truth_values, a_name, bare_sort}
use Rattle.sort_table.specs.BareProcesses.{bare_names}
use Rattle.sort_table.specs.BareDeclarations.{Constructor, Declaration, sorts, alias, struct, constructors, mappings, variables, equation, actions, process, initial, bare_word, bare_field, bare_constructor, bare_declaration, bare_section, declarations_in}
use Rattle.sort_table.specs.SortMeanings.{alone, kinds_by, actions_by}
use Rattle.sort_table.specs.TextFunctions.{TextRole, Named, struct_constructor, declared_constructor, mapping, projection, recogniser, declared, where_named, fields_of, projections_from, functions_by}
use Rattle.sort_table.specs.Duplicates.{Item, a_sort, an_action, function_item}
use Rattle.sort_table.specs.Identifiers.{name_where, in_sort, in_sorts, in_field, in_constructor, in_declaration, in_section, copied_in}
use Rattle.sort_table.specs.PlacedSections.{word_of_declaration, IsPlacedSection}
use Rattle.sort_table.proofs.GrowingTexts.{flat_behind}
use Rattle.lps_printer.specs.CopiedSections.{kept_sections}
use Rattle.lps_printer.specs.CopiedParts.{data_by}
use Rattle.lps_printer.proofs.CopiedParts.{Placed, second_true, what_is_copied_has_all_parts}
use Rattle.lps_printer.proofs.TwoOfLists.{all_from, all_mapped, Within, nothing_left, stays, left_out}
use Rattle.lps_printer.proofs.TextItems.{fixed_by, is_process, name_of}

-- ---- the copied sections are some of the text's
pub kept_within : (ss : List PlainSection) → Within (map bare_section (kept_sections ss)) (map bare_section ss)
kept_within [] = nothing_left
kept_within (s ∷ ss) = by_test (is_copied (s ∷ ss)) (kept_within ss)
  where
    by_test : (b : Bool) → Within (map bare_section (kept_sections ss)) (map bare_section ss) → Within (map bare_section (cond b (s ∷ kept_sections ss) (kept_sections ss))) (map bare_section (s ∷ ss))
    by_test true w = stays (bare_section s) w
    by_test false w = left_out (bare_section s) w

-- ---- their items have copied identifiers as names
module _ (P : Name → Type 0) where
  abbrev Holds : List Name → Type 0
  Holds = AllByRecursion P

  abbrev OfFunctions : List Named → Type 0
  OfFunctions = AllByRecursion (λ (f : Named). P f.0)

  abbrev OfItems : List Item → Type 0
  OfItems = AllByRecursion (λ (x : Item). P (name_of x))

  of_items : (fs : List Named) → OfFunctions fs → OfItems (map function_item fs)
  of_items fs h = all_mapped (λ (x : Item). P (name_of x)) function_item fs h

  functions_both : (fs gs : List Named) → OfFunctions fs → OfFunctions gs → OfFunctions (fs ++ gs)
  functions_both = all_both (λ (f : Named). P f.0)

  of_option : (o : Option PlainWord) (e to : SortExpression) (r : TextRole) → Holds (name_where o) → OfFunctions (where_named e to r (bare_word o))
  of_option None e to r h = tt
  of_option (Some w) e to r h = (h.0, tt)

  of_constructors : (e : SortExpression) (cs : List PlainConstructor) → Holds (flat_map in_constructor cs) → OfFunctions (map (λ (c : Constructor). declared (fields_of c) e struct_constructor c.name) (map bare_constructor cs))
  of_constructors e [] h = tt
  of_constructors e (c ∷ cs) h = (h.0, of_constructors e cs (all_back P (in_constructor c) (flat_map in_constructor cs) h))

  of_projections : (e : SortExpression) (c : Constructor) (i : ℕ) (fs : List PlainField) → Holds (flat_map in_field fs) → OfFunctions (projections_from e c i (map bare_field fs))
  of_projections e c i [] h = tt
  of_projections e c i (f ∷ fs) h =
      functions_both (where_named e (bare_sort f.sort) (projection c.name (fields_of c) i) (bare_word f.name)) (projections_from e c (suc i) (map bare_field fs))
      (of_option f.name e (bare_sort f.sort) (projection c.name (fields_of c) i) (all_front P (name_where f.name) (in_sort f.sort) (all_front P (in_field f) (flat_map in_field fs) h)))
      (of_projections e c (suc i) fs (all_back P (in_field f) (flat_map in_field fs) h))

  all_projections : (e : SortExpression) (cs : List PlainConstructor) → Holds (flat_map in_constructor cs) → OfFunctions (flat_map (λ (c : Constructor). projections_from e c 0 c.fields) (map bare_constructor cs))
  all_projections e [] h = tt
  all_projections e (c ∷ cs) h =
      let here = all_front P (in_constructor c) (flat_map in_constructor cs) h in
      functions_both (projections_from e (bare_constructor c) 0 (map bare_field c.fields)) (flat_map (λ (d : Constructor). projections_from e d 0 d.fields) (map bare_constructor cs))
      (of_projections e (bare_constructor c) 0 c.fields (all_front P (flat_map in_field c.fields) (name_where c.recogniser) here.1)) (all_projections e cs (all_back P (in_constructor c) (flat_map in_constructor cs) h))

  all_recognisers : (e : SortExpression) (cs : List PlainConstructor) → Holds (flat_map in_constructor cs)
      → OfFunctions (flat_map (λ (c : Constructor). where_named e truth_values (recogniser c.name (fields_of c)) c.recogniser) (map bare_constructor cs))
  all_recognisers e [] h = tt
  all_recognisers e (c ∷ cs) h =
      let here = all_front P (in_constructor c) (flat_map in_constructor cs) h in
      let b : Constructor = bare_constructor c in
      functions_both (where_named e truth_values (recogniser b.name (fields_of b)) (bare_word c.recogniser)) (flat_map (λ (d : Constructor). where_named e truth_values (recogniser d.name (fields_of d)) d.recogniser) (map bare_constructor cs))
      (of_option c.recogniser e truth_values (recogniser b.name (fields_of b)) (all_back P (flat_map in_field c.fields) (name_where c.recogniser) here.1)) (all_recognisers e cs (all_back P (in_constructor c) (flat_map in_constructor cs) h))

  of_names : (ns : List Name) (es : List SortExpression) (to : SortExpression) (r : TextRole) → Holds ns → OfItems (map function_item (map (declared es to r) ns))
  of_names ns es to r h = of_items (map (declared es to r) ns) (all_mapped (λ (f : Named). P f.0) (declared es to r) ns h)

  of_declaration : (d : PlainDecl) → Holds (in_declaration d) → OfItems (fixed_by (bare_declaration d))
  of_declaration (trees.sorts_decl span ns) h = all_mapped (λ (x : Item). P (name_of x)) a_sort (bare_names ns) h
  of_declaration (trees.alias_decl span n s) h = (h.0, tt)
  of_declaration (trees.struct_decl span n cs) h =
      let e : SortExpression = a_name n.bytes in
      let bs : List Constructor = map bare_constructor cs in
      let made : List Named = map (λ (c : Constructor). declared (fields_of c) e struct_constructor c.name) bs in
      let placed : List Named = flat_map (λ (c : Constructor). projections_from e c 0 c.fields) bs in
      let tested : List Named = flat_map (λ (c : Constructor). where_named e truth_values (recogniser c.name (fields_of c)) c.recogniser) bs in
      (h.0, of_items (made ++ (placed ++ tested)) (functions_both made (placed ++ tested) (of_constructors e cs h.1) (functions_both placed tested (all_projections e cs h.1) (all_recognisers e cs h.1))))
  of_declaration (trees.cons_decl span ns ss to) h = of_names (bare_names ns) (map bare_sort ss) (bare_sort to) declared_constructor (all_front P (bare_names ns) (in_sorts ss ++ in_sort to) h)
  of_declaration (trees.map_decl span ns ss to) h = of_names (bare_names ns) (map bare_sort ss) (bare_sort to) mapping (all_front P (bare_names ns) (in_sorts ss ++ in_sort to) h)
  of_declaration (trees.vars_decl span gs) h = tt
  of_declaration (trees.equation_decl span c l r) h = tt
  of_declaration (trees.act_decl span ns ss) h = all_mapped (λ (x : Item). P (name_of x)) (λ a. an_action a (map bare_sort ss)) (bare_names ns) (all_front P (bare_names ns) (in_sorts ss) h)
  of_declaration (trees.proc_decl span p gs body) h = (h.0, tt)
  of_declaration (trees.init_decl span body) h = tt

  of_declarations : (ds : List PlainDecl) → Holds (flat_map in_declaration ds) → OfItems (flat_map fixed_by (map bare_declaration ds))
  of_declarations [] h = tt
  of_declarations (d ∷ ds) h =
      all_both (λ (x : Item). P (name_of x)) (fixed_by (bare_declaration d)) (flat_map fixed_by (map bare_declaration ds)) (of_declaration d (all_front P (in_declaration d) (flat_map in_declaration ds) h))
      (of_declarations ds (all_back P (in_declaration d) (flat_map in_declaration ds) h))

  pub kept_names : (ss : List PlainSection) → Holds (copied_in ss) → OfItems (flat_map fixed_by (declarations_in (map bare_section (kept_sections ss))))
  kept_names [] h = tt
  kept_names (s ∷ ss) h = by_test (is_copied (s ∷ ss)) h (λ k. kept_names ss k)
    where
      by_test : (b : Bool) → Holds (cond b (in_section s ++ copied_in ss) (copied_in ss)) → (Holds (copied_in ss) → OfItems (flat_map fixed_by (declarations_in (map bare_section (kept_sections ss)))))
          → OfItems (flat_map fixed_by (declarations_in (map bare_section (cond b (s ∷ kept_sections ss) (kept_sections ss)))))
      by_test true k later =
          subst OfItems (sym (flat_behind fixed_by (map bare_declaration s.declarations) (declarations_in (map bare_section (kept_sections ss)))))
          (all_both (λ (x : Item). P (name_of x)) (flat_map fixed_by (map bare_declaration s.declarations)) (flat_map fixed_by (declarations_in (map bare_section (kept_sections ss))))
          (of_declarations s.declarations (all_front P (in_section s) (copied_in ss) k)) (later (all_back P (in_section s) (copied_in ss) k)))
      by_test false k later = later k

-- ---- none of their items is a process
abbrev pub IsNoProcess : Item → Type 0
IsNoProcess x = is_process x ≡ false

no_process_among : {A : Type 0} (f : A → Item) → ((x : A) → IsNoProcess (f x)) → (xs : List A) → AllByRecursion IsNoProcess (map f xs)
no_process_among f each xs = all_mapped IsNoProcess f xs (all_from (λ x. IsNoProcess (f x)) xs (λ x c. each x))

no_process_by : (d : PlainDecl) (behind : List PlainSection) → word_is_copied (word_of_declaration d) behind ≡ true → AllByRecursion IsNoProcess (fixed_by (bare_declaration d))
no_process_by (trees.sorts_decl span ns) behind h = no_process_among a_sort (λ n. refl) (bare_names ns)
no_process_by (trees.alias_decl span n s) behind h = (refl, tt)
no_process_by (trees.struct_decl span n cs) behind h = (refl, no_process_among function_item (λ f. refl) (functions_by (struct n.bytes (map bare_constructor cs))))
no_process_by (trees.cons_decl span ns ss to) behind h = no_process_among function_item (λ f. refl) (functions_by (constructors (bare_names ns) (map bare_sort ss) (bare_sort to)))
no_process_by (trees.map_decl span ns ss to) behind h = no_process_among function_item (λ f. refl) (functions_by (mappings (bare_names ns) (map bare_sort ss) (bare_sort to)))
no_process_by (trees.vars_decl span gs) behind h = tt
no_process_by (trees.equation_decl span c l r) behind h = tt
no_process_by (trees.act_decl span ns ss) behind h = no_process_among (λ (a : Name). an_action a (map bare_sort ss)) (λ a. refl) (bare_names ns)
no_process_by (trees.proc_decl span p gs body) behind h = absurd cc
no_process_by (trees.init_decl span body) behind h = tt

no_process_in : (word : SectionWord) (ds : List PlainDecl) (behind : List PlainSection) → word_is_copied word behind ≡ true → Placed word ds → AllByRecursion IsNoProcess (flat_map fixed_by (map bare_declaration ds))
no_process_in word [] behind h placed = tt
no_process_in word (d ∷ ds) behind h placed =
    all_both IsNoProcess (fixed_by (bare_declaration d)) (flat_map fixed_by (map bare_declaration ds)) (no_process_by d behind (ap (λ v. word_is_copied v behind) placed.0 ∙ h)) (no_process_in word ds behind h placed.1)

pub kept_without_processes : (ss : List PlainSection) → AllByRecursion IsPlacedSection ss → AllByRecursion IsNoProcess (flat_map fixed_by (declarations_in (map bare_section (kept_sections ss))))
kept_without_processes [] placed = tt
kept_without_processes (s ∷ ss) placed = by_test (is_copied (s ∷ ss)) refl (kept_without_processes ss placed.1)
  where
    by_test : (b : Bool) → is_copied (s ∷ ss) ≡ b → AllByRecursion IsNoProcess (flat_map fixed_by (declarations_in (map bare_section (kept_sections ss))))
        → AllByRecursion IsNoProcess (flat_map fixed_by (declarations_in (map bare_section (cond b (s ∷ kept_sections ss) (kept_sections ss)))))
    by_test true is later =
        let own = flat_map fixed_by (map bare_declaration s.declarations) in
        let rest = declarations_in (map bare_section (kept_sections ss)) in
        subst (AllByRecursion IsNoProcess) (sym (flat_behind fixed_by (map bare_declaration s.declarations) rest))
        (all_both IsNoProcess own (flat_map fixed_by rest) (no_process_in s.word s.declarations ss (second_true (has_declarations s) (word_is_copied s.word ss) is) placed.0) later)
    by_test false is later = later

-- ---- they have all sort names, functions and actions
module _ {B : Type 0} (by : Declaration → List B) (only : (d : Declaration) → flat_map by (data_by d) ≡ by d) where
  of_data : (ds : List Declaration) → flat_map by (flat_map data_by ds) ≡ flat_map by ds
  of_data [] = refl
  of_data (d ∷ ds) = flat_behind by (data_by d) (flat_map data_by ds) ∙ ap₂ (λ xs ys. xs ++ ys) (only d) (of_data ds)

  kept_have : (ss : List PlainSection) → AllByRecursion IsPlacedSection ss → flat_map by (declarations_in (map bare_section (kept_sections ss))) ≡ flat_map by (declarations_in (map bare_section ss))
  kept_have ss placed = sym (of_data (declarations_in (map bare_section (kept_sections ss)))) ∙ (ap (flat_map by) (what_is_copied_has_all_parts ss placed).data_stays ∙ of_data (declarations_in (map bare_section ss)))

kinds_only : (d : Declaration) → flat_map kinds_by (data_by d) ≡ kinds_by d
kinds_only (sorts ns) = append-nil (map (λ n. (n, alone)) ns)
kinds_only (alias n e) = refl
kinds_only (struct n cs) = refl
kinds_only (constructors fs es to) = refl
kinds_only (mappings fs es to) = refl
kinds_only (variables vs) = refl
kinds_only (equation c l r) = refl
kinds_only (actions as_ es) = refl
kinds_only (process p vs body) = refl
kinds_only (initial body) = refl

functions_only : (d : Declaration) → flat_map functions_by (data_by d) ≡ functions_by d
functions_only (sorts ns) = refl
functions_only (alias n e) = refl
functions_only (struct n cs) = append-nil (functions_by (struct n cs))
functions_only (constructors fs es to) = append-nil (functions_by (constructors fs es to))
functions_only (mappings fs es to) = append-nil (functions_by (mappings fs es to))
functions_only (variables vs) = refl
functions_only (equation c l r) = refl
functions_only (actions as_ es) = refl
functions_only (process p vs body) = refl
functions_only (initial body) = refl

actions_only : (d : Declaration) → flat_map actions_by (data_by d) ≡ actions_by d
actions_only (sorts ns) = refl
actions_only (alias n e) = refl
actions_only (struct n cs) = refl
actions_only (constructors fs es to) = refl
actions_only (mappings fs es to) = refl
actions_only (variables vs) = refl
actions_only (equation c l r) = refl
actions_only (actions as_ es) = append-nil (actions_by (actions as_ es))
actions_only (process p vs body) = refl
actions_only (initial body) = refl

pub kept_kinds : (ss : List PlainSection) → AllByRecursion IsPlacedSection ss → flat_map kinds_by (declarations_in (map bare_section (kept_sections ss))) ≡ flat_map kinds_by (declarations_in (map bare_section ss))
kept_kinds = kept_have kinds_by kinds_only

pub kept_functions : (ss : List PlainSection) → AllByRecursion IsPlacedSection ss → flat_map functions_by (declarations_in (map bare_section (kept_sections ss))) ≡ flat_map functions_by (declarations_in (map bare_section ss))
kept_functions = kept_have functions_by functions_only

pub kept_actions : (ss : List PlainSection) → AllByRecursion IsPlacedSection ss → flat_map actions_by (declarations_in (map bare_section (kept_sections ss))) ≡ flat_map actions_by (declarations_in (map bare_section ss))
kept_actions = kept_have actions_by actions_only
