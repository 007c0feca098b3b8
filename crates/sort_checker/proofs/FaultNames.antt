-- What holds of all identifiers of a text holds of the name in its fault.
use Rattle.std.proofs.Common.{◌≡◌, ℕ, zero, suc, Bool, true, false, not, cond, ◌&&◌, ◌||◌, List, [], ◌∷◌, ◌++◌, map, refl, sym, ap, ap₂, ◌∙◌, subst}
use Rattle.std.specs.Prelude.{Option, Some, None, is_none, option_map, option_and_then, bytes_eq}
use Rattle.std.specs.Option.{option_or}
use Rattle.std.specs.List.{AllByRecursion, find, flat_map, list_any}
use Rattle.std.proofs.lemmas.Grind.{flat_map-append}
use Rattle.std.proofs.lemmas.List.{map-append}
use Rattle.std.proofs.lemmas.List.Folds.{find-append}
use Rattle.std.proofs.lemmas.Option.{none-some, same_Some}
use Rattle.std.proofs.lemmas.Slice.Eq.{bytes_eq-Decides}
use Rattle.data_theory.specs.Terms.{Sort}
use Rattle.mcrl2_syntax.specs.Words.{PlainWord}
use Rattle.mcrl2_syntax.specs.DataTrees.{PlainData}
use Rattle.mcrl2_syntax.specs.ProcessParts.{PlainAction, tau_action, named_action, PlainAssignment, PlainNameSet, PlainRenaming, PlainCommRule, PlainVarGroup}
use Rattle.mcrl2_syntax.specs.ProcessTrees as trees
use Rattle.mcrl2_syntax.specs.ProcessTrees.{PlainProcess, PlainProcesses, no_processes, more_processes}
use Rattle.mcrl2_syntax.specs.Declarations as decls
use Rattle.mcrl2_syntax.specs.Declarations.{PlainDecl, PlainSection, PlainSpec}
use Rattle.mcrl2_syntax.proofs.Lists.{all_front, all_back, all_both}
use Rattle.process_terms.specs.Processes as written
use Rattle.process_terms.specs.Processes.{Around, Renaming}
use Rattle.process_terms.specs.Communication.{Rule}
use Rattle.sort_table.specs.Expressions.{Name, Expression, word, numeral, listed}
use Rattle.sort_table.specs.BareData.{bare_data}
use Rattle.sort_table.specs.BareSorts.{SortExpression, bare_sort}
use Rattle.sort_table.specs.BareProcesses as bare
use Rattle.sort_table.specs.BareProcesses.{Variables, Process, Processes, bare_names, bare_group, bare_variables, bare_action, bare_process, bare_processes}
use Rattle.sort_table.specs.BareDeclarations.{Declaration, Section, bare_condition, bare_declaration, bare_section, bare_sections, declarations_in}
use Rattle.sort_table.specs.NamedLists.{first_named}
use Rattle.sort_table.specs.Identifiers.{in_data, in_condition, in_sort, in_group, in_action, in_assignment, in_set, in_renaming, in_rule, in_process, in_processes, in_declaration, in_section, identifiers_in}
use Rattle.sort_table.specs.Vocabularies.{Vocabulary, EachPair, sort_in}
use Rattle.data_typing.specs.Typings.{first_of}
use Rattle.data_typing.proofs.Options.{one_or_other, mapped}
use Rattle.sort_checker.specs.FullVocabularies.{Parameters, FullVocabulary, parameters_in, process_from, process_named, Written, process_by, processes_in, IsEntry}
use Rattle.sort_checker.specs.Operators as operators
use Rattle.sort_checker.specs.Operators.{operators_in, operators_in_all, names_of, stands_in, first_again, renamed_twice, rule_of}
use Rattle.sort_checker.specs.Parts.{Part, a_label, a_call, a_condition, an_operator, an_equation, ScopedPart, ScopedDeclaration, scoped, parts_in, parts_in_all, variables_by, scoped_behind, parts_under}
use Rattle.sort_checker.specs.Scopes.{scope_of}
use Rattle.sort_checker.specs.Faults as faults
use Rattle.sort_checker.specs.Faults.{words_in, words_of_option, Use, of_data, of_process, of_action, name_of, names_of_variables, is_known, uses_in_data, uses_of_action, unknown_name, first_free, first_left_out, free_variable, operators_of}
use Rattle.sort_checker.specs.PartTypings.{left_out}
use Rattle.sort_checker.specs.Refusals.{TypeFault, unknown_in, untyped, free_in, variable_left, comm_shape, rename_twice, first_from, unknown_fault, untyped_fault, free_fault, left_fault, comm_fault, rename_fault, type_fault}
use Rattle.sort_checker.specs.FaultNames.{HoldsOfName}
use Rattle.sort_checker.proofs.Firsts.{first_append}
use Rattle.sort_checker.proofs.UnknownWords.{unknown, identifiers_unknown, named_unknown}

-- ---- searches
map_or : {A B : Type 0} (f : A → B) (o p : Option A) → option_map f (option_or o p) ≡ option_or (option_map f o) (option_map f p)
map_or f None p = refl
map_or f (Some x) p = refl

found_passes : {A : Type 0} (p : A → Bool) (xs : List A) (x : A) → find p xs ≡ Some x → p x ≡ true
found_passes p [] x e = absurd (none-some x e)
found_passes p (y ∷ xs) x e = by_test (found_passes p xs x) (p y) refl e
  where
    by_test : (find p xs ≡ Some x → p x ≡ true) → (b : Bool) → p y ≡ b → cond b (Some y) (find p xs) ≡ Some x → p x ≡ true
    by_test later true is f = subst (λ z. p z ≡ true) (same_Some y x f) is
    by_test later false is f = later f

found_holds : {A : Type 0} (P : A → Type 0) (p : A → Bool) (xs : List A) → AllByRecursion P xs → (x : A) → find p xs ≡ Some x → P x
found_holds P p [] all x e = absurd (none-some x e)
found_holds P p (y ∷ xs) all x e = by_test (found_holds P p xs all.1 x) (p y) e
  where
    by_test : (find p xs ≡ Some x → P x) → (b : Bool) → cond b (Some y) (find p xs) ≡ Some x → P x
    by_test later true f = subst P (same_Some y x f) all.0
    by_test later false f = later f

first_true : (a b : Bool) → (a && b) ≡ true → a ≡ true
first_true true b h = refl
first_true false b h = h

-- the operators that trees are
abbrev renamed : List PlainRenaming → Around
renamed rs = written.rename (map operators.renaming_of (map (λ (r : PlainRenaming). (r.old.bytes, r.renamed.bytes)) rs))

abbrev joined : List PlainCommRule → Around
joined cs = written.comm (map rule_of (map (λ (r : PlainCommRule). (bare_names r.names, r.outcome.bytes)) cs))

module _ (Q : Name → Type 0) where
  -- what is found holds
  abbrev Gives : Option Name → Type 0
  Gives o = (n : Name) → o ≡ Some n → Q n

  abbrev All_ : List Name → Type 0
  All_ = AllByRecursion Q

  gives_none : Gives None
  gives_none n e = absurd (none-some n e)

  gives_or : (o p : Option Name) → Gives o → Gives p → Gives (option_or o p)
  gives_or o p f g n e = one_or_other o p n e (λ w. f n w) (λ w. g n w)

  gives_same : (o p : Option Name) → o ≡ p → Gives p → Gives o
  gives_same o p same g n e = g n (sym same ∙ e)

  gives_found : (p : Name → Bool) (xs : List Name) → All_ xs → Gives (find p xs)
  gives_found p xs all n e = found_holds Q p xs all n e

  among_names : (x : Name) (ys : List Name) → All_ ys → stands_in x ys ≡ true → Q x
  among_names x [] all h = let never : false ≡ true = h in absurd cc
  among_names x (y ∷ ys) all h = by_test (among_names x ys all.1) (bytes_eq y x) refl h
    where
      by_test : (stands_in x ys ≡ true → Q x) → (b : Bool) → bytes_eq y x ≡ b → (b || stands_in x ys) ≡ true → Q x
      by_test later true is k = subst Q ((bytes_eq-Decides y x).0 is) all.0
      by_test later false is k = later k

  -- in lists of names that parts give
  flat_all : {A B : Type 0} (f : A → List Name) (g : A → B) (h : B → List Name) → ((x : A) → All_ (f x) → All_ (h (g x))) → (xs : List A) → All_ (flat_map f xs) → All_ (flat_map h (map g xs))
  flat_all f g h each [] all = tt
  flat_all f g h each (x ∷ xs) all =
      all_both Q (h (g x)) (flat_map h (map g xs)) (each x (all_front Q (f x) (flat_map f xs) all)) (flat_all f g h each xs (all_back Q (f x) (flat_map f xs) all))

  -- ---- 12
  module _ (v : FullVocabulary) (xs : Variables) where
    abbrev among : List Use → Option Name
    among us = option_map name_of (find (λ u. not (is_known v xs u)) us)

    both_among : (us ws : List Use) → among (us ++ ws) ≡ option_or (among us) (among ws)
    both_among us ws = ap (option_map name_of) (find-append (λ u. not (is_known v xs u)) us ws) ∙ map_or name_of (find (λ u. not (is_known v xs u)) us) (find (λ u. not (is_known v xs u)) ws)

    gives_both : (us ws : List Use) → Gives (among us) → Gives (among ws) → Gives (among (us ++ ws))
    gives_both us ws f g = gives_same (among (us ++ ws)) (option_or (among us) (among ws)) (both_among us ws) (gives_or (among us) (among ws) f g)

    data_gives : (d : PlainData) → All_ (in_data d) → Gives (among (map of_data (words_in (bare_data d))))
    data_gives d all = gives_same (among (map of_data (words_in (bare_data d)))) (find (unknown v xs) (in_data d)) (named_unknown v xs (words_in (bare_data d)) ∙ identifiers_unknown v xs d) (gives_found (unknown v xs) (in_data d) all)

    words_both : (fs gs : List Name) → Gives (among (map of_data fs)) → Gives (among (map of_data gs)) → Gives (among (map of_data (fs ++ gs)))
    words_both fs gs f g = subst (λ us. Gives (among us)) (sym (map-append of_data fs gs)) (gives_both (map of_data fs) (map of_data gs) f g)

    datas_give : (ds : List PlainData) → All_ (flat_map in_data ds) → Gives (among (uses_in_data (map bare_data ds)))
    datas_give [] all = gives_none
    datas_give (d ∷ ds) all = words_both (words_in (bare_data d)) (flat_map words_in (map bare_data ds)) (data_gives d (all_front Q (in_data d) (flat_map in_data ds) all)) (datas_give ds (all_back Q (in_data d) (flat_map in_data ds) all))

    values_give : (as_ : List PlainAssignment) → All_ (flat_map in_assignment as_) → Gives (among (uses_in_data (map (λ (d : Name × Expression). d.1) (map (λ (d : PlainAssignment). (d.name.bytes, bare_data d.value)) as_))))
    values_give [] all = gives_none
    values_give (a ∷ as_) all =
        words_both (words_in (bare_data a.value)) (flat_map words_in (map (λ (d : Name × Expression). d.1) (map (λ (d : PlainAssignment). (d.name.bytes, bare_data d.value)) as_)))
        (data_gives a.value (all_front Q (in_assignment a) (flat_map in_assignment as_) all).1) (values_give as_ (all_back Q (in_assignment a) (flat_map in_assignment as_) all))

    use_gives : (u : Use) (us : List Use) → Q (name_of u) → Gives (among us) → Gives (among (u ∷ us))
    use_gives u us q g = by_test (not (is_known v xs u))
      where
        by_test : (b : Bool) → Gives (option_map name_of (cond b (Some u) (find (λ w. not (is_known v xs w)) us)))
        by_test true = λ n e. subst Q (same_Some (name_of u) n e) q
        by_test false = g

    actions_give : (ns : List Name) → All_ ns → Gives (among (map of_action ns))
    actions_give [] all = gives_none
    actions_give (n ∷ ns) all = use_gives (of_action n) (map of_action ns) all.0 (actions_give ns all.1)

    action_gives : (a : PlainAction) → All_ (in_action a) → Gives (among (uses_of_action (bare_action a)))
    action_gives (tau_action span) all = gives_none
    action_gives (named_action span f ds) all = use_gives (of_process f.bytes) (uses_in_data (map bare_data ds)) all.0 (datas_give ds all.1)

    label_gives : (as_ : List PlainAction) → All_ (flat_map in_action as_) → Gives (among (flat_map uses_of_action (map bare_action as_)))
    label_gives [] all = gives_none
    label_gives (a ∷ as_) all =
        gives_both (uses_of_action (bare_action a)) (flat_map uses_of_action (map bare_action as_)) (action_gives a (all_front Q (in_action a) (flat_map in_action as_) all)) (label_gives as_ (all_back Q (in_action a) (flat_map in_action as_) all))

    condition_gives : (c : Option PlainData) → All_ (in_condition c) → Gives (among (map of_data (words_of_option (bare_condition c))))
    condition_gives None all = gives_none
    condition_gives (Some d) all = data_gives d all

  sets_hold : (sets : List PlainNameSet) → All_ (flat_map in_set sets) → All_ (flat_map (λ (ys : List Name). ys) (map (λ (s : PlainNameSet). bare_names s.names) sets))
  sets_hold sets all = flat_all in_set (λ (s : PlainNameSet). bare_names s.names) (λ (ys : List Name). ys) (λ s a. a) sets all

  renamings_hold : (rs : List PlainRenaming) → All_ (flat_map in_renaming rs) → All_ (names_of (written.rename (map operators.renaming_of (map (λ (r : PlainRenaming). (r.old.bytes, r.renamed.bytes)) rs))))
  renamings_hold rs all =
      flat_all (λ (r : Name × Name). r.0 ∷ r.1 ∷ []) operators.renaming_of (λ (r : Renaming). r.from ∷ r.to ∷ []) (λ r a. a) (map (λ (r : PlainRenaming). (r.old.bytes, r.renamed.bytes)) rs)
      (flat_all in_renaming (λ (r : PlainRenaming). (r.old.bytes, r.renamed.bytes)) (λ (r : Name × Name). r.0 ∷ r.1 ∷ []) (λ r a. a) rs all)

  rules_hold : (cs : List PlainCommRule) → All_ (flat_map in_rule cs) → All_ (names_of (written.comm (map rule_of (map (λ (r : PlainCommRule). (bare_names r.names, r.outcome.bytes)) cs))))
  rules_hold cs all =
      flat_all (λ (c : List Name × Name). c.0 ++ c.1 ∷ []) rule_of (λ (c : Rule). c.left ++ c.result ∷ []) (λ c a. a) (map (λ (r : PlainCommRule). (bare_names r.names, r.outcome.bytes)) cs)
      (flat_all in_rule (λ (r : PlainCommRule). (bare_names r.names, r.outcome.bytes)) (λ (c : List Name × Name). c.0 ++ c.1 ∷ []) (λ c a. a) cs all)

  first_both : (f : ScopedPart → Option Name) (ps qs : List ScopedPart) → Gives (first_of f ps) → Gives (first_of f qs) → Gives (first_of f (ps ++ qs))
  first_both f ps qs g h = gives_same (first_of f (ps ++ qs)) (option_or (first_of f ps) (first_of f qs)) (first_append f ps qs) (gives_or (first_of f ps) (first_of f qs) g h)

  module _ (v : FullVocabulary) where
    abbrev UnknownGives : List ScopedPart → Type 0
    UnknownGives ps = Gives (first_of (unknown_name v) ps)

    part_first : (xs : Variables) (p : Part) (ps : List ScopedPart) → Gives (unknown_name v (scoped xs p)) → UnknownGives ps → UnknownGives (scoped xs p ∷ ps)
    part_first xs p ps f g = gives_or (unknown_name v (scoped xs p)) (first_of (unknown_name v) ps) f g

    mutual
      unknown_gives : (xs : Variables) (p : PlainProcess) → All_ (in_process p) → UnknownGives (parts_in xs (bare_process p))
      unknown_gives xs (trees.delta span) all = gives_none
      unknown_gives xs (trees.acts a) all = part_first xs (a_label (bare_action a ∷ [])) [] (label_gives v xs (a ∷ []) (all_both Q (in_action a) [] all tt)) gives_none
      unknown_gives xs (trees.multi span as_) all = part_first xs (a_label (map bare_action as_)) [] (label_gives v xs as_ all) gives_none
      unknown_gives xs (trees.sync span ps) all = all_unknown_give xs ps all
      unknown_gives xs (trees.call span p ds) all = part_first xs (a_call p.bytes (map (λ (d : PlainAssignment). (d.name.bytes, bare_data d.value)) ds)) [] (use_gives v xs (of_process p.bytes) (uses_in_data (map (λ (d : Name × Expression). d.1) (map (λ (d : PlainAssignment). (d.name.bytes, bare_data d.value)) ds))) all.0 (values_give v xs ds all.1)) gives_none
      unknown_gives xs (trees.within span p) all = unknown_gives xs p all
      unknown_gives xs (trees.allow span sets p) all = part_first xs (an_operator (written.allow (map (λ (s : PlainNameSet). bare_names s.names) sets))) (parts_in xs (bare_process p)) (actions_give v xs (names_of (written.allow (map (λ (s : PlainNameSet). bare_names s.names) sets))) (sets_hold sets (all_front Q (flat_map in_set sets) (in_process p) all))) (unknown_gives xs p (all_back Q (flat_map in_set sets) (in_process p) all))
      unknown_gives xs (trees.block span ns p) all = part_first xs (an_operator (written.block (bare_names ns))) (parts_in xs (bare_process p)) (actions_give v xs (bare_names ns) (all_front Q (bare_names ns) (in_process p) all)) (unknown_gives xs p (all_back Q (bare_names ns) (in_process p) all))
      unknown_gives xs (trees.hide span ns p) all = part_first xs (an_operator (written.hide (bare_names ns))) (parts_in xs (bare_process p)) (actions_give v xs (bare_names ns) (all_front Q (bare_names ns) (in_process p) all)) (unknown_gives xs p (all_back Q (bare_names ns) (in_process p) all))
      unknown_gives xs (trees.rename span rs p) all = part_first xs (an_operator (renamed rs)) (parts_in xs (bare_process p)) (actions_give v xs (names_of (renamed rs)) (renamings_hold rs (all_front Q (flat_map in_renaming rs) (in_process p) all))) (unknown_gives xs p (all_back Q (flat_map in_renaming rs) (in_process p) all))
      unknown_gives xs (trees.comm span cs p) all = part_first xs (an_operator (joined cs)) (parts_in xs (bare_process p)) (actions_give v xs (names_of (joined cs)) (rules_hold cs (all_front Q (flat_map in_rule cs) (in_process p) all))) (unknown_gives xs p (all_back Q (flat_map in_rule cs) (in_process p) all))
      unknown_gives xs (trees.sequence span ps) all = all_unknown_give xs ps all
      unknown_gives xs (trees.sum span gs p) all = unknown_gives (xs ++ bare_variables gs) p (all_back Q (flat_map in_group gs) (in_process p) all)
      unknown_gives xs (trees.when span d p) all = part_first xs (a_condition (bare_data d)) (parts_in xs (bare_process p)) (datas_give v xs (d ∷ []) (all_both Q (in_data d) [] (all_front Q (in_data d) (in_process p) all) tt)) (unknown_gives xs p (all_back Q (in_data d) (in_process p) all))
      unknown_gives xs (trees.either span d p q) all =
          let rest = all_back Q (in_data d) (in_process p ++ in_process q) all in
          part_first xs (a_condition (bare_data d)) (parts_in xs (bare_process p) ++ parts_in xs (bare_process q)) (datas_give v xs (d ∷ []) (all_both Q (in_data d) [] (all_front Q (in_data d) (in_process p ++ in_process q) all) tt))
          (first_both (unknown_name v) (parts_in xs (bare_process p)) (parts_in xs (bare_process q)) (unknown_gives xs p (all_front Q (in_process p) (in_process q) rest)) (unknown_gives xs q (all_back Q (in_process p) (in_process q) rest)))
      unknown_gives xs (trees.left_merge span p q) all =
          first_both (unknown_name v) (parts_in xs (bare_process p)) (parts_in xs (bare_process q)) (unknown_gives xs p (all_front Q (in_process p) (in_process q) all)) (unknown_gives xs q (all_back Q (in_process p) (in_process q) all))
      unknown_gives xs (trees.parallel span ps) all = all_unknown_give xs ps all
      unknown_gives xs (trees.choice span ps) all = all_unknown_give xs ps all

      all_unknown_give : (xs : Variables) (ps : PlainProcesses) → All_ (in_processes ps) → UnknownGives (parts_in_all xs (bare_processes ps))
      all_unknown_give xs no_processes all = gives_none
      all_unknown_give xs (more_processes p ps) all =
          first_both (unknown_name v) (parts_in xs (bare_process p)) (parts_in_all xs (bare_processes ps)) (unknown_gives xs p (all_front Q (in_process p) (in_processes ps) all)) (all_unknown_give xs ps (all_back Q (in_process p) (in_processes ps) all))

    unknown_in_declaration : (xs : Variables) (d : PlainDecl) → All_ (names_of_variables xs) → All_ (in_declaration d) → UnknownGives (parts_under xs (bare_declaration d))
    unknown_in_declaration xs (decls.sorts_decl span ns) names all = gives_none
    unknown_in_declaration xs (decls.alias_decl span n s) names all = gives_none
    unknown_in_declaration xs (decls.struct_decl span n cs) names all = gives_none
    unknown_in_declaration xs (decls.cons_decl span ns ss to) names all = gives_none
    unknown_in_declaration xs (decls.map_decl span ns ss to) names all = gives_none
    unknown_in_declaration xs (decls.vars_decl span gs) names all = gives_none
    unknown_in_declaration xs (decls.equation_decl span c l r) names all =
        let cs : List Name = words_of_option (bare_condition c) in
        let rest = all_back Q (in_condition c) (in_data l ++ in_data r) all in
        part_first xs (an_equation (bare_condition c) (bare_data l) (bare_data r)) [] (words_both v xs (cs ++ words_in (bare_data l)) (words_in (bare_data r))
        (words_both v xs cs (words_in (bare_data l)) (condition_gives v xs c (all_front Q (in_condition c) (in_data l ++ in_data r) all)) (data_gives v xs l (all_front Q (in_data l) (in_data r) rest))) (data_gives v xs r (all_back Q (in_data l) (in_data r) rest)))
        gives_none
    unknown_in_declaration xs (decls.act_decl span ns ss) names all = gives_none
    unknown_in_declaration xs (decls.proc_decl span p gs body) names all = unknown_gives (bare_variables gs) body (all_back Q (flat_map in_group gs) (in_process body) all.1)
    unknown_in_declaration xs (decls.init_decl span body) names all = unknown_gives [] body all

    -- ---- 14
    abbrev ParametersHold : Parameters → Type 0
    ParametersHold ps = AllByRecursion (λ (p : Name × Sort). Q p.0) ps

    module _ (hold : (x : Name) (r : ℕ × Parameters) → process_named v x ≡ Some r → ParametersHold r.1) where
      abbrev FreeGives : List ScopedPart → Type 0
      FreeGives ps = Gives (first_of (free_variable v) ps)

      call_gives : (xs : Variables) (x : Name) (ds : List (Name × Expression)) → Gives (first_left_out (scope_of v.declared xs) ds (process_named v x))
      call_gives xs x ds = by_process (process_named v x) refl
        where
          by_process : (o : Option (ℕ × Parameters)) → process_named v x ≡ o → Gives (first_left_out (scope_of v.declared xs) ds o)
          by_process None is = gives_none
          by_process (Some r) is = λ n e.
              mapped (λ (p : Name × Sort). p.0) (find (λ (p : Name × Sort). is_none (first_named p.0 ds) && is_none (left_out (scope_of v.declared xs) p)) r.1) n e
              (λ p there same. subst Q same (found_holds (λ (q : Name × Sort). Q q.0) (λ (p : Name × Sort). is_none (first_named p.0 ds) && is_none (left_out (scope_of v.declared xs) p)) r.1 (hold x r is) p there))

      free_first : (p : ScopedPart) (ps : List ScopedPart) → Gives (free_variable v p) → FreeGives ps → FreeGives (p ∷ ps)
      free_first p ps f g = gives_or (free_variable v p) (first_of (free_variable v) ps) f g

      mutual
        free_gives : (xs : Variables) (p : Process) → FreeGives (parts_in xs p)
        free_gives xs bare.delta = gives_none
        free_gives xs (bare.acts as_) = gives_none
        free_gives xs (bare.call x ds) = free_first (scoped xs (a_call x ds)) [] (call_gives xs x ds) gives_none
        free_gives xs (bare.allow sets p) = free_gives xs p
        free_gives xs (bare.block ns p) = free_gives xs p
        free_gives xs (bare.hide ns p) = free_gives xs p
        free_gives xs (bare.rename rs p) = free_gives xs p
        free_gives xs (bare.comm cs p) = free_gives xs p
        free_gives xs (bare.sequence ps) = all_free_give xs ps
        free_gives xs (bare.sum ys p) = free_gives (xs ++ ys) p
        free_gives xs (bare.when e p) = free_gives xs p
        free_gives xs (bare.either e p q) = first_both (free_variable v) (parts_in xs p) (parts_in xs q) (free_gives xs p) (free_gives xs q)
        free_gives xs (bare.sync ps) = all_free_give xs ps
        free_gives xs (bare.left_merge p q) = first_both (free_variable v) (parts_in xs p) (parts_in xs q) (free_gives xs p) (free_gives xs q)
        free_gives xs (bare.parallel ps) = all_free_give xs ps
        free_gives xs (bare.choice ps) = all_free_give xs ps

        all_free_give : (xs : Variables) (ps : Processes) → FreeGives (parts_in_all xs ps)
        all_free_give xs bare.none = gives_none
        all_free_give xs (bare.more p ps) = first_both (free_variable v) (parts_in xs p) (parts_in_all xs ps) (free_gives xs p) (all_free_give xs ps)

      free_in_declaration : (xs : Variables) (d : PlainDecl) → All_ (names_of_variables xs) → All_ (in_declaration d) → FreeGives (parts_under xs (bare_declaration d))
      free_in_declaration xs (decls.sorts_decl span ns) names all = gives_none
      free_in_declaration xs (decls.alias_decl span n s) names all = gives_none
      free_in_declaration xs (decls.struct_decl span n cs) names all = gives_none
      free_in_declaration xs (decls.cons_decl span ns ss to) names all = gives_none
      free_in_declaration xs (decls.map_decl span ns ss to) names all = gives_none
      free_in_declaration xs (decls.vars_decl span gs) names all = gives_none
      free_in_declaration xs (decls.equation_decl span c l r) names all =
          free_first (scoped xs (an_equation (bare_condition c) (bare_data l) (bare_data r))) []
          (λ n e.
          among_names n (names_of_variables xs) names
          (first_true (stands_in n (names_of_variables xs)) (not (stands_in n (words_in (bare_data l))))
          (found_passes (λ x. stands_in x (names_of_variables xs) && not (stands_in x (words_in (bare_data l)))) (words_of_option (bare_condition c) ++ words_in (bare_data r)) n e))) gives_none
      free_in_declaration xs (decls.act_decl span ns ss) names all = gives_none
      free_in_declaration xs (decls.proc_decl span p gs body) names all = free_gives (bare_variables gs) (bare_process body)
      free_in_declaration xs (decls.init_decl span body) names all = free_gives [] (bare_process body)

  -- ---- 17
  again_gives : (ns : List Name) → All_ ns → Gives (first_again ns)
  again_gives [] all = gives_none
  again_gives (n ∷ ns) all = by_test (again_gives ns all.1) (stands_in n ns)
    where
      by_test : Gives (first_again ns) → (b : Bool) → Gives (cond b (Some n) (first_again ns))
      by_test later true = λ m e. subst Q (same_Some n m e) all.0
      by_test later false = later

  froms_hold : (rs : List PlainRenaming) → All_ (flat_map in_renaming rs) → All_ (map (λ (r : Renaming). r.from) (map operators.renaming_of (map (λ (r : PlainRenaming). (r.old.bytes, r.renamed.bytes)) rs)))
  froms_hold [] all = tt
  froms_hold (r ∷ rs) all = (all.0, froms_hold rs all.1.1)

  abbrev AgainGives : List Around → Type 0
  AgainGives os = Gives (first_of renamed_twice os)

  again_both : (os ps : List Around) → AgainGives os → AgainGives ps → AgainGives (os ++ ps)
  again_both os ps g h = gives_same (first_of renamed_twice (os ++ ps)) (option_or (first_of renamed_twice os) (first_of renamed_twice ps)) (first_append renamed_twice os ps) (gives_or (first_of renamed_twice os) (first_of renamed_twice ps) g h)

  mutual
    twice_gives : (p : PlainProcess) → All_ (in_process p) → AgainGives (operators_in (bare_process p))
    twice_gives (trees.delta span) all = gives_none
    twice_gives (trees.acts a) all = gives_none
    twice_gives (trees.multi span as_) all = gives_none
    twice_gives (trees.sync span ps) all = all_twice_give ps all
    twice_gives (trees.call span p ds) all = gives_none
    twice_gives (trees.within span p) all = twice_gives p all
    twice_gives (trees.allow span sets p) all = twice_gives p (all_back Q (flat_map in_set sets) (in_process p) all)
    twice_gives (trees.block span ns p) all = twice_gives p (all_back Q (bare_names ns) (in_process p) all)
    twice_gives (trees.hide span ns p) all = twice_gives p (all_back Q (bare_names ns) (in_process p) all)
    twice_gives (trees.rename span rs p) all =
        gives_or (renamed_twice (renamed rs)) (first_of renamed_twice (operators_in (bare_process p))) (again_gives (map (λ (r : Renaming). r.from) (map operators.renaming_of (map (λ (r : PlainRenaming). (r.old.bytes, r.renamed.bytes)) rs))) (froms_hold rs (all_front Q (flat_map in_renaming rs) (in_process p) all))) (twice_gives p (all_back Q (flat_map in_renaming rs) (in_process p) all))
    twice_gives (trees.comm span cs p) all = twice_gives p (all_back Q (flat_map in_rule cs) (in_process p) all)
    twice_gives (trees.sequence span ps) all = all_twice_give ps all
    twice_gives (trees.sum span gs p) all = twice_gives p (all_back Q (flat_map in_group gs) (in_process p) all)
    twice_gives (trees.when span d p) all = twice_gives p (all_back Q (in_data d) (in_process p) all)
    twice_gives (trees.either span d p q) all =
        let rest = all_back Q (in_data d) (in_process p ++ in_process q) all in
        again_both (operators_in (bare_process p)) (operators_in (bare_process q)) (twice_gives p (all_front Q (in_process p) (in_process q) rest)) (twice_gives q (all_back Q (in_process p) (in_process q) rest))
    twice_gives (trees.left_merge span p q) all =
        again_both (operators_in (bare_process p)) (operators_in (bare_process q)) (twice_gives p (all_front Q (in_process p) (in_process q) all)) (twice_gives q (all_back Q (in_process p) (in_process q) all))
    twice_gives (trees.parallel span ps) all = all_twice_give ps all
    twice_gives (trees.choice span ps) all = all_twice_give ps all

    all_twice_give : (ps : PlainProcesses) → All_ (in_processes ps) → AgainGives (operators_in_all (bare_processes ps))
    all_twice_give no_processes all = gives_none
    all_twice_give (more_processes p ps) all =
        again_both (operators_in (bare_process p)) (operators_in_all (bare_processes ps)) (twice_gives p (all_front Q (in_process p) (in_processes ps) all)) (all_twice_give ps (all_back Q (in_process p) (in_processes ps) all))

  twice_in_declaration : (xs : Variables) (d : PlainDecl) → All_ (names_of_variables xs) → All_ (in_declaration d) → AgainGives (operators_of (bare_declaration d))
  twice_in_declaration xs (decls.sorts_decl span ns) names all = gives_none
  twice_in_declaration xs (decls.alias_decl span n s) names all = gives_none
  twice_in_declaration xs (decls.struct_decl span n cs) names all = gives_none
  twice_in_declaration xs (decls.cons_decl span ns ss to) names all = gives_none
  twice_in_declaration xs (decls.map_decl span ns ss to) names all = gives_none
  twice_in_declaration xs (decls.vars_decl span gs) names all = gives_none
  twice_in_declaration xs (decls.equation_decl span c l r) names all = gives_none
  twice_in_declaration xs (decls.act_decl span ns ss) names all = gives_none
  twice_in_declaration xs (decls.proc_decl span p gs body) names all = twice_gives body (all_back Q (flat_map in_group gs) (in_process body) all.1)
  twice_in_declaration xs (decls.init_decl span body) names all = twice_gives body all

  -- ---- names of variables
  words_hold : (e : SortExpression) (ws : List PlainWord) → All_ (bare_names ws) → All_ (names_of_variables (map (λ (w : PlainWord). (w.bytes, e)) ws))
  words_hold e [] all = tt
  words_hold e (w ∷ ws) all = (all.0, words_hold e ws all.1)

  both_hold : (xs ys : Variables) → All_ (names_of_variables xs) → All_ (names_of_variables ys) → All_ (names_of_variables (xs ++ ys))
  both_hold xs ys f g = subst All_ (sym (map-append (λ (x : Name × SortExpression). x.0) xs ys)) (all_both Q (names_of_variables xs) (names_of_variables ys) f g)

  groups_hold : (gs : List PlainVarGroup) → All_ (flat_map in_group gs) → All_ (names_of_variables (bare_variables gs))
  groups_hold [] all = tt
  groups_hold (g ∷ gs) all =
      both_hold (bare_group g) (bare_variables gs) (words_hold (bare_sort g.sort) g.names (all_front Q (bare_names g.names) (in_sort g.sort) (all_front Q (in_group g) (flat_map in_group gs) all))) (groups_hold gs (all_back Q (in_group g) (flat_map in_group gs) all))

  declared_hold : (d : PlainDecl) → All_ (in_declaration d) → All_ (names_of_variables (variables_by (bare_declaration d)))
  declared_hold (decls.sorts_decl span ns) all = tt
  declared_hold (decls.alias_decl span n s) all = tt
  declared_hold (decls.struct_decl span n cs) all = tt
  declared_hold (decls.cons_decl span ns ss to) all = tt
  declared_hold (decls.map_decl span ns ss to) all = tt
  declared_hold (decls.vars_decl span gs) all = groups_hold gs all
  declared_hold (decls.equation_decl span c l r) all = tt
  declared_hold (decls.act_decl span ns ss) all = tt
  declared_hold (decls.proc_decl span p gs body) all = tt
  declared_hold (decls.init_decl span body) all = tt

  section_hold : (ds : List PlainDecl) → All_ (flat_map in_declaration ds) → All_ (names_of_variables (flat_map variables_by (map bare_declaration ds)))
  section_hold [] all = tt
  section_hold (d ∷ ds) all =
      both_hold (variables_by (bare_declaration d)) (flat_map variables_by (map bare_declaration ds)) (declared_hold d (all_front Q (in_declaration d) (flat_map in_declaration ds) all)) (section_hold ds (all_back Q (in_declaration d) (flat_map in_declaration ds) all))

  -- ---- of processes
  entry_holds : (v : Vocabulary) (xs : Variables) (ps : Parameters) → parameters_in v.sort_names xs ≡ Some ps → All_ (names_of_variables xs) → AllByRecursion (λ (p : Name × Sort). Q p.0) ps
  entry_holds v [] ps e all = subst (AllByRecursion (λ (p : Name × Sort). Q p.0)) (same_Some [] ps e) tt
  entry_holds v (x ∷ xs) ps e all = of_sort (λ qs is. entry_holds v xs qs is all.1) (sort_in v.sort_names x.1) e
    where
      of_rest : ((qs : Parameters) → parameters_in v.sort_names xs ≡ Some qs → AllByRecursion (λ (p : Name × Sort). Q p.0) qs) → (s : Sort) (rest : Option Parameters) → parameters_in v.sort_names xs ≡ rest → option_map (λ qs. (x.0, s) ∷ qs) rest ≡ Some ps → AllByRecursion (λ (p : Name × Sort). Q p.0) ps
      of_rest later s None is f = absurd (none-some ps f)
      of_rest later s (Some qs) is f = subst (AllByRecursion (λ (p : Name × Sort). Q p.0)) (same_Some ((x.0, s) ∷ qs) ps f) (all.0, later qs is)

      of_sort : ((qs : Parameters) → parameters_in v.sort_names xs ≡ Some qs → AllByRecursion (λ (p : Name × Sort). Q p.0) qs) → (o : Option Sort) → option_and_then (λ s. option_map (λ qs. (x.0, s) ∷ qs) (parameters_in v.sort_names xs)) o ≡ Some ps → AllByRecursion (λ (p : Name × Sort). Q p.0) ps
      of_sort later None f = absurd (none-some ps f)
      of_sort later (Some s) f = of_rest later s (parameters_in v.sort_names xs) refl f

  found_process : (v : Vocabulary) (k : ℕ) (x : Name) (ws : List Written) (rs : List (Name × Parameters)) → EachPair (IsEntry v) ws rs → AllByRecursion (λ (w : Written). All_ (names_of_variables w.parameters)) ws
      → (r : ℕ × Parameters) → process_from k x rs ≡ Some r → AllByRecursion (λ (p : Name × Sort). Q p.0) r.1
  found_process v k x [] [] pairs all r e = absurd (none-some r e)
  found_process v k x [] (s ∷ rs) pairs all r e = absurd pairs
  found_process v k x (w ∷ ws) [] pairs all r e = absurd pairs
  found_process v k x (w ∷ ws) (s ∷ rs) pairs all r e = by_test (found_process v (suc k) x ws rs pairs.1 all.1 r) (bytes_eq s.0 x) e
    where
      by_test : (process_from (suc k) x rs ≡ Some r → AllByRecursion (λ (p : Name × Sort). Q p.0) r.1) → (b : Bool) → cond b (Some (k, s.1)) (process_from (suc k) x rs) ≡ Some r → AllByRecursion (λ (p : Name × Sort). Q p.0) r.1
      by_test later true f = subst (λ (q : ℕ × Parameters). AllByRecursion (λ (p : Name × Sort). Q p.0) q.1) (same_Some (k, s.1) r f) (entry_holds v w.parameters s.1 pairs.0.parameters all.0)
      by_test later false f = later f

  written_holds : (d : PlainDecl) → All_ (in_declaration d) → AllByRecursion (λ (w : Written). All_ (names_of_variables w.parameters)) (process_by (bare_declaration d))
  written_holds (decls.sorts_decl span ns) all = tt
  written_holds (decls.alias_decl span n s) all = tt
  written_holds (decls.struct_decl span n cs) all = tt
  written_holds (decls.cons_decl span ns ss to) all = tt
  written_holds (decls.map_decl span ns ss to) all = tt
  written_holds (decls.vars_decl span gs) all = tt
  written_holds (decls.equation_decl span c l r) all = tt
  written_holds (decls.act_decl span ns ss) all = tt
  written_holds (decls.proc_decl span p gs body) all = (groups_hold gs (all_front Q (flat_map in_group gs) (in_process body) all.1), tt)
  written_holds (decls.init_decl span body) all = tt

  writtens_hold : (ds : List PlainDecl) → All_ (flat_map in_declaration ds) → AllByRecursion (λ (w : Written). All_ (names_of_variables w.parameters)) (processes_in (map bare_declaration ds))
  writtens_hold [] all = tt
  writtens_hold (d ∷ ds) all =
      all_both (λ (w : Written). All_ (names_of_variables w.parameters)) (process_by (bare_declaration d)) (processes_in (map bare_declaration ds)) (written_holds d (all_front Q (in_declaration d) (flat_map in_declaration ds) all)) (writtens_hold ds (all_back Q (in_declaration d) (flat_map in_declaration ds) all))

  flat_processes : (ds es : List Declaration) → processes_in (ds ++ es) ≡ processes_in ds ++ processes_in es
  flat_processes ds es = flat_map-append process_by ds es

  text_holds : (ss : List PlainSection) → All_ (flat_map in_section ss) → AllByRecursion (λ (w : Written). All_ (names_of_variables w.parameters)) (processes_in (declarations_in (map bare_section ss)))
  text_holds [] all = tt
  text_holds (s ∷ ss) all =
      subst (AllByRecursion (λ (w : Written). All_ (names_of_variables w.parameters))) (sym (flat_processes (map bare_declaration s.declarations) (declarations_in (map bare_section ss))))
      (all_both (λ (w : Written). All_ (names_of_variables w.parameters)) (processes_in (map bare_declaration s.declarations)) (processes_in (declarations_in (map bare_section ss)))
      (writtens_hold s.declarations (all_front Q (in_section s) (flat_map in_section ss) all)) (text_holds ss (all_back Q (in_section s) (flat_map in_section ss) all)))

  -- ---- of a text
  module _ (f : ScopedDeclaration → Option Name) (each : (xs : Variables) (d : PlainDecl) → All_ (names_of_variables xs) → All_ (in_declaration d) → Gives (f (record { variables = xs; declaration = bare_declaration d }))) where
    in_front : (xs : Variables) → All_ (names_of_variables xs) → (ds : List PlainDecl) → All_ (flat_map in_declaration ds) → (rest : List ScopedDeclaration) → AllByRecursion (λ (d : ScopedDeclaration). Gives (f d)) rest
        → AllByRecursion (λ (d : ScopedDeclaration). Gives (f d)) (map (λ d. record { variables = xs; declaration = d }) (map bare_declaration ds) ++ rest)
    in_front xs names [] all rest more = more
    in_front xs names (d ∷ ds) all rest more = (each xs d names (all_front Q (in_declaration d) (flat_map in_declaration ds) all), in_front xs names ds (all_back Q (in_declaration d) (flat_map in_declaration ds) all) rest more)

    in_sections : (xs : Variables) → All_ (names_of_variables xs) → (ss : List PlainSection) → All_ (flat_map in_section ss) → AllByRecursion (λ (d : ScopedDeclaration). Gives (f d)) (scoped_behind xs (map bare_section ss))
    in_sections xs names [] all = tt
    in_sections xs names (s ∷ ss) all =
        let here = all_front Q (in_section s) (flat_map in_section ss) all in
        in_front xs names s.declarations here (scoped_behind (flat_map variables_by (map bare_declaration s.declarations)) (map bare_section ss))
        (in_sections (flat_map variables_by (map bare_declaration s.declarations)) (section_hold s.declarations here) ss (all_back Q (in_section s) (flat_map in_section ss) all))

    from_holds : (k : ℕ) (ds : List ScopedDeclaration) → AllByRecursion (λ (d : ScopedDeclaration). Gives (f d)) ds → (r : ℕ × Name) → first_from f k ds ≡ Some r → Q r.1
    from_holds k [] all r e = absurd (none-some r e)
    from_holds k (d ∷ ds) all r e =
        one_or_other (option_map (λ a. (k, a)) (f d)) (first_from f (suc k) ds) r e
        (λ w. mapped (λ a. (k, a)) (f d) r w (λ n there same. subst (λ (q : ℕ × Name). Q q.1) same (all.0 n there)))
        (λ w. from_holds (suc k) ds all.1 r w)

  -- the name of the first fault
  module _ (spec : PlainSpec) (all : All_ (identifiers_in spec)) (v : FullVocabulary) (pairs : EachPair (IsEntry v.declared) (processes_in (declarations_in (bare_sections spec))) v.processes) where
    abbrev ss : List Section
    ss = bare_sections spec

    processes_hold : (x : Name) (r : ℕ × Parameters) → process_named v x ≡ Some r → AllByRecursion (λ (p : Name × Sort). Q p.0) r.1
    processes_hold x r e = found_process v.declared zero x (processes_in (declarations_in ss)) v.processes pairs (text_holds spec.sections all) r e

    pub its_name_holds : (fault : TypeFault) → type_fault v ss ≡ Some fault → HoldsOfName Q fault
    its_name_holds fault e =
        one_or_other (option_map (λ (r : ℕ × Name). unknown_in r.0 r.1) (unknown_fault v ss)) _ fault e
        (λ w. mapped (λ (r : ℕ × Name). unknown_in r.0 r.1) (unknown_fault v ss) fault w
        (λ r there same. subst (HoldsOfName Q) same
        (from_holds (λ (d : ScopedDeclaration). first_of (unknown_name v) (parts_under d.variables d.declaration)) (unknown_in_declaration v) 1 (scoped_behind [] (map bare_section spec.sections))
        (in_sections (λ (d : ScopedDeclaration). first_of (unknown_name v) (parts_under d.variables d.declaration)) (unknown_in_declaration v) [] tt spec.sections all) r there)))
        (λ w. one_or_other (option_map untyped (untyped_fault v ss)) _ fault w
        (λ w. mapped untyped (untyped_fault v ss) fault w (λ d there same. subst (HoldsOfName Q) same tt))
        (λ w. one_or_other (option_map (λ (r : ℕ × Name). free_in r.0 r.1) (free_fault v ss)) _ fault w
        (λ w. mapped (λ (r : ℕ × Name). free_in r.0 r.1) (free_fault v ss) fault w
        (λ r there same. subst (HoldsOfName Q) same
        (from_holds (λ (d : ScopedDeclaration). first_of (free_variable v) (parts_under d.variables d.declaration)) (free_in_declaration v processes_hold) 1 (scoped_behind [] (map bare_section spec.sections))
        (in_sections (λ (d : ScopedDeclaration). first_of (free_variable v) (parts_under d.variables d.declaration)) (free_in_declaration v processes_hold) [] tt spec.sections all) r there)))
        (λ w. one_or_other (option_map variable_left (left_fault ss)) _ fault w
        (λ w. mapped variable_left (left_fault ss) fault w (λ d there same. subst (HoldsOfName Q) same tt))
        (λ w. one_or_other (option_map comm_shape (comm_fault v ss)) _ fault w
        (λ w. mapped comm_shape (comm_fault v ss) fault w (λ d there same. subst (HoldsOfName Q) same tt))
        (λ w. one_or_other (option_map (λ (r : ℕ × Name). rename_twice r.0 r.1) (rename_fault ss)) None fault w
        (λ w. mapped (λ (r : ℕ × Name). rename_twice r.0 r.1) (rename_fault ss) fault w
        (λ r there same. subst (HoldsOfName Q) same
        (from_holds (λ (d : ScopedDeclaration). first_of renamed_twice (operators_of d.declaration)) twice_in_declaration 1 (scoped_behind [] (map bare_section spec.sections))
        (in_sections (λ (d : ScopedDeclaration). first_of renamed_twice (operators_of d.declaration)) twice_in_declaration [] tt spec.sections all) r there)))
        (λ w. absurd (none-some fault w)))))))
