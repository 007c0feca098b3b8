-- The first unknown names of trees are those of the parts that they are.
use Rattle.std.proofs.Common.{◌≡◌, ◌-◌, ℕ, zero, suc, Bool, true, false, not, cond, ◌||◌, List, [], ◌∷◌, ◌++◌, length, map, take, refl, sym, ap, ap₂, ◌∙◌}
use Rattle.std.specs.Prelude.{Option, Some, None, option_map}
use Rattle.std.specs.Option.{option_or}
use Rattle.std.specs.List.{find, flat_map}
use Rattle.std.proofs.lemmas.List.{map-append, length-map}
use Rattle.std.proofs.lemmas.List.Folds.{find-append}
use Rattle.mcrl2_syntax.specs.declared.declaration.EquationTree.{EquationTree}
use Rattle.mcrl2_syntax.specs.Declarations.{some_data}
use Rattle.mcrl2_syntax.specs.DataTrees.{PlainData, plain_data, datas_of}
use Rattle.mcrl2_syntax.specs.ProcessParts.{PlainAction, tau_action, named_action, PlainAssignment, PlainNameSet, PlainRenaming, PlainCommRule, plain_action, assignment_of, name_set_of, renaming_of, comm_rule_of, var_group_of}
use Rattle.mcrl2_syntax.specs.Words.{word_of}
use Rattle.process_terms.specs.Processes as written
use Rattle.process_terms.specs.Processes.{Around}
use Rattle.sort_table.specs.Expressions.{Name, Expression}
use Rattle.sort_table.specs.BareData.{bare_data}
use Rattle.sort_table.specs.BareDeclarations.{bare_condition}
use Rattle.sort_table.specs.BareProcesses.{Variables, bare_names, bare_action, bare_variables}
use Rattle.sort_table.specs.BareSorts.{SortExpression}
use Rattle.sort_table.specs.Identifiers.{in_data, in_datas, in_condition}
use Rattle.data_typing.specs.Typings.{first_of}
use Rattle.sort_checker.specs.declared.known_names.KnownNames.{KnownNames}
use Rattle.sort_checker.specs.declared.stops.PartTree.{PartTree}
use Rattle.sort_checker.specs.declared.stops.PartTree.TheVariants as parts
use Rattle.sort_checker.specs.declared.stops.StopTree.{StopTree}
use Rattle.sort_checker.specs.declared.stops.StopTree.TheVariants as stops
use Rattle.sort_checker.specs.FullVocabularies.{FullVocabulary}
use Rattle.sort_checker.specs.NameNumbers.{has_name}
use Rattle.sort_checker.specs.Operators as operators
use Rattle.sort_checker.specs.Operators.{stands_in, names_of, rule_of}
use Rattle.sort_checker.specs.Parts.{an_equation, scoped}
use Rattle.sort_checker.specs.Faults.{words_in, words_of_option, Use, of_data, of_process, of_action, name_of, names_of_variables, is_known, uses_in_data, uses_of_action, unknown_name}
use Rattle.sort_checker.specs.Stops.{without, scoped_along}
use Rattle.sort_checker.specs.StopTrees.{part_of, stops_of}
use Rattle.sort_checker.specs.UnknownTrees.{unknown_word, unknown_in_data, unknown_in_datas, unknown_process, unknown_action, unknown_in_action, unknown_in_actions, unknown_in_part, unknown_along, unknown_in_equation, IsKnown}
use Rattle.sort_checker.proofs.Firsts.{or_none}
use Rattle.sort_checker.proofs.UnknownWords.{first_unknown, identifiers_unknown, named_unknown}

-- ---- lists
pub find_same : {A : Type 0} (p q : A → Bool) → ((x : A) → p x ≡ q x) → (xs : List A) → find p xs ≡ find q xs
find_same p q h [] = refl
find_same p q h (x ∷ xs) = ap₂ (λ (b : Bool) (o : _). cond b (Some x) o) (h x) (find_same p q h xs)

flat_mapped : {A B C : Type 0} (f : B → List C) (g : A → B) (xs : List A) → flat_map f (map g xs) ≡ flat_map (λ x. f (g x)) xs
flat_mapped f g [] = refl
flat_mapped f g (x ∷ xs) = ap (λ ys. f (g x) ++ ys) (flat_mapped f g xs)

flat_alike : {A C : Type 0} (f g : A → List C) → ((x : A) → f x ≡ g x) → (xs : List A) → flat_map f xs ≡ flat_map g xs
flat_alike f g h [] = refl
flat_alike f g h (x ∷ xs) = ap₂ (λ ys zs. ys ++ zs) (h x) (flat_alike f g h xs)

map_take : {A B : Type 0} (f : A → B) (n : ℕ) (xs : List A) → map f (take n xs) ≡ take n (map f xs)
map_take f zero xs = refl
map_take f (suc n) [] = refl
map_take f (suc n) (x ∷ xs) = ap (λ ys. f x ∷ ys) (map_take f n xs)

or_or : {A : Type 0} (o p q : Option A) → option_or (option_or o p) q ≡ option_or o (option_or p q)
or_or None p q = refl
or_or (Some x) p q = refl

map_or : {A B : Type 0} (f : A → B) (o p : Option A) → option_map f (option_or o p) ≡ option_or (option_map f o) (option_map f p)
map_or f None p = refl
map_or f (Some x) p = refl

module _ (v : FullVocabulary) (xs : Variables) (k : KnownNames) (known : IsKnown v k) where
  abbrev names : List Name
  names = names_of_variables xs

  abbrev among : List Use → Option Name
  among us = option_map name_of (find (λ u. not (is_known v xs u)) us)

  both_among : (us ws : List Use) → among (us ++ ws) ≡ option_or (among us) (among ws)
  both_among us ws = ap (option_map name_of) (find-append (λ u. not (is_known v xs u)) us ws) ∙ map_or name_of (find (λ u. not (is_known v xs u)) us) (find (λ u. not (is_known v xs u)) ws)

  -- ---- data
  word_unknown : (fs : List Name) → unknown_word k names fs ≡ first_unknown v xs fs
  word_unknown fs = find_same (λ f. not (stands_in f names || has_name k.functions f)) _ (λ f. ap (λ (b : Bool). not (stands_in f names || b)) (known.functions f)) fs

  data_among : (fs : List Name) → among (map of_data fs) ≡ unknown_word k names fs
  data_among fs = named_unknown v xs fs ∙ sym (word_unknown fs)

  identifiers_among : (d : PlainData) → among (map of_data (words_in (bare_data d))) ≡ unknown_in_data k names d
  identifiers_among d = named_unknown v xs (words_in (bare_data d)) ∙ (identifiers_unknown v xs d ∙ sym (word_unknown (in_data d)))

  both_unknown : (fs gs : List Name) → unknown_word k names (fs ++ gs) ≡ option_or (unknown_word k names fs) (unknown_word k names gs)
  both_unknown fs gs = find-append (λ f. not (stands_in f names || has_name k.functions f)) fs gs

  map_of_data : (fs gs : List Name) → among (map of_data (fs ++ gs)) ≡ option_or (among (map of_data fs)) (among (map of_data gs))
  map_of_data fs gs = ap among (map-append of_data fs gs) ∙ both_among (map of_data fs) (map of_data gs)

  datas_among : (ds : List PlainData) → among (uses_in_data (map bare_data ds)) ≡ unknown_in_datas k names ds
  datas_among [] = refl
  datas_among (d ∷ ds) =
      map_of_data (words_in (bare_data d)) (flat_map words_in (map bare_data ds))
      ∙ (ap₂ option_or (identifiers_among d) (datas_among ds) ∙ sym (both_unknown (in_data d) (in_datas (datas_of ds))))

  values_among : (as_ : List PlainAssignment) → among (uses_in_data (map (λ (d : Name × Expression). d.1) (map (λ (d : PlainAssignment). (d.name.bytes, bare_data d.value)) as_))) ≡ unknown_word k names (flat_map (λ (x : PlainAssignment). in_data x.value) as_)
  values_among [] = refl
  values_among (a ∷ as_) =
      map_of_data (words_in (bare_data a.value)) (flat_map words_in (map (λ (d : Name × Expression). d.1) (map (λ (d : PlainAssignment). (d.name.bytes, bare_data d.value)) as_)))
      ∙ (ap₂ option_or (identifiers_among a.value) (values_among as_) ∙ sym (both_unknown (in_data a.value) (flat_map (λ (x : PlainAssignment). in_data x.value) as_)))

  -- ---- actions and processes
  process_among : (x : Name) (us : List Use) → among (of_process x ∷ us) ≡ option_or (unknown_process k x) (among us)
  process_among x us =
      ap₂ (λ (a b : Bool). option_map name_of (cond (not (a || b)) (Some (of_process x)) (find (λ u. not (is_known v xs u)) us))) (sym (known.actions x)) (sym (known.processes x)) ∙ by_test (has_name k.actions x || has_name k.processes x)
    where
      by_test : (b : Bool) → option_map name_of (cond (not b) (Some (of_process x)) (find (λ u. not (is_known v xs u)) us)) ≡ option_or (cond b None (Some x)) (among us)
      by_test true = refl
      by_test false = refl

  actions_among : (ns : List Name) → among (map of_action ns) ≡ unknown_action k ns
  actions_among [] = refl
  actions_among (n ∷ ns) = ap (λ (b : Bool). option_map name_of (cond (not b) (Some (of_action n)) (find (λ u. not (is_known v xs u)) (map of_action ns)))) (sym (known.actions n)) ∙ by_test (has_name k.actions n) (actions_among ns)
    where
      by_test : (b : Bool) → among (map of_action ns) ≡ unknown_action k ns → option_map name_of (cond (not b) (Some (of_action n)) (find (λ u. not (is_known v xs u)) (map of_action ns))) ≡ cond (not b) (Some n) (unknown_action k ns)
      by_test true h = h
      by_test false h = refl

  action_among : (a : PlainAction) → among (uses_of_action (bare_action a)) ≡ unknown_in_action k names a
  action_among (tau_action span) = refl
  action_among (named_action span f ds) = process_among f.bytes (uses_in_data (map bare_data ds)) ∙ ap (λ (o : Option Name). option_or (unknown_process k f.bytes) o) (datas_among ds)

  label_among : (as_ : List PlainAction) → among (flat_map uses_of_action (map bare_action as_)) ≡ unknown_in_actions k names as_
  label_among [] = refl
  label_among (a ∷ as_) = both_among (uses_of_action (bare_action a)) (flat_map uses_of_action (map bare_action as_)) ∙ ap₂ option_or (action_among a) (label_among as_)

  -- ---- parts
  pub part_unknown : (p : PartTree) → unknown_in_part k names p ≡ unknown_name v (scoped xs (part_of p))
  part_unknown (parts.Action a) = sym (label_among (plain_action a.now ∷ []) ∙ or_none (unknown_in_action k names (plain_action a.now)))
  part_unknown (parts.Multi as_) = sym (label_among (map plain_action as_.now))
  part_unknown (parts.Call w ds) = sym (process_among (word_of w.now).bytes _ ∙ ap (λ (o : Option Name). option_or (unknown_process k (word_of w.now).bytes) o) (values_among (map assignment_of ds.now)))
  part_unknown (parts.Condition d) = sym (map_of_data (words_in (bare_data (plain_data d.now))) [] ∙ (or_none (among (map of_data (words_in (bare_data (plain_data d.now))))) ∙ identifiers_among (plain_data d.now)))
  part_unknown (parts.Allow sets) =
      ap (unknown_action k) (sym (flat_mapped (λ (ys : List Name). ys) (λ (s : PlainNameSet). bare_names s.names) (map name_set_of sets.now)))
      ∙ sym (actions_among (names_of (written.allow (map (λ (s : PlainNameSet). bare_names s.names) (map name_set_of sets.now)))))
  part_unknown (parts.Block ns) = sym (actions_among (bare_names (map word_of ns.now)))
  part_unknown (parts.Hide ns) = sym (actions_among (bare_names (map word_of ns.now)))
  part_unknown (parts.Rename rs) =
      ap (unknown_action k)
      (sym (flat_mapped (λ (r : written.Renaming). r.from ∷ r.to ∷ []) operators.renaming_of (map (λ (r : PlainRenaming). (r.old.bytes, r.renamed.bytes)) (map renaming_of rs.now))
      ∙ flat_mapped (λ (r : Name × Name). r.0 ∷ r.1 ∷ []) (λ (r : PlainRenaming). (r.old.bytes, r.renamed.bytes)) (map renaming_of rs.now)))
      ∙ sym (actions_among (names_of (written.rename (map operators.renaming_of (map (λ (r : PlainRenaming). (r.old.bytes, r.renamed.bytes)) (map renaming_of rs.now))))))
  part_unknown (parts.Comm cs) =
      ap (unknown_action k)
      (sym (flat_mapped (λ c. c.left ++ c.result ∷ []) rule_of (map (λ (r : PlainCommRule). (bare_names r.names, r.outcome.bytes)) (map comm_rule_of cs.now))
      ∙ flat_mapped (λ (c : List Name × Name). c.0 ++ c.1 ∷ []) (λ (r : PlainCommRule). (bare_names r.names, r.outcome.bytes)) (map comm_rule_of cs.now)))
      ∙ sym (actions_among (names_of (written.comm (map rule_of (map (λ (r : PlainCommRule). (bare_names r.names, r.outcome.bytes)) (map comm_rule_of cs.now))))))

  condition_among : (c : Option PlainData) → among (map of_data (words_of_option (bare_condition c))) ≡ unknown_word k names (in_condition c)
  condition_among None = refl
  condition_among (Some d) = identifiers_among d

  pub equation_unknown : (q : EquationTree) → unknown_in_equation k names q ≡ unknown_name v (scoped xs (an_equation (bare_condition (some_data q.condition)) (bare_data (plain_data q.left)) (bare_data (plain_data q.right))))
  equation_unknown q =
      let c : List Name = words_of_option (bare_condition (some_data q.condition)) in
      let l : List Name = words_in (bare_data (plain_data q.left)) in
      let r : List Name = words_in (bare_data (plain_data q.right)) in
      sym (map_of_data (c ++ l) r ∙ (ap₂ option_or (map_of_data c l ∙ ap₂ option_or (condition_among (some_data q.condition)) (identifiers_among (plain_data q.left))) (identifiers_among (plain_data q.right))
      ∙ or_or (unknown_word k names (in_condition (some_data q.condition))) (unknown_in_data k names (plain_data q.left)) (unknown_in_data k names (plain_data q.right))))

-- along the stops of a process term
pub along_unknown : (v : FullVocabulary) (k : KnownNames) → IsKnown v k → (xs : Variables) (ss : List StopTree) → unknown_along k (names_of_variables xs) ss ≡ first_of (unknown_name v) (scoped_along xs (stops_of ss))
along_unknown v k known xs [] = refl
along_unknown v k known xs (stops.Enter gs ∷ ss) =
    let ys : Variables = bare_variables (map var_group_of gs.now) in
    ap (λ (ns : List Name). unknown_along k ns ss) (sym (map-append (λ (x : Name × SortExpression). x.0) xs ys)) ∙ along_unknown v k known (xs ++ ys) ss
along_unknown v k known xs (stops.Leave gs ∷ ss) =
    let ys : Variables = bare_variables (map var_group_of gs.now) in
    let n : length (names_of_variables xs) - length (names_of_variables ys) ≡ length xs - length ys = ap₂ (λ (a b : ℕ). a - b) (length-map xs (λ (x : Name × SortExpression). x.0)) (length-map ys (λ (x : Name × SortExpression). x.0)) in
    ap (λ (ns : List Name). unknown_along k ns ss) (ap (λ (m : ℕ). take m (names_of_variables xs)) n ∙ sym (map_take (λ (x : Name × SortExpression). x.0) (length xs - length ys) xs)) ∙ along_unknown v k known (without ys xs) ss
along_unknown v k known xs (stops.At p ∷ ss) = ap₂ option_or (part_unknown v xs k known p) (along_unknown v k known xs ss)
