-- A text has the same fault of typing over each of its vocabularies.
use Rattle.std.proofs.Common.{◌≡◌, ℕ, zero, suc, Bool, true, false, not, cond, ◌&&◌, ◌||◌, List, [], ◌∷◌, refl, ap, ap₂, sym, ◌∙◌, subst}
use Rattle.std.specs.Prelude.{Option, Some, None, is_some, option_map, option_and_then}
use Rattle.std.specs.Option.{option_or}
use Rattle.std.specs.List.{find, list_all, list_any}
use Rattle.data_theory.specs.Terms.{boolean}
use Rattle.process_terms.specs.Processes.{Around}
use Rattle.sort_table.specs.Expressions.{Name, Expression}
use Rattle.sort_table.specs.BareProcesses.{Variables, Action, tau, act}
use Rattle.sort_table.specs.BareDeclarations.{Section, declarations_in}
use Rattle.sort_table.specs.SortMeanings.{UnderNames, under_names}
use Rattle.data_typing.specs.Typings.{first_of}
use Rattle.sort_checker.specs.FullVocabularies.{Parameters, FullVocabulary, process_named, Written, processes_in, IsFullVocabularyOf}
use Rattle.sort_checker.specs.Faults.{Use, of_data, of_process, of_action, name_of, uses_of, names_of_variables, is_function, is_action, is_known, unknown_name, is_call_typed, is_step_typed, is_typed_in, is_typed, free_among, free_variable, operators_of}
use Rattle.sort_checker.specs.Operators.{stands_in, has_comm_fault}
use Rattle.sort_checker.specs.PartTypings.{arguments_in}
use Rattle.sort_checker.specs.Parts.{Part, a_label, a_call, a_condition, an_operator, an_equation, a_result, ScopedPart, ScopedDeclaration, scoped_declarations, parts_of}
use Rattle.sort_checker.specs.Refusals.{first_from, number_from, TypeFault, unknown_in, untyped, free_in, variable_left, comm_shape, rename_twice, unknown_fault, untyped_fault, free_fault, left_fault, comm_fault, rename_fault, type_fault}
use Rattle.sort_checker.specs.ScopeLaws.{Both, neither, both}
use Rattle.sort_checker.specs.Scopes.{scope_of}
use Rattle.sort_checker.proofs.RelatedTypings.{same_some}
use Rattle.lin_driver.proofs.AlikeTypings.{AlikeScopes}
use Rattle.lin_driver.proofs.SameSorts.{SameSort, same_booleans, sorts_both}
use Rattle.lin_driver.proofs.AlikeParts.{AnyLists, SamePlace, scopes_alike, places_both, action_there, function_there, operators_same, plain_same, comm_same, here, label_both, arguments_both, values_same, right_both, condition_both, left_out_same}

module _ (ds : List Section) (v w : FullVocabulary) (iv : IsFullVocabularyOf (declarations_in ds) v) (iw : IsFullVocabularyOf (declarations_in ds) w) where
  abbrev u : UnderNames
  u = under_names (declarations_in ds)

  pub place_both : (x : Name) → Both (SamePlace u v.declared w.declared) (process_named v x) (process_named w x)
  place_both x = places_both u v.declared w.declared iv.declared iw.declared 0 x (processes_in (declarations_in ds)) v.processes w.processes iv.processes iw.processes

  scopes : (xs : Variables) → AlikeScopes (SameSort u v.declared w.declared) (scope_of v.declared xs) (scope_of w.declared xs)
  scopes xs = scopes_alike u v.declared w.declared iv.declared iw.declared xs

  -- ---- names
  known_same : (xs : Variables) (x : Use) → is_known v xs x ≡ is_known w xs x
  known_same xs (of_data x) = ap (λ (b : Bool). stands_in x (names_of_variables xs) || b) (function_there u v.declared w.declared iv.declared iw.declared x)
  known_same xs (of_process x) = ap₂ (λ (b c : Bool). b || c) (action_there u v.declared w.declared iv.declared iw.declared x) (same_some (place_both x))
  known_same xs (of_action x) = action_there u v.declared w.declared iv.declared iw.declared x

  found_same : (xs : Variables) (us : List Use) → find (λ x. not (is_known v xs x)) us ≡ find (λ x. not (is_known w xs x)) us
  found_same xs [] = refl
  found_same xs (x ∷ us) = ap₂ (λ (b : Bool) (o : Option Use). cond b (Some x) o) (ap not (known_same xs x)) (found_same xs us)

  unknown_same : (p : ScopedPart) → unknown_name v p ≡ unknown_name w p
  unknown_same p = ap (option_map name_of) (found_same p.variables (uses_of p.part))

  -- ---- parts that don't type
  call_typed : (xs : Variables) (a : Action) → is_call_typed v (scope_of v.declared xs) a ≡ is_call_typed w (scope_of w.declared xs) a
  call_typed xs tau = refl
  call_typed xs (act x es) = same_some (call_both (place_both x))
    where
      call_both : {o q : Option (ℕ × Parameters)} → Both (SamePlace u v.declared w.declared) o q
          → Both AnyLists (option_and_then (λ (r : ℕ × Parameters). arguments_in v.declared (scope_of v.declared xs) r.1 es) o) (option_and_then (λ (r : ℕ × Parameters). arguments_in w.declared (scope_of w.declared xs) r.1 es) q)
      call_both neither = neither
      call_both (both h) = arguments_both u v.declared w.declared iv.declared iw.declared (scope_of v.declared xs) (scope_of w.declared xs) (scopes xs) es h.1

  steps_typed : (xs : Variables) (as_ : List Action) → list_all (is_step_typed v (scope_of v.declared xs)) as_ ≡ list_all (is_step_typed w (scope_of w.declared xs)) as_
  steps_typed xs [] = refl
  steps_typed xs (a ∷ as_) =
      ap₂ (λ (b c : Bool). b && c)
      (ap₂ (λ (b c : Bool). b || c) (same_some (label_both u v.declared w.declared iv.declared iw.declared (scope_of v.declared xs) (scope_of w.declared xs) (scopes xs) (a ∷ []))) (call_typed xs a)) (steps_typed xs as_)

  typed_same_in : (xs : Variables) (p : Part) → is_typed_in v (scope_of v.declared xs) p ≡ is_typed_in w (scope_of w.declared xs) p
  typed_same_in xs (a_label as_) = steps_typed xs as_
  typed_same_in xs (a_call x es) = values_same u v.declared w.declared iv.declared iw.declared (scope_of v.declared xs) (scope_of w.declared xs) (scopes xs) es (place_both x)
  typed_same_in xs (a_condition e) = same_some ((here u v.declared w.declared iv.declared iw.declared (scope_of v.declared xs) (scope_of w.declared xs) (scopes xs) e).checks boolean boolean same_booleans)
  typed_same_in xs (an_operator o) = operators_same u v.declared w.declared iv.declared iw.declared o
  typed_same_in xs (an_equation c l r) =
      ap₂ (λ (a b : Bool). a && b) (same_some (condition_both u v.declared w.declared iv.declared iw.declared (scope_of v.declared xs) (scope_of w.declared xs) (scopes xs) c))
      (same_some (right_both u v.declared w.declared iv.declared iw.declared (scope_of v.declared xs) (scope_of w.declared xs) (scopes xs) l r))
  typed_same_in xs (a_result to) = plain_same u v.declared w.declared iv.declared iw.declared (sorts_both u v.declared w.declared iv.declared.sorts iw.declared.sorts to)

  typed_same : (ps : List ScopedPart) → list_all (is_typed v) ps ≡ list_all (is_typed w) ps
  typed_same [] = refl
  typed_same (p ∷ ps) = ap₂ (λ (b c : Bool). b && c) (typed_same_in p.variables p.part) (typed_same ps)

  -- ---- free variables
  free_same_in : (xs : Variables) (p : Part) → free_among v xs p ≡ free_among w xs p
  free_same_in xs (a_label as_) = refl
  free_same_in xs (a_call x es) = left_out_same u v.declared w.declared iv.declared iw.declared (scope_of v.declared xs) (scope_of w.declared xs) (scopes xs) es (place_both x)
  free_same_in xs (a_condition e) = refl
  free_same_in xs (an_operator o) = refl
  free_same_in xs (an_equation c l r) = refl
  free_same_in xs (a_result to) = refl

  -- ---- first ones
  firsts_same : {A : Type 0} (f g : ScopedPart → Option A) → ((p : ScopedPart) → f p ≡ g p) → (ps : List ScopedPart) → first_of f ps ≡ first_of g ps
  firsts_same f g h [] = refl
  firsts_same f g h (p ∷ ps) = ap₂ option_or (h p) (firsts_same f g h ps)

  first_same : {A : Type 0} (f g : ScopedDeclaration → Option A) → ((d : ScopedDeclaration) → f d ≡ g d) → (k : ℕ) (xs : List ScopedDeclaration) → first_from f k xs ≡ first_from g k xs
  first_same f g h k [] = refl
  first_same f g h k (x ∷ xs) = ap₂ option_or (ap (option_map (λ a. (k, a))) (h x)) (first_same f g h (suc k) xs)

  number_same : (f g : ScopedDeclaration → Bool) → ((d : ScopedDeclaration) → f d ≡ g d) → (k : ℕ) (xs : List ScopedDeclaration) → number_from f k xs ≡ number_from g k xs
  number_same f g h k [] = refl
  number_same f g h k (x ∷ xs) = ap₂ (λ (b : Bool) (o : Option ℕ). cond b (Some k) o) (h x) (number_same f g h (suc k) xs)

  operators_any : (os : List Around) → list_any (has_comm_fault v.declared) os ≡ list_any (has_comm_fault w.declared) os
  operators_any [] = refl
  operators_any (o ∷ os) = ap₂ (λ (b c : Bool). b || c) (comm_same u v.declared w.declared iv.declared iw.declared o) (operators_any os)

  -- ---- the whole
  pub faults_same : type_fault v ds ≡ type_fault w ds
  faults_same =
      let a : unknown_fault v ds ≡ unknown_fault w ds = first_same (λ d. first_of (unknown_name v) (parts_of d)) (λ d. first_of (unknown_name w) (parts_of d)) (λ d. firsts_same (unknown_name v) (unknown_name w) unknown_same (parts_of d)) 1 (scoped_declarations ds) in
      let b : untyped_fault v ds ≡ untyped_fault w ds = number_same (λ d. not (list_all (is_typed v) (parts_of d))) (λ d. not (list_all (is_typed w) (parts_of d))) (λ d. ap not (typed_same (parts_of d))) 1 (scoped_declarations ds) in
      let c : free_fault v ds ≡ free_fault w ds = first_same (λ d. first_of (free_variable v) (parts_of d)) (λ d. first_of (free_variable w) (parts_of d)) (λ d. firsts_same (free_variable v) (free_variable w) (λ p. free_same_in p.variables p.part) (parts_of d)) 1 (scoped_declarations ds) in
      let e : comm_fault v ds ≡ comm_fault w ds =
      number_same (λ (d : ScopedDeclaration). list_any (has_comm_fault v.declared) (operators_of d.declaration)) (λ (d : ScopedDeclaration). list_any (has_comm_fault w.declared) (operators_of d.declaration)) (λ d. operators_any (operators_of d.declaration)) 1 (scoped_declarations ds) in
      λ i. first_of (λ (f : Option TypeFault). f)
      (option_map (λ (r : ℕ × Name). unknown_in r.0 r.1) (a i)
      ∷ option_map untyped (b i)
      ∷ option_map (λ (r : ℕ × Name). free_in r.0 r.1) (c i)
      ∷ option_map variable_left (left_fault ds)
      ∷ option_map comm_shape (e i)
      ∷ option_map (λ (r : ℕ × Name). rename_twice r.0 r.1) (rename_fault ds)
      ∷ [])
