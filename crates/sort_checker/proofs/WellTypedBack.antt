-- A text whose parts elaborate has none of the faults 12 to 17.
use Rattle.std.proofs.Common.{◌≡◌, ℕ, suc, Bool, true, false, not, cond, ◌&&◌, ◌||◌, List, [], ◌∷◌, map, refl, ap, ap₂, ◌∙◌}
use Rattle.std.specs.Prelude.{Option, Some, None, option_map}
use Rattle.std.specs.Option.{option_or}
use Rattle.std.specs.List.{AllByRecursion, flat_map, list_all, list_any}
use Rattle.data_theory.specs.Provable.{Equation}
use Rattle.process_terms.specs.Processes.{Body, Definition}
use Rattle.mcrl2_syntax.proofs.Lists.{all_front, all_back}
use Rattle.sort_table.specs.Expressions.{Name}
use Rattle.sort_table.specs.BareProcesses.{Variables, Process}
use Rattle.sort_table.specs.BareDeclarations as bare
use Rattle.sort_table.specs.BareDeclarations.{Declaration, Section, declarations_in}
use Rattle.data_typing.specs.Typings.{first_of}
use Rattle.data_typing.proofs.NamedParts.{all_appended}
use Rattle.data_typing.proofs.WithinLemmas.{all_more}
use Rattle.sort_checker.specs.FullVocabularies.{FullVocabulary, Written, process_by}
use Rattle.sort_checker.specs.Operators.{has_comm_fault, renamed_twice}
use Rattle.sort_checker.specs.Parts.{ScopedDeclaration, variables_by, scoped_behind, scoped_declarations, parts_under, parts_of}
use Rattle.sort_checker.specs.Faults.{unknown_name, is_typed, free_variable, has_variable_left, operators_of}
use Rattle.sort_checker.specs.Refusals.{TypeFault, unknown_in, untyped, free_in, variable_left, comm_shape, rename_twice, first_from, number_from, unknown_fault, untyped_fault, free_fault, left_fault, comm_fault, rename_fault}
use Rattle.sort_checker.specs.Elaborations.{Elaborates, ElaboratesDefinition, WrittenEquation, ElaboratesEquation}
use Rattle.sort_checker.specs.Systems.{equation_under, initial_by}
use Rattle.sort_checker.specs.ScopeLaws.{same_none}
use Rattle.sort_checker.specs.SoundTexts.{IsSoundPart, IsSoundOperator}
use Rattle.sort_checker.specs.WellTypedTexts.{GivesPlainSort, WhatElaboratesIsWellTyped, WellTypedTextsGivePlainSorts}
use Rattle.sort_checker.proofs.ElaboratedEquations.{elaborated_equations_are_sound}
use Rattle.sort_checker.proofs.ElaboratedSound.{bound_sorts, elaborated_processes_are_sound}
use Rattle.sort_checker.proofs.OtherNumbers.{anew, bound_alike}
use Rattle.sort_checker.proofs.ScopedLists.{under}
use Rattle.sort_checker.proofs.SoundElaborations.{both_true, no_name, not_false, none_below, bind_all}
use Rattle.sort_checker.proofs.WellTypedTexts.{neither_of, no_number}

-- ---- nothing is found
nothing_first : {A B : Type 0} (f : A → Option B) (xs : List A) → AllByRecursion (λ x. f x ≡ None) xs → first_of f xs ≡ None
nothing_first f [] h = refl
nothing_first f (x ∷ xs) h = ap₂ option_or h.0 (nothing_first f xs h.1)

nothing_from : {D A : Type 0} (f : D → Option A) (k : ℕ) (ds : List D) → AllByRecursion (λ d. f d ≡ None) ds → first_from f k ds ≡ None
nothing_from f k [] h = refl
nothing_from {A = A} f k (d ∷ ds) h = ap₂ option_or (ap (option_map (λ (a : A). (k, a))) h.0) (nothing_from f (suc k) ds h.1)

no_number_from : {D : Type 0} (t : D → Bool) (k : ℕ) (ds : List D) → AllByRecursion (λ d. t d ≡ false) ds → number_from t k ds ≡ None
no_number_from t k [] h = refl
no_number_from t k (d ∷ ds) h = ap (λ (b : Bool). cond b (Some k) (number_from t (suc k) ds)) h.0 ∙ no_number_from t (suc k) ds h.1

all_pass : {A : Type 0} (t : A → Bool) (xs : List A) → AllByRecursion (λ x. t x ≡ true) xs → list_all t xs ≡ true
all_pass t [] h = refl
all_pass t (x ∷ xs) h = ap₂ (λ (a b : Bool). a && b) h.0 (all_pass t xs h.1)

none_passes : {A : Type 0} (t : A → Bool) (xs : List A) → AllByRecursion (λ x. t x ≡ false) xs → list_any t xs ≡ false
none_passes t [] h = refl
none_passes t (x ∷ xs) h = ap₂ (λ (a b : Bool). a || b) h.0 (none_passes t xs h.1)

-- ---- one declaration
record IsFaultless (v : FullVocabulary) (d : ScopedDeclaration) : Type 0 where
  parts : AllByRecursion (IsSoundPart v) (parts_of d)
  operators : AllByRecursion (IsSoundOperator v) (operators_of d.declaration)
  left : has_variable_left d ≡ false

abbrev HasEquation : FullVocabulary → WrittenEquation → Type 0
HasEquation v e = (q : Equation) × ElaboratesEquation v e q

abbrev HasDefinition : FullVocabulary → Written → Type 0
HasDefinition v w = (d : Definition) × ElaboratesDefinition v w d

abbrev HasBody : FullVocabulary → Process → Type 0
HasBody v p = (b : Body) × Elaborates v [] p b

record IsElaborated (v : FullVocabulary) (d : ScopedDeclaration) : Type 0 where
  equations : AllByRecursion (HasEquation v) (equation_under d.variables d.declaration)
  definitions : AllByRecursion (HasDefinition v) (process_by d.declaration)
  initial : AllByRecursion (HasBody v) (initial_by d.declaration)
  plain : GivesPlainSort v d.declaration

faultless : (v : FullVocabulary) (xs : Variables) (d : Declaration) → IsElaborated v (under xs d) → IsFaultless v (under xs d)
faultless v xs (bare.sorts ns) e = record { parts = tt; operators = tt; left = refl }
faultless v xs (bare.alias n s) e = record { parts = tt; operators = tt; left = refl }
faultless v xs (bare.struct n cs) e = record { parts = tt; operators = tt; left = refl }
faultless v xs (bare.mappings fs es to) e = record { parts = tt; operators = tt; left = refl }
faultless v xs (bare.variables ys) e = record { parts = tt; operators = tt; left = refl }
faultless v xs (bare.actions as_ es) e = record { parts = tt; operators = tt; left = refl }
faultless v xs (bare.constructors fs es to) e = record { parts = (record { known = refl; typed = e.plain; closed = refl }, tt); operators = tt; left = refl }
faultless v xs (bare.equation c l r) e =
    let k = elaborated_equations_are_sound v xs c l r e.equations.0.0 e.equations.0.1 in record { parts = (k.0, tt); operators = tt; left = k.1 }
faultless v xs (bare.process n ys p) e =
    let d = e.definitions.0.1 in
    let i = bind_all v.declared [] ys none_below (bound_sorts d.binds) in
    let b = anew (bound_alike same_none d.binds i.binds) d.body in
    let s = elaborated_processes_are_sound v ys p b.0 b.1 in
    record { parts = s.parts; operators = s.operators; left = refl }
faultless v xs (bare.initial p) e =
    let s = elaborated_processes_are_sound v [] p e.initial.0.0 e.initial.0.1 in record { parts = s.parts; operators = s.operators; left = refl }

-- ---- all of them
each_of : {A B : Type 0} (P : B → Type 0) (f : A → List B) (xs : List A) → AllByRecursion P (flat_map f xs) → AllByRecursion (λ x. AllByRecursion P (f x)) xs
each_of P f [] h = tt
each_of P f (x ∷ xs) h = (all_front P (f x) (flat_map f xs) h, each_of P f xs (all_back P (f x) (flat_map f xs) h))

all_under : (Q : Declaration → Type 0) (xs : Variables) (ds : List Declaration) → AllByRecursion Q ds → AllByRecursion (λ (d : ScopedDeclaration). Q d.declaration) (map (under xs) ds)
all_under Q xs [] h = tt
all_under Q xs (d ∷ ds) h = (h.0, all_under Q xs ds h.1)

along : (Q : Declaration → Type 0) (xs : Variables) (ss : List Section) → AllByRecursion Q (declarations_in ss) → AllByRecursion (λ (d : ScopedDeclaration). Q d.declaration) (scoped_behind xs ss)
along Q xs [] h = tt
along Q xs (s ∷ ss) h =
    all_appended (λ (d : ScopedDeclaration). Q d.declaration) (map (under xs) s.declarations) (scoped_behind (flat_map variables_by s.declarations) ss)
    (all_under Q xs s.declarations (all_front Q s.declarations (declarations_in ss) h)) (along Q (flat_map variables_by s.declarations) ss (all_back Q s.declarations (declarations_in ss) h))

all_faultless : (v : FullVocabulary) (ds : List ScopedDeclaration) → AllByRecursion (λ (d : ScopedDeclaration). AllByRecursion (HasEquation v) (equation_under d.variables d.declaration)) ds
    → AllByRecursion (λ (d : ScopedDeclaration). AllByRecursion (HasDefinition v) (process_by d.declaration)) ds → AllByRecursion (λ (d : ScopedDeclaration). AllByRecursion (HasBody v) (initial_by d.declaration)) ds
    → AllByRecursion (λ (d : ScopedDeclaration). GivesPlainSort v d.declaration) ds → AllByRecursion (IsFaultless v) ds
all_faultless v [] h k l m = tt
all_faultless v (d ∷ ds) h k l m =
    (faultless v d.variables d.declaration (record { equations = h.0; definitions = k.0; initial = l.0; plain = m.0 }), all_faultless v ds h.1 k.1 l.1 m.1)

pub what_elaborates_is_well_typed : WhatElaboratesIsWellTyped
what_elaborates_is_well_typed v ss vocabulary sound all plain =
    let ds : List ScopedDeclaration = scoped_declarations ss in
    let fine : AllByRecursion (IsFaultless v) ds =
    all_faultless v ds (each_of (HasEquation v) (λ (d : ScopedDeclaration). equation_under d.variables d.declaration) ds all.equations)
    (along (λ d. AllByRecursion (HasDefinition v) (process_by d)) [] ss (each_of (HasDefinition v) process_by (declarations_in ss) all.definitions))
    (along (λ d. AllByRecursion (HasBody v) (initial_by d)) [] ss (each_of (HasBody v) initial_by (declarations_in ss) all.initial)) (along (GivesPlainSort v) [] ss plain) in
    let known : unknown_fault v ss ≡ None =
    nothing_from (λ (d : ScopedDeclaration). first_of (unknown_name v) (parts_of d)) 1 ds
    (all_more (IsFaultless v) (λ d. first_of (unknown_name v) (parts_of d) ≡ None) (λ d f. nothing_first (unknown_name v) (parts_of d) (all_more (IsSoundPart v) (λ p. unknown_name v p ≡ None) (λ p k. k.known) (parts_of d) f.parts)) ds fine) in
    let typed : untyped_fault v ss ≡ None =
    no_number_from (λ (d : ScopedDeclaration). not (list_all (is_typed v) (parts_of d))) 1 ds
    (all_more (IsFaultless v) (λ d. not (list_all (is_typed v) (parts_of d)) ≡ false) (λ d f. ap not (all_pass (is_typed v) (parts_of d) (all_more (IsSoundPart v) (λ p. is_typed v p ≡ true) (λ p k. k.typed) (parts_of d) f.parts))) ds fine) in
    let closed : free_fault v ss ≡ None =
    nothing_from (λ (d : ScopedDeclaration). first_of (free_variable v) (parts_of d)) 1 ds
    (all_more (IsFaultless v) (λ d. first_of (free_variable v) (parts_of d) ≡ None) (λ d f. nothing_first (free_variable v) (parts_of d) (all_more (IsSoundPart v) (λ p. free_variable v p ≡ None) (λ p k. k.closed) (parts_of d) f.parts)) ds fine) in
    let left : left_fault ss ≡ None = no_number_from has_variable_left 1 ds (all_more (IsFaultless v) (λ d. has_variable_left d ≡ false) (λ d f. f.left) ds fine) in
    let rules : comm_fault v ss ≡ None =
    no_number_from (λ (d : ScopedDeclaration). list_any (has_comm_fault v.declared) (operators_of d.declaration)) 1 ds
    (all_more (IsFaultless v) (λ d. list_any (has_comm_fault v.declared) (operators_of d.declaration) ≡ false)
    (λ d f. none_passes (has_comm_fault v.declared) (operators_of d.declaration) (all_more (IsSoundOperator v) (λ o. has_comm_fault v.declared o ≡ false) (λ o k. k.rules) (operators_of d.declaration) f.operators)) ds fine) in
    let once : rename_fault ss ≡ None =
    nothing_from (λ (d : ScopedDeclaration). first_of renamed_twice (operators_of d.declaration)) 1 ds
    (all_more (IsFaultless v) (λ d. first_of renamed_twice (operators_of d.declaration) ≡ None) (λ d f. nothing_first renamed_twice (operators_of d.declaration) (all_more (IsSoundOperator v) (λ o. renamed_twice o ≡ None) (λ o k. k.once) (operators_of d.declaration) f.operators)) ds fine) in
    record {
      vocabulary = vocabulary;
      sound = sound;
      no_fault = ap₂ option_or (ap (option_map (λ (r : ℕ × Name). unknown_in r.0 r.1)) known)
          (ap₂ option_or (ap (option_map untyped) typed)
          (ap₂ option_or (ap (option_map (λ (r : ℕ × Name). free_in r.0 r.1)) closed)
          (ap₂ option_or (ap (option_map variable_left) left)
          (ap₂ option_or (ap (option_map comm_shape) rules)
          (ap₂ option_or (ap (option_map (λ (r : ℕ × Name). rename_twice r.0 r.1)) once) refl)))));
    }

-- ---- the results of `cons`
gives_plain : (v : FullVocabulary) (xs : Variables) (d : Declaration) → not (list_all (is_typed v) (parts_under xs d)) ≡ false → GivesPlainSort v d
gives_plain v xs (bare.constructors fs es to) h = (both_true _ true (not_false _ h)).0
gives_plain v xs (bare.sorts ns) h = tt
gives_plain v xs (bare.alias n s) h = tt
gives_plain v xs (bare.struct n cs) h = tt
gives_plain v xs (bare.mappings fs es to) h = tt
gives_plain v xs (bare.variables ys) h = tt
gives_plain v xs (bare.equation c l r) h = tt
gives_plain v xs (bare.actions as_ es) h = tt
gives_plain v xs (bare.process n ys p) h = tt
gives_plain v xs (bare.initial p) h = tt

module _ (v : FullVocabulary) where
  abbrev IsTyped : ScopedDeclaration → Type 0
  IsTyped d = not (list_all (is_typed v) (parts_of d)) ≡ false

  section_gives : (xs : Variables) (ds : List Declaration) → AllByRecursion IsTyped (map (under xs) ds) → AllByRecursion (GivesPlainSort v) ds
  section_gives xs [] h = tt
  section_gives xs (d ∷ ds) h = (gives_plain v xs d h.0, section_gives xs ds h.1)

  sections_give : (xs : Variables) (ss : List Section) → AllByRecursion IsTyped (scoped_behind xs ss) → AllByRecursion (GivesPlainSort v) (declarations_in ss)
  sections_give xs [] h = tt
  sections_give xs (s ∷ ss) h =
      let rest : List ScopedDeclaration = scoped_behind (flat_map variables_by s.declarations) ss in
      all_appended (GivesPlainSort v) s.declarations (declarations_in ss) (section_gives xs s.declarations (all_front IsTyped (map (under xs) s.declarations) rest h))
      (sections_give (flat_map variables_by s.declarations) ss (all_back IsTyped (map (under xs) s.declarations) rest h))

pub well_typed_texts_give_plain_sorts : WellTypedTextsGivePlainSorts
well_typed_texts_give_plain_sorts v ss w =
    let rest : Option TypeFault =
    first_of (λ (f : Option TypeFault). f)
    (option_map untyped (untyped_fault v ss)
    ∷ option_map (λ (r : ℕ × Name). free_in r.0 r.1) (free_fault v ss)
    ∷ option_map variable_left (left_fault ss)
    ∷ option_map comm_shape (comm_fault v ss)
    ∷ option_map (λ (r : ℕ × Name). rename_twice r.0 r.1) (rename_fault ss)
    ∷ []) in
    let later : Option TypeFault =
    first_of (λ (f : Option TypeFault). f)
    (option_map (λ (r : ℕ × Name). free_in r.0 r.1) (free_fault v ss)
    ∷ option_map variable_left (left_fault ss)
    ∷ option_map comm_shape (comm_fault v ss)
    ∷ option_map (λ (r : ℕ × Name). rename_twice r.0 r.1) (rename_fault ss)
    ∷ []) in
    let one = neither_of (option_map (λ (r : ℕ × Name). unknown_in r.0 r.1) (unknown_fault v ss)) rest w.no_fault in
    let two = neither_of (option_map untyped (untyped_fault v ss)) later one.1 in
    sections_give v [] ss (no_number (λ (d : ScopedDeclaration). not (list_all (is_typed v) (parts_of d))) 1 (scoped_declarations ss) (no_name untyped (untyped_fault v ss) two.0))
