-- The equations, definitions and `init` of a well-typed text elaborate.
use Rattle.std.proofs.Common.{◌≡◌, ℕ, suc, Bool, true, false, not, cond, ◌||◌, List, [], ◌∷◌, ◌++◌, map, refl, sym, ap, ◌∙◌, subst}
use Rattle.std.specs.Prelude.{Option, Some, None, is_some, option_map}
use Rattle.std.specs.Option.{option_or}
use Rattle.std.specs.List.{AllByRecursion, find, flat_map, list_all, list_any}
use Rattle.std.proofs.lemmas.Grind.{flat_map-append}
use Rattle.std.proofs.lemmas.Option.{none-some}
use Rattle.std.proofs.lemmas.List.Folds.{find-append}
use Rattle.data_theory.specs.Terms.{Sort, list}
use Rattle.data_theory.specs.Provable.{Equation}
use Rattle.process_terms.specs.Processes.{Around, Body, Definition}
use Rattle.mcrl2_syntax.proofs.Lists.{all_back}
use Rattle.sort_table.specs.Expressions.{Name}
use Rattle.sort_table.specs.NamedLists.{first_named}
use Rattle.sort_table.specs.BareSorts.{SortExpression, truth_values, positives, naturals, integers, lists_of, a_name}
use Rattle.sort_table.specs.BareProcesses.{Variables, Process, sums_in}
use Rattle.sort_table.specs.BareDeclarations as bare
use Rattle.sort_table.specs.BareDeclarations.{Declaration, Section, declarations_in}
use Rattle.sort_table.specs.SortMeanings.{Kind, kinds_in, under_names}
use Rattle.sort_table.specs.Vocabularies.{sort_in, HasSorts}
use Rattle.sort_table.specs.Growth.{AllStand}
use Rattle.sort_table.specs.UnknownSorts.{name_in, names_of_variables, is_declared, HasKnownSorts}
use Rattle.sort_table.proofs.StandingNames.{declared_names_stand}
use Rattle.data_typing.specs.Typings.{first_of}
use Rattle.data_typing.proofs.NamedParts.{all_appended}
use Rattle.sort_checker.specs.FullVocabularies.{FullVocabulary, Written, process_by}
use Rattle.sort_checker.specs.Operators.{has_comm_fault, renamed_twice}
use Rattle.sort_checker.specs.Parts.{ScopedPart, ScopedDeclaration, variables_by, scoped_behind, scoped_declarations, parts_of}
use Rattle.sort_checker.specs.Faults.{unknown_name, is_typed, free_variable, is_left_variable, has_variable_left, operators_of}
use Rattle.sort_checker.specs.Refusals.{unknown_in, untyped, free_in, variable_left, comm_shape, rename_twice, first_from, number_from, unknown_fault, untyped_fault, free_fault, left_fault, comm_fault, rename_fault}
use Rattle.sort_checker.specs.Elaborations.{Elaborates, ElaboratesDefinition, WrittenEquation, ElaboratesEquation}
use Rattle.sort_checker.specs.Systems.{equation_under, initial_by}
use Rattle.sort_checker.specs.SoundTexts.{IsSoundPart, IsSoundOperator, HaveSorts}
use Rattle.sort_checker.specs.WholeTexts.{WellTypedTextsElaborate}
use Rattle.sort_checker.proofs.ScopedLists.{under}
use Rattle.sort_checker.proofs.TypedEquations.{sound_equation_elaborates}
use Rattle.sort_checker.proofs.SoundElaborations.{both_true, none_found, no_name, not_false, sound_processes_elaborate, sound_definitions_elaborate}

-- ---- nothing is found
pub neither_of : {A : Type 0} (o p : Option A) → option_or o p ≡ None → (o ≡ None) × (p ≡ None)
neither_of None p h = (refl, h)
neither_of (Some x) p h = absurd (none-some x (sym h))

nowhere : {D A : Type 0} (f : D → Option A) (k : ℕ) (ds : List D) → first_from f k ds ≡ None → AllByRecursion (λ d. f d ≡ None) ds
nowhere f k [] h = tt
nowhere {A = A} f k (d ∷ ds) h = let r = neither_of (option_map (λ (a : A). (k, a)) (f d)) (first_from f (suc k) ds) h in (no_name (λ (a : A). (k, a)) (f d) r.0, nowhere f (suc k) ds r.1)

pub no_number : {D : Type 0} (t : D → Bool) (k : ℕ) (ds : List D) → number_from t k ds ≡ None → AllByRecursion (λ d. t d ≡ false) ds
no_number t k [] h = tt
no_number t k (d ∷ ds) h = by_test (t d) (no_number t (suc k) ds) refl h
  where
    by_test : (b : Bool) → (number_from t (suc k) ds ≡ None → AllByRecursion (λ e. t e ≡ false) ds) → t d ≡ b → cond b (Some k) (number_from t (suc k) ds) ≡ None → (t d ≡ false) × AllByRecursion (λ e. t e ≡ false) ds
    by_test true f e g = absurd (none-some k (sym g))
    by_test false f e g = (e, f g)

all_none : {A B : Type 0} (f : A → Option B) (xs : List A) → first_of f xs ≡ None → AllByRecursion (λ x. f x ≡ None) xs
all_none f [] h = tt
all_none f (x ∷ xs) h = let r = neither_of (f x) (first_of f xs) h in (r.0, all_none f xs r.1)

all_true : {A : Type 0} (t : A → Bool) (xs : List A) → list_all t xs ≡ true → AllByRecursion (λ x. t x ≡ true) xs
all_true t [] h = tt
all_true t (x ∷ xs) h = let r = both_true (t x) (list_all t xs) h in (r.0, all_true t xs r.1)

neither_true : (a b : Bool) → (a || b) ≡ false → (a ≡ false) × (b ≡ false)
neither_true true b h = let never : true ≡ false = h in cc
neither_true false b h = (refl, h)

pub all_false : {A : Type 0} (t : A → Bool) (xs : List A) → list_any t xs ≡ false → AllByRecursion (λ x. t x ≡ false) xs
all_false t [] h = tt
all_false t (x ∷ xs) h = let r = neither_true (t x) (list_any t xs) h in (r.0, all_false t xs r.1)

-- ---- declarations without faults
record IsSoundDeclaration (v : FullVocabulary) (d : ScopedDeclaration) : Type 0 where
  parts : AllByRecursion (IsSoundPart v) (parts_of d)
  operators : AllByRecursion (IsSoundOperator v) (operators_of d.declaration)

module _ (v : FullVocabulary) where
  zip_parts : (ps : List ScopedPart) → AllByRecursion (λ p. unknown_name v p ≡ None) ps → AllByRecursion (λ p. is_typed v p ≡ true) ps → AllByRecursion (λ p. free_variable v p ≡ None) ps → AllByRecursion (IsSoundPart v) ps
  zip_parts [] h k l = tt
  zip_parts (p ∷ ps) h k l = (record { known = h.0; typed = k.0; closed = l.0 }, zip_parts ps h.1 k.1 l.1)

  zip_operators : (os : List Around) → AllByRecursion (λ o. has_comm_fault v.declared o ≡ false) os → AllByRecursion (λ o. renamed_twice o ≡ None) os → AllByRecursion (IsSoundOperator v) os
  zip_operators [] h k = tt
  zip_operators (o ∷ os) h k = (record { rules = h.0; once = k.0 }, zip_operators os h.1 k.1)

  zip_declarations : (ds : List ScopedDeclaration) → AllByRecursion (λ d. first_of (unknown_name v) (parts_of d) ≡ None) ds → AllByRecursion (λ d. not (list_all (is_typed v) (parts_of d)) ≡ false) ds
      → AllByRecursion (λ d. first_of (free_variable v) (parts_of d) ≡ None) ds → AllByRecursion (λ (d : ScopedDeclaration). list_any (has_comm_fault v.declared) (operators_of d.declaration) ≡ false) ds
      → AllByRecursion (λ (d : ScopedDeclaration). first_of renamed_twice (operators_of d.declaration) ≡ None) ds → AllByRecursion (IsSoundDeclaration v) ds
  zip_declarations [] h k l m n = tt
  zip_declarations (d ∷ ds) h k l m n = (
    record {
      parts = zip_parts (parts_of d) (all_none (unknown_name v) (parts_of d) h.0) (all_true (is_typed v) (parts_of d) (not_false (list_all (is_typed v) (parts_of d)) k.0)) (all_none (free_variable v) (parts_of d) l.0);
      operators = zip_operators (operators_of d.declaration) (all_false (has_comm_fault v.declared) (operators_of d.declaration) m.0) (all_none renamed_twice (operators_of d.declaration) n.0);
    },
    zip_declarations ds h.1 k.1 l.1 m.1 n.1,
  )

  -- ---- sorts of variables
  module _ (all : List Declaration) (stand : AllStand (under_names all)) (sorts : HasSorts (under_names all) v.declared) where
    sort_there : (e : SortExpression) → find (λ n. not (is_declared all n)) (name_in e) ≡ None → (s : Sort) × (sort_in v.declared.sort_names e ≡ Some s)
    sort_there truth_values h = (_, refl)
    sort_there positives h = (_, refl)
    sort_there naturals h = (_, refl)
    sort_there integers h = (_, refl)
    sort_there (lists_of e) h = let r = sort_there e h in (list r.0, ap (option_map list) r.1)
    sort_there (a_name n) h = by_kind (first_named n (kinds_in all)) refl
      where
        by_kind : (o : Option Kind) → first_named n (kinds_in all) ≡ o → (s : Sort) × (first_named n v.declared.sort_names ≡ Some s)
        by_kind (Some k) e = (sorts.named n).1 (stand n k e)
        by_kind None e = let f = none_found (λ m. not (is_declared all m)) n [] h in let never : true ≡ false = ap (λ (o : Option Kind). not (is_some o)) (sym e) ∙ f.0 in cc

    pub none_in_front : (xs ys : List Name) → find (λ n. not (is_declared all n)) (xs ++ ys) ≡ None → (find (λ n. not (is_declared all n)) xs ≡ None) × (find (λ n. not (is_declared all n)) ys ≡ None)
    none_in_front xs ys h = neither_of (find (λ n. not (is_declared all n)) xs) (find (λ n. not (is_declared all n)) ys) (sym (find-append (λ n. not (is_declared all n)) xs ys) ∙ h)

    pub have_sorts : (xs : Variables) → find (λ n. not (is_declared all n)) (names_of_variables xs) ≡ None → HaveSorts v.declared xs
    have_sorts [] h = tt
    have_sorts (x ∷ xs) h = let r = none_in_front (name_in x.1) (names_of_variables xs) h in (sort_there x.1 r.0, have_sorts xs r.1)

    all_have_sorts : (xss : List Variables) → find (λ n. not (is_declared all n)) (flat_map names_of_variables xss) ≡ None → AllByRecursion (HaveSorts v.declared) xss
    all_have_sorts [] h = tt
    all_have_sorts (xs ∷ xss) h = let r = none_in_front (names_of_variables xs) (flat_map names_of_variables xss) h in (have_sorts xs r.0, all_have_sorts xss r.1)

    -- ---- of one declaration
    of_declaration : (xs : Variables) (d : Declaration) → IsSoundDeclaration v (record { variables = xs; declaration = d }) → HasKnownSorts all d → AllByRecursion (λ (w : Written). (e : Definition) × ElaboratesDefinition v w e) (process_by d)
    of_declaration xs (bare.process n ys p) h k =
        let r = none_in_front (names_of_variables ys) (flat_map names_of_variables (sums_in p)) k in
        (sound_definitions_elaborate v (record { name = n; parameters = ys; body = p }) (have_sorts ys r.0) (record { parts = h.parts; operators = h.operators; sums = all_have_sorts (sums_in p) r.1 }), tt)
    of_declaration xs (bare.sorts ns) h k = tt
    of_declaration xs (bare.alias n e) h k = tt
    of_declaration xs (bare.struct n cs) h k = tt
    of_declaration xs (bare.constructors fs es to) h k = tt
    of_declaration xs (bare.mappings fs es to) h k = tt
    of_declaration xs (bare.variables ys) h k = tt
    of_declaration xs (bare.equation c l r) h k = tt
    of_declaration xs (bare.actions as_ es) h k = tt
    of_declaration xs (bare.initial p) h k = tt

    of_initial : (xs : Variables) (d : Declaration) → IsSoundDeclaration v (record { variables = xs; declaration = d }) → HasKnownSorts all d → AllByRecursion (λ (p : Process). (b : Body) × Elaborates v [] p b) (initial_by d)
    of_initial xs (bare.initial p) h k = (sound_processes_elaborate v [] p (record { parts = h.parts; operators = h.operators; sums = all_have_sorts (sums_in p) k }), tt)
    of_initial xs (bare.process n ys p) h k = tt
    of_initial xs (bare.sorts ns) h k = tt
    of_initial xs (bare.alias n e) h k = tt
    of_initial xs (bare.struct n cs) h k = tt
    of_initial xs (bare.constructors fs es to) h k = tt
    of_initial xs (bare.mappings fs es to) h k = tt
    of_initial xs (bare.variables ys) h k = tt
    of_initial xs (bare.equation c l r) h k = tt
    of_initial xs (bare.actions as_ es) h k = tt

    of_equation : (xs : Variables) (d : Declaration) → HaveSorts v.declared xs → IsSoundDeclaration v (under xs d) → is_left_variable xs d ≡ false → AllByRecursion (λ (e : WrittenEquation). (q : Equation) × ElaboratesEquation v e q) (equation_under xs d)
    of_equation xs (bare.equation c l r) sorts h lone = (sound_equation_elaborates v xs c l r sorts h.parts.0 lone, tt)
    of_equation xs (bare.sorts ns) sorts h _ = tt
    of_equation xs (bare.alias n e) sorts h _ = tt
    of_equation xs (bare.struct n cs) sorts h _ = tt
    of_equation xs (bare.constructors fs es to) sorts h _ = tt
    of_equation xs (bare.mappings fs es to) sorts h _ = tt
    of_equation xs (bare.variables ys) sorts h _ = tt
    of_equation xs (bare.actions as_ es) sorts h _ = tt
    of_equation xs (bare.process n ys p) sorts h _ = tt
    of_equation xs (bare.initial p) sorts h _ = tt

    -- the variables of a declaration
    sorts_by : (d : Declaration) → HasKnownSorts all d → HaveSorts v.declared (variables_by d)
    sorts_by (bare.variables ys) k = have_sorts ys k
    sorts_by (bare.sorts ns) k = tt
    sorts_by (bare.alias n e) k = tt
    sorts_by (bare.struct n cs) k = tt
    sorts_by (bare.constructors fs es to) k = tt
    sorts_by (bare.mappings fs es to) k = tt
    sorts_by (bare.equation c l r) k = tt
    sorts_by (bare.actions as_ es) k = tt
    sorts_by (bare.process n ys p) k = tt
    sorts_by (bare.initial p) k = tt

    sorts_of_section : (ds more : List Declaration) → AllByRecursion (HasKnownSorts all) (ds ++ more) → HaveSorts v.declared (flat_map variables_by ds) × AllByRecursion (HasKnownSorts all) more
    sorts_of_section [] more k = (tt, k)
    sorts_of_section (d ∷ ds) more k =
        let r = sorts_of_section ds more k.1 in
        (all_appended (λ (x : Name × SortExpression). (s : Sort) × (sort_in v.declared.sort_names x.1 ≡ Some s)) (variables_by d) (flat_map variables_by ds) (sorts_by d k.0) r.0, r.1)

    abbrev equations_by : ScopedDeclaration → List WrittenEquation
    equations_by d = equation_under d.variables d.declaration

    equations_of_section : (xs : Variables) → HaveSorts v.declared xs → (ds : List Declaration) (rest : List ScopedDeclaration) → AllByRecursion (IsSoundDeclaration v) (map (under xs) ds ++ rest) → AllByRecursion (λ d. has_variable_left d ≡ false) (map (under xs) ds ++ rest)
        → (AllByRecursion (λ (e : WrittenEquation). (q : Equation) × ElaboratesEquation v e q) (flat_map equations_by rest)) → AllByRecursion (λ (e : WrittenEquation). (q : Equation) × ElaboratesEquation v e q) (flat_map equations_by (map (under xs) ds ++ rest))
    equations_of_section xs sorts [] rest h lone more = more
    equations_of_section xs sorts (d ∷ ds) rest h lone more =
        all_appended (λ (e : WrittenEquation). (q : Equation) × ElaboratesEquation v e q) (equation_under xs d) (flat_map equations_by (map (under xs) ds ++ rest)) (of_equation xs d sorts h.0 lone.0) (equations_of_section xs sorts ds rest h.1 lone.1 more)

    equations_of_sections : (xs : Variables) → HaveSorts v.declared xs → (ss : List Section) → AllByRecursion (IsSoundDeclaration v) (scoped_behind xs ss) → AllByRecursion (λ d. has_variable_left d ≡ false) (scoped_behind xs ss)
        → AllByRecursion (HasKnownSorts all) (declarations_in ss) → AllByRecursion (λ (e : WrittenEquation). (q : Equation) × ElaboratesEquation v e q) (flat_map equations_by (scoped_behind xs ss))
    equations_of_sections xs sorts [] h lone k = tt
    equations_of_sections xs sorts (s ∷ ss) h lone k =
        let rest : List ScopedDeclaration = scoped_behind (flat_map variables_by s.declarations) ss in
        let next = sorts_of_section s.declarations (declarations_in ss) k in
        equations_of_section xs sorts s.declarations rest h lone
        (equations_of_sections (flat_map variables_by s.declarations) next.0 ss (all_back (IsSoundDeclaration v) (map (under xs) s.declarations) rest h) (all_back (λ d. has_variable_left d ≡ false) (map (under xs) s.declarations) rest lone) next.1)

    -- ---- of all
    module _ {A : Type 0} (P : A → Type 0) (by : Declaration → List A)
        (one : (xs : Variables) (d : Declaration) → IsSoundDeclaration v (record { variables = xs; declaration = d }) → HasKnownSorts all d → AllByRecursion P (by d)) where
      of_section : (xs : Variables) (ds : List Declaration) (rest : List ScopedDeclaration) → AllByRecursion (IsSoundDeclaration v) (map (under xs) ds ++ rest)
          → (more : List Declaration) → AllByRecursion (HasKnownSorts all) (ds ++ more)
          → (AllByRecursion P (flat_map by ds)) × (AllByRecursion (IsSoundDeclaration v) rest × AllByRecursion (HasKnownSorts all) more)
      of_section xs [] rest h more k = (tt, (h, k))
      of_section xs (d ∷ ds) rest h more k =
          let r = of_section xs ds rest h.1 more k.1 in (all_appended P (by d) (flat_map by ds) (one xs d h.0 k.0) r.0, r.1)

      of_sections : (xs : Variables) (ss : List Section) → AllByRecursion (IsSoundDeclaration v) (scoped_behind xs ss) → AllByRecursion (HasKnownSorts all) (declarations_in ss) → AllByRecursion P (flat_map by (declarations_in ss))
      of_sections xs [] h k = tt
      of_sections xs (s ∷ ss) h k =
          let r = of_section xs s.declarations (scoped_behind (flat_map variables_by s.declarations) ss) h (declarations_in ss) k in
          subst (AllByRecursion P) (sym (flat_map-append by s.declarations (declarations_in ss)))
          (all_appended P (flat_map by s.declarations) (flat_map by (declarations_in ss)) r.0 (of_sections (flat_map variables_by s.declarations) ss r.1.0 r.1.1))

-- none of six faults
record NoneOfSix {A : Type 0} (a b c d e f : Option A) : Type 0 where
  first : a ≡ None
  second : b ≡ None
  third : c ≡ None
  fourth : d ≡ None
  fifth : e ≡ None
  sixth : f ≡ None

none_of_six : {A : Type 0} (a b c d e f : Option A) → first_of (λ (o : Option A). o) (a ∷ b ∷ c ∷ d ∷ e ∷ f ∷ []) ≡ None → NoneOfSix a b c d e f
none_of_six {A = A} a b c d e f h =
    let one = neither_of a (first_of (λ (o : Option A). o) (b ∷ c ∷ d ∷ e ∷ f ∷ [])) h in
    let two = neither_of b (first_of (λ (o : Option A). o) (c ∷ d ∷ e ∷ f ∷ [])) one.1 in
    let three = neither_of c (first_of (λ (o : Option A). o) (d ∷ e ∷ f ∷ [])) two.1 in
    let four = neither_of d (first_of (λ (o : Option A). o) (e ∷ f ∷ [])) three.1 in
    let five = neither_of e (first_of (λ (o : Option A). o) (f ∷ [])) four.1 in
    let six = neither_of f None five.1 in
    record { first = one.0; second = two.0; third = three.0; fourth = four.0; fifth = five.0; sixth = six.0 }

pub well_typed_texts_elaborate : WellTypedTextsElaborate
well_typed_texts_elaborate v ss w =
    let all : List Declaration = declarations_in ss in
    let ds : List ScopedDeclaration = scoped_declarations ss in
    let stand : AllStand (under_names all) = declared_names_stand all w.sound.known w.sound.no_cycle in
    let none_at : NoneOfSix (option_map (λ (r : ℕ × Name). unknown_in r.0 r.1) (unknown_fault v ss)) (option_map untyped (untyped_fault v ss)) (option_map (λ (r : ℕ × Name). free_in r.0 r.1) (free_fault v ss)) (option_map variable_left (left_fault ss))
    (option_map comm_shape (comm_fault v ss)) (option_map (λ (r : ℕ × Name). rename_twice r.0 r.1) (rename_fault ss))
    = none_of_six (option_map (λ (r : ℕ × Name). unknown_in r.0 r.1) (unknown_fault v ss)) (option_map untyped (untyped_fault v ss)) (option_map (λ (r : ℕ × Name). free_in r.0 r.1) (free_fault v ss)) (option_map variable_left (left_fault ss))
    (option_map comm_shape (comm_fault v ss)) (option_map (λ (r : ℕ × Name). rename_twice r.0 r.1) (rename_fault ss)) w.no_fault in
    let sound : AllByRecursion (IsSoundDeclaration v) ds =
    zip_declarations v ds
    (nowhere (λ (d : ScopedDeclaration). first_of (unknown_name v) (parts_of d)) 1 ds (no_name (λ (r : ℕ × Name). unknown_in r.0 r.1) (unknown_fault v ss) none_at.first))
    (no_number (λ (d : ScopedDeclaration). not (list_all (is_typed v) (parts_of d))) 1 ds (no_name untyped (untyped_fault v ss) none_at.second))
    (nowhere (λ (d : ScopedDeclaration). first_of (free_variable v) (parts_of d)) 1 ds (no_name (λ (r : ℕ × Name). free_in r.0 r.1) (free_fault v ss) none_at.third))
    (no_number (λ (d : ScopedDeclaration). list_any (has_comm_fault v.declared) (operators_of d.declaration)) 1 ds (no_name comm_shape (comm_fault v ss) none_at.fifth))
    (nowhere (λ (d : ScopedDeclaration). first_of renamed_twice (operators_of d.declaration)) 1 ds (no_name (λ (r : ℕ × Name). rename_twice r.0 r.1) (rename_fault ss) none_at.sixth)) in
    let no_left = no_number has_variable_left 1 ds (no_name variable_left (left_fault ss) none_at.fourth) in
    record {
      equations = equations_of_sections v all stand w.vocabulary.declared.sorts [] tt ss sound no_left w.sound.known;
      definitions = of_sections v all stand w.vocabulary.declared.sorts (λ (x : Written). (d : Definition) × ElaboratesDefinition v x d) process_by (of_declaration v all stand w.vocabulary.declared.sorts) [] ss sound w.sound.known;
      initial = of_sections v all stand w.vocabulary.declared.sorts (λ (p : Process). (b : Body) × Elaborates v [] p b) initial_by (of_initial v all stand w.vocabulary.declared.sorts) [] ss sound w.sound.known;
    }
