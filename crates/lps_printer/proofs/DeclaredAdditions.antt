-- What is added where a signature grows by structs, by constants and by actions, one behind the other.
use Rattle.std.proofs.Common.{◌≡◌, ◌+◌, ◌-◌, ◌<◌, ◌≤◌, ◌&&◌, ◌||◌, ⊎_elim, ℕ, zero, suc, Bool, true, false, cond, nat_eq, List, [], ◌∷◌, ◌++◌, length, map, get_or, not, codes, refl, sym, ap, ap₂, ◌∙◌, subst, arith, append_assoc, append-nil, length-append}
use Rattle.std.specs.Prelude.{Option, Some, None, option_map, slice_get}
use Rattle.std.specs.List.{All, AllByRecursion, Contains, flat_map, list_any}
use Rattle.std.proofs.lemmas.List.{get_or-append-add, length-map, map-append}
use Rattle.std.proofs.lemmas.Grind.{flat_map-append}
use Rattle.std.proofs.lemmas.List.Elements.{All-append, All-cons, All-contains_itself, All-head, All-nil, All-tail, All-weaker, Contains-append_right}
use Rattle.std.proofs.lemmas.Bool.Decides.{nat_tests}
use Rattle.mcrl2_syntax.specs.declared.declaration.SectionWord.TheVariants as sections
use Rattle.mcrl2_syntax.proofs.Lists.{all_both}
use Rattle.data_theory.specs.declared.ids.FunId.{FunId}
use Rattle.data_theory.specs.declared.ids.NameId.{NameId}
use Rattle.data_theory.specs.declared.ids.SortId.{SortId}
use Rattle.data_theory.specs.Complete.{IsComplete, IsSortWithin}
use Rattle.data_theory.specs.Functions.{Function, arguments_of, declared_function}
use Rattle.data_theory.specs.Keys.{Key, key}
use Rattle.data_theory.specs.Signature.{Sig}
use Rattle.data_theory.specs.Sorts as kinds
use Rattle.data_theory.specs.Sorts.{SortInfo, abstract_sort}
use Rattle.data_theory.specs.Structs.{Con, named_function, projections_of, recogniser_of, all_projections, all_recognisers, count_of, named_fields, number_of, numbers_of, constructor_of, constructors_of, numbers_from}
use Rattle.data_theory.specs.Table.{bool_sort, sort_rows}
use Rattle.data_theory.specs.Terms.{list}
use Rattle.data_theory.specs.Rows.{built_ins}
use Rattle.data_theory.specs.IdTerms.{sort_under, IsGrown}
use Rattle.data_theory.specs.WholeSignatures.{IsSignature}
use Rattle.data_theory.proofs.IdGrowthLemmas.{growth_after_growth_is_growth}
use Rattle.data_theory.proofs.PlaceLemmas.{read_front, read_behind}
use Rattle.term_pool.proofs.DeclaredConstants.{grown_itself}
use Rattle.data_theory.proofs.StructLemmas.{length-named, length-projections}
use Rattle.data_theory.proofs.StructWithin.{length-constructors}
use Rattle.sort_table.specs.Expressions.{Name}
use Rattle.sort_table.specs.BareDeclarations.{Declaration, struct, Section, declarations_in}
use Rattle.sort_table.specs.SignatureVocabularies.{text_under}
use Rattle.sort_table.proofs.Growing.{front_entry, near_or_far}
use Rattle.lps_printer.specs.declared.added_sections.Line.TheVariants as lines
use Rattle.lps_printer.specs.AddedDeclarations.{no_function, function_at, name_at, kind_at, constructors_in, begun_by, struct_begun, is_constant, constants_among, some_name, fields_with, constructor_with, added_functions, added_actions_of, struct_declared, structs_declared, line_declared, lines_declared, action_declared, actions_declared, added_declared}
use Rattle.lps_printer.specs.DeclaredAdditions.{field_declared, constructor_declared, declaration_of, section_of, WhatIsAddedIsPrinted, EmptyListsAreAdded}
use Rattle.lps_printer.specs.GrowingByConstants.{GrowsByConstants}
use Rattle.lps_printer.specs.GrowingByAdditions.{Struct, GrowsByStruct, GrowsByAdditions, nothing_added, then_constants, then_struct, then_action, added_structs, added_constants, added_actions}
use Rattle.lps_printer.specs.GrownTexts.{mapping_declared, mappings_declared}
use Rattle.lps_printer.specs.SignatureNames.{text_names_under}
use Rattle.lps_printer.specs.TextWordings.{sort_place}
use Rattle.lps_printer.specs.WrittenProcesses.{TextNames, sort_written}
use Rattle.lps_printer.proofs.DeclaredCounts.{added_are, added_actions_are}
use Rattle.lps_printer.proofs.GrowingByAdditions.{still_stands, actions_grow, added_numbers, numbers_are}
use Rattle.lps_printer.proofs.GrownStructs.{bare, first, fs, it_is_grown, sorts_are}
use Rattle.lps_printer.proofs.GrownTexts.{kind_below, other_number, begins_none, AreConstantsAt, at_their_numbers, all_below, is_one, begin_none, as_many_constants, each_declared, no_structs_declared, mappings_are, equations_are}
use Rattle.lps_printer.proofs.SignatureNames.{sort_named_at}

-- ---- lists
all_two : {A : Type 0} (P Q R : A → Type 0) → ((x : A) → P x → Q x → R x) → (xs : List A) → AllByRecursion P xs → AllByRecursion Q xs → AllByRecursion R xs
all_two P Q R f [] p q = tt
all_two P Q R f (x ∷ xs) p q = (f x p.0 q.0, all_two P Q R f xs p.1 q.1)

pub all_numbers : (P : FunId → Type 0) (n k : ℕ) → ((i : ℕ) → i < k → P (record { 0 = n + i })) → AllByRecursion P (numbers_from n k)
all_numbers P n zero each = tt
all_numbers P n (suc k) each =
    let z : n + 0 ≡ n = omega arith in (
      subst (λ (m : ℕ). P (record { 0 = m })) z (each 0 (omega arith)),
      all_numbers P (n + 1) k (λ i l. (let s : n + suc i ≡ n + 1 + i = omega arith in subst (λ (m : ℕ). P (record { 0 = m })) s (each (suc i) (omega (arith, l))))),
    )

numbers_below : (n k m : ℕ) → n + k ≤ m → All (λ (f : FunId). f.0 < m) (numbers_from n k)
numbers_below n zero m l = All-nil (λ (f : FunId). f.0 < m)
numbers_below n (suc k) m l = All-cons (λ (f : FunId). f.0 < m) (record { 0 = n }) (numbers_from (n + 1) k) (omega (arith, l)) (numbers_below (n + 1) k m (omega (arith, l)))

number_among : (n k i : ℕ) → i < k → list_any (λ (c : FunId). nat_eq c.0 (n + i)) (numbers_from n k) ≡ true
number_among n zero i l = absurd (omega (arith, l))
number_among n (suc k) zero l =
    let same : nat_eq n (n + 0) ≡ true = grind (arith, nat_tests) in
    ap (λ b. b || list_any (λ (c : FunId). nat_eq c.0 (n + 0)) (numbers_from (n + 1) k)) same
number_among n (suc k) (suc i) l =
    let rest = number_among (n + 1) k i (omega (arith, l)) in
    let z : n + 1 + i ≡ n + suc i = omega arith in
    ap (λ b. nat_eq n (n + suc i) || b) (subst (λ m. list_any (λ (c : FunId). nat_eq c.0 m) (numbers_from (n + 1) k) ≡ true) z rest) ∙ or_true (nat_eq n (n + suc i))
  where
    or_true : (b : Bool) → (b || true) ≡ true
    or_true true = refl
    or_true false = refl

constants_both : (g : Sig) (xs ys : List FunId) → constants_among g (xs ++ ys) ≡ constants_among g xs ++ constants_among g ys
constants_both g [] ys = refl
constants_both g (x ∷ xs) ys = by_test (is_constant g x) (constants_both g xs ys)
  where
    by_test : (b : Bool) → constants_among g (xs ++ ys) ≡ constants_among g xs ++ constants_among g ys → cond b (x ∷ constants_among g (xs ++ ys)) (constants_among g (xs ++ ys)) ≡ cond b (x ∷ constants_among g xs) (constants_among g xs) ++ constants_among g ys
    by_test true rest = ap (λ zs. x ∷ zs) rest
    by_test false rest = rest

all_constants : (g : Sig) (xs : List FunId) → AllByRecursion (λ (f : FunId). is_constant g f ≡ true) xs → constants_among g xs ≡ xs
all_constants g [] all = refl
all_constants g (x ∷ xs) all = ap₂ (λ (b : Bool) zs. cond b (x ∷ zs) zs) all.0 (all_constants g xs all.1)

no_constants : (g : Sig) (xs : List FunId) → AllByRecursion (λ (f : FunId). is_constant g f ≡ false) xs → constants_among g xs ≡ []
no_constants g [] all = refl
no_constants g (x ∷ xs) all = ap₂ (λ (b : Bool) zs. cond b (x ∷ zs) zs) all.0 (no_constants g xs all.1)

-- ---- what functions are stays
module _ (k h : Sig) (complete : IsComplete k) (grown : IsGrown k h) where
  function_still : (f : FunId) → f.0 < length k.functions → function_at h f ≡ function_at k f
  function_still f l = ap (λ (xs : List Function). get_or xs f.0 no_function) grown.functions ∙ front_entry k.functions grown.new_functions f.0 no_function l

  kind_still : (s : SortId) → s.0 < length k.sorts → kind_at h s ≡ kind_at k s
  kind_still s l =
      let none : SortInfo = record { kind = kinds.booleans; name = None } in
      ap (λ (i : SortInfo). i.kind) (ap (λ (ss : List SortInfo). get_or ss s.0 none) grown.sorts ∙ front_entry k.sorts grown.new_sorts s.0 none l)

  kind_of_result : (f : FunId) → f.0 < length k.functions → kind_at h (function_at h f).result ≡ kind_at k (function_at k f).result
  kind_of_result f l = ap (λ (y : Function). kind_at h y.result) (function_still f l) ∙ kind_still (function_at k f).result (complete.within.functions_within f.0 no_function l).gives

  begun_still : (f : FunId) → f.0 < length k.functions → struct_begun h f ≡ struct_begun k f
  begun_still f l = ap (λ c. begun_by f (constructors_in c)) (kind_of_result f l)

  constant_still : (f : FunId) → f.0 < length k.functions → is_constant h f ≡ is_constant k f
  constant_still f l = ap₂ (λ (y : Function) c. nat_eq (length (arguments_of y)) 0 && not (list_any (λ (d : FunId). nat_eq d.0 f.0) (constructors_in c))) (function_still f l) (kind_of_result f l)

-- ---- what some functions add
record Chunk (h : Sig) (n : TextNames) (is : List FunId) (structs : List Struct) (constants : List (NameId × SortId)) : Type 0 where
  structs_are : flat_map (structs_declared h n) is ≡ map (section_of h n) structs
  lines_are : map (line_declared h n lines.Constant) (constants_among h is) ≡ map (mapping_declared h n) constants
  names_are : map (name_at h) (constants_among h is) ≡ map (λ (c : NameId × SortId). text_under h c.0) constants

chunks : (h : Sig) (n : TextNames) (is js : List FunId) (ss ts : List Struct) (cs ds : List (NameId × SortId)) → Chunk h n is ss cs → Chunk h n js ts ds → Chunk h n (is ++ js) (ss ++ ts) (cs ++ ds)
chunks h n is js ss ts cs ds a b =
    let both = constants_both h is js in
    let line = line_declared h n lines.Constant in
    record {
      structs_are = flat_map-append (structs_declared h n) is js ∙ ap₂ (λ xs ys. xs ++ ys) a.structs_are b.structs_are ∙ sym (map-append (section_of h n) ss ts);
      lines_are = ap (map line) both ∙ map-append line (constants_among h is) (constants_among h js) ∙ ap₂ (λ xs ys. xs ++ ys) a.lines_are b.lines_are ∙ sym (map-append (mapping_declared h n) cs ds);
      names_are = ap (map (name_at h)) both ∙ map-append (name_at h) (constants_among h is) (constants_among h js) ∙ ap₂ (λ xs ys. xs ++ ys) a.names_are b.names_are
          ∙ sym (map-append (λ (c : NameId × SortId). text_under h c.0) cs ds);
    }

-- ---- constants
module _ (j k h : Sig) (before : IsSignature j) (after : IsSignature k) (grown : IsGrown k h) (n : TextNames) (w : GrowsByConstants j k) where
  abbrev numbers : List FunId
  numbers = numbers_from (length j.functions) (length w.constants)

  long : length k.functions ≡ length j.functions + length w.constants
  long = ap length w.functions ∙ length-append j.functions (map (λ (c : NameId × SortId). declared_function c.0 [] c.1) w.constants) ∙ ap (λ i. length j.functions + i) (length-map w.constants (λ (c : NameId × SortId). declared_function c.0 [] c.1))

  within : AllByRecursion (λ (f : FunId). f.0 < length k.functions) numbers
  within = all_numbers (λ (f : FunId). f.0 < length k.functions) (length j.functions) (length w.constants) (λ i l. (let m = long in omega (arith, l, m)))

  at_once : AreConstantsAt k (length j.functions) w.constants numbers
  at_once = at_their_numbers j k before w

  at_later : (cs : List (NameId × SortId)) (gs : List FunId) → AreConstantsAt k (length j.functions) cs gs → AllByRecursion (λ (f : FunId). f.0 < length k.functions) gs → AreConstantsAt h (length j.functions) cs gs
  at_later [] [] at all = tt
  at_later [] (f ∷ gs) at all = absurd at
  at_later (c ∷ cs) [] at all = absurd at
  at_later (c ∷ cs) (f ∷ gs) at all = (record { is = function_still k h after.complete grown f all.0 ∙ at.0.is; behind = at.0.behind }, at_later cs gs at.1 all.1)

  each_is_one : (cs : List (NameId × SortId)) (gs : List FunId) → AreConstantsAt k (length j.functions) cs gs → AllByRecursion (λ (f : FunId). is_constant k f ≡ true) gs
  each_is_one [] [] at = tt
  each_is_one [] (f ∷ gs) at = absurd at
  each_is_one (c ∷ cs) [] at = absurd at
  each_is_one (c ∷ cs) (f ∷ gs) at = (is_one k (length j.functions) (all_below j k before w) c f at.0, each_is_one cs gs at.1)

  names_of : (cs : List (NameId × SortId)) (gs : List FunId) → AreConstantsAt h (length j.functions) cs gs → map (name_at h) gs ≡ map (λ (c : NameId × SortId). text_under h c.0) cs
  names_of [] [] at = refl
  names_of [] (f ∷ gs) at = absurd at
  names_of (c ∷ cs) [] at = absurd at
  names_of (c ∷ cs) (f ∷ gs) at = ap₂ (λ (t : Name) ts. t ∷ ts) (ap (λ (y : Function). get_or h.texts y.name.0 []) at.0.is) (names_of cs gs at.1)

  constants_chunk : Chunk h n numbers [] w.constants
  constants_chunk =
      let none = all_two (λ (f : FunId). f.0 < length k.functions) (λ (f : FunId). struct_begun k f ≡ []) (λ (f : FunId). struct_begun h f ≡ []) (λ f l e. begun_still k h after.complete grown f l ∙ e) numbers within
      (begin_none k (length j.functions) (all_below j k before w) w.constants numbers at_once) in
      let ones = all_two (λ (f : FunId). f.0 < length k.functions) (λ (f : FunId). is_constant k f ≡ true) (λ (f : FunId). is_constant h f ≡ true) (λ f l e. constant_still k h after.complete grown f l ∙ e) numbers within
      (each_is_one w.constants numbers at_once) in
      let all = all_constants h numbers ones in
      let at = at_later w.constants numbers at_once within in
      record {
        structs_are = no_structs_declared h n numbers none;
        lines_are = ap (map (line_declared h n lines.Constant)) all ∙ each_declared h (length j.functions) n w.constants numbers at;
        names_are = ap (map (name_at h)) all ∙ names_of w.constants numbers at;
      }

-- ---- the parts of a struct, by the functions at their numbers
abbrev StandAt : Sig → ℕ → List Function → Type 0
StandAt h p xs = (i : ℕ) → i < length xs → function_at h (record { 0 = p + i }) ≡ get_or xs i no_function

stand_in_front : (h : Sig) (p : ℕ) (xs ys : List Function) → StandAt h p (xs ++ ys) → StandAt h p xs
stand_in_front h p xs ys at i l = at i (let long = length-append xs ys in omega (arith, l, long)) ∙ front_entry xs ys i no_function l

stand_behind : (h : Sig) (p q : ℕ) (xs ys : List Function) → p + length xs ≡ q → StandAt h p (xs ++ ys) → StandAt h q ys
stand_behind h p q xs ys e at i l =
    let z : q + i ≡ p + (length xs + i) = omega (arith, e) in
    ap (λ (m : ℕ). function_at h (record { 0 = m })) z ∙ at (length xs + i) (let long = length-append xs ys in omega (arith, l, long)) ∙ get_or-append-add xs ys i no_function

module _ (h : Sig) (n : TextNames) (s : SortId) where
  -- the name of a function that stands first, where there is one
  name_first : (p : ℕ) (o : Option NameId) (to : SortId) → StandAt h p (named_function s o to) → some_name h (number_of p o) ≡ option_map (text_under h) o
  name_first p None to at = refl
  name_first p (Some i) to at =
      let z : p ≡ p + 0 = omega arith in
      ap (λ (m : ℕ). Some (name_at h (record { 0 = m }))) z ∙ ap (λ (y : Function). Some (get_or h.texts y.name.0 [])) (at 0 (omega arith))

  fields_are : (p : ℕ) (fields : List (Option NameId × SortId)) → StandAt h p (projections_of s fields) → fields_with h n (numbers_of p fields) (map (λ (f : Option NameId × SortId). f.1) fields) ≡ map (field_declared h n) fields
  fields_are p [] at = refl
  fields_are p (f ∷ fields) at =
      let one = named_function s f.0 f.1 in
      let rest = projections_of s fields in
      let here = name_first p f.0 f.1 (stand_in_front h p one rest at) in
      let later = fields_are (p + count_of f.0) fields (stand_behind h p (p + count_of f.0) one rest (ap (λ m. p + m) (length-named s f.0 f.1)) at) in
      λ i. record { name = here i; sort = sort_written n (sort_under h f.1) } ∷ later i

  constructors_are : (m p t : ℕ) (cs : List Con) → StandAt h m (constructors_of s p t cs) → StandAt h p (all_projections s cs) → StandAt h t (all_recognisers s cs)
      → map (constructor_with h n) (numbers_from m (length cs)) ≡ map (constructor_declared h n) cs
  constructors_are m p t [] at projections recognisers = refl
  constructors_are m p t (c ∷ cs) at projections recognisers =
      let z : m ≡ m + 0 = omega arith in
      let made : function_at h (record { 0 = m }) ≡ constructor_of s p t c = ap (λ (i : ℕ). function_at h (record { 0 = i })) z ∙ at 0 (omega arith) in
      let its = projections_of s c.fields in
      let fields = fields_are p c.fields (stand_in_front h p its (all_projections s cs) projections) in
      let test = name_first t c.test bool_sort (stand_in_front h t (recogniser_of s c) (all_recognisers s cs) recognisers) in
      let p_next = p + named_fields c.fields in
      let t_next = t + count_of c.test in
      let rest =
      constructors_are (m + 1) p_next t_next cs (stand_behind h m (m + 1) (constructor_of s p t c ∷ []) (constructors_of s p_next t_next cs) refl at)
      (stand_behind h p p_next its (all_projections s cs) (ap (λ i. p + i) (length-projections s c.fields)) projections)
      (stand_behind h t t_next (recogniser_of s c) (all_recognisers s cs) (ap (λ i. t + i) (length-named s c.test bool_sort)) recognisers) in
      let first : constructor_with h n (record { 0 = m }) ≡ constructor_declared h n c =
      ap (λ (y : Function). record { name = get_or h.texts y.name.0 []; fields = fields_with h n y.projections (arguments_of y); recogniser = some_name h y.test }) made ∙ (λ i. record { name = text_under h c.name; fields = fields i; recogniser = test i }) in
      λ i. first i ∷ rest i

-- one argument each
abbrev TakesOne : Function → Type 0
TakesOne f = nat_eq (length (arguments_of f)) 0 ≡ false

named_take_one : (s : SortId) (o : Option NameId) (to : SortId) → AllByRecursion TakesOne (named_function s o to)
named_take_one s None to = tt
named_take_one s (Some i) to = (refl, tt)

fields_take_one : (s : SortId) (fields : List (Option NameId × SortId)) → AllByRecursion TakesOne (projections_of s fields)
fields_take_one s [] = tt
fields_take_one s (f ∷ fields) = all_both TakesOne (named_function s f.0 f.1) (projections_of s fields) (named_take_one s f.0 f.1) (fields_take_one s fields)

projections_take_one : (s : SortId) (cs : List Con) → AllByRecursion TakesOne (all_projections s cs)
projections_take_one s [] = tt
projections_take_one s (c ∷ cs) = all_both TakesOne (projections_of s c.fields) (all_projections s cs) (fields_take_one s c.fields) (projections_take_one s cs)

recognisers_take_one : (s : SortId) (cs : List Con) → AllByRecursion TakesOne (all_recognisers s cs)
recognisers_take_one s [] = tt
recognisers_take_one s (c ∷ cs) = all_both TakesOne (recogniser_of s c) (all_recognisers s cs) (named_take_one s c.test bool_sort) (recognisers_take_one s cs)

all_get : {A : Type 0} (P : A → Type 0) (xs : List A) (i : ℕ) (z : A) → AllByRecursion P xs → i < length xs → P (get_or xs i z)
all_get P [] i z all l = absurd (omega (arith, l))
all_get P (x ∷ xs) zero z all l = all.0
all_get P (x ∷ xs) (suc i) z all l = all_get P xs i z all.1 (omega (arith, l))

-- a constructor gives the sort
gives_sort : (s : SortId) (p t : ℕ) (cs : List Con) (i : ℕ) → i < length cs → (get_or (constructors_of s p t cs) i no_function).result ≡ s
gives_sort s p t [] i l = absurd (omega (arith, l))
gives_sort s p t (c ∷ cs) zero l = refl
gives_sort s p t (c ∷ cs) (suc i) l = gives_sort s (p + named_fields c.fields) (t + count_of c.test) cs i (omega (arith, l))

pub get_all : {A : Type 0} (P : A → Type 0) (xs : List A) (i : ℕ) (z : A) → P z → All P xs → P (get_or xs i z)
get_all P [] i z d all = d
get_all P (x ∷ xs) zero z d all = All-head P x xs all
get_all P (x ∷ xs) (suc i) z d all = get_all P xs i z d (All-tail P x xs all)

and_false : (b : Bool) → (b && false) ≡ false
and_false true = refl
and_false false = refl

begun_first : (n k : ℕ) → 0 < k → begun_by (record { 0 = n }) (numbers_from n k) ≡ numbers_from n k
begun_first n zero l = absurd (omega (arith, l))
begun_first n (suc k) l = let same : nat_eq n n ≡ true = grind (arith, nat_tests) in ap (λ (b : Bool). cond b (numbers_from n (suc k)) []) same

begun_later : (n k i : ℕ) → 0 < i → begun_by (record { 0 = n + i }) (numbers_from n k) ≡ []
begun_later n zero i l = refl
begun_later n (suc k) i l = ap (λ (b : Bool). cond b (numbers_from n (suc k)) []) (other_number n (n + i) (omega (arith, l)))

one_section : (h : Sig) (n : TextNames) (s : SortId) (gs : List FunId) → 0 < length gs
    → struct_declared h n s gs ≡ record { word = sections.Sort; declarations = struct (n.sort (sort_place h s)) (map (constructor_with h n) gs) ∷ [] } ∷ []
one_section h n s [] l = absurd (omega (arith, l))
one_section h n s (g ∷ gs) l = refl

numbers_long : (n k : ℕ) → length (numbers_from n k) ≡ k
numbers_long n zero = refl
numbers_long n (suc k) = ap suc (numbers_long (n + 1) k)

-- ---- one struct
module _ (j k h : Sig) (before : IsSignature j) (after : IsSignature k) (grown : IsGrown k h) (x : Name) (w : GrowsByStruct j k) where
  abbrev m : TextNames
  m = text_names_under h x

  abbrev F : ℕ
  F = first j k before w

  abbrev cons : List Con
  cons = w.declared.1

  abbrev C : ℕ
  C = length cons

  abbrev sort : SortId
  sort = record { 0 = length w.named.sorts }

  abbrev projections : List Function
  projections = all_projections sort cons

  abbrev recognisers : List Function
  recognisers = all_recognisers sort cons

  abbrev made : List Function
  made = constructors_of sort (F + C) (F + C + length projections) cons

  abbrev all : List Function
  all = fs j k before w

  abbrev info : SortInfo
  info = record (abstract_sort w.declared.0) { kind = kinds.structured (numbers_from F C) }

  made_long : length made ≡ C
  made_long = length-constructors sort (F + C) (F + C + length projections) cons

  all_long : length all ≡ C + length (projections ++ recognisers)
  all_long =
      let a = length-append (made ++ projections) recognisers in
      let b = length-append made projections in
      let c = length-append projections recognisers in
      let d = made_long in
      omega (arith, a, b, c, d)

  functions_are : k.functions ≡ (bare j k before w).functions ++ all
  functions_are = ap (λ (y : Sig). y.functions) w.is

  low : (i : ℕ) → i < length all → F + i < length k.functions
  low i l = let long = ap length functions_are ∙ length-append (bare j k before w).functions all in omega (arith, l, long)

  stand_once : StandAt k F all
  stand_once i l = ap (λ (ys : List Function). get_or ys (F + i) no_function) functions_are ∙ get_or-append-add (bare j k before w).functions all i no_function

  stand_now : StandAt h F all
  stand_now i l = function_still k h after.complete grown (record { 0 = F + i }) (low i l) ∙ stand_once i l

  made_once : StandAt k F made
  made_once = stand_in_front k F made projections (stand_in_front k F (made ++ projections) recognisers stand_once)

  made_now : StandAt h F made
  made_now = stand_in_front h F made projections (stand_in_front h F (made ++ projections) recognisers stand_now)

  projections_now : StandAt h (F + C) projections
  projections_now = stand_behind h F (F + C) made projections (ap (λ i. F + i) made_long) (stand_in_front h F (made ++ projections) recognisers stand_now)

  recognisers_now : StandAt h (F + C + length projections) recognisers
  recognisers_now =
      let a = length-append made projections in
      let b = made_long in
      stand_behind h F (F + C + length projections) (made ++ projections) recognisers (omega (arith, a, b)) stand_now

  rest_once : StandAt k (F + C) (projections ++ recognisers)
  rest_once = stand_behind k F (F + C) made (projections ++ recognisers) (ap (λ i. F + i) made_long) (subst (StandAt k F) (append_assoc made projections recognisers) stand_once)

  -- ---- its sort, and all sorts
  its_kind : kind_at k sort ≡ kinds.structured (numbers_from F C)
  its_kind =
      let none : SortInfo = record { kind = kinds.booleans; name = None } in
      let z : length j.sorts ≡ length j.sorts + 0 = omega arith in
      ap (λ (ss : List SortInfo). (get_or ss (length w.named.sorts) none).kind) (sorts_are j k before w) ∙ ap (λ i. (get_or (j.sorts ++ info ∷ []) i none).kind) (ap length w.by_names.sorts ∙ z)
      ∙ ap (λ (i : SortInfo). i.kind) (get_or-append-add j.sorts (info ∷ []) 0 none)

  fewer : length j.functions ≤ F
  fewer =
      let a = ap length w.by_names.functions in
      let b = length-append w.named.functions (built_ins w.named.texts (sort_rows sort)) in
      omega (arith, a, b)

  abbrev AreBelow : SortInfo → Type 0
  AreBelow i = All (λ (c : FunId). c.0 < F + C) (constructors_in i.kind)

  all_are_below : All AreBelow k.sorts
  all_are_below =
      let some = fewer in
      subst (All AreBelow) (sym (sorts_are j k before w))
      (All-append AreBelow j.sorts (info ∷ [])
      (All-weaker (IsSortWithin (length j.texts) (length j.sorts) (length j.functions)) AreBelow
      (λ i is. All-weaker (λ (c : FunId). c.0 < length j.functions) (λ (c : FunId). c.0 < F + C) (λ c l. omega (arith, l, some)) (constructors_in i.kind) (kind_below (length j.texts) (length j.sorts) (length j.functions) i.kind is.built)) j.sorts before.complete.within.sorts_within)
      (All-cons AreBelow info [] (numbers_below F C (F + C) (omega arith)) (All-nil AreBelow)))

  below : (s : SortId) → All (λ (c : FunId). c.0 < F + C) (constructors_in (kind_at k s))
  below s = get_all AreBelow k.sorts s.0 (record { kind = kinds.booleans; name = None }) (All-nil (λ (c : FunId). c.0 < F + C)) all_are_below

  -- ---- constructors, and the others
  constructor_kind : (i : ℕ) → i < C → kind_at k (function_at k (record { 0 = F + i })).result ≡ kinds.structured (numbers_from F C)
  constructor_kind i l =
      let long = made_long in
      ap (λ (y : Function). kind_at k y.result) (made_once i (omega (arith, l, long))) ∙ ap (kind_at k) (gives_sort sort (F + C) (F + C + length projections) cons i l) ∙ its_kind

  takes_one : (i : ℕ) → i < length (projections ++ recognisers) → TakesOne (function_at k (record { 0 = F + C + i }))
  takes_one i l = subst TakesOne (sym (rest_once i l)) (all_get TakesOne (projections ++ recognisers) i no_function (all_both TakesOne projections recognisers (projections_take_one sort cons) (recognisers_take_one sort cons)) l)

  begins_nothing : (i : ℕ) → 0 < i → i < length all → struct_begun k (record { 0 = F + i }) ≡ []
  begins_nothing i some l = ⊎_elim
      (λ near. ap (λ c. begun_by (record { 0 = F + i }) (constructors_in c)) (constructor_kind i near) ∙ begun_later F C i some)
      (λ far. begins_none (record { 0 = F + i }) (F + C) (constructors_in (kind_at k (function_at k (record { 0 = F + i })).result)) (omega (arith, far)) (below (function_at k (record { 0 = F + i })).result))
      (near_or_far i C)

  is_no_constant : (i : ℕ) → i < length all → is_constant k (record { 0 = F + i }) ≡ false
  is_no_constant i l = ⊎_elim
      (λ near.
      ap (λ c. nat_eq (length (arguments_of (function_at k (record { 0 = F + i })))) 0 && not (list_any (λ (d : FunId). nat_eq d.0 (F + i)) (constructors_in c))) (constructor_kind i near)
      ∙ ap (λ b. nat_eq (length (arguments_of (function_at k (record { 0 = F + i })))) 0 && not b) (number_among F C i near) ∙ and_false (nat_eq (length (arguments_of (function_at k (record { 0 = F + i })))) 0))
      (λ far.
      let long = all_long in
      let z : F + C + (i - C) ≡ F + i = omega (arith, far) in
      let one : TakesOne (function_at k (record { 0 = F + i })) = subst (λ p. TakesOne (function_at k (record { 0 = p }))) z (takes_one (i - C) (omega (arith, l, far, long))) in
      ap (λ b. b && not (list_any (λ (d : FunId). nat_eq d.0 (F + i)) (constructors_in (kind_at k (function_at k (record { 0 = F + i })).result)))) one)
      (near_or_far i C)

  -- ---- its section
  sort_at : slice_get h.sorts (length w.named.sorts) ≡ Some info
  sort_at =
      let z : length j.sorts ≡ length j.sorts + 0 = omega arith in
      let there : slice_get k.sorts (length w.named.sorts) ≡ Some info =
      ap (λ ss. slice_get ss (length w.named.sorts)) (sorts_are j k before w) ∙ ap (slice_get (j.sorts ++ info ∷ [])) (ap length w.by_names.sorts ∙ z) ∙ read_behind j.sorts (info ∷ []) 0 info refl in
      ap (λ ss. slice_get ss (length w.named.sorts)) grown.sorts ∙ read_front k.sorts grown.new_sorts (length w.named.sorts) info there

  its_name : m.sort (sort_place h sort) ≡ text_under h w.declared.0
  its_name = sort_named_at h h.sorts (length w.named.sorts) info w.declared.0 (codes "S") sort_at refl refl

  first_begins : struct_begun h (record { 0 = F }) ≡ numbers_from F C
  first_begins =
      let some = w.some in
      let long = all_long in
      let z : F + 0 ≡ F = omega arith in
      let l : F < length k.functions = subst (λ p. p < length k.functions) z (low 0 (omega (arith, some, long))) in
      let kind = subst (λ p. kind_at k (function_at k (record { 0 = p })).result ≡ kinds.structured (numbers_from F C)) z (constructor_kind 0 some) in
      begun_still k h after.complete grown (record { 0 = F }) l ∙ ap (λ c. begun_by (record { 0 = F }) (constructors_in c)) kind ∙ begun_first F C some

  first_gives : (function_at h (record { 0 = F })).result ≡ sort
  first_gives =
      let some = w.some in
      let long = made_long in
      let z : F ≡ F + 0 = omega arith in
      ap (λ p. (function_at h (record { 0 = p })).result) z ∙ ap (λ (y : Function). y.result) (made_now 0 (omega (arith, some, long))) ∙ gives_sort sort (F + C) (F + C + length projections) cons 0 some

  first_section : structs_declared h m (record { 0 = F }) ≡ section_of h m w.declared ∷ []
  first_section =
      let some = w.some in
      let many = numbers_long F C in
      ap₂ (λ s gs. struct_declared h m s gs) first_gives first_begins ∙ one_section h m sort (numbers_from F C) (omega (arith, some, many))
      ∙ ap₂ (λ (t : Name) cs. record { word = sections.Sort; declarations = struct t cs ∷ [] } ∷ []) its_name (constructors_are h m sort F (F + C) (F + C + length projections) cons made_now projections_now recognisers_now)

  struct_chunk : Chunk h m (numbers_from F (length all)) (w.declared ∷ []) []
  struct_chunk =
      let some = w.some in
      let long = all_long in
      let rest = length all - 1 in
      let z : length all ≡ suc rest = omega (arith, some, long) in
      let none : AllByRecursion (λ (f : FunId). struct_begun h f ≡ []) (numbers_from (F + 1) rest) =
      all_numbers (λ (f : FunId). struct_begun h f ≡ []) (F + 1) rest (λ i l.
      let e : F + suc i ≡ F + 1 + i = omega arith in
      subst (λ p. struct_begun h (record { 0 = p }) ≡ []) e (begun_still k h after.complete grown (record { 0 = F + suc i }) (low (suc i) (omega (arith, l, z))) ∙ begins_nothing (suc i) (omega arith) (omega (arith, l, z)))) in
      let no_one : constants_among h (numbers_from F (length all)) ≡ [] =
      no_constants h (numbers_from F (length all)) (all_numbers (λ (f : FunId). is_constant h f ≡ false) F (length all) (λ i l. constant_still k h after.complete grown (record { 0 = F + i }) (low i l) ∙ is_no_constant i l)) in
      record {
        structs_are = ap (λ i. flat_map (structs_declared h m) (numbers_from F i)) z ∙ ap₂ (λ xs ys. xs ++ ys) first_section (no_structs_declared h m (numbers_from (F + 1) rest) none);
        lines_are = ap (map (line_declared h m lines.Constant)) no_one;
        names_are = ap (map (name_at h)) no_one;
      }

-- ---- any number of them
module _ (g : Sig) (stands : IsSignature g) (h : Sig) (x : Name) where
  abbrev n : TextNames
  n = text_names_under h x

  added_chunk : {k : Sig} (w : GrowsByAdditions g k) → IsGrown k h → Chunk h n (added_numbers g stands w) (added_structs w) (added_constants w)
  added_chunk nothing_added grown = record { structs_are = refl; lines_are = refl; names_are = refl }
  added_chunk (then_constants {h = j} {k = k} before by after) grown =
      let own = numbers_from (length j.functions) (length by.constants) in
      subst (λ ss. Chunk h n (added_numbers g stands before ++ own) ss (added_constants before ++ by.constants)) (append-nil (added_structs before))
      (chunks h n (added_numbers g stands before) own (added_structs before) [] (added_constants before) by.constants (added_chunk before (growth_after_growth_is_growth j k h by.grown grown))
      (constants_chunk j k h (still_stands g stands before) after grown n by))
  added_chunk (then_struct {h = j} {k = k} before by after) grown =
      let its = still_stands g stands before in
      let own = numbers_from (first j k its by) (length (fs j k its by)) in
      subst (λ cs. Chunk h n (added_numbers g stands before ++ own) (added_structs before ++ by.declared ∷ []) cs) (append-nil (added_constants before))
      (chunks h n (added_numbers g stands before) own (added_structs before) (by.declared ∷ []) (added_constants before) [] (added_chunk before (growth_after_growth_is_growth j k h (it_is_grown j k its by) grown))
      (struct_chunk j k h its after grown x by))
  added_chunk (then_action {h = j} {k = k} before by after) grown = added_chunk before (growth_after_growth_is_growth j k h by.grown grown)

lines_of : (h : Sig) (n : TextNames) (gs : List FunId) (cs : List (NameId × SortId)) → map (line_declared h n lines.Constant) gs ≡ map (mapping_declared h n) cs → lines_declared h n lines.Constant gs ≡ mappings_declared h n cs
lines_of h n [] [] e = refl
lines_of h n [] (c ∷ cs) e = absurd cc
lines_of h n (f ∷ gs) [] e = absurd cc
lines_of h n (f ∷ gs) (c ∷ cs) e = ap (λ (ds : List Declaration). record { word = sections.Map; declarations = ds } ∷ []) e

declared_sections : (h : Sig) (n : TextNames) (ss : List Struct) → declarations_in (map (section_of h n) ss) ≡ map (declaration_of h n) ss
declared_sections h n [] = refl
declared_sections h n (s ∷ ss) = ap (λ (ds : List Declaration). declaration_of h n s ∷ ds) (declared_sections h n ss)

declared_actions : (h : Sig) (as_ : List NameId) → declarations_in (actions_declared h as_) ≡ map (action_declared h) as_
declared_actions h [] = refl
declared_actions h (a ∷ as_) = append-nil (map (action_declared h) (a ∷ as_))

names_of_keys : (as_ : List NameId) → map (λ (a : Key). a.name) (map (λ (n : NameId). key n []) as_) ≡ as_
names_of_keys [] = refl
names_of_keys (a ∷ as_) = ap (λ (bs : List NameId). a ∷ bs) (names_of_keys as_)

pub what_is_added_is_printed : WhatIsAddedIsPrinted
what_is_added_is_printed spec g h stands is w =
    let numbers = added_numbers g stands w in
    let same : added_functions spec h ≡ numbers = added_are spec g h numbers is (numbers_are g stands w) in
    let chunk : (x : Name) → Chunk h (text_names_under h x) numbers (added_structs w) (added_constants w) = λ x. added_chunk g stands h x w (grown_itself h) in
    let acts : added_actions_of spec h ≡ added_actions w = added_actions_are spec g h (map (λ (a : NameId). key a []) (added_actions w)) is (actions_grow g stands w) ∙ names_of_keys (added_actions w) in
    let declared_ : (x : Name) (empty_lists : List FunId) → added_declared spec h (text_names_under h x) empty_lists
    ≡ actions_declared h (added_actions w)
    ++ (map (section_of h (text_names_under h x)) (added_structs w) ++ (mappings_declared h (text_names_under h x) (added_constants w) ++ lines_declared h (text_names_under h x) lines.EmptyList empty_lists))
    = λ x empty_lists. (let n = text_names_under h x in
    ap₂ (λ (as_ : List NameId) (fs : List FunId). actions_declared h as_ ++ (flat_map (structs_declared h n) fs ++ (lines_declared h n lines.Constant (constants_among h fs) ++ lines_declared h n lines.EmptyList empty_lists))) acts same
    ∙ ap₂ (λ (xs ys : List Section). actions_declared h (added_actions w) ++ (xs ++ (ys ++ lines_declared h n lines.EmptyList empty_lists))) (chunk x).structs_are (lines_of h n (constants_among h numbers) (added_constants w) (chunk x).lines_are)) in
    record {
      actions = acts;
      constants = ap (λ (fs : List FunId). map (name_at h) (constants_among h fs)) same ∙ (chunk []).names_are;
      declared = declared_;
      declarations = λ x empty_lists. (let n = text_names_under h x in
          ap declarations_in (declared_ x empty_lists)
          ∙ flat_map-append (λ (s : Section). s.declarations) (actions_declared h (added_actions w)) (map (section_of h n) (added_structs w) ++ (mappings_declared h n (added_constants w) ++ lines_declared h n lines.EmptyList empty_lists))
          ∙ ap₂ (λ (xs ys : List Declaration). xs ++ ys) (declared_actions h (added_actions w))
          (flat_map-append (λ (s : Section). s.declarations) (map (section_of h n) (added_structs w)) (mappings_declared h n (added_constants w) ++ lines_declared h n lines.EmptyList empty_lists)
          ∙ ap₂ (λ (xs ys : List Declaration). xs ++ ys) (declared_sections h n (added_structs w))
          (flat_map-append (λ (s : Section). s.declarations) (mappings_declared h n (added_constants w)) (lines_declared h n lines.EmptyList empty_lists) ∙ ap₂ (λ (xs ys : List Declaration). xs ++ ys) (mappings_are h n (added_constants w)) (equations_are h n empty_lists))));
    }

-- ---- the constants for empty lists
pub empty_lists_are_added : EmptyListsAreAdded
empty_lists_are_added spec g i h sorts needed stands between after is earlier last further over =
    let old = added_numbers g stands earlier in
    let new = numbers_from (length i.functions) (length last.constants) in
    let many : length last.constants ≡ length needed = as_many_constants i h sorts last further ∙ sym (length-map sorts (sort_under i)) ∙ ap length over ∙ length-map needed list in
    let same : added_functions spec h ≡ old ++ new = added_are spec g h (old ++ new) is (numbers_are g stands (then_constants earlier last after)) in
    let ones : constants_among h new ≡ new = all_constants h new (each_is_one i h h between after (grown_itself h) (text_names_under h []) last last.constants new (at_their_numbers i h between last)) in
    let split : constants_among h (added_functions spec h) ≡ constants_among h old ++ new = ap (constants_among h) same ∙ constants_both h old new ∙ ap (λ fs. constants_among h old ++ fs) ones in
    let all : All (Contains (constants_among h old ++ new)) new = All-weaker (Contains new) (Contains (constants_among h old ++ new)) (λ f there. Contains-append_right (constants_among h old) new f there) new (All-contains_itself new) in
    subst (λ (n : ℕ). All (Contains (constants_among h (added_functions spec h))) (numbers_from (length i.functions) n)) many (subst (λ (fs : List FunId). All (Contains fs) new) (sym split) all)
