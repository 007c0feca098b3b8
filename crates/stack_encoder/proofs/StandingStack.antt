-- The sort of the stack in a signature is one in the data.
use Rattle.std.proofs.Common.{◌≡◌, ◌+◌, ℕ, zero, suc, List, [], ◌∷◌, ◌++◌, map, length, refl, sym, ap, ap₂, ◌∙◌, subst, arith, Some, None}
use Rattle.std.specs.Prelude.{slice_get, Contains}
use Rattle.std.proofs.lemmas.Option.{slice_get_within}
use Rattle.regular_encoder.proofs.FirstTerms.{some_is}
use Rattle.std.proofs.lemmas.List.{length-append, length-map}
use Rattle.data_theory.specs.declared.ids.NameId.{NameId}
use Rattle.data_theory.specs.declared.ids.SortId.{SortId}
use Rattle.data_theory.specs.declared.ids.FunId.{FunId}
use Rattle.data_theory.specs.Terms.{Sort, boolean, positive, function}
use Rattle.data_theory.specs.Declarations as theory
use Rattle.data_theory.specs.Declarations.{Data, Role, constructor, projection, recogniser, function_at, sort_at}
use Rattle.data_theory.specs.Sorts.{SortInfo, Kind, with_kind}
use Rattle.data_theory.specs.Functions.{Function}
use Rattle.data_theory.specs.Structs.{numbers_of, numbers_from, projections_of, all_projections, constructors_of}
use Rattle.data_theory.specs.Table.{bool_sort, pos_sort}
use Rattle.data_theory.specs.Signature.{Sig, with_sort}
use Rattle.data_theory.specs.IdTables.{IsTable}
use Rattle.data_theory.specs.IdRoles.{AreRoles, declared_number, constructs, projects, recognises}
use Rattle.data_theory.specs.IdSorts.{construction_of, meaning_of}
use Rattle.data_theory.specs.IdData.{constructors_of as constructors_in, role_meant, data_meant}
use Rattle.data_theory.specs.IdTerms.{sort_under, symbol_under}
use Rattle.data_theory.proofs.IdSymbolLemmas.{boolean_is, positive_is, read_sort, different_functions_mean_different_symbols, declared_functions_stand_in_the_data}
use Rattle.data_theory.proofs.IdSortLemmas.{declared_sorts_stand_in_the_data}
use Rattle.data_theory.proofs.IdDataLemmas.{roles_are_found}
use Rattle.process_terms.specs.Processes.{Bound}
use Rattle.bisim_laws.specs.LinearProcesses.{sorts}
use Rattle.bisim_laws.proofs.Firing.{contains_first, contains_later}
use Rattle.stack_encoder.specs.StackEncoding.{StackSymbols, stack_sort, on_stack, FieldsStand, IsStack}
use Rattle.stack_encoder.specs.TreeStack.{MeansSymbols, StandingFunctionsAreSymbols}
use Rattle.stack_encoder.specs.StackEntries.{StackIds, symbols_meant, StackStands, StandingStackIsAStack, named_field, push_declared, empty_declared, DeclaredStackStands}

head_same : {A : Type 0} {x y : A} {xs ys : List A} → x ∷ xs ≡ y ∷ ys → x ≡ y
head_same e = cc

tail_same : {A : Type 0} {x y : A} {xs ys : List A} → x ∷ xs ≡ y ∷ ys → xs ≡ ys
tail_same e = cc

at_end : {A : Type 0} (xs : List A) (y : A) → slice_get (xs ++ y ∷ []) (length xs) ≡ Some y
at_end [] y = refl
at_end (x ∷ xs) y = at_end xs y

module _ (g : Sig) (i : StackIds) (columns : List SortId) (table : IsTable g) (roles : AreRoles g) (stands : StackStands g i columns) where
  abbrev k : StackSymbols
  k = symbols_meant g i

  abbrev D : Data
  D = data_meant g

  entry : (p : FunId) (f : Function) (r : Role) → slice_get g.functions p.0 ≡ Some f → f.word ≡ None → role_meant g p ≡ r
      → function_at D (declared_number g.functions p) ≡ record { arguments = map (sort_under g) f.sorts; result = sort_under g f.result; role = r }
  entry p f r at w e = (declared_functions_stand_in_the_data g p f at w).1 ∙ ap (λ z. record { arguments = map (sort_under g) f.sorts; result = sort_under g f.result; role = z }) e

  pub sort_is : sort_under g i.sort ≡ stack_sort k
  sort_is = read_sort g table i.sort stands.info stands.sort_at ∙ ap (meaning_of (sort_under g) _) stands.kind

  -- a constructor's entry
  is_constructor : (c : FunId) (f : Function) → slice_get g.functions c.0 ≡ Some f → Contains (constructors_in stands.info.kind) c
      → (f.word ≡ None) × ((f.result ≡ i.sort) × (role_meant g c ≡ constructor))
  is_constructor c f at h =
      let d = roles.constructors i.sort stands.info c stands.sort_at h in
      let same : d.0 ≡ f = some_is (sym d.1 ∙ at) in
      (ap (λ z. z.word) (sym same) ∙ d.2, (ap (λ z. z.result) (sym same) ∙ d.3, roles_are_found g roles c constructor (constructs i.sort stands.info stands.sort_at h)))

  push_among : Contains (constructors_in stands.info.kind) i.push
  push_among = subst (λ z. Contains (constructors_in z) i.push) (sym stands.kind) (contains_first i.push (i.empty ∷ []))

  empty_among : Contains (constructors_in stands.info.kind) i.empty
  empty_among = subst (λ z. Contains (constructors_in z) i.empty) (sym stands.kind) (contains_later i.push i.empty (i.empty ∷ []) (contains_first i.empty []))

  push_is : (stands.push.word ≡ None) × ((stands.push.result ≡ i.sort) × (role_meant g i.push ≡ constructor))
  push_is = is_constructor i.push stands.push stands.push_at push_among

  empty_is : (stands.empty.word ≡ None) × ((stands.empty.result ≡ i.sort) × (role_meant g i.empty ≡ constructor))
  empty_is = is_constructor i.empty stands.empty stands.empty_at empty_among

  -- a function of one stack
  of_stack : (p : FunId) (f : Function) (to : SortId) (s : Sort) (r : Role) → slice_get g.functions p.0 ≡ Some f → f.word ≡ None → f.result ≡ to → f.sorts ≡ stands.push.result ∷ [] → sort_under g to ≡ s → role_meant g p ≡ r
      → function_at D (declared_number g.functions p) ≡ on_stack k s r
  of_stack p f to s r at w e a m role =
      entry p f r at w role
      ∙ ap₂ (λ x y. record { arguments = x; result = y; role = r })
      (ap (map (sort_under g)) (a ∙ ap (λ z. z ∷ []) push_is.1.0) ∙ ap (λ z. z ∷ []) sort_is)
      (ap (sort_under g) e ∙ m)

  projects_to : (p : FunId) (j : ℕ) (to : SortId) (s : Sort) → slice_get stands.push.projections j ≡ Some (Some p) → slice_get stands.push.sorts j ≡ Some to → sort_under g to ≡ s
      → function_at D (declared_number g.functions p) ≡ on_stack k s (projection k.names.push j)
  projects_to p j to s at at_sort m =
      let h = (roles.projections i.push p stands.push j stands.push_at at).1 in
      let same : h.0 ≡ to = some_is (sym h.1 ∙ at_sort) in
      of_stack p h.2.0 to s (projection k.names.push j) h.2.1 h.2.2 (h.2.3 ∙ same) h.2.4 m (roles_are_found g roles p (projection k.names.push j) (projects i.push stands.push j stands.push_at at))

  fields_stand : (j : ℕ) (xs : List Bound) (ss : List SortId) (ps : List FunId) → length ps ≡ length ss → sorts xs ≡ map (sort_under g) ss
      → ((n : ℕ) → slice_get stands.push.projections (n + j) ≡ slice_get (map Some ps ++ Some i.rest ∷ []) n)
      → ((n : ℕ) → slice_get stands.push.sorts (n + j) ≡ slice_get (ss ++ i.sort ∷ []) n)
      → FieldsStand D k j xs (map (declared_number g.functions) ps)
  fields_stand j [] [] [] l e h w = tt
  fields_stand j [] [] (p ∷ ps) l e h w = absurd (omega (arith, l))
  fields_stand j [] (s ∷ ss) ps l e h w = absurd (omega (arith, ap length e))
  fields_stand j (x ∷ xs) [] ps l e h w = absurd (omega (arith, ap length e))
  fields_stand j (x ∷ xs) (s ∷ ss) [] l e h w = absurd (omega (arith, l))
  fields_stand j (x ∷ xs) (s ∷ ss) (p ∷ ps) l e h w =
      let here : j ≡ 0 + j = omega arith in (
        projects_to p j s x.sort (ap (slice_get stands.push.projections) here ∙ h 0) (ap (slice_get stands.push.sorts) here ∙ w 0) (sym (head_same e)),
        fields_stand (suc j) xs ss ps (omega (arith, l)) (tail_same e)
            (λ n. ap (slice_get stands.push.projections) (let m : n + suc j ≡ suc n + j = omega arith in m) ∙ h (suc n))
            (λ n. ap (slice_get stands.push.sorts) (let m : n + suc j ≡ suc n + j = omega arith in m) ∙ w (suc n)),
      )

  standing : (xs : List Bound) → sorts xs ≡ map (sort_under g) columns → IsStack D k xs
  standing xs e =
      let r = roles.recognisers i.push i.is_push stands.push stands.push_at stands.push_test in
      let columns_long : length columns ≡ length xs = sym (length-map columns (sort_under g)) ∙ ap length (sym e) ∙ length-map xs (λ (x : Bound). x.sort) in
      record {
        is_struct = declared_sorts_stand_in_the_data g i.sort stands.info theory.structured stands.sort_at (ap construction_of stands.kind);
        push = entry i.push stands.push constructor stands.push_at push_is.0 push_is.1.1
            ∙ ap₂ (λ x y. record { arguments = x; result = y; role = constructor })
            (ap (map (sort_under g)) stands.push_sorts ∙ ap₂ (λ x y. x ∷ y) (positive_is g table) (joined columns ∙ ap (λ z. z ++ stack_sort k ∷ []) (sym e)))
            (ap (sort_under g) push_is.1.0 ∙ sort_is);
        empty = entry i.empty stands.empty constructor stands.empty_at empty_is.0 empty_is.1.1
            ∙ ap₂ (λ x y. record { arguments = x; result = y; role = constructor }) (ap (map (sort_under g)) stands.empty_sorts) (ap (sort_under g) empty_is.1.0 ∙ sort_is);
        is_push = of_stack i.is_push r.1.0 bool_sort boolean (recogniser k.names.push) r.1.1 r.1.2 r.1.3 r.1.4 (boolean_is g table) (roles_are_found g roles i.is_push (recogniser k.names.push) (recognises i.push stands.push stands.push_at stands.push_test));
        pc = projects_to i.pc 0 pos_sort positive (ap (λ l. slice_get l 0) stands.push_projections) (ap (λ l. slice_get l 0) stands.push_sorts) (positive_is g table);
        fields = fields_stand 1 xs columns i.fields stands.long e
            (λ n. ap₂ (λ l m. slice_get l m) stands.push_projections (let m : n + 1 ≡ suc n = omega arith in m))
            (λ n. ap₂ (λ l m. slice_get l m) stands.push_sorts (let m : n + 1 ≡ suc n = omega arith in m));
        rest = projects_to i.rest (suc (length xs)) i.sort (stack_sort k)
            (ap₂ (λ l m. slice_get l (suc m)) stands.push_projections (sym (length-map i.fields Some ∙ stands.long ∙ columns_long)) ∙ at_end (map Some i.fields) (Some i.rest))
            (ap₂ (λ l m. slice_get l (suc m)) stands.push_sorts (sym columns_long) ∙ at_end columns i.sort) sort_is;
        differ = λ n. stands.differ (ap (λ z. z.0) (different_functions_mean_different_symbols g table i.empty i.push (slice_get_within g.functions i.empty.0 stands.empty stands.empty_at) (slice_get_within g.functions i.push.0 stands.push stands.push_at)
            ((declared_functions_stand_in_the_data g i.empty stands.empty stands.empty_at empty_is.0).0 ∙ ap function n ∙ sym (declared_functions_stand_in_the_data g i.push stands.push stands.push_at push_is.0).0)));
      }
    where
      joined : (cs : List SortId) → map (sort_under g) (cs ++ i.sort ∷ []) ≡ map (sort_under g) cs ++ stack_sort k ∷ []
      joined [] = ap (λ z. z ∷ []) sort_is
      joined (c ∷ cs) = ap (λ z. sort_under g c ∷ z) (joined cs)

  -- ---- symbols
  symbol : (p : FunId) (f : Function) → slice_get g.functions p.0 ≡ Some f → f.word ≡ None → symbol_under g p ≡ function (declared_number g.functions p)
  symbol p f at w = (declared_functions_stand_in_the_data g p f at w).0

  projection_symbol : (p : FunId) (j : ℕ) → slice_get stands.push.projections j ≡ Some (Some p) → symbol_under g p ≡ function (declared_number g.functions p)
  projection_symbol p j at = let h = (roles.projections i.push p stands.push j stands.push_at at).1 in symbol p h.2.0 h.2.1 h.2.2

  field_symbols : (j : ℕ) (ps : List FunId) → ((n : ℕ) → slice_get stands.push.projections (n + j) ≡ slice_get (map Some ps ++ Some i.rest ∷ []) n) → map (symbol_under g) ps ≡ map function (map (declared_number g.functions) ps)
  field_symbols j [] h = refl
  field_symbols j (p ∷ ps) h =
      ap₂ (λ x xs. x ∷ xs) (projection_symbol p j (ap (slice_get stands.push.projections) (let e : j ≡ 0 + j = omega arith in e) ∙ h 0))
      (field_symbols (suc j) ps (λ n. ap (slice_get stands.push.projections) (let e : n + suc j ≡ suc n + j = omega arith in e) ∙ h (suc n)))

  standing_symbols : MeansSymbols g i k
  standing_symbols =
      let r = roles.recognisers i.push i.is_push stands.push stands.push_at stands.push_test in
      record {
        push = symbol i.push stands.push stands.push_at push_is.0;
        empty = symbol i.empty stands.empty stands.empty_at empty_is.0;
        is_push = symbol i.is_push r.1.0 r.1.1 r.1.2;
        pc = projection_symbol i.pc 0 (ap (λ l. slice_get l 0) stands.push_projections);
        rest = projection_symbol i.rest (suc (length (map Some i.fields))) (ap (λ l. slice_get l (suc (length (map Some i.fields)))) stands.push_projections ∙ at_end (map Some i.fields) (Some i.rest));
        fields = field_symbols 1 i.fields (λ n. ap₂ (λ l m. slice_get l m) stands.push_projections (let e : n + 1 ≡ suc n = omega arith in e));
      }

pub standing_functions : StandingFunctionsAreSymbols
standing_functions g i columns table roles stands = standing_symbols g i columns table roles stands

pub standing_stack : StandingStackIsAStack
standing_stack g i columns xs table roles stands e = standing g i columns table roles stands xs e

-- ---- what is declared
kind_set : (ss : List SortInfo) (s : SortInfo) (d : Kind) → slice_get (with_kind (ss ++ s ∷ []) (length ss) d) (length ss) ≡ Some (record s { kind = d })
kind_set [] s d = refl
kind_set (x ∷ ss) s d = kind_set ss s d

behind : {A : Type 0} (xs : List A) (y z : A) (ys : List A) → (slice_get (xs ++ y ∷ z ∷ ys) (length xs) ≡ Some y) × (slice_get (xs ++ y ∷ z ∷ ys) (length xs + 1) ≡ Some z)
behind [] y z ys = (refl, refl)
behind (x ∷ xs) y z ys = let h = behind xs y z ys in (h.0, ap (slice_get (x ∷ (xs ++ y ∷ z ∷ ys))) (let n : suc (length xs) + 1 ≡ suc (length xs + 1) = omega arith in n) ∙ h.1)

numbers_are : (m : ℕ) (fs : List (NameId × SortId)) (rest : NameId) (s : SortId)
    → numbers_of m (map named_field fs ++ (Some rest, s) ∷ []) ≡ map Some (numbers_from m (length fs)) ++ Some (record { 0 = m + length fs }) ∷ []
numbers_are m [] rest s = ap (λ (n : ℕ). Some (record { 0 = n }) ∷ []) (let e : m ≡ m + 0 = omega arith in e)
numbers_are m (f ∷ fs) rest s =
    ap (λ l. Some (record { 0 = m }) ∷ l)
    (numbers_are (m + 1) fs rest s ∙ ap (λ (n : ℕ). map Some (numbers_from (m + 1) (length fs)) ++ Some (record { 0 = n }) ∷ []) (let e : m + 1 + length fs ≡ m + suc (length fs) = omega arith in e))

sorts_are : (fs : List (NameId × SortId)) (rest : NameId) (s : SortId) → map (λ f. f.1) (map named_field fs ++ (Some rest, s) ∷ []) ≡ map (λ f. f.1) fs ++ s ∷ []
sorts_are [] rest s = refl
sorts_are (f ∷ fs) rest s = ap (λ l. f.1 ∷ l) (sorts_are fs rest s)

projections_long : (to : SortId) (fs : List (NameId × SortId)) (rest : NameId) (s : SortId) → length (projections_of to (map named_field fs ++ (Some rest, s) ∷ [])) ≡ length fs + 1
projections_long to [] rest s = refl
projections_long to (f ∷ fs) rest s = ap suc (projections_long to fs rest s) ∙ (let e : suc (length fs + 1) ≡ suc (length fs) + 1 = omega arith in e)

numbers_long : (m n : ℕ) → length (numbers_from m n) ≡ n
numbers_long m zero = refl
numbers_long m (suc n) = ap suc (numbers_long (m + 1) n)

pub declared_stack : DeclaredStackStands
declared_stack g name push pc rest test empty fields =
    let s : SortId = record { 0 = length g.sorts } in
    let n = length (with_sort g name).functions in
    let c0 = push_declared push pc fields rest test s in
    let c1 = empty_declared empty in
    let all = all_projections s (c0 ∷ c1 ∷ []) in
    let all_long : length all ≡ length fields + 2 =
    length-append (projections_of s c0.fields) (projections_of s [] ++ []) ∙ (let p = projections_long s fields rest s in omega (arith, p)) in
    let fs = constructors_of s (n + 2) (n + 2 + length all) (c0 ∷ c1 ∷ []) in
    let at = behind (with_sort g name).functions _ _ _ in
    record {
      info = _;
      sort_at = kind_set g.sorts _ _;
      kind = refl;
      push = _;
      push_at = at.0;
      push_sorts = ap (λ l. pos_sort ∷ l) (sorts_are fields rest s);
      push_projections = ap (λ l. Some (record { 0 = n + 2 }) ∷ l) (ap (λ m. numbers_of m (map named_field fields ++ (Some rest, s) ∷ [])) (let e : n + 2 + 1 ≡ n + 3 = omega arith in e) ∙ numbers_are (n + 3) fields rest s);
      push_test = ap (λ (m : ℕ). Some (record { 0 = m })) (let e : n + 2 + length all ≡ n + 4 + length fields = omega (arith, all_long) in e);
      empty = _;
      empty_at = at.1;
      empty_sorts = refl;
      long = numbers_long (n + 3) (length fields) ∙ sym (length-map fields (λ f. f.1));
      differ = λ e. absurd (omega (arith, e));
    }
