-- The tables of a vocabulary of sound declarations are data, and no sort of theirs is empty.
use Rattle.std.proofs.Common.{◌≡◌, ◌<◌, ◌+◌, ◌⊎◌, ⊎_elim, ℕ, zero, suc, List, [], ◌∷◌, ◌++◌, map, length, refl, sym, ap, ◌∙◌, subst, arith}
use Rattle.std.specs.Prelude.{Option, Some, None, option_map, option_and_then, slice_get}
use Rattle.std.specs.List.{AllByRecursion, flat_map}
use Rattle.std.proofs.lemmas.Option.{none-some, same_Some, slice_get-map, slice_get_within, get_or_from_slice_get}
use Rattle.std.proofs.lemmas.List.Elements.{All-from_recursion}
use Rattle.data_theory.specs.Terms.{Sort, boolean, named, Term, unknown}
use Rattle.data_theory.specs.Declarations as theory
use Rattle.data_theory.specs.Declarations.{Role, Construction, Data, DeclaredFunction, function_at, sort_at, structured, IsSort, FitsRole, IsData, IsConstructed, HasSort, NoSortIsEmpty}
use Rattle.sort_table.specs.Expressions.{Name}
use Rattle.sort_table.specs.NamedLists.{all_named, first_named}
use Rattle.sort_table.specs.BareSorts.{SortExpression, truth_values, a_name}
use Rattle.sort_table.specs.BareDeclarations.{Field, Constructor, Declaration, sorts, alias, struct, constructors, mappings, variables, equation, actions, process, initial, Section, declarations_in}
use Rattle.sort_table.specs.FunctionStates.{struct_name, structs_in}
use Rattle.sort_table.specs.Refusals.{IsSoundlyDeclared}
use Rattle.sort_table.specs.SortMeanings.{alone, a_struct, UnderNames, under_names}
use Rattle.sort_table.specs.TextFunctions as text
use Rattle.sort_table.specs.TextFunctions.{TextRole, TextFunction, Named, declared, where_named, fields_of, projections_from, functions_by, functions_in}
use Rattle.sort_table.specs.Vocabularies.{Vocabulary, sort_in, sorts_in, IsConstruction, by_struct, by_cons, by_none, declared_alone, declared_as_struct, HasNumber, IsRole, of_struct, of_cons, of_no_cons, of_place, of_test, of_map, IsFunction, IsVocabularyOf}
use Rattle.sort_table.proofs.Growing.{near_or_far}
use Rattle.sort_table.proofs.NothingTwice.{functions_differ, kinds_differ}
use Rattle.sort_table.proofs.OneSort.{what_stands_for_a_sort_has_it}
use Rattle.sort_table.proofs.SameEmptiness.{sorts_then}
use Rattle.sort_table.proofs.SortKinds.{declared_struct}
use Rattle.data_typing.specs.TypingLaws.{IsOverData}
use Rattle.lin_driver.proofs.OneVocabulary.{Among, first_one, one_behind, among_none, among_mapped, among_rows, among_named, its_own, IsCalled, called_boolean, called_positive, called_natural, called_integer, called_list, called_by_name, is_called, numbers_meet}
use Rattle.lin_driver.proofs.AmongLists.{among_contains, contains_among, among_front, among_either, among_map, among_flat, into_flat, each_among, pairs_there}

-- ---- what declares a function
abbrev made_by : Name → Constructor → TextFunction
made_by n c = record { arguments = fields_of c; result = a_name n; role = text.struct_constructor }

abbrev read_by : Name → Constructor → Field → ℕ → TextFunction
read_by n c p i = record { arguments = a_name n ∷ []; result = p.sort; role = text.projection c.name (fields_of c) i }

abbrev told_by : Name → Constructor → TextFunction
told_by n c = record { arguments = a_name n ∷ []; result = truth_values; role = text.recogniser c.name (fields_of c) }

-- a named function among those of the declarations is a constructor, a projection or a recogniser of a struct, or is declared by `cons` or `map`
pub data HowDeclared (ds : List Declaration) (y : Named) : Type 0 where
  as_constructor : {n : Name} {cs : List Constructor} {c : Constructor} → Among (struct n cs) ds → Among c cs → y.0 ≡ c.name → y.1 ≡ made_by n c → HowDeclared ds y
  as_projection : {n : Name} {cs : List Constructor} {c : Constructor} {i : ℕ} {p : Field} → Among (struct n cs) ds → Among c cs → slice_get c.fields i ≡ Some p → p.name ≡ Some y.0 → y.1 ≡ read_by n c p i → HowDeclared ds y
  as_recogniser : {n : Name} {cs : List Constructor} {c : Constructor} → Among (struct n cs) ds → Among c cs → c.recogniser ≡ Some y.0 → y.1 ≡ told_by n c → HowDeclared ds y
  as_declared : {fs : List Name} {es : List SortExpression} {to : SortExpression} → Among (constructors fs es to) ds → Among y.0 fs → y.1 ≡ record { arguments = es; result = to; role = text.declared_constructor } → HowDeclared ds y
  as_mapping : {fs : List Name} {es : List SortExpression} {to : SortExpression} → Among (mappings fs es to) ds → Among y.0 fs → y.1 ≡ record { arguments = es; result = to; role = text.mapping } → HowDeclared ds y

in_where : (e to : SortExpression) (r : TextRole) (o : Option Name) {y : Named} → Among y (where_named e to r o) → (o ≡ Some y.0) × (y.1 ≡ record { arguments = e ∷ []; result = to; role = r })
in_where e to r None h = absurd (among_none h)
in_where e to r (Some f) first_one = (refl, refl)
in_where e to r (Some f) (one_behind h) = absurd (among_none h)

-- the projection of a place behind k others
record IsProjection (n : Name) (c : Constructor) (k : ℕ) (fs : List Field) (y : Named) : Type 0 where
  place : ℕ
  part : Field
  there : slice_get fs place ≡ Some part
  named_so : part.name ≡ Some y.0
  is : y.1 ≡ read_by n c part (k + place)

in_projections : (n : Name) (c : Constructor) (k : ℕ) (fs : List Field) {y : Named} → Among y (projections_from (a_name n) c k fs) → IsProjection n c k fs y
in_projections n c k [] h = absurd (among_none h)
in_projections n c k (p ∷ fs) h =
    ⊎_elim
    (λ a. (let r = in_where (a_name n) p.sort (text.projection c.name (fields_of c) k) p.name a in record { place = 0; part = p; there = refl; named_so = r.0; is = r.1 ∙ ap (read_by n c p) (omega arith) }))
    (λ a. (let r = in_projections n c (suc k) fs a in record { place = suc r.place; part = r.part; there = r.there; named_so = r.named_so; is = r.is ∙ ap (read_by n c r.part) (omega arith) }))
    (among_either (where_named (a_name n) p.sort (text.projection c.name (fields_of c) k) p.name) h)

abbrev constructors_by : Name → Constructor → Named
constructors_by n c = declared (fields_of c) (a_name n) text.struct_constructor c.name

abbrev projections_by : Name → Constructor → List Named
projections_by n c = projections_from (a_name n) c 0 c.fields

abbrev recognisers_by : Name → Constructor → List Named
recognisers_by n c = where_named (a_name n) truth_values (text.recogniser c.name (fields_of c)) c.recogniser

of_struct_here : (ds : List Declaration) (n : Name) (cs : List Constructor) → Among (struct n cs) ds → {y : Named} → Among y (functions_by (struct n cs)) → HowDeclared ds y
of_struct_here ds n cs there {y = y} h =
    ⊎_elim
    (λ a. (let r = among_map (constructors_by n) cs a in as_constructor there r.1 (ap (λ (z : Named). z.0) r.2) (ap (λ (z : Named). z.1) r.2)))
    (λ a. ⊎_elim
    (λ b. (let r = among_flat (projections_by n) cs b in let p = in_projections n r.0 0 r.0.fields r.2 in as_projection there r.1 p.there p.named_so (p.is ∙ ap (read_by n r.0 p.part) (omega arith))))
    (λ b. (let r = among_flat (recognisers_by n) cs b in let w = in_where (a_name n) truth_values (text.recogniser r.0.name (fields_of r.0)) r.0.recogniser r.2 in as_recogniser there r.1 w.0 w.1))
    (among_either (flat_map (projections_by n) cs) a))
    (among_either (map (constructors_by n) cs) h)

of_declaration : (ds : List Declaration) (d : Declaration) → Among d ds → {y : Named} → Among y (functions_by d) → HowDeclared ds y
of_declaration ds (struct n cs) there h = of_struct_here ds n cs there h
of_declaration ds (constructors fs es to) there {y = y} h =
    let r = among_map (declared es to text.declared_constructor) fs h in as_declared there (subst (λ (f : Name). Among f fs) (sym (ap (λ (z : Named). z.0) r.2)) r.1) (ap (λ (z : Named). z.1) r.2)
of_declaration ds (mappings fs es to) there {y = y} h =
    let r = among_map (declared es to text.mapping) fs h in as_mapping there (subst (λ (f : Name). Among f fs) (sym (ap (λ (z : Named). z.0) r.2)) r.1) (ap (λ (z : Named). z.1) r.2)
of_declaration ds (sorts ns) there h = absurd (among_none h)
of_declaration ds (alias n e) there h = absurd (among_none h)
of_declaration ds (variables xs) there h = absurd (among_none h)
of_declaration ds (equation c l r) there h = absurd (among_none h)
of_declaration ds (actions as_ es) there h = absurd (among_none h)
of_declaration ds (process n xs p) there h = absurd (among_none h)
of_declaration ds (initial p) there h = absurd (among_none h)

pub how_declared : (ds : List Declaration) {y : Named} → Among y (functions_in ds) → HowDeclared ds y
how_declared ds h = let r = among_flat functions_by ds h in of_declaration ds r.0 r.1 r.2

-- ---- by the role of a function
record IsOfStruct (ds : List Declaration) (y : Named) : Type 0 where
  name : Name
  others : List Constructor
  there : Among (struct name others) ds
  result : y.1.result ≡ a_name name

of_constructor : (ds : List Declaration) (y : Named) → HowDeclared ds y → y.1.role ≡ text.struct_constructor → IsOfStruct ds y
of_constructor ds y (as_constructor {n = n} {cs = cs} a b e t) r = record { name = n; others = cs; there = a; result = ap (λ (f : TextFunction). f.result) t }
of_constructor ds y (as_projection {n = n} {c = c} {i = i} {p = p} a b e f t) r = let never : text.struct_constructor ≡ text.projection c.name (fields_of c) i = sym r ∙ ap (λ (f : TextFunction). f.role) t in absurd cc
of_constructor ds y (as_recogniser {n = n} {c = c} a b e t) r = let never : text.struct_constructor ≡ text.recogniser c.name (fields_of c) = sym r ∙ ap (λ (f : TextFunction). f.role) t in absurd cc
of_constructor ds y (as_declared a b t) r = let never : text.struct_constructor ≡ text.declared_constructor = sym r ∙ ap (λ (f : TextFunction). f.role) t in absurd cc
of_constructor ds y (as_mapping a b t) r = let never : text.struct_constructor ≡ text.mapping = sym r ∙ ap (λ (f : TextFunction). f.role) t in absurd cc

-- of a constructor with this name and these arguments
record IsOfConstructor (ds : List Declaration) (y : Named) (x : Name) (es : List SortExpression) : Type 0 where
  name : Name
  others : List Constructor
  maker : Constructor
  there : Among (struct name others) ds
  among : Among maker others
  name_is : x ≡ maker.name
  arguments_are : es ≡ fields_of maker
  takes : y.1.arguments ≡ a_name name ∷ []

record IsReading (ds : List Declaration) (y : Named) (x : Name) (es : List SortExpression) (i : ℕ) : Type 0 where
  of : IsOfConstructor ds y x es
  part : Field
  there : slice_get of.maker.fields i ≡ Some part
  result : y.1.result ≡ part.sort

of_projection : (ds : List Declaration) (y : Named) (x : Name) (es : List SortExpression) (j : ℕ) → HowDeclared ds y → y.1.role ≡ text.projection x es j → IsReading ds y x es j
of_projection ds y x es j (as_projection {n = n} {cs = cs} {c = c} {i = i} {p = p} a b e f t) r =
    let same : text.projection x es j ≡ text.projection c.name (fields_of c) i = sym r ∙ ap (λ (f : TextFunction). f.role) t in
    let one : x ≡ c.name = cc in
    let two : es ≡ fields_of c = cc in
    let three : j ≡ i = cc in
    record {
      of = record { name = n; others = cs; maker = c; there = a; among = b; name_is = one; arguments_are = two; takes = ap (λ (f : TextFunction). f.arguments) t };
      part = p;
      there = subst (λ (k : ℕ). slice_get c.fields k ≡ Some p) (sym three) e;
      result = ap (λ (f : TextFunction). f.result) t;
    }
of_projection ds y x es j (as_constructor a b e t) r = let never : text.projection x es j ≡ text.struct_constructor = sym r ∙ ap (λ (f : TextFunction). f.role) t in absurd cc
of_projection ds y x es j (as_recogniser {c = c} a b e t) r = let never : text.projection x es j ≡ text.recogniser c.name (fields_of c) = sym r ∙ ap (λ (f : TextFunction). f.role) t in absurd cc
of_projection ds y x es j (as_declared a b t) r = let never : text.projection x es j ≡ text.declared_constructor = sym r ∙ ap (λ (f : TextFunction). f.role) t in absurd cc
of_projection ds y x es j (as_mapping a b t) r = let never : text.projection x es j ≡ text.mapping = sym r ∙ ap (λ (f : TextFunction). f.role) t in absurd cc

record IsTelling (ds : List Declaration) (y : Named) (x : Name) (es : List SortExpression) : Type 0 where
  of : IsOfConstructor ds y x es
  result : y.1.result ≡ truth_values

of_recogniser : (ds : List Declaration) (y : Named) (x : Name) (es : List SortExpression) → HowDeclared ds y → y.1.role ≡ text.recogniser x es → IsTelling ds y x es
of_recogniser ds y x es (as_recogniser {n = n} {cs = cs} {c = c} a b e t) r =
    let same : text.recogniser x es ≡ text.recogniser c.name (fields_of c) = sym r ∙ ap (λ (f : TextFunction). f.role) t in
    let one : x ≡ c.name = cc in
    let two : es ≡ fields_of c = cc in
    record {
      of = record { name = n; others = cs; maker = c; there = a; among = b; name_is = one; arguments_are = two; takes = ap (λ (f : TextFunction). f.arguments) t };
      result = ap (λ (f : TextFunction). f.result) t;
    }
of_recogniser ds y x es (as_constructor a b e t) r = let never : text.recogniser x es ≡ text.struct_constructor = sym r ∙ ap (λ (f : TextFunction). f.role) t in absurd cc
of_recogniser ds y x es (as_projection {c = c} {i = i} a b e f t) r = let never : text.recogniser x es ≡ text.projection c.name (fields_of c) i = sym r ∙ ap (λ (f : TextFunction). f.role) t in absurd cc
of_recogniser ds y x es (as_declared a b t) r = let never : text.recogniser x es ≡ text.declared_constructor = sym r ∙ ap (λ (f : TextFunction). f.role) t in absurd cc
of_recogniser ds y x es (as_mapping a b t) r = let never : text.recogniser x es ≡ text.mapping = sym r ∙ ap (λ (f : TextFunction). f.role) t in absurd cc

-- ---- lists of sorts
-- the sort of a place
record HasSortAt (ns : List (Name × Sort)) (ss : List Sort) (i : ℕ) (e : SortExpression) : Type 0 where
  sort : Sort
  there : slice_get ss i ≡ Some sort
  is : sort_in ns e ≡ Some sort

sort_of_place : (ns : List (Name × Sort)) (es : List SortExpression) (ss : List Sort) (i : ℕ) (e : SortExpression) → sorts_in ns es ≡ Some ss → slice_get es i ≡ Some e → HasSortAt ns ss i e
sort_of_place ns [] ss i e h at = absurd (none-some e at)
sort_of_place ns (x ∷ es) ss zero e h at =
    let r = sorts_then ns x es ss h in record { sort = r.first; there = ap (λ (xs : List Sort). slice_get xs 0) r.whole; is = subst (λ (z : SortExpression). sort_in ns z ≡ Some r.first) (same_Some x e at) r.head }
sort_of_place ns (x ∷ es) ss (suc i) e h at =
    let r = sorts_then ns x es ss h in
    let q = sort_of_place ns es r.rest i e r.tail at in
    record { sort = q.sort; there = ap (λ (xs : List Sort). slice_get xs (suc i)) r.whole ∙ q.there; is = q.is }

-- ---- what holds of each number below a bound, but for two negations
not_none : (P : ℕ → Type 0) (n : ℕ) → ((d : ℕ) → d < n → ¬ (¬ (P d))) → ¬ (¬ ((d : ℕ) → d < n → P d))
not_none P zero each never = never (λ d l. absurd (omega (arith, l)))
not_none P (suc n) each never =
    each n (omega arith)
    (λ here. not_none P n (λ d l. each d (omega (arith, l)))
    (λ rest. never (λ d l. ⊎_elim (λ low. rest d low) (λ far. (let same : n ≡ d = omega (arith, l, far) in subst P same here)) (near_or_far d n))))

-- ---- a vocabulary
struct_role : (u : UnderNames) (v : Vocabulary) (to : SortExpression) (r : Role) → IsRole u v to text.struct_constructor r → r ≡ theory.constructor
struct_role u v to _ of_struct = refl

struct_made : (u : UnderNames) (n : Name) (c : Construction) → u.sort n ≡ Some a_struct → IsConstruction u n c → c ≡ structured
struct_made u n _ h (by_struct k) = refl
struct_made u n _ h (by_cons k c) = let never : alone ≡ a_struct = same_Some alone a_struct (sym k ∙ h) in absurd cc
struct_made u n _ h (by_none k c) = let never : alone ≡ a_struct = same_Some alone a_struct (sym k ∙ h) in absurd cc

module _ (ss : List Section) (sound : IsSoundlyDeclared ss) (v : Vocabulary) (is : IsVocabularyOf (under_names (declarations_in ss)) v) where
  abbrev ds : List Declaration
  ds = declarations_in ss

  abbrev u : UnderNames
  u = under_names ds

  abbrev g : Data
  g = v.tables

  -- ---- sorts
  called_sort : {e : SortExpression} {s : Sort} → IsCalled u v is.sorts e s → IsSort g s
  called_sort called_boolean = tt
  called_sort called_positive = tt
  called_sort called_natural = tt
  called_sort called_integer = tt
  called_sort (called_list h) = called_sort h
  called_sort (called_by_name own h) = h.1

  pub is_sort : (e : SortExpression) (s : Sort) → sort_in v.sort_names e ≡ Some s → IsSort g s
  is_sort e s h = called_sort (is_called u v is.sorts e s h).2

  are_sorts : (es : List SortExpression) (rs : List Sort) → sorts_in v.sort_names es ≡ Some rs → AllByRecursion (IsSort g) rs
  are_sorts [] rs h = subst (AllByRecursion (IsSort g)) (same_Some [] rs h) tt
  are_sorts (e ∷ es) rs h = let r = sorts_then v.sort_names e es rs h in subst (AllByRecursion (IsSort g)) (sym r.whole) (is_sort e r.first r.head, are_sorts es r.rest r.tail)

  record IsStruct (n : Name) : Type 0 where
    number : ℕ
    named_so : first_named n v.sort_names ≡ Some (named number)
    made : sort_at g number ≡ structured

  struct_sort : (n : Name) (cs : List Constructor) → Among (struct n cs) ds → IsStruct n
  struct_sort n cs there =
      let kind : u.sort n ≡ Some a_struct = declared_struct ds n (kinds_differ ss sound.once) (among_contains n (structs_in ds) (into_flat struct_name there first_one)) in
      let own = is.sorts.others n (declared_as_struct kind) in
      record { number = own.0; named_so = own.1.0; made = struct_made u n (sort_at g own.0) kind own.1.2 }

  result_named : (t : TextFunction) (k : ℕ) (n : Name) (d : ℕ) → IsFunction u v t k → t.result ≡ a_name n → first_named n v.sort_names ≡ Some (named d) → (function_at g k).result ≡ named d
  result_named t k n d f e h = same_Some (function_at g k).result (named d) (sym f.result ∙ ap (sort_in v.sort_names) e ∙ h)

  argument_named : (t : TextFunction) (k : ℕ) (n : Name) (d : ℕ) → IsFunction u v t k → t.arguments ≡ a_name n ∷ [] → first_named n v.sort_names ≡ Some (named d) → (function_at g k).arguments ≡ named d ∷ []
  argument_named t k n d f e h =
      same_Some (function_at g k).arguments (named d ∷ [])
      (sym f.arguments ∙ ap (sorts_in v.sort_names) e ∙ ap (λ (o : Option Sort). option_and_then (λ (s : Sort). option_map (λ (rs : List Sort). s ∷ rs) (Some [])) o) h)

  -- ---- the number of a constructor
  record IsThere (n : Name) (c : Constructor) : Type 0 where
    number : ℕ
    is_function : IsFunction u v (made_by n c) number
    has_number : HasNumber v c.name (fields_of c) number

  constructor_there : (n : Name) (cs : List Constructor) (c : Constructor) → Among (struct n cs) ds → Among c cs → IsThere n c
  constructor_there n cs c there among =
      let row : Among (c.name, made_by n c) (functions_in ds) = into_flat functions_by there (among_front (flat_map (projections_by n) cs ++ flat_map (recognisers_by n) cs) (among_mapped (constructors_by n) among)) in
      let r = pairs_there (IsFunction u v) (u.functions c.name) (all_named c.name v.function_names) (is.functions.each c.name) (among_named c.name (made_by n c) row) in
      record { number = r.0; is_function = r.2; has_number = (among_contains (c.name, r.0) v.function_names (among_rows c.name v.function_names r.0 r.1), r.2.within, r.2.arguments) }

  number_is : (x : Name) (es : List SortExpression) (k j : ℕ) → HasNumber v x es k → HasNumber v x es j → k ≡ j
  number_is x es k j a b =
      sym (numbers_meet u v v is is (functions_in ds) (λ f. refl) (functions_differ ss sound.once) x es k k a a) ∙ numbers_meet u v v is is (functions_in ds) (λ f. refl) (functions_differ ss sound.once) x es k j a b

  -- the constructor of which a projection or a recogniser speaks, by the number of its struct's sort
  record IsOfNumber (f : DeclaredFunction) (j : ℕ) (x : Constructor) : Type 0 where
    number : ℕ
    takes : f.arguments ≡ named number ∷ []
    role : (function_at g j).role ≡ theory.constructor
    result : (function_at g j).result ≡ named number
    arguments : sorts_in v.sort_names (fields_of x) ≡ Some (function_at g j).arguments
    made : sort_at g number ≡ structured

  of_number : (y : Named) (k : ℕ) → IsFunction u v y.1 k → (x : Name) (es : List SortExpression) (j : ℕ) → (of : IsOfConstructor ds y x es) → HasNumber v x es j → IsOfNumber (function_at g k) j of.maker
  of_number y k f x es j of h =
      let c : Constructor = of.maker in
      let d : IsStruct of.name = struct_sort of.name of.others of.there in
      let own : IsThere of.name c = constructor_there of.name of.others c of.there of.among in
      let its : HasNumber v c.name (fields_of c) j = subst (λ (rs : List SortExpression). HasNumber v c.name rs j) of.arguments_are (subst (λ (z : Name). HasNumber v z es j) of.name_is h) in
      let same : own.number ≡ j = number_is c.name (fields_of c) own.number j own.has_number its in
      record {
        number = d.number;
        takes = argument_named y.1 k of.name d.number f of.takes d.named_so;
        role = subst (λ (m : ℕ). (function_at g m).role ≡ theory.constructor) same (struct_role u v (a_name of.name) (function_at g own.number).role own.is_function.role);
        result = subst (λ (m : ℕ). (function_at g m).result ≡ named d.number) same (result_named (made_by of.name c) own.number of.name d.number own.is_function refl d.named_so);
        arguments = subst (λ (m : ℕ). sorts_in v.sort_names (fields_of c) ≡ Some (function_at g m).arguments) same own.is_function.arguments;
        made = d.made;
      }

  -- ---- roles
  fits : (y : Named) (k : ℕ) → IsFunction u v y.1 k → HowDeclared ds y → (a : TextRole) (r : Role) → y.1.role ≡ a → IsRole u v y.1.result a r → FitsRole g (function_at g k) r
  fits y k f how _ _ e of_struct =
      let made = of_constructor ds y how e in
      let d : IsStruct made.name = struct_sort made.name made.others made.there in
      (d.number, result_named y.1 k made.name d.number f made.result d.named_so)
  fits y k f how _ _ e (of_cons plain) =
      let own = is.sorts.others plain.0 (declared_alone plain.1) in
      (own.0, same_Some (function_at g k).result (named own.0) (sym f.result ∙ what_stands_for_a_sort_has_it u v is.sorts y.1.result (a_name plain.0) plain.2 ∙ own.1.0))
  fits y k f how _ _ e (of_no_cons other) = tt
  fits y k f how _ _ e (of_place x es i j h) =
      let reading = of_projection ds y x es i how e in
      let c : Constructor = reading.of.maker in
      let of = of_number y k f x es j reading.of h in
      let place = sort_of_place v.sort_names (fields_of c) (function_at g j).arguments i reading.part.sort of.arguments (slice_get-map (λ (p : Field). p.sort) c.fields i ∙ ap (option_map (λ (p : Field). p.sort)) reading.there) in
      let result : (function_at g k).result ≡ place.sort = same_Some (function_at g k).result place.sort (sym f.result ∙ ap (sort_in v.sort_names) reading.result ∙ place.is) in
      (of.number, of.takes, of.role, of.result, slice_get_within (function_at g j).arguments i place.sort place.there, result ∙ sym (get_or_from_slice_get (function_at g j).arguments i place.sort boolean place.there), of.made)
  fits y k f how _ _ e (of_test x es j h) =
      let telling = of_recogniser ds y x es how e in
      let of = of_number y k f x es j telling.of h in
      (of.number, of.takes, of.role, of.result, same_Some (function_at g k).result boolean (sym f.result ∙ ap (sort_in v.sort_names) telling.result), of.made)
  fits y k f how _ _ e of_map = tt

  -- ---- the text's function of a number
  record IsDeclaredAs (k : ℕ) : Type 0 where
    its : Named
    there : Among its (functions_in ds)
    is_function : IsFunction u v its.1 k

  of_row : (f : Name) (k : ℕ) → Among (f, k) v.function_names → IsDeclaredAs k
  of_row f k row =
      let t = its_own (IsFunction u v) (u.functions f) (all_named f v.function_names) (is.functions.each f) k (among_named f k row) in record { its = (f, t.0); there = among_rows f (functions_in ds) t.0 t.1; is_function = t.2 }

  its_text : (k : ℕ) → k < length g.functions → IsDeclaredAs k
  its_text k l = let r = is.functions.no_more k l in of_row r.0 k (contains_among (r.0, k) v.function_names r.1)

  pub tables_are_data : IsData g
  tables_are_data = record {
    roles = λ k l. (let t = its_text k l in fits t.its k t.is_function (how_declared ds t.there) t.its.1.role (function_at g k).role refl t.is_function.role);
    results = λ k l. (let t = its_text k l in is_sort t.its.1.result (function_at g k).result t.is_function.result);
    arguments = λ k l. (let t = its_text k l in All-from_recursion (IsSort g) (function_at g k).arguments (are_sorts t.its.1.arguments (function_at g k).arguments t.is_function.arguments));
  }

  pub is_over_data : IsOverData v
  is_over_data = record { data_are = tables_are_data; numbers = each_among (λ (r : Name × ℕ). r.1 < length g.functions) v.function_names (λ r row. (of_row r.0 r.1 row).is_function.within) }

  -- ---- no sort is empty
  abbrev HasTerm : ℕ → Type 0
  HasTerm d = (t : Term) × (IsConstructed g t × HasSort g [] t (named d))

  not_empty : (d : ℕ) → d < length g.sorts → ¬ (¬ (HasTerm d))
  not_empty d l never =
      let own = is.sorts.no_more d l in
      sound.inhabited own.0 (record {
        vocabulary = v;
        number = d;
        declared = is;
        own = own.1;
        named_so = own.2.0;
        within = l;
        empty = ((λ bare. never (unknown d 0, (tt, (refl, l, bare)))), (λ t c h. never (t, (c, h))));
      })

  -- but for two negations, which what is to be refuted doesn't mind
  pub not_all_empty : ¬ (¬ (NoSortIsEmpty g))
  not_all_empty = not_none HasTerm (length g.sorts) not_empty
