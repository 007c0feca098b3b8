-- The marks of a declaration are those of its items.
use Rattle.std.proofs.Common.{◌≡◌, ◌∙◌, ℕ, suc, List, [], ◌∷◌, ◌++◌, map, refl, ap, sym, append_assoc}
use Rattle.std.specs.Prelude.{Option, Some, None}
use Rattle.std.specs.List.{flat_map}
use Rattle.mcrl2_syntax.specs.declared.word.Word.{Word}
use Rattle.mcrl2_syntax.specs.declared.declaration.Constructor as trees
use Rattle.mcrl2_syntax.specs.Declarations.{constructor_of}
use Rattle.sort_table.specs.Expressions.{Name}
use Rattle.sort_table.specs.BareSorts.{SortExpression, truth_values, a_name}
use Rattle.sort_table.specs.BareProcesses.{Variables}
use Rattle.sort_table.specs.BareDeclarations.{Field, Constructor, struct, bare_constructor}
use Rattle.sort_table.specs.TextFunctions.{TextRole, Named, struct_constructor, projection, recogniser, declared, where_named, fields_of, projections_from, functions_by}
use Rattle.sort_table.specs.Duplicates.{a_sort, an_action, a_variable, function_item}
use Rattle.sort_table.specs.Domains.{Domains}
use Rattle.sort_table.specs.Repeats.{Mark}
use Rattle.sort_table.specs.ItemMarks.{key, named_key, same_mark, function_marks, action_marks, items_marks, item_marks, marks_of_variables, where_marked, marks_of_struct}

module _ (domain : Domains) (i : ℕ) where
  pub sorts_marked : (ns : List Name) → flat_map (λ n. same_mark i (named_key 0 n) ∷ []) ns ≡ items_marks domain i (map a_sort ns)
  sorts_marked [] = refl
  sorts_marked (n ∷ ns) = ap (λ ms. same_mark i (named_key 0 n) ∷ ms) (sorts_marked ns)

  pub functions_marked : (es : List SortExpression) (to : SortExpression) (role : TextRole) (ns : List Name) → flat_map (function_marks i (domain es)) ns ≡ items_marks domain i (map function_item (map (declared es to role) ns))
  functions_marked es to role [] = refl
  functions_marked es to role (n ∷ ns) = ap (λ ms. function_marks i (domain es) n ++ ms) (functions_marked es to role ns)

  pub actions_marked : (es : List SortExpression) (ns : List Name) → flat_map (action_marks i (domain es)) ns ≡ items_marks domain i (map (λ a. an_action a es) ns)
  actions_marked es [] = refl
  actions_marked es (n ∷ ns) = ap (λ ms. action_marks i (domain es) n ++ ms) (actions_marked es ns)

  pub variables_marked : (k : ℕ) (vs : Variables) → marks_of_variables i k vs ≡ items_marks domain i (map (λ (v : Name × SortExpression). a_variable k v.0) vs)
  variables_marked k [] = refl
  variables_marked k (v ∷ vs) = ap (λ ms. same_mark i (key 5 k v.0) ∷ ms) (variables_marked k vs)

  -- ---- structs
  abbrev of_functions : List Named → List Mark
  of_functions fs = items_marks domain i (map function_item fs)

  functions_behind : (fs gs : List Named) → of_functions (fs ++ gs) ≡ of_functions fs ++ of_functions gs
  functions_behind [] gs = refl
  functions_behind (f ∷ fs) gs = ap (λ ms. item_marks domain i (function_item f) ++ ms) (functions_behind fs gs) ∙ sym (append_assoc (item_marks domain i (function_item f)) (of_functions fs) (of_functions gs))

  where_marks : (e to : SortExpression) (role : TextRole) (o : Option Name) → of_functions (where_named e to role o) ≡ where_marked i (domain (e ∷ [])) o
  where_marks e to role None = refl
  where_marks e to role (Some f) = no_more (function_marks i (domain (e ∷ [])) f)
    where
      no_more : (ms : List Mark) → ms ++ [] ≡ ms
      no_more [] = refl
      no_more (m ∷ ms) = ap (λ l. m ∷ l) (no_more ms)

  constructors_marked : (n : Name) (cs : List Constructor) → of_functions (map (λ (c : Constructor). declared (fields_of c) (a_name n) struct_constructor c.name) cs) ≡ flat_map (λ (c : Constructor). function_marks i (domain (fields_of c)) c.name) cs
  constructors_marked n [] = refl
  constructors_marked n (c ∷ cs) = ap (λ ms. function_marks i (domain (fields_of c)) c.name ++ ms) (constructors_marked n cs)

  fields_marked : (e : SortExpression) (c : Constructor) (k : ℕ) (fs : List Field) → of_functions (projections_from e c k fs) ≡ flat_map (λ (f : Field). where_marked i (domain (e ∷ [])) f.name) fs
  fields_marked e c k [] = refl
  fields_marked e c k (f ∷ fs) =
      functions_behind (where_named e f.sort (projection c.name (fields_of c) k) f.name) (projections_from e c (suc k) fs)
      ∙ λ j. where_marks e f.sort (projection c.name (fields_of c) k) f.name j ++ fields_marked e c (suc k) fs j

  projections_marked : (e : SortExpression) (cs : List Constructor) → of_functions (flat_map (λ (c : Constructor). projections_from e c 0 c.fields) cs) ≡ flat_map (λ (c : Constructor). flat_map (λ (f : Field). where_marked i (domain (e ∷ [])) f.name) c.fields) cs
  projections_marked e [] = refl
  projections_marked e (c ∷ cs) = functions_behind (projections_from e c 0 c.fields) (flat_map (λ (c : Constructor). projections_from e c 0 c.fields) cs) ∙ λ j. fields_marked e c 0 c.fields j ++ projections_marked e cs j

  recognisers_marked : (e : SortExpression) (cs : List Constructor) → of_functions (flat_map (λ (c : Constructor). where_named e truth_values (recogniser c.name (fields_of c)) c.recogniser) cs) ≡ flat_map (λ (c : Constructor). where_marked i (domain (e ∷ [])) c.recogniser) cs
  recognisers_marked e [] = refl
  recognisers_marked e (c ∷ cs) =
      functions_behind (where_named e truth_values (recogniser c.name (fields_of c)) c.recogniser) (flat_map (λ (c : Constructor). where_named e truth_values (recogniser c.name (fields_of c)) c.recogniser) cs)
      ∙ λ j. where_marks e truth_values (recogniser c.name (fields_of c)) c.recogniser j ++ recognisers_marked e cs j

  pub struct_marked : (w : Word) (cs : List trees.Constructor) → marks_of_struct domain i w cs ≡ items_marks domain i (a_sort w.bytes.items ∷ map function_item (functions_by (struct w.bytes.items (map bare_constructor (map constructor_of cs)))))
  struct_marked w cs =
      let n : Name = w.bytes.items in
      let bs : List Constructor = map bare_constructor (map constructor_of cs) in
      let fs : List Named = map (λ (c : Constructor). declared (fields_of c) (a_name n) struct_constructor c.name) bs in
      let ps : List Named = flat_map (λ (c : Constructor). projections_from (a_name n) c 0 c.fields) bs in
      let rs : List Named = flat_map (λ (c : Constructor). where_named (a_name n) truth_values (recogniser c.name (fields_of c)) c.recogniser) bs in
      ap (λ ms. same_mark i (named_key 0 n) ∷ ms)
      (sym (functions_behind fs (ps ++ rs) ∙ λ j. constructors_marked n bs j ++ (functions_behind ps rs ∙ λ k. projections_marked (a_name n) bs k ++ recognisers_marked (a_name n) bs k) j))
