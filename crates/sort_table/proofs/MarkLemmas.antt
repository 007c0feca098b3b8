-- The marks of a struct's functions.
use Rattle.std.proofs.Common.{◌≡◌, ℕ, suc, List, [], ◌∷◌, ◌++◌, map, refl, ap, ◌∙◌}
use Rattle.std.specs.Prelude.{Option, Some, None}
use Rattle.std.specs.List.{flat_map}
use Rattle.std.proofs.lemmas.List.{map-append}
use Rattle.sort_table.specs.Expressions.{Name}
use Rattle.sort_table.specs.BareSorts.{SortExpression, truth_values, a_name}
use Rattle.sort_table.specs.BareDeclarations.{Field, Constructor, struct}
use Rattle.sort_table.specs.TextFunctions.{struct_constructor, projection, recogniser, Named, declared, where_named, fields_of, projections_from, functions_by}
use Rattle.sort_table.specs.ConstructorMarks.{is_declared_role, marks_of, mark_where, field_marks, own_marks, projection_marks, recogniser_marks, struct_marks}

marks_both : (fs gs : List Named) → marks_of (fs ++ gs) ≡ marks_of fs ++ marks_of gs
marks_both fs gs = map-append (λ (f : Named). is_declared_role f.1.role) fs gs

of_projection : (e to : SortExpression) (c : Name) (es : List SortExpression) (i : ℕ) (o : Option Name) → marks_of (where_named e to (projection c es i) o) ≡ mark_where o
of_projection e to c es i None = refl
of_projection e to c es i (Some n) = refl

of_recogniser : (e : SortExpression) (c : Name) (es : List SortExpression) (o : Option Name) → marks_of (where_named e truth_values (recogniser c es) o) ≡ mark_where o
of_recogniser e c es None = refl
of_recogniser e c es (Some n) = refl

of_fields : (e : SortExpression) (c : Constructor) (i : ℕ) (fs : List Field) → marks_of (projections_from e c i fs) ≡ field_marks fs
of_fields e c i [] = refl
of_fields e c i (f ∷ fs) =
    marks_both (where_named e f.sort (projection c.name (fields_of c) i) f.name) (projections_from e c (suc i) fs)
    ∙ (λ j. of_projection e f.sort c.name (fields_of c) i f.name j ++ of_fields e c (suc i) fs j)

of_constructors : (e : SortExpression) (cs : List Constructor) → marks_of (map (λ (c : Constructor). declared (fields_of c) e struct_constructor c.name) cs) ≡ own_marks cs
of_constructors e [] = refl
of_constructors e (c ∷ cs) = ap (λ ms. is_declared_role struct_constructor ∷ ms) (of_constructors e cs)

of_projections : (e : SortExpression) (cs : List Constructor) → marks_of (flat_map (λ (c : Constructor). projections_from e c 0 c.fields) cs) ≡ projection_marks cs
of_projections e [] = refl
of_projections e (c ∷ cs) =
    marks_both (projections_from e c 0 c.fields) (flat_map (λ (x : Constructor). projections_from e x 0 x.fields) cs) ∙ (λ j. of_fields e c 0 c.fields j ++ of_projections e cs j)

of_recognisers : (e : SortExpression) (cs : List Constructor) → marks_of (flat_map (λ (c : Constructor). where_named e truth_values (recogniser c.name (fields_of c)) c.recogniser) cs) ≡ recogniser_marks cs
of_recognisers e [] = refl
of_recognisers e (c ∷ cs) =
    marks_both (where_named e truth_values (recogniser c.name (fields_of c)) c.recogniser) (flat_map (λ (x : Constructor). where_named e truth_values (recogniser x.name (fields_of x)) x.recogniser) cs)
    ∙ (λ j. of_recogniser e c.name (fields_of c) c.recogniser j ++ of_recognisers e cs j)

pub of_struct : (n : Name) (cs : List Constructor) → marks_of (functions_by (struct n cs)) ≡ struct_marks cs
of_struct n cs =
    marks_both (map (λ (c : Constructor). declared (fields_of c) (a_name n) struct_constructor c.name) cs) _
    ∙ (λ j. of_constructors (a_name n) cs j ++ (marks_both (flat_map (λ (c : Constructor). projections_from (a_name n) c 0 c.fields) cs) (flat_map (λ (c : Constructor). where_named (a_name n) truth_values (recogniser c.name (fields_of c)) c.recogniser) cs)
    ∙ (λ i. of_projections (a_name n) cs i ++ of_recognisers (a_name n) cs i)) j)
