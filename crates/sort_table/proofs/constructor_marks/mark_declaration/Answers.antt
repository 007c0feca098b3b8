use Rattle.std.proofs.Common.{◌∙◌, ◌++◌, map, ap, sym}
use Rattle.std.proofs.lemmas.Result.{on_ok_weaker}
use Rattle.mcrl2_syntax.specs.declared.declaration.Decl.{Decl}
use Rattle.mcrl2_syntax.specs.Declarations.{constructor_of}
use Rattle.sort_table.specs.BareDeclarations.{bare_constructor}
use Rattle.sort_table.specs.TextFunctions.{functions_by}
use Rattle.sort_table.specs.DeclarationTrees.{declaration_of}
use Rattle.sort_table.specs.ConstructorMarks.{marks_of, struct_marks}
use Rattle.sort_table.proofs.MarkLemmas.{of_struct}
use Rattle.sort_table.proofs.constructor_marks.mark_declaration.Goals as goal

pub returns-in-Struct : goal.returns-in-Struct
returns-in-Struct c =
    let old = c.args.marks.now.items in
    let cs = map bare_constructor (map constructor_of c.in-Struct.constructors.items) in
    on_ok_weaker c.mark_struct.result (λ marked.
    marked ∙ (ap (λ xs. old ++ struct_marks (map bare_constructor (map constructor_of xs))) c.as_slice.ensures.value
    ∙ (ap (λ ms. old ++ ms) (sym (of_struct c.in-Struct.field-1.bytes.items cs)) ∙ ap (λ (d : Decl). old ++ marks_of (functions_by (declaration_of d))) (sym c.in-Struct.is)))) c.mark_struct.ensures
