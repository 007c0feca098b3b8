use Rattle.std.proofs.Common.{ℕ, Bool, List, ap, sym, ◌∙◌, arith}
use Rattle.std.specs.Prelude.{Some}
use Rattle.std.specs.List.{list_any}
use Rattle.mcrl2_syntax.specs.Declarations.{spec_of}
use Rattle.sort_table.specs.BareDeclarations.{bare_sections}
use Rattle.sort_table.specs.Vocabularies.{Vocabulary}
use Rattle.sort_table.specs.SignatureVocabularies.{vocabulary_of}
use Rattle.sort_checker.specs.declared.scoped_declarations.ScopedDecl.{ScopedDecl}
use Rattle.sort_checker.specs.Operators.{has_comm_fault}
use Rattle.sort_checker.specs.Parts.{ScopedDeclaration, scoped_declarations}
use Rattle.sort_checker.specs.Faults.{operators_of}
use Rattle.sort_checker.specs.Refusals.{number_from}
use Rattle.sort_checker.specs.ScopedTrees.{scoped_item, scoped_items}
use Rattle.sort_checker.specs.CommTrees.{fault_among}
use Rattle.sort_checker.proofs.LeftSides.{numbered, not_numbered}
use Rattle.sort_checker.proofs.comm_shapes.comm_shape.Goals as goal

pub returns-then-branch : goal.returns-then-branch
returns-then-branch c = λ v declared.
    let test : ScopedDeclaration → Bool = λ d. fault_among (vocabulary_of c.args.sig.now) (operators_of d.declaration) in
    ap (λ (n : ℕ). Some n) (omega (arith, c.loop-declaration.invariant.counted))
    ∙ (sym (numbered scoped_item test 1 c.as_slice-declaration-items.result.now c.loop-declaration.declaration-index c.declaration-item.result c.loop-declaration-test.true c.declaration-item.is c.loop-declaration.invariant.none
    (sym c.in_ok-fault_in_declaration.ensures ∙ c.if-branch.true))
    ∙ (ap (λ (ds : List ScopedDecl). number_from test 1 (scoped_items ds)) c.as_slice-declaration-items.ensures.value
    ∙ (ap (number_from test 1) c.in_ok-declarations.ensures.items
    ∙ ap (λ (w : Vocabulary). number_from (λ (d : ScopedDeclaration). list_any (has_comm_fault w) (operators_of d.declaration)) 1 (scoped_declarations (bare_sections (spec_of c.args.spec.now)))) (sym declared))))

pub loop-declaration-preserved : goal.loop-declaration-preserved
loop-declaration-preserved c = record {
  counted = omega (arith, c.loop-declaration.invariant.counted);
  none = not_numbered scoped_item (λ (d : ScopedDeclaration). fault_among (vocabulary_of c.args.sig.now) (operators_of d.declaration)) 1 c.as_slice-declaration-items.result.now c.loop-declaration.declaration-index c.declaration-item.result c.loop-declaration-test.true c.declaration-item.is
      c.loop-declaration.invariant.none (sym c.in_ok-fault_in_declaration.ensures ∙ c.if-branch.false);
}
