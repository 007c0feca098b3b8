use Rattle.std.proofs.Common.{sym, ap, ◌∙◌}
use Rattle.data_theory.specs.declared.sort_table.SortKind.{SortKind}
use Rattle.data_theory.specs.Sorts.{kind_of}
use Rattle.data_theory.specs.IdData.{constructors_of}
use Rattle.data_rewriter.proofs.Markings.{marks_of_kind}
use Rattle.data_rewriter.proofs.function_signs.mark_constructors_of.Goals as goal

pub returns-in-Cons-clause-marks : goal.returns-in-Cons-clause-marks
returns-in-Cons-clause-marks c = c.mark_all.ensures.marks c.args.sig.now (marks_of_kind c.args.sig.now c.requires.stands c.kind.result.now c.args.sort c.as_slice.result.now c.requires.sort c.kind.ensures.kind (c.as_slice.ensures.value ∙ ap (λ (k : SortKind). constructors_of (kind_of k)) (sym c.in-Cons.is)))

pub returns-in-Struct-clause-marks : goal.returns-in-Struct-clause-marks
returns-in-Struct-clause-marks c = c.mark_all-in-Struct.ensures.marks c.args.sig.now (marks_of_kind c.args.sig.now c.requires.stands c.kind.result.now c.args.sort c.as_slice-in-Struct.result.now c.requires.sort c.kind.ensures.kind (c.as_slice-in-Struct.ensures.value ∙ ap (λ (k : SortKind). constructors_of (kind_of k)) (sym c.in-Struct.is)))
