use Rattle.std.proofs.Common.{◌≡◌, ℕ, length, take, Some}
use Rattle.std.specs.Prelude.{slice_get}
use Rattle.data_theory.specs.declared.ids.FunId.{FunId}
use Rattle.data_theory.specs.Signature.{Sig}
use Rattle.data_rewriter.specs.declared.signs.Sign.TheVariants.{Projection}
use Rattle.data_rewriter.specs.Marking.{IsMark, Marks, AreMarkedWhereThere}
use Rattle.data_rewriter.proofs.function_signs.mark_projections.Given as goal

abbrev pub invariant-loop-place : goal.invariant-loop-place
invariant-loop-place l = (length l.signs.items ≡ length l.fn.signs.items) × ((sig : Sig) → ((k : ℕ) (p : FunId) → slice_get l.projections k ≡ Some (Some p) → IsMark sig p (Projection l.constructor k)) → Marks sig l.fn.signs.items l.signs.items) × AreMarkedWhereThere l.signs.items (take l.place l.projections)
