use Rattle.std.proofs.Common.{◌≡◌, length, take}
use Rattle.std.specs.List.{All}
use Rattle.data_theory.specs.declared.ids.FunId.{FunId}
use Rattle.data_theory.specs.Signature.{Sig}
use Rattle.data_rewriter.specs.declared.signs.Sign.TheVariants.{Constructor}
use Rattle.data_rewriter.specs.Marking.{IsMark, Marks, AreMarked}
use Rattle.data_rewriter.proofs.function_signs.mark_all.Given as goal

abbrev pub invariant-loop-i : goal.invariant-loop-i
invariant-loop-i l = (length l.signs.items ≡ length l.fn.signs.items) × ((sig : Sig) → All (λ (f : FunId). IsMark sig f Constructor) l.constructors → Marks sig l.fn.signs.items l.signs.items) × AreMarked l.signs.items (take l.i l.constructors)
