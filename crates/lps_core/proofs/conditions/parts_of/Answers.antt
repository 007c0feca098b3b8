use Rattle.std.proofs.Common.{Ok, Err, Result}
use Rattle.std.specs.Prelude.{OnOk}
use Rattle.lps_core.proofs.conditions.parts_of.Goals as goal

pub returns-clause-within : goal.returns-clause-within
returns-clause-within c = on_ok _ _ _ _ c.loop-left.invariant.in_pool c.add_part-2.ensures.within
  where
    on_ok : {A B : Type 0} (r : Result A B) (P Q R : Type 0) → (P → Q) → OnOk r (Q → R) → OnOk r (P → R)
    on_ok (Ok x) P Q R f g = λ p. g (f p)
    on_ok (Err x) P Q R f g = g
