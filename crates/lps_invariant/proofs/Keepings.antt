-- What calls one after another keep.
use Rattle.std.specs.Prelude.{List}
use Rattle.std.proofs.Common.{refl, ◌∙◌}
use Rattle.data_theory.specs.Provable.{Equation}
use Rattle.data_theory.specs.Signature.{Sig}
use Rattle.data_theory.specs.IdTrees.{Tree}
use Rattle.term_pool.specs.Pools.{Extends}
use Rattle.data_rewriter.specs.declared.rewriter.Rewriter.{Rewriter}
use Rattle.data_rewriter.specs.Rewriters.{Fits}
use Rattle.data_rewriter.proofs.Simple.{a_rewriter_stays}
use Rattle.lps_core.proofs.PoolTrees.{extends_itself, extends_on}
use Rattle.lps_invariant.specs.Keeping.{Keeps}

pub keeps_itself : {F : Type 0} (g : Sig) (ts : List Tree) (r : Rewriter F) → Keeps g ts ts r r
keeps_itself g ts r = record { pool = extends_itself ts; rules = refl; fits = λ own h. h }

-- a call of the pool alone
pub keeps_grown : {F : Type 0} (g : Sig) (ts us : List Tree) (r : Rewriter F) → Extends ts us → Keeps g ts us r r
keeps_grown g ts us r e = record { pool = e; rules = refl; fits = λ own h. a_rewriter_stays r g own ts us e h }

pub keeps_then : {F : Type 0} (g : Sig) (ts us vs : List Tree) (q r t : Rewriter F) → Keeps g ts us q r → Keeps g us vs r t → Keeps g ts vs q t
keeps_then g ts us vs q r t h k = record { pool = extends_on ts us vs h.pool k.pool; rules = k.rules ∙ h.rules; fits = λ own f. k.fits own (h.fits own f) }

pub known_on : {F : Type 0} (g : Sig) (ts us : List Tree) (q r : Rewriter F) → Keeps g ts us q r → (own : List Equation) × Fits q g own ts → (own : List Equation) × Fits r g own us
known_on g ts us q r k h = (h.0, k.fits h.0 h.1)
