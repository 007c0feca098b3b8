-- Where no equation is written, enough fuel leads to an end.
use Rattle.std.specs.Prelude.{ℕ, List, []}
use Rattle.data_theory.specs.declared.ids.TermId.{TermId}
use Rattle.data_theory.specs.Signature.{Sig}
use Rattle.data_theory.specs.WholeSignatures.{IsSignature}
use Rattle.data_theory.specs.IdData.{data_meant}
use Rattle.data_theory.specs.IdTrees.{Tree}
use Rattle.data_theory.proofs.IdDataLemmas.{meant_data_are_data}
use Rattle.data_theory.proofs.EnoughFuel.{enough_fuel_is_enough}
use Rattle.data_rewriter.specs.declared.machine.Normal.{Normal}
use Rattle.data_rewriter.specs.declared.machine.Normal.TheVariants.{Done, Spent}
use Rattle.data_rewriter.specs.Standing.{term_at}
use Rattle.data_rewriter.specs.States.{Says}
use Rattle.data_rewriter.specs.Rewriters.{EndsWithEnough}

pub enough_ends : (sig : Sig) (old new : List Tree) (t : TermId) (fuel left : ℕ) (r : Normal) → IsSignature sig → Says sig [] old new t fuel left r → EndsWithEnough sig old t fuel r
enough_ends sig old new t fuel left (Done u) signature says vs sorts s h enough = tt
enough_ends sig old new t fuel left (Spent u) signature says vs sorts s h enough =
    enough_fuel_is_enough (data_meant sig) (meant_data_are_data sig signature.table signature.roles) vs sorts (term_at sig old t) s h fuel enough says.2
