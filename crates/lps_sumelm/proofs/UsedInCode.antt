-- The sums that occur, in code.
use Rattle.std.proofs.Common.{◌≡◌, List, [], map, ap, ◌∙◌}
use Rattle.std.specs.Prelude.{◌↔◌}
use Rattle.std.specs.List.{Contains}
use Rattle.data_theory.specs.declared.ids.VarId.{VarId}
use Rattle.data_theory.specs.Signature.{Sig}
use Rattle.data_theory.specs.IdTrees.{Tree}
use Rattle.process_terms.specs.Meanings.{bound_at}
use Rattle.process_terms.specs.SignatureEntries.{entries_of}
use Rattle.lps_core.specs.PlainLinears.{PlainSummand}
use Rattle.lps_sumelm.specs.OccurringVariables.{OccursIn, summand_terms}
use Rattle.lps_sumelm.specs.Solving.{summand_variables, without_unused}
use Rattle.lps_sumelm.specs.SummandsInCode.{summand_at, sums_in}
use Rattle.lps_sumelm.proofs.Loops.{in_means}
use Rattle.lps_sumelm.proofs.SummandVariables.{summand_gives, summand_has}

pub used_means : (g : Sig) (ts : List Tree) (s : PlainSummand) (keys sums : List VarId) → ((v : VarId) → Contains keys v ↔ OccursIn ts (summand_terms s) v) → sums ≡ sums_in keys s.sums
    → summand_at g ts (record { sums = sums; condition = s.condition; label = s.label; next = s.next }) ≡ without_unused (summand_at g ts s)
used_means g ts s keys sums told e =
    ap (λ xs. record { sums = xs; condition = (summand_at g ts s).condition; label = (summand_at g ts s).label; next = (summand_at g ts s).next })
    (ap (map (bound_at (entries_of g []))) e
    ∙ in_means g keys (summand_variables (summand_at g ts s)) s.sums (λ v i. summand_gives g ts s v ((told v).0 i)) (λ v i. (told v).1 (summand_has g ts s v i)))
