-- Conditions in code, with terms put in.
use Rattle.std.specs.Prelude.{ℕ, List, map}
use Rattle.data_theory.specs.declared.ids.VarId.{VarId}
use Rattle.data_theory.specs.declared.ids.TermId.{TermId}
use Rattle.data_theory.specs.Environments.{term_in}
use Rattle.data_theory.specs.Provable.{Equation}
use Rattle.data_theory.specs.Signature.{Sig}
use Rattle.data_theory.specs.IdTrees.{Tree}
use Rattle.data_theory.specs.Terms.{Term, put}
use Rattle.data_rewriter.specs.Standing.{term_at}
use Rattle.bisim_laws.specs.LinearProcesses.{put_next}
use Rattle.lps_core.specs.PlainLinears.{PlainSummand, summand_of}
use Rattle.process_terms.specs.SignatureEntries.{entries_of}
use Rattle.lps_simulator.specs.Rewritten.{environment_of}
use Rattle.trace_replay.specs.declared.deciding.Answer.{Answer as CodeAnswer}
use Rattle.trace_replay.specs.declared.deciding.Answer.TheVariants.{Hold, Fail, Open}
use Rattle.trace_replay.specs.Attempts.{Attempt, combination}
use Rattle.trace_replay.specs.Decidings.{Answer, hold, fail, stay_open}
use Rattle.trace_replay.specs.Settings.{Setting}

abbrev pub setting : Sig → List Equation → ℕ → ℕ → Setting
setting g own fuel bound = record { signature = g; equations = own; fuel = fuel; bound = bound }

abbrev pub answer_of : CodeAnswer → Answer
answer_of Hold = hold
answer_of Fail = fail
answer_of Open = stay_open

-- conditions with the listed terms in place of variables
abbrev pub conditions_with : Sig → List Tree → List (VarId × TermId) → List TermId → List Term
conditions_with g ts by conditions = map (put (term_in (environment_of g ts by))) (map (term_at g ts) conditions)

-- these conditions and the next terms of a summand, with the listed terms in place of variables
abbrev pub attempt_with : Sig → List Tree → List (VarId × TermId) → List TermId → PlainSummand → Attempt
attempt_with g ts by conditions s = combination (conditions_with g ts by conditions) (put_next (environment_of g ts by) (summand_of (entries_of g ts) s).next)
