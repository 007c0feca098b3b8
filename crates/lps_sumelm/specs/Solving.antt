-- Sums that parts of the condition give, and sums that don't occur.
use Rattle.std.specs.Prelude.{◌==◌, ℕ, List, [], ◌∷◌, ◌++◌, map, cond, Option, Some, None}
use Rattle.data_theory.specs.Terms.{Term, put, variables_of, variables_of_all}
use Rattle.data_theory.specs.Environments.{Binding, term_in, terms_of}
use Rattle.process_terms.specs.Labels.{Action, put_label}
use Rattle.process_terms.specs.Processes.{Bound}
use Rattle.bisim_laws.specs.LinearProcesses.{Summand, variables, put_next}
use Rattle.lps_core.specs.Conditions.{parts, without_true, joined}
use Rattle.lps_sumelm.specs.Solutions.{is_among, IsFirst, NoneGives}
use Rattle.lps_sumelm.specs.Simplified.{SummandBecomes}

-- ---- one step
abbrev pub without : ℕ → List Bound → List Bound
without v [] = []
without v (x ∷ xs) = cond (x.var == v) (without v xs) (x ∷ without v xs)

-- the term is put in for the variable, which is a sum no more, and the parts that stay are joined
abbrev pub solve : Binding → List Term → Summand → Summand
solve b rest s = record {
  sums = without b.var s.sums;
  condition = joined (map (put (term_in (b ∷ []))) rest);
  label = put_label (b ∷ []) s.label;
  next = put_next (b ∷ []) s.next;
}

-- the parts of its condition, but for `true`
abbrev pub conditions_of : Summand → List Term
conditions_of s = without_true (parts s.condition)

-- ---- sums that don't occur
abbrev pub action_variables : List Action → List ℕ
action_variables [] = []
action_variables (a ∷ m) = variables_of_all (terms_of a.args) ++ action_variables m

abbrev pub next_variables : Option (List Term) → List ℕ
next_variables None = []
next_variables (Some ts) = variables_of_all (terms_of ts)

abbrev pub summand_variables : Summand → List ℕ
summand_variables s = variables_of s.condition ++ (action_variables s.label ++ next_variables s.next)

-- those of these variables that occur
abbrev pub used : List ℕ → List Bound → List Bound
used vs [] = []
used vs (x ∷ xs) = cond (is_among x.var vs) (x ∷ used vs xs) (used vs xs)

abbrev pub without_unused : Summand → Summand
without_unused s = record { sums = used (summand_variables s) s.sums; condition = s.condition; label = s.label; next = s.next }

-- ---- the whole
-- One step after another, each for the first solvable part, and the terms simplified behind it, until no part is solvable. Then the
-- sums that don't occur are left out.
pub data IsSolvedFrom (To : Term → Term → Type 0) : Summand → Summand → Type 0 where
  nothing_to_solve : {s : Summand} → NoneGives (variables s.sums) (conditions_of s) → IsSolvedFrom To s (without_unused s)
  one_solved : {s t u : Summand} {b : Binding} {rest : List Term} → IsFirst (variables s.sums) (conditions_of s) b rest → SummandBecomes To (solve b rest s) t → IsSolvedFrom To t u → IsSolvedFrom To s u

-- first its terms are simplified
pub record IsSolvedSummand (To : Term → Term → Type 0) (s t : Summand) : Type 0 where
  pub simplified : Summand
  pub becomes : SummandBecomes To s simplified
  pub solved : IsSolvedFrom To simplified t
