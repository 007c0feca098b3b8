-- A worked definition, process term and equation, with what they elaborate to.
use Rattle.std.specs.Prelude.{[], ◌∷◌, None, codes, pos}
use Rattle.data_theory.specs.Terms.{natural, negation, function, variable, numeral, none, more, application}
use Rattle.data_theory.specs.Provable.{Equation}
use Rattle.data_theory.specs.Equations.{trueᵗ}
use Rattle.process_terms.specs.Processes as written
use Rattle.process_terms.specs.Processes.{Body, written_delta, written_act, written_seq, written_cond, written_sum, written_call, written_starting, Definition}
use Rattle.sort_table.specs.Expressions as expressions
use Rattle.sort_table.specs.Expressions.{one}
use Rattle.sort_table.specs.BareSorts.{truth_values, naturals}
use Rattle.sort_table.specs.BareProcesses as bare
use Rattle.sort_table.specs.BareProcesses.{Process, acts, act, call, sequence, sum, when}
use Rattle.sort_checker.specs.FullVocabularies.{Written}
use Rattle.sort_checker.specs.Elaborations.{Elaborates, ElaboratesDefinition, WrittenEquation, ElaboratesEquation}
use Rattle.sort_checker.specs.WorkedFaults.{small, name, does, x_and_y, x, f_of}

-- proc P(n: Nat, q: Bool) = sum m: Nat . q -> a(m) . P(q = !q)
abbrev pub p : Written
p = record {
  name = codes "P";
  parameters = (codes "n", naturals) ∷ (codes "q", truth_values) ∷ [];
  body =
      sum ((codes "m", naturals) ∷ [])
      (when (name (codes "q"))
      (sequence (bare.more (does (codes "a") (name (codes "m"))) (bare.more (call (codes "P") ((codes "q", one (codes "!") (name (codes "q"))) ∷ [])) bare.none))));
}

-- n has the number 3, q 0, and m 8; n, which is left out, is itself
abbrev pub p_elaborated : Definition
p_elaborated = record {
  params = 3 ∷ 0 ∷ [];
  body =
      written_sum (record { var = 8; sort = natural })
      (written_cond (variable 0)
      (written_seq (written_act (record { name = codes "a"; sorts = natural ∷ []; args = variable 8 ∷ [] } ∷ [])) (written_call 0 (variable 3 ∷ application negation (more (variable 0) none) ∷ [])))
      written_delta);
}

-- a(1)|P(1, true), which is no label, since P is a process
abbrev pub at_once : Process
at_once = acts (act (codes "a") (expressions.numeral 1 ∷ []) ∷ act (codes "P") (expressions.numeral 1 ∷ name (codes "true") ∷ []) ∷ [])

abbrev pub at_once_elaborated : Body
at_once_elaborated =
    written_starting written.sync (written_act (record { name = codes "a"; sorts = natural ∷ []; args = numeral natural (pos 1) ∷ [] } ∷ [])) (written_call 0 (numeral natural (pos 1) ∷ trueᵗ ∷ []))

-- f(x) = 1, where the variables x and y are declared
abbrev pub f_is_one : WrittenEquation
f_is_one = record { variables = x_and_y; condition = None; left = f_of x; right = expressions.numeral 1 }

abbrev pub f_is_one_elaborated : Equation
f_is_one_elaborated = record { sorts = natural ∷ natural ∷ []; condition = trueᵗ; left = application (function 0) (more (variable 1) none); right = numeral natural (pos 1) }

pub record TheseElaborate : Type 0 where
  pub definition : ElaboratesDefinition small p p_elaborated
  pub term : Elaborates small [] at_once at_once_elaborated
  pub equation : ElaboratesEquation small f_is_one f_is_one_elaborated
