-- A summand in provably equal environments.
use Rattle.std.proofs.Common.{ℕ, List, ◌++◌, map, refl, Option}
use Rattle.std.specs.Prelude.{Contains}
use Rattle.data_theory.specs.Terms.{Term, put}
use Rattle.data_theory.specs.Provable.{symmetric, transitive}
use Rattle.data_theory.specs.Environments.{Environment, term_in, terms_of, AreOver}
use Rattle.data_theory.proofs.EnvironmentLemmas.{equal_on_the_variables, lists_equal_on_the_variables}
use Rattle.process_terms.specs.Theories.{Theory, Equal, Equals}
use Rattle.process_terms.specs.Labels.{Label, put_label, equal_args, AgreeInOrder, both_silent, next_agree}
use Rattle.process_terms.specs.Processes.{Bound}
use Rattle.process_terms.proofs.AgreeingLabels.{equal_lists}
use Rattle.bisim_laws.specs.LinearProcesses.{variables, LabelIsOver, no_action_left, action_over, NextIsOver, no_next, next_over, put_next, NextEquals, both_without, both_with}
use Rattle.bisim_laws.specs.LinkLaws.{EqualEnvironmentsServe}

-- provably equal terms for some variables
abbrev pub EqualOn : Theory → List ℕ → Environment → Environment → Type 0
EqualOn th xs d e = (v : ℕ) → Contains xs v → Equal th (term_in d v) (term_in e v)

pub list_equal : (th : Theory) (xs : List ℕ) (d e : Environment) → EqualOn th xs d e → (ts : List Term) → AreOver xs (terms_of ts) → Equals th (map (put (term_in d)) ts) (map (put (term_in e)) ts)
list_equal th xs d e h ts o =
    (equal_lists th (map (put (term_in d)) ts) (map (put (term_in e)) ts)).1 (lists_equal_on_the_variables th.declared th.equations xs (term_in d) (term_in e) h ts o)

pub label_equal_on : (th : Theory) (xs : List ℕ) (d e : Environment) → EqualOn th xs d e → (m : Label) → LabelIsOver xs m → AgreeInOrder th (put_label d m) (put_label e m)
label_equal_on th xs d e h _ no_action_left = both_silent
label_equal_on th xs d e h _ (action_over {a = a} {m = m} o k) = next_agree (equal_args (list_equal th xs d e h a.args o)) (label_equal_on th xs d e h m k)

pub next_equal_on : (th : Theory) (xs : List ℕ) (params : List Bound) (d e : Environment) → EqualOn th xs d e → (next : Option (List Term)) → NextIsOver xs params next → NextEquals th (put_next d next) (put_next e next)
next_equal_on th xs params d e h _ no_next = both_without
next_equal_on th xs params d e h _ (next_over {ts = ts} o l) = both_with (list_equal th xs d e h ts o)

pub does_equal : EqualEnvironmentsServe
does_equal th params s d e m next is h k = record {
  does = record {
    holds = transitive (symmetric (equal_on_the_variables th.declared th.equations (variables s.sums ++ variables params) (term_in d) (term_in e) h s.condition is.condition)) k.holds;
    label = refl;
    onward = refl;
  };
  agree = rw k.label (label_equal_on th (variables s.sums ++ variables params) d e h s.label is.label);
  onward = rw k.onward (next_equal_on th (variables s.sums ++ variables params) params d e h s.next is.next);
}
