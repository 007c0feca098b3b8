-- Forms that are plainly conditioned.
use Rattle.std.specs.Prelude.{◌≡◌, ℕ, List, [], ◌++◌, map, Some, slice_get, Contains}
use Rattle.data_theory.specs.Terms.{Term}
use Rattle.data_theory.specs.Signature.{Sig}
use Rattle.term_pool.specs.Pools.{PoolContents}
use Rattle.process_terms.specs.Processes.{Bound}
use Rattle.process_terms.specs.Meanings.{term_at}
use Rattle.process_terms.specs.SignatureEntries.{entries_of}
use Rattle.bisim_laws.specs.BaseStates.{GreibachCall}
use Rattle.lps_core.specs.MadeTerms.{Written, StackSort, Origin, origin_of, AreMade, HasPlainParts, AreWrittenSums, HasActionArguments}
use Rattle.greibach.specs.Forms.{FormSummand, FormEquation, Form}
use Rattle.greibach.specs.PlainForms.{PlainForm, form_of}

-- over an equation's parameters and the sums of the summand; none of the parameters was added
pub record FormSummandIsPlain (o : Origin) (params : List Bound) (s : FormSummand) : Type 0 where
  pub sums : AreWrittenSums o s.sums
  pub condition : HasPlainParts o [] params (s.sums ++ params) s.condition
  pub label : HasActionArguments o params (s.sums ++ params) s.label
  pub next : (c : GreibachCall) → Contains s.next c → AreMade o params (s.sums ++ params) c.args

-- Its sums have sorts that a `sum` of the specification binds. The terms that it starts with, the arguments of its calls and those of
-- its actions are made. Each part of a condition is plain.
pub record FormIsPlainlyConditioned (o : Origin) (form : Form) (init : List Term) : Type 0 where
  pub starts : AreMade o [] [] init
  pub summands : (i : ℕ) (q : FormEquation) (s : FormSummand) → slice_get form i ≡ Some q → Contains q.summands s → FormSummandIsPlain o q.params s

abbrev pub FormIsPlain : Sig → PoolContents → Written → List StackSort → PlainForm → Type 0
FormIsPlain h q w stacks f = FormIsPlainlyConditioned (origin_of h q w stacks) (form_of (entries_of h q.trees) f) (map (term_at (entries_of h q.trees)) f.init)
