-- Greibach forms in code, as plain data, and what they mean. Equations count from 1 in code, and from 0 in what they mean.
use Rattle.std.specs.Prelude.{◌-◌, ℕ, List, map, Vec}
use Rattle.std.specs.Global.{Global}
use Rattle.data_theory.specs.declared.ids.VarId.{VarId}
use Rattle.data_theory.specs.declared.ids.TermId.{TermId}
use Rattle.process_terms.specs.PlainProcesses.{PlainAction, plain_label}
use Rattle.process_terms.specs.Meanings.{Entries, bound_at, term_at, label_of}
use Rattle.bisim_laws.specs.BaseStates.{GreibachCall}
use Rattle.greibach.specs.Forms.{FormSummand, FormEquation, Form}
use Rattle.greibach.specs.declared.forms.GreibachSummand.{GreibachSummand}
use Rattle.greibach.specs.declared.forms.GreibachEquation.{GreibachEquation}
use Rattle.greibach.specs.declared.forms.Greibach.{Greibach}

pub record PlainFormSummand : Type 0 where
  pub sums : List VarId
  pub condition : TermId
  pub label : List PlainAction
  pub next : List (ℕ × List TermId)

pub record PlainEquation : Type 0 where
  pub params : List VarId
  pub summands : List PlainFormSummand

pub record PlainForm : Type 0 where
  pub equations : List PlainEquation
  pub init : List TermId

abbrev pub plain_call : ℕ × Vec TermId Global → ℕ × List TermId
plain_call c = (c.0, c.1.items)

abbrev pub plain_form_summand : GreibachSummand → PlainFormSummand
plain_form_summand s = record { sums = s.sums.items; condition = s.cond; label = plain_label s.label; next = map plain_call s.next.items }

abbrev pub plain_equation : GreibachEquation → PlainEquation
plain_equation q = record { params = q.params.items; summands = map plain_form_summand q.summands.items }

abbrev pub plain_form : Greibach → PlainForm
plain_form f = record { equations = map plain_equation f.equations.items; init = f.init.items }

abbrev pub call_of : Entries → ℕ × List TermId → GreibachCall
call_of g c = record { equation = c.0 - 1; args = map (term_at g) c.1 }

abbrev pub form_summand_of : Entries → PlainFormSummand → FormSummand
form_summand_of g s = record { sums = map (bound_at g) s.sums; condition = term_at g s.condition; label = label_of g s.label; next = map (call_of g) s.next }

abbrev pub equation_of : Entries → PlainEquation → FormEquation
equation_of g q = record { params = map (bound_at g) q.params; summands = map (form_summand_of g) q.summands }

abbrev pub form_of : Entries → PlainForm → Form
form_of g f = map (equation_of g) f.equations
