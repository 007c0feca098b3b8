-- Linear processes in code, as plain data, and what they mean.
use Rattle.std.specs.Prelude.{Bool, List, map, is_none, option_map, Option, Vec}
use Rattle.std.specs.Global.{Global}
use Rattle.std.specs.List.{list_any}
use Rattle.data_theory.specs.declared.ids.VarId.{VarId}
use Rattle.data_theory.specs.declared.ids.TermId.{TermId}
use Rattle.data_theory.specs.Terms.{Term}
use Rattle.process_terms.specs.PlainProcesses.{PlainAction, plain_label}
use Rattle.process_terms.specs.Meanings.{Entries, bound_at, term_at, label_of}
use Rattle.process_terms.specs.Processes.{Process}
use Rattle.bisim_laws.specs.LinearProcesses as theory
use Rattle.bisim_laws.specs.LinearProcesses.{state_of}
use Rattle.lps_core.specs.declared.linears.Summand.{Summand}
use Rattle.lps_core.specs.declared.linears.Linear.{Linear}

pub record PlainSummand : Type 0 where
  pub sums : List VarId
  pub condition : TermId
  pub label : List PlainAction
  pub next : Option (List TermId)

pub record PlainLinear : Type 0 where
  pub params : List VarId
  pub init : List TermId
  pub summands : List PlainSummand

abbrev pub plain_next : Option (Vec TermId Global) → Option (List TermId)
plain_next next = option_map (λ (v : Vec TermId Global). v.items) next

abbrev pub plain_summand : Summand → PlainSummand
plain_summand s = record { sums = s.sums.items; condition = s.cond; label = plain_label s.label; next = plain_next s.next }

-- whether a summand ends
abbrev pub ends : Summand → Bool
ends s = is_none s.next

abbrev pub plain_linear : Linear → PlainLinear
plain_linear l = record { params = l.params.items; init = l.init.items; summands = map plain_summand l.summands.items }

-- whether some summand ends
abbrev pub can_end : PlainLinear → Bool
can_end l = list_any (λ (s : PlainSummand). is_none s.next) l.summands

-- ---- what they mean
abbrev pub summand_of : Entries → PlainSummand → theory.Summand
summand_of g s = record { sums = map (bound_at g) s.sums; condition = term_at g s.condition; label = label_of g s.label; next = option_map (map (term_at g)) s.next }

abbrev pub linear_of : Entries → PlainLinear → theory.Linear
linear_of g l = record { params = map (bound_at g) l.params; summands = map (summand_of g) l.summands }

abbrev pub initial_of : Entries → PlainLinear → List Term
initial_of g l = map (term_at g) l.init

abbrev pub linear_state : Entries → PlainLinear → Process
linear_state g l = state_of (linear_of g l) (initial_of g l)
