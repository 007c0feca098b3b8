-- Labels, process terms and definitions in code, as plain data.
use Rattle.std.specs.Prelude.{ℕ, List, [], ◌∷◌, map, Vec}
use Rattle.std.specs.Global.{Global}
use Rattle.data_theory.specs.declared.ids.NameId.{NameId}
use Rattle.data_theory.specs.declared.ids.ActId.{ActId}
use Rattle.data_theory.specs.declared.ids.ProcId.{ProcId}
use Rattle.data_theory.specs.declared.ids.VarId.{VarId}
use Rattle.data_theory.specs.declared.ids.TermId.{TermId}
use Rattle.term_pool.specs.declared.terms.Equation.{Equation}
use Rattle.process_terms.specs.declared.labels.Action.{Action}
use Rattle.process_terms.specs.declared.labels.Label.{Label}
use Rattle.process_terms.specs.declared.comm_rules.CommRule.{CommRule}
use Rattle.process_terms.specs.declared.comm_rules.CommSet.{CommSet}
use Rattle.process_terms.specs.declared.processes.Proc.{Proc}
use Rattle.process_terms.specs.declared.processes.Proc.TheOpen as open_
use Rattle.process_terms.specs.declared.processes.Proc.TheOpen.{Proc-F}
use Rattle.process_terms.specs.declared.processes.Proc.TheFolds.{fold-Proc}
use Rattle.process_terms.specs.declared.definitions.ProcDef.{ProcDef}
use Rattle.process_terms.specs.declared.definitions.Model.{Model}
use Rattle.process_terms.specs.declared.components.Component.{Component}
use Rattle.process_terms.specs.declared.components.Component.TheVariants as components

-- an action, without where its arguments lie in memory
pub record PlainAction : Type 0 where
  pub act : ActId
  pub args : List TermId

abbrev pub plain_action : Action → PlainAction
plain_action a = record { act = a.act; args = a.args.items }

abbrev pub plain_label : Label → List PlainAction
plain_label m = map plain_action m.actions.items

-- a rule of `comm`
pub record PlainRule : Type 0 where
  pub left : List NameId
  pub result : NameId

abbrev pub plain_rule : CommRule → PlainRule
plain_rule c = record { left = c.left.items; result = c.result }

abbrev pub plain_rules : CommSet → List PlainRule
plain_rules set = map plain_rule set.rules.items

abbrev pub items_of_each : List (Vec NameId Global) → List (List NameId)
items_of_each sets = map (λ (set : Vec NameId Global). set.items) sets

-- an operator around a process
pub data PlainAround : Type 0 where
  allow : List (List NameId) → PlainAround
  block : List NameId → PlainAround
  hide : List NameId → PlainAround
  rename : List (NameId × NameId) → PlainAround
  comm : List PlainRule → PlainAround

mutual
  -- a process term
  pub data PlainProcess : Type 0 where
    delta : PlainProcess
    act : List PlainAction → PlainProcess
    call : ProcId → List TermId → PlainProcess
    choice : PlainProcesses → PlainProcess
    seq : PlainProcesses → PlainProcess
    cond : TermId → PlainProcess → PlainProcess → PlainProcess
    sum : List VarId → PlainProcess → PlainProcess
    merge : PlainProcesses → PlainProcess
    left_merge : PlainProcess → PlainProcess → PlainProcess
    sync : PlainProcesses → PlainProcess
    around : PlainAround → PlainProcess → PlainProcess

  pub data PlainProcesses : Type 0 where
    no_processes : PlainProcesses
    more_processes : PlainProcess → PlainProcesses → PlainProcesses

abbrev pub processes_of : List PlainProcess → PlainProcesses
processes_of [] = no_processes
processes_of (p ∷ ps) = more_processes p (processes_of ps)

-- one level, whose parts are plain
abbrev pub plain_process_step : Proc-F PlainProcess → PlainProcess
plain_process_step open_.Delta = delta
plain_process_step (open_.Act label) = act (plain_label label)
plain_process_step (open_.Call x ids) = call x ids.items
plain_process_step (open_.Choice parts) = choice (processes_of parts.items)
plain_process_step (open_.Seq parts) = seq (processes_of parts.items)
plain_process_step (open_.Cond c p q) = cond c p.value q.value
plain_process_step (open_.Sum xs p) = sum xs.items p.value
plain_process_step (open_.Merge parts) = merge (processes_of parts.items)
plain_process_step (open_.LeftMerge p q) = left_merge p.value q.value
plain_process_step (open_.Sync parts) = sync (processes_of parts.items)
plain_process_step (open_.Allow sets p) = around (allow (items_of_each sets.items)) p.value
plain_process_step (open_.Block names p) = around (block names.items) p.value
plain_process_step (open_.Hide names p) = around (hide names.items) p.value
plain_process_step (open_.Rename renamings p) = around (rename renamings.items) p.value
plain_process_step (open_.Comm set p) = around (comm (plain_rules set)) p.value

abbrev pub plain_process : Proc → PlainProcess
plain_process = fold-Proc PlainProcess plain_process_step

-- the definition of a process; the number of its declaration counts from 1
pub record PlainDefinition : Type 0 where
  pub name : NameId
  pub params : List VarId
  pub body : PlainProcess
  pub declaration : ℕ

abbrev pub plain_definition : ProcDef → PlainDefinition
plain_definition d = record { name = d.name; params = d.params.items; body = plain_process d.body; declaration = d.declaration }

-- an equation between data
pub record PlainEquation : Type 0 where
  pub variables : List VarId
  pub condition : TermId
  pub left : TermId
  pub right : TermId

abbrev pub plain_equation : Equation → PlainEquation
plain_equation q = record { variables = q.vars.items; condition = q.cond; left = q.left; right = q.right }

-- a specification
pub record PlainModel : Type 0 where
  pub equations : List PlainEquation
  pub definitions : List PlainDefinition
  pub init : PlainProcess
  pub init_declaration : ℕ

abbrev pub plain_model : Model → PlainModel
plain_model m = record { equations = map plain_equation m.theory.equations.items; definitions = map plain_definition m.procs.items; init = plain_process m.init; init_declaration = m.init_declaration }

-- where a component of a network starts
pub data PlainComponent : Type 0 where
  call_of : ProcId → List TermId → PlainComponent
  term_of : PlainProcess → PlainComponent

abbrev pub plain_component : Component → PlainComponent
plain_component (components.Call x ids) = call_of x ids.items
plain_component (components.Term p) = term_of (plain_process p)
