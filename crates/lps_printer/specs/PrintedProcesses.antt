-- Process terms without spans and brackets, as far as a linear process needs them.
use Rattle.std.specs.Prelude.{ℕ, List, [], ◌∷◌, Option, Some, None, map}
use Rattle.sort_table.specs.BareSorts.{SortExpression, bare_sort}
use Rattle.mcrl2_syntax.specs.Words.{PlainWord}
use Rattle.mcrl2_syntax.specs.DataTrees.{datas_of}
use Rattle.mcrl2_syntax.specs.ProcessParts as part_
use Rattle.mcrl2_syntax.specs.ProcessParts.{PlainAction, PlainAssignment, PlainVarGroup}
use Rattle.mcrl2_syntax.specs.ProcessTrees as tree_
use Rattle.mcrl2_syntax.specs.ProcessTrees.{PlainProcess, PlainProcesses, no_processes, more_processes}
use Rattle.lps_printer.specs.PrintedExpressions as exp_
use Rattle.lps_printer.specs.PrintedExpressions.{Expression, Expressions, bare, bare_all}

pub data Action : Type 0 where
  tau_ : Action
  act : List ℕ → Expressions → Action

abbrev pub bare_action : PlainAction → Action
bare_action (part_.tau_action span) = tau_
bare_action (part_.named_action span name ds) = act name.bytes (bare_all (datas_of ds))

pub record Assignment : Type 0 where
  pub name : List ℕ
  pub value : Expression

abbrev pub bare_assignment : PlainAssignment → Assignment
bare_assignment x = record { name = x.name.bytes; value = bare x.value }

pub record Variables : Type 0 where
  pub names : List (List ℕ)
  pub sort : SortExpression

abbrev pub bare_variables : PlainVarGroup → Variables
bare_variables g = record { names = map (λ (w : PlainWord). w.bytes) g.names; sort = bare_sort g.sort }

mutual
  pub data Process : Type 0 where
    delta : Process
    acts : List Action → Process
    call : List ℕ → List Assignment → Process
    sequence : Processes → Process
    sum : List Variables → Process → Process
    when : Expression → Process → Process
    choice : Processes → Process
    other : Process

  pub data Processes : Type 0 where
    none : Processes
    more : Process → Processes → Processes

abbrev mutual
  pub bare_process : PlainProcess → Process
  bare_process (tree_.delta span) = delta
  bare_process (tree_.acts a) = acts (bare_action a ∷ [])
  bare_process (tree_.multi span as_) = acts (map bare_action as_)
  bare_process (tree_.call span name xs) = call name.bytes (map bare_assignment xs)
  bare_process (tree_.within span p) = bare_process p
  bare_process (tree_.sequence span ps) = sequence (bare_processes ps)
  bare_process (tree_.sum span gs p) = sum (map bare_variables gs) (bare_process p)
  bare_process (tree_.when span c p) = when (bare c) (bare_process p)
  bare_process (tree_.choice span ps) = choice (bare_processes ps)
  bare_process _ = other

  pub bare_processes : PlainProcesses → Processes
  bare_processes no_processes = none
  bare_processes (more_processes p ps) = more (bare_process p) (bare_processes ps)

-- ---- a summand

pub data Next : Type 0 where
  ends : Next
  goes_bare : List ℕ → Next
  goes : List ℕ → List Assignment → Next

pub record Variable : Type 0 where
  pub name : List ℕ
  pub sort : SortExpression

-- the first action, or none for tau, and the further ones
pub record Summand : Type 0 where
  pub sums : List Variable
  pub condition : Option Expression
  pub first : Action
  pub others : List Action
  pub next : Next

abbrev pub one_variable : Variable → Variables
one_variable v = record { names = v.name ∷ []; sort = v.sort }

abbrev pub with_next : Process → Next → Process
with_next p ends = p
with_next p (goes_bare x) = sequence (more p (more (acts (act x exp_.none ∷ [])) none))
with_next p (goes x as_) = sequence (more p (more (call x as_) none))

abbrev pub with_condition : Option Expression → Process → Process
with_condition None p = p
with_condition (Some c) p = when c p

abbrev pub with_sums : List Variable → Process → Process
with_sums [] p = p
with_sums (v ∷ vs) p = sum (map one_variable (v ∷ vs)) p

abbrev pub summand_process : Summand → Process
summand_process s = with_sums s.sums (with_condition s.condition (with_next (acts (s.first ∷ s.others)) s.next))

abbrev pub all_summands : Summand → List Summand → Processes
all_summands s [] = more (summand_process s) none
all_summands s (r ∷ rs) = more (summand_process s) (all_summands r rs)

abbrev pub choice_process : Summand → List Summand → Process
choice_process s [] = summand_process s
choice_process s (r ∷ rs) = choice (all_summands s (r ∷ rs))
