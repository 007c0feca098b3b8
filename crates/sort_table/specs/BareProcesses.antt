-- Process terms, without where they stand and without brackets.
use Rattle.std.specs.Prelude.{List, [], ◌∷◌, ◌++◌, map}
use Rattle.std.specs.List.{flat_map}
use Rattle.mcrl2_syntax.specs.Words.{PlainWord}
use Rattle.mcrl2_syntax.specs.ProcessParts.{PlainAction, tau_action, named_action, PlainVarGroup, PlainAssignment, PlainNameSet, PlainRenaming, PlainCommRule}
use Rattle.mcrl2_syntax.specs.ProcessTrees as trees
use Rattle.mcrl2_syntax.specs.ProcessTrees.{PlainProcess, PlainProcesses, no_processes, more_processes}
use Rattle.sort_table.specs.Expressions.{Name, Expression}
use Rattle.sort_table.specs.BareData.{bare_data}
use Rattle.sort_table.specs.BareSorts.{SortExpression, bare_sort}

-- variables with their sorts, where `x, y: S` is `x: S, y: S`
abbrev pub Variables : Type 0
Variables = List (Name × SortExpression)

abbrev pub bare_name : PlainWord → Name
bare_name w = w.bytes

abbrev pub bare_names : List PlainWord → List Name
bare_names ws = map bare_name ws

abbrev pub bare_group : PlainVarGroup → Variables
bare_group g = map (λ (w : PlainWord). (w.bytes, bare_sort g.sort)) g.names

abbrev pub bare_variables : List PlainVarGroup → Variables
bare_variables gs = flat_map bare_group gs

pub data Action : Type 0 where
  tau : Action
  act : Name → List Expression → Action

abbrev pub bare_action : PlainAction → Action
bare_action (tau_action span) = tau
bare_action (named_action span f ds) = act f.bytes (map bare_data ds)

-- a name with arguments is an action or a call
mutual
  pub data Process : Type 0 where
    delta : Process
    acts : List Action → Process
    call : Name → List (Name × Expression) → Process
    allow : List (List Name) → Process → Process
    block : List Name → Process → Process
    hide : List Name → Process → Process
    rename : List (Name × Name) → Process → Process
    comm : List (List Name × Name) → Process → Process
    sequence : Processes → Process
    sum : Variables → Process → Process
    when : Expression → Process → Process
    either : Expression → Process → Process → Process
    sync : Processes → Process
    left_merge : Process → Process → Process
    parallel : Processes → Process
    choice : Processes → Process

  pub data Processes : Type 0 where
    none : Processes
    more : Process → Processes → Processes

abbrev mutual
  pub bare_process : PlainProcess → Process
  bare_process (trees.delta span) = delta
  bare_process (trees.acts a) = acts (bare_action a ∷ [])
  bare_process (trees.multi span as_) = acts (map bare_action as_)
  bare_process (trees.sync span ps) = sync (bare_processes ps)
  bare_process (trees.call span p ds) = call p.bytes (map (λ (d : PlainAssignment). (d.name.bytes, bare_data d.value)) ds)
  bare_process (trees.within span p) = bare_process p
  bare_process (trees.allow span sets p) = allow (map (λ (s : PlainNameSet). bare_names s.names) sets) (bare_process p)
  bare_process (trees.block span ns p) = block (bare_names ns) (bare_process p)
  bare_process (trees.hide span ns p) = hide (bare_names ns) (bare_process p)
  bare_process (trees.rename span rs p) = rename (map (λ (r : PlainRenaming). (r.old.bytes, r.renamed.bytes)) rs) (bare_process p)
  bare_process (trees.comm span rs p) = comm (map (λ (r : PlainCommRule). (bare_names r.names, r.outcome.bytes)) rs) (bare_process p)
  bare_process (trees.sequence span ps) = sequence (bare_processes ps)
  bare_process (trees.sum span gs p) = sum (bare_variables gs) (bare_process p)
  bare_process (trees.when span d p) = when (bare_data d) (bare_process p)
  bare_process (trees.either span d p q) = either (bare_data d) (bare_process p) (bare_process q)
  bare_process (trees.left_merge span p q) = left_merge (bare_process p) (bare_process q)
  bare_process (trees.parallel span ps) = parallel (bare_processes ps)
  bare_process (trees.choice span ps) = choice (bare_processes ps)

  pub bare_processes : PlainProcesses → Processes
  bare_processes no_processes = none
  bare_processes (more_processes p ps) = more (bare_process p) (bare_processes ps)

-- the lists of sum variables, in the order of the text
abbrev mutual
  pub sums_in : Process → List Variables
  sums_in delta = []
  sums_in (acts as_) = []
  sums_in (call p ds) = []
  sums_in (allow sets p) = sums_in p
  sums_in (block ns p) = sums_in p
  sums_in (hide ns p) = sums_in p
  sums_in (rename rs p) = sums_in p
  sums_in (comm rs p) = sums_in p
  sums_in (sequence ps) = sums_in_all ps
  sums_in (sum vs p) = vs ∷ sums_in p
  sums_in (when d p) = sums_in p
  sums_in (either d p q) = sums_in p ++ sums_in q
  sums_in (sync ps) = sums_in_all ps
  sums_in (left_merge p q) = sums_in p ++ sums_in q
  sums_in (parallel ps) = sums_in_all ps
  sums_in (choice ps) = sums_in_all ps

  pub sums_in_all : Processes → List Variables
  sums_in_all none = []
  sums_in_all (more p ps) = sums_in p ++ sums_in_all ps
