-- Process terms as plain data.
use Rattle.std.specs.Prelude.{List, [], ◌∷◌, map}
use Rattle.mcrl2_syntax.specs.declared.word.Span.{Span}
use Rattle.mcrl2_syntax.specs.declared.process_tree.ProcTree.{ProcTree}
use Rattle.mcrl2_syntax.specs.declared.process_tree.ProcTree.TheOpen as open_
use Rattle.mcrl2_syntax.specs.declared.process_tree.ProcTree.TheOpen.{ProcTree-F}
use Rattle.mcrl2_syntax.specs.declared.process_tree.ProcTree.TheFolds.{fold-ProcTree}
use Rattle.mcrl2_syntax.specs.Words.{PlainWord, word_of}
use Rattle.mcrl2_syntax.specs.DataTrees.{PlainData, plain_data}
use Rattle.mcrl2_syntax.specs.ProcessParts.{PlainAction, plain_action, action_span, PlainAssignment, PlainNameSet, PlainRenaming, PlainCommRule, PlainVarGroup, assignment_of, name_set_of, renaming_of, comm_rule_of, var_group_of}

mutual
  -- a process term, without where it lies in memory
  pub data PlainProcess : Type 0 where
    delta : Span → PlainProcess
    acts : PlainAction → PlainProcess
    multi : Span → List PlainAction → PlainProcess
    sync : Span → PlainProcesses → PlainProcess
    call : Span → PlainWord → List PlainAssignment → PlainProcess
    within : Span → PlainProcess → PlainProcess
    allow : Span → List PlainNameSet → PlainProcess → PlainProcess
    block : Span → List PlainWord → PlainProcess → PlainProcess
    hide : Span → List PlainWord → PlainProcess → PlainProcess
    rename : Span → List PlainRenaming → PlainProcess → PlainProcess
    comm : Span → List PlainCommRule → PlainProcess → PlainProcess
    sequence : Span → PlainProcesses → PlainProcess
    sum : Span → List PlainVarGroup → PlainProcess → PlainProcess
    when : Span → PlainData → PlainProcess → PlainProcess
    either : Span → PlainData → PlainProcess → PlainProcess → PlainProcess
    left_merge : Span → PlainProcess → PlainProcess → PlainProcess
    parallel : Span → PlainProcesses → PlainProcess
    choice : Span → PlainProcesses → PlainProcess

  pub data PlainProcesses : Type 0 where
    no_processes : PlainProcesses
    more_processes : PlainProcess → PlainProcesses → PlainProcesses

abbrev pub processes_of : List PlainProcess → PlainProcesses
processes_of [] = no_processes
processes_of (p ∷ ps) = more_processes p (processes_of ps)

abbrev pub plain_process_step : ProcTree-F PlainProcess → PlainProcess
plain_process_step (open_.Delta span) = delta span
plain_process_step (open_.Action action) = acts (plain_action action)
plain_process_step (open_.Multi span actions) = multi span (map plain_action actions.items)
plain_process_step (open_.Sync span parts) = sync span (processes_of parts.items)
plain_process_step (open_.Call span name assignments) = call span (word_of name) (map assignment_of assignments.value.items)
plain_process_step (open_.Brackets span inner) = within span inner.value
plain_process_step (open_.Allow span sets inner) = allow span (map name_set_of sets.items) inner.value
plain_process_step (open_.Block span names inner) = block span (map word_of names.items) inner.value
plain_process_step (open_.Hide span names inner) = hide span (map word_of names.items) inner.value
plain_process_step (open_.Rename span renamings inner) = rename span (map renaming_of renamings.items) inner.value
plain_process_step (open_.Comm span rules inner) = comm span (map comm_rule_of rules.items) inner.value
plain_process_step (open_.Sequence span parts) = sequence span (processes_of parts.items)
plain_process_step (open_.Sum span variables inner) = sum span (map var_group_of variables.items) inner.value
plain_process_step (open_.When span condition then) = when span (plain_data condition.value) then.value
plain_process_step (open_.Either span condition then other) = either span (plain_data condition.value) then.value other.value
plain_process_step (open_.LeftMerge span first second) = left_merge span first.value second.value
plain_process_step (open_.Parallel span parts) = parallel span (processes_of parts.items)
plain_process_step (open_.Choice span parts) = choice span (processes_of parts.items)

abbrev pub plain_process : ProcTree → PlainProcess
plain_process = fold-ProcTree PlainProcess plain_process_step

-- where the process term stands
abbrev pub process_span : PlainProcess → Span
process_span (delta span) = span
process_span (acts action) = action_span action
process_span (multi span actions) = span
process_span (sync span parts) = span
process_span (call span name assignments) = span
process_span (within span inner) = span
process_span (allow span sets inner) = span
process_span (block span names inner) = span
process_span (hide span names inner) = span
process_span (rename span renamings inner) = span
process_span (comm span rules inner) = span
process_span (sequence span parts) = span
process_span (sum span variables inner) = span
process_span (when span condition then) = span
process_span (either span condition then other) = span
process_span (left_merge span first second) = span
process_span (parallel span parts) = span
process_span (choice span parts) = span
