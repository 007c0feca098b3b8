-- The names that trees rename twice.
use Rattle.std.specs.Prelude.{ℕ, List, map, Option}
use denote.Ref.{Bor}
use Rattle.mcrl2_syntax.specs.ProcessParts.{PlainRenaming}
use Rattle.mcrl2_syntax.specs.ProcessTrees.{PlainProcess, PlainProcesses}
use Rattle.process_terms.specs.Processes.{Around}
use Rattle.sort_table.specs.Expressions.{Name}
use Rattle.sort_table.specs.BareProcesses.{bare_process, bare_processes}
use Rattle.data_typing.specs.Typings.{first_of}
use Rattle.sort_checker.specs.Operators.{operators_in, operators_in_all, first_again, renamed_twice}
use Rattle.sort_checker.specs.Parts.{ScopedDeclaration}
use Rattle.sort_checker.specs.Faults.{operators_of}
use Rattle.sort_checker.specs.Refusals.{first_from}

-- the number of a declaration with a name
abbrev pub named_fault : ℕ × Bor Name → ℕ × Name
named_fault f = (f.0, f.1.now)

abbrev pub again_in_operators : List Around → Option Name
again_in_operators os = first_of renamed_twice os

abbrev pub rename_fault_from : ℕ → List ScopedDeclaration → Option (ℕ × Name)
rename_fault_from k ds = first_from (λ (d : ScopedDeclaration). again_in_operators (operators_of d.declaration)) k ds

abbrev pub again_in_process : PlainProcess → Option Name
again_in_process p = again_in_operators (operators_in (bare_process p))

abbrev pub again_in_processes : PlainProcesses → Option Name
again_in_processes ps = again_in_operators (operators_in_all (bare_processes ps))

-- the names that are replaced
abbrev pub old_names : List PlainRenaming → List Name
old_names rs = map (λ (r : PlainRenaming). r.old.bytes) rs

abbrev pub again_among : List PlainRenaming → Option Name
again_among rs = first_again (old_names rs)
