-- Trees that are operators around one tree, and trees that are chains.
use Rattle.std.specs.Prelude.{◌≡◌, ◌⊎◌, List, [], map, Option, Some, None}
use Rattle.std.specs.Global.{Box, Vec}
use Rattle.mcrl2_syntax.specs.declared.word.Span.{Span}
use Rattle.mcrl2_syntax.specs.declared.word.Word.{Word}
use Rattle.mcrl2_syntax.specs.declared.process_tree.NameSet.{NameSet}
use Rattle.mcrl2_syntax.specs.declared.process_tree.Renaming.{Renaming}
use Rattle.mcrl2_syntax.specs.declared.process_tree.CommRule.{CommRule}
use Rattle.mcrl2_syntax.specs.declared.process_tree.ProcTree.{ProcTree}
use Rattle.mcrl2_syntax.specs.declared.process_tree.ProcTree.TheVariants as forms
use Rattle.mcrl2_syntax.specs.ProcessTrees.{plain_process, processes_of}
use Rattle.data_theory.specs.Signature.{Sig}
use Rattle.process_terms.specs.PlainProcesses as code
use Rattle.process_terms.specs.PlainProcesses.{PlainAround, PlainProcess}
use Rattle.process_terms.specs.Processes.{Around, allow, block, hide, rename, comm}
use Rattle.sort_table.specs.Expressions.{Name}
use Rattle.sort_table.specs.BareProcesses as bare
use Rattle.sort_table.specs.BareProcesses.{Process, Processes, bare_processes}
use Rattle.sort_checker.specs.Operators.{renaming_of, rule_of, names_of}
use Rattle.sort_checker.specs.ElaboratedParts.{IsAround}

-- ---- operators
-- the tree is an operator around this one
abbrev pub StandsAround : ProcTree → Box ProcTree → Type 0
StandsAround tree part =
    ((span : Span) × (sets : Vec NameSet) × (tree ≡ forms.Allow span sets part))
    ⊎ ((span : Span) × (names : Vec Word) × (tree ≡ forms.Block span names part))
    ⊎ ((span : Span) × (names : Vec Word) × (tree ≡ forms.Hide span names part))
    ⊎ ((span : Span) × (renamings : Vec Renaming) × (tree ≡ forms.Rename span renamings part))
    ⊎ ((span : Span) × (rules : Vec CommRule) × (tree ≡ forms.Comm span rules part))

-- the operator that a process term is
abbrev pub operator_of : Process → Option Around
operator_of (bare.allow sets p) = Some (allow sets)
operator_of (bare.block xs p) = Some (block xs)
operator_of (bare.hide xs p) = Some (hide xs)
operator_of (bare.rename rs p) = Some (rename (map renaming_of rs))
operator_of (bare.comm cs p) = Some (comm (map rule_of cs))
operator_of _ = None

abbrev pub operator_names : Option Around → List Name
operator_names None = []
operator_names (Some o) = names_of o

-- the process term in code is the operator, with numbers for its names, around the inner one
pub record IsUnder (g : Sig) (o : Around) (inner whole : PlainProcess) : Type 0 where
  pub numbered : PlainAround
  pub stands : IsAround g numbered o
  pub is : whole ≡ code.around numbered inner

-- ---- chains
-- the tree is a chain of these
abbrev pub IsChain : ProcTree → Vec ProcTree → Type 0
IsChain tree list =
    ((span : Span) × (tree ≡ forms.Sequence span list)) ⊎ ((span : Span) × (tree ≡ forms.Parallel span list)) ⊎ ((span : Span) × (tree ≡ forms.Choice span list))
    ⊎ ((span : Span) × (tree ≡ forms.Sync span list))

abbrev pub parts_of : List ProcTree → Processes
parts_of list = bare_processes (processes_of (map plain_process list))
