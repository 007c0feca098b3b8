-- Process terms in code by their forms, as plain data.
use Rattle.std.proofs.Common.{◌≡◌, ◌∙◌, sym, ap, map, Vec}
use Rattle.std.specs.Global.{Global, Box}
use Rattle.data_theory.specs.declared.ids.NameId.{NameId}
use Rattle.data_theory.specs.declared.ids.VarId.{VarId}
use Rattle.data_theory.specs.declared.ids.TermId.{TermId}
use Rattle.process_terms.specs.declared.comm_rules.CommSet.{CommSet}
use Rattle.process_terms.specs.declared.processes.Proc.{Proc}
use Rattle.process_terms.specs.declared.processes.Proc.TheVariants as procs
use Rattle.process_terms.specs.declared.processes.Proc.TheFolds.{fold-roll-Proc}
use Rattle.process_terms.specs.PlainProcesses.{PlainProcess, delta, choice, seq, cond, sum, merge, left_merge, sync, around, allow, block, hide, rename, comm, items_of_each, plain_rules, processes_of, plain_process, plain_process_step}

pub delta_step : plain_process procs.Delta ≡ delta
delta_step = ap plain_process (sym procs.rolls-Delta) ∙ fold-roll-Proc PlainProcess plain_process_step _

pub choice_step : (parts : Vec Proc Global) → plain_process (procs.Choice parts) ≡ choice (processes_of (map plain_process parts.items))
choice_step parts = ap plain_process (sym (procs.rolls-Choice parts)) ∙ fold-roll-Proc PlainProcess plain_process_step _

pub seq_step : (parts : Vec Proc Global) → plain_process (procs.Seq parts) ≡ seq (processes_of (map plain_process parts.items))
seq_step parts = ap plain_process (sym (procs.rolls-Seq parts)) ∙ fold-roll-Proc PlainProcess plain_process_step _

pub merge_step : (parts : Vec Proc Global) → plain_process (procs.Merge parts) ≡ merge (processes_of (map plain_process parts.items))
merge_step parts = ap plain_process (sym (procs.rolls-Merge parts)) ∙ fold-roll-Proc PlainProcess plain_process_step _

pub sync_step : (parts : Vec Proc Global) → plain_process (procs.Sync parts) ≡ sync (processes_of (map plain_process parts.items))
sync_step parts = ap plain_process (sym (procs.rolls-Sync parts)) ∙ fold-roll-Proc PlainProcess plain_process_step _

pub left_merge_step : (p q : Box Proc) → plain_process (procs.LeftMerge p q) ≡ left_merge (plain_process p.value) (plain_process q.value)
left_merge_step p q = ap plain_process (sym (procs.rolls-LeftMerge p q)) ∙ fold-roll-Proc PlainProcess plain_process_step _

pub cond_step : (c : TermId) (p q : Box Proc) → plain_process (procs.Cond c p q) ≡ cond c (plain_process p.value) (plain_process q.value)
cond_step c p q = ap plain_process (sym (procs.rolls-Cond c p q)) ∙ fold-roll-Proc PlainProcess plain_process_step _

pub sum_step : (xs : Vec VarId Global) (p : Box Proc) → plain_process (procs.Sum xs p) ≡ sum xs.items (plain_process p.value)
sum_step xs p = ap plain_process (sym (procs.rolls-Sum xs p)) ∙ fold-roll-Proc PlainProcess plain_process_step _

pub allow_step : (sets : Vec (Vec NameId Global) Global) (p : Box Proc) → plain_process (procs.Allow sets p) ≡ around (allow (items_of_each sets.items)) (plain_process p.value)
allow_step sets p = ap plain_process (sym (procs.rolls-Allow sets p)) ∙ fold-roll-Proc PlainProcess plain_process_step _

pub block_step : (names : Vec NameId Global) (p : Box Proc) → plain_process (procs.Block names p) ≡ around (block names.items) (plain_process p.value)
block_step names p = ap plain_process (sym (procs.rolls-Block names p)) ∙ fold-roll-Proc PlainProcess plain_process_step _

pub hide_step : (names : Vec NameId Global) (p : Box Proc) → plain_process (procs.Hide names p) ≡ around (hide names.items) (plain_process p.value)
hide_step names p = ap plain_process (sym (procs.rolls-Hide names p)) ∙ fold-roll-Proc PlainProcess plain_process_step _

pub rename_step : (renamings : Vec (NameId × NameId) Global) (p : Box Proc) → plain_process (procs.Rename renamings p) ≡ around (rename renamings.items) (plain_process p.value)
rename_step renamings p = ap plain_process (sym (procs.rolls-Rename renamings p)) ∙ fold-roll-Proc PlainProcess plain_process_step _

pub comm_step : (set : CommSet) (p : Box Proc) → plain_process (procs.Comm set p) ≡ around (comm (plain_rules set)) (plain_process p.value)
comm_step set p = ap plain_process (sym (procs.rolls-Comm set p)) ∙ fold-roll-Proc PlainProcess plain_process_step _
