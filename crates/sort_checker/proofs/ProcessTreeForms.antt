-- Process trees by their forms, as bare process terms.
use Rattle.std.proofs.Common.{◌≡◌, List, [], ◌∷◌, map, sym, ap, ap₂, ◌∙◌}
use Rattle.std.specs.Global.{Box, Vec}
use Rattle.std.proofs.lemmas.Simd.{map-map}
use Rattle.mcrl2_syntax.specs.declared.word.Span.{Span}
use Rattle.mcrl2_syntax.specs.declared.word.Word.{Word}
use Rattle.mcrl2_syntax.specs.declared.data_tree.DataTree.{DataTree}
use Rattle.mcrl2_syntax.specs.declared.process_tree.ActionTree.{ActionTree}
use Rattle.mcrl2_syntax.specs.declared.process_tree.Assignment.{Assignment}
use Rattle.mcrl2_syntax.specs.declared.process_tree.NameSet.{NameSet}
use Rattle.mcrl2_syntax.specs.declared.process_tree.Renaming.{Renaming}
use Rattle.mcrl2_syntax.specs.declared.process_tree.CommRule.{CommRule}
use Rattle.mcrl2_syntax.specs.declared.process_tree.VarGroup.{VarGroup}
use Rattle.mcrl2_syntax.specs.declared.process_tree.ProcTree.{ProcTree}
use Rattle.mcrl2_syntax.specs.declared.process_tree.ProcTree.TheVariants as forms
use Rattle.mcrl2_syntax.specs.declared.process_tree.ProcTree.TheFolds.{fold-roll-ProcTree}
use Rattle.mcrl2_syntax.specs.Words.{word_of}
use Rattle.mcrl2_syntax.specs.DataTrees.{plain_data}
use Rattle.mcrl2_syntax.specs.ProcessParts.{PlainAssignment, PlainNameSet, PlainRenaming, PlainCommRule, plain_action, assignment_of, name_set_of, renaming_of, comm_rule_of, var_group_of}
use Rattle.mcrl2_syntax.specs.ProcessTrees as trees
use Rattle.mcrl2_syntax.specs.ProcessTrees.{PlainProcess, plain_process, plain_process_step, processes_of}
use Rattle.sort_table.specs.Expressions.{Name}
use Rattle.sort_table.specs.BareData.{bare_data}
use Rattle.sort_table.specs.BareProcesses as bare
use Rattle.sort_table.specs.BareProcesses.{Process, Processes, bare_action, bare_names, bare_variables, bare_process, bare_processes}
use Rattle.sort_checker.specs.AssignedTrees.{assigned_value}
use Rattle.sort_checker.specs.NumberedWords.{set_names, renaming_pair, rule_pair}

abbrev pub bare_one : ProcTree → Process
bare_one p = bare_process (plain_process p)

abbrev pub bare_all : List ProcTree → Processes
bare_all ps = bare_processes (processes_of (map plain_process ps))

-- ---- `delta`, labels and calls
pub delta_plain : (tree : ProcTree) (span : Span) → tree ≡ forms.Delta span → plain_process tree ≡ trees.delta span
delta_plain tree span is = ap plain_process is ∙ (ap plain_process (sym (forms.rolls-Delta span)) ∙ fold-roll-ProcTree PlainProcess plain_process_step _)

pub action_plain : (tree : ProcTree) (a : ActionTree) → tree ≡ forms.Action a → plain_process tree ≡ trees.acts (plain_action a)
action_plain tree a is = ap plain_process is ∙ (ap plain_process (sym (forms.rolls-Action a)) ∙ fold-roll-ProcTree PlainProcess plain_process_step _)

pub multi_plain : (tree : ProcTree) (span : Span) (actions : Vec ActionTree) (as_ : List ActionTree) → tree ≡ forms.Multi span actions → as_ ≡ actions.items → plain_process tree ≡ trees.multi span (map plain_action as_)
multi_plain tree span actions as_ is e =
    ap plain_process is ∙ (ap plain_process (sym (forms.rolls-Multi span actions)) ∙ (fold-roll-ProcTree PlainProcess plain_process_step _ ∙ ap (λ (xs : List ActionTree). trees.multi span (map plain_action xs)) (sym e)))

pub call_plain : (tree : ProcTree) (span : Span) (name : Word) (assignments : Box (Vec Assignment)) (ds : List Assignment) → tree ≡ forms.Call span name assignments → ds ≡ assignments.value.items → plain_process tree ≡ trees.call span (word_of name) (map assignment_of ds)
call_plain tree span name assignments ds is e =
    ap plain_process is
    ∙ (ap plain_process (sym (forms.rolls-Call span name assignments)) ∙ (fold-roll-ProcTree PlainProcess plain_process_step _ ∙ ap (λ (xs : List Assignment). trees.call span (word_of name) (map assignment_of xs)) (sym e)))

pub call_bare : (span : Span) (name : Word) (ds : List Assignment) → bare_process (trees.call span (word_of name) (map assignment_of ds)) ≡ bare.call name.bytes.items (map assigned_value ds)
call_bare span name ds = ap (bare.call name.bytes.items) (map-map (λ (d : PlainAssignment). (d.name.bytes, bare_data d.value)) assignment_of ds)

pub brackets_plain : (tree : ProcTree) (span : Span) (inner : Box ProcTree) (p : ProcTree) → tree ≡ forms.Brackets span inner → p ≡ inner.value → plain_process tree ≡ trees.within span (plain_process p)
brackets_plain tree span inner p is f =
    ap plain_process is ∙ (ap plain_process (sym (forms.rolls-Brackets span inner)) ∙ (fold-roll-ProcTree PlainProcess plain_process_step _ ∙ ap (λ (q : ProcTree). trees.within span (plain_process q)) (sym f)))

-- ---- operators
pub allow_plain : (tree : ProcTree) (span : Span) (sets : Vec NameSet) (inner : Box ProcTree) (ss : List NameSet) (p : ProcTree) → tree ≡ forms.Allow span sets inner → ss ≡ sets.items → p ≡ inner.value → plain_process tree ≡ trees.allow span (map name_set_of ss) (plain_process p)
allow_plain tree span sets inner ss p is e f =
    ap plain_process is
    ∙ (ap plain_process (sym (forms.rolls-Allow span sets inner)) ∙ (fold-roll-ProcTree PlainProcess plain_process_step _ ∙ ap₂ (λ (xs : List NameSet) (q : ProcTree). trees.allow span (map name_set_of xs) (plain_process q)) (sym e) (sym f)))

pub allow_bare : (span : Span) (ss : List NameSet) (p : ProcTree) → bare_process (trees.allow span (map name_set_of ss) (plain_process p)) ≡ bare.allow (map set_names ss) (bare_one p)
allow_bare span ss p = ap (λ (xs : List (List Name)). bare.allow xs (bare_one p)) (map-map (λ (s : PlainNameSet). bare_names s.names) name_set_of ss)

pub block_plain : (tree : ProcTree) (span : Span) (names : Vec Word) (inner : Box ProcTree) (ws : List Word) (p : ProcTree) → tree ≡ forms.Block span names inner → ws ≡ names.items → p ≡ inner.value → plain_process tree ≡ trees.block span (map word_of ws) (plain_process p)
block_plain tree span names inner ws p is e f =
    ap plain_process is
    ∙ (ap plain_process (sym (forms.rolls-Block span names inner)) ∙ (fold-roll-ProcTree PlainProcess plain_process_step _ ∙ ap₂ (λ (xs : List Word) (q : ProcTree). trees.block span (map word_of xs) (plain_process q)) (sym e) (sym f)))

pub hide_plain : (tree : ProcTree) (span : Span) (names : Vec Word) (inner : Box ProcTree) (ws : List Word) (p : ProcTree) → tree ≡ forms.Hide span names inner → ws ≡ names.items → p ≡ inner.value → plain_process tree ≡ trees.hide span (map word_of ws) (plain_process p)
hide_plain tree span names inner ws p is e f =
    ap plain_process is
    ∙ (ap plain_process (sym (forms.rolls-Hide span names inner)) ∙ (fold-roll-ProcTree PlainProcess plain_process_step _ ∙ ap₂ (λ (xs : List Word) (q : ProcTree). trees.hide span (map word_of xs) (plain_process q)) (sym e) (sym f)))

pub rename_plain : (tree : ProcTree) (span : Span) (renamings : Vec Renaming) (inner : Box ProcTree) (rs : List Renaming) (p : ProcTree) → tree ≡ forms.Rename span renamings inner → rs ≡ renamings.items → p ≡ inner.value → plain_process tree ≡ trees.rename span (map renaming_of rs) (plain_process p)
rename_plain tree span renamings inner rs p is e f =
    ap plain_process is
    ∙ (ap plain_process (sym (forms.rolls-Rename span renamings inner)) ∙ (fold-roll-ProcTree PlainProcess plain_process_step _ ∙ ap₂ (λ (xs : List Renaming) (q : ProcTree). trees.rename span (map renaming_of xs) (plain_process q)) (sym e) (sym f)))

pub rename_bare : (span : Span) (rs : List Renaming) (p : ProcTree) → bare_process (trees.rename span (map renaming_of rs) (plain_process p)) ≡ bare.rename (map renaming_pair rs) (bare_one p)
rename_bare span rs p = ap (λ (xs : List (Name × Name)). bare.rename xs (bare_one p)) (map-map (λ (r : PlainRenaming). (r.old.bytes, r.renamed.bytes)) renaming_of rs)

pub comm_plain : (tree : ProcTree) (span : Span) (rules : Vec CommRule) (inner : Box ProcTree) (rs : List CommRule) (p : ProcTree) → tree ≡ forms.Comm span rules inner → rs ≡ rules.items → p ≡ inner.value → plain_process tree ≡ trees.comm span (map comm_rule_of rs) (plain_process p)
comm_plain tree span rules inner rs p is e f =
    ap plain_process is
    ∙ (ap plain_process (sym (forms.rolls-Comm span rules inner)) ∙ (fold-roll-ProcTree PlainProcess plain_process_step _ ∙ ap₂ (λ (xs : List CommRule) (q : ProcTree). trees.comm span (map comm_rule_of xs) (plain_process q)) (sym e) (sym f)))

pub comm_bare : (span : Span) (rs : List CommRule) (p : ProcTree) → bare_process (trees.comm span (map comm_rule_of rs) (plain_process p)) ≡ bare.comm (map rule_pair rs) (bare_one p)
comm_bare span rs p = ap (λ (xs : List (List Name × Name)). bare.comm xs (bare_one p)) (map-map (λ (r : PlainCommRule). (bare_names r.names, r.outcome.bytes)) comm_rule_of rs)

-- ---- chains
pub sequence_plain : (tree : ProcTree) (span : Span) (parts : Vec ProcTree) (ps : List ProcTree) → tree ≡ forms.Sequence span parts → ps ≡ parts.items → plain_process tree ≡ trees.sequence span (processes_of (map plain_process ps))
sequence_plain tree span parts ps is e =
    ap plain_process is ∙ (ap plain_process (sym (forms.rolls-Sequence span parts)) ∙ (fold-roll-ProcTree PlainProcess plain_process_step _ ∙ ap (λ (qs : List ProcTree). trees.sequence span (processes_of (map plain_process qs))) (sym e)))

pub parallel_plain : (tree : ProcTree) (span : Span) (parts : Vec ProcTree) (ps : List ProcTree) → tree ≡ forms.Parallel span parts → ps ≡ parts.items → plain_process tree ≡ trees.parallel span (processes_of (map plain_process ps))
parallel_plain tree span parts ps is e =
    ap plain_process is ∙ (ap plain_process (sym (forms.rolls-Parallel span parts)) ∙ (fold-roll-ProcTree PlainProcess plain_process_step _ ∙ ap (λ (qs : List ProcTree). trees.parallel span (processes_of (map plain_process qs))) (sym e)))

pub choice_plain : (tree : ProcTree) (span : Span) (parts : Vec ProcTree) (ps : List ProcTree) → tree ≡ forms.Choice span parts → ps ≡ parts.items → plain_process tree ≡ trees.choice span (processes_of (map plain_process ps))
choice_plain tree span parts ps is e =
    ap plain_process is ∙ (ap plain_process (sym (forms.rolls-Choice span parts)) ∙ (fold-roll-ProcTree PlainProcess plain_process_step _ ∙ ap (λ (qs : List ProcTree). trees.choice span (processes_of (map plain_process qs))) (sym e)))

pub sync_plain : (tree : ProcTree) (span : Span) (parts : Vec ProcTree) (ps : List ProcTree) → tree ≡ forms.Sync span parts → ps ≡ parts.items → plain_process tree ≡ trees.sync span (processes_of (map plain_process ps))
sync_plain tree span parts ps is e =
    ap plain_process is ∙ (ap plain_process (sym (forms.rolls-Sync span parts)) ∙ (fold-roll-ProcTree PlainProcess plain_process_step _ ∙ ap (λ (qs : List ProcTree). trees.sync span (processes_of (map plain_process qs))) (sym e)))

pub left_merge_plain : (tree : ProcTree) (span : Span) (first second : Box ProcTree) (p r : ProcTree) → tree ≡ forms.LeftMerge span first second → p ≡ first.value → r ≡ second.value → plain_process tree ≡ trees.left_merge span (plain_process p) (plain_process r)
left_merge_plain tree span first second p r is f k =
    ap plain_process is
    ∙ (ap plain_process (sym (forms.rolls-LeftMerge span first second)) ∙ (fold-roll-ProcTree PlainProcess plain_process_step _ ∙ ap₂ (λ (q s : ProcTree). trees.left_merge span (plain_process q) (plain_process s)) (sym f) (sym k)))

-- ---- sums and conditions
pub sum_plain : (tree : ProcTree) (span : Span) (groups : Vec VarGroup) (inner : Box ProcTree) (gs : List VarGroup) (p : ProcTree) → tree ≡ forms.Sum span groups inner → gs ≡ groups.items → p ≡ inner.value → plain_process tree ≡ trees.sum span (map var_group_of gs) (plain_process p)
sum_plain tree span groups inner gs p is e f =
    ap plain_process is
    ∙ (ap plain_process (sym (forms.rolls-Sum span groups inner)) ∙ (fold-roll-ProcTree PlainProcess plain_process_step _ ∙ ap₂ (λ (xs : List VarGroup) (q : ProcTree). trees.sum span (map var_group_of xs) (plain_process q)) (sym e) (sym f)))

pub when_plain : (tree : ProcTree) (span : Span) (condition : Box DataTree) (then : Box ProcTree) (d : DataTree) (p : ProcTree) → tree ≡ forms.When span condition then → d ≡ condition.value → p ≡ then.value → plain_process tree ≡ trees.when span (plain_data d) (plain_process p)
when_plain tree span condition then d p is e f =
    ap plain_process is
    ∙ (ap plain_process (sym (forms.rolls-When span condition then)) ∙ (fold-roll-ProcTree PlainProcess plain_process_step _ ∙ ap₂ (λ (c : DataTree) (q : ProcTree). trees.when span (plain_data c) (plain_process q)) (sym e) (sym f)))

pub either_plain : (tree : ProcTree) (span : Span) (condition : Box DataTree) (then other : Box ProcTree) (d : DataTree) (p r : ProcTree) → tree ≡ forms.Either span condition then other → d ≡ condition.value → p ≡ then.value → r ≡ other.value → plain_process tree ≡ trees.either span (plain_data d) (plain_process p) (plain_process r)
either_plain tree span condition then other d p r is e f k =
    ap plain_process is
    ∙ (ap plain_process (sym (forms.rolls-Either span condition then other)) ∙ (fold-roll-ProcTree PlainProcess plain_process_step _ ∙ (ap₂ (λ (q s : ProcTree). trees.either span (plain_data condition.value) (plain_process q) (plain_process s)) (sym f) (sym k) ∙ ap (λ (c : DataTree). trees.either span (plain_data c) (plain_process p) (plain_process r)) (sym e))))

-- ---- the bare process terms
pub delta_same : (tree : ProcTree) (span : Span) → tree ≡ forms.Delta span → bare_one tree ≡ bare.delta
delta_same tree span is = ap bare_process (delta_plain tree span is)

pub action_same : (tree : ProcTree) (a : ActionTree) → tree ≡ forms.Action a → bare_one tree ≡ bare.acts (bare_action (plain_action a) ∷ [])
action_same tree a is = ap bare_process (action_plain tree a is)

pub multi_same : (tree : ProcTree) (span : Span) (actions : Vec ActionTree) (as_ : List ActionTree) → tree ≡ forms.Multi span actions → as_ ≡ actions.items → bare_one tree ≡ bare.acts (map bare_action (map plain_action as_))
multi_same tree span actions as_ is e = ap bare_process (multi_plain tree span actions as_ is e)

pub call_same : (tree : ProcTree) (span : Span) (name : Word) (assignments : Box (Vec Assignment)) (ds : List Assignment) → tree ≡ forms.Call span name assignments → ds ≡ assignments.value.items → bare_one tree ≡ bare.call name.bytes.items (map assigned_value ds)
call_same tree span name assignments ds is e = ap bare_process (call_plain tree span name assignments ds is e) ∙ call_bare span name ds

pub brackets_same : (tree : ProcTree) (span : Span) (inner : Box ProcTree) (p : ProcTree) → tree ≡ forms.Brackets span inner → p ≡ inner.value → bare_one tree ≡ bare_one p
brackets_same tree span inner p is f = ap bare_process (brackets_plain tree span inner p is f)

pub allow_same : (tree : ProcTree) (span : Span) (sets : Vec NameSet) (inner : Box ProcTree) (ss : List NameSet) (p : ProcTree) → tree ≡ forms.Allow span sets inner → ss ≡ sets.items → p ≡ inner.value → bare_one tree ≡ bare.allow (map set_names ss) (bare_one p)
allow_same tree span sets inner ss p is e f = ap bare_process (allow_plain tree span sets inner ss p is e f) ∙ allow_bare span ss p

pub block_same : (tree : ProcTree) (span : Span) (names : Vec Word) (inner : Box ProcTree) (ws : List Word) (p : ProcTree) → tree ≡ forms.Block span names inner → ws ≡ names.items → p ≡ inner.value → bare_one tree ≡ bare.block (bare_names (map word_of ws)) (bare_one p)
block_same tree span names inner ws p is e f = ap bare_process (block_plain tree span names inner ws p is e f)

pub hide_same : (tree : ProcTree) (span : Span) (names : Vec Word) (inner : Box ProcTree) (ws : List Word) (p : ProcTree) → tree ≡ forms.Hide span names inner → ws ≡ names.items → p ≡ inner.value → bare_one tree ≡ bare.hide (bare_names (map word_of ws)) (bare_one p)
hide_same tree span names inner ws p is e f = ap bare_process (hide_plain tree span names inner ws p is e f)

pub rename_same : (tree : ProcTree) (span : Span) (renamings : Vec Renaming) (inner : Box ProcTree) (rs : List Renaming) (p : ProcTree) → tree ≡ forms.Rename span renamings inner → rs ≡ renamings.items → p ≡ inner.value → bare_one tree ≡ bare.rename (map renaming_pair rs) (bare_one p)
rename_same tree span renamings inner rs p is e f = ap bare_process (rename_plain tree span renamings inner rs p is e f) ∙ rename_bare span rs p

pub comm_same : (tree : ProcTree) (span : Span) (rules : Vec CommRule) (inner : Box ProcTree) (rs : List CommRule) (p : ProcTree) → tree ≡ forms.Comm span rules inner → rs ≡ rules.items → p ≡ inner.value → bare_one tree ≡ bare.comm (map rule_pair rs) (bare_one p)
comm_same tree span rules inner rs p is e f = ap bare_process (comm_plain tree span rules inner rs p is e f) ∙ comm_bare span rs p

pub sequence_same : (tree : ProcTree) (span : Span) (parts : Vec ProcTree) (ps : List ProcTree) → tree ≡ forms.Sequence span parts → ps ≡ parts.items → bare_one tree ≡ bare.sequence (bare_all ps)
sequence_same tree span parts ps is e = ap bare_process (sequence_plain tree span parts ps is e)

pub parallel_same : (tree : ProcTree) (span : Span) (parts : Vec ProcTree) (ps : List ProcTree) → tree ≡ forms.Parallel span parts → ps ≡ parts.items → bare_one tree ≡ bare.parallel (bare_all ps)
parallel_same tree span parts ps is e = ap bare_process (parallel_plain tree span parts ps is e)

pub choice_same : (tree : ProcTree) (span : Span) (parts : Vec ProcTree) (ps : List ProcTree) → tree ≡ forms.Choice span parts → ps ≡ parts.items → bare_one tree ≡ bare.choice (bare_all ps)
choice_same tree span parts ps is e = ap bare_process (choice_plain tree span parts ps is e)

pub sync_same : (tree : ProcTree) (span : Span) (parts : Vec ProcTree) (ps : List ProcTree) → tree ≡ forms.Sync span parts → ps ≡ parts.items → bare_one tree ≡ bare.sync (bare_all ps)
sync_same tree span parts ps is e = ap bare_process (sync_plain tree span parts ps is e)

pub left_merge_same : (tree : ProcTree) (span : Span) (first second : Box ProcTree) (p r : ProcTree) → tree ≡ forms.LeftMerge span first second → p ≡ first.value → r ≡ second.value → bare_one tree ≡ bare.left_merge (bare_one p) (bare_one r)
left_merge_same tree span first second p r is f k = ap bare_process (left_merge_plain tree span first second p r is f k)

pub sum_same : (tree : ProcTree) (span : Span) (groups : Vec VarGroup) (inner : Box ProcTree) (gs : List VarGroup) (p : ProcTree) → tree ≡ forms.Sum span groups inner → gs ≡ groups.items → p ≡ inner.value → bare_one tree ≡ bare.sum (bare_variables (map var_group_of gs)) (bare_one p)
sum_same tree span groups inner gs p is e f = ap bare_process (sum_plain tree span groups inner gs p is e f)

pub when_same : (tree : ProcTree) (span : Span) (condition : Box DataTree) (then : Box ProcTree) (d : DataTree) (p : ProcTree) → tree ≡ forms.When span condition then → d ≡ condition.value → p ≡ then.value → bare_one tree ≡ bare.when (bare_data (plain_data d)) (bare_one p)
when_same tree span condition then d p is e f = ap bare_process (when_plain tree span condition then d p is e f)

pub either_same : (tree : ProcTree) (span : Span) (condition : Box DataTree) (then other : Box ProcTree) (d : DataTree) (p r : ProcTree) → tree ≡ forms.Either span condition then other → d ≡ condition.value → p ≡ then.value → r ≡ other.value → bare_one tree ≡ bare.either (bare_data (plain_data d)) (bare_one p) (bare_one r)
either_same tree span condition then other d p r is e f k = ap bare_process (either_plain tree span condition then other d p r is e f k)
