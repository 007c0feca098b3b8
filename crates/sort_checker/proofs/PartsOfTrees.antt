-- Trees that are operators around one tree, and trees that are chains: what holds of the trees inside, and what is made of them.
use Rattle.std.proofs.Common.{◌≡◌, ◌<◌, inl, inr, List, map, refl, sym, subst, ap, ◌∙◌}
use Rattle.std.specs.Prelude.{Option, Some}
use Rattle.std.specs.Global.{Box, Vec}
use denote.Param.Weighed.{most}
use Rattle.mcrl2_syntax.specs.declared.word.Span.{Span}
use Rattle.mcrl2_syntax.specs.declared.process_tree.ProcTree.{ProcTree}
use Rattle.mcrl2_syntax.specs.declared.process_tree.ProcTree.TheVariants as forms
use Rattle.mcrl2_syntax.proofs.process_tree.ProcTree.TheLaws.{the_size}
use Rattle.mcrl2_syntax.specs.Words.{word_of}
use Rattle.mcrl2_syntax.specs.ProcessTrees.{plain_process, processes_of}
use Rattle.mcrl2_syntax.specs.TreeWords.{IsProcessOfWords, AreProcessesOfWords}
use Rattle.data_theory.specs.Signature.{Sig}
use Rattle.data_theory.specs.WholeSignatures.{IsSignature}
use Rattle.term_pool.specs.Pools.{PoolContents}
use Rattle.process_terms.specs.declared.processes.Proc.{Proc}
use Rattle.process_terms.specs.declared.processes.Proc.TheVariants as procs
use Rattle.process_terms.specs.PlainProcesses as code
use Rattle.process_terms.specs.PlainProcesses.{PlainAround, PlainProcess}
use Rattle.process_terms.specs.Processes as written
use Rattle.process_terms.specs.Processes.{Around, Body, written_around}
use Rattle.sort_table.specs.BareProcesses as bare
use Rattle.sort_table.specs.BareProcesses.{Process, bare_names}
use Rattle.data_typing.specs.declared.scope.Bound.{Bound}
use Rattle.data_typing.specs.Meanings.{Scope}
use Rattle.sort_checker.specs.declared.process_tables.ProcessTable.{ProcessTable}
use Rattle.sort_checker.specs.FullVocabularies.{FullVocabulary}
use Rattle.sort_checker.specs.Operators.{renaming_of, rule_of}
use Rattle.sort_checker.specs.NumberedWords.{set_names, renaming_pair, rule_pair}
use Rattle.sort_checker.specs.Elaborations.{Fits, Elaborates, only_these, none_of_these, unseen, renamed, joined}
use Rattle.sort_checker.specs.ElaboratedParts.{IsAround}
use Rattle.sort_checker.specs.CodeContexts.{Sees, CanElaborate, AllCanElaborate, IsElaborated, AreElaborated, SumNamesStand, AllSumNamesStand}
use Rattle.sort_checker.specs.FormTrees.{StandsAround, operator_of, IsUnder, IsChain}
use Rattle.sort_checker.proofs.Adding.{goes_nowhere}
use Rattle.sort_checker.proofs.TreeSizes.{allow_smaller, block_smaller, hide_smaller, rename_smaller, comm_smaller, sequence_smaller, parallel_smaller, choice_smaller, sync_smaller}
use Rattle.sort_checker.proofs.ProcessTreeForms.{bare_one, bare_all, allow_plain, block_plain, hide_plain, rename_plain, comm_plain, sequence_plain, parallel_plain, choice_plain, sync_plain, allow_same, block_same, hide_same, rename_same, comm_same, sequence_same, parallel_same, choice_same, sync_same}
use Rattle.sort_checker.proofs.ElaboratedForms.{around_elaborated}
use Rattle.sort_checker.proofs.ElaboratedInside.{CanOperate, can_allow, can_block, can_hide, can_rename, can_comm, can_sequence, can_parallel, can_choice, can_sync}
use Rattle.sort_checker.proofs.ElaboratedInCode.{sequence_in_code, choice_in_code, parallel_in_code, sync_in_code}

-- ---- operators
-- what a tree that is an operator tells of the tree inside
pub record IsOperated (tree p : ProcTree) (o : Around) : Type 0 where
  pub operator : operator_of (bare_one tree) ≡ Some o
  pub smaller : the_size p < the_size tree
  pub words : IsProcessOfWords (plain_process tree) → IsProcessOfWords (plain_process p)
  pub names : (g : Sig) → SumNamesStand g (bare_one tree) → SumNamesStand g (bare_one p)
  pub can : (g : Sig) (t : ProcessTable) (bs : List Bound) → IsSignature g → CanElaborate g t bs (bare_one tree) → CanOperate g t bs o (bare_one p)
  pub elaborates : (v : FullVocabulary) (scope : Scope) (b : Body) → Fits v o → Elaborates v scope (bare_one p) b → Elaborates v scope (bare_one tree) (written_around o b)

pub operated : (tree p : ProcTree) (part : Box ProcTree) → p ≡ part.value → StandsAround tree part → (o : Around) × IsOperated tree p o
operated tree p part f (inl (span, sets, is)) =
    let e = allow_same tree span sets part sets.items p is refl f in
    let o = written.allow (map set_names sets.items) in (
      o,
      record {
        operator = ap operator_of e;
        smaller = allow_smaller tree p span sets part is f;
        words = λ w. (subst IsProcessOfWords (allow_plain tree span sets part sets.items p is refl f) w).1;
        names = λ g n. subst (SumNamesStand g) e n;
        can = λ g t bs signature c. can_allow g t bs signature (map set_names sets.items) (bare_one p) (subst (CanElaborate g t bs) e c);
        elaborates = λ v scope b fits d. subst (λ q. Elaborates v scope q (written_around o b)) (sym e) (only_these fits d);
      },
    )
operated tree p part f (inr (inl (span, names, is))) =
    let e = block_same tree span names part names.items p is refl f in
    let o = written.block (bare_names (map word_of names.items)) in (
      o,
      record {
        operator = ap operator_of e;
        smaller = block_smaller tree p span names part is f;
        words = λ w. (subst IsProcessOfWords (block_plain tree span names part names.items p is refl f) w).1;
        names = λ g n. subst (SumNamesStand g) e n;
        can = λ g t bs signature c. can_block g t bs signature (bare_names (map word_of names.items)) (bare_one p) (subst (CanElaborate g t bs) e c);
        elaborates = λ v scope b fits d. subst (λ q. Elaborates v scope q (written_around o b)) (sym e) (none_of_these fits d);
      },
    )
operated tree p part f (inr (inr (inl (span, names, is)))) =
    let e = hide_same tree span names part names.items p is refl f in
    let o = written.hide (bare_names (map word_of names.items)) in (
      o,
      record {
        operator = ap operator_of e;
        smaller = hide_smaller tree p span names part is f;
        words = λ w. (subst IsProcessOfWords (hide_plain tree span names part names.items p is refl f) w).1;
        names = λ g n. subst (SumNamesStand g) e n;
        can = λ g t bs signature c. can_hide g t bs signature (bare_names (map word_of names.items)) (bare_one p) (subst (CanElaborate g t bs) e c);
        elaborates = λ v scope b fits d. subst (λ q. Elaborates v scope q (written_around o b)) (sym e) (unseen fits d);
      },
    )
operated tree p part f (inr (inr (inr (inl (span, renamings, is))))) =
    let e = rename_same tree span renamings part renamings.items p is refl f in
    let o = written.rename (map renaming_of (map renaming_pair renamings.items)) in (
      o,
      record {
        operator = ap operator_of e;
        smaller = rename_smaller tree p span renamings part is f;
        words = λ w. (subst IsProcessOfWords (rename_plain tree span renamings part renamings.items p is refl f) w).1;
        names = λ g n. subst (SumNamesStand g) e n;
        can = λ g t bs signature c. can_rename g t bs signature (map renaming_pair renamings.items) (bare_one p) (subst (CanElaborate g t bs) e c);
        elaborates = λ v scope b fits d. subst (λ q. Elaborates v scope q (written_around o b)) (sym e) (renamed fits d);
      },
    )
operated tree p part f (inr (inr (inr (inr (span, rules, is))))) =
    let e = comm_same tree span rules part rules.items p is refl f in
    let o = written.comm (map rule_of (map rule_pair rules.items)) in (
      o,
      record {
        operator = ap operator_of e;
        smaller = comm_smaller tree p span rules part is f;
        words = λ w. (subst IsProcessOfWords (comm_plain tree span rules part rules.items p is refl f) w).1;
        names = λ g n. subst (SumNamesStand g) e n;
        can = λ g t bs signature c. can_comm g t bs signature (map rule_pair rules.items) (bare_one p) (subst (CanElaborate g t bs) e c);
        elaborates = λ v scope b fits d. subst (λ q. Elaborates v scope q (written_around o b)) (sym e) (joined fits d);
      },
    )

-- the operator that was made is the one that is asked for
pub under_this : (g : Sig) (w : Option Around) (made : Around) → w ≡ Some made → (numbered : PlainAround) (inner whole : PlainProcess) → IsAround g numbered made → whole ≡ code.around numbered inner → (o : Around) → w ≡ Some o → IsUnder g o inner whole
under_this g w made e numbered inner whole stands is o asked =
    let both : Some made ≡ Some o = sym e ∙ asked in
    let same : made ≡ o = cc in
    record { numbered = numbered; stands = subst (IsAround g numbered) same stands; is = is }

-- the operator was put around what was made
pub operated_in_code : (tree p : ProcTree) (o : Around) → IsOperated tree p o → (g : Sig) (t : ProcessTable) (bs : List Bound) → IsSignature g → CanElaborate g t bs (bare_one tree) → (h : Sig) (q : PoolContents) (inner whole : PlainProcess) → IsUnder h o inner whole
    → (v : FullVocabulary) (scope : Scope) → Sees g t bs v scope → IsElaborated v scope (bare_one p) h q inner → IsElaborated v scope (bare_one tree) h q whole
operated_in_code tree p o operated g t bs signature can h q inner whole under v scope sees made =
    subst (IsElaborated v scope (bare_one tree) h q) (sym under.is)
    (around_elaborated v scope (bare_one tree) (bare_one p) o (λ b d. operated.elaborates v scope b ((operated.can g t bs signature can).fits v scope sees) d) h q h q (goes_nowhere h q) under.numbered inner under.stands made)

-- ---- chains
-- what a tree that is a chain tells of its parts
pub record IsChained (tree : ProcTree) (ps : List ProcTree) : Type 0 where
  pub smaller : most the_size ps < the_size tree
  pub words : IsProcessOfWords (plain_process tree) → AreProcessesOfWords (processes_of (map plain_process ps))
  pub names : (g : Sig) → SumNamesStand g (bare_one tree) → AllSumNamesStand g (bare_all ps)
  pub can : (g : Sig) (t : ProcessTable) (bs : List Bound) → CanElaborate g t bs (bare_one tree) → AllCanElaborate g t bs (bare_all ps)

pub chained : (tree : ProcTree) (ps : List ProcTree) (list : Vec ProcTree) → ps ≡ list.items → IsChain tree list → IsChained tree ps
chained tree ps list f (inl (span, is)) =
    let e = sequence_same tree span list ps is f in
    record {
      smaller = sequence_smaller tree ps span list is f;
      words = λ w. subst IsProcessOfWords (sequence_plain tree span list ps is f) w;
      names = λ g n. subst (SumNamesStand g) e n;
      can = λ g t bs c. can_sequence g t bs (bare_all ps) (subst (CanElaborate g t bs) e c);
    }
chained tree ps list f (inr (inl (span, is))) =
    let e = parallel_same tree span list ps is f in
    record {
      smaller = parallel_smaller tree ps span list is f;
      words = λ w. subst IsProcessOfWords (parallel_plain tree span list ps is f) w;
      names = λ g n. subst (SumNamesStand g) e n;
      can = λ g t bs c. can_parallel g t bs (bare_all ps) (subst (CanElaborate g t bs) e c);
    }
chained tree ps list f (inr (inr (inl (span, is)))) =
    let e = choice_same tree span list ps is f in
    record {
      smaller = choice_smaller tree ps span list is f;
      words = λ w. subst IsProcessOfWords (choice_plain tree span list ps is f) w;
      names = λ g n. subst (SumNamesStand g) e n;
      can = λ g t bs c. can_choice g t bs (bare_all ps) (subst (CanElaborate g t bs) e c);
    }
chained tree ps list f (inr (inr (inr (span, is)))) =
    let e = sync_same tree span list ps is f in
    record {
      smaller = sync_smaller tree ps span list is f;
      words = λ w. subst IsProcessOfWords (sync_plain tree span list ps is f) w;
      names = λ g n. subst (SumNamesStand g) e n;
      can = λ g t bs c. can_sync g t bs (bare_all ps) (subst (CanElaborate g t bs) e c);
    }

-- a tree of one form is a chain of that form
module _ (v : FullVocabulary) (scope : Scope) (g : Sig) (q : PoolContents) (made : Vec Proc) (tree : ProcTree) (list : Vec ProcTree) where
  abbrev MakesChain : Proc → Type 0
  MakesChain x = AreElaborated v scope (bare_all list.items) g q (map code.plain_process made.items) → IsElaborated v scope (bare_one tree) g q (code.plain_process x)

  by_sequence : (span : Span) → tree ≡ forms.Sequence span list → MakesChain (procs.Seq made)
  by_sequence span is are = subst (λ p. IsElaborated v scope p g q (code.plain_process (procs.Seq made))) (sym (sequence_same tree span list list.items is refl)) (sequence_in_code v scope (bare_all list.items) g q made are)

  by_parallel : (span : Span) → tree ≡ forms.Parallel span list → MakesChain (procs.Merge made)
  by_parallel span is are = subst (λ p. IsElaborated v scope p g q (code.plain_process (procs.Merge made))) (sym (parallel_same tree span list list.items is refl)) (parallel_in_code v scope (bare_all list.items) g q made are)

  by_choice : (span : Span) → tree ≡ forms.Choice span list → MakesChain (procs.Choice made)
  by_choice span is are = subst (λ p. IsElaborated v scope p g q (code.plain_process (procs.Choice made))) (sym (choice_same tree span list list.items is refl)) (choice_in_code v scope (bare_all list.items) g q made are)

  by_sync : (span : Span) → tree ≡ forms.Sync span list → MakesChain (procs.Sync made)
  by_sync span is are = subst (λ p. IsElaborated v scope p g q (code.plain_process (procs.Sync made))) (sym (sync_same tree span list list.items is refl)) (sync_in_code v scope (bare_all list.items) g q made are)

  pub sequence_made : (span : Span) (other : Vec ProcTree) → tree ≡ forms.Sequence span other → IsChain tree list → MakesChain (procs.Seq made)
  sequence_made span other is (inl (_, same)) = by_sequence _ same
  sequence_made span other is (inr (inl (at, same))) = let never : bare.sequence (bare_all other.items) ≡ bare.parallel (bare_all list.items) = sym (sequence_same tree span other other.items is refl) ∙ parallel_same tree at list list.items same refl in cc
  sequence_made span other is (inr (inr (inl (at, same)))) = let never : bare.sequence (bare_all other.items) ≡ bare.choice (bare_all list.items) = sym (sequence_same tree span other other.items is refl) ∙ choice_same tree at list list.items same refl in cc
  sequence_made span other is (inr (inr (inr (at, same)))) = let never : bare.sequence (bare_all other.items) ≡ bare.sync (bare_all list.items) = sym (sequence_same tree span other other.items is refl) ∙ sync_same tree at list list.items same refl in cc

  pub parallel_made : (span : Span) (other : Vec ProcTree) → tree ≡ forms.Parallel span other → IsChain tree list → MakesChain (procs.Merge made)
  parallel_made span other is (inr (inl (_, same))) = by_parallel _ same
  parallel_made span other is (inl (at, same)) = let never : bare.parallel (bare_all other.items) ≡ bare.sequence (bare_all list.items) = sym (parallel_same tree span other other.items is refl) ∙ sequence_same tree at list list.items same refl in cc
  parallel_made span other is (inr (inr (inl (at, same)))) = let never : bare.parallel (bare_all other.items) ≡ bare.choice (bare_all list.items) = sym (parallel_same tree span other other.items is refl) ∙ choice_same tree at list list.items same refl in cc
  parallel_made span other is (inr (inr (inr (at, same)))) = let never : bare.parallel (bare_all other.items) ≡ bare.sync (bare_all list.items) = sym (parallel_same tree span other other.items is refl) ∙ sync_same tree at list list.items same refl in cc

  pub sync_made : (span : Span) (other : Vec ProcTree) → tree ≡ forms.Sync span other → IsChain tree list → MakesChain (procs.Sync made)
  sync_made span other is (inr (inr (inr (_, same)))) = by_sync _ same
  sync_made span other is (inl (at, same)) = let never : bare.sync (bare_all other.items) ≡ bare.sequence (bare_all list.items) = sym (sync_same tree span other other.items is refl) ∙ sequence_same tree at list list.items same refl in cc
  sync_made span other is (inr (inl (at, same))) = let never : bare.sync (bare_all other.items) ≡ bare.parallel (bare_all list.items) = sym (sync_same tree span other other.items is refl) ∙ parallel_same tree at list list.items same refl in cc
  sync_made span other is (inr (inr (inl (at, same)))) = let never : bare.sync (bare_all other.items) ≡ bare.choice (bare_all list.items) = sym (sync_same tree span other other.items is refl) ∙ choice_same tree at list list.items same refl in cc

  pub choice_made : ((span : Span) → tree ≡ forms.Sequence span list → ⊥) → ((span : Span) → tree ≡ forms.Parallel span list → ⊥) → ((span : Span) → tree ≡ forms.Sync span list → ⊥) → IsChain tree list → MakesChain (procs.Choice made)
  choice_made no_sequence no_parallel no_sync (inl (span, same)) = absurd (no_sequence span same)
  choice_made no_sequence no_parallel no_sync (inr (inl (span, same))) = absurd (no_parallel span same)
  choice_made no_sequence no_parallel no_sync (inr (inr (inl (span, same)))) = by_choice span same
  choice_made no_sequence no_parallel no_sync (inr (inr (inr (span, same)))) = absurd (no_sync span same)
