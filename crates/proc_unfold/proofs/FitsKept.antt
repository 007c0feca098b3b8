-- What is well formed stays so as the pool grows.
use Rattle.std.proofs.Common.{◌≡◌, ◌∙◌, List, [], ◌∷◌, ◌++◌, sym, ap, subst}
use Rattle.std.specs.List.{All}
use Rattle.std.proofs.lemmas.List.Elements.{All-head, All-tail, All-nil, All-cons, All-weaker}
use Rattle.data_theory.specs.declared.ids.SortId.{SortId}
use Rattle.data_theory.specs.declared.ids.VarId.{VarId}
use Rattle.data_theory.specs.declared.ids.TermId.{TermId}
use Rattle.data_theory.specs.Environments.{IsOver}
use Rattle.data_theory.specs.Signature.{Sig}
use Rattle.data_theory.specs.IdTrees.{Tree, trees_of}
use Rattle.data_theory.specs.IdTreeSorts.{HasTreeSort, HaveTreeSorts}
use Rattle.data_theory.specs.IdTerms.{term_under}
use Rattle.term_pool.specs.HeadTrees.{IsIn, AreIn}
use Rattle.term_pool.specs.Pools.{Extends}
use Rattle.process_terms.specs.PlainProcesses.{PlainAction, PlainProcess, PlainProcesses, delta, act, call, choice, seq, cond, sum, merge, left_merge, sync, around, no_processes, more_processes, PlainDefinition, PlainModel}
use Rattle.process_terms.specs.Meanings.{ReadsOnly, term_at}
use Rattle.process_terms.specs.SignatureEntries.{entries_of}
use Rattle.lps_core.specs.TreeSummands.{numbers_of}
use Rattle.lps_core.proofs.PoolTrees.{tree_kept, all_in_kept, trees_kept}
use Rattle.lps_core.proofs.Staying.{term_is}
use Rattle.proc_unfold.specs.FittingModels.{TermFits, TermsFit, ActionFits, ProcessFits, ProcessesFit, DefinitionFits, ModelFits}

module _ (g : Sig) (ts us : List Tree) (e : Extends ts us) where
  reads_kept : (xs : List VarId) (id : TermId) → IsIn ts id → ReadsOnly (entries_of g ts) xs id → ReadsOnly (entries_of g us) xs id
  reads_kept xs id h over =
      let kept = tree_kept ts us id e h in
      let same : term_at (entries_of g us) id ≡ term_at (entries_of g ts) id = term_is g us id kept.1 ∙ (ap (term_under g) kept.0 ∙ sym (term_is g ts id h)) in
      subst (IsOver (numbers_of xs)) (sym same) over

  all_read_kept : (xs : List VarId) (ids : List TermId) → AreIn ts ids → All (ReadsOnly (entries_of g ts) xs) ids → All (ReadsOnly (entries_of g us) xs) ids
  all_read_kept xs [] h over = All-nil (ReadsOnly (entries_of g us) xs)
  all_read_kept xs (id ∷ ids) h over =
      All-cons (ReadsOnly (entries_of g us) xs) id ids (reads_kept xs id (All-head (IsIn ts) id ids h) (All-head (ReadsOnly (entries_of g ts) xs) id ids over))
      (all_read_kept xs ids (All-tail (IsIn ts) id ids h) (All-tail (ReadsOnly (entries_of g ts) xs) id ids over))

  term_kept : (xs : List VarId) (s : SortId) (id : TermId) → TermFits g ts xs s id → TermFits g us xs s id
  term_kept xs s id h =
      let kept = tree_kept ts us id e h.term.within in
      record { term = record { within = kept.1; sorted = subst (λ t. HasTreeSort g t s) (sym kept.0) h.term.sorted }; over = reads_kept xs id h.term.within h.over }

  terms_kept : (xs : List VarId) (ss : List SortId) (ids : List TermId) → TermsFit g ts xs ss ids → TermsFit g us xs ss ids
  terms_kept xs ss ids h = record {
    terms = record { within = all_in_kept ts us ids e h.terms.within; sorted = subst (λ l. HaveTreeSorts g (trees_of l) ss) (sym (trees_kept ts us ids e h.terms.within)) h.terms.sorted };
    over = all_read_kept xs ids h.terms.within h.over;
  }

  action_kept : (xs : List VarId) (a : PlainAction) → ActionFits g ts xs a → ActionFits g us xs a
  action_kept xs a h =
      let args = terms_kept xs h.action.key.sorts a.args (record { terms = h.action.args; over = h.over }) in
      record { action = record { key = h.action.key; stands = h.action.stands; args = args.terms }; over = args.over }

  module _ (ds : List PlainDefinition) where
    mutual
      process_kept : (xs : List VarId) (p : PlainProcess) → ProcessFits g ts ds xs p → ProcessFits g us ds xs p
      process_kept xs delta h = h
      process_kept xs (act m) h = All-weaker (ActionFits g ts xs) (ActionFits g us xs) (λ a k. action_kept xs a k) m h
      process_kept xs (call x ids) h = record { definition = h.definition; stands = h.stands; args = terms_kept xs _ ids h.args }
      process_kept xs (choice ps) h = processes_kept xs ps h
      process_kept xs (seq ps) h = processes_kept xs ps h
      process_kept xs (cond c p q) h = (term_kept xs _ c h.0, process_kept xs p h.1, process_kept xs q h.2)
      process_kept xs (sum ys p) h = (h.0, process_kept (ys ++ xs) p h.1)
      process_kept xs (merge ps) h = processes_kept xs ps h
      process_kept xs (left_merge p q) h = (process_kept xs p h.0, process_kept xs q h.1)
      process_kept xs (sync ps) h = processes_kept xs ps h
      process_kept xs (around o p) h = (h.0, process_kept xs p h.1)

      processes_kept : (xs : List VarId) (ps : PlainProcesses) → ProcessesFit g ts ds xs ps → ProcessesFit g us ds xs ps
      processes_kept xs no_processes h = h
      processes_kept xs (more_processes p ps) h = (process_kept xs p h.0, processes_kept xs ps h.1)

  pub model_kept : (m : PlainModel) → ModelFits g ts m → ModelFits g us m
  model_kept m h = record {
    definitions = All-weaker (DefinitionFits g ts m.definitions) (DefinitionFits g us m.definitions) (λ d k. record { params = k.params; body = process_kept m.definitions d.params d.body k.body }) m.definitions h.definitions;
    init = process_kept m.definitions [] m.init h.init;
  }
