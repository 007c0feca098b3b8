-- The linear processes of a specification's components are plainly conditioned for what the specification writes.
use Rattle.std.proofs.Common.{◌≡◌, ℕ, zero, suc, List, [], ◌∷◌, ◌++◌, refl, sym, ap₂, subst, arith, Some}
use Rattle.std.specs.Prelude.{slice_get}
use Rattle.std.specs.List.{All}
use Rattle.std.proofs.lemmas.List.Elements.{All-nil, All-cons, All-head, All-tail, All-weaker}
use Rattle.data_theory.specs.Terms.{Sort}
use Rattle.data_theory.specs.Declarations.{Declares}
use Rattle.data_theory.specs.Signature.{Sig}
use Rattle.data_theory.specs.WholeSignatures.{IsSignature}
use Rattle.data_theory.specs.IdData.{data_meant}
use Rattle.data_theory.specs.IdTerms.{variable_sorts}
use Rattle.term_pool.specs.HeadTrees.{IsIn}
use Rattle.term_pool.specs.Pools.{PoolContents}
use Rattle.process_terms.specs.Meanings.{Entries, body_of, table_of, component_body}
use Rattle.process_terms.specs.PlainProcesses.{PlainDefinition, PlainModel, PlainComponent, term_of}
use Rattle.process_terms.specs.Processes.{Body}
use Rattle.process_terms.specs.SignatureEntries.{entries_of, BothGrow}
use Rattle.process_terms.proofs.EntryLemmas.{signatures_add_entries}
use Rattle.bisim_laws.proofs.Firing.{contains_none}
use Rattle.lps_core.specs.MadeTerms.{Written, written_in, written_by, StackSort, WasAnswered, Origin, origin_of}
use Rattle.lps_core.specs.PlainLinears.{PlainLinear}
use Rattle.lps_core.proofs.Members.{all_at}
use Rattle.proc_unfold.specs.FittingModels.{DefinitionFits, ModelFits}
use Rattle.proc_unfold.specs.Networks.{PlainNetwork}
use Rattle.proc_unfold.specs.Unfolded.{IsOpened}
use Rattle.greibach.specs.PlainComponents.{written_from}
use Rattle.regular_encoder.proofs.FirstTerms.{some_is, no_some}
use Rattle.stack_encoder.proofs.WiderOrigins.{IsWider}
use Rattle.lin_driver.specs.Leaves.{leaves}
use Rattle.lin_driver.specs.PlainlyMade.{IsPlainFor, AreCommsWritten, ArePlainLeaves, written_in_model}
use Rattle.lin_driver.proofs.GrownModels.{table_stays, component_stays}
use Rattle.lin_driver.proofs.NetworkLeaves.{all_leaves}
use Rattle.lin_driver.proofs.OpenedWritten.{IsSomeOf, both_some, AreInstances, no_part, both_parts, some_are_parts, IsClosedFor, LeafHasInstances, opened_instances, opened_comms}
use Rattle.lin_driver.proofs.PlainGrowing.{meant_grows, plain_in_more}

-- ---- the definitions and what starts
all_of_it : (w : Written) → IsSomeOf w w
all_of_it w = record { sums = λ s i. i; conditions = λ c i. i; action_arguments = λ t i. i; call_arguments = λ t i. i; communicates = λ e. e }

start_is_some : (e : Entries) (ds : List PlainDefinition) (p : Body) (w : Written) → IsSomeOf (written_by (table_of e ds) p) w → IsSomeOf (written_in p) w
start_is_some e [] p w h = h
start_is_some e (d ∷ ds) p w h = start_is_some e ds p w (both_some (written_in (body_of e d.body)) (written_by (table_of e ds) p) w h).1

definition_is_some : (e : Entries) (ds : List PlainDefinition) (p : Body) (w : Written) → IsSomeOf (written_by (table_of e ds) p) w → (x : ℕ) (f : PlainDefinition) → slice_get ds x ≡ Some f → IsSomeOf (written_in (body_of e f.body)) w
definition_is_some e [] p w h x f at = absurd (no_some at)
definition_is_some e (d ∷ ds) p w h zero f at = subst (λ (z : PlainDefinition). IsSomeOf (written_in (body_of e z.body)) w) (some_is at) (both_some (written_in (body_of e d.body)) (written_by (table_of e ds) p) w h).0
definition_is_some e (d ∷ ds) p w h (suc x) f at = definition_is_some e ds p w (both_some (written_in (body_of e d.body)) (written_by (table_of e ds) p) w h).1 x f at

-- with the same definitions, a part of what starts
table_instances : (o : Origin) (e : Entries) (ds : List PlainDefinition) (p q : Body) → IsSomeOf (written_by (table_of e ds) p) o.written → AreInstances o (written_in q) → AreInstances o (written_by (table_of e ds) q)
table_instances o e [] p q h k = k
table_instances o e (d ∷ ds) p q h k =
    let r = both_some (written_in (body_of e d.body)) (written_by (table_of e ds) p) o.written h in
    both_parts o (written_in (body_of e d.body)) (written_by (table_of e ds) q) (some_are_parts o (written_in (body_of e d.body)) r.0) (table_instances o e ds p q r.1 k)

-- ---- over a later signature
declares_more : (vs ws : List Sort) (v : ℕ) (s : Sort) → Declares vs v s → Declares (vs ++ ws) v s
declares_more [] ws v s h = absurd h
declares_more (r ∷ vs) ws zero s h = h
declares_more (r ∷ vs) ws (suc v) s h = declares_more vs ws v s h

module _ (b d : Sig) (p q : PoolContents) (stands : IsSignature b) (later : IsSignature d) (grow : BothGrow b d p.trees q.trees) (m : PlainModel) (n : PlainNetwork) (fits : ModelFits b p.trees m) (opened : IsOpened m p.trees n) where
  abbrev e : Entries
  e = entries_of b p.trees

  abbrev w : Written
  w = written_in_model e m

  declared_still : (v : ℕ) (s : Sort) → Declares (variable_sorts b) v s → Declares (variable_sorts d) v s
  declared_still v s k =
      let more = (signatures_add_entries b d [] q.trees stands.table stands.complete (λ k d i. absurd (omega (arith, i))) (record { signature = grow.signature; pool = (q.trees, refl) })).variables in
      subst (λ vs. Declares vs v s) (sym more.1) (declares_more (variable_sorts b) more.0 v s k)

  definitions_fit : (x : ℕ) (f : PlainDefinition) → slice_get m.definitions x ≡ Some f → DefinitionFits b p.trees m.definitions f
  definitions_fit x f at = all_at (DefinitionFits b p.trees m.definitions) m.definitions x f fits.definitions at

  module _ (ks : List StackSort) where
    abbrev o : Origin
    o = origin_of d q w ks

    each_leaf : All (LeafHasInstances b stands p.trees o declared_still (meant_grows b d stands later grow.signature)) (leaves n)
    each_leaf = all_leaves (LeafHasInstances b stands p.trees o declared_still (meant_grows b d stands later grow.signature)) (no_part o) n
        (opened_instances b stands p.trees o declared_still (meant_grows b d stands later grow.signature) m.definitions definitions_fit (definition_is_some e m.definitions (body_of e m.init) w (all_of_it w)) opened.parallel opened.opens [] (λ v i. absurd (contains_none v i))
        (All-nil (IsIn p.trees)) (All-nil (IsClosedFor b stands p.trees o declared_still (meant_grows b d stands later grow.signature))) fits.init (start_is_some e m.definitions (body_of e m.init) w (all_of_it w)))

    leaf_is_wider : (c : PlainComponent) → AreInstances o (written_in (component_body e c)) → IsWider (data_meant d) (variable_sorts d) (WasAnswered d q) (written_from e m c) w ks ks
    leaf_is_wider c k =
        let whole = table_instances o e m.definitions (body_of e m.init) (component_body e c) (all_of_it w) k in
        record { stacks = λ s i. i; sums = whole.sums; conditions = whole.conditions; action_arguments = whole.action_arguments; call_arguments = whole.call_arguments; communicates = whole.communicates }

    each_wider : All (λ (c : PlainComponent). IsWider (data_meant d) (variable_sorts d) (WasAnswered d q) (written_from e m c) w ks ks) (leaves n)
    each_wider = All-weaker (LeafHasInstances b stands p.trees o declared_still (meant_grows b d stands later grow.signature)) (λ (c : PlainComponent). IsWider (data_meant d) (variable_sorts d) (WasAnswered d q) (written_from e m c) w ks ks) leaf_is_wider (leaves n) each_leaf

  -- each linear process is plainly conditioned for the whole
  widened : (cs : List PlainComponent) (ls : List PlainLinear) → ((ks : List StackSort) → All (λ (c : PlainComponent). IsWider (data_meant d) (variable_sorts d) (WasAnswered d q) (written_from e m c) w ks ks) cs) → ArePlainLeaves b p d q m cs ls → All (IsPlainFor b d q w) ls
  widened [] [] k h = All-nil (IsPlainFor b d q w)
  widened [] (l ∷ ls) k h = absurd h
  widened (c ∷ cs) [] k h = absurd h
  widened (c ∷ cs) (l ∷ ls) k h =
      let Wider = λ (ks : List StackSort) (c : PlainComponent). IsWider (data_meant d) (variable_sorts d) (WasAnswered d q) (written_from e m c) w ks ks in
      All-cons (IsPlainFor b d q w) l ls (plain_in_more b d q (written_from e m c) w l (λ ks. All-head (Wider ks) c cs (k ks)) h.0) (widened cs ls (λ ks. All-tail (Wider ks) c cs (k ks)) h.1)

  pub leaves_are_plain : (ls : List PlainLinear) → ArePlainLeaves b p d q m (leaves n) ls → All (IsPlainFor b d q w) ls
  leaves_are_plain ls h = widened (leaves n) ls each_wider h

  pub comms_are_written : AreCommsWritten w n
  comms_are_written = opened_comms b stands p.trees (o []) declared_still (meant_grows b d stands later grow.signature) m.definitions definitions_fit (definition_is_some e m.definitions (body_of e m.init) w (all_of_it w)) opened.parallel opened.opens
      (start_is_some e m.definitions (body_of e m.init) w (all_of_it w))

-- ---- the specification
-- it writes the same over later signatures
pub model_writes : (g h : Sig) (p q : PoolContents) (m : PlainModel) → IsSignature g → BothGrow g h p.trees q.trees → ModelFits g p.trees m → written_in_model (entries_of h q.trees) m ≡ written_in_model (entries_of g p.trees) m
model_writes g h p q m s grow fits = ap₂ (λ d b. written_by d b) (table_stays g h p.trees q.trees s grow m fits) (component_stays g h p.trees q.trees s grow m fits (term_of m.init) fits.init)
