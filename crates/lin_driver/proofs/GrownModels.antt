-- Specifications and components that fit do so as signature and pool grow, and mean what they meant.
use Rattle.std.proofs.Common.{◌≡◌, ℕ, List, [], ◌∷◌, ◌++◌, map, refl, sym, ap, ap₂, ◌∙◌, subst, Some}
use Rattle.std.specs.Prelude.{slice_get}
use Rattle.std.specs.List.{All}
use Rattle.std.proofs.lemmas.List.Elements.{All-weaker}
use Rattle.data_theory.specs.declared.ids.NameId.{NameId}
use Rattle.data_theory.specs.declared.ids.VarId.{VarId}
use Rattle.data_theory.specs.Table.{bool_sort}
use Rattle.data_theory.specs.Signature.{Sig}
use Rattle.data_theory.specs.WholeSignatures.{IsSignature}
use Rattle.data_theory.specs.IdTrees.{Tree}
use Rattle.data_theory.proofs.IdTermLemmas.{sorted_trees_are_within}
use Rattle.term_pool.specs.HeadTrees.{tree_at}
use Rattle.process_terms.specs.Processes.{written_act, written_cond, written_call, written_starting, written_around, choice_of, seq_of, merge_of, sync_of, sums_around, Around, Body, close}
use Rattle.process_terms.specs.Processes as written
use Rattle.process_terms.specs.PlainProcesses.{PlainAround, allow, block, hide, rename, comm, PlainProcess, PlainProcesses, delta, act, call, choice, seq, cond, sum, merge, left_merge, sync, around, no_processes, more_processes, PlainDefinition, PlainModel, PlainComponent, call_of, term_of}
use Rattle.process_terms.specs.Meanings.{name_at, bound_at, term_at, action_of, rule_of, renaming_of, around_of, body_of, bodies_of, definition_of, table_of, process_of, component_body, HasName, HasRule, HasRenaming, HasAround}
use Rattle.process_terms.specs.SignatureEntries.{entries_of, BothGrow}
use Rattle.process_terms.proofs.MeaningLemmas.{all_same, entry_stays}
use Rattle.lps_core.specs.Fitting.{IsVariable}
use Rattle.lps_core.proofs.NamedSums.{sorts_kept}
use Rattle.lps_core.proofs.Staying.{variable_stays, term_stays, terms_stay, action_stays}
use Rattle.proc_unfold.specs.FittingModels.{TermsFit, ActionFits, ProcessFits, ProcessesFit, DefinitionFits, ModelFits, ComponentFits}
use Rattle.lps_core.proofs.Members.{all_at}
use Rattle.greibach.proofs.GrownFits.{term_grows, terms_grow, action_grows, variables_grow}

module _ (g h : Sig) (ts us : List Tree) (sg : IsSignature g) (grow : BothGrow g h ts us) where
  -- ---- names
  name_grows : (n : NameId) → HasName (entries_of g ts) n → HasName (entries_of h us) n
  name_grows n l = (entry_stays g.texts h.texts [] n.0 (grow.signature.new_texts, grow.signature.texts) l).1

  name_stays : (n : NameId) → HasName (entries_of g ts) n → name_at (entries_of h us) n ≡ name_at (entries_of g ts) n
  name_stays n l = (entry_stays g.texts h.texts [] n.0 (grow.signature.new_texts, grow.signature.texts) l).0

  names_grow : (ns : List NameId) → All (HasName (entries_of g ts)) ns → All (HasName (entries_of h us)) ns
  names_grow ns k = All-weaker (HasName (entries_of g ts)) (HasName (entries_of h us)) name_grows ns k

  names_stay : (ns : List NameId) → All (HasName (entries_of g ts)) ns → map (name_at (entries_of h us)) ns ≡ map (name_at (entries_of g ts)) ns
  names_stay ns k = all_same (HasName (entries_of g ts)) (name_at (entries_of g ts)) (name_at (entries_of h us)) name_stays ns k

  around_grows : (o : PlainAround) → HasAround (entries_of g ts) o → HasAround (entries_of h us) o
  around_grows (allow sets) k = All-weaker (All (HasName (entries_of g ts))) (All (HasName (entries_of h us))) names_grow sets k
  around_grows (block ns) k = names_grow ns k
  around_grows (hide ns) k = names_grow ns k
  around_grows (rename rs) k = All-weaker (HasRenaming (entries_of g ts)) (HasRenaming (entries_of h us)) (λ r l. (name_grows r.0 l.0, name_grows r.1 l.1)) rs k
  around_grows (comm cs) k = All-weaker (HasRule (entries_of g ts)) (HasRule (entries_of h us)) (λ c l. (names_grow c.left l.0, name_grows c.result l.1)) cs k

  pub around_stays : (o : PlainAround) → HasAround (entries_of g ts) o → around_of (entries_of h us) o ≡ around_of (entries_of g ts) o
  around_stays (allow sets) k = ap written.allow (all_same (All (HasName (entries_of g ts))) (map (name_at (entries_of g ts))) (map (name_at (entries_of h us))) names_stay sets k)
  around_stays (block ns) k = ap written.block (names_stay ns k)
  around_stays (hide ns) k = ap written.hide (names_stay ns k)
  around_stays (rename rs) k = ap written.rename (all_same (HasRenaming (entries_of g ts)) (renaming_of (entries_of g ts)) (renaming_of (entries_of h us)) (λ r l. ap₂ (λ a b. record { from = a; to = b }) (name_stays r.0 l.0) (name_stays r.1 l.1)) rs k)
  around_stays (comm cs) k = ap written.comm (all_same (HasRule (entries_of g ts)) (rule_of (entries_of g ts)) (rule_of (entries_of h us)) (λ c l. ap₂ (λ a b. record { left = a; result = b }) (names_stay c.left l.0) (name_stays c.result l.1)) cs k)

  -- ---- process terms
  module _ (ds : List PlainDefinition) (params : (x : ℕ) (d : PlainDefinition) → slice_get ds x ≡ Some d → All (IsVariable g) d.params) where
    mutual
      process_grows : (xs : List VarId) (p : PlainProcess) → ProcessFits g ts ds xs p → ProcessFits h us ds xs p
      process_grows xs delta k = k
      process_grows xs (act m) k = All-weaker (ActionFits g ts xs) (ActionFits h us xs) (λ a l. action_grows g h ts us sg grow xs a l) m k
      process_grows xs (call x ids) k = record {
        definition = k.definition;
        stands = k.stands;
        args = subst (λ ss. TermsFit h us xs ss ids) (sym (sorts_kept g h k.definition.params grow.signature (params x.0 k.definition k.stands))) (terms_grow g h ts us sg grow xs _ ids k.args);
      }
      process_grows xs (choice ps) k = processes_grow xs ps k
      process_grows xs (seq ps) k = processes_grow xs ps k
      process_grows xs (cond c p q) k = (term_grows g h ts us sg grow xs bool_sort c k.0, process_grows xs p k.1, process_grows xs q k.2)
      process_grows xs (sum ys p) k = (variables_grow g h ts us sg grow ys k.0, process_grows (ys ++ xs) p k.1)
      process_grows xs (merge ps) k = processes_grow xs ps k
      process_grows xs (left_merge p q) k = (process_grows xs p k.0, process_grows xs q k.1)
      process_grows xs (sync ps) k = processes_grow xs ps k
      process_grows xs (around o p) k = (around_grows o k.0, process_grows xs p k.1)

      processes_grow : (xs : List VarId) (ps : PlainProcesses) → ProcessesFit g ts ds xs ps → ProcessesFit h us ds xs ps
      processes_grow xs no_processes k = k
      processes_grow xs (more_processes p ps) k = (process_grows xs p k.0, processes_grow xs ps k.1)

    mutual
      process_stays : (xs : List VarId) (p : PlainProcess) → ProcessFits g ts ds xs p → body_of (entries_of h us) p ≡ body_of (entries_of g ts) p
      process_stays xs delta k = refl
      process_stays xs (act m) k =
          ap written_act (all_same (ActionFits g ts xs) (action_of (entries_of g ts)) (action_of (entries_of h us)) (λ a l. action_stays g h ts us sg.table sg.complete grow a l.action) m k)
      process_stays xs (call x ids) k = ap (written_call x.0) (terms_stay g h ts us sg.table sg.complete grow _ ids k.args.terms)
      process_stays xs (choice ps) k = ap choice_of (processes_stay xs ps k)
      process_stays xs (seq ps) k = ap seq_of (processes_stay xs ps k)
      process_stays xs (cond c p q) k =
          ap₂ (λ d b. written_cond d b (body_of (entries_of h us) q)) (term_stays g h ts us sg.table sg.complete grow c k.0.term.within (sorted_trees_are_within g sg.table (tree_at ts c) bool_sort k.0.term.sorted)) (process_stays xs p k.1)
          ∙ ap (written_cond (term_at (entries_of g ts) c) (body_of (entries_of g ts) p)) (process_stays xs q k.2)
      process_stays xs (sum ys p) k =
          ap₂ sums_around (all_same (IsVariable g) (bound_at (entries_of g ts)) (bound_at (entries_of h us)) (variable_stays g h ts us sg.table sg.complete grow) ys k.0) (process_stays (ys ++ xs) p k.1)
      process_stays xs (merge ps) k = ap merge_of (processes_stay xs ps k)
      process_stays xs (left_merge p q) k = ap₂ (written_starting written.left_merge) (process_stays xs p k.0) (process_stays xs q k.1)
      process_stays xs (sync ps) k = ap sync_of (processes_stay xs ps k)
      process_stays xs (around o p) k = ap₂ written_around (around_stays o k.0) (process_stays xs p k.1)

      processes_stay : (xs : List VarId) (ps : PlainProcesses) → ProcessesFit g ts ds xs ps → bodies_of (entries_of h us) ps ≡ bodies_of (entries_of g ts) ps
      processes_stay xs no_processes k = refl
      processes_stay xs (more_processes p ps) k = ap₂ (λ b bs. b ∷ bs) (process_stays xs p k.0) (processes_stay xs ps k.1)

  -- ---- specifications
  params_of : (m : PlainModel) → ModelFits g ts m → (x : ℕ) (d : PlainDefinition) → slice_get m.definitions x ≡ Some d → All (IsVariable g) d.params
  params_of m fits x d at = (all_at (DefinitionFits g ts m.definitions) m.definitions x d fits.definitions at).params

  pub model_grows : (m : PlainModel) → ModelFits g ts m → ModelFits h us m
  model_grows m fits = record {
    definitions = All-weaker (DefinitionFits g ts m.definitions) (DefinitionFits h us m.definitions)
        (λ d k. record { params = variables_grow g h ts us sg grow d.params k.params; body = process_grows m.definitions (params_of m fits) d.params d.body k.body }) m.definitions fits.definitions;
    init = process_grows m.definitions (params_of m fits) [] m.init fits.init;
  }

  pub table_stays : (m : PlainModel) → ModelFits g ts m → table_of (entries_of h us) m.definitions ≡ table_of (entries_of g ts) m.definitions
  table_stays m fits =
      all_same (DefinitionFits g ts m.definitions) (definition_of (entries_of g ts)) (definition_of (entries_of h us))
      (λ d k. ap (λ b. record { params = map (λ (x : VarId). x.0) d.params; body = b }) (process_stays m.definitions (params_of m fits) d.params d.body k.body)) m.definitions fits.definitions

  pub model_stays : (m : PlainModel) → ModelFits g ts m → process_of (entries_of h us) m ≡ process_of (entries_of g ts) m
  model_stays m fits = ap₂ (λ d b. close d [] b) (table_stays m fits) (process_stays m.definitions (params_of m fits) [] m.init fits.init)

  pub component_grows : (m : PlainModel) → ModelFits g ts m → (c : PlainComponent) → ComponentFits g ts m.definitions c → ComponentFits h us m.definitions c
  component_grows m fits (call_of x ids) k = process_grows m.definitions (params_of m fits) [] (call x ids) k
  component_grows m fits (term_of p) k = process_grows m.definitions (params_of m fits) [] p k

  pub component_stays : (m : PlainModel) → ModelFits g ts m → (c : PlainComponent) → ComponentFits g ts m.definitions c → component_body (entries_of h us) c ≡ component_body (entries_of g ts) c
  component_stays m fits (call_of x ids) k = process_stays m.definitions (params_of m fits) [] (call x ids) k
  component_stays m fits (term_of p) k = process_stays m.definitions (params_of m fits) [] p k
