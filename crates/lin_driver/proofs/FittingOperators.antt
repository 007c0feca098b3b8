-- The operators of the specification that a text elaborates to fit.
use Rattle.std.proofs.Common.{◌≡◌, ◌<◌, ◌&&◌, ⊎_elim, ℕ, Bool, true, false, cond, List, [], ◌∷◌, length, map, refl, sym, ap, subst, ◌∙◌, Some, Option, bytes_eq}
use Rattle.std.specs.Prelude.{None, slice_get}
use Rattle.std.specs.List.{All, AllByRecursion, Contains, list_all}
use Rattle.std.proofs.lemmas.List.Elements.{All-nil, All-cons, All-head, All-tail, All-contains}
use Rattle.std.proofs.lemmas.List.Sums.{list_all-from_AllPass}
use Rattle.std.proofs.lemmas.Slice.Eq.{bytes_eq-Decides}
use Rattle.data_theory.specs.declared.ids.NameId.{NameId}
use Rattle.data_theory.specs.declared.ids.SortId.{SortId}
use Rattle.data_theory.specs.Complete.{IsActionWithin}
use Rattle.data_theory.specs.Keys.{key}
use Rattle.data_theory.specs.Signature.{Sig}
use Rattle.data_theory.specs.Terms.{Sort}
use Rattle.data_theory.specs.IdTerms.{sort_under}
use Rattle.data_theory.specs.IdTrees.{Tree}
use Rattle.data_theory.specs.WholeSignatures.{IsSignature}
use Rattle.term_pool.specs.Pools.{PoolContents}
use Rattle.process_terms.specs.Processes.{Renaming, Bound, Body, written_delta, written_act, written_choice, written_seq, written_cond, written_sum, written_call, written_merge, written_starting, written_around, sums_around}
use Rattle.process_terms.specs.PlainProcesses.{PlainRule, PlainAround, allow, block, hide, rename, comm, PlainProcess, PlainProcesses, delta, act, call, choice, seq, cond as either, sum, merge, left_merge, sync, around, no_processes, more_processes, PlainDefinition, PlainModel}
use Rattle.process_terms.specs.Meanings.{Entries, name_at, bound_at, rule_of, renaming_of, around_of, body_of, bodies_of, HasRenaming, HasAround, HasProcess, HasProcesses, HasDefinition}
use Rattle.process_terms.specs.SignatureEntries.{entries_of}
use Rattle.bisim_laws.proofs.Firing.{contains_first, contains_later, contains_cases, contains_none}
use Rattle.sort_table.specs.BareProcesses as bare
use Rattle.sort_table.specs.BareDeclarations.{bare_sections, declarations_in}
use Rattle.sort_table.specs.Expressions.{Name}
use Rattle.sort_table.specs.NamedLists.{all_named}
use Rattle.sort_table.specs.SignatureVocabularies.{text_under, action_under, vocabulary_of}
use Rattle.sort_table.specs.Vocabularies.{Vocabulary, EachPair}
use Rattle.mcrl2_syntax.specs.Declarations.{PlainSpec}
use Rattle.data_typing.specs.Meanings.{Scope}
use Rattle.sort_checker.specs.Elaborations.{Fits, Elaborates, nothing, label, call_in_order, one_by_one, call_by_name, only_these, none_of_these, unseen, renamed, joined, in_sequence, one_of, at_once, left_first, side_by_side, for_each, where_true, by_truth, AllElaborate, all_done, one_and_more}
use Rattle.sort_checker.specs.Faults.{is_action, are_renamings_typed}
use Rattle.sort_checker.specs.FullVocabularies.{FullVocabulary, Written, processes_in}
use Rattle.sort_checker.specs.Operators.{names_of, stands_in, has_action, renaming_fits, first_again, are_apart, rule_fits_at, rule_fits, has_comm_fault}
use Rattle.sort_checker.proofs.CommRules.{all_of}
use Rattle.sort_checker.proofs.ElaboratedEquations.{among_stands}
use Rattle.sort_checker.proofs.NumberedActions.{actions_are_found_by_numbers, text_there}
use Rattle.sort_checker.proofs.SoundElaborations.{both_true, not_false}
use Rattle.lps_core.proofs.Members.{all_from, map_contains, contains_map}
use Rattle.action_filters.specs.Filters.{IsNameIn, RenamesOnce, HaveTargets}
use Rattle.communication.specs.PlaceConditions.{RuleNamesIn, HaveResults}
use Rattle.lin_driver.proofs.BodyLists.{chain_holds, chain_parts, merge_holds, merge_parts, sync_holds, sync_parts}
use Rattle.lin_driver.specs.ElaboratedModels.{IsDefinitionOf, IsElaborated}
use Rattle.lin_driver.specs.FittingOperators.{OperatorFits, HasFittingOperators, HaveFittingOperators, OperatorsFit}

-- ---- body by body
-- the vocabulary fits each operator of it
abbrev FitsIn : FullVocabulary → Body → Type 0
FitsIn v written_delta = Unit {0}
FitsIn v (written_act m) = Unit {0}
FitsIn v (written_choice p q) = FitsIn v p × FitsIn v q
FitsIn v (written_seq p q) = FitsIn v p × FitsIn v q
FitsIn v (written_cond c p q) = FitsIn v p × FitsIn v q
FitsIn v (written_sum x p) = FitsIn v p
FitsIn v (written_call k ts) = Unit {0}
FitsIn v (written_merge p q) = FitsIn v p × FitsIn v q
FitsIn v (written_starting o p q) = FitsIn v p × FitsIn v q
FitsIn v (written_around o p) = Fits v o × FitsIn v p

module _ (v : FullVocabulary) where
  around_sums : (xs : List Bound) (b : Body) → FitsIn v b → FitsIn v (sums_around xs b)
  around_sums [] b h = h
  around_sums (x ∷ xs) b h = around_sums xs b h

  inside_sums : (xs : List Bound) (b : Body) → FitsIn v (sums_around xs b) → FitsIn v b
  inside_sums [] b h = h
  inside_sums (x ∷ xs) b h = inside_sums xs b h

  -- what elaborates is such
  mutual
    fits_in : {scope : Scope} {p : bare.Process} {b : Body} → Elaborates v scope p b → FitsIn v b
    fits_in nothing = tt
    fits_in (label e) = tt
    fits_in (call_in_order e f) = tt
    fits_in (one_by_one {bs = bs} n ds) = sync_holds (FitsIn v) tt (λ p q h k. (h, k)) bs (each_fits_in ds)
    fits_in (call_by_name e a f) = tt
    fits_in (only_these f d) = (f, fits_in d)
    fits_in (none_of_these f d) = (f, fits_in d)
    fits_in (unseen f d) = (f, fits_in d)
    fits_in (renamed f d) = (f, fits_in d)
    fits_in (joined f d) = (f, fits_in d)
    fits_in (in_sequence {bs = bs} ds) = chain_holds (FitsIn v) written_seq tt (λ p q h k. (h, k)) bs (each_fits_in ds)
    fits_in (one_of {bs = bs} ds) = chain_holds (FitsIn v) written_choice tt (λ p q h k. (h, k)) bs (each_fits_in ds)
    fits_in (at_once {bs = bs} ds) = sync_holds (FitsIn v) tt (λ p q h k. (h, k)) bs (each_fits_in ds)
    fits_in (left_first d k) = (fits_in d, fits_in k)
    fits_in (side_by_side {bs = bs} ds) = merge_holds (FitsIn v) tt (λ p q h k. (h, k)) bs (each_fits_in ds)
    fits_in (for_each {bounds = bounds} {b = b} s d) = around_sums bounds b (fits_in d)
    fits_in (where_true f d) = (fits_in d, tt)
    fits_in (by_truth f d k) = (fits_in d, fits_in k)

    each_fits_in : {scope : Scope} {ps : bare.Processes} {bs : List Body} → AllElaborate v scope ps bs → AllByRecursion (FitsIn v) bs
    each_fits_in all_done = tt
    each_fits_in (one_and_more d ds) = (fits_in d, each_fits_in ds)

-- ---- renamings
under_its_name : {A : Type 0} (x : Name) (rs : List (Name × A)) (a : A) → Contains rs (x, a) → Contains (all_named x rs) a
under_its_name x [] a i = absurd (contains_none (x, a) i)
under_its_name {A = A} x (r ∷ rs) a i = ⊎_elim
    (λ q. subst (λ (z : Name × A). Contains (cond (bytes_eq z.0 x) (z.1 ∷ all_named x rs) (all_named x rs)) a) (sym q)
    (subst (λ b. Contains (cond b (a ∷ all_named x rs) (all_named x rs)) a) (sym ((bytes_eq-Decides x x).1 refl)) (contains_first a (all_named x rs))))
    (λ j. by_test (bytes_eq r.0 x) (under_its_name x rs a j))
    (contains_cases r (x, a) rs i)
  where
    by_test : (b : Bool) → Contains (all_named x rs) a → Contains (cond b (r.1 ∷ all_named x rs) (all_named x rs)) a
    by_test true j = contains_later r.1 a (all_named x rs) j
    by_test false j = j

no_more : (x : Name) (b : Bool) (o : Option Name) → cond b (Some x) o ≡ None → (b ≡ false) × (o ≡ None)
no_more x true o h = absurd cc
no_more x false o h = (refl, h)

module _ (e : Entries) where
  abbrev old_names : List (NameId × NameId) → List Name
  old_names rs = map (λ (r : Renaming). r.from) (map (renaming_of e) rs)

  old_there : (rs : List (NameId × NameId)) (x y : NameId) → Contains rs (x, y) → Contains (old_names rs) (name_at e x)
  old_there rs x y i = map_contains (λ (r : Renaming). r.from) (map (renaming_of e) rs) (renaming_of e (x, y)) (map_contains (renaming_of e) rs (x, y) i)

  renames_once : (rs : List (NameId × NameId)) → first_again (old_names rs) ≡ None → RenamesOnce rs
  renames_once [] h x y z i j = absurd (contains_none (x, y) i)
  renames_once (r ∷ rs) h x y z i j =
      let n = no_more (name_at e r.0) (stands_in (name_at e r.0) (old_names rs)) (first_again (old_names rs)) h in
      let never : (w : NameId) → r.0 ≡ x → Contains rs (x, w) → ⊥ = λ w q k.
      let two : true ≡ false = sym (among_stands (name_at e x) (old_names rs) (old_there rs x w k)) ∙ ap (λ u. stands_in (name_at e u) (old_names rs)) (sym q) ∙ n.0 in cc in
      ⊎_elim
      (λ p. ⊎_elim (λ q. sym (ap (λ (u : NameId × NameId). u.1) p) ∙ ap (λ (u : NameId × NameId). u.1) q) (λ k. absurd (never z (ap (λ (u : NameId × NameId). u.0) p) k)) (contains_cases r (x, z) rs j))
      (λ k. ⊎_elim (λ q. absurd (never y (ap (λ (u : NameId × NameId). u.0) q) k)) (λ l. renames_once rs n.1 x y z k l) (contains_cases r (x, z) rs j))
      (contains_cases r (x, y) rs i)

-- ---- an action of a name with these sorts
module _ (g : Sig) (sg : IsSignature g) where
  sorts_within : (n : NameId) (ss : List SortId) → Contains g.actions (key n ss) → All (λ (s : SortId). s.0 < length g.sorts) ss
  sorts_within n ss i = (All-contains (IsActionWithin (length g.texts) (length g.sorts)) g.actions (key n ss) sg.complete.within.actions i).takes

  text_stands : (n : NameId) → IsNameIn g n → slice_get g.texts n.0 ≡ Some (text_under g n)
  text_stands n l = text_there g.texts n.0 l

  is_declared : (n : NameId) (ss : List SortId) → IsNameIn g n → Contains g.actions (key n ss) → has_action (vocabulary_of g) (text_under g n) (map (sort_under g) ss) ≡ true
  is_declared n ss l i = (actions_are_found_by_numbers g sg (text_under g n) ss (sorts_within n ss i)).1 (n, text_stands n l, i)

  declared_is : (n : NameId) (ss : List SortId) → IsNameIn g n → All (λ (s : SortId). s.0 < length g.sorts) ss → has_action (vocabulary_of g) (text_under g n) (map (sort_under g) ss) ≡ true → Contains g.actions (key n ss)
  declared_is n ss l within h =
      let found = (actions_are_found_by_numbers g sg (text_under g n) ss within).0 h in
      let same : found.0.0 ≡ n.0 = sg.table.different found.0.0 n.0 (text_under g n) found.1 (text_stands n l) in
      subst (λ (m : ℕ). Contains g.actions (key (record { 0 = m }) ss)) same found.2

  module _ (ts : List Tree) where
    abbrev e : Entries
    e = entries_of g ts

    have_targets : (rs : List (NameId × NameId)) → All (HasRenaming e) rs → list_all (renaming_fits (vocabulary_of g)) (map (renaming_of e) rs) ≡ true → HaveTargets g rs
    have_targets rs there h x y ss i j =
        let v = vocabulary_of g in
        let fits = all_of (renaming_fits v) (renaming_of e (x, y)) (map (renaming_of e) rs) h (map_contains (renaming_of e) rs (x, y) i) in
        let old = under_its_name (text_under g x) v.actions (map (sort_under g) ss) (map_contains (action_under g) g.actions (key x ss) j) in
        declared_is y ss (All-contains (HasRenaming e) rs (x, y) there i).1 (sorts_within x ss j) (all_of (has_action v (text_under g y)) (map (sort_under g) ss) (all_named (text_under g x) v.actions) fits old)

    -- ---- rules
    have_results : (cs : List PlainRule) → All (RuleNamesIn g) cs → list_all (rule_fits (vocabulary_of g)) (map (rule_of e) cs) ≡ true → HaveResults g cs
    have_results cs there h c n ss i j all =
        let v = vocabulary_of g in
        let rule = rule_of e c in
        let sorts = map (sort_under g) ss in
        let names = All-contains (RuleNamesIn g) cs c there i in
        let own : Contains g.actions (key n ss) = All-contains (λ (m : NameId). Contains g.actions (key m ss)) c.left n all j in
        let fits = all_of (rule_fits v) rule (map (rule_of e) cs) h (map_contains (rule_of e) cs c i) in
        let at = all_of (λ (a : Name × List Sort). rule_fits_at v rule a.1) (action_under g (key n ss)) v.actions fits (map_contains (action_under g) g.actions (key n ss) own) in
        let left : list_all (λ x. has_action v x sorts) rule.left ≡ true = list_all-from_AllPass (λ x. has_action v x sorts) rule.left (all_from (λ x. has_action v x sorts ≡ true) rule.left (λ x k.
        let r = contains_map (name_at e) c.left x k in
        subst (λ (t : Name). has_action v t sorts ≡ true) (sym r.1.1) (is_declared r.0 ss (All-contains (IsNameIn g) c.left r.0 names.0 r.1.0) (All-contains (λ (m : NameId). Contains g.actions (key m ss)) c.left r.0 all r.1.0)))) in
        declared_is c.result ss names.1 (sorts_within n ss own) (subst (λ (b : Bool). cond b (has_action v rule.result sorts) true ≡ true) left at)

    -- ---- operators
    operator_fits : (o : PlainAround) → HasAround e o → Fits (record { declared = vocabulary_of g; processes = [] }) (around_of e o) → OperatorFits g o
    operator_fits (allow sets) there h = there
    operator_fits (block ns) there h = there
    operator_fits (hide ns) there h = there
    operator_fits (rename rs) there h = record { names = there; once = renames_once e rs h.once; targets = have_targets rs there h.renamings }
    operator_fits (comm cs) there h = record {
      names = there;
      results =
          let sound = not_false (are_apart (map (rule_of e) cs) && list_all (rule_fits (vocabulary_of g)) (map (rule_of e) cs)) h.rules in
          have_results cs there (both_true (are_apart (map (rule_of e) cs)) (list_all (rule_fits (vocabulary_of g)) (map (rule_of e) cs)) sound).1;
    }

    module _ (v : FullVocabulary) (same : v.declared ≡ vocabulary_of g) where
      -- only what is declared matters
      over_declared : (o : PlainAround) → Fits v (around_of e o) → Fits (record { declared = vocabulary_of g; processes = [] }) (around_of e o)
      over_declared o h = record {
        actions = subst (λ (w : Vocabulary). AllByRecursion (λ x. is_action w x ≡ true) (names_of (around_of e o))) same h.actions;
        renamings = subst (λ (w : Vocabulary). are_renamings_typed w (around_of e o) ≡ true) same h.renamings;
        rules = subst (λ (w : Vocabulary). has_comm_fault w (around_of e o) ≡ false) same h.rules;
        once = h.once;
      }

      mutual
        process_fits : (p : PlainProcess) → HasProcess e p → FitsIn v (body_of e p) → HasFittingOperators g p
        process_fits delta there h = tt
        process_fits (act m) there h = tt
        process_fits (call x ids) there h = tt
        process_fits (choice ps) there h = processes_fit ps there (chain_parts (FitsIn v) written_choice (λ p q k. k) (bodies_of e ps) h)
        process_fits (seq ps) there h = processes_fit ps there (chain_parts (FitsIn v) written_seq (λ p q k. k) (bodies_of e ps) h)
        process_fits (either c p q) there h = (process_fits p there.1 h.0, process_fits q there.2 h.1)
        process_fits (sum xs p) there h = process_fits p there.1 (inside_sums v (map (bound_at e) xs) (body_of e p) h)
        process_fits (merge ps) there h = processes_fit ps there (merge_parts (FitsIn v) (λ p q k. k) (bodies_of e ps) h)
        process_fits (left_merge p q) there h = (process_fits p there.0 h.0, process_fits q there.1 h.1)
        process_fits (sync ps) there h = processes_fit ps there (sync_parts (FitsIn v) (λ p q k. k) (bodies_of e ps) h)
        process_fits (around o p) there h = (operator_fits o there.0 (over_declared o h.0), process_fits p there.1 h.1)

        processes_fit : (ps : PlainProcesses) → HasProcesses e ps → AllByRecursion (FitsIn v) (bodies_of e ps) → HaveFittingOperators g ps
        processes_fit no_processes there h = tt
        processes_fit (more_processes p ps) there h = (process_fits p there.0 h.0, processes_fit ps there.1 h.1)

-- ---- specifications
module _ (v : FullVocabulary) (g : Sig) (sg : IsSignature g) (p : PoolContents) (same : v.declared ≡ vocabulary_of g) where
  definitions_fit : (ws : List Written) (ds : List PlainDefinition) → EachPair (IsDefinitionOf v g p) ws ds → All (HasDefinition (entries_of g p.trees)) ds → All (λ (d : PlainDefinition). HasFittingOperators g d.body) ds
  definitions_fit [] [] a there = All-nil (λ (d : PlainDefinition). HasFittingOperators g d.body)
  definitions_fit [] (d ∷ ds) a there = absurd a
  definitions_fit (w ∷ ws) [] a there = absurd a
  definitions_fit (w ∷ ws) (d ∷ ds) a there =
      let i = entries_of g p.trees in
      All-cons (λ (d : PlainDefinition). HasFittingOperators g d.body) d ds (process_fits g sg p.trees v same d.body (All-head (HasDefinition i) d ds there).1 (fits_in v a.0.elaborates.body))
      (definitions_fit ws ds a.1 (All-tail (HasDefinition i) d ds there))

pub operators_fit : (v : FullVocabulary) (g : Sig) (p : PoolContents) (spec : PlainSpec) (m : PlainModel) → IsSignature g → IsElaborated v g p spec m → OperatorsFit g m
operators_fit v g p spec m sg x = record {
  definitions = definitions_fit v g sg p x.over.declared (processes_in (declarations_in (bare_sections spec))) m.definitions x.definitions x.there.1;
  init = process_fits g sg p.trees v x.over.declared m.init x.there.2 (fits_in v x.start);
}
