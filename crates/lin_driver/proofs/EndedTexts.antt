-- What holds of a linear process that was made of a text, and then ended.
use Rattle.std.proofs.Common.{◌≡◌, ◌≢◌, ◌⊎◌, inl, inr, ⊎_elim, ℕ, List, [], ◌∷◌, ◌++◌, map, codes, refl, sym, ap, subst, ◌∙◌, append-nil}
use Rattle.std.specs.Prelude.{Some}
use Rattle.std.proofs.lemmas.List.{append_cancel_left}
use Rattle.data_theory.specs.declared.ids.NameId.{NameId}
use Rattle.data_theory.specs.Declarations.{NoSortIsEmpty}
use Rattle.data_theory.specs.Keys.{Key, key}
use Rattle.data_theory.specs.IdData.{data_meant}
use Rattle.data_theory.specs.IdTerms.{IsGrown}
use Rattle.data_theory.specs.IdTrees.{Tree}
use Rattle.data_theory.specs.Signature.{Sig}
use Rattle.data_theory.specs.Terms.{Sort}
use Rattle.data_theory.specs.WholeSignatures.{IsSignature}
use Rattle.data_theory.proofs.IdGrowthLemmas.{growth_after_growth_is_growth}
use Rattle.mcrl2_syntax.specs.Declarations.{PlainSpec}
use Rattle.term_pool.specs.Pools.{PoolContents}
use Rattle.term_pool.proofs.DeclaredConstants.{grown_itself}
use Rattle.sort_table.specs.Expressions.{Name}
use Rattle.sort_table.specs.Growth.{More, with_more}
use Rattle.sort_table.specs.SignatureVocabularies.{text_under, vocabulary_of, action_under}
use Rattle.sort_table.proofs.GrowingSignatures.{grown_signatures_have_more}
use Rattle.process_terms.specs.Theories.{Theory, IsConsistent}
use Rattle.process_terms.specs.Processes.{Process}
use Rattle.process_terms.specs.Meanings.{process_of}
use Rattle.process_terms.specs.PlainProcesses.{PlainEquation}
use Rattle.process_terms.specs.SignatureEntries.{entries_of, BothGrow}
use Rattle.bisim_laws.specs.Links.{Link, Sealed}
use Rattle.bisim_laws.specs.Terminations.{terminate_name}
use Rattle.bisim_laws.proofs.TerminatingLinks.{sealed_terminating}
use Rattle.lps_core.specs.Fitting.{Fits}
use Rattle.lps_core.specs.GoingOn.{GoesOn, IsGoodOver}
use Rattle.lps_core.specs.Naming.{HaveOwnNames, ParamsHaveOwnNames}
use Rattle.lps_core.specs.PlainLinears.{PlainLinear, can_end, linear_of, linear_state}
use Rattle.lps_core.proofs.GrowingData.{goes_back}
use Rattle.lps_printer.specs.GrowingByAdditions.{GrowsByAdditions, added_actions}
use Rattle.lps_printer.proofs.GrowingByAdditions.{additions_follow, additions_grow, actions_grow}
use Rattle.lin_driver.specs.Additions.{AreTerminate}
use Rattle.lin_driver.specs.Headline.{AreAddedActions, EndsBy}
use Rattle.lin_driver.specs.Linearised.{IsMadeFor, IsEndedBy, it_stays, it_is_sealed, IsGoodOverBy}
use Rattle.lin_driver.specs.SealedLinears.{SealsLinear, GrowsByTerminate, IsTerminateAdded, nothing_is_added, it_is_added}
use Rattle.lin_driver.specs.TakenNames.{HaveIdentifiers}
use Rattle.lin_driver.specs.declared.ending.Ending.{Ending}
use Rattle.lin_driver.specs.declared.ending.Ending.TheVariants.{End, Terminate}
use Rattle.lin_driver.proofs.GrownModels.{model_stays}
use Rattle.lin_driver.proofs.SealedNames.{sealing_adds_terminate, sealing_empties_no_sort, sealing_keeps_identifiers, sealed_params_have_own_names, sealed_sums_have_own_names}

-- ---- what is added
abbrev alone : NameId → Key
alone n = key n []

names_back : (ns : List NameId) → map (λ (k : Key). k.name) (map alone ns) ≡ ns
names_back [] = refl
names_back (n ∷ ns) = ap (λ (ms : List NameId). n ∷ ms) (names_back ns)

-- behind what has no actions come those that are added then
actions_follow : (g h k : Sig) → IsSignature g → (s : IsSignature h) → (before : GrowsByAdditions g h) (rest : GrowsByAdditions h k) → added_actions before ≡ [] → added_actions (additions_follow g h k before rest) ≡ added_actions rest
actions_follow g h k stands s before rest none =
    let all = actions_grow g stands (additions_follow g h k before rest) in
    let late = actions_grow h s rest in
    let early : h.actions ≡ g.actions = actions_grow g stands before ∙ ap (λ (ns : List NameId). g.actions ++ map alone ns) none ∙ append-nil g.actions in
    let same : map alone (added_actions (additions_follow g h k before rest)) ≡ map alone (added_actions rest)
    = append_cancel_left g.actions _ _ (sym all ∙ late ∙ ap (λ (as_ : List Key). as_ ++ map alone (added_actions rest)) early) in
    sym (names_back (added_actions (additions_follow g h k before rest))) ∙ ap (map (λ (k : Key). k.name)) same ∙ names_back (added_actions rest)

-- sealing adds `Terminate` at most
is_terminate : (g h : Sig) {ends : _} (ns : List NameId) → IsTerminateAdded g h ends ns → AreTerminate Terminate h ns
is_terminate g h _ (nothing_is_added same) = inl refl
is_terminate g h _ (it_is_added {name = name} text actions) = inr (name, refl, text)

-- the actions of the vocabulary that come behind
module _ (g h : Sig) (stands : IsSignature g) (w : GrowsByAdditions g h) where
  new_actions_are : (additions_grow g stands w).new_actions ≡ map alone (added_actions w)
  new_actions_are = append_cancel_left g.actions _ _ (sym (additions_grow g stands w).actions ∙ actions_grow g stands w)

  abbrev behind : List NameId → List (Name × List Sort)
  behind ns = map (action_under h) (map alone ns)

  by_ending : (ending : Ending) (ns : List NameId) → AreTerminate ending h ns → AreAddedActions ending (behind ns)
  by_ending End ns none = ap behind none
  by_ending Terminate ns (inl none) = inl (ap behind none)
  by_ending Terminate ns (inr (n, one, text)) = inr (ap behind one ∙ ap (λ (t : List ℕ). (t, []) ∷ []) text)

  pub behind_by_ending : (ending : Ending) → AreTerminate ending h (added_actions w) → IsSignature h → (m : More) × (vocabulary_of h ≡ with_more (vocabulary_of g) m) × AreAddedActions ending m.actions
  behind_by_ending ending are later =
      let more = grown_signatures_have_more g h stands.complete stands.table stands.roles later.roles (additions_grow g stands w) in
      (more.0, more.1, subst (AreAddedActions ending) (sym (more.2 ∙ ap (map (action_under h)) new_actions_are)) (by_ending ending (added_actions w) are))

-- ---- all that holds then
abbrev pool_of : List Tree → PoolContents
pool_of ts = record { trees = ts; constants = [] }

module _ (spec : PlainSpec) (g : Sig) (ts : List Tree) (equations : List PlainEquation) (x : NameId) (l : PlainLinear) (made : IsMadeFor spec g ts equations x l) where
  abbrev own : Sig
  own = made.signature

  abbrev process : Process
  process = process_of (entries_of own made.pool.trees) made.model

  pub record Ended (ending : Ending) (h : Sig) (us : List Tree) (k : PlainLinear) : Type 0 where
    pub grow : BothGrow g h ts us
    pub stands : IsSignature h
    pub grows : GrowsByAdditions own h
    pub added : AreTerminate ending h (added_actions grows)
    pub inhabited : NoSortIsEmpty (data_meant h)
    pub fits : Fits h us k
    pub identifiers : HaveIdentifiers h
    pub params : ParamsHaveOwnNames h k.params
    pub sums : HaveOwnNames h k
    pub ends : EndsBy ending (linear_of (entries_of h us) k)
    pub link : Link
    pub bisimilar : IsGoodOverBy ending h link process (linear_state (entries_of h us) k)

  -- the link to the linear process that may end leads from the process of the model
  pub first_good : IsGoodOver g made.leads.link process (linear_state (entries_of g ts) l)
  first_good = subst (λ q. IsGoodOver g made.leads.link q (linear_state (entries_of g ts) l)) (model_stays own g made.pool.trees ts made.stands made.grow made.model made.fits) made.leads.bisimilar

  pub ended_as : (ending : Ending) (h : Sig) (us : List Tree) (k : PlainLinear) → IsEndedBy g ts l ending h us k → Ended ending h us k
  ended_as _ _ _ _ it_stays = record {
    grow = record { signature = grown_itself g; pool = ([], sym (append-nil ts)) };
    stands = made.leads.stands;
    grows = made.leads.grows;
    added = made.leads.no_actions;
    inhabited = made.leads.inhabited;
    fits = made.leads.fits;
    identifiers = made.leads.identifiers;
    params = made.leads.params;
    sums = made.leads.names;
    ends = tt;
    link = made.leads.link;
    bisimilar = first_good;
  }
  ended_as _ h us k (it_is_sealed seals never good) =
      let added = sealing_adds_terminate g h (pool_of ts) (pool_of us) l k seals in
      record {
        grow = record { signature = seals.grown; pool = seals.kept };
        stands = seals.new;
        grows = additions_follow own g h made.leads.grows added.grows;
        added = subst (AreTerminate Terminate h) (sym (actions_follow own g h made.stands seals.old made.leads.grows added.grows made.leads.no_actions)) (is_terminate g h (added_actions added.grows) added.actions);
        inhabited = sealing_empties_no_sort g h (pool_of ts) (pool_of us) l k seals made.leads.inhabited;
        fits = seals.made_fits;
        identifiers = sealing_keeps_identifiers g h (pool_of ts) (pool_of us) l k seals made.leads.identifiers;
        params = sealed_params_have_own_names g h (pool_of ts) (pool_of us) l k seals made.leads.params;
        sums = sealed_sums_have_own_names g h (pool_of ts) (pool_of us) l k seals made.leads.names;
        ends = never;
        link = Sealed (can_end l) (linear_of (entries_of g ts) l) (linear_of (entries_of h us) k) made.leads.link;
        bisimilar = λ th on con. sealed_terminating th (can_end l) (linear_of (entries_of g ts) l) (linear_of (entries_of h us) k) made.leads.link process (linear_state (entries_of g ts) l) (linear_state (entries_of h us) k)
            (first_good th (goes_back g h seals.old.table seals.old.roles seals.new.roles seals.grown th on) con) (good th on con);
      }
