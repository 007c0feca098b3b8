-- The operators of an opened network are those of the specification: they fit as these do, and still as names are added.
use Rattle.std.proofs.Common.{◌≡◌, List, [], sym, subst, Bool}
use Rattle.std.specs.List.{All, Contains}
use Rattle.std.proofs.lemmas.List.Elements.{All-weaker}
use Rattle.data_theory.specs.declared.ids.NameId.{NameId}
use Rattle.data_theory.specs.declared.ids.VarId.{VarId}
use Rattle.data_theory.specs.declared.ids.TermId.{TermId}
use Rattle.data_theory.specs.Keys.{Key, key}
use Rattle.data_theory.specs.Signature.{Sig}
use Rattle.data_theory.specs.IdTerms.{IsGrown}
use Rattle.data_theory.specs.IdTrees.{Tree}
use Rattle.process_terms.specs.PlainProcesses.{PlainRule, PlainAround, allow, block, hide, rename, comm, PlainProcess, PlainProcesses, PlainDefinition, PlainModel}
use Rattle.process_terms.proofs.MeaningLemmas.{entry_stays}
use Rattle.lps_core.proofs.Members.{all_at}
use Rattle.action_filters.specs.Filters.{IsNameIn, HaveTargets}
use Rattle.communication.specs.PlaceConditions.{RuleNamesIn, HaveResults}
use Rattle.proc_unfold.specs.Networks.{PlainNetwork, PlainNetworks, leaf, side_by_side, left_merge, sync, under, no_networks, more_networks}
use Rattle.proc_unfold.specs.Opening.{Opens, AllOpen, term_kept, call_kept, call_opened, beside, one_choice, one_step, left_merged, synced, no_sum, within, none_open, more_open}
use Rattle.proc_unfold.specs.Unfolded.{IsOpened}
use Rattle.lin_driver.specs.FittingOperators.{OperatorFits, HasFittingOperators, HaveFittingOperators, OperatorsFit, NetworkFits, NetworksFit}

-- ---- what is opened
module _ (g : Sig) (m : PlainModel) (fit : OperatorsFit g m) (marks : List Bool) (ts : List Tree) where
  mutual
    opened_fits : {by : List (VarId × TermId)} {p : PlainProcess} {n : PlainNetwork} → Opens m.definitions marks ts by p n → HasFittingOperators g p → NetworkFits g n
    opened_fits (term_kept s k) h = tt
    opened_fits (call_kept k a) h = tt
    opened_fits (call_opened {x = x} f at k a o) h = opened_fits o (all_at (λ (d : PlainDefinition). HasFittingOperators g d.body) m.definitions x.0 f fit.definitions at)
    opened_fits (beside o) h = all_opened_fit o h
    opened_fits (one_choice one o) h = all_opened_fit o h
    opened_fits (one_step one o) h = all_opened_fit o h
    opened_fits (left_merged o k) h = (opened_fits o h.0, opened_fits k h.1)
    opened_fits (synced o) h = all_opened_fit o h
    opened_fits (no_sum o) h = opened_fits o h
    opened_fits (within o) h = (h.0, opened_fits o h.1)

    all_opened_fit : {by : List (VarId × TermId)} {ps : PlainProcesses} {ns : PlainNetworks} → AllOpen m.definitions marks ts by ps ns → HaveFittingOperators g ps → NetworksFit g ns
    all_opened_fit none_open h = tt
    all_opened_fit (more_open o os) h = (opened_fits o h.0, all_opened_fit os h.1)

pub opened_operators_fit : (g : Sig) (m : PlainModel) (ts : List Tree) (n : PlainNetwork) → IsOpened m ts n → OperatorsFit g m → NetworkFits g n
opened_operators_fit g m ts n o fit = opened_fits g m fit o.parallel ts o.opens fit.init

-- ---- with the same actions
module _ (g h : Sig) (grow : IsGrown g h) (same : h.actions ≡ g.actions) where
  name_still : (n : NameId) → IsNameIn g n → IsNameIn h n
  name_still n l = (entry_stays g.texts h.texts [] n.0 (grow.new_texts, grow.texts) l).1

  names_still : (ns : List NameId) → All (IsNameIn g) ns → All (IsNameIn h) ns
  names_still ns k = All-weaker (IsNameIn g) (IsNameIn h) name_still ns k

  renamed_still : (r : NameId × NameId) → IsNameIn g r.0 × IsNameIn g r.1 → IsNameIn h r.0 × IsNameIn h r.1
  renamed_still r k = (name_still r.0 k.0, name_still r.1 k.1)

  rule_still : (c : PlainRule) → RuleNamesIn g c → RuleNamesIn h c
  rule_still c k = (names_still c.left k.0, name_still c.result k.1)

  before : (a : Key) → Contains h.actions a → Contains g.actions a
  before a i = subst (λ (as_ : List Key). Contains as_ a) same i

  behind : (a : Key) → Contains g.actions a → Contains h.actions a
  behind a i = subst (λ (as_ : List Key). Contains as_ a) (sym same) i

  targets_still : (rs : List (NameId × NameId)) → HaveTargets g rs → HaveTargets h rs
  targets_still rs k x y ss i j = behind (key y ss) (k x y ss i (before (key x ss) j))

  results_still : (cs : List PlainRule) → HaveResults g cs → HaveResults h cs
  results_still cs k c n ss i j all =
      behind (key c.result ss) (k c n ss i j (All-weaker (λ (x : NameId). Contains h.actions (key x ss)) (λ (x : NameId). Contains g.actions (key x ss)) (λ x l. before (key x ss) l) c.left all))

  pub operator_fits_still : (o : PlainAround) → OperatorFits g o → OperatorFits h o
  operator_fits_still (allow sets) k = All-weaker (All (IsNameIn g)) (All (IsNameIn h)) names_still sets k
  operator_fits_still (block ns) k = names_still ns k
  operator_fits_still (hide ns) k = names_still ns k
  operator_fits_still (rename rs) k = record {
    names = All-weaker (λ (r : NameId × NameId). IsNameIn g r.0 × IsNameIn g r.1) (λ (r : NameId × NameId). IsNameIn h r.0 × IsNameIn h r.1) renamed_still rs k.names;
    once = k.once;
    targets = targets_still rs k.targets;
  }
  operator_fits_still (comm cs) k = record { names = All-weaker (RuleNamesIn g) (RuleNamesIn h) rule_still cs k.names; results = results_still cs k.results }

  mutual
    pub network_fits_still : (n : PlainNetwork) → NetworkFits g n → NetworkFits h n
    network_fits_still (leaf c) k = tt
    network_fits_still (side_by_side ns) k = networks_fit_still ns k
    network_fits_still (left_merge m n) k = (network_fits_still m k.0, network_fits_still n k.1)
    network_fits_still (sync ns) k = networks_fit_still ns k
    network_fits_still (under o n) k = (operator_fits_still o k.0, network_fits_still n k.1)

    pub networks_fit_still : (ns : PlainNetworks) → NetworksFit g ns → NetworksFit h ns
    networks_fit_still no_networks k = tt
    networks_fit_still (more_networks n ns) k = (network_fits_still n k.0, networks_fit_still ns k.1)
