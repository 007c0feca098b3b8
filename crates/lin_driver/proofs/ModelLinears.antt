-- From a specification to its linear process, link by link.
use Rattle.std.proofs.Common.{◌≡◌, List, [], sym, ap, subst, ◌∙◌, append-nil}
use Rattle.std.specs.Prelude.{IfErr, IsErrAnd, Result, Ok, Err}
use Rattle.std.specs.List.{All}
use Rattle.std.specs.Option.{option_map}
use Rattle.std.proofs.lemmas.Option.{slice_get-map}
use Rattle.data_theory.specs.Signature.{Sig}
use Rattle.data_theory.specs.WholeSignatures.{IsSignature}
use Rattle.data_theory.specs.IdTrees.{Tree}
use Rattle.term_pool.specs.Pools.{PoolContents, Extends}
use Rattle.term_pool.specs.Constants.{AreConstants}
use Rattle.term_pool.proofs.DeclaredConstants.{constants_stay}
use Rattle.process_terms.specs.PlainProcesses.{delta, PlainModel, PlainComponent, term_of}
use Rattle.process_terms.specs.Meanings.{Entries, body_of, definition_of, table_of, process_of, component_body}
use Rattle.process_terms.specs.SignatureEntries.{entries_of, BothGrow}
use Rattle.bisim_laws.specs.Links.{Same, Then, Dropped}
use Rattle.bisim_laws.specs.Scopes as scopes
use Rattle.bisim_laws.proofs.ComposedLinks.{then_good}
use Rattle.bisim_laws.proofs.Firing.{contains_none}
use Rattle.lps_core.specs.Fitting.{Fits}
use Rattle.lps_core.specs.GoingOn.{IsGoodOver}
use Rattle.lps_core.specs.Moving.{all_kept}
use Rattle.lps_core.specs.Naming.{NamingIsGood, GrowsByNames, SumsAreNamed, HaveOwnNames, ParamsHaveOwnNames}
use Rattle.lps_core.specs.PlainLinears.{PlainLinear, linear_of, linear_state}
use Rattle.lps_core.proofs.NamedSums.{names_then}
use Rattle.lps_core.proofs.PoolTrees.{extends_itself}
use Rattle.proc_unfold.specs.FittingModels.{ModelFits}
use Rattle.proc_unfold.specs.Networks.{PlainNetwork, network_process, AllComponents}
use Rattle.proc_unfold.specs.Parallelism.{IsNetFaultOf, StandsOutsideRecursion}
use Rattle.proc_unfold.specs.Unfolded.{IsOpened, IsSameNetwork, IsComponentOf, HasItsComponents}
use Rattle.proc_unfold.specs.declared.faults.NetFault.{NetFault}
use Rattle.proc_unfold.specs.declared.faults.NetFault.TheVariants as net
use Rattle.guard_check.specs.Faults.{IsGuardFaultOf}
use Rattle.guard_check.specs.Guards.{IsGuardedModel}
use Rattle.guard_check.specs.declared.checking.GuardFault.{GuardFault}
use Rattle.guard_check.specs.declared.checking.GuardFault.TheVariants as guard
use Rattle.greibach.specs.Scopes.{BindsAnew, HaveOwnVariables}
use Rattle.greibach.specs.Surroundings.{HasUsableNames}
use Rattle.greibach.proofs.GrownFits.{both_by_names}
use Rattle.greibach.proofs.WhateverStands.{sequential_bodies, bound_once}
use Rattle.regular_encoder.proofs.InhabitedColumns.{still_inhabited}
use Rattle.lps_printer.proofs.GrowingByAdditions.{additions_follow, no_actions_follow, additions_grow, same_actions}
use Rattle.lin_driver.specs.Faults.{fault_of_guard, fault_of_net}
use Rattle.lin_driver.specs.Leaves.{leaves}
use Rattle.lin_driver.specs.LinearLeaves.{IsLeafOf, AreLeavesMade, IsLeavesFaultOf}
use Rattle.lin_driver.specs.ModelLinears.{CanBeLinear, CanBeLinearFrom, LeadsToLinear, IsModelFaultOf}
use Rattle.lin_driver.specs.declared.methods.Method.{Method}
use Rattle.lin_driver.specs.NetworkScopes.{everything}
use Rattle.lin_driver.specs.Parts.{network_in, CanBeComposed, IsComposed}
use Rattle.lin_driver.specs.declared.fault.ModelFault.{ModelFault}
use Rattle.lin_driver.specs.declared.fault.ModelFault.TheVariants.{Net, Guard, NotTail, NoMemory}
use Rattle.lin_driver.proofs.GrownModels.{model_grows, model_stays}
use Rattle.lin_driver.proofs.Links.{then_over, same_over}
use Rattle.lin_driver.proofs.NamedVariables.{usable_named, summands_named, sums_there}
use Rattle.lin_driver.proofs.NetworkLeaves.{all_leaves, both_hold}
use Rattle.lin_driver.proofs.OpenedComponents.{opened_binds}
use Rattle.lin_driver.proofs.OpenedOperators.{opened_operators_fit, network_fits_still}
use Rattle.lin_driver.proofs.StayingLinears.{both_named, names_are_additions, names_add_no_actions, fresh_by_names, own_names_stay, state_stays, linear_for_all}

-- ---- the leaves
delta_is_leaf : (g : Sig) (ts : List Tree) (m : PlainModel) → ((e : Entries) → HaveOwnVariables (table_of e m.definitions) (body_of e m.init)) → IsLeafOf g ts m (term_of delta)
delta_is_leaf g ts m own = record {
  fits = tt;
  sequential = λ e. ((λ j. j), λ x i. absurd (contains_none x i));
  own = λ e. record { definitions = (own e).definitions; start = tt };
}

opened_leaves : (g : Sig) (ts : List Tree) (m : PlainModel) (n : PlainNetwork) → ((e : Entries) → HaveOwnVariables (table_of e m.definitions) (body_of e m.init)) → IsOpened m ts n → HasItsComponents g ts m n → All (IsLeafOf g ts m) (leaves n)
opened_leaves g ts m n own opened components =
    let e = entries_of g ts in
    let Binds : PlainComponent → Type 0 = λ c. BindsAnew [] (component_body e c) in
    let binds : AllComponents Binds n =
    opened_binds e m.definitions (λ x f at. ((own e).definitions x (definition_of e f) (slice_get-map (definition_of e) m.definitions x ∙ ap (option_map (definition_of e)) at)).binds) opened.parallel ts opened.opens [] (own e).start in
    all_leaves (IsLeafOf g ts m) (delta_is_leaf g ts m own) n
    (both_hold (IsComponentOf g ts m) Binds (IsLeafOf g ts m)
    (λ c k b. record { fits = k.fits; sequential = sequential_bodies e m c k.sequential; own = bound_once e m c (record { definitions = (own e).definitions; start = b }) }) n components binds)

-- once the process has its name
pub network_can_be_linear : (g b : Sig) (p q : PoolContents) (m : PlainModel) (n : PlainNetwork) → CanBeLinear g p m → GrowsByNames g b → HasUsableNames b → Extends p.trees q.trees → q.constants ≡ p.constants
    → IsOpened m q.trees n → ((g : Sig) → IsSignature g → ModelFits g p.trees m → HasItsComponents g q.trees m n) → CanBeLinearFrom b q m n
network_can_be_linear g b p q m n can w names kept same opened components = record {
  ready = record {
    stands = w.stands;
    fits = model_grows g b p.trees q.trees can.stands (both_by_names g b p.trees q.trees w kept) m can.fits;
    inhabited = still_inhabited g b can.stands w.stands w.grown w.sorts can.inhabited;
    constants = constants_stay g b q.constants w.grown (subst (AreConstants g) (sym same) can.constants);
    names = names;
  };
  leaves_fit = opened_leaves b q.trees m n can.own opened (components b w.stands (model_grows g b p.trees p.trees can.stands (both_by_names g b p.trees p.trees w (extends_itself p.trees)) m can.fits));
  operators = network_fits_still g b w.grown w.actions n (opened_operators_fit g m q.trees n opened can.operators);
}

-- ---- what is composed
pub network_can_be_composed : (method : Method) (g d : Sig) (p q : PoolContents) (m : PlainModel) (n : PlainNetwork) (ls : List PlainLinear) → CanBeLinearFrom g p m n → AreLeavesMade method g p d q m (leaves n) ls
    → CanBeComposed (record { signature = g; trees = p.trees; model = m }) everything d q.trees n ls []
network_can_be_composed method g d p q m n ls can made = record {
  since = record { stands = can.ready.stands; grown = additions_grow g can.ready.stands made.grows; actions = same_actions g can.ready.stands made.grows made.no_actions };
  identifiers = usable_named d made.ready.names;
  operators = can.operators;
  scope = tt;
  parts = record { parts = ls; are = made.linears; first = sym (append-nil ls) };
}

-- from the network to the linear process with named sums
pub network_leads : (method : Method) (g d e h : Sig) (p q : PoolContents) (ws us : List Tree) (m : PlainModel) (n : PlainNetwork) (ls left : List PlainLinear) (l named : PlainLinear) → AreLeavesMade method g p d q m (leaves n) ls → GrowsByNames d e → GrowsByNames e h
    → Extends ws us → IsComposed scopes.everything (network_in (record { signature = g; trees = p.trees; model = m }) n) e ws left [] l → SumsAreNamed e h ws us l named → Fits h us named → HaveOwnNames h named → NamingIsGood h us l named
    → LeadsToLinear g (network_process (entries_of g p.trees) m n) h us named
network_leads method g d e h p q ws us m n ls left l named made de eh kept composed sums fits names naming =
    let dh = names_then d e h de eh in
    let start = network_process (entries_of g p.trees) m n in
    let own = linear_for_all e ws start l composed.linear in
    let both = both_by_names e h ws us eh kept in
    let grow = both_named e h ws us de.stands eh both in
    let last = Dropped (all_kept (linear_of (entries_of h us) l).params) (linear_of (entries_of h us) l) (linear_of (entries_of h us) named) in
    record {
      stands = eh.stands;
      inhabited = still_inhabited d h made.ready.stands eh.stands dh.grown dh.sorts made.ready.inhabited;
      grows = additions_follow g d h made.grows (names_are_additions d h made.ready.stands dh);
      no_actions = no_actions_follow g d h made.grows (names_are_additions d h made.ready.stands dh) made.no_actions (names_add_no_actions d h made.ready.stands dh);
      fits = fits;
      identifiers = summands_named sums.names (sums_there e ws l own.fits) composed.identifiers;
      params = subst (ParamsHaveOwnNames h) (sym sums.params) (own_names_stay e h l.params eh.grown (fresh_by_names e h de.stands eh) own.fits.params own.fits.taken own.params);
      names = names;
      link = Then own.link last;
      bisimilar = then_over e h de.stands eh.stands eh.grown own.link last start (linear_state (entries_of e ws) l) (linear_state (entries_of h us) l) (linear_state (entries_of h us) named) (sym (state_stays e h ws us grow l own.fits)) own.bisimilar naming;
    }

-- from the specification to its network, and on
pub from_the_network : (g b h : Sig) (ts us : List Tree) (m : PlainModel) (n : PlainNetwork) (l : PlainLinear) → IsSignature g → GrowsByNames g b → BothGrow b h ts us → ModelFits b ts m → IsSameNetwork b ts m n
    → LeadsToLinear b (network_process (entries_of b ts) m n) h us l → LeadsToLinear g (process_of (entries_of h us) m) h us l
from_the_network g b h ts us m n l sg w grow fits same leads =
    let eb = entries_of b ts in
    let eh = entries_of h us in
    let here : IsGoodOver h Same (process_of eb m) (network_process eb m n) = same_over h (process_of eb m) (network_process eb m n) same in
    let start : IsGoodOver h Same (process_of eh m) (network_process eb m n) = subst (λ p. IsGoodOver h Same p (network_process eb m n)) (sym (model_stays b h ts us w.stands grow m fits)) here in
    record {
      stands = leads.stands;
      inhabited = leads.inhabited;
      grows = additions_follow g b h (names_are_additions g b sg w) leads.grows;
      no_actions = no_actions_follow g b h (names_are_additions g b sg w) leads.grows (names_add_no_actions g b sg w) leads.no_actions;
      fits = leads.fits;
      identifiers = leads.identifiers;
      params = leads.params;
      names = leads.names;
      link = Then Same leads.link;
      bisimilar = λ th on con. then_good th Same leads.link (process_of eh m) (network_process eb m n) (linear_state eh l) (start th on con) (leads.bisimilar th on con);
    }

-- ---- why there is none
leaves_are_of : (m : PlainModel) (ts : List Tree) (n : PlainNetwork) (fault : ModelFault) → StandsOutsideRecursion m → IsGuardedModel m → IsOpened m ts n → IsLeavesFaultOf m (leaves n) fault → IsModelFaultOf m fault
leaves_are_of m ts n (Net fault) outside guarded opened has = absurd has
leaves_are_of m ts n (Guard fault) outside guarded opened has = absurd has
leaves_are_of m ts n (NotTail number summand) outside guarded opened has = (outside, guarded, record { trees = ts; network = n; opened = opened; leaf = has })
leaves_are_of m ts n NoMemory outside guarded opened has = tt

pub leaves_refused : {T : Type 0} (r : Result T ModelFault) (m : PlainModel) (ts : List Tree) (n : PlainNetwork) (fault : ModelFault) → StandsOutsideRecursion m → IsGuardedModel m → IsOpened m ts n → IsLeavesFaultOf m (leaves n) fault → IsErrAnd r (λ given. given ≡ fault) → IfErr r (IsModelFaultOf m)
leaves_refused (Ok x) m ts n fault outside guarded opened has same = absurd same
leaves_refused (Err given) m ts n fault outside guarded opened has same = subst (IsModelFaultOf m) (sym same) (leaves_are_of m ts n fault outside guarded opened has)

pub net_refused : {T : Type 0} (r : Result T ModelFault) (m : PlainModel) (fault : NetFault) → IsNetFaultOf m fault → IsErrAnd r (λ given. given ≡ fault_of_net fault) → IfErr r (IsModelFaultOf m)
net_refused (Ok x) m fault has same = absurd same
net_refused (Err given) m net.NoMemory has same = subst (IsModelFaultOf m) (sym same) tt
net_refused (Err given) m (net.ParallelRecursion names) has same = subst (IsModelFaultOf m) (sym same) (has, λ e. cc)
net_refused (Err given) m (net.ParallelUnderSequential number) has same = subst (IsModelFaultOf m) (sym same) (has, λ e. cc)

pub guard_refused : {T : Type 0} (r : Result T ModelFault) (m : PlainModel) (fault : GuardFault) → StandsOutsideRecursion m → IsGuardFaultOf m fault → IsErrAnd r (λ given. given ≡ fault_of_guard fault) → IfErr r (IsModelFaultOf m)
guard_refused (Ok x) m fault outside has same = absurd same
guard_refused (Err given) m guard.NoMemory outside has same = subst (IsModelFaultOf m) (sym same) tt
guard_refused (Err given) m (guard.Unguarded names) outside has same = subst (IsModelFaultOf m) (sym same) (outside, has, λ e. cc)
