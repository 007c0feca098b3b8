use Rattle.std.proofs.Common.{[], map, sym, ap, subst, ◌∙◌}
use Rattle.std.specs.List.{All, AllZip}
use Rattle.data_theory.proofs.IdGrowthLemmas.{growth_after_growth_is_growth}
use Rattle.term_pool.proofs.DeclaredConstants.{grown_itself}
use Rattle.process_terms.specs.PlainProcesses.{plain_component, plain_model}
use Rattle.process_terms.specs.SignatureEntries.{entries_of, BothGrow}
use Rattle.lps_core.specs.PlainLinears.{plain_linear}
use Rattle.proc_unfold.specs.Networks.{network_process, plain_network}
use Rattle.lin_driver.specs.AddedSorts.{NeedsNoStack}
use Rattle.lin_driver.specs.Faults.{IsModelFaultBy}
use Rattle.lin_driver.specs.KeptTexts.{KeepsComponent}
use Rattle.lin_driver.specs.Leaves.{leaves}
use Rattle.lin_driver.specs.LinearLeaves.{IsLeafOf, AreLeavesMade, IsLeavesFaultOf}
use Rattle.lin_driver.specs.ModelLinears.{LeadsToLinear}
use Rattle.lin_driver.specs.NetworkProducts.{ComposedFrom}
use Rattle.lin_driver.specs.NetworkScopes.{everything}
use Rattle.lin_driver.specs.PlainlyMade.{ArePlainLeaves, written_in_model}
use Rattle.lin_driver.proofs.KeptTexts.{network_kept}
use Rattle.lin_driver.proofs.MadeLeaves.{passed_on}
use Rattle.lin_driver.proofs.ModelLinears.{network_can_be_composed, network_leads}
use Rattle.lin_driver.proofs.PlainModels.{leaves_are_plain, comms_are_written}
use Rattle.lin_driver.proofs.PlainSums.{naming_is_plain}
use Rattle.lin_driver.proofs.TidiedLinears.{have_none}
use Rattle.lin_driver.proofs.TidyConditions.{conditions_are_in, tidying_is_plain, tidying_leads}
use Rattle.lin_driver.proofs.model_linearising.linear_of_network.Goals as goal

pub returns-in_err-components-clause-grown : goal.returns-in_err-components-clause-grown
returns-in_err-components-clause-grown c = grown_itself c.args.sig.now

pub linear_components-requires-clause-leaves : goal.linear_components-requires-clause-leaves
linear_components-requires-clause-leaves c =
    subst (All (IsLeafOf c.args.sig.now c.args.pool.now.trees (plain_model c.args.guarded.now.model.now))) (sym (ap (map plain_component) c.as_slice.ensures.value ∙ c.in_ok-components.ensures)) c.requires.can.leaves_fit

pub returns-in_err-parts-clause-refused : goal.returns-in_err-parts-clause-refused
returns-in_err-parts-clause-refused c =
    passed_on (IsLeavesFaultOf (plain_model c.args.guarded.now.model.now) (leaves (plain_network c.args.network.now))) c.from_residual-in_err-parts.result c.in_err-parts.field-0.0
    (subst (λ cs. IsLeavesFaultOf (plain_model c.args.guarded.now.model.now) cs c.in_err-parts.field-0.0) (ap (map plain_component) c.as_slice.ensures.value ∙ c.in_ok-components.ensures) c.in_err-parts.ensures.refused) c.from_residual-in_err-parts.ensures.1

pub returns-in_err-parts-clause-by : goal.returns-in_err-parts-clause-by
returns-in_err-parts-clause-by c = passed_on (IsModelFaultBy c.args.method) c.from_residual-in_err-parts.result c.in_err-parts.field-0.0 c.in_err-parts.ensures.by c.from_residual-in_err-parts.ensures.1

pub compose-requires : goal.compose-requires
compose-requires c =
    let g = c.args.sig.now in
    let m = plain_model c.args.guarded.now.model.now in
    let n = plain_network c.args.network.now in
    let d = c.linear_components.new.sig in
    let q = c.linear_components.new.pool in
    let ls = map plain_linear c.in_ok-parts.parts.items in
    let made = subst (λ cs. AreLeavesMade c.args.method g c.args.pool.now d q m cs ls) (ap (map plain_component) c.as_slice.ensures.value ∙ c.in_ok-components.ensures) c.in_ok-parts.ensures.made in
    (record { signature = g; trees = c.args.pool.now.trees; model = m }, [], network_can_be_composed c.args.method g d c.args.pool.now q m n ls c.requires.can made)

pub returns-in_err-composed-clause-grown : goal.returns-in_err-composed-clause-grown
returns-in_err-composed-clause-grown c = growth_after_growth_is_growth c.args.sig.now c.linear_components.new.sig c.compose.new.sig c.linear_components.ensures.grown c.compose.ensures.grown.grown

pub returns-in_err-named-clause-grown : goal.returns-in_err-named-clause-grown
returns-in_err-named-clause-grown c =
    let ge = growth_after_growth_is_growth c.args.sig.now c.linear_components.new.sig c.compose.new.sig c.linear_components.ensures.grown c.compose.ensures.grown.grown in
    growth_after_growth_is_growth c.args.sig.now c.compose.new.sig c.name_sums.new.sig ge c.name_sums.ensures.grown.grown

pub returns-clause-grown : goal.returns-clause-grown
returns-clause-grown c =
    let ge = growth_after_growth_is_growth c.args.sig.now c.linear_components.new.sig c.compose.new.sig c.linear_components.ensures.grown c.compose.ensures.grown.grown in
    growth_after_growth_is_growth c.args.sig.now c.compose.new.sig c.name_sums.new.sig ge c.name_sums.ensures.grown.grown

pub returns-in_err-tidy-clause-grown : goal.returns-in_err-tidy-clause-grown
returns-in_err-tidy-clause-grown c =
    let ge = growth_after_growth_is_growth c.args.sig.now c.linear_components.new.sig c.compose.new.sig c.linear_components.ensures.grown c.compose.ensures.grown.grown in
    growth_after_growth_is_growth c.args.sig.now c.compose.new.sig c.name_sums.new.sig ge c.name_sums.ensures.grown.grown

pub name_sums-requires : goal.name_sums-requires
name_sums-requires c =
    let g = c.args.sig.now in
    let m = plain_model c.args.guarded.now.model.now in
    let n = plain_network c.args.network.now in
    let d = c.linear_components.new.sig in
    let q = c.linear_components.new.pool in
    let ls = map plain_linear c.in_ok-parts.parts.items in
    let made = subst (λ cs. AreLeavesMade c.args.method g c.args.pool.now d q m cs ls) (ap (map plain_component) c.as_slice.ensures.value ∙ c.in_ok-components.ensures) c.in_ok-parts.ensures.made in
    (c.in_ok-composed.ensures.composed (record { signature = g; trees = c.args.pool.now.trees; model = m }) [] (network_can_be_composed c.args.method g d c.args.pool.now q m n ls c.requires.can made)).linear.fits

pub tidy_conditions-requires : goal.tidy_conditions-requires
tidy_conditions-requires c = conditions_are_in c.name_sums.new.sig c.name_sums.new.pool.trees (plain_linear c.in_ok-named.named) c.in_ok-named.ensures.fits

pub returns-clause-conditions : goal.returns-clause-conditions
returns-clause-conditions c =
    have_none c.name_sums.new.sig c.name_sums.ensures.grown.stands c.name_sums.new.pool.trees c.tidy_conditions.new.pool.trees c.tidy_conditions.ensures.kept (plain_linear c.in_ok-named.named) (plain_linear c.in_ok-tidy.tidy) c.in_ok-named.ensures.fits c.in_ok-tidy.ensures.tidied

pub returns-clause-linear : goal.returns-clause-linear
returns-clause-linear c =
    let g = c.args.sig.now in
    let m = plain_model c.args.guarded.now.model.now in
    let n = plain_network c.args.network.now in
    let p = c.args.pool.now in
    let d = c.linear_components.new.sig in
    let q = c.linear_components.new.pool in
    let ls = map plain_linear c.in_ok-parts.parts.items in
    let made = subst (λ cs. AreLeavesMade c.args.method g p d q m cs ls) (ap (map plain_component) c.as_slice.ensures.value ∙ c.in_ok-components.ensures) c.in_ok-parts.ensures.made in
    let composed = c.in_ok-composed.ensures.composed (record { signature = g; trees = p.trees; model = m }) [] (network_can_be_composed c.args.method g d p q m n ls c.requires.can made) in
    let leads : LeadsToLinear g (network_process (entries_of g p.trees) m n) c.name_sums.new.sig c.name_sums.new.pool.trees (plain_linear c.in_ok-named.named) =
    network_leads c.args.method g d c.compose.new.sig c.name_sums.new.sig p q c.compose.new.pool.trees c.name_sums.new.pool.trees m n ls (map plain_linear c.compose.new.parts.items) (plain_linear c.in_ok-composed.composed) (plain_linear c.in_ok-named.named)
    made c.compose.ensures.grown c.name_sums.ensures.grown c.name_sums.ensures.kept composed c.in_ok-named.ensures.named c.in_ok-named.ensures.fits c.in_ok-named.ensures.names c.in_ok-named.ensures.bisimilar in
    tidying_leads g c.name_sums.new.sig (network_process (entries_of g p.trees) m n) c.name_sums.new.pool.trees c.tidy_conditions.new.pool.trees (plain_linear c.in_ok-named.named) (plain_linear c.in_ok-tidy.tidy) c.tidy_conditions.ensures.kept c.in_ok-tidy.ensures.tidied leads

-- ---- plain conditions
pub returns-clause-plain : goal.returns-clause-plain
returns-clause-plain c =
    let g = c.args.sig.now in
    let m = plain_model c.args.guarded.now.model.now in
    let n = plain_network c.args.network.now in
    let p = c.args.pool.now in
    let d = c.linear_components.new.sig in
    let q = c.linear_components.new.pool in
    let ls = map plain_linear c.in_ok-parts.parts.items in
    let w = written_in_model (entries_of g p.trees) m in
    let ready = c.requires.can.ready in
    let grow : BothGrow g d p.trees q.trees = record { signature = c.linear_components.ensures.grown; pool = c.linear_components.ensures.kept } in
    let stands = c.in_ok-parts.ensures.made.ready.stands in
    let leaves_plain = subst (λ cs. ArePlainLeaves g p d q m cs ls) (ap (map plain_component) c.as_slice.ensures.value ∙ c.in_ok-components.ensures) c.in_ok-parts.ensures.plain in
    let all = leaves_are_plain g d p q ready.stands stands grow m n ready.fits c.requires.opened ls leaves_plain in
    let composed = c.in_ok-composed.ensures.plain g w c.linear_components.ensures.grown (comms_are_written g d p q ready.stands stands grow m n ready.fits c.requires.opened) all in
    tidying_is_plain g c.name_sums.new.sig c.name_sums.new.pool c.tidy_conditions.new.pool w (plain_linear c.in_ok-named.named) (plain_linear c.in_ok-tidy.tidy) c.name_sums.ensures.grown.stands c.tidy_conditions.ensures.kept c.in_ok-tidy.ensures.tidied
    (naming_is_plain g c.compose.new.sig c.name_sums.new.sig c.compose.new.pool c.name_sums.new.pool w (plain_linear c.in_ok-composed.composed) (plain_linear c.in_ok-named.named) c.compose.ensures.grown.stands c.name_sums.ensures.grown c.name_sums.ensures.kept c.in_ok-named.ensures.named c.in_ok-named.ensures.fits composed.0)

pub returns-clause-sorts : goal.returns-clause-sorts
returns-clause-sorts c = λ none.
    c.name_sums.ensures.grown.sorts ∙ c.compose.ensures.grown.sorts ∙ c.in_ok-parts.ensures.sorts (subst (All (NeedsNoStack c.args.method (plain_model c.args.guarded.now.model.now))) (sym (ap (map plain_component) c.as_slice.ensures.value ∙ c.in_ok-components.ensures)) none)

-- ---- what it is composed of
pub returns-clause-composed : goal.returns-clause-composed
returns-clause-composed c =
    let g = c.args.sig.now in
    let m = plain_model c.args.guarded.now.model.now in
    let n = plain_network c.args.network.now in
    let p = c.args.pool.now in
    let d = c.linear_components.new.sig in
    let q = c.linear_components.new.pool in
    let ls = map plain_linear c.in_ok-parts.parts.items in
    let l = plain_linear c.in_ok-composed.composed in
    let made = subst (λ cs. AreLeavesMade c.args.method g p d q m cs ls) (ap (map plain_component) c.as_slice.ensures.value ∙ c.in_ok-components.ensures) c.in_ok-parts.ensures.made in
    let composed = c.in_ok-composed.ensures.composed (record { signature = g; trees = p.trees; model = m }) [] (network_can_be_composed c.args.method g d p q m n ls c.requires.can made) in
    record {
      with_leaves = d;
      pool = q;
      parts = ls;
      are_made = made;
      with_products = c.compose.new.sig;
      trees = c.compose.new.pool.trees;
      composed = l;
      is_composed = subst (λ left. ComposedFrom everything d q.trees n ls c.compose.new.sig c.compose.new.pool.trees left l) composed.is_left c.in_ok-composed.ensures.from;
      named_trees = c.name_sums.new.pool.trees;
      named = plain_linear c.in_ok-named.named;
      is_named = c.in_ok-named.ensures.named;
      is_tidied = c.in_ok-tidy.ensures.tidied;
    }

-- ---- what a linear text writes
pub returns-clause-keeps : goal.returns-clause-keeps
returns-clause-keeps c =
    let g = c.args.sig.now in
    let m = plain_model c.args.guarded.now.model.now in
    let n = plain_network c.args.network.now in
    let p = c.args.pool.now in
    let d = c.linear_components.new.sig in
    let q = c.linear_components.new.pool in
    let ls = map plain_linear c.in_ok-parts.parts.items in
    let are = ap (map plain_component) c.as_slice.ensures.value ∙ c.in_ok-components.ensures in
    let made = subst (λ cs. AreLeavesMade c.args.method g p d q m cs ls) are c.in_ok-parts.ensures.made in
    let keeps = subst (λ cs. AllZip (KeepsComponent c.args.method (entries_of d q.trees) m) cs ls) are c.in_ok-parts.ensures.keeps in
    network_kept c.args.method g d c.compose.new.sig c.name_sums.new.sig p q c.compose.new.pool c.name_sums.new.pool.trees c.tidy_conditions.new.pool.trees m n ls (map plain_linear c.compose.new.parts.items) (plain_linear c.in_ok-composed.composed) (plain_linear c.in_ok-named.named) (plain_linear c.in_ok-tidy.tidy)
    c.requires.can.ready c.requires.can.leaves_fit made keeps c.in_ok-composed.ensures.first c.linear_components.ensures.grown c.linear_components.ensures.kept c.compose.ensures.grown c.compose.ensures.kept c.name_sums.ensures.grown c.name_sums.ensures.kept c.in_ok-named.ensures.named c.in_ok-named.ensures.fits c.tidy_conditions.ensures.kept c.in_ok-tidy.ensures.tidied
