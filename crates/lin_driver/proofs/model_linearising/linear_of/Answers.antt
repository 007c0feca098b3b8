use Rattle.std.proofs.Common.{sym, subst, ◌∙◌}
use Rattle.std.specs.List.{All}
use Rattle.term_pool.proofs.DeclaredConstants.{grown_itself}
use Rattle.process_terms.specs.PlainProcesses.{plain_model}
use Rattle.process_terms.specs.SignatureEntries.{entries_of, BothGrow}
use Rattle.lps_core.specs.PlainLinears.{plain_linear}
use Rattle.lps_core.proofs.PoolTrees.{extends_itself}
use Rattle.proc_unfold.specs.Networks.{network_process, plain_network}
use Rattle.proc_unfold.specs.Unfolded.{IsOpened}
use Rattle.proc_unfold.proofs.WellFormed.{well_formed_calls}
use Rattle.greibach.proofs.GrownFits.{both_by_names}
use Rattle.lin_driver.specs.AddedSorts.{NeedsNoStack}
use Rattle.lin_driver.specs.Faults.{IsModelFaultBy}
use Rattle.lin_driver.specs.KeptTexts.{KeepsNetwork}
use Rattle.lin_driver.specs.Leaves.{leaves}
use Rattle.lin_driver.specs.LinearLeaves.{IsLeavesFaultOf}
use Rattle.lin_driver.specs.MadeFromLeaves.{IsMadeFromLeaves}
use Rattle.lin_driver.specs.ModelLinears.{CanBeLinearFrom, LeadsToLinear}
use Rattle.lin_driver.specs.PlainlyMade.{IsPlainFor, written_in_model}
use Rattle.lin_driver.proofs.GrownModels.{model_grows}
use Rattle.lin_driver.proofs.KeptTexts.{model_kept}
use Rattle.lin_driver.proofs.MadeLeaves.{passed_on}
use Rattle.lin_driver.proofs.ModelLinears.{network_can_be_linear, from_the_network, leaves_refused}
use Rattle.lin_driver.proofs.ProcessNames.{name_stays}
use Rattle.lin_driver.proofs.PlainGrowing.{plain_since}
use Rattle.lin_driver.proofs.PlainModels.{model_writes}
use Rattle.lin_driver.proofs.model_linearising.linear_of.Goals as goal

pub returns-in_err-network-clause-grown : goal.returns-in_err-network-clause-grown
returns-in_err-network-clause-grown c = grown_itself c.args.sig.now

pub check-requires : goal.check-requires
check-requires c = well_formed_calls c.args.pool.now.trees (plain_model c.args.model.now) (record { signature = c.args.sig.now; stands = c.requires.stands; fits = c.requires.fits })

pub returns-in_err-guarded-clause-grown : goal.returns-in_err-guarded-clause-grown
returns-in_err-guarded-clause-grown c = grown_itself c.args.sig.now

pub linear_of_network-requires-clause-can : goal.linear_of_network-requires-clause-can
linear_of_network-requires-clause-can c =
    subst (λ m. CanBeLinearFrom c.name_process.new.sig c.open_network.new.pool (plain_model m) (plain_network c.in_ok-network.network)) (sym c.in_ok-guarded.ensures.model)
    (network_can_be_linear c.args.sig.now c.name_process.new.sig c.args.pool.now c.open_network.new.pool (plain_model c.args.model.now) (plain_network c.in_ok-network.network) c.requires c.name_process.ensures.grown c.in_ok-name.ensures.names
    c.open_network.ensures.kept c.open_network.ensures.constants c.in_ok-network.ensures.opened c.in_ok-network.ensures.components)

pub returns-clause-linear : goal.returns-clause-linear
returns-clause-linear c =
    let g = c.args.sig.now in
    let b = c.name_process.new.sig in
    let h = c.linear_of_network.new.sig in
    let ts = c.open_network.new.pool.trees in
    let us = c.linear_of_network.new.pool.trees in
    let m = plain_model c.args.model.now in
    let n = plain_network c.in_ok-network.network in
    let w = c.name_process.ensures.grown in
    let grow : BothGrow b h ts us = record { signature = c.linear_of_network.ensures.grown; pool = c.linear_of_network.ensures.kept } in
    let before = model_grows g b c.args.pool.now.trees c.args.pool.now.trees c.requires.stands (both_by_names g b c.args.pool.now.trees c.args.pool.now.trees w (extends_itself c.args.pool.now.trees)) m c.requires.fits in
    let fits = model_grows g b c.args.pool.now.trees ts c.requires.stands (both_by_names g b c.args.pool.now.trees ts w c.open_network.ensures.kept) m c.requires.fits in
    from_the_network g b h ts us m n (plain_linear c.in_ok-linear.linear) c.requires.stands w grow fits (c.in_ok-network.ensures.same b w.stands before)
    (subst (λ z. LeadsToLinear b (network_process (entries_of b ts) (plain_model z) n) h us (plain_linear c.in_ok-linear.linear)) c.in_ok-guarded.ensures.model c.in_ok-linear.ensures.linear)

pub returns-clause-name : goal.returns-clause-name
returns-clause-name c = name_stays c.args.sig.now c.name_process.new.sig c.linear_of_network.new.sig c.in_ok-name.name c.in_ok-name.ensures.name c.linear_of_network.ensures.grown

pub returns-clause-components : goal.returns-clause-components
returns-clause-components c = record { trees = c.open_network.new.pool.trees; network = plain_network c.in_ok-network.network; opened = c.in_ok-network.ensures.opened; counted = c.in_ok-linear.ensures.components }

pub returns-in_err-linear-clause-refused : goal.returns-in_err-linear-clause-refused
returns-in_err-linear-clause-refused c =
    leaves_refused c.from_residual-in_err-linear.result (plain_model c.args.model.now) c.open_network.new.pool.trees (plain_network c.in_ok-network.network) c.in_err-linear.field-0.0 c.in_ok-network.ensures.outside c.in_ok-guarded.ensures.guarded c.in_ok-network.ensures.opened
    (subst (λ z. IsLeavesFaultOf (plain_model z) (leaves (plain_network c.in_ok-network.network)) c.in_err-linear.field-0.0) c.in_ok-guarded.ensures.model c.in_err-linear.ensures.refused) c.from_residual-in_err-linear.ensures.1

pub returns-in_err-linear-clause-by : goal.returns-in_err-linear-clause-by
returns-in_err-linear-clause-by c = passed_on (IsModelFaultBy c.args.method) c.from_residual-in_err-linear.result c.in_err-linear.field-0.0 c.in_err-linear.ensures.by c.from_residual-in_err-linear.ensures.1

pub linear_of_network-requires-clause-opened : goal.linear_of_network-requires-clause-opened
linear_of_network-requires-clause-opened c = subst (λ m. IsOpened (plain_model m) c.open_network.new.pool.trees (plain_network c.in_ok-network.network)) (sym c.in_ok-guarded.ensures.model) c.in_ok-network.ensures.opened

-- ---- plain conditions
pub returns-clause-plain : goal.returns-clause-plain
returns-clause-plain c =
    let g = c.args.sig.now in
    let b = c.name_process.new.sig in
    let h = c.linear_of_network.new.sig in
    let p = c.open_network.new.pool in
    let q = c.linear_of_network.new.pool in
    let m = plain_model c.args.model.now in
    let l = plain_linear c.in_ok-linear.linear in
    let w = c.name_process.ensures.grown in
    let grow : BothGrow b h p.trees q.trees = record { signature = c.linear_of_network.ensures.grown; pool = c.linear_of_network.ensures.kept } in
    let fits = model_grows g b c.args.pool.now.trees p.trees c.requires.stands (both_by_names g b c.args.pool.now.trees p.trees w c.open_network.ensures.kept) m c.requires.fits in
    let own = subst (λ z. IsPlainFor b h q (written_in_model (entries_of b p.trees) (plain_model z)) l) c.in_ok-guarded.ensures.model c.in_ok-linear.ensures.plain in
    subst (λ z. IsPlainFor g h q z l) (sym (model_writes b h p q m w.stands grow fits)) (plain_since g b h q (written_in_model (entries_of b p.trees) m) l c.requires.stands w.stands w.grown own)

pub returns-clause-sorts : goal.returns-clause-sorts
returns-clause-sorts c = λ none.
    let ts = c.open_network.new.pool.trees in
    let n = plain_network c.in_ok-network.network in
    c.in_ok-linear.ensures.sorts (subst (λ z. All (NeedsNoStack c.args.method (plain_model z)) (leaves n)) (sym c.in_ok-guarded.ensures.model) (none ts n c.in_ok-network.ensures.opened)) ∙ c.name_process.ensures.grown.sorts

-- ---- what it is composed of
pub returns-clause-composed : goal.returns-clause-composed
returns-clause-composed c =
    let h = c.linear_of_network.new.sig in
    let us = c.linear_of_network.new.pool.trees in
    let n = plain_network c.in_ok-network.network in
    record {
      signature = c.name_process.new.sig;
      pool = c.open_network.new.pool;
      network = n;
      opened = c.in_ok-network.ensures.opened;
      made = subst (λ z. IsMadeFromLeaves c.args.method c.name_process.new.sig c.open_network.new.pool (plain_model z) n h us (plain_linear c.in_ok-linear.linear)) c.in_ok-guarded.ensures.model c.in_ok-linear.ensures.composed;
    }

-- ---- what a linear text writes
pub returns-clause-keeps : goal.returns-clause-keeps
returns-clause-keeps c =
    let g = c.args.sig.now in
    let b = c.name_process.new.sig in
    let h = c.linear_of_network.new.sig in
    let ts = c.open_network.new.pool.trees in
    let us = c.linear_of_network.new.pool.trees in
    let m = plain_model c.args.model.now in
    let n = plain_network c.in_ok-network.network in
    let l = plain_linear c.in_ok-linear.linear in
    let w = c.name_process.ensures.grown in
    let grow : BothGrow b h ts us = record { signature = c.linear_of_network.ensures.grown; pool = c.linear_of_network.ensures.kept } in
    let fits = model_grows g b c.args.pool.now.trees ts c.requires.stands (both_by_names g b c.args.pool.now.trees ts w c.open_network.ensures.kept) m c.requires.fits in
    model_kept c.args.method h ts us m n l c.in_ok-linear.ensures.linear.stands (model_grows b h ts us w.stands grow m fits) c.linear_of_network.ensures.kept c.in_ok-network.ensures.call
    (subst (λ z. KeepsNetwork c.args.method (entries_of h us) (plain_model z) n l) c.in_ok-guarded.ensures.model c.in_ok-linear.ensures.keeps)
