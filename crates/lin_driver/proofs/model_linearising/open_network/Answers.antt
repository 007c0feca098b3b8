use Rattle.std.proofs.Common.{sym, subst}
use Rattle.process_terms.specs.PlainProcesses.{plain_model}
use Rattle.proc_unfold.specs.Networks.{plain_network}
use Rattle.proc_unfold.specs.Unfolded.{HasItsComponents, IsOpened, IsSameNetwork}
use Rattle.lin_driver.specs.SettledNetworks.{KeepsTheCall}
use Rattle.lin_driver.proofs.SettledNetworks.{settled_is_opened, settled_is_same, settled_has_its_components, settled_keeps_the_call}
use Rattle.lin_driver.proofs.model_linearising.open_network.Goals as goal

pub returns-in-Ok-clause-opened : goal.returns-in-Ok-clause-opened
returns-in-Ok-clause-opened c =
    let m = plain_model c.args.model.now in
    let ts = c.unfold.new.pool.trees in
    subst (IsOpened m ts) (sym c.settle.ensures) (settled_is_opened m ts (plain_network c.in-Ok.network) c.in-Ok.ensures.opened)

pub returns-in-Ok-clause-same : goal.returns-in-Ok-clause-same
returns-in-Ok-clause-same c = λ g s fits.
    let m = plain_model c.args.model.now in
    let ts = c.unfold.new.pool.trees in
    subst (IsSameNetwork g ts m) (sym c.settle.ensures) (settled_is_same g ts m (plain_network c.in-Ok.network) (c.in-Ok.ensures.same g s fits))

pub returns-in-Ok-clause-components : goal.returns-in-Ok-clause-components
returns-in-Ok-clause-components c = λ g s fits.
    let m = plain_model c.args.model.now in
    let ts = c.unfold.new.pool.trees in
    subst (HasItsComponents g ts m) (sym c.settle.ensures) (settled_has_its_components g ts m (plain_network c.in-Ok.network) (c.in-Ok.ensures.components g s fits))

pub returns-in-Ok-clause-call : goal.returns-in-Ok-clause-call
returns-in-Ok-clause-call c =
    let m = plain_model c.args.model.now in
    let ts = c.unfold.new.pool.trees in
    subst (KeepsTheCall m ts) (sym c.settle.ensures) (settled_keeps_the_call m ts (plain_network c.in-Ok.network) c.in-Ok.ensures.opened)
