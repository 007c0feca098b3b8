use Rattle.std.proofs.Common.{◌∙◌, sym, ap, subst}
use Rattle.process_terms.specs.PlainProcesses.{items_of_each, plain_rules, allow, block, hide, rename}
use Rattle.process_terms.specs.SignatureEntries.{entries_of}
use Rattle.lps_core.specs.PlainLinears.{plain_linear}
use Rattle.action_filters.specs.Filters.{naming, renamed_label, RenamesOnce, HaveTargets}
use Rattle.action_filters.specs.LabelFilters.{allowed_label, unblocked_label, shown_label}
use Rattle.proc_unfold.specs.Networks.{plain_operator}
use Rattle.lin_driver.specs.FittingOperators.{OperatorFits}
use Rattle.lin_driver.proofs.ComposedNetworks.{same_around, is_around, is_communicated}
use Rattle.lin_driver.proofs.PlainFilters.{allowed_keeps, unblocked_keeps, shown_keeps, renamed_keeps}
use Rattle.lin_driver.proofs.PlainNetworks.{filtered_around, communicated_around}
use Rattle.lin_driver.proofs.composing.around.Goals as goal

pub rename-requires-clause-once : goal.rename-requires-clause-once
rename-requires-clause-once c =
    let fits = subst (OperatorFits c.args.sig.now) (ap plain_operator c.in-Rename.is) c.requires.operator in
    subst RenamesOnce (sym c.as_slice-in-Rename.ensures.value) fits.once

pub rename-requires-clause-targets : goal.rename-requires-clause-targets
rename-requires-clause-targets c =
    let fits = subst (OperatorFits c.args.sig.now) (ap plain_operator c.in-Rename.is) c.requires.operator in
    subst (HaveTargets c.args.sig.now) (sym c.as_slice-in-Rename.ensures.value) fits.targets

pub returns-in-Allow-clause-bisimilar : goal.returns-in-Allow-clause-bisimilar
returns-in-Allow-clause-bisimilar c =
    same_around c.allow.result c.args.sig.now _ (plain_operator c.args.operator.now) (allow (items_of_each c.as_slice.result.now)) (plain_linear c.args.linear.now)
    (ap (λ sets. allow (items_of_each sets)) c.as_slice.ensures.value ∙ sym (ap plain_operator c.in-Allow.is)) c.requires.fits c.allow.ensures.bisimilar

pub returns-in-Block-clause-bisimilar : goal.returns-in-Block-clause-bisimilar
returns-in-Block-clause-bisimilar c =
    same_around c.block.result c.args.sig.now _ (plain_operator c.args.operator.now) (block c.as_slice-in-Block.result.now) (plain_linear c.args.linear.now)
    (ap block c.as_slice-in-Block.ensures.value ∙ sym (ap plain_operator c.in-Block.is)) c.requires.fits c.block.ensures.bisimilar

pub returns-in-Hide-clause-bisimilar : goal.returns-in-Hide-clause-bisimilar
returns-in-Hide-clause-bisimilar c =
    same_around c.hide.result c.args.sig.now _ (plain_operator c.args.operator.now) (hide c.as_slice-in-Hide.result.now) (plain_linear c.args.linear.now)
    (ap hide c.as_slice-in-Hide.ensures.value ∙ sym (ap plain_operator c.in-Hide.is)) c.requires.fits c.hide.ensures.bisimilar

pub returns-in-Rename-clause-bisimilar : goal.returns-in-Rename-clause-bisimilar
returns-in-Rename-clause-bisimilar c =
    same_around c.rename.result c.args.sig.now _ (plain_operator c.args.operator.now) (rename c.as_slice-in-Rename.result.now) (plain_linear c.args.linear.now)
    (ap rename c.as_slice-in-Rename.ensures.value ∙ sym (ap plain_operator c.in-Rename.is)) c.requires.fits c.rename.ensures.bisimilar

-- ---- plain conditions
pub returns-in-Allow-clause-plain : goal.returns-in-Allow-clause-plain
returns-in-Allow-clause-plain c =
    let g = c.args.sig.now in
    let sets = items_of_each c.as_slice.result.now in
    filtered_around c.allow.result g c.args.pool.now (plain_operator c.args.operator.now) (plain_linear c.args.linear.now) (allowed_label (naming g) sets) (allowed_keeps (entries_of g c.args.pool.now.trees) (naming g) sets) c.requires.fits c.allow.ensures.summands c.allow.ensures.fits

pub returns-in-Block-clause-plain : goal.returns-in-Block-clause-plain
returns-in-Block-clause-plain c =
    let g = c.args.sig.now in
    let names = c.as_slice-in-Block.result.now in
    filtered_around c.block.result g c.args.pool.now (plain_operator c.args.operator.now) (plain_linear c.args.linear.now) (unblocked_label (naming g) names) (unblocked_keeps (entries_of g c.args.pool.now.trees) (naming g) names) c.requires.fits c.block.ensures.summands c.block.ensures.fits

pub returns-in-Hide-clause-plain : goal.returns-in-Hide-clause-plain
returns-in-Hide-clause-plain c =
    let g = c.args.sig.now in
    let names = c.as_slice-in-Hide.result.now in
    filtered_around c.hide.result g c.args.pool.now (plain_operator c.args.operator.now) (plain_linear c.args.linear.now) (shown_label (naming g) names) (shown_keeps (entries_of g c.args.pool.now.trees) (naming g) names) c.requires.fits c.hide.ensures.summands c.hide.ensures.fits

pub returns-in-Rename-clause-plain : goal.returns-in-Rename-clause-plain
returns-in-Rename-clause-plain c =
    let g = c.args.sig.now in
    let pairs = c.as_slice-in-Rename.result.now in
    filtered_around c.rename.result g c.args.pool.now (plain_operator c.args.operator.now) (plain_linear c.args.linear.now) (renamed_label g pairs) (renamed_keeps (entries_of g c.args.pool.now.trees) g pairs) c.requires.fits c.rename.ensures.summands c.rename.ensures.fits

pub returns-in-Comm-clause-plain : goal.returns-in-Comm-clause-plain
returns-in-Comm-clause-plain c =
    communicated_around c.communicate.result c.args.sig.now c.args.pool.now c.communicate.new.pool (plain_operator c.args.operator.now) (plain_rules c.in-Comm.rules) (plain_linear c.args.linear.now) (ap plain_operator c.in-Comm.is) c.signature_stands.ensures c.communicate.ensures.kept c.requires.fits
    c.communicate.ensures.params c.communicate.ensures.init c.communicate.ensures.summands c.communicate.ensures.fits

-- ---- what is made
pub returns-in-Allow-clause-around : goal.returns-in-Allow-clause-around
returns-in-Allow-clause-around c =
    is_around c.allow.result c.args.sig.now c.args.pool.now.trees c.args.pool.now.trees (plain_operator c.args.operator.now) (allow (items_of_each c.as_slice.result.now)) (plain_linear c.args.linear.now)
    (ap (λ sets. allow (items_of_each sets)) c.as_slice.ensures.value ∙ sym (ap plain_operator c.in-Allow.is)) c.allow.ensures.summands

pub returns-in-Block-clause-around : goal.returns-in-Block-clause-around
returns-in-Block-clause-around c =
    is_around c.block.result c.args.sig.now c.args.pool.now.trees c.args.pool.now.trees (plain_operator c.args.operator.now) (block c.as_slice-in-Block.result.now) (plain_linear c.args.linear.now)
    (ap block c.as_slice-in-Block.ensures.value ∙ sym (ap plain_operator c.in-Block.is)) c.block.ensures.summands

pub returns-in-Hide-clause-around : goal.returns-in-Hide-clause-around
returns-in-Hide-clause-around c =
    is_around c.hide.result c.args.sig.now c.args.pool.now.trees c.args.pool.now.trees (plain_operator c.args.operator.now) (hide c.as_slice-in-Hide.result.now) (plain_linear c.args.linear.now)
    (ap hide c.as_slice-in-Hide.ensures.value ∙ sym (ap plain_operator c.in-Hide.is)) c.hide.ensures.summands

pub returns-in-Rename-clause-around : goal.returns-in-Rename-clause-around
returns-in-Rename-clause-around c =
    is_around c.rename.result c.args.sig.now c.args.pool.now.trees c.args.pool.now.trees (plain_operator c.args.operator.now) (rename c.as_slice-in-Rename.result.now) (plain_linear c.args.linear.now)
    (ap rename c.as_slice-in-Rename.ensures.value ∙ sym (ap plain_operator c.in-Rename.is)) c.rename.ensures.summands

pub returns-in-Comm-clause-around : goal.returns-in-Comm-clause-around
returns-in-Comm-clause-around c =
    is_communicated c.communicate.result c.args.sig.now c.args.pool.now.trees c.communicate.new.pool.trees (plain_operator c.args.operator.now) (plain_rules c.in-Comm.rules) (plain_linear c.args.linear.now) (ap plain_operator c.in-Comm.is)
    c.communicate.ensures.params c.communicate.ensures.init c.communicate.ensures.summands
