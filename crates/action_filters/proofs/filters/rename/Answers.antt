use Rattle.std.proofs.Common.{◌≡◌, List, sym, ap, subst, ◌∙◌}
use Rattle.data_theory.specs.IdTrees.{Tree}
use Rattle.process_terms.specs.PlainProcesses.{rename}
use Rattle.process_terms.specs.SignatureEntries.{entries_of}
use Rattle.lps_core.specs.PlainLinears.{plain_linear, linear_of}
use Rattle.lps_core.specs.Fitting.{Fits}
use Rattle.action_filters.specs.Filters.{renamed, IsGoodAround}
use Rattle.action_filters.specs.Means.{MeansRenaming}
use Rattle.action_filters.proofs.Loops.{if_ok}
use Rattle.action_filters.proofs.SameOutcomes.{renamed_same}
use Rattle.action_filters.proofs.FirstPairs.{same_new_name, same_targets}
use Rattle.action_filters.proofs.Whole.{summands_in, rename_fits, rename_good, rename_means}
use Rattle.action_filters.proofs.filters.rename.Goals as goal

pub with_filter-requires-clause-actions : goal.with_filter-requires-clause-actions
with_filter-requires-clause-actions c = summands_in c.args.sig.now c.requires.fits.0 (plain_linear c.args.lin.now).params (plain_linear c.args.lin.now).summands c.requires.fits.1.summands

pub returns-clause-fits : goal.returns-clause-fits
returns-clause-fits c = if_ok c.with_filter.result (λ made. plain_linear made ≡ renamed c.args.sig.now c.in_ok-index.index.entries (plain_linear c.args.lin.now))
    (λ made. (ts : List Tree) → Fits c.args.sig.now ts (plain_linear c.args.lin.now) → Fits c.args.sig.now ts (plain_linear made))
    (λ made e ts fits. subst (λ z. Fits c.args.sig.now ts z) (sym (e ∙ renamed_same c.args.sig.now (plain_linear c.args.lin.now) c.in_ok-index.index.entries c.args.pairs.now (same_new_name c.in_ok-index.ensures))) (rename_fits c.args.sig.now ts (plain_linear c.args.lin.now) c.signature_stands.ensures fits c.args.pairs.now c.requires.names c.requires.once c.requires.targets)) c.with_filter.ensures

pub returns-clause-bisimilar : goal.returns-clause-bisimilar
returns-clause-bisimilar c = if_ok c.with_filter.result (λ made. plain_linear made ≡ renamed c.args.sig.now c.in_ok-index.index.entries (plain_linear c.args.lin.now))
    (λ made. (ts : List Tree) → Fits c.args.sig.now ts (plain_linear c.args.lin.now) → IsGoodAround c.args.sig.now ts (rename c.args.pairs.now) (plain_linear c.args.lin.now) (plain_linear made))
    (λ made e ts fits. subst (λ z. IsGoodAround c.args.sig.now ts (rename c.args.pairs.now) (plain_linear c.args.lin.now) z) (sym (e ∙ renamed_same c.args.sig.now (plain_linear c.args.lin.now) c.in_ok-index.index.entries c.args.pairs.now (same_new_name c.in_ok-index.ensures))) (rename_good c.args.sig.now ts (plain_linear c.args.lin.now) c.signature_stands.ensures fits c.args.pairs.now c.requires.names c.requires.once c.requires.targets)) c.with_filter.ensures

pub returns-clause-means : goal.returns-clause-means
returns-clause-means c = if_ok c.with_filter.result (λ made. plain_linear made ≡ renamed c.args.sig.now c.in_ok-index.index.entries (plain_linear c.args.lin.now))
    (λ made. MeansRenaming c.args.sig.now c.args.pairs.now (plain_linear c.args.lin.now) (plain_linear made))
    (λ made e ts fits. ap (λ z. linear_of (entries_of c.args.sig.now ts) z) (e ∙ renamed_same c.args.sig.now (plain_linear c.args.lin.now) c.in_ok-index.index.entries c.args.pairs.now (same_new_name c.in_ok-index.ensures)) ∙ rename_means c.args.sig.now ts (plain_linear c.args.lin.now) c.signature_stands.ensures fits c.args.pairs.now c.requires.names c.requires.once c.requires.targets) c.with_filter.ensures

pub returns-clause-summands : goal.returns-clause-summands
returns-clause-summands c = if_ok c.with_filter.result (λ made. plain_linear made ≡ renamed c.args.sig.now c.in_ok-index.index.entries (plain_linear c.args.lin.now)) (λ made. plain_linear made ≡ renamed c.args.sig.now c.args.pairs.now (plain_linear c.args.lin.now))
    (λ made e. e ∙ renamed_same c.args.sig.now (plain_linear c.args.lin.now) c.in_ok-index.index.entries c.args.pairs.now (same_new_name c.in_ok-index.ensures)) c.with_filter.ensures

pub with_filter-requires-clause-serves : goal.with_filter-requires-clause-serves
with_filter-requires-clause-serves c = same_targets c.args.sig.now c.in_ok-index.ensures c.requires.targets
