use Rattle.std.proofs.Common.{◌≡◌, List, sym, ap, subst, ◌∙◌}
use Rattle.data_theory.specs.IdTrees.{Tree}
use Rattle.process_terms.specs.PlainProcesses.{hide}
use Rattle.process_terms.specs.SignatureEntries.{entries_of}
use Rattle.lps_core.specs.PlainLinears.{plain_linear, linear_of}
use Rattle.lps_core.specs.Fitting.{Fits}
use Rattle.action_filters.specs.Filters.{hidden, IsGoodAround}
use Rattle.action_filters.specs.Means.{MeansHiding}
use Rattle.action_filters.proofs.Loops.{if_ok}
use Rattle.action_filters.proofs.SameOutcomes.{hidden_same}
use Rattle.action_filters.proofs.Whole.{summands_in, hide_fits, hide_good, hide_means}
use Rattle.action_filters.proofs.filters.hide.Goals as goal

pub with_filter-requires-clause-actions : goal.with_filter-requires-clause-actions
with_filter-requires-clause-actions c = summands_in c.args.sig.now c.requires.fits.0 (plain_linear c.args.lin.now).params (plain_linear c.args.lin.now).summands c.requires.fits.1.summands

pub returns-clause-fits : goal.returns-clause-fits
returns-clause-fits c = if_ok c.with_filter.result (λ made. plain_linear made ≡ hidden c.args.sig.now c.in_ok-index.index.keys (plain_linear c.args.lin.now))
    (λ made. (ts : List Tree) → Fits c.args.sig.now ts (plain_linear c.args.lin.now) → Fits c.args.sig.now ts (plain_linear made))
    (λ made e ts fits. subst (λ z. Fits c.args.sig.now ts z) (sym (e ∙ hidden_same c.args.sig.now (plain_linear c.args.lin.now) c.in_ok-index.index.keys c.args.names.now c.in_ok-index.ensures)) (hide_fits c.args.sig.now ts (plain_linear c.args.lin.now) c.signature_stands.ensures fits c.args.names.now c.requires.names)) c.with_filter.ensures

pub returns-clause-bisimilar : goal.returns-clause-bisimilar
returns-clause-bisimilar c = if_ok c.with_filter.result (λ made. plain_linear made ≡ hidden c.args.sig.now c.in_ok-index.index.keys (plain_linear c.args.lin.now))
    (λ made. (ts : List Tree) → Fits c.args.sig.now ts (plain_linear c.args.lin.now) → IsGoodAround c.args.sig.now ts (hide c.args.names.now) (plain_linear c.args.lin.now) (plain_linear made))
    (λ made e ts fits. subst (λ z. IsGoodAround c.args.sig.now ts (hide c.args.names.now) (plain_linear c.args.lin.now) z) (sym (e ∙ hidden_same c.args.sig.now (plain_linear c.args.lin.now) c.in_ok-index.index.keys c.args.names.now c.in_ok-index.ensures)) (hide_good c.args.sig.now ts (plain_linear c.args.lin.now) c.signature_stands.ensures fits c.args.names.now c.requires.names)) c.with_filter.ensures

pub returns-clause-means : goal.returns-clause-means
returns-clause-means c = if_ok c.with_filter.result (λ made. plain_linear made ≡ hidden c.args.sig.now c.in_ok-index.index.keys (plain_linear c.args.lin.now))
    (λ made. MeansHiding c.args.sig.now c.args.names.now (plain_linear c.args.lin.now) (plain_linear made))
    (λ made e ts fits. ap (λ z. linear_of (entries_of c.args.sig.now ts) z) (e ∙ hidden_same c.args.sig.now (plain_linear c.args.lin.now) c.in_ok-index.index.keys c.args.names.now c.in_ok-index.ensures) ∙ hide_means c.args.sig.now ts (plain_linear c.args.lin.now) c.signature_stands.ensures fits c.args.names.now c.requires.names) c.with_filter.ensures

pub returns-clause-summands : goal.returns-clause-summands
returns-clause-summands c = if_ok c.with_filter.result (λ made. plain_linear made ≡ hidden c.args.sig.now c.in_ok-index.index.keys (plain_linear c.args.lin.now)) (λ made. plain_linear made ≡ hidden c.args.sig.now c.args.names.now (plain_linear c.args.lin.now))
    (λ made e. e ∙ hidden_same c.args.sig.now (plain_linear c.args.lin.now) c.in_ok-index.index.keys c.args.names.now c.in_ok-index.ensures) c.with_filter.ensures
