use Rattle.std.proofs.Common.{◌≡◌, List, sym, ap, subst, ◌∙◌}
use Rattle.data_theory.specs.IdTrees.{Tree}
use Rattle.process_terms.specs.PlainProcesses.{items_of_each, allow}
use Rattle.process_terms.specs.SignatureEntries.{entries_of}
use Rattle.lps_core.specs.PlainLinears.{plain_linear, linear_of}
use Rattle.lps_core.specs.Fitting.{Fits}
use Rattle.action_filters.specs.Filters.{allowed, IsGoodAround}
use Rattle.action_filters.specs.Means.{MeansAllowing}
use Rattle.action_filters.proofs.Loops.{if_ok}
use Rattle.action_filters.proofs.SameOutcomes.{allowed_same}
use Rattle.action_filters.proofs.Whole.{summands_in, allow_fits, allow_good, allow_means}
use Rattle.action_filters.proofs.filters.allow.Goals as goal

pub with_filter-requires-clause-actions : goal.with_filter-requires-clause-actions
with_filter-requires-clause-actions c = summands_in c.args.sig.now c.requires.fits.0 (plain_linear c.args.lin.now).params (plain_linear c.args.lin.now).summands c.requires.fits.1.summands

pub returns-clause-fits : goal.returns-clause-fits
returns-clause-fits c = if_ok c.with_filter.result (λ made. plain_linear made ≡ allowed c.args.sig.now (items_of_each c.in_ok-index.index.keys) (plain_linear c.args.lin.now))
    (λ made. (ts : List Tree) → Fits c.args.sig.now ts (plain_linear c.args.lin.now) → Fits c.args.sig.now ts (plain_linear made))
    (λ made e ts fits. subst (λ z. Fits c.args.sig.now ts z) (sym (e ∙ allowed_same c.args.sig.now (plain_linear c.args.lin.now) (items_of_each c.in_ok-index.index.keys) (items_of_each c.args.sets.now) c.in_ok-index.ensures.same)) (allow_fits c.args.sig.now ts (plain_linear c.args.lin.now) c.signature_stands.ensures fits (items_of_each c.args.sets.now) c.requires.names)) c.with_filter.ensures

pub returns-clause-bisimilar : goal.returns-clause-bisimilar
returns-clause-bisimilar c = if_ok c.with_filter.result (λ made. plain_linear made ≡ allowed c.args.sig.now (items_of_each c.in_ok-index.index.keys) (plain_linear c.args.lin.now))
    (λ made. (ts : List Tree) → Fits c.args.sig.now ts (plain_linear c.args.lin.now) → IsGoodAround c.args.sig.now ts (allow (items_of_each c.args.sets.now)) (plain_linear c.args.lin.now) (plain_linear made))
    (λ made e ts fits. subst (λ z. IsGoodAround c.args.sig.now ts (allow (items_of_each c.args.sets.now)) (plain_linear c.args.lin.now) z) (sym (e ∙ allowed_same c.args.sig.now (plain_linear c.args.lin.now) (items_of_each c.in_ok-index.index.keys) (items_of_each c.args.sets.now) c.in_ok-index.ensures.same)) (allow_good c.args.sig.now ts (plain_linear c.args.lin.now) c.signature_stands.ensures fits (items_of_each c.args.sets.now) c.requires.names)) c.with_filter.ensures

pub returns-clause-means : goal.returns-clause-means
returns-clause-means c = if_ok c.with_filter.result (λ made. plain_linear made ≡ allowed c.args.sig.now (items_of_each c.in_ok-index.index.keys) (plain_linear c.args.lin.now))
    (λ made. MeansAllowing c.args.sig.now (items_of_each c.args.sets.now) (plain_linear c.args.lin.now) (plain_linear made))
    (λ made e ts fits. ap (λ z. linear_of (entries_of c.args.sig.now ts) z) (e ∙ allowed_same c.args.sig.now (plain_linear c.args.lin.now) (items_of_each c.in_ok-index.index.keys) (items_of_each c.args.sets.now) c.in_ok-index.ensures.same) ∙ allow_means c.args.sig.now ts (plain_linear c.args.lin.now) c.signature_stands.ensures fits (items_of_each c.args.sets.now) c.requires.names) c.with_filter.ensures

pub returns-clause-summands : goal.returns-clause-summands
returns-clause-summands c = if_ok c.with_filter.result (λ made. plain_linear made ≡ allowed c.args.sig.now (items_of_each c.in_ok-index.index.keys) (plain_linear c.args.lin.now)) (λ made. plain_linear made ≡ allowed c.args.sig.now (items_of_each c.args.sets.now) (plain_linear c.args.lin.now))
    (λ made e. e ∙ allowed_same c.args.sig.now (plain_linear c.args.lin.now) (items_of_each c.in_ok-index.index.keys) (items_of_each c.args.sets.now) c.in_ok-index.ensures.same) c.with_filter.ensures
