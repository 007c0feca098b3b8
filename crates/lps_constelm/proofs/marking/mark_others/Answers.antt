use Rattle.std.proofs.Common.{◌∙◌, ap, length, map, subst, sym, arith}
use Rattle.std.specs.Prelude.{Contains}
use Rattle.data_theory.specs.Signature.{Sig}
use Rattle.data_theory.specs.IdTrees.{variable}
use Rattle.data_theory.specs.WholeSignatures.{IsSignature}
use Rattle.term_pool.specs.HeadTrees.{trees_at, AreIn}
use Rattle.graphs.specs.Graphs.{IsGraph}
use Rattle.lps_core.specs.Fitting.{Fits}
use Rattle.lps_core.specs.PlainLinears.{plain_linear}
use Rattle.lps_parelm.specs.Uses.{HaveNextTerms, AreUses}
use Rattle.lps_parelm.proofs.UseLoops.{uses_are_a_graph}
use Rattle.lps_parelm.proofs.WholeElimination.{if_ok, fits_on, next_terms, summands_inside, variables_long}
use Rattle.lps_constelm.specs.Putting.{AreChanging, LeadTo}
use Rattle.lps_constelm.specs.Rounds.{MarksTheOthers}
use Rattle.lps_constelm.proofs.MarkingSteps.{start_below, not_constant}
use Rattle.lps_constelm.proofs.WholeRounds.{marks_the_others}
use Rattle.lps_constelm.proofs.marking.mark_others.Goals as goal

pub use_graph-requires-clause-within : goal.use_graph-requires-clause-within
use_graph-requires-clause-within c = subst (AreIn c.parameter_terms.new.pool.trees) (sym c.as_slice-2.ensures.value) c.in_ok-params.ensures.within

pub use_graph-requires-clause-next : goal.use_graph-requires-clause-next
use_graph-requires-clause-next c =
    let l = plain_linear c.args.lin.now in
    let mid = c.parameter_terms.new.pool.trees in
    let are = c.in_ok-params.ensures.trees ∙ ap (map variable) c.as_slice.ensures.value in
    subst (λ n. HaveNextTerms n l.summands) (sym (ap length c.as_slice-2.ensures.value ∙ variables_long mid c.in_ok-params.params.items l are)) (next_terms c.requires.0 c.args.pool.now.trees l c.requires.2)

pub changing-requires-clause-fits : goal.changing-requires-clause-fits
changing-requires-clause-fits c = (c.requires.0, c.requires.1, fits_on c.requires.0 c.args.pool.now.trees c.parameter_terms.new.pool.trees (plain_linear c.args.lin.now) c.requires.1 c.parameter_terms.ensures.kept c.requires.2)

pub changing-requires-clause-params : goal.changing-requires-clause-params
changing-requires-clause-params c = ap (trees_at c.parameter_terms.new.pool.trees) c.as_slice-3.ensures.value ∙ c.in_ok-params.ensures.trees ∙ ap (map variable) c.as_slice.ensures.value

pub changing-requires-clause-within : goal.changing-requires-clause-within
changing-requires-clause-within c = subst (AreIn c.parameter_terms.new.pool.trees) (sym c.as_slice-3.ensures.value) c.in_ok-params.ensures.within

pub mark_users-requires-clause-graph : goal.mark_users-requires-clause-graph
mark_users-requires-clause-graph c =
    let l = plain_linear c.args.lin.now in
    let mid = c.parameter_terms.new.pool.trees in
    let vars = c.in_ok-params.params.items in
    let are = c.in_ok-params.ensures.trees ∙ ap (map variable) c.as_slice.ensures.value in
    let fits = fits_on c.requires.0 c.args.pool.now.trees mid l c.requires.1 c.parameter_terms.ensures.kept c.requires.2 in
    let uses = subst (λ z. AreUses mid z l.summands c.in_ok-uses.uses.items) c.as_slice-2.ensures.value c.in_ok-uses.ensures in
    subst IsGraph (sym c.as_slice-4.ensures.value)
    (uses_are_a_graph mid vars l.summands c.in_ok-uses.uses.items uses (summands_inside c.requires.0 mid l fits) (subst (λ n. HaveNextTerms n l.summands) (sym (variables_long mid vars l are)) (next_terms c.requires.0 mid l fits)))

pub mark_users-requires-clause-start : goal.mark_users-requires-clause-start
mark_users-requires-clause-start c = λ a i.
    let l = plain_linear c.args.lin.now in
    let mid = c.parameter_terms.new.pool.trees in
    let vars = c.in_ok-params.params.items in
    let changing = subst (λ z. AreChanging mid l z c.in_ok-start.start.items) c.as_slice-3.ensures.value c.in_ok-start.ensures.changing in
    let low = start_below mid l vars c.in_ok-start.start.items c.in_ok-params.ensures.within changing a (subst (λ z. Contains z a) c.as_slice-5.ensures.value i) in
    let size = c.in_ok-uses.ensures.size in
    let same = ap length c.as_slice-4.ensures.value in
    omega (arith, low, size, same)

pub mark_users-requires-clause-params : goal.mark_users-requires-clause-params
mark_users-requires-clause-params c = λ k d l.
    let low = (subst (AreIn c.parameter_terms.new.pool.trees) (sym c.as_slice-6.ensures.value) c.in_ok-params.ensures.within) k d l in
    let size = c.in_ok-uses.ensures.size in
    let same = ap length c.as_slice-4.ensures.value in
    omega (arith, low, size, same)

pub returns-clause-marked : goal.returns-clause-marked
returns-clause-marked c =
    let l = plain_linear c.args.lin.now in
    let ts = c.args.pool.now.trees in
    let mid = c.parameter_terms.new.pool.trees in
    let us = c.changing.new.pool.trees in
    let vars = c.in_ok-params.params.items in
    let are = c.in_ok-params.ensures.trees ∙ ap (map variable) c.as_slice.ensures.value in
    if_ok c.mark_users.result (λ marks. LeadTo c.as_slice-4.result.now c.as_slice-5.result.now c.as_slice-6.result.now marks.items)
    (λ marks. (g : Sig) → IsSignature g → Fits g ts l → MarksTheOthers g us l marks.items)
    (λ marks lead g stands fits.
    marks_the_others g ts mid us l marks.items stands fits c.parameter_terms.ensures.kept c.changing.ensures.kept
    (not_constant mid l vars c.as_slice-2.result.now c.as_slice-3.result.now c.as_slice-6.result.now c.in_ok-uses.uses.items c.as_slice-4.result.now c.in_ok-start.start.items c.as_slice-5.result.now marks.items c.in_ok-params.ensures.within are c.as_slice-2.ensures.value c.in_ok-uses.ensures
    c.as_slice-3.ensures.value c.in_ok-start.ensures.changing c.as_slice-4.ensures.value c.as_slice-5.ensures.value c.as_slice-6.ensures.value lead)) c.mark_users.ensures
