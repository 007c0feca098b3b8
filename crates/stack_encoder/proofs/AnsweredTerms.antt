-- Terms that `closed_term` answered are closed, and stay as terms are put in.
use Rattle.std.proofs.Common.{◌≡◌, ◌∙◌, [], sym, subst}
use Rattle.data_theory.specs.Terms.{Term, put}
use Rattle.data_theory.specs.Declarations.{HasSort}
use Rattle.data_theory.specs.Environments.{Environment, term_in}
use Rattle.data_theory.specs.Signature.{Sig}
use Rattle.data_theory.specs.WholeSignatures.{IsSignature}
use Rattle.data_theory.specs.IdData.{data_meant}
use Rattle.data_theory.specs.IdTerms.{sort_under, term_under, variable_sorts}
use Rattle.data_theory.proofs.EnvironmentLemmas.{closed_terms_need_no_variables, closed_terms_stay}
use Rattle.data_theory.proofs.IdTermLemmas.{sorted_trees_mean_sorted_terms}
use Rattle.term_pool.specs.Constants.{constant_of}
use Rattle.term_pool.specs.HeadTrees.{tree_at}
use Rattle.term_pool.specs.Pools.{PoolContents}
use Rattle.lps_core.specs.MadeTerms.{WasAnswered}
use Rattle.lps_core.proofs.PoolTrees.{tree_kept}
use Rattle.lps_core.proofs.StayingFits.{term_fits}
use Rattle.regular_encoder.proofs.FirstTerms.{HasNoVariable, closed_tree, value_is_closed}

module _ (h : Sig) (q : PoolContents) (stands : IsSignature h) (t : Term) (w : WasAnswered h q t) where
  pub answered_sorted : HasSort (data_meant h) [] t (sort_under h w.sort)
  answered_sorted =
      let tree = tree_at q.trees w.term in
      let same = tree_kept w.pool_after.trees q.trees w.term w.kept w.answer.stands.within in
      let bare : HasNoVariable tree = subst HasNoVariable (sym (same.0 ∙ w.answer.tree)) (value_is_closed (constant_of w.pool_after.constants) w.answer.value) in
      let fits = term_fits w.after h w.pool_after.trees q.trees (record { signature = w.grown; pool = w.kept }) w.sort w.term w.answer.stands in
      subst (λ z. HasSort (data_meant h) [] z (sort_under h w.sort)) (sym w.is)
      (closed_terms_need_no_variables (data_meant h) (variable_sorts h) (term_under h tree) (sort_under h w.sort) (closed_tree h tree bare) (sorted_trees_mean_sorted_terms h stands.table tree w.sort fits.sorted))

  pub answered_stays : (e : Environment) → put (term_in e) t ≡ t
  answered_stays e = closed_terms_stay (data_meant h) (term_in e) t (sort_under h w.sort) answered_sorted
