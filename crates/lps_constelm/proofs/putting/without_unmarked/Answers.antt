use Rattle.std.proofs.Common.{◌∙◌, ap, length, map, subst, sym}
use Rattle.std.specs.List.{All}
use Rattle.term_pool.specs.Bindings.{listed, listed_terms}
use Rattle.term_pool.specs.HeadTrees.{IsIn, AreIn}
use Rattle.lps_core.specs.PlainLinears.{plain_linear, plain_summand}
use Rattle.lps_core.specs.TreeSummands.{IsSummandIn, trees_of_summand}
use Rattle.lps_parelm.specs.Keeping.{keep, fates_of}
use Rattle.lps_parelm.specs.Uses.{HaveNextTerms}
use Rattle.lps_parelm.proofs.KeptPlaces.{keep_all, keep_long}
use Rattle.lps_constelm.specs.Putting.{pairs_of, unmarked, put_kept_summand}
use Rattle.lps_constelm.proofs.ChangingLoops.{pairs_terms}
use Rattle.lps_constelm.proofs.putting.without_unmarked.Goals as goal

pub put_summands-requires-clause-long : goal.put_summands-requires-clause-long
put_summands-requires-clause-long c = subst (λ z. HaveNextTerms (length c.args.marks.now) (map plain_summand z)) (sym c.as_slice.ensures.value) c.requires.next

pub put_summands-requires-clause-within : goal.put_summands-requires-clause-within
put_summands-requires-clause-within c = subst (λ z. All (IsSummandIn c.args.pool.now.trees) (map plain_summand z)) (sym c.as_slice.ensures.value) c.requires.summands

pub put_summands-requires-clause-listed : goal.put_summands-requires-clause-listed
put_summands-requires-clause-listed c =
    let l = plain_linear c.args.lin.now in
    let gone = fates_of (unmarked c.args.marks.now) in
    subst (AreIn c.args.pool.now.trees)
    (sym (ap listed_terms (c.as_slice-2.ensures.value ∙ c.in_ok-by.ensures) ∙ pairs_terms (keep gone l.params) (keep gone l.init) (keep_long gone l.init l.params (c.requires.init ∙ sym c.requires.params))))
    (keep_all (IsIn c.args.pool.now.trees) gone l.init c.requires.terms)

pub returns-clause-without : goal.returns-clause-without
returns-clause-without c =
    let l = plain_linear c.args.lin.now in
    let ts = c.args.pool.now.trees in
    let us = c.put_summands.new.pool.trees in
    let marks = c.args.marks.now in
    record {
      params = c.in_ok-kept.ensures ∙ ap (keep (fates_of marks)) c.as_slice-3.ensures.value;
      init = c.in_ok-kept-2.ensures ∙ ap (keep (fates_of marks)) c.as_slice-4.ensures.value;
      within = c.in_ok-summands.ensures.within;
      summands = c.in_ok-summands.ensures.trees
          ∙ ap (λ z. map (put_kept_summand (listed ts z) (fates_of marks)) (map (trees_of_summand ts) (map plain_summand c.as_slice.result.now))) (c.as_slice-2.ensures.value ∙ c.in_ok-by.ensures)
          ∙ ap (λ z. map (put_kept_summand (listed ts (pairs_of (keep (fates_of (unmarked marks)) l.params) (keep (fates_of (unmarked marks)) l.init))) (fates_of marks)) (map (trees_of_summand ts) (map plain_summand z))) c.as_slice.ensures.value;
    }
