use Rattle.std.proofs.Common.{◌≡◌, ◌∙◌, ap, map, subst, sym, Some}
use Rattle.std.specs.Prelude.{IfSome, option_map}
use Rattle.data_theory.specs.IdTrees.{put_tree}
use Rattle.term_pool.specs.Bindings.{listed}
use Rattle.term_pool.specs.HeadTrees.{trees_at, IsIn, AreIn}
use Rattle.lps_core.specs.PlainLinears.{plain_next}
use Rattle.lps_parelm.specs.Keeping.{keep, fates_of}
use Rattle.lps_parelm.proofs.KeptPlaces.{keep_all}
use Rattle.lps_constelm.proofs.PuttingSteps.{kept_put}
use Rattle.lps_constelm.proofs.putting.put_kept_next.Goals as goal

pub put_all-requires-clause-within : goal.put_all-requires-clause-within
put_all-requires-clause-within c =
    let ts = c.args.pool.now.trees in
    let fates = fates_of c.args.marks.now in
    let inside : AreIn ts c.in-Some.terms.items = subst (λ o. IfSome (plain_next o) (AreIn ts)) c.in-Some.is c.requires.within in
    subst (AreIn ts) (sym (c.as_slice-in-Some.ensures.value ∙ c.in_ok-left-in-Some.ensures ∙ ap (keep fates) c.as_slice.ensures.value)) (keep_all (IsIn ts) fates c.in-Some.terms.items inside)

pub returns-in_ok-put_all-in-Some-clause-next : goal.returns-in_ok-put_all-in-Some-clause-next
returns-in_ok-put_all-in-Some-clause-next c =
    let ts = c.args.pool.now.trees in
    let us = c.put_all.new.pool.trees in
    let by = c.args.by.now in
    let marks = c.args.marks.now in
    let made = c.in_ok-put_all-in-Some.field-0.items in
    subst (λ o. Some (trees_at us made) ≡ option_map (λ zs. map (put_tree (listed ts by)) (keep (fates_of marks) zs)) (option_map (trees_at ts) (plain_next o))) (sym c.in-Some.is)
    (ap (λ z. Some z)
    (kept_put ts us by marks c.in-Some.terms.items c.as_slice-in-Some.result.now made (c.as_slice-in-Some.ensures.value ∙ c.in_ok-left-in-Some.ensures ∙ ap (keep (fates_of marks)) c.as_slice.ensures.value) c.in_ok-put_all-in-Some.ensures.terms))
