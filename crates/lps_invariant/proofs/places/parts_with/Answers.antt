use Rattle.std.proofs.Common.{◌∙◌, sym, subst}
use Rattle.term_pool.specs.Bindings.{listed_terms}
use Rattle.term_pool.specs.HeadTrees.{AreIn, IsIn}
use Rattle.lps_invariant.proofs.PuttingParts.{one_each, zip_terms, all_inside, put_stand, put_meant}
use Rattle.lps_invariant.proofs.places.parts_with.Goals as goal

pub pairs-requires : goal.pairs-requires
pairs-requires c = one_each c.args.sig.now c.args.pool.now.trees c.args.params.now c.args.terms.now c.requires.terms

pub put_all-requires-clause-within : goal.put_all-requires-clause-within
put_all-requires-clause-within c = all_inside c.args.sig.now c.signature_stands.ensures c.args.pool.now.trees c.args.invariant.now c.requires.invariant

pub put_all-requires-clause-listed : goal.put_all-requires-clause-listed
put_all-requires-clause-listed c =
    let e = c.as_slice.ensures.value ∙ c.in_ok-by.ensures in
    subst (λ by. AreIn c.args.pool.now.trees (listed_terms by)) (sym e) (zip_terms (IsIn c.args.pool.now.trees) c.args.params.now c.args.terms.now c.requires.terms.within)

pub returns-clause-stand : goal.returns-clause-stand
returns-clause-stand c =
    put_stand c.args.sig.now c.signature_stands.ensures c.args.pool.now.trees c.put_all.new.pool.trees c.args.params.now c.args.invariant.now c.args.terms.now c.in_ok-made.made.items c.as_slice.result.now (c.as_slice.ensures.value ∙ c.in_ok-by.ensures) c.requires.terms c.requires.invariant c.in_ok-made.ensures.within c.in_ok-made.ensures.terms

pub returns-clause-put : goal.returns-clause-put
returns-clause-put c = λ inv h.
    put_meant c.args.sig.now c.signature_stands.ensures c.args.pool.now.trees c.put_all.new.pool.trees c.args.params.now c.args.invariant.now c.args.terms.now c.in_ok-made.made.items c.as_slice.result.now (c.as_slice.ensures.value ∙ c.in_ok-by.ensures) c.requires.terms c.requires.invariant c.in_ok-made.ensures.within c.in_ok-made.ensures.terms inv h
