use Rattle.std.proofs.Common.{◌≡◌, ◌∙◌, ap, ap₂, length, sym}
use Rattle.lps_core.specs.PlainLinears.{plain_linear}
use Rattle.lps_parelm.specs.Keeping.{keep, fates_of}
use Rattle.lps_parelm.proofs.KeptPlaces.{keep_long}
use Rattle.lps_parelm.proofs.WholeElimination.{if_ok}
use Rattle.lps_constelm.specs.Putting.{pairs_of, unmarked}
use Rattle.lps_constelm.proofs.PuttingSteps.{turned_long}
use Rattle.lps_constelm.proofs.putting.unmarked_pairs.Goals as goal

pub kept-requires : goal.kept-requires
kept-requires c = ap length c.as_slice.ensures.value ∙ c.requires.params ∙ sym (ap length c.as_slice-2.ensures.value ∙ ap length c.in_ok-others.ensures ∙ turned_long c.args.marks.now)

pub kept-requires-2 : goal.kept-requires-2
kept-requires-2 c = ap length c.as_slice-3.ensures.value ∙ c.requires.init ∙ sym (ap length c.as_slice-4.ensures.value ∙ ap length c.in_ok-others.ensures ∙ turned_long c.args.marks.now)

pub pairs-requires : goal.pairs-requires
pairs-requires c =
    let l = plain_linear c.args.lin.now in
    let gone = fates_of (unmarked c.args.marks.now) in
    let vars = c.in_ok-vars.ensures ∙ ap₂ (λ m z. keep (fates_of m) z) (c.as_slice-2.ensures.value ∙ c.in_ok-others.ensures) c.as_slice.ensures.value in
    let terms = c.in_ok-terms.ensures ∙ ap₂ (λ m z. keep (fates_of m) z) (c.as_slice-4.ensures.value ∙ c.in_ok-others.ensures) c.as_slice-3.ensures.value in
    ap length (c.as_slice-6.ensures.value ∙ terms) ∙ keep_long gone l.init l.params (c.requires.init ∙ sym c.requires.params) ∙ sym (ap length (c.as_slice-5.ensures.value ∙ vars))

pub returns : goal.returns
returns c =
    let l = plain_linear c.args.lin.now in
    let gone = fates_of (unmarked c.args.marks.now) in
    let vars = c.in_ok-vars.ensures ∙ ap₂ (λ m z. keep (fates_of m) z) (c.as_slice-2.ensures.value ∙ c.in_ok-others.ensures) c.as_slice.ensures.value in
    let terms = c.in_ok-terms.ensures ∙ ap₂ (λ m z. keep (fates_of m) z) (c.as_slice-4.ensures.value ∙ c.in_ok-others.ensures) c.as_slice-3.ensures.value in
    if_ok c.pairs.result (λ by. by.items ≡ pairs_of c.as_slice-5.result.now c.as_slice-6.result.now) (λ by. by.items ≡ pairs_of (keep gone l.params) (keep gone l.init))
    (λ by e. e ∙ ap₂ pairs_of (c.as_slice-5.ensures.value ∙ vars) (c.as_slice-6.ensures.value ∙ terms)) c.pairs.ensures
