use Rattle.std.proofs.Common.{◌≡◌, length, map, sym, ap, ◌∙◌, subst}
use Rattle.data_theory.specs.Signature.{Sig}
use Rattle.data_theory.specs.IdTrees.{variable}
use Rattle.data_theory.specs.WholeSignatures.{IsSignature}
use Rattle.term_pool.specs.HeadTrees.{trees_at, AreIn}
use Rattle.lps_core.specs.PlainLinears.{plain_linear}
use Rattle.lps_core.specs.Fitting.{Fits}
use Rattle.lps_parelm.specs.Keeping.{kept_linear, fates_of}
use Rattle.lps_parelm.specs.Needed.{IsWithoutTheUnneeded}
use Rattle.lps_parelm.specs.Uses.{HaveNextTerms}
use Rattle.lps_parelm.proofs.WholeElimination.{made_fits, made_is_left, fits_on, next_terms, init_long, summands_inside, variables_long, marks_are_long, if_ok}
use Rattle.lps_parelm.proofs.needed.eliminate.Goals as goal

pub mark_needed-requires-clause-within : goal.mark_needed-requires-clause-within
mark_needed-requires-clause-within c = subst (λ z. AreIn c.parameter_terms.new.pool.trees z) (sym c.as_slice-2.ensures.value) c.in_ok-params.ensures.within

pub mark_needed-requires-clause-summands : goal.mark_needed-requires-clause-summands
mark_needed-requires-clause-summands c =
    summands_inside c.requires.0 c.parameter_terms.new.pool.trees (plain_linear c.args.lin)
    (fits_on c.requires.0 c.args.pool.now.trees c.parameter_terms.new.pool.trees (plain_linear c.args.lin) c.requires.1 c.parameter_terms.ensures.kept c.requires.2)

pub mark_needed-requires-clause-next : goal.mark_needed-requires-clause-next
mark_needed-requires-clause-next c =
    let are : trees_at c.parameter_terms.new.pool.trees c.as_slice-2.result.now ≡ map variable c.args.lin.params.items =
    ap (trees_at c.parameter_terms.new.pool.trees) c.as_slice-2.ensures.value ∙ c.in_ok-params.ensures.trees ∙ ap (map variable) c.as_slice.ensures.value in
    subst (λ n. HaveNextTerms n (plain_linear c.args.lin).summands) (sym (variables_long c.parameter_terms.new.pool.trees c.as_slice-2.result.now (plain_linear c.args.lin) are)) (next_terms c.requires.0 c.args.pool.now.trees (plain_linear c.args.lin) c.requires.2)

pub keep_marked-requires-clause-params : goal.keep_marked-requires-clause-params
keep_marked-requires-clause-params c =
    let are : trees_at c.parameter_terms.new.pool.trees c.as_slice-2.result.now ≡ map variable c.args.lin.params.items =
    ap (trees_at c.parameter_terms.new.pool.trees) c.as_slice-2.ensures.value ∙ c.in_ok-params.ensures.trees ∙ ap (map variable) c.as_slice.ensures.value in
    sym (ap length c.as_slice-3.ensures.value ∙ marks_are_long c.parameter_terms.new.pool.trees c.as_slice-2.result.now (plain_linear c.args.lin) c.in_ok-marks.marks.items are c.in_ok-marks.ensures)

pub keep_marked-requires-clause-init : goal.keep_marked-requires-clause-init
keep_marked-requires-clause-init c =
    let are : trees_at c.parameter_terms.new.pool.trees c.as_slice-2.result.now ≡ map variable c.args.lin.params.items =
    ap (trees_at c.parameter_terms.new.pool.trees) c.as_slice-2.ensures.value ∙ c.in_ok-params.ensures.trees ∙ ap (map variable) c.as_slice.ensures.value in
    init_long c.requires.0 c.args.pool.now.trees (plain_linear c.args.lin) c.requires.2
    ∙ sym (ap length c.as_slice-3.ensures.value ∙ marks_are_long c.parameter_terms.new.pool.trees c.as_slice-2.result.now (plain_linear c.args.lin) c.in_ok-marks.marks.items are c.in_ok-marks.ensures)

pub keep_marked-requires-clause-next : goal.keep_marked-requires-clause-next
keep_marked-requires-clause-next c =
    let are : trees_at c.parameter_terms.new.pool.trees c.as_slice-2.result.now ≡ map variable c.args.lin.params.items =
    ap (trees_at c.parameter_terms.new.pool.trees) c.as_slice-2.ensures.value ∙ c.in_ok-params.ensures.trees ∙ ap (map variable) c.as_slice.ensures.value in
    subst (λ n. HaveNextTerms n (plain_linear c.args.lin).summands)
    (sym (ap length c.as_slice-3.ensures.value ∙ marks_are_long c.parameter_terms.new.pool.trees c.as_slice-2.result.now (plain_linear c.args.lin) c.in_ok-marks.marks.items are c.in_ok-marks.ensures))
    (next_terms c.requires.0 c.args.pool.now.trees (plain_linear c.args.lin) c.requires.2)

pub returns-clause-fits : goal.returns-clause-fits
returns-clause-fits c =
    let are : trees_at c.parameter_terms.new.pool.trees c.as_slice-2.result.now ≡ map variable c.args.lin.params.items =
    ap (trees_at c.parameter_terms.new.pool.trees) c.as_slice-2.ensures.value ∙ c.in_ok-params.ensures.trees ∙ ap (map variable) c.as_slice.ensures.value in
    let inside = subst (λ z. AreIn c.parameter_terms.new.pool.trees z) (sym c.as_slice-2.ensures.value) c.in_ok-params.ensures.within in
    if_ok c.keep_marked.result
    (λ made. plain_linear made ≡ kept_linear (fates_of c.as_slice-3.result.now) (plain_linear c.args.lin))
    (λ made. (g : Sig) → IsSignature g → Fits g c.args.pool.now.trees (plain_linear c.args.lin) → Fits g c.parameter_terms.new.pool.trees (plain_linear made))
    (λ made is g stands fits.
    made_fits c.args.pool.now.trees c.parameter_terms.new.pool.trees (plain_linear c.args.lin) (plain_linear made) c.as_slice-2.result.now c.in_ok-marks.marks.items c.parameter_terms.ensures.kept inside are c.in_ok-marks.ensures
    (is ∙ ap (λ z. kept_linear (fates_of z) (plain_linear c.args.lin)) c.as_slice-3.ensures.value) g stands fits) c.keep_marked.ensures

pub returns-clause-needed : goal.returns-clause-needed
returns-clause-needed c =
    let are : trees_at c.parameter_terms.new.pool.trees c.as_slice-2.result.now ≡ map variable c.args.lin.params.items =
    ap (trees_at c.parameter_terms.new.pool.trees) c.as_slice-2.ensures.value ∙ c.in_ok-params.ensures.trees ∙ ap (map variable) c.as_slice.ensures.value in
    let inside = subst (λ z. AreIn c.parameter_terms.new.pool.trees z) (sym c.as_slice-2.ensures.value) c.in_ok-params.ensures.within in
    if_ok c.keep_marked.result
    (λ made. plain_linear made ≡ kept_linear (fates_of c.as_slice-3.result.now) (plain_linear c.args.lin))
    (λ made. (g : Sig) → IsSignature g → Fits g c.args.pool.now.trees (plain_linear c.args.lin) → IsWithoutTheUnneeded g c.parameter_terms.new.pool.trees (plain_linear c.args.lin) (plain_linear made))
    (λ made is g stands fits.
    made_is_left c.args.pool.now.trees c.parameter_terms.new.pool.trees (plain_linear c.args.lin) (plain_linear made) c.as_slice-2.result.now c.in_ok-marks.marks.items c.parameter_terms.ensures.kept inside are c.in_ok-marks.ensures
    (is ∙ ap (λ z. kept_linear (fates_of z) (plain_linear c.args.lin)) c.as_slice-3.ensures.value) g stands fits) c.keep_marked.ensures
