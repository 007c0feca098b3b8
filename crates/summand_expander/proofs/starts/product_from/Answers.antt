use Rattle.std.proofs.Common.{◌≡◌, ◌&&◌, sym, ap₂, ◌∙◌, subst}
use Rattle.std.specs.List.{list_any}
use Rattle.lps_core.specs.Fitting.{Fits}
use Rattle.lps_core.specs.PlainLinears.{can_end, ends, plain_linear}
use Rattle.lps_core.specs.declared.linears.Linear.{Linear}
use Rattle.lps_core.proofs.CanEnd.{plain_ends}
use Rattle.lps_core.proofs.NamedSums.{names_then}
use Rattle.summand_expander.specs.StartedProducts.{start_of, IsProductFrom}
use Rattle.summand_expander.specs.StartedTrees.{alone_count, IsStarted}
use Rattle.summand_expander.specs.WholeFirstSteps.{IsGoodProductFrom}
use Rattle.summand_expander.specs.WholeProducts.{HaveDifferentNames}
use Rattle.summand_expander.proofs.DoneStarting.{StartingDone, counted, few_counted, starting_done}
use Rattle.summand_expander.proofs.MadeProducts.{summands_are_in}
use Rattle.summand_expander.proofs.StartingLoops.{if_ok}
use Rattle.summand_expander.proofs.starts.product_from.Goals as goal

pub with_flag-requires-clause-within : goal.with_flag-requires-clause-within
with_flag-requires-clause-within c = summands_are_in c.product_of_sides.new.sig c.product_of_sides.new.pool.trees (plain_linear c.in_ok-product.product) c.in_ok-product.ensures.fits

pub with_flag-requires-clause-alone : goal.with_flag-requires-clause-alone
with_flag-requires-clause-alone c =
    few_counted c.args.sig.now c.product_of_sides.new.sig c.product_of_sides.new.pool.trees c.args.left.now c.args.right.now c.in_ok-product.product c.count_alone-lefts.result c.count_alone-rights.result c.in_ok-product.ensures.made
    (counted c.args.left.now c.args.right.now c.summands.result.now c.can_end.result c.count_alone-lefts.result c.count_alone-lefts.ensures c.summands.ensures c.can_end.ensures)
    (counted c.args.right.now c.args.left.now c.summands-2.result.now c.can_end-2.result c.count_alone-rights.result c.count_alone-rights.ensures c.summands-2.ensures c.can_end-2.ensures)

pub returns-in_err-product-clause-grown : goal.returns-in_err-product-clause-grown
returns-in_err-product-clause-grown c = c.product_of_sides.ensures.grown

pub returns-in_err-var-clause-grown : goal.returns-in_err-var-clause-grown
returns-in_err-var-clause-grown c = names_then _ _ _ c.product_of_sides.ensures.grown c.first_variable.ensures.grown

pub returns-clause-grown : goal.returns-clause-grown
returns-clause-grown c = names_then _ _ _ c.product_of_sides.ensures.grown c.first_variable.ensures.grown

done : (c : goal.After-with_flag) (made : Linear)
    → IsStarted c.product_of_sides.new.pool.trees c.with_flag.new.pool.trees c.in_ok-var.var (start_of c.args.start) c.count_alone-lefts.result c.count_alone-rights.result (plain_linear c.in_ok-product.product) (plain_linear made)
    → StartingDone (start_of c.args.start) c.args.sig.now c.first_variable.new.sig c.with_flag.new.pool.trees (plain_linear c.args.left.now) (plain_linear c.args.right.now) (plain_linear made)
done c made is =
    let l = plain_linear c.args.left.now in
    let r = plain_linear c.args.right.now in
    let k = plain_linear c.in_ok-product.product in
    let o = start_of c.args.start in
    let g = c.product_of_sides.new.sig in
    let ts = c.product_of_sides.new.pool.trees in
    let us = c.with_flag.new.pool.trees in
    let lefts = counted c.args.left.now c.args.right.now c.summands.result.now c.can_end.result c.count_alone-lefts.result c.count_alone-lefts.ensures c.summands.ensures c.can_end.ensures in
    let rights = counted c.args.right.now c.args.left.now c.summands-2.result.now c.can_end-2.result c.count_alone-rights.result c.count_alone-rights.ensures c.summands-2.ensures c.can_end-2.ensures in
    starting_done o c.args.sig.now g c.first_variable.new.sig c.args.pool.now.trees ts us l r k (plain_linear made) c.in_ok-var.var c.signature_stands.ensures c.requires.left c.requires.right c.product_of_sides.ensures.grown c.product_of_sides.ensures.kept c.in_ok-product.ensures.fits c.in_ok-product.ensures.sides
    (plain_ends c.in_ok-product.product.summands.items ∙ c.in_ok-product.ensures.ends ∙ sym (ap₂ (λ x y. x && y) (plain_ends c.args.left.now.summands.items) (plain_ends c.args.right.now.summands.items))) c.in_ok-product.ensures.names c.in_ok-var.ensures.first c.with_flag.ensures.kept
    (subst (λ n. IsStarted ts us c.in_ok-var.var o n (alone_count (can_end l) r.summands) k (plain_linear made)) lefts (subst (λ n. IsStarted ts us c.in_ok-var.var o c.count_alone-lefts.result n k (plain_linear made)) rights is))

abbrev StartedFrom : (c : goal.After-with_flag) → Linear → Type 0
StartedFrom c made = IsStarted c.product_of_sides.new.pool.trees c.with_flag.new.pool.trees c.in_ok-var.var (start_of c.args.start) c.count_alone-lefts.result c.count_alone-rights.result (plain_linear c.in_ok-product.product) (plain_linear made)

pub returns-clause-fits : goal.returns-clause-fits
returns-clause-fits c = if_ok c.with_flag.result (StartedFrom c) (λ made. Fits c.first_variable.new.sig c.with_flag.new.pool.trees (plain_linear made)) (λ made is. (done c made is).fits) c.with_flag.ensures.started

pub returns-clause-made : goal.returns-clause-made
returns-clause-made c =
    if_ok c.with_flag.result (StartedFrom c) (λ made. IsProductFrom (start_of c.args.start) c.args.sig.now c.first_variable.new.sig c.with_flag.new.pool.trees (plain_linear c.args.left.now) (plain_linear c.args.right.now) (plain_linear made)) (λ made is. (done c made is).is_from)
    c.with_flag.ensures.started

pub returns-clause-bisimilar : goal.returns-clause-bisimilar
returns-clause-bisimilar c =
    if_ok c.with_flag.result (StartedFrom c) (λ made. IsGoodProductFrom (start_of c.args.start) c.first_variable.new.sig c.with_flag.new.pool.trees (plain_linear c.args.left.now) (plain_linear c.args.right.now) (plain_linear made)) (λ made is. (done c made is).good) c.with_flag.ensures.started

pub returns-clause-names : goal.returns-clause-names
returns-clause-names c =
    if_ok c.with_flag.result (StartedFrom c) (λ made. HaveDifferentNames c.args.sig.now c.args.left.now.params.items → HaveDifferentNames c.args.sig.now c.args.right.now.params.items → HaveDifferentNames c.first_variable.new.sig made.params.items) (λ made is. (done c made is).names)
    c.with_flag.ensures.started

pub returns-clause-ends : goal.returns-clause-ends
returns-clause-ends c =
    if_ok c.with_flag.result (StartedFrom c) (λ made. list_any ends made.summands.items ≡ (list_any ends c.args.left.now.summands.items && list_any ends c.args.right.now.summands.items))
    (λ made is. sym (plain_ends made.summands.items) ∙ (done c made is).ends ∙ ap₂ (λ x y. x && y) (plain_ends c.args.left.now.summands.items) (plain_ends c.args.right.now.summands.items)) c.with_flag.ensures.started
