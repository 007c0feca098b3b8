use Rattle.std.proofs.Common.{◌&&◌, map, ap₂, sym, ◌∙◌}
use Rattle.lps_core.specs.PlainLinears.{plain_linear, plain_summand}
use Rattle.lps_core.proofs.CanEnd.{plain_ends}
use Rattle.lps_core.proofs.NamedSums.{names_then}
use Rattle.lps_core.proofs.PoolTrees.{extends_on}
use Rattle.summand_expander.proofs.MadeProducts.{ProductDone, product_made, all_sums_later, renewal_long, summands_are_in}
use Rattle.summand_expander.proofs.RenewedFits.{all_in_still}
use Rattle.summand_expander.proofs.products.product_of_sides.Goals as goal

pub giving_way-requires-clause-sums : goal.giving_way-requires-clause-sums
giving_way-requires-clause-sums c = all_sums_later c.args.sig.now c.flag_for.new.sig c.args.pool.now.trees (plain_linear c.args.right.now) c.flag_for.ensures.grown c.requires.right

pub returns-in_err-right_flag-clause-grown : goal.returns-in_err-right_flag-clause-grown
returns-in_err-right_flag-clause-grown c = names_then _ _ _ (names_then _ _ _ c.flag_for.ensures.grown c.giving_way.ensures.grown) c.flag_for-2.ensures.grown

pub renewed-requires-clause-long : goal.renewed-requires-clause-long
renewed-requires-clause-long c =
    renewal_long c.args.sig.now c.flag_for.new.sig c.giving_way.new.sig c.args.pool.now.trees (plain_linear c.args.left.now) (plain_linear c.args.right.now) _ _ c.signature_stands.ensures c.requires.right c.flag_for.ensures.grown c.in_ok-renewal.ensures.gives_way

pub returns-in_err-right-clause-grown : goal.returns-in_err-right-clause-grown
returns-in_err-right-clause-grown c = names_then _ _ _ (names_then _ _ _ c.flag_for.ensures.grown c.giving_way.ensures.grown) c.flag_for-2.ensures.grown

pub all_summands-requires-clause-left : goal.all_summands-requires-clause-left
all_summands-requires-clause-left c = all_in_still _ _ c.renewed.ensures.kept _ (summands_are_in c.args.sig.now c.args.pool.now.trees (plain_linear c.args.left.now) c.requires.left)

pub returns-in_err-summands-clause-grown : goal.returns-in_err-summands-clause-grown
returns-in_err-summands-clause-grown c = names_then _ _ _ (names_then _ _ _ c.flag_for.ensures.grown c.giving_way.ensures.grown) c.flag_for-2.ensures.grown

pub returns-in_err-params-clause-grown : goal.returns-in_err-params-clause-grown
returns-in_err-params-clause-grown c = names_then _ _ _ (names_then _ _ _ c.flag_for.ensures.grown c.giving_way.ensures.grown) c.flag_for-2.ensures.grown

pub returns-in_err-init-clause-grown : goal.returns-in_err-init-clause-grown
returns-in_err-init-clause-grown c = names_then _ _ _ (names_then _ _ _ c.flag_for.ensures.grown c.giving_way.ensures.grown) c.flag_for-2.ensures.grown

pub returns-in_err-init-clause-kept : goal.returns-in_err-init-clause-kept
returns-in_err-init-clause-kept c = extends_on _ _ _ (extends_on _ _ _ c.renewed.ensures.kept c.all_summands.ensures.kept) c.all_init.ensures.kept

pub returns-clause-grown : goal.returns-clause-grown
returns-clause-grown c = names_then _ _ _ (names_then _ _ _ c.flag_for.ensures.grown c.giving_way.ensures.grown) c.flag_for-2.ensures.grown

done : (c : goal.After-drop-renewal-6) → ProductDone c.args.sig.now c.flag_for-2.new.sig c.all_init.new.pool.trees (plain_linear c.args.left.now) (plain_linear c.args.right.now)
    (record { params = c.in_ok-params.params.items; init = c.in_ok-init.init.items; summands = map plain_summand c.in_ok-summands.summands.items })
done c =
    product_made c.args.sig.now c.flag_for.new.sig c.giving_way.new.sig c.flag_for-2.new.sig c.args.pool.now.trees c.renewed.new.pool.trees c.all_summands.new.pool.trees c.all_init.new.pool.trees (plain_linear c.args.left.now) (plain_linear c.args.right.now) (plain_linear c.in_ok-right.right) _ c.in_ok-left_flag.left_flag c.in_ok-right_flag.right_flag
    c.in_ok-renewal.renewal.from.keys c.in_ok-renewal.renewal.to.items c.signature_stands.ensures c.requires.left c.requires.right c.in_ok-left_flag.ensures.flag c.in_ok-renewal.ensures.gives_way c.in_ok-right_flag.ensures.flag c.renewed.ensures.kept c.all_summands.ensures.kept c.all_init.ensures.kept c.in_ok-right.ensures.renewed
    c.in_ok-params.ensures c.in_ok-init.ensures.init c.in_ok-summands.ensures.made

pub returns-clause-fits : goal.returns-clause-fits
returns-clause-fits c = (done c).fits

pub returns-clause-made : goal.returns-clause-made
returns-clause-made c = (done c).made

pub returns-clause-bisimilar : goal.returns-clause-bisimilar
returns-clause-bisimilar c = (done c).good

pub returns-clause-sides : goal.returns-clause-sides
returns-clause-sides c = (done c).sides

pub returns-clause-ends : goal.returns-clause-ends
returns-clause-ends c = sym (plain_ends c.in_ok-summands.summands.items) ∙ (done c).ends ∙ ap₂ (λ x y. x && y) (plain_ends c.args.left.now.summands.items) (plain_ends c.args.right.now.summands.items)

pub returns-clause-names : goal.returns-clause-names
returns-clause-names c = (done c).names
