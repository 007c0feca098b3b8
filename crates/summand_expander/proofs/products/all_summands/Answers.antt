use Rattle.lps_core.specs.PlainLinears.{plain_linear}
use Rattle.summand_expander.specs.Drafts.{plain_side}
use Rattle.summand_expander.proofs.MadeSummands.{side_in_still, product_summands_made}
use Rattle.summand_expander.proofs.RenewedFits.{all_in_still}
use Rattle.summand_expander.proofs.products.all_summands.Goals as goal

pub side_of-requires-2 : goal.side_of-requires-2
side_of-requires-2 c = all_in_still _ _ c.side_of.ensures.kept _ c.requires.right

pub summands_of-requires-clause-left : goal.summands_of-requires-clause-left
summands_of-requires-clause-left c = side_in_still _ _ c.side_of-2.ensures.kept (plain_side c.in_ok-first.first) c.in_ok-first.ensures.within

pub returns-clause-made : goal.returns-clause-made
returns-clause-made c =
    product_summands_made c.args.pool.now.trees c.side_of.new.pool.trees c.side_of-2.new.pool.trees c.summands_of.new.pool.trees (plain_linear c.args.left.now) (plain_linear c.args.right.now) c.args.left_flag c.args.right_flag (plain_side c.in_ok-first.first) (plain_side c.in_ok-second.second) c.summands_of.result
    c.side_of.ensures.kept c.side_of-2.ensures.kept c.summands_of.ensures.kept c.in_ok-first.ensures.within c.in_ok-first.ensures.means c.in_ok-first.ensures.fits c.in_ok-second.ensures.means c.in_ok-second.ensures.fits c.summands_of.ensures.means c.summands_of.ensures.fits
