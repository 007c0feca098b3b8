use Rattle.summand_expander.specs.Drafts.{plain_draft, plain_side}
use Rattle.lps_core.specs.PlainLinears.{plain_linear}
use Rattle.std.proofs.Common.{map}
use Rattle.summand_expander.specs.PlainAllowed.{plain_allowed}
use Rattle.summand_expander.proofs.RenewedFits.{all_in_still}
use Rattle.summand_expander.proofs.MadeProducts.{summands_are_in}
use Rattle.summand_expander.proofs.WithinSummands.{kept_in, left_moves_in, made_within, right_moves_in}
use Rattle.summand_expander.proofs.within.summands_within.Goals as goal

pub side_of-requires : goal.side_of-requires
side_of-requires c = summands_are_in c.args.sig.now c.args.pool.now.trees (plain_linear c.args.left.now) c.requires.left

pub side_of-requires-2 : goal.side_of-requires-2
side_of-requires-2 c = all_in_still _ _ c.side_of.ensures.kept _ (summands_are_in c.args.sig.now c.args.pool.now.trees (plain_linear c.args.right.now) c.requires.right)

pub drafts_within-requires-clause-left : goal.drafts_within-requires-clause-left
drafts_within-requires-clause-left c =
    left_moves_in c.args.sig.now c.signature_stands.ensures (plain_allowed c.args.allowed.now) c.requires.allowed c.args.pool.now.trees c.side_of.new.pool.trees c.side_of-2.new.pool.trees (plain_linear c.args.left.now) (plain_linear c.args.right.now) c.args.left_flag c.args.right_flag
    (plain_side c.in_ok-first.first) (plain_side c.in_ok-second.second) c.side_of.ensures.kept c.side_of-2.ensures.kept c.requires.left c.requires.right c.requires.left_flag c.requires.right_flag c.in_ok-first.ensures.within c.in_ok-first.ensures.means c.in_ok-first.ensures.fits
    c.in_ok-second.ensures.within c.in_ok-second.ensures.means c.in_ok-second.ensures.fits

pub drafts_within-requires-clause-right : goal.drafts_within-requires-clause-right
drafts_within-requires-clause-right c =
    right_moves_in c.args.sig.now c.signature_stands.ensures (plain_allowed c.args.allowed.now) c.requires.allowed c.args.pool.now.trees c.side_of.new.pool.trees c.side_of-2.new.pool.trees (plain_linear c.args.left.now) (plain_linear c.args.right.now) c.args.left_flag c.args.right_flag
    (plain_side c.in_ok-first.first) (plain_side c.in_ok-second.second) c.side_of.ensures.kept c.side_of-2.ensures.kept c.requires.left c.requires.right c.requires.left_flag c.requires.right_flag c.in_ok-first.ensures.within c.in_ok-first.ensures.means c.in_ok-first.ensures.fits
    c.in_ok-second.ensures.within c.in_ok-second.ensures.means c.in_ok-second.ensures.fits

pub all_finished-requires : goal.all_finished-requires
all_finished-requires c =
    kept_in c.args.sig.now c.signature_stands.ensures (plain_allowed c.args.allowed.now) c.requires.allowed c.args.pool.now.trees c.side_of.new.pool.trees c.side_of-2.new.pool.trees (plain_linear c.args.left.now) (plain_linear c.args.right.now) c.args.left_flag c.args.right_flag
    (plain_side c.in_ok-first.first) (plain_side c.in_ok-second.second) c.side_of.ensures.kept c.side_of-2.ensures.kept c.requires.left c.requires.right c.requires.left_flag c.requires.right_flag c.in_ok-first.ensures.within c.in_ok-first.ensures.means c.in_ok-first.ensures.fits
    c.in_ok-second.ensures.within c.in_ok-second.ensures.means c.in_ok-second.ensures.fits (map plain_draft c.in_ok-drafts.drafts.items) c.in_ok-drafts.ensures

pub returns-clause-made : goal.returns-clause-made
returns-clause-made c =
    made_within c.args.sig.now c.signature_stands.ensures (plain_allowed c.args.allowed.now) c.requires.allowed c.args.pool.now.trees c.side_of.new.pool.trees c.side_of-2.new.pool.trees (plain_linear c.args.left.now) (plain_linear c.args.right.now) c.args.left_flag c.args.right_flag
    (plain_side c.in_ok-first.first) (plain_side c.in_ok-second.second) c.side_of.ensures.kept c.side_of-2.ensures.kept c.requires.left c.requires.right c.requires.left_flag c.requires.right_flag c.in_ok-first.ensures.within c.in_ok-first.ensures.means c.in_ok-first.ensures.fits
    c.in_ok-second.ensures.within c.in_ok-second.ensures.means c.in_ok-second.ensures.fits (map plain_draft c.in_ok-drafts.drafts.items) c.in_ok-drafts.ensures c.all_finished.new.pool.trees c.all_finished.result c.all_finished.ensures.kept c.all_finished.ensures.joined
