use Rattle.std.proofs.Common.{◌≡◌, ◌++◌, rules, map}
use Rattle.lps_core.specs.PlainLinears.{plain_linear, plain_summand}
use Rattle.summand_expander.specs.Drafts.{plain_move}
use Rattle.summand_expander.specs.Frames.{plain_frame}
use Rattle.summand_expander.proofs.FittingSides.{linear_side_fits}
use Rattle.summand_expander.proofs.MeantSides.{side_in, side_means}
use Rattle.summand_expander.proofs.frames.side_of.Goals as goal

pub returns-clause-within : goal.returns-clause-within
returns-clause-within c =
    let q : c.in_ok-columns.columns.items ≡ c.in_ok-frame.frame.params.items ++ c.in_ok-frame.frame.own.items = (search rules) in
    side_in c.args.pool.now.trees c.frame_of.new.pool.trees _ _ (plain_frame c.in_ok-frame.frame) (map plain_move c.in_ok-moves.moves.items) (map plain_summand c.args.lin.now.summands.items) c.in_ok-columns.columns.items c.frame_of.ensures.kept c.in_ok-frame.ensures.frame (search rules) c.requires q

pub returns-clause-means : goal.returns-clause-means
returns-clause-means c =
    let q : c.in_ok-columns.columns.items ≡ c.in_ok-frame.frame.params.items ++ c.in_ok-frame.frame.own.items = (search rules) in
    λ g s fits. side_means g s c.frame_of.new.pool.trees (plain_linear c.args.lin.now) c.args.flag (plain_frame c.in_ok-frame.frame) (map plain_move c.in_ok-moves.moves.items) c.in_ok-columns.columns.items (search rules) (search rules) fits q

pub returns-clause-fits : goal.returns-clause-fits
returns-clause-fits c =
    let q : c.in_ok-columns.columns.items ≡ c.in_ok-frame.frame.params.items ++ c.in_ok-frame.frame.own.items = (search rules) in
    λ g s fits flagged. linear_side_fits g s c.frame_of.new.pool.trees (plain_linear c.args.lin.now) c.args.flag (plain_frame c.in_ok-frame.frame) (map plain_move c.in_ok-moves.moves.items) c.in_ok-columns.columns.items (search rules) (search rules) fits flagged q
