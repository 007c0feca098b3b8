use Rattle.std.proofs.Common.{sym, subst}
use Rattle.std.specs.List.{All}
use Rattle.summand_expander.specs.Drafts.{plain_side}
use Rattle.summand_expander.specs.SideMeanings.{IsDraftIn}
use Rattle.summand_expander.proofs.JoinedDrafts.{drafts_in, summands_meant}
use Rattle.summand_expander.proofs.MadeSummands.{summands_fit}
use Rattle.summand_expander.proofs.summands.summands_of.Goals as goal

pub all_finished-requires : goal.all_finished-requires
all_finished-requires c = subst (λ z. All (IsDraftIn c.args.pool.now.trees) z) (sym c.in_ok-drafts.ensures) (drafts_in c.args.pool.now.trees (plain_side c.args.left.now) (plain_side c.args.right.now) c.requires.left c.requires.right)

pub returns-clause-means : goal.returns-clause-means
returns-clause-means c =
    summands_meant c.args.pool.now.trees c.all_finished.new.pool.trees (plain_side c.args.left.now) (plain_side c.args.right.now) _ c.all_finished.result c.requires.left c.requires.right c.all_finished.ensures.kept c.in_ok-drafts.ensures c.all_finished.ensures.joined

pub returns-clause-fits : goal.returns-clause-fits
returns-clause-fits c =
    summands_fit c.args.pool.now.trees c.all_finished.new.pool.trees (plain_side c.args.left.now) (plain_side c.args.right.now) _ c.all_finished.result c.all_finished.ensures.kept c.in_ok-drafts.ensures c.all_finished.ensures.joined
