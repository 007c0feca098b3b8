use Rattle.lps_invariant.specs.PlacesInCode.{place_at}
use Rattle.lps_invariant.proofs.Keepings.{keeps_grown, keeps_then, known_on}
use Rattle.lps_invariant.proofs.PuttingParts.{if_ok}
use Rattle.lps_invariant.proofs.judging.look_at_summand.Goals as goal

pub returns-in_err-place-clause-kept : goal.returns-in_err-place-clause-kept
returns-in_err-place-clause-kept g c = keeps_grown c.args.sig.now c.args.pool.now.trees c.solved_place.new.pool.trees c.args.rewriter.now c.solved_place.ensures.kept

pub look_at-requires-clause-known : goal.look_at-requires-clause-known
look_at-requires-clause-known g c = known_on c.args.sig.now c.args.pool.now.trees c.solved_place.new.pool.trees c.args.rewriter.now c.args.rewriter.now (keeps_grown c.args.sig.now c.args.pool.now.trees c.solved_place.new.pool.trees c.args.rewriter.now c.solved_place.ensures.kept) c.requires.known

pub returns-clause-kept : goal.returns-clause-kept
returns-clause-kept g c =
    keeps_then c.args.sig.now c.args.pool.now.trees c.solved_place.new.pool.trees c.look_at.new.pool.trees c.args.rewriter.now c.args.rewriter.now c.look_at.new.rewriter (keeps_grown c.args.sig.now c.args.pool.now.trees c.solved_place.new.pool.trees c.args.rewriter.now c.solved_place.ensures.kept) c.look_at.ensures.kept

pub returns-clause-found : goal.returns-clause-found
returns-clause-found g c =
    if_ok c.look_at.result _ _ (λ found h own k inv e. record { place = place_at c.args.sig.now c.solved_place.new.pool.trees c.in_ok-place.place; solved = c.in_ok-place.ensures.solved inv e; is = h own ((keeps_grown c.args.sig.now c.args.pool.now.trees c.solved_place.new.pool.trees c.args.rewriter.now c.solved_place.ensures.kept).fits own k) }) c.look_at.ensures.found
