use Rattle.std.proofs.Common.{◌∷◌, sym, subst}
use Rattle.data_rewriter.specs.declared.stack.Frame.{Frame}
use Rattle.data_rewriter.specs.Frames.{plain}
use Rattle.data_rewriter.specs.States.{IsFrameIn, Follows, AreTablesOf}
use Rattle.data_rewriter.specs.declared.machine.Hand.TheVariants.{Answer}
use Rattle.data_rewriter.specs.Paying.{PaysBehind}
use Rattle.data_rewriter.proofs.machine.resume.Goals as goal

pub returns-in_ok-place-in-Deciding-clause-ids : goal.returns-in_ok-place-in-Deciding-clause-ids
returns-in_ok-place-in-Deciding-clause-ids c = c.in_ok-place-in-Deciding.ensures.ids c.args.stack.now c.requires.frames (subst (λ (f : Frame). IsFrameIn c.args.pool.now.trees (plain f)) c.in-Deciding.is c.requires.frame)

pub returns-in_ok-place-in-Applying-clause-follows : goal.returns-in_ok-place-in-Applying-clause-follows
returns-in_ok-place-in-Applying-clause-follows c = λ hand.
    subst (λ (f : Frame). Follows (λ sig own. AreTablesOf c.args.tables.now sig own c.args.pool.now.trees) c.args.pool.now.trees c.next_argument.new.pool.trees (plain f ∷ c.args.stack.now) hand (Answer c.args.normal) c.next_argument.new.stack c.in_ok-place-in-Applying.place.start c.in_ok-place-in-Applying.place.hand c.args.fuel.now c.args.fuel.now) (sym c.in-Applying.is) (c.in_ok-place-in-Applying.ensures.follows hand c.args.fuel.now)

pub returns-in_ok-place-in-Deciding-clause-follows : goal.returns-in_ok-place-in-Deciding-clause-follows
returns-in_ok-place-in-Deciding-clause-follows c = λ hand.
    subst (λ (f : Frame). Follows (λ sig own. AreTablesOf c.args.tables.now sig own c.args.pool.now.trees) c.args.pool.now.trees c.args.pool.now.trees (plain f ∷ c.args.stack.now) hand (Answer c.args.normal) c.args.stack.now c.in_ok-place-in-Deciding.place.start c.in_ok-place-in-Deciding.place.hand c.args.fuel.now c.behind_condition.new.fuel) (sym c.in-Deciding.is) (c.in_ok-place-in-Deciding.ensures.follows c.args.stack.now hand)

pub returns-in_ok-place-in-Applying-clause-pays : goal.returns-in_ok-place-in-Applying-clause-pays
returns-in_ok-place-in-Applying-clause-pays c = λ hand.
    subst (λ (f : Frame). PaysBehind (λ sig own. AreTablesOf c.args.tables.now sig own c.args.pool.now.trees) c.args.pool.now.trees c.next_argument.new.pool.trees (plain f ∷ c.args.stack.now) hand c.args.normal c.next_argument.new.stack c.in_ok-place-in-Applying.place.start c.in_ok-place-in-Applying.place.hand c.args.fuel.now c.args.fuel.now) (sym c.in-Applying.is) (c.in_ok-place-in-Applying.ensures.pays hand c.args.fuel.now)

pub returns-in_ok-place-in-Deciding-clause-pays : goal.returns-in_ok-place-in-Deciding-clause-pays
returns-in_ok-place-in-Deciding-clause-pays c = λ hand.
    subst (λ (f : Frame). PaysBehind (λ sig own. AreTablesOf c.args.tables.now sig own c.args.pool.now.trees) c.args.pool.now.trees c.args.pool.now.trees (plain f ∷ c.args.stack.now) hand c.args.normal c.args.stack.now c.in_ok-place-in-Deciding.place.start c.in_ok-place-in-Deciding.place.hand c.args.fuel.now c.behind_condition.new.fuel) (sym c.in-Deciding.is) (c.in_ok-place-in-Deciding.ensures.pays c.args.stack.now hand)
