use Rattle.std.proofs.Common.{false, refl}
use Rattle.eqn_check.proofs.Deciding.{decides_no}
use Rattle.eqn_check.proofs.OverlapLemmas.{never_meet, meet_and_exclude}
use Rattle.eqn_check.proofs.checking.overlap.Goals as goal

pub returns-then-begin_apart : goal.returns-then-begin_apart
returns-then-begin_apart c = never_meet c.args.sig.now c.args.pool.now.trees c.args.one.now c.args.other.now false (decides_no (c.begin_apart.ensures c.if-begin_apart.true)) refl

pub returns-then-not-alike : goal.returns-then-not-alike
returns-then-not-alike c = never_meet c.args.sig.now c.args.pool.now.trees c.args.one.now c.args.other.now c.in_ok-alike.alike c.in_ok-alike.ensures c.if-not-alike.true

pub returns : goal.returns
returns c =
    meet_and_exclude c.args.sig.now c.args.pool.now.trees c.args.one.now c.args.other.now c.in_ok-alike.alike c.in_ok-alike.ensures c.if-not-alike.false
    c.in_ok-excluded.excluded c.in_ok-excluded.ensures _ refl
