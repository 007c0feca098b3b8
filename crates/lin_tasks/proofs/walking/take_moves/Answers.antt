use Rattle.std.proofs.Common.{◌≡◌, ◌∙◌, arith, refl, subst, Some, None}
use Rattle.lps_core.proofs.PoolTrees.{extends_itself, extends_on}
use Rattle.lps_simulator.specs.Sessions.{session_linear, session_state}
use Rattle.lps_simulator.specs.Walks.{next_word, word_of}
use Rattle.lin_tasks.specs.Walks.{HasWalked}
use Rattle.lin_answers.specs.declared.status.Status.TheVariants.{Done}
use Rattle.lin_tasks.proofs.WalkSteps.{ends, nothing_walked, one_walked_to, stops, taken_as}
use Rattle.lin_tasks.proofs.walking.take_moves.Goals as goal

pub take_one-requires-clause-known : goal.take_one-requires-clause-known
take_one-requires-clause-known g c = let r = c.requires.known in (r.0, c.loop-taken.invariant.fits r.0 r.1, r.2)

pub take_one-requires-clause-rules : goal.take_one-requires-clause-rules
take_one-requires-clause-rules g c = rw c.loop-taken.invariant.rules c.requires.rules

pub take_one-requires-clause-chooser : goal.take_one-requires-clause-chooser
take_one-requires-clause-chooser g c = rw c.loop-taken.invariant.chooser c.requires.chooser

pub loop-taken-init : goal.loop-taken-init
loop-taken-init g c = record {
  below = omega arith;
  kept = extends_itself c.args.pool.now.trees;
  rules = refl;
  fits = λ own h. h;
  linear = refl;
  session = c.requires.session;
  chooser = refl;
  walked = λ own h fine. nothing_walked c.args.sig.now own c.args.plan (word_of c.args.walk.now) (session_linear c.args.session.now) c.args.pool.now.trees (session_state c.args.session.now) c.args.text.now.items;
}

pub returns-in-Some : goal.returns-in-Some
returns-in-Some g c = record {
  walked = λ own fits fine.
      let inv = c.loop-taken.invariant in
      stops c.args.sig.now own c.args.plan (word_of c.args.walk.now) (session_linear c.args.session.now) c.args.pool.now.trees (session_state c.args.session.now) c.args.text.now.items
      (word_of c.loop-taken.walk) c.loop-taken.pool.trees c.take_one.new.pool.trees (session_state c.loop-taken.session) (session_state c.take_one.new.session) c.loop-taken.text.items c.take_one.new.text.items c.loop-taken.taken c.in-Some.status (inv.walked own fits fine) c.loop-taken-test.true
      (taken_as c.args.sig.now own c.args.plan.fuel c.args.plan.bound (word_of c.take_one.new.walk) (next_word (word_of c.loop-taken.walk)) (session_linear c.loop-taken.session) (session_linear c.args.session.now) c.loop-taken.pool.trees c.take_one.new.pool.trees c.loop-taken.text.items c.take_one.new.text.items
      (session_state c.loop-taken.session) (session_state c.take_one.new.session) c.in_ok-stop.stop (Some c.in-Some.status) c.in_ok-stop.ensures.word inv.linear c.in-Some.is (c.in_ok-stop.ensures.taken own (inv.fits own fits) fine));
}

pub loop-taken-preserved : goal.loop-taken-preserved
loop-taken-preserved g c =
    let inv = c.loop-taken.invariant in
    let one = c.in_ok-stop.ensures in
    record {
      below = omega (arith, c.loop-taken-test.true);
      kept = extends_on c.args.pool.now.trees c.loop-taken.pool.trees c.take_one.new.pool.trees inv.kept one.kept;
      rules = one.rules ∙ inv.rules;
      fits = λ own h. one.fits own (inv.fits own h);
      linear = one.linear ∙ inv.linear;
      session = one.session;
      chooser = one.chooser ∙ inv.chooser;
      walked = λ own fits fine.
          one_walked_to c.args.sig.now own c.args.plan (word_of c.args.walk.now) (session_linear c.args.session.now) c.args.pool.now.trees (session_state c.args.session.now) c.args.text.now.items
          (word_of c.loop-taken.walk) (word_of c.take_one.new.walk) c.loop-taken.pool.trees c.take_one.new.pool.trees (session_state c.loop-taken.session) (session_state c.take_one.new.session) c.loop-taken.text.items c.take_one.new.text.items c.loop-taken.taken (inv.walked own fits fine) one.kept one.word
          (taken_as c.args.sig.now own c.args.plan.fuel c.args.plan.bound (word_of c.take_one.new.walk) (next_word (word_of c.loop-taken.walk)) (session_linear c.loop-taken.session) (session_linear c.args.session.now) c.loop-taken.pool.trees c.take_one.new.pool.trees c.loop-taken.text.items c.take_one.new.text.items
          (session_state c.loop-taken.session) (session_state c.take_one.new.session) c.in_ok-stop.stop None one.word inv.linear c.in_default.is (one.taken own (inv.fits own fits) fine));
    }

pub returns : goal.returns
returns g c = record {
  walked = λ own fits fine.
      let inv = c.loop-taken.invariant in
      let all : c.loop-taken.taken ≡ c.args.plan.depth = omega (arith, inv.below, c.loop-taken-test.false) in
      subst (λ n. HasWalked c.args.sig.now own c.args.plan (word_of c.args.walk.now) (session_linear c.args.session.now) c.args.pool.now.trees c.loop-taken.pool.trees (session_state c.args.session.now) c.args.text.now.items c.loop-taken.text.items n Done) all
      (ends c.args.sig.now own c.args.plan (word_of c.args.walk.now) (session_linear c.args.session.now) c.args.pool.now.trees (session_state c.args.session.now) c.args.text.now.items (word_of c.loop-taken.walk) c.loop-taken.pool.trees (session_state c.loop-taken.session) c.loop-taken.text.items c.loop-taken.taken
      (inv.walked own fits fine) all);
}
