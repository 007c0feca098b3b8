use Rattle.std.proofs.Common.{◌∙◌, ◌∷◌, [], true, false, map, refl, ap, subst}
use Rattle.std.proofs.lemmas.List.{map-append}
use Rattle.data_theory.specs.Environments.{term_in}
use Rattle.data_theory.specs.Rewriting.{IsDecided}
use Rattle.data_theory.specs.Terms.{put}
use Rattle.data_theory.specs.IdData.{data_meant}
use Rattle.term_pool.specs.Bindings.{listed_terms}
use Rattle.data_rewriter.specs.Standing.{term_at}
use Rattle.lps_core.specs.PlainLinears.{plain_summand}
use Rattle.lps_core.proofs.PoolTrees.{extends_on}
use Rattle.lps_simulator.specs.OptionsInCode.{plain_move}
use Rattle.lps_simulator.specs.Rewritten.{decision_of, environment_of}
use Rattle.lps_simulator.specs.Trying.{with_move, without_move, left_open}
use Rattle.lps_simulator.proofs.Bindings.{terms_stay}
use Rattle.lps_simulator.proofs.TriedCombinations.{made_from, summand_stays_over}
use Rattle.lps_simulator.proofs.options.try_with.Goals as goal

pub move_with-requires-clause-known : goal.move_with-requires-clause-known
move_with-requires-clause-known g c = let r = c.requires.known in (r.0, c.decide_with.ensures.fits r.0 r.1)

pub move_with-requires-clause-rules : goal.move_with-requires-clause-rules
move_with-requires-clause-rules g c = rw c.decide_with.ensures.rules c.requires.rules

pub move_with-requires-clause-summand : goal.move_with-requires-clause-summand
move_with-requires-clause-summand g c = summand_stays_over c.args.sig.now c.args.pool.now.trees c.decide_with.new.pool.trees c.decide_with.ensures.kept (plain_summand c.args.summand.now) c.requires.summand

pub move_with-requires-clause-listed : goal.move_with-requires-clause-listed
move_with-requires-clause-listed g c = terms_stay c.args.sig.now c.args.pool.now.trees c.decide_with.new.pool.trees (listed_terms c.args.by.now) c.decide_with.ensures.kept c.requires.listed

pub returns-in_err-made-in-Yes-clause-kept : goal.returns-in_err-made-in-Yes-clause-kept
returns-in_err-made-in-Yes-clause-kept g c = extends_on c.args.pool.now.trees c.decide_with.new.pool.trees c.move_with.new.pool.trees c.decide_with.ensures.kept c.move_with.ensures.kept

pub returns-in_err-made-in-Yes-clause-rules : goal.returns-in_err-made-in-Yes-clause-rules
returns-in_err-made-in-Yes-clause-rules g c = c.move_with.ensures.rules ∙ c.decide_with.ensures.rules

pub returns-in_err-made-in-Yes-clause-fits : goal.returns-in_err-made-in-Yes-clause-fits
returns-in_err-made-in-Yes-clause-fits g c = λ own h. c.move_with.ensures.fits own (c.decide_with.ensures.fits own h)

pub returns-in_err-push-in-Yes-clause-kept : goal.returns-in_err-push-in-Yes-clause-kept
returns-in_err-push-in-Yes-clause-kept g c = extends_on c.args.pool.now.trees c.decide_with.new.pool.trees c.move_with.new.pool.trees c.decide_with.ensures.kept c.move_with.ensures.kept

pub returns-in_err-push-in-Yes-clause-rules : goal.returns-in_err-push-in-Yes-clause-rules
returns-in_err-push-in-Yes-clause-rules g c = c.move_with.ensures.rules ∙ c.decide_with.ensures.rules

pub returns-in_err-push-in-Yes-clause-fits : goal.returns-in_err-push-in-Yes-clause-fits
returns-in_err-push-in-Yes-clause-fits g c = λ own h. c.move_with.ensures.fits own (c.decide_with.ensures.fits own h)

pub returns-in_ok-push-in-Yes-clause-kept : goal.returns-in_ok-push-in-Yes-clause-kept
returns-in_ok-push-in-Yes-clause-kept g c = extends_on c.args.pool.now.trees c.decide_with.new.pool.trees c.move_with.new.pool.trees c.decide_with.ensures.kept c.move_with.ensures.kept

pub returns-in_ok-push-in-Yes-clause-rules : goal.returns-in_ok-push-in-Yes-clause-rules
returns-in_ok-push-in-Yes-clause-rules g c = c.move_with.ensures.rules ∙ c.decide_with.ensures.rules

pub returns-in_ok-push-in-Yes-clause-fits : goal.returns-in_ok-push-in-Yes-clause-fits
returns-in_ok-push-in-Yes-clause-fits g c = λ own h. c.move_with.ensures.fits own (c.decide_with.ensures.fits own h)

pub returns-in_ok-push-in-Yes-clause-tried : goal.returns-in_ok-push-in-Yes-clause-tried
returns-in_ok-push-in-Yes-clause-tried g c = λ own h.
    with_move (plain_move c.in_ok-made-in-Yes.made)
    (subst (λ z. IsDecided (data_meant c.args.sig.now) own c.args.fuel (put (term_in (environment_of c.args.sig.now c.args.pool.now.trees c.args.by.now)) (term_at c.args.sig.now c.args.pool.now.trees c.args.summand.now.cond)) (decision_of z)) c.in-Yes.is (c.in_ok-decide_with.ensures.decided own h))
    (made_from c.args.sig.now own c.args.fuel c.args.pool.now.trees c.decide_with.new.pool.trees c.args.by.now c.decide_with.ensures.kept c.requires.listed (plain_summand c.args.summand.now) c.requires.summand c.move_with.new.pool.trees c.args.number (plain_move c.in_ok-made-in-Yes.made) (c.in_ok-made-in-Yes.ensures.made own (c.decide_with.ensures.fits own h)))
    (ap (map plain_move) c.in_ok-push-in-Yes.ensures.items ∙ map-append plain_move c.args.moves.now.items (c.in_ok-made-in-Yes.made ∷ []))

pub returns-in-No-clause-tried : goal.returns-in-No-clause-tried
returns-in-No-clause-tried g c = λ own h. without_move (subst (λ z. IsDecided (data_meant c.args.sig.now) own c.args.fuel (put (term_in (environment_of c.args.sig.now c.args.pool.now.trees c.args.by.now)) (term_at c.args.sig.now c.args.pool.now.trees c.args.summand.now.cond)) (decision_of z)) c.in-No.is (c.in_ok-decide_with.ensures.decided own h)) refl

pub returns-in-Stuck-clause-tried : goal.returns-in-Stuck-clause-tried
returns-in-Stuck-clause-tried g c = λ own h. left_open false (subst (λ z. IsDecided (data_meant c.args.sig.now) own c.args.fuel (put (term_in (environment_of c.args.sig.now c.args.pool.now.trees c.args.by.now)) (term_at c.args.sig.now c.args.pool.now.trees c.args.summand.now.cond)) (decision_of z)) c.in-Stuck.is (c.in_ok-decide_with.ensures.decided own h)) refl

pub returns-in-Spent-clause-tried : goal.returns-in-Spent-clause-tried
returns-in-Spent-clause-tried g c = λ own h. left_open true (subst (λ z. IsDecided (data_meant c.args.sig.now) own c.args.fuel (put (term_in (environment_of c.args.sig.now c.args.pool.now.trees c.args.by.now)) (term_at c.args.sig.now c.args.pool.now.trees c.args.summand.now.cond)) (decision_of z)) c.in-Spent.is (c.in_ok-decide_with.ensures.decided own h)) refl
