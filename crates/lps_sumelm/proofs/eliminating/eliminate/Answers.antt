use Rattle.std.proofs.Common.{map}
use Rattle.lps_core.specs.PlainLinears.{plain_linear, plain_summand}
use Rattle.lps_sumelm.proofs.WholeProcess.{made_fits, made_summands, made_solved, made_used, made_simple, made_good}
use Rattle.lps_sumelm.proofs.eliminating.eliminate.Goals as goal

pub returns-clause-fits : goal.returns-clause-fits
returns-clause-fits g c =
    let sig = c.args.sig.now in
    let stands = c.signature_stands.ensures in
    let ts = c.args.pool.now.trees in
    let us = c.solved_summands.new.pool.trees in
    let kept = c.solved_summands.ensures.kept in
    let l = plain_linear c.args.lin in
    let ss = map plain_summand c.in_ok-summands.summands.items in
    let all = c.in_ok-summands.ensures.stand in
    made_fits sig stands ts us kept l c.requires.fits ss all

pub returns-clause-summands : goal.returns-clause-summands
returns-clause-summands g c =
    let sig = c.args.sig.now in
    let stands = c.signature_stands.ensures in
    let ts = c.args.pool.now.trees in
    let us = c.solved_summands.new.pool.trees in
    let kept = c.solved_summands.ensures.kept in
    let l = plain_linear c.args.lin in
    let ss = map plain_summand c.in_ok-summands.summands.items in
    let all = c.in_ok-summands.ensures.stand in
    λ own f fine. made_summands sig stands ts us kept l c.requires.fits ss all own (g.S.Simplifier.simple c.args.simp.now sig own) (c.in_ok-summands.ensures.solved own f fine)

pub returns-clause-solved : goal.returns-clause-solved
returns-clause-solved g c =
    let sig = c.args.sig.now in
    let stands = c.signature_stands.ensures in
    let ts = c.args.pool.now.trees in
    let us = c.solved_summands.new.pool.trees in
    let kept = c.solved_summands.ensures.kept in
    let l = plain_linear c.args.lin in
    let ss = map plain_summand c.in_ok-summands.summands.items in
    let all = c.in_ok-summands.ensures.stand in
    let r = c.requires.simplifier in
    made_solved sig stands ts us kept l c.requires.fits ss all r.0 (g.S.Simplifier.simple c.args.simp.now sig r.0) (c.in_ok-summands.ensures.solved r.0 r.1 r.2)

pub returns-clause-used : goal.returns-clause-used
returns-clause-used g c =
    let sig = c.args.sig.now in
    let stands = c.signature_stands.ensures in
    let ts = c.args.pool.now.trees in
    let us = c.solved_summands.new.pool.trees in
    let kept = c.solved_summands.ensures.kept in
    let l = plain_linear c.args.lin in
    let ss = map plain_summand c.in_ok-summands.summands.items in
    let all = c.in_ok-summands.ensures.stand in
    let r = c.requires.simplifier in
    made_used sig stands ts us kept l c.requires.fits ss all r.0 (g.S.Simplifier.simple c.args.simp.now sig r.0) (c.in_ok-summands.ensures.solved r.0 r.1 r.2)

pub returns-clause-simple : goal.returns-clause-simple
returns-clause-simple g c =
    let sig = c.args.sig.now in
    let stands = c.signature_stands.ensures in
    let ts = c.args.pool.now.trees in
    let us = c.solved_summands.new.pool.trees in
    let kept = c.solved_summands.ensures.kept in
    let l = plain_linear c.args.lin in
    let ss = map plain_summand c.in_ok-summands.summands.items in
    let all = c.in_ok-summands.ensures.stand in
    λ own f fine. made_simple sig stands ts us kept l c.requires.fits ss all own (g.S.Simplifier.simple c.args.simp.now sig own) (c.in_ok-summands.ensures.solved own f fine) (g.S.Simplifier.simple c.solved_summands.new.simp sig own) (λ t. (c.solved_summands.ensures.same own t).1)

pub returns-clause-bisimilar : goal.returns-clause-bisimilar
returns-clause-bisimilar g c =
    let sig = c.args.sig.now in
    let stands = c.signature_stands.ensures in
    let ts = c.args.pool.now.trees in
    let us = c.solved_summands.new.pool.trees in
    let kept = c.solved_summands.ensures.kept in
    let l = plain_linear c.args.lin in
    let ss = map plain_summand c.in_ok-summands.summands.items in
    let all = c.in_ok-summands.ensures.stand in
    λ own f fine. made_good sig stands ts us kept l c.requires.fits ss all own (g.S.Simplifier.simple c.args.simp.now sig own) (c.in_ok-summands.ensures.solved own f fine)
