use Rattle.std.proofs.Common.{◌≡◌, ◌<◌, ◌∙◌, ap, length, Bool, false, true, cond, subst, sym}
use Rattle.std.specs.List.{list_any}
use Rattle.lps_core.specs.PlainLinears.{plain_linear}
use Rattle.lps_core.proofs.PoolTrees.{extends_on}
use Rattle.lps_constelm.proofs.RunLoops.{both_ways}
use Rattle.lps_constelm.proofs.WholeRounds.{so_far_first, so_far_more, so_far_done, fewer_kept}
use Rattle.lps_constelm.proofs.eliminating.eliminate.Goals as goal

pub first_round-requires : goal.first_round-requires
first_round-requires g c = c.requires

pub loop-alloc-init : goal.loop-alloc-init
loop-alloc-init g c =
    let runs = c.first_round.ensures.runs in
    record {
      kept = runs.kept;
      fitting = λ sig own stands fits f w. runs.fitting sig own f (stands, fits);
      same = runs.same;
      so_far = λ sig own stands fits f w. so_far_first sig own _ c.args.pool.now.trees c.first_round.new.pool.trees _ _ _ (c.in_ok-round.ensures.made sig own f w (stands, fits));
    }

pub next_round-requires : goal.next_round-requires
next_round-requires g c =
    let r = c.requires in
    let inv = c.loop-alloc.invariant in
    (r.0, r.1, r.2, (inv.so_far r.0 r.1 r.2 r.3 r.4 r.5).marked, inv.fitting r.0 r.1 r.2 r.3 r.4 r.5, r.5)

pub returns-in_err-round-clause-fitting : goal.returns-in_err-round-clause-fitting
returns-in_err-round-clause-fitting g c = λ sig own stands fits f w. c.first_round.ensures.runs.fitting sig own f (stands, fits)

pub returns-in_err-round-2-clause-fitting : goal.returns-in_err-round-2-clause-fitting
returns-in_err-round-2-clause-fitting g c = λ sig own stands fits f w.
    let inv = c.loop-alloc.invariant in
    c.next_round.ensures.runs.fitting sig own (inv.fitting sig own stands fits f w) (stands, (inv.so_far sig own stands fits f w).marked)

pub loop-alloc-preserved : goal.loop-alloc-preserved
loop-alloc-preserved g c =
    let inv = c.loop-alloc.invariant in
    let runs = c.next_round.ensures.runs in
    let ts = c.args.pool.now.trees in
    let us = c.loop-alloc.pool.trees in
    let vs = c.next_round.new.pool.trees in
    let l = plain_linear c.args.lin in
    let k = plain_linear c.loop-alloc.round.lin in
    let marks = c.loop-alloc.round.marks.items in
    let some : list_any (λ (m : Bool). cond m false true) marks ≡ true = sym c.has_unmarked.ensures ∙ c.loop-alloc-test.true in
    record {
      kept = extends_on ts us vs inv.kept runs.kept;
      fitting = λ sig own stands fits f w. runs.fitting sig own (inv.fitting sig own stands fits f w) (stands, (inv.so_far sig own stands fits f w).marked);
      same = λ sig own t. both_ways (runs.same sig own t) (inv.same sig own t);
      so_far = λ sig own stands fits f w.
          let far = inv.so_far sig own stands fits f w in
          so_far_more sig own (g.S.Simplifier.simple c.args.simp.now sig own) (g.S.Simplifier.simple c.loop-alloc.simp sig own) (λ t. (inv.same sig own t).0) ts us vs l k _ marks _ far some (c.in_ok-round-2.ensures.made sig own (inv.fitting sig own stands fits f w) w (stands, far.marked));
    }

pub loop-alloc-smaller : goal.loop-alloc-smaller
loop-alloc-smaller g c =
    let r = c.requires in
    let inv = c.loop-alloc.invariant in
    let far = inv.so_far r.0 r.1 r.2 r.3 r.4 r.5 in
    let k = plain_linear c.loop-alloc.round.lin in
    let marks = c.loop-alloc.round.marks.items in
    let some : list_any (λ (m : Bool). cond m false true) marks ≡ true = sym c.has_unmarked.ensures ∙ c.loop-alloc-test.true in
    let round = c.in_ok-round-2.ensures.made r.0 r.1 (inv.fitting r.0 r.1 r.2 r.3 r.4 r.5) r.5 (r.2, far.marked) in
    subst (λ n. n < length k.params) (sym (ap length round.params)) (fewer_kept marks k.params far.marked.long some)

pub returns-clause-fits : goal.returns-clause-fits
returns-clause-fits g c = λ sig own stands fits f w. (c.loop-alloc.invariant.so_far sig own stands fits f w).marked.fits

pub returns-clause-eliminated : goal.returns-clause-eliminated
returns-clause-eliminated g c = λ sig own stands fits f w.
    let inv = c.loop-alloc.invariant in
    let marks = c.loop-alloc.round.marks.items in
    let none : list_any (λ (m : Bool). cond m false true) marks ≡ false = sym c.has_unmarked.ensures ∙ c.loop-alloc-test.false in
    so_far_done sig own (g.S.Simplifier.simple c.args.simp.now sig own) c.args.pool.now.trees c.loop-alloc.pool.trees (plain_linear c.args.lin) (plain_linear c.loop-alloc.round.lin) marks stands inv.kept fits (inv.so_far sig own stands fits f w) none
