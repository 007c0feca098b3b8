use Rattle.std.proofs.Common.{arith, ◌<◌, length, refl, subst}
use Rattle.std.proofs.lemmas.Option.{slice_get_read}
use Rattle.eqn_check.specs.Earlier.{WalksBack}
use Rattle.eqn_check.proofs.EarlierLemmas.{walk_begins, walk_on, walk_finds, walk_ends}
use Rattle.eqn_check.proofs.checking.overlaps_along.Goals as goal

pub loop-next-init : goal.loop-next-init
loop-next-init c =
    let w : c.args.number < length c.args.keys.now = (let e = c.requires.keys in let l = c.requires.number in omega (arith, e, l)) in
    walk_begins c.args.sig.now c.args.pool.now.trees c.args.theory.now.equations.items c.args.keys.now c.args.asked.now c.args.previous.now c.requires.previous c.requires.chain c.args.number w _ refl

pub returns-then-both : goal.returns-then-both
returns-then-both c =
    let w : c.args.number < length c.args.keys.now = (let e = c.requires.keys in let l = c.requires.number in omega (arith, e, l)) in
    let l = c.loop-next.invariant.before c.in-Some.earlier c.in-Some.is in
    let m : c.in-Some.earlier < length c.args.theory.now.equations.items = omega (arith, l, c.requires.number) in
    walk_finds c.args.sig.now c.args.pool.now.trees c.args.theory.now.equations.items c.args.keys.now c.args.asked.now c.args.previous.now c.requires.previous c.requires.chain c.args.number w
    c.in-Some.earlier (subst (WalksBack c.args.sig.now c.args.pool.now.trees c.args.theory.now.equations.items c.args.keys.now c.args.asked.now c.args.number) c.in-Some.is c.loop-next.invariant) c.index.result.now c.index-in-Some.result.now
    (slice_get_read c.args.theory.now.equations.items (length c.args.theory.now.equations.items) c.in-Some.earlier c.index.result.now refl m c.index.ensures)
    (slice_get_read c.args.theory.now.equations.items (length c.args.theory.now.equations.items) c.args.number c.index-in-Some.result.now refl c.requires.number c.index-in-Some.ensures)
    c.in_ok-both.both c.in_ok-both.ensures c.if-both.true

pub loop-next-preserved : goal.loop-next-preserved
loop-next-preserved c =
    let w : c.args.number < length c.args.keys.now = (let e = c.requires.keys in let l = c.requires.number in omega (arith, e, l)) in
    let l = c.loop-next.invariant.before c.in-Some.earlier c.in-Some.is in
    let m : c.in-Some.earlier < length c.args.theory.now.equations.items = omega (arith, l, c.requires.number) in
    walk_on c.args.sig.now c.args.pool.now.trees c.args.theory.now.equations.items c.args.keys.now c.args.asked.now c.args.previous.now c.requires.previous c.requires.chain c.args.number w
    c.in-Some.earlier (subst (WalksBack c.args.sig.now c.args.pool.now.trees c.args.theory.now.equations.items c.args.keys.now c.args.asked.now c.args.number) c.in-Some.is c.loop-next.invariant) c.index.result.now c.index-in-Some.result.now
    (slice_get_read c.args.theory.now.equations.items (length c.args.theory.now.equations.items) c.in-Some.earlier c.index.result.now refl m c.index.ensures)
    (slice_get_read c.args.theory.now.equations.items (length c.args.theory.now.equations.items) c.args.number c.index-in-Some.result.now refl c.requires.number c.index-in-Some.ensures)
    c.in_ok-both.both c.in_ok-both.ensures c.if-both.false _ refl

pub returns : goal.returns
returns c =
    let w : c.args.number < length c.args.keys.now = (let e = c.requires.keys in let l = c.requires.number in omega (arith, e, l)) in
    walk_ends c.args.sig.now c.args.pool.now.trees c.args.theory.now.equations.items c.args.keys.now c.args.asked.now c.args.previous.now c.requires.previous c.requires.chain c.args.number w c.loop-next.next c.in_default.not-Some c.loop-next.invariant
