use Rattle.std.proofs.Common.{◌≡◌, [], sym, ap, arith}
use Rattle.lps_printer.specs.UnseenTerms.{nils_left}
use Rattle.lps_printer.proofs.NeededConstants.{nothing_found, found_same}
use Rattle.lps_printer.proofs.PendingLemmas.{nothing_left}
use Rattle.lps_printer.proofs.UnseenLemmas.{all_stand, last_stands, weight_falls, one_seen}
use Rattle.lps_printer.proofs.term_writer.TermWriter.look_at_all.Goals as goal

pub loop-unseen-init : goal.loop-unseen-init
loop-unseen-init c = (c.requires, λ final a. a)

pub look_at_first-requires : goal.look_at_first-requires
look_at_first-requires c = last_stands c.args.self.now c.pop.new.self.items c.loop-unseen.left.items c.in-Some.unseen c.in-Some.ensures.items c.loop-unseen.invariant.0

pub loop-unseen-smaller : goal.loop-unseen-smaller
loop-unseen-smaller c =
    let h = c.in_ok-look_at_first.ensures in
    weight_falls c.args.self.now c.pop.new.self.items h.left c.loop-unseen.left.items c.look_at_first.new.left.items c.in-Some.unseen c.in-Some.ensures.items h.are h.less

pub loop-unseen-preserved : goal.loop-unseen-preserved
loop-unseen-preserved c =
    let self = c.args.self.now in
    let h = c.in_ok-look_at_first.ensures in (
      all_stand self c.pop.new.self.items h.left c.loop-unseen.left.items c.look_at_first.new.left.items c.in-Some.unseen c.in-Some.ensures.items h.are c.loop-unseen.invariant.0 h.stand,
      λ final a. c.loop-unseen.invariant.1 final (one_seen self c.pop.new.self.items c.loop-unseen.left.items c.look_at_first.new.left.items c.in-Some.unseen c.in-Some.ensures.items h a),
    )

pub returns : goal.returns
returns c =
    let self = c.args.self.now in
    let found = c.loop-unseen.found.keys in
    let none : c.loop-unseen.left.items ≡ [] = nothing_left c.loop-unseen.left.items (let l = c.in_default.ensures.cases.0 in omega (arith, l, c.loop-unseen.left.ok.0)) in
    c.loop-unseen.invariant.1 found (λ w k. found_same (ap (nils_left self w.names.once) (sym none)) (nothing_found self.sig.now found))
