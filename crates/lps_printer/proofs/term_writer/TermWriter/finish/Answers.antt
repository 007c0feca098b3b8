use Rattle.std.proofs.Common.{◌≡◌, [], sym, subst, arith}
use Rattle.lps_printer.specs.Adding.{Adds}
use Rattle.lps_printer.specs.PendingParts.{pieces_left}
use Rattle.lps_printer.proofs.AddingPieces.{adds_none}
use Rattle.lps_printer.proofs.PendingLemmas.{nothing_left, all_stand, last_stands, weight_falls, part_done}
use Rattle.lps_printer.proofs.term_writer.TermWriter.finish.Goals as goal

pub loop-part-init : goal.loop-part-init
loop-part-init c = (c.requires, λ w k final a. a)

pub begin_part-requires : goal.begin_part-requires
begin_part-requires c = last_stands c.args.self.now c.pop.new.self.items c.loop-part.left.items c.in-Some.part c.in-Some.ensures.items c.loop-part.invariant.0

pub loop-part-smaller : goal.loop-part-smaller
loop-part-smaller c =
    let h = c.in_ok-begin_part.ensures in
    weight_falls c.args.self.now c.pop.new.self.items h.left c.loop-part.left.items c.begin_part.new.left.items c.in-Some.part c.in-Some.ensures.items h.are h.less

pub loop-part-preserved : goal.loop-part-preserved
loop-part-preserved c =
    let self = c.args.self.now in
    let h = c.in_ok-begin_part.ensures in (
      all_stand self c.pop.new.self.items h.left c.loop-part.left.items c.begin_part.new.left.items c.in-Some.part c.in-Some.ensures.items h.are c.loop-part.invariant.0 h.stand,
      λ w k final a. c.loop-part.invariant.1 w k final (part_done self w c.pop.new.self.items h.left c.loop-part.left.items c.begin_part.new.left.items c.in-Some.part c.in-Some.ensures.items h.are (h.bytes w k) a),
    )

pub returns : goal.returns
returns c = λ w k.
    let self = c.args.self.now in
    let out = c.loop-part.out.items in
    let none : c.loop-part.left.items ≡ [] = nothing_left c.loop-part.left.items (let l = c.in_default.ensures.cases.0 in omega (arith, l, c.loop-part.left.ok.0)) in
    c.loop-part.invariant.1 w k out (subst (λ ps. Adds out out (λ rest. pieces_left self w ps rest)) (sym none) (adds_none out))
