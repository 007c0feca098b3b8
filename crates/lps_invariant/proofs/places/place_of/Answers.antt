use Rattle.std.proofs.Common.{ap₂}
use Rattle.lps_core.specs.PlainLinears.{plain_summand}
use Rattle.lps_invariant.proofs.PuttingParts.{hypotheses_stand, hypotheses_meant}
use Rattle.lps_invariant.proofs.places.place_of.Goals as goal

pub returns-clause-stands : goal.returns-clause-stands
returns-clause-stands c = record {
  hypotheses =
      hypotheses_stand c.args.sig.now c.signature_stands.ensures c.args.pool.now.trees c.parts_next.new.pool.trees c.parts_next.ensures.kept c.args.params.now c.args.invariant.now c.in_ok-hypotheses.hypotheses.items c.add_parts.new.found.items (plain_summand c.args.summand.now)
      (c.in_ok-hypotheses.ensures.items_if_clones_equal (λ x y e. e)) c.requires.invariant c.requires.summand c.in_ok-add_parts.ensures.parts c.in_ok-add_parts.ensures.within;
  goals = c.in_ok-goals.ensures.stand;
}

pub returns-clause-place : goal.returns-clause-place
returns-clause-place c = λ inv h.
    ap₂ (λ hs gs. record { hypotheses = hs; goals = gs })
    (hypotheses_meant c.args.sig.now c.signature_stands.ensures c.args.pool.now.trees c.parts_next.new.pool.trees c.parts_next.ensures.kept c.args.params.now c.args.invariant.now c.in_ok-hypotheses.hypotheses.items c.add_parts.new.found.items (plain_summand c.args.summand.now)
    (c.in_ok-hypotheses.ensures.items_if_clones_equal (λ x y e. e)) c.requires.invariant c.requires.summand c.in_ok-add_parts.ensures.parts c.in_ok-add_parts.ensures.within inv h)
    (c.in_ok-goals.ensures.put inv h)
