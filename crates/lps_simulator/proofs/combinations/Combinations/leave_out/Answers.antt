use Rattle.std.proofs.Common.{◌∙◌, List, take, refl, sym, ap, subst}
use Rattle.std.specs.Prelude.{Vec}
use Rattle.std.specs.Global.{Global}
use Rattle.data_theory.specs.declared.ids.TermId.{TermId}
use Rattle.lps_simulator.specs.Combinations.{rows, AreWithin}
use Rattle.lps_simulator.proofs.Placing.{leaves_out, leaves_none, within_first}
use Rattle.lps_simulator.proofs.combinations.Combinations.leave_out.Goals as goal

pub pass-requires : goal.pass-requires
pass-requires c =
    subst (λ (z : List (Vec TermId Global)). AreWithin (rows z) c.in_ok-places.places.items) (sym c.as_slice-lists.ensures.value)
    (subst (AreWithin (rows c.self.inside.lists.items)) (sym (c.in_ok-places.ensures.items ∙ ap (take c.args.level) c.deref.ensures.value)) (within_first (rows c.self.inside.lists.items) c.self.inside.places.items c.args.level c.self.invariant.within))

pub returns-clause-left_out : goal.returns-clause-left_out
returns-clause-left_out c =
    leaves_out c.self.inside.lists.items c.as_slice-lists.result.now c.self.inside.places.items c.as_slice.result.now c.in_ok-places.places.items c.pass.new.places.items c.args.level c.args.values.now c.self.inside.over c.in_ok-more.more c.args.self.now
    c.self.view_is c.if-self.false c.as_slice-lists.ensures.value c.as_slice.ensures.value c.self.invariant.within (c.if-not-begin_with.ensures refl) (c.in_ok-places.ensures.items ∙ ap (take c.args.level) (c.deref.ensures.value ∙ sym c.as_slice.ensures.value)) c.in_ok-more.ensures.left
