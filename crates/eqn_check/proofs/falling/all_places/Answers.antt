use Rattle.std.proofs.Common.{rules, ◌≡◌, ◌<◌, ◌∙◌, List, length, replicate, true, sym, ap}
use Rattle.std.specs.Prelude.{slice_get}
use Rattle.data_theory.specs.declared.ids.SortId.{SortId}
use Rattle.data_theory.specs.Functions.{Function, arguments_of}
use Rattle.eqn_check.proofs.JudgedLemmas.{element_at_place}
use Rattle.eqn_check.proofs.RoleLemmas.{told}
use Rattle.eqn_check.proofs.FallingLemmas.{marks_none, marks_more}
use Rattle.eqn_check.proofs.falling.all_places.Goals as goal

pub loop-number-init : goal.loop-number-init
loop-number-init c = marks_none c.args.sig.now c.new-places.result.items c.new-places.ensures.items

pub loop-number-preserved : goal.loop-number-preserved
loop-number-preserved c =
    let within : c.loop-number.number < length c.args.sig.now.functions = search rules in
    let h = element_at_place c.args.sig.now.functions c.loop-number.number within in
    let args : arguments_of h.0 ≡ c.args_of-count.result.now = told (λ (f : Function). arguments_of f ≡ c.args_of-count.result.now) (slice_get c.args.sig.now.functions c.loop-number.number) h.0 h.1 c.args_of-count.ensures in
    marks_more c.args.sig.now c.loop-number.number c.loop-number.places.items c.push.new.self.items h.0 c.in_ok-vec.field-0 c.loop-number.invariant h.1
    (c.in_ok-vec.ensures.items_if_clones_equal (λ y e. e) ∙ ap (λ (l : List SortId). replicate (length l) true) (sym args)) c.in_ok-push.ensures.items
