use Rattle.std.proofs.Common.{◌+◌, sym, ap, ap₂, subst, ◌∙◌, Some}
use Rattle.lps_core.proofs.NamingLoops.{name_is, sort_is}
use Rattle.regular_encoder.specs.FormColumns.{with_kind}
use Rattle.regular_encoder.proofs.FoundKinds.{IsFindingKinds, finding_more, kinds_tell}
use Rattle.regular_encoder.proofs.layouts.add_kinds.Goals as goal

pub loop-param-preserved : goal.loop-param-preserved
loop-param-preserved c =
    let own = c.requires c.loop-param.param-index _ c.loop-param-test.true in
    let kind = ap₂ (λ x y. (x, y)) (sym (name_is c.args.sig.now _ c.var_name.result own c.var_name.ensures)) (sym (sort_is c.args.sig.now _ c.var_sort.result own c.var_sort.ensures)) in
    let stored = c.in_ok-place.ensures.stored in
    subst (λ z. IsFindingKinds c.args.sig.now c.args.params.now c.args.kinds.now.keys (c.loop-param.param-index + 1) c.insert_full.new.self.keys z) (sym c.in_ok-push.ensures.items)
    (finding_more c.args.sig.now c.args.params.now c.args.kinds.now.keys c.loop-param.param-index c.loop-param.kinds.keys c.loop-param.places.items (record { 0 = 0 }) c.loop-param.invariant c.loop-param-test.true c.insert_full.new.self.keys _
    (c.in_ok-place.ensures.keys ∙ ap (with_kind c.loop-param.kinds.keys) kind)
    (stored.1 ∙ ap Some (sym (kinds_tell _ stored.0 stored.2) ∙ kind)))
