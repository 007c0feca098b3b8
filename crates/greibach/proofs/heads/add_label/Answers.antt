use Rattle.std.proofs.Common.{◌≡◌, ◌∙◌, map, reverse, refl, ap, subst, rules}
use Rattle.process_terms.specs.PlainProcesses.{plain_label}
use Rattle.greibach.specs.NumberedCalls.{AddsNumbered}
use Rattle.greibach.specs.PlacesInCode.{plain_calls, plain_places}
use Rattle.greibach.specs.PlainForms.{plain_form_summand}
use Rattle.greibach.specs.Surroundings.{plain_around, plain_unfolding}
use Rattle.std.proofs.lemmas.List.{map-append}
use Rattle.greibach.proofs.LabelMade.{label_made}
use Rattle.greibach.proofs.heads.add_label.Goals as goal

pub returns-clause-added : goal.returns-clause-added
returns-clause-added c =
    let parts : c.in_ok-to_vec.field-0.items ≡ c.args.around.parts.now = search rules in
    let sums : c.in_ok-sums.sums.items ≡ c.args.around.sums.now = search rules in
    label_made c.args.pool.now.trees c.conjoined.new.pool.trees c.put_label.new.pool.trees c.onward_calls.new.pool.trees (plain_places c.args.places.now) (plain_around c.args.around) (plain_label c.args.label.now) c.args.rest (plain_unfolding c.args.under_way.now) _ c.in_ok-to_vec.field-0.items c.in_ok-cond.cond
    (plain_label c.in_ok-label.label) c.in_ok-sums.sums.items (plain_calls c.in_ok-next.next.items) (plain_calls c.add_waiting.new.calls.items) c.onward_calls.new.met.keys c.conjoined.ensures.kept c.put_label.ensures.kept c.onward_calls.ensures.kept c.requires.listed c.requires.label c.requires.onward parts
    c.in_ok-cond.ensures.within c.in_ok-cond.ensures.tree c.in_ok-label.ensures.within c.in_ok-label.ensures.label c.in_ok-next.ensures.calls c.in_ok-next.ensures.within
    (subst (λ z. AddsNumbered (reverse (plain_calls z)) c.onward_calls.new.met.keys c.add_waiting.new.met.keys (plain_calls c.in_ok-next.next.items) (plain_calls c.add_waiting.new.calls.items)) c.as_slice.ensures.value c.in_ok-add_waiting.ensures) sums refl
    (ap (map plain_form_summand) c.in_ok-push.ensures.items ∙ map-append plain_form_summand c.args.under_way.now.summands.items _)
