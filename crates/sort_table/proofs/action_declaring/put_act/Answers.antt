use Rattle.std.proofs.Common.{◌<◌, ◌∙◌, ap, length, sym, subst}
use Rattle.std.specs.List.{All}
use Rattle.data_theory.specs.declared.ids.SortId.{SortId}
use Rattle.data_theory.specs.Signature.{IsAct, with_action}
use Rattle.sort_table.proofs.AddedActions.{new_act, no_act}
use Rattle.sort_table.proofs.action_declaring.put_act.Goals as goal

pub add_act-requires-clause-sorts : goal.add_act-requires-clause-sorts
add_act-requires-clause-sorts c = subst (All (λ (s : SortId). s.0 < length c.args.signature.now.sorts)) (sym c.in_ok-copy.ensures) c.requires.sorts

pub add_act-requires-clause-absent : goal.add_act-requires-clause-absent
add_act-requires-clause-absent c =
    let old = c.args.signature.now in
    subst (λ t. ¬ (IsAct old t c.in_ok-copy.copy.items)) (sym c.in-Ok.ensures.cases.0)
    (no_act old c.args.bytes.now c.args.sorts.now c.in_ok-copy.copy.items c.args.name c.names.ensures.stands c.requires.name c.requires.absent c.in_ok-copy.ensures)

pub returns : goal.returns
returns c =
    let old = c.args.signature.now in
    new_act old c.add_act.new.self c.args.bytes.now c.args.sorts.now c.in_ok-copy.copy.items c.args.name c.names.ensures.stands c.requires.name
    (c.in_ok-add_act.ensures.added ∙ ap (λ t. with_action old t c.in_ok-copy.copy.items) c.in-Ok.ensures.cases.0) c.in_ok-copy.ensures
