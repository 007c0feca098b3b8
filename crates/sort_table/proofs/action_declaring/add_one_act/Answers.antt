use Rattle.sort_table.proofs.AddedActions.{old_act}
use Rattle.sort_table.proofs.action_declaring.add_one_act.Goals as goal

pub returns-in-Some : goal.returns-in-Some
returns-in-Some c =
    let g = c.args.signature.now in
    old_act g g c.args.bytes.now c.args.sorts.now c.name_id-name.result c.in-Some.field-0.0 c.name_id-name.ensures c.in-Some.ensures
