use Rattle.std.proofs.Common.{◌≡◌, ◌++◌, map, sym, ap, ◌∙◌, rules}
use Rattle.process_terms.specs.PlainProcesses.{plain_label}
use Rattle.action_filters.specs.Filters.{naming}
use Rattle.summand_expander.specs.PlainAllowed.{can_complete_ids, plain_allowed}
use Rattle.summand_expander.proofs.nearby.stay_near.Goals as goal

pub returns-then-not-are_near : goal.returns-then-not-are_near
returns-then-not-are_near c a near = let far = c.are_near.ensures c.if-not-are_near.true in sym (near.apart (map (naming c.args.sig.now).name (plain_label c.args.label.now)) far.0 far.1.0 far.1.1)

pub returns : goal.returns
returns c a near =
    let others = map (naming c.args.sig.now).name (plain_label c.args.label.now) in
    let all : c.as_slice-2.result.now ≡ c.args.names.now ++ others = search rules in
    c.in_ok-can.ensures ∙ ap (can_complete_ids (plain_allowed c.args.near.now.allowed)) all ∙ near.same others
