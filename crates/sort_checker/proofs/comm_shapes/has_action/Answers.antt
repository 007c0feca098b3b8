use Rattle.std.proofs.Common.{◌≡◌, map, ap, sym, ◌∙◌, arith}
use Rattle.std.specs.Prelude.{option_map}
use Rattle.data_theory.specs.IdTerms.{sort_under}
use Rattle.sort_checker.specs.ActionTables.{key_of, keys_of, keys_in, actions_named}
use Rattle.sort_checker.proofs.ActionGroups.{absent_in, no_entries, declared_told}
use Rattle.sort_checker.proofs.comm_shapes.has_action.Goals as goal

pub returns-in_default : goal.returns-in_default
returns-in_default c =
    absent_in c.args.sig.now c.args.name.now (map (sort_under c.args.sig.now) c.args.sorts.now) (keys_in c.args.table.now.groups c.args.name.now) (c.requires.groups c.args.name.now)
    (ap keys_of (sym c.get.ensures.value ∙ ap (option_map (λ v. v.now)) c.in_default.is))

pub returns-in-empty : goal.returns-in-empty
returns-in-empty c =
    absent_in c.args.sig.now c.args.name.now (map (sort_under c.args.sig.now) c.args.sorts.now) (keys_in c.args.table.now.groups c.args.name.now) (c.requires.groups c.args.name.now)
    (ap keys_of (sym c.get.ensures.value ∙ ap (option_map (λ v. v.now)) c.in-Some.is) ∙ (ap (map key_of) (sym c.as_slice.ensures.value) ∙ no_entries c.as_slice.result.now c.in-empty.len_below))

pub returns-in-len1-up : goal.returns-in-len1-up
returns-in-len1-up c =
    let under : map key_of c.as_slice.result.now ≡ actions_named c.args.sig.now c.args.name.now c.args.sig.now.actions
    = ap (map key_of) c.as_slice.ensures.value ∙ (sym (ap keys_of (sym c.get.ensures.value ∙ ap (option_map (λ v. v.now)) c.in-Some.is)) ∙ c.requires.groups c.args.name.now) in
    c.is_some.ensures ∙ declared_told c.args.sig.now c.next_sort.ensures.stands c.args.name.now c.as_slice.result.now under 0 c.action-item.result (omega (arith, c.in-len1-up.len_at_least)) c.action-item.is c.args.sorts.now c.requires.sorts c.act.result c.act.ensures
