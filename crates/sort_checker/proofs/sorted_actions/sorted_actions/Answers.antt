use Rattle.std.proofs.Common.{◌<◌, ◌≤◌, List, length, map, refl, sym, subst, ap, ◌∙◌, arith}
use Rattle.std.specs.List.{All}
use Rattle.data_theory.specs.declared.ids.SortId.{SortId}
use Rattle.data_theory.specs.declared.actions.ActEntry.{ActEntry}
use Rattle.data_theory.specs.IdTerms.{sort_under}
use Rattle.sort_checker.proofs.ActionGroups.{entry_within}
use Rattle.sort_checker.proofs.ReadLists.{take_whole}
use Rattle.sort_checker.proofs.SortedGroups.{AreUpTo, more_up_to, all_up_to}
use Rattle.sort_checker.proofs.sorted_actions.sorted_actions.Goals as goal

pub loop-number-preserved : goal.loop-number-preserved
loop-number-preserved c =
    let g = c.args.sig.now in
    let es = c.acts-actions.result.now in
    let l : c.loop-number.number < length es = omega (arith, c.loop-number-test.true) in
    let within = subst (All (λ (s : SortId). s.0 < length g.sorts)) (sym c.as_slice.ensures.value) (entry_within g c.next_sort.ensures.stands es c.acts-actions.ensures c.loop-number.number c.index-actions-number.result l c.index-actions-number.is).takes in
    more_up_to g c.next_sort.ensures.stands es c.acts-actions.ensures c.loop-number.number c.index-actions-number.result l c.index-actions-number.is _ refl
    (c.in_ok-sorts.ensures.sorts g c.requires.tables within ∙ ap (map (sort_under g)) c.as_slice.ensures.value) (c.in_ok-sorts.ensures.over g c.requires.tables within)
    c.loop-number.groups.items c.put_action.new.groups.items c.in_ok-put_action.ensures c.loop-number.invariant

pub returns : goal.returns
returns c =
    let es = c.acts-actions.result.now in
    all_up_to c.args.sig.now es c.acts-actions.ensures (record { groups = c.loop-number.groups })
    (subst (λ (fs : List ActEntry). AreUpTo c.args.sig.now fs c.loop-number.groups.items) (take_whole c.loop-number.number es (let l : length es ≤ c.loop-number.number = omega (arith, c.loop-number-test.false) in l)) c.loop-number.invariant)
