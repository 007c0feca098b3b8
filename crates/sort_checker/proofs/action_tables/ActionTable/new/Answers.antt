use Rattle.std.proofs.Common.{◌≡◌, ◌++◌, List, [], ◌∷◌, map, ap, sym, ◌∙◌}
use Rattle.std.specs.Prelude.{Option, Some, None, Vec}
use Rattle.std.specs.Global.{Global}
use Rattle.std.specs.BTreeMap.{BTreeMap, get_by}
use Rattle.std.specs.Cmp.Lexicographic.{slice_cmp}
use Rattle.std.specs.Ordering.{nat_cmp}
use Rattle.std.proofs.lemmas.List.{map-append}
use Rattle.std.proofs.lemmas.Map.Text.{btree_map_updates_str}
use denote.Ref.{Bor}
use Rattle.data_theory.specs.declared.actions.ActEntry.{ActEntry}
use Rattle.data_theory.specs.Keys.{Key, key}
use Rattle.sort_table.specs.Expressions.{Name}
use Rattle.sort_checker.specs.ActionTables.{key_of, keys_of}
use Rattle.sort_checker.proofs.ActionGroups.{entry_within, grouped_more}
use Rattle.sort_checker.proofs.action_tables.ActionTable.new.Goals as goal
use Rattle.sort_checker.proofs.action_tables.ActionTable.new.Goals.{in-Some, in-None}

abbrev under : BTreeMap (Bor Name) (Vec (Bor ActEntry) Global) → Name → Option (Vec (Bor ActEntry) Global)
under m y = get_by (λ (k : Bor Name). slice_cmp nat_cmp y k.now) m

pub action_text-name-requires : goal.action_text-name-requires
action_text-name-requires c = (entry_within c.args.sig.now c.next_sort.ensures.stands c.acts-action-items.result.now c.acts-action-items.ensures c.loop-action.action-index c.action-item.result c.loop-action-test.true c.action-item.is).named

pub loop-action-preserved : goal.loop-action-preserved
loop-action-preserved c =
    let name : Name = c.action_text-name.result.now in
    let group : map key_of c.match-remove.group.items ≡ keys_of (under c.loop-action.groups name)
    = elim c.match-remove.branch [
      | in-Some w ↦ ap (λ (v : Vec (Bor ActEntry) Global). map key_of v.items) w.group-is ∙ ap keys_of (sym w.in-Some.is ∙ c.remove.ensures.value)
      | in-None w ↦ ap (λ (v : Vec (Bor ActEntry) Global). map key_of v.items) w.group-is ∙ (ap (map key_of) w.new-group.ensures.items ∙ ap keys_of (sym w.in-None.is ∙ c.remove.ensures.value))
    ] in
    grouped_more c.args.sig.now c.acts-action-items.result.now c.loop-action.action-index c.action-item.result c.loop-action-test.true c.action-item.is name c.action_text-name.ensures
    (under c.loop-action.groups) (under c.remove.new.self) (under c.insert.new.self) c.push.new.self
    (btree_map_updates_str name c.loop-action.groups c.remove.new.self None c.remove.ensures.updates)
    (btree_map_updates_str name c.remove.new.self c.insert.new.self (Some c.push.new.self) c.in_ok-insert.ensures.updates)
    (ap (map key_of) c.in_ok-push.ensures.items ∙ (map-append key_of c.match-remove.group.items (_ ∷ []) ∙ ap (λ (ks : List Key). ks ++ key c.action-item.result.name c.action-item.result.sorts.items ∷ []) group))
    c.loop-action.invariant
