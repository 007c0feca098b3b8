use Rattle.std.proofs.Common.{ap, ◌∙◌}
use Rattle.std.specs.Prelude.{Vec}
use Rattle.std.specs.Global.{Global}
use Rattle.std.specs.List.{list_any}
use Rattle.std.specs.Cmp.Lexicographic.{pointwise}
use Rattle.std.proofs.lemmas.List.Sorted.{IsNonDecreasingBy-from_sort}
use Rattle.data_theory.specs.declared.ids.NameId.{NameId}
use Rattle.data_theory.specs.contracts.ids.NameIdPartialEq.TheImpl as name_ids
use Rattle.action_filters.proofs.AddedNames.{found_by_order}
use Rattle.action_filters.proofs.labels.are_one_of.Goals as goal

pub returns : goal.returns
returns c =
    c.contains.ensures ∙ ap (λ ns. list_any (λ (v : Vec NameId Global). pointwise name_ids.eq-value.it ns v.items) c.args.sets.now.keys) c.as_slice.ensures.value
    ∙ found_by_order c.args.names.items _ c.args.sets.now.keys c.sort_unstable.ensures.permutation (IsNonDecreasingBy-from_sort (λ (n : NameId). n.0) _ c.sort_unstable.ensures.sorted) c.requires
