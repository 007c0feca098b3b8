use Rattle.std.proofs.Common.{◌<◌, length, subst}
use Rattle.std.proofs.lemmas.Result.{on_ok_weaker}
use Rattle.data_theory.specs.declared.ids.SortId.{SortId}
use Rattle.lps_printer.specs.AddedDeclarations.{function_at, name_at}
use Rattle.lps_printer.proofs.AddedSections.{result_is, function_within, sorted_added}
use Rattle.lps_printer.proofs.added_sections.push_constant.Goals as goal

pub push_sort-requires : goal.push_sort-requires
push_sort-requires c =
    let g = c.args.sig.now in
    subst (λ (s : SortId). s.0 < length g.sorts) (result_is g c.args.fun c.sort_of.result c.requires c.sort_of.ensures) (function_within g c.args.fun c.names.ensures.stands.complete c.requires).gives

pub returns : goal.returns
returns c =
    let g = c.args.sig.now in
    on_ok_weaker c.push_sort.result (λ p n k. sorted_added g n c.args.gap.now (name_at g c.args.fun) c.sort_of.result (function_at g c.args.fun).result (result_is g c.args.fun c.sort_of.result c.requires c.sort_of.ensures) c.in_ok-push_name.ensures c.in_ok-push_token.ensures (p n k)) c.push_sort.ensures
