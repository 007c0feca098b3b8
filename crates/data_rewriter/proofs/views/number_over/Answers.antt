use Rattle.std.proofs.Common.{◌≡◌, sym, subst, ap, ◌∙◌, rules}
use Rattle.data_theory.specs.declared.ids.SortId.{SortId}
use Rattle.data_rewriter.specs.Standing.{IsSortOf}
use Rattle.data_rewriter.specs.Views.{IsView}
use Rattle.data_rewriter.proofs.ViewLemmas.{same_sort}
use Rattle.data_rewriter.proofs.views.number_over.Goals as goal

pub returns-then-ne : goal.returns-then-ne
returns-then-ne c = λ sig ts a t table over v z e.
    let is = subst (IsView sig ts t) c.in-Number.is v in
    let p = sym is.2 ∙ e in
    let b : is.0 ≡ a = cc in
    let same = same_sort sig table c.in-Number.over c.args.sort a (subst (IsSortOf sig c.in-Number.over) b is.1) over in
    let n : c.in-Number.over.0 ≡ c.args.sort.0 = ap (λ (s : SortId). s.0) same in
    let d = c.if-ne.ensures in search (rules, d, n)
