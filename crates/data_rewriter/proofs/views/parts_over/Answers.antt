use Rattle.std.proofs.Common.{◌≡◌, sym, subst, ap, ◌∙◌, rules}
use Rattle.data_theory.specs.declared.ids.SortId.{SortId}
use Rattle.data_rewriter.specs.Standing.{IsSortOf}
use Rattle.data_rewriter.specs.Views.{IsView}
use Rattle.data_rewriter.proofs.ViewLemmas.{same_sort}
use Rattle.data_rewriter.proofs.views.parts_over.Goals as goal

pub returns-then-ne : goal.returns-then-ne
returns-then-ne c = λ sig ts a t table over v e.
    let is = subst (IsView sig ts t) c.in-Cons.is v in
    let p = sym is.7 ∙ e.2 in
    let b : is.0 ≡ a = cc in
    let same = same_sort sig table c.in-Cons.over c.args.sort a (subst (IsSortOf sig c.in-Cons.over) b is.1) over in
    let n : c.in-Cons.over.0 ≡ c.args.sort.0 = ap (λ (s : SortId). s.0) same in
    let d = c.if-ne.ensures in search (rules, d, n)
