use Rattle.std.proofs.Common.{◌≡◌, subst, ap, rules}
use Rattle.data_theory.specs.declared.ids.SortId.{SortId}
use Rattle.data_rewriter.specs.Views.{IsView}
use Rattle.data_rewriter.proofs.ViewLemmas.{empty_over}
use Rattle.data_rewriter.proofs.views.is_empty_over.Goals as goal

pub returns-in-Empty : goal.returns-in-Empty
returns-in-Empty c = λ sig ts a t table over v.
    let is = subst (IsView sig ts t) c.in-Empty.is v in
    let both = empty_over sig table c.args.sort c.in-Empty.over a is.0 t over is.1 is.2 in (
      (λ b. both.0 (let n : c.args.sort.0 ≡ c.in-Empty.over.0 = search (rules, c.eq.ensures, b) in λ i. record { 0 = n i })),
      (λ e. let n : c.args.sort.0 ≡ c.in-Empty.over.0 = ap (λ (s : SortId). s.0) (both.1 e) in search (rules, c.eq.ensures, n)),
    )
