use Rattle.std.proofs.Common.{◌≡◌, ap, rules}
use Rattle.data_theory.specs.declared.ids.TermId.{TermId}
use Rattle.data_rewriter.proofs.Standings.{same_terms}
use Rattle.data_rewriter.proofs.lines.are_same.Goals as goal

pub returns : goal.returns
returns c = λ sig t u table h k.
    let both = same_terms sig c.args.pool.now.trees table c.len.ensures.distinct c.args.x c.args.y t u h k in (
      (λ b. both.0 (let n : c.args.x.0 ≡ c.args.y.0 = search (rules, c.eq.ensures, b) in λ i. record { 0 = n i })),
      (λ e. let n : c.args.x.0 ≡ c.args.y.0 = ap (λ (a : TermId). a.0) (both.1 e) in search (rules, c.eq.ensures, n)),
    )
