use Rattle.std.proofs.Common.{◌≡◌, ◌∙◌, rules}
use Rattle.data_theory.specs.Terms.{natural}
use Rattle.data_rewriter.proofs.ListClauses.{zero_is, not_zero}
use Rattle.data_rewriter.proofs.NumberSorts.{naturals_are}
use Rattle.data_rewriter.proofs.Deciding.{falsum}
use Rattle.data_rewriter.proofs.list_lines.is_zero.Goals as goal

pub returns-in_default : goal.returns-in_default
returns-in_default c = λ sig ts t table v.
    ((λ b. absurd (falsum b)), (λ e. absurd (c.in_default.ensures sig ts natural t table (naturals_are sig table) v _ e)))

pub returns : goal.returns
returns c = λ sig ts t table v.
    let n = c.in-Some.ensures sig ts natural t table (naturals_are sig table) v in
    ((λ b. n.0 ∙ zero_is c.in-Some.num (search (rules, b))), (λ e. let z : c.in-Some.num.magnitude ≡ 0 = not_zero c.in-Some.num t n.0 e in search (rules, z)))
