use Rattle.std.proofs.Common.{◌≡◌, inl, inr, sym, ap, ◌∙◌, subst, rules}
use Rattle.std.specs.Prelude.{None}
use Rattle.data_theory.specs.Equations.{trueᵗ}
use Rattle.data_rewriter.specs.Standing.{StandsFor, IsSymbolOf}
use Rattle.data_rewriter.proofs.Deciding.{plainly}
use Rattle.data_rewriter.proofs.EqualClauses.{projection_decided, made_symbol, made_by}
use Rattle.data_theory.specs.Terms.{function, application}
use Rattle.data_theory.specs.Equations.{term_at}
use Rattle.data_theory.specs.declared.ids.FunId.{FunId}
use Rattle.data_theory.specs.IdData.{data_meant}
use Rattle.data_rewriter.proofs.ListClauses.{part}
use Rattle.data_rewriter.proofs.EqualClauses.{same_function, projects_a_constructor}
use Rattle.std.specs.Prelude.{MatchOption}
use Rattle.data_rewriter.proofs.struct_lines.projection_line.Goals as goal

pub returns-in_default : goal.returns-in_default
returns-in_default c = λ sig ts p k i t table ok con role v place.
    projection_decided sig ts p k i t role None (inr ((λ h. c.in_default.ensures sig ts t v k h.0 (projects_a_constructor (data_meant sig) ok p k i role) h.1), tt))

pub returns-then-ne : goal.returns-then-ne
returns-then-ne c = λ sig ts p k i t table ok con role v place.
    let m = c.in-Some.ensures sig ts t v in
    projection_decided sig ts p k i t role None (inr ((λ h. let same = same_function sig table c.in-Some.found c.args.constructor (function k) (subst (IsSymbolOf sig c.in-Some.found) (made_symbol t m.number k m.arguments h.0 (sym m.is ∙ h.1)) m.symbol) con in let n : c.in-Some.found.0 ≡ c.args.constructor.0 = ap (λ (f : FunId). f.0) same in let d = c.if-ne.ensures in search (rules, d, n)), tt))

pub returns-in-Some-at_place : goal.returns-in-Some-at_place
returns-in-Some-at_place c = λ sig ts p k i t table ok con role v place.
    let m = c.in-Some.ensures sig ts t v in
    let n : c.in-Some.found.0 ≡ c.args.constructor.0 = let d = c.if-ne.ensures in search (rules, d) in
    let e = made_by sig c.in-Some.found c.args.constructor m.number k m.symbol con (λ i. record { 0 = n i }) in
    let is : t ≡ application (function k) m.arguments = m.is ∙ ap (λ x. application (function x) m.arguments) e in
    let at = subst (λ o. MatchOption o (term_at m.arguments i ≡ trueᵗ) (λ id. StandsFor sig ts id (term_at m.arguments i))) c.in-Some-at_place.is (place m.arguments is) in
    projection_decided sig ts p k i t role _ (inl ((m.arguments, is), plainly sig ts 52 _ (part t i) _ c.line.ensures (subst (StandsFor sig ts c.in-Some-at_place.term) (ap (λ x. part x i) (sym is)) at)))

pub returns-in-None : goal.returns-in-None
returns-in-None c = λ sig ts p k i t table ok con role v place.
    let m = c.in-Some.ensures sig ts t v in
    let n : c.in-Some.found.0 ≡ c.args.constructor.0 = let d = c.if-ne.ensures in search (rules, d) in
    let e = made_by sig c.in-Some.found c.args.constructor m.number k m.symbol con (λ i. record { 0 = n i }) in
    let is : t ≡ application (function k) m.arguments = m.is ∙ ap (λ x. application (function x) m.arguments) e in
    let at = subst (λ o. MatchOption o (term_at m.arguments i ≡ trueᵗ) (λ id. StandsFor sig ts id (term_at m.arguments i))) c.in-None.is (place m.arguments is) in
    projection_decided sig ts p k i t role _ (inl ((m.arguments, is), plainly sig ts 52 _ (part t i) _ c.line-in-None.ensures (ap (λ x. part x i) is ∙ at)))
