use Rattle.std.proofs.Common.{◌≡◌, inl, inr, refl, sym, ap, ◌∙◌, subst, rules}
use Rattle.std.specs.Prelude.{None}
use Rattle.data_theory.specs.Terms.{Terms}
use Rattle.data_theory.specs.Equations.{trueᵗ, falseᵗ}
use Rattle.data_rewriter.specs.Standing.{IsSymbolOf}
use Rattle.data_rewriter.proofs.Deciding.{plainly}
use Rattle.data_rewriter.proofs.EqualClauses.{recogniser_decided, made_symbol, made_by}
use Rattle.data_theory.specs.Terms.{function, application}
use Rattle.data_theory.specs.declared.ids.FunId.{FunId}
use Rattle.data_theory.specs.IdData.{data_meant}
use Rattle.data_rewriter.proofs.EqualClauses.{same_function, recognises_a_constructor}
use Rattle.data_rewriter.proofs.struct_lines.recogniser_line.Goals as goal

pub returns-in_default : goal.returns-in_default
returns-in_default c = λ sig ts p k t table ok con role v.
    recogniser_decided sig ts p k t role None (inr ((λ h. c.in_default.ensures sig ts t v k h.0 (recognises_a_constructor (data_meant sig) ok p k role) h.1), inr ((λ h. c.in_default.ensures sig ts t v h.0 h.1 h.3 h.2), tt)))

pub returns-then-eq : goal.returns-then-eq
returns-then-eq c = λ sig ts p k t table ok con role v.
    let m = c.in-Some.ensures sig ts t v in
    let n : c.in-Some.found.0 ≡ c.args.constructor.0 = let d = c.if-eq.ensures in search (rules, d) in
    let e = made_by sig c.in-Some.found c.args.constructor m.number k m.symbol con (λ i. record { 0 = n i }) in
    let is : t ≡ application (function k) m.arguments = m.is ∙ ap (λ x. application (function x) m.arguments) e in
    recogniser_decided sig ts p k t role _ (inl ((m.arguments, is), plainly sig ts 53 _ trueᵗ _ c.line.ensures refl))

pub returns-else-eq : goal.returns-else-eq
returns-else-eq c = λ sig ts p k t table ok con role v.
    let m = c.in-Some.ensures sig ts t v in
    let other : (us : Terms) × (t ≡ application (function k) us) → ⊥ = (λ h. let same = same_function sig table c.in-Some.found c.args.constructor (function k) (subst (IsSymbolOf sig c.in-Some.found) (made_symbol t m.number k m.arguments h.0 (sym m.is ∙ h.1)) m.symbol) con in let n : c.in-Some.found.0 ≡ c.args.constructor.0 = ap (λ (f : FunId). f.0) same in let d = c.if-eq.ensures in search (rules, d, n)) in
    recogniser_decided sig ts p k t role _ (inr (other, inl ((m.number, m.arguments, m.is, m.constructs, (λ s. other (m.arguments, m.is ∙ ap (λ x. application (function x) m.arguments) s))), plainly sig ts 54 _ falseᵗ _ c.line-else-eq.ensures refl)))
