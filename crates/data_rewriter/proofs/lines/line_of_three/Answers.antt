use Rattle.std.proofs.Common.{refl, sym, ◌∙◌, subst, arith}
use Rattle.data_theory.specs.Terms.{application, none, more}
use Rattle.data_theory.specs.IdTerms.{symbol_under}
use Rattle.data_rewriter.specs.Standing.{StandsFor, term_at}
use Rattle.data_rewriter.specs.Signs.{HasSign}
use Rattle.data_rewriter.specs.FirstLines.{IsFirstLine}
use Rattle.data_rewriter.proofs.Arities.{counted, not_three}
use Rattle.data_rewriter.proofs.lines.line_of_three.Goals as goal

pub returns-in-If : goal.returns-in-If
returns-in-If c = λ sig t inside x y z.
    let h = subst (HasSign sig (symbol_under sig c.args.fun)) (sym c.sign.ensures ∙ c.in-If.is) (t.signs c.args.fun inside) in
    let v = c.view_of.ensures.shown sig t.signs x in
    let X = term_at sig c.args.pool.now.trees c.args.x in
    let Y = term_at sig c.args.pool.now.trees c.args.y in
    let Z = term_at sig c.args.pool.now.trees c.args.z in
    let sy : StandsFor sig c.args.pool.now.trees c.args.y Y = record { term = y; is = refl } in
    let sz : StandsFor sig c.args.pool.now.trees c.args.z Z = record { term = z; is = refl } in
    subst (λ f. IsFirstLine sig c.args.pool.now.trees (application f (more X (more Y (more Z none)))) c.if_line.result) (sym h.1) (c.if_line.ensures sig c.args.pool.now.trees h.0 X Y Z v sy sz (c.are_same.ensures sig Y Z t.signature.table sy sz))

pub returns-in_default : goal.returns-in_default
returns-in_default c = λ sig t inside x y z i d r b.
    let n = counted sig (more (term_at sig c.args.pool.now.trees c.args.x) (more (term_at sig c.args.pool.now.trees c.args.y) (more (term_at sig c.args.pool.now.trees c.args.z) none))) d r (symbol_under sig c.args.fun) c.sign.result (subst (HasSign sig (symbol_under sig c.args.fun)) (sym c.sign.ensures) (t.signs c.args.fun inside)) b.0 (omega arith) in
    not_three c.sign.result c.in_default.not-If n
