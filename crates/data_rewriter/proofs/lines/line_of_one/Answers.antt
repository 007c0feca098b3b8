use Rattle.std.proofs.Common.{sym, ap, ◌∙◌, subst, arith}
use Rattle.data_theory.specs.Terms.{application, none, more}
use Rattle.data_theory.specs.IdTerms.{symbol_under}
use Rattle.data_rewriter.specs.Standing.{term_at}
use Rattle.data_rewriter.specs.Signs.{HasSign}
use Rattle.data_rewriter.specs.FirstLines.{IsFirstLine}
use Rattle.data_rewriter.proofs.Arities.{counted, not_one}
use Rattle.data_theory.proofs.IdDataLemmas.{meant_data_are_data}
use Rattle.data_rewriter.proofs.lines.line_of_one.Goals as goal

pub returns-in-Not : goal.returns-in-Not
returns-in-Not g c = λ sig t inside x.
    let h = subst (HasSign sig (symbol_under sig c.args.fun)) (sym c.sign.ensures ∙ c.in-Not.is) (t.signs c.args.fun inside) in
    let v = c.view_of-shown.ensures.shown sig t.signs x in
    let table = t.signature.table in
    let X = term_at sig c.args.pool.now.trees c.args.x in
    subst (λ z. IsFirstLine sig c.args.pool.now.trees (application z (more X none)) c.not_line.result) (sym h) (c.not_line.ensures sig c.args.pool.now.trees X v)

pub returns-in-One : goal.returns-in-One
returns-in-One g c = λ sig t inside x.
    let h = subst (HasSign sig (symbol_under sig c.args.fun)) (sym c.sign.ensures ∙ c.in-One.is) (t.signs c.args.fun inside) in
    let v = c.view_of-shown.ensures.shown sig t.signs x in
    let table = t.signature.table in
    let X = term_at sig c.args.pool.now.trees c.args.x in
    subst (λ z. IsFirstLine sig c.args.pool.now.trees (application z (more X none)) c.one_line.result) (sym h.6) (c.one_line.ensures sig c.args.pool.now.trees h.0 h.2 h.4 X table h.1 h.3 h.5 v)

pub returns-in-Minus : goal.returns-in-Minus
returns-in-Minus g c = λ sig t inside x.
    let h = subst (HasSign sig (symbol_under sig c.args.fun)) (sym c.sign.ensures ∙ c.in-Minus.is) (t.signs c.args.fun inside) in
    let v = c.view_of-shown.ensures.shown sig t.signs x in
    let table = t.signature.table in
    let X = term_at sig c.args.pool.now.trees c.args.x in
    subst (λ z. IsFirstLine sig c.args.pool.now.trees (application z (more X none)) c.minus_line.result) (sym h.2) (c.minus_line.ensures sig c.args.pool.now.trees h.0 X table h.1 v)

pub returns-in-Head : goal.returns-in-Head
returns-in-Head g c = λ sig t inside x.
    let h = subst (HasSign sig (symbol_under sig c.args.fun)) (sym c.sign.ensures ∙ c.in-Head.is) (t.signs c.args.fun inside) in
    let v = c.view_of-shown.ensures.shown sig t.signs x in
    let table = t.signature.table in
    let X = term_at sig c.args.pool.now.trees c.args.x in
    subst (λ z. IsFirstLine sig c.args.pool.now.trees (application z (more X none)) c.head_line.result) (sym h.2) (c.head_line.ensures sig c.args.pool.now.trees h.0 X table h.1 v)

pub returns-in-Tail : goal.returns-in-Tail
returns-in-Tail g c = λ sig t inside x.
    let h = subst (HasSign sig (symbol_under sig c.args.fun)) (sym c.sign.ensures ∙ c.in-Tail.is) (t.signs c.args.fun inside) in
    let v = c.view_of-shown.ensures.shown sig t.signs x in
    let table = t.signature.table in
    let X = term_at sig c.args.pool.now.trees c.args.x in
    subst (λ z. IsFirstLine sig c.args.pool.now.trees (application z (more X none)) c.tail_line.result) (sym h.2) (c.tail_line.ensures sig c.args.pool.now.trees h.0 X table h.1 v)

pub returns-in-Size : goal.returns-in-Size
returns-in-Size g c = λ sig t inside x.
    let h = subst (HasSign sig (symbol_under sig c.args.fun)) (sym c.sign.ensures ∙ c.in-Size.is) (t.signs c.args.fun inside) in
    let v = c.view_of-shown.ensures.shown sig t.signs x in
    let table = t.signature.table in
    let X = term_at sig c.args.pool.now.trees c.args.x in
    subst (λ z. IsFirstLine sig c.args.pool.now.trees (application z (more X none)) c.size_line.result) (sym h.2) (c.size_line.ensures sig c.args.pool.now.trees h.0 X table h.1 (record { inside = inside; is = h.2 }) v)

pub returns-in-Rhead : goal.returns-in-Rhead
returns-in-Rhead g c = λ sig t inside x.
    let h = subst (HasSign sig (symbol_under sig c.args.fun)) (sym c.sign.ensures ∙ c.in-Rhead.is) (t.signs c.args.fun inside) in
    let v = c.view_of-shown.ensures.shown sig t.signs x in
    let table = t.signature.table in
    let X = term_at sig c.args.pool.now.trees c.args.x in
    subst (λ z. IsFirstLine sig c.args.pool.now.trees (application z (more X none)) c.rhead_line.result) (sym h.2) (c.rhead_line.ensures sig c.args.pool.now.trees h.0 X table h.1 (record { inside = inside; is = h.2 }) v (λ y l e. c.view_of_rest.ensures sig t.signs h.0 X y l v e))

pub returns-in-Rtail : goal.returns-in-Rtail
returns-in-Rtail g c = λ sig t inside x.
    let h = subst (HasSign sig (symbol_under sig c.args.fun)) (sym c.sign.ensures ∙ c.in-Rtail.is) (t.signs c.args.fun inside) in
    let v = c.view_of-shown.ensures.shown sig t.signs x in
    let table = t.signature.table in
    let X = term_at sig c.args.pool.now.trees c.args.x in
    subst (λ z. IsFirstLine sig c.args.pool.now.trees (application z (more X none)) c.rtail_line.result) (sym h.2) (c.rtail_line.ensures sig c.args.pool.now.trees h.0 X table h.1 (record { inside = inside; is = h.2 }) v (λ y l e. c.view_of_rest-in-Rtail.ensures sig t.signs h.0 X y l v e))

pub returns-in-Projection : goal.returns-in-Projection
returns-in-Projection g c = λ sig t inside x.
    let h = subst (HasSign sig (symbol_under sig c.args.fun)) (sym c.sign.ensures ∙ c.in-Projection.is) (t.signs c.args.fun inside) in
    let v = c.view_of-shown.ensures.shown sig t.signs x in
    let table = t.signature.table in
    let X = term_at sig c.args.pool.now.trees c.args.x in
    let ok = meant_data_are_data sig t.signature.table t.signature.roles in
    subst (λ z. IsFirstLine sig c.args.pool.now.trees (application z (more X none)) c.projection_line.result) (sym h.2) (c.projection_line.ensures sig c.args.pool.now.trees h.0 h.1 c.in-Projection.place X table ok h.3 h.4 v (λ us e. c.argument_at.ensures sig c.in-Projection.cons us x (e ∙ ap (λ z. application z us) (sym h.3.is))))

pub returns-in-Recogniser : goal.returns-in-Recogniser
returns-in-Recogniser g c = λ sig t inside x.
    let h = subst (HasSign sig (symbol_under sig c.args.fun)) (sym c.sign.ensures ∙ c.in-Recogniser.is) (t.signs c.args.fun inside) in
    let v = c.view_of-shown.ensures.shown sig t.signs x in
    let table = t.signature.table in
    let X = term_at sig c.args.pool.now.trees c.args.x in
    let ok = meant_data_are_data sig t.signature.table t.signature.roles in
    subst (λ z. IsFirstLine sig c.args.pool.now.trees (application z (more X none)) c.recogniser_line.result) (sym h.2) (c.recogniser_line.ensures sig c.args.pool.now.trees h.0 h.1 X table ok h.3 h.4 v)

pub returns-in_default : goal.returns-in_default
returns-in_default g c = λ sig t inside x i d r b.
    let n = counted sig (more (term_at sig c.args.pool.now.trees c.args.x) none) d r (symbol_under sig c.args.fun) c.sign.result (subst (HasSign sig (symbol_under sig c.args.fun)) (sym c.sign.ensures) (t.signs c.args.fun inside)) b.0 (omega arith) in
    not_one c.sign.result c.in_default.not-Not c.in_default.not-One c.in_default.not-Minus c.in_default.not-Size c.in_default.not-Head c.in_default.not-Tail c.in_default.not-Rhead c.in_default.not-Rtail c.in_default.not-Projection c.in_default.not-Recogniser n
