use Rattle.std.proofs.Common.{refl, sym, ◌∙◌, subst, arith}
use Rattle.data_theory.specs.Terms.{application, none, more}
use Rattle.data_theory.specs.IdTerms.{symbol_under}
use Rattle.data_rewriter.specs.Standing.{StandsFor, term_at}
use Rattle.data_rewriter.specs.Signs.{HasSign}
use Rattle.data_rewriter.specs.FirstLines.{IsFirstLine}
use Rattle.data_rewriter.proofs.Arities.{counted, not_two}
use Rattle.data_rewriter.proofs.lines.line_of_two.Goals as goal

pub returns-in-And : goal.returns-in-And
returns-in-And g c = λ sig t inside x y.
    let h = subst (HasSign sig (symbol_under sig c.args.fun)) (sym c.sign.ensures ∙ c.in-And.is) (t.signs c.args.fun inside) in
    let v = c.view_of-left.ensures.shown sig t.signs x in
    let w = c.view_of-right.ensures.shown sig t.signs y in
    let table = t.signature.table in
    let X = term_at sig c.args.pool.now.trees c.args.x in
    let Y = term_at sig c.args.pool.now.trees c.args.y in
    let sx : StandsFor sig c.args.pool.now.trees c.args.x X = record { term = x; is = refl } in
    let sy : StandsFor sig c.args.pool.now.trees c.args.y Y = record { term = y; is = refl } in
    subst (λ z. IsFirstLine sig c.args.pool.now.trees (application z (more X (more Y none))) c.and_line.result) (sym h) (c.and_line.ensures sig c.args.pool.now.trees X Y sx sy v w (c.are_same-same.ensures sig X Y table sx sy))

pub returns-in-Or : goal.returns-in-Or
returns-in-Or g c = λ sig t inside x y.
    let h = subst (HasSign sig (symbol_under sig c.args.fun)) (sym c.sign.ensures ∙ c.in-Or.is) (t.signs c.args.fun inside) in
    let v = c.view_of-left.ensures.shown sig t.signs x in
    let w = c.view_of-right.ensures.shown sig t.signs y in
    let table = t.signature.table in
    let X = term_at sig c.args.pool.now.trees c.args.x in
    let Y = term_at sig c.args.pool.now.trees c.args.y in
    let sx : StandsFor sig c.args.pool.now.trees c.args.x X = record { term = x; is = refl } in
    let sy : StandsFor sig c.args.pool.now.trees c.args.y Y = record { term = y; is = refl } in
    subst (λ z. IsFirstLine sig c.args.pool.now.trees (application z (more X (more Y none))) c.or_line.result) (sym h) (c.or_line.ensures sig c.args.pool.now.trees X Y sx sy v w (c.are_same-same.ensures sig X Y table sx sy))

pub returns-in-Implies : goal.returns-in-Implies
returns-in-Implies g c = λ sig t inside x y.
    let h = subst (HasSign sig (symbol_under sig c.args.fun)) (sym c.sign.ensures ∙ c.in-Implies.is) (t.signs c.args.fun inside) in
    let v = c.view_of-left.ensures.shown sig t.signs x in
    let w = c.view_of-right.ensures.shown sig t.signs y in
    let table = t.signature.table in
    let X = term_at sig c.args.pool.now.trees c.args.x in
    let Y = term_at sig c.args.pool.now.trees c.args.y in
    let sx : StandsFor sig c.args.pool.now.trees c.args.x X = record { term = x; is = refl } in
    let sy : StandsFor sig c.args.pool.now.trees c.args.y Y = record { term = y; is = refl } in
    subst (λ z. IsFirstLine sig c.args.pool.now.trees (application z (more X (more Y none))) c.implies_line.result) (sym h) (c.implies_line.ensures sig c.args.pool.now.trees X Y sx sy v)

pub returns-in-Equal : goal.returns-in-Equal
returns-in-Equal g c = λ sig t inside x y.
    let h = subst (HasSign sig (symbol_under sig c.args.fun)) (sym c.sign.ensures ∙ c.in-Equal.is) (t.signs c.args.fun inside) in
    let v = c.view_of-left.ensures.shown sig t.signs x in
    let w = c.view_of-right.ensures.shown sig t.signs y in
    let table = t.signature.table in
    let X = term_at sig c.args.pool.now.trees c.args.x in
    let Y = term_at sig c.args.pool.now.trees c.args.y in
    let sx : StandsFor sig c.args.pool.now.trees c.args.x X = record { term = x; is = refl } in
    let sy : StandsFor sig c.args.pool.now.trees c.args.y Y = record { term = y; is = refl } in
    subst (λ z. IsFirstLine sig c.args.pool.now.trees (application z (more X (more Y none))) c.equal_line.result) (sym h.2) (c.equal_line.ensures sig c.args.pool.now.trees h.0 X Y table h.1 h.3 (record { inside = inside; is = h.2 }) sx sy v w (c.are_same-same.ensures sig X Y table sx sy))

pub returns-in-Different : goal.returns-in-Different
returns-in-Different g c = λ sig t inside x y.
    let h = subst (HasSign sig (symbol_under sig c.args.fun)) (sym c.sign.ensures ∙ c.in-Different.is) (t.signs c.args.fun inside) in
    let v = c.view_of-left.ensures.shown sig t.signs x in
    let w = c.view_of-right.ensures.shown sig t.signs y in
    let table = t.signature.table in
    let X = term_at sig c.args.pool.now.trees c.args.x in
    let Y = term_at sig c.args.pool.now.trees c.args.y in
    let sx : StandsFor sig c.args.pool.now.trees c.args.x X = record { term = x; is = refl } in
    let sy : StandsFor sig c.args.pool.now.trees c.args.y Y = record { term = y; is = refl } in
    subst (λ z. IsFirstLine sig c.args.pool.now.trees (application z (more X (more Y none))) c.different_line.result) (sym h.1) (c.different_line.ensures sig c.args.pool.now.trees h.0 X Y h.2 sx sy)

pub returns-in-Two : goal.returns-in-Two
returns-in-Two g c = λ sig t inside x y.
    let h = subst (HasSign sig (symbol_under sig c.args.fun)) (sym c.sign.ensures ∙ c.in-Two.is) (t.signs c.args.fun inside) in
    let v = c.view_of-left.ensures.shown sig t.signs x in
    let w = c.view_of-right.ensures.shown sig t.signs y in
    let table = t.signature.table in
    let X = term_at sig c.args.pool.now.trees c.args.x in
    let Y = term_at sig c.args.pool.now.trees c.args.y in
    let sx : StandsFor sig c.args.pool.now.trees c.args.x X = record { term = x; is = refl } in
    let sy : StandsFor sig c.args.pool.now.trees c.args.y Y = record { term = y; is = refl } in
    subst (λ z. IsFirstLine sig c.args.pool.now.trees (application z (more X (more Y none))) c.two_line.result) (sym h.8) (c.two_line.ensures sig c.args.pool.now.trees h.0 h.2 h.4 h.6 X Y table h.1 h.3 h.5 h.7 v w)

pub returns-in-Compare : goal.returns-in-Compare
returns-in-Compare g c = λ sig t inside x y.
    let h = subst (HasSign sig (symbol_under sig c.args.fun)) (sym c.sign.ensures ∙ c.in-Compare.is) (t.signs c.args.fun inside) in
    let v = c.view_of-left.ensures.shown sig t.signs x in
    let w = c.view_of-right.ensures.shown sig t.signs y in
    let table = t.signature.table in
    let X = term_at sig c.args.pool.now.trees c.args.x in
    let Y = term_at sig c.args.pool.now.trees c.args.y in
    let sx : StandsFor sig c.args.pool.now.trees c.args.x X = record { term = x; is = refl } in
    let sy : StandsFor sig c.args.pool.now.trees c.args.y Y = record { term = y; is = refl } in
    subst (λ z. IsFirstLine sig c.args.pool.now.trees (application z (more X (more Y none))) c.compare_line.result) (sym h.2) (c.compare_line.ensures sig c.args.pool.now.trees h.0 X Y table h.1 v w)

pub returns-in-Snoc : goal.returns-in-Snoc
returns-in-Snoc g c = λ sig t inside x y.
    let h = subst (HasSign sig (symbol_under sig c.args.fun)) (sym c.sign.ensures ∙ c.in-Snoc.is) (t.signs c.args.fun inside) in
    let v = c.view_of-left.ensures.shown sig t.signs x in
    let w = c.view_of-right.ensures.shown sig t.signs y in
    let table = t.signature.table in
    let X = term_at sig c.args.pool.now.trees c.args.x in
    let Y = term_at sig c.args.pool.now.trees c.args.y in
    let sx : StandsFor sig c.args.pool.now.trees c.args.x X = record { term = x; is = refl } in
    let sy : StandsFor sig c.args.pool.now.trees c.args.y Y = record { term = y; is = refl } in
    subst (λ z. IsFirstLine sig c.args.pool.now.trees (application z (more X (more Y none))) c.snoc_line.result) (sym h.2) (c.snoc_line.ensures sig c.args.pool.now.trees h.0 X Y table h.1 (record { inside = inside; is = h.2 }) h.3 sx sy v)

pub returns-in-Concat : goal.returns-in-Concat
returns-in-Concat g c = λ sig t inside x y.
    let h = subst (HasSign sig (symbol_under sig c.args.fun)) (sym c.sign.ensures ∙ c.in-Concat.is) (t.signs c.args.fun inside) in
    let v = c.view_of-left.ensures.shown sig t.signs x in
    let w = c.view_of-right.ensures.shown sig t.signs y in
    let table = t.signature.table in
    let X = term_at sig c.args.pool.now.trees c.args.x in
    let Y = term_at sig c.args.pool.now.trees c.args.y in
    let sx : StandsFor sig c.args.pool.now.trees c.args.x X = record { term = x; is = refl } in
    let sy : StandsFor sig c.args.pool.now.trees c.args.y Y = record { term = y; is = refl } in
    subst (λ z. IsFirstLine sig c.args.pool.now.trees (application z (more X (more Y none))) c.concat_line.result) (sym h.2) (c.concat_line.ensures sig c.args.pool.now.trees h.0 X Y table h.1 (record { inside = inside; is = h.2 }) sx sy v w)

pub returns-in-At : goal.returns-in-At
returns-in-At g c = λ sig t inside x y.
    let h = subst (HasSign sig (symbol_under sig c.args.fun)) (sym c.sign.ensures ∙ c.in-At.is) (t.signs c.args.fun inside) in
    let v = c.view_of-left.ensures.shown sig t.signs x in
    let w = c.view_of-right.ensures.shown sig t.signs y in
    let table = t.signature.table in
    let X = term_at sig c.args.pool.now.trees c.args.x in
    let Y = term_at sig c.args.pool.now.trees c.args.y in
    let sx : StandsFor sig c.args.pool.now.trees c.args.x X = record { term = x; is = refl } in
    let sy : StandsFor sig c.args.pool.now.trees c.args.y Y = record { term = y; is = refl } in
    subst (λ z. IsFirstLine sig c.args.pool.now.trees (application z (more X (more Y none))) c.at_line.result) (sym h.2) (c.at_line.ensures sig c.args.pool.now.trees h.0 X Y table h.1 (record { inside = inside; is = h.2 }) sy v w)

pub returns-in-In : goal.returns-in-In
returns-in-In g c = λ sig t inside x y.
    let h = subst (HasSign sig (symbol_under sig c.args.fun)) (sym c.sign.ensures ∙ c.in-In.is) (t.signs c.args.fun inside) in
    let v = c.view_of-left.ensures.shown sig t.signs x in
    let w = c.view_of-right.ensures.shown sig t.signs y in
    let table = t.signature.table in
    let X = term_at sig c.args.pool.now.trees c.args.x in
    let Y = term_at sig c.args.pool.now.trees c.args.y in
    let sx : StandsFor sig c.args.pool.now.trees c.args.x X = record { term = x; is = refl } in
    let sy : StandsFor sig c.args.pool.now.trees c.args.y Y = record { term = y; is = refl } in
    subst (λ z. IsFirstLine sig c.args.pool.now.trees (application z (more X (more Y none))) c.in_line.result) (sym h.2) (c.in_line.ensures sig c.args.pool.now.trees h.0 X Y table h.1 (record { inside = inside; is = h.2 }) h.3 sx w)

pub returns-in_default : goal.returns-in_default
returns-in_default g c = λ sig t inside x y i d r b.
    let n = counted sig (more (term_at sig c.args.pool.now.trees c.args.x) (more (term_at sig c.args.pool.now.trees c.args.y) none)) d r (symbol_under sig c.args.fun) c.sign.result (subst (HasSign sig (symbol_under sig c.args.fun)) (sym c.sign.ensures) (t.signs c.args.fun inside)) b.0 (omega arith) in
    not_two c.sign.result c.in_default.not-And c.in_default.not-Or c.in_default.not-Implies c.in_default.not-Equal c.in_default.not-Different c.in_default.not-Two c.in_default.not-Compare c.in_default.not-Snoc c.in_default.not-Concat c.in_default.not-At c.in_default.not-In n
