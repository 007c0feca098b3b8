use Rattle.std.proofs.Common.{◌++◌, ◌∷◌, [], ◌-◌, ℕ, ◌≡◌, Bool, false, List, drop, reverse, refl, ap, ◌∙◌, arith}
use Rattle.mcrl2_parser.specs.Arrows.{first_end, arrows_of}
use Rattle.mcrl2_parser.proofs.ArrowTables.{table_has, scan_begins, scan_goes_on}
use Rattle.mcrl2_parser.proofs.arrows.table_of.Goals as goal

pub tokens-init : goal.tokens-init
tokens-init c = scan_begins c.args.tokens.now (c.in_ok-push.ensures.items ∙ ap (λ (x : List Bool). x ++ false ∷ []) c.new-arrows.ensures.items) c.new-ends.ensures.items

pub tokens-preserved : goal.tokens-preserved
tokens-preserved c =
    let more = c.tokens-test.true in
    scan_goes_on c.args.tokens.now c.tokens.at (c.tokens.at - 1) _ _ c.tokens.ends.items c.take.new.ends.items c.tokens.invariant (omega (arith, more)) (omega (arith, more)) refl c.in_ok-take.ensures
    (c.innermost.ensures ∙ ap (λ (x : List Bool). first_end (reverse x)) c.deref.ensures.value) c.in_ok-push-2.ensures.items c.is_arrow-arrow.ensures

pub returns : goal.returns
returns c =
    let ended = c.tokens-test.false in
    let start : c.tokens.at ≡ 0 = omega (arith, ended) in
    table_has c.args.tokens.now (c.tokens.invariant.arrows_are ∙ ap (λ (n : ℕ). arrows_of (drop n c.args.tokens.now)) start)
