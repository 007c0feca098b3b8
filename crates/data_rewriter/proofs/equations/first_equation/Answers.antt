use Rattle.std.proofs.Common.{◌≤◌, ⊎_elim, arith}
use Rattle.data_theory.specs.Rewriting.{lines}
use Rattle.data_rewriter.proofs.LastLine.{line_inside}
use Rattle.data_rewriter.proofs.WrittenRules.{found_line}
use Rattle.data_rewriter.proofs.equations.first_equation.Goals as goal

pub returns-in_default-clause-first : goal.returns-in_default-clause-first
returns-in_default-clause-first g c = λ sig own all root.
    c.in_ok-found.ensures.first sig own all root (λ i d r l b. c.in_default.ensures sig all.signs root i d r b)

pub returns-then-from-eq0-clause-first : goal.returns-then-from-eq0-clause-first
returns-then-from-eq0-clause-first g c = λ sig own all root.
    let h = c.in-Some.ensures sig all.signs root in
    found_line sig own c.args.pool.now.trees c.make_line.new.pool.trees c.in_ok-found-2.ensures.kept c.args.root root c.args.from c.if-from-eq0.true c.in-Some.line h c.in_ok-found-2.found c.in_ok-found-2.ensures.number (c.in_ok-found-2.ensures.made sig all.signs _ h)

pub returns-clause-first : goal.returns-clause-first
returns-clause-first g c = λ sig own all root.
    let past : lines ≤ c.args.from = ⊎_elim (λ z. absurd (c.if-from-eq0.false z)) (λ k. k) c.requires.start in
    c.in_ok-found-3.ensures.first sig own all root (λ i d r l b. let inside = line_inside b.0 b.1 in omega (arith, inside, past, l))
