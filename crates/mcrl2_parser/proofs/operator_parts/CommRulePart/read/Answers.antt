use Rattle.std.proofs.Common.{◌≤◌, ◌<◌, length, refl, sym, ◌∙◌, arith}
use Rattle.std.proofs.lemmas.Grind.{common_steps}
use Rattle.std.proofs.lemmas.Result.{err_from_is_err_and}
use Rattle.mcrl2_lexer.specs.declared.kind.Kind.TheVariants.{Arrow, Identifier}
use Rattle.mcrl2_syntax.specs.Words.{word_of, word_span}
use Rattle.mcrl2_syntax.proofs.Lists.{moved, tails}
use Rattle.mcrl2_syntax.proofs.LabelsOnce.{comm_rule_once}
use Rattle.mcrl2_parser.proofs.Names.{same_span}
use Rattle.mcrl2_parser.proofs.Operations.{by_comm_rule, communicates, enough, too_few}
use Rattle.mcrl2_parser.proofs.operator_parts.CommRulePart.read.Goals as goal

pub returns-in_err-names-clause-only : goal.returns-in_err-names-clause-only
returns-in_err-names-clause-only c = λ x r d s. let e = err_from_is_err_and c.from_residual.result c.from_residual.ensures.1 in
    let g = communicates d in
    rw e.1 (e.2 ∙ c.in_err-names.ensures.only g.names _ g.read g.no_bar)

pub returns-then-as_slice-lt2-clause-only : goal.returns-then-as_slice-lt2-clause-only
returns-then-as_slice-lt2-clause-only c = λ x r d s.
    let g = communicates d in
    let same = c.in_ok-names.ensures.only g.names _ g.read g.no_bar in
    let few : length c.in_ok-names.names.items < 2 = grind (arith, common_steps) in
    absurd (too_few word_of c.in_ok-names.names.items few same.0 g.more)

pub returns-in_err-behind-clause-only : goal.returns-in_err-behind-clause-only
returns-in_err-behind-clause-only c = λ x r d s.
    let g = communicates d in
    let same = c.in_ok-names.ensures.only g.names _ g.read g.no_bar in
    absurd (c.in_err-behind.ensures.none refl (moved Arrow (sym same.1) g.is_arrow))

pub returns-in_err-outcome-clause-only : goal.returns-in_err-outcome-clause-only
returns-in_err-outcome-clause-only c = λ x r d s.
    let g = communicates d in
    let same = c.in_ok-names.ensures.only g.names _ g.read g.no_bar in
    absurd (c.in_err-outcome.ensures.none refl (moved Identifier (sym (tails (sym c.in_ok-behind.ensures.found.0 ∙ same.1))) g.is_name))

pub returns-clause-found : goal.returns-clause-found
returns-clause-found c =
    let many : 2 ≤ length c.in_ok-names.names.items = grind (arith, common_steps) in
    by_comm_rule c.new.ensures c.joined_spans-span.ensures (same_span word_span word_of c.names_span.ensures c.as_slice-2.ensures.value) c.in_ok-outcome-2.ensures.found (enough word_of c.in_ok-names.names.items many)
    c.in_ok-names.ensures.found c.in_ok-behind.ensures.found.0 c.in_ok-behind.ensures.found.1 c.in_ok-outcome.ensures.found.0 c.in_ok-outcome.ensures.found.1

pub returns-clause-only : goal.returns-clause-only
returns-clause-only c = λ x r d s.
    let many : 2 ≤ length c.in_ok-names.names.items = grind (arith, common_steps) in
    comm_rule_once
    (by_comm_rule c.new.ensures c.joined_spans-span.ensures (same_span word_span word_of c.names_span.ensures c.as_slice-2.ensures.value) c.in_ok-outcome-2.ensures.found (enough word_of c.in_ok-names.names.items many)
    c.in_ok-names.ensures.found c.in_ok-behind.ensures.found.0 c.in_ok-behind.ensures.found.1 c.in_ok-outcome.ensures.found.0 c.in_ok-outcome.ensures.found.1) d
