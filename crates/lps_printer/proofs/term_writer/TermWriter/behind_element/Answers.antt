use Rattle.std.proofs.Common.{◌≡◌, ◌+◌, sym, ap, ◌∙◌, arith}
use Rattle.std.specs.Prelude.{option_map}
use Rattle.mcrl2_syntax.specs.declared.data_tree.InfixSign.TheVariants.{Prepend}
use Rattle.data_theory.specs.declared.ids.TermId.{TermId}
use Rattle.lps_printer.specs.DataLayout.{operand, print, right_needs, space}
use Rattle.lps_printer.specs.Wordings.{opened}
use Rattle.lps_printer.specs.CodeWordings.{term_by, AreBelow}
use Rattle.lps_printer.proofs.AddingPieces.{right_of_prepend}
use Rattle.lps_printer.proofs.WordedTerms.{pair_of, rest_ends_so, pair_opened, chain_goes_on}
use Rattle.lps_printer.proofs.CodeForms.{at_entry}
use Rattle.lps_printer.proofs.PendingLemmas.{operand_is, size_of_pair}
use Rattle.lps_printer.proofs.term_writer.TermWriter.behind_element.Goals as goal

pub element-requires : goal.element-requires
element-requires c = c.requires.rest

pub outermost-requires : goal.outermost-requires
outermost-requires c = c.requires.rest

pub returns-in-Some-clause-stands : goal.returns-in-Some-clause-stands
returns-in-Some-clause-stands c =
    let self = c.args.self.now in
    let b = at_entry (λ p. AreBelow self c.args.rest p.0 p.1) c.element.result _ c.in-Some.is c.element.ensures.below in
    let pair = pair_of (term_by self c.args.rest) (term_by self c.in-Some.next) (term_by self c.in-Some.behind)
    (sym c.element.ensures.parts ∙ ap (option_map (λ (p : TermId × TermId). (term_by self p.0, term_by self p.1))) c.in-Some.is) in
    (b.element_fits, b.others_fit, sym (rest_ends_so _ _ _ pair) ∙ c.requires.goes_on)

pub returns-in-Some-clause-less : goal.returns-in-Some-clause-less
returns-in-Some-clause-less c =
    let self = c.args.self.now in
    let pair = pair_of (term_by self c.args.rest) (term_by self c.in-Some.next) (term_by self c.in-Some.behind)
    (sym c.element.ensures.parts ∙ ap (option_map (λ (p : TermId × TermId). (term_by self p.0, term_by self p.1))) c.in-Some.is) in
    let weights = size_of_pair _ _ _ pair in
    omega (arith, weights)

pub returns-in-Some-clause-pieces : goal.returns-in-Some-clause-pieces
returns-in-Some-clause-pieces c = λ w k behind.
    let self = c.args.self.now in
    let pair = pair_of (term_by self c.args.rest) (term_by self c.in-Some.next) (term_by self c.in-Some.behind)
    (sym c.element.ensures.parts ∙ ap (option_map (λ (p : TermId × TermId). (term_by self p.0, term_by self p.1))) c.in-Some.is) in
    let going = sym (rest_ends_so _ _ _ pair) ∙ c.requires.goes_on in
    let is = pair_opened w (term_by self c.args.rest) (term_by self c.in-Some.next) (term_by self c.in-Some.behind) pair ∙ chain_goes_on w (term_by self c.in-Some.next) (term_by self c.in-Some.behind) going in
    ap (λ e. operand (right_needs Prepend e) (λ g r. print e g r) space behind) is

pub returns-in-None-clause-stands : goal.returns-in-None-clause-stands
returns-in-None-clause-stands c = c.requires.rest

pub returns-in-None-clause-pieces : goal.returns-in-None-clause-pieces
returns-in-None-clause-pieces c = λ w k behind.
    let self = c.args.self.now in
    let rest = opened w (term_by self c.args.rest) in
    operand_is (right_needs Prepend rest) c.needs_brackets.result rest behind (c.needs_brackets.ensures ∙ sym (c.outermost.ensures w k).needs ∙ right_of_prepend rest)
