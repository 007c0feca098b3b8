use Rattle.std.proofs.Common.{◌≡◌, ◌+◌, [], ◌∷◌, sym, ap, ◌∙◌, arith}
use Rattle.std.specs.Prelude.{option_map}
use Rattle.mcrl2_lexer.specs.declared.kind.Kind.TheVariants as kind_
use Rattle.data_theory.specs.declared.ids.TermId.{TermId}
use Rattle.lps_printer.specs.CodeWordings.{term_by, AreBelow}
use Rattle.lps_printer.proofs.WordedTerms.{pair_of, rest_ends_so}
use Rattle.lps_printer.proofs.CodeForms.{at_entry}
use Rattle.lps_printer.proofs.PendingLemmas.{none_left, no_further, further_goes, size_of_pair, two_left}
use Rattle.lps_printer.proofs.term_writer.TermWriter.begin_elements.Goals as goal

pub element-requires : goal.element-requires
element-requires c = c.requires.term

pub returns-in_default : goal.returns-in_default
returns-in_default c =
    let self = c.args.self.now in
    let none = sym c.element.ensures.parts ∙ ap (option_map (λ (p : TermId × TermId). (term_by self p.0, term_by self p.1))) c.in_default.is in
    none_left self _ _ _ _ _ (omega arith) (λ w k. no_further w (term_by self c.args.id) none c.requires.ends c.args.out.now.items)

pub returns : goal.returns
returns c =
    let self = c.args.self.now in
    let b = at_entry (λ p. AreBelow self c.args.id p.0 p.1) c.element.result _ c.in-Some.is c.element.ensures.below in
    let pair = pair_of (term_by self c.args.id) (term_by self c.in-Some.first) (term_by self c.in-Some.behind)
    (sym c.element.ensures.parts ∙ ap (option_map (λ (p : TermId × TermId). (term_by self p.0, term_by self p.1))) c.in-Some.is) in
    let weights = size_of_pair _ _ _ pair in
    two_left self _ _ _ _ _ c.in_ok-push.ensures.items c.in_ok-push-2.ensures.items (b.others_fit, sym (rest_ends_so _ _ _ pair) ∙ c.requires.ends) b.element_fits (omega (arith, weights)) (λ w k.
    further_goes w _ _ _ pair c.requires.ends (c.in_ok-push_token.ensures kind_.Comma))
