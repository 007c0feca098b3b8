use Rattle.std.proofs.Common.{◌+◌, [], ◌∷◌, sym, ap, ◌∙◌, arith}
use Rattle.mcrl2_syntax.specs.declared.data_tree.InfixSign.TheVariants.{Prepend}
use Rattle.lps_printer.specs.Wordings.{opened}
use Rattle.lps_printer.specs.CodeWordings.{term_by}
use Rattle.lps_printer.proofs.PendingLemmas.{infix_goes, three_left}
use Rattle.lps_printer.proofs.term_writer.TermWriter.begin_pair.Goals as goal

pub returns : goal.returns
returns c = λ out.
    let self = c.args.self.now in
    let weight = c.behind_element.ensures.less in
    three_left self _ _ _ _ _ _ _ c.in_ok-push.ensures.items c.in_ok-push-2.ensures.items c.in_ok-push-3.ensures.items c.behind_element.ensures.stands tt c.requires.first (omega (arith, weight)) (λ w k.
    infix_goes out Prepend c.args.gap.now c.needs_brackets-brackets.result (opened w (term_by self c.args.first)) (opened w (term_by self c.args.rest)) _
    (c.needs_brackets-brackets.ensures ∙ sym (c.outermost.ensures w k).needs) (c.behind_element.ensures.pieces w k))
