use Rattle.std.proofs.Common.{sym, ap, ◌∙◌, subst}
use Rattle.std.specs.List.{All}
use Rattle.std.proofs.lemmas.Result.{on_ok_weaker}
use Rattle.process_terms.specs.PlainProcesses.{plain_action}
use Rattle.lps_printer.specs.DataLayout.{print}
use Rattle.lps_printer.specs.WrittenTerms.{call}
use Rattle.lps_printer.specs.Wordings.{IsSortedTerm}
use Rattle.lps_printer.specs.TermParts.{worded}
use Rattle.lps_printer.specs.CodeWordings.{terms_by}
use Rattle.lps_printer.specs.TextWordings.{of_terms}
use Rattle.lps_printer.specs.CodeProcesses.{action_by}
use Rattle.lps_printer.proofs.CodeActions.{terms_fit, action_printed, adds_action}
use Rattle.lps_printer.proofs.process_writer.ProcessWriter.action.Goals as goal

pub call-requires : goal.call-requires
call-requires c =
    let g = c.args.self.now.terms.sig.now in
    let ts = c.args.self.now.terms.pool.now.trees in
    subst (λ xs. All (IsSortedTerm g ts) xs) (sym c.as_slice.ensures.value) (terms_fit g ts c.requires.key.sorts c.args.action.now.args.items c.requires.args.within c.requires.args.sorted)

pub returns : goal.returns
returns c =
    let self = c.args.self.now in
    let name = c.action_name-name.result.now in
    let once = c.is_declared_once-once.result in
    on_ok_weaker c.call.result (λ p t k. adds_action c.args.gap.now (action_by self t (plain_action c.args.action.now))
    (λ rest. ap (λ xs. print (call name (worded (of_terms t) once (terms_by self.terms xs))) c.args.gap.now rest) c.as_slice.ensures.value
    ∙ action_printed self t (plain_action c.args.action.now) name once k c.requires (c.action_name-name.ensures c.requires.key c.requires.stands) c.is_declared_once-once.ensures c.args.gap.now rest)
    (p (of_terms t) k.terms)) c.call.ensures
