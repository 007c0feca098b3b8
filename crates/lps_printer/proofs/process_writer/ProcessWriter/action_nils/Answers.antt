use Rattle.std.proofs.Common.{sym, ap, ◌∙◌, subst}
use Rattle.std.specs.List.{All}
use Rattle.std.proofs.lemmas.Result.{on_ok_weaker}
use Rattle.process_terms.specs.PlainProcesses.{plain_action}
use Rattle.lps_printer.specs.Wordings.{IsSortedTerm}
use Rattle.lps_printer.specs.CodeWordings.{terms_by}
use Rattle.lps_printer.specs.TextWordings.{of_terms}
use Rattle.lps_printer.specs.NeededConstants.{all_nils}
use Rattle.lps_printer.proofs.CodeActions.{terms_fit}
use Rattle.lps_printer.proofs.NeededConstants.{found_same}
use Rattle.lps_printer.proofs.NeededTexts.{one_action_nils}
use Rattle.lps_printer.proofs.process_writer.ProcessWriter.action_nils.Goals as goal

pub all_nils-requires : goal.all_nils-requires
all_nils-requires c =
    let g = c.args.self.now.terms.sig.now in
    let ts = c.args.self.now.terms.pool.now.trees in
    subst (λ xs. All (IsSortedTerm g ts) xs) (sym c.as_slice.ensures.value) (terms_fit g ts c.requires.key.sorts c.args.action.now.args.items c.requires.args.within c.requires.args.sorted)

pub returns : goal.returns
returns c =
    let self = c.args.self.now in
    let once = c.is_declared_once-once.result in
    on_ok_weaker c.all_nils.result (λ p t k. found_same (ap (λ xs. all_nils t.names.terms.once once (terms_by self.terms xs)) c.as_slice.ensures.value
    ∙ one_action_nils self t (plain_action c.args.action.now) once k c.requires c.is_declared_once-once.ensures) (p (of_terms t) k.terms)) c.all_nils.ensures
