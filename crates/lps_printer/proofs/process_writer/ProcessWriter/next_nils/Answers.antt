use Rattle.std.proofs.Common.{Some, sym, ap, ◌∙◌, subst}
use Rattle.std.specs.Prelude.{Vec}
use Rattle.std.specs.Global.{Global}
use Rattle.std.specs.List.{All}
use Rattle.std.proofs.lemmas.Result.{on_ok_weaker}
use Rattle.data_theory.specs.declared.ids.TermId.{TermId}
use Rattle.lps_core.specs.PlainLinears.{plain_next}
use Rattle.lps_printer.specs.CodeWordings.{IsTermBy}
use Rattle.lps_printer.specs.CodeProcesses.{AreNextBy}
use Rattle.lps_printer.specs.TextWordings.{of_terms}
use Rattle.lps_printer.proofs.CodeForms.{at_entry}
use Rattle.lps_printer.proofs.NeededConstants.{nothing_found, found_same}
use Rattle.lps_printer.proofs.NeededTexts.{some_nils, no_next_nils}
use Rattle.lps_printer.proofs.process_writer.ProcessWriter.next_nils.Goals as goal

pub all_nils-requires : goal.all_nils-requires
all_nils-requires c =
    let fits = at_entry (λ (ids : Vec TermId Global). AreNextBy c.args.self.now ids.items) c.args.next.now c.in-Some.ids c.in-Some.is c.requires in
    subst (λ xs. All (IsTermBy c.args.self.now.terms) xs) (sym c.as_slice.ensures.value) fits.terms

pub returns-in-Some : goal.returns-in-Some
returns-in-Some c =
    let self = c.args.self.now in
    let fits = at_entry (λ (ids : Vec TermId Global). AreNextBy self ids.items) c.args.next.now c.in-Some.ids c.in-Some.is c.requires in
    let terms = subst (λ xs. All (IsTermBy self.terms) xs) (sym c.as_slice.ensures.value) fits.terms in
    on_ok_weaker c.all_nils.result (λ p t k. found_same (some_nils self t c.as_slice.result.now c.args.next.now terms (ap Some c.as_slice.ensures.value ∙ ap plain_next (sym c.in-Some.is))) (p (of_terms t) k.terms)) c.all_nils.ensures

pub returns-in-None : goal.returns-in-None
returns-in-None c = λ t k. found_same (no_next_nils c.args.self.now t c.args.next.now c.in-None.is) (nothing_found c.args.self.now.terms.sig.now c.args.found.now.keys)
