use Rattle.std.proofs.Common.{◌≡◌, [], Some, sym, ◌∙◌, subst}
use Rattle.std.specs.Prelude.{slice_get}
use Rattle.std.proofs.lemmas.Option.{get_or_from_slice_get}
use Rattle.mcrl2_syntax.specs.Declarations.{spec_of}
use Rattle.lps_core.specs.PlainLinears.{plain_linear}
use Rattle.sort_table.specs.SignatureVocabularies.{text_under}
use Rattle.lps_printer.proofs.CodeActions.{terms_fit}
use Rattle.lps_printer.proofs.PrintedTexts.{IsWriter, same_summands_fit, same_terms}
use Rattle.lps_printer.proofs.PrintedLinears.{text_is_whole}
use Rattle.lps_printer.proofs.whole_texts.text_with.Goals as goal

pub sections-requires-clause-summands : goal.sections-requires-clause-summands
sections-requires-clause-summands c =
    let l = plain_linear c.args.lin.now in
    let w : IsWriter c.new-writer.result c.args.sig.now c.args.pool.now c.args.constants.now c.text.result.now l.params = record {
      sig = c.new-writer.ensures.sig;
      pool = c.new-writer.ensures.pool;
      functions = c.new-writer.ensures.functions ∙ c.as_slice.ensures.value ∙ c.in_ok-functions.ensures;
      constants = c.new-writer.ensures.constants;
      actions = c.new-writer.ensures.actions ∙ c.as_slice-2.ensures.value ∙ c.in_ok-actions.ensures;
      process = c.new-writer.ensures.process ∙ c.as_bytes.ensures.value;
      params = c.new-writer.ensures.params ∙ c.params.ensures;
    } in
    same_summands_fit w c.args.lin.now.summands.items c.requires.fits.params c.requires.fits.summands

pub sections-requires-clause-init : goal.sections-requires-clause-init
sections-requires-clause-init c =
    let l = plain_linear c.args.lin.now in
    let w : IsWriter c.new-writer.result c.args.sig.now c.args.pool.now c.args.constants.now c.text.result.now l.params = record {
      sig = c.new-writer.ensures.sig;
      pool = c.new-writer.ensures.pool;
      functions = c.new-writer.ensures.functions ∙ c.as_slice.ensures.value ∙ c.in_ok-functions.ensures;
      constants = c.new-writer.ensures.constants;
      actions = c.new-writer.ensures.actions ∙ c.as_slice-2.ensures.value ∙ c.in_ok-actions.ensures;
      process = c.new-writer.ensures.process ∙ c.as_bytes.ensures.value;
      params = c.new-writer.ensures.params ∙ c.params.ensures;
    } in
    same_terms w l.init (terms_fit c.args.sig.now c.args.pool.now.trees _ l.init c.requires.fits.init.within c.requires.fits.init.sorted)

pub returns : goal.returns
returns c =
    let l = plain_linear c.args.lin.now in
    let g = c.args.sig.now in
    let w : IsWriter c.new-writer.result g c.args.pool.now c.args.constants.now c.text.result.now l.params = record {
      sig = c.new-writer.ensures.sig;
      pool = c.new-writer.ensures.pool;
      functions = c.new-writer.ensures.functions ∙ c.as_slice.ensures.value ∙ c.in_ok-functions.ensures;
      constants = c.new-writer.ensures.constants;
      actions = c.new-writer.ensures.actions ∙ c.as_slice-2.ensures.value ∙ c.in_ok-actions.ensures;
      process = c.new-writer.ensures.process ∙ c.as_bytes.ensures.value;
      params = c.new-writer.ensures.params ∙ c.params.ensures;
    } in
    let name : slice_get g.texts c.args.name.0 ≡ Some c.text.result.now = subst (λ ts. slice_get ts c.args.name.0 ≡ Some c.text.result.now) c.names-names.ensures.texts c.text.ensures in
    text_is_whole w (spec_of c.args.spec.now) (text_under g c.args.name) l c.args.added.now c.in_ok-text.gap.now c.in_ok-gap.gap.now c.in_ok-text.text.items c.push_added.new.out.items c.sections.new.out.items
    (sym (get_or_from_slice_get g.texts c.args.name.0 c.text.result.now [] name)) c.in_ok-text.ensures c.in_ok-gap.ensures c.in_ok-sections.ensures
