use Rattle.std.proofs.Common.{◌<◌, [], length, map, sym, ◌∙◌, subst, arith, append-nil}
use Rattle.std.specs.List.{All}
use Rattle.std.proofs.lemmas.List.Elements.{All-weaker}
use Rattle.std.proofs.lemmas.Option.{slice_get_within}
use Rattle.std.proofs.lemmas.Result.{IfOk-weaker}
use Rattle.data_theory.specs.declared.ids.FunId.{FunId}
use Rattle.mcrl2_syntax.specs.Declarations.{spec_of}
use Rattle.term_pool.proofs.DeclaredConstants.{grown_itself}
use Rattle.lps_core.specs.CanonicalConditions.{HaveNoNeedlessTrue}
use Rattle.lps_core.specs.Naming.{HaveOwnNames, ParamsHaveOwnNames}
use Rattle.lps_core.specs.PlainLinears.{plain_linear}
use Rattle.lps_core.proofs.GrownSignatures.{texts_longer}
use Rattle.lps_core.proofs.StayingFits.{what_fits_fits_still}
use Rattle.sort_table.specs.SignatureVocabularies.{text_under}
use Rattle.lps_printer.specs.AddedConstants.{result_in}
use Rattle.lps_printer.specs.CanonicalTexts.{IsCanonicalText}
use Rattle.lps_printer.specs.NeededConstants.{IsNil}
use Rattle.lps_printer.specs.PrintedLinears.{HasText, IsPrinted}
use Rattle.lps_printer.proofs.CanonicalTexts.{printed_texts_are_canonical}
use Rattle.lps_printer.proofs.ConstantWording.{constants_grow}
use Rattle.lps_printer.proofs.PrintedConstants.{many_new, table_below, added_below, printed_by_keys}
use Rattle.lps_printer.proofs.whole_texts.print.Goals as goal

pub add_constants-requires : goal.add_constants-requires
add_constants-requires c =
    let g = c.args.sig.now in
    subst (λ xs. All (λ (f : FunId). f.0 < length g.functions) xs) (sym c.as_slice.ensures.keys) (All-weaker (IsNil g) (λ (f : FunId). f.0 < length g.functions) (λ f h. slice_get_within g.functions f.0 h.0 h.1) c.in_ok-found.found.keys c.in_ok-found.ensures.nils)

pub functions_between-requires : goal.functions_between-requires
functions_between-requires c =
    let more = many_new c.args.sig.now c.add_constants.new.sig c.names.ensures.stands c.as_slice.result.now c.in_ok-constants.ensures.added in
    omega (arith, more, c.fun_count-first.ensures, c.fun_count.ensures)

pub text_with-requires-clause-fits : goal.text_with-requires-clause-fits
text_with-requires-clause-fits c =
    let g = c.args.sig.now in
    let h = c.add_constants.new.sig in
    let ts = c.args.pool.now.trees in
    what_fits_fits_still g h ts ts (plain_linear c.args.lin.now) c.names.ensures.stands.table c.names.ensures.stands.complete c.names-2.ensures.stands.table
    (record { signature = constants_grow g h (map (result_in g) c.as_slice.result.now) c.in_ok-constants.ensures.added; pool = ([], sym (append-nil ts)) }) c.requires.fits

pub text_with-requires-clause-name : goal.text_with-requires-clause-name
text_with-requires-clause-name c =
    let g = c.args.sig.now in
    let h = c.add_constants.new.sig in
    texts_longer g h c.args.name.0 (constants_grow g h (map (result_in g) c.as_slice.result.now) c.in_ok-constants.ensures.added) c.requires.name

pub text_with-requires-clause-known : goal.text_with-requires-clause-known
text_with-requires-clause-known c =
    table_below c.args.sig.now c.add_constants.new.sig c.names.ensures.stands c.as_slice.result.now c.in_ok-constants.ensures.added c.as_slice-2.result.now (c.as_slice-2.ensures.value ∙ c.in_ok-constants.ensures.table)

pub text_with-requires-clause-added : goal.text_with-requires-clause-added
text_with-requires-clause-added c =
    added_below c.args.sig.now c.add_constants.new.sig c.names.ensures.stands c.as_slice.result.now c.in_ok-constants.ensures.added c.fun_count-first.result c.fun_count.result c.fun_count-first.ensures c.fun_count.ensures c.as_slice-3.result.now
    (c.as_slice-3.ensures.value ∙ c.in_ok-added.ensures)

pub returns-in_err-found-clause-grown : goal.returns-in_err-found-clause-grown
returns-in_err-found-clause-grown c = grown_itself c.args.sig.now

pub returns-clause-written : goal.returns-clause-written
returns-clause-written c =
    let g = c.args.sig.now in
    let h = c.add_constants.new.sig in
    let l = plain_linear c.args.lin.now in
    IfOk-weaker c.text_with.result (λ text. HasText (spec_of c.args.spec.now) h c.args.pool.now.trees c.as_slice-2.result.now (text_under h c.args.name) l c.as_slice-3.result.now text.items) (λ text. IsPrinted (spec_of c.args.spec.now) g h c.args.pool.now.trees c.args.name l text.items)
    (λ text has. printed_by_keys g h c.names.ensures.stands c.in_ok-found.found.keys c.as_slice.result.now c.as_slice.ensures.keys c.in_ok-constants.ensures.added (spec_of c.args.spec.now) c.args.pool.now.trees c.args.name l text.items c.as_slice-2.result.now c.fun_count-first.result c.fun_count.result c.as_slice-3.result.now c.names-2.ensures.stands c.in_ok-found.ensures.nils c.in_ok-found.ensures.needed
    (c.as_slice-2.ensures.value ∙ c.in_ok-constants.ensures.table) c.fun_count-first.ensures c.fun_count.ensures (c.as_slice-3.ensures.value ∙ c.in_ok-added.ensures) has) c.text_with.ensures

pub returns-clause-canonical : goal.returns-clause-canonical
returns-clause-canonical c =
    let g = c.args.sig.now in
    let h = c.add_constants.new.sig in
    let ts = c.args.pool.now.trees in
    let l = plain_linear c.args.lin.now in
    let spec = spec_of c.args.spec.now in
    IfOk-weaker c.text_with.result (λ text. IsPrinted spec g h ts c.args.name l text.items)
    (λ text. ParamsHaveOwnNames g l.params → HaveOwnNames g l → HaveNoNeedlessTrue g ts l → IsCanonicalText spec h (text_under h c.args.name) text.items)
    (λ text is params sums needless. printed_texts_are_canonical spec g h ts c.args.name l text.items c.names.ensures.stands c.names-2.ensures.stands c.requires.fits params sums needless is) (returns-clause-written c)
