use Rattle.std.proofs.Common.{◌<◌, length, get_or, sym, ap, ◌∙◌, subst, Some}
use Rattle.std.specs.Prelude.{slice_get}
use Rattle.data_theory.specs.declared.ids.NameId.{NameId}
use Rattle.lps_printer.proofs.CodeActions.{name_is, name_within}
use Rattle.lps_printer.proofs.process_writer.ProcessWriter.action_name.Goals as goal

pub text-requires : goal.text-requires
text-requires c =
    let entries = c.acts-entries.result.now in
    let within = name_within c.args.self.now.terms.sig.now c.names-names.ensures.stands.complete entries c.acts-entries.ensures c.args.act.0 c.index-entries-act.result c.requires in
    subst (λ ts. (get_or entries c.args.act.0 c.index-entries-act.result).name.0 < length ts) (sym c.names-names.ensures.texts) within

pub returns : goal.returns
returns c = λ k at.
    let sig = c.args.self.now.terms.sig.now in
    let name = name_is sig c.acts-entries.result.now c.acts-entries.ensures c.args.act.0 c.index-entries-act.result k at in
    ap (λ (n : NameId). slice_get sig.texts n.0) (sym name) ∙ ap (λ ts. slice_get ts (get_or c.acts-entries.result.now c.args.act.0 c.index-entries-act.result).name.0) (sym c.names-names.ensures.texts) ∙ c.text.ensures ∙ ap Some (sym c.as_bytes.ensures.value)
