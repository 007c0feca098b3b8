use Rattle.std.proofs.Common.{◌≡◌, [], Some, sym, ◌∙◌, subst}
use Rattle.std.specs.Prelude.{slice_get}
use Rattle.std.proofs.lemmas.Option.{get_or_from_slice_get}
use Rattle.std.proofs.lemmas.Result.{on_ok_weaker}
use Rattle.mcrl2_lexer.specs.declared.kind.Kind.TheVariants.{Identifier, Semicolon}
use Rattle.sort_table.specs.SignatureVocabularies.{text_under}
use Rattle.lps_printer.specs.AddedDeclarations.{print_name}
use Rattle.lps_printer.proofs.AddedSections.{ended, name_added}
use Rattle.lps_printer.proofs.added_actions.push_line.Goals as goal

pub returns : goal.returns
returns c =
    let g = c.args.sig.now in
    let name = c.args.name in
    let at = subst (λ ts. slice_get ts name.0 ≡ Some c.text.result.now) c.names.ensures.texts c.text.ensures in
    let same = c.as_bytes.ensures.value ∙ sym (get_or_from_slice_get g.texts name.0 c.text.result.now [] at) in
    on_ok_weaker c.push_token-2.result (λ p. ended (print_name g name c.args.gap.now) (name_added c.args.gap.now c.as_bytes.result.now (text_under g name) same c.in_ok-push_token.ensures Identifier) (p Semicolon)) c.push_token-2.ensures
