use Rattle.std.proofs.Common.{List, ap, sym, ◌∙◌, subst}
use Rattle.std.specs.Prelude.{slice_get}
use Rattle.std.specs.List.{Contains}
use Rattle.mcrl2_syntax.specs.declared.word.Word.{Word}
use Rattle.sort_table.specs.Expressions.{Name}
use Rattle.sort_table.specs.SignatureVocabularies.{vocabulary_of}
use Rattle.sort_checker.specs.CommTrees.{rule_at}
use Rattle.sort_checker.proofs.CommRules.{fits_by_name}
use Rattle.sort_checker.proofs.NameLists.{of_words, first_among}
use Rattle.sort_checker.proofs.comm_shapes.rule_fits.Goals as goal

pub returns-in-Some : goal.returns-in-Some
returns-in-Some c =
    c.fits_with.ensures
    ∙ fits_by_name (vocabulary_of c.args.sig.now) (rule_at c.args.rule.now) c.as_slice-in-Some.result.now
    (subst (λ (n : Name). Contains (of_words c.args.rule.now.names.items) n) (sym c.as_slice-in-Some.ensures.value) (first_among c.args.rule.now.names.items c.in-Some.first.now (c.in-Some.ensures.value ∙ ap (λ (ws : List Word). slice_get ws 0) c.as_slice.ensures.value)))
