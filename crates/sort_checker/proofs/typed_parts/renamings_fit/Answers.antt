use Rattle.std.proofs.Common.{sym, ◌∙◌}
use Rattle.sort_table.specs.SignatureVocabularies.{vocabulary_of}
use Rattle.sort_checker.specs.Operators.{renaming_fits}
use Rattle.sort_checker.specs.TypedTrees.{renaming_at}
use Rattle.sort_checker.proofs.NameLists.{one_image_fails}
use Rattle.sort_checker.proofs.typed_parts.renamings_fit.Goals as goal

pub returns-then-not-renaming_fits : goal.returns-then-not-renaming_fits
returns-then-not-renaming_fits c =
    sym (one_image_fails (renaming_fits (vocabulary_of c.args.sig.now)) renaming_at c.args.renamings.now c.loop-renaming.renaming-index c.renaming-item.result c.loop-renaming-test.true c.renaming-item.is (sym c.renaming_fits.ensures ∙ c.if-not-renaming_fits.true))
