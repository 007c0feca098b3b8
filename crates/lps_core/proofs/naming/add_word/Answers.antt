use Rattle.std.proofs.Common.{◌≡◌, Some, ap, ◌∙◌, subst}
use Rattle.std.specs.Prelude.{slice_get}
use Rattle.data_theory.specs.Names.{AreDifferent}
use Rattle.data_theory.specs.Taken.{with_name}
use Rattle.data_theory.proofs.NameLemmas.{place_is}
use Rattle.lps_core.proofs.naming.add_word.Goals as goal

pub returns-in_ok-insert : goal.returns-in_ok-insert
returns-in_ok-insert c =
    let texts = c.names.ensures.texts in
    let found = subst (λ ts. slice_get ts c.in-Some.name.0 ≡ Some c.args.word.now) texts c.in-Some.ensures.found in
    let different = subst AreDifferent texts c.in-Some.ensures.different in
    c.in_ok-insert.ensures.keys ∙ ap (with_name c.args.names.now.keys) (place_is c.args.sig.now.texts c.args.word.now c.in-Some.name.0 different found)
