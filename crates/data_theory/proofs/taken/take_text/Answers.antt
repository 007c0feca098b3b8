use Rattle.std.proofs.Common.{◌∙◌, ap}
use Rattle.data_theory.specs.Taken.{with_name}
use Rattle.data_theory.proofs.NameLemmas.{entered_is, place_is}
use Rattle.data_theory.proofs.taken.take_text.Goals as goal

pub returns-clause-texts : goal.returns-clause-texts
returns-clause-texts c = entered_is _ _ _ c.in_ok-name.ensures.entered

pub returns-clause-taken : goal.returns-clause-taken
returns-clause-taken c =
    c.in_ok-insert.ensures.keys ∙ ap (with_name c.args.taken.now.keys) (place_is c.enter.new.self c.args.text.now c.in_ok-name.name.0 c.in_ok-name.ensures.different c.in_ok-name.ensures.place)
