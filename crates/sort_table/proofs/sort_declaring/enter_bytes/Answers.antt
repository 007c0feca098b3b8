use Rattle.std.proofs.Common.{◌∙◌, ap, List, ℕ}
use Rattle.std.specs.Prelude.{Some}
use Rattle.std.proofs.lemmas.Result.{on_ok_weaker}
use Rattle.graphs.proofs.Kept.{if_ok_map}
use Rattle.data_theory.specs.Names.{with_text}
use Rattle.data_theory.proofs.NameLemmas.{entered_is}
use Rattle.sort_table.proofs.sort_declaring.enter_bytes.Goals as goal

pub unreachable-requires : goal.unreachable-requires
unreachable-requires c = c.in-Err.ensures.cases.0 c.requires

pub returns-clause-entered : goal.returns-clause-entered
returns-clause-entered c =
    on_ok_weaker c.enter.result (λ e. entered_is c.args.names.now c.in-Ok.text.now c.enter.new.self e ∙ ap (with_text c.args.names.now) c.in-Ok.ensures.cases.0) c.enter.ensures.entered

pub returns-clause-place : goal.returns-clause-place
returns-clause-place c =
    if_ok_map c.enter.result _ _ (λ name at. at ∙ ap (λ (t : List ℕ). Some t) c.in-Ok.ensures.cases.0) c.enter.ensures.place
