use Rattle.std.proofs.Common.{◌∙◌, ◌++◌, List, [], ◌∷◌, ap, subst, sym, take}
use Rattle.std.specs.Global.{Vec}
use Rattle.std.specs.List.{AllZip}
use Rattle.std.proofs.lemmas.List.{map-append, take_all}
use Rattle.trace_replay.specs.declared.deciding.Answer.{Answer as CodeAnswer}
use Rattle.trace_replay.specs.DecidedConditions.{answer_of}
use Rattle.trace_replay.specs.Decidings.{Answer}
use Rattle.aut_check.specs.Tables.{answers_of, tables_of, IsBest}
use Rattle.aut_check.proofs.TableLaws.{taken, zip_push}
use Rattle.aut_check.proofs.tables.best_of_rows.Goals as goal

pub loop-row-init : goal.loop-row-init
loop-row-init c = subst (λ (z : List CodeAnswer). AllZip IsBest [] (answers_of z)) (sym c.new-bests.ensures.items) tt

pub loop-row-preserved : goal.loop-row-preserved
loop-row-preserved c =
    subst (λ (z : List (List Answer)). AllZip IsBest z (answers_of c.push.new.self.items)) (sym (taken (λ (v : Vec CodeAnswer). answers_of v.items) c.args.rows.now c.loop-row.row-index c.row-item.result c.loop-row-test.true c.row-item.is))
    (subst (λ (z : List Answer). AllZip IsBest (tables_of (take c.loop-row.row-index c.args.rows.now) ++ answers_of c.row-item.result.items ∷ []) z) (sym (ap answers_of c.in_ok-push.ensures.items ∙ map-append answer_of c.loop-row.bests.items (c.best_of_row.result ∷ [])))
    (zip_push IsBest (tables_of (take c.loop-row.row-index c.args.rows.now)) (answers_of c.loop-row.bests.items) (answers_of c.row-item.result.items) (answer_of c.best_of_row.result) c.loop-row.invariant
    (subst (λ (z : List CodeAnswer). IsBest (answers_of z) (answer_of c.best_of_row.result)) c.as_slice.ensures.value c.best_of_row.ensures)))

pub returns : goal.returns
returns c = subst (λ (z : List (Vec CodeAnswer)). AllZip IsBest (tables_of z) (answers_of c.loop-row.bests.items)) (take_all c.loop-row.row-index c.args.rows.now c.loop-row-test.false) c.loop-row.invariant
