use Rattle.std.proofs.Common.{◌∙◌, ◌++◌, [], ◌∷◌, List, ap, get_or, map, sym, take}
use Rattle.std.proofs.lemmas.List.{take_all}
use Rattle.std.proofs.lemmas.List.Elements.{All-get_or}
use Rattle.data_theory.specs.declared.ids.SortId.{SortId}
use Rattle.lps_core.specs.Fitting.{sort_of_variable, IsVariable}
use Rattle.lps_simulator.proofs.SumListing.{sort_read}
use Rattle.aut_check.proofs.TableLaws.{taken_at}
use Rattle.aut_check.proofs.equal_terms.sorts_of_variables.Goals as goal

pub var_sort-requires : goal.var_sort-requires
var_sort-requires c = All-get_or (IsVariable c.args.sig.now) c.args.vars.now c.loop-var.var-index (record { 0 = 0 }) c.loop-var-test.true c.requires

pub loop-var-preserved : goal.loop-var-preserved
loop-var-preserved c =
    let x = get_or c.args.vars.now c.loop-var.var-index (record { 0 = 0 }) in
    let declared = All-get_or (IsVariable c.args.sig.now) c.args.vars.now c.loop-var.var-index (record { 0 = 0 }) c.loop-var-test.true c.requires in
    c.in_ok-push.ensures.items
    ∙ ap (λ (z : List SortId). z ++ c.var_sort.result ∷ []) c.loop-var.invariant
    ∙ ap (λ (z : SortId). map (sort_of_variable c.args.sig.now) (take c.loop-var.var-index c.args.vars.now) ++ z ∷ []) (sort_read c.args.sig.now x c.var_sort.result declared c.var_sort.ensures)
    ∙ sym (taken_at (sort_of_variable c.args.sig.now) c.args.vars.now c.loop-var.var-index (record { 0 = 0 }) c.loop-var-test.true)

pub returns : goal.returns
returns c = c.loop-var.invariant ∙ ap (map (sort_of_variable c.args.sig.now)) (take_all c.loop-var.var-index c.args.vars.now c.loop-var-test.false)
