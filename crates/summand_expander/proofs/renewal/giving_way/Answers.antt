use Rattle.std.proofs.Common.{subst, sym, ◌∙◌}
use Rattle.std.specs.List.{All}
use Rattle.std.proofs.lemmas.List.Elements.{All-weaker}
use Rattle.lps_core.specs.Fitting.{IsVariable}
use Rattle.lps_core.specs.PlainLinears.{plain_linear}
use Rattle.lps_core.proofs.NamedSums.{names_none, variable_kept}
use Rattle.summand_expander.proofs.GivingWay.{gives_way_by}
use Rattle.summand_expander.proofs.renewal.giving_way.Goals as goal

pub returns-in_err-others-clause-grown : goal.returns-in_err-others-clause-grown
returns-in_err-others-clause-grown c = names_none _ c.requires.stands

pub returns-in_err-add_variable_names-clause-grown :
    goal.returns-in_err-add_variable_names-clause-grown
returns-in_err-add_variable_names-clause-grown c = names_none _ c.requires.stands

pub renew-requires-2-clause-variables : goal.renew-requires-2-clause-variables
renew-requires-2-clause-variables c =
    subst (All (IsVariable c.renew.new.sig)) (sym (c.as_slice-2.ensures.value ∙ c.in_ok-sums.ensures)) (All-weaker (IsVariable c.args.sig.now) (IsVariable c.renew.new.sig) (λ x l. variable_kept c.args.sig.now c.renew.new.sig x c.renew.ensures.grown.grown l) _ c.requires.sums)

pub returns-clause-gives_way : goal.returns-clause-gives_way
returns-clause-gives_way c =
    gives_way_by c.args.sig.now c.renew.new.sig c.renew-2.new.sig (plain_linear c.args.left.now) (plain_linear c.args.right.now) c.new-names.result.keys c.add_variable_names.new.names.keys c.in_ok-others.others.keys c.new-none.result.keys _ _ c.as_slice.result.now c.as_slice-params.result.now c.as_slice-2.result.now
    c.renew.new.renewal.from.keys c.renew.new.renewal.to.items c.renew-2.new.renewal.from.keys c.renew-2.new.renewal.to.items c.new-names.ensures.empty c.in_ok-add_variable_names.ensures c.in_ok-others.ensures c.new-none.ensures.empty c.new.ensures.empty c.new-2.ensures.items c.as_slice.ensures.value c.as_slice-params.ensures.value (c.as_slice-2.ensures.value ∙ c.in_ok-sums.ensures)
    c.in_ok-renew.ensures.renewed c.in_ok-renew-2.ensures.renewed
