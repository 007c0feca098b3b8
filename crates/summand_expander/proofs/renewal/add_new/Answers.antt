use Rattle.std.proofs.Common.{◌<◌, length, subst, sym, ap, ◌∙◌, ◌++◌, [], ◌∷◌}
use Rattle.data_theory.specs.declared.ids.SortId.{SortId}
use Rattle.data_theory.specs.declared.ids.VarId.{VarId}
use Rattle.data_theory.specs.Signature.{with_variable}
use Rattle.lps_core.specs.Naming.{GrowsByNames}
use Rattle.lps_core.proofs.Staying.{sort_is_within}
use Rattle.lps_core.proofs.NamedSums.{names_none}
use Rattle.lps_core.proofs.NamingLoops.{sort_is, new_grows}
use Rattle.summand_expander.proofs.GivingWay.{absent_key}
use Rattle.summand_expander.proofs.renewal.add_new.Goals as goal

pub add_var-requires-clause-sort : goal.add_var-requires-clause-sort
add_var-requires-clause-sort c =
    subst (λ (s : SortId). s.0 < length c.args.sig.now.sorts) (sort_is c.args.sig.now c.args.var c.var_sort-sort.result c.requires.variable c.var_sort-sort.ensures) (sort_is_within c.args.sig.now c.args.var c.requires.stands.complete c.requires.variable)

pub returns-in_err-new-clause-grown : goal.returns-in_err-new-clause-grown
returns-in_err-new-clause-grown c = subst (λ z. GrowsByNames c.args.sig.now z) (sym c.in_err-new.ensures.unchanged) (names_none _ c.requires.stands)

pub returns-in_err-insert-clause-grown : goal.returns-in_err-insert-clause-grown
returns-in_err-insert-clause-grown c =
    new_grows c.args.sig.now c.args.sig.now c.add_var.new.self c.args.var c.args.name c.var_sort-sort.result c.requires.stands c.requires.variable (names_none _ c.requires.stands)
    (sort_is c.args.sig.now c.args.var c.var_sort-sort.result c.requires.variable c.var_sort-sort.ensures) c.requires.name c.in_ok-new.ensures.added

pub returns-in_err-push-clause-grown : goal.returns-in_err-push-clause-grown
returns-in_err-push-clause-grown c =
    new_grows c.args.sig.now c.args.sig.now c.add_var.new.self c.args.var c.args.name c.var_sort-sort.result c.requires.stands c.requires.variable (names_none _ c.requires.stands)
    (sort_is c.args.sig.now c.args.var c.var_sort-sort.result c.requires.variable c.var_sort-sort.ensures) c.requires.name c.in_ok-new.ensures.added

pub returns-clause-grown : goal.returns-clause-grown
returns-clause-grown c =
    new_grows c.args.sig.now c.args.sig.now c.add_var.new.self c.args.var c.args.name c.var_sort-sort.result c.requires.stands c.requires.variable (names_none _ c.requires.stands)
    (sort_is c.args.sig.now c.args.var c.var_sort-sort.result c.requires.variable c.var_sort-sort.ensures) c.requires.name c.in_ok-new.ensures.added

pub returns-clause-added : goal.returns-clause-added
returns-clause-added c =
    c.in_ok-new.ensures.added ∙ ap (λ s. with_variable c.args.sig.now (record { name = c.args.name; sort = s })) (sym (sort_is c.args.sig.now c.args.var c.var_sort-sort.result c.requires.variable c.var_sort-sort.ensures))

pub returns-clause-from : goal.returns-clause-from
returns-clause-from c = c.in_ok-insert.ensures.keys ∙ absent_key c.args.renewal.now.from.keys c.args.var c.requires.absent

pub returns-clause-to : goal.returns-clause-to
returns-clause-to c = c.in_ok-push.ensures.items ∙ ap (λ (y : VarId). c.args.renewal.now.to.items ++ y ∷ []) (ap (λ n. record { 0 = n }) c.in_ok-new.ensures.number)
