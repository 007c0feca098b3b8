use Rattle.std.proofs.Common.{sym, subst}
use Rattle.lps_core.specs.Naming.{GrowsByNames}
use Rattle.lps_core.proofs.NamedSums.{names_none}
use Rattle.lps_core.proofs.NamingLoops.{name_is, sort_is}
use Rattle.greibach.proofs.OneByOne.{is_renewed, renewed_grows}
use Rattle.greibach.proofs.renewing.renew.Goals as goal

pub returns-clause-renewed : goal.returns-clause-renewed
returns-clause-renewed c =
    is_renewed c.args.sig.now c.args.var c.var_name-name.result c.var_sort-sort.result c.add_var.new.self c.in_ok-add_var.field-0
    (name_is c.args.sig.now c.args.var c.var_name-name.result c.requires.variable c.var_name-name.ensures)
    (sort_is c.args.sig.now c.args.var c.var_sort-sort.result c.requires.variable c.var_sort-sort.ensures)
    c.in_ok-add_var.ensures.added c.in_ok-add_var.ensures.number

pub returns-clause-grown : goal.returns-clause-grown
returns-clause-grown c =
    renewed_grows c.args.sig.now c.args.var c.var_name-name.result c.var_sort-sort.result c.add_var.new.self c.requires.stands c.requires.variable
    (name_is c.args.sig.now c.args.var c.var_name-name.result c.requires.variable c.var_name-name.ensures)
    (sort_is c.args.sig.now c.args.var c.var_sort-sort.result c.requires.variable c.var_sort-sort.ensures)
    c.in_ok-add_var.ensures.added

pub returns-in_err-add_var-clause-grown : goal.returns-in_err-add_var-clause-grown
returns-in_err-add_var-clause-grown c = subst (λ z. GrowsByNames c.args.sig.now z) (sym c.in_err-add_var.ensures.unchanged) (names_none _ c.requires.stands)
