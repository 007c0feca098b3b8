use Rattle.std.proofs.Common.{◌≡◌, ◌<◌, length, subst, sym, ap, ◌∙◌, Some}
use Rattle.std.specs.Prelude.{slice_get}
use Rattle.std.specs.List.{Contains}
use Rattle.data_theory.specs.declared.ids.NameId.{NameId}
use Rattle.data_theory.specs.Signature.{with_variable}
use Rattle.lps_core.specs.Fitting.{sort_of_variable}
use Rattle.lps_core.proofs.NamedSums.{names_none, names_then, sort_kept}
use Rattle.lps_core.proofs.NamingLoops.{name_is, name_within}
use Rattle.summand_expander.specs.Renewals.{it_has_been, it_stays}
use Rattle.summand_expander.proofs.GivingWay.{on_three, renewed_freshly, renewed_plainly, tells_not}
use Rattle.summand_expander.proofs.renewal.renew_one.Goals as goal

pub returns-then-has_variable-clause-grown : goal.returns-then-has_variable-clause-grown
returns-then-has_variable-clause-grown c = names_none _ c.requires.stands

pub returns-then-has_variable-clause-renewed : goal.returns-then-has_variable-clause-renewed
returns-then-has_variable-clause-renewed c = it_has_been (c.has_variable.ensures.0 c.if-has_variable.true)

pub returns-then-has_name-clause-grown : goal.returns-then-has_name-clause-grown
returns-then-has_name-clause-grown c = names_then _ _ _ c.fresh_from.ensures.grown c.add_new.ensures.grown

pub returns-then-has_name-clause-renewed : goal.returns-then-has_name-clause-renewed
returns-then-has_name-clause-renewed c =
    let f = c.in_ok-fresh.ensures.fresh in
    let e = name_is c.args.sig.now c.args.var c.var_name-name.result c.requires.variable c.var_name-name.ensures in
    on_three c.add_new.result
    (λ s p q. renewed_freshly (Contains c.args.names.now.keys) (Contains c.args.others.now.keys) c.args.sig.now c.fresh_from.new.sig c.add_new.new.sig c.args.renewal.now.from.keys c.args.renewal.now.to.items c.add_new.new.renewal.from.keys c.add_new.new.renewal.to.items c.args.var f.0 c.in_ok-fresh.fresh
    (tells_not c.has_variable.ensures c.if-has_variable.false) (subst (Contains c.args.names.now.keys) (sym e) (c.has_name.ensures.0 c.if-has_name.true)) (subst (λ (n : NameId). slice_get c.args.sig.now.texts n.0 ≡ Some f.0) (sym e) f.1) f.2
    (sort_kept c.args.sig.now c.fresh_from.new.sig c.args.var c.fresh_from.ensures.grown.grown c.requires.variable) s p q)
    c.add_new.ensures.added c.add_new.ensures.from c.add_new.ensures.to

pub add_new-requires-then-has_variable-2-clause-name :
    goal.add_new-requires-then-has_variable-2-clause-name
add_new-requires-then-has_variable-2-clause-name c =
    subst (λ (n : NameId). n.0 < length c.args.sig.now.texts) (name_is c.args.sig.now c.args.var c.var_name-name.result c.requires.variable c.var_name-name.ensures) (name_within c.args.sig.now c.args.var c.requires.stands c.requires.variable)

pub returns-then-has_variable-2-clause-renewed : goal.returns-then-has_variable-2-clause-renewed
returns-then-has_variable-2-clause-renewed c =
    let e = name_is c.args.sig.now c.args.var c.var_name-name.result c.requires.variable c.var_name-name.ensures in
    on_three c.add_new-then-has_variable-2.result
    (λ s p q. renewed_plainly (Contains c.args.names.now.keys) (Contains c.args.others.now.keys) c.args.sig.now c.add_new-then-has_variable-2.new.sig c.args.renewal.now.from.keys c.args.renewal.now.to.items c.add_new-then-has_variable-2.new.renewal.from.keys c.add_new-then-has_variable-2.new.renewal.to.items c.args.var
    (tells_not c.has_variable.ensures c.if-has_variable.false) (λ i. tells_not c.has_name.ensures c.if-has_name.false (subst (Contains c.args.names.now.keys) e i)) (c.has_variable-2.ensures.0 c.if-has_variable-2.true)
    (s ∙ ap (λ n. with_variable c.args.sig.now (record { name = n; sort = sort_of_variable c.args.sig.now c.args.var })) (sym e)) p q)
    c.add_new-then-has_variable-2.ensures.added c.add_new-then-has_variable-2.ensures.from c.add_new-then-has_variable-2.ensures.to

pub returns-clause-grown : goal.returns-clause-grown
returns-clause-grown c = names_none _ c.requires.stands

pub returns-clause-renewed : goal.returns-clause-renewed
returns-clause-renewed c =
    let e = name_is c.args.sig.now c.args.var c.var_name-name.result c.requires.variable c.var_name-name.ensures in
    it_stays (λ i. tells_not c.has_name.ensures c.if-has_name.false (subst (Contains c.args.names.now.keys) e i)) (tells_not c.has_variable-2.ensures c.if-has_variable-2.false)
