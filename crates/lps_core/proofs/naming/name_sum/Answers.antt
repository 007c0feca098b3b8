use Rattle.std.proofs.Common.{◌≡◌, ◌<◌, ◌⊎◌, length, subst, sym, true, Some}
use Rattle.std.specs.Prelude.{slice_get}
use Rattle.std.specs.List.{Contains}
use Rattle.data_theory.specs.declared.ids.NameId.{NameId}
use Rattle.data_theory.specs.declared.ids.SortId.{SortId}
use Rattle.lps_core.specs.Naming.{it_stays}
use Rattle.lps_core.proofs.Staying.{sort_is_within}
use Rattle.lps_core.proofs.NamedSums.{names_none}
use Rattle.lps_core.proofs.NamingLoops.{name_is, sort_is, name_within, fresh_within, new_is_named, new_grows}
use Rattle.lps_core.proofs.naming.name_sum.Goals as goal

pub returns-then-not-is_used-clause-named : goal.returns-then-not-is_used-clause-named
returns-then-not-is_used-clause-named c =
    let e = name_is c.args.sig.now c.args.sum c.var_name-name.result c.requires.variable c.var_name-name.ensures in
    it_stays (λ u. let q = c.is_used.ensures.1 (subst (λ n. Contains c.args.used.now.keys n ⊎ Contains c.args.mine.now.keys n) e u) in let b = c.if-not-is_used.true in cc)

pub returns-then-not-is_used-clause-grown : goal.returns-then-not-is_used-clause-grown
returns-then-not-is_used-clause-grown c = names_none _ c.requires.stands

pub fresh_from-requires : goal.fresh_from-requires
fresh_from-requires c = subst (λ (n : NameId). n.0 < length c.args.sig.now.texts) (name_is c.args.sig.now c.args.sum c.var_name-name.result c.requires.variable c.var_name-name.ensures) (name_within c.args.sig.now c.args.sum c.requires.stands c.requires.variable)

pub add_var-requires-clause-name : goal.add_var-requires-clause-name
add_var-requires-clause-name c = let f = c.in_ok-fresh.ensures.fresh in fresh_within c.args.sig.now c.fresh_from.new.sig f.0 c.in_ok-fresh.fresh f.2

pub add_var-requires-clause-sort : goal.add_var-requires-clause-sort
add_var-requires-clause-sort c =
    subst (λ ss. c.var_sort-sort.result.0 < length ss) (sym c.fresh_from.ensures.grown.sorts)
    (subst (λ (s : SortId). s.0 < length c.args.sig.now.sorts) (sort_is c.args.sig.now c.args.sum c.var_sort-sort.result c.requires.variable c.var_sort-sort.ensures) (sort_is_within c.args.sig.now c.args.sum c.requires.stands.complete c.requires.variable))

pub returns-clause-named : goal.returns-clause-named
returns-clause-named c =
    let f = c.in_ok-fresh.ensures.fresh in
    let e = name_is c.args.sig.now c.args.sum c.var_name-name.result c.requires.variable c.var_name-name.ensures in
    let b = c.if-not-is_used.false in
    let used : c.is_used.result ≡ true = cc in
    new_is_named (λ n. Contains c.args.used.now.keys n ⊎ Contains c.args.mine.now.keys n) c.args.sig.now c.args.sum c.fresh_from.new.sig f.0 c.in_ok-fresh.fresh c.var_sort-sort.result c.add_var.new.self c.in_ok-add_var.field-0
    (subst (λ n. Contains c.args.used.now.keys n ⊎ Contains c.args.mine.now.keys n) (sym e) (c.is_used.ensures.0 used))
    (subst (λ (n : NameId). slice_get c.args.sig.now.texts n.0 ≡ Some f.0) (sym e) f.1) f.2
    (sort_is c.args.sig.now c.args.sum c.var_sort-sort.result c.requires.variable c.var_sort-sort.ensures) c.in_ok-add_var.ensures.added c.in_ok-add_var.ensures.number

pub returns-clause-grown : goal.returns-clause-grown
returns-clause-grown c =
    let f = c.in_ok-fresh.ensures.fresh in
    new_grows c.args.sig.now c.fresh_from.new.sig c.add_var.new.self c.args.sum c.in_ok-fresh.fresh c.var_sort-sort.result c.requires.stands c.requires.variable c.fresh_from.ensures.grown
    (sort_is c.args.sig.now c.args.sum c.var_sort-sort.result c.requires.variable c.var_sort-sort.ensures) (fresh_within c.args.sig.now c.fresh_from.new.sig f.0 c.in_ok-fresh.fresh f.2) c.in_ok-add_var.ensures.added
