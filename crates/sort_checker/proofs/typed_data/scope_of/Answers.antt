use Rattle.std.proofs.Common.{◌≡◌, ◌<◌, ◌≤◌, List, length, get_or, sym, subst, ap, arith}
use Rattle.std.proofs.lemmas.List.Elements.{All-nil, All-push}
use Rattle.data_theory.specs.declared.ids.VarId.{VarId}
use Rattle.data_typing.specs.declared.scope.Bound.{Bound}
use Rattle.data_typing.specs.CodeWords as code
use Rattle.data_typing.specs.Contexts.{IsBoundOver, IsScopeOver}
use Rattle.sort_checker.specs.TypedData.{scope_under}
use Rattle.sort_checker.proofs.DataOver.{sort_there, bound_there, bound_is, scope_more}
use Rattle.sort_checker.proofs.ReadLists.{take_whole}
use Rattle.sort_checker.proofs.typed_data.scope_of.Goals as goal

-- what is read of the variables where there is none
abbrev no_number : VarId
no_number = record { 0 = 0 }

pub loop-var-init : goal.loop-var-init
loop-var-init c = record {
  over = subst (IsScopeOver c.args.sig.now) (sym c.new-scope.ensures) (All-nil (IsBoundOver c.args.sig.now));
  means = ap (code.scope_of c.args.sig.now.texts) c.new-scope.ensures;
}

pub loop-var-preserved : goal.loop-var-preserved
loop-var-preserved c =
    let g = c.args.sig.now in
    let xs = c.args.variables.now in
    let i = c.loop-var.var-index in
    let x : VarId = get_or xs i no_number in
    let f = c.flat-sort.result in
    let b : Bound = record { name = c.var_name-name.result; var = x; sort = f } in
    let there : x.0 < length g.variables = c.requires.variables i no_number c.loop-var-test.true in
    let inside = sort_there g c.next_sort.ensures.stands x there b.name c.var_name-name.ensures c.var_sort.result c.var_sort.ensures in
    let over = bound_there g c.next_sort.ensures.stands x there b.name c.var_name-name.ensures c.var_sort.result c.var_sort.ensures f (c.flat-sort.ensures.within g c.requires.tables inside) in
    let is = bound_is g c.next_sort.ensures.stands x there b.name c.var_name-name.ensures c.var_sort.result c.var_sort.ensures f (c.flat-sort.ensures.means g c.requires.tables inside) in
    record {
      over = subst (IsScopeOver g) (sym c.in_ok-enter.ensures.entered) (All-push (IsBoundOver g) c.loop-var.scope b c.loop-var.invariant.over over);
      means = scope_more g xs i no_number c.loop-var-test.true c.loop-var.scope c.enter.new.self b c.in_ok-enter.ensures.entered is c.loop-var.invariant.means;
    }

pub returns-clause-means : goal.returns-clause-means
returns-clause-means c =
    let l : length c.args.variables.now ≤ c.loop-var.var-index = omega (arith, c.loop-var-test.false) in
    subst (λ (xs : List VarId). code.scope_of c.args.sig.now.texts c.loop-var.scope ≡ scope_under c.args.sig.now xs) (take_whole c.loop-var.var-index c.args.variables.now l) c.loop-var.invariant.means
