use Rattle.std.proofs.Common.{option_map, refl, sym, ap, ◌∙◌, subst}
use Rattle.std.specs.Prelude.{IfSome}
use Rattle.data_typing.specs.Contexts.{IsFlatOver}
use Rattle.data_typing.specs.FlatSorts.{flat_sort}
use Rattle.sort_checker.proofs.ScopesInCode.{entered_with, entered_without}
use Rattle.sort_checker.proofs.variable_scopes.VariableScope.enter.Goals as goal

pub returns-in_ok-push-in-Some : goal.returns-in_ok-push-in-Some
returns-in_ok-push-in-Some c = λ xs e sort inside.
    entered_with c.args.sig.now xs c.args.self.now (record { scope = c.enter.new.self; entered = c.push.new.self }) c.args.name.now e c.in-Some.sort (record { name = c.name_number.result; var = record { 0 = c.len.result }; sort = c.in-Some.sort })
    inside refl c.len.ensures c.name_number.ensures (subst (λ o. IfSome o (IsFlatOver c.args.sig.now)) c.in-Some.is c.requires.over) (sym (ap (option_map flat_sort) c.in-Some.is) ∙ sort) c.in_ok-enter-in-Some.ensures.entered c.in_ok-push-in-Some.ensures.items

pub returns-in_ok-push-in-None : goal.returns-in_ok-push-in-None
returns-in_ok-push-in-None c = λ xs e sort inside.
    entered_without c.args.sig.now xs c.args.self.now (record { scope = c.args.self.now.scope; entered = c.push-in-None.new.self }) c.args.name.now e inside (sym (ap (option_map flat_sort) c.in-None.is) ∙ sort) refl c.in_ok-push-in-None.ensures.items
