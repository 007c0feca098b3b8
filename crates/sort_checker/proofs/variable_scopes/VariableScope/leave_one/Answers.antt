use Rattle.std.proofs.Common.{refl}
use Rattle.sort_checker.proofs.ScopesInCode.{left_with, left_without}
use Rattle.sort_checker.proofs.variable_scopes.VariableScope.leave_one.Goals as goal

pub returns-in-Some-true : goal.returns-in-Some-true
returns-in-Some-true c = λ g xs inside. left_with g xs c.args.self.now (record { scope = c.leave.new.self; entered = c.pop.new.self }) c.in-Some-true.field-0 inside c.in-Some-true.ensures.items c.in-Some-true.field-0-test c.leave.ensures

pub returns-in-Some-false : goal.returns-in-Some-false
returns-in-Some-false c = λ g xs inside. left_without g xs c.args.self.now (record { scope = c.args.self.now.scope; entered = c.pop.new.self }) c.in-Some-false.field-0 inside c.in-Some-false.ensures.items c.in-Some-false.field-0-test refl
