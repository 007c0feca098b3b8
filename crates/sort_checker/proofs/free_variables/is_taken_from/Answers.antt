use Rattle.std.proofs.Common.{◌∙◌}
use Rattle.sort_checker.proofs.FreeParts.{taken_found, taken_none}
use Rattle.sort_checker.proofs.free_variables.is_taken_from.Goals as goal

pub returns-in-Some : goal.returns-in-Some
returns-in-Some c = λ xs inside. c.is.ensures ∙ taken_found c.args.sig.now c.next_sort.ensures.stands xs c.args.scope.now inside c.args.parameter c.requires c.in-Some.bound c.find.result c.find.ensures c.in-Some.is

pub returns-in-None : goal.returns-in-None
returns-in-None c = λ xs inside. taken_none c.args.sig.now c.next_sort.ensures.stands xs c.args.scope.now inside c.args.parameter c.requires c.find.result c.find.ensures c.in-None.is
