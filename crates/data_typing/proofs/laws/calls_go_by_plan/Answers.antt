use Rattle.data_typing.proofs.CallPlans.{calls_go_by_plan}
use Rattle.data_typing.proofs.laws.calls_go_by_plan.Goals as goal

pub returns : goal.returns
returns c = calls_go_by_plan
