-- What plans in code mean.
use Rattle.data_typing.specs.declared.plans.CallPlan.{CallPlan}
use Rattle.data_typing.specs.declared.plans.CallPlan.TheVariants as plans
use Rattle.data_typing.specs.FlatSorts.{flat_sort}
use Rattle.data_typing.specs.Plans.{Plan, exact, fitting, over_sort}

abbrev pub plan_of : CallPlan → Plan
plan_of (plans.Exact k) = exact k
plan_of (plans.Fitting k) = fitting k
plan_of (plans.Over s) = over_sort (flat_sort s)
