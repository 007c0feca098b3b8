use Rattle.std.proofs.Common.{List, map, sym, ap, ◌∙◌}
use Rattle.std.specs.Prelude.{Option, option_map, option_and_then}
use Rattle.data_typing.specs.Nodes.{profile_of, sortings_at, sortings}
use Rattle.data_typing.specs.Sortings.{Sorting, Profile, AnyProfile, any_profile}
use Rattle.data_typing.specs.Plans.{call_plan, planned}
use Rattle.data_typing.proofs.CallPlans.{calls_go_by_plan}
use Rattle.data_typing.proofs.plans.plan_call.Goals as goal

pub returns-clause-infers : goal.returns-clause-infers
returns-clause-infers c = λ fs k ts h p q.
    let ss : List Sorting = sortings_at (sortings c.args.nodes.now) c.args.arguments.now in
    calls_go_by_plan fs k ss ts h
    ∙ ap (λ (ps : List Profile). option_and_then (planned fs k ts) (call_plan ps (option_map any_profile k) ss)) p
    ∙ ap (λ (a : Option AnyProfile). option_and_then (planned fs k ts) (call_plan (map profile_of c.args.signatures.now) a ss)) q
    ∙ ap (option_and_then (planned fs k ts)) (sym c.in_ok-plan.ensures)
