use Rattle.std.proofs.Common.{map, sym, subst}
use Rattle.std.specs.Prelude.{◌↔◌, ◌⊎◌, OnOk}
use Rattle.std.specs.List.{Contains}
use Rattle.data_theory.specs.declared.ids.VarId.{VarId}
use Rattle.greibach.specs.PlacesInCode.{plain_place}
use Rattle.greibach.specs.OccurringVariables.{rest_params}
use Rattle.greibach.proofs.reading.add_rest_params.Goals as goal

pub returns-in-Some : goal.returns-in-Some
returns-in-Some c =
    subst (λ r. OnOk c.add_params.result ((v : VarId) → Contains c.add_params.new.set.keys v ↔ (Contains c.args.set.now.keys v ⊎ Contains (rest_params (map plain_place c.args.places.now) r) v))) (sym c.in-Some.is) c.add_params.ensures
