use Rattle.std.proofs.Common.{◌∙◌, sym, subst}
use Rattle.std.specs.Prelude.{◌↔◌, ◌⊎◌, OnOk}
use Rattle.std.specs.List.{Contains}
use Rattle.data_theory.specs.declared.ids.VarId.{VarId}
use Rattle.greibach.proofs.TablesOfPlaces.{params_in}
use Rattle.greibach.proofs.reading.add_params.Goals as goal

pub returns : goal.returns
returns c =
    subst (λ vs. OnOk c.add_variables.result ((v : VarId) → Contains c.add_variables.new.set.keys v ↔ (Contains c.args.set.now.keys v ⊎ Contains vs v)))
    (c.as_slice.ensures.value ∙ sym (params_in c.args.places.now c.args.place c.index-places-place.result c.requires)) c.add_variables.ensures
