use Rattle.std.proofs.Common.{◌∙◌, sym, subst, rules}
use Rattle.std.specs.List.{All, Contains}
use Rattle.data_theory.specs.declared.ids.VarId.{VarId}
use Rattle.greibach.specs.ListedVariables.{listed_variables}
use Rattle.greibach.proofs.TablesOfPlaces.{params_there}
use Rattle.greibach.proofs.calls.rest_call.Goals as goal

pub terms_for-requires : goal.terms_for-requires
terms_for-requires c =
    subst (λ vs. All (λ (v : VarId). Contains (listed_variables c.args.by.now) v) vs)
    (params_there c.args.places.now c.args.place c.index.result.now c.requires.there (search rules) ∙ sym c.as_slice.ensures.value) c.requires.bound
