-- The actions of a signature, which are their names and sorts.
use Rattle.std.specs.Prelude.{List, map}
use Rattle.data_theory.specs.declared.actions.ActEntry.{ActEntry}
use Rattle.data_theory.specs.Keys.{Key, key}

abbrev pub actions_of : List ActEntry → List Key
actions_of es = map (λ e. key e.name e.sorts.items) es
