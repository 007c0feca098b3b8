-- Other variables with the names and sorts of given ones.
use Rattle.std.specs.Prelude.{List, [], ◌∷◌, ◌++◌, length}
use Rattle.data_theory.specs.declared.ids.VarId.{VarId}
use Rattle.data_theory.specs.Signature.{Sig, with_variable}
use Rattle.lps_core.specs.Fitting.{sort_of_variable}
use Rattle.lps_core.specs.Naming.{name_of}

-- a new variable with the name and the sort of x
pub data IsRenewed (g : Sig) (x : VarId) : Sig → VarId → Type 0 where
  renewed : IsRenewed g x (with_variable g (record { name = name_of g x; sort = sort_of_variable g x })) (record { 0 = length g.variables })

-- one for each, from the left
pub data AreRenewed (g : Sig) : List VarId → Sig → List VarId → Type 0 where
  none_renewed : AreRenewed g [] g []
  one_more_renewed : {xs ys : List VarId} {h k : Sig} {x y : VarId} → AreRenewed g xs h ys → IsRenewed h x k y → AreRenewed g (xs ++ x ∷ []) k (ys ++ y ∷ [])
