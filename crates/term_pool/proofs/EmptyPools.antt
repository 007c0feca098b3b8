-- What holds where no constant was declared.
use Rattle.std.proofs.Common.{◌≡◌, List, [], sym, subst}
use Rattle.std.proofs.lemmas.List.Elements.{All-nil}
use Rattle.data_theory.specs.declared.ids.SortId.{SortId}
use Rattle.data_theory.specs.declared.ids.FunId.{FunId}
use Rattle.data_theory.specs.Places.{HaveOnePlace}
use Rattle.data_theory.specs.Signature.{Sig}
use Rattle.term_pool.specs.Constants.{IsConstantOf, AreConstants}

none_twice : HaveOnePlace {A = SortId} []
none_twice i j x a b = absurd cc

pub none_listed : (g : Sig) (cs : List (SortId × FunId)) → cs ≡ [] → AreConstants g cs
none_listed g cs none = subst (AreConstants g) (sym none) (record { each = All-nil (λ (c : SortId × FunId). IsConstantOf g c.0 c.1); once = none_twice })
