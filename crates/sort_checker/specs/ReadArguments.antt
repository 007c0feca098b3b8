-- The terms of arguments at sorts.
use Rattle.std.specs.Prelude.{◌≡◌, List, [], ◌∷◌, Option, Some, option_map}
use Rattle.data_theory.specs.Environments.{list_of}
use Rattle.data_theory.specs.Terms.{Sort, Term}
use Rattle.data_typing.specs.Typings.{Typing, all_at}

-- these typings have these terms at these sorts
abbrev pub HaveTermsAt : (Sort → Typing → Option Term) → List Sort → List Typing → List Term → Type 0
HaveTermsAt how ss ts us = option_map list_of (all_at how ss ts) ≡ Some us
