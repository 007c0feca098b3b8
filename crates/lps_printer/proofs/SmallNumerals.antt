-- The numerals of well-sorted terms are small enough to be written.
use Rattle.std.proofs.Common.{◌<◌, ◌^◌, suc, List, [], ◌∷◌}
use Rattle.std.specs.Prelude.{ℤ, pos, negsuc}
use Rattle.data_theory.specs.Terms.{Sort, Term, Terms, variable, unknown, application}
use Rattle.data_theory.specs.Terms as terms
use Rattle.data_theory.specs.Declarations.{Data, argument_sorts, HasSort, HaveSorts}

abbrev pub IsSmall : ℤ → Type 0
IsSmall (pos n) = n < 2 ^ 128
IsSmall (negsuc n) = suc n < 2 ^ 128

abbrev mutual
  pub HasSmallNumerals : Term → Type 0
  HasSmallNumerals (variable v) = Unit {0}
  HasSmallNumerals (terms.numeral s z) = IsSmall z
  HasSmallNumerals (unknown d k) = Unit {0}
  HasSmallNumerals (application f ts) = HaveSmallNumerals ts

  pub HaveSmallNumerals : Terms → Type 0
  HaveSmallNumerals terms.none = Unit {0}
  HaveSmallNumerals (terms.more t ts) = HasSmallNumerals t × HaveSmallNumerals ts

mutual
  pub small : (g : Data) (vs : List Sort) (t : Term) (s : Sort) → HasSort g vs t s → HasSmallNumerals t
  small g vs (variable v) s h = tt
  small g vs (terms.numeral a (pos n)) s h = h.1.1
  small g vs (terms.numeral a (negsuc n)) s h = h.1.1
  small g vs (unknown d k) s h = tt
  small g vs (application f ts) s h = all_small g vs ts (argument_sorts g f) h.1

  pub all_small : (g : Data) (vs : List Sort) (ts : Terms) (ss : List Sort) → HaveSorts g vs ts ss → HaveSmallNumerals ts
  all_small g vs terms.none ss h = tt
  all_small g vs (terms.more t ts) [] h = absurd h
  all_small g vs (terms.more t ts) (s ∷ ss) h = (small g vs t s h.0, all_small g vs ts ss h.1)
