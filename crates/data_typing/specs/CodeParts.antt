-- What parts of terms in code mean.
use Rattle.std.specs.Prelude.{◌<◌, ℕ, List, [], ◌∷◌, map, length, pos}
use Rattle.std.specs.List.{All}
use Rattle.data_theory.specs.declared.ids.TermId.{TermId}
use Rattle.data_theory.specs.Terms.{Term, variable}
use Rattle.data_theory.specs.Terms as terms
use Rattle.data_theory.specs.Signature.{Sig}
use Rattle.data_theory.specs.IdTrees.{Tree}
use Rattle.data_theory.specs.IdTerms.{symbol_under, term_under, IsTreeWithin}
use Rattle.term_pool.specs.HeadTrees.{tree_at}
use Rattle.data_typing.specs.declared.making.Part.{Part}
use Rattle.data_typing.specs.declared.making.Part.TheVariants as parts
use Rattle.data_typing.specs.Typings.{least_sort}
use Rattle.data_typing.specs.Making.{Item, leaf, over, Make}

abbrev pub part_item : Sig → Part → Item
part_item g (parts.Variable v) = leaf (variable v.0)
part_item g (parts.Numeral n) = leaf (terms.numeral (least_sort n) (pos n))
part_item g (parts.Apply f n) = over (symbol_under g f) n

abbrev pub part_items : Sig → List Part → List Item
part_items g ps = map (part_item g) ps

-- the numbers of functions in parts stand in the table
abbrev pub IsPartWithin : Sig → Part → Type 0
IsPartWithin g (parts.Variable v) = Unit {0}
IsPartWithin g (parts.Numeral n) = Unit {0}
IsPartWithin g (parts.Apply f n) = f.0 < length g.functions

-- over how many terms a part stands
abbrev pub needed : Part → ℕ
needed (parts.Variable v) = 0
needed (parts.Numeral n) = 0
needed (parts.Apply f n) = n

-- the term with a number of a pool
abbrev pub term_at : Sig → List Tree → TermId → Term
term_at g ts id = term_under g (tree_at ts id)

-- the parts make a term of these
abbrev pub MakeOne : Sig → List Part → List Term → Type 0
MakeOne g ps us = (t : Term) × Make (part_items g ps) us (t ∷ [])

-- trees whose sorts and functions stand in one signature go on to trees of which that holds in another one
abbrev pub KeepTrees : Sig → List Tree → Sig → List Tree → Type 0
KeepTrees g ts h us = All (IsTreeWithin g) ts → All (IsTreeWithin h) us
