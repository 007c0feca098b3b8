-- What typing knows of a signature and of the variables in scope, and what is read off an expression.
use Rattle.std.specs.Prelude.{◌≡◌, ◌<◌, List, length}
use Rattle.std.specs.List.{All}
use Rattle.data_theory.specs.Signature.{Sig}
use Rattle.data_theory.specs.IdTerms.{symbol_under}
use Rattle.sort_table.specs.NamedSorts.{sort_count}
use Rattle.data_typing.specs.declared.flat_sorts.FlatSort.{FlatSort}
use Rattle.data_typing.specs.declared.scope.Bound.{Bound}
use Rattle.data_typing.specs.declared.sort_tables.SortTables.{SortTables}
use Rattle.data_typing.specs.declared.steps.Wanted.{Wanted}
use Rattle.data_typing.specs.declared.nodes.Reading.{Reading}
use Rattle.data_typing.specs.Typings.{Typing}
use Rattle.data_typing.specs.Nodes.{AreKnown}
use Rattle.data_typing.specs.CodeSteps.{IsWantedWithin}
use Rattle.data_typing.specs.CodeWords.{AreFlat}
use Rattle.data_typing.specs.NamedSorts.{AreNamedSorts}
use Rattle.data_typing.specs.NodeTypings.{node_typings, typing_at}
use Rattle.data_typing.specs.Within.{IsFlatWithin, AreNodesWithin}

-- a sort of a signature's data
abbrev pub IsFlatOver : Sig → FlatSort → Type 0
IsFlatOver g f = IsFlatWithin (sort_count g) f

-- The tables say what all sorts of a signature are, and have the numbers of all declared ones.
pub record AreTablesOf (g : Sig) (t : SortTables) : Type 0 where
  pub flats : AreFlat g t.flats.items
  pub named : AreNamedSorts g t.named.items
  pub all_named : length t.named.items ≡ sort_count g

-- names and sorts of variables stand in the signature
abbrev pub IsBoundOver : Sig → Bound → Type 0
IsBoundOver g b = (b.name.0 < length g.texts) × IsFlatOver g b.sort

abbrev pub IsScopeOver : Sig → List Bound → Type 0
IsScopeOver g bs = All (IsBoundOver g) bs

abbrev pub IsWantedOver : Sig → Wanted → Type 0
IsWantedOver g w = IsWantedWithin (sort_count g) w

-- ---- what was read
-- the sorts of all nodes are known, and the expression's own node is one of them
pub record IsRead (r : Reading) : Type 0 where
  pub known_sorts : AreKnown r.nodes.items r.known.items
  pub all : length r.known.items ≡ length r.nodes.items
  pub there : r.at < length r.nodes.items

-- its functions and sorts stand in the signature
pub record IsReadOver (g : Sig) (r : Reading) : Type 0 where
  pub read : IsRead r
  pub within : AreNodesWithin (sort_count g) (length g.functions) r.nodes.items

-- over a signature, what was read has this typing
pub record IsReadingOf (g : Sig) (r : Reading) (t : Typing) : Type 0 where
  pub over : IsReadOver g r
  pub typing : typing_at (node_typings (symbol_under g) r.nodes.items) r.at ≡ t
