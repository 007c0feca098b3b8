-- What the laws of contexts say: what holds of a signature for typing stays where variables and list sorts are added.
use Rattle.std.specs.Prelude.{◌≡◌, List}
use Rattle.data_theory.specs.Signature.{Sig}
use Rattle.data_theory.specs.IdTables.{IsTable}
use Rattle.data_theory.specs.IdTerms.{IsGrown}
use Rattle.data_theory.specs.WholeSignatures.{IsSignature}
use Rattle.sort_table.specs.NamedSorts.{AddsLists}
use Rattle.sort_table.specs.SignatureVocabularies.{vocabulary_of}
use Rattle.data_typing.specs.declared.nodes.Reading.{Reading}
use Rattle.data_typing.specs.declared.scope.Bound.{Bound}
use Rattle.data_typing.specs.declared.sort_tables.SortTables.{SortTables}
use Rattle.data_typing.specs.declared.steps.Wanted.{Wanted}
use Rattle.data_typing.specs.Typings.{Typing}
use Rattle.data_typing.specs.Contexts.{AreTablesOf, IsScopeOver, IsWantedOver, IsReadingOf}

-- list sorts come behind what was there, and change nothing in the vocabulary
abbrev pub ListSortsComeBehind : Type 0
ListSortsComeBehind = (g h : Sig) → AddsLists g h → IsGrown g h

abbrev pub ListSortsKeepTheVocabulary : Type 0
ListSortsKeepTheVocabulary = (g h : Sig) → IsSignature g → AddsLists g h → vocabulary_of h ≡ vocabulary_of g

-- tables hang on the sorts alone
abbrev pub TablesStay : Type 0
TablesStay = (g h : Sig) (t : SortTables) → h.sorts ≡ g.sorts → AreTablesOf g t → AreTablesOf h t

abbrev pub ScopesStay : Type 0
ScopesStay = (g h : Sig) (bs : List Bound) → IsGrown g h → IsScopeOver g bs → IsScopeOver h bs

abbrev pub WishesStay : Type 0
WishesStay = (g h : Sig) (w : Wanted) → IsGrown g h → IsWantedOver g w → IsWantedOver h w

-- what was read keeps its typing
abbrev pub ReadingsStay : Type 0
ReadingsStay = (g h : Sig) → IsTable g → IsGrown g h → (r : Reading) (t : Typing) → IsReadingOf g r t → IsReadingOf h r t
