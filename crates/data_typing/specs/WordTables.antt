-- What words are looked up in, and the functions of those that were, in code.
use Rattle.std.specs.Prelude.{◌≡◌, Option, option_map, length, IfSome}
use Rattle.std.specs.BTreeMap.{get_by}
use Rattle.std.specs.Cmp.Lexicographic.{slice_cmp}
use Rattle.std.specs.Ordering.{nat_cmp}
use Rattle.std.specs.Rc.{rc_value}
use denote.Ref.{Bor}
use Rattle.data_theory.specs.IdTerms.{symbol_under}
use Rattle.sort_table.specs.Expressions.{Name}
use Rattle.sort_table.specs.NamedSorts.{sort_count}
use Rattle.data_typing.specs.declared.nodes.WordFunctions.{WordFunctions}
use Rattle.data_typing.specs.declared.word_table.WordContext.{WordContext}
use Rattle.data_typing.specs.declared.word_table.WordTable.{WordTable}
use Rattle.data_typing.specs.NodeTypings.{meaning_of_functions}
use Rattle.data_typing.specs.Within.{AreFunctionsWithin}
use Rattle.data_typing.specs.CodeWords.{AreFlat, meaning_in}
use Rattle.data_typing.specs.Contexts.{IsScopeOver}

-- the sorts are those of the signature, and the variables' names and sorts stand in it
pub record IsWordContext (c : WordContext) : Type 0 where
  pub flats : AreFlat c.sig.now c.flats.now
  pub scope : IsScopeOver c.sig.now c.scope.now

-- what a table has under a word
abbrev pub functions_under : WordTable → Name → Option WordFunctions
functions_under t x = option_map rc_value (get_by (λ (k : Bor Name). slice_cmp nat_cmp x k.now) t.functions)

-- the functions are what the word means, and stand in the signature
pub record AreFunctionsOf (c : WordContext) (x : Name) (fs : WordFunctions) : Type 0 where
  pub within : AreFunctionsWithin (sort_count c.sig.now) (length c.sig.now.functions) fs
  pub mean : meaning_of_functions (symbol_under c.sig.now) fs ≡ meaning_in c.sig.now c.scope.now x

-- under a word stand its functions, or none
abbrev pub HasFunctions : WordContext → WordTable → Type 0
HasFunctions c t = (x : Name) → IfSome (functions_under t x) (AreFunctionsOf c x)
