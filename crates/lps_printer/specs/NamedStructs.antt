-- Structs whose names are identifiers.
use Rattle.std.specs.Prelude.{List, [], ◌∷◌, map, Option, Some, None}
use Rattle.std.specs.List.{AllByRecursion}
use Rattle.data_theory.specs.declared.ids.FunId.{FunId}
use Rattle.data_theory.specs.declared.ids.SortId.{SortId}
use Rattle.data_theory.specs.Signature.{Sig}
use Rattle.sort_table.specs.Expressions.{Name}
use Rattle.sort_table.specs.BareDeclarations.{Field, Constructor}
use Rattle.lps_printer.specs.DataLayout.{IsIdentifier}
use Rattle.lps_printer.specs.NamedSummands.{IsNamed}
use Rattle.lps_printer.specs.TextWordings.{sort_place}
use Rattle.lps_printer.specs.WrittenProcesses.{TextNames}
use Rattle.lps_printer.specs.AddedDeclarations.{function_at, struct_begun, constructor_with}

abbrev pub IsNamedOption : Option Name → Type 0
IsNamedOption None = Unit {0}
IsNamedOption (Some x) = IsIdentifier x

pub record IsNamedField (f : Field) : Type 0 where
  pub name : IsNamedOption f.name
  pub sort : IsNamed f.sort

pub record IsNamedConstructor (c : Constructor) : Type 0 where
  pub name : IsIdentifier c.name
  pub fields : AllByRecursion IsNamedField c.fields
  pub recogniser : IsNamedOption c.recogniser

-- the struct of a sort with these constructors, where there are some
abbrev pub IsNamedStruct : Sig → TextNames → SortId → List FunId → Type 0
IsNamedStruct g n s [] = Unit {0}
IsNamedStruct g n s (c ∷ cs) = IsIdentifier (n.sort (sort_place g s)) × AllByRecursion IsNamedConstructor (map (constructor_with g n) (c ∷ cs))

-- the struct of which a function is the first constructor
abbrev pub BeginsNamedStruct : Sig → TextNames → FunId → Type 0
BeginsNamedStruct g n f = IsNamedStruct g n (function_at g f).result (struct_begun g f)
