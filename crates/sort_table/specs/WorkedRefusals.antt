-- Worked refusals.
use Rattle.std.specs.Prelude.{[], ◌∷◌, List, None, codes}
use Rattle.mcrl2_syntax.specs.declared.declaration.SectionWord.TheVariants as words
use Rattle.sort_table.specs.BareSorts.{naturals, lists_of, a_name}
use Rattle.sort_table.specs.BareProcesses.{delta}
use Rattle.sort_table.specs.BareDeclarations.{Section, alias, struct, mappings, actions, variables, initial, declarations_in}
use Rattle.sort_table.specs.SortCycles.{IsCycle}
use Rattle.sort_table.specs.Duplicates.{DeclaresAgain}
use Rattle.sort_table.specs.EmptySorts.{IsFirstEmptySort}
use Rattle.sort_table.specs.Refusals.{unknown_sort, IsRefusedWith}

abbrev pub end_of_text : Section
end_of_text = record { word = words.Init; declarations = initial delta ∷ [] }

-- act a: D; init delta;
abbrev pub unknown_text : List Section
unknown_text = record { word = words.Act; declarations = actions (codes "a" ∷ []) (a_name (codes "D") ∷ []) ∷ [] } ∷ end_of_text ∷ []

-- sort A = B; B = List(A); init delta;
abbrev pub cyclic_text : List Section
cyclic_text = record { word = words.Sort; declarations = alias (codes "A") (a_name (codes "B")) ∷ alias (codes "B") (lists_of (a_name (codes "A"))) ∷ [] } ∷ end_of_text ∷ []

-- act a, a; init delta;
abbrev pub twice_text : List Section
twice_text = record { word = words.Act; declarations = actions (codes "a" ∷ codes "a" ∷ []) [] ∷ [] } ∷ end_of_text ∷ []

-- sort L = List(Nat); map tail: L -> Nat; init delta;
abbrev pub built_in_text : List Section
built_in_text =
    record { word = words.Sort; declarations = alias (codes "L") (lists_of naturals) ∷ [] }
    ∷ record { word = words.Map; declarations = mappings (codes "tail" ∷ []) (a_name (codes "L") ∷ []) naturals ∷ [] }
    ∷ end_of_text ∷ []

-- var x: Nat; x: Nat; init delta;
abbrev pub variable_text : List Section
variable_text = record { word = words.Var; declarations = variables ((codes "x", naturals) ∷ []) ∷ variables ((codes "x", naturals) ∷ []) ∷ [] } ∷ end_of_text ∷ []

-- sort A = struct c(A); init delta;
abbrev pub empty_text : List Section
empty_text =
    record { word = words.Sort; declarations = struct (codes "A") (record { name = codes "c"; fields = record { name = None; sort = a_name (codes "A") } ∷ []; recogniser = None } ∷ []) ∷ [] }
    ∷ end_of_text
    ∷ []

-- Of the first two it is the refusal's own place and name, of the others the condition.
abbrev pub TheseAreRefused : Type 0
TheseAreRefused =
    IsRefusedWith unknown_text (unknown_sort 1 (codes "D")) × IsFirstEmptySort (declarations_in empty_text) (codes "A")
    × IsCycle (declarations_in cyclic_text) (codes "A" ∷ codes "B" ∷ [])
    × DeclaresAgain twice_text 1 1 × DeclaresAgain built_in_text 2 2 × DeclaresAgain variable_text 1 2
