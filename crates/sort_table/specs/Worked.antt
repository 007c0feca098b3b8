-- A worked text, with what it declares under two numberings.
use Rattle.std.specs.Prelude.{List, [], ◌∷◌, Some, None, codes}
use Rattle.data_theory.specs.Terms.{natural, boolean, list, named}
use Rattle.data_theory.specs.Declarations.{constructor, projection, recogniser, mapping, structured, by_declarations}
use Rattle.sort_table.specs.Expressions.{Name}
use Rattle.sort_table.specs.BareSorts.{SortExpression, naturals, lists_of, a_name}
use Rattle.sort_table.specs.BareDeclarations.{Declaration, sorts, alias, struct, constructors, mappings, actions}
use Rattle.sort_table.specs.Vocabularies.{Vocabulary, IsVocabularyOf}
use Rattle.sort_table.specs.SortMeanings.{under_names}

abbrev pub a : Name → SortExpression
a n = a_name n

abbrev pub d : Name
d = codes "D"

abbrev pub e : Name
e = codes "E"

abbrev pub f : Name
f = codes "F"

abbrev pub t : Name
t = codes "T"

-- sort D; F = E; E = List(D); T = struct leaf | node(left: T, D)?is_node; cons c: D; map g: Nat -> F; g: E -> Nat; act a: T; a: Nat;
abbrev pub worked : List Declaration
worked =
    sorts (d ∷ [])
    ∷ alias f (a e)
    ∷ alias e (lists_of (a d))
    ∷ struct t (
    record { name = codes "leaf"; fields = []; recogniser = None }
    ∷ record { name = codes "node"; fields = record { name = Some (codes "left"); sort = a t } ∷ record { name = None; sort = a d } ∷ []; recogniser = Some (codes "is_node") }
    ∷ [])
    ∷ constructors (codes "c" ∷ []) [] (a d)
    ∷ mappings (codes "g" ∷ []) (naturals ∷ []) (a f)
    ∷ mappings (codes "g" ∷ []) (a e ∷ []) naturals
    ∷ actions (codes "a" ∷ []) (a t ∷ [])
    ∷ actions (codes "a" ∷ []) (naturals ∷ [])
    ∷ []

-- in the order of the text
abbrev pub in_order : Vocabulary
in_order = record {
  tables = record {
    sorts = by_declarations ∷ structured ∷ [];
    functions =
        record { arguments = []; result = named 1; role = constructor }
        ∷ record { arguments = named 1 ∷ named 0 ∷ []; result = named 1; role = constructor }
        ∷ record { arguments = named 1 ∷ []; result = named 1; role = projection 1 0 }
        ∷ record { arguments = named 1 ∷ []; result = boolean; role = recogniser 1 }
        ∷ record { arguments = []; result = named 0; role = constructor }
        ∷ record { arguments = natural ∷ []; result = list (named 0); role = mapping }
        ∷ record { arguments = list (named 0) ∷ []; result = natural; role = mapping }
        ∷ [];
  };
  sort_names = (d, named 0) ∷ (f, list (named 0)) ∷ (e, list (named 0)) ∷ (t, named 1) ∷ [];
  function_names = (codes "leaf", 0) ∷ (codes "node", 1) ∷ (codes "left", 2) ∷ (codes "is_node", 3) ∷ (codes "c", 4) ∷ (codes "g", 5) ∷ (codes "g", 6) ∷ [];
  actions = (codes "a", named 1 ∷ []) ∷ (codes "a", natural ∷ []) ∷ [];
}

-- with T in front of D, the functions from the last one on, and the names of sorts in another order
abbrev pub turned : Vocabulary
turned = record {
  tables = record {
    sorts = structured ∷ by_declarations ∷ [];
    functions =
        record { arguments = list (named 1) ∷ []; result = natural; role = mapping }
        ∷ record { arguments = natural ∷ []; result = list (named 1); role = mapping }
        ∷ record { arguments = []; result = named 1; role = constructor }
        ∷ record { arguments = named 0 ∷ []; result = boolean; role = recogniser 5 }
        ∷ record { arguments = named 0 ∷ []; result = named 0; role = projection 5 0 }
        ∷ record { arguments = named 0 ∷ named 1 ∷ []; result = named 0; role = constructor }
        ∷ record { arguments = []; result = named 0; role = constructor }
        ∷ [];
  };
  sort_names = (t, named 0) ∷ (e, list (named 1)) ∷ (d, named 1) ∷ (f, list (named 1)) ∷ [];
  function_names = (codes "leaf", 6) ∷ (codes "node", 5) ∷ (codes "left", 4) ∷ (codes "is_node", 3) ∷ (codes "c", 2) ∷ (codes "g", 1) ∷ (codes "g", 0) ∷ [];
  actions = (codes "a", named 0 ∷ []) ∷ (codes "a", natural ∷ []) ∷ [];
}

-- both are vocabularies of the text
abbrev pub ATextHasVocabulariesInAnyNumbering : Type 0
ATextHasVocabulariesInAnyNumbering = IsVocabularyOf (under_names worked) in_order × IsVocabularyOf (under_names worked) turned
