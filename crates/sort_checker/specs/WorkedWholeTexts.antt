-- A worked whole text.
use Rattle.std.specs.Prelude.{List, [], ◌∷◌, codes}
use Rattle.mcrl2_syntax.specs.declared.declaration.SectionWord.TheVariants as words
use Rattle.data_theory.specs.Terms.{natural}
use Rattle.data_theory.specs.Declarations.{mapping}
use Rattle.sort_table.specs.Expressions.{numeral}
use Rattle.sort_table.specs.BareSorts.{naturals}
use Rattle.sort_table.specs.BareProcesses as bare
use Rattle.sort_table.specs.BareProcesses.{sequence, sum}
use Rattle.sort_table.specs.BareDeclarations.{Section, mappings, actions, process}
use Rattle.sort_checker.specs.FullVocabularies.{FullVocabulary}
use Rattle.sort_checker.specs.Refusals.{IsWellTyped}
use Rattle.sort_checker.specs.WorkedFaults.{with_equation, name, does, x, f_of}

-- map f: Nat -> Nat; act a: Nat; proc P(n: Nat) = sum m: Nat . a(m) . P(f(n)); var x: Nat; eqn f(x) = 0; init P(1);
abbrev pub whole_text : List Section
whole_text =
    record { word = words.Map; declarations = mappings (codes "f" ∷ []) (naturals ∷ []) naturals ∷ [] }
    ∷ record { word = words.Act; declarations = actions (codes "a" ∷ []) (naturals ∷ []) ∷ [] }
    ∷ record {
      word = words.Proc;
      declarations =
          process (codes "P") ((codes "n", naturals) ∷ [])
          (sum ((codes "m", naturals) ∷ []) (sequence (bare.more (does (codes "a") (name (codes "m"))) (bare.more (does (codes "P") (f_of (name (codes "n")))) bare.none))))
          ∷ [];
    }
    ∷ with_equation ((codes "x", naturals) ∷ []) (f_of x) (numeral 0) (does (codes "P") (numeral 1))

abbrev pub its_vocabulary : FullVocabulary
its_vocabulary = record {
  declared = record {
    tables = record { sorts = []; functions = record { arguments = natural ∷ []; result = natural; role = mapping } ∷ [] };
    sort_names = [];
    function_names = (codes "f", 0) ∷ [];
    actions = (codes "a", natural ∷ []) ∷ [];
  };
  processes = (codes "P", (codes "n", natural) ∷ []) ∷ [];
}

abbrev pub TheWholeTextIsWellTyped : Type 0
TheWholeTextIsWellTyped = IsWellTyped its_vocabulary whole_text
