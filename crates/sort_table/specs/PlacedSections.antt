-- Declarations that stand in sections of their own words.
use Rattle.std.specs.Prelude.{◌≡◌, ℕ, List}
use Rattle.std.specs.List.{AllByRecursion}
use Rattle.mcrl2_lexer.specs.declared.token.Token.{Token}
use Rattle.mcrl2_syntax.specs.declared.declaration.SectionWord.{SectionWord}
use Rattle.mcrl2_syntax.specs.declared.declaration.SectionWord.TheVariants.{Sort, Cons, Map, Var, Eqn, Act, Proc, Init}
use Rattle.mcrl2_syntax.specs.Declarations as trees
use Rattle.mcrl2_syntax.specs.Declarations.{PlainDecl, PlainSection, PlainSpec}
use Rattle.mcrl2_syntax.specs.SpelledDeclarations.{SpellsSpec}

-- the word of the sections in which a declaration stands
abbrev pub word_of_declaration : PlainDecl → SectionWord
word_of_declaration (trees.sorts_decl span ns) = Sort
word_of_declaration (trees.alias_decl span n s) = Sort
word_of_declaration (trees.struct_decl span n cs) = Sort
word_of_declaration (trees.cons_decl span ns ss to) = Cons
word_of_declaration (trees.map_decl span ns ss to) = Map
word_of_declaration (trees.vars_decl span gs) = Var
word_of_declaration (trees.equation_decl span c l r) = Eqn
word_of_declaration (trees.act_decl span ns ss) = Act
word_of_declaration (trees.proc_decl span p gs body) = Proc
word_of_declaration (trees.init_decl span body) = Init

abbrev pub IsPlacedSection : PlainSection → Type 0
IsPlacedSection s = AllByRecursion (λ (d : PlainDecl). word_of_declaration d ≡ s.word) s.declarations

-- each declaration stands in a section of its word
abbrev pub IsPlaced : PlainSpec → Type 0
IsPlaced spec = AllByRecursion IsPlacedSection spec.sections

-- so do those of a specification that tokens spell
abbrev pub SpelledSpecsArePlaced : Type 0
SpelledSpecsArePlaced = (text : List ℕ) (spec : PlainSpec) (tokens : List Token) → SpellsSpec text spec tokens → IsPlaced spec
