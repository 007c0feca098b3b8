-- Which tokens end a declaration, and which declarations sections hold.
use Rattle.std.specs.Prelude.{Bool, true, false, List, [], ◌∷◌, ◌++◌, flat_map}
use Rattle.mcrl2_lexer.specs.declared.kind.Kind.{Kind}
use Rattle.mcrl2_lexer.specs.declared.kind.Kind.TheVariants.{Semicolon}
use Rattle.mcrl2_lexer.specs.declared.token.Token.{Token}
use Rattle.mcrl2_syntax.specs.declared.declaration.SectionWord.{SectionWord}
use Rattle.mcrl2_syntax.specs.Words.{span_of}
use Rattle.mcrl2_syntax.specs.Declarations.{PlainDecl, PlainSection}

abbrev pub is_semicolon : Kind → Bool
is_semicolon Semicolon = true
is_semicolon _ = false

-- the declarations of all sections, in their order
abbrev pub declarations_in : List PlainSection → List PlainDecl
declarations_in sections = flat_map (λ section. section.declarations) sections

-- the section with one more declaration behind its others
abbrev pub lengthened : PlainSection → PlainDecl → PlainSection
lengthened section tree = record section { declarations = section.declarations ++ tree ∷ [] }

-- the sections, the last of which has one more declaration behind its others
abbrev pub with_last : PlainDecl → List PlainSection → List PlainSection
with_last tree [] = []
with_last tree (section ∷ []) = lengthened section tree ∷ []
with_last tree (section ∷ next ∷ sections) = section ∷ with_last tree (next ∷ sections)

-- the section of a token with these declarations
abbrev pub having : Token → SectionWord → List PlainDecl → PlainSection
having token word trees = record { span = span_of token token; word = word; declarations = trees }
