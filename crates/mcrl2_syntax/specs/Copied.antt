-- Which sections are copied.
use Rattle.std.specs.Prelude.{Bool, true, false, List, [], ◌∷◌, ◌&&◌}
use Rattle.mcrl2_syntax.specs.declared.declaration.SectionWord.{SectionWord}
use Rattle.mcrl2_syntax.specs.declared.declaration.SectionWord.TheVariants.{Sort, Cons, Map, Var, Eqn, Act, Proc, Init}
use Rattle.mcrl2_syntax.specs.Declarations.{PlainDecl, PlainSection}

abbrev pub is_some_list : List PlainDecl → Bool
is_some_list [] = false
is_some_list (d ∷ ds) = true

abbrev pub has_declarations : PlainSection → Bool
has_declarations section = is_some_list section.declarations

abbrev pub is_equations : SectionWord → Bool
is_equations Eqn = true
is_equations Sort = false
is_equations Cons = false
is_equations Map = false
is_equations Var = false
is_equations Act = false
is_equations Proc = false
is_equations Init = false

-- the first of the sections is one of equations, and it isn't empty
abbrev pub gives_scope : List PlainSection → Bool
gives_scope [] = false
gives_scope (section ∷ sections) = is_equations section.word && has_declarations section

-- what a word asks, besides some declarations
abbrev pub word_is_copied : SectionWord → List PlainSection → Bool
word_is_copied Sort behind = true
word_is_copied Cons behind = true
word_is_copied Map behind = true
word_is_copied Var behind = gives_scope behind
word_is_copied Eqn behind = true
word_is_copied Act behind = true
word_is_copied Proc behind = false
word_is_copied Init behind = false

-- Whether the first of the sections is copied: variables are where the next section is one of equations that isn't empty.
abbrev pub is_copied : List PlainSection → Bool
is_copied [] = false
is_copied (section ∷ behind) = has_declarations section && word_is_copied section.word behind
