-- Texts whose tokens say the same spell the same data expressions and declarations.
use Rattle.std.specs.Prelude.{◌≡◌, ℕ, Bool, true, false, List, [], ◌∷◌}
use Rattle.mcrl2_syntax.specs.declared.declaration.SectionWord.{SectionWord}
use Rattle.mcrl2_syntax.specs.declared.declaration.SectionWord.TheVariants as sections
use Rattle.mcrl2_syntax.specs.Declarations.{PlainDecl}
use Rattle.mcrl2_syntax.specs.SpelledDeclarations.{SpellsDecl}
use Rattle.sort_table.specs.BareDeclarations.{Declaration, bare_declaration}
use Rattle.mcrl2_lexer.specs.declared.token.Token.{Token}
use Rattle.mcrl2_lexer.specs.Tokens.{slice_of}
use Rattle.mcrl2_syntax.specs.DataTrees.{PlainData}
use Rattle.mcrl2_syntax.specs.SpelledData.{SpellsData}
use Rattle.sort_table.specs.BareData.{bare_data}

-- the tokens of two texts say the same
pub data Alike (text other : List ℕ) : List Token → List Token → Type 0 where
  alike_none : Alike text other [] []
  alike_more : {t u : Token} {ts us : List Token} → t.kind ≡ u.kind → slice_of text t ≡ slice_of other u → Alike text other ts us → Alike text other (t ∷ ts) (u ∷ us)

pub record SpellsCopy (other : List ℕ) (us : List Token) (d : PlainData) : Type 0 where
  pub tree : PlainData
  pub spells : SpellsData other tree us []
  pub is : bare_data tree ≡ bare_data d

abbrev pub CopiesSpellTheSame : Type 0
CopiesSpellTheSame = (text other : List ℕ) (ts us : List Token) (d : PlainData) → SpellsData text d ts [] → Alike text other ts us → SpellsCopy other us d

-- ---- declarations
-- the word begins sections that are copied
abbrev pub declares_data : SectionWord → Bool
declares_data sections.Sort = true
declares_data sections.Cons = true
declares_data sections.Map = true
declares_data sections.Var = true
declares_data sections.Eqn = true
declares_data sections.Act = true
declares_data sections.Proc = false
declares_data sections.Init = false

pub record SpellsDeclarationCopy (other : List ℕ) (word : SectionWord) (us : List Token) (d : Declaration) : Type 0 where
  pub tree : PlainDecl
  pub spells : SpellsDecl other word tree us
  pub is : bare_declaration tree ≡ d

abbrev pub DeclarationCopiesSpellTheSame : Type 0
DeclarationCopiesSpellTheSame =
    (text other : List ℕ) (word : SectionWord) (ts us : List Token) (d : PlainDecl) → declares_data word ≡ true → SpellsDecl text word d ts → Alike text other ts us → SpellsDeclarationCopy other word us (bare_declaration d)
