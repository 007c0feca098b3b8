-- Which tokens spell which declaration, and which tokens spell a specification.
use Rattle.std.specs.Prelude.{◌≡◌, ℕ, List, [], ◌∷◌, ◌++◌, Option, Some, None, All}
use Rattle.mcrl2_lexer.specs.declared.kind.Kind.{Kind}
use Rattle.mcrl2_lexer.specs.declared.kind.Kind.TheVariants as kind_
use Rattle.mcrl2_lexer.specs.declared.token.Token.{Token}
use Rattle.mcrl2_syntax.specs.declared.word.Span.{Span}
use Rattle.mcrl2_syntax.specs.declared.declaration.SectionWord.{SectionWord}
use Rattle.mcrl2_syntax.specs.declared.declaration.SectionWord.TheVariants.{Sort, Cons, Map, Var, Eqn, Act, Proc, Init}
use Rattle.mcrl2_syntax.specs.Words.{PlainWord, span_of, joined, spanned, word_span}
use Rattle.mcrl2_syntax.specs.SortTrees.{PlainSort, sort_span}
use Rattle.mcrl2_syntax.specs.DataTrees.{PlainData, data_span}
use Rattle.mcrl2_syntax.specs.ProcessParts.{PlainVarGroup}
use Rattle.mcrl2_syntax.specs.ProcessTrees.{PlainProcess, process_span}
use Rattle.mcrl2_syntax.specs.Declarations.{PlainField, PlainConstructor, PlainDecl, sorts_decl, alias_decl, struct_decl, cons_decl, map_decl, vars_decl, equation_decl, act_decl, proc_decl, init_decl, PlainSection, PlainSpec}
use Rattle.mcrl2_syntax.specs.SpelledWords.{token_word, SpellsName, SpellsList}
use Rattle.mcrl2_syntax.specs.SpelledSorts.{SpellsSort}
use Rattle.mcrl2_syntax.specs.SpelledData.{SpellsData}
use Rattle.mcrl2_syntax.specs.SpelledLabels.{SpellsVars}
use Rattle.mcrl2_syntax.specs.SpelledProcesses.{SpellsProcess}

-- `a, b`
abbrev pub SpellsNames : List ℕ → List PlainWord → List Token → List Token → Type 0
SpellsNames text = SpellsList (SpellsName text) kind_.Comma

-- `S # T`
abbrev pub SpellsDomain : List ℕ → List PlainSort → List Token → List Token → Type 0
SpellsDomain text = SpellsList (SpellsSort text) kind_.Hash

abbrev pub bare_field : PlainSort → PlainField
bare_field sort = record { span = sort_span sort; name = None; sort = sort }

abbrev pub named_field : PlainWord → PlainSort → PlainField
named_field name sort = record { span = joined name.span (sort_span sort); name = Some name; sort = sort }

-- an argument of a constructor: `S` or `p: S`
pub data SpellsField (text : List ℕ) : PlainField → List Token → List Token → Type 0 where
  field_bare : {s : PlainSort} {ts r : List Token} → SpellsSort text s ts r → SpellsField text (bare_field s) ts r
  field_named : {t c : Token} {s : PlainSort} {ts r : List Token} → t.kind ≡ kind_.Identifier → c.kind ≡ kind_.Colon → SpellsSort text s ts r
      → SpellsField text (named_field (token_word text t) s) (t ∷ c ∷ ts) r

-- The arguments of a constructor, or none. The tokens are the last one before them and the last one of them.
pub data SpellsFields (text : List ℕ) : Token → List PlainField → Token → List Token → List Token → Type 0 where
  no_fields : {t : Token} {r : List Token} → SpellsFields text t [] t r r
  some_fields : {t u v : Token} {fields : List PlainField} {ts r : List Token} → u.kind ≡ kind_.LeftParen → SpellsList (SpellsField text) kind_.Comma fields ts (v ∷ r)
      → v.kind ≡ kind_.RightParen → SpellsFields text t fields v (u ∷ ts) r

-- `?r`, or nothing
pub data SpellsRecogniser (text : List ℕ) : Token → Option PlainWord → Token → List Token → List Token → Type 0 where
  no_recogniser : {t : Token} {r : List Token} → SpellsRecogniser text t None t r r
  a_recogniser : {t q v : Token} {r : List Token} → q.kind ≡ kind_.Question → v.kind ≡ kind_.Identifier → SpellsRecogniser text t (Some (token_word text v)) v (q ∷ v ∷ r) r

abbrev pub constructor_from : List ℕ → Token → List PlainField → Option PlainWord → Token → PlainConstructor
constructor_from text first fields recogniser last = record { span = span_of first last; name = token_word text first; fields = fields; recogniser = recogniser }

-- `c(p: S)?r`
pub data SpellsConstructor (text : List ℕ) : PlainConstructor → List Token → List Token → Type 0 where
  a_constructor : {t u v : Token} {fields : List PlainField} {recogniser : Option PlainWord} {ts us r : List Token} → t.kind ≡ kind_.Identifier → SpellsFields text t fields u ts us
      → SpellsRecogniser text u recogniser v us r → SpellsConstructor text (constructor_from text t fields recogniser v) (t ∷ ts) r

abbrev pub constructor_span : PlainConstructor → Span
constructor_span c = c.span

abbrev pub group_span : PlainVarGroup → Span
group_span g = g.span

-- `f, g: S # T -> U`, and `c, d: U` with an empty domain
pub data SpellsSignature (text : List ℕ) : List PlainWord → List PlainSort → PlainSort → List Token → Type 0 where
  of_constants : {names : List PlainWord} {sort : PlainSort} {c : Token} {ts us : List Token} → SpellsNames text names ts (c ∷ us) → c.kind ≡ kind_.Colon → SpellsSort text sort us []
      → SpellsSignature text names [] sort ts
  of_functions : {names : List PlainWord} {domain : List PlainSort} {sort : PlainSort} {c a : Token} {ts us vs : List Token} → SpellsNames text names ts (c ∷ us) → c.kind ≡ kind_.Colon
      → SpellsDomain text domain us (a ∷ vs) → a.kind ≡ kind_.Arrow → SpellsSort text sort vs [] → SpellsSignature text names domain sort ts

abbrev pub signature_span : List PlainWord → PlainSort → Span
signature_span names sort = joined (spanned word_span names) (sort_span sort)

abbrev pub alias_from : PlainWord → PlainSort → PlainDecl
alias_from name sort = alias_decl (joined name.span (sort_span sort)) name sort

abbrev pub struct_from : PlainWord → List PlainConstructor → PlainDecl
struct_from name constructors = struct_decl (joined name.span (spanned constructor_span constructors)) name constructors

abbrev pub equation_from : PlainData → PlainData → PlainDecl
equation_from left right = equation_decl (joined (data_span left) (data_span right)) None left right

abbrev pub equation_where : PlainData → PlainData → PlainData → PlainDecl
equation_where condition left right = equation_decl (joined (data_span condition) (data_span right)) (Some condition) left right

abbrev pub act_over : List PlainWord → List PlainSort → PlainDecl
act_over names domain = act_decl (joined (spanned word_span names) (spanned sort_span domain)) names domain

abbrev pub proc_from : PlainWord → List PlainVarGroup → PlainProcess → PlainDecl
proc_from name parameters body = proc_decl (joined name.span (process_span body)) name parameters body

-- In a section, the tokens of a declaration without its semicolon spell the declaration.
pub data SpellsDecl (text : List ℕ) : SectionWord → PlainDecl → List Token → Type 0 where
  decl_sorts : {names : List PlainWord} {ts : List Token} → SpellsNames text names ts [] → SpellsDecl text Sort (sorts_decl (spanned word_span names) names) ts
  decl_alias : {t e : Token} {sort : PlainSort} {ts : List Token} → t.kind ≡ kind_.Identifier → e.kind ≡ kind_.Equals → SpellsSort text sort ts []
      → SpellsDecl text Sort (alias_from (token_word text t) sort) (t ∷ e ∷ ts)
  decl_struct : {t e w : Token} {constructors : List PlainConstructor} {ts : List Token} → t.kind ≡ kind_.Identifier → e.kind ≡ kind_.Equals → w.kind ≡ kind_.Struct
      → SpellsList (SpellsConstructor text) kind_.Bar constructors ts [] → SpellsDecl text Sort (struct_from (token_word text t) constructors) (t ∷ e ∷ w ∷ ts)
  decl_cons : {names : List PlainWord} {domain : List PlainSort} {sort : PlainSort} {ts : List Token} → SpellsSignature text names domain sort ts
      → SpellsDecl text Cons (cons_decl (signature_span names sort) names domain sort) ts
  decl_map : {names : List PlainWord} {domain : List PlainSort} {sort : PlainSort} {ts : List Token} → SpellsSignature text names domain sort ts
      → SpellsDecl text Map (map_decl (signature_span names sort) names domain sort) ts
  decl_vars : {groups : List PlainVarGroup} {ts : List Token} → SpellsVars text groups ts [] → SpellsDecl text Var (vars_decl (spanned group_span groups) groups) ts
  decl_equation : {left right : PlainData} {e : Token} {ts us : List Token} → SpellsData text left ts (e ∷ us) → e.kind ≡ kind_.Equals → SpellsData text right us []
      → SpellsDecl text Eqn (equation_from left right) ts
  decl_conditional : {condition left right : PlainData} {a e : Token} {ts us vs : List Token} → SpellsData text condition ts (a ∷ us) → a.kind ≡ kind_.Arrow
      → SpellsData text left us (e ∷ vs) → e.kind ≡ kind_.Equals → SpellsData text right vs [] → SpellsDecl text Eqn (equation_where condition left right) ts
  decl_acts : {names : List PlainWord} {ts : List Token} → SpellsNames text names ts [] → SpellsDecl text Act (act_decl (spanned word_span names) names []) ts
  decl_acts_over : {names : List PlainWord} {domain : List PlainSort} {c : Token} {ts us : List Token} → SpellsNames text names ts (c ∷ us) → c.kind ≡ kind_.Colon
      → SpellsDomain text domain us [] → SpellsDecl text Act (act_over names domain) ts
  decl_proc : {t e : Token} {body : PlainProcess} {ts : List Token} → t.kind ≡ kind_.Identifier → e.kind ≡ kind_.Equals → SpellsProcess text body ts []
      → SpellsDecl text Proc (proc_from (token_word text t) [] body) (t ∷ e ∷ ts)
  decl_proc_over : {t u v e : Token} {parameters : List PlainVarGroup} {body : PlainProcess} {ts us : List Token} → t.kind ≡ kind_.Identifier → u.kind ≡ kind_.LeftParen
      → SpellsVars text parameters ts (v ∷ e ∷ us) → v.kind ≡ kind_.RightParen → e.kind ≡ kind_.Equals → SpellsProcess text body us []
      → SpellsDecl text Proc (proc_from (token_word text t) parameters body) (t ∷ u ∷ ts)
  decl_init : {body : PlainProcess} {ts : List Token} → SpellsProcess text body ts [] → SpellsDecl text Init (init_decl (process_span body) body) ts

-- which section a word begins
abbrev pub section_word : Kind → Option SectionWord
section_word kind_.Sort = Some Sort
section_word kind_.Cons = Some Cons
section_word kind_.Map = Some Map
section_word kind_.Var = Some Var
section_word kind_.Eqn = Some Eqn
section_word kind_.Act = Some Act
section_word kind_.Proc = Some Proc
section_word kind_.Init = Some Init
section_word _ = None

-- the token ends no declaration: it is neither a semicolon nor the word of a section
pub record IsInside (t : Token) : Type 0 where
  pub no_semicolon : t.kind ≡ kind_.Semicolon → ⊥
  pub no_section : section_word t.kind ≡ None

-- a front of the tokens is a declaration without its end, and the rest stands behind its semicolon
pub record CutsOff (front ts r : List Token) : Type 0 where
  pub sign : Token
  pub is : ts ≡ front ++ sign ∷ r
  pub semicolon : sign.kind ≡ kind_.Semicolon
  pub inside : All IsInside front

-- the declarations of a section, each with its semicolon
pub data SpellsDecls (text : List ℕ) (word : SectionWord) : List PlainDecl → List Token → List Token → Type 0 where
  no_decls : {r : List Token} → SpellsDecls text word [] r r
  more_decls : {d : PlainDecl} {ds : List PlainDecl} {front ts us r : List Token} → CutsOff front ts us → SpellsDecl text word d front → SpellsDecls text word ds us r
      → SpellsDecls text word (d ∷ ds) ts r

-- the sections, each with its word
pub data SpellsSections (text : List ℕ) : List PlainSection → List Token → Type 0 where
  no_sections : SpellsSections text [] []
  more_sections : {t : Token} {word : SectionWord} {ds : List PlainDecl} {sections : List PlainSection} {ts r : List Token} → section_word t.kind ≡ Some word
      → SpellsDecls text word ds ts r → SpellsSections text sections r
      → SpellsSections text (record { span = span_of t t; word = word; declarations = ds } ∷ sections) (t ∷ ts)

-- All the tokens of a text spell the specification.
pub record SpellsSpec (text : List ℕ) (spec : PlainSpec) (tokens : List Token) : Type 0 where
  pub all_sections : SpellsSections text spec.sections tokens

-- the tokens spell no two declarations of a section
abbrev pub DeclarationsAreSingle : Type 0
DeclarationsAreSingle = (text : List ℕ) (word : SectionWord) (one other : PlainDecl) (tokens : List Token) → SpellsDecl text word one tokens → SpellsDecl text word other tokens → one ≡ other

-- the tokens spell no two specifications
abbrev pub SpecificationsAreSingle : Type 0
SpecificationsAreSingle = (text : List ℕ) (one other : PlainSpec) (tokens : List Token) → SpellsSpec text one tokens → SpellsSpec text other tokens → one ≡ other
