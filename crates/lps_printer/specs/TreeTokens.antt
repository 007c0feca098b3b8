-- The tokens of the trees that declarations are copied from, in front of others.
use Rattle.std.specs.Prelude.{ℕ, Bool, true, false, List, [], ◌∷◌, Option, Some, None, codes}
use Rattle.mcrl2_lexer.specs.declared.kind.Kind.{Kind}
use Rattle.mcrl2_lexer.specs.declared.kind.Kind.TheVariants as kind_
use Rattle.mcrl2_syntax.specs.declared.data_tree.PrefixSign.{PrefixSign}
use Rattle.mcrl2_syntax.specs.declared.data_tree.InfixSign.{InfixSign}
use Rattle.mcrl2_syntax.specs.Words.{PlainWord}
use Rattle.mcrl2_syntax.specs.SortTrees as sorts
use Rattle.mcrl2_syntax.specs.SortTrees.{PlainSort}
use Rattle.mcrl2_syntax.specs.DataTrees as datas
use Rattle.mcrl2_syntax.specs.DataTrees.{PlainData, PlainDatas, PlainOperands, no_datas, more_datas, no_operands, more_operands}
use Rattle.mcrl2_syntax.specs.ProcessParts.{PlainVarGroup}
use Rattle.mcrl2_syntax.specs.Declarations as trees
use Rattle.mcrl2_syntax.specs.Declarations.{PlainField, PlainConstructor, PlainDecl}
use Rattle.sort_table.specs.BareData.{prefix_text, infix_text}
use Rattle.lps_printer.specs.CopiedTokens.{Copied}
use Rattle.lps_printer.specs.DataLayout.{prefix_kind, infix_kind}

abbrev pub token : Kind → List ℕ → Copied
token kind bytes = record { kind = kind; bytes = bytes }

abbrev pub name_token : PlainWord → Copied
name_token w = token kind_.Identifier w.bytes

abbrev pub comma : Copied
comma = token kind_.Comma (codes ",")

abbrev pub colon : Copied
colon = token kind_.Colon (codes ":")

abbrev pub arrow : Copied
arrow = token kind_.Arrow (codes "->")

abbrev pub equals : Copied
equals = token kind_.Equals (codes "=")

abbrev pub bar : Copied
bar = token kind_.Bar (codes "|")

abbrev pub struct_token : Copied
struct_token = token kind_.Struct (codes "struct")

abbrev pub left_paren : Copied
left_paren = token kind_.LeftParen (codes "(")

abbrev pub right_paren : Copied
right_paren = token kind_.RightParen (codes ")")

abbrev pub left_bracket : Copied
left_bracket = token kind_.LeftBracket (codes "[")

abbrev pub right_bracket : Copied
right_bracket = token kind_.RightBracket (codes "]")

-- a separator, but not in front of the first item
abbrev pub separator_tokens : Bool → Copied → List Copied → List Copied
separator_tokens true separator rest = rest
separator_tokens false separator rest = separator ∷ rest

-- further items, each behind a separator
abbrev pub further_tokens : {A : Type 0} → (A → List Copied → List Copied) → Copied → List A → List Copied → List Copied
further_tokens tokens separator [] rest = rest
further_tokens tokens separator (x ∷ xs) rest = separator ∷ tokens x (further_tokens tokens separator xs rest)

-- items with a separator between them
abbrev pub listed_tokens : {A : Type 0} → (A → List Copied → List Copied) → Copied → List A → List Copied → List Copied
listed_tokens tokens separator [] rest = rest
listed_tokens tokens separator (x ∷ xs) rest = tokens x (further_tokens tokens separator xs rest)

-- ---- sorts
abbrev pub sort_tokens : PlainSort → List Copied → List Copied
sort_tokens (sorts.bool_sort span) rest = token kind_.BoolWord (codes "Bool") ∷ rest
sort_tokens (sorts.pos_sort span) rest = token kind_.PosWord (codes "Pos") ∷ rest
sort_tokens (sorts.nat_sort span) rest = token kind_.NatWord (codes "Nat") ∷ rest
sort_tokens (sorts.int_sort span) rest = token kind_.IntWord (codes "Int") ∷ rest
sort_tokens (sorts.list_sort span s) rest = token kind_.ListWord (codes "List") ∷ left_paren ∷ sort_tokens s (right_paren ∷ rest)
sort_tokens (sorts.named_sort w) rest = name_token w ∷ rest
sort_tokens (sorts.brackets_sort span s) rest = left_paren ∷ sort_tokens s (right_paren ∷ rest)

-- ---- data
abbrev pub prefix_token : PrefixSign → Copied
prefix_token sign = token (prefix_kind sign) (prefix_text sign)

abbrev pub infix_token : InfixSign → Copied
infix_token sign = token (infix_kind sign) (infix_text sign)

abbrev pub conjunction : Copied
conjunction = token kind_.AndAnd (codes "&&")

abbrev pub disjunction : Copied
disjunction = token kind_.BarBar (codes "||")

abbrev mutual
  pub data_tokens : PlainData → List Copied → List Copied
  data_tokens (datas.named w) rest = name_token w ∷ rest
  data_tokens (datas.numeral w) rest = token kind_.Numeral w.bytes ∷ rest
  data_tokens (datas.true_data span) rest = token kind_.TrueWord (codes "true") ∷ rest
  data_tokens (datas.false_data span) rest = token kind_.FalseWord (codes "false") ∷ rest
  data_tokens (datas.listed span ds) rest = left_bracket ∷ datas_tokens comma ds (right_bracket ∷ rest)
  data_tokens (datas.applied span f ds) rest = name_token f ∷ left_paren ∷ datas_tokens comma ds (right_paren ∷ rest)
  data_tokens (datas.brackets span d) rest = left_paren ∷ data_tokens d (right_paren ∷ rest)
  data_tokens (datas.prefix span sign d) rest = prefix_token sign ∷ data_tokens d rest
  data_tokens (datas.binary span sign d e) rest = data_tokens d (infix_token sign ∷ data_tokens e rest)
  data_tokens (datas.sum_chain span d os) rest = data_tokens d (operands_tokens os rest)
  data_tokens (datas.product_chain span d os) rest = data_tokens d (operands_tokens os rest)
  data_tokens (datas.and_chain span ds) rest = datas_tokens conjunction ds rest
  data_tokens (datas.or_chain span ds) rest = datas_tokens disjunction ds rest

  -- expressions with a separator between them
  pub datas_tokens : Copied → PlainDatas → List Copied → List Copied
  datas_tokens separator no_datas rest = rest
  datas_tokens separator (more_datas d ds) rest = data_tokens d (further_datas_tokens separator ds rest)

  pub further_datas_tokens : Copied → PlainDatas → List Copied → List Copied
  further_datas_tokens separator no_datas rest = rest
  further_datas_tokens separator (more_datas d ds) rest = separator ∷ data_tokens d (further_datas_tokens separator ds rest)

  -- further operands, each behind its sign
  pub operands_tokens : PlainOperands → List Copied → List Copied
  operands_tokens no_operands rest = rest
  operands_tokens (more_operands sign d os) rest = infix_token sign ∷ data_tokens d (operands_tokens os rest)

-- ---- declarations
-- `a, b`
abbrev pub names_tokens : List PlainWord → List Copied → List Copied
names_tokens ws rest = listed_tokens (λ w r. name_token w ∷ r) comma ws rest

-- `S # T`
abbrev pub domain_tokens : List PlainSort → List Copied → List Copied
domain_tokens ss rest = listed_tokens (λ s r. sort_tokens s r) (token kind_.Hash (codes "#")) ss rest

-- `p: S`, or `S` where there is no name
abbrev pub field_name_tokens : Option PlainWord → List Copied → List Copied
field_name_tokens None rest = rest
field_name_tokens (Some w) rest = name_token w ∷ colon ∷ rest

abbrev pub field_tokens : PlainField → List Copied → List Copied
field_tokens f rest = field_name_tokens f.name (sort_tokens f.sort rest)

abbrev pub fields_tokens : List PlainField → List Copied → List Copied
fields_tokens [] rest = rest
fields_tokens (f ∷ fs) rest = left_paren ∷ listed_tokens field_tokens comma (f ∷ fs) (right_paren ∷ rest)

abbrev pub recogniser_tokens : Option PlainWord → List Copied → List Copied
recogniser_tokens None rest = rest
recogniser_tokens (Some w) rest = token kind_.Question (codes "?") ∷ name_token w ∷ rest

-- `c(p: S)?r`
abbrev pub constructor_tokens : PlainConstructor → List Copied → List Copied
constructor_tokens c rest = name_token c.name ∷ fields_tokens c.fields (recogniser_tokens c.recogniser rest)

-- `x, y: S`
abbrev pub group_tokens : PlainVarGroup → List Copied → List Copied
group_tokens g rest = names_tokens g.names (colon ∷ sort_tokens g.sort rest)

-- `S # T ->`, or nothing where the domain is empty
abbrev pub arguments_tokens : List PlainSort → List Copied → List Copied
arguments_tokens [] rest = rest
arguments_tokens (s ∷ ss) rest = domain_tokens (s ∷ ss) (arrow ∷ rest)

-- `f, g: S # T -> U`
abbrev pub signature_tokens : List PlainWord → List PlainSort → PlainSort → List Copied → List Copied
signature_tokens ws ss to rest = names_tokens ws (colon ∷ arguments_tokens ss (sort_tokens to rest))

abbrev pub condition_tokens : Option PlainData → List Copied → List Copied
condition_tokens None rest = rest
condition_tokens (Some d) rest = data_tokens d (arrow ∷ rest)

-- `: S # T`, or nothing where the domain is empty
abbrev pub action_sorts_tokens : List PlainSort → List Copied → List Copied
action_sorts_tokens [] rest = rest
action_sorts_tokens (s ∷ ss) rest = colon ∷ domain_tokens (s ∷ ss) rest

-- a declaration without its semicolon; those of processes aren't copied
abbrev pub declaration_tokens : PlainDecl → List Copied → List Copied
declaration_tokens (trees.sorts_decl span ws) rest = names_tokens ws rest
declaration_tokens (trees.alias_decl span w s) rest = name_token w ∷ equals ∷ sort_tokens s rest
declaration_tokens (trees.struct_decl span w cs) rest = name_token w ∷ equals ∷ struct_token ∷ listed_tokens constructor_tokens bar cs rest
declaration_tokens (trees.cons_decl span ws ss to) rest = signature_tokens ws ss to rest
declaration_tokens (trees.map_decl span ws ss to) rest = signature_tokens ws ss to rest
declaration_tokens (trees.vars_decl span gs) rest = listed_tokens group_tokens comma gs rest
declaration_tokens (trees.equation_decl span c l r) rest = condition_tokens c (data_tokens l (equals ∷ data_tokens r rest))
declaration_tokens (trees.act_decl span ws ss) rest = names_tokens ws (action_sorts_tokens ss rest)
declaration_tokens (trees.proc_decl span w gs p) rest = rest
declaration_tokens (trees.init_decl span p) rest = rest
