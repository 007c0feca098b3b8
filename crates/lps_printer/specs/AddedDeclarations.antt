-- The declarations of a signature that a text doesn't make, and their layout.
use Rattle.std.specs.Prelude.{ℕ, Bool, cond, nat_eq, List, [], ◌∷◌, ◌++◌, length, map, drop, Option, Some, None, get_or, codes, not, ◌&&◌}
use Rattle.std.specs.List.{flat_map, list_any}
use Rattle.mcrl2_lexer.specs.declared.kind.Kind.TheVariants as kind_
use Rattle.mcrl2_syntax.specs.Words.{PlainWord}
use Rattle.mcrl2_syntax.specs.Declarations as trees
use Rattle.mcrl2_syntax.specs.Declarations.{PlainField, PlainConstructor, PlainDecl, PlainSection, PlainSpec}
use Rattle.mcrl2_syntax.specs.declared.declaration.SectionWord.{SectionWord}
use Rattle.mcrl2_syntax.specs.declared.declaration.SectionWord.TheVariants as sections
use Rattle.data_theory.specs.declared.ids.NameId.{NameId}
use Rattle.data_theory.specs.declared.ids.SortId.{SortId}
use Rattle.data_theory.specs.declared.ids.FunId.{FunId}
use Rattle.data_theory.specs.Sorts as kinds
use Rattle.data_theory.specs.Functions.{Function, arguments_of, declared_function}
use Rattle.data_theory.specs.Keys.{Key}
use Rattle.data_theory.specs.Table.{bool_sort}
use Rattle.data_theory.specs.Signature.{Sig}
use Rattle.data_theory.specs.IdTerms.{sort_under}
use Rattle.sort_table.specs.Expressions.{Name, word, listed, none}
use Rattle.sort_table.specs.BareSorts.{SortExpression}
use Rattle.sort_table.specs.SignatureVocabularies.{text_under}
use Rattle.sort_table.specs.BareDeclarations.{Field, Constructor, Declaration, struct, mappings, equation, actions, Section}
use Rattle.lps_printer.specs.declared.added_sections.Line.{Line}
use Rattle.lps_printer.specs.declared.added_sections.Line.TheVariants as lines
use Rattle.lps_printer.specs.Pieces.{Piece}
use Rattle.lps_printer.specs.DataLayout.{piece, space}
use Rattle.lps_printer.specs.PrintedProcesses.{Variable}
use Rattle.lps_printer.specs.SummandLayout.{print_sort, print_variable}
use Rattle.lps_printer.specs.CopiedSections.{further_line}
use Rattle.lps_printer.specs.TextSections.{PrintedSection}
use Rattle.lps_printer.specs.WrittenProcesses.{TextNames, sort_written}
use Rattle.lps_printer.specs.TextWordings.{sort_place}

-- ---- which functions a text doesn't declare: those behind as many as it declares
abbrev pub behind_name : Option PlainWord → List FunId → List FunId
behind_name None fs = fs
behind_name (Some w) fs = drop 1 fs

-- behind those of one after the other
abbrev pub behind_all : {A B : Type 0} → (A → List B → List B) → List A → List B → List B
behind_all behind [] ys = ys
behind_all behind (x ∷ xs) ys = behind_all behind xs (behind x ys)

abbrev pub behind_field : PlainField → List FunId → List FunId
behind_field f fs = behind_name f.name fs

abbrev pub behind_constructor : PlainConstructor → List FunId → List FunId
behind_constructor c fs = behind_name c.recogniser (behind_all behind_field c.fields (drop 1 fs))

abbrev pub behind_declaration : PlainDecl → List FunId → List FunId
behind_declaration (trees.sorts_decl span ws) fs = fs
behind_declaration (trees.alias_decl span w s) fs = fs
behind_declaration (trees.struct_decl span w cs) fs = behind_all behind_constructor cs fs
behind_declaration (trees.cons_decl span ws ss to) fs = drop (length ws) fs
behind_declaration (trees.map_decl span ws ss to) fs = drop (length ws) fs
behind_declaration (trees.vars_decl span gs) fs = fs
behind_declaration (trees.equation_decl span c l r) fs = fs
behind_declaration (trees.act_decl span ws ss) fs = fs
behind_declaration (trees.proc_decl span w gs p) fs = fs
behind_declaration (trees.init_decl span p) fs = fs

abbrev pub behind_section : PlainSection → List FunId → List FunId
behind_section s fs = behind_all behind_declaration s.declarations fs

abbrev pub added_functions : PlainSpec → Sig → List FunId
added_functions spec g = behind_all behind_section spec.sections g.declared

-- ---- which actions it doesn't declare: those behind as many as it declares, of which the names are printed
abbrev pub behind_acts : {A : Type 0} → PlainDecl → List A → List A
behind_acts (trees.act_decl span ws ss) xs = drop (length ws) xs
behind_acts _ xs = xs

abbrev pub behind_acts_of : {A : Type 0} → PlainSection → List A → List A
behind_acts_of s xs = behind_all behind_acts s.declarations xs

abbrev pub added_actions_of : PlainSpec → Sig → List NameId
added_actions_of spec g = map (λ (a : Key). a.name) (behind_all behind_acts_of spec.sections g.actions)

-- ---- what they are
abbrev pub no_function : Function
no_function = declared_function (record { 0 = 0 }) [] bool_sort

abbrev pub function_at : Sig → FunId → Function
function_at g f = get_or g.functions f.0 no_function

abbrev pub name_at : Sig → FunId → Name
name_at g f = get_or g.texts (function_at g f).name.0 []

abbrev pub kind_at : Sig → SortId → kinds.Kind
kind_at g s = (get_or g.sorts s.0 (record { kind = kinds.booleans; name = None })).kind

abbrev pub constructors_in : kinds.Kind → List FunId
constructors_in (kinds.structured cs) = cs
constructors_in _ = []

-- the constructors of the sort of which the function is the first one
abbrev pub begun_by : FunId → List FunId → List FunId
begun_by f [] = []
begun_by f (c ∷ cs) = cond (nat_eq c.0 f.0) (c ∷ cs) []

abbrev pub struct_begun : Sig → FunId → List FunId
struct_begun g f = begun_by f (constructors_in (kind_at g (function_at g f).result))

-- it takes nothing, and is no constructor of a struct
abbrev pub is_constant : Sig → FunId → Bool
is_constant g f = nat_eq (length (arguments_of (function_at g f))) 0 && not (list_any (λ (c : FunId). nat_eq c.0 f.0) (constructors_in (kind_at g (function_at g f).result)))

abbrev pub constants_among : Sig → List FunId → List FunId
constants_among g [] = []
constants_among g (f ∷ fs) = cond (is_constant g f) (f ∷ constants_among g fs) (constants_among g fs)

-- ---- structs
abbrev pub some_name : Sig → Option FunId → Option Name
some_name g None = None
some_name g (Some f) = Some (name_at g f)

abbrev pub field_with : Sig → TextNames → Option FunId → SortId → Field
field_with g n p s = record { name = some_name g p; sort = sort_written n (sort_under g s) }

-- the fields of these sorts, with their projections
abbrev pub fields_with : Sig → TextNames → List (Option FunId) → List SortId → List Field
fields_with g n ps [] = []
fields_with g n ps (s ∷ ss) = field_with g n (get_or ps 0 None) s ∷ fields_with g n (drop 1 ps) ss

abbrev pub constructor_with : Sig → TextNames → FunId → Constructor
constructor_with g n c = record { name = name_at g c; fields = fields_with g n (function_at g c).projections (arguments_of (function_at g c)); recogniser = some_name g (function_at g c).test }

-- ---- their layout
-- `p: S`, or `S` where it has no name
abbrev pub print_named : Option Name → SortExpression → List ℕ → List Piece → List Piece
print_named None s gap rest = print_sort s gap rest
print_named (Some x) s gap rest = print_variable (record { name = x; sort = s }) gap rest

abbrev pub print_field : Field → List ℕ → List Piece → List Piece
print_field f gap rest = print_named f.name f.sort gap rest

abbrev pub print_further_fields : List Field → List Piece → List Piece
print_further_fields [] rest = rest
print_further_fields (f ∷ fs) rest = piece [] kind_.Comma (codes ",") ∷ print_field f space (print_further_fields fs rest)

abbrev pub print_fields : List Field → List Piece → List Piece
print_fields [] rest = rest
print_fields (f ∷ fs) rest = piece [] kind_.LeftParen (codes "(") ∷ print_field f [] (print_further_fields fs (piece [] kind_.RightParen (codes ")") ∷ rest))

abbrev pub print_recogniser : Option Name → List Piece → List Piece
print_recogniser None rest = rest
print_recogniser (Some x) rest = piece [] kind_.Question (codes "?") ∷ piece [] kind_.Identifier x ∷ rest

-- `c(p: S)?r`
abbrev pub print_constructor : Constructor → List Piece → List Piece
print_constructor c rest = piece space kind_.Identifier c.name ∷ print_fields c.fields (print_recogniser c.recogniser rest)

abbrev pub print_further_constructors : List Constructor → List Piece → List Piece
print_further_constructors [] rest = rest
print_further_constructors (c ∷ cs) rest = piece space kind_.Bar (codes "|") ∷ print_constructor c (print_further_constructors cs rest)

abbrev pub print_constructors : List Constructor → List Piece → List Piece
print_constructors [] rest = rest
print_constructors (c ∷ cs) rest = print_constructor c (print_further_constructors cs rest)

-- `S = struct c | d`
abbrev pub print_struct : Name → List Constructor → List Piece → List Piece
print_struct x cs rest = piece space kind_.Identifier x ∷ piece space kind_.Equals (codes "=") ∷ piece space kind_.Struct (codes "struct") ∷ print_constructors cs rest

-- `n = []`
abbrev pub print_equation : Name → List ℕ → List Piece → List Piece
print_equation x gap rest = piece gap kind_.Identifier x ∷ piece space kind_.Equals (codes "=") ∷ piece space kind_.LeftBracket (codes "[") ∷ piece [] kind_.RightBracket (codes "]") ∷ rest

-- ---- the added sections
abbrev pub struct_section : Sig → TextNames → SortId → List FunId → List PrintedSection
struct_section g n s [] = []
struct_section g n s (c ∷ cs) = record { word = sections.Sort; declarations = print_struct (n.sort (sort_place g s)) (map (constructor_with g n) (c ∷ cs)) [] ∷ [] } ∷ []

-- the struct of which a function is the first constructor
abbrev pub struct_sections : Sig → TextNames → FunId → List PrintedSection
struct_sections g n f = struct_section g n (function_at g f).result (struct_begun g f)

abbrev pub constant_with : Sig → TextNames → FunId → Variable
constant_with g n f = record { name = name_at g f; sort = sort_written n (sort_under g (function_at g f).result) }

-- what is said of a constant: its sort, or that it is the empty list
abbrev pub print_line : Sig → TextNames → Line → FunId → List ℕ → List Piece → List Piece
print_line g n lines.Constant f gap rest = print_variable (constant_with g n f) gap rest
print_line g n lines.EmptyList f gap rest = print_equation (name_at g f) gap rest

abbrev pub line_word : Line → SectionWord
line_word lines.Constant = sections.Map
line_word lines.EmptyList = sections.Eqn

-- the first one stands on the line of the word, each further one on a line of its own
abbrev pub lines_with : {A : Type 0} → (A → List ℕ → List Piece → List Piece) → List ℕ → List A → List (List Piece)
lines_with print gap [] = []
lines_with print gap (x ∷ xs) = print x gap [] ∷ lines_with print further_line xs

-- no section where there are none
abbrev pub sections_with : {A : Type 0} → SectionWord → (A → List ℕ → List Piece → List Piece) → List A → List PrintedSection
sections_with w print [] = []
sections_with w print (x ∷ xs) = record { word = w; declarations = lines_with print space (x ∷ xs) } ∷ []

abbrev pub line_sections : Sig → TextNames → Line → List FunId → List PrintedSection
line_sections g n line fs = sections_with (line_word line) (print_line g n line) fs

-- the name of an action
abbrev pub print_name : Sig → NameId → List ℕ → List Piece → List Piece
print_name g a gap rest = piece gap kind_.Identifier (text_under g a) ∷ rest

abbrev pub action_sections : Sig → List NameId → List PrintedSection
action_sections g as_ = sections_with sections.Act (print_name g) as_

-- actions, structs, constants, and equations of those for empty lists
abbrev pub added_sections : PlainSpec → Sig → TextNames → List FunId → List PrintedSection
added_sections spec g n empty_lists =
    action_sections g (added_actions_of spec g)
    ++ (flat_map (struct_sections g n) (added_functions spec g) ++ (line_sections g n lines.Constant (constants_among g (added_functions spec g)) ++ line_sections g n lines.EmptyList empty_lists))

-- ---- what the added sections declare
abbrev pub struct_declared : Sig → TextNames → SortId → List FunId → List Section
struct_declared g n s [] = []
struct_declared g n s (c ∷ cs) = record { word = sections.Sort; declarations = struct (n.sort (sort_place g s)) (map (constructor_with g n) (c ∷ cs)) ∷ [] } ∷ []

abbrev pub structs_declared : Sig → TextNames → FunId → List Section
structs_declared g n f = struct_declared g n (function_at g f).result (struct_begun g f)

-- `c: S`
abbrev pub constant_declared : Variable → Declaration
constant_declared v = mappings (v.name ∷ []) [] v.sort

-- `n = []`
abbrev pub empty_list_declared : Name → Declaration
empty_list_declared x = equation None (word x none) (listed none)

abbrev pub line_declared : Sig → TextNames → Line → FunId → Declaration
line_declared g n lines.Constant f = constant_declared (constant_with g n f)
line_declared g n lines.EmptyList f = empty_list_declared (name_at g f)

-- no section where there are none
abbrev pub declared_with : {A : Type 0} → SectionWord → (A → Declaration) → List A → List Section
declared_with w declared [] = []
declared_with w declared (x ∷ xs) = record { word = w; declarations = map declared (x ∷ xs) } ∷ []

abbrev pub lines_declared : Sig → TextNames → Line → List FunId → List Section
lines_declared g n line fs = declared_with (line_word line) (line_declared g n line) fs

-- an action without arguments
abbrev pub action_declared : Sig → NameId → Declaration
action_declared g a = actions (text_under g a ∷ []) []

abbrev pub actions_declared : Sig → List NameId → List Section
actions_declared g as_ = declared_with sections.Act (action_declared g) as_

abbrev pub added_declared : PlainSpec → Sig → TextNames → List FunId → List Section
added_declared spec g n empty_lists =
    actions_declared g (added_actions_of spec g)
    ++ (flat_map (structs_declared g n) (added_functions spec g) ++ (lines_declared g n lines.Constant (constants_among g (added_functions spec g)) ++ lines_declared g n lines.EmptyList empty_lists))
