-- Printed structs spell these.
use Rattle.std.proofs.Common.{◌≡◌, ℕ, true, List, [], ◌∷◌, map, codes, refl, ap, ap₂, ◌∙◌, subst, arith}
use Rattle.std.specs.Prelude.{Option, Some, None}
use Rattle.std.specs.List.{AllByRecursion}
use Rattle.std.proofs.lemmas.Bool.Decides.{nat_tests}
use Rattle.mcrl2_lexer.specs.declared.kind.Kind.TheVariants as kind_
use Rattle.mcrl2_lexer.specs.declared.token.Token.{Token}
use Rattle.mcrl2_lexer.specs.Tokens.{sign}
use Rattle.mcrl2_lexer.specs.Words.{sign_kind}
use Rattle.mcrl2_syntax.specs.declared.declaration.SectionWord.TheVariants as sections
use Rattle.mcrl2_syntax.specs.Words.{PlainWord}
use Rattle.mcrl2_syntax.specs.Declarations.{PlainField, PlainConstructor}
use Rattle.mcrl2_syntax.specs.SpelledWords.{SpellsList, last_item, more_items}
use Rattle.mcrl2_syntax.specs.SpelledDeclarations.{SpellsField, field_bare, field_named, SpellsFields, no_fields, some_fields, SpellsRecogniser, no_recogniser, a_recogniser, SpellsConstructor, a_constructor, decl_struct}
use Rattle.sort_table.specs.Expressions.{Name}
use Rattle.sort_table.specs.BareSorts.{SortExpression}
use Rattle.sort_table.specs.BareDeclarations.{Field, Constructor, struct, bare_word, bare_field, bare_constructor}
use Rattle.lps_printer.specs.Pieces.{Piece, is_none, is_quiet, StandApart, Says, says_more, cannot_go_on}
use Rattle.lps_printer.specs.DataLayout.{piece, space, IsIdentifier}
use Rattle.lps_printer.specs.TextSections.{IsDeclared, all_inside, Declares}
use Rattle.lps_printer.specs.AddedDeclarations.{print_named, print_field, print_further_fields, print_fields, print_recogniser, print_constructor, print_further_constructors, print_constructors, print_struct}
use Rattle.lps_printer.specs.NamedStructs.{IsNamedOption, IsNamedField, IsNamedConstructor}
use Rattle.lps_printer.proofs.SpellBack.{nothing_left}
use Rattle.lps_printer.proofs.Apart.{first, Ends, IsGap, plain_piece, name_piece, in_front, close_paren}
use Rattle.lps_printer.proofs.SummandsApart.{word, signed_spaced, signed_tight, paren_tight, sort_apart, sort_quiet, variable_apart}
use Rattle.lps_printer.proofs.ProcessSpelling.{Read, read_sort}
use Rattle.lps_printer.proofs.InsideDeclarations.{sort_inside}
use Rattle.lps_printer.proofs.CopiedDeclarations.{three}

-- ---- fields
abbrev FieldRead : List ℕ → Field → List Piece → List Token → Type 0
FieldRead text = Read PlainField Field (SpellsField text) bare_field text

read_named : (text : List ℕ) (o : Option Name) (s : SortExpression) (gap : List ℕ) (rest : List Piece) (ts : List Token) → Says text (print_named o s gap rest) ts → FieldRead text (record { name = o; sort = s }) rest ts
read_named text None s gap rest ts says =
    let r = read_sort text s gap rest ts says in
    record { tree = _; after = r.after; spells = field_bare r.spells; says = r.says; is = ap (λ (e : SortExpression). record { name = None; sort = e }) r.is }
read_named text (Some x) s gap rest ts (says_more k slice (says_more {ts = us} l other says)) =
    let r = read_sort text s space rest us says in
    record { tree = _; after = r.after; spells = field_named k l r.spells; says = r.says; is = ap₂ (λ (y : Name) (e : SortExpression). record { name = Some y; sort = e }) slice r.is }

read_field : (text : List ℕ) (f : Field) (gap : List ℕ) (rest : List Piece) (ts : List Token) → Says text (print_field f gap rest) ts → FieldRead text f rest ts
read_field text f gap rest ts says = read_named text f.name f.sort gap rest ts says

-- a list of trees
record ListRead (Plain Bare : Type 0) (Spells : List Plain → List Token → List Token → Type 0) (to : Plain → Bare) (text : List ℕ) (bs : List Bare) (rest : List Piece) (ts : List Token) : Type 0 where
  trees : List Plain
  after : List Token
  spells : Spells trees ts after
  says : Says text rest after
  is : map to trees ≡ bs

abbrev FieldsRead : List ℕ → List Field → List Piece → List Token → Type 0
FieldsRead text = ListRead PlainField Field (SpellsList (SpellsField text) kind_.Comma) bare_field text

behind_comma : (text : List ℕ) (f g : Field) (fs : List Field) (rest : List Piece) (ts us : List Token) (tree : PlainField) → SpellsField text tree ts us → bare_field tree ≡ f
    → ((vs : List Token) → Says text (print_field g space (print_further_fields fs rest)) vs → FieldsRead text (g ∷ fs) rest vs)
    → Says text (piece [] kind_.Comma (codes ",") ∷ print_field g space (print_further_fields fs rest)) us → FieldsRead text (f ∷ g ∷ fs) rest ts
behind_comma text f g fs rest ts us tree spells is read (says_more {ts = vs} k slice says) =
    let r = read vs says in
    record { trees = tree ∷ r.trees; after = r.after; spells = more_items spells k r.spells; says = r.says; is = ap₂ (λ (x : Field) (xs : List Field). x ∷ xs) is r.is }

read_field_list : (text : List ℕ) (f : Field) (fs : List Field) (gap : List ℕ) (rest : List Piece) (ts : List Token) → Says text (print_field f gap (print_further_fields fs rest)) ts → FieldsRead text (f ∷ fs) rest ts
read_field_list text f [] gap rest ts says =
    let r = read_field text f gap rest ts says in
    record { trees = r.tree ∷ []; after = r.after; spells = last_item r.spells; says = r.says; is = ap (λ (x : Field). x ∷ []) r.is }
read_field_list text f (g ∷ fs) gap rest ts says =
    let r = read_field text f gap (print_further_fields (g ∷ fs) rest) ts says in
    behind_comma text f g fs rest ts r.after r.tree r.spells r.is (λ vs s. read_field_list text g fs space rest vs s) r.says

-- in brackets, behind a token
record BracketsRead (text : List ℕ) (t : Token) (fs : List Field) (rest : List Piece) (ts : List Token) : Type 0 where
  trees : List PlainField
  last : Token
  after : List Token
  spells : SpellsFields text t trees last ts after
  says : Says text rest after
  is : map bare_field trees ≡ fs

close_brackets : (text : List ℕ) (t u : Token) (fs : List Field) (rest : List Piece) (ts us : List Token) (trees : List PlainField) → u.kind ≡ kind_.LeftParen → SpellsList (SpellsField text) kind_.Comma trees ts us → map bare_field trees ≡ fs
    → Says text (piece [] kind_.RightParen (codes ")") ∷ rest) us → BracketsRead text t fs rest (u ∷ ts)
close_brackets text t u fs rest ts us trees k spells is (says_more {t = v} {ts = vs} l slice says) = record { trees = trees; last = v; after = vs; spells = some_fields k spells l; says = says; is = is }

read_brackets : (text : List ℕ) (t : Token) (fs : List Field) (rest : List Piece) (ts : List Token) → Says text (print_fields fs rest) ts → BracketsRead text t fs rest ts
read_brackets text t [] rest ts says = record { trees = []; last = t; after = ts; spells = no_fields; says = says; is = refl }
read_brackets text t (f ∷ fs) rest ts (says_more {t = u} {ts = us} k slice says) =
    let r = read_field_list text f fs [] (piece [] kind_.RightParen (codes ")") ∷ rest) us says in
    close_brackets text t u (f ∷ fs) rest us r.after r.trees k r.spells r.is r.says

-- ---- constructors
record RecogniserRead (text : List ℕ) (t : Token) (o : Option Name) (rest : List Piece) (ts : List Token) : Type 0 where
  tree : Option PlainWord
  last : Token
  after : List Token
  spells : SpellsRecogniser text t tree last ts after
  says : Says text rest after
  is : bare_word tree ≡ o

read_recogniser : (text : List ℕ) (t : Token) (o : Option Name) (rest : List Piece) (ts : List Token) → Says text (print_recogniser o rest) ts → RecogniserRead text t o rest ts
read_recogniser text t None rest ts says = record { tree = None; last = t; after = ts; spells = no_recogniser; says = says; is = refl }
read_recogniser text t (Some x) rest ts (says_more k other (says_more {t = v} {ts = us} l slice says)) =
    record { tree = _; last = v; after = us; spells = a_recogniser k l; says = says; is = ap (λ (y : Name). Some y) slice }

abbrev ConstructorRead : List ℕ → Constructor → List Piece → List Token → Type 0
ConstructorRead text = Read PlainConstructor Constructor (SpellsConstructor text) bare_constructor text

read_constructor : (text : List ℕ) (c : Constructor) (rest : List Piece) (ts : List Token) → Says text (print_constructor c rest) ts → ConstructorRead text c rest ts
read_constructor text c rest ts (says_more {t = t} {ts = us} k slice says) =
    let f = read_brackets text t c.fields (print_recogniser c.recogniser rest) us says in
    let q = read_recogniser text f.last c.recogniser rest f.after f.says in
    record { tree = _; after = q.after; spells = a_constructor k f.spells q.spells; says = q.says; is = three _ _ _ _ _ _ slice f.is q.is }

abbrev ConstructorsRead : List ℕ → List Constructor → List Piece → List Token → Type 0
ConstructorsRead text = ListRead PlainConstructor Constructor (SpellsList (SpellsConstructor text) kind_.Bar) bare_constructor text

behind_bar : (text : List ℕ) (c d : Constructor) (cs : List Constructor) (rest : List Piece) (ts us : List Token) (tree : PlainConstructor) → SpellsConstructor text tree ts us → bare_constructor tree ≡ c
    → ((vs : List Token) → Says text (print_constructor d (print_further_constructors cs rest)) vs → ConstructorsRead text (d ∷ cs) rest vs)
    → Says text (piece space kind_.Bar (codes "|") ∷ print_constructor d (print_further_constructors cs rest)) us → ConstructorsRead text (c ∷ d ∷ cs) rest ts
behind_bar text c d cs rest ts us tree spells is read (says_more {ts = vs} k slice says) =
    let r = read vs says in
    record { trees = tree ∷ r.trees; after = r.after; spells = more_items spells k r.spells; says = r.says; is = ap₂ (λ (x : Constructor) (xs : List Constructor). x ∷ xs) is r.is }

read_constructors : (text : List ℕ) (c : Constructor) (cs : List Constructor) (rest : List Piece) (ts : List Token) → Says text (print_constructor c (print_further_constructors cs rest)) ts → ConstructorsRead text (c ∷ cs) rest ts
read_constructors text c [] rest ts says =
    let r = read_constructor text c rest ts says in
    record { trees = r.tree ∷ []; after = r.after; spells = last_item r.spells; says = r.says; is = ap (λ (x : Constructor). x ∷ []) r.is }
read_constructors text c (d ∷ cs) rest ts says =
    let r = read_constructor text c (print_further_constructors (d ∷ cs) rest) ts says in
    behind_bar text c d cs rest ts r.after r.tree r.spells r.is (λ vs s. read_constructors text d cs rest vs s) r.says

struct_reads : (x : Name) (c : Constructor) (cs : List Constructor) (text : List ℕ) (ts : List Token) → Says text (print_struct x (c ∷ cs) []) ts → IsDeclared text sections.Sort ts (struct x (c ∷ cs))
struct_reads x c cs text ts (says_more k slice (says_more l other (says_more {ts = us} m another says))) =
    let r = read_constructors text c cs [] us says in
    record {
      tree = _;
      spells = decl_struct k l m (subst (λ (rest : List Token). SpellsList (SpellsConstructor text) kind_.Bar r.trees us rest) (nothing_left r.says) r.spells);
      is = ap₂ struct slice r.is;
    }

-- ---- they stand apart
named_apart : (o : Option Name) (s : SortExpression) → IsNamedField (record { name = o; sort = s }) → (gap : List ℕ) → IsGap gap → (rest : List Piece) (end : List ℕ) → Ends rest end → StandApart (print_named o s gap rest) end
named_apart None s named gap g rest end h = sort_apart s named.sort gap g rest end h
named_apart (Some x) s named gap g rest end h = variable_apart (record { name = x; sort = s }) (named.name, named.sort) gap g rest end h

named_quiet : (o : Option Name) (s : SortExpression) (rest : List Piece) (end : List ℕ) → is_quiet (first (print_named o s space rest) end) ≡ true
named_quiet None s rest end = sort_quiet s rest end
named_quiet (Some x) s rest end = refl

field_apart : (f : Field) → IsNamedField f → (gap : List ℕ) → IsGap gap → (rest : List Piece) (end : List ℕ) → Ends rest end → StandApart (print_field f gap rest) end
field_apart f named gap g rest end h = named_apart f.name f.sort (record { name = named.name; sort = named.sort }) gap g rest end h

further_fields_end : (fs : List Field) → AllByRecursion IsNamedField fs → (rest : List Piece) (end : List ℕ) → Ends rest end → Ends (print_further_fields fs rest) end
further_fields_end [] named rest end h = h
further_fields_end (f ∷ fs) named rest end h =
    let inner : Ends (print_field f space (print_further_fields fs rest)) end
    = record { apart = field_apart f named.0 space refl (print_further_fields fs rest) end (further_fields_end fs named.1 rest end h); quiet_ = named_quiet f.name f.sort (print_further_fields fs rest) end } in
    signed_tight kind_.Comma 44 refl refl refl (λ e. cc) inner

fields_end : (fs : List Field) → AllByRecursion IsNamedField fs → (rest : List Piece) (end : List ℕ) → Ends rest end → Ends (print_fields fs rest) end
fields_end [] named rest end h = h
fields_end (f ∷ fs) named rest end h =
    let behind : List Piece = piece [] kind_.RightParen (codes ")") ∷ rest in
    paren_tight (print_field f [] (print_further_fields fs behind)) end (field_apart f named.0 [] refl (print_further_fields fs behind) end (further_fields_end fs named.1 behind end (close_paren h)))

-- `?` goes on with nothing
question : (next : ℕ) → cannot_go_on (codes "?") next ≡ true
question next = let none_ : sign_kind (63 ∷ next ∷ []) ≡ None = grind (arith, nat_tests) in ap is_none none_

recogniser_end : (o : Option Name) → IsNamedOption o → (rest : List Piece) (end : List ℕ) → Ends rest end → Ends (print_recogniser o rest) end
recogniser_end None named rest end h = h
recogniser_end (Some x) named rest end h =
    record { apart = (plain_piece refl (sign refl) refl (λ e. cc), question (first (piece [] kind_.Identifier x ∷ rest) end), in_front (name_piece refl named) h); quiet_ = refl }

constructor_end : (c : Constructor) → IsNamedConstructor c → (rest : List Piece) (end : List ℕ) → Ends rest end → Ends (print_constructor c rest) end
constructor_end c named rest end h = record {
  apart = in_front (name_piece refl named.name) (fields_end c.fields named.fields (print_recogniser c.recogniser rest) end (recogniser_end c.recogniser named.recogniser rest end h));
  quiet_ = refl;
}

further_constructors_end : (cs : List Constructor) → AllByRecursion IsNamedConstructor cs → (rest : List Piece) (end : List ℕ) → Ends rest end → Ends (print_further_constructors cs rest) end
further_constructors_end [] named rest end h = h
further_constructors_end (c ∷ cs) named rest end h =
    signed_spaced kind_.Bar (codes "|") refl refl (λ e. cc) (constructor_end c named.0 (print_further_constructors cs rest) end (further_constructors_end cs named.1 rest end h))

struct_apart : (x : Name) (c : Constructor) (cs : List Constructor) → IsIdentifier x → AllByRecursion IsNamedConstructor (c ∷ cs) → StandApart (print_struct x (c ∷ cs) []) (10 ∷ [])
struct_apart x c cs i named =
    let at_end : Ends [] (10 ∷ []) = record { apart = refl; quiet_ = refl } in
    let all : Ends (print_constructors (c ∷ cs) []) (10 ∷ []) = constructor_end c named.0 (print_further_constructors cs []) (10 ∷ []) (further_constructors_end cs named.1 [] (10 ∷ []) at_end) in
    let behind : Ends (piece space kind_.Struct (codes "struct") ∷ print_constructors (c ∷ cs) []) (10 ∷ []) = record { apart = word kind_.Struct (codes "struct") refl refl refl refl (λ e. cc) all; quiet_ = refl } in
    in_front (name_piece refl i) (signed_spaced kind_.Equals (codes "=") refl refl (λ e. cc) behind)

-- ---- no token of them ends a declaration
named_inside : (o : Option Name) (s : SortExpression) (gap : List ℕ) (rest : List Piece) → all_inside (print_named o s gap rest) ≡ all_inside rest
named_inside None s gap rest = sort_inside s gap rest
named_inside (Some x) s gap rest = sort_inside s space rest

further_fields_inside : (fs : List Field) (rest : List Piece) → all_inside (print_further_fields fs rest) ≡ all_inside rest
further_fields_inside [] rest = refl
further_fields_inside (f ∷ fs) rest = named_inside f.name f.sort space (print_further_fields fs rest) ∙ further_fields_inside fs rest

fields_inside : (fs : List Field) (rest : List Piece) → all_inside (print_fields fs rest) ≡ all_inside rest
fields_inside [] rest = refl
fields_inside (f ∷ fs) rest =
    let behind : List Piece = piece [] kind_.RightParen (codes ")") ∷ rest in
    named_inside f.name f.sort [] (print_further_fields fs behind) ∙ further_fields_inside fs behind

recogniser_inside : (o : Option Name) (rest : List Piece) → all_inside (print_recogniser o rest) ≡ all_inside rest
recogniser_inside None rest = refl
recogniser_inside (Some x) rest = refl

constructor_inside : (c : Constructor) (rest : List Piece) → all_inside (print_constructor c rest) ≡ all_inside rest
constructor_inside c rest = fields_inside c.fields (print_recogniser c.recogniser rest) ∙ recogniser_inside c.recogniser rest

further_constructors_inside : (cs : List Constructor) (rest : List Piece) → all_inside (print_further_constructors cs rest) ≡ all_inside rest
further_constructors_inside [] rest = refl
further_constructors_inside (c ∷ cs) rest = constructor_inside c (print_further_constructors cs rest) ∙ further_constructors_inside cs rest

-- ---- they are declarations
pub struct_declares : (x : Name) (c : Constructor) (cs : List Constructor) → IsIdentifier x → AllByRecursion IsNamedConstructor (c ∷ cs) → Declares sections.Sort (print_struct x (c ∷ cs) []) (struct x (c ∷ cs))
struct_declares x c cs i named = record {
  apart = struct_apart x c cs i named;
  spaced = refl;
  inside = constructor_inside c (print_further_constructors cs []) ∙ further_constructors_inside cs [];
  reads = λ text ts says. struct_reads x c cs text ts says;
}
