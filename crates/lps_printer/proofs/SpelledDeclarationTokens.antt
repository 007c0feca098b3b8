-- The tokens of a declaration that is copied are those that spell it.
use Rattle.std.proofs.Common.{◌≡◌, ℕ, true, List, [], ◌∷◌, codes, Option, refl, ap, ap₂, ◌∙◌}
use Rattle.mcrl2_lexer.specs.declared.kind.Kind.TheVariants as kind_
use Rattle.mcrl2_lexer.specs.declared.token.Token.{Token}
use Rattle.mcrl2_lexer.specs.Tokens.{slice_of}
use Rattle.mcrl2_syntax.specs.declared.declaration.SectionWord.{SectionWord}
use Rattle.mcrl2_syntax.specs.Words.{PlainWord}
use Rattle.mcrl2_syntax.specs.SortTrees.{PlainSort}
use Rattle.mcrl2_syntax.specs.ProcessParts.{PlainVarGroup}
use Rattle.mcrl2_syntax.specs.Declarations.{PlainField, PlainConstructor, PlainDecl}
use Rattle.mcrl2_syntax.specs.SpelledLabels.{SpellsVarGroup, variables}
use Rattle.mcrl2_syntax.specs.SpelledDeclarations.{SpellsField, field_bare, field_named, SpellsFields, no_fields, some_fields, SpellsRecogniser, no_recogniser, a_recogniser, SpellsConstructor, a_constructor, SpellsSignature, of_constants, of_functions, SpellsDecl, decl_sorts, decl_alias, decl_struct, decl_cons, decl_map, decl_vars, decl_equation, decl_conditional, decl_acts, decl_acts_over, decl_proc, decl_proc_over, decl_init}
use Rattle.lps_printer.specs.CopiedTokens.{Copied, AreCopied}
use Rattle.lps_printer.specs.CopyLaws.{declares_data}
use Rattle.mcrl2_syntax.specs.DataTrees.{PlainData}
use Rattle.mcrl2_syntax.specs.SpelledData.{SpellsData}
use Rattle.lps_printer.specs.TreeTokens.{token, comma, colon, arrow, equals, names_tokens, domain_tokens, sort_tokens, data_tokens, listed_tokens, field_tokens, fields_tokens, recogniser_tokens, constructor_tokens, group_tokens, signature_tokens, declaration_tokens}
use Rattle.lps_printer.proofs.SpelledTokens.{said, IsSaid, no_list, fixed, named, sort_said, list_said, names_said, domain_said}
use Rattle.lps_printer.proofs.SpelledDataTokens.{level_said}

field_said : (text : List ℕ) (f : PlainField) (ts r : List Token) → SpellsField text f ts r → AreCopied (said text ts) → IsSaid text (field_tokens f) ts r
field_said text f ts r (field_bare {s = s} sort) h = sort_said text s ts r sort h
field_said text f ts r (field_named {t = t} {c = c} {s = s} {ts = us} k l sort) h =
    let i = sort_said text s us r sort h.1.1 in
    record { is = ap₂ (λ (x : Copied) (xs : List Copied). x ∷ xs) (named text t k) (ap₂ (λ (x : Copied) (xs : List Copied). x ∷ xs) (fixed text c kind_.Colon (codes ":") refl l h.1.0) i.is); rest = i.rest }

fields_said : (text : List ℕ) (a b : Token) (fs : List PlainField) (ts r : List Token) → SpellsFields text a fs b ts r → AreCopied (said text ts) → IsSaid text (fields_tokens fs) ts r
fields_said text a b fs ts r no_fields h = record { is = refl; rest = h }
fields_said text a b [] ts r (some_fields k fields l) h = absurd (no_list fields)
fields_said text a b (f ∷ fs) ts r (some_fields {u = u} {v = v} {ts = us} k fields l) h =
    let i = list_said PlainField text field_tokens (SpellsField text) kind_.Comma (codes ",") refl (field_said text) (f ∷ fs) us (v ∷ r) fields h.1 in
    record {
      is = ap₂ (λ (x : Copied) (xs : List Copied). x ∷ xs) (fixed text u kind_.LeftParen (codes "(") refl k h.0) (ap (λ x. listed_tokens field_tokens comma (f ∷ fs) (x ∷ said text r)) (fixed text v kind_.RightParen (codes ")") refl l i.rest.0) ∙ i.is);
      rest = i.rest.1;
    }

recogniser_said : (text : List ℕ) (a b : Token) (o : Option PlainWord) (ts r : List Token) → SpellsRecogniser text a o b ts r → AreCopied (said text ts) → IsSaid text (recogniser_tokens o) ts r
recogniser_said text a b o ts r no_recogniser h = record { is = refl; rest = h }
recogniser_said text a b o ts r (a_recogniser {q = q} {v = v} k l) h =
    record { is = ap₂ (λ (x : Copied) (xs : List Copied). x ∷ xs) (fixed text q kind_.Question (codes "?") refl k h.0) (ap (λ x. x ∷ said text r) (named text v l)); rest = h.1.1 }

constructor_said : (text : List ℕ) (c : PlainConstructor) (ts r : List Token) → SpellsConstructor text c ts r → AreCopied (said text ts) → IsSaid text (constructor_tokens c) ts r
constructor_said text c ts r (a_constructor {t = t} {u = u} {v = v} {fields = fs} {recogniser = o} {ts = us} {us = vs} k fields recogniser) h =
    let i = fields_said text t u fs us vs fields h.1 in
    let j = recogniser_said text u v o vs r recogniser i.rest in
    record { is = ap₂ (λ (x : Copied) (xs : List Copied). x ∷ xs) (named text t k) (ap (fields_tokens fs) j.is ∙ i.is); rest = j.rest }

-- a token, and what stands behind it
behind_names : (text : List ℕ) (ws : List PlainWord) (c : Token) (d : Copied) (xs : List Copied) (ts us : List Token) → IsSaid text (names_tokens ws) ts (c ∷ us) → d ≡ token c.kind (slice_of text c) → xs ≡ said text us → names_tokens ws (d ∷ xs) ≡ said text ts
behind_names text ws c d xs ts us i e f = ap₂ (λ (x : Copied) (ys : List Copied). names_tokens ws (x ∷ ys)) e f ∙ i.is

signature_said : (text : List ℕ) (ws : List PlainWord) (ss : List PlainSort) (to : PlainSort) (ts : List Token) → SpellsSignature text ws ss to ts → AreCopied (said text ts) → signature_tokens ws ss to [] ≡ said text ts
signature_said text ws ss to ts (of_constants {c = c} {us = us} names k sort) h =
    let i = names_said text ws ts (c ∷ us) names h in
    behind_names text ws c colon (sort_tokens to []) ts us i (fixed text c kind_.Colon (codes ":") refl k i.rest.0) (sort_said text to us [] sort i.rest.1).is
signature_said text ws [] to ts (of_functions names k domain l sort) h = absurd (no_list domain)
signature_said text ws (s ∷ ss) to ts (of_functions {c = c} {a = a} {us = us} {vs = vs} names k domain l sort) h =
    let i = names_said text ws ts (c ∷ us) names h in
    let d = domain_said text (s ∷ ss) us (a ∷ vs) domain i.rest.1 in
    let o = sort_said text to vs [] sort d.rest.1 in
    behind_names text ws c colon (domain_tokens (s ∷ ss) (arrow ∷ sort_tokens to [])) ts us i (fixed text c kind_.Colon (codes ":") refl k i.rest.0)
    (ap₂ (λ (x : Copied) (xs : List Copied). domain_tokens (s ∷ ss) (x ∷ xs)) (fixed text a kind_.Arrow (codes "->") refl l d.rest.0) o.is ∙ d.is)

-- ---- variables
group_said : (text : List ℕ) (g : PlainVarGroup) (ts r : List Token) → SpellsVarGroup text g ts r → AreCopied (said text ts) → IsSaid text (group_tokens g) ts r
group_said text g ts r (variables {names = ws} {s = s} {c = c} {us = us} names k sort) h =
    let i = names_said text ws ts (c ∷ us) names h in
    let j = sort_said text s us r sort i.rest.1 in
    record { is = behind_names text ws c colon (sort_tokens s (said text r)) ts us i (fixed text c kind_.Colon (codes ":") refl k i.rest.0) j.is; rest = j.rest }

-- ---- equations
-- an expression with a sign behind it, and what stands behind that
behind_data : (text : List ℕ) (d : PlainData) (c : Token) (e : Copied) (xs : List Copied) (ts us : List Token) → IsSaid text (data_tokens d) ts (c ∷ us) → e ≡ token c.kind (slice_of text c) → xs ≡ said text us → data_tokens d (e ∷ xs) ≡ said text ts
behind_data text d c e xs ts us i same more = ap₂ (λ (x : Copied) (ys : List Copied). data_tokens d (x ∷ ys)) same more ∙ i.is

sides_said : (text : List ℕ) (left right : PlainData) (e : Token) (ts us : List Token) → SpellsData text left ts (e ∷ us) → e.kind ≡ kind_.Equals → SpellsData text right us [] → AreCopied (said text ts) → data_tokens left (equals ∷ data_tokens right []) ≡ said text ts
sides_said text left right e ts us first k second h =
    let i = level_said text 11 left ts (e ∷ us) first h in
    behind_data text left e equals (data_tokens right []) ts us i (fixed text e kind_.Equals (codes "=") refl k i.rest.0) (level_said text 11 right us [] second i.rest.1).is

-- ---- each declaration
two_of : (a b c d : Copied) (xs ys : List Copied) → a ≡ c → b ≡ d → xs ≡ ys → a ∷ b ∷ xs ≡ c ∷ d ∷ ys
two_of a b c d xs ys e f g = ap₂ (λ (x : Copied) (zs : List Copied). x ∷ zs) e (ap₂ (λ (x : Copied) (zs : List Copied). x ∷ zs) f g)

-- The tokens of a declaration of data are those that spell it.
pub declaration_said : (text : List ℕ) (word : SectionWord) (d : PlainDecl) (ts : List Token) → declares_data word ≡ true → SpellsDecl text word d ts → AreCopied (said text ts) → declaration_tokens d [] ≡ said text ts
declaration_said text word d ts g (decl_sorts {names = ws} names) h = (names_said text ws ts [] names h).is
declaration_said text word d ts g (decl_alias {t = t} {e = e} {sort = s} {ts = us} k l sort) h =
    two_of _ _ _ _ (sort_tokens s []) (said text us) (named text t k) (fixed text e kind_.Equals (codes "=") refl l h.1.0) (sort_said text s us [] sort h.1.1).is
declaration_said text word d ts g (decl_struct {t = t} {e = e} {w = w} {constructors = cs} {ts = us} k l m constructors) h =
    let i = list_said PlainConstructor text constructor_tokens (SpellsConstructor text) kind_.Bar (codes "|") refl (constructor_said text) cs us [] constructors h.1.1.1 in
    two_of _ _ _ _ _ (said text (w ∷ us)) (named text t k) (fixed text e kind_.Equals (codes "=") refl l h.1.0) (ap₂ (λ (x : Copied) (zs : List Copied). x ∷ zs) (fixed text w kind_.Struct (codes "struct") refl m h.1.1.0) i.is)
declaration_said text word d ts g (decl_cons {names = ws} {domain = ss} {sort = to} signature) h = signature_said text ws ss to ts signature h
declaration_said text word d ts g (decl_map {names = ws} {domain = ss} {sort = to} signature) h = signature_said text ws ss to ts signature h
declaration_said text word d ts g (decl_vars {groups = gs} groups) h = (list_said PlainVarGroup text group_tokens (SpellsVarGroup text) kind_.Comma (codes ",") refl (group_said text) gs ts [] groups h).is
declaration_said text word d ts g (decl_equation {left = left} {right = right} {e = e} {us = us} first k second) h = sides_said text left right e ts us first k second h
declaration_said text word d ts g (decl_conditional {condition = c} {left = left} {right = right} {a = a} {e = e} {us = us} {vs = vs} first k second l third) h =
    let i = level_said text 11 c ts (a ∷ us) first h in
    behind_data text c a arrow (data_tokens left (equals ∷ data_tokens right [])) ts us i (fixed text a kind_.Arrow (codes "->") refl k i.rest.0) (sides_said text left right e us vs second l third i.rest.1)
declaration_said text word d ts g (decl_acts {names = ws} names) h = (names_said text ws ts [] names h).is
declaration_said text word d ts g (decl_acts_over {domain = []} names k domain) h = absurd (no_list domain)
declaration_said text word d ts g (decl_acts_over {names = ws} {domain = s ∷ ss} {c = c} {us = us} names k domain) h =
    let i = names_said text ws ts (c ∷ us) names h in
    behind_names text ws c colon (domain_tokens (s ∷ ss) []) ts us i (fixed text c kind_.Colon (codes ":") refl k i.rest.0) (domain_said text (s ∷ ss) us [] domain i.rest.1).is
declaration_said text word d ts g (decl_proc k l body) h = absurd cc
declaration_said text word d ts g (decl_proc_over k l parameters m n body) h = absurd cc
declaration_said text word d ts g (decl_init body) h = absurd cc
