-- The tokens of a declaration are read in one way, and so are those of a specification.
use Rattle.std.proofs.Common.{◌≡◌, ℕ, List, [], ◌∷◌, Option, refl, ap, sym, ◌∙◌, subst}
use Rattle.mcrl2_lexer.specs.declared.kind.Kind.TheVariants as kind_
use Rattle.mcrl2_lexer.specs.declared.token.Token.{Token}
use Rattle.mcrl2_syntax.specs.declared.declaration.SectionWord.{SectionWord}
use Rattle.mcrl2_syntax.specs.Words.{PlainWord, Begins, spanned, word_span}
use Rattle.mcrl2_syntax.specs.SortTrees.{PlainSort}
use Rattle.mcrl2_syntax.specs.DataTrees.{PlainData}
use Rattle.mcrl2_syntax.specs.ProcessParts.{PlainVarGroup}
use Rattle.mcrl2_syntax.specs.ProcessTrees.{PlainProcess, process_span}
use Rattle.mcrl2_syntax.specs.Declarations.{PlainField, PlainConstructor, PlainDecl, sorts_decl, cons_decl, map_decl, vars_decl, act_decl, init_decl}
use Rattle.mcrl2_syntax.specs.SpelledWords.{token_word, a_name, last_item, more_items}
use Rattle.mcrl2_syntax.specs.SpelledSorts.{SpellsSort, spells_bool, spells_pos, spells_nat, spells_int, spells_list, spells_named_sort, spells_brackets_sort}
use Rattle.mcrl2_syntax.specs.SpelledData.{SpellsData}
use Rattle.mcrl2_syntax.specs.SpelledProcesses.{SpellsProcess}
use Rattle.mcrl2_syntax.specs.SpelledDeclarations.{SpellsNames, SpellsDomain, bare_field, named_field, SpellsField, field_bare, field_named, SpellsFields, no_fields, some_fields, SpellsRecogniser, no_recogniser, a_recogniser, constructor_from, SpellsConstructor, a_constructor, group_span, SpellsSignature, of_constants, of_functions, signature_span, alias_from, struct_from, equation_from, equation_where, act_over, proc_from, SpellsDecl, decl_sorts, decl_alias, decl_struct, decl_cons, decl_map, decl_vars, decl_equation, decl_conditional, decl_acts, decl_acts_over, decl_proc, decl_proc_over, decl_init}
use Rattle.mcrl2_syntax.proofs.Lists.{heads, tails, moved, names_once, list_once, items_once as listed_once}
use Rattle.mcrl2_syntax.proofs.SortsOnce.{sort_once}
use Rattle.mcrl2_syntax.specs.Follow.{Stops}
use Rattle.mcrl2_syntax.proofs.DataOnce.{stops_at, level_once}
use Rattle.mcrl2_syntax.proofs.LabelsOnce.{no_other, vars_once}
use Rattle.mcrl2_syntax.proofs.ProcessesOnce.{process_once, ends_nowhere}

pub sort_from : {text : List ℕ} {s : PlainSort} {ts us r : List Token} → ts ≡ us → SpellsSort text s us r → SpellsSort text s ts r
sort_from {text = text} {s = s} {r = r} e d = subst (λ (x : List Token). SpellsSort text s x r) (sym e) d

pub domain_from : {text : List ℕ} {s : List PlainSort} {ts us r : List Token} → ts ≡ us → SpellsDomain text s us r → SpellsDomain text s ts r
domain_from {text = text} {s = s} {r = r} e d = subst (λ (x : List Token). SpellsDomain text s x r) (sym e) d

pub data_from : {text : List ℕ} {d : PlainData} {ts us r : List Token} → ts ≡ us → SpellsData text d us r → SpellsData text d ts r
data_from {text = text} {d = d} {r = r} e a = subst (λ (x : List Token). SpellsData text d x r) (sym e) a

pub process_from : {text : List ℕ} {p : PlainProcess} {ts us r : List Token} → ts ≡ us → SpellsProcess text p us r → SpellsProcess text p ts r
process_from {text = text} {p = p} {r = r} e a = subst (λ (x : List Token). SpellsProcess text p x r) (sym e) a

-- a sort that begins with a name is the name
pub name_ends : {text : List ℕ} {s : PlainSort} {t : Token} {ts r : List Token} → SpellsSort text s (t ∷ ts) r → t.kind ≡ kind_.Identifier → ts ≡ r
name_ends (spells_bool h) e = absurd cc
name_ends (spells_pos h) e = absurd cc
name_ends (spells_nat h) e = absurd cc
name_ends (spells_int h) e = absurd cc
name_ends (spells_list h i a j) e = absurd cc
name_ends (spells_named_sort h) e = refl
name_ends (spells_brackets_sort h a j) e = absurd cc

abbrev pub NoColon : List Token → Type 0
NoColon r = Begins kind_.Colon r → ⊥

field_once : {text : List ℕ} {f g : PlainField} {ts q r : List Token} → SpellsField text f ts q → SpellsField text g ts r → NoColon q → NoColon r → (f ≡ g) × (q ≡ r)
field_once (field_bare a) (field_bare b) s t = let e = sort_once a b in (ap (λ (x : PlainSort). bare_field x) e.0, e.1)
field_once (field_bare a) (field_named h i b) s t = absurd (s (moved kind_.Colon (name_ends a h) i))
field_once (field_named h i a) (field_bare b) s t = absurd (t (moved kind_.Colon (name_ends b h) i))
field_once {text = text} (field_named {t = x} h i a) (field_named k j b) s t = let e = sort_once a b in (ap (λ (y : PlainSort). named_field (token_word text x) y) e.0, e.1)

pub comma_colon : (t : Token) (ts : List Token) → t.kind ≡ kind_.Comma → NoColon (t ∷ ts)
comma_colon t ts e = no_other kind_.Comma kind_.Colon t ts e (λ f. cc)

-- What no constructor can go on with.
pub record Whole (r : List Token) : Type 0 where
  pub paren : Begins kind_.LeftParen r → ⊥
  pub question : Begins kind_.Question r → ⊥

pub bar_whole : (t : Token) (ts : List Token) → t.kind ≡ kind_.Bar → Whole (t ∷ ts)
bar_whole t ts e = record { paren = no_other kind_.Bar kind_.LeftParen t ts e (λ f. cc); question = no_other kind_.Bar kind_.Question t ts e (λ f. cc) }

pub recogniser_paren : {text : List ℕ} {t v : Token} {o : Option PlainWord} {ts r : List Token} → SpellsRecogniser text t o v ts r → (Begins kind_.LeftParen r → ⊥) → Begins kind_.LeftParen ts → ⊥
recogniser_paren no_recogniser n b = n b
recogniser_paren (a_recogniser {q = q} {v = v} {r = r} h i) n b = no_other kind_.Question kind_.LeftParen q (v ∷ r) h (λ f. cc) b

record SameFields (f g : List PlainField) (v w : Token) (q r : List Token) : Type 0 where
  pub fields : f ≡ g
  pub last : v ≡ w
  pub rest : q ≡ r

fields_once : {text : List ℕ} {t v w : Token} {f g : List PlainField} {ts q r : List Token} → SpellsFields text t f v ts q → SpellsFields text t g w ts r
    → (Begins kind_.LeftParen q → ⊥) → (Begins kind_.LeftParen r → ⊥) → SameFields f g v w q r
fields_once no_fields no_fields m n = record { fields = refl; last = refl; rest = refl }
fields_once no_fields (some_fields h a i) m n = absurd (m h)
fields_once (some_fields h a i) no_fields m n = absurd (n h)
fields_once (some_fields {v = v} {r = q} h a i) (some_fields {v = w} {r = r} k b j) m n =
    let e = list_once NoColon (λ x y us o c d z s t. field_once d z s t) comma_colon a b (no_other kind_.RightParen kind_.Colon v q i (λ f. cc)) (no_other kind_.RightParen kind_.Colon w r j (λ f. cc))
    (no_other kind_.RightParen kind_.Comma v q i (λ f. cc)) (no_other kind_.RightParen kind_.Comma w r j (λ f. cc)) in
    record { fields = e.0; last = heads e.1; rest = tails e.1 }

record SameRecogniser (f g : Option PlainWord) (v w : Token) (q r : List Token) : Type 0 where
  pub recogniser : f ≡ g
  pub last : v ≡ w
  pub rest : q ≡ r

recogniser_once : {text : List ℕ} {t v w : Token} {f g : Option PlainWord} {ts q r : List Token} → SpellsRecogniser text t f v ts q → SpellsRecogniser text t g w ts r
    → (Begins kind_.Question q → ⊥) → (Begins kind_.Question r → ⊥) → SameRecogniser f g v w q r
recogniser_once no_recogniser no_recogniser m n = record { recogniser = refl; last = refl; rest = refl }
recogniser_once no_recogniser (a_recogniser h i) m n = absurd (m h)
recogniser_once (a_recogniser h i) no_recogniser m n = absurd (n h)
recogniser_once (a_recogniser h i) (a_recogniser k j) m n = record { recogniser = refl; last = refl; rest = refl }

pub recogniser_from : {text : List ℕ} {t u v : Token} {o : Option PlainWord} {ts us r : List Token} → t ≡ u → ts ≡ us → SpellsRecogniser text u o v us r → SpellsRecogniser text t o v ts r
recogniser_from {text = text} {t = t} {v = v} {o = o} {us = us} {r = r} e f d =
    subst (λ (x : List Token). SpellsRecogniser text t o v x r) (sym f) (subst (λ (x : Token). SpellsRecogniser text x o v us r) (sym e) d)

constructor_once : {text : List ℕ} {c d : PlainConstructor} {ts q r : List Token} → SpellsConstructor text c ts q → SpellsConstructor text d ts r → Whole q → Whole r → (c ≡ d) × (q ≡ r)
constructor_once {text = text} (a_constructor {t = t} {v = v} {fields = f} {recogniser = o} h a b) (a_constructor {v = w} {fields = g} {recogniser = p} k c d) m n =
    let e = fields_once a c (recogniser_paren b m.paren) (recogniser_paren d n.paren) in
    let i = recogniser_once b (recogniser_from e.last e.rest d) m.question n.question in (
      ap (λ (x : List PlainField). constructor_from text t x o v) e.fields ∙ ap (λ (x : Option PlainWord). constructor_from text t g x v) i.recogniser
          ∙ ap (λ (x : Token). constructor_from text t g p x) i.last,
      i.rest,
    )

pub record SameSignature (xs ys : List PlainWord) (ds es : List PlainSort) (s o : PlainSort) : Type 0 where
  pub names : xs ≡ ys
  pub domain : ds ≡ es
  pub sort : s ≡ o

domain_once : {text : List ℕ} {ds es : List PlainSort} {ts q r : List Token} → SpellsDomain text ds ts q → SpellsDomain text es ts r → (Begins kind_.Hash q → ⊥) → (Begins kind_.Hash r → ⊥) → (ds ≡ es) × (q ≡ r)
domain_once a b m n = listed_once (λ x y us v w c d. sort_once c d) a b m n

-- a domain isn't a sort that ends the declaration
pub sort_domain : {text : List ℕ} {s : PlainSort} {ds : List PlainSort} {a : Token} {ts r : List Token} → SpellsSort text s ts [] → SpellsDomain text ds ts (a ∷ r) → ⊥
sort_domain a (last_item b) = let e = (sort_once a b).1 in cc
sort_domain a (more_items b h c) = let e = (sort_once a b).1 in cc

pub names_colon : {text : List ℕ} {xs ys : List PlainWord} {c d : Token} {ts us vs : List Token} → SpellsNames text xs ts (c ∷ us) → c.kind ≡ kind_.Colon → SpellsNames text ys ts (d ∷ vs) → d.kind ≡ kind_.Colon
    → (xs ≡ ys) × (us ≡ vs)
names_colon {c = c} {d = d} {us = us} {vs = vs} a h b k =
    let e = names_once a b (no_other kind_.Colon kind_.Comma c us h (λ f. cc)) (no_other kind_.Colon kind_.Comma d vs k (λ f. cc)) in (e.0, tails e.1)

pub signature_once : {text : List ℕ} {xs ys : List PlainWord} {ds es : List PlainSort} {s o : PlainSort} {ts : List Token} → SpellsSignature text xs ds s ts → SpellsSignature text ys es o ts → SameSignature xs ys ds es s o
signature_once (of_constants a h b) (of_constants c k d) =
    let e = names_colon a h c k in record { names = e.0; domain = refl; sort = (sort_once b (sort_from e.1 d)).0 }
signature_once (of_constants a h b) (of_functions c k d l f) = let e = names_colon a h c k in absurd (sort_domain b (domain_from e.1 d))
signature_once (of_functions a h b i g) (of_constants c k d) = let e = names_colon c k a h in absurd (sort_domain d (domain_from e.1 b))
signature_once (of_functions {a = v} {vs = us} a h b i g) (of_functions {a = w} {vs = vs} c k d l f) =
    let e = names_colon a h c k in
    let z = domain_once b (domain_from e.1 d) (no_other kind_.Arrow kind_.Hash v us i (λ x. cc)) (no_other kind_.Arrow kind_.Hash w vs l (λ x. cc)) in
    record { names = e.0; domain = z.0; sort = (sort_once g (sort_from (tails z.1) f)).0 }

pub names_equals : {text : List ℕ} {xs : List PlainWord} {t e : Token} {ts r : List Token} → SpellsNames text xs (t ∷ e ∷ ts) r → e.kind ≡ kind_.Equals → Begins kind_.Equals r
names_equals (last_item (a_name i)) h = h
names_equals (more_items (a_name i) k c) h = absurd cc

pub sort_struct : {text : List ℕ} {s : PlainSort} {w : Token} {ts r : List Token} → SpellsSort text s (w ∷ ts) r → w.kind ≡ kind_.Struct → ⊥
sort_struct (spells_bool h) e = cc
sort_struct (spells_pos h) e = cc
sort_struct (spells_nat h) e = cc
sort_struct (spells_int h) e = cc
sort_struct (spells_list h i a j) e = cc
sort_struct (spells_named_sort h) e = cc
sort_struct (spells_brackets_sort h a j) e = cc

pub stop_arrow : (t : Token) (ts : List Token) → t.kind ≡ kind_.Arrow → Stops 11 (t ∷ ts)
stop_arrow t ts e = stops_at kind_.Arrow (λ f. cc) refl 11 t ts e

pub stop_equals : (t : Token) (ts : List Token) → t.kind ≡ kind_.Equals → Stops 11 (t ∷ ts)
stop_equals t ts e = stops_at kind_.Equals (λ f. cc) refl 11 t ts e

pub decl_once : {text : List ℕ} {word : SectionWord} {d e : PlainDecl} {ts : List Token} → SpellsDecl text word d ts → SpellsDecl text word e ts → d ≡ e
decl_once (decl_sorts a) (decl_sorts b) = ap (λ (x : List PlainWord). sorts_decl (spanned word_span x) x) (names_once a b (λ f. f) (λ f. f)).0
decl_once (decl_sorts a) (decl_alias k l b) = absurd (names_equals a l)
decl_once (decl_sorts a) (decl_struct k l m b) = absurd (names_equals a l)
decl_once (decl_alias h i a) (decl_sorts b) = absurd (names_equals b i)
decl_once {text = text} (decl_alias {t = t} h i a) (decl_alias k l b) = ap (λ (x : PlainSort). alias_from (token_word text t) x) (sort_once a b).0
decl_once (decl_alias h i a) (decl_struct k l m b) = absurd (sort_struct a m)
decl_once (decl_struct h i j a) (decl_sorts b) = absurd (names_equals b i)
decl_once (decl_struct h i j a) (decl_alias k l b) = absurd (sort_struct b j)
decl_once {text = text} (decl_struct {t = t} h i j a) (decl_struct k l m b) =
    ap (λ (x : List PlainConstructor). struct_from (token_word text t) x)
    (list_once Whole (λ x y us v w c d s n. constructor_once c d s n) bar_whole a b (record { paren = λ f. f; question = λ f. f }) (record { paren = λ f. f; question = λ f. f }) (λ f. f) (λ f. f)).0
decl_once (decl_cons {names = xs} {domain = ds} {sort = s} a) (decl_cons {names = ys} {domain = es} {sort = o} b) =
    let e = signature_once a b in
    ap (λ (x : List PlainWord). cons_decl (signature_span x s) x ds s) e.names ∙ ap (λ (x : List PlainSort). cons_decl (signature_span ys s) ys x s) e.domain
    ∙ ap (λ (x : PlainSort). cons_decl (signature_span ys x) ys es x) e.sort
decl_once (decl_map {names = xs} {domain = ds} {sort = s} a) (decl_map {names = ys} {domain = es} {sort = o} b) =
    let e = signature_once a b in
    ap (λ (x : List PlainWord). map_decl (signature_span x s) x ds s) e.names ∙ ap (λ (x : List PlainSort). map_decl (signature_span ys s) ys x s) e.domain
    ∙ ap (λ (x : PlainSort). map_decl (signature_span ys x) ys es x) e.sort
decl_once (decl_vars a) (decl_vars b) = ap (λ (x : List PlainVarGroup). vars_decl (spanned group_span x) x) (vars_once a b (λ f. f) (λ f. f)).0
decl_once (decl_equation {left = x} {right = y} {e = v} {us = us} a h b) (decl_equation {left = z} {right = u} {e = w} {us = vs} c k d) =
    let e = level_once a c (stop_equals v us h) (stop_equals w vs k) in
    let f = level_once b (data_from (tails e.1) d) tt tt in
    ap (λ (n : PlainData). equation_from n y) e.0 ∙ ap (λ (n : PlainData). equation_from z n) f.0
decl_once (decl_equation {e = v} {us = us} a h b) (decl_conditional {a = w} {us = vs} c k d l f) =
    let e = level_once a c (stop_equals v us h) (stop_arrow w vs k) in absurd (no_other kind_.Arrow kind_.Equals w vs k (λ x. cc) (moved kind_.Equals e.1 h))
decl_once (decl_conditional {a = w} {us = vs} c k d l f) (decl_equation {e = v} {us = us} a h b) =
    let e = level_once a c (stop_equals v us h) (stop_arrow w vs k) in absurd (no_other kind_.Arrow kind_.Equals w vs k (λ x. cc) (moved kind_.Equals e.1 h))
decl_once (decl_conditional {condition = x} {left = y} {right = z} {a = m} {e = n} {us = us} {vs = vs} a h b i c) (decl_conditional {condition = x'} {left = y'} {right = z'} {a = m'} {e = n'} {us = us'} {vs = vs'} d k e l f) =
    let first = level_once a d (stop_arrow m us h) (stop_arrow m' us' k) in
    let second = level_once b (data_from (tails first.1) e) (stop_equals n vs i) (stop_equals n' vs' l) in
    let third = level_once c (data_from (tails second.1) f) tt tt in
    ap (λ (w : PlainData). equation_where w y z) first.0 ∙ ap (λ (w : PlainData). equation_where x' w z) second.0 ∙ ap (λ (w : PlainData). equation_where x' y' w) third.0
decl_once (decl_acts a) (decl_acts b) = ap (λ (x : List PlainWord). act_decl (spanned word_span x) x []) (names_once a b (λ f. f) (λ f. f)).0
decl_once (decl_acts a) (decl_acts_over {c = v} {us = us} b k c) = let e = (names_once a b (λ f. f) (no_other kind_.Colon kind_.Comma v us k (λ f. cc))).1 in absurd cc
decl_once (decl_acts_over {c = v} {us = us} b k c) (decl_acts a) = let e = (names_once a b (λ f. f) (no_other kind_.Colon kind_.Comma v us k (λ f. cc))).1 in absurd cc
decl_once (decl_acts_over {names = xs} {domain = ds} a h b) (decl_acts_over {names = ys} {domain = es} c k d) =
    let e = names_colon a h c k in
    let f = domain_once b (domain_from e.1 d) (λ x. x) (λ x. x) in
    ap (λ (x : List PlainWord). act_over x ds) e.0 ∙ ap (λ (x : List PlainSort). act_over ys x) f.0
decl_once {text = text} (decl_proc {t = t} h i a) (decl_proc k l b) = ap (λ (x : PlainProcess). proc_from (token_word text t) [] x) (process_once a b ends_nowhere ends_nowhere).0
decl_once (decl_proc h i a) (decl_proc_over k l b m n c) = absurd cc
decl_once (decl_proc_over h i a j o b) (decl_proc k l c) = absurd cc
decl_once {text = text} (decl_proc_over {t = t} {v = v} {e = x} {parameters = xs} {body = p} {us = us} h i a j m b) (decl_proc_over {v = w} {e = y} {parameters = ys} {body = o} {us = vs} k l c n u d) =
    let e = vars_once a c (no_other kind_.RightParen kind_.Comma v (x ∷ us) j (λ f. cc)) (no_other kind_.RightParen kind_.Comma w (y ∷ vs) n (λ f. cc)) in
    let f = process_once b (process_from (tails (tails e.1)) d) ends_nowhere ends_nowhere in
    ap (λ (z : List PlainVarGroup). proc_from (token_word text t) z p) e.0 ∙ ap (λ (z : PlainProcess). proc_from (token_word text t) ys z) f.0
decl_once (decl_init a) (decl_init b) = ap (λ (x : PlainProcess). init_decl (process_span x) x) (process_once a b ends_nowhere ends_nowhere).0
