-- Each rule of declarations, as the code comes to it: first what is spelled, then what a derivation must be.
use Rattle.std.proofs.Common.{◌≡◌, ℕ, List, [], ◌∷◌, None, Some, refl, ap, sym, ◌∙◌, subst}
use Rattle.mcrl2_lexer.specs.declared.kind.Kind.TheVariants.{Identifier, Comma, Colon, Hash, Bar, Arrow, Equals, LeftParen, RightParen, Struct}
use Rattle.mcrl2_lexer.specs.declared.token.Token.{Token}
use Rattle.mcrl2_syntax.specs.declared.word.Span.{Span}
use Rattle.mcrl2_syntax.specs.declared.declaration.SectionWord.TheVariants as word
use Rattle.mcrl2_syntax.specs.Words.{PlainWord, Begins, joined, spanned, word_span}
use Rattle.mcrl2_syntax.specs.SortTrees.{PlainSort, sort_span}
use Rattle.mcrl2_syntax.specs.DataTrees.{PlainData, data_span}
use Rattle.mcrl2_syntax.specs.ProcessParts.{PlainVarGroup}
use Rattle.mcrl2_syntax.specs.ProcessTrees.{PlainProcess, process_span}
use Rattle.mcrl2_syntax.specs.Declarations.{PlainConstructor, PlainDecl, sorts_decl, alias_decl, struct_decl, cons_decl, map_decl, vars_decl, equation_decl, act_decl, proc_decl, init_decl}
use Rattle.mcrl2_syntax.specs.SpelledWords.{token_word, SpellsList, last_item, more_items}
use Rattle.mcrl2_syntax.specs.SpelledSorts.{SpellsSort}
use Rattle.mcrl2_syntax.specs.SpelledData.{SpellsData}
use Rattle.mcrl2_syntax.specs.SpelledLabels.{SpellsVars}
use Rattle.mcrl2_syntax.specs.SpelledProcesses.{SpellsProcess}
use Rattle.mcrl2_syntax.specs.SpelledDeclarations.{SpellsNames, SpellsDomain, SpellsConstructor, constructor_span, group_span, SpellsSignature, of_constants, of_functions, alias_from, struct_from, proc_from, SpellsDecl, decl_sorts, decl_alias, decl_struct, decl_cons, decl_map, decl_vars, decl_equation, decl_conditional, decl_acts, decl_acts_over, decl_proc, decl_proc_over, decl_init}
use Rattle.mcrl2_syntax.specs.Follow.{Stops}
use Rattle.mcrl2_syntax.proofs.LabelsOnce.{no_other}
use Rattle.mcrl2_syntax.proofs.DeclarationsOnce.{names_equals, sort_struct, stop_arrow, stop_equals}
use Rattle.mcrl2_parser.specs.DeclarationParts.{BeginsNamed, SpellsParameters, no_parameters, some_parameters}

pub same_tail : {a b : Token} {x y : List Token} → a ∷ x ≡ b ∷ y → x ≡ y
same_tail e = cc

-- What may stand behind the colon of names: a sort, or a domain and a sort.
pub data SpellsFunction (text : List ℕ) : List PlainSort → PlainSort → List Token → Type 0 where
  a_constant : {sort : PlainSort} {ts : List Token} → SpellsSort text sort ts [] → SpellsFunction text [] sort ts
  a_function : {domain : List PlainSort} {sort : PlainSort} {a : Token} {ts us : List Token} → SpellsDomain text domain ts (a ∷ us) → a.kind ≡ Arrow → SpellsSort text sort us []
      → SpellsFunction text domain sort ts

pub function_from : {text : List ℕ} {ss : List PlainSort} {s : PlainSort} {ts us : List Token} → ts ≡ us → SpellsFunction text ss s us → SpellsFunction text ss s ts
function_from {text = text} {ss = ss} {s = s} e d = subst (λ (x : List Token). SpellsFunction text ss s x) (sym e) d

pub signature_case : {Goal : Type 0} {text : List ℕ} {ws : List PlainWord} {ss : List PlainSort} {s : PlainSort} {ts : List Token} → SpellsSignature text ws ss s ts
    → ((c : Token) (us : List Token) → SpellsNames text ws ts (c ∷ us) → c.kind ≡ Colon → SpellsFunction text ss s us → Goal) → Goal
signature_case (of_constants {c = c} {us = us} a h b) each = each c us a h (a_constant b)
signature_case (of_functions {c = c} {us = us} a h b i d) each = each c us a h (a_function b i d)

-- what stands behind the colon begins with sorts
pub domain_case : {Goal : Type 0} {text : List ℕ} {ss : List PlainSort} {s : PlainSort} {ts : List Token} → SpellsFunction text ss s ts
    → ((ds : List PlainSort) (r : List Token) → SpellsDomain text ds ts r → (Begins Hash r → ⊥) → Goal) → Goal
domain_case (a_constant {sort = s} b) each = each (s ∷ []) [] (last_item b) (λ f. f)
domain_case (a_function {domain = ds} {a = a} {us = us} b h d) each = each ds (a ∷ us) b (no_other Arrow Hash a us h (λ f. cc))

-- Without an arrow behind them the sorts that were read are one, and all that stands there.
pub constant_case : {text : List ℕ} {ss : List PlainSort} {s : PlainSort} {ts : List Token} {read : List PlainSort} {rest : List Token}
    → ((ds : List PlainSort) (r : List Token) → SpellsDomain text ds ts r → (Begins Hash r → ⊥) → (read ≡ ds) × (rest ≡ r))
    → SpellsFunction text ss s ts → (Begins Arrow rest → ⊥) → (read ≡ s ∷ []) × (rest ≡ [])
constant_case only (a_constant {sort = s} b) none = only (s ∷ []) [] (last_item b) (λ f. f)
constant_case only (a_function {domain = ds} {a = a} {us = us} b h d) none =
    let e = only ds (a ∷ us) b (no_other Arrow Hash a us h (λ f. cc)) in absurd (none (subst (Begins Arrow) (sym e.1) h))

-- Behind an arrow stands the sort.
pub function_case : {text : List ℕ} {ss : List PlainSort} {s : PlainSort} {ts : List Token} {read : List PlainSort} {rest : List Token} {a : Token} {us : List Token}
    → ((ds : List PlainSort) (r : List Token) → SpellsDomain text ds ts r → (Begins Hash r → ⊥) → (read ≡ ds) × (rest ≡ r))
    → SpellsFunction text ss s ts → rest ≡ a ∷ us → SpellsSort text s us []
function_case only (a_constant {sort = s} b) is = absurd (let e = (only (s ∷ []) [] (last_item b) (λ f. f)).1 in cc)
function_case {text = text} {us = us} only (a_function {domain = ds} {sort = s} {a = b} {us = vs} d h c) is =
    let e = (only ds (b ∷ vs) d (no_other Arrow Hash b vs h (λ f. cc))).1 in subst (λ (x : List Token). SpellsSort text s x []) (same_tail (sym e ∙ is)) c

one_sort : {text : List ℕ} {s : PlainSort} {ts r : List Token} → SpellsDomain text (s ∷ []) ts r → SpellsSort text s ts r
one_sort (last_item a) = a
one_sort (more_items a h c) = elim c [ ]

pub by_constants : {text : List ℕ} {names : List PlainWord} {read : List PlainSort} {sort : PlainSort} {c : Token} {ts rest us vs : List Token} → SpellsNames text names ts rest → rest ≡ c ∷ us → c.kind ≡ Colon
    → SpellsDomain text read us vs → vs ≡ [] → read ≡ sort ∷ [] → SpellsSignature text names [] sort ts
by_constants {text = text} {us = us} a e h b n i = of_constants (rw e at a) h (one_sort (subst (λ (x : List PlainSort). SpellsDomain text x us []) i (rw n at b)))

pub by_functions : {text : List ℕ} {names : List PlainWord} {domain : List PlainSort} {sort : PlainSort} {c a : Token} {ts rest us vs ws : List Token} → SpellsNames text names ts rest → rest ≡ c ∷ us → c.kind ≡ Colon
    → SpellsDomain text domain us vs → vs ≡ a ∷ ws → a.kind ≡ Arrow → SpellsSort text sort ws [] → SpellsSignature text names domain sort ts
by_functions a e h b f i d = of_functions (rw e at a) h (rw f at b) i d

pub by_parameters : {text : List ℕ} {gs : List PlainVarGroup} {u v : Token} {ts us vs r : List Token} → ts ≡ u ∷ us → u.kind ≡ LeftParen → SpellsVars text gs us vs → vs ≡ v ∷ r → v.kind ≡ RightParen → SpellsParameters text gs ts r
by_parameters e h a f i = rw e (some_parameters h (rw f at a) i)

pub no_parameters_case : {text : List ℕ} {gs : List PlainVarGroup} {ts r : List Token} → (Begins LeftParen ts → ⊥) → SpellsParameters text gs ts r → ([] ≡ gs) × (ts ≡ r)
no_parameters_case none no_parameters = (refl, refl)
no_parameters_case none (some_parameters h a i) = absurd (none h)

parameters_at : {Goal : Type 0} {text : List ℕ} {gs : List PlainVarGroup} {u : Token} {us r : List Token} → u.kind ≡ LeftParen → SpellsParameters text gs (u ∷ us) r → (Begins LeftParen r → ⊥)
    → ((v : Token) → SpellsVars text gs us (v ∷ r) → v.kind ≡ RightParen → Goal) → Goal
parameters_at k no_parameters stops each = absurd (stops k)
parameters_at k (some_parameters {v = v} h a i) stops each = each v a i

pub parameters_case : {Goal : Type 0} {text : List ℕ} {gs : List PlainVarGroup} {u : Token} {ts us r : List Token} → ts ≡ u ∷ us → u.kind ≡ LeftParen → SpellsParameters text gs ts r → (Begins LeftParen r → ⊥)
    → ((v : Token) → SpellsVars text gs us (v ∷ r) → v.kind ≡ RightParen → Goal) → Goal
parameters_case {text = text} {gs = gs} {r = r} e k d stops each = parameters_at k (subst (λ (x : List Token). SpellsParameters text gs x r) e d) stops each

pub by_sorts : {text : List ℕ} {d : PlainDecl} {at : Span} {names : List PlainWord} {ts r : List Token} → d ≡ sorts_decl at names → at ≡ spanned word_span names → SpellsNames text names ts r → r ≡ [] → SpellsDecl text word.Sort d ts
by_sorts p i a n = rw (p, i) (decl_sorts (rw n at a))

-- Where no name stands before an `=`, it is a list of names.
pub names_case : {Goal : Type 0} {text : List ℕ} {d : PlainDecl} {ts : List Token} → SpellsDecl text word.Sort d ts → ((name : Token) (us : List Token) → BeginsNamed Equals name ts us → ⊥)
    → ((names : List PlainWord) → sorts_decl (spanned word_span names) names ≡ d → SpellsNames text names ts [] → Goal) → Goal
names_case (decl_sorts {names = names} a) none each = each names refl a
names_case (decl_alias {t = t} {e = e} {ts = us} h i a) none each = absurd (none t us (record { sign = e; is = refl; identifier = h; is_kind = i }))
names_case (decl_struct {t = t} {e = e} {w = w} {ts = us} h i j a) none each = absurd (none t (w ∷ us) (record { sign = e; is = refl; identifier = h; is_kind = i }))

pub by_alias : {text : List ℕ} {d : PlainDecl} {at here : Span} {w : PlainWord} {s : PlainSort} {t : Token} {ts us : List Token} → d ≡ alias_decl at w s → at ≡ joined w.span here → here ≡ sort_span s → w ≡ token_word text t
    → BeginsNamed Equals t ts us → SpellsSort text s us [] → SpellsDecl text word.Sort d ts
by_alias p i k j b a = rw (p, i, k, j, b.is) (decl_alias b.identifier b.is_kind a)

pub by_struct : {text : List ℕ} {d : PlainDecl} {at here : Span} {w : PlainWord} {cs : List PlainConstructor} {t u : Token} {ts us vs r : List Token} → d ≡ struct_decl at w cs → at ≡ joined w.span here → here ≡ spanned constructor_span cs
    → w ≡ token_word text t → BeginsNamed Equals t ts us → us ≡ u ∷ vs → u.kind ≡ Struct → SpellsList (SpellsConstructor text) Bar cs vs r → r ≡ [] → SpellsDecl text word.Sort d ts
by_struct p i k j b e h a n = rw (p, i, k, j, b.is, e) (decl_struct b.identifier b.is_kind h (rw n at a))

alias_at : {Goal : Type 0} {text : List ℕ} {d : PlainDecl} {t e : Token} {us : List Token} → t.kind ≡ Identifier → e.kind ≡ Equals → SpellsDecl text word.Sort d (t ∷ e ∷ us) → (Begins Struct us → ⊥)
    → ((s : PlainSort) → alias_from (token_word text t) s ≡ d → SpellsSort text s us [] → Goal) → Goal
alias_at k l (decl_sorts a) none each = absurd (names_equals a l)
alias_at k l (decl_alias {sort = s} h i a) none each = each s refl a
alias_at k l (decl_struct h i j a) none each = absurd (none j)

pub alias_case : {Goal : Type 0} {text : List ℕ} {d : PlainDecl} {t : Token} {ts us : List Token} → BeginsNamed Equals t ts us → SpellsDecl text word.Sort d ts → (Begins Struct us → ⊥)
    → ((s : PlainSort) → alias_from (token_word text t) s ≡ d → SpellsSort text s us [] → Goal) → Goal
alias_case {text = text} {d = d} b a none each = alias_at b.identifier b.is_kind (subst (λ (x : List Token). SpellsDecl text word.Sort d x) b.is a) none each

struct_at : {Goal : Type 0} {text : List ℕ} {d : PlainDecl} {t e u : Token} {us : List Token} → t.kind ≡ Identifier → e.kind ≡ Equals → u.kind ≡ Struct → SpellsDecl text word.Sort d (t ∷ e ∷ u ∷ us)
    → ((cs : List PlainConstructor) → struct_from (token_word text t) cs ≡ d → SpellsList (SpellsConstructor text) Bar cs us [] → Goal) → Goal
struct_at k l m (decl_sorts a) each = absurd (names_equals a l)
struct_at k l m (decl_alias h i a) each = absurd (sort_struct a m)
struct_at k l m (decl_struct {constructors = cs} h i j a) each = each cs refl a

pub struct_case : {Goal : Type 0} {text : List ℕ} {d : PlainDecl} {t u : Token} {ts us vs : List Token} → BeginsNamed Equals t ts us → us ≡ u ∷ vs → u.kind ≡ Struct → SpellsDecl text word.Sort d ts
    → ((cs : List PlainConstructor) → struct_from (token_word text t) cs ≡ d → SpellsList (SpellsConstructor text) Bar cs vs [] → Goal) → Goal
struct_case {text = text} {d = d} {t = t} b e k a each =
    struct_at b.identifier b.is_kind k (subst (λ (x : List Token). SpellsDecl text word.Sort d x) (b.is ∙ ap (λ (x : List Token). t ∷ b.sign ∷ x) e) a) each

pub by_cons : {text : List ℕ} {d : PlainDecl} {at first last : Span} {ws : List PlainWord} {ss : List PlainSort} {s : PlainSort} {ts : List Token} → d ≡ cons_decl at ws ss s → at ≡ joined first last → first ≡ spanned word_span ws → last ≡ sort_span s → SpellsSignature text ws ss s ts
    → SpellsDecl text word.Cons d ts
by_cons p i j k a = rw (p, i, j, k) (decl_cons a)

pub cons_case : {Goal : Type 0} {text : List ℕ} {d : PlainDecl} {ts : List Token} → SpellsDecl text word.Cons d ts
    → ((ws : List PlainWord) (ss : List PlainSort) (s : PlainSort) → SpellsSignature text ws ss s ts → Goal) → Goal
cons_case (decl_cons {names = ws} {domain = ss} {sort = s} a) each = each ws ss s a

pub by_map : {text : List ℕ} {d : PlainDecl} {at first last : Span} {ws : List PlainWord} {ss : List PlainSort} {s : PlainSort} {ts : List Token} → d ≡ map_decl at ws ss s → at ≡ joined first last → first ≡ spanned word_span ws → last ≡ sort_span s → SpellsSignature text ws ss s ts
    → SpellsDecl text word.Map d ts
by_map p i j k a = rw (p, i, j, k) (decl_map a)

pub map_case : {Goal : Type 0} {text : List ℕ} {d : PlainDecl} {ts : List Token} → SpellsDecl text word.Map d ts
    → ((ws : List PlainWord) (ss : List PlainSort) (s : PlainSort) → SpellsSignature text ws ss s ts → Goal) → Goal
map_case (decl_map {names = ws} {domain = ss} {sort = s} a) each = each ws ss s a

pub by_vars : {text : List ℕ} {d : PlainDecl} {at : Span} {gs : List PlainVarGroup} {ts r : List Token} → d ≡ vars_decl at gs → at ≡ spanned group_span gs → SpellsVars text gs ts r → r ≡ [] → SpellsDecl text word.Var d ts
by_vars p i a n = rw (p, i) (decl_vars (rw n at a))

pub vars_case : {Goal : Type 0} {text : List ℕ} {d : PlainDecl} {ts : List Token} → SpellsDecl text word.Var d ts → ((gs : List PlainVarGroup) → SpellsVars text gs ts [] → Goal) → Goal
vars_case (decl_vars {groups = gs} a) each = each gs a

pub by_equation : {text : List ℕ} {d : PlainDecl} {at first last : Span} {x y : PlainData} {e : Token} {ts us r : List Token} → d ≡ equation_decl at None x y → at ≡ joined first last → first ≡ data_span x → last ≡ data_span y
    → SpellsData text x ts us → us ≡ e ∷ r → e.kind ≡ Equals → SpellsData text y r [] → SpellsDecl text word.Eqn d ts
by_equation p i j k a f h b = rw (p, i, j, k) (decl_equation (rw f at a) h b)

pub by_conditional : {text : List ℕ} {d : PlainDecl} {at first last : Span} {c x y : PlainData} {a e : Token} {ts us vs ws r : List Token} → d ≡ equation_decl at (Some c) x y → at ≡ joined first last → first ≡ data_span c → last ≡ data_span y
    → SpellsData text c ts us → us ≡ a ∷ vs → a.kind ≡ Arrow → SpellsData text x vs ws → ws ≡ e ∷ r → e.kind ≡ Equals → SpellsData text y r [] → SpellsDecl text word.Eqn d ts
by_conditional p i k l a f h b g j z = rw (p, i, k, l) (decl_conditional (rw f at a) h (rw g at b) j z)

-- an equation begins with a data expression
pub data_case : {Goal : Type 0} {text : List ℕ} {d : PlainDecl} {ts : List Token} → SpellsDecl text word.Eqn d ts → ((x : PlainData) (r : List Token) → SpellsData text x ts r → Stops 11 r → Goal) → Goal
data_case (decl_equation {left = x} {e = e} {us = us} a h b) each = each x (e ∷ us) a (stop_equals e us h)
data_case (decl_conditional {condition = c} {a = a} {us = us} x h y i z) each = each c (a ∷ us) x (stop_arrow a us h)

-- Without an arrow behind it the expression that was read is the left side.
pub equation_case : {text : List ℕ} {d : PlainDecl} {ts : List Token} {read : PlainData} {rest : List Token} → ((x : PlainData) (r : List Token) → SpellsData text x ts r → Stops 11 r → (read ≡ x) × (rest ≡ r))
    → SpellsDecl text word.Eqn d ts → (Begins Arrow rest → ⊥) → Begins Equals rest
equation_case only (decl_equation {left = x} {e = e} {us = us} a h b) none = subst (Begins Equals) (sym (only x (e ∷ us) a (stop_equals e us h)).1) h
equation_case only (decl_conditional {condition = c} {a = a} {us = us} x h y i z) none = absurd (none (subst (Begins Arrow) (sym (only c (a ∷ us) x (stop_arrow a us h)).1) h))

-- Behind the equals sign stands the right side.
pub right_case : {Goal : Type 0} {text : List ℕ} {d : PlainDecl} {ts : List Token} {read : PlainData} {rest : List Token} {e : Token} {us : List Token} → ((x : PlainData) (r : List Token) → SpellsData text x ts r → Stops 11 r → (read ≡ x) × (rest ≡ r))
    → SpellsDecl text word.Eqn d ts → (Begins Arrow rest → ⊥) → rest ≡ e ∷ us → ((y : PlainData) → SpellsData text y us [] → Goal) → Goal
right_case {text = text} {us = us} only (decl_equation {left = x} {right = y} {e = f} {us = vs} a h b) none is each =
    let i = (only x (f ∷ vs) a (stop_equals f vs h)).1 in each y (subst (λ (x : List Token). SpellsData text y x []) (same_tail (sym i ∙ is)) b)
right_case only (decl_conditional {condition = c} {a = a} {us = us} x h y i z) none is each = absurd (none (subst (Begins Arrow) (sym (only c (a ∷ us) x (stop_arrow a us h)).1) h))

-- Behind an arrow stand both sides.
pub conditional_case : {Goal : Type 0} {text : List ℕ} {d : PlainDecl} {ts : List Token} {read : PlainData} {rest : List Token} {a : Token} {us : List Token} → ((x : PlainData) (r : List Token) → SpellsData text x ts r → Stops 11 r → (read ≡ x) × (rest ≡ r))
    → SpellsDecl text word.Eqn d ts → rest ≡ a ∷ us → a.kind ≡ Arrow
    → ((x y : PlainData) (e : Token) (vs : List Token) → SpellsData text x us (e ∷ vs) → e.kind ≡ Equals → SpellsData text y vs [] → Goal) → Goal
conditional_case {a = a} {us = us} only (decl_equation {left = x} {e = e} {us = vs} z h b) is arrow each =
    let i = (only x (e ∷ vs) z (stop_equals e vs h)).1 in absurd (no_other Arrow Equals a us arrow (λ f. cc) (subst (Begins Equals) (sym i ∙ is) h))
conditional_case {text = text} {us = us} only (decl_conditional {condition = c} {left = x} {right = y} {a = b} {e = e} {us = vs} {vs = ws} l h m i n) is arrow each =
    let j = (only c (b ∷ vs) l (stop_arrow b vs h)).1 in each x y e ws (subst (λ (q : List Token). SpellsData text x q (e ∷ ws)) (same_tail (sym j ∙ is)) m) i n

pub by_acts : {text : List ℕ} {d : PlainDecl} {at : Span} {names : List PlainWord} {ss : List PlainSort} {ts r : List Token} → d ≡ act_decl at names ss → ss ≡ [] → at ≡ spanned word_span names → SpellsNames text names ts r → r ≡ [] → SpellsDecl text word.Act d ts
by_acts p e i a n = rw (p, e, i) (decl_acts (rw n at a))

pub by_acts_over : {text : List ℕ} {d : PlainDecl} {at first last : Span} {names : List PlainWord} {ss : List PlainSort} {c : Token} {ts us vs r : List Token} → d ≡ act_decl at names ss
    → at ≡ joined first last → first ≡ spanned word_span names → last ≡ spanned sort_span ss → SpellsNames text names ts us → us ≡ c ∷ vs → c.kind ≡ Colon → SpellsDomain text ss vs r → r ≡ [] → SpellsDecl text word.Act d ts
by_acts_over p i j k a e h b n = rw (p, i, j, k) (decl_acts_over (rw e at a) h (rw n at b))

pub acts_case : {Goal : Type 0} {text : List ℕ} {d : PlainDecl} {ts : List Token} → SpellsDecl text word.Act d ts → ((ws : List PlainWord) (r : List Token) → SpellsNames text ws ts r → (Begins Comma r → ⊥) → Goal) → Goal
acts_case (decl_acts {names = ws} a) each = each ws [] a (λ f. f)
acts_case (decl_acts_over {names = ws} {c = c} {us = us} a h b) each = each ws (c ∷ us) a (no_other Colon Comma c us h (λ f. cc))

-- Without a colon behind them the names of actions are all that stands there.
pub bare_acts_case : {text : List ℕ} {d : PlainDecl} {ts : List Token} {read : List PlainWord} {rest : List Token} → ((ws : List PlainWord) (r : List Token) → SpellsNames text ws ts r → (Begins Comma r → ⊥) → (read ≡ ws) × (rest ≡ r))
    → SpellsDecl text word.Act d ts → (Begins Colon rest → ⊥) → rest ≡ []
bare_acts_case only (decl_acts {names = ws} a) none = (only ws [] a (λ f. f)).1
bare_acts_case only (decl_acts_over {names = ws} {c = c} {us = us} a h b) none =
    absurd (none (subst (Begins Colon) (sym (only ws (c ∷ us) a (no_other Colon Comma c us h (λ f. cc))).1) h))

-- Behind a colon stands the domain.
pub act_domain_case : {Goal : Type 0} {text : List ℕ} {d : PlainDecl} {ts : List Token} {read : List PlainWord} {rest : List Token} {c : Token} {us : List Token} → ((ws : List PlainWord) (r : List Token) → SpellsNames text ws ts r → (Begins Comma r → ⊥) → (read ≡ ws) × (rest ≡ r))
    → SpellsDecl text word.Act d ts → rest ≡ c ∷ us → ((ss : List PlainSort) → SpellsDomain text ss us [] → Goal) → Goal
act_domain_case only (decl_acts {names = ws} a) is each = absurd (let e = (only ws [] a (λ f. f)).1 in cc)
act_domain_case {text = text} {us = us} only (decl_acts_over {names = ws} {domain = ss} {c = c} {us = vs} a h b) is each =
    let e = (only ws (c ∷ vs) a (no_other Colon Comma c vs h (λ f. cc))).1 in each ss (subst (λ (x : List Token). SpellsDomain text ss x []) (same_tail (sym e ∙ is)) b)

a_proc : {text : List ℕ} {gs : List PlainVarGroup} {p : PlainProcess} {t e : Token} {us r : List Token} → t.kind ≡ Identifier → SpellsParameters text gs us (e ∷ r) → e.kind ≡ Equals → SpellsProcess text p r []
    → SpellsDecl text word.Proc (proc_from (token_word text t) gs p) (t ∷ us)
a_proc h no_parameters k b = decl_proc h k b
a_proc h (some_parameters i a j) k b = decl_proc_over h i a j k b

pub by_proc : {text : List ℕ} {d : PlainDecl} {at here : Span} {w : PlainWord} {gs : List PlainVarGroup} {p : PlainProcess} {t e : Token} {ts us vs r : List Token} → d ≡ proc_decl at w gs p → at ≡ joined w.span here → here ≡ process_span p
    → w ≡ token_word text t → ts ≡ t ∷ us → t.kind ≡ Identifier → SpellsParameters text gs us vs → vs ≡ e ∷ r → e.kind ≡ Equals → SpellsProcess text p r [] → SpellsDecl text word.Proc d ts
by_proc {text = text} {gs = gs} {us = us} p i l j f h a g k b = rw (p, i, l, j, f) (a_proc h (subst (λ (x : List Token). SpellsParameters text gs us x) g a) k b)

proc_at : {Goal : Type 0} {text : List ℕ} {d : PlainDecl} {t : Token} {us : List Token} → SpellsDecl text word.Proc d (t ∷ us)
    → ((gs : List PlainVarGroup) (p : PlainProcess) (e : Token) (vs : List Token) → SpellsParameters text gs us (e ∷ vs) → e.kind ≡ Equals → SpellsProcess text p vs [] → Goal) → Goal
proc_at (decl_proc {e = e} {body = p} {ts = vs} h i a) each = each [] p e vs no_parameters i a
proc_at (decl_proc_over {e = e} {parameters = gs} {body = p} {us = vs} h i a j k b) each = each gs p e vs (some_parameters i a j) k b

pub proc_case : {Goal : Type 0} {text : List ℕ} {d : PlainDecl} {t : Token} {ts us : List Token} → ts ≡ t ∷ us → SpellsDecl text word.Proc d ts
    → ((gs : List PlainVarGroup) (p : PlainProcess) (e : Token) (vs : List Token) → SpellsParameters text gs us (e ∷ vs) → e.kind ≡ Equals → SpellsProcess text p vs [] → Goal) → Goal
proc_case {text = text} {d = d} f a each = proc_at (subst (λ (x : List Token). SpellsDecl text word.Proc d x) f a) each

pub proc_begins : {text : List ℕ} {d : PlainDecl} {ts : List Token} → SpellsDecl text word.Proc d ts → Begins Identifier ts
proc_begins (decl_proc h i a) = h
proc_begins (decl_proc_over h i a j k b) = h

pub by_init : {text : List ℕ} {d : PlainDecl} {at : Span} {p : PlainProcess} {ts : List Token} → d ≡ init_decl at p → at ≡ process_span p → SpellsProcess text p ts [] → SpellsDecl text word.Init d ts
by_init p i a = rw (p, i) (decl_init a)

pub init_case : {Goal : Type 0} {text : List ℕ} {d : PlainDecl} {ts : List Token} → SpellsDecl text word.Init d ts → ((p : PlainProcess) → SpellsProcess text p ts [] → Goal) → Goal
init_case (decl_init {body = p} a) each = each p a
