-- Each rule of sorts, as the code comes to it: the tree's plain form, and each list, by an equation.
use Rattle.std.proofs.Common.{◌≡◌, ℕ, List, ◌∷◌, Result, Ok, Err, IfOk, IsErrOf, MatchResult, Bor, refl, sym, subst}
use Rattle.mcrl2_lexer.specs.declared.kind.Kind.TheVariants.{BoolWord, PosWord, NatWord, IntWord, ListWord, Identifier, LeftParen, RightParen}
use Rattle.mcrl2_lexer.specs.declared.token.Token.{Token}
use Rattle.mcrl2_parser.specs.declared.words.Fault.{Fault}
use Rattle.mcrl2_parser.specs.declared.words.Fault.TheVariants.{Syntax, NoMemory}
use Rattle.mcrl2_syntax.specs.declared.sort_tree.SortTree.{SortTree}
use Rattle.mcrl2_syntax.specs.declared.word.Span.{Span}
use Rattle.mcrl2_syntax.specs.Words.{PlainWord, Begins, span_of}
use Rattle.mcrl2_syntax.specs.SortTrees.{PlainSort, plain_sort, bool_sort, pos_sort, nat_sort, int_sort, list_sort, named_sort, brackets_sort}
use Rattle.mcrl2_syntax.specs.SpelledWords.{token_word}
use Rattle.mcrl2_syntax.specs.SpelledSorts.{SpellsSort, spells_bool, spells_pos, spells_nat, spells_int, spells_list, spells_named_sort, spells_brackets_sort}
use Rattle.mcrl2_syntax.proofs.SortsOnce.{sort_once}

pub by_bool : {text : List ℕ} {ts r : List Token} {t : Token} {at : Span} {s : PlainSort} → s ≡ bool_sort at → at ≡ span_of t t → ts ≡ t ∷ r → t.kind ≡ BoolWord → SpellsSort text s ts r
by_bool p i e h = rw (p, i, e) (spells_bool h)

pub by_pos : {text : List ℕ} {ts r : List Token} {t : Token} {at : Span} {s : PlainSort} → s ≡ pos_sort at → at ≡ span_of t t → ts ≡ t ∷ r → t.kind ≡ PosWord → SpellsSort text s ts r
by_pos p i e h = rw (p, i, e) (spells_pos h)

pub by_nat : {text : List ℕ} {ts r : List Token} {t : Token} {at : Span} {s : PlainSort} → s ≡ nat_sort at → at ≡ span_of t t → ts ≡ t ∷ r → t.kind ≡ NatWord → SpellsSort text s ts r
by_nat p i e h = rw (p, i, e) (spells_nat h)

pub by_int : {text : List ℕ} {ts r : List Token} {t : Token} {at : Span} {s : PlainSort} → s ≡ int_sort at → at ≡ span_of t t → ts ≡ t ∷ r → t.kind ≡ IntWord → SpellsSort text s ts r
by_int p i e h = rw (p, i, e) (spells_int h)

pub by_named : {text : List ℕ} {ts r : List Token} {t : Token} {w : PlainWord} {s : PlainSort} → s ≡ named_sort w → w ≡ token_word text t → ts ≡ t ∷ r → t.kind ≡ Identifier → SpellsSort text s ts r
by_named p i e h = rw (p, i, e) (spells_named_sort h)

pub by_list : {text : List ℕ} {ts us vs ws r : List Token} {t u v : Token} {at : Span} {s x : PlainSort}
    → x ≡ list_sort at s → at ≡ span_of t v → ts ≡ t ∷ us → t.kind ≡ ListWord → us ≡ u ∷ vs → u.kind ≡ LeftParen → SpellsSort text s vs ws → ws ≡ v ∷ r → v.kind ≡ RightParen → SpellsSort text x ts r
by_list p i e h f g a j k = rw (p, i, e, f) (spells_list h g (rw j at a) k)

pub by_brackets : {text : List ℕ} {ts us ws r : List Token} {t v : Token} {at : Span} {s x : PlainSort}
    → x ≡ brackets_sort at s → at ≡ span_of t v → ts ≡ t ∷ us → t.kind ≡ LeftParen → SpellsSort text s us ws → ws ≡ v ∷ r → v.kind ≡ RightParen → SpellsSort text x ts r
by_brackets p i e h a j k = rw (p, i, e) (spells_brackets_sort h (rw j at a) k)

-- Where a sort in brackets isn't closed, no other reading of it is.
closes : {v : Token} {ws r : List Token} → ws ≡ v ∷ r → v.kind ≡ RightParen → Begins RightParen ws
closes {v = v} {r = r} e k = subst (Begins RightParen) (sym e) k

listed : {text : List ℕ} {t u : Token} {vs ws r : List Token} {s x : PlainSort} → t.kind ≡ ListWord → SpellsSort text s vs ws → (Begins RightParen ws → ⊥) → SpellsSort text x (t ∷ u ∷ vs) r → ⊥
listed h a unclosed (spells_bool k) = cc
listed h a unclosed (spells_pos k) = cc
listed h a unclosed (spells_nat k) = cc
listed h a unclosed (spells_int k) = cc
listed h a unclosed (spells_list k l b e) = unclosed (closes (sort_once a b).1 e)
listed h a unclosed (spells_named_sort k) = cc
listed h a unclosed (spells_brackets_sort k b e) = cc

bracketed : {text : List ℕ} {t : Token} {us ws r : List Token} {s x : PlainSort} → t.kind ≡ LeftParen → SpellsSort text s us ws → (Begins RightParen ws → ⊥) → SpellsSort text x (t ∷ us) r → ⊥
bracketed h a unclosed (spells_bool k) = cc
bracketed h a unclosed (spells_pos k) = cc
bracketed h a unclosed (spells_nat k) = cc
bracketed h a unclosed (spells_int k) = cc
bracketed h a unclosed (spells_list k l b e) = cc
bracketed h a unclosed (spells_named_sort k) = cc
bracketed h a unclosed (spells_brackets_sort k b e) = unclosed (closes (sort_once a b).1 e)

pub no_list : {text : List ℕ} {ts us vs ws r : List Token} {t u : Token} {s x : PlainSort}
    → ts ≡ t ∷ us → t.kind ≡ ListWord → us ≡ u ∷ vs → SpellsSort text s vs ws → (Begins RightParen ws → ⊥) → SpellsSort text x ts r → ⊥
no_list e h f a unclosed d = listed h a unclosed (rw (e, f) at d)

pub no_brackets : {text : List ℕ} {ts us ws r : List Token} {t : Token} {s x : PlainSort}
    → ts ≡ t ∷ us → t.kind ≡ LeftParen → SpellsSort text s us ws → (Begins RightParen ws → ⊥) → SpellsSort text x ts r → ⊥
no_brackets e h a unclosed d = bracketed h a unclosed (rw e at d)

-- A list without its bracket is no sort.
opened : {text : List ℕ} {t : Token} {us r : List Token} {x : PlainSort} → t.kind ≡ ListWord → (Begins LeftParen us → ⊥) → SpellsSort text x (t ∷ us) r → ⊥
opened h n (spells_bool k) = cc
opened h n (spells_pos k) = cc
opened h n (spells_nat k) = cc
opened h n (spells_int k) = cc
opened h n (spells_list k l b e) = n l
opened h n (spells_named_sort k) = cc
opened h n (spells_brackets_sort k b e) = cc

pub no_open : {text : List ℕ} {ts us r : List Token} {t : Token} {x : PlainSort} → ts ≡ t ∷ us → t.kind ≡ ListWord → (Begins LeftParen us → ⊥) → SpellsSort text x ts r → ⊥
no_open e h n d = opened h n (rw e at d)

-- No other token begins a sort.
begun : {text : List ℕ} {t : Token} {us r : List Token} {x : PlainSort} → (t.kind ≡ BoolWord → ⊥) → (t.kind ≡ PosWord → ⊥) → (t.kind ≡ NatWord → ⊥) → (t.kind ≡ IntWord → ⊥)
    → (t.kind ≡ ListWord → ⊥) → (t.kind ≡ Identifier → ⊥) → (t.kind ≡ LeftParen → ⊥) → SpellsSort text x (t ∷ us) r → ⊥
begun a b c d e f g (spells_bool k) = a k
begun a b c d e f g (spells_pos k) = b k
begun a b c d e f g (spells_nat k) = c k
begun a b c d e f g (spells_int k) = d k
begun a b c d e f g (spells_list k l m n) = e k
begun a b c d e f g (spells_named_sort k) = f k
begun a b c d e f g (spells_brackets_sort k m n) = g k

pub no_sort : {text : List ℕ} {ts us r : List Token} {t : Token} {x : PlainSort} → ts ≡ t ∷ us → (t.kind ≡ BoolWord → ⊥) → (t.kind ≡ PosWord → ⊥) → (t.kind ≡ NatWord → ⊥) → (t.kind ≡ IntWord → ⊥)
    → (t.kind ≡ ListWord → ⊥) → (t.kind ≡ Identifier → ⊥) → (t.kind ≡ LeftParen → ⊥) → SpellsSort text x ts r → ⊥
no_sort i a b c d e f g h = begun a b c d e f g (rw i at h)

-- What is found is the only reading, since sorts are read in one way.
pub only_once : (text : List ℕ) (tokens : List Token) (result : Result (SortTree × Bor (List Token)) Fault)
    → IfOk result (λ x. SpellsSort text (plain_sort x.0) tokens x.1.now)
    → (IsErrOf result Syntax → (s : PlainSort) (rest : List Token) → SpellsSort text s tokens rest → ⊥)
    → (s : PlainSort) (r : List Token) → SpellsSort text s tokens r → MatchResult result (λ x. (plain_sort x.0 ≡ s) × (x.1.now ≡ r)) (λ e. e ≡ NoMemory)
only_once text tokens (Ok x) found none s r d = sort_once found d
only_once text tokens (Err Syntax) found none s r d = absurd (none refl s r d)
only_once text tokens (Err NoMemory) found none s r d = refl

pub ruleset exits = (by_bool, by_pos, by_nat, by_int, by_named, by_brackets)
