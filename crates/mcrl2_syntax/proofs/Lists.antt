-- Lists with a separator are read in one way where their items are.
use Rattle.std.proofs.Common.{◌≡◌, ℕ, List, [], ◌∷◌, ◌++◌, refl, ap, sym, ◌∙◌, subst}
use Rattle.std.specs.List.{AllByRecursion}
use Rattle.mcrl2_lexer.specs.declared.kind.Kind.{Kind}
use Rattle.mcrl2_lexer.specs.declared.token.Token.{Token}
use Rattle.mcrl2_syntax.specs.Words.{PlainWord, Begins}
use Rattle.mcrl2_syntax.specs.SpelledWords.{SpellsName, a_name, SpellsList, last_item, more_items}

pub heads : {a b : Token} {x y : List Token} → a ∷ x ≡ b ∷ y → a ≡ b
heads e = cc

pub tails : {a b : Token} {x y : List Token} → a ∷ x ≡ b ∷ y → x ≡ y
tails e = cc

pub moved : (k : Kind) {q r : List Token} → q ≡ r → Begins k q → Begins k r
moved k e b = subst (Begins k) e b

pub name_once : {text : List ℕ} {w v : PlainWord} {ts q r : List Token} → SpellsName text w ts q → SpellsName text v ts r → (w ≡ v) × (q ≡ r)
name_once (a_name h) (a_name k) = (refl, refl)

pub list_from : {Item : Type 0} {spells : Item → List Token → List Token → Type 0} {separator : Kind} {items : List Item} {ts us r : List Token} → ts ≡ us
    → SpellsList spells separator items us r → SpellsList spells separator items ts r
list_from {spells = spells} {separator = separator} {items = items} {r = r} e d = subst (λ (x : List Token). SpellsList spells separator items x r) (sym e) d

-- items that are read in one way where what stands behind them stops them, as a separator does
pub list_once : {Item : Type 0} {spells : Item → List Token → List Token → Type 0} {separator : Kind} {xs ys : List Item} {ts q r : List Token} (Stop : List Token → Type 0)
    → ((a b : Item) (us v w : List Token) → spells a us v → spells b us w → Stop v → Stop w → (a ≡ b) × (v ≡ w))
    → ((t : Token) (us : List Token) → t.kind ≡ separator → Stop (t ∷ us))
    → SpellsList spells separator xs ts q → SpellsList spells separator ys ts r → Stop q → Stop r → (Begins separator q → ⊥) → (Begins separator r → ⊥) → (xs ≡ ys) × (q ≡ r)
list_once {ts = ts} {q = q} {r = r} Stop once at (last_item {item = x} a) (last_item {item = y} b) s t m n =
    let e = once x y ts q r a b s t in (ap (λ z. z ∷ []) e.0, e.1)
list_once {separator = separator} {ts = ts} {q = q} Stop once at (last_item {item = x} a) (more_items {item = y} {sign = v} {us = us} b k c) s t m n =
    let e = once x y ts q (v ∷ us) a b s (at v us k) in absurd (m (moved separator (sym e.1) k))
list_once {separator = separator} {ts = ts} {r = r} Stop once at (more_items {item = x} {sign = v} {us = us} a h c) (last_item {item = y} b) s t m n =
    let e = once x y ts (v ∷ us) r a b (at v us h) t in absurd (n (moved separator e.1 h))
list_once {ts = ts} Stop once at (more_items {item = x} {items = xs} {sign = v} {us = us} a h c) (more_items {item = y} {items = ys} {sign = w} {us = vs} b k d) s t m n =
    let e = once x y ts (v ∷ us) (w ∷ vs) a b (at v us h) (at w vs k) in
    let z = list_once Stop once at c (list_from (tails e.1) d) s t m n in
    (ap (λ i. i ∷ xs) e.0 ∙ ap (λ i. y ∷ i) z.0, z.1)

abbrev pub Anything : List Token → Type 0
Anything ts = Unit {0}

-- items that are read in one way whatever stands behind them
pub items_once : {Item : Type 0} {spells : Item → List Token → List Token → Type 0} {separator : Kind} {xs ys : List Item} {ts q r : List Token}
    → ((a b : Item) (us v w : List Token) → spells a us v → spells b us w → (a ≡ b) × (v ≡ w))
    → SpellsList spells separator xs ts q → SpellsList spells separator ys ts r → (Begins separator q → ⊥) → (Begins separator r → ⊥) → (xs ≡ ys) × (q ≡ r)
items_once once a b m n = list_once Anything (λ x y us v w c d s t. once x y us v w c d) (λ t us k. tt) a b tt tt m n

pub names_once : {text : List ℕ} {separator : Kind} {xs ys : List PlainWord} {ts q r : List Token} → SpellsList (SpellsName text) separator xs ts q → SpellsList (SpellsName text) separator ys ts r
    → (Begins separator q → ⊥) → (Begins separator r → ⊥) → (xs ≡ ys) × (q ≡ r)
names_once a b m n = items_once (λ x y us v w c d. name_once c d) a b m n

-- what holds of each element of two lists, one behind the other
module _ {A : Type 0} (P : A → Type 0) where
  pub all_front : (xs ys : List A) → AllByRecursion P (xs ++ ys) → AllByRecursion P xs
  all_front [] ys all = tt
  all_front (x ∷ xs) ys all = (all.0, all_front xs ys all.1)

  pub all_back : (xs ys : List A) → AllByRecursion P (xs ++ ys) → AllByRecursion P ys
  all_back [] ys all = all
  all_back (x ∷ xs) ys all = all_back xs ys all.1

  pub all_both : (xs ys : List A) → AllByRecursion P xs → AllByRecursion P ys → AllByRecursion P (xs ++ ys)
  all_both [] ys front back = back
  all_both (x ∷ xs) ys front back = (front.0, all_both xs ys front.1 back)
