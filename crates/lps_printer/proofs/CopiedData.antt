-- Tokens that say the same spell the same expression: what a copied declaration rests on.
use Rattle.std.proofs.Common.{◌≡◌, ℕ, suc, Bool, true, false, cond, nat_eq, List, [], ◌∷◌, map, codes, refl, ap, ap₂, sym, ◌∙◌, subst}
use Rattle.mcrl2_lexer.specs.declared.kind.Kind.TheVariants.{Identifier, LeftParen, RightParen, LeftBracket, RightBracket, Comma}
use Rattle.mcrl2_lexer.specs.declared.token.Token.{Token}
use Rattle.mcrl2_lexer.specs.Tokens.{slice_of}
use Rattle.mcrl2_lexer.specs.Words.{decimal}
use Rattle.mcrl2_syntax.specs.declared.data_tree.InfixSign.{InfixSign}
use Rattle.mcrl2_syntax.specs.DataTrees.{PlainData, Operand, datas_of, operands_of}
use Rattle.mcrl2_syntax.specs.InfixSigns.{prefix_of, infix_of, joined_by, to_left, to_right, to_sum, to_product, to_and, to_or, grouped}
use Rattle.mcrl2_syntax.specs.SpelledData.{SpellsUnit, unit_name, unit_numeral, unit_true, unit_false, unit_empty, unit_list, unit_apply, unit_brackets, unit_prefix, SpellsItems, items_last, items_more, SpellsLevel, level_unit, level_chain, SpellsTail, tail_end, tail_more}
use Rattle.lps_printer.specs.CopyLaws.{Alike, alike_none, alike_more, CopiesSpellTheSame}
use Rattle.sort_table.specs.Expressions as typed
use Rattle.sort_table.specs.BareData.{prefix_text, infix_text, bare_data, bare_datas, to_the_left, behind}

-- ---- grouping of what is alike

abbrev pub bares : List Operand → List (InfixSign × typed.Expression)
bares os = map (λ o. (o.0, bare_data o.1)) os

abbrev left_bare : typed.Expression → List (InfixSign × typed.Expression) → typed.Expression
left_bare e [] = e
left_bare e (o ∷ os) = left_bare (typed.two (infix_text o.0) e o.1) os

abbrev right_bare : typed.Expression → List (InfixSign × typed.Expression) → typed.Expression
right_bare e [] = e
right_bare e (o ∷ os) = typed.two (infix_text o.0) e (right_bare o.1 os)

abbrev behind_bare : List ℕ → typed.Expression → List (InfixSign × typed.Expression) → typed.Expression
behind_bare f e [] = e
behind_bare f e (o ∷ os) = typed.two f e (behind_bare f o.1 os)

left_is : (d : PlainData) (os : List Operand) → bare_data (to_left d os) ≡ left_bare (bare_data d) (bares os)
left_is d [] = refl
left_is d (o ∷ os) = left_is (joined_by o.0 d o.1) os

right_is : (d : PlainData) (os : List Operand) → bare_data (to_right d os) ≡ right_bare (bare_data d) (bares os)
right_is d [] = refl
right_is d (o ∷ os) = ap (λ (e : typed.Expression). typed.two (infix_text o.0) (bare_data d) e) (right_is o.1 os)

chain_is : (e : typed.Expression) (os : List Operand) → to_the_left e (operands_of os) ≡ left_bare e (bares os)
chain_is e [] = refl
chain_is e (o ∷ os) = chain_is (typed.two (infix_text o.0) e (bare_data o.1)) os

sum_is : (d : PlainData) (os : List Operand) → bare_data (to_sum d os) ≡ left_bare (bare_data d) (bares os)
sum_is d [] = refl
sum_is d (o ∷ os) = chain_is (bare_data d) (o ∷ os)

product_is : (d : PlainData) (os : List Operand) → bare_data (to_product d os) ≡ left_bare (bare_data d) (bares os)
product_is d [] = refl
product_is d (o ∷ os) = chain_is (bare_data d) (o ∷ os)

behind_is : (f : List ℕ) (e : typed.Expression) (os : List Operand) → behind f e (datas_of (map (λ x. x.1) os)) ≡ behind_bare f e (bares os)
behind_is f e [] = refl
behind_is f e (o ∷ os) = ap (λ (x : typed.Expression). typed.two f e x) (behind_is f (bare_data o.1) os)

and_is : (d : PlainData) (os : List Operand) → bare_data (to_and d os) ≡ behind_bare (codes "&&") (bare_data d) (bares os)
and_is d [] = refl
and_is d (o ∷ os) = behind_is (codes "&&") (bare_data d) (o ∷ os)

or_is : (d : PlainData) (os : List Operand) → bare_data (to_or d os) ≡ behind_bare (codes "||") (bare_data d) (bares os)
or_is d [] = refl
or_is d (o ∷ os) = behind_is (codes "||") (bare_data d) (o ∷ os)

either_bare : (b : Bool) (x y : PlainData) (e f : typed.Expression) → bare_data x ≡ e → bare_data y ≡ f → bare_data (cond b x y) ≡ cond b e f
either_bare true x y e f h k = h
either_bare false x y e f h k = k

abbrev grouped_bare : ℕ → typed.Expression → List (InfixSign × typed.Expression) → typed.Expression
grouped_bare k e os = cond (nat_eq k 1) (left_bare e os) (cond (nat_eq k 3) (left_bare e os) (cond (nat_eq k 6) (right_bare e os) (cond (nat_eq k 9) (behind_bare (codes "&&") e os)
    (cond (nat_eq k 10) (behind_bare (codes "||") e os) (cond (nat_eq k 11) (right_bare e os) (left_bare e os))))))

grouped_is : (k : ℕ) (d : PlainData) (os : List Operand) → bare_data (grouped k d os) ≡ grouped_bare k (bare_data d) (bares os)
grouped_is k d os =
    either_bare (nat_eq k 1) _ _ _ _ (product_is d os) (either_bare (nat_eq k 3) _ _ _ _ (sum_is d os) (either_bare (nat_eq k 6) _ _ _ _ (right_is d os) (either_bare (nat_eq k 9) _ _ _ _ (and_is d os)
    (either_bare (nat_eq k 10) _ _ _ _ (or_is d os) (either_bare (nat_eq k 11) _ _ _ _ (right_is d os) (left_is d os))))))

-- ---- the copy of what is spelled

pub record Copy (Plain Bare : Type 0) (to : Plain → Bare) (text other : List ℕ) (Spells : Plain → List Token → List Token → Type 0) (is_ : Bare) (r us : List Token) : Type 0 where
  pub tree : Plain
  pub after : List Token
  pub spells : Spells tree us after
  pub alike : Alike text other r after
  pub is : to tree ≡ is_

abbrev UnitCopy : List ℕ → List ℕ → PlainData → List Token → List Token → Type 0
UnitCopy text other d = Copy PlainData typed.Expression bare_data text other (SpellsUnit other) (bare_data d)

abbrev LevelCopy : List ℕ → List ℕ → ℕ → PlainData → List Token → List Token → Type 0
LevelCopy text other k d = Copy PlainData typed.Expression bare_data text other (SpellsLevel other k) (bare_data d)

abbrev ItemsCopy : List ℕ → List ℕ → List PlainData → List Token → List Token → Type 0
ItemsCopy text other ds = Copy (List PlainData) typed.Expressions (λ es. bare_datas (datas_of es)) text other (SpellsItems other) (bare_datas (datas_of ds))

abbrev TailCopy : List ℕ → List ℕ → ℕ → List Operand → List Token → List Token → Type 0
TailCopy text other k os = Copy (List Operand) (List (InfixSign × typed.Expression)) bares text other (SpellsTail other k) (bares os)

close_list : {text other : List ℕ} (ds : List PlainData) {v : Token} {r : List Token} (u : Token) (us after : List Token) (trees : List PlainData) → u.kind ≡ LeftBracket → v.kind ≡ RightBracket → SpellsItems other trees us after → Alike text other (v ∷ r) after
    → bare_datas (datas_of trees) ≡ bare_datas (datas_of ds) → Copy PlainData typed.Expression bare_data text other (SpellsUnit other) (typed.listed (bare_datas (datas_of ds))) r (u ∷ us)
close_list ds u us after trees k l spells (alike_more {us = vs} h s a) is = record { tree = _; after = vs; spells = unit_list k spells (sym h ∙ l); alike = a; is = ap (λ (x : typed.Expressions). typed.listed x) is }

close_call : {text other : List ℕ} (ds : List PlainData) (t : Token) {w : Token} {r : List Token} (u v : Token) (us after : List Token) (trees : List PlainData) → u.kind ≡ Identifier → v.kind ≡ LeftParen → w.kind ≡ RightParen → slice_of text t ≡ slice_of other u
    → SpellsItems other trees us after → Alike text other (w ∷ r) after → bare_datas (datas_of trees) ≡ bare_datas (datas_of ds)
    → Copy PlainData typed.Expression bare_data text other (SpellsUnit other) (typed.word (slice_of text t) (bare_datas (datas_of ds))) r (u ∷ v ∷ us)
close_call ds t u v us after trees k o l n spells (alike_more {us = vs} h s a) is =
    record { tree = _; after = vs; spells = unit_apply k o spells (sym h ∙ l); alike = a; is = ap₂ (λ (x : List ℕ) (y : typed.Expressions). typed.word x y) (sym n) is }

close_brackets : {text other : List ℕ} (d : PlainData) {v : Token} {r : List Token} (u : Token) (us after : List Token) (tree : PlainData) → u.kind ≡ LeftParen → v.kind ≡ RightParen → SpellsLevel other 11 tree us after → Alike text other (v ∷ r) after
    → bare_data tree ≡ bare_data d → Copy PlainData typed.Expression bare_data text other (SpellsUnit other) (bare_data d) r (u ∷ us)
close_brackets d u us after tree k l spells (alike_more {us = vs} h s a) is = record { tree = _; after = vs; spells = unit_brackets k spells (sym h ∙ l); alike = a; is = is }

behind_comma : {text other : List ℕ} (d : PlainData) (ds : List PlainData) {v : Token} {r rest us : List Token} (after : List Token) (tree : PlainData) → v.kind ≡ Comma → SpellsLevel other 11 tree us after → bare_data tree ≡ bare_data d
    → ((vs : List Token) → Alike text other rest vs → ItemsCopy text other ds r vs) → Alike text other (v ∷ rest) after → ItemsCopy text other (d ∷ ds) r us
behind_comma d ds after tree k spells is read (alike_more {us = vs} h s a) =
    let c = read vs a in
    record { tree = tree ∷ c.tree; after = c.after; spells = items_more spells (sym h ∙ k) c.spells; alike = c.alike; is = ap₂ (λ (x : typed.Expression) (y : typed.Expressions). typed.more x y) is c.is }

mutual
  pub copy_unit : {text other : List ℕ} {d : PlainData} {ts r us : List Token} → SpellsUnit text d ts r → Alike text other ts us → UnitCopy text other d r us
  copy_unit (unit_name k) (alike_more {us = us} h s a) = record { tree = _; after = us; spells = unit_name (sym h ∙ k); alike = a; is = ap (λ (x : List ℕ). typed.word x typed.none) (sym s) }
  copy_unit (unit_numeral k) (alike_more {us = us} h s a) = record { tree = _; after = us; spells = unit_numeral (sym h ∙ k); alike = a; is = ap (λ (x : List ℕ). typed.numeral (decimal x)) (sym s) }
  copy_unit (unit_true k) (alike_more {us = us} h s a) = record { tree = _; after = us; spells = unit_true (sym h ∙ k); alike = a; is = refl }
  copy_unit (unit_false k) (alike_more {us = us} h s a) = record { tree = _; after = us; spells = unit_false (sym h ∙ k); alike = a; is = refl }
  copy_unit (unit_empty k l) (alike_more h s (alike_more {us = us} i p a)) = record { tree = _; after = us; spells = unit_empty (sym h ∙ k) (sym i ∙ l); alike = a; is = refl }
  copy_unit (unit_list {ds = ds} k items l) (alike_more {u = u} {us = us} h s a) =
      let c = copy_items items a in close_list ds u us c.after c.tree (sym h ∙ k) l c.spells c.alike c.is
  copy_unit (unit_apply {t = t} {ds = ds} k o items l) (alike_more {u = u} h s (alike_more {u = v} {us = us} i p a)) =
      let c = copy_items items a in close_call ds t u v us c.after c.tree (sym h ∙ k) (sym i ∙ o) l s c.spells c.alike c.is
  copy_unit (unit_brackets {d = d} k inner l) (alike_more {u = u} {us = us} h s a) =
      let c = copy_level inner a in close_brackets d u us c.after c.tree (sym h ∙ k) l c.spells c.alike c.is
  copy_unit (unit_prefix {sign = sign} k inner) (alike_more h s a) =
      let c = copy_unit inner a in record { tree = _; after = c.after; spells = unit_prefix (ap prefix_of (sym h) ∙ k) c.spells; alike = c.alike; is = ap (λ (x : typed.Expression). typed.one (prefix_text sign) x) c.is }

  pub copy_items : {text other : List ℕ} {ds : List PlainData} {ts r us : List Token} → SpellsItems text ds ts r → Alike text other ts us → ItemsCopy text other ds r us
  copy_items (items_last one) a = let c = copy_level one a in record { tree = c.tree ∷ []; after = c.after; spells = items_last c.spells; alike = c.alike; is = ap (λ (x : typed.Expression). typed.more x typed.none) c.is }
  copy_items (items_more {d = d} {ds = ds} one k items) a =
      let c = copy_level one a in behind_comma d ds c.after c.tree k c.spells c.is (λ vs b. copy_items items b) c.alike

  pub copy_level : {text other : List ℕ} {k : ℕ} {d : PlainData} {ts r us : List Token} → SpellsLevel text k d ts r → Alike text other ts us → LevelCopy text other k d r us
  copy_level (level_unit one) a = let c = copy_unit one a in record { tree = c.tree; after = c.after; spells = level_unit c.spells; alike = c.alike; is = c.is }
  copy_level (level_chain {k = k} {d = d} {os = os} one tail) a =
      let c = copy_level one a in
      let t = copy_tail tail c.alike in
      record {
        tree = grouped (suc k) c.tree t.tree;
        after = t.after;
        spells = level_chain c.spells t.spells;
        alike = t.alike;
        is = grouped_is (suc k) c.tree t.tree ∙ ap₂ (λ (e : typed.Expression) (xs : List (InfixSign × typed.Expression)). grouped_bare (suc k) e xs) c.is t.is ∙ sym (grouped_is (suc k) d os);
      }

  pub copy_tail : {text other : List ℕ} {k : ℕ} {os : List Operand} {ts r us : List Token} → SpellsTail text k os ts r → Alike text other ts us → TailCopy text other k os r us
  copy_tail {us = us} tail_end a = record { tree = []; after = us; spells = tail_end; alike = a; is = refl }
  copy_tail (tail_more {sign = sign} k l one tail) (alike_more h s a) =
      let c = copy_level one a in
      let t = copy_tail tail c.alike in
      record {
        tree = (sign, c.tree) ∷ t.tree;
        after = t.after;
        spells = tail_more (ap infix_of (sym h) ∙ k) l c.spells t.spells;
        alike = t.alike;
        is = ap₂ (λ (e : typed.Expression) (xs : List (InfixSign × typed.Expression)). (sign, e) ∷ xs) c.is t.is;
      }

pub none_alike : {text other : List ℕ} {us : List Token} → Alike text other [] us → us ≡ []
none_alike alike_none = refl

pub copies_spell_the_same : CopiesSpellTheSame
copies_spell_the_same text other ts us d spells alike =
    let c = copy_level spells alike in
    record { tree = c.tree; spells = subst (λ (r : List Token). SpellsLevel other 11 c.tree us r) (none_alike c.alike) c.spells; is = c.is }
