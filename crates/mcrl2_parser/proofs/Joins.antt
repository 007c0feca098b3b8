-- The operands of an expression join to what its tokens spell.
use Rattle.std.proofs.Common.{◌≡◌, ℕ, zero, suc, ◌+◌, ◌<◌, ◌≤◌, min, Bool, true, false, ◌&&◌, if◌then◌else◌, List, [], ◌∷◌, ◌++◌, Some, nat_eq, reverse, length, drop, get_or, refl, ap, sym, ◌∙◌, subst, add-one, arith}
use Rattle.std.specs.List.{list_all}
use Rattle.std.proofs.Math.Nat.{min-le_left, min-le_right}
use Rattle.std.proofs.lemmas.Bool.{cond_both, eqb-true, eqb-false}
use Rattle.std.proofs.lemmas.List.{reverse-append, drop_more, drop_all}
use Rattle.mcrl2_lexer.specs.declared.token.Token.{Token}
use Rattle.mcrl2_syntax.specs.declared.data_tree.InfixSign.{InfixSign}
use Rattle.mcrl2_syntax.specs.declared.data_tree.DataTree.{DataTree}
use Rattle.mcrl2_syntax.specs.DataTrees.{PlainData, Operand, plain_data, plain_operands}
use Rattle.mcrl2_syntax.specs.InfixSigns.{infix_of, level_of, grouped}
use Rattle.mcrl2_syntax.specs.SpelledData.{SpellsUnit, SpellsData, SpellsLevel, level_unit, level_chain, SpellsTail, tail_end, tail_more}
use Rattle.mcrl2_parser.specs.Operands.{a_sign, SpellsOperands, operands_end, operands_more, tightest, with_operand, parted, joined_at, joined_up_to}
use Rattle.mcrl2_parser.proofs.Operands.{some_level, greatest_level, pushed_operands}

-- Operands in front of some that are parted already.
abbrev pub parted_onto : ℕ → List Operand → List Operand × List Operand → List Operand × List Operand
parted_onto k [] behind = behind
parted_onto k (o ∷ os) behind = with_operand k o (parted_onto k os behind)

parted_last : (k : ℕ) (os : List Operand) (o : Operand) (behind : List Operand × List Operand) → parted_onto k (os ++ o ∷ []) behind ≡ parted_onto k os (with_operand k o behind)
parted_last k [] o behind = refl
parted_last k (p ∷ os) o behind = ap (λ (x : List Operand × List Operand). with_operand k p x) (parted_last k os o behind)

parted_whole : (k : ℕ) (os : List Operand) → parted_onto k os ([], []) ≡ parted k os
parted_whole k [] = refl
parted_whole k (o ∷ os) = ap (λ (x : List Operand × List Operand). with_operand k o x) (parted_whole k os)

with_same : (k : ℕ) (o : Operand) (behind : List Operand × List Operand) → level_of o.0 ≡ k → with_operand k o behind ≡ (o ∷ behind.0, behind.1)
with_same k o behind e =
    cond_both (nat_eq (level_of o.0) k) (o ∷ behind.0, behind.1) ([], (o.0, grouped k o.1 behind.0) ∷ behind.1) (λ (x : List Operand × List Operand). x ≡ (o ∷ behind.0, behind.1))
    (λ is. refl) (λ not_so. absurd (eqb-false (level_of o.0) k not_so e))

with_other : (k : ℕ) (o : Operand) (behind : List Operand × List Operand) → (level_of o.0 ≡ k → ⊥) → with_operand k o behind ≡ ([], (o.0, grouped k o.1 behind.0) ∷ behind.1)
with_other k o behind differs =
    cond_both (nat_eq (level_of o.0) k) (o ∷ behind.0, behind.1) ([], (o.0, grouped k o.1 behind.0) ∷ behind.1)
    (λ (x : List Operand × List Operand). x ≡ ([], (o.0, grouped k o.1 behind.0) ∷ behind.1)) (λ is. absurd (differs (eqb-true (level_of o.0) k is))) (λ not_so. refl)

-- The last operands are parted, and stand in two lists, from the last one on.
abbrev pub PartedSoFar : ℕ → List (InfixSign × DataTree) → List (InfixSign × DataTree) → List (InfixSign × DataTree) → List (InfixSign × DataTree) → Type 0
PartedSoFar k all left run others = parted_onto k (plain_operands left) (plain_operands (reverse run), plain_operands (reverse others)) ≡ parted k (plain_operands all)

pub parted_begins : (k : ℕ) (all : List (InfixSign × DataTree)) → PartedSoFar k all all [] []
parted_begins k all = parted_whole k (plain_operands all)

reversed : (xs : List (InfixSign × DataTree)) (x : InfixSign × DataTree) → reverse (xs ++ x ∷ []) ≡ x ∷ reverse xs
reversed xs x = reverse-append xs (x ∷ [])

pub parted_joins : (k : ℕ) (all left rest run longer others : List (InfixSign × DataTree)) (sign : InfixSign) (tree : DataTree) → PartedSoFar k all left run others → left ≡ rest ++ (sign, tree) ∷ []
    → level_of sign ≡ k → longer ≡ run ++ (sign, tree) ∷ [] → PartedSoFar k all rest longer others
parted_joins k all left rest run longer others sign tree so e is pushed =
    ap (λ (x : List (InfixSign × DataTree)). parted_onto k (plain_operands rest) (plain_operands x, plain_operands (reverse others))) (ap reverse pushed ∙ reversed run (sign, tree))
    ∙ ap (λ (x : List Operand × List Operand). parted_onto k (plain_operands rest) x)
    (sym (with_same k (sign, plain_data tree) (plain_operands (reverse run), plain_operands (reverse others)) is))
    ∙ sym (parted_last k (plain_operands rest) (sign, plain_data tree) (plain_operands (reverse run), plain_operands (reverse others)))
    ∙ ap (λ (x : List Operand). parted_onto k x (plain_operands (reverse run), plain_operands (reverse others))) (sym (ap plain_operands e ∙ pushed_operands rest sign tree))
    ∙ so

pub parted_ends : (k : ℕ) (all left rest run turned others longer : List (InfixSign × DataTree)) (sign : InfixSign) (tree whole : DataTree) → PartedSoFar k all left run others
    → left ≡ rest ++ (sign, tree) ∷ [] → (level_of sign ≡ k → ⊥) → turned ≡ reverse run → plain_data whole ≡ grouped k (plain_data tree) (plain_operands turned)
    → longer ≡ others ++ (sign, whole) ∷ [] → PartedSoFar k all rest [] longer
parted_ends k all left rest run turned others longer sign tree whole so e differs turns is pushed =
    ap (λ (x : List (InfixSign × DataTree)). parted_onto k (plain_operands rest) ([], plain_operands x)) (ap reverse pushed ∙ reversed others (sign, whole))
    ∙ ap (λ (x : PlainData). parted_onto k (plain_operands rest) ([], (sign, x) ∷ plain_operands (reverse others))) (is ∙ ap (λ (x : List (InfixSign × DataTree)). grouped k (plain_data tree) (plain_operands x)) turns)
    ∙ ap (λ (x : List Operand × List Operand). parted_onto k (plain_operands rest) x)
    (sym (with_other k (sign, plain_data tree) (plain_operands (reverse run), plain_operands (reverse others)) differs))
    ∙ sym (parted_last k (plain_operands rest) (sign, plain_data tree) (plain_operands (reverse run), plain_operands (reverse others)))
    ∙ ap (λ (x : List Operand). parted_onto k x (plain_operands (reverse run), plain_operands (reverse others))) (sym (ap plain_operands e ∙ pushed_operands rest sign tree))
    ∙ so

-- One level more.
pub joined_none : (x : PlainData × List Operand) → x ≡ joined_up_to 0 x
unfolding joined_up_to
joined_none x = refl

pub joined_more : (k : ℕ) (x y z : PlainData × List Operand) → y ≡ joined_up_to k x → z ≡ joined_at (k + 1) y → z ≡ joined_up_to (k + 1) x
unfolding joined_up_to
joined_more k x y z e f = f ∙ rw add-one (ap (λ (w : PlainData × List Operand). joined_at (suc k) w) e)

-- Operands of a level, each behind a looser sign.
data SpellsAbove (text : List ℕ) (k : ℕ) : List Operand → List Token → List Token → Type 0 where
  above_end : {r : List Token} → SpellsAbove text k [] r r
  above_more : {sign : InfixSign} {d : PlainData} {os : List Operand} {t : Token} {ts us r : List Token} → infix_of t.kind ≡ Some sign → k < level_of sign → SpellsLevel text k d ts us
      → SpellsAbove text k os us r → SpellsAbove text k ((sign, d) ∷ os) (t ∷ ts) r

above_units : {text : List ℕ} {os : List Operand} {ts r : List Token} → SpellsOperands text os ts r → SpellsAbove text 0 os ts r
above_units operands_end = above_end
above_units (operands_more {sign = sign} (a_sign h) a b) = above_more h (some_level sign) (level_unit a) (above_units b)

-- behind the greatest level stands no sign
nothing_above : {text : List ℕ} {os : List Operand} {ts r : List Token} → SpellsAbove text 11 os ts r → ts ≡ r
nothing_above above_end = refl
nothing_above (above_more {sign = sign} h less a b) = absurd (omega (arith, less, greatest_level sign))

record SpellsParted (text : List ℕ) (k : ℕ) (both : List Operand × List Operand) (ts r : List Token) : Type 0 where
  pub between : List Token
  pub run : SpellsTail text k both.0 ts between
  pub others : SpellsAbove text (suc k) both.1 between r

parted_more : {text : List ℕ} {k : ℕ} {sign : InfixSign} {d : PlainData} {both : List Operand × List Operand} {t : Token} {ts us r : List Token} → infix_of t.kind ≡ Some sign → k < level_of sign
    → SpellsLevel text k d ts us → SpellsParted text k both us r → SpellsParted text k (with_operand (suc k) (sign, d) both) (t ∷ ts) r
parted_more {text = text} {k = k} {sign = sign} {d = d} {both = both} {t = t} {ts = ts} {r = r} h less a b =
    cond_both (nat_eq (level_of sign) (suc k)) ((sign, d) ∷ both.0, both.1) ([], (sign, grouped (suc k) d both.0) ∷ both.1) (λ (x : List Operand × List Operand). SpellsParted text k x (t ∷ ts) r)
    (λ is. record { between = b.between; run = tail_more h (eqb-true (level_of sign) (suc k) is) a b.run; others = b.others })
    (λ not_so.
    let differs : level_of sign ≡ suc k → ⊥ = eqb-false (level_of sign) (suc k) not_so in
    record { between = t ∷ ts; run = tail_end; others = above_more h (omega (arith, less, differs)) (level_chain a b.run) b.others })

parted_spells : {text : List ℕ} {k : ℕ} {os : List Operand} {ts r : List Token} → SpellsAbove text k os ts r → SpellsParted text k (parted (suc k) os) ts r
parted_spells (above_end {r = r}) = record { between = r; run = tail_end; others = above_end }
parted_spells (above_more h less a b) = parted_more h less a (parted_spells b)

record SpellsJoined (text : List ℕ) (k : ℕ) (x : PlainData × List Operand) (ts r : List Token) : Type 0 where
  pub between : List Token
  pub first : SpellsLevel text k x.0 ts between
  pub others : SpellsAbove text k x.1 between r

joined_spells_at : {text : List ℕ} {k : ℕ} {x : PlainData × List Operand} {ts r : List Token} → SpellsJoined text k x ts r → SpellsJoined text (suc k) (joined_at (suc k) x) ts r
joined_spells_at b = let p = parted_spells b.others in record { between = p.between; first = level_chain b.first p.run; others = p.others }

joined_spells : {text : List ℕ} {d : PlainData} {os : List Operand} {ts us r : List Token} (k : ℕ) → SpellsUnit text d ts us → SpellsOperands text os us r → SpellsJoined text k (joined_up_to k (d, os)) ts r
unfolding joined_up_to
joined_spells {us = us} zero a b = record { between = us; first = level_unit a; others = above_units b }
joined_spells (suc k) a b = joined_spells_at (joined_spells k a b)

-- a unit and its operands spell the expression that they join to
pub data_found : {text : List ℕ} {x d : PlainData} {os : List Operand} {ts us r : List Token} → x ≡ (joined_up_to 11 (d, os)).0 → SpellsUnit text d ts us → SpellsOperands text os us r → SpellsData text x ts r
data_found {text = text} {d = d} {os = os} {ts = ts} {r = r} is a b =
    let whole = joined_spells 11 a b in
    subst (λ (y : PlainData). SpellsData text y ts r) (sym is) (subst (λ (y : List Token). SpellsLevel text 11 (joined_up_to 11 (d, os)).0 ts y) (nothing_above whole.others) whole.first)

-- One operand is itself at each level.
either_way : (b : Bool) (x y d : PlainData) → x ≡ d → y ≡ d → (if b then x else y) ≡ d
either_way true x y d e f = e
either_way false x y d e f = f

grouped_none : (k : ℕ) (d : PlainData) → grouped k d [] ≡ d
grouped_none k d =
    either_way (nat_eq k 1) d _ d refl (either_way (nat_eq k 3) d _ d refl (either_way (nat_eq k 6) d _ d refl (either_way (nat_eq k 9) d _ d refl (either_way (nat_eq k 10) d _ d refl (either_way (nat_eq k 11) d d d refl refl)))))

lt-min : (k a b : ℕ) → k < a → k < b → k < min a b
lt-min k a b less small = omega (arith, less, small)

-- no sign of the level, or of a tighter one, stands between the operands
parted_above : (k : ℕ) (os : List Operand) → k < tightest os → parted k os ≡ ([], os)
parted_above k [] less = refl
parted_above k (o ∷ os) less =
    let at_first : k < level_of o.0 = omega (arith, less, min-le_left (level_of o.0) (tightest os)) in
    ap (λ (x : List Operand × List Operand). with_operand k o x) (parted_above k os (omega (arith, less, min-le_right (level_of o.0) (tightest os))))
    ∙ with_other k o ([], os) (λ is. omega (arith, at_first, is))
    ∙ ap (λ (x : PlainData). ([], (o.0, x) ∷ os)) (grouped_none k o.1)

joined_above : (k : ℕ) (x : PlainData × List Operand) → k < tightest x.1 → x ≡ joined_at k x
joined_above k x less = sym (ap (λ (y : List Operand × List Operand). (grouped k x.0 y.0, y.1)) (parted_above k x.1 less) ∙ ap (λ (y : PlainData). (y, x.1)) (grouped_none k x.0))

-- a level joins its signs, and leaves those of the levels above it
left_above : (k : ℕ) (os : List Operand) → k ≤ tightest os → k < 12 → k < tightest (parted k os).1
left_above k [] least small = small
left_above k (o ∷ os) least small =
    let behind : k < tightest (parted k os).1 = left_above k os (omega (arith, least, min-le_right (level_of o.0) (tightest os))) small in
    let here : k ≤ level_of o.0 = omega (arith, least, min-le_left (level_of o.0) (tightest os)) in
    cond_both (nat_eq (level_of o.0) k) (o ∷ (parted k os).0, (parted k os).1) ([], (o.0, grouped k o.1 (parted k os).0) ∷ (parted k os).1) (λ (x : List Operand × List Operand). k < tightest x.1)
    (λ is. behind)
    (λ not_so.
    let differs : level_of o.0 ≡ k → ⊥ = eqb-false (level_of o.0) k not_so in
    lt-min k (level_of o.0) (tightest (parted k os).1) (omega (arith, here, differs)) behind)

pub some_tightest : (os : List Operand) → 0 < tightest os
some_tightest [] = omega arith
some_tightest (o ∷ os) = lt-min 0 (level_of o.0) (tightest os) (some_level o.0) (some_tightest os)

tightest_bound : (os : List Operand) → tightest os ≤ 12
tightest_bound [] = omega arith
tightest_bound (o ∷ os) = omega (arith, tightest_bound os, min-le_right (level_of o.0) (tightest os))

and_true : (a b : Bool) → a && b ≡ true → (a ≡ true) × (b ≡ true)
and_true true b e = (refl, e)
and_true false b e = absurd cc

all_parted : (k : ℕ) (os : List (InfixSign × DataTree)) → list_all (λ o. nat_eq (level_of o.0) k) os ≡ true → parted k (plain_operands os) ≡ (plain_operands os, [])
all_parted k [] e = refl
all_parted k (o ∷ os) e =
    let both = and_true (nat_eq (level_of o.0) k) (list_all (λ o. nat_eq (level_of o.0) k) os) e in
    ap (λ (x : List Operand × List Operand). with_operand k (o.0, plain_data o.1) x) (all_parted k os both.1) ∙ with_same k (o.0, plain_data o.1) (plain_operands os, []) (eqb-true (level_of o.0) k both.0)

-- all signs between the operands are of the level
pub parted_all : (k : ℕ) (os seen others : List (InfixSign × DataTree)) → seen ≡ os → true ≡ list_all (λ o. nat_eq (level_of o.0) k) seen → others ≡ []
    → (plain_operands os, plain_operands others) ≡ parted k (plain_operands os)
parted_all k os seen others same e none = rw none (sym (all_parted k os (subst (λ (x : List (InfixSign × DataTree)). list_all (λ o. nat_eq (level_of o.0) k) x ≡ true) same (sym e))))

-- the tightest level of some operands, and of all of them
pub tightest_begins : (os : List (InfixSign × DataTree)) → (min 12 (tightest (plain_operands os)) ≡ tightest (plain_operands os)) × (12 ≤ 12)
tightest_begins os = (omega (arith, tightest_bound (plain_operands os)), omega arith)

pub tightest_goes_on : (os : List (InfixSign × DataTree)) (k : ℕ) (o : InfixSign × DataTree) (level : ℕ) → k < length os → o ≡ get_or os k o
    → (min level (tightest (plain_operands (drop k os))) ≡ tightest (plain_operands os)) × (level ≤ 12)
    → (min (min level (level_of o.0)) (tightest (plain_operands (drop (k + 1) os))) ≡ tightest (plain_operands os)) × (min level (level_of o.0) ≤ 12)
tightest_goes_on os k o level less is so =
    let front : drop k os ≡ o ∷ drop (k + 1) os = drop_more os k o less ∙ ap (λ (x : InfixSign × DataTree). x ∷ drop (k + 1) os) (sym is) in
    let whole : min level (min (level_of o.0) (tightest (plain_operands (drop (k + 1) os)))) ≡ tightest (plain_operands os) = ap (λ (x : List (InfixSign × DataTree)). min level (tightest (plain_operands x))) (sym front) ∙ so.0 in
    (omega (arith, whole), omega (arith, so.1, min-le_left level (level_of o.0)))

pub tightest_ends : (os : List (InfixSign × DataTree)) (k level : ℕ) → length os ≤ k → (min level (tightest (plain_operands (drop k os))) ≡ tightest (plain_operands os)) × (level ≤ 12) → level ≡ tightest (plain_operands os)
tightest_ends os k level all so =
    let whole : min level 12 ≡ tightest (plain_operands os) = ap (λ (x : List (InfixSign × DataTree)). min level (tightest (plain_operands x))) (sym (drop_all k os all)) ∙ so.0 in
    omega (arith, whole, so.1)

-- One level more, where signs of it stand, and where none do.
pub level_joined : (k level : ℕ) (x y z : PlainData × List Operand) → (y ≡ joined_up_to k x) × (level ≡ tightest y.1) × (k < level) → k < 11 → level ≡ k + 1 → z ≡ joined_at level y
    → (z ≡ joined_up_to (k + 1) x) × (k + 1 < tightest z.1)
level_joined k level x y z so small is joins =
    let at : z ≡ joined_at (k + 1) y = joins ∙ ap (λ (l : ℕ). joined_at l y) is in
    let least : k + 1 ≤ tightest y.1 = omega (arith, so.1, is) in
    (joined_more k x y z so.0 at, subst (λ (w : PlainData × List Operand). k + 1 < tightest w.1) (sym at) (left_above (k + 1) y.1 least (omega (arith, small))))

pub level_passed : (k level : ℕ) (x y : PlainData × List Operand) → (y ≡ joined_up_to k x) × (level ≡ tightest y.1) × (k < level) → (level ≡ k + 1 → ⊥) → (y ≡ joined_up_to (k + 1) x) × (level ≡ tightest y.1) × (k + 1 < level)
level_passed k level x y so differs =
    let above : k + 1 < level = omega (arith, so.2, differs) in
    (joined_more k x y y so.0 (joined_above (k + 1) y (omega (arith, above, so.1))), so.1, above)

alone_joins : (k : ℕ) (d : PlainData) → joined_up_to k (d, []) ≡ (d, [])
unfolding joined_up_to
alone_joins zero d = refl
alone_joins (suc k) d = ap (λ (x : PlainData × List Operand). joined_at (suc k) x) (alone_joins k d) ∙ ap (λ (x : PlainData). (x, [])) (grouped_none (suc k) d)

pub alone_joined : (k : ℕ) (d : PlainData) (os : List (InfixSign × DataTree)) → os ≡ [] → d ≡ (joined_up_to k (d, plain_operands os)).0
alone_joined k d os e = rw e (sym (ap (λ (x : PlainData × List Operand). x.0) (alone_joins k d)))
