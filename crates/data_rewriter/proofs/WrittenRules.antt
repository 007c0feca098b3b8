-- Written equations that match.
use Rattle.std.proofs.Common.{◌≡◌, ℕ, zero, suc, ◌+◌, ◌-◌, ◌<◌, ◌≤◌, take, get_or, List, [], ◌∷◌, ◌++◌, append-nil, length, refl, sym, ap, ◌∙◌, subst, arith, Some, None, Bool, true, false, cond, ⊎_elim}
use Rattle.std.proofs.Common.{Vec}
use Rattle.std.specs.Prelude.{MatchOption, ◌⊎◌, Option, IfSome, slice_get, ◌==◌}
use Rattle.std.specs.List.{All, Contains}
use Rattle.std.proofs.lemmas.Option.{slice_get_read, slice_get_within, get_or_from_slice_get}
use Rattle.std.proofs.lemmas.List.Elements.{Contains-append_cases, All-nil, All-cons, All-head, All-tail, All-contains, All-weaker}
use Rattle.data_theory.specs.declared.ids.TermId.{TermId}
use Rattle.data_theory.specs.declared.ids.FunId.{FunId}
use Rattle.data_theory.specs.declared.ids.VarId.{VarId}
use Rattle.data_theory.specs.Terms as terms
use Rattle.data_theory.specs.Terms.{Symbol, truth, Term, Terms, put}
use Rattle.data_theory.specs.Equations.{trueᵗ}
use Rattle.data_theory.specs.Provable.{Equation}
use Rattle.data_theory.specs.Rewriting.{lines, laid, Applies, a_line, an_equation, charge_of}
use Rattle.data_theory.specs.Signature.{Sig}
use Rattle.data_theory.specs.IdTables.{IsTable}
use Rattle.data_theory.specs.IdData.{data_meant}
use Rattle.data_theory.specs.IdTrees.{Tree, Trees, variable, numeral, function, none, more, put_tree, put_trees}
use Rattle.data_theory.specs.IdTerms.{term_under, IsTreeWithin, AreTreesWithin}
use Rattle.data_theory.proofs.IdTermLemmas.{putting_in_trees_puts_in_terms}
use Rattle.data_theory.proofs.IdSymbolLemmas.{different_functions_mean_different_symbols}
use Rattle.term_pool.specs.HeadTrees.{written_tree, tree_at, trees_at, IsIn, AreIn}
use Rattle.term_pool.specs.declared.terms.Head.{Head}
use Rattle.term_pool.specs.declared.terms.Head.TheVariants.{Fun}
use Rattle.term_pool.specs.Bindings.{listed, listed_terms}
use Rattle.term_pool.specs.Pools.{Extends}
use Rattle.term_pool.proofs.Filling.{listed_same}
use Rattle.term_pool.proofs.NodeTrees.{tree_kept}
use Rattle.data_rewriter.specs.declared.tables.Rule.{Rule}
use Rattle.data_rewriter.specs.Standing.{IsTerm, StandsFor, term_at}
use Rattle.data_rewriter.specs.States.{AreTablesOf, IsFirst, IsFoundWithin, HasCondition, HasHead, Rise}
use Rattle.data_rewriter.specs.Written.{IsRule, IsLeft, IsEquationOf, AreEquationsOf}
use Rattle.data_rewriter.specs.Matching.{IsMatchState, Lays, Misses, AreListed, Agrees}
use Rattle.data_rewriter.specs.FirstRules.{put_by, IsMatched, IsFirstRule}
use Rattle.data_rewriter.specs.FirstLines.{LineAt, IsFirstAt, IsConditionMade}
use Rattle.data_rewriter.specs.declared.rights.Line.{Line}
use Rattle.data_rewriter.proofs.LastLine.{line_inside}
use Rattle.data_rewriter.specs.declared.tables.Tables.{Tables}
use Rattle.data_rewriter.specs.declared.equations.Matched.{Matched}
use Rattle.data_rewriter.specs.declared.equations.Found.{Found}
use Rattle.data_rewriter.proofs.Standings.{merged_within, term_kept}

-- ---- terms put in stay over the signature
module _ (sig : Sig) (table : IsTable sig) (e : VarId → Tree) (h : (v : VarId) → IsTreeWithin sig (e v)) where
  mutual
    pub put_within : (t : Tree) → IsTreeWithin sig t → IsTreeWithin sig (put_tree e t)
    put_within (variable v) w = h v
    put_within (numeral s z) w = w
    put_within (function f ts) w = merged_within sig table f (put_trees e ts) w.0 (put_all_within ts w.1)

    put_all_within : (ts : Trees) → AreTreesWithin sig ts → AreTreesWithin sig (put_trees e ts)
    put_all_within none w = tt
    put_all_within (more t ts) w = (put_within t w.0, put_all_within ts w.1)

module _ (sig : Sig) (ts : List Tree) where
  pub listed_within : (found : List (VarId × TermId)) → All (λ (p : VarId × TermId). IsTerm sig ts p.1) found → (v : VarId) → IsTreeWithin sig (listed ts found v)
  listed_within [] h v = tt
  listed_within (p ∷ found) h v = by_test (p.0.0 == v.0) (tree_at ts p.1) (listed ts found v) (All-head (λ (p : VarId × TermId). IsTerm sig ts p.1) p found h).within (listed_within found (All-tail (λ (p : VarId × TermId). IsTerm sig ts p.1) p found h) v)
    where
      by_test : (b : Bool) (t u : Tree) → IsTreeWithin sig t → IsTreeWithin sig u → IsTreeWithin sig (cond b t u)
      by_test true t u a b = a
      by_test false t u a b = b

  pub listed_in : (found : List (VarId × TermId)) → All (λ (p : VarId × TermId). IsTerm sig ts p.1) found → AreIn ts (listed_terms found)
  listed_in [] h = All-nil (IsIn ts)
  listed_in (p ∷ found) h = All-cons (IsIn ts) p.1 (listed_terms found) (All-head (λ (p : VarId × TermId). IsTerm sig ts p.1) p found h).inside (listed_in found (All-tail (λ (p : VarId × TermId). IsTerm sig ts p.1) p found h))

  -- what stands for the variables agrees with what was found
  pub all_agree : (found ps : List (VarId × TermId)) → AreListed ts found ps → All (Agrees sig ts (put_by sig ts found)) ps
  all_agree found [] h = All-nil (Agrees sig ts (put_by sig ts found))
  all_agree found (p ∷ ps) h =
      let here = All-head (λ (p : VarId × TermId). (more : List (VarId × TermId)) → listed ts (found ++ more) p.0 ≡ tree_at ts p.1) p ps h in
      All-cons (Agrees sig ts (put_by sig ts found)) p ps (ap (term_under sig) (ap (λ (l : List (VarId × TermId)). listed ts l p.0) (sym (append-nil found)) ∙ here [])) (all_agree found ps (All-tail (λ (p : VarId × TermId). (more : List (VarId × TermId)) → listed ts (found ++ more) p.0 ≡ tree_at ts p.1) p ps h))

-- the instance that a pool makes, in a pool that has grown since
pub put_stands : (sig : Sig) → IsTable sig → (old mid new : List Tree) → Extends old mid → (found : List (VarId × TermId)) → All (λ (p : VarId × TermId). IsTerm sig old p.1) found → (t : TermId) → IsTerm sig old t → (id : TermId) → IsIn new id → tree_at new id ≡ put_tree (listed mid found) (tree_at mid t) → StandsFor sig new id (put (put_by sig old found) (term_at sig old t))
put_stands sig table old mid new grows found all t it id inside e =
    let same : listed mid found ≡ listed old found = listed_same old mid found grows (listed_in sig old found all) in
    let e' : tree_at new id ≡ put_tree (listed old found) (tree_at old t) = e ∙ (λ i. put_tree (same i) (tree_kept old mid t grows it.inside i)) in
    record {
      term = record { inside = inside; within = subst (IsTreeWithin sig) (sym e') (put_within sig table (listed old found) (listed_within sig old found all) (tree_at old t) it.within) };
      is = ap (term_under sig) e' ∙ putting_in_trees_puts_in_terms sig table (listed old found) (tree_at old t);
    }

-- ---- a left side that lies over a root has the root's function
abbrev symbol_in : Term → Symbol
symbol_in (terms.application f ts) = f
symbol_in _ = truth

head_lays : (sig : Sig) → IsTable sig → (e : ℕ → Term) (f : FunId) (u t : Tree) → IsTreeWithin sig u → IsTreeWithin sig t → IsLeft u → HasHead f t → laid e (term_under sig u) ≡ term_under sig t → HasHead f u
head_lays sig table e f (variable v) t a b l h is = absurd l
head_lays sig table e f (numeral s z) (function g us) a b l h is = absurd cc
head_lays sig table e f (numeral s z) (variable v) a b l h is = absurd h
head_lays sig table e f (numeral s z) (numeral r y) a b l h is = absurd h
head_lays sig table e f (function g us) (variable v) a b l h is = absurd h
head_lays sig table e f (function g us) (numeral r y) a b l h is = absurd h
head_lays sig table e f (function g us) (function k ws) a b l h is =
    h ∙ sym (different_functions_mean_different_symbols sig table g k a.0 b.0 (ap symbol_in is))

pub left_has_head : (sig : Sig) (ts : List Tree) → IsTable sig → (r : Rule) → IsRule sig ts r → (root : TermId) → IsTerm sig ts root → (f : FunId) → HasHead f (tree_at ts root) → (e : ℕ → Term) → Lays sig ts e (r.left, root) → HasHead f (tree_at ts r.left)
left_has_head sig ts table r is root term f h e lays = head_lays sig table e f (tree_at ts r.left) (tree_at ts root) is.left.within term.within is.no_variable h lays

-- ---- rising numbers
-- what holds of the numbers in front of a place holds of each smaller one
pub in_front : (P : ℕ → Type 0) (ns : List ℕ) (k n m d : ℕ) → Rise ns → k < length ns → n ≡ get_or ns k d → Contains ns m → m < n → All P (take k ns) → P m
in_front P [] k n m d rise less at has before all = absurd (omega (arith, less))
in_front P (x ∷ ns) zero n m d rise less at has before all =
    let from : x ≤ m = All-contains (λ (y : ℕ). x ≤ y) (x ∷ ns) m (All-cons (λ (y : ℕ). x ≤ y) x ns (omega arith) (All-weaker (λ (y : ℕ). x < y) (λ (y : ℕ). x ≤ y) (λ y l. omega (arith, l)) ns rise.0)) has in
    absurd (omega (arith, at, from, before))
in_front P (x ∷ ns) (suc k) n m d rise less at has before all =
    ⊎_elim (λ here. All-contains P (x ∷ []) m (All-cons P x [] (All-head P x (take k ns) all) (All-nil P)) here) (λ later. in_front P ns k n m d rise.1 (omega (arith, less)) at later before (All-tail P x (take k ns) all)) (Contains-append_cases (x ∷ []) ns m has)

pub all_more : (P : ℕ → Type 0) (xs : List ℕ) (i next d : ℕ) → next ≡ suc i → i < length xs → All P (take i xs) → P (get_or xs i d) → All P (take next xs)
all_more P xs i next d e l all p = subst (λ k. All P (take k xs)) (sym e) (by_place xs i l all p)
  where
    by_place : (xs : List ℕ) (i : ℕ) → i < length xs → All P (take i xs) → P (get_or xs i d) → All P (take (suc i) xs)
    by_place [] i l all p = absurd (omega (arith, l))
    by_place (x ∷ xs) zero l all p = All-cons P x [] p (All-nil P)
    by_place (x ∷ xs) (suc i) l all p = All-cons P x (take (suc i) xs) (All-head P x (take i xs) all) (by_place xs i (omega (arith, l)) (All-tail P x (take i xs) all) p)

pub all_taken : (P : ℕ → Type 0) (xs : List ℕ) (i : ℕ) → length xs ≤ i → All P (take i xs) → All P xs
all_taken P [] i l all = All-nil P
all_taken P (x ∷ xs) zero l all = absurd (omega (arith, l))
all_taken P (x ∷ xs) (suc i) l all = All-cons P x xs (All-head P x (take i xs) all) (all_taken P xs i (omega (arith, l)) (All-tail P x (take i xs) all))

pub at_number : (P : ℕ → Type 0) (xs : List ℕ) (i d : ℕ) → i < length xs → All P xs → P (get_or xs i d)
at_number P [] i d l all = absurd (omega (arith, l))
at_number P (x ∷ xs) zero d l all = All-head P x xs all
at_number P (x ∷ xs) (suc i) d l all = at_number P xs i d (omega (arith, l)) (All-tail P x xs all)

pub head_inside : (sig : Sig) (f : FunId) (t : Tree) → HasHead f t → IsTreeWithin sig t → f.0 < length sig.functions
head_inside sig f (variable v) h w = absurd h
head_inside sig f (numeral s z) h w = absurd h
head_inside sig f (function g us) h w = subst (λ (x : FunId). x.0 < length sig.functions) (sym h) w.0

pub rule_at : (rules : List Rule) (n : ℕ) (r : Rule) → n < length rules → r ≡ get_or rules n r → slice_get rules n ≡ Some r
rule_at rules n r l e = slice_get_read rules (length rules) n r refl l e

pub same_rule : (rules : List Rule) (n : ℕ) (r s : Rule) → slice_get rules n ≡ Some r → slice_get rules n ≡ Some s → r ≡ s
same_rule rules n r s a b = let e : Some r ≡ Some s = sym a ∙ b in cc

module _ (sig : Sig) (ts : List Tree) where
  pub misses_as : (root : TermId) {r s : Rule} → r ≡ s → Misses sig ts r.left root → Misses sig ts s.left root
  misses_as root e m = subst (λ (r : Rule). Misses sig ts r.left root) e m

  pub matched_none : {S : Type 0} (left root : TermId) (o : Option (Vec (VarId × TermId) S)) → o ≡ None → MatchOption o (Misses sig ts left root) (λ found. IsMatchState sig ts left root found.items []) → Misses sig ts left root
  matched_none left root o e h = subst (λ x. MatchOption x (Misses sig ts left root) (λ found. IsMatchState sig ts left root found.items [])) e h

  pub matched_some : {S : Type 0} (left root : TermId) (o : Option (Vec (VarId × TermId) S)) (found : Vec (VarId × TermId) S) → o ≡ Some found → MatchOption o (Misses sig ts left root) (λ found. IsMatchState sig ts left root found.items []) → IsMatchState sig ts left root found.items []
  matched_some left root o found e h = subst (λ x. MatchOption x (Misses sig ts left root) (λ found. IsMatchState sig ts left root found.items [])) e h

-- ---- what the beginning of a condition counts
charged : (c : Term) → (c ≡ trueᵗ → ⊥) → charge_of c ≡ 1
charged (terms.variable v) n = refl
charged (terms.numeral a z) n = refl
charged (terms.unknown d k) n = refl
charged (terms.application truth terms.none) n = absurd (n refl)
charged (terms.application truth (terms.more t ts)) n = refl
charged (terms.application terms.falsity ts) n = refl
charged (terms.application terms.negation ts) n = refl
charged (terms.application terms.conjunction ts) n = refl
charged (terms.application terms.disjunction ts) n = refl
charged (terms.application terms.implication ts) n = refl
charged (terms.application (terms.equality p) ts) n = refl
charged (terms.application (terms.inequality p) ts) n = refl
charged (terms.application (terms.conditional p) ts) n = refl
charged (terms.application (terms.comparison p q) ts) n = refl
charged (terms.application (terms.arithmetic p q s) ts) n = refl
charged (terms.application (terms.minus p) ts) n = refl
charged (terms.application (terms.upcast p q) ts) n = refl
charged (terms.application (terms.empty p) ts) n = refl
charged (terms.application (terms.cons p) ts) n = refl
charged (terms.application (terms.snoc p) ts) n = refl
charged (terms.application (terms.concatenation p) ts) n = refl
charged (terms.application (terms.size p) ts) n = refl
charged (terms.application (terms.element_at p) ts) n = refl
charged (terms.application (terms.head p) ts) n = refl
charged (terms.application (terms.rhead p) ts) n = refl
charged (terms.application (terms.tail p) ts) n = refl
charged (terms.application (terms.rtail p) ts) n = refl
charged (terms.application (terms.membership p) ts) n = refl
charged (terms.application (terms.function p) ts) n = refl

-- ---- the written equations behind the rules
at_rules : (sig : Sig) (ts : List Tree) (rs : List Rule) (qs : List Equation) → AreEquationsOf sig ts rs qs → (j : ℕ) (q : Equation) → slice_get qs j ≡ Some q → (r : Rule) × (slice_get rs j ≡ Some r) × IsEquationOf sig ts r q
at_rules sig ts [] [] are j q e = absurd cc
at_rules sig ts [] (p ∷ qs) are j q e = absurd are
at_rules sig ts (r ∷ rs) [] are j q e = absurd are
at_rules sig ts (r ∷ rs) (p ∷ qs) are zero q e = let same : p ≡ q = cc in (r, refl, subst (IsEquationOf sig ts r) same are.0)
at_rules sig ts (r ∷ rs) (p ∷ qs) are (suc j) q e = at_rules sig ts rs qs are.1 j q e

rules_at : (sig : Sig) (ts : List Tree) (rs : List Rule) (qs : List Equation) → AreEquationsOf sig ts rs qs → (j : ℕ) (r : Rule) → slice_get rs j ≡ Some r → (q : Equation) × (slice_get qs j ≡ Some q) × IsEquationOf sig ts r q
rules_at sig ts [] [] are j r e = absurd cc
rules_at sig ts [] (p ∷ qs) are j r e = absurd are
rules_at sig ts (x ∷ rs) [] are j r e = absurd are
rules_at sig ts (x ∷ rs) (p ∷ qs) are zero r e = let same : x ≡ r = cc in (p, refl, subst (λ (y : Rule). IsEquationOf sig ts y p) same are.0)
rules_at sig ts (x ∷ rs) (p ∷ qs) are (suc j) r e = rules_at sig ts rs qs are.1 j r e

module _ (tables : Tables) (sig : Sig) (own : List Equation) (old : List Tree) (all : AreTablesOf tables sig own old) (root : TermId) (from first : ℕ) (first_is : first ≡ from - 55) (start : (from ≡ 0) ⊎ (lines ≤ from)) (none : (i : ℕ) (c r : Term) → from ≤ i → LineAt (data_meant sig) i (term_at sig old root) c r → ⊥) where
  -- no equation matches where no rule does
  no_rule : (bound : ℕ) → ((n : ℕ) (r : Rule) → first ≤ n → n < bound → slice_get tables.rules.items n ≡ Some r → Misses sig old r.left root) → (i : ℕ) (c r : Term) (x : ℕ) → from ≤ i → i < lines + bound → Applies (data_meant sig) own i (term_at sig old root) c r x → ⊥
  no_rule bound misses i c r x behind inside (a_line b p) = none i c r behind (b, p)
  no_rule bound misses i c r x behind inside (an_equation {q = q} j e at is lays) =
      let found = at_rules sig old tables.rules.items own all.equations j q at in
      let here : first ≤ j = omega (arith, first_is, behind, is) in
      let less : j < bound = omega (arith, is, inside) in
      misses j found.0 here less found.1 e (ap (laid e) (sym found.2.left) ∙ lays)

  pub none_written : IsFirstRule sig old tables.rules.items root first None → (i : ℕ) (c r : Term) (x : ℕ) → from ≤ i → i < lines + length own → Applies (data_meant sig) own i (term_at sig old root) c r x → ⊥
  none_written misses i c r x behind inside b = no_rule (length own) (λ n s l m at. misses n s l at) i c r x behind inside b

  pub found_written : (new : List Tree) → Extends old new → IsTerm sig old root → (m : Matched) → (h : IsMatched sig old tables.rules.items root first m) → (f : Found) → f.number ≡ lines + m.number → StandsFor sig new f.right (put (put_by sig old m.found.items) (term_at sig old h.rule.right)) × IsConditionMade sig new f.cond (put (put_by sig old m.found.items) (term_at sig old h.rule.cond)) → IsFirst sig own new root from f × IsFoundWithin sig new f
  found_written new grows root_term m h f number made_of_rule =
      let e = put_by sig old m.found.items in
      let found = rules_at sig old tables.rules.items own all.equations m.number h.rule h.there in
      let q = found.0 in
      let at : slice_get own m.number ≡ Some q = found.1 in
      let made = meant_made e q h.rule found.2 made_of_rule in
      let inside : m.number < length own = slice_get_within own m.number q at in
      let lays : laid e q.left ≡ term_at sig old root = ap (laid e) found.2.left ∙ (h.state.0 e).1 (all_agree sig old m.found.items m.found.items h.state.3, All-nil (Lays sig old e)) in
      let there : Applies (data_meant sig) own (lines + m.number) (term_at sig old root) (put e q.condition) (put e q.right) (charge_of (put e q.condition)) = an_equation m.number e at refl lays in
      let kept = term_kept sig old new root grows root_term.inside in
      let l = h.behind in (
        record {
          is_behind = ⊎_elim (λ z. omega (arith, z)) (λ k. omega (arith, k, number, l, first_is)) start;
          is_inside = omega (arith, number, inside);
          passed_over = λ i c r x behind before b. no_rule m.number (λ n s k less at. h.none_before n s k less at) i c r x behind (omega (arith, before, number)) (subst (λ t. Applies (data_meant sig) own i t c r x) kept b);
          condition = put e q.condition;
          charge = charge_of (put e q.condition);
          applies_there = subst (λ k. Applies (data_meant sig) own k (term_at sig new root) (put e q.condition) (term_at sig new f.right) (charge_of (put e q.condition))) (sym number) (subst (λ t. Applies (data_meant sig) own (lines + m.number) t (put e q.condition) (term_at sig new f.right) (charge_of (put e q.condition))) (sym kept) (subst (λ r. Applies (data_meant sig) own (lines + m.number) (term_at sig old root) (put e q.condition) r (charge_of (put e q.condition))) (sym made.0.is) there));
          has_condition = condition_as f.cond (put e q.condition) made.1;
        },
        (made.0.term.within, within_as f.cond (put e q.condition) made.1),
      )
    where
      meant_made : (e : ℕ → Term) (q : Equation) (r : Rule) → IsEquationOf sig old r q → StandsFor sig new f.right (put e (term_at sig old r.right)) × IsConditionMade sig new f.cond (put e (term_at sig old r.cond)) → StandsFor sig new f.right (put e q.right) × IsConditionMade sig new f.cond (put e q.condition)
      meant_made e q r is made = (subst (λ t. StandsFor sig new f.right (put e t)) (sym is.right) made.0, subst (λ t. IsConditionMade sig new f.cond (put e t)) (sym is.condition) made.1)

      condition_as : (o : Option TermId) (c : Term) → IsConditionMade sig new o c → HasCondition sig new f.number c (charge_of c) o
      condition_as None c h = h
      condition_as (Some id) c h = (h.0.is, h.1, (λ l. charged c h.1))

      within_as : (o : Option TermId) (c : Term) → IsConditionMade sig new o c → IfSome o (λ (a : TermId). IsTreeWithin sig (tree_at new a))
      within_as None c h = tt
      within_as (Some id) c h = h.0.term.within

pub has_head : (ts : List Tree) (t : TermId) (f : FunId) (h : Head) (ids : List TermId) → h ≡ Fun f → tree_at ts t ≡ written_tree h (trees_at ts ids) → HasHead f (tree_at ts t)
has_head ts t f h ids is e = subst (HasHead f) (sym (e ∙ ap (λ (x : Head). written_tree x (trees_at ts ids)) is)) refl

pub read_rule : (rs : List Rule) (n : ℕ) (r x : Rule) → slice_get rs n ≡ Some r → x ≡ get_or rs n x → x ≡ r
read_rule rs n r x at e = e ∙ get_or_from_slice_get rs n r x at

-- a built-in equation that was found and made
pub found_line : (sig : Sig) (own : List Equation) (old new : List Tree) → Extends old new → (root : TermId) → IsTerm sig old root → (from : ℕ) → from ≡ 0 → (l : Line) (h : IsFirstAt sig old (term_at sig old root) l) (f : Found) → f.number ≡ l.number → StandsFor sig new f.right h.right × IsConditionMade sig new f.cond h.condition → IsFirst sig own new root from f × IsFoundWithin sig new f
found_line sig own old new grows root term from at_front l h f number made =
    let kept = term_kept sig old new root grows term.inside in
    let inside : l.number < lines = line_inside h.matches_there.0 h.matches_there.1 in (
      record {
        is_behind = omega (arith, at_front);
        is_inside = omega (arith, number, inside);
        passed_over = λ i c r x behind before b. passed i c r x (omega (arith, before, number)) (subst (λ t. Applies (data_meant sig) own i t c r x) kept b);
        condition = h.condition;
        charge = 0;
        applies_there = subst (λ k. Applies (data_meant sig) own k (term_at sig new root) h.condition (term_at sig new f.right) 0) (sym number) (subst (λ t. Applies (data_meant sig) own l.number t h.condition (term_at sig new f.right) 0) (sym kept) (subst (λ r. Applies (data_meant sig) own l.number (term_at sig old root) h.condition r 0) (sym made.0.is) (a_line h.matches_there.0 h.matches_there.1)));
        has_condition = condition_as f.cond h.condition (omega (arith, number, inside)) made.1;
      },
      (made.0.term.within, within_as f.cond h.condition made.1),
    )
  where
    passed : (i : ℕ) (c r : Term) (x : ℕ) → i < l.number → Applies (data_meant sig) own i (term_at sig old root) c r x → ⊥
    passed i c r x before (a_line b p) = h.none_before i c r before (b, p)
    passed i c r x before (an_equation j e at is lays) = let inside : l.number < lines = line_inside h.matches_there.0 h.matches_there.1 in omega (arith, before, inside, is)

    condition_as : (o : Option TermId) (c : Term) → f.number < lines → IsConditionMade sig new o c → HasCondition sig new f.number c 0 o
    condition_as None c less h = h
    condition_as (Some id) c less h = (h.0.is, h.1, (λ k. absurd (omega (arith, k, less))))

    within_as : (o : Option TermId) (c : Term) → IsConditionMade sig new o c → IfSome o (λ (a : TermId). IsTreeWithin sig (tree_at new a))
    within_as None c h = tt
    within_as (Some id) c h = h.0.term.within
