-- Parts of conditions over trees.
use Rattle.std.proofs.Common.{◌≡◌, ◌<◌, true, false, List, [], ◌∷◌, ◌++◌, length, refl, sym, ap, ap₂, ◌∙◌, subst, arith, cond, ◌==◌, if◌then◌else◌, ⊎_elim}
use Rattle.std.proofs.lemmas.Bool.Decides.{eqb_tells}
use Rattle.std.proofs.lemmas.List.{append_assoc, map-append, length-map}
use Rattle.std.proofs.lemmas.List.Elements.{All-nil, All-cons, All-head, All-tail}
use Rattle.data_theory.specs.declared.ids.FunId.{FunId}
use Rattle.data_theory.specs.declared.ids.TermId.{TermId}
use Rattle.data_theory.specs.IdTrees.{Tree, Trees, variable, numeral, function, none, more, trees_of, apply_tree}
use Rattle.term_pool.specs.declared.terms.Head.{Head}
use Rattle.term_pool.specs.declared.terms.Head.TheVariants.{Var, Num, Fun}
use Rattle.term_pool.specs.HeadTrees.{written_tree, tree_at, trees_at, IsIn, AreIn}
use Rattle.term_pool.specs.Pools.{Extends}
use Rattle.lps_core.specs.TreeConditions.{and_function, and_tree, tree_parts, is_true_tree, trees_without_true, conjunction_tree, chain_onto, AreSides}
use Rattle.lps_core.proofs.PoolTrees.{extends_itself, extends_on, trees_kept, all_in_kept}

-- two arguments never merge
pub two_unmerged : (f : FunId) (t u : Tree) → apply_tree f (more t (more u none)) ≡ function f (more t (more u none))
two_unmerged f (variable v) u = refl
two_unmerged f (numeral s z) u = refl
two_unmerged f (function g ts) u = refl

-- another function is one part
other_function : (f : FunId) (us : Trees) → (f ≡ and_function → ⊥) → tree_parts (function f us) ≡ function f us ∷ []
other_function f none n = refl
other_function f (more t none) n = refl
other_function f (more t (more u none)) n = ⊎_elim
    (λ k. absurd (n (ap (λ z. record { 0 = z }) k.1)))
    (λ k. ap (λ b. cond b (t ∷ tree_parts u) (function f (more t (more u none)) ∷ [])) k.0)
    (eqb_tells f.0 9)
other_function f (more t (more u (more v us))) n = refl

pub other_head : (h : Head) (ts : List Tree) (t : Tree) → t ≡ written_tree h ts → (h ≡ Fun and_function → ⊥) → tree_parts t ≡ t ∷ []
other_head (Var v) ts t e n = subst (λ z. tree_parts z ≡ z ∷ []) (sym e) refl
other_head (Num s z) ts t e n = subst (λ z. tree_parts z ≡ z ∷ []) (sym e) refl
other_head (Fun f) ts t e n = subst (λ z. tree_parts z ≡ z ∷ []) (sym e) (other_function f (trees_of ts) (λ q. n (ap Fun q)))

-- `&&` with other numbers of arguments is one part
pub other_length : (ts : List Tree) (t : Tree) → t ≡ function and_function (trees_of ts) → (length ts ≡ 2 → ⊥) → tree_parts t ≡ t ∷ []
other_length [] t e n = subst (λ z. tree_parts z ≡ z ∷ []) (sym e) refl
other_length (a ∷ []) t e n = subst (λ z. tree_parts z ≡ z ∷ []) (sym e) refl
other_length (a ∷ b ∷ []) t e n = absurd (n refl)
other_length (a ∷ b ∷ c ∷ ts) t e n = subst (λ z. tree_parts z ≡ z ∷ []) (sym e) refl

-- ---- the parts that are found
pub sides_part : (ts : List Tree) (id left right : TermId) → AreSides ts id left right → trees_without_true (tree_parts (tree_at ts id)) ≡ trees_without_true (tree_at ts left ∷ []) ++ trees_without_true (tree_parts (tree_at ts right))
sides_part ts id left right s = ap (λ t. trees_without_true (tree_parts t)) s.tree ∙ with_first (tree_at ts left) (tree_parts (tree_at ts right))
  where
    with_first : (t : Tree) (us : List Tree) → trees_without_true (t ∷ us) ≡ trees_without_true (t ∷ []) ++ trees_without_true us
    with_first t us = elim (is_true_tree t) as (λ b. (if b then trees_without_true us else t ∷ trees_without_true us) ≡ (if b then [] else t ∷ []) ++ trees_without_true us) [ true ↦ refl | false ↦ refl ]

-- found so far, with what the rest still gives
pub record IsFinding (ts : List Tree) (cond : TermId) (start : List TermId) (rest : TermId) (found : List TermId) : Type 0 where
  pub within : IsIn ts rest
  pub parts : trees_at ts found ++ trees_without_true (tree_parts (tree_at ts rest)) ≡ trees_at ts start ++ trees_without_true (tree_parts (tree_at ts cond))
  pub in_pool : AreIn ts start → AreIn ts found

pub finding_none : (ts : List Tree) (id : TermId) (start : List TermId) → IsIn ts id → IsFinding ts id start id start
finding_none ts id start h = record { within = h; parts = refl; in_pool = λ k. k }

pub finding_more : (ts : List Tree) (id : TermId) (start : List TermId) (rest : TermId) (found : List TermId) (left right : TermId) (new : List TermId) → IsFinding ts id start rest found → AreSides ts rest left right
    → trees_at ts new ≡ trees_at ts found ++ trees_without_true (tree_at ts left ∷ []) → (AreIn ts found → AreIn ts new) → IsFinding ts id start right new
finding_more ts id start rest found left right new f s e w = record {
  within = let a = f.within in let b = s.right_below in omega (arith, a, b);
  parts =
      ap (λ z. z ++ trees_without_true (tree_parts (tree_at ts right))) e
      ∙ append_assoc (trees_at ts found) (trees_without_true (tree_at ts left ∷ [])) (trees_without_true (tree_parts (tree_at ts right)))
      ∙ ap (λ z. trees_at ts found ++ z) (sym (sides_part ts rest left right s))
      ∙ f.parts;
  in_pool = λ k. w (f.in_pool k);
}

pub finding_all : (ts : List Tree) (id : TermId) (start : List TermId) (rest : TermId) (found new : List TermId) → IsFinding ts id start rest found → tree_parts (tree_at ts rest) ≡ tree_at ts rest ∷ []
    → trees_at ts new ≡ trees_at ts found ++ trees_without_true (tree_at ts rest ∷ []) → trees_at ts new ≡ trees_at ts start ++ trees_without_true (tree_parts (tree_at ts id))
finding_all ts id start rest found new f alone e = e ∙ ap (λ z. trees_at ts found ++ trees_without_true z) (sym alone) ∙ f.parts

-- ---- one chain
front : (ts : List Tree) (ids : List TermId) (id : TermId) → AreIn ts (ids ++ id ∷ []) → AreIn ts ids
front ts [] id h = All-nil (IsIn ts)
front ts (a ∷ ids) id h = All-cons (IsIn ts) a ids (All-head (IsIn ts) a (ids ++ id ∷ []) h) (front ts ids id (All-tail (IsIn ts) a (ids ++ id ∷ []) h))

back : (ts : List Tree) (ids : List TermId) (id : TermId) → AreIn ts (ids ++ id ∷ []) → IsIn ts id
back ts [] id h = All-head (IsIn ts) id [] h
back ts (a ∷ ids) id h = back ts ids id (All-tail (IsIn ts) a (ids ++ id ∷ []) h)

onto_last : (ts : List Tree) (t u : Tree) → chain_onto (ts ++ t ∷ []) u ≡ chain_onto ts (and_tree t u)
onto_last [] t u = refl
onto_last (a ∷ ts) t u = ap (and_tree a) (onto_last ts t u)

conjunction_last : (ts : List Tree) (t : Tree) → conjunction_tree (ts ++ t ∷ []) ≡ chain_onto ts t
conjunction_last [] t = refl
conjunction_last (a ∷ []) t = refl
conjunction_last (a ∷ b ∷ ts) t = ap (and_tree a) (conjunction_last (b ∷ ts) t)

pub record IsJoining (ts : List Tree) (parts : List TermId) (us : List Tree) (waiting : List TermId) (chain : TermId) : Type 0 where
  pub kept : Extends ts us
  pub waiting_in : AreIn us waiting
  pub chain_in : IsIn us chain
  pub tree : chain_onto (trees_at us waiting) (tree_at us chain) ≡ conjunction_tree (trees_at ts parts)

pub joining_none : (ts : List Tree) (parts waiting : List TermId) (last : TermId) → parts ≡ waiting ++ last ∷ [] → AreIn ts parts → IsJoining ts parts ts waiting last
joining_none ts parts waiting last e h =
    let k = subst (λ z. AreIn ts z) e h in
    record {
      kept = extends_itself ts;
      waiting_in = front ts waiting last k;
      chain_in = back ts waiting last k;
      tree = sym (conjunction_last (trees_at ts waiting) (tree_at ts last)) ∙ ap conjunction_tree (sym (map-append (tree_at ts) waiting (last ∷ []))) ∙ ap (λ z. conjunction_tree (trees_at ts z)) (sym e);
    }

pub joining_more : (ts : List Tree) (parts : List TermId) (us : List Tree) (waiting : List TermId) (chain : TermId) (left : List TermId) (part : TermId) (vs : List Tree) (new : TermId)
    → IsJoining ts parts us waiting chain → waiting ≡ left ++ part ∷ [] → Extends us vs → tree_at vs new ≡ and_tree (tree_at us part) (tree_at us chain) → IsIn vs new → IsJoining ts parts vs left new
joining_more ts parts us waiting chain left part vs new j e x t w =
    let k = subst (λ z. AreIn us z) e j.waiting_in in
    let l = front us left part k in
    record {
      kept = extends_on ts us vs j.kept x;
      waiting_in = all_in_kept us vs left x l;
      chain_in = w;
      tree =
          ap₂ (λ z y. chain_onto z y) (trees_kept us vs left x l) t
          ∙ sym (onto_last (trees_at us left) (tree_at us part) (tree_at us chain))
          ∙ ap (λ z. chain_onto z (tree_at us chain)) (sym (map-append (tree_at us) left (part ∷ [])) ∙ ap (trees_at us) (sym e))
          ∙ j.tree;
    }

-- ---- what a node says
pub true_by : (f : FunId) (ts : List Tree) (t : Tree) → t ≡ function f (trees_of ts) → f.0 ≡ 6 → ts ≡ [] → is_true_tree t ≡ true
true_by f ts t e n m = ap is_true_tree (e ∙ ap (λ z. function f (trees_of z)) m) ∙ ap (λ k. k == 6) n

pub not_true_by : (f : FunId) (ts : List Tree) (t : Tree) → t ≡ function f (trees_of ts) → (f.0 ≡ 6 → ⊥) → is_true_tree t ≡ false
not_true_by f [] t e n = ap is_true_tree e ∙ ⊎_elim (λ k. absurd (n k.1)) (λ k. k.0) (eqb_tells f.0 6)
not_true_by f (a ∷ ts) t e n = ap is_true_tree e

pub not_true_over : (f : FunId) (ts : List Tree) (t : Tree) → t ≡ function f (trees_of ts) → 0 < length ts → is_true_tree t ≡ false
not_true_over f [] t e l = absurd (omega (arith, l))
not_true_over f (a ∷ ts) t e l = ap is_true_tree e

pub not_true_head : (h : Head) (ts : List Tree) (t : Tree) → t ≡ written_tree h ts → ((f : FunId) → h ≡ Fun f → ⊥) → is_true_tree t ≡ false
not_true_head (Var v) ts t e n = ap is_true_tree e
not_true_head (Num s z) ts t e n = ap is_true_tree e
not_true_head (Fun f) ts t e n = absurd (n f refl)

-- a node of `&&` with another number of arguments
pub not_two : (ts : List Tree) (ids : List TermId) (h : Head) (f : FunId) (t : Tree) → t ≡ written_tree h (trees_at ts ids) → h ≡ Fun f → f.0 ≡ 9 → (length ids ≡ 2 → ⊥) → tree_parts t ≡ t ∷ []
not_two ts ids h f t e k n l = other_length (trees_at ts ids) t (e ∙ ap (λ z. written_tree z (trees_at ts ids)) (k ∙ ap (λ z. Fun (record { 0 = z })) n)) (λ q. l (sym (length-map ids (tree_at ts)) ∙ q))

pub a_true : (ts : List Tree) (ids : List TermId) (h : Head) (f : FunId) (t : Tree) → t ≡ written_tree h (trees_at ts ids) → h ≡ Fun f → f.0 ≡ 6 → length ids ≡ 0 → is_true_tree t ≡ true
a_true ts [] h f t e k n l = true_by f [] t (e ∙ ap (λ z. written_tree z []) k) n refl
a_true ts (id ∷ ids) h f t e k n l = absurd (omega (arith, l))

pub not_a_true : (ts : List Tree) (ids : List TermId) (h : Head) (f : FunId) (t : Tree) → t ≡ written_tree h (trees_at ts ids) → h ≡ Fun f → 0 < length ids → is_true_tree t ≡ false
not_a_true ts ids h f t e k l = not_true_over f (trees_at ts ids) t (e ∙ ap (λ z. written_tree z (trees_at ts ids)) k) (subst (λ z. 0 < z) (sym (length-map ids (tree_at ts))) l)
