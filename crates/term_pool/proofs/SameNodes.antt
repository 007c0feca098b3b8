-- What `==` of two nodes says of their trees.
use Rattle.std.proofs.Common.{◌≡◌, ℕ, zero, suc, Bool, true, false, ◌==◌, List, [], ◌∷◌, refl, sym, ap, ◌∙◌}
use Rattle.std.specs.Prelude.{cond, pos, ◌⊎◌, ◌&&◌}
use Rattle.std.proofs.Common.{inl, inr}
use Rattle.std.specs.Bool.{Decides}
use Rattle.std.specs.Cmp.{booleans_Decides}
use Rattle.std.proofs.Math.Bool.{beq}
use Rattle.std.proofs.lemmas.Bool.Decides.{Decides-eqb, Decides-like, Decides-and}
use Rattle.std.proofs.lemmas.Slice.Eq.{slice_eq-Decides}
use Rattle.std.specs.Cmp.Lexicographic.{pointwise}
use lib.IntN.{neg_ℤ}
use Rattle.data_theory.specs.declared.ids.TermId.{TermId}
use Rattle.data_theory.specs.declared.num.Num.{Num}
use Rattle.data_theory.specs.Whole.{whole_of}
use Rattle.data_theory.specs.IdTrees.{Tree, variable, numeral, function, trees_of}
use Rattle.term_pool.specs.declared.terms.Head.{Head}
use Rattle.term_pool.specs.declared.terms.Head.TheVariants.{Var, Num as Numeral, Fun}
use Rattle.term_pool.specs.declared.terms.Node.{Node}
use Rattle.term_pool.specs.HeadTrees.{written_tree, Stands}
use Rattle.term_pool.specs.contracts.terms.HeadPartialEq.TheImpl as for_head
use Rattle.term_pool.specs.contracts.terms.NodePartialEq.TheImpl as for_node

abbrev pub same_head : Head → Head → Bool
same_head = for_head.eq-value.it

abbrev pub same_node : Node → Node → Bool
same_node = for_node.eq-value.it

-- two heads with the same numbers in them
abbrev pub AreSame : Head → Head → Type 0
AreSame (Var v) (Var w) = v.0 ≡ w.0
AreSame (Numeral s m) (Numeral t n) = (s.0 ≡ t.0) × ((m.negative ≡ n.negative) × (m.magnitude ≡ n.magnitude))
AreSame (Fun f) (Fun g) = f.0 ≡ g.0
AreSame (Var v) (Numeral t n) = ⊥
AreSame (Var v) (Fun g) = ⊥
AreSame (Numeral s m) (Var w) = ⊥
AreSame (Numeral s m) (Fun g) = ⊥
AreSame (Fun f) (Var w) = ⊥
AreSame (Fun f) (Numeral t n) = ⊥

never : {P : Type 0} → (P → ⊥) → Decides false P
never never_so = (λ e. cc, λ p. absurd (never_so p))

head_decides : (g h : Head) → Decides (same_head g h) (AreSame g h)
head_decides (Var v) (Var w) = Decides-eqb v.0 w.0
head_decides (Numeral s m) (Numeral t n) =
    Decides-and (s.0 == t.0) (beq m.negative n.negative && (m.magnitude == n.magnitude)) (Decides-eqb s.0 t.0)
    (Decides-and (beq m.negative n.negative) (m.magnitude == n.magnitude) (booleans_Decides m.negative n.negative) (Decides-eqb m.magnitude n.magnitude))
head_decides (Fun f) (Fun g) = Decides-eqb f.0 g.0
head_decides (Var v) (Numeral t n) = never (λ e. e)
head_decides (Var v) (Fun g) = never (λ e. e)
head_decides (Numeral s m) (Var w) = never (λ e. e)
head_decides (Numeral s m) (Fun g) = never (λ e. e)
head_decides (Fun f) (Var w) = never (λ e. e)
head_decides (Fun f) (Numeral t n) = never (λ e. e)

same_id : (a b : TermId) → Decides (a.0 == b.0) (a ≡ b)
same_id a b = Decides-like (a.0 == b.0) (λ (e : a.0 ≡ b.0). ap (λ (n : ℕ). record { 0 = n }) e) (λ e. ap (λ (i : TermId). i.0) e) (Decides-eqb a.0 b.0)

pub node_decides : (a b : Node) → Decides (same_node a b) (AreSame a.head b.head × (a.args.items ≡ b.args.items))
node_decides a b =
    Decides-and (same_head a.head b.head) (pointwise (λ (x : TermId) (y : TermId). x.0 == y.0) a.args.items b.args.items) (head_decides a.head b.head)
    (slice_eq-Decides {A = TermId} {E = λ x y. x.0 == y.0} same_id a.args.items b.args.items _ refl)

-- ---- the same heads have the same trees
whole_alike : (m n : Num) → m.negative ≡ n.negative → m.magnitude ≡ n.magnitude → whole_of m ≡ whole_of n
whole_alike m n e h = λ i. cond (e i) (neg_ℤ (pos (h i))) (pos (h i))

pub written_alike : (g h : Head) (ts : List Tree) → AreSame g h → written_tree g ts ≡ written_tree h ts
written_alike (Var v) (Var w) ts e = ap (λ (n : ℕ). variable (record { 0 = n })) e
written_alike (Numeral s m) (Numeral t n) ts e = λ i. numeral (record { 0 = e.0 i }) (whole_alike m n e.1.0 e.1.1 i)
written_alike (Fun f) (Fun g) ts e = ap (λ (n : ℕ). function (record { 0 = n }) (trees_of ts)) e
written_alike (Var v) (Numeral t n) ts e = absurd e
written_alike (Var v) (Fun g) ts e = absurd e
written_alike (Numeral s m) (Var w) ts e = absurd e
written_alike (Numeral s m) (Fun g) ts e = absurd e
written_alike (Fun f) (Var w) ts e = absurd e
written_alike (Fun f) (Numeral t n) ts e = absurd e

-- ---- the same trees have the same heads and arguments
whole_parts : (b c : Bool) (x y : ℕ) → (x ≡ 0 → b ≡ false) → (y ≡ 0 → c ≡ false) → cond b (neg_ℤ (pos x)) (pos x) ≡ cond c (neg_ℤ (pos y)) (pos y) → (b ≡ c) × (x ≡ y)
whole_parts true c zero y k l e = let wrong = k refl in absurd cc
whole_parts false true x zero k l e = let wrong = l refl in absurd cc
whole_parts true true (suc x) zero k l e = let wrong = l refl in absurd cc
whole_parts true true (suc x) (suc y) k l e = (refl, cc)
whole_parts true false (suc x) y k l e = absurd cc
whole_parts false true x (suc y) k l e = absurd cc
whole_parts false false x y k l e = (refl, cc)

trees_of-inj : (xs ys : List Tree) → trees_of xs ≡ trees_of ys → xs ≡ ys
trees_of-inj [] [] e = refl
trees_of-inj [] (y ∷ ys) e = cc
trees_of-inj (x ∷ xs) [] e = cc
trees_of-inj (x ∷ xs) (y ∷ ys) e =
    let first : x ≡ y = cc in
    let rest : trees_of xs ≡ trees_of ys = cc in
    λ i. first i ∷ trees_of-inj xs ys rest i

pub heads_same : (g h : Head) (xs ys : List Tree) → written_tree g xs ≡ written_tree h ys → AreSame g h
heads_same (Var v) (Var w) xs ys e = cc
heads_same (Numeral s m) (Numeral t n) xs ys e =
    let whole : whole_of m ≡ whole_of n = cc in
    (cc, whole_parts m.negative n.negative m.magnitude n.magnitude m.zero_is_not_negative n.zero_is_not_negative whole)
heads_same (Fun f) (Fun g) xs ys e = cc
heads_same (Var v) (Numeral t n) xs ys e = absurd cc
heads_same (Var v) (Fun g) xs ys e = absurd cc
heads_same (Numeral s m) (Var w) xs ys e = absurd cc
heads_same (Numeral s m) (Fun g) xs ys e = absurd cc
heads_same (Fun f) (Var w) xs ys e = absurd cc
heads_same (Fun f) (Numeral t n) xs ys e = absurd cc

-- what stands alone has no trees to compare
pub arguments_same : (g h : Head) (is js : List TermId) (xs ys : List Tree) → Stands g is → Stands h js → written_tree g xs ≡ written_tree h ys → (is ≡ js) ⊎ (xs ≡ ys)
arguments_same (Var v) (Var w) is js xs ys a b e = inl (a ∙ sym b)
arguments_same (Numeral s m) (Numeral t n) is js xs ys a b e = inl (a.0 ∙ sym b.0)
arguments_same (Fun f) (Fun g) is js xs ys a b e = let same : trees_of xs ≡ trees_of ys = cc in inr (trees_of-inj xs ys same)
arguments_same (Var v) (Numeral t n) is js xs ys a b e = absurd cc
arguments_same (Var v) (Fun g) is js xs ys a b e = absurd cc
arguments_same (Numeral s m) (Var w) is js xs ys a b e = absurd cc
arguments_same (Numeral s m) (Fun g) is js xs ys a b e = absurd cc
arguments_same (Fun f) (Var w) is js xs ys a b e = absurd cc
arguments_same (Fun f) (Numeral t n) is js xs ys a b e = absurd cc
