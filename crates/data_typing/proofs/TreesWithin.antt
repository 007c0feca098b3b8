-- That the trees of a pool stay within the tables.
use Rattle.std.proofs.Common.{◌≡◌, ◌<◌, ◌≤◌, ◌&&◌, ◌||◌, inl, inr, Bool, true, false, cond, List, [], ◌∷◌, ◌++◌, length, refl, ap, sym, subst, ◌∙◌, arith, length-append, pos}
use Rattle.std.specs.List.{All}
use Rattle.std.proofs.lemmas.List.Elements.{All-append, All-nil, All-cons, All-head, All-tail}
use lib.Signed.{lt_z}
use lib.IntN.{neg_ℤ}
use Rattle.data_theory.specs.declared.ids.FunId.{FunId}
use Rattle.data_theory.specs.declared.ids.TermId.{TermId}
use Rattle.data_theory.specs.Sorts.{first_sorts}
use Rattle.data_theory.specs.Signature.{Sig}
use Rattle.data_theory.specs.Complete.{IsComplete}
use Rattle.data_theory.specs.IdTrees.{Tree, Trees, variable, numeral, function, none, more, is_over, is_minus, apply_tree, trees_of}
use Rattle.data_theory.specs.Table.{pos_sort, nat_sort, int_sort}
use Rattle.data_theory.specs.IdTerms.{IsTreeWithin, AreTreesWithin, IsGrown}
use Rattle.term_pool.specs.HeadTrees.{no_tree, tree_at, trees_at, IsIn}
use Rattle.term_pool.specs.Pools.{Adds}
use Rattle.data_typing.specs.CodeParts.{KeepTrees}

pub four_sorts : (g : Sig) → IsComplete g → 3 < length g.sorts
four_sorts g c =
    let e = ap length c.first_sorts_stay.1 ∙ length-append first_sorts c.first_sorts_stay.0 in
    let f : length first_sorts ≡ 4 = refl in
    omega (arith, e, f)

within_if : (g : Sig) (b : Bool) (t u : Tree) → IsTreeWithin g t → IsTreeWithin g u → IsTreeWithin g (cond b t u)
within_if g true t u h k = h
within_if g false t u h k = k

-- a function over trees, where what can merge merges
apply_within : (g : Sig) → IsComplete g → (f : FunId) (ts : Trees) → f.0 < length g.functions → AreTreesWithin g ts → IsTreeWithin g (apply_tree f ts)
apply_within g c f none l h = (l, h)
apply_within g c f (more (numeral s z) none) l h =
    let w = four_sorts g c in
    let two : 2 < length g.sorts = omega (arith, w) in
    let alone : IsTreeWithin g (function f (more (numeral s z) none)) = (l, h) in
    within_if g (is_over 3 pos_sort f s) (numeral nat_sort z) (cond (is_over 4 nat_sort f s || is_over 5 pos_sort f s) (numeral int_sort z) (cond (is_minus f s && lt_z (pos 0) z) (numeral int_sort (neg_ℤ z)) (function f (more (numeral s z) none)))) two
    (within_if g (is_over 4 nat_sort f s || is_over 5 pos_sort f s) (numeral int_sort z) (cond (is_minus f s && lt_z (pos 0) z) (numeral int_sort (neg_ℤ z)) (function f (more (numeral s z) none))) w
    (within_if g (is_minus f s && lt_z (pos 0) z) (numeral int_sort (neg_ℤ z)) (function f (more (numeral s z) none)) w alone))
apply_within g c f (more (variable v) none) l h = (l, h)
apply_within g c f (more (function k us) none) l h = (l, h)
apply_within g c f (more (numeral s z) (more u us)) l h = (l, h)
apply_within g c f (more (variable v) (more u us)) l h = (l, h)
apply_within g c f (more (function k ws) (more u us)) l h = (l, h)

-- ---- pools
-- one more tree
pub added_within : (g : Sig) (old new : List Tree) (t : Tree) → Adds old t new → IsTreeWithin g t → KeepTrees g old g new
added_within g old new t added is all =
    elim added as (λ _. All (IsTreeWithin g) new) [
      | inl here ↦ subst (All (IsTreeWithin g)) (sym here.1) all
      | inr there ↦ subst (All (IsTreeWithin g)) (sym there.1) (All-append (IsTreeWithin g) old (t ∷ []) all (All-cons (IsTreeWithin g) t [] is (All-nil (IsTreeWithin g))))
    ]

at_within : (g : Sig) (ts : List Tree) → All (IsTreeWithin g) ts → (id : TermId) → IsIn ts id → IsTreeWithin g (tree_at ts id)
at_within g ts all id l = all id.0 no_tree l

args_within : (g : Sig) (ts : List Tree) → All (IsTreeWithin g) ts → (ids : List TermId) → All (IsIn ts) ids → AreTreesWithin g (trees_of (trees_at ts ids))
args_within g ts all [] is = tt
args_within g ts all (id ∷ ids) is = (at_within g ts all id (All-head (IsIn ts) id ids is), args_within g ts all ids (All-tail (IsIn ts) id ids is))

-- a function over terms of the pool
pub joined_within : (g : Sig) → IsComplete g → (f : FunId) → f.0 < length g.functions → (old new : List Tree) (args : List TermId) → All (IsIn old) args → Adds old (apply_tree f (trees_of (trees_at old args))) new → KeepTrees g old g new
joined_within g c f l old new args is added all = added_within g old new (apply_tree f (trees_of (trees_at old args))) added (apply_within g c f (trees_of (trees_at old args)) l (args_within g old all args is)) all

-- ---- growth
mutual
  tree_on : (g h : Sig) → length g.sorts ≤ length h.sorts → length g.functions ≤ length h.functions → (t : Tree) → IsTreeWithin g t → IsTreeWithin h t
  tree_on g h s f (variable v) w = tt
  tree_on g h s f (numeral a z) w = omega (arith, s, w)
  tree_on g h s f (function k ts) w = (let here : k.0 < length g.functions = w.0 in omega (arith, f, here), trees_on g h s f ts w.1)

  trees_on : (g h : Sig) → length g.sorts ≤ length h.sorts → length g.functions ≤ length h.functions → (ts : Trees) → AreTreesWithin g ts → AreTreesWithin h ts
  trees_on g h s f none w = tt
  trees_on g h s f (more t ts) w = (tree_on g h s f t w.0, trees_on g h s f ts w.1)

each_on : (g h : Sig) → length g.sorts ≤ length h.sorts → length g.functions ≤ length h.functions → (ts : List Tree) → All (IsTreeWithin g) ts → All (IsTreeWithin h) ts
each_on g h s f [] all = All-nil (IsTreeWithin h)
each_on g h s f (t ∷ ts) all = All-cons (IsTreeWithin h) t ts (tree_on g h s f t (All-head (IsTreeWithin g) t ts all)) (each_on g h s f ts (All-tail (IsTreeWithin g) t ts all))

pub kept_over_growth : (g h : Sig) → IsGrown g h → (ts : List Tree) → KeepTrees g ts h ts
kept_over_growth g h grown ts all =
    let long_sorts = length-append g.sorts grown.new_sorts in
    let same_sorts : length h.sorts ≡ length (g.sorts ++ grown.new_sorts) = ap length grown.sorts in
    let long = length-append g.functions grown.new_functions in
    let same : length h.functions ≡ length (g.functions ++ grown.new_functions) = ap length grown.functions in
    each_on g h (omega (arith, long_sorts, same_sorts)) (omega (arith, long, same)) ts all
