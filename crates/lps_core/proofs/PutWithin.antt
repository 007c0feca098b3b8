-- Trees that stay within the tables as trees are put in.
use Rattle.std.proofs.Common.{◌≡◌, ◌<◌, ◌&&◌, ◌||◌, Bool, true, false, cond, length, refl, ap, ◌∙◌, arith, pos}
use Rattle.std.proofs.lemmas.List.{length-append}
use lib.Signed.{lt_z}
use lib.IntN.{neg_ℤ}
use Rattle.data_theory.specs.declared.ids.FunId.{FunId}
use Rattle.data_theory.specs.declared.ids.VarId.{VarId}
use Rattle.data_theory.specs.Sorts.{first_sorts}
use Rattle.data_theory.specs.Signature.{Sig}
use Rattle.data_theory.specs.Complete.{IsComplete}
use Rattle.data_theory.specs.IdTrees.{Tree, Trees, variable, numeral, function, none, more, is_over, is_minus, apply_tree, put_tree, put_trees}
use Rattle.data_theory.specs.Table.{pos_sort, nat_sort, int_sort}
use Rattle.data_theory.specs.IdTerms.{IsTreeWithin, AreTreesWithin}

-- what is put in stays within the tables
four_sorts : (g : Sig) → IsComplete g → 3 < length g.sorts
four_sorts g c =
    let e = ap length c.first_sorts_stay.1 ∙ length-append first_sorts c.first_sorts_stay.0 in
    let f : length first_sorts ≡ 4 = refl in
    omega (arith, e, f)

within_if : (g : Sig) (b : Bool) (t u : Tree) → IsTreeWithin g t → IsTreeWithin g u → IsTreeWithin g (cond b t u)
within_if g true t u h k = h
within_if g false t u h k = k

apply_within : (g : Sig) → IsComplete g → (f : FunId) (ts : Trees) → f.0 < length g.functions → AreTreesWithin g ts → IsTreeWithin g (apply_tree f ts)
apply_within g c f none l h = (l, h)
apply_within g c f (more (numeral s z) none) l h =
    let w = four_sorts g c in
    let two : 2 < length g.sorts = omega (arith, w) in
    let alone : IsTreeWithin g (function f (more (numeral s z) none)) = (l, h) in
    within_if g (is_over 3 pos_sort f s) (numeral nat_sort z) (cond (is_over 4 nat_sort f s || is_over 5 pos_sort f s) (numeral int_sort z) (cond (is_minus f s && lt_z (pos 0) z) (numeral int_sort (neg_ℤ z)) (function f (more (numeral s z) none)))) two
    (within_if g (is_over 4 nat_sort f s || is_over 5 pos_sort f s) (numeral int_sort z) (cond (is_minus f s && lt_z (pos 0) z) (numeral int_sort (neg_ℤ z)) (function f (more (numeral s z) none))) w
    (within_if g (is_minus f s && lt_z (pos 0) z) (numeral int_sort (neg_ℤ z)) (function f (more (numeral s z) none)) w alone))
apply_within g c f (more (variable v) none) l h = (l, h)
apply_within g c f (more (function k us) none) l h = (l, h)
apply_within g c f (more (numeral s z) (more u us)) l h = (l, h)
apply_within g c f (more (variable v) (more u us)) l h = (l, h)
apply_within g c f (more (function k ws) (more u us)) l h = (l, h)

mutual
  pub put_within : (g : Sig) → IsComplete g → (e : VarId → Tree) → ((x : VarId) → IsTreeWithin g (e x)) → (t : Tree) → IsTreeWithin g t → IsTreeWithin g (put_tree e t)
  put_within g c e h (variable v) w = h v
  put_within g c e h (numeral s z) w = w
  put_within g c e h (function f ts) w = apply_within g c f (put_trees e ts) w.0 (put_all_within g c e h ts w.1)

  put_all_within : (g : Sig) → IsComplete g → (e : VarId → Tree) → ((x : VarId) → IsTreeWithin g (e x)) → (ts : Trees) → AreTreesWithin g ts → AreTreesWithin g (put_trees e ts)
  put_all_within g c e h none w = tt
  put_all_within g c e h (more t ts) w = (put_within g c e h t w.0, put_all_within g c e h ts w.1)
