-- Grouping, one operand more.
use Rattle.std.proofs.Common.{◌≡◌, List, [], ◌∷◌, ◌++◌, map, refl, ap, sym, ◌∙◌}
use Rattle.std.proofs.lemmas.List.{map-append}
use Rattle.mcrl2_syntax.specs.declared.data_tree.InfixSign.{InfixSign}
use Rattle.mcrl2_syntax.specs.declared.data_tree.DataTree.{DataTree}
use Rattle.mcrl2_syntax.specs.DataTrees.{PlainData, Operand, plain_data, plain_operands}
use Rattle.mcrl2_syntax.specs.InfixSigns.{joined_by, to_left, to_right}

left_more : (d : PlainData) (os : List Operand) (o : Operand) → to_left d (os ++ o ∷ []) ≡ joined_by o.0 (to_left d os) o.1
left_more d [] o = refl
left_more d (p ∷ os) o = left_more (joined_by p.0 d p.1) os o

right_more : (d : PlainData) (os : List Operand) (o p : Operand) → to_right d ((os ++ o ∷ []) ++ p ∷ []) ≡ to_right d (os ++ (o.0, joined_by p.0 o.1 p.1) ∷ [])
right_more d [] o p = refl
right_more d (q ∷ os) o p = ap (λ e. joined_by q.0 d e) (right_more q.1 os o p)

-- the same over trees
pub left_step : (first : PlainData) (ts : List (InfixSign × DataTree)) (k : InfixSign) (t : DataTree) (d e : PlainData) → d ≡ to_left first (plain_operands ts) → e ≡ joined_by k d (plain_data t)
    → e ≡ to_left first (plain_operands (ts ++ (k, t) ∷ []))
left_step first ts k t d e h i =
    i ∙ ap (λ x. joined_by k x (plain_data t)) h ∙ sym (left_more first (plain_operands ts) (k, plain_data t))
    ∙ sym (ap (λ x. to_left first x) (map-append (λ o. (o.0, plain_data o.1)) ts ((k, t) ∷ [])))

pub right_step : (first : PlainData) (all ts : List (InfixSign × DataTree)) (k j : InfixSign) (t : DataTree) (d e : PlainData) → all ≡ ts ++ (k, t) ∷ [] → e ≡ joined_by j (plain_data t) d
    → to_right first (plain_operands ts ++ (k, e) ∷ []) ≡ to_right first (plain_operands all ++ (j, d) ∷ [])
right_step first all ts k j t d e h i =
    ap (λ x. to_right first (plain_operands ts ++ (k, x) ∷ [])) i
    ∙ sym (right_more first (plain_operands ts) (k, plain_data t) (j, d))
    ∙ ap (λ x. to_right first (x ++ (j, d) ∷ [])) (sym (map-append (λ o. (o.0, plain_data o.1)) ts ((k, t) ∷ [])) ∙ ap plain_operands (sym h))

pub trees_step : (first : PlainData) (ts : List DataTree) (os : List (InfixSign × DataTree)) (k : InfixSign) (t : DataTree) → map plain_data ts ≡ first ∷ map (λ x. x.1) (plain_operands os)
    → map plain_data (ts ++ t ∷ []) ≡ first ∷ map (λ x. x.1) (plain_operands (os ++ (k, t) ∷ []))
trees_step first ts os k t h =
    map-append plain_data ts (t ∷ []) ∙ ap (λ x. x ++ plain_data t ∷ []) h
    ∙ ap (λ x. first ∷ x) (sym (map-append (λ x. x.1) (plain_operands os) ((k, plain_data t) ∷ [])) ∙ ap (λ x. map (λ y. y.1) x) (sym (map-append (λ o. (o.0, plain_data o.1)) os ((k, t) ∷ []))))
