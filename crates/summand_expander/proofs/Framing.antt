-- The frame of a side and its summands, as a pool grows.
use Rattle.std.proofs.Common.{◌≡◌, ◌+◌, ◌<◌, ℕ, zero, suc, List, [], ◌∷◌, ◌++◌, map, length, get_or, refl, sym, ap, ap₂, ◌∙◌, subst, arith, Some, None}
use Rattle.std.proofs.lemmas.List.{map-append, take_more}
use Rattle.std.proofs.lemmas.List.Elements.{All-nil, All-cons, All-head, All-tail, All-push}
use Rattle.std.specs.Prelude.{take}
use Rattle.std.specs.List.{All, AllZip}
use Rattle.data_theory.specs.declared.ids.TermId.{TermId}
use Rattle.data_theory.specs.declared.ids.VarId.{VarId}
use Rattle.data_theory.specs.IdTrees.{Tree, variable, none, more, apply_tree}
use Rattle.term_pool.specs.HeadTrees.{tree_at, trees_at, IsIn, AreIn}
use Rattle.term_pool.specs.Pools.{Extends}
use Rattle.lps_core.specs.declared.linears.Summand.{Summand}
use Rattle.lps_core.specs.PlainLinears.{PlainSummand, plain_summand}
use Rattle.lps_core.specs.TreeConditions.{true_tree}
use Rattle.lps_core.specs.TreeSummands.{IsSummandIn}
use Rattle.lps_core.proofs.PoolTrees.{extends_itself, extends_on, tree_kept, trees_kept, all_in_kept}
use Rattle.summand_expander.specs.declared.sides.Move.{Move}
use Rattle.summand_expander.specs.Drafts.{PlainMove, plain_move}
use Rattle.summand_expander.specs.Frames.{not_function, IsFrame}

-- ---- the terms of variables
pub record AreVariables (ts : List Tree) (vars : List VarId) (n : ℕ) (us : List Tree) (ids : List TermId) : Type 0 where
  pub kept : Extends ts us
  pub within : AreIn us ids
  pub trees : trees_at us ids ≡ map variable (take n vars)

pub variables_none : (ts : List Tree) (vars : List VarId) → AreVariables ts vars 0 ts []
variables_none ts vars = record { kept = extends_itself ts; within = All-nil (IsIn ts); trees = refl }

pub variables_more : (ts : List Tree) (vars : List VarId) (n : ℕ) (us : List Tree) (ids : List TermId) (d : VarId) → AreVariables ts vars n us ids → n < length vars → (vs : List Tree) (id : TermId) → Extends us vs → tree_at vs id ≡ variable (get_or vars n d) → IsIn vs id
    → AreVariables ts vars (n + 1) vs (ids ++ id ∷ [])
variables_more ts vars n us ids d h l vs id e q i = record {
  kept = extends_on ts us vs h.kept e;
  within = All-push (IsIn vs) ids id (all_in_kept us vs ids e h.within) i;
  trees =
      map-append (tree_at vs) ids (id ∷ [])
      ∙ ap₂ (λ x y. x ++ y ∷ []) (trees_kept us vs ids e h.within ∙ h.trees) q
      ∙ sym (ap (map variable) (take_more vars n d l) ∙ map-append variable (take n vars) (get_or vars n d ∷ []));
}

-- ---- the frame of a side with a flag
alone_in : (ts : List Tree) (id : TermId) → IsIn ts id → AreIn ts (id ∷ [])
alone_in ts id i = All-cons (IsIn ts) id [] i (All-nil (IsIn ts))

pub flagged_frame : (ts us vs ws : List Tree) (params : List TermId) (flag : VarId) (own clear set : TermId) (os cs ss : List TermId) → os ≡ own ∷ [] → cs ≡ clear ∷ [] → ss ≡ set ∷ [] → AreIn ts params → Extends ts us → Extends us vs → Extends vs ws → IsIn us own → tree_at us own ≡ variable flag
    → IsIn vs clear → tree_at vs clear ≡ apply_tree not_function (more (tree_at us own) none) → IsIn ws set → tree_at ws set ≡ true_tree
    → IsFrame ws (trees_at ts params) (Some flag) (record { params = params; flag = Some own; own = os; running = cs; set = ss })
flagged_frame ts us vs ws params flag own clear set os cs ss p q r h e f d oi o ci c si s =
    let k = extends_on ts vs ws (extends_on ts us vs e f) d in
    let own_stays = tree_kept us ws own (extends_on us vs ws f d) oi in
    let clear_stays = tree_kept vs ws clear d ci in
    record {
      params_in = all_in_kept ts ws params k h;
      own_in = subst (λ z. AreIn ws z) (sym p) (alone_in ws own own_stays.1);
      running_in = subst (λ z. AreIn ws z) (sym q) (alone_in ws clear clear_stays.1);
      set_in = subst (λ z. AreIn ws z) (sym r) (alone_in ws set si);
      params_are = trees_kept ts ws params k h;
      own_is = ap (trees_at ws) p ∙ ap (λ t. t ∷ []) (own_stays.0 ∙ o);
      running_is = ap (trees_at ws) q ∙ ap (λ t. t ∷ []) (clear_stays.0 ∙ c ∙ ap (λ t. apply_tree not_function (more t none)) o);
      set_is = ap (trees_at ws) r ∙ ap (λ t. t ∷ []) s;
      flag_is = p;
    }

pub bare_frame : (ts trees : List Tree) (params : List TermId) → AreIn ts params → trees_at ts params ≡ trees → IsFrame ts trees None (record { params = params; flag = None; own = []; running = []; set = [] })
bare_frame ts trees params h q = record { params_in = h; own_in = All-nil (IsIn ts); running_in = All-nil (IsIn ts); set_in = All-nil (IsIn ts); params_are = q; own_is = refl; running_is = refl; set_is = refl; flag_is = refl }

-- ---- the summands of a side
zip_push : {A B : Type 0} (R : A → B → Type 0) (xs : List A) (ys : List B) (x : A) (y : B) → AllZip R xs ys → R x y → AllZip R (xs ++ x ∷ []) (ys ++ y ∷ [])
zip_push R [] [] x y z r = (r, tt)
zip_push R [] (b ∷ ys) x y z r = absurd z
zip_push R (a ∷ xs) [] x y z r = absurd z
zip_push R (a ∷ xs) (b ∷ ys) x y z r = (z.0, zip_push R xs ys x y z.1 r)

pub moves_more : (R : PlainMove → PlainSummand → Type 0) (made : List Move) (items : List Summand) (n : ℕ) (m : Move) (s : Summand) → AllZip R (map plain_move made) (map plain_summand (take n items)) → n < length items → s ≡ get_or items n s → R (plain_move m) (plain_summand s)
    → AllZip R (map plain_move (made ++ m ∷ [])) (map plain_summand (take (n + 1) items))
moves_more R made items n m s z l at r =
    subst (λ ms. AllZip R ms (map plain_summand (take (n + 1) items))) (sym (map-append plain_move made (m ∷ [])))
    (subst (λ ss. AllZip R (map plain_move made ++ plain_move m ∷ []) (map plain_summand ss)) (sym (take_more items n s l ∙ ap (λ y. take n items ++ y ∷ []) (sym at)))
    (subst (λ ss. AllZip R (map plain_move made ++ plain_move m ∷ []) ss) (sym (map-append plain_summand (take n items) (s ∷ [])))
    (zip_push R (map plain_move made) (map plain_summand (take n items)) (plain_move m) (plain_summand s) z r)))

pub summand_at : (ts : List Tree) (items : List Summand) (n : ℕ) (s : Summand) → All (IsSummandIn ts) (map plain_summand items) → n < length items → s ≡ get_or items n s → IsSummandIn ts (plain_summand s)
summand_at ts [] n s h l at = absurd (omega (arith, l))
summand_at ts (x ∷ xs) zero s h l at = subst (λ z. IsSummandIn ts (plain_summand z)) (sym at) (All-head (IsSummandIn ts) (plain_summand x) (map plain_summand xs) h)
summand_at ts (x ∷ xs) (suc n) s h l at = summand_at ts xs n s (All-tail (IsSummandIn ts) (plain_summand x) (map plain_summand xs) h) (omega (arith, l)) at
