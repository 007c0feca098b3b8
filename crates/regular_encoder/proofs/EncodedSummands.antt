-- Summands that are encoded one after another.
use Rattle.std.proofs.Common.{◌≡◌, ◌<◌, ◌+◌, ℕ, zero, suc, List, [], ◌∷◌, ◌++◌, map, take, length, get_or, refl, sym, ap, ap₂, ◌∙◌, subst, arith, Some}
use Rattle.std.specs.List.{All}
use Rattle.std.proofs.lemmas.List.{append_assoc, append-nil, map-append, take_more}
use Rattle.std.proofs.lemmas.List.Elements.{All-push, All-weaker, All-head, All-tail}
use Rattle.data_theory.specs.declared.ids.VarId.{VarId}
use Rattle.data_theory.specs.declared.ids.TermId.{TermId}
use Rattle.data_theory.specs.IdTrees.{Tree, put_tree}
use Rattle.term_pool.specs.HeadTrees.{tree_at, trees_at, AreIn}
use Rattle.term_pool.specs.Pools.{Extends}
use Rattle.term_pool.specs.Bindings.{listed, listed_terms}
use Rattle.lps_core.specs.declared.linears.Summand.{Summand}
use Rattle.greibach.specs.declared.forms.GreibachSummand.{GreibachSummand}
use Rattle.lps_core.specs.PlainLinears.{plain_summand}
use Rattle.greibach.specs.PlainForms.{PlainFormSummand, plain_form_summand}
use Rattle.lps_core.specs.TreeSummands.{trees_of_label, trees_of_summand, put_actions, IsSummandIn, bound_tree}
use Rattle.lps_core.specs.TreeConditions.{conjunction_tree, tree_parts, trees_without_true}
use Rattle.lps_core.proofs.PoolTrees.{extends_on, tree_kept, trees_kept, all_in_kept, listed_kept, put_along, args_along, actions_in_kept, actions_kept, actions_along}
use Rattle.lps_core.proofs.KeptSummands.{summand_in_kept, summands_kept}
use Rattle.regular_encoder.specs.TreeEncoding.{PlainLayout, place_at, tree_control_of, tree_control_parts, tree_encoded_next, tree_encoded, IsCallIn, IsFormSummandIn}

-- ---- pools that are extended
call_in_kept : (ts us : List Tree) (l : PlainLayout) → Extends ts us → (c : ℕ × List TermId) → IsCallIn ts l c → IsCallIn us l c
call_in_kept ts us l e c h = record { from_one = h.from_one; within = h.within; args = all_in_kept ts us c.1 e h.args; long = h.long }

pub form_summand_in_kept : (ts us : List Tree) (l : PlainLayout) (s : PlainFormSummand) → Extends ts us → IsFormSummandIn ts l s → IsFormSummandIn us l s
form_summand_in_kept ts us l s e h = record { condition = (tree_kept ts us s.condition e h.condition).1; label = actions_in_kept ts us s.label e h.label; next = All-weaker (IsCallIn ts l) (IsCallIn us l) (call_in_kept ts us l e) s.next h.next }

-- ---- an encoding by other trees that are the same
next_encoded_along : (l : PlainLayout) (d e : VarId → Tree) (ts us : List Tree) (cs : List (ℕ × List TermId)) → Extends ts us → ((v : VarId) → d v ≡ e v) → All (IsCallIn ts l) cs → tree_encoded_next l d us cs ≡ tree_encoded_next l e ts cs
next_encoded_along l d e ts us [] x h w = refl
next_encoded_along l d e ts us (c ∷ cs) x h w =
    ap (λ z. Some (tree_control_of l.control c.0 ++ map (bound_tree (place_at l c.0) z) l.columns))
    (ap (map (put_tree d)) (trees_kept ts us c.1 x (All-head (IsCallIn ts l) c cs w).args) ∙ args_along d e h (trees_at ts c.1))

pub encoded_along : (l : PlainLayout) (i : ℕ) (d e : VarId → Tree) (ts us : List Tree) (s : PlainFormSummand) → Extends ts us → ((v : VarId) → d v ≡ e v) → IsFormSummandIn ts l s → tree_encoded l i d us s ≡ tree_encoded l i e ts s
encoded_along l i d e ts us s x h w =
    ap₂ (λ c m. record { sums = s.sums; condition = conjunction_tree (tree_control_parts l.control i ++ trees_without_true (tree_parts c)); label = m; next = tree_encoded_next l d us s.next })
    (ap (put_tree d) (tree_kept ts us s.condition x w.condition).0 ∙ put_along d e h (tree_at ts s.condition))
    (ap (put_actions d) (actions_kept ts us s.label x w.label) ∙ actions_along d e h (trees_of_label ts s.label))
    ∙ ap (λ n. record { sums = s.sums; condition = conjunction_tree (tree_control_parts l.control i ++ trees_without_true (tree_parts (put_tree e (tree_at ts s.condition)))); label = put_actions e (trees_of_label ts s.label); next = n })
    (next_encoded_along l d e ts us s.next x h w.next)

-- ---- one summand after another
pub record IsEncoding (l : PlainLayout) (i : ℕ) (e : VarId → Tree) (ts : List Tree) (start : List Summand) (items : List GreibachSummand) (k : ℕ) (us : List Tree) (made : List Summand) : Type 0 where
  pub kept : Extends ts us
  pub within : All (IsSummandIn us) (map plain_summand made)
  pub trees : map (trees_of_summand us) (map plain_summand made) ≡ map (trees_of_summand ts) (map plain_summand start) ++ map (tree_encoded l i e ts) (map plain_form_summand (take k items))

pub encoding_none : (l : PlainLayout) (i : ℕ) (e : VarId → Tree) (ts us : List Tree) (start : List Summand) (items : List GreibachSummand) → Extends ts us → All (IsSummandIn ts) (map plain_summand start) → IsEncoding l i e ts start items 0 us start
encoding_none l i e ts us start items x h = record {
  kept = x;
  within = All-weaker (IsSummandIn ts) (IsSummandIn us) (summand_in_kept ts us x) (map plain_summand start) h;
  trees = summands_kept ts us x (map plain_summand start) h ∙ sym (append-nil (map (trees_of_summand ts) (map plain_summand start)));
}

pub item_in : (ts : List Tree) (l : PlainLayout) (items : List GreibachSummand) (k : ℕ) (s : GreibachSummand) → k < length items → s ≡ get_or items k s → All (IsFormSummandIn ts l) (map plain_form_summand items) → IsFormSummandIn ts l (plain_form_summand s)
item_in ts l items k s w e h = subst (λ z. IsFormSummandIn ts l (plain_form_summand z)) (sym e) (at_place items k s w h)
  where
    at_place : (items : List GreibachSummand) (k : ℕ) (d : GreibachSummand) → k < length items → All (IsFormSummandIn ts l) (map plain_form_summand items) → IsFormSummandIn ts l (plain_form_summand (get_or items k d))
    at_place [] k d w h = absurd (omega (arith, w))
    at_place (x ∷ items) zero d w h = All-head (IsFormSummandIn ts l) (plain_form_summand x) (map plain_form_summand items) h
    at_place (x ∷ items) (suc k) d w h = at_place items k d (omega (arith, w)) (All-tail (IsFormSummandIn ts l) (plain_form_summand x) (map plain_form_summand items) h)

pub encoding_more : (l : PlainLayout) (i : ℕ) (e : VarId → Tree) (ts t1 : List Tree) (by : List (VarId × TermId)) (start : List Summand) (items : List GreibachSummand) (k : ℕ) (us : List Tree) (made : List Summand) (s : GreibachSummand)
    → IsEncoding l i e ts start items k us made → k < length items → s ≡ get_or items k s → All (IsFormSummandIn ts l) (map plain_form_summand items)
    → Extends t1 us → AreIn t1 (listed_terms by) → ((v : VarId) → listed t1 by v ≡ e v)
    → (vs : List Tree) (new : Summand) → Extends us vs → IsSummandIn vs (plain_summand new) → trees_of_summand vs (plain_summand new) ≡ tree_encoded l i (listed us by) us (plain_form_summand s)
    → IsEncoding l i e ts start items (k + 1) vs (made ++ new ∷ [])
encoding_more l i e ts t1 by start items k us made s j w read within x1 by_in moves vs new x new_in t =
    let ms = map plain_summand made in
    let split : map plain_summand (made ++ new ∷ []) ≡ ms ++ plain_summand new ∷ [] = map-append plain_summand made (new ∷ []) in
    let f = tree_encoded l i e ts in
    record {
      kept = extends_on ts us vs j.kept x;
      within = subst (λ z. All (IsSummandIn vs) z) (sym split) (All-push (IsSummandIn vs) ms (plain_summand new) (All-weaker (IsSummandIn us) (IsSummandIn vs) (summand_in_kept us vs x) ms j.within) new_in);
      trees =
          ap (map (trees_of_summand vs)) split
          ∙ map-append (trees_of_summand vs) ms (plain_summand new ∷ [])
          ∙ ap₂ (λ zs z. zs ++ z ∷ []) (summands_kept us vs x ms j.within ∙ j.trees)
          (t ∙ encoded_along l i (listed us by) e ts us (plain_form_summand s) j.kept (λ v. listed_kept t1 us by x1 by_in v ∙ moves v) (item_in ts l items k s w read within))
          ∙ append_assoc (map (trees_of_summand ts) (map plain_summand start)) (map f (map plain_form_summand (take k items))) (f (plain_form_summand s) ∷ [])
          ∙ ap (λ z. map (trees_of_summand ts) (map plain_summand start) ++ z)
          (sym (map-append f (map plain_form_summand (take k items)) (plain_form_summand s ∷ []))
          ∙ ap (map f) (sym (map-append plain_form_summand (take k items) (s ∷ [])) ∙ ap (map plain_form_summand) (ap (λ z. take k items ++ z ∷ []) read ∙ sym (take_more items k s w))));
    }
