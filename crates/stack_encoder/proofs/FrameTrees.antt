-- The trees of frames, as they are made.
use Rattle.std.proofs.Common.{◌≡◌, ◌≤◌, ◌<◌, ◌+◌, ◌-◌, ◌==◌, ℕ, zero, suc, refl, true, false, List, [], ◌∷◌, ◌++◌, map, length, get_or, take, drop, arith, sym, subst, ap, ap₂, ◌∙◌, cond, ⊎_elim, Some, None}
use Rattle.std.specs.Prelude.{Vec, unwrap_or}
use Rattle.std.specs.Global.{Global}
use Rattle.std.specs.List.{All}
use Rattle.std.proofs.lemmas.Bool.Decides.{eqb_tells}
use Rattle.std.proofs.lemmas.List.{append_assoc, append-nil, map-append, length-map, length-take-le, take_more, take_all}
use Rattle.std.proofs.lemmas.List.Elements.{All-head, All-tail, All-push, All-get_or}
use Rattle.data_theory.specs.declared.ids.FunId.{FunId}
use Rattle.data_theory.specs.declared.ids.TermId.{TermId}
use Rattle.data_theory.specs.declared.ids.VarId.{VarId}
use Rattle.data_theory.specs.IdTrees.{Tree, Trees, variable, numeral, function, none, more, trees_of, apply_tree, put_tree}
use Rattle.term_pool.specs.declared.terms.Head.TheVariants.{Fun}
use Rattle.term_pool.specs.Bindings.{listed, listed_terms}
use Rattle.term_pool.specs.HeadTrees.{head_tree, tree_at, trees_at, IsIn, AreIn}
use Rattle.term_pool.specs.Pools.{Extends}
use Rattle.lps_core.specs.NumberTrees.{number_tree}
use Rattle.lps_core.specs.TreeConditions.{tree_parts, trees_without_true}
use Rattle.lps_core.proofs.PoolTrees.{extends_itself, extends_on, tree_kept, trees_kept, listed_kept, args_along}
use Rattle.greibach.specs.PlainForms.{plain_call}
use Rattle.regular_encoder.specs.FormColumns.{places_in}
use Rattle.stack_encoder.specs.declared.layouts.Layout.{Layout}
use Rattle.stack_encoder.specs.StackColumns.{value_at}
use Rattle.stack_encoder.specs.StackEntries.{StackIds}
use Rattle.stack_encoder.specs.TreeStack.{argument_tree, place_at, column_trees, frame_tree, pushed_trees}
use Rattle.stack_encoder.specs.Frames.{frame_layout}
use Rattle.stack_encoder.proofs.NeededColumns.{drop_last, drop_more_back}

-- ---- the condition
pub condition_made : (ts us front : List Tree) (own : TermId) (first found whole further : List TermId) → Extends ts us → IsIn ts own → AreIn ts further → trees_at us first ≡ front
    → trees_at us found ≡ trees_at us first ++ trees_without_true (tree_parts (tree_at us own)) → whole ≡ found ++ further
    → trees_at us whole ≡ front ++ (trees_without_true (tree_parts (tree_at ts own)) ++ trees_at ts further)
condition_made ts us front own first found whole further x o w f p e =
    ap (trees_at us) e ∙ map-append (tree_at us) found further
    ∙ ap₂ (λ a b. a ++ b) (p ∙ ap₂ (λ a t. a ++ trees_without_true (tree_parts t)) f (tree_kept ts us own x o).0) (trees_kept ts us further x w)
    ∙ append_assoc front (trees_without_true (tree_parts (tree_at ts own))) (trees_at ts further)

-- ---- the term beside a number
-- none of the first numbers is this one
abbrev pub AreOtherNumbers : List ℕ → ℕ → ℕ → Type 0
AreOtherNumbers ps i x = (k d : ℕ) → k < i → get_or ps k d ≡ x → ⊥

pub value_found : (ps : List ℕ) (ids : List TermId) (x i d : ℕ) (e : TermId) → length ps ≡ length ids → i < length ps → AreOtherNumbers ps i x → get_or ps i d ≡ x → Some (get_or ids i e) ≡ value_at ps ids x
value_found [] ids x i d e l w h q = absurd (omega (arith, w))
value_found (p ∷ ps) [] x i d e l w h q = absurd (omega (arith, l))
value_found (p ∷ ps) (u ∷ ids) x zero d e l w h q = ⊎_elim (λ k. sym (ap (λ b. cond b (Some u) (value_at ps ids x)) k.0)) (λ k. absurd (k.1 q)) (eqb_tells p x)
value_found (p ∷ ps) (u ∷ ids) x (suc i) d e l w h q = ⊎_elim
    (λ k. absurd (h 0 p (omega arith) k.1))
    (λ k. value_found ps ids x i d e (omega (arith, l)) (omega (arith, w)) (λ j c v. h (suc j) c (omega (arith, v))) q ∙ sym (ap (λ b. cond b (Some u) (value_at ps ids x)) k.0))
    (eqb_tells p x)

pub value_nowhere : (ps : List ℕ) (ids : List TermId) (x i : ℕ) → length ps ≤ i → AreOtherNumbers ps i x → None ≡ value_at ps ids x
value_nowhere [] ids x i l h = refl
value_nowhere (p ∷ ps) [] x i l h = refl
value_nowhere (p ∷ ps) (u ∷ ids) x i l h = ⊎_elim
    (λ k. absurd (h 0 p (omega (arith, l)) k.1))
    (λ k. value_nowhere ps ids x (i - 1) (omega (arith, l)) (λ j c v. h (suc j) c (omega (arith, v, l))) ∙ sym (ap (λ b. cond b (Some u) (value_at ps ids x)) k.0))
    (eqb_tells p x)

-- ---- columns
pub column_is : (ts : List Tree) (ps : List ℕ) (ids : List TermId) (x : ℕ) (d : TermId) → tree_at ts (unwrap_or (value_at ps ids x) d) ≡ argument_tree ps (trees_at ts ids) x (tree_at ts d)
column_is ts [] ids x d = refl
column_is ts (p ∷ ps) [] x d = refl
column_is ts (p ∷ ps) (u ∷ ids) x d =
    elim (p == x) as (λ b. tree_at ts (unwrap_or (cond b (Some u) (value_at ps ids x)) d) ≡ cond b (tree_at ts u) (argument_tree ps (trees_at ts ids) x (tree_at ts d))) [ true ↦ refl | false ↦ column_is ts ps ids x d ]

pub column_in : (ts : List Tree) (ps : List ℕ) (ids : List TermId) (x : ℕ) (d : TermId) → AreIn ts ids → IsIn ts d → IsIn ts (unwrap_or (value_at ps ids x) d)
column_in ts [] ids x d h k = k
column_in ts (p ∷ ps) [] x d h k = k
column_in ts (p ∷ ps) (u ∷ ids) x d h k =
    elim (p == x) as (λ b. IsIn ts (unwrap_or (cond b (Some u) (value_at ps ids x)) d)) [ true ↦ All-head (IsIn ts) u ids h | false ↦ column_in ts ps ids x d (All-tail (IsIn ts) u ids h) k ]

columns_more : (place : List ℕ) (us : List Tree) (x : ℕ) (ds : List Tree) (d : Tree) → column_trees place us x (ds ++ d ∷ []) ≡ column_trees place us x ds ++ argument_tree place us (x + length ds) d ∷ []
columns_more place us x [] d = ap (λ n. argument_tree place us n d ∷ []) (let e : x ≡ x + 0 = omega arith in e)
columns_more place us x (c ∷ ds) d =
    ap (λ l. argument_tree place us x c ∷ l) (columns_more place us (suc x) ds d ∙ ap (λ n. column_trees place us (suc x) ds ++ argument_tree place us n d ∷ []) (let e : suc x + length ds ≡ x + suc (length ds) = omega arith in e))

-- the columns, one after another, over any trees
pub record IsFillingFrame (place : List ℕ) (args defaults start : List TermId) (i : ℕ) (found : List TermId) : Type 0 where
  pub trees : (ts : List Tree) → trees_at ts found ≡ trees_at ts start ++ column_trees place (trees_at ts args) 0 (trees_at ts (take i defaults))
  pub within : (ts : List Tree) → AreIn ts args → AreIn ts defaults → AreIn ts start → AreIn ts found

pub frame_none : (place : List ℕ) (args defaults start : List TermId) → IsFillingFrame place args defaults start 0 start
frame_none place args defaults start = record { trees = λ ts. sym (append-nil (trees_at ts start)); within = λ ts a b c. c }

pub frame_more : (place : List ℕ) (args defaults start : List TermId) (i : ℕ) (found : List TermId) (new d : TermId) → IsFillingFrame place args defaults start i found → i < length defaults
    → ((ts : List Tree) → tree_at ts new ≡ argument_tree place (trees_at ts args) i (tree_at ts (get_or defaults i d))) → ((ts : List Tree) → AreIn ts args → IsIn ts (get_or defaults i d) → IsIn ts new)
    → IsFillingFrame place args defaults start (i + 1) (found ++ new ∷ [])
frame_more place args defaults start i found new d f l t w = record {
  trees = λ ts.
      let us = trees_at ts args in
      let front = trees_at ts (take i defaults) in
      let long : length front ≡ i = length-map (take i defaults) (tree_at ts) ∙ length-take-le i defaults (omega (arith, l)) in
      map-append (tree_at ts) found (new ∷ [])
      ∙ ap₂ (λ a b. a ++ b ∷ []) (f.trees ts) (t ts)
      ∙ append_assoc (trees_at ts start) (column_trees place us 0 front) (argument_tree place us i (tree_at ts (get_or defaults i d)) ∷ [])
      ∙ ap (λ z. trees_at ts start ++ z)
      (ap (λ n. column_trees place us 0 front ++ argument_tree place us n (tree_at ts (get_or defaults i d)) ∷ []) (let e : i ≡ 0 + length front = omega (arith, long) in e)
      ∙ sym (columns_more place us 0 front (tree_at ts (get_or defaults i d)))
      ∙ ap (column_trees place us 0) (sym (ap (trees_at ts) (take_more defaults i d l) ∙ map-append (tree_at ts) (take i defaults) (get_or defaults i d ∷ []))));
  within = λ ts a b c. All-push (IsIn ts) found new (f.within ts a b c) (w ts a (All-get_or (IsIn ts) defaults i d l b));
}

pub frame_all : (place : List ℕ) (args defaults start : List TermId) (i : ℕ) (found : List TermId) → IsFillingFrame place args defaults start i found → length defaults ≤ i
    → (ts : List Tree) → trees_at ts found ≡ trees_at ts start ++ column_trees place (trees_at ts args) 0 (trees_at ts defaults)
frame_all place args defaults start i found f l ts = f.trees ts ∙ ap (λ z. trees_at ts start ++ column_trees place (trees_at ts args) 0 (trees_at ts z)) (take_all i defaults l)

-- ---- a frame
two_never_merge : (f : FunId) (t u : Tree) (us : Trees) → apply_tree f (more t (more u us)) ≡ function f (more t (more u us))
two_never_merge f (variable v) u us = refl
two_never_merge f (numeral s z) u us = refl
two_never_merge f (function g ts) u us = refl

pub frame_unmerged : (f : FunId) (t : Tree) (cs : List Tree) (u : Tree) → apply_tree f (trees_of (t ∷ (cs ++ u ∷ []))) ≡ function f (trees_of (t ∷ (cs ++ u ∷ [])))
frame_unmerged f t [] u = two_never_merge f t u none
frame_unmerged f t (c ∷ cs) u = two_never_merge f t c (trees_of (cs ++ u ∷ []))

pub place_read : (places : List (Vec ℕ Global)) (k : ℕ) (d : Vec ℕ Global) → k < length places → get_or (places_in places) k [] ≡ (get_or places k d).items
place_read [] k d l = absurd (omega (arith, l))
place_read (p ∷ places) zero d l = refl
place_read (p ∷ places) (suc k) d l = place_read places k d (omega (arith, l))

pub frame_made : (y : StackIds) (l : Layout) (i : ℕ) (ts us : List Tree) (args : List TermId) (below first : TermId) (l0 l1 l2 slice defaults : List TermId) (place : List ℕ) (d : Vec ℕ Global) → 1 ≤ i → i ≤ length l.places.items
    → Extends ts us → AreIn ts args → AreIn ts l.defaults.items → IsIn ts below → tree_at us first ≡ number_tree i → l0 ≡ first ∷ [] → defaults ≡ l.defaults.items → place ≡ (get_or l.places.items (i - 1) d).items
    → trees_at us l1 ≡ trees_at us l0 ++ column_trees place (trees_at us args) 0 (trees_at us defaults) → l2 ≡ l1 ++ below ∷ [] → slice ≡ l2
    → head_tree (Fun y.push) (trees_at us slice) ≡ frame_tree y (frame_layout ts l) i (trees_at ts args) (tree_at ts below)
frame_made y l i ts us args below first l0 l1 l2 slice defaults place d a b x w v o n e0 ed ep e1 e2 es =
    let same : trees_at us slice ≡ number_tree i ∷ (column_trees (place_at (frame_layout ts l) i) (trees_at ts args) 0 (trees_at ts l.defaults.items) ++ tree_at ts below ∷ []) =
    ap (trees_at us) (es ∙ e2) ∙ map-append (tree_at us) l1 (below ∷ [])
    ∙ ap₂ (λ zs z. zs ++ z ∷ [])
    (e1 ∙ ap₂ (λ zs ws. zs ++ ws) (ap (trees_at us) e0 ∙ ap (λ z. z ∷ []) n)
    (ap₂ (λ p ds. column_trees p (trees_at us args) 0 (trees_at us ds)) (ep ∙ sym (place_read l.places.items (i - 1) d (omega (arith, a, b)))) ed
    ∙ ap₂ (λ us ds. column_trees (place_at (frame_layout ts l) i) us 0 ds) (trees_kept ts us args x w) (trees_kept ts us l.defaults.items x v)))
    (tree_kept ts us below x o).0 in
    ap (λ zs. head_tree (Fun y.push) zs) same ∙ frame_unmerged y.push (number_tree i) (column_trees (place_at (frame_layout ts l) i) (trees_at ts args) 0 (trees_at ts l.defaults.items)) (tree_at ts below)

-- ---- frames on frames
pub layout_along : (ts us : List Tree) (l : Layout) → Extends ts us → AreIn ts l.defaults.items → frame_layout us l ≡ frame_layout ts l
layout_along ts us l x v = ap (λ ds. record { places = places_in l.places.items; defaults = ds }) (trees_kept ts us l.defaults.items x v)

pub frame_call : (y : StackIds) (l : Layout) (by : List (VarId × TermId)) (ts t1 : List Tree) (i : ℕ) (own args slice : List TermId) (below : TermId) → Extends ts t1 → AreIn ts l.defaults.items → IsIn ts below → slice ≡ args
    → trees_at t1 args ≡ map (put_tree (listed ts by)) (trees_at ts own)
    → frame_tree y (frame_layout t1 l) i (trees_at t1 slice) (tree_at t1 below) ≡ frame_tree y (frame_layout ts l) i (map (put_tree (listed ts by)) (trees_at ts own)) (tree_at ts below)
frame_call y l by ts t1 i own args slice below x v b s a =
    ap (λ z. frame_tree y z i (trees_at t1 slice) (tree_at t1 below)) (layout_along ts t1 l x v)
    ∙ ap₂ (λ us z. frame_tree y (frame_layout ts l) i us z) (ap (trees_at t1) s ∙ a) (tree_kept ts t1 below x b).0

pub record IsPushing (y : StackIds) (l : Layout) (by : List (VarId × TermId)) (ts : List Tree) (below : TermId) (calls : List (ℕ × Vec TermId Global)) (k : ℕ) (us : List Tree) (top : TermId) : Type 0 where
  pub kept : Extends ts us
  pub within : IsIn us top
  pub tree : tree_at us top ≡ pushed_trees y (frame_layout ts l) (listed ts by) ts (map plain_call (drop (length calls - k) calls)) (tree_at ts below)

pub pushing_none : (y : StackIds) (l : Layout) (by : List (VarId × TermId)) (ts : List Tree) (below : TermId) (calls : List (ℕ × Vec TermId Global)) → IsIn ts below → IsPushing y l by ts below calls 0 ts below
pushing_none y l by ts below calls h = record {
  kept = extends_itself ts;
  within = h;
  tree = ap (λ cs. pushed_trees y (frame_layout ts l) (listed ts by) ts (map plain_call cs) (tree_at ts below)) (sym (ap (λ n. drop n calls) (let e : length calls - 0 ≡ length calls = omega arith in e) ∙ drop_last calls));
}

pub pushing_more : (y : StackIds) (l : Layout) (by : List (VarId × TermId)) (ts : List Tree) (below : TermId) (calls : List (ℕ × Vec TermId Global)) (k : ℕ) (us : List Tree) (top : TermId) (call : ℕ × Vec TermId Global)
    → IsPushing y l by ts below calls k us top → k < length calls → call ≡ get_or calls (length calls - 1 - k) call → AreIn ts l.defaults.items → AreIn ts (listed_terms by) → AreIn ts call.1.items
    → (vs : List Tree) (new : TermId) → Extends us vs → IsIn vs new
    → tree_at vs new ≡ frame_tree y (frame_layout us l) call.0 (map (put_tree (listed us by)) (trees_at us call.1.items)) (tree_at us top) → IsPushing y l by ts below calls (k + 1) vs new
pushing_more y l by ts below calls k us top call p w read v j o vs new x i t =
    let split : drop (length calls - (k + 1)) calls ≡ call ∷ drop (length calls - k) calls = drop_more_back calls k call w read in
    record {
      kept = extends_on ts us vs p.kept x;
      within = i;
      tree =
          t ∙ ap (λ z. frame_tree y z call.0 (map (put_tree (listed us by)) (trees_at us call.1.items)) (tree_at us top)) (layout_along ts us l p.kept v)
          ∙ ap₂ (λ us z. frame_tree y (frame_layout ts l) call.0 us z)
          (ap (map (put_tree (listed us by))) (trees_kept ts us call.1.items p.kept o) ∙ args_along (listed us by) (listed ts by) (listed_kept ts us by p.kept j) (trees_at ts call.1.items)) p.tree
          ∙ ap (λ cs. pushed_trees y (frame_layout ts l) (listed ts by) ts (map plain_call cs) (tree_at ts below)) (sym split);
    }

pub pushing_all : (y : StackIds) (l : Layout) (by : List (VarId × TermId)) (ts : List Tree) (below : TermId) (calls : List (ℕ × Vec TermId Global)) (k : ℕ) (us : List Tree) (top : TermId) → IsPushing y l by ts below calls k us top → length calls ≤ k
    → tree_at us top ≡ pushed_trees y (frame_layout ts l) (listed ts by) ts (map plain_call calls) (tree_at ts below)
pushing_all y l by ts below calls k us top p w = p.tree ∙ ap (λ m. pushed_trees y (frame_layout ts l) (listed ts by) ts (map plain_call (drop m calls)) (tree_at ts below)) (let e : length calls - k ≡ 0 = omega (arith, w) in e)

call_item : (P : ℕ × List TermId → Type 0) (calls : List (ℕ × Vec TermId Global)) (n : ℕ) (d : ℕ × Vec TermId Global) → n < length calls → All P (map plain_call calls) → P (plain_call (get_or calls n d))
call_item P [] n d l h = absurd (omega (arith, l))
call_item P (c ∷ calls) zero d l h = All-head P (plain_call c) (map plain_call calls) h
call_item P (c ∷ calls) (suc n) d l h = call_item P calls n d (omega (arith, l)) (All-tail P (plain_call c) (map plain_call calls) h)

pub call_at : (P : ℕ × List TermId → Type 0) (calls : List (ℕ × Vec TermId Global)) (k : ℕ) (call : ℕ × Vec TermId Global) → k < length calls → call ≡ get_or calls (length calls - 1 - k) call → All P (map plain_call calls) → P (plain_call call)
call_at P calls k call w read h = subst (λ z. P (plain_call z)) (sym read) (call_item P calls (length calls - 1 - k) call (omega (arith, w)) h)
