-- The trees of encoded summands, as they are made.
use Rattle.std.proofs.Common.{◌≡◌, ◌≤◌, ◌<◌, ◌+◌, ◌-◌, ℕ, zero, suc, refl, List, [], ◌∷◌, ◌++◌, map, length, get_or, take, arith, sym, subst, ap, ap₂, ◌∙◌, Option, Some, None}
use Rattle.std.specs.Prelude.{option_map, slice_get, Vec}
use Rattle.std.specs.Vec.{vec_len}
use Rattle.std.specs.Global.{Global}
use Rattle.std.specs.List.{All, flat_map}
use Rattle.std.proofs.lemmas.List.{append_assoc, append-nil, map-append, length-map, length-take-le, take_more, take_all}
use Rattle.std.proofs.lemmas.List.Concat.{flat_map-append}
use Rattle.std.proofs.lemmas.List.Elements.{All-nil, All-head, All-tail, All-push, All-weaker}
use Rattle.std.proofs.lemmas.Option.{slice_get-map, slice_get_read}
use Rattle.data_theory.specs.declared.ids.TermId.{TermId}
use Rattle.data_theory.specs.declared.ids.VarId.{VarId}
use Rattle.data_theory.specs.IdTrees.{Tree, put_tree}
use Rattle.term_pool.specs.Bindings.{listed, listed_terms}
use Rattle.term_pool.specs.HeadTrees.{tree_at, trees_at, IsIn, AreIn}
use Rattle.term_pool.specs.Pools.{Extends}
use Rattle.lps_core.specs.declared.linears.Summand.{Summand}
use Rattle.lps_core.specs.PlainLinears.{PlainSummand, plain_summand}
use Rattle.lps_core.specs.TreeConditions.{conjunction_tree, tree_parts, trees_without_true}
use Rattle.lps_core.specs.TreeSummands.{TreeSummand, trees_of_label, trees_of_summand, put_actions, IsActionIn, IsSummandIn}
use Rattle.lps_core.proofs.PoolTrees.{extends_itself, extends_on, tree_kept, trees_kept, all_in_kept, listed_kept, put_along, args_along, actions_in_kept, actions_kept, actions_along}
use Rattle.lps_core.proofs.KeptSummands.{next_trees_kept, summand_in_kept, summands_kept}
use Rattle.greibach.specs.declared.forms.GreibachEquation.{GreibachEquation}
use Rattle.greibach.specs.declared.forms.GreibachSummand.{GreibachSummand}
use Rattle.greibach.specs.PlainForms.{PlainFormSummand, PlainEquation, plain_call, plain_equation, plain_form_summand}
use Rattle.regular_encoder.specs.WholeEncoding.{trees_of_summands}
use Rattle.stack_encoder.specs.StackEntries.{StackIds}
use Rattle.stack_encoder.specs.TreeStack.{FrameLayout, TreeWay, first_parts, fields_for, frame_tree, pushed_trees, rest_tree, tree_stacked, tree_ways, tree_way_down, tree_way_out, tree_way_up, IsCallIn, IsFormSummandIn}
use Rattle.stack_encoder.specs.WholeStack.{summand_stacked, equation_stacked, trees_stacked_from, way_of, IsWayIn, IsEquationIn, AreEquationsFor}

-- ---- pools that are extended
pub way_in_kept : (ts us : List Tree) (s : PlainFormSummand) → Extends ts us → IsWayIn ts s [] None → IsWayIn us s [] None
way_in_kept ts us s x w = record { condition = (tree_kept ts us s.condition x w.condition).1; label = actions_in_kept ts us s.label x w.label; further_in = All-nil (IsIn us); next_in = tt }

pub call_in_kept : (ts us : List Tree) (l k : FrameLayout) → l.places ≡ k.places → Extends ts us → (c : ℕ × List TermId) → IsCallIn ts l c → IsCallIn us k c
call_in_kept ts us l k p x c h = record {
  from_one = h.from_one;
  within = subst (λ z. c.0 ≤ length z) p h.within;
  args = all_in_kept ts us c.1 x h.args;
  long = ap (λ z. length (get_or z (c.0 - 1) [])) (sym p) ∙ h.long;
}

pub summand_in : (ts us : List Tree) (l k : FrameLayout) (s : PlainFormSummand) → l.places ≡ k.places → Extends ts us → IsFormSummandIn ts l s → IsFormSummandIn us k s
summand_in ts us l k s p x h = record {
  condition = (tree_kept ts us s.condition x h.condition).1;
  label = actions_in_kept ts us s.label x h.label;
  next = All-weaker (IsCallIn ts l) (IsCallIn us k) (call_in_kept ts us l k p x) s.next h.next;
}

-- ---- a summand
pub way_made : (y : StackIds) (q : VarId) (i : ℕ) (by : List (VarId × TermId)) (s : PlainFormSummand) (ts t0 t1 t2 : List Tree) (own : TermId) (further : List TermId) (made : PlainSummand) → IsWayIn ts s further made.next → AreIn ts (listed_terms by)
    → Extends ts t0 → Extends t0 t1 → Extends t1 t2 → made.sums ≡ s.sums → IsIn t1 made.condition → tree_at t0 own ≡ put_tree (listed ts by) (tree_at ts s.condition)
    → tree_at t1 made.condition ≡ conjunction_tree (first_parts y q i ++ (trees_without_true (tree_parts (tree_at t0 own)) ++ trees_at t0 further))
    → trees_of_label t2 made.label ≡ put_actions (listed t1 by) (trees_of_label t1 s.label)
    → trees_of_summand t2 made ≡ tree_stacked y q i (listed ts by) ts s (way_of ts further made.next)
way_made y q i by s ts t0 t1 t2 own further made w j x0 x1 x2 sums cond_in o cond label =
    let x01 = extends_on ts t0 t1 x0 x1 in
    let front = first_parts y q i in
    ap₂ (λ xs c. record { sums = xs; condition = c; label = trees_of_label t2 made.label; next = option_map (trees_at t2) made.next }) sums
    ((tree_kept t1 t2 made.condition x2 cond_in).0 ∙ cond ∙ ap₂ (λ t zs. conjunction_tree (front ++ (trees_without_true (tree_parts t) ++ zs))) o (trees_kept ts t0 further x0 w.further_in))
    ∙ ap₂ (λ m n. record { sums = s.sums; condition = conjunction_tree (front ++ (trees_without_true (tree_parts (put_tree (listed ts by) (tree_at ts s.condition))) ++ trees_at ts further)); label = m; next = n })
    (label ∙ ap (put_actions (listed t1 by)) (actions_kept ts t1 s.label x01 w.label) ∙ actions_along (listed t1 by) (listed ts by) (listed_kept ts t1 by x01 j) (trees_of_label ts s.label))
    (next_trees_kept ts t2 (extends_on ts t1 t2 x01 x2) made.next w.next_in)

-- the same by other trees that are the same
pub stacked_along : (y : StackIds) (q : VarId) (i : ℕ) (d e : VarId → Tree) (ts us : List Tree) (s : PlainFormSummand) (w : TreeWay) → Extends ts us → ((v : VarId) → d v ≡ e v) → IsIn ts s.condition → All (IsActionIn ts) s.label
    → tree_stacked y q i d us s w ≡ tree_stacked y q i e ts s w
stacked_along y q i d e ts us s w x h c m =
    ap₂ (λ t n. record { sums = s.sums; condition = conjunction_tree (first_parts y q i ++ (trees_without_true (tree_parts t) ++ w.further)); label = n; next = w.next })
    (ap (put_tree d) (tree_kept ts us s.condition x c).0 ∙ put_along d e h (tree_at ts s.condition))
    (ap (put_actions d) (actions_kept ts us s.label x m) ∙ actions_along d e h (trees_of_label ts s.label))

pub pushed_along : (y : StackIds) (l k : FrameLayout) (d e : VarId → Tree) (ts us : List Tree) (cs : List (ℕ × List TermId)) (b c : Tree) → k ≡ l → Extends ts us → ((v : VarId) → d v ≡ e v) → All (IsCallIn ts l) cs → b ≡ c
    → pushed_trees y k d us cs b ≡ pushed_trees y l e ts cs c
pushed_along y l k d e ts us [] b c p x h w q = q
pushed_along y l k d e ts us (a ∷ cs) b c p x h w q =
    ap (λ z. frame_tree y z a.0 (map (put_tree d) (trees_at us a.1)) (pushed_trees y k d us cs b)) p
    ∙ ap₂ (λ zs t. frame_tree y l a.0 zs t) (ap (map (put_tree d)) (trees_kept ts us a.1 x (All-head (IsCallIn ts l) a cs w).args) ∙ args_along d e h (trees_at ts a.1))
    (pushed_along y l k d e ts us cs b c p x h (All-tail (IsCallIn ts l) a cs w) q)

ways_along : (y : StackIds) (l k : FrameLayout) (q : VarId) (d e : VarId → Tree) (ts us : List Tree) (cs : List (ℕ × List TermId)) → k ≡ l → Extends ts us → ((v : VarId) → d v ≡ e v) → All (IsCallIn ts l) cs → tree_ways y k q d us cs ≡ tree_ways y l q e ts cs
ways_along y l k q d e ts us [] p x h w = refl
ways_along y l k q d e ts us (a ∷ cs) p x h w = ap (λ t. record { further = []; next = Some (t ∷ []) } ∷ []) (pushed_along y l k d e ts us (a ∷ cs) (rest_tree y q) (rest_tree y q) p x h w refl)

pub summand_along : (y : StackIds) (l k : FrameLayout) (q : VarId) (i : ℕ) (d e : VarId → Tree) (ts us : List Tree) (s : PlainFormSummand) → k ≡ l → Extends ts us → ((v : VarId) → d v ≡ e v) → IsFormSummandIn ts l s
    → summand_stacked y k q i d us s ≡ summand_stacked y l q i e ts s
summand_along y l k q i d e ts us s p x h w =
    each (tree_ways y k q d us s.next) ∙ ap (map (tree_stacked y q i e ts s)) (ways_along y l k q d e ts us s.next p x h w.next)
  where
    each : (ws : List TreeWay) → map (tree_stacked y q i d us s) ws ≡ map (tree_stacked y q i e ts s) ws
    each [] = refl
    each (z ∷ ws) = ap₂ (λ a b. a ∷ b) (stacked_along y q i d e ts us s z x h w.condition w.label) (each ws)

pub up_made : (y : StackIds) (l k : FrameLayout) (q : VarId) (i : ℕ) (by : List (VarId × TermId)) (s : PlainFormSummand) (ts t1 t2 : List Tree) (made : TreeSummand) (rest top : TermId) → k ≡ l → Extends ts t1 → Extends t1 t2 → AreIn ts (listed_terms by)
    → IsFormSummandIn ts l s → tree_at t1 rest ≡ rest_tree y q → tree_at t2 top ≡ pushed_trees y k (listed t1 by) t1 s.next (tree_at t1 rest)
    → made ≡ tree_stacked y q i (listed t2 by) t2 s (way_of t2 [] (Some (top ∷ []))) → made ≡ tree_stacked y q i (listed ts by) ts s (tree_way_up y l q (listed ts by) ts s.next)
up_made y l k q i by s ts t1 t2 made rest top p x1 x2 j w r t m =
    let x12 = extends_on ts t1 t2 x1 x2 in
    m
    ∙ stacked_along y q i (listed t2 by) (listed ts by) ts t2 s (way_of t2 [] (Some (top ∷ []))) x12 (listed_kept ts t2 by x12 j) w.condition w.label
    ∙ ap (λ z. tree_stacked y q i (listed ts by) ts s (record { further = []; next = Some (z ∷ []) })) (t ∙ pushed_along y l k (listed t1 by) (listed ts by) ts t1 s.next (tree_at t1 rest) (rest_tree y q) p x1 (listed_kept ts t1 by x1 j) w.next r)

pub without_calls : (ts : List Tree) (l : FrameLayout) (s : PlainFormSummand) → IsFormSummandIn ts l s → IsWayIn ts s [] None
without_calls ts l s h = record { condition = h.condition; label = h.label; further_in = All-nil (IsIn ts); next_in = tt }

-- ---- the summands of an equation
abbrev pub AreMade : List Tree → List Summand → Type 0
AreMade us made = All (IsSummandIn us) (map plain_summand made)

pub record IsStacking (y : StackIds) (l : FrameLayout) (q : VarId) (i : ℕ) (e : VarId → Tree) (ts : List Tree) (start : List Summand) (items : List GreibachSummand) (k : ℕ) (us : List Tree) (made : List Summand) : Type 0 where
  pub kept : Extends ts us
  pub within : AreMade us made
  pub trees : trees_of_summands us made ≡ trees_of_summands ts start ++ flat_map (summand_stacked y l q i e ts) (map plain_form_summand (take k items))

pub stacking_none : (y : StackIds) (l : FrameLayout) (q : VarId) (i : ℕ) (e : VarId → Tree) (ts us : List Tree) (start : List Summand) (items : List GreibachSummand) → Extends ts us → AreMade ts start → IsStacking y l q i e ts start items 0 us start
stacking_none y l q i e ts us start items x h = record {
  kept = x;
  within = All-weaker (IsSummandIn ts) (IsSummandIn us) (summand_in_kept ts us x) (map plain_summand start) h;
  trees = summands_kept ts us x (map plain_summand start) h ∙ sym (append-nil (trees_of_summands ts start));
}

pub item_in : (P : PlainFormSummand → Type 0) (items : List GreibachSummand) (k : ℕ) (s : GreibachSummand) → k < length items → s ≡ get_or items k s → All P (map plain_form_summand items) → P (plain_form_summand s)
item_in P items k s w e h = subst (λ z. P (plain_form_summand z)) (sym e) (at_place items k s w h)
  where
    at_place : (items : List GreibachSummand) (k : ℕ) (d : GreibachSummand) → k < length items → All P (map plain_form_summand items) → P (plain_form_summand (get_or items k d))
    at_place [] k d w h = absurd (omega (arith, w))
    at_place (x ∷ items) zero d w h = All-head P (plain_form_summand x) (map plain_form_summand items) h
    at_place (x ∷ items) (suc k) d w h = at_place items k d (omega (arith, w)) (All-tail P (plain_form_summand x) (map plain_form_summand items) h)

pub stacking_more : (y : StackIds) (l lu : FrameLayout) (q : VarId) (i : ℕ) (e : VarId → Tree) (ts t1 : List Tree) (by : List (VarId × TermId)) (start : List Summand) (items : List GreibachSummand) (k : ℕ) (us : List Tree) (made : List Summand) (s : GreibachSummand)
    → IsStacking y l q i e ts start items k us made → lu ≡ l → k < length items → s ≡ get_or items k s → All (IsFormSummandIn ts l) (map plain_form_summand items)
    → Extends t1 us → AreIn t1 (listed_terms by) → ((v : VarId) → listed t1 by v ≡ e v)
    → (vs : List Tree) (new : List Summand) → Extends us vs → AreMade vs new → trees_of_summands vs new ≡ trees_of_summands us made ++ summand_stacked y lu q i (listed us by) us (plain_form_summand s)
    → IsStacking y l q i e ts start items (k + 1) vs new
stacking_more y l lu q i e ts t1 by start items k us made s j p w read within x1 by_in moves vs new x new_in t =
    let f = summand_stacked y l q i e ts in
    let one = plain_form_summand s in
    let front = map plain_form_summand (take k items) in
    record {
      kept = extends_on ts us vs j.kept x;
      within = new_in;
      trees =
          t
          ∙ ap₂ (λ a b. a ++ b) j.trees (summand_along y l lu q i (listed us by) e ts us one p j.kept (λ v. listed_kept t1 us by x1 by_in v ∙ moves v) (item_in (IsFormSummandIn ts l) items k s w read within))
          ∙ append_assoc (trees_of_summands ts start) (flat_map f front) (f one)
          ∙ ap (λ z. trees_of_summands ts start ++ z)
          (ap (λ z. flat_map f front ++ z) (sym (append-nil (f one))) ∙ sym (flat_map-append f front (one ∷ []))
          ∙ ap (flat_map f) (sym (map-append plain_form_summand (take k items) (s ∷ [])) ∙ ap (map plain_form_summand) (ap (λ z. take k items ++ z ∷ []) read ∙ sym (take_more items k s w))));
    }

pub stacking_all : (y : StackIds) (l : FrameLayout) (q : VarId) (i : ℕ) (e : VarId → Tree) (ts : List Tree) (start : List Summand) (items : List GreibachSummand) (k : ℕ) (us : List Tree) (made : List Summand) → IsStacking y l q i e ts start items k us made → length items ≤ k
    → trees_of_summands us made ≡ trees_of_summands ts start ++ flat_map (summand_stacked y l q i e ts) (map plain_form_summand items)
stacking_all y l q i e ts start items k us made j w = j.trees ∙ ap (λ z. trees_of_summands ts start ++ flat_map (summand_stacked y l q i e ts) (map plain_form_summand z)) (take_all k items w)

-- ---- the equations
pub equation_along : (y : StackIds) (l k : FrameLayout) (q : VarId) (i : ℕ) (ts us : List Tree) (e : PlainEquation) → k ≡ l → Extends ts us → All (IsFormSummandIn ts l) e.summands → equation_stacked y k q i us e ≡ equation_stacked y l q i ts e
equation_along y l k q i ts us e p x h = each e.summands h
  where
    fields_same : (v : VarId) → fields_for y k q i e.params v ≡ fields_for y l q i e.params v
    fields_same v = ap (λ (z : FrameLayout). fields_for y z q i e.params v) p

    each : (ss : List PlainFormSummand) → All (IsFormSummandIn ts l) ss → flat_map (summand_stacked y k q i (fields_for y k q i e.params) us) ss ≡ flat_map (summand_stacked y l q i (fields_for y l q i e.params) ts) ss
    each [] h = refl
    each (s ∷ ss) h =
        ap₂ (λ a b. a ++ b) (summand_along y l k q i (fields_for y k q i e.params) (fields_for y l q i e.params) ts us s p x fields_same (All-head (IsFormSummandIn ts l) s ss h)) (each ss (All-tail (IsFormSummandIn ts l) s ss h))

pub trees_along : (y : StackIds) (l k : FrameLayout) (q : VarId) (ts us : List Tree) (i : ℕ) (es : List PlainEquation) → k ≡ l → Extends ts us → ((n : ℕ) (e : PlainEquation) → slice_get es n ≡ Some e → All (IsFormSummandIn ts l) e.summands)
    → trees_stacked_from y k q i us es ≡ trees_stacked_from y l q i ts es
trees_along y l k q ts us i [] p x h = refl
trees_along y l k q ts us i (e ∷ es) p x h = ap₂ (λ a b. a ++ b) (equation_along y l k q i ts us e p x (h 0 e refl)) (trees_along y l k q ts us (suc i) es p x (λ n z at. h (suc n) z at))

stacked_more : (y : StackIds) (l : FrameLayout) (q : VarId) (i : ℕ) (ts : List Tree) (es : List PlainEquation) (e : PlainEquation) → trees_stacked_from y l q i ts (es ++ e ∷ []) ≡ trees_stacked_from y l q i ts es ++ equation_stacked y l q (length es + i) ts e
stacked_more y l q i ts [] e = append-nil (equation_stacked y l q i ts e) ∙ ap (λ n. equation_stacked y l q n ts e) (let n : i ≡ 0 + i = omega arith in n)
stacked_more y l q i ts (d ∷ es) e =
    ap (λ z. equation_stacked y l q i ts d ++ z) (stacked_more y l q (suc i) ts es e ∙ ap (λ n. trees_stacked_from y l q (suc i) ts es ++ equation_stacked y l q n ts e) (let n : length es + suc i ≡ suc (length es) + i = omega arith in n))
    ∙ sym (append_assoc (equation_stacked y l q i ts d) (trees_stacked_from y l q (suc i) ts es) (equation_stacked y l q (suc (length es) + i) ts e))

pub equation_there : (ts : List Tree) (n : ℕ) (l : FrameLayout) (eqs : List GreibachEquation) (k : ℕ) (q : GreibachEquation) → k < length eqs → q ≡ get_or eqs k q → AreEquationsFor ts n l (map plain_equation eqs) → IsEquationIn ts n l (k + 1) (plain_equation q)
equation_there ts n l eqs k q w read h = h k (plain_equation q) (slice_get-map plain_equation eqs k ∙ ap (option_map plain_equation) (slice_get_read eqs (length eqs) k q refl w read))

pub equation_in_kept : (ts us : List Tree) (n : ℕ) (l k : FrameLayout) (i : ℕ) (q : PlainEquation) → k ≡ l → Extends ts us → IsEquationIn ts n l i q → IsEquationIn us n k i q
equation_in_kept ts us n l k i q p x h =
    subst (λ (z : FrameLayout). IsEquationIn us n z i q) (sym p)
    (record { place = h.place; long = h.long; columns_there = h.columns_there; summands = All-weaker (IsFormSummandIn ts l) (IsFormSummandIn us l) (λ s w. summand_in ts us l l s refl x w) q.summands h.summands })

pub record IsStackingForm (y : StackIds) (l : FrameLayout) (q : VarId) (ts : List Tree) (eqs : List GreibachEquation) (k : ℕ) (us : List Tree) (made : List Summand) : Type 0 where
  pub kept : Extends ts us
  pub within : AreMade us made
  pub trees : trees_of_summands us made ≡ trees_stacked_from y l q 1 ts (map plain_equation (take k eqs))

pub no_equation_stacked : (y : StackIds) (l : FrameLayout) (q : VarId) (ts : List Tree) (eqs : List GreibachEquation) → IsStackingForm y l q ts eqs 0 ts []
no_equation_stacked y l q ts eqs = record { kept = extends_itself ts; within = All-nil (IsSummandIn ts); trees = refl }

pub one_equation_stacked : (y : StackIds) (l lu : FrameLayout) (q : VarId) (ts : List Tree) (n : ℕ) (eqs : List GreibachEquation) (k : ℕ) (us : List Tree) (made : List Summand) (e : GreibachEquation) → IsStackingForm y l q ts eqs k us made → lu ≡ l → k < length eqs
    → e ≡ get_or eqs k e → AreEquationsFor ts n l (map plain_equation eqs) → (vs : List Tree) (new : List Summand) → Extends us vs → AreMade vs new
    → trees_of_summands vs new ≡ trees_of_summands us made ++ equation_stacked y lu q (k + 1) us (plain_equation e) → IsStackingForm y l q ts eqs (k + 1) vs new
one_equation_stacked y l lu q ts n eqs k us made e j p w read there vs new x new_in t =
    let own = equation_there ts n l eqs k e w read there in
    let long = length-map (take k eqs) plain_equation ∙ length-take-le k eqs (omega (arith, w)) in
    record {
      kept = extends_on ts us vs j.kept x;
      within = new_in;
      trees =
          t ∙ ap₂ (λ a b. a ++ b) j.trees (equation_along y l lu q (k + 1) ts us (plain_equation e) p j.kept own.summands)
          ∙ ap (λ m. trees_stacked_from y l q 1 ts (map plain_equation (take k eqs)) ++ equation_stacked y l q m ts (plain_equation e)) (let m : k + 1 ≡ length (map plain_equation (take k eqs)) + 1 = omega (arith, long) in m)
          ∙ sym (stacked_more y l q 1 ts (map plain_equation (take k eqs)) (plain_equation e))
          ∙ ap (trees_stacked_from y l q 1 ts) (sym (ap (map plain_equation) (take_more eqs k e w ∙ ap (λ z. take k eqs ++ z ∷ []) (sym read)) ∙ map-append plain_equation (take k eqs) (e ∷ [])));
    }

pub all_equations_stacked : (y : StackIds) (l : FrameLayout) (q : VarId) (ts : List Tree) (eqs : List GreibachEquation) (k : ℕ) (us : List Tree) (made : List Summand) → IsStackingForm y l q ts eqs k us made → length eqs ≤ k
    → trees_of_summands us made ≡ trees_stacked_from y l q 1 ts (map plain_equation eqs)
all_equations_stacked y l q ts eqs k us made j w = j.trees ∙ ap (λ z. trees_stacked_from y l q 1 ts (map plain_equation z)) (take_all k eqs w)

-- ---- one summand is pushed after another
pub way_along : (y : StackIds) (q : VarId) (i : ℕ) (by : List (VarId × TermId)) (s : PlainFormSummand) (ts us : List Tree) (w v : TreeWay) → Extends ts us → AreIn ts (listed_terms by) → IsWayIn ts s [] None → w ≡ v
    → tree_stacked y q i (listed us by) us s w ≡ tree_stacked y q i (listed ts by) ts s v
way_along y q i by s ts us w v x j k e = stacked_along y q i (listed us by) (listed ts by) ts us s w x (listed_kept ts us by x j) k.condition k.label ∙ ap (tree_stacked y q i (listed ts by) ts s) e

pub way_read : (ts : List Tree) (further next : List TermId) (o : Option (List TermId)) (a b : TermId) (t u : Tree) → further ≡ a ∷ [] → o ≡ Some next → next ≡ b ∷ [] → tree_at ts a ≡ t → tree_at ts b ≡ u → way_of ts further o ≡ record { further = t ∷ []; next = Some (u ∷ []) }
way_read ts further next o a b t u f p n x z =
    ap₂ (λ l m. record { further = trees_at ts l; next = option_map (trees_at ts) m }) f (p ∙ ap (λ l. Some l) n) ∙ ap₂ (λ k l. record { further = k ∷ []; next = Some (l ∷ []) }) x z

pub summands_in_pushed : (ts us : List Tree) (made new : List Summand) (s : Summand) → Extends ts us → AreMade ts made → new ≡ made ++ s ∷ [] → IsSummandIn us (plain_summand s) → AreMade us new
summands_in_pushed ts us made new s x h e k =
    subst (λ z. All (IsSummandIn us) z) (sym (ap (map plain_summand) e ∙ map-append plain_summand made (s ∷ [])))
    (All-push (IsSummandIn us) (map plain_summand made) (plain_summand s) (All-weaker (IsSummandIn ts) (IsSummandIn us) (summand_in_kept ts us x) (map plain_summand made) h) k)

pub summands_pushed : (ts us : List Tree) (made new : List Summand) (s : Summand) (t : TreeSummand) → Extends ts us → AreMade ts made → new ≡ made ++ s ∷ [] → trees_of_summand us (plain_summand s) ≡ t → trees_of_summands us new ≡ trees_of_summands ts made ++ t ∷ []
summands_pushed ts us made new s t x h e k =
    ap (λ z. map (trees_of_summand us) (map plain_summand z)) e ∙ ap (map (trees_of_summand us)) (map-append plain_summand made (s ∷ []))
    ∙ map-append (trees_of_summand us) (map plain_summand made) (plain_summand s ∷ [])
    ∙ ap₂ (λ a b. a ++ b ∷ []) (summands_kept ts us x (map plain_summand made) h) k

-- the summands of one without calls, and of one with calls
pub last_stacked : (y : StackIds) (l : FrameLayout) (q : VarId) (i : ℕ) (e : VarId → Tree) (ts : List Tree) (s : PlainFormSummand) → s.next ≡ [] → tree_stacked y q i e ts s (tree_way_down y q) ∷ tree_stacked y q i e ts s (tree_way_out y q) ∷ [] ≡ summand_stacked y l q i e ts s
last_stacked y l q i e ts s h = ap (λ cs. map (tree_stacked y q i e ts s) (tree_ways y l q e ts cs)) (sym h)

pub up_stacked : (y : StackIds) (l : FrameLayout) (q : VarId) (i : ℕ) (e : VarId → Tree) (ts : List Tree) (s : PlainFormSummand) → (s.next ≡ [] → ⊥) → tree_stacked y q i e ts s (tree_way_up y l q e ts s.next) ∷ [] ≡ summand_stacked y l q i e ts s
up_stacked y l q i e ts s h = by_calls s.next refl
  where
    by_calls : (cs : List (ℕ × List TermId)) → s.next ≡ cs → tree_stacked y q i e ts s (tree_way_up y l q e ts s.next) ∷ [] ≡ summand_stacked y l q i e ts s
    by_calls [] p = absurd (h p)
    by_calls (c ∷ cs) p = ap (λ z. tree_stacked y q i e ts s (tree_way_up y l q e ts z) ∷ []) p ∙ ap (λ z. map (tree_stacked y q i e ts s) (tree_ways y l q e ts z)) (sym p)

pub no_calls : (s : GreibachSummand) (n : ℕ) → n ≡ vec_len s.next → n ≡ 0 → map plain_call s.next.items ≡ []
no_calls s n e z = empty s.next.items (sym s.next.ok.0 ∙ sym e ∙ z)
  where
    empty : (cs : List (ℕ × Vec TermId Global)) → length cs ≡ 0 → map plain_call cs ≡ []
    empty [] l = refl
    empty (c ∷ cs) l = absurd (omega (arith, l))

pub some_calls : (s : GreibachSummand) (n : ℕ) → n ≡ vec_len s.next → (n ≡ 0 → ⊥) → map plain_call s.next.items ≡ [] → ⊥
some_calls s n e z q = z (e ∙ s.next.ok.0 ∙ sym (length-map s.next.items plain_call) ∙ ap length q)
