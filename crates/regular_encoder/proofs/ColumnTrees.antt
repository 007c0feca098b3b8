-- The trees of columns.
use Rattle.std.proofs.Common.{◌≡◌, ◌<◌, ◌≤◌, ◌+◌, ◌-◌, ℕ, zero, suc, List, [], ◌∷◌, ◌++◌, map, take, length, get_or, refl, sym, ap, ap₂, ◌∙◌, subst, arith, cond, ⊎_elim}
use Rattle.std.specs.List.{All}
use Rattle.std.proofs.lemmas.Bool.Decides.{eqb_tells}
use Rattle.std.proofs.lemmas.List.{append_assoc, append-nil, map-append, take_more, take_all}
use Rattle.std.proofs.lemmas.List.Elements.{All-push, All-head}
use Rattle.data_theory.specs.declared.ids.VarId.{VarId}
use Rattle.data_theory.specs.declared.ids.TermId.{TermId}
use Rattle.data_theory.specs.IdTrees.{Tree, variable, put_tree}
use Rattle.term_pool.specs.HeadTrees.{tree_at, trees_at, IsIn, AreIn, no_tree}
use Rattle.term_pool.specs.Pools.{Extends}
use Rattle.term_pool.specs.Bindings.{listed, listed_terms}
use Rattle.std.specs.Prelude.{Vec, option_map, Some}
use Rattle.std.specs.Global.{Global}
use Rattle.std.proofs.lemmas.List.{length-map}
use Rattle.lps_core.proofs.PoolTrees.{extends_itself, extends_on, tree_kept, trees_kept, all_in_kept, listed_kept, args_along, actions_kept, actions_along}
use Rattle.lps_core.specs.PlainLinears.{PlainSummand}
use Rattle.greibach.specs.PlainForms.{PlainFormSummand, plain_call}
use Rattle.lps_core.specs.TreeSummands.{trees_of_label, trees_of_summand, put_actions, IsActionIn, bound_tree}
use Rattle.lps_core.specs.TreeConditions.{conjunction_tree, tree_parts, trees_without_true}
use Rattle.regular_encoder.specs.declared.layouts.Layout.{Layout}
use Rattle.regular_encoder.specs.TreeEncoding.{PlainLayout, plain_place, plain_layout, place_at, tree_control_of, tree_control_parts, tree_next, tree_encoded_next, tree_encoded, IsCallIn, IsFormSummandIn}

-- none of the first variables is this one
abbrev pub AreOthers : List VarId → ℕ → VarId → Type 0
AreOthers ps i x = (k : ℕ) (d : VarId) → k < i → (get_or ps k d).0 ≡ x.0 → ⊥

pub bound_first : (ps : List VarId) (us : List Tree) (x : VarId) (i : ℕ) (d : VarId) (e : Tree) → length ps ≡ length us → i < length ps → AreOthers ps i x → (get_or ps i d).0 ≡ x.0 → bound_tree ps us x ≡ get_or us i e
bound_first [] us x i d e l w h q = absurd (omega (arith, w))
bound_first (p ∷ ps) [] x i d e l w h q = absurd (omega (arith, l))
bound_first (p ∷ ps) (u ∷ us) x zero d e l w h q = ⊎_elim (λ k. ap (λ b. cond b u (bound_tree ps us x)) k.0) (λ k. absurd (k.1 q)) (eqb_tells p.0 x.0)
bound_first (p ∷ ps) (u ∷ us) x (suc i) d e l w h q = ⊎_elim
    (λ k. absurd (h 0 p (omega arith) k.1))
    (λ k. ap (λ b. cond b u (bound_tree ps us x)) k.0 ∙ bound_first ps us x i d e (omega (arith, l)) (omega (arith, w)) (λ j c v. h (suc j) c (omega (arith, v))) q)
    (eqb_tells p.0 x.0)

pub bound_nowhere : (ps : List VarId) (us : List Tree) (x : VarId) (i : ℕ) → length ps ≤ i → AreOthers ps i x → bound_tree ps us x ≡ variable x
bound_nowhere [] us x i l h = refl
bound_nowhere (p ∷ ps) [] x i l h = refl
bound_nowhere (p ∷ ps) (u ∷ us) x i l h = ⊎_elim
    (λ k. absurd (h 0 p (omega (arith, l)) k.1))
    (λ k. ap (λ b. cond b u (bound_tree ps us x)) k.0 ∙ bound_nowhere ps us x (i - 1) (omega (arith, l)) (λ j c v. h (suc j) c (omega (arith, v, l))))
    (eqb_tells p.0 x.0)

read_tree : (ts : List Tree) (ids : List TermId) (i : ℕ) (d : TermId) → i < length ids → get_or (trees_at ts ids) i no_tree ≡ tree_at ts (get_or ids i d)
read_tree ts [] i d l = absurd (omega (arith, l))
read_tree ts (a ∷ ids) zero d l = refl
read_tree ts (a ∷ ids) (suc i) d l = read_tree ts ids i d (omega (arith, l))

-- the column that is found has the argument's tree
pub column_found : (ts : List Tree) (ps : List VarId) (args : List TermId) (x : VarId) (i : ℕ) (d : VarId) (e : TermId) → length ps ≡ length args → i < length ps → AreOthers ps i x → (get_or ps i d).0 ≡ x.0
    → tree_at ts (get_or args i e) ≡ bound_tree ps (trees_at ts args) x
column_found ts ps args x i d e l w h q =
    sym (read_tree ts args i e (omega (arith, l, w))) ∙ sym (bound_first ps (trees_at ts args) x i d no_tree (l ∙ sym (length-map args (tree_at ts))) w h q)

-- ---- the terms of columns, one after another
pub record IsFilling (ts : List Tree) (place : List VarId) (args : List TermId) (columns : List VarId) (start : List TermId) (i : ℕ) (us : List Tree) (terms : List TermId) : Type 0 where
  pub kept : Extends ts us
  pub within : AreIn us terms
  pub args_in : AreIn us args
  pub trees : trees_at us terms ≡ trees_at ts start ++ map (bound_tree place (trees_at ts args)) (take i columns)

pub filling_none : (ts : List Tree) (place : List VarId) (args : List TermId) (columns : List VarId) (start : List TermId) → AreIn ts args → AreIn ts start → IsFilling ts place args columns start 0 ts start
filling_none ts place args columns start h k = record { kept = extends_itself ts; within = k; args_in = h; trees = sym (append-nil (trees_at ts start)) }

pub filling_more : (ts : List Tree) (place : List VarId) (args : List TermId) (columns : List VarId) (start : List TermId) (i : ℕ) (us : List Tree) (terms : List TermId) (d : VarId) → IsFilling ts place args columns start i us terms → i < length columns → AreIn ts args
    → (vs : List Tree) (new : TermId) → Extends us vs → tree_at vs new ≡ bound_tree place (trees_at us args) (get_or columns i d) → IsIn vs new → IsFilling ts place args columns start (i + 1) vs (terms ++ new ∷ [])
filling_more ts place args columns start i us terms d f l own vs new e t w =
    let x = get_or columns i d in
    let b = bound_tree place (trees_at ts args) in
    record {
      kept = extends_on ts us vs f.kept e;
      within = All-push (IsIn vs) terms new (all_in_kept us vs terms e f.within) w;
      args_in = all_in_kept us vs args e f.args_in;
      trees =
          map-append (tree_at vs) terms (new ∷ [])
          ∙ ap₂ (λ zs z. zs ++ z ∷ []) (trees_kept us vs terms e f.within ∙ f.trees) (t ∙ ap (λ z. bound_tree place z x) (trees_kept ts us args f.kept own))
          ∙ append_assoc (trees_at ts start) (map b (take i columns)) (b x ∷ [])
          ∙ ap (λ z. trees_at ts start ++ z) (sym (map-append b (take i columns) (x ∷ [])) ∙ ap (map b) (sym (take_more columns i d l)));
    }

pub filling_all : (ts : List Tree) (place : List VarId) (args : List TermId) (columns : List VarId) (start : List TermId) (i : ℕ) (us : List Tree) (terms : List TermId) → IsFilling ts place args columns start i us terms → length columns ≤ i
    → trees_at us terms ≡ trees_at ts start ++ map (bound_tree place (trees_at ts args)) columns
filling_all ts place args columns start i us terms f l = f.trees ∙ ap (λ z. trees_at ts start ++ map (bound_tree place (trees_at ts args)) z) (take_all i columns l)

-- ---- the next terms
place_is : (places : List (Vec VarId Global)) (k : ℕ) (d : Vec VarId Global) → k < length places → get_or (map plain_place places) k [] ≡ (get_or places k d).items
place_is [] k d l = absurd (omega (arith, l))
place_is (p ∷ places) zero d l = refl
place_is (p ∷ places) (suc k) d l = place_is places k d (omega (arith, l))

pub place_read : (l : Layout) (i : ℕ) (d : Vec VarId Global) → 1 ≤ i → i ≤ length (map plain_place l.places.items) → place_at (plain_layout l) i ≡ (get_or l.places.items (i - 1) d).items
place_read l i d a b = place_is l.places.items (i - 1) d (let e = length-map l.places.items plain_place in omega (arith, a, b, e))

pub next_made : (l : PlainLayout) (by : List (VarId × TermId)) (i : ℕ) (call : List TermId) (ts t1 t2 t3 : List Tree) (args front terms : List TermId) (place : List VarId) → Extends t1 t2 → AreIn t1 args
    → trees_at t1 args ≡ map (put_tree (listed ts by)) (trees_at ts call) → trees_at t2 front ≡ tree_control_of l.control i → place ≡ place_at l i
    → trees_at t3 terms ≡ trees_at t2 front ++ map (bound_tree place (trees_at t2 args)) l.columns → trees_at t3 terms ≡ tree_next l (listed ts by) i (trees_at ts call)
next_made l by i call ts t1 t2 t3 args front terms place e w a f p t =
    t ∙ ap₂ (λ zs us. zs ++ map (bound_tree place us) l.columns) f (trees_kept t1 t2 args e w ∙ a)
    ∙ ap (λ z. tree_control_of l.control i ++ map (bound_tree z (map (put_tree (listed ts by)) (trees_at ts call))) l.columns) p

-- ---- a summand
next_along : (l : PlainLayout) (by : List (VarId × TermId)) (ts us : List Tree) (cs : List (ℕ × List TermId)) → Extends ts us → AreIn ts (listed_terms by) → All (IsCallIn ts l) cs → tree_encoded_next l (listed us by) us cs ≡ tree_encoded_next l (listed ts by) ts cs
next_along l by ts us [] e w h = refl
next_along l by ts us (c ∷ cs) e w h =
    let k = All-head (IsCallIn ts l) c cs h in
    ap (λ z. Some (tree_control_of l.control c.0 ++ map (bound_tree (place_at l c.0) z) l.columns))
    (ap (map (put_tree (listed us by))) (trees_kept ts us c.1 e k.args) ∙ args_along (listed us by) (listed ts by) (listed_kept ts us by e w) (trees_at ts c.1))

pub summand_made : (l : PlainLayout) (i : ℕ) (by : List (VarId × TermId)) (s : PlainFormSummand) (ts t1 t2 t3 : List Tree) (made : PlainSummand) → IsFormSummandIn ts l s → AreIn ts (listed_terms by)
    → Extends ts t1 → Extends t1 t2 → Extends t2 t3 → made.sums ≡ s.sums → IsIn t1 made.condition
    → tree_at t1 made.condition ≡ conjunction_tree (tree_control_parts l.control i ++ trees_without_true (tree_parts (put_tree (listed ts by) (tree_at ts s.condition))))
    → All (IsActionIn t2) made.label → trees_of_label t2 made.label ≡ put_actions (listed t1 by) (trees_of_label t1 s.label)
    → option_map (trees_at t3) made.next ≡ tree_encoded_next l (listed t2 by) t2 s.next
    → trees_of_summand t3 made ≡ tree_encoded l i (listed ts by) ts s
summand_made l i by s ts t1 t2 t3 made within listed_in e1 e2 e3 sums cond_in cond label_in label next =
    let e02 = extends_on ts t1 t2 e1 e2 in
    ap₂ (λ xs c. record { sums = xs; condition = c; label = trees_of_label t3 made.label; next = option_map (trees_at t3) made.next }) sums ((tree_kept t1 t3 made.condition (extends_on t1 t2 t3 e2 e3) cond_in).0 ∙ cond)
    ∙ ap₂ (λ m n. record { sums = s.sums; condition = conjunction_tree (tree_control_parts l.control i ++ trees_without_true (tree_parts (put_tree (listed ts by) (tree_at ts s.condition)))); label = m; next = n })
    (actions_kept t2 t3 made.label e3 label_in ∙ label ∙ ap (put_actions (listed t1 by)) (actions_kept ts t1 s.label e1 within.label) ∙ actions_along (listed t1 by) (listed ts by) (listed_kept ts t1 by e1 listed_in) (trees_of_label ts s.label))
    (next ∙ next_along l by ts t2 s.next e02 listed_in within.next)

pub first_call : (ts : List Tree) (l : PlainLayout) (calls : List (ℕ × Vec TermId Global)) (c : ℕ × Vec TermId Global) → 0 < length calls → c ≡ get_or calls 0 c → All (IsCallIn ts l) (map plain_call calls) → IsCallIn ts l (plain_call c)
first_call ts l [] c w e h = absurd (omega (arith, w))
first_call ts l (a ∷ calls) c w e h = subst (λ z. IsCallIn ts l (plain_call z)) (sym e) (All-head (IsCallIn ts l) (plain_call a) (map plain_call calls) h)
