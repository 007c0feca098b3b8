-- Drafts whose conditions are joined, as a pool grows, and what they mean.
use Rattle.std.proofs.Common.{◌≡◌, ◌<◌, ℕ, zero, suc, length, get_or, arith, Bool, true, false, if◌then◌else◌, List, [], ◌∷◌, ◌++◌, map, refl, sym, ap, ap₂, ◌∙◌, subst, Option, Some, None}
use Rattle.std.proofs.lemmas.List.{map-append}
use Rattle.std.proofs.lemmas.List.Elements.{All-nil, All-cons, All-head, All-tail, All-append, All-push}
use Rattle.std.specs.Prelude.{flat_map, option_map, IfSome, Result, Ok, Err, IfOk, Vec}
use Rattle.std.specs.Global.{Global}
use Rattle.std.specs.List.{All}
use Rattle.data_theory.specs.declared.ids.TermId.{TermId}
use Rattle.data_theory.specs.declared.ids.VarId.{VarId}
use Rattle.data_theory.specs.declared.no_memory.NoMemory.{NoMemory}
use Rattle.data_theory.specs.Terms.{Term}
use Rattle.data_theory.specs.Signature.{Sig}
use Rattle.data_theory.specs.Complete.{IsComplete}
use Rattle.data_theory.specs.IdTables.{IsTable}
use Rattle.data_theory.specs.IdTrees.{Tree}
use Rattle.data_theory.specs.IdTerms.{term_under}
use Rattle.term_pool.specs.HeadTrees.{trees_at, IsIn, AreIn}
use Rattle.term_pool.specs.Pools.{Extends}
use Rattle.process_terms.specs.PlainProcesses.{PlainAction}
use Rattle.process_terms.specs.Labels.{Label}
use Rattle.process_terms.specs.Communication.{conjunction_of}
use Rattle.process_terms.specs.Meanings.{bound_at, term_at, action_of, label_of}
use Rattle.process_terms.specs.SignatureEntries.{entries_of}
use Rattle.bisim_laws.specs.LinearProcesses.{Summand}
use Rattle.bisim_laws.specs.BaseStates.{Side}
use Rattle.lps_core.specs.declared.linears.Summand.{Summand as Made}
use Rattle.lps_core.specs.PlainLinears.{PlainSummand, plain_summand, summand_of}
use Rattle.lps_core.specs.TreeConditions.{conjunction_tree}
use Rattle.lps_core.specs.TreeSummands.{IsActionIn}
use Rattle.lps_core.proofs.PoolTrees.{tree_kept, trees_kept}
use Rattle.lps_core.proofs.Staying.{term_is, terms_are}
use Rattle.lps_core.proofs.MeantParts.{chains_mean_chains}
use Rattle.summand_expander.specs.Product.{product}
use Rattle.summand_expander.specs.declared.sides.Draft.{Draft}
use Rattle.summand_expander.specs.Drafts.{PlainMove, PlainSide, PlainDraft, plain_draft, placed, behind, beside, going_alone, with_flag, ending_alone, lone_drafts, next_of_both, both_moves, all_drafts}
use Rattle.summand_expander.specs.SideMeanings.{IsMoveIn, IsSideIn, IsDraftIn, SideMeans, Joined, joined_draft, joined_summand, IsConditionIn, AreJoined, summand_of_draft}
use Rattle.summand_expander.proofs.MeantDrafts.{drafts_meant}

-- ---- joined one by one
joined_kept : (us vs : List Tree) → Extends us vs → (ss : List PlainSummand) → All (IsConditionIn us) ss → map (joined_summand vs) ss ≡ map (joined_summand us) ss
joined_kept us vs e [] h = refl
joined_kept us vs e (s ∷ ss) h = ap₂ (λ (c : Tree) (zs : List Joined). record { sums = s.sums; condition = c; label = s.label; next = s.next } ∷ zs) (tree_kept us vs s.condition e (All-head (IsConditionIn us) s ss h)).0 (joined_kept us vs e ss (All-tail (IsConditionIn us) s ss h))

conditions_kept : (us vs : List Tree) → Extends us vs → (ss : List PlainSummand) → All (IsConditionIn us) ss → All (IsConditionIn vs) ss
conditions_kept us vs e [] h = All-nil (IsConditionIn vs)
conditions_kept us vs e (s ∷ ss) h = All-cons (IsConditionIn vs) s ss (tree_kept us vs s.condition e (All-head (IsConditionIn us) s ss h)).1 (conditions_kept us vs e ss (All-tail (IsConditionIn us) s ss h))

pub joined_none : (ts us : List Tree) → AreJoined ts [] us []
joined_none ts us = record { conditions = All-nil (IsConditionIn us); same = refl }

pub joined_more : (ts us vs : List Tree) (ds : List PlainDraft) (ss : List PlainSummand) (d : PlainDraft) (s : PlainSummand) → AreJoined ts ds us ss → Extends ts us → Extends us vs → AreIn ts d.parts → IsIn vs s.condition → joined_summand vs s ≡ joined_draft us d
    → AreJoined ts (ds ++ d ∷ []) vs (ss ++ s ∷ [])
joined_more ts us vs ds ss d s j before e i c q = record {
  conditions = All-push (IsConditionIn vs) ss s (conditions_kept us vs e ss j.conditions) c;
  same =
      map-append (joined_summand vs) ss (s ∷ [])
      ∙ ap₂ (λ (x : List Joined) (y : Joined). x ++ y ∷ []) (joined_kept us vs e ss j.conditions ∙ j.same)
      (q ∙ ap (λ (z : List Tree). record { sums = d.sums; condition = conjunction_tree z; label = d.label; next = d.next }) (trees_kept ts us d.parts before i))
      ∙ sym (map-append (joined_draft ts) ds (d ∷ []));
}

-- in the terms of a loop over drafts
pub made_more : (ts us vs : List Tree) (yielded : List Draft) (made : List Made) (d : Draft) (s : Made) → AreJoined ts (map plain_draft yielded) us (map plain_summand made) → Extends ts us → Extends us vs → AreIn ts d.parts.items → IsIn vs s.cond
    → joined_summand vs (plain_summand s) ≡ joined_draft us (plain_draft d) → AreJoined ts (map plain_draft (yielded ++ d ∷ [])) vs (map plain_summand (made ++ s ∷ []))
made_more ts us vs yielded made d s j before e i c q =
    subst (λ ds. AreJoined ts ds vs (map plain_summand (made ++ s ∷ []))) (sym (map-append plain_draft yielded (d ∷ [])))
    (subst (λ ss. AreJoined ts (map plain_draft yielded ++ plain_draft d ∷ []) vs ss) (sym (map-append plain_summand made (s ∷ [])))
    (joined_more ts us vs (map plain_draft yielded) (map plain_summand made) (plain_draft d) (plain_summand s) j before e i c q))

pub draft_at : (ts : List Tree) (items : List Draft) (n : ℕ) (d : Draft) → All (IsDraftIn ts) (map plain_draft items) → n < length items → d ≡ get_or items n d → IsDraftIn ts (plain_draft d)
draft_at ts [] n d h l at = absurd (omega (arith, l))
draft_at ts (x ∷ xs) zero d h l at = subst (λ z. IsDraftIn ts (plain_draft z)) (sym at) (All-head (IsDraftIn ts) (plain_draft x) (map plain_draft xs) h)
draft_at ts (x ∷ xs) (suc n) d h l at = draft_at ts xs n d (All-tail (IsDraftIn ts) (plain_draft x) (map plain_draft xs) h) (omega (arith, l)) at

-- ---- the drafts are in the pool
module _ (ts : List Tree) where
  each_in : {A B : Type 0} (P : A → Type 0) (Q : B → Type 0) (f : A → List B) → ((x : A) → P x → All Q (f x)) → (xs : List A) → All P xs → All Q (flat_map f xs)
  each_in P Q f w [] h = All-nil Q
  each_in P Q f w (x ∷ xs) h = All-append Q (f x) (flat_map f xs) (w x (All-head P x xs h)) (each_in P Q f w xs (All-tail P x xs h))

  row_in : {A B : Type 0} (P : A → Type 0) (Q : B → Type 0) (f : A → B) → ((x : A) → P x → Q (f x)) → (xs : List A) → All P xs → All Q (map f xs)
  row_in P Q f w [] h = All-nil Q
  row_in P Q f w (x ∷ xs) h = All-cons Q (f x) (map f xs) (w x (All-head P x xs h)) (row_in P Q f w xs (All-tail P x xs h))

  both_in : (is js : List TermId) → AreIn ts is → AreIn ts js → AreIn ts (is ++ js)
  both_in is js h k = All-append (IsIn ts) is js h k

  beside_in : (m : PlainMove) (y : PlainSide) → IsSideIn ts y → AreIn ts (beside m y)
  beside_in m y h = elim m.ends as (λ b. AreIn ts (if b then y.running else [])) [ true ↦ h.running | false ↦ All-nil (IsIn ts) ]

  placed_in : (first : Bool) (is js : List TermId) → AreIn ts is → AreIn ts js → AreIn ts (placed first is js)
  placed_in true is js h k = both_in is js h k
  placed_in false is js h k = both_in js is k h

  behind_in : (ps : List TermId) (m : PlainMove) (next : Option (List TermId)) → AreIn ts ps → IsMoveIn ts m → IfSome next (AreIn ts) → IsDraftIn ts (behind ps m next)
  behind_in ps m next h k n = record { parts = both_in ps m.parts h k.parts; label = k.label; next = n }

  with_flag_in : (x : PlainSide) (m : PlainMove) (f : Option TermId) → IsSideIn ts x → IsMoveIn ts m → IfSome f (IsIn ts) → All (IsDraftIn ts) (with_flag x m f)
  with_flag_in x m None h k i = All-nil (IsDraftIn ts)
  with_flag_in x m (Some f) h k i = All-cons (IsDraftIn ts) (behind (x.running ++ f ∷ []) m None) [] (behind_in (x.running ++ f ∷ []) m None (both_in x.running (f ∷ []) h.running (All-cons (IsIn ts) f [] i (All-nil (IsIn ts)))) k tt) (All-nil (IsDraftIn ts))

  lone_in : (first : Bool) (x y : PlainSide) (m : PlainMove) → IsSideIn ts x → IsSideIn ts y → IsMoveIn ts m → All (IsDraftIn ts) (lone_drafts first x y m)
  lone_in first x y m h k i = All-cons (IsDraftIn ts) (going_alone first x y m) (ending_alone x y m)
      (behind_in (x.running ++ beside m y) m (Some (placed first m.onward y.columns)) (both_in x.running (beside m y) h.running (beside_in m y k)) i (placed_in first m.onward y.columns i.onward k.columns))
      (elim m.ends as (λ b. All (IsDraftIn ts) (if b then with_flag x m y.flag else [])) [ true ↦ with_flag_in x m y.flag h i k.flag | false ↦ All-nil (IsDraftIn ts) ])

  next_in : (m n : PlainMove) → IsMoveIn ts m → IsMoveIn ts n → IfSome (next_of_both m n) (AreIn ts)
  next_in m n h k =
      let one = both_in m.onward n.onward h.onward k.onward in
      elim m.ends as (λ b. IfSome (if b then (if n.ends then None else Some (m.onward ++ n.onward)) else Some (m.onward ++ n.onward)) (AreIn ts)) [
        | true ↦ elim n.ends as (λ b. IfSome (if b then None else Some (m.onward ++ n.onward)) (AreIn ts)) [ true ↦ tt | false ↦ one ]
        | false ↦ one
      ]

  pair_in : (x y : PlainSide) (m n : PlainMove) → IsSideIn ts x → IsSideIn ts y → IsMoveIn ts m → IsMoveIn ts n → IsDraftIn ts (both_moves x y m n)
  pair_in x y m n h k i j = record {
    parts = both_in ((x.running ++ y.running) ++ m.parts) n.parts (both_in (x.running ++ y.running) m.parts (both_in x.running y.running h.running k.running) i.parts) j.parts;
    label = All-append (IsActionIn ts) m.label n.label i.label j.label;
    next = next_in m n i j;
  }

  pub drafts_in : (x y : PlainSide) → IsSideIn ts x → IsSideIn ts y → All (IsDraftIn ts) (all_drafts x y)
  drafts_in x y h k =
      All-append (IsDraftIn ts) (flat_map (lone_drafts true x y) x.moves) (flat_map (lone_drafts false y x) y.moves ++ flat_map (λ m. map (both_moves x y m) y.moves) x.moves)
      (each_in (IsMoveIn ts) (IsDraftIn ts) (lone_drafts true x y) (λ m i. lone_in true x y m h k i) x.moves h.moves)
      (All-append (IsDraftIn ts) (flat_map (lone_drafts false y x) y.moves) (flat_map (λ m. map (both_moves x y m) y.moves) x.moves)
      (each_in (IsMoveIn ts) (IsDraftIn ts) (lone_drafts false y x) (λ m i. lone_in false y x m k h i) y.moves k.moves)
      (each_in (IsMoveIn ts) (IsDraftIn ts) (λ m. map (both_moves x y m) y.moves) (λ m i. row_in (IsMoveIn ts) (IsDraftIn ts) (both_moves x y m) (λ n j. pair_in x y m n h k i j) y.moves k.moves) x.moves h.moves))

-- ---- what they mean
module _ (g : Sig) (table : IsTable g) (complete : IsComplete g) (ts us : List Tree) (e : Extends ts us) where
  pub ids_meant : (ids : List TermId) → AreIn ts ids → map (term_at (entries_of g us)) ids ≡ map (term_at (entries_of g ts)) ids
  ids_meant [] h = refl
  ids_meant (id ∷ ids) h =
      let i = All-head (IsIn ts) id ids h in
      let k = tree_kept ts us id e i in
      ap₂ (λ t zs. t ∷ zs) (term_is g us id k.1 ∙ ap (term_under g) k.0 ∙ sym (term_is g ts id i)) (ids_meant ids (All-tail (IsIn ts) id ids h))

  pub label_meant : (m : List PlainAction) → All (IsActionIn ts) m → label_of (entries_of g us) m ≡ label_of (entries_of g ts) m
  label_meant [] h = refl
  label_meant (a ∷ m) h = ap₂ (λ (args : List Term) (zs : Label). record { name = (action_of (entries_of g ts) a).name; sorts = (action_of (entries_of g ts) a).sorts; args = args } ∷ zs) (ids_meant a.args (All-head (IsActionIn ts) a m h)) (label_meant m (All-tail (IsActionIn ts) a m h))

  next_meant : (next : Option (List TermId)) → IfSome next (AreIn ts) → option_map (map (term_at (entries_of g us))) next ≡ option_map (map (term_at (entries_of g ts))) next
  next_meant None h = refl
  next_meant (Some ids) h = ap Some (ids_meant ids h)

  one_meant : (d : PlainDraft) (s : PlainSummand) → IsDraftIn ts d → IsIn us s.condition → joined_summand us s ≡ joined_draft ts d → summand_of (entries_of g us) s ≡ summand_of_draft (entries_of g ts) d
  one_meant d s h c q =
      let p : term_at (entries_of g us) s.condition ≡ conjunction_of (map (term_at (entries_of g ts)) d.parts) =
      term_is g us s.condition c ∙ ap (λ (z : Joined). term_under g z.condition) q ∙ chains_mean_chains g table complete (trees_at ts d.parts) ∙ ap conjunction_of (sym (terms_are g ts d.parts h.parts)) in
      ap (λ (z : Joined). meant z.sums (term_at (entries_of g us) s.condition) (label_of (entries_of g us) z.label) (option_map (map (term_at (entries_of g us))) z.next)) q
      ∙ ap₂ (λ (t : Term) (m : Label). meant d.sums t m (option_map (map (term_at (entries_of g us))) d.next)) p (label_meant d.label h.label)
      ∙ ap (meant d.sums (conjunction_of (map (term_at (entries_of g ts)) d.parts)) (label_of (entries_of g ts) d.label)) (next_meant d.next h.next)
    where
      meant : List VarId → Term → Label → Option (List Term) → Summand
      meant xs t m n = record { sums = map (bound_at (entries_of g ts)) xs; condition = t; label = m; next = n }

  pub all_meant : (ds : List PlainDraft) (ss : List PlainSummand) → All (IsDraftIn ts) ds → All (IsConditionIn us) ss → map (joined_summand us) ss ≡ map (joined_draft ts) ds → map (summand_of (entries_of g us)) ss ≡ map (summand_of_draft (entries_of g ts)) ds
  all_meant [] [] h c q = refl
  all_meant [] (s ∷ ss) h c q = absurd (more_none q)
    where
      more_none : {x : Joined} {xs : List Joined} → x ∷ xs ≡ [] → ⊥
      more_none e = cc
  all_meant (d ∷ ds) [] h c q = absurd (none_more q)
    where
      none_more : {x : Joined} {xs : List Joined} → [] ≡ x ∷ xs → ⊥
      none_more e = cc
  all_meant (d ∷ ds) (s ∷ ss) h c q = ap₂ (λ z zs. z ∷ zs)
      (one_meant d s (All-head (IsDraftIn ts) d ds h) (All-head (IsConditionIn us) s ss c) (first_same q))
      (all_meant ds ss (All-tail (IsDraftIn ts) d ds h) (All-tail (IsConditionIn us) s ss c) (rest_same q))
    where
      first_same : {x y : Joined} {xs ys : List Joined} → x ∷ xs ≡ y ∷ ys → x ≡ y
      first_same e = cc

      rest_same : {x y : Joined} {xs ys : List Joined} → x ∷ xs ≡ y ∷ ys → xs ≡ ys
      rest_same e = cc

pub joined_meant : (ts us : List Tree) (x y : PlainSide) (ds : List PlainDraft) (ss : List PlainSummand) → IsSideIn ts x → IsSideIn ts y → Extends ts us → ds ≡ all_drafts x y → AreJoined ts ds us ss
    → (g : Sig) → IsTable g → IsComplete g → (a b : Side) → SideMeans (entries_of g ts) x a → SideMeans (entries_of g ts) y b → map (summand_of (entries_of g us)) ss ≡ (product a b).summands
joined_meant ts us x y ds ss h k e q j g table complete a b left right =
    all_meant g table complete ts us e ds ss (subst (λ z. All (IsDraftIn ts) z) (sym q) (drafts_in ts x y h k)) j.conditions j.same
    ∙ ap (map (summand_of_draft (entries_of g ts))) q ∙ drafts_meant (entries_of g ts) x y a b left right

pub summands_meant : (ts us : List Tree) (x y : PlainSide) (ds : List PlainDraft) (r : Result (Vec Made Global) NoMemory) → IsSideIn ts x → IsSideIn ts y → Extends ts us → ds ≡ all_drafts x y → IfOk r (λ made. AreJoined ts ds us (map plain_summand made.items))
    → IfOk r (λ made. (g : Sig) → IsTable g → IsComplete g → (a b : Side) → SideMeans (entries_of g ts) x a → SideMeans (entries_of g ts) y b → map (summand_of (entries_of g us)) (map plain_summand made.items) ≡ (product a b).summands)
summands_meant ts us x y ds (Ok made) h k e q j = joined_meant ts us x y ds (map plain_summand made.items) h k e q j
summands_meant ts us x y ds (Err z) h k e q j = tt
