-- Terms that are entered into another pool, and lines over them.
use Rattle.std.specs.Prelude.{◌≡◌, ◌<◌, ◌+◌, ◌++◌, ℕ, List, [], ◌∷◌, map, length, take, get_or, Result, Ok, Err, IfOk}
use Rattle.std.proofs.Common.{refl, sym, subst, ap, ap₂, ◌∙◌}
use Rattle.std.specs.List.{All}
use Rattle.std.proofs.lemmas.List.{length-map, map-append, get_or-take, take_more}
use Rattle.std.proofs.lemmas.List.Elements.{All-nil, All-cons, All-head, All-tail, All-map, All-push, All-get_or, All-weaker}
use Rattle.data_theory.specs.declared.ids.TermId.{TermId}
use Rattle.data_theory.specs.IdTrees.{Tree}
use Rattle.data_theory.specs.IdTerms.{term_under, IsTreeWithin}
use Rattle.data_theory.specs.Signature.{Sig}
use Rattle.data_theory.specs.Terms.{Term}
use Rattle.process_terms.specs.Labels.{Action, Label}
use Rattle.process_terms.specs.PlainProcesses.{PlainAction}
use Rattle.term_pool.specs.declared.terms.Head.{Head}
use Rattle.term_pool.specs.declared.terms.Head.TheVariants.{Var, Num, Fun}
use Rattle.term_pool.specs.HeadTrees.{head_tree, no_tree, tree_at, trees_at, IsIn, AreIn, Stands}
use Rattle.term_pool.specs.Pools.{Extends}
use Rattle.data_rewriter.specs.Standing.{IsTerm, term_at}
use Rattle.lps_core.proofs.PoolTrees.{all_in_kept, trees_kept}
use Rattle.lps_core.proofs.Staying.{read_mapped}
use Rattle.trace_replay.specs.Entering.{entered_action, entered_line, number_in, ActionHasPlaces, AreEntered, HavePlaces, LineHasPlaces}
use Rattle.trace_replay.specs.ReadTraces.{PlainLine}
use Rattle.trace_replay.specs.Replays.{Entry}
use Rattle.trace_replay.specs.Verdicts.{LinesAre}
use Rattle.trace_replay.specs.Ways.{ActionIs, LabelIs}

-- ---- results and elements of lists
pub then_ok : {A E : Type 0} (r : Result A E) (P Q : A → Type 0) → ((a : A) → P a → Q a) → IfOk r P → IfOk r Q
then_ok (Ok a) P Q follows holds = follows a holds
then_ok (Err e) P Q follows holds = holds

pub mapped_at : {A B : Type 0} (P : B → Type 0) (f : A → B) (xs : List A) (i : ℕ) (x : A) → i < length xs → x ≡ get_or xs i x → All P (map f xs) → P (f x)
mapped_at P f xs i x l is h = subst P (read_mapped f xs i (f x) x l ∙ ap f (sym is)) (All-get_or P (map f xs) i (f x) (subst (λ (n : ℕ). i < n) (sym (length-map xs f)) l) h)

-- ---- many terms
pub nothing_entered : (us : List Tree) → AreEntered [] us []
nothing_entered us = record { within = All-nil (IsIn us); trees = refl }

pub as_many : (ts us : List Tree) (ids : List TermId) → AreEntered ts us ids → length ids ≡ length ts
as_many ts us ids h = sym (length-map ids (tree_at us)) ∙ ap length h.trees

-- ---- one term
module _ (ts us : List Tree) (ids : List TermId) (h : AreEntered ts us ids) where
  -- the number at the place of a term stands for its tree
  pub number_within : (term : TermId) → term.0 < length ids → IsIn us (number_in ids term)
  number_within term l = All-get_or (IsIn us) ids term.0 (record { 0 = 0 }) l h.within

  pub number_stands : (term : TermId) → term.0 < length ids → tree_at us (number_in ids term) ≡ tree_at ts term
  number_stands term l = sym (read_mapped (tree_at us) ids term.0 no_tree (record { 0 = 0 }) l) ∙ ap (λ (z : List Tree). get_or z term.0 no_tree) h.trees

  pub numbers_within : (terms : List TermId) → HavePlaces ids terms → AreIn us (map (number_in ids) terms)
  numbers_within terms p = All-map (IsIn us) (number_in ids) terms (All-weaker (λ (term : TermId). term.0 < length ids) (λ (term : TermId). IsIn us (number_in ids term)) number_within terms p)

  pub numbers_stand : (terms : List TermId) → HavePlaces ids terms → trees_at us (map (number_in ids) terms) ≡ trees_at ts terms
  numbers_stand [] p = refl
  numbers_stand (term ∷ terms) p =
      ap₂ (λ (t : Tree) (z : List Tree). t ∷ z) (number_stands term (All-head (λ (z : TermId). z.0 < length ids) term terms p)) (numbers_stand terms (All-tail (λ (z : TermId). z.0 < length ids) term terms p))

pub head_stands : (head : Head) (f : TermId → TermId) (args : List TermId) → Stands head args → Stands head (map f args)
head_stands (Var v) f args h = ap (map f) h
head_stands (Num s n) f args h = (ap (map f) h.0, h.1)
head_stands (Fun f) g args h = tt

-- the trees of arguments below a place
front_trees : (ts : List Tree) (k : ℕ) (args : List TermId) → All (λ (arg : TermId). arg.0 < k) args → trees_at (take k ts) args ≡ trees_at ts args
front_trees ts k [] h = refl
front_trees ts k (arg ∷ args) h =
    ap₂ (λ (t : Tree) (z : List Tree). t ∷ z) (get_or-take k ts arg.0 no_tree (All-head (λ (z : TermId). z.0 < k) arg args h)) (front_trees ts k args (All-tail (λ (z : TermId). z.0 < k) arg args h))

-- what a node's arguments below it are entered as
module _ (ts us : List Tree) (ids : List TermId) (k : ℕ) (many : length ids ≡ k) (h : AreEntered (take k ts) us ids) (args : List TermId) (below : All (λ (arg : TermId). arg.0 < k) args) where
  pub args_have_places : HavePlaces ids args
  args_have_places = subst (λ (n : ℕ). All (λ (arg : TermId). arg.0 < n) args) (sym many) below

  pub args_within : AreIn us (map (number_in ids) args)
  args_within = numbers_within (take k ts) us ids h args args_have_places

  -- the term itself
  pub one_more : (vs : List Tree) (head : Head) (id : TermId) (made : List TermId) → k < length ts → Extends us vs → made ≡ map (number_in ids) args → get_or ts k no_tree ≡ head_tree head (trees_at ts args) → tree_at vs id ≡ head_tree head (trees_at us made)
      → IsIn vs id → AreEntered (take (k + 1) ts) vs (ids ++ id ∷ [])
  one_more vs head id made inside grows is tree new there =
      let same : trees_at us made ≡ trees_at ts args = ap (trees_at us) is ∙ numbers_stand (take k ts) us ids h args args_have_places ∙ front_trees ts k args below in
      let here : tree_at vs id ≡ get_or ts k no_tree = new ∙ ap (head_tree head) same ∙ sym tree in
      record {
        within = All-push (IsIn vs) ids id (all_in_kept us vs ids grows h.within) there;
        trees = map-append (tree_at vs) ids (id ∷ [])
            ∙ ap₂ (λ (y z : List Tree). y ++ z) (trees_kept us vs ids grows h.within ∙ h.trees) (ap (λ (t : Tree). t ∷ []) here)
            ∙ sym (take_more ts k no_tree inside);
      }

-- ---- lines
-- an action over terms of the first pool has a number for each of its arguments, and is the same over the second one
module _ (g : Sig) (ts us : List Tree) (ids : List TermId) (h : AreEntered ts us ids) where
  pub places_of : (terms : List TermId) → All (IsTerm g ts) terms → HavePlaces ids terms
  places_of terms over = All-weaker (IsTerm g ts) (λ (term : TermId). term.0 < length ids) (λ term t. subst (λ (n : ℕ). term.0 < n) (sym (as_many ts us ids h)) t.inside) terms over

  pub entered_term : (term : TermId) → IsTerm g ts term → IsTerm g us (number_in ids term)
  entered_term term t =
      let l : term.0 < length ids = subst (λ (n : ℕ). term.0 < n) (sym (as_many ts us ids h)) t.inside in
      record { inside = number_within ts us ids h term l; within = subst (IsTreeWithin g) (sym (number_stands ts us ids h term l)) t.within }

  pub entered_terms : (terms : List TermId) → All (IsTerm g ts) terms → All (IsTerm g us) (map (number_in ids) terms)
  entered_terms terms over = All-map (IsTerm g us) (number_in ids) terms (All-weaker (IsTerm g ts) (λ (term : TermId). IsTerm g us (number_in ids term)) entered_term terms over)

  pub same_terms : (terms : List TermId) → All (IsTerm g ts) terms → map (term_at g us) (map (number_in ids) terms) ≡ map (term_at g ts) terms
  same_terms [] over = refl
  same_terms (term ∷ terms) over =
      let t = All-head (IsTerm g ts) term terms over in
      let l : term.0 < length ids = subst (λ (n : ℕ). term.0 < n) (sym (as_many ts us ids h)) t.inside in
      ap₂ (λ (x : Term) (z : List Term). x ∷ z) (ap (term_under g) (number_stands ts us ids h term l)) (same_terms terms (All-tail (IsTerm g ts) term terms over))

  action_entered : (x : PlainAction) (a : Action) → ActionIs g ts x a → ActionIs g us (entered_action ids x) a
  action_entered x a is = record { key = is.key; stands = is.stands; name = is.name; sorts = is.sorts; over = entered_terms x.args is.over; args = same_terms x.args is.over ∙ is.args }

  pub label_entered : (xs : List PlainAction) (m : Label) → LabelIs g ts xs m → LabelIs g us (map (entered_action ids) xs) m
  label_entered [] [] is = tt
  label_entered [] (a ∷ m) is = absurd is
  label_entered (x ∷ xs) [] is = absurd is
  label_entered (x ∷ xs) (a ∷ m) is = (action_entered x a is.0, label_entered xs m is.1)

  pub label_places : (xs : List PlainAction) (m : Label) → LabelIs g ts xs m → All (ActionHasPlaces ids) xs
  label_places [] [] is = All-nil (ActionHasPlaces ids)
  label_places [] (a ∷ m) is = absurd is
  label_places (x ∷ xs) [] is = absurd is
  label_places (x ∷ xs) (a ∷ m) is = All-cons (ActionHasPlaces ids) x xs (places_of x.args is.0.over) (label_places xs m is.1)

  pub lines_entered : (xs : List PlainLine) (es : List Entry) → LinesAre g ts xs es → LinesAre g us (map (entered_line ids) xs) es
  lines_entered [] [] is = tt
  lines_entered [] (e ∷ es) is = absurd is
  lines_entered (x ∷ xs) [] is = absurd is
  lines_entered (x ∷ xs) (e ∷ es) is = (record { number = is.0.number; label = label_entered x.label e.label is.0.label; closed = is.0.closed }, lines_entered xs es is.1)

  pub lines_places : (xs : List PlainLine) (es : List Entry) → LinesAre g ts xs es → All (LineHasPlaces ids) xs
  lines_places [] [] is = All-nil (LineHasPlaces ids)
  lines_places [] (e ∷ es) is = absurd is
  lines_places (x ∷ xs) [] is = absurd is
  lines_places (x ∷ xs) (e ∷ es) is = All-cons (LineHasPlaces ids) x xs (label_places x.label e.label is.0.label) (lines_places xs es is.1)

-- the same of lines that are made of them
pub made_entered : (g : Sig) (ts us : List Tree) (ids : List TermId) → AreEntered ts us ids → (xs ys : List PlainLine) (es : List Entry) → ys ≡ map (entered_line ids) xs → LinesAre g ts xs es → LinesAre g us ys es
made_entered g ts us ids h xs ys es made is = subst (λ (z : List PlainLine). LinesAre g us z es) (sym made) (lines_entered g ts us ids h xs es is)
