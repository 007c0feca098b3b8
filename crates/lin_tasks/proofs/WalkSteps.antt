-- Walks, move by move.
use Rattle.std.proofs.Common.{◌≡◌, ◌<◌, ◌+◌, ◌-◌, ◌*◌, ◌^◌, ◌/◌, cond, ℕ, zero, suc, List, [], ◌∷◌, ◌++◌, length, refl, sym, ap, ◌∙◌, subst, arith, append-nil, add-one, length-append, Option, Some, None}
use Rattle.std.specs.Prelude.{codes, decimal, IfSome, slice_get}
use Rattle.std.specs.List.{flat_map}
use Rattle.std.proofs.lemmas.List.{append_assoc}
use Rattle.std.proofs.lemmas.Nat.{mod_below}
use Rattle.std.proofs.Math.Dec.{eqb-suc-zero}
use Rattle.data_theory.specs.declared.ids.TermId.{TermId}
use Rattle.data_theory.specs.IdTrees.{Tree}
use Rattle.data_theory.specs.Provable.{Equation}
use Rattle.data_theory.specs.Signature.{Sig}
use Rattle.data_theory.specs.WholeSignatures.{IsSignature}
use Rattle.data_rewriter.specs.Simplifying.{AreWellFormed}
use Rattle.term_pool.specs.Pools.{Extends}
use Rattle.process_terms.specs.Labels.{Label}
use Rattle.lps_core.specs.Fitting.{Fits}
use Rattle.lps_core.specs.PlainLinears.{PlainLinear}
use Rattle.lps_simulator.specs.declared.options.Open.{Open}
use Rattle.lps_simulator.specs.OptionLaws.{HasOptions}
use Rattle.lps_simulator.specs.OptionsInCode.{PlainMove, PlainOptions, meant_move, AreOptionsAt, IsState}
use Rattle.lps_simulator.specs.Walks.{next_word, IsChooser, IsPick}
use Rattle.lin_tasks.specs.Shown.{label_line}
use Rattle.lin_answers.specs.Statuses.{status_with}
use Rattle.chosen_moves.specs.TakenMoves.{Pick, TakesMoves, none_taken, one_taken}
use Rattle.chosen_moves.proofs.TakenMoves.{takes_both}
use Rattle.lin_tasks.specs.Walks.{picked, place_picked, picks_by_words, StopsThere, most_taken, at_the_end, no_move, Walks, PicksByWords, TakesOne, none_behind_the_end, none_there, takes_one, HasWalked, ShowsWalk}
use Rattle.lin_answers.specs.declared.status.Status.{Status}
use Rattle.lin_answers.specs.declared.status.Status.TheVariants.{Done}
use Rattle.lin_answers.specs.declared.plan.Plan.{Plan}

-- ---- choosers
one_of_some : (word n : ℕ) → place_picked word (suc n) ≡ Some (picked word (suc n))
one_of_some word n = ap (λ b. cond b None (Some (picked word (suc n)))) (eqb-suc-zero n)

picks_one : (word n : ℕ) → IsPick n (place_picked word n)
picks_one word zero = refl
picks_one word (suc n) = subst (IsPick (suc n)) (sym (one_of_some word n)) (mod_below (word / 2 ^ 33) (suc n) (omega arith))

pub a_chooser : (calls : ℕ → ℕ → Type 0) (answers : ℕ → ℕ → Option ℕ → Type 0) → PicksByWords calls answers → IsChooser calls answers
a_chooser calls answers p = record {
  callable = p.callable;
  picks = λ word n w l answer a. subst (IsPick n) (sym (p.picks word n w l answer a)) (picks_one word n);
}

-- ---- one move
-- the options in a state, or none behind the end
pub options_there : (g : Sig) (own : List Equation) (fuel bound : ℕ) (ts us : List Tree) (l : PlainLinear) (ids : List TermId) (found : PlainOptions) → IsSignature g → AreWellFormed g own → Fits g ts l → IsState g ts l.params ids
    → AreOptionsAt g own fuel bound ts us l (Some ids) found → HasOptions g own fuel bound ts us l ids found
options_there g own fuel bound ts us l ids found stands fine fits state options = record { signature = stands; fine = fine; fits = fits; stands = state; options = options }

no_moves : (ms : List PlainMove) → length ms ≡ 0 → ms ≡ []
no_moves [] e = refl
no_moves (m ∷ ms) e = absurd (omega (arith, e))

module _ (g : Sig) (own : List Equation) (fuel bound word : ℕ) (ts us : List Tree) (l : PlainLinear) (stands : IsSignature g) (fine : AreWellFormed g own) (fits : Fits g ts l) (old : List ℕ) where
  -- where nothing is picked, there is no move
  pub nothing_picked : (state next : Option (List TermId)) (found : PlainOptions) → IfSome state (IsState g ts l.params) → AreOptionsAt g own fuel bound ts us l state found → length found.moves ≡ 0
      → TakesOne g own fuel bound word l ts us old state next old (Some (status_with found.undecided))
  nothing_picked None next found is options none = subst (λ (f : PlainOptions). TakesOne g own fuel bound word l ts us old None next old (Some (status_with f.undecided))) (sym options) none_behind_the_end
  nothing_picked (Some ids) next found is options none = none_there found (options_there g own fuel bound ts us l ids found stands fine fits is options) (no_moves found.moves none)

  -- what is picked is taken
  pub one_picked : (state next : Option (List TermId)) (new : List ℕ) (found : PlainOptions) (k : ℕ) (m : PlainMove) → IfSome state (IsState g ts l.params) → AreOptionsAt g own fuel bound ts us l state found → Some k ≡ place_picked word (length found.moves)
      → slice_get found.moves k ≡ Some m → next ≡ m.next → new ≡ old ++ label_line g (meant_move g us m).label → TakesOne g own fuel bound word l ts us old state next new None
  one_picked None next new found k m is options chosen there_is on text = absurd (never found.moves k m (ap (λ (f : PlainOptions). f.moves) options) there_is)
    where
      never : (ms : List PlainMove) (k : ℕ) (m : PlainMove) → ms ≡ [] → slice_get ms k ≡ Some m → ⊥
      never [] k m e q = cc
      never (x ∷ ms) k m e q = cc
  one_picked (Some ids) next new found k m is options chosen there_is on text = takes_one found m k (options_there g own fuel bound ts us l ids found stands fine fits is options) (sym chosen) there_is on text

-- the same of other words, processes and answers that are equal
pub taken_as : (g : Sig) (own : List Equation) (fuel bound word word' : ℕ) (l l' : PlainLinear) (ts us : List Tree) (old new : List ℕ) (state next : Option (List TermId)) (r r' : Option Status) → word ≡ word' → l ≡ l' → r ≡ r'
    → TakesOne g own fuel bound word l ts us old state next new r → TakesOne g own fuel bound word' l' ts us old state next new r'
taken_as g own fuel bound word word' l l' ts us old new state next r r' e f k h =
    subst (λ (z : Option Status). TakesOne g own fuel bound word' l' ts us old state next new z) k
    (subst (λ (z : PlainLinear). TakesOne g own fuel bound word' z ts us old state next new r) f
    (subst (λ z. TakesOne g own fuel bound z l ts us old state next new r) e h))

-- ---- words
-- the word so many words behind a word
abbrev pub word_behind : ℕ → ℕ → ℕ
word_behind zero word = word
word_behind (suc n) word = word_behind n (next_word word)

next_behind : (n word : ℕ) → next_word (word_behind n word) ≡ word_behind (suc n) word
next_behind zero word = refl
next_behind (suc n) word = next_behind n (next_word word)

one_pick_more : (n word : ℕ) → picks_by_words (suc n) word ≡ picks_by_words n word ++ place_picked (next_word (word_behind n word)) ∷ []
one_pick_more zero word = refl
one_pick_more (suc n) word = ap (λ (ps : List Pick). place_picked (next_word word) ∷ ps) (one_pick_more n (next_word word))

-- ---- move after move
-- what was walked so far
pub record HasWalkedSoFar (g : Sig) (own : List Equation) (plan : Plan) (word word' : ℕ) (l : PlainLinear) (ts us : List Tree) (state state' : Option (List TermId)) (old new : List ℕ) (taken : ℕ) : Type 0 where
  pub labels : List Label
  pub text : new ≡ old ++ flat_map (label_line g) labels
  pub counted : taken ≡ length labels
  pub word_is : word' ≡ word_behind taken word
  pub takes : TakesMoves g own plan.fuel plan.bound l (picks_by_words taken word) ts state us state' labels

module _ (g : Sig) (own : List Equation) (plan : Plan) (word : ℕ) (l : PlainLinear) (ts : List Tree) (state : Option (List TermId)) (old : List ℕ) where
  abbrev SoFar : ℕ → List Tree → Option (List TermId) → List ℕ → ℕ → Type 0
  SoFar word' us state' new taken = HasWalkedSoFar g own plan word word' l ts us state state' old new taken

  pub nothing_walked : SoFar word ts state old 0
  nothing_walked = record { labels = []; text = sym (append-nil old); counted = refl; word_is = refl; takes = none_taken }

  lines_more : (labels : List Label) (m : Label) → flat_map (label_line g) labels ++ label_line g m ≡ flat_map (label_line g) (labels ++ m ∷ [])
  lines_more [] m = sym (append-nil (label_line g m))
  lines_more (n ∷ labels) m = append_assoc (label_line g n) (flat_map (label_line g) labels) (label_line g m) ∙ ap (λ z. label_line g n ++ z) (lines_more labels m)

  one_walked : (word' : ℕ) (us vs : List Tree) (state' next : Option (List TermId)) (text new : List ℕ) (taken : ℕ) → SoFar word' us state' text taken → Extends us vs
      → TakesOne g own plan.fuel plan.bound (next_word word') l us vs text state' next new None → SoFar (next_word word') vs next new (suc taken)
  one_walked word' us vs state' next text new taken far kept (takes_one found m place has picked there to shown) =
      let label = (meant_move g vs m).label in
      let one : TakesMoves g own plan.fuel plan.bound l (place_picked (next_word word') ∷ []) us state' vs next (label ∷ []) =
      one_taken found m place has kept picked there (subst (λ (o : Option (List TermId)). TakesMoves g own plan.fuel plan.bound l [] vs m.next vs o []) (sym to) none_taken) in
      let picks : picks_by_words taken word ++ place_picked (next_word word') ∷ [] ≡ picks_by_words (suc taken) word =
      ap (λ w. picks_by_words taken word ++ place_picked (next_word w) ∷ []) far.word_is ∙ sym (one_pick_more taken word) in
      record {
        labels = far.labels ++ label ∷ [];
        text = shown ∙ ap (λ z. z ++ label_line g label) far.text ∙ append_assoc old (flat_map (label_line g) far.labels) (label_line g label) ∙ ap (λ z. old ++ z) (lines_more far.labels label);
        counted = ap suc far.counted ∙ (let e : suc (length far.labels) ≡ length far.labels + length (label ∷ []) = omega arith in e) ∙ sym (length-append far.labels (label ∷ []));
        word_is = ap next_word far.word_is ∙ next_behind taken word;
        takes = subst (λ (ps : List Pick). TakesMoves g own plan.fuel plan.bound l ps ts state vs next (far.labels ++ label ∷ [])) picks (takes_both far.takes one);
      }

  -- the same, where the next word is told
  pub one_walked_to : (word' word'' : ℕ) (us vs : List Tree) (state' next : Option (List TermId)) (text new : List ℕ) (taken : ℕ) → SoFar word' us state' text taken → Extends us vs → word'' ≡ next_word word'
      → TakesOne g own plan.fuel plan.bound (next_word word') l us vs text state' next new None → SoFar word'' vs next new (taken + 1)
  one_walked_to word' word'' us vs state' next text new taken far kept told one =
      subst (λ n. SoFar n vs next new (taken + 1)) (sym told) (subst (λ n. SoFar (next_word word') vs next new n) (sym (add-one taken)) (one_walked word' us vs state' next text new taken far kept one))

  whole_walk : (word' : ℕ) (us vs : List Tree) (state' : Option (List TermId)) (new : List ℕ) (taken left : ℕ) (undecided : List Open) → SoFar word' us state' new taken → taken + left ≡ plan.depth → StopsThere g own plan.fuel plan.bound l left us state' vs undecided
      → HasWalked g own plan word l ts vs state old new taken (status_with undecided)
  whole_walk word' us vs state' new taken left undecided far e there = record {
    labels = far.labels;
    undecided = undecided;
    walks = record { taken = taken; left = left; at_most = e; trees = us; last = state'; takes = far.takes; stops = there };
    text = far.text;
    counted = far.counted;
    status_is = refl;
  }

  pub stops : (word' : ℕ) (us vs : List Tree) (state' next : Option (List TermId)) (text new : List ℕ) (taken : ℕ) (status : Status) → SoFar word' us state' text taken → taken < plan.depth
      → TakesOne g own plan.fuel plan.bound (next_word word') l us vs text state' next new (Some status) → HasWalked g own plan word l ts vs state old new taken status
  stops word' us vs state' next text new taken status far before none_behind_the_end =
      whole_walk word' us vs None new taken (plan.depth - taken) [] far (let e : taken + (plan.depth - taken) ≡ plan.depth = omega (arith, before) in e) at_the_end
  stops word' us vs state' next text new taken status far before (none_there found has none) =
      whole_walk word' us vs state' new taken (suc (plan.depth - taken - 1)) found.undecided far (let e : taken + suc (plan.depth - taken - 1) ≡ plan.depth = omega (arith, before) in e) (no_move found has none)

  pub ends : (word' : ℕ) (us : List Tree) (state' : Option (List TermId)) (new : List ℕ) (taken : ℕ) → SoFar word' us state' new taken → taken ≡ plan.depth → HasWalked g own plan word l ts us state old new taken Done
  ends word' us state' new taken far e = whole_walk word' us us state' new taken 0 [] far (let q : taken + 0 ≡ taken = omega arith in q ∙ e) most_taken

-- ---- in code
next_small : (word : ℕ) → next_word word < 2 ^ 64
next_small word = mod_below (word * 6364136223846793005 + 1442695040888963407) (2 ^ 64) (omega arith)

-- what a chooser answers for the word behind a word
pub picked_next : (calls : ℕ → ℕ → Type 0) (answers : ℕ → ℕ → Option ℕ → Type 0) → PicksByWords calls answers → (word word' n : ℕ) (r : Option ℕ) → word' ≡ next_word word → n < 2 ^ 64 → answers (next_word word) n r → r ≡ place_picked word' n
picked_next calls answers p word word' n r same small a = p.picks (next_word word) n (next_small word) small r a ∙ ap (λ w. place_picked w n) (sym same)

-- ---- a walk that is shown
pub walk_shown : (g : Sig) (own : List Equation) (plan : Plan) (ts us : List Tree) (l k : PlainLinear) (word : ℕ) (state : Option (List TermId)) (old text shown : List ℕ) (taken : ℕ) (status : Status) → HasWalked g own plan word k ts us state old text taken status
    → word ≡ plan.seed → k ≡ l → state ≡ Some l.init → old ≡ [] → shown ≡ text ++ codes "taken " ++ decimal taken ++ codes "\n" → ShowsWalk g own plan ts l status shown
walk_shown g own plan ts us l k word state old text shown taken status has seed same start nothing is = record {
  later = us;
  labels = has.labels;
  undecided = has.undecided;
  walks = subst (λ n. Walks g own plan.fuel plan.bound l plan.depth n ts (Some l.init) us has.labels has.undecided) seed
      (subst (λ (z : PlainLinear). Walks g own plan.fuel plan.bound z plan.depth word ts (Some l.init) us has.labels has.undecided) same
      (subst (λ (o : Option (List TermId)). Walks g own plan.fuel plan.bound k plan.depth word ts o us has.labels has.undecided) start has.walks));
  shows = is ∙ ap (λ n. text ++ codes "taken " ++ decimal n ++ codes "\n") has.counted
      ∙ ap (λ z. z ++ codes "taken " ++ decimal (length has.labels) ++ codes "\n") (has.text ∙ ap (λ z. z ++ flat_map (label_line g) has.labels) nothing);
  status_is = has.status_is;
}
