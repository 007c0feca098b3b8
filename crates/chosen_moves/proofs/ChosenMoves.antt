-- Moves that are taken as they are chosen.
use Rattle.std.proofs.Common.{◌≡◌, ◌<◌, ◌+◌, ℕ, suc, List, [], ◌∷◌, ◌++◌, take, drop, length, Option, Some, None, Result, Ok, Err, sym, ap, ◌∙◌, subst, add-one, append-nil}
use Rattle.std.specs.Prelude.{get_or, slice_get, IfSome, IfErr, IsErrAnd}
use Rattle.std.proofs.Math.Seq.{drop-cons, take-suc}
use Rattle.std.proofs.lemmas.List.{map-append, take-append-drop}
use Rattle.data_theory.specs.declared.ids.TermId.{TermId}
use Rattle.data_theory.specs.IdTrees.{Tree}
use Rattle.data_theory.specs.Provable.{Equation}
use Rattle.data_theory.specs.Signature.{Sig}
use Rattle.data_theory.specs.WholeSignatures.{IsSignature}
use Rattle.data_rewriter.specs.Simplifying.{AreWellFormed}
use Rattle.term_pool.specs.Pools.{Extends}
use Rattle.process_terms.specs.Labels.{Label}
use Rattle.lps_core.specs.Fitting.{Fits}
use Rattle.lps_core.specs.PlainLinears.{PlainLinear}
use Rattle.lps_simulator.specs.OptionsInCode.{PlainMove, PlainOptions, meant_move, AreOptionsAt, IsState}
use Rattle.trace_replay.specs.Lines.{lines_of}
use Rattle.chosen_moves.specs.declared.choices.Choice.{Choice}
use Rattle.chosen_moves.specs.declared.following.ChoiceFault.{ChoiceFault}
use Rattle.chosen_moves.specs.declared.following.ChoiceFault.TheVariants.{BadChoice, NoMemory}
use Rattle.chosen_moves.specs.Choices.{HaveChoices}
use Rattle.chosen_moves.specs.TakenMoves.{Pick, TakesMoves, none_taken, one_taken, HasOptionsIn}
use Rattle.chosen_moves.specs.ChosenMoves.{pick_of, picks_of, StopsAt, IsBadChoice, no_number, no_move, IsOneFault, IsMoveFault, IsChoiceFault, FollowsText}
use Rattle.chosen_moves.proofs.TakenMoves.{takes_both}

-- ---- one move
module _ (g : Sig) (own : List Equation) (fuel bound : ℕ) (ts us : List Tree) (l : PlainLinear) (stands : IsSignature g) (fine : AreWellFormed g own) (fits : Fits g ts l) where
  -- the options where a session stands
  pub options_in : (state : Option (List TermId)) (found : PlainOptions) → IfSome state (IsState g ts l.params) → AreOptionsAt g own fuel bound ts us l state found → HasOptionsIn g own fuel bound ts us l state found
  options_in None found is options = options
  options_in (Some ids) found is options = record { signature = stands; fine = fine; fits = fits; stands = is; options = options }

  abbrev pub AreTaken : List Pick → Option (List TermId) → Option (List TermId) → Type 0
  AreTaken picks state next = (labels : List Label) × TakesMoves g own fuel bound l picks ts state us next labels

  -- a move with the number that is chosen is taken
  pub one_chosen : (state next : Option (List TermId)) (found : PlainOptions) (c : Choice) (place : ℕ) (m : PlainMove) → IfSome state (IsState g ts l.params) → AreOptionsAt g own fuel bound ts us l state found → Extends ts us
      → pick_of c (length found.moves) ≡ Some place → slice_get found.moves place ≡ Some m → next ≡ m.next → AreTaken (pick_of c ∷ []) state next
  one_chosen None next found c place m is options kept picked there to = absurd (never found.moves place m (ap (λ (f : PlainOptions). f.moves) options) there)
    where
      never : (ms : List PlainMove) (k : ℕ) (m : PlainMove) → ms ≡ [] → slice_get ms k ≡ Some m → ⊥
      never [] k m e q = cc
      never (x ∷ ms) k m e q = cc
  one_chosen (Some ids) next found c place m is options kept picked there to = (
    (meant_move g us m).label ∷ [],
    one_taken found m place (options_in (Some ids) found is options) kept picked there (subst (λ (o : Option (List TermId)). TakesMoves g own fuel bound l [] us m.next us o []) (sym to) none_taken),
  )

  -- one that isn't there stops
  pub none_chosen : (state : Option (List TermId)) (found : PlainOptions) (c : Choice) → IfSome state (IsState g ts l.params) → AreOptionsAt g own fuel bound ts us l state found → pick_of c (length found.moves) ≡ None → StopsAt g own fuel bound l ts state [] c
  none_chosen state found c is options none = record { trees = ts; last = state; labels = []; takes = none_taken; later = us; found = found; options = options_in state found is options; no_move = none }

-- ---- move after move
module _ (g : Sig) (own : List Equation) (fuel bound : ℕ) (l : PlainLinear) (ts : List Tree) (first : Option (List TermId)) where
  abbrev pub Taken : List Pick → List Tree → Option (List TermId) → Type 0
  Taken picks us next = (labels : List Label) × TakesMoves g own fuel bound l picks ts first us next labels

  pub none_yet : (choices : List Choice) → Taken (picks_of (take 0 choices)) ts first
  none_yet choices = ([], none_taken)

  one_more : (choices : List Choice) (i : ℕ) (d : Choice) → i < length choices → picks_of (take (suc i) choices) ≡ picks_of (take i choices) ++ pick_of (get_or choices i d) ∷ []
  one_more choices i d inside = ap picks_of (take-suc choices i d inside) ∙ map-append pick_of (take i choices) (get_or choices i d ∷ [])

  pub one_further : (choices : List Choice) (i : ℕ) (d : Choice) (us vs : List Tree) (state next : Option (List TermId)) → i < length choices → Taken (picks_of (take i choices)) us state
      → (labels : List Label) × TakesMoves g own fuel bound l (pick_of (get_or choices i d) ∷ []) us state vs next labels → Taken (picks_of (take (i + 1) choices)) vs next
  one_further choices i d us vs state next inside far one = (
    far.0 ++ one.0,
    subst (λ (ps : List Pick). TakesMoves g own fuel bound l ps ts first vs next (far.0 ++ one.0)) (sym (one_more choices i d inside) ∙ ap (λ n. picks_of (take n choices)) (sym (add-one i))) (takes_both far.1 one.1),
  )

  stops_behind : (front : List Choice) (c : Choice) (us : List Tree) (state : Option (List TermId)) → Taken (picks_of front) us state → StopsAt g own fuel bound l us state [] c → StopsAt g own fuel bound l ts first front c
  stops_behind front c us state far s = record {
    trees = s.trees;
    last = s.last;
    labels = far.0 ++ s.labels;
    takes = subst (λ (ps : List Pick). TakesMoves g own fuel bound l ps ts first s.trees s.last (far.0 ++ s.labels)) (append-nil (picks_of front)) (takes_both far.1 s.takes);
    later = s.later;
    found = s.found;
    options = s.options;
    no_move = s.no_move;
  }

  -- a choice that is no move stops all
  pub one_stops : (choices : List Choice) (i : ℕ) (d : Choice) (us : List Tree) (state : Option (List TermId)) → i < length choices → Taken (picks_of (take i choices)) us state → (fault : ChoiceFault)
      → IsOneFault g own fuel bound l us state (get_or choices i d) fault → IsMoveFault g own fuel bound l ts first choices fault
  one_stops choices i d us state inside far (BadChoice number) bad = record {
    front = take i choices;
    choice = get_or choices i d;
    behind = drop (suc i) choices;
    split = sym (take-append-drop i choices) ∙ ap (λ (xs : List Choice). take i choices ++ xs) (drop-cons choices i d inside);
    stops = stops_behind (take i choices) (get_or choices i d) us state far bad.1;
    line = bad.0;
  }
  one_stops choices i d us state inside far NoMemory bad = tt

  -- ---- of a text
  module _ (text : List ℕ) (choices : List Choice) (bad : Option ℕ) (chosen : HaveChoices 1 (lines_of text) choices bad) where
    pub a_move_stops : (fault : ChoiceFault) → IsMoveFault g own fuel bound l ts first choices fault → IsChoiceFault g own fuel bound l text ts first fault
    a_move_stops (BadChoice number) stop =
        no_move stop.choice stop.behind (subst (λ (cs : List Choice). HaveChoices 1 (lines_of text) cs bad) stop.split chosen) stop.stops stop.line
    a_move_stops NoMemory stop = tt

    pub a_line_stops : (us : List Tree) (last : Option (List TermId)) (number : ℕ) → bad ≡ Some number → Taken (picks_of choices) us last → IsBadChoice g own fuel bound l text ts first number
    a_line_stops us last number is far = no_number (subst (λ (b : Option ℕ). HaveChoices 1 (lines_of text) choices b) is chosen) far.1

    pub all_followed : (us : List Tree) (last : Option (List TermId)) → bad ≡ None → Taken (picks_of choices) us last → FollowsText g own fuel bound l text ts first us last
    all_followed us last is far = record { choices = choices; chosen = subst (λ (b : Option ℕ). HaveChoices 1 (lines_of text) choices b) is chosen; labels = far.0; takes = far.1 }

-- a fault that a `?` passes on
pub passed_on : {T : Type 0} (P : ChoiceFault → Type 0) (r : Result T ChoiceFault) (fault : ChoiceFault) → P fault → IsErrAnd r (λ given. given ≡ fault) → IfErr r P
passed_on P (Ok x) fault holds is = absurd is
passed_on P (Err given) fault holds is = subst P (sym is) holds
