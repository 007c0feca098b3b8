-- One summand after another.
use Rattle.std.proofs.Common.{◌≡◌, ◌<◌, ◌≤◌, ◌+◌, ℕ, zero, suc, Bool, List, [], ◌∷◌, ◌++◌, map, take, length, get_or, refl, sym, ap, ap₂, ◌∙◌, subst, arith, append_assoc, append-nil, add-one, Option, Some, None}
use Rattle.std.specs.Prelude.{option_map, Contains}
use Rattle.std.specs.List.{All, AllZip}
use Rattle.std.proofs.lemmas.List.{take_more, take_all, map-append}
use Rattle.std.proofs.lemmas.List.Elements.{All-nil, All-append, All-contains}
use Rattle.std.proofs.lemmas.Slice.Zip.{all_zipped_more, AllZip-long}
use Rattle.data_theory.specs.declared.ids.TermId.{TermId}
use Rattle.data_theory.specs.Terms.{Term}
use Rattle.data_theory.specs.Provable.{Equation}
use Rattle.data_theory.specs.Signature.{Sig}
use Rattle.data_theory.specs.WholeSignatures.{IsSignature}
use Rattle.data_theory.specs.IdData.{data_meant}
use Rattle.data_theory.specs.IdTrees.{Tree}
use Rattle.data_theory.specs.IdTerms.{IsGrown}
use Rattle.term_pool.specs.Pools.{Extends}
use Rattle.data_rewriter.specs.Standing as standing
use Rattle.process_terms.specs.SignatureEntries.{entries_of, BothGrow}
use Rattle.bisim_laws.specs.LinearProcesses.{Summand, Linear}
use Rattle.lps_core.specs.Fitting.{SummandFits, Fits}
use Rattle.lps_core.specs.PlainLinears.{PlainSummand, PlainLinear, summand_of, linear_of}
use Rattle.lps_core.proofs.Staying.{summand_stays, what_fits_stays}
use Rattle.lps_simulator.specs.declared.options.Open.{Open}
use Rattle.lps_simulator.specs.Combinations.{combinations}
use Rattle.lps_simulator.specs.SumValues.{AreSumValues, terms_of_each}
use Rattle.lps_simulator.specs.Options.{Answer, IsAnswer, Tried, IsTried, environment_at, moves_of, first_open, open_with, cut_with, moves_from, opens_from, cuts_from}
use Rattle.lps_simulator.specs.OptionsInCode.{PlainMove, PlainOptions, no_options, IsState, IsMove, meant_move, terms_at, IsTriedAt, AreOptions}
use Rattle.lps_simulator.specs.Trying.{SumsAreTried, ListsSummand}
use Rattle.lps_simulator.proofs.CombinationTerms.{combinations_mapped, zip_mapped}
use Rattle.lps_simulator.proofs.FittingSummands.{ids_stay, moves_stay, moves_mean}

-- a signature goes on from itself
pub itself_grown : (g : Sig) → IsGrown g g
itself_grown g = record {
  new_texts = [];
  new_taken = [];
  new_sorts = [];
  new_sort_names = [];
  new_functions = [];
  new_declared = [];
  new_actions = [];
  new_variables = [];
  texts = sym (append-nil g.texts);
  taken = sym (append-nil g.taken);
  sorts = sym (append-nil g.sorts);
  sort_names = sym (append-nil g.sort_names);
  functions = sym (append-nil g.functions);
  declared = sym (append-nil g.declared);
  actions = sym (append-nil g.actions);
  variables = sym (append-nil g.variables);
}

pub both_grow : (g : Sig) (ts us : List Tree) → Extends ts us → BothGrow g g ts us
both_grow g ts us e = record { signature = itself_grown g; pool = e }

-- ---- all combinations of a summand
pub tried_all : (g : Sig) (own : List Equation) (fuel bound : ℕ) (ts us : List Tree) (l : PlainLinear) (state : List TermId) (k : ℕ) (s : PlainSummand) (lists : List (List TermId)) (cut : Bool) (old new : List PlainMove) (why : Option Bool)
    → AreSumValues g bound ts s.sums lists cut → (h : SumsAreTried g own fuel ts us l state k s (combinations lists) [] old new why) → IsTriedAt g own fuel bound ts l state s (record { answers = h.answers; cut = cut })
tried_all g own fuel bound ts us l state k s lists cut old new why values h =
    let R : List Term → Answer → Type 0 = λ c. IsAnswer (data_meant g) own fuel (summand_of (entries_of g ts) s) (environment_at (linear_of (entries_of g ts) l) (summand_of (entries_of g ts) s) (terms_at g ts state) c) in
    let done_is : h.done ≡ combinations lists = sym (h.split ∙ append-nil h.done) in
    let mapped : AllZip R (map (map (standing.term_at g ts)) h.done) h.answers = zip_mapped (map (standing.term_at g ts)) R h.done h.answers h.each in
    record {
      listed = values.listed;
      values = values.each;
      answers = subst (λ cs. AllZip R cs h.answers) (ap (map (map (standing.term_at g ts))) done_is ∙ combinations_mapped (standing.term_at g ts) lists ∙ ap combinations values.terms) mapped;
      cut = values.cut_is;
    }

-- ---- over a later pool and over the first one
pub tried_back : (g : Sig) → IsSignature g → (own : List Equation) (fuel bound : ℕ) (ts us : List Tree) → Extends ts us → (l : PlainLinear) → Fits g ts l → (state : List TermId) → IsState g ts l.params state → (s : PlainSummand) → Contains l.summands s → (t : Tried)
    → IsTriedAt g own fuel bound us l state s t → IsTriedAt g own fuel bound ts l state s t
tried_back g stands own fuel bound ts us e l fits state st s among t h =
    let grow = both_grow g ts us e in
    let same_l : linear_of (entries_of g us) l ≡ linear_of (entries_of g ts) l = (what_fits_stays g g ts us l stands.table stands.complete grow fits).0 in
    let same_s : summand_of (entries_of g us) s ≡ summand_of (entries_of g ts) s = summand_stays g g ts us stands.table stands.complete grow l.params s (All-contains (SummandFits g ts l.params) l.summands s fits.summands among) in
    let same_state : terms_at g us state ≡ terms_at g ts state = ids_stay g ts us e state st.terms.within in
    subst (λ (z : Linear). IsTried g own fuel bound z (terms_at g ts state) s.sums (summand_of (entries_of g ts) s) t) same_l
    (subst (λ (z : Summand). IsTried g own fuel bound (linear_of (entries_of g us) l) (terms_at g ts state) s.sums z t) same_s
    (subst (λ (z : List Term). IsTried g own fuel bound (linear_of (entries_of g us) l) z s.sums (summand_of (entries_of g us) s) t) same_state h))

-- ---- the summand's part of the options
pub lists_one : (g : Sig) → IsSignature g → (own : List Equation) (fuel bound : ℕ) (ts us vs : List Tree) → Extends ts us → Extends us vs → (l : PlainLinear) → Fits g ts l → (state : List TermId) → IsState g ts l.params state → (k : ℕ) (s : PlainSummand) → Contains l.summands s
    → (lists : List (List TermId)) (cut : Bool) (old new : PlainOptions) (moves : List PlainMove) (why : Option Bool) → AreSumValues g bound us s.sums lists cut → SumsAreTried g own fuel us vs l state k s (combinations lists) [] old.moves moves why
    → new.moves ≡ moves → new.undecided ≡ old.undecided ++ open_with k why → new.cut ≡ old.cut ++ cut_with k cut → ListsSummand g own fuel bound ts vs l state k s old new
lists_one g stands own fuel bound ts us vs e f l fits state st k s among lists cut old new moves why values h m u c =
    let t : Tried = record { answers = h.answers; cut = cut } in
    record {
      tried = t;
      is_tried = tried_back g stands own fuel bound ts us e l fits state st s among t (tried_all g own fuel bound us vs l state k s lists cut old.moves moves why values h);
      made = h.made;
      added = m ∙ h.added;
      stand = h.stand;
      moves = h.moves;
      undecided = u ∙ ap (λ o. old.undecided ++ open_with k o) h.open_is;
      cut = c;
    }

-- ---- some summands
pub record SomeOptions (g : Sig) (own : List Equation) (fuel bound : ℕ) (ts us : List Tree) (l : PlainLinear) (state : List TermId) (summands : List PlainSummand) (found : PlainOptions) : Type 0 where
  pub tried : List Tried
  pub each : AllZip (IsTriedAt g own fuel bound ts l state) summands tried
  pub stand : All (IsMove g us l.params) found.moves
  pub moves : map (meant_move g us) found.moves ≡ moves_from 1 tried
  pub undecided : found.undecided ≡ opens_from 1 tried
  pub cut : found.cut ≡ cuts_from 1 tried

pub some_none : (g : Sig) (own : List Equation) (fuel bound : ℕ) (ts : List Tree) (l : PlainLinear) (state : List TermId) (found : PlainOptions) → found ≡ no_options → SomeOptions g own fuel bound ts ts l state [] found
some_none g own fuel bound ts l state found e = subst (SomeOptions g own fuel bound ts ts l state []) (sym e) (record { tried = []; each = tt; stand = All-nil (IsMove g ts l.params); moves = refl; undecided = refl; cut = refl })

moves_on : (k : ℕ) (xs : List Tried) (t : Tried) → moves_from k (xs ++ t ∷ []) ≡ moves_from k xs ++ moves_of (k + length xs) t.answers
moves_on k [] t = append-nil (moves_of k t.answers) ∙ ap (λ n. moves_of n t.answers) (let e : k ≡ k + 0 = omega arith in e)
moves_on k (x ∷ xs) t =
    ap (λ z. moves_of k x.answers ++ z) (moves_on (suc k) xs t ∙ ap (λ n. moves_from (suc k) xs ++ moves_of n t.answers) (let e : suc k + length xs ≡ k + suc (length xs) = omega arith in e))
    ∙ sym (append_assoc (moves_of k x.answers) (moves_from (suc k) xs) (moves_of (k + suc (length xs)) t.answers))

opens_on : (k : ℕ) (xs : List Tried) (t : Tried) → opens_from k (xs ++ t ∷ []) ≡ opens_from k xs ++ open_with (k + length xs) (first_open t.answers)
opens_on k [] t = append-nil (open_with k (first_open t.answers)) ∙ ap (λ n. open_with n (first_open t.answers)) (let e : k ≡ k + 0 = omega arith in e)
opens_on k (x ∷ xs) t =
    ap (λ z. open_with k (first_open x.answers) ++ z) (opens_on (suc k) xs t ∙ ap (λ n. opens_from (suc k) xs ++ open_with n (first_open t.answers)) (let e : suc k + length xs ≡ k + suc (length xs) = omega arith in e))
    ∙ sym (append_assoc (open_with k (first_open x.answers)) (opens_from (suc k) xs) (open_with (k + suc (length xs)) (first_open t.answers)))

cuts_on : (k : ℕ) (xs : List Tried) (t : Tried) → cuts_from k (xs ++ t ∷ []) ≡ cuts_from k xs ++ cut_with (k + length xs) t.cut
cuts_on k [] t = append-nil (cut_with k t.cut) ∙ ap (λ n. cut_with n t.cut) (let e : k ≡ k + 0 = omega arith in e)
cuts_on k (x ∷ xs) t =
    ap (λ z. cut_with k x.cut ++ z) (cuts_on (suc k) xs t ∙ ap (λ n. cuts_from (suc k) xs ++ cut_with n t.cut) (let e : suc k + length xs ≡ k + suc (length xs) = omega arith in e))
    ∙ sym (append_assoc (cut_with k x.cut) (cuts_from (suc k) xs) (cut_with (k + suc (length xs)) t.cut))

pub some_more : (g : Sig) → IsSignature g → (own : List Equation) (fuel bound : ℕ) (ts us vs : List Tree) → Extends ts us → Extends us vs → (l : PlainLinear) → Fits g ts l → (state : List TermId) → IsState g ts l.params state
    → (before : List PlainSummand) (s : PlainSummand) → Contains l.summands s → (old new : PlainOptions) → SomeOptions g own fuel bound ts us l state before old → ListsSummand g own fuel bound us vs l state (length before + 1) s old new → SomeOptions g own fuel bound ts vs l state (before ++ s ∷ []) new
some_more g stands own fuel bound ts us vs e f l fits state st before s among old new h k =
    let long : length h.tried ≡ length before = AllZip-long (IsTriedAt g own fuel bound ts l state) before h.tried h.each in
    let number : length before + 1 ≡ 1 + length h.tried = omega (arith, long) in
    record {
      tried = h.tried ++ k.tried ∷ [];
      each = all_zipped_more (IsTriedAt g own fuel bound ts l state) before h.tried s k.tried h.each (tried_back g stands own fuel bound ts us e l fits state st s among k.tried k.is_tried);
      stand = subst (λ z. All (IsMove g vs l.params) z) (sym k.added) (All-append (IsMove g vs l.params) old.moves k.made (moves_stay g us vs f l.params old.moves h.stand) k.stand);
      moves =
          ap (map (meant_move g vs)) k.added
          ∙ map-append (meant_move g vs) old.moves k.made
          ∙ ap₂ (λ x y. x ++ y) (moves_mean g us vs f l.params old.moves h.stand ∙ h.moves) (k.moves ∙ ap (λ n. moves_of n k.tried.answers) number)
          ∙ sym (moves_on 1 h.tried k.tried);
      undecided = k.undecided ∙ ap₂ (λ x n. x ++ open_with n (first_open k.tried.answers)) h.undecided number ∙ sym (opens_on 1 h.tried k.tried);
      cut = k.cut ∙ ap₂ (λ x n. x ++ cut_with n k.tried.cut) h.cut number ∙ sym (cuts_on 1 h.tried k.tried);
    }

pub some_all : (g : Sig) (own : List Equation) (fuel bound : ℕ) (ts us : List Tree) (l : PlainLinear) (state : List TermId) (found : PlainOptions) → SomeOptions g own fuel bound ts us l state l.summands found → AreOptions g own fuel bound ts us l state found
some_all g own fuel bound ts us l state found h = record { tried = h.tried; each = h.each; moves = h.moves; undecided = h.undecided; cut = h.cut }
