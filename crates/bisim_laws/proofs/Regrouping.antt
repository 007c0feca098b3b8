-- `Same` doesn't look at brackets, and `Form` is good for a text whose pieces straddle one.
use Rattle.std.proofs.Common.{◌≡◌, ℕ, zero, suc, List, [], ◌∷◌, refl, sym, subst, Some, None}
use Rattle.std.specs.Prelude.{slice_get}
use Rattle.data_theory.specs.Terms.{Term}
use Rattle.data_theory.specs.Environments.{bound}
use Rattle.process_terms.specs.Names.{Name}
use Rattle.process_terms.specs.Theories.{Theory, AreOfSorts}
use Rattle.process_terms.specs.Labels.{Label}
use Rattle.process_terms.specs.Processes.{Body, written_act, written_seq, written_call, Table, Process, act, choice, seq, call, close, BodyOf, the_body}
use Rattle.process_terms.specs.Steps.{Outcome, ended, goes_on, Step, by_act, by_left, by_right, by_seq, by_call}
use Rattle.process_terms.proofs.AgreeingLabels.{agree_refl}
use Rattle.bisim_laws.specs.Sameness.{seq_regrouped, merge_regrouped}
use Rattle.bisim_laws.specs.Bisimulations.{up_to}
use Rattle.bisim_laws.specs.LinearProcesses.{variables, sorts}
use Rattle.bisim_laws.specs.BaseStates.{one_piece, more_pieces, along_one_list, GreibachCall, IsCall, is_call, Piece, StandsFor, stands_for}
use Rattle.bisim_laws.specs.Compositions.{LeftOver, nothing_left_over, pieces_left_over, PieceAnswer}
use Rattle.bisim_laws.specs.Links.{Form, IsGood}
use Rattle.bisim_laws.specs.Terminations.{without_arguments}
use Rattle.bisim_laws.specs.LinkChecks.{BracketsDoNotCount, straddling, straddling_form, straddling_pieces, after_a, PiecesMayStraddleABracket}
use Rattle.bisim_laws.proofs.AlikeProcesses.{alike_refl, one_body}
use Rattle.bisim_laws.proofs.PieceByPiece.{pieces_enough}

pub brackets_free : BracketsDoNotCount
brackets_free th p q r = (seq_regrouped, merge_regrouped)

-- a step of a call is one of its body
inside : {th : Theory} {d : Table} {x : ℕ} {ts : List Term} {p : Process} {m : Label} {r : Outcome} → BodyOf d x ts p → Step th (call d x ts) m r → Step th p m r
inside {th = th} {m = m} {r = r} b (by_call k s) = subst (λ q. Step th q m r) (one_body k b) s

abbrev the_call : ℕ → GreibachCall
the_call i = record { equation = i; args = [] }

abbrev letter : Name → Process
letter n = act (without_arguments n)

-- ---- what the equations stand for
data AtPiece (d : Table) (b c : Name) : GreibachCall → Process → Type 0 where
  at_x : AtPiece d b c (the_call 0) (call d 0 [])
  at_y : AtPiece d b c (the_call 1) (call d 1 [])
  at_z : AtPiece d b c (the_call 2) (seq (letter b) (seq (letter c) (call d 0 [])))
  at_w : AtPiece d b c (the_call 3) (seq (letter c) (call d 0 []))

abbrev piece : Body → Piece
piece p = record { params = []; body = p }

abbrev w_body : Name → Body
w_body c = written_seq (written_act (without_arguments c)) (written_call 0 [])

abbrev z_body : Name → Name → Body
z_body b c = written_seq (written_act (without_arguments b)) (w_body c)

same_piece : {f g : Piece} → Some f ≡ Some g → f ≡ g
same_piece e = cc

no_piece : {f : Piece} → None ≡ Some f → ⊥
no_piece e = cc

placed : (d : Table) (b c : Name) {a : GreibachCall} (f g : Piece) → f ≡ g → AtPiece d b c a (close d (bound (variables f.params) []) f.body) → AtPiece d b c a (close d (bound (variables g.params) []) g.body)
placed d b c {a} f g same h = subst (λ z. AtPiece d b c a (close d (bound (variables z.params) []) z.body)) same h

-- a piece without parameters has no argument
no_argument : (th : Theory) (f g : Piece) → f ≡ g → f.params ≡ [] → (t : Term) (ts : List Term) → AreOfSorts th (sorts g.params) (t ∷ ts) → ⊥
no_argument th f g same none t ts h = subst (λ xs. AreOfSorts th (sorts xs) (t ∷ ts)) none (subst (λ z. AreOfSorts th (sorts z.params) (t ∷ ts)) (sym same) h)

no_arguments_at : (th : Theory) (b c : Name) (i : ℕ) (f : Piece) → slice_get (straddling_pieces b c) i ≡ Some f → (t : Term) (ts : List Term) → AreOfSorts th (sorts f.params) (t ∷ ts) → ⊥
no_arguments_at th b c zero f at t ts h = no_argument th (piece (written_call 0 [])) f (same_piece at) refl t ts h
no_arguments_at th b c (suc zero) f at t ts h = no_argument th (piece (written_call 1 [])) f (same_piece at) refl t ts h
no_arguments_at th b c (suc (suc zero)) f at t ts h = no_argument th (piece (z_body b c)) f (same_piece at) refl t ts h
no_arguments_at th b c (suc (suc (suc zero))) f at t ts h = no_argument th (piece (w_body c)) f (same_piece at) refl t ts h
no_arguments_at th b c (suc (suc (suc (suc i)))) f at t ts h = no_piece at

piece_at : (th : Theory) (d : Table) (b c : Name) (i : ℕ) (ts : List Term) (f : Piece) → slice_get (straddling_pieces b c) i ≡ Some f → AreOfSorts th (sorts f.params) ts
    → AtPiece d b c (record { equation = i; args = ts }) (close d (bound (variables f.params) ts) f.body)
piece_at th d b c i (t ∷ ts) f at h = absurd (no_arguments_at th b c i f at t ts h)
piece_at th d b c zero [] f at h = placed d b c (piece (written_call 0 [])) f (same_piece at) at_x
piece_at th d b c (suc zero) [] f at h = placed d b c (piece (written_call 1 [])) f (same_piece at) at_y
piece_at th d b c (suc (suc zero)) [] f at h = placed d b c (piece (z_body b c)) f (same_piece at) at_z
piece_at th d b c (suc (suc (suc zero))) [] f at h = placed d b c (piece (w_body c)) f (same_piece at) at_w
piece_at th d b c (suc (suc (suc (suc i)))) [] f at h = absurd (no_piece at)

stood : (th : Theory) (d : Table) (b c : Name) {p : Process} {a : GreibachCall} → StandsFor th d (straddling_pieces b c) p a → AtPiece d b c a p
stood th d b c (stands_for {i = i} {ts = ts} f at h) = piece_at th d b c i ts f at h

module _ (th : Theory) (a b c d e : Name) where
  abbrev text : Table
  text = straddling a b c d e

  abbrev form : Table
  form = straddling_form a b c d e

  abbrev Pieces : Process → GreibachCall → Type 0
  Pieces = StandsFor th text (straddling_pieces b c)

  -- ---- the bodies
  x_body : BodyOf text 0 [] (seq (choice (seq (letter a) (seq (call text 1 []) (letter b))) (letter d)) (seq (letter c) (call text 0 [])))
  x_body = the_body _ refl refl

  y_body : BodyOf text 1 [] (letter e)
  y_body = the_body _ refl refl

  form_x : BodyOf form 0 [] (choice (seq (letter a) (seq (call form 1 []) (call form 2 []))) (seq (letter d) (call form 3 [])))
  form_x = the_body _ refl refl

  form_y : BodyOf form 1 [] (letter e)
  form_y = the_body _ refl refl

  form_z : BodyOf form 2 [] (seq (letter b) (call form 3 []))
  form_z = the_body _ refl refl

  form_w : BodyOf form 3 [] (seq (letter c) (call form 0 []))
  form_w = the_body _ refl refl

  -- ---- what is left over
  two_calls : LeftOver th (IsCall form) (goes_on (seq (call form 1 []) (call form 2 []))) (the_call 1 ∷ the_call 2 ∷ [])
  two_calls = pieces_left_over (alike_refl th _) (more_pieces (the_call 1 ∷ []) (the_call 2 ∷ []) (one_piece is_call) (one_piece is_call))

  one_call : (i : ℕ) → LeftOver th (IsCall form) (goes_on (call form i [])) (the_call i ∷ [])
  one_call i = pieces_left_over (alike_refl th _) (one_piece is_call)

  two_pieces : LeftOver th Pieces (goes_on (after_a text b c)) (the_call 1 ∷ the_call 2 ∷ [])
  two_pieces = pieces_left_over seq_regrouped (more_pieces (the_call 1 ∷ []) (the_call 2 ∷ []) (one_piece (stands_for _ refl tt)) (one_piece (stands_for _ refl tt)))

  w_piece : LeftOver th Pieces (goes_on (seq (letter c) (call text 0 []))) (the_call 3 ∷ [])
  w_piece = pieces_left_over (alike_refl th _) (one_piece (stands_for _ refl tt))

  x_piece : LeftOver th Pieces (goes_on (call text 0 [])) (the_call 0 ∷ [])
  x_piece = pieces_left_over (alike_refl th _) (one_piece (stands_for _ refl tt))

  -- ---- the form answers the text
  x_answered : {m : Label} {r : Outcome} → Step th (seq (choice (seq (letter a) (seq (call text 1 []) (letter b))) (letter d)) (seq (letter c) (call text 0 []))) m r → PieceAnswer th Pieces (IsCall form) (call form 0 []) m r
  x_answered (by_seq (by_left (by_seq by_act))) = record {
    label = without_arguments a;
    outcome = goes_on (seq (call form 1 []) (call form 2 []));
    left = the_call 1 ∷ the_call 2 ∷ [];
    step = by_call form_x (by_left (by_seq by_act));
    agree = agree_refl th (without_arguments a);
    here = two_pieces;
    there = two_calls;
  }
  x_answered (by_seq (by_right by_act)) = record {
    label = without_arguments d;
    outcome = goes_on (call form 3 []);
    left = the_call 3 ∷ [];
    step = by_call form_x (by_right (by_seq by_act));
    agree = agree_refl th (without_arguments d);
    here = w_piece;
    there = one_call 3;
  }

  y_answered : {m : Label} {r : Outcome} → Step th (letter e) m r → PieceAnswer th Pieces (IsCall form) (call form 1 []) m r
  y_answered by_act = record { label = without_arguments e; outcome = ended; left = []; step = by_call form_y by_act; agree = agree_refl th (without_arguments e); here = nothing_left_over; there = nothing_left_over }

  z_answered : {m : Label} {r : Outcome} → Step th (seq (letter b) (seq (letter c) (call text 0 []))) m r → PieceAnswer th Pieces (IsCall form) (call form 2 []) m r
  z_answered (by_seq by_act) = record {
    label = without_arguments b;
    outcome = goes_on (call form 3 []);
    left = the_call 3 ∷ [];
    step = by_call form_z (by_seq by_act);
    agree = agree_refl th (without_arguments b);
    here = w_piece;
    there = one_call 3;
  }

  w_answered : {m : Label} {r : Outcome} → Step th (seq (letter c) (call text 0 [])) m r → PieceAnswer th Pieces (IsCall form) (call form 3 []) m r
  w_answered (by_seq by_act) = record {
    label = without_arguments c;
    outcome = goes_on (call form 0 []);
    left = the_call 0 ∷ [];
    step = by_call form_w (by_seq by_act);
    agree = agree_refl th (without_arguments c);
    here = x_piece;
    there = one_call 0;
  }

  answered : {g : GreibachCall} {p q : Process} {m : Label} {r : Outcome} → AtPiece text b c g p → IsCall form q g → Step th p m r → PieceAnswer th Pieces (IsCall form) q m r
  answered at_x is_call s = x_answered (inside x_body s)
  answered at_y is_call s = y_answered (inside y_body s)
  answered at_z is_call s = z_answered s
  answered at_w is_call s = w_answered s

  -- ---- the text answers the form
  x_answers : {m : Label} {r : Outcome} → Step th (choice (seq (letter a) (seq (call form 1 []) (call form 2 []))) (seq (letter d) (call form 3 []))) m r → PieceAnswer th (IsCall form) Pieces (call text 0 []) m r
  x_answers (by_left (by_seq by_act)) = record {
    label = without_arguments a;
    outcome = goes_on (after_a text b c);
    left = the_call 1 ∷ the_call 2 ∷ [];
    step = by_call x_body (by_seq (by_left (by_seq by_act)));
    agree = agree_refl th (without_arguments a);
    here = two_calls;
    there = two_pieces;
  }
  x_answers (by_right (by_seq by_act)) = record {
    label = without_arguments d;
    outcome = goes_on (seq (letter c) (call text 0 []));
    left = the_call 3 ∷ [];
    step = by_call x_body (by_seq (by_right by_act));
    agree = agree_refl th (without_arguments d);
    here = one_call 3;
    there = w_piece;
  }

  y_answers : {m : Label} {r : Outcome} → Step th (letter e) m r → PieceAnswer th (IsCall form) Pieces (call text 1 []) m r
  y_answers by_act = record { label = without_arguments e; outcome = ended; left = []; step = by_call y_body by_act; agree = agree_refl th (without_arguments e); here = nothing_left_over; there = nothing_left_over }

  z_answers : {m : Label} {r : Outcome} → Step th (seq (letter b) (call form 3 [])) m r → PieceAnswer th (IsCall form) Pieces (seq (letter b) (seq (letter c) (call text 0 []))) m r
  z_answers (by_seq by_act) = record {
    label = without_arguments b;
    outcome = goes_on (seq (letter c) (call text 0 []));
    left = the_call 3 ∷ [];
    step = by_seq by_act;
    agree = agree_refl th (without_arguments b);
    here = one_call 3;
    there = w_piece;
  }

  w_answers : {m : Label} {r : Outcome} → Step th (seq (letter c) (call form 0 [])) m r → PieceAnswer th (IsCall form) Pieces (seq (letter c) (call text 0 [])) m r
  w_answers (by_seq by_act) = record {
    label = without_arguments c;
    outcome = goes_on (call text 0 []);
    left = the_call 0 ∷ [];
    step = by_seq by_act;
    agree = agree_refl th (without_arguments c);
    here = one_call 0;
    there = x_piece;
  }

  answers : {g : GreibachCall} {p q : Process} {m : Label} {r : Outcome} → AtPiece text b c g q → IsCall form p g → Step th p m r → PieceAnswer th (IsCall form) Pieces q m r
  answers at_x is_call s = x_answers (inside form_x s)
  answers at_y is_call s = y_answers (inside form_y s)
  answers at_z is_call s = z_answers (inside form_z s)
  answers at_w is_call s = w_answers (inside form_w s)

  form_good : IsGood th (Form text (straddling_pieces b c) form) (call text 0 []) (call form 0 [])
  form_good = record {
    starts = up_to (alike_refl th _) (along_one_list (one_piece {a = the_call 0} (stands_for _ refl tt)) (one_piece is_call)) (alike_refl th _);
    follows = pieces_enough th text (straddling_pieces b c) form
        (λ g p q m r h k s. answered (stood th text b c h) k s)
        (λ g p q m r k h s. answers (stood th text b c h) k s);
  }

pub straddled : PiecesMayStraddleABracket
straddled th a b c d e = (by_call (x_body th a b c d e) (by_seq (by_left (by_seq by_act))), seq_regrouped, form_good th a b c d e)
