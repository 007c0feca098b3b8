-- Compositions along one list answer each other where their pieces do.
use Rattle.std.proofs.Common.{◌≡◌, List, [], ◌∷◌, ◌++◌, refl, sym, ap, subst, append_assoc}
use Rattle.std.proofs.lemmas.List.{append-nil}
use Rattle.process_terms.specs.Theories.{Theory}
use Rattle.process_terms.specs.Labels.{Label}
use Rattle.process_terms.specs.Processes.{Process}
use Rattle.process_terms.specs.Steps.{Outcome, before, Step, by_seq}
use Rattle.bisim_laws.specs.Sameness.{turned, alike_seq}
use Rattle.bisim_laws.specs.Bisimulations.{Lands, both_end, both_go_on, Answer, Answers, Flipped, UpTo, up_to, Progress}
use Rattle.bisim_laws.specs.BaseStates.{Chain, one_piece, more_pieces, AlongOneList, along_one_list}
use Rattle.bisim_laws.specs.Compositions.{LeftOver, nothing_left_over, pieces_left_over, PiecesAnswer}
use Rattle.bisim_laws.specs.LinkLaws.{PiecesAreEnough}
use Rattle.bisim_laws.proofs.AlikeProcesses.{alike_refl, answer_weaken}
use Rattle.bisim_laws.proofs.ComposedLinks.{up_to_bisimulation}

pub left_before : {A : Type 0} (th : Theory) {P : Process → A → Type 0} {r : Outcome} {xs ys : List A} {q : Process} → LeftOver th P r xs → Chain P q ys → LeftOver th P (before r q) (xs ++ ys)
left_before th {q = q} nothing_left_over c = pieces_left_over (alike_refl th q) c
left_before th {xs = xs} {ys = ys} {q = q} (pieces_left_over h d) c = pieces_left_over (alike_seq h (alike_refl th q)) (more_pieces xs ys d c)

left_along : {A : Type 0} {th : Theory} {P : Process → A → Type 0} {r : Outcome} {xs ys : List A} → xs ≡ ys → LeftOver th P r xs → LeftOver th P r ys
left_along {th = th} {P = P} {r = r} e h = subst (λ l. LeftOver th P r l) e h

-- the step of a composition is one of its first piece
pub record FirstStep {A : Type 0} (th : Theory) (P : Process → A → Type 0) (xs : List A) (m : Label) (r : Outcome) : Type 0 where
  pub first : A
  pub others : List A
  pub is : xs ≡ first ∷ others
  pub piece : Process
  pub stands : P piece first
  pub to : Outcome
  pub step : Step th piece m to
  pub then_left : (ys : List A) → LeftOver th P to ys → LeftOver th P r (ys ++ others)

longer : {A : Type 0} (th : Theory) {P : Process → A → Type 0} {xs ys : List A} {q : Process} {m : Label} {r : Outcome} → FirstStep th P xs m r → Chain P q ys → FirstStep th P (xs ++ ys) m (before r q)
longer th {ys = ys} f c = record {
  first = f.first;
  others = f.others ++ ys;
  is = ap (λ l. l ++ ys) f.is;
  piece = f.piece;
  stands = f.stands;
  to = f.to;
  step = f.step;
  then_left = λ zs h. left_along (append_assoc zs f.others ys) (left_before th (f.then_left zs h) c);
}

pub first_step : {A : Type 0} (th : Theory) {P : Process → A → Type 0} {p : Process} {xs : List A} {m : Label} {r : Outcome} → Chain P p xs → Step th p m r → FirstStep th P xs m r
first_step th {r = r} (one_piece {p = p} {a = a} h) s = record {
  first = a;
  others = [];
  is = refl;
  piece = p;
  stands = h;
  to = r;
  step = s;
  then_left = λ ys k. left_along (sym (append-nil ys)) k;
}
first_step th (more_pieces xs ys c d) (by_seq s) = longer th (first_step th c s) d

-- a step of the first piece is one of the composition
pub record Lifted {A : Type 0} (th : Theory) (P : Process → A → Type 0) (q : Process) (r : Outcome) (m : Label) (ys others : List A) : Type 0 where
  pub outcome : Outcome
  pub step : Step th q m outcome
  pub left : LeftOver th P outcome (ys ++ others)

pub record Lifts {A : Type 0} (th : Theory) (P : Process → A → Type 0) (q : Process) (xs : List A) : Type 0 where
  pub first : A
  pub others : List A
  pub is : xs ≡ first ∷ others
  pub piece : Process
  pub stands : P piece first
  pub lift : (m : Label) (r : Outcome) (ys : List A) → Step th piece m r → LeftOver th P r ys → Lifted th P q r m ys others

pub lifts : {A : Type 0} (th : Theory) {P : Process → A → Type 0} {q : Process} {xs : List A} → Chain P q xs → Lifts th P q xs
lifts th (one_piece {p = p} {a = a} h) = record {
  first = a;
  others = [];
  is = refl;
  piece = p;
  stands = h;
  lift = λ m r ys s k. record { outcome = r; step = s; left = left_along (sym (append-nil ys)) k };
}
lifts th (more_pieces xs ys c d) =
    let f = lifts th c in
    record {
      first = f.first;
      others = f.others ++ ys;
      is = ap (λ l. l ++ ys) f.is;
      piece = f.piece;
      stands = f.stands;
      lift = λ m r zs s k. let g = f.lift m r zs s k in record { outcome = _; step = by_seq g.step; left = left_along (append_assoc zs f.others ys) (left_before th g.left d) };
    }

pub some_piece : {A : Type 0} {P : Process → A → Type 0} {p : Process} {xs : List A} → Chain P p xs → xs ≡ [] → ⊥
some_piece (one_piece h) e = cc
some_piece (more_pieces (x ∷ xs) ys c d) e = cc
some_piece (more_pieces [] ys c d) e = some_piece c refl

lands_along : {A : Type 0} {th : Theory} {P Q : Process → A → Type 0} {r s : Outcome} {xs : List A} → LeftOver th P r xs → LeftOver th Q s xs → Lands (UpTo th (AlongOneList P Q)) r s
lands_along nothing_left_over nothing_left_over = both_end
lands_along nothing_left_over (pieces_left_over h k) = absurd (some_piece k refl)
lands_along (pieces_left_over h k) nothing_left_over = absurd (some_piece k refl)
lands_along (pieces_left_over h c) (pieces_left_over k d) = both_go_on (up_to h (along_one_list c d) (turned k))

composed_answer : {A : Type 0} (th : Theory) (P Q : Process → A → Type 0) → PiecesAnswer th P Q → (q : Process) (xs : List A) (m : Label) (r : Outcome) → FirstStep th P xs m r → Lifts th Q q xs → Answer th (UpTo th (AlongOneList P Q)) q m r
composed_answer th P Q f q xs m r k l =
    let same_first : l.first ≡ k.first = cc in
    let same_others : l.others ≡ k.others = cc in
    let stands : Q l.piece k.first = subst (λ a. Q l.piece a) same_first l.stands in
    let a = f k.first k.piece l.piece m k.to k.stands stands k.step in
    let b = l.lift a.label a.outcome a.left a.step a.there in
    record { label = a.label; outcome = b.outcome; step = b.step; agree = a.agree; lands = lands_along {s = b.outcome} (k.then_left a.left a.here) (left_along {r = b.outcome} (ap (λ l. a.left ++ l) same_others) b.left) }

composed_answers : {A : Type 0} (th : Theory) (P Q : Process → A → Type 0) → PiecesAnswer th P Q → Answers th (AlongOneList P Q) (UpTo th (AlongOneList P Q))
composed_answers th P Q f p q m r (along_one_list {xs = xs} c d) s = composed_answer th P Q f q xs m r (first_step th c s) (lifts th d)

along_flip : {A : Type 0} {th : Theory} {P Q : Process → A → Type 0} (p q : Process) → UpTo th (AlongOneList Q P) p q → Flipped (UpTo th (AlongOneList P Q)) p q
along_flip p q (up_to h (along_one_list c d) k) = up_to (turned k) (along_one_list d c) (turned h)

along_unflip : {A : Type 0} {P Q : Process → A → Type 0} (p q : Process) → Flipped (AlongOneList P Q) p q → AlongOneList Q P p q
along_unflip p q (along_one_list c d) = along_one_list d c

pub composed_progress : {A : Type 0} (th : Theory) (P Q : Process → A → Type 0) → PiecesAnswer th P Q → PiecesAnswer th Q P → Progress th (AlongOneList P Q)
composed_progress th P Q f g = record {
  forth = composed_answers th P Q f;
  back = λ p q m r h s. answer_weaken along_flip (composed_answers th Q P g p q m r (along_unflip p q h) s);
}

pub pieces_enough : PiecesAreEnough
pieces_enough th d pieces form f g = up_to_bisimulation (composed_progress th _ _ f g)
