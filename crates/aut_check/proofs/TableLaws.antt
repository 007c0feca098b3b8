-- The best and the worst of answers, one after another.
use Rattle.std.specs.Prelude.{◌≡◌, ◌<◌, ◌+◌, ◌++◌, ℕ, zero, suc, Bool, true, false, List, [], ◌∷◌, length, map, take, slice_index_or, IsTrue}
use Rattle.std.proofs.Common.{refl, sym, subst, ap, ◌∙◌, arith, ⊎_elim}
use Rattle.std.specs.Global.{Vec}
use Rattle.std.specs.List.{All, AllZip, Contains}
use Rattle.std.proofs.lemmas.List.{map-append, take_more}
use Rattle.std.proofs.lemmas.List.Elements.{All-get_or, Contains-append_left, Contains-push_cases, Contains-push}
use Rattle.trace_replay.specs.declared.deciding.Answer.{Answer as CodeAnswer}
use Rattle.trace_replay.specs.DecidedConditions.{answer_of}
use Rattle.trace_replay.specs.Decidings.{Answer, hold, fail, stay_open}
use Rattle.aut_check.specs.declared.verdicts.StateVerdict.TheVariants.{Open}
use Rattle.aut_check.specs.Tables.{answers_of, better, column_answers, settled_verdict, tables_of, IsBest, IsWorst}
use Rattle.aut_check.proofs.Orders.{less_unless_same, same_or_not}
use Rattle.bisim_laws.proofs.Firing.{contains_none}

-- ---- lists side by side
pub zip_push : {A B : Type 0} (P : A → B → Type 0) (xs : List A) (ys : List B) (x : A) (y : B) → AllZip P xs ys → P x y → AllZip P (xs ++ x ∷ []) (ys ++ y ∷ [])
zip_push P [] [] x y h k = (k, tt)
zip_push P [] (z ∷ ys) x y h k = absurd h
zip_push P (z ∷ xs) [] x y h k = absurd h
zip_push P (z ∷ xs) (w ∷ ys) x y h k = (h.0, zip_push P xs ys x y h.1 k)

pub zip_long : {A B : Type 0} (P : A → B → Type 0) (xs : List A) (ys : List B) → AllZip P xs ys → length xs ≡ length ys
zip_long P [] [] h = refl
zip_long P [] (y ∷ ys) h = absurd h
zip_long P (x ∷ xs) [] h = absurd h
zip_long P (x ∷ xs) (y ∷ ys) h = ap suc (zip_long P xs ys h.1)

-- one element more of a list that is gone through
pub taken : {A B : Type 0} (f : A → B) (xs : List A) (i : ℕ) (x : A) → i < length xs → x ≡ slice_index_or xs i x → map f (take (i + 1) xs) ≡ map f (take i xs) ++ f x ∷ []
taken f xs i x l e = ap (map f) (take_more xs i x l ∙ ap (λ (z : _). take i xs ++ z ∷ []) (sym e)) ∙ map-append f (take i xs) (x ∷ [])

-- what holds of all, of one that is read
pub row_within : {A : Type 0} (P : A → Type 0) (xs : List A) (i : ℕ) (x : A) → i < length xs → x ≡ slice_index_or xs i x → All P xs → P x
row_within P xs i x l e h = subst P (sym e) (All-get_or P xs i x l h)

-- ---- the best
not_in : (xs : List Answer) (b x : Answer) → (Contains xs x → ⊥) → (b ≡ x → ⊥) → Contains (xs ++ b ∷ []) x → ⊥
not_in xs b x h k c = ⊎_elim h k (Contains-push_cases xs b x c)

pub best_first : IsBest [] fail
best_first = (contains_none hold, contains_none stay_open)

pub best_more : (xs : List Answer) (a b : Answer) → IsBest xs a → IsBest (xs ++ b ∷ []) (better a b)
best_more xs hold b h = Contains-append_left xs (b ∷ []) hold h
best_more xs fail hold h = Contains-push xs hold
best_more xs fail fail h = (not_in xs fail hold h.0 (λ e. let never : ⊥ = cc in never), not_in xs fail stay_open h.1 (λ e. let never : ⊥ = cc in never))
best_more xs fail stay_open h = (not_in xs stay_open hold h.0 (λ e. let never : ⊥ = cc in never), Contains-push xs stay_open)
best_more xs stay_open hold h = Contains-push xs hold
best_more xs stay_open fail h = (not_in xs fail hold h.0 (λ e. let never : ⊥ = cc in never), Contains-append_left xs (fail ∷ []) stay_open h.1)
best_more xs stay_open stay_open h = (not_in xs stay_open hold h.0 (λ e. let never : ⊥ = cc in never), Contains-append_left xs (stay_open ∷ []) stay_open h.1)

pub best_turn : (bs xs : List Answer) (a b c : Answer) → bs ≡ xs ++ b ∷ [] → c ≡ better a b → IsBest xs a → IsBest bs c
best_turn bs xs a b c e f h = subst (λ (zs : List Answer). IsBest zs c) (sym e) (subst (IsBest (xs ++ b ∷ [])) (sym f) (best_more xs a b h))

-- ---- the worst
pub worst_first : IsWorst [] (settled_verdict false)
worst_first = (contains_none stay_open, contains_none fail)

worst_hold : (xs : List Answer) (b : Bool) → IsWorst xs (settled_verdict b) → IsWorst (xs ++ hold ∷ []) (settled_verdict b)
worst_hold xs true h = (not_in xs hold stay_open h.0 (λ e. let never : ⊥ = cc in never), Contains-append_left xs (hold ∷ []) fail h.1)
worst_hold xs false h = (not_in xs hold stay_open h.0 (λ e. let never : ⊥ = cc in never), not_in xs hold fail h.1 (λ e. let never : ⊥ = cc in never))

worst_fail : (xs : List Answer) (b : Bool) → IsWorst xs (settled_verdict b) → IsWorst (xs ++ fail ∷ []) (settled_verdict true)
worst_fail xs true h = (not_in xs fail stay_open h.0 (λ e. let never : ⊥ = cc in never), Contains-append_left xs (fail ∷ []) fail h.1)
worst_fail xs false h = (not_in xs fail stay_open h.0 (λ e. let never : ⊥ = cc in never), Contains-push xs fail)

pub worst_turn_hold : (bs xs : List Answer) (b : Bool) (c : Answer) → bs ≡ xs ++ c ∷ [] → c ≡ hold → IsWorst xs (settled_verdict b) → IsWorst bs (settled_verdict b)
worst_turn_hold bs xs b c e f h = subst (λ (zs : List Answer). IsWorst zs (settled_verdict b)) (sym (e ∙ ap (λ (z : Answer). xs ++ z ∷ []) f)) (worst_hold xs b h)

pub worst_turn_fail : (bs xs : List Answer) (b : Bool) (c : Answer) → bs ≡ xs ++ c ∷ [] → c ≡ fail → IsWorst xs (settled_verdict b) → IsWorst bs (settled_verdict true)
worst_turn_fail bs xs b c e f h = subst (λ (zs : List Answer). IsWorst zs (settled_verdict true)) (sym (e ∙ ap (λ (z : Answer). xs ++ z ∷ []) f)) (worst_fail xs b h)

contains_mapped : {A B : Type 0} (f : A → B) (xs : List A) (i : ℕ) (x : A) → i < length xs → x ≡ slice_index_or xs i x → Contains (map f xs) (f x)
contains_mapped f [] i x l e = absurd (omega (arith, l))
contains_mapped f (y ∷ ys) zero x l e = (zero, omega arith, ap f (sym e))
contains_mapped f (y ∷ ys) (suc i) x l e = let r = contains_mapped f ys i x (omega (arith, l)) e in behind (f y) (map f ys) (f x) r
  where
    behind : {B : Type 0} (y : B) (ys : List B) (x : B) → Contains ys x → Contains (y ∷ ys) x
    behind y ys x (k, below, is) = (suc k, omega (arith, below), is)

pub worst_is_open : (row : List CodeAnswer) (i : ℕ) (x : CodeAnswer) → i < length row → x ≡ slice_index_or row i x → answer_of x ≡ stay_open → IsWorst (answers_of row) Open
worst_is_open row i x l e f = subst (Contains (answers_of row)) f (contains_mapped answer_of row i x l e)

-- ---- columns
pub answer_read : (row : List CodeAnswer) (column : ℕ) (x : CodeAnswer) → column < length row → x ≡ slice_index_or row column x → answer_of x ≡ slice_index_or (answers_of row) column fail
answer_read [] column x l e = absurd (omega (arith, l))
answer_read (y ∷ row) zero x l e = ap answer_of e
answer_read (y ∷ row) (suc column) x l e = answer_read row column x (omega (arith, l)) e

pub column_taken : (rows : List (Vec CodeAnswer)) (i column : ℕ) (row : Vec CodeAnswer) (x : CodeAnswer) → i < length rows → row ≡ slice_index_or rows i row → column < length row.items → x ≡ slice_index_or row.items column x
    → column_answers (tables_of (take (i + 1) rows)) column ≡ column_answers (tables_of (take i rows)) column ++ answer_of x ∷ []
column_taken rows i column row x l e within f =
    ap (λ (t : List (List Answer)). column_answers t column) (taken (λ (v : Vec CodeAnswer). answers_of v.items) rows i row l e)
    ∙ map-append (λ (r : List Answer). slice_index_or r column fail) (tables_of (take i rows)) (answers_of row.items ∷ [])
    ∙ ap (λ (z : Answer). column_answers (tables_of (take i rows)) column ++ z ∷ []) (sym (answer_read row.items column x within f))

pub answers_more : (P : ℕ → Answer → Type 0) (xs : List CodeAnswer) (n : ℕ) (x : CodeAnswer) (ys : List CodeAnswer) → length xs ≡ n → ((i : ℕ) → i < n → P i (slice_index_or (answers_of xs) i fail)) → P n (answer_of x) → ys ≡ xs ++ x ∷ []
    → (i : ℕ) → i < n + 1 → P i (slice_index_or (answers_of ys) i fail)
answers_more P xs n x ys long h k e i l = subst (λ (zs : List CodeAnswer). P i (slice_index_or (answers_of zs) i fail)) (sym e) (⊎_elim
    (λ q. subst (λ (j : ℕ). P j (slice_index_or (answers_of (xs ++ x ∷ [])) j fail)) (sym q) (subst (P n) (sym (last xs n long)) k))
    (λ o. subst (P i) (sym (before xs i (inside (less_unless_same i n l o)))) (h i (less_unless_same i n l o)))
    (same_or_not i n))
  where
    inside : i < n → i < length xs
    inside a = omega (arith, a, long)

    last : (zs : List CodeAnswer) (m : ℕ) → length zs ≡ m → slice_index_or (answers_of (zs ++ x ∷ [])) m fail ≡ answer_of x
    last [] zero a = refl
    last [] (suc m) a = absurd (omega (arith, a))
    last (z ∷ zs) zero a = absurd (omega (arith, a))
    last (z ∷ zs) (suc m) a = last zs m (omega (arith, a))

    before : (zs : List CodeAnswer) (j : ℕ) → j < length zs → slice_index_or (answers_of (zs ++ x ∷ [])) j fail ≡ slice_index_or (answers_of zs) j fail
    before [] j a = absurd (omega (arith, a))
    before (z ∷ zs) zero a = refl
    before (z ∷ zs) (suc j) a = before zs j (omega (arith, a))

pub not_true : (b : Bool) → IsTrue b → b ≡ false → ⊥
not_true b h e = let q : true ≡ false = sym h ∙ e in cc

-- one element more, read with another default
pub taken_at : {A B : Type 0} (f : A → B) (xs : List A) (i : ℕ) (d : A) → i < length xs → map f (take (i + 1) xs) ≡ map f (take i xs) ++ f (slice_index_or xs i d) ∷ []
taken_at f xs i d l = ap (map f) (take_more xs i d l) ∙ map-append f (take i xs) (slice_index_or xs i d ∷ [])
