-- Tokens have one fault at most, and none where they are accepted.
use Rattle.std.proofs.Common.{◌≡◌, ℕ, suc, ◌+◌, ◌≤◌, Bool, true, cond, List, [], ◌∷◌, ◌++◌, All, count_by, length, refl, ap, sym, ◌∙◌, subst, arith}
use Rattle.std.proofs.lemmas.List.Sums.{sum_by-cons}
use Rattle.mcrl2_lexer.specs.declared.token.Token.{Token}
use Rattle.mcrl2_parser.specs.declared.declaring.Declaration.{Declaration}
use Rattle.mcrl2_parser.specs.declared.faults.ParseFault.{ParseFault}
use Rattle.mcrl2_parser.specs.declared.faults.ParseFault.TheVariants.{Syntax, TooDeep, NoInit, TwoInits, NoMemory}
use Rattle.mcrl2_parser.specs.Declarations.{declarations_of}
use Rattle.mcrl2_parser.specs.Faults.{IsSound, IsRefused, IsFirstRefused, IsSecondInit, HasFault, is_init, level_at}

all_head : (P : Declaration → Type 0) (x : Declaration) (xs : List Declaration) → All P (x ∷ xs) → P x
all_head P x xs h = h 0 x (omega arith)

all_tail : (P : Declaration → Type 0) (x : Declaration) (xs : List Declaration) → All P (x ∷ xs) → All P xs
all_tail P x xs h = λ k d less. h (suc k) d (omega (arith, less))

-- what holds of each declaration holds of one in the middle
all_middle : (P : Declaration → Type 0) (front : List Declaration) (x : Declaration) (behind : List Declaration) → All P (front ++ x ∷ behind) → P x
all_middle P [] x behind h = all_head P x behind h
all_middle P (first ∷ front) x behind h = all_middle P front x behind (all_tail P first (front ++ x ∷ behind) h)

refused_unsound : (text : List ℕ) (tokens : List Token) (n : ℕ) (d : Declaration) (fault : ParseFault) → IsRefused text tokens n d fault → IsSound text tokens d → ⊥
refused_unsound text tokens n d (TooDeep m) cause sound = omega (arith, cause.1, sound.level)
refused_unsound text tokens n d (Syntax m) cause sound = cause.2 sound.whole
refused_unsound text tokens n d NoInit cause sound = cause
refused_unsound text tokens n d (TwoInits m) cause sound = cause
refused_unsound text tokens n d NoMemory cause sound = cause

pub record SamePlace (f g : List Declaration) (x y : Declaration) : Type 0 where
  pub front : length f ≡ length g
  pub here : x ≡ y

heads : {x y : Declaration} {xs ys : List Declaration} → x ∷ xs ≡ y ∷ ys → x ≡ y
heads e = cc

tails : {x y : Declaration} {xs ys : List Declaration} → x ∷ xs ≡ y ∷ ys → xs ≡ ys
tails e = cc

-- the first declaration of which something doesn't hold is one
first_single : (P : Declaration → Type 0) (f g : List Declaration) (x y : Declaration) (b c : List Declaration) → f ++ x ∷ b ≡ g ++ y ∷ c → All P f → All P g
    → (P x → ⊥) → (P y → ⊥) → SamePlace f g x y
first_single P [] [] x y b c e s t u v = record { front = refl; here = heads e }
first_single P [] (z ∷ g) x y b c e s t u v = absurd (u (subst P (sym (heads e)) (all_head P z g t)))
first_single P (w ∷ f) [] x y b c e s t u v = absurd (v (subst P (heads e) (all_head P w f s)))
first_single P (w ∷ f) (z ∷ g) x y b c e s t u v =
    let rest : SamePlace f g x y = first_single P f g x y b c (tails e) (all_tail P w f s) (all_tail P z g t) u v in
    record { front = ap suc rest.front; here = rest.here }

one_if_init : Declaration → ℕ
one_if_init x = cond (is_init x) 1 0

one_if_init-true : (x : Declaration) → is_init x ≡ true → one_if_init x ≡ 1
unfolding one_if_init
one_if_init-true x h = let f : Bool → ℕ = λ b. cond b 1 0 in ap f h

count_step : (x : Declaration) (xs : List Declaration) → count_by is_init (x ∷ xs) ≡ one_if_init x + count_by is_init xs
unfolding one_if_init
count_step x xs = sum_by-cons (λ d. cond (is_init d) 1 0) x xs

count_first : (x : Declaration) (xs : List Declaration) → is_init x ≡ true → count_by is_init (x ∷ xs) ≡ 1 + count_by is_init xs
count_first x xs h = omega (arith, count_step x xs, one_if_init-true x h)

count_same : (x y : Declaration) (xs ys : List Declaration) → x ≡ y → count_by is_init (x ∷ xs) ≡ count_by is_init (y ∷ ys) → count_by is_init xs ≡ count_by is_init ys
count_same x y xs ys e h = omega (arith, h, ap one_if_init e, count_step x xs, count_step y ys)

count_middle : (front : List Declaration) (x : Declaration) (behind : List Declaration) → is_init x ≡ true → 1 + count_by is_init front ≤ count_by is_init (front ++ x ∷ behind)
count_middle [] x behind h = rw (count_first x behind h) (omega arith)
count_middle (first ∷ front) x behind h =
    let rest : 1 + count_by is_init front ≤ count_by is_init (front ++ x ∷ behind) = count_middle front x behind h in
    rw (count_step first front, count_step first (front ++ x ∷ behind)) (omega (arith, rest))

-- of two in init sections with as many before them, both are at one place
second_single : (f g : List Declaration) (x y : Declaration) (b c : List Declaration) → f ++ x ∷ b ≡ g ++ y ∷ c → count_by is_init f ≡ count_by is_init g
    → is_init x ≡ true → is_init y ≡ true → length f ≡ length g
second_single [] [] x y b c e n u v = refl
second_single [] (z ∷ g) x y b c e n u v = absurd (omega (arith, n, count_first z g (ap is_init (sym (heads e)) ∙ u)))
second_single (w ∷ f) [] x y b c e n u v = absurd (omega (arith, n, count_first w f (ap is_init (heads e) ∙ v)))
second_single (w ∷ f) (z ∷ g) x y b c e n u v = ap suc (second_single f g x y b c (tails e) (count_same w z f g (heads e) n) u v)

refused_is_none_sound : (text : List ℕ) (tokens : List Token) (fault : ParseFault) → IsFirstRefused text tokens fault → All (IsSound text tokens) (declarations_of tokens) → ⊥
refused_is_none_sound text tokens fault h sound =
    refused_unsound text tokens (length h.front + 1) h.refused fault h.cause
    (all_middle (IsSound text tokens) h.front h.refused h.behind (subst (λ (xs : List Declaration). All (IsSound text tokens) xs) h.stands sound))

same_cause : (text : List ℕ) (tokens : List Token) (n m : ℕ) (x y : Declaration) (one other : ParseFault) → n ≡ m → x ≡ y → IsRefused text tokens n x one → IsRefused text tokens m y other → one ≡ other
same_cause text tokens n m x y (TooDeep a) (TooDeep b) e f h k = ap TooDeep (h.0 ∙ e ∙ sym k.0)
same_cause text tokens n m x y (Syntax a) (Syntax b) e f h k = ap Syntax (h.0 ∙ e ∙ sym k.0)
same_cause text tokens n m x y (TooDeep a) (Syntax b) e f h k = absurd (omega (arith, h.1, k.1, ap (level_at tokens) f))
same_cause text tokens n m x y (Syntax a) (TooDeep b) e f h k = absurd (omega (arith, h.1, k.1, ap (level_at tokens) f))
same_cause text tokens n m x y NoInit other e f h k = absurd h
same_cause text tokens n m x y (TwoInits a) other e f h k = absurd h
same_cause text tokens n m x y NoMemory other e f h k = absurd h
same_cause text tokens n m x y (TooDeep a) NoInit e f h k = absurd k
same_cause text tokens n m x y (TooDeep a) (TwoInits b) e f h k = absurd k
same_cause text tokens n m x y (TooDeep a) NoMemory e f h k = absurd k
same_cause text tokens n m x y (Syntax a) NoInit e f h k = absurd k
same_cause text tokens n m x y (Syntax a) (TwoInits b) e f h k = absurd k
same_cause text tokens n m x y (Syntax a) NoMemory e f h k = absurd k

refused_single : (text : List ℕ) (tokens : List Token) (one other : ParseFault) → IsFirstRefused text tokens one → IsFirstRefused text tokens other → one ≡ other
refused_single text tokens one other h k =
    let same : SamePlace h.front k.front h.refused k.refused =
    first_single (IsSound text tokens) h.front k.front h.refused k.refused h.behind k.behind (sym h.stands ∙ k.stands) h.sound k.sound
    (refused_unsound text tokens (length h.front + 1) h.refused one h.cause) (refused_unsound text tokens (length k.front + 1) k.refused other k.cause) in
    same_cause text tokens (length h.front + 1) (length k.front + 1) h.refused k.refused one other (ap (λ (n : ℕ). n + 1) same.front) same.here h.cause k.cause

second_is_two : (ds : List Declaration) (n : ℕ) → IsSecondInit ds n → 2 ≤ count_by is_init ds
second_is_two ds n h =
    let more : 1 + count_by is_init h.front ≤ count_by is_init (h.front ++ h.second ∷ h.behind) = count_middle h.front h.second h.behind h.init in
    omega (arith, more, ap (count_by is_init) h.stands, h.one_before)

second_number : (ds : List Declaration) (n m : ℕ) → IsSecondInit ds n → IsSecondInit ds m → n ≡ m
second_number ds n m h k =
    let same : length h.front ≡ length k.front =
    second_single h.front k.front h.second k.second h.behind k.behind (sym h.stands ∙ k.stands) (h.one_before ∙ sym k.one_before) h.init k.init in
    h.number_is ∙ ap (λ (x : ℕ). x + 1) same ∙ sym k.number_is

pub fault_single : (text : List ℕ) (tokens : List Token) (one other : ParseFault) → HasFault text tokens one → HasFault text tokens other → one ≡ other
fault_single text tokens (TooDeep a) (TooDeep b) h k = refused_single text tokens (TooDeep a) (TooDeep b) h k
fault_single text tokens (TooDeep a) (Syntax b) h k = refused_single text tokens (TooDeep a) (Syntax b) h k
fault_single text tokens (Syntax a) (TooDeep b) h k = refused_single text tokens (Syntax a) (TooDeep b) h k
fault_single text tokens (Syntax a) (Syntax b) h k = refused_single text tokens (Syntax a) (Syntax b) h k
fault_single text tokens (TooDeep a) NoInit h k = absurd (refused_is_none_sound text tokens (TooDeep a) h k.0)
fault_single text tokens (TooDeep a) (TwoInits b) h k = absurd (refused_is_none_sound text tokens (TooDeep a) h k.0)
fault_single text tokens (Syntax a) NoInit h k = absurd (refused_is_none_sound text tokens (Syntax a) h k.0)
fault_single text tokens (Syntax a) (TwoInits b) h k = absurd (refused_is_none_sound text tokens (Syntax a) h k.0)
fault_single text tokens NoInit (TooDeep b) h k = absurd (refused_is_none_sound text tokens (TooDeep b) k h.0)
fault_single text tokens NoInit (Syntax b) h k = absurd (refused_is_none_sound text tokens (Syntax b) k h.0)
fault_single text tokens (TwoInits a) (TooDeep b) h k = absurd (refused_is_none_sound text tokens (TooDeep b) k h.0)
fault_single text tokens (TwoInits a) (Syntax b) h k = absurd (refused_is_none_sound text tokens (Syntax b) k h.0)
fault_single text tokens NoInit NoInit h k = refl
fault_single text tokens NoInit (TwoInits b) h k = absurd (omega (arith, second_is_two (declarations_of tokens) b k.1, h.1))
fault_single text tokens (TwoInits a) NoInit h k = absurd (omega (arith, second_is_two (declarations_of tokens) a h.1, k.1))
fault_single text tokens (TwoInits a) (TwoInits b) h k = ap TwoInits (second_number (declarations_of tokens) a b h.1 k.1)
fault_single text tokens NoMemory other h k = absurd h
fault_single text tokens (TooDeep a) NoMemory h k = absurd k
fault_single text tokens (Syntax a) NoMemory h k = absurd k
fault_single text tokens NoInit NoMemory h k = absurd k
fault_single text tokens (TwoInits a) NoMemory h k = absurd k

pub no_fault : (text : List ℕ) (tokens : List Token) (fault : ParseFault) → All (IsSound text tokens) (declarations_of tokens) → count_by is_init (declarations_of tokens) ≡ 1 → HasFault text tokens fault → ⊥
no_fault text tokens (TooDeep a) sound one h = refused_is_none_sound text tokens (TooDeep a) h sound
no_fault text tokens (Syntax a) sound one h = refused_is_none_sound text tokens (Syntax a) h sound
no_fault text tokens NoInit sound one h = omega (arith, one, h.1)
no_fault text tokens (TwoInits a) sound one h = omega (arith, one, second_is_two (declarations_of tokens) a h.1)
no_fault text tokens NoMemory sound one h = h
