-- The first declaration that is refused, and the second one in an init section.
use Rattle.std.proofs.Common.{◌≡◌, ℕ, ◌+◌, Bool, true, false, List, [], ◌∷◌, ◌++◌, All, cond, count_by, length, refl, ap, sym, ◌∙◌, subst, arith}
use Rattle.std.proofs.lemmas.Grind.{common_steps}
use Rattle.std.proofs.lemmas.List.Recursion.{is_count_by}
use Rattle.mcrl2_lexer.specs.declared.token.Token.{Token}
use Rattle.mcrl2_parser.specs.declared.declaring.Declaration.{Declaration}
use Rattle.mcrl2_parser.specs.declared.faults.ParseFault.{ParseFault}
use Rattle.mcrl2_parser.specs.declared.faults.ParseFault.TheVariants.{Syntax, TooDeep, NoInit, TwoInits, NoMemory}
use Rattle.mcrl2_parser.specs.Declarations.{declarations_of}
use Rattle.mcrl2_parser.specs.Faults.{IsSound, IsRefused, IsFirstRefused, HasFault, is_init, init_number, init_numbers, IsNotOne}

first_refused : (text : List ℕ) (tokens : List Token) (front : List Declaration) (d : Declaration) (behind : List Declaration) (number : ℕ) (fault : ParseFault) → declarations_of tokens ≡ front ++ d ∷ behind
    → All (IsSound text tokens) front → number ≡ length front + 1 → IsRefused text tokens number d fault → IsFirstRefused text tokens fault
first_refused text tokens front d behind number fault stands sound is cause = record {
  front = front;
  refused = d;
  behind = behind;
  stands = stands;
  sound = sound;
  cause = subst (λ (n : ℕ). IsRefused text tokens n d fault) is cause;
}

pub has_fault : (text : List ℕ) (tokens : List Token) (front : List Declaration) (d : Declaration) (behind : List Declaration) (number : ℕ) (fault : ParseFault) → declarations_of tokens ≡ front ++ d ∷ behind
    → All (IsSound text tokens) front → number ≡ length front + 1 → IsRefused text tokens number d fault → HasFault text tokens fault
has_fault text tokens front d behind number (TooDeep n) stands sound is cause = first_refused text tokens front d behind number (TooDeep n) stands sound is cause
has_fault text tokens front d behind number (Syntax n) stands sound is cause = first_refused text tokens front d behind number (Syntax n) stands sound is cause
has_fault text tokens front d behind number NoInit stands sound is cause = absurd cause
has_fault text tokens front d behind number (TwoInits n) stands sound is cause = absurd cause
has_fault text tokens front d behind number NoMemory stands sound is cause = absurd cause

-- ---- the numbers of those in init sections

-- one more declaration behind the others
pub numbers_more : (number : ℕ) (ds : List Declaration) (d : Declaration) → init_numbers number (ds ++ d ∷ []) ≡ init_numbers number ds ++ init_number (number + length ds) (is_init d)
numbers_more number [] d =
    let same : number ≡ number + 0 = omega arith in
    by_test (is_init d) same
  where
    by_test : (b : Bool) → number ≡ number + 0 → init_number number b ++ [] ≡ init_number (number + 0) b
    by_test true e = ap (λ (n : ℕ). n ∷ []) e
    by_test false e = refl
numbers_more number (x ∷ ds) d =
    let same : number + 1 + length ds ≡ number + length (x ∷ ds) = grind (arith, common_steps) in
    by_test (is_init x) _ _ _ (numbers_more (number + 1) ds d ∙ ap (λ (n : ℕ). init_numbers (number + 1) ds ++ init_number n (is_init d)) same)
  where
    by_test : (b : Bool) (xs ys zs : List ℕ) → xs ≡ ys ++ zs → init_number number b ++ xs ≡ (init_number number b ++ ys) ++ zs
    by_test true xs ys zs e = ap (λ (ns : List ℕ). number ∷ ns) e
    by_test false xs ys zs e = e

-- how many there are
counted : List Declaration → ℕ
counted [] = 0
counted (d ∷ ds) = cond (is_init d) (1 + counted ds) (counted ds)

counted_all : (ds : List Declaration) → counted ds ≡ count_by is_init ds
unfolding counted
counted_all ds = is_count_by counted is_init refl (λ d more. refl) ds

numbers_counted : (number : ℕ) (ds : List Declaration) → counted ds ≡ length (init_numbers number ds)
unfolding counted
numbers_counted number [] = refl
numbers_counted number (d ∷ ds) = by_test (is_init d) _ _ (numbers_counted (number + 1) ds)
  where
    by_test : (b : Bool) (n : ℕ) (ns : List ℕ) → n ≡ length ns → cond b (1 + n) n ≡ length (init_number number b ++ ns)
    by_test true n ns e = grind (arith, common_steps, e)
    by_test false n ns e = e

-- a declaration in an init section behind that many others in one
record StandsBehind (many number : ℕ) (ds : List Declaration) (found : ℕ) : Type 0 where
  pub front : List Declaration
  pub there : Declaration
  pub behind : List Declaration
  pub stands : ds ≡ front ++ there ∷ behind
  pub found_is : found ≡ number + length front
  pub before : counted front ≡ many
  pub init : is_init there ≡ true

first_number : (number : ℕ) (ds : List Declaration) (first : ℕ) (others : List ℕ) → init_numbers number ds ≡ first ∷ others → StandsBehind 0 number ds first
unfolding counted
first_number number [] first others e = absurd cc
first_number number (d ∷ ds) first others e = by_test (is_init d) refl e (first_number (number + 1) ds first others)
  where
    by_test : (b : Bool) → is_init d ≡ b → init_number number b ++ init_numbers (number + 1) ds ≡ first ∷ others
        → (init_numbers (number + 1) ds ≡ first ∷ others → StandsBehind 0 (number + 1) ds first) → StandsBehind 0 number (d ∷ ds) first
    by_test true i f go =
        let same : number ≡ first = cc in
        record { front = []; there = d; behind = ds; stands = refl; found_is = omega (arith, same); before = refl; init = i }
    by_test false i f go =
        let more = go f in
        record {
          front = d ∷ more.front;
          there = more.there;
          behind = more.behind;
          stands = ap (λ (xs : List Declaration). d ∷ xs) more.stands;
          found_is = grind (arith, common_steps, more.found_is);
          before = ap (λ (b : Bool). cond b (1 + counted more.front) (counted more.front)) i ∙ more.before;
          init = more.init;
        }

second_number : (number : ℕ) (ds : List Declaration) (first second : ℕ) (others : List ℕ) → init_numbers number ds ≡ first ∷ second ∷ others → StandsBehind 1 number ds second
unfolding counted
second_number number [] first second others e = absurd cc
second_number number (d ∷ ds) first second others e = by_test (is_init d) refl e (second_number (number + 1) ds first second others)
  where
    by_test : (b : Bool) → is_init d ≡ b → init_number number b ++ init_numbers (number + 1) ds ≡ first ∷ second ∷ others
        → (init_numbers (number + 1) ds ≡ first ∷ second ∷ others → StandsBehind 1 (number + 1) ds second) → StandsBehind 1 number (d ∷ ds) second
    by_test true i f go =
        let rest : init_numbers (number + 1) ds ≡ second ∷ others = cc in
        let more = first_number (number + 1) ds second others rest in
        record {
          front = d ∷ more.front;
          there = more.there;
          behind = more.behind;
          stands = ap (λ (xs : List Declaration). d ∷ xs) more.stands;
          found_is = grind (arith, common_steps, more.found_is);
          before = ap (λ (b : Bool). cond b (1 + counted more.front) (counted more.front)) i ∙ ap (λ (n : ℕ). 1 + n) more.before;
          init = more.init;
        }
    by_test false i f go =
        let more = go f in
        record {
          front = d ∷ more.front;
          there = more.there;
          behind = more.behind;
          stands = ap (λ (xs : List Declaration). d ∷ xs) more.stands;
          found_is = grind (arith, common_steps, more.found_is);
          before = ap (λ (b : Bool). cond b (1 + counted more.front) (counted more.front)) i ∙ more.before;
          init = more.init;
        }

-- one number is one declaration
pub one_init : (ds : List Declaration) (inits : List ℕ) → inits ≡ init_numbers 1 ds → length inits ≡ 1 → count_by is_init ds ≡ 1
one_init ds inits e one = sym (counted_all ds) ∙ (numbers_counted 1 ds ∙ (ap length (sym e) ∙ one))

-- no number is no declaration, and the second number is that of the second one
pub has_init_fault : (text : List ℕ) (tokens : List Token) (inits : List ℕ) (fault : ParseFault) → inits ≡ init_numbers 1 (declarations_of tokens) → All (IsSound text tokens) (declarations_of tokens)
    → IsNotOne inits fault → HasFault text tokens fault
has_init_fault text tokens inits NoInit e sound none = (sound, sym (counted_all (declarations_of tokens)) ∙ (numbers_counted 1 (declarations_of tokens) ∙ ap length (sym e ∙ none)))
has_init_fault text tokens inits (TwoInits n) e sound more =
    let second = second_number 1 (declarations_of tokens) more.0 n more.1 (sym e ∙ more.2) in (
      sound,
      record {
        front = second.front;
        second = second.there;
        behind = second.behind;
        stands = second.stands;
        number_is = omega (arith, second.found_is);
        one_before = sym (counted_all second.front) ∙ second.before;
        init = second.init;
      },
    )
has_init_fault text tokens inits (TooDeep n) e sound none = absurd none
has_init_fault text tokens inits (Syntax n) e sound none = absurd none
has_init_fault text tokens inits NoMemory e sound none = absurd none

pub moved_fault : {text others : List ℕ} {tokens us : List Token} (fault : ParseFault) → text ≡ others → tokens ≡ us → HasFault text tokens fault → HasFault others us fault
moved_fault {text = text} {us = us} fault e f h = subst (λ (x : List ℕ). HasFault x us fault) e (subst (λ (x : List Token). HasFault text x fault) f h)

pub moved_sound : {text others : List ℕ} {tokens us : List Token} → text ≡ others → tokens ≡ us → All (IsSound text tokens) (declarations_of tokens) → All (IsSound others us) (declarations_of us)
moved_sound {text = text} {us = us} e f h =
    subst (λ (x : List ℕ). All (IsSound x us) (declarations_of us)) e (subst (λ (x : List Token). All (IsSound text x) (declarations_of x)) f h)
