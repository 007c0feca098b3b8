-- Tail forms, as tests and as what they mean.
use Rattle.std.proofs.Common.{◌≡◌, ◌≤◌, ◌&&◌, Bool, true, false, List, [], ◌∷◌, map, length, refl, sym, ap₂, subst}
use Rattle.std.specs.Prelude.{◌↔◌, Contains}
use Rattle.std.specs.List.{All, list_all}
use Rattle.std.proofs.lemmas.Bool.{leb-true, le-leb}
use Rattle.std.proofs.lemmas.List.{length-map}
use Rattle.std.proofs.lemmas.List.Elements.{All-nil, All-cons, All-head, All-tail, All-contains}
use Rattle.lps_core.proofs.Members.{contains_map, mapped_at, all_at}
use Rattle.greibach.specs.PlainForms.{PlainEquation, plain_call, plain_form_summand, plain_equation, plain_form, call_of, form_summand_of, equation_of}
use Rattle.greibach.specs.declared.forms.GreibachSummand.{GreibachSummand}
use Rattle.greibach.specs.declared.forms.GreibachEquation.{GreibachEquation}
use Rattle.greibach.specs.declared.forms.Greibach.{Greibach}
use Rattle.greibach.specs.Tails.{HasTail, HasTails, is_tail_summand, is_tail_equation, is_tail_form}
use Rattle.greibach.specs.FormLaws.{TailFormsMeanTails}

-- a test of all elements
module _ {A : Type 0} (test : A → Bool) (P : A → Type 0) (tells : (x : A) → (test x ≡ true) ↔ P x) where
  pub all_told : (xs : List A) → list_all test xs ≡ true → All P xs
  all_told [] h = All-nil P
  all_told (x ∷ xs) h = by_both (test x) (list_all test xs) h (tells x).0 (all_told xs)
    where
      by_both : (a b : Bool) → (a && b) ≡ true → (a ≡ true → P x) → (b ≡ true → All P xs) → All P (x ∷ xs)
      by_both true b e f g = All-cons P x xs (f refl) (g e)
      by_both false b e f g = cc

  pub told_all : (xs : List A) → All P xs → list_all test xs ≡ true
  told_all [] h = refl
  told_all (x ∷ xs) h = ap₂ (λ a b. a && b) ((tells x).1 (All-head P x xs h)) (told_all xs (All-tail P x xs h))

-- what holds of all elements of a mapped list
all_mapped : {A B : Type 0} (f : A → B) (P : B → Type 0) (xs : List A) → All (λ x. P (f x)) xs → All P (map f xs)
all_mapped f P [] h = All-nil P
all_mapped f P (x ∷ xs) h = All-cons P (f x) (map f xs) (All-head (λ z. P (f z)) x xs h) (all_mapped f P xs (All-tail (λ z. P (f z)) x xs h))

mapped_all : {A B : Type 0} (f : A → B) (P : B → Type 0) (xs : List A) → All P (map f xs) → All (λ x. P (f x)) xs
mapped_all f P [] h = All-nil (λ x. P (f x))
mapped_all f P (x ∷ xs) h = All-cons (λ z. P (f z)) x xs (All-head P (f x) (map f xs) h) (mapped_all f P xs (All-tail P (f x) (map f xs) h))

tail_told : (s : GreibachSummand) → (is_tail_summand s ≡ true) ↔ HasTail (plain_form_summand s)
tail_told s =
    let e = length-map s.next.items plain_call in
    (λ q. subst (λ n. n ≤ 1) (sym e) (leb-true (length s.next.items) 1 q), λ l. le-leb (length s.next.items) 1 (subst (λ n. n ≤ 1) e l))

equation_told : (q : GreibachEquation) → (is_tail_equation q ≡ true) ↔ All HasTail (plain_equation q).summands
equation_told q = (
  λ e. all_mapped plain_form_summand HasTail q.summands.items (all_told is_tail_summand (λ s. HasTail (plain_form_summand s)) tail_told q.summands.items e),
  λ h. told_all is_tail_summand (λ s. HasTail (plain_form_summand s)) tail_told q.summands.items (mapped_all plain_form_summand HasTail q.summands.items h),
)

pub form_told : (f : Greibach) → (is_tail_form f ≡ true) ↔ HasTails (plain_form f)
form_told f =
    let P : PlainEquation → Type 0 = λ q. All HasTail q.summands in (
      λ e. all_mapped plain_equation P f.equations.items (all_told is_tail_equation (λ q. P (plain_equation q)) equation_told f.equations.items e),
      λ h. told_all is_tail_equation (λ q. P (plain_equation q)) equation_told f.equations.items (mapped_all plain_equation P f.equations.items h),
    )

pub tails_mean : TailFormsMeanTails
tails_mean g f h i q s at j =
    let p = mapped_at (equation_of g) f.equations i q at in
    let r = contains_map (form_summand_of g) p.0.summands s (subst (λ z. Contains z.summands s) p.1.1 j) in
    let own = All-contains HasTail p.0.summands r.0 (all_at (λ z. All HasTail z.summands) f.equations i p.0 h p.1.0) r.1.0 in
    subst (λ z. length z.next ≤ 1) (sym r.1.1) (subst (λ n. n ≤ 1) (sym (length-map r.0.next (call_of g))) own)
