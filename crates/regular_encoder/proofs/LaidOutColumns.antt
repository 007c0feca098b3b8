-- What is laid out is a layout.
use Rattle.lps_core.specs.TreeSummands.{numbers_of}
use Rattle.std.proofs.Common.{◌≡◌, ◌<◌, ℕ, zero, suc, false, List, [], ◌∷◌, ◌++◌, map, get_or, refl, sym, ap, ◌∙◌, subst, arith, Option, Some, None}
use Rattle.std.specs.Prelude.{Contains, slice_get, is_some, option_to_list}
use Rattle.std.specs.List.{AllZip}
use Rattle.data_theory.specs.declared.ids.VarId.{VarId}
use Rattle.data_theory.specs.Environments.{AreDistinct}
use Rattle.data_theory.specs.Signature.{Sig}
use Rattle.data_theory.specs.IdTrees.{Tree}
use Rattle.process_terms.specs.Meanings.{bound_at}
use Rattle.process_terms.specs.SignatureEntries.{entries_of}
use Rattle.bisim_laws.specs.LinearProcesses.{variables}
use Rattle.lps_core.specs.Moving.{SameSorts, no_more, one_more}
use Rattle.greibach.specs.PlainForms.{form_summand_of, equation_of}
use Rattle.regular_encoder.specs.Encoding.{control_params}
use Rattle.regular_encoder.specs.TreeEncoding.{PlainLayout}
use Rattle.regular_encoder.specs.Layouts.{control_variable, LaidOutIsALayout}
use Rattle.std.proofs.lemmas.List.{length-map}
use Rattle.lps_core.proofs.Members.{contains_map, map_contains}

pub numbers : (h : Sig) (ts : List Tree) (xs : List VarId) → variables (map (bound_at (entries_of h ts)) xs) ≡ numbers_of xs
numbers h ts [] = refl
numbers h ts (x ∷ xs) = ap (λ ys. x.0 ∷ ys) (numbers h ts xs)

all_numbers : (h : Sig) (l : PlainLayout) (o : Option VarId) → variables (control_params (is_some o) (control_variable o) ++ map (bound_at (entries_of h [])) l.columns) ≡ numbers_of (option_to_list o ++ l.columns)
all_numbers h l None = numbers h [] l.columns
all_numbers h l (Some x) = ap (λ ys. x.0 ∷ ys) (numbers h [] l.columns)

not_some : (o : Option VarId) → is_some o ≡ false → o ≡ None
not_some None e = refl
not_some (Some x) e = cc

pub read_numbers : (ps : List (List VarId)) (k : ℕ) → get_or (map numbers_of ps) k [] ≡ numbers_of (get_or ps k [])
read_numbers [] k = refl
read_numbers (p ∷ ps) zero = refl
read_numbers (p ∷ ps) (suc k) = read_numbers ps k

-- an entry of a mapped list
mapped_at : {A B : Type 0} (f : A → B) (xs : List A) (i : ℕ) (y : B) → slice_get (map f xs) i ≡ Some y → (x : A) × ((slice_get xs i ≡ Some x) × (y ≡ f x))
mapped_at f [] i y e = cc
mapped_at f (x ∷ xs) zero y e = (x, (refl, let q : y ≡ f x = cc in q))
mapped_at f (x ∷ xs) (suc i) y e = mapped_at f xs i y e

same_sorts_of : (h : Sig) (ts : List Tree) (params place : List VarId) → AllZip (λ (p c : VarId). (bound_at (entries_of h ts) p).sort ≡ (bound_at (entries_of h []) c).sort) params place
    → SameSorts (map (bound_at (entries_of h ts)) params) (map (bound_at (entries_of h [])) place)
same_sorts_of h ts [] [] z = no_more
same_sorts_of h ts [] (c ∷ place) z = absurd z
same_sorts_of h ts (p ∷ params) [] z = absurd z
same_sorts_of h ts (p ∷ params) (c ∷ place) z = one_more z.0 (same_sorts_of h ts params place z.1)

number_in : (xs : List VarId) (v : ℕ) → Contains (numbers_of xs) v → (x : VarId) × (Contains xs x × (v ≡ x.0))
number_in xs v i = contains_map (λ (x : VarId). x.0) xs v i

pub laid_out : LaidOutIsALayout
laid_out old h ts f l defaults w = record {
  distinct = subst AreDistinct (sym (all_numbers h l l.control)) w.distinct;
  long = length-map l.places numbers_of ∙ w.long ∙ sym (length-map f.equations (equation_of (entries_of h ts)));
  few = subst (λ n. n < 340282366920938463463374607431768211456) (sym (length-map f.equations (equation_of (entries_of h ts)))) w.few;
  places = λ i q at.
      let m = mapped_at (equation_of (entries_of h ts)) f.equations i q at in
      let p = w.places i m.0 m.1.0 in
      let place = get_or l.places i [] in
      record {
        bounds = map (bound_at (entries_of h [])) place;
        same = subst (λ z. SameSorts z.params (map (bound_at (entries_of h [])) place)) (sym m.1.1) (same_sorts_of h ts m.0.params place p.same);
        is = read_numbers l.places i ∙ sym (numbers h [] place);
        among = λ y j. let r = contains_map (bound_at (entries_of h [])) place y j in subst (λ z. Contains (map (bound_at (entries_of h [])) l.columns) z) (sym r.1.1) (map_contains (bound_at (entries_of h [])) l.columns r.0 (p.among r.0 r.1.0));
        distinct = subst AreDistinct (sym (read_numbers l.places i)) p.distinct;
      };
  single = λ e. length-map f.equations (equation_of (entries_of h ts)) ∙ w.single (not_some l.control e);
  apart = λ i q s at j v a b.
      let m = mapped_at (equation_of (entries_of h ts)) f.equations i q at in
      let r = contains_map (form_summand_of (entries_of h ts)) m.0.summands s (subst (λ z. Contains z.summands s) m.1.1 j) in
      let x = number_in r.0.sums v (subst (λ z. Contains z v) (numbers h ts r.0.sums) (subst (λ z. Contains (variables z.sums) v) r.1.1 a)) in
      let y = number_in (option_to_list l.control ++ l.columns) v (subst (λ z. Contains z v) (all_numbers h l l.control) b) in
      let low = w.sums i m.0 r.0 m.1.0 r.1.0 x.0 x.1.0 in
      let high = w.new y.0 y.1.0 in
      omega (arith, low, high, x.1.1, y.1.1);
}
