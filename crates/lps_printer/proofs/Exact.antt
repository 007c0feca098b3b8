-- Calls whose arguments infer the sorts of a signature.
use Rattle.std.proofs.Common.{◌≡◌, Bool, true, false, cond, ◌&&◌, List, [], ◌∷◌, ◌++◌, inl, inr, if◌then◌else◌, refl, ap, ap₂, ◌∙◌, subst}
use Rattle.std.specs.Prelude.{Option, Some, None, is_some, option_map, option_and_then, option_to_list, map}
use Rattle.std.specs.Option.{option_or}
use Rattle.data_theory.specs.Terms.{Sort, boolean, Symbol, Term, Terms, apply}
use Rattle.data_theory.specs.Terms as terms
use Rattle.sort_table.specs.Expressions as typed
use Rattle.sort_table.specs.Expressions.{Name}
use Rattle.data_typing.specs.Typings.{sort_eq, sorts_eq, upcast_to, Inferred, Typing, embedded, first_of, exactly, checked, all_at, Signature, applied, first_exact, first_fitting, Place, over, read_off, Scheme, scheme_at, candidates, first_candidate, by_result, Meaning, functions, word_typing, typing, typings}
use Rattle.lps_printer.specs.ReadableNames.{find_exact, candidates_of, IsAt}
use Rattle.data_typing.proofs.SortTests.{sorts_told, sort_told_itself}

-- an expression that infers a term and a sort, and checks at that sort as that term
pub record Infers (m : Name → Meaning) (e : typed.Expression) (t : Term) (s : Sort) : Type 0 where
  pub inferred : (typing m e).infers ≡ Some (record { term = t; sort = s })
  pub checks : (typing m e).checks s ≡ Some t

pub data AllInfer (m : Name → Meaning) : typed.Expressions → Terms → List Sort → Type 0 where
  infer_none : AllInfer m typed.none terms.none []
  infer_more : {e : typed.Expression} {es : typed.Expressions} {t : Term} {ts : Terms} {s : Sort} {ss : List Sort} → Infers m e t s → AllInfer m es ts ss → AllInfer m (typed.more e es) (terms.more t ts) (s ∷ ss)

pub and_true : (a b : Bool) → (a && b) ≡ true → (a ≡ true) × (b ≡ true)
and_true true b h = (refl, h)
and_true false b h = absurd cc

pub all_sorts_told : (ss rs : List Sort) → sorts_eq ss rs ≡ true → ss ≡ rs
all_sorts_told [] [] e = refl
all_sorts_told [] (r ∷ rs) e = absurd cc
all_sorts_told (s ∷ ss) [] e = absurd cc
all_sorts_told (s ∷ ss) (r ∷ rs) e = let p = and_true (sort_eq s r) (sorts_eq ss rs) e in ap₂ (λ (x : Sort) (xs : List Sort). x ∷ xs) (sorts_told s r p.0) (all_sorts_told ss rs p.1)

abbrev found_at : Sort → Option Inferred → Option Term
found_at s o = option_and_then (λ i. cond (sort_eq i.sort s) (Some i.term) None) o

exactly_at : (m : Name → Meaning) (e : typed.Expression) (t : Term) (s r : Sort) → Infers m e t s → exactly r (typing m e) ≡ cond (sort_eq s r) (Some t) None
exactly_at m e t s r i = ap (found_at r) i.inferred

pub all_exact : {m : Name → Meaning} {es : typed.Expressions} {ts : Terms} {ss : List Sort} → AllInfer m es ts ss → all_at exactly ss (typings m es) ≡ Some ts
all_exact infer_none = refl
all_exact {m = m} (infer_more {e = e} {es = es} {t = t} {ts = ts} {s = s} {ss = ss} i is) =
    ap (λ (o : Option Term). option_and_then (λ (u : Term). option_map (terms.more u) (all_at exactly ss (typings m es))) o) (exactly_at m e t s s i ∙ ap (λ (b : Bool). cond b (Some t) None) (sort_told_itself s))
    ∙ ap (λ (o : Option Terms). option_map (terms.more t) o) (all_exact is)

pub all_checked : {m : Name → Meaning} {es : typed.Expressions} {ts : Terms} {ss : List Sort} → AllInfer m es ts ss → all_at checked ss (typings m es) ≡ Some ts
all_checked infer_none = refl
all_checked {m = m} (infer_more {e = e} {es = es} {t = t} {ts = ts} {s = s} {ss = ss} i is) =
    ap (λ (o : Option Term). option_and_then (λ (u : Term). option_map (terms.more u) (all_at checked ss (typings m es))) o) i.checks
    ∙ ap (λ (o : Option Terms). option_map (terms.more t) o) (all_checked is)

then_none : {A B : Type 0} (o : Option A) (f : A → Option B) → ((x : A) → f x ≡ None) → option_and_then f o ≡ None
then_none None f e = refl
then_none (Some x) f e = e x

map_none : {A B : Type 0} (o : Option A) (f : A → B) → o ≡ None → option_map f o ≡ None
map_none None f e = refl
map_none (Some x) f e = absurd cc

either_sort : (b c : Bool) (t : Term) (o : Option Terms) → (b && c) ≡ false → (c ≡ false → o ≡ None) → option_and_then (λ (u : Term). option_map (terms.more u) o) (cond b (Some t) None) ≡ None
either_sort true c t o e f = map_none o (terms.more t) (f e)
either_sort false c t o e f = refl

-- at other sorts the arguments aren't exact
pub others_not : {m : Name → Meaning} {es : typed.Expressions} {ts : Terms} {ss : List Sort} (rs : List Sort) → AllInfer m es ts ss → sorts_eq ss rs ≡ false → all_at exactly rs (typings m es) ≡ None
others_not [] infer_none e = absurd cc
others_not (r ∷ rs) infer_none e = refl
others_not [] (infer_more i is) e = refl
others_not {m = m} (r ∷ rs) (infer_more {e = d} {es = es} {t = t} {ts = ts} {s = s} {ss = ss} i is) e =
    ap (λ (o : Option Term). option_and_then (λ (u : Term). option_map (terms.more u) (all_at exactly rs (typings m es))) o) (exactly_at m d t s r i)
    ∙ either_sort (sort_eq s r) (sorts_eq ss rs) t (all_at exactly rs (typings m es)) e (others_not rs is)

abbrev made : Terms → Signature → Inferred
made ts f = record { term = apply f.symbol ts; sort = f.result }

exact_step : {m : Name → Meaning} {es : typed.Expressions} {ts : Terms} {ss : List Sort} (b : Bool) (f : Signature) (o : Option Signature) (p : Option Inferred) → AllInfer m es ts ss → sorts_eq ss f.arguments ≡ b
    → p ≡ option_map (made ts) o → option_or (applied exactly (typings m es) f) p ≡ option_map (made ts) (cond b (Some f) o)
exact_step {m = m} {es = es} {ts = ts} {ss = ss} true f o p is h e =
    let same : ss ≡ f.arguments = all_sorts_told ss f.arguments h in
    let found : all_at exactly f.arguments (typings m es) ≡ Some ts = subst (λ (rs : List Sort). all_at exactly rs (typings m es) ≡ Some ts) same (all_exact is) in
    ap (λ (q : Option Terms). option_or (option_map (made_by f) q) p) found
  where
    made_by : Signature → Terms → Inferred
    made_by f us = record { term = apply f.symbol us; sort = f.result }
exact_step {m = m} {es = es} {ts = ts} {ss = ss} false f o p is h e =
    ap (λ (q : Option Terms). option_or (option_map (λ (us : Terms). made us f) q) p) (others_not f.arguments is h) ∙ e

-- the first exact signature is the first of these argument sorts
pub exact_found : {m : Name → Meaning} {es : typed.Expressions} {ts : Terms} {ss : List Sort} (fs : List Signature) → AllInfer m es ts ss → first_exact (typings m es) fs ≡ option_map (made ts) (find_exact ss fs)
exact_found [] is = refl
exact_found {m = m} {es = es} {ts = ts} {ss = ss} (f ∷ fs) is = exact_step (sorts_eq ss f.arguments) f (find_exact ss fs) (first_exact (typings m es) fs) is refl (exact_found fs is)

-- what the embedding of an inferred term is at its own sort
pub own_sort : (s : Sort) (t : Term) → embedded s (record { term = t; sort = s }) ≡ Some t
own_sort s t = ap (λ (b : Bool). cond b (Some t) (option_map (λ (f : Symbol). apply f (terms.more t terms.none)) (upcast_to s s))) (sort_told_itself s)

-- by a signature of just these argument sorts
pub call_by_signature : (m : Name → Meaning) (f : Name) (fs : List Signature) (c : Option Scheme) (es : typed.Expressions) (ts : Terms) (g : Signature) → m f ≡ functions fs c → AllInfer m es ts g.arguments
    → find_exact g.arguments fs ≡ Some g → Infers m (typed.word f es) (apply g.symbol ts) g.result
call_by_signature m f fs c es ts g means is found =
    let exact : first_exact (typings m es) fs ≡ Some (made ts g) = exact_found fs is ∙ ap (option_map (made ts)) found in
    let t : Term = apply g.symbol ts in
    record {
      inferred = ap (λ (k : Meaning). (word_typing k (typings m es)).infers) means
          ∙ ap (λ (o : Option Inferred). option_or o (option_or (option_and_then (first_candidate (typings m es)) c) (first_fitting (typings m es) fs))) exact;
      checks = ap (λ (k : Meaning). (word_typing k (typings m es)).checks g.result) means
          ∙ ap (λ (o : Option Inferred). option_or (if is_some o then None else option_and_then (λ (k : Scheme). by_result (typings m es) k g.result) c)
          (option_and_then (embedded g.result) (option_or o (option_or (option_and_then (first_candidate (typings m es)) c) (first_fitting (typings m es) fs))))) exact
          ∙ own_sort g.result t;
    }

candidates_are : {m : Name → Meaning} {es : typed.Expressions} {ts : Terms} {ss : List Sort} (ps : List Place) → AllInfer m es ts ss → candidates ps (typings m es) ≡ candidates_of ps ss
candidates_are [] infer_none = refl
candidates_are (p ∷ ps) infer_none = refl
candidates_are [] (infer_more i is) = refl
candidates_are {m = m} (p ∷ ps) (infer_more {es = es} {s = s} i is) =
    ap (λ (o : Option Inferred). option_to_list (option_and_then (λ (i : Inferred). read_off i.sort p) o) ++ candidates ps (typings m es)) i.inferred
    ∙ ap (λ (xs : List Sort). option_to_list (read_off s p) ++ xs) (candidates_are ps is)

by_sort : (tys : List Typing) (c : Scheme) (s : Sort) (t : Term) → applied checked tys (scheme_at c s) ≡ Some (record { term = t; sort = over s c.result }) → IsAt c s → (i : Inferred) → i ≡ record { term = t; sort = over s c.result }
    → option_or (by_result tys c (over s c.result)) (embedded (over s c.result) i) ≡ Some t
by_sort tys c s t here at i is = elim at.by [
  | inl w ↦
      ap (λ (b : Bool). option_or (if b then option_and_then (λ (r : Sort). option_map (λ (j : Inferred). j.term) (applied checked tys (scheme_at c r))) (read_off (over s c.result) c.result) else None) (embedded (over s c.result) i)) w.0
      ∙ ap (λ (o : Option Sort). option_or (option_and_then (λ (r : Sort). option_map (λ (j : Inferred). j.term) (applied checked tys (scheme_at c r))) o) (embedded (over s c.result) i)) w.1
      ∙ ap (λ (o : Option Inferred). option_or (option_map (λ (j : Inferred). j.term) o) (embedded (over s c.result) i)) here
  | inr w ↦
      ap (λ (b : Bool). option_or (if b then option_and_then (λ (r : Sort). option_map (λ (j : Inferred). j.term) (applied checked tys (scheme_at c r))) (read_off (over s c.result) c.result) else None) (embedded (over s c.result) i)) w
      ∙ ap (λ (j : Inferred). embedded (over s c.result) j) is ∙ own_sort (over s c.result) t
]

-- by a signature over any sort
pub call_by_scheme : (m : Name → Meaning) (f : Name) (fs : List Signature) (c : Scheme) (s : Sort) (es : typed.Expressions) (ts : Terms) → m f ≡ functions fs (Some c) → AllInfer m es ts (map (over s) c.arguments)
    → find_exact (map (over s) c.arguments) fs ≡ None → IsAt c s → Infers m (typed.word f es) (apply (c.symbol s) ts) (over s c.result)
call_by_scheme m f fs c s es ts means is none_ at =
    let tys : List Typing = typings m es in
    let exact : first_exact tys fs ≡ None = exact_found fs is ∙ ap (option_map (made ts)) none_ in
    let t : Term = apply (c.symbol s) ts in
    let i : Inferred = record { term = t; sort = over s c.result } in
    let here : applied checked tys (scheme_at c s) ≡ Some i = ap (option_map (λ (us : Terms). made us (scheme_at c s))) (all_checked is) in
    let candidate : first_candidate tys c ≡ Some i = ap (first_of (λ (r : Sort). applied checked tys (scheme_at c r))) (candidates_are c.arguments is ∙ at.first)
    ∙ ap (λ (o : Option Inferred). option_or o (first_of (λ (r : Sort). applied checked tys (scheme_at c r)) at.others)) here in
    record {
      inferred = ap (λ (k : Meaning). (word_typing k tys).infers) means
          ∙ ap (λ (o : Option Inferred). option_or o (option_or (first_candidate tys c) (first_fitting tys fs))) exact
          ∙ ap (λ (o : Option Inferred). option_or o (first_fitting tys fs)) candidate;
      checks = ap (λ (k : Meaning). (word_typing k tys).checks (over s c.result)) means
          ∙ ap (λ (o : Option Inferred). option_or (if is_some o then None else by_result tys c (over s c.result))
          (option_and_then (embedded (over s c.result)) (option_or o (option_or (first_candidate tys c) (first_fitting tys fs))))) exact
          ∙ ap (λ (o : Option Inferred). option_or (by_result tys c (over s c.result)) (option_and_then (embedded (over s c.result)) (option_or o (first_fitting tys fs)))) candidate
          ∙ by_sort tys c s t here at i refl;
    }
