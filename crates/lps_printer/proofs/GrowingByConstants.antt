-- Growing by constants, step by step.
use Rattle.std.proofs.Common.{◌≡◌, ◌≢◌, ◌+◌, ◌<◌, ⊎_elim, ℕ, zero, suc, List, [], ◌∷◌, ◌++◌, map, length, codes, Some, refl, sym, ap, ◌∙◌, subst, arith, append-nil, append_assoc, length-append}
use Rattle.std.specs.Prelude.{slice_get, Contains}
use Rattle.std.specs.List.{AllByRecursion}
use Rattle.std.proofs.lemmas.List.{map-append, length-map}
use Rattle.std.proofs.lemmas.List.Elements.{All-nil, All-cons, All-contains, Contains-append_left, Contains-append_right, Contains-append_cases}
use Rattle.std.proofs.lemmas.Option.{slice_get_within, slice_get-get_or, get_or_from_slice_get}
use Rattle.data_theory.specs.declared.ids.NameId.{NameId}
use Rattle.data_theory.specs.declared.ids.SortId.{SortId}
use Rattle.data_theory.specs.declared.ids.FunId.{FunId}
use Rattle.data_theory.specs.declared.signature.Variable.{Variable}
use Rattle.data_theory.specs.Functions.{Function, declared_function}
use Rattle.data_theory.specs.Complete.{IsFunctionWithin}
use Rattle.data_theory.specs.Structs.{numbers_from}
use Rattle.data_theory.specs.Signature.{Sig, IsTaken, with_taken, with_variable, with_function}
use Rattle.data_theory.specs.Fresh.{IsFreshIn}
use Rattle.data_theory.specs.IdSymbols.{declared_from}
use Rattle.data_theory.specs.IdTerms.{IsGrown}
use Rattle.data_theory.specs.WholeSignatures.{IsSignature}
use Rattle.data_theory.proofs.PlaceLemmas.{read_front}
use Rattle.data_theory.proofs.IdGrowthLemmas.{with_a_text_it_is_grown, with_a_variable_it_is_grown, with_a_function_it_is_grown, growth_after_growth_is_growth}
use Rattle.term_pool.specs.Constants.{IsFirstName, DeclaresConstants, none_left, declares}
use Rattle.term_pool.proofs.DeclaredConstants.{grown_itself, fresh_grows}
use Rattle.process_terms.proofs.MeaningLemmas.{entry_stays}
use Rattle.bisim_laws.proofs.Firing.{contains_first, contains_later, contains_none, contains_cases}
use Rattle.lps_core.specs.Naming.{GrowsByNames}
use Rattle.lps_core.proofs.Members.{all_from, map_contains}
use Rattle.lps_core.proofs.NamedSums.{with_name_has}
use Rattle.sort_table.specs.SignatureVocabularies.{text_under}
use Rattle.lps_printer.specs.AddedConstants.{AddsEach, none_left as no_constant_left, adds, AddsConstants}
use Rattle.lps_printer.specs.LinearBack.{EachTwo}
use Rattle.lps_printer.specs.DataLayout.{IsIdentifier}
use Rattle.lps_printer.specs.GrowingByConstants.{SortsAreNamed, GrowsByConstants}
use Rattle.lps_printer.proofs.FreshIdentifiers.{fresh_names_are_identifiers, prefixed}

-- ---- lists
-- where R of two elements gives S of them
abbrev pub BothIn : {A : Type 0} → (A → A → Type 0) → (A → A → Type 0) → List A → Type 0
BothIn {A} R S xs = (x y : A) → Contains xs x → Contains xs y → R x y → S x y

all_by : {A : Type 0} (P Q : A → Type 0) (xs : List A) → ((x : A) → Contains xs x → P x → Q x) → AllByRecursion P xs → AllByRecursion Q xs
all_by P Q [] w h = tt
all_by P Q (x ∷ xs) w h = (w x (contains_first x xs) h.0, all_by P Q xs (λ y i. w y (contains_later x y xs i)) h.1)

all_both : {A : Type 0} (P : A → Type 0) (xs ys : List A) → AllByRecursion P xs → AllByRecursion P ys → AllByRecursion P (xs ++ ys)
all_both P [] ys h k = k
all_both P (x ∷ xs) ys h k = (h.0, all_both P xs ys h.1 k)

each_of : {A : Type 0} (P : A → Type 0) (xs : List A) → ((x : A) → Contains xs x → P x) → AllByRecursion P xs
each_of P [] w = tt
each_of P (x ∷ xs) w = (w x (contains_first x xs), each_of P xs (λ y i. w y (contains_later x y xs i)))

pub two_by : {A : Type 0} (R S : A → A → Type 0) (xs : List A) → BothIn R S xs → EachTwo R xs → EachTwo S xs
two_by R S [] w h = tt
two_by R S (x ∷ xs) w h = (
  all_by (R x) (S x) xs (λ y i. w x y (contains_first x xs) (contains_later x y xs i)) h.0,
  two_by R S xs (λ y z i j. w y z (contains_later x y xs i) (contains_later x z xs j)) h.1,
)

pub two_both : {A : Type 0} (R : A → A → Type 0) (xs ys : List A) → EachTwo R xs → EachTwo R ys → ((x y : A) → Contains xs x → Contains ys y → R x y) → EachTwo R (xs ++ ys)
two_both R [] ys h k w = k
two_both R (x ∷ xs) ys h k w = (
  all_both (R x) xs ys h.0 (each_of (R x) ys (λ y j. w x y (contains_first x xs) j)),
  two_both R xs ys h.1 k (λ z y i j. w z y (contains_later x z xs i) j),
)

pub numbers_both : (n k m : ℕ) → numbers_from n (k + m) ≡ numbers_from n k ++ numbers_from (n + k) m
numbers_both n zero m =
    let y : 0 + m ≡ m = omega arith in
    let z : n ≡ n + 0 = omega arith in
    ap (numbers_from n) y ∙ ap (λ i. numbers_from i m) z
numbers_both n (suc k) m =
    let y : suc k + m ≡ suc (k + m) = omega arith in
    let z : n + 1 + k ≡ n + suc k = omega arith in
    ap (numbers_from n) y ∙ ap (λ l. record { 0 = n } ∷ l) (numbers_both (n + 1) k m ∙ ap (λ i. numbers_from (n + 1) k ++ numbers_from i m) z)

-- ---- texts that stay
text_stays : (g h : Sig) → IsGrown g h → (n : NameId) → n.0 < length g.texts → text_under h n ≡ text_under g n
text_stays g h w n l = (entry_stays g.texts h.texts [] n.0 (w.new_texts, w.texts) l).0

pub still_taken : (g h : Sig) (t : List ℕ) → IsGrown g h → IsTaken g t → IsTaken h t
still_taken g h t w k = (
  k.0,
  subst (λ z. slice_get z k.0.0 ≡ Some t) (sym w.texts) (read_front g.texts w.new_texts k.0.0 t k.1),
  subst (λ z. Contains z k.0) (sym w.taken) (Contains-append_left g.taken w.new_taken k.0 k.2),
)

-- ---- with names that are there
-- the name has a text, and is taken
abbrev IsThere : Sig → NameId × SortId → Type 0
IsThere h c = (c.0.0 < length h.texts) × Contains h.taken c.0

there_taken : (h : Sig) (c : NameId × SortId) → IsThere h c → IsTaken h (text_under h c.0)
there_taken h c t = (c.0, slice_get-get_or h.texts c.0.0 [] t.0, t.1)

still_there : (g h : Sig) (c : NameId × SortId) → IsGrown g h → IsThere g c → IsThere h c
still_there g h c w t = (
  let long = ap length w.texts ∙ length-append g.texts w.new_texts in let l = t.0 in omega (arith, long, l),
  subst (λ z. Contains z c.0) (sym w.taken) (Contains-append_left g.taken w.new_taken c.0 t.1),
)

-- growth by constants whose names are there
pub record GrowsOn (g h : Sig) : Type 0 where
  pub grows : GrowsByConstants g h
  pub there : (c : NameId × SortId) → Contains grows.constants c → IsThere h c

abbrev constant_of : NameId × SortId → Function
constant_of c = declared_function c.0 [] c.1

abbrev IsNew : Sig → Sig → NameId × SortId → Type 0
IsNew g h c = ¬ (IsTaken g (text_under h c.0))

abbrev Differ : Sig → NameId × SortId → NameId × SortId → Type 0
Differ h c d = text_under h c.0 ≢ text_under h d.0

abbrev HasName : Sig → NameId × SortId → Type 0
HasName h c = IsIdentifier (text_under h c.0)

-- the names of sorts stay
still_named : (g h : Sig) → IsGrown g h → h.sorts ≡ g.sorts → SortsAreNamed g → SortsAreNamed h
still_named g h w e m d s n at is =
    let p = m d s n (subst (λ ss. slice_get ss d.0 ≡ Some s) e at) is in
    let long = ap length w.texts ∙ length-append g.texts w.new_texts in
    let l = p.0 in
    (omega (arith, long, l), subst IsIdentifier (sym (text_stays g h w n p.0)) p.1)

first_named : (g : Sig) (d : SortId) (text : List ℕ) → IsFirstName g d text → SortsAreNamed g → IsIdentifier text
first_named g d text f m = subst IsIdentifier (get_or_from_slice_get g.texts f.1.0 text [] f.4) (m d f.0 f.1 f.2 f.3).1

-- nothing but texts, names that are taken and variables
on_same : (g h : Sig) → IsGrown g h → h.functions ≡ g.functions → h.declared ≡ g.declared → h.sorts ≡ g.sorts → h.sort_names ≡ g.sort_names → h.actions ≡ g.actions → GrowsOn g h
on_same g h w functions declared sorts sort_names actions = record {
  grows = record {
    grown = w;
    constants = [];
    functions = functions ∙ sym (append-nil g.functions);
    declared = declared ∙ sym (append-nil g.declared);
    sorts = sorts;
    sort_names = sort_names;
    actions = actions;
    taken = All-nil (IsNew g h);
    differ = tt;
    named = λ m. All-nil (HasName h);
  };
  there = λ c i. absurd (contains_none c i);
}

pub on_itself : (g : Sig) → GrowsOn g g
on_itself g = on_same g g (grown_itself g) refl refl refl refl refl

pub on_names : (g h : Sig) → IsSignature g → GrowsByNames g h → GrowsOn g h
on_names g h s w = on_same g h w.grown w.functions (w.stands.table.listed ∙ ap (declared_from 0) w.functions ∙ sym s.table.listed) w.sorts w.sort_names w.actions

pub on_text : (g : Sig) (t : List ℕ) → GrowsOn g (with_taken g t)
on_text g t = on_same g (with_taken g t) (with_a_text_it_is_grown g t) refl refl refl refl refl

pub on_fresh : (g h : Sig) (base : List ℕ) (n : NameId) → IsFreshIn g base n h → GrowsOn g h
on_fresh g h base n f = subst (GrowsOn g) (sym f.taken) (on_text g f.text)

pub on_variable : (g : Sig) (x : Variable) → GrowsOn g (with_variable g x)
on_variable g x = on_same g (with_variable g x) (with_a_variable_it_is_grown g x) refl refl refl refl refl

-- one constant under a name that is fresh to an identifier
pub on_constant : (g between : Sig) (base : List ℕ) (n : NameId) (s : SortId) → IsFreshIn g base n between → (SortsAreNamed g → IsIdentifier base) → GrowsOn g (with_function between (declared_function n [] s))
on_constant g between base n s f its_base =
    let k = with_function between (declared_function n [] s) in
    let w : IsGrown g k = growth_after_growth_is_growth g between k (fresh_grows g base n between f) (with_a_function_it_is_grown between (declared_function n [] s)) in
    let text : text_under k n ≡ f.text = get_or_from_slice_get between.texts n.0 f.text [] f.named in
    record {
      grows = record {
        grown = w;
        constants = (n, s) ∷ [];
        functions = ap (λ (z : Sig). z.functions ++ declared_function n [] s ∷ []) f.taken;
        declared = ap (λ (z : Sig). z.declared ++ record { 0 = length z.functions } ∷ []) f.taken;
        sorts = ap (λ (z : Sig). z.sorts) f.taken;
        sort_names = ap (λ (z : Sig). z.sort_names) f.taken;
        actions = ap (λ (z : Sig). z.actions) f.taken;
        taken = All-cons (IsNew g k) (n, s) [] (λ t. f.fresh.free (subst (IsTaken g) text t)) (All-nil (IsNew g k));
        differ = (tt, tt);
        named = λ m. All-cons (HasName k) (n, s) [] (subst IsIdentifier (sym (text ∙ f.fresh.named)) (fresh_names_are_identifiers base (its_base m) f.fresh.number)) (All-nil (HasName k));
      };
      there = λ c i. ⊎_elim (λ q. subst (IsThere k) q (slice_get_within between.texts n.0 f.text f.named, with_name_has between.taken n)) (λ j. absurd (contains_none c j)) (contains_cases (n, s) c [] i);
    }

-- one behind the other
pub grows_behind : (g h k : Sig) → GrowsOn g h → GrowsByConstants h k → GrowsByConstants g k
grows_behind g h k a b =
    let cs = a.grows.constants in
    let ds = b.constants in
    let kept : (c : NameId × SortId) → Contains cs c → text_under k c.0 ≡ text_under h c.0 = λ c i. text_stays h k b.grown c.0 (a.there c i).0 in
    let was : (c : NameId × SortId) → Contains cs c → IsTaken h (text_under k c.0) = λ c i. subst (IsTaken h) (sym (kept c i)) (there_taken h c (a.there c i)) in
    let long : length h.functions ≡ length g.functions + length cs = ap length a.grows.functions ∙ length-append g.functions (map constant_of cs) ∙ ap (λ n. length g.functions + n) (length-map cs constant_of) in
    record {
      grown = growth_after_growth_is_growth g h k a.grows.grown b.grown;
      constants = cs ++ ds;
      functions = b.functions ∙ ap (λ fs. fs ++ map constant_of ds) a.grows.functions ∙ append_assoc g.functions (map constant_of cs) (map constant_of ds) ∙ ap (λ fs. g.functions ++ fs) (sym (map-append constant_of cs ds));
      declared =
          b.declared ∙ ap (λ is. is ++ numbers_from (length h.functions) (length ds)) a.grows.declared ∙ append_assoc g.declared (numbers_from (length g.functions) (length cs)) (numbers_from (length h.functions) (length ds))
          ∙ ap (λ n. g.declared ++ (numbers_from (length g.functions) (length cs) ++ numbers_from n (length ds))) long ∙ ap (λ is. g.declared ++ is) (sym (numbers_both (length g.functions) (length cs) (length ds)))
          ∙ ap (λ n. g.declared ++ numbers_from (length g.functions) n) (sym (length-append cs ds));
      sorts = b.sorts ∙ a.grows.sorts;
      sort_names = b.sort_names ∙ a.grows.sort_names;
      actions = b.actions ∙ a.grows.actions;
      taken = all_from (IsNew g k) (cs ++ ds) (λ c i. ⊎_elim
          (λ j t. All-contains (IsNew g h) cs c a.grows.taken j (subst (IsTaken g) (kept c j) t))
          (λ j t. All-contains (IsNew h k) ds c b.taken j (still_taken g h (text_under k c.0) a.grows.grown t))
          (Contains-append_cases cs ds c i));
      differ = two_both (Differ k) cs ds
          (two_by (Differ h) (Differ k) cs (λ c d i j n q. n (sym (kept c i) ∙ q ∙ kept d j)) a.grows.differ)
          b.differ
          (λ c d i j q. All-contains (IsNew h k) ds d b.taken j (subst (IsTaken h) q (was c i)));
      named = λ m. all_from (HasName k) (cs ++ ds) (λ c i. ⊎_elim
          (λ j. subst IsIdentifier (sym (kept c j)) (All-contains (HasName h) cs c (a.grows.named m) j))
          (λ j. All-contains (HasName k) ds c (b.named (still_named g h a.grows.grown a.grows.sorts m)) j)
          (Contains-append_cases cs ds c i));
    }

pub on_then : (g h k : Sig) → GrowsOn g h → GrowsOn h k → GrowsOn g k
unfolding grows_behind
on_then g h k a b = record {
  grows = grows_behind g h k a b.grows;
  there = λ c i. ⊎_elim (λ j. still_there h k c b.grows.grown (a.there c j)) (λ j. b.there c j) (Contains-append_cases a.grows.constants b.grows.constants c i);
}

-- ---- the constants of closed terms, and those for empty lists
pub on_declared : {sorts : List SortId} {g h : Sig} {cs ds : List (SortId × FunId)} → DeclaresConstants sorts g cs h ds → GrowsOn g h
on_declared {g = g} none_left = on_itself g
on_declared {h = k} (declares {d = d} {g = g} {h = h} one rest) =
    on_then g h k (subst (GrowsOn g) (sym one.declared) (on_constant g one.between (codes "dc_" ++ one.text) one.name d one.fresh (λ m. prefixed one.text (first_named g d one.text one.sort_named m)))) (on_declared rest)

on_each : (g h : Sig) (ss : List SortId) → AddsEach g ss h → GrowsOn g h
on_each g h [] no_constant_left = on_itself g
on_each g k (s ∷ ss) (adds {h = h} one rest) = on_then g h k (subst (GrowsOn g) (sym one.declared) (on_constant g one.between (codes "nil") one.name s one.fresh (λ m. (refl, refl)))) (on_each h k ss rest)

pub on_added : (g h : Sig) (ss : List SortId) → AddsConstants g ss h → GrowsOn g h
on_added g h [] e = subst (GrowsOn g) (sym e) (on_itself g)
on_added g h (s ∷ ss) run = on_then g (with_taken g (codes "nil")) h (on_text g (codes "nil")) (on_each (with_taken g (codes "nil")) h (s ∷ ss) run)

-- ---- growth one behind the other, where the signature between stands
pub grows_on : (g h : Sig) → IsSignature h → GrowsByConstants g h → GrowsOn g h
grows_on g h s w = record {
  grows = w;
  there = λ c i.
      let f = constant_of c in
      let among : Contains h.functions f = subst (λ fs. Contains fs f) (sym w.functions) (constant_behind g.functions w.constants c i) in (
        (All-contains (IsFunctionWithin (length h.texts) (length h.sorts) (length h.functions)) h.functions f s.complete.within.functions_within among).named,
        All-contains (λ (e : Function). Contains h.taken e.name) h.functions f s.functions_taken among,
      );
}
  where
    constant_behind : (fs : List Function) (cs : List (NameId × SortId)) (c : NameId × SortId) → Contains cs c → Contains (fs ++ map constant_of cs) (constant_of c)
    constant_behind fs cs c i = Contains-append_right fs (map constant_of cs) (constant_of c) (map_contains constant_of cs c i)

pub grows_then : (g h k : Sig) → IsSignature h → GrowsByConstants g h → GrowsByConstants h k → GrowsByConstants g k
grows_then g h k s a b = grows_behind g h k (grows_on g h s a) b

-- the names of constants are taken
pub constants_are_taken : (g h : Sig) → IsSignature h → (w : GrowsByConstants g h) (c : NameId × SortId) → Contains w.constants c → IsTaken h (text_under h c.0)
unfolding grows_on
constants_are_taken g h s w c i = there_taken h c ((grows_on g h s w).there c i)
