-- What the numbers of a table of places stand for.
use Rattle.std.proofs.Common.{◌≡◌, ◌+◌, ℕ, suc, Bool, true, false, List, [], ◌∷◌, ◌++◌, map, length, refl, ap, ◌∙◌, arith, append_assoc, Option}
use Rattle.std.proofs.lemmas.List.{length-append}
use Rattle.data_theory.specs.declared.ids.ProcId.{ProcId}
use Rattle.data_theory.specs.declared.ids.VarId.{VarId}
use Rattle.data_theory.specs.IdTrees.{Tree}
use Rattle.process_terms.specs.Processes.{Bound, Body, written_delta, written_act, written_choice, written_seq, written_cond, written_sum, written_call, written_merge, written_starting, written_around}
use Rattle.process_terms.specs.Meanings.{Entries, bound_at, term_at, label_of}
use Rattle.greibach.specs.Places.{Path, Place, Factor, factors, Text, body_of_owner, follow}
use Rattle.greibach.specs.ComponentForms.{scope_at, params_of_owner}
use Rattle.greibach.specs.PlacesInCode.{PlainPlace}
use Rattle.greibach.specs.TableReadings.{Reads, ReadsEach, reads_delta, reads_nothing, reads_act, reads_call, reads_seq, reads_cond, reads_sum, reads_choice, reads_last, reads_more}

-- A number is that of all of a body, or of the body at a path of its owner before other factors. These variables are in scope.
pub record View : Type 0 where
  pub all : Bool
  pub owner : ℕ
  pub path : Path
  pub body : Body
  pub others : List Factor
  pub scope : List Bound

abbrev pub place_of : View → Place
place_of v = record { owner = v.owner; path = v.path }

abbrev pub view_at : ℕ → List Bound → Path → Body → List Factor → View
view_at o xs path b rest = record { all = false; owner = o; path = path; body = b; others = rest; scope = xs }

abbrev pub first_factor : View → Factor
first_factor v = record { path = v.path; body = v.body }

-- a composition begins with its first factor
abbrev pub first_view : ℕ → List Bound → Path → Body → List Factor → View
first_view o xs path (written_seq p q) rest = first_view o xs (path ++ false ∷ []) p (factors (path ++ true ∷ []) q ++ rest)
first_view o xs path written_delta rest = view_at o xs path written_delta rest
first_view o xs path (written_act m) rest = view_at o xs path (written_act m) rest
first_view o xs path (written_choice p q) rest = view_at o xs path (written_choice p q) rest
first_view o xs path (written_cond c p q) rest = view_at o xs path (written_cond c p q) rest
first_view o xs path (written_sum x p) rest = view_at o xs path (written_sum x p) rest
first_view o xs path (written_call x ts) rest = view_at o xs path (written_call x ts) rest
first_view o xs path (written_merge p q) rest = view_at o xs path (written_merge p q) rest
first_view o xs path (written_starting start p q) rest = view_at o xs path (written_starting start p q) rest
first_view o xs path (written_around a p) rest = view_at o xs path (written_around a p) rest

pub begins_with_first : (o : ℕ) (xs : List Bound) (path : Path) (b : Body) (rest : List Factor) → factors path b ++ rest ≡ first_factor (first_view o xs path b rest) ∷ (first_view o xs path b rest).others
begins_with_first o xs path (written_seq p q) rest = append_assoc (factors (path ++ false ∷ []) p) (factors (path ++ true ∷ []) q) rest ∙ begins_with_first o xs (path ++ false ∷ []) p (factors (path ++ true ∷ []) q ++ rest)
begins_with_first o xs path written_delta rest = refl
begins_with_first o xs path (written_act m) rest = refl
begins_with_first o xs path (written_choice p q) rest = refl
begins_with_first o xs path (written_cond c p q) rest = refl
begins_with_first o xs path (written_sum x p) rest = refl
begins_with_first o xs path (written_call x ts) rest = refl
begins_with_first o xs path (written_merge p q) rest = refl
begins_with_first o xs path (written_starting start p q) rest = refl
begins_with_first o xs path (written_around a p) rest = refl

-- ---- what stands around
pub first_owner : (o : ℕ) (xs : List Bound) (path : Path) (b : Body) (rest : List Factor) → ((first_view o xs path b rest).owner ≡ o) × ((first_view o xs path b rest).all ≡ false) × ((first_view o xs path b rest).scope ≡ xs)
first_owner o xs path (written_seq p q) rest = first_owner o xs (path ++ false ∷ []) p (factors (path ++ true ∷ []) q ++ rest)
first_owner o xs path written_delta rest = (refl, refl, refl)
first_owner o xs path (written_act m) rest = (refl, refl, refl)
first_owner o xs path (written_choice p q) rest = (refl, refl, refl)
first_owner o xs path (written_cond c p q) rest = (refl, refl, refl)
first_owner o xs path (written_sum x p) rest = (refl, refl, refl)
first_owner o xs path (written_call x ts) rest = (refl, refl, refl)
first_owner o xs path (written_merge p q) rest = (refl, refl, refl)
first_owner o xs path (written_starting start p q) rest = (refl, refl, refl)
first_owner o xs path (written_around a p) rest = (refl, refl, refl)

-- what follows in the body of the owner, from this path on
pub record IsAt (t : Text) (v : View) : Type 0 where
  pub follows : (down : Path) → follow [] (body_of_owner t v.owner) [] (v.path ++ down) ≡ follow v.path v.body v.others down
  pub scopes : (down : Path) → scope_at (params_of_owner t v.owner) (body_of_owner t v.owner) (v.path ++ down) ≡ scope_at v.scope v.body down

module _ (t : Text) (o : ℕ) where
  -- one step down
  step_at : (xs ys : List Bound) (path : Path) (b p : Body) (rest others : List Factor) (s : Bool) → ((down : Path) → follow path b rest (s ∷ down) ≡ follow (path ++ s ∷ []) p others down) → ((down : Path) → scope_at xs b (s ∷ down) ≡ scope_at ys p down)
      → IsAt t (view_at o xs path b rest) → IsAt t (view_at o ys (path ++ s ∷ []) p others)
  step_at xs ys path b p rest others s f g h = record {
    follows = λ down. ap (follow [] (body_of_owner t o) []) (append_assoc path (s ∷ []) down) ∙ h.follows (s ∷ down) ∙ f down;
    scopes = λ down. ap (scope_at (params_of_owner t o) (body_of_owner t o)) (append_assoc path (s ∷ []) down) ∙ h.scopes (s ∷ down) ∙ g down;
  }

  pub seq_first : (xs : List Bound) (path : Path) (p q : Body) (rest : List Factor) → IsAt t (view_at o xs path (written_seq p q) rest) → IsAt t (view_at o xs (path ++ false ∷ []) p (factors (path ++ true ∷ []) q ++ rest))
  seq_first xs path p q rest h = step_at xs xs path (written_seq p q) p rest (factors (path ++ true ∷ []) q ++ rest) false (λ down. refl) (λ down. refl) h

  pub seq_second : (xs : List Bound) (path : Path) (p q : Body) (rest : List Factor) → IsAt t (view_at o xs path (written_seq p q) rest) → IsAt t (view_at o xs (path ++ true ∷ []) q rest)
  seq_second xs path p q rest h = step_at xs xs path (written_seq p q) q rest rest true (λ down. refl) (λ down. refl) h

  pub choice_first : (xs : List Bound) (path : Path) (p q : Body) (rest : List Factor) → IsAt t (view_at o xs path (written_choice p q) rest) → IsAt t (view_at o xs (path ++ false ∷ []) p rest)
  choice_first xs path p q rest h = step_at xs xs path (written_choice p q) p rest rest false (λ down. refl) (λ down. refl) h

  pub choice_second : (xs : List Bound) (path : Path) (p q : Body) (rest : List Factor) → IsAt t (view_at o xs path (written_choice p q) rest) → IsAt t (view_at o xs (path ++ true ∷ []) q rest)
  choice_second xs path p q rest h = step_at xs xs path (written_choice p q) q rest rest true (λ down. refl) (λ down. refl) h

  pub cond_first : (xs : List Bound) (path : Path) (c : _) (p q : Body) (rest : List Factor) → IsAt t (view_at o xs path (written_cond c p q) rest) → IsAt t (view_at o xs (path ++ false ∷ []) p rest)
  cond_first xs path c p q rest h = step_at xs xs path (written_cond c p q) p rest rest false (λ down. refl) (λ down. refl) h

  pub cond_second : (xs : List Bound) (path : Path) (c : _) (p q : Body) (rest : List Factor) → IsAt t (view_at o xs path (written_cond c p q) rest) → IsAt t (view_at o xs (path ++ true ∷ []) q rest)
  cond_second xs path c p q rest h = step_at xs xs path (written_cond c p q) q rest rest true (λ down. refl) (λ down. refl) h

  pub sum_inside : (xs : List Bound) (path : Path) (x : Bound) (p : Body) (rest : List Factor) → IsAt t (view_at o xs path (written_sum x p) rest) → IsAt t (view_at o (xs ++ x ∷ []) (path ++ false ∷ []) p rest)
  sum_inside xs path x p rest h = step_at xs (xs ++ x ∷ []) path (written_sum x p) p rest rest false (λ down. refl) (λ down. refl) h

-- ---- how many there are
two_long : {A : Type 0} (xs ys : List A) (a b c : ℕ) → a + length xs ≡ b → b + length ys ≡ c → a + length (xs ++ ys) ≡ c
two_long xs ys a b c e f = let l = length-append xs ys in omega (arith, l, e, f)

last_long : {A : Type 0} (y : A) (b : ℕ) → b + length (y ∷ []) ≡ suc b
last_long y b = omega arith

-- ---- the views of a body, in the order of the numbers
module _ {e : Entries} {ts : List Tree} {reached : List ProcId} {table : List PlainPlace} where
  abbrev mutual
    pub views_of : {scope : List VarId} {b : Body} {rest : Option ℕ} {a c : ℕ} {rs ss : List ProcId} {n : ℕ} → Reads e ts reached table scope b rest a c rs ss n → ℕ → List Bound → Path → List Factor → List View
    views_of (reads_delta h) o xs path fs = view_at o xs path written_delta fs ∷ []
    views_of (reads_nothing h) o xs path fs = view_at o xs path written_delta fs ∷ []
    views_of (reads_act m h) o xs path fs = view_at o xs path (written_act (label_of e m)) fs ∷ []
    views_of (reads_call k x ids s f h) o xs path fs = view_at o xs path (written_call x.0 (map (term_at e) ids)) fs ∷ []
    views_of (reads_seq {q = q} r s) o xs path fs = views_of r o xs (path ++ true ∷ []) fs ++ views_of s o xs (path ++ false ∷ []) (factors (path ++ true ∷ []) q ++ fs)
    views_of (reads_cond {p = p} {q = q} id r s h) o xs path fs = views_of r o xs (path ++ false ∷ []) fs ++ (views_of s o xs (path ++ true ∷ []) fs ++ view_at o xs path (written_cond (term_at e id) p q) fs ∷ [])
    views_of (reads_sum {p = p} x r h) o xs path fs = views_of r o (xs ++ bound_at e x ∷ []) (path ++ false ∷ []) fs ++ view_at o xs path (written_sum (bound_at e x) p) fs ∷ []
    views_of (reads_choice {p = p} {q = q} r s h) o xs path fs = views_of r o xs (path ++ false ∷ []) fs ++ (views_of_each s o xs (path ++ true ∷ []) fs ++ view_at o xs path (written_choice p q) fs ∷ [])

    pub views_of_each : {scope : List VarId} {b : Body} {rest : Option ℕ} {a c : ℕ} {rs ss : List ProcId} {ns : List ℕ} → ReadsEach e ts reached table scope b rest a c rs ss ns → ℕ → List Bound → Path → List Factor → List View
    views_of_each (reads_last r) o xs path fs = views_of r o xs path fs
    views_of_each (reads_more r s) o xs path fs = views_of r o xs (path ++ false ∷ []) fs ++ views_of_each s o xs (path ++ true ∷ []) fs

  mutual
    pub views_long : {scope : List VarId} {b : Body} {rest : Option ℕ} {a c : ℕ} {rs ss : List ProcId} {n : ℕ} (r : Reads e ts reached table scope b rest a c rs ss n) (o : ℕ) (xs : List Bound) (path : Path) (fs : List Factor) → a + length (views_of r o xs path fs) ≡ c
    views_long (reads_delta {n = n} h) o xs path fs = last_long (view_at o xs path written_delta fs) n
    views_long (reads_nothing {n = n} h) o xs path fs = last_long (view_at o xs path written_delta fs) n
    views_long (reads_act {n = n} m h) o xs path fs = last_long (view_at o xs path written_delta fs) n
    views_long (reads_call {n = n} k x ids s f h) o xs path fs = last_long (view_at o xs path written_delta fs) n
    views_long (reads_seq {q = q} {a = a} {b = b} {c = c} r s) o xs path fs = two_long (views_of r o xs (path ++ true ∷ []) fs) (views_of s o xs (path ++ false ∷ []) (factors (path ++ true ∷ []) q ++ fs)) a b c (views_long r o xs (path ++ true ∷ []) fs) (views_long s o xs (path ++ false ∷ []) (factors (path ++ true ∷ []) q ++ fs))
    views_long (reads_cond {p = p} {q = q} {a = a} {b = b} {c = c} id r s h) o xs path fs =
        let v = view_at o xs path (written_cond (term_at e id) p q) fs in
        two_long (views_of r o xs (path ++ false ∷ []) fs) (views_of s o xs (path ++ true ∷ []) fs ++ v ∷ []) a b (suc c) (views_long r o xs (path ++ false ∷ []) fs)
        (two_long (views_of s o xs (path ++ true ∷ []) fs) (v ∷ []) b c (suc c) (views_long s o xs (path ++ true ∷ []) fs) (last_long v c))
    views_long (reads_sum {p = p} {a = a} {b = b} x r h) o xs path fs =
        let v = view_at o xs path (written_sum (bound_at e x) p) fs in
        two_long (views_of r o (xs ++ bound_at e x ∷ []) (path ++ false ∷ []) fs) (v ∷ []) a b (suc b) (views_long r o (xs ++ bound_at e x ∷ []) (path ++ false ∷ []) fs) (last_long v b)
    views_long (reads_choice {p = p} {q = q} {a = a} {b = b} {c = c} r s h) o xs path fs =
        let v = view_at o xs path (written_choice p q) fs in
        two_long (views_of r o xs (path ++ false ∷ []) fs) (views_of_each s o xs (path ++ true ∷ []) fs ++ v ∷ []) a b (suc c) (views_long r o xs (path ++ false ∷ []) fs)
        (two_long (views_of_each s o xs (path ++ true ∷ []) fs) (v ∷ []) b c (suc c) (each_long s o xs (path ++ true ∷ []) fs) (last_long v c))

    pub each_long : {scope : List VarId} {b : Body} {rest : Option ℕ} {a c : ℕ} {rs ss : List ProcId} {ns : List ℕ} (r : ReadsEach e ts reached table scope b rest a c rs ss ns) (o : ℕ) (xs : List Bound) (path : Path) (fs : List Factor) → a + length (views_of_each r o xs path fs) ≡ c
    each_long (reads_last r) o xs path fs = views_long r o xs path fs
    each_long (reads_more {a = a} {b = b} {c = c} r s) o xs path fs = two_long (views_of r o xs (path ++ false ∷ []) fs) (views_of_each s o xs (path ++ true ∷ []) fs) a b c (views_long r o xs (path ++ false ∷ []) fs) (each_long s o xs (path ++ true ∷ []) fs)
