-- The shapes of sorts, made one after the other.
use Rattle.std.proofs.Common.{◌≡◌, ◌⊎◌, ⊎_elim, inl, inr, ◌<◌, ◌+◌, ◌++◌, ℕ, zero, suc, List, [], ◌∷◌, map, length, Option, Some, None, refl, sym, ap, ◌∙◌, subst, arith}
use Rattle.std.specs.Prelude.{slice_get, IfSome}
use Rattle.std.specs.List.{Contains}
use Rattle.std.specs.Global.{Vec}
use Rattle.std.proofs.lemmas.List.{append_assoc, append-nil, map-append}
use Rattle.std.proofs.lemmas.List.Elements.{Contains-append_left, Contains-append_cases, Contains-push, Contains-push_cases}
use Rattle.data_theory.specs.declared.ids.SortId.{SortId}
use Rattle.data_theory.specs.declared.ids.FunId.{FunId}
use Rattle.data_theory.specs.Functions.{Function, arguments_of}
use Rattle.data_theory.specs.Signature.{Sig}
use Rattle.term_pool.proofs.Lists.{contains_none, contains_cons, contained_from_map}
use Rattle.term_pool.specs.FirstTerms.{function_arguments}
use Rattle.value_enum.specs.declared.shapes.Constructor.{Constructor}
use Rattle.value_enum.specs.Shapes.{list_at, functions_of, AreConstructors, IsArgumentIn, AreClosed, StandsAt, AreEnded, AddsShape}
use Rattle.value_enum.proofs.RowLemmas.{entry_at}
use Rattle.value_enum.proofs.RowReads.{list_before, list_last}
use Rattle.value_enum.proofs.WeighingValues.{arguments_told}
use Rattle.value_enum.proofs.PlaceLemmas.{stands_on}

abbrev pub Front : {A : Type 0} → List A → List A → Type 0
Front {A} old new = (more : List A) × (new ≡ old ++ more)

front_itself : {A : Type 0} (xs : List A) → Front xs xs
front_itself xs = ([], sym (append-nil xs))

front_on : {A : Type 0} (old mid new : List A) → Front old mid → Front mid new → Front old new
front_on old mid new p q = (p.0 ++ q.0, q.1 ∙ (ap (λ l. l ++ q.0) p.1 ∙ append_assoc old p.0 q.0))

-- where an end stands last, something stands behind each sort
ended_by_end : (xs : List (Option SortId)) (p : ℕ) (a : SortId) → slice_get (xs ++ None ∷ []) p ≡ Some (Some a) → p + 1 < length (xs ++ None ∷ [])
ended_by_end [] zero a e = cc
ended_by_end [] (suc p) a e = cc
ended_by_end (x ∷ []) zero a e = omega arith
ended_by_end (x ∷ y ∷ xs) zero a e = omega arith
ended_by_end (x ∷ xs) (suc p) a e = let l = ended_by_end xs p a e in omega (arith, l)

pub record IsShaping (g : Sig) (fs : List FunId) (old now : List (Option SortId)) (cs : List Constructor) : Type 0 where
  pub kept : Front old now
  pub functions : functions_of cs ≡ fs
  pub places : (c : Constructor) → Contains cs c → StandsAt g now c
  pub arguments : (a : SortId) → Contains now (Some a) → Contains old (Some a) ⊎ IsArgumentIn g fs a
  pub ended : AreEnded old → AreEnded now

pub shaping_none : (g : Sig) (old : List (Option SortId)) (cs : List Constructor) → cs ≡ [] → IsShaping g [] old old cs
shaping_none g old cs e = subst (IsShaping g [] old old) (sym e) record { kept = front_itself old; functions = refl; places = λ c has. absurd (contains_none c has); arguments = λ a has. inl has; ended = λ h. h }

pub shaping_more : (g : Sig) (fs : List FunId) (f : FunId) (args : List SortId) (old mid new : List (Option SortId)) (cs more : List Constructor) (c : Constructor) → IfSome (slice_get g.functions f.0) (λ e. arguments_of e ≡ args) → f.0 < length g.functions
    → new ≡ mid ++ (map Some args ++ None ∷ []) → c.fun ≡ f → c.first ≡ length mid → more ≡ cs ++ c ∷ [] → IsShaping g fs old mid cs → IsShaping g (fs ++ f ∷ []) old new more
shaping_more g fs f args old mid new cs more c told l is fun first pushed p = record {
  kept = front_on old mid new p.kept (map Some args ++ None ∷ [], is);
  functions = ap functions_of pushed ∙ (map-append (λ (d : Constructor). d.fun) cs (c ∷ []) ∙ (ap (λ hs. hs ++ c.fun ∷ []) p.functions ∙ ap (λ h. fs ++ h ∷ []) fun));
  places = λ d has. ⊎_elim (λ o. subst (λ os. StandsAt g os d) (sym is) (stands_on g mid (map Some args ++ None ∷ []) d (p.places d o))) (λ e. subst (StandsAt g new) e mine) (Contains-push_cases cs c d (subst (λ ds. Contains ds d) pushed has));
  arguments = λ a has. ⊎_elim
      (λ o. ⊎_elim inl (λ i. inr (i.0, i.1, Contains-append_left fs (f ∷ []) i.0 i.2, i.3, i.4)) (p.arguments a o))
      (λ n. inr (f, entry.0, Contains-push fs f, entry.1, subst (λ ss. Contains ss a) (sym same) (among a n)))
      (Contains-append_cases mid (map Some args ++ None ∷ []) (Some a) (subst (λ os. Contains os (Some a)) is has));
  ended = λ h q a at. (
      let all : new ≡ (mid ++ map Some args) ++ None ∷ [] = is ∙ sym (append_assoc mid (map Some args) (None ∷ [])) in
      subst (λ os. q + 1 < length os) (sym all) (ended_by_end (mid ++ map Some args) q a (subst (λ os. slice_get os q ≡ Some (Some a)) all at))
      );
}
  where
    entry : (e : Function) × (slice_get g.functions f.0 ≡ Some e)
    entry = entry_at g.functions f.0 l

    same : arguments_of entry.0 ≡ args
    same = subst (λ (o : Option Function). IfSome o (λ e. arguments_of e ≡ args)) entry.1 told

    listed : function_arguments g.functions c.fun ≡ args
    listed = ap (function_arguments g.functions) fun ∙ (arguments_told g f entry.0 entry.1 ∙ same)

    mine : StandsAt g new c
    mine = record { before = mid; behind = []; place = sym first; split = is ∙ ap (λ ss. mid ++ (map Some ss ++ None ∷ [])) (sym listed) }

    among : (a : SortId) → Contains (map Some args ++ None ∷ []) (Some a) → Contains args a
    among a n =
        ⊎_elim
        (λ m. (let found = contained_from_map Some args (Some a) m in let equal : found.0 ≡ a = (let e = found.2 in cc) in subst (Contains args) equal found.1))
        (λ m. absurd (⊎_elim (λ e. (let wrong : None ≡ Some a = e in cc)) (contains_none (Some a)) (contains_cons None (Some a) [] m)))
        (Contains-append_cases (map Some args) (None ∷ []) (Some a) n)

-- a constructor's argument is one of the sort
pub shaping_ends : (g : Sig) (s : SortId) (fs : List FunId) (old now : List (Option SortId)) (cs : List Constructor) → AreConstructors g s fs → IsShaping g fs old now cs → AddsShape g s old now cs
shaping_ends g s fs old now cs cons p = record {
  kept = p.kept;
  constructors = subst (AreConstructors g s) (sym p.functions) cons;
  places = p.places;
  arguments = λ a has. ⊎_elim inl (λ is. inr (let place = cons.each is.0 is.2 in (place.0, is.0, is.1, place.1, is.3, is.4))) (p.arguments a has);
  ended = p.ended;
}

-- ---- all sorts
pub record AreShapesUpTo (g : Sig) (sorts : List SortId) (n : ℕ) (constructors : List (Vec Constructor)) (os : List (Option SortId)) : Type 0 where
  pub count : length constructors ≡ n
  pub right : (s : SortId) → s.0 < n → Contains sorts s → AreConstructors g s (functions_of (list_at constructors s.0))
  pub places : (k : ℕ) (c : Constructor) → Contains (list_at constructors k) c → StandsAt g os c
  pub arguments : (a : SortId) → Contains os (Some a) → Contains sorts a
  pub ended : AreEnded os

pub no_shapes : (g : Sig) (sorts : List SortId) (constructors : List (Vec Constructor)) (os : List (Option SortId)) → constructors ≡ [] → os ≡ [] → AreShapesUpTo g sorts 0 constructors os
no_shapes g sorts constructors os e d = subst (λ cs. AreShapesUpTo g sorts 0 cs os) (sym e) (subst (AreShapesUpTo g sorts 0 []) (sym d) record {
  count = refl;
  right = λ s l has. absurd (omega (arith, l));
  places = λ k c has. absurd (contains_none c has);
  arguments = λ a has. absurd (contains_none (Some a) has);
  ended = λ p a at. absurd cc;
})

less_or_here : (k n : ℕ) → k < n + 1 → (k < n) ⊎ (k ≡ n)
less_or_here k n l = grind arith

-- a list in front, the last one, or none
which_list : {A : Type 0} (vs : List (Vec A)) (v : Vec A) (k : ℕ) (x : A) → Contains (list_at (vs ++ v ∷ []) k) x → Contains (list_at vs k) x ⊎ Contains v.items x
which_list [] v zero x has = inr has
which_list [] v (suc k) x has = inl has
which_list (u ∷ us) v zero x has = inl has
which_list (u ∷ us) v (suc k) x has = which_list us v k x has

pub shapes_more : (g : Sig) (sorts : List SortId) → AreClosed g sorts → (n : ℕ) (s : SortId) (constructors new : List (Vec Constructor)) (v : Vec Constructor) (old now : List (Option SortId)) → s.0 ≡ n → new ≡ constructors ++ v ∷ [] → AreShapesUpTo g sorts n constructors old
    → Front old now → (Contains sorts s → AreConstructors g s (functions_of v.items)) → ((c : Constructor) → Contains v.items c → StandsAt g now c) → ((a : SortId) → Contains now (Some a) → Contains old (Some a) ⊎ Contains sorts a) → (AreEnded old → AreEnded now)
    → AreShapesUpTo g sorts (n + 1) new now
shapes_more g sorts closed n s constructors new v old now number is p front right places arguments ended = subst (λ cs. AreShapesUpTo g sorts (n + 1) cs now) (sym is) record {
  count = let e = p.count in let d = pushed_length constructors v in omega (arith, e, d);
  right =
      λ t l has. ⊎_elim
      (λ less. subst (λ cs. AreConstructors g t (functions_of cs)) (sym (list_before constructors v t.0 (let e = p.count in omega (arith, e, less)))) (p.right t less has))
      (λ last. (
      let same : s ≡ t = ap (λ (m : ℕ). record { 0 = m }) (number ∙ sym last) in
      subst (λ m. AreConstructors g t (functions_of (list_at (constructors ++ v ∷ []) m))) (p.count ∙ sym last) (subst (λ cs. AreConstructors g t (functions_of cs)) (sym (list_last constructors v)) (subst (λ (x : SortId). AreConstructors g x (functions_of v.items)) same (right (subst (Contains sorts) (sym same) has))))
      ))
      (less_or_here t.0 n l);
  places = λ k c has. ⊎_elim (λ o. subst (λ os. StandsAt g os c) (sym front.1) (stands_on g old front.0 c (p.places k c o))) (places c) (which_list constructors v k c has);
  arguments = λ a has. ⊎_elim (p.arguments a) (λ m. m) (arguments a has);
  ended = ended p.ended;
}
  where
    pushed_length : (vs : List (Vec Constructor)) (v : Vec Constructor) → length (vs ++ v ∷ []) ≡ length vs + 1
    pushed_length [] v = refl
    pushed_length (u ∷ us) v = let e = pushed_length us v in omega (arith, e)

-- a sort gets its shape, or isn't among these
pub shapes_with : (g : Sig) (sorts : List SortId) → AreClosed g sorts → (n : ℕ) (s : SortId) (constructors new : List (Vec Constructor)) (v : Vec Constructor) (old now : List (Option SortId)) → s.0 ≡ n → new ≡ constructors ++ v ∷ [] → AreShapesUpTo g sorts n constructors old
    → Contains sorts s → AddsShape g s old now v.items → AreShapesUpTo g sorts (n + 1) new now
shapes_with g sorts closed n s constructors new v old now number is p among added =
    shapes_more g sorts closed n s constructors new v old now number is p added.kept (λ has. added.constructors) added.places (λ a has. ⊎_elim inl (λ arg. inr (closed s a among arg)) (added.arguments a has)) added.ended

pub shapes_without : (g : Sig) (sorts : List SortId) → AreClosed g sorts → (n : ℕ) (s : SortId) (constructors new : List (Vec Constructor)) (v : Vec Constructor) (old : List (Option SortId)) → s.0 ≡ n → new ≡ constructors ++ v ∷ [] → AreShapesUpTo g sorts n constructors old
    → (Contains sorts s → ⊥) → v.items ≡ [] → AreShapesUpTo g sorts (n + 1) new old
shapes_without g sorts closed n s constructors new v old number is p outside empty =
    shapes_more g sorts closed n s constructors new v old old number is p (front_itself old) (λ has. absurd (outside has)) (λ c has. absurd (contains_none c (subst (λ cs. Contains cs c) empty has))) (λ a has. inl has) (λ h. h)
