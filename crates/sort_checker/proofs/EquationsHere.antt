-- Equations that elaborate, where their variables came into scope in code.
use Rattle.std.proofs.Common.{◌≡◌, ◌<◌, ◌+◌, ◌++◌, ℕ, zero, suc, List, [], ◌∷◌, map, take, length, get_or, max, refl, sym, ap, ap₂, ◌∙◌, subst, arith}
use Rattle.std.specs.Prelude.{Option, Some, None, option_map, option_and_then}
use Rattle.std.specs.List.{All, AllByRecursion, Contains}
use Rattle.std.proofs.lemmas.Option.{same_Some, option_and_then_some}
use Rattle.std.proofs.lemmas.List.Elements.{Contains-append_left, Contains-append_right}
use Rattle.data_theory.specs.declared.ids.VarId.{VarId}
use Rattle.data_theory.specs.Terms.{Sort, boolean, Term, Terms, variable, numeral, unknown, application, none, more, variables_of, variables_of_all}
use Rattle.data_theory.specs.Declarations.{Declares}
use Rattle.data_theory.specs.Environments.{IsOver, AreOver}
use Rattle.data_theory.specs.Provable.{Equation, variables_of_equation}
use Rattle.data_theory.specs.Signature.{Sig}
use Rattle.data_theory.specs.WholeSignatures.{IsSignature}
use Rattle.term_pool.specs.Pools.{PoolContents}
use Rattle.process_terms.specs.Meanings.{above}
use Rattle.process_terms.specs.Processes as processes
use Rattle.sort_table.specs.Expressions.{Name, Expression}
use Rattle.sort_table.specs.SignatureVocabularies.{vocabulary_of}
use Rattle.sort_table.specs.Vocabularies.{Vocabulary}
use Rattle.data_typing.specs.declared.scope.Bound as code
use Rattle.data_typing.specs.CodeWords.{scope_of}
use Rattle.data_typing.specs.Meanings.{Bound, Scope, bound_row, meaning, typing_in, ChecksAs}
use Rattle.data_typing.specs.TypingLaws.{Reads}
use Rattle.data_typing.specs.Typings.{Inferred, Meaning, typing}
use Rattle.data_typing.proofs.NamedParts.{first_named_is}
use Rattle.data_typing.proofs.Options.{one_or_other, mapped}
use Rattle.data_typing.proofs.Readings.{typing_reads_the_expression}
use Rattle.data_typing.proofs.WithinLemmas.{all_more}
use Rattle.sort_checker.specs.Additions.{GoesOn}
use Rattle.sort_checker.specs.FullVocabularies.{FullVocabulary}
use Rattle.sort_checker.specs.PartTypings.{left_side, condition_at}
use Rattle.sort_checker.specs.Scopes.{Binds}
use Rattle.sort_checker.specs.Elaborations.{WrittenEquation, ElaboratesEquation}
use Rattle.sort_checker.specs.CodeContexts.{SeesData, AreBound}
use Rattle.sort_checker.specs.ElaboratedParts.{AreBinders}
use Rattle.sort_checker.specs.ElaboratedTexts.{CanElaborateEquations, HasTermHere, HaveSidesHere}
use Rattle.sort_checker.proofs.Adding.{vocabulary_stays}
use Rattle.sort_checker.proofs.EquationNumbers.{where_they_occur, equations_need_no_numbers}
use Rattle.sort_checker.proofs.FittingEquations.{inside, rows_hold, word_in_scope}
use Rattle.sort_checker.proofs.Members.{contains_first, contains_later}
use Rattle.sort_checker.proofs.VariableWords.{variable_is_word}
use Rattle.sort_checker.proofs.WhatStays.{sees_data_after}

-- ---- processes don't count
pub with_declared : (v w : FullVocabulary) (e : WrittenEquation) (q : Equation) → w.declared ≡ v.declared → ElaboratesEquation w e q → ElaboratesEquation v e q
with_declared v w e q same h = record {
  scope = h.scope;
  bounds = h.bounds;
  binds = subst (λ (d : Vocabulary). Binds d [] e.variables h.scope h.bounds) same h.binds;
  sorts = h.sorts;
  sort = h.sort;
  left = subst (λ (d : Vocabulary). left_side (typing_in d h.scope e.left) (typing_in d h.scope e.right) ≡ Some (record { term = q.left; sort = h.sort })) same h.left;
  right = subst (λ (d : Vocabulary). ChecksAs d h.scope e.right h.sort q.right) same h.right;
  condition = subst (λ (d : Vocabulary). condition_at d h.scope e.condition ≡ Some q.condition) same h.condition;
  no_variable = h.no_variable;
  no_other = h.no_other;
}

-- ---- with these numbers
-- the parts of an equation have terms, where its variables are in scope
pub record HasParts (v : FullVocabulary) (e : WrittenEquation) (scope : Scope) : Type 0 where
  pub condition : Term
  pub is_condition : condition_at v.declared scope e.condition ≡ Some condition
  pub left : Inferred
  pub is_left : left_side (typing_in v.declared scope e.left) (typing_in v.declared scope e.right) ≡ Some left
  pub right : Term
  pub is_right : ChecksAs v.declared scope e.right left.sort right
  pub no_variable : (n : ℕ) → ¬ (left.term ≡ variable n)
  pub no_other : (n : ℕ) → Contains (variables_of condition ++ variables_of right) n → Contains (variables_of left.term) n

pub its_parts : (v : FullVocabulary) (e : WrittenEquation) (q : Equation) → ElaboratesEquation v e q → (scope : Scope) (bounds : List processes.Bound) → Binds v.declared [] e.variables scope bounds → HasParts v e scope
its_parts v e q h scope bounds binds =
    let again = equations_need_no_numbers v e q h scope bounds binds in
    parts_of again.0 again.1 again.2
  where
    parts_of : (r : Equation) (k : ElaboratesEquation v e r) → k.scope ≡ scope → HasParts v e scope
    parts_of r k same = record {
      condition = r.condition;
      is_condition = subst (λ (s : Scope). condition_at v.declared s e.condition ≡ Some r.condition) same k.condition;
      left = record { term = r.left; sort = k.sort };
      is_left = subst (λ (s : Scope). left_side (typing_in v.declared s e.left) (typing_in v.declared s e.right) ≡ Some (record { term = r.left; sort = k.sort })) same k.left;
      right = r.right;
      is_right = subst (λ (s : Scope). ChecksAs v.declared s e.right k.sort r.right) same k.right;
      no_variable = k.no_variable;
      no_other = k.no_other;
    }

-- with these terms, whatever the sorts of other numbers
pub equation_here : (v : FullVocabulary) (e : WrittenEquation) (scope : Scope) (bounds : List processes.Bound) → Binds v.declared [] e.variables scope bounds → HasParts v e scope → (c : Term) (i : Inferred) (t : Term)
    → condition_at v.declared scope e.condition ≡ Some c → left_side (typing_in v.declared scope e.left) (typing_in v.declared scope e.right) ≡ Some i → ChecksAs v.declared scope e.right i.sort t
    → (sorts : List Sort) → AllByRecursion (λ (b : processes.Bound). Declares sorts b.var b.sort) bounds → ElaboratesEquation v e (record { sorts = sorts; condition = c; left = i.term; right = t })
equation_here v e scope bounds binds parts c i t is_condition is_left is_right sorts declared =
    let same_left : parts.left ≡ i = same_Some parts.left i (sym parts.is_left ∙ is_left) in
    let same_condition : parts.condition ≡ c = same_Some parts.condition c (sym parts.is_condition ∙ is_condition) in
    let same_right : parts.right ≡ t = same_Some parts.right t (sym parts.is_right ∙ (ap (λ (x : Inferred). (typing_in v.declared scope e.right).checks x.sort) same_left ∙ is_right)) in
    record {
      scope = scope;
      bounds = bounds;
      binds = binds;
      sorts = where_they_occur (variables_of_equation (record { sorts = sorts; condition = c; left = i.term; right = t })) sorts bounds declared;
      sort = i.sort;
      left = is_left;
      right = is_right;
      condition = is_condition;
      no_variable = λ n is. parts.no_variable n (ap (λ (x : Inferred). x.term) same_left ∙ is);
      no_other = λ n among.
          subst (λ (x : Inferred). Contains (variables_of x.term) n) same_left
          (parts.no_other n (subst (λ (ns : List ℕ). Contains ns n) (ap₂ (λ (x y : Term). variables_of x ++ variables_of y) (sym same_condition) (sym same_right)) among));
    }

-- ---- the left side is over the variables in scope
left_reads : (m : Name → Meaning) (l r : Expression) (i : Inferred) → left_side (typing m l) (typing m r) ≡ Some i → Reads m l i.term
left_reads m l r i is =
    one_or_other (typing m l).infers (option_and_then (λ (j : Inferred). option_map (λ t. record { term = t; sort = j.sort }) ((typing m l).checks j.sort)) (typing m r).infers) i is
    (λ w. (typing_reads_the_expression m l).infers i w)
    (λ w. option_and_then_some (λ (j : Inferred). option_map (λ t. record { term = t; sort = j.sort }) ((typing m l).checks j.sort)) (typing m r).infers i w
    (λ j there k. mapped (λ t. record { term = t; sort = j.sort }) ((typing m l).checks j.sort) i k
    (λ t checks same. subst (λ (x : Inferred). Reads m l x.term) same ((typing_reads_the_expression m l).checks j.sort t checks))))

numbers_hold : (bounds others : List processes.Bound) → ((n : ℕ) → Contains (map (λ (b : processes.Bound). b.var) bounds) n → Contains (map (λ (b : processes.Bound). b.var) others) n) → AllByRecursion (λ (b : processes.Bound). Contains (map (λ (c : processes.Bound). c.var) others) b.var) bounds
numbers_hold [] others f = tt
numbers_hold (b ∷ bounds) others f = (f b.var (contains_first b.var (map (λ (c : processes.Bound). c.var) bounds)), numbers_hold bounds others (λ n among. f n (contains_later b.var n (map (λ (c : processes.Bound). c.var) bounds) among)))

-- what holds of the numbers in scope holds of each variable of a term that was read
pub variables_in_scope : (v : Vocabulary) (scope : Scope) (e : Expression) (t : Term) → Reads (meaning v scope) e t → (P : ℕ → Type 0) → AllByRecursion (λ (b : Bound). P b.number) scope → (n : ℕ) → Contains (variables_of t) n → P n
variables_in_scope v scope e t reads P all n among =
    let w = variable_is_word reads n among in
    let found = word_in_scope v scope w.word n w.sort w.meant in
    subst P found.2 (first_named_is (λ (b : Bound). P b.number) w.word (map bound_row scope) (rows_hold (λ (b : Bound). P b.number) scope all) found.0 found.1)

pub left_is_over : (v : FullVocabulary) (e : WrittenEquation) (scope : Scope) (bounds : List processes.Bound) → Binds v.declared [] e.variables scope bounds → (i : Inferred) → left_side (typing_in v.declared scope e.left) (typing_in v.declared scope e.right) ≡ Some i
    → (n : ℕ) → Contains (variables_of i.term) n → Contains (map (λ (b : processes.Bound). b.var) bounds) n
left_is_over v e scope bounds binds i is n among =
    let numbers : List ℕ = map (λ (b : processes.Bound). b.var) bounds in
    variables_in_scope v.declared scope e.left i.term (left_reads (meaning v.declared scope) e.left e.right i is) (Contains numbers) (inside (λ k s. Contains numbers k) tt (numbers_hold bounds bounds (λ k c. c)) binds) n among

-- ---- a term is over the variables that it has
mutual
  pub over_its_own : (xs : List ℕ) (t : Term) → ((n : ℕ) → Contains (variables_of t) n → Contains xs n) → IsOver xs t
  over_its_own xs (variable n) f = f n (contains_first n [])
  over_its_own xs (numeral a z) f = tt
  over_its_own xs (unknown d k) f = tt
  over_its_own xs (application h ts) f = all_over_their_own xs ts f

  all_over_their_own : (xs : List ℕ) (ts : Terms) → ((n : ℕ) → Contains (variables_of_all ts) n → Contains xs n) → AreOver xs ts
  all_over_their_own xs none f = tt
  all_over_their_own xs (more t ts) f = (
    over_its_own xs t (λ n c. f n (Contains-append_left (variables_of t) (variables_of_all ts) n c)),
    all_over_their_own xs ts (λ n c. f n (Contains-append_right (variables_of t) (variables_of_all ts) n c)),
  )

-- ---- the sorts of an equation's variables
declared_at : (vs : List Sort) (m n : ℕ) → n < m → n < length vs → Declares (take m vs) n (get_or vs n boolean)
declared_at [] m n l h = let never : ⊥ = omega (arith, h) in absurd never
declared_at (s ∷ vs) zero n l h = let never : ⊥ = omega (arith, l) in absurd never
declared_at (s ∷ vs) (suc m) zero l h = refl
declared_at (s ∷ vs) (suc m) (suc n) l h = declared_at vs m n (omega (arith, l)) (omega (arith, h))

abbrev bound_in : List Sort → VarId → processes.Bound
bound_in vs x = record { var = x.0; sort = get_or vs x.0 boolean }

pub declared_in_front : (vs : List Sort) (m : ℕ) (ids : List VarId) → AllByRecursion (λ (x : VarId). x.0 < m) ids → AllByRecursion (λ (x : VarId). x.0 < length vs) ids → AllByRecursion (λ (b : processes.Bound). Declares (take m vs) b.var b.sort) (map (bound_in vs) ids)
declared_in_front vs m [] below within = tt
declared_in_front vs m (x ∷ ids) below within = (declared_at vs m x.0 below.0 within.0, declared_in_front vs m ids below.1 within.1)

pub all_below : (ids : List VarId) → AllByRecursion (λ (x : VarId). x.0 < above ids) ids
all_below [] = tt
all_below (x ∷ ids) =
    let first : x.0 < max (x.0 + 1) (above ids) = omega arith in
    (first, all_more (λ (y : VarId). y.0 < above ids) (λ (y : VarId). y.0 < max (x.0 + 1) (above ids)) (λ y l. omega (arith, l)) ids (all_below ids))

-- ---- in code
-- the vocabulary and the scope behind variables that came into scope, with the terms of the equation there
pub record IsHere (g : Sig) (bs : List code.Bound) (e : WrittenEquation) : Type 0 where
  pub vocabulary : FullVocabulary
  pub scope : Scope
  pub sees : SeesData g bs vocabulary.declared scope
  pub parts : HasParts vocabulary e scope

pub it_is_here : (g : Sig) → IsSignature g → (p : PoolContents) (h : Sig) → GoesOn g p h p → (e : WrittenEquation) → CanElaborateEquations g (e ∷ []) → (bs cs : List code.Bound) (ids : List VarId) → bs ≡ [] → AreBound g bs e.variables h cs ids → IsHere h cs e
it_is_here g signature p h on e can bs cs ids empty entered =
    let w = can.vocabulary in
    let sees : SeesData g bs w.declared [] = record { vocabulary = can.over; variables = ap (scope_of g.texts) (sym empty) } in
    let bound = entered.bind w.declared [] sees in
    record {
      vocabulary = w;
      scope = scope_of h.texts cs;
      sees = record { vocabulary = can.over ∙ sym (vocabulary_stays g h signature on.added); variables = refl };
      parts = its_parts w e can.elaborate.0.0 can.elaborate.0.1 (scope_of h.texts cs) bound.0 bound.1;
    }

pub condition_here : (g : Sig) (bs : List code.Bound) (e : WrittenEquation) → IsHere g bs e → HasTermHere g bs (λ v scope. condition_at v scope e.condition)
condition_here g bs e here = record { vocabulary = here.vocabulary.declared; scope = here.scope; sees = here.sees; term = here.parts.condition; is = here.parts.is_condition }

pub sides_here : (g : Sig) (bs : List code.Bound) (e : WrittenEquation) → IsHere g bs e → IsSignature g → (p : PoolContents) (h : Sig) (q : PoolContents) → GoesOn g p h q → HaveSidesHere h bs e.left e.right
sides_here g bs e here signature p h q on = record {
  vocabulary = here.vocabulary.declared;
  scope = here.scope;
  sees = sees_data_after g p h q signature on bs here.vocabulary.declared here.scope here.sees;
  inferred = here.parts.left;
  left = here.parts.is_left;
  term = here.parts.right;
  right = here.parts.is_right;
}
