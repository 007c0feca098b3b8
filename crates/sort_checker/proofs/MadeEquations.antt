-- Equations in code, from their parts.
use Rattle.std.proofs.Common.{◌≡◌, ◌<◌, length, get_or, ℕ, List, [], ◌∷◌, ◌++◌, map, take, refl, sym, ap, ap₂, ◌∙◌, subst}
use Rattle.std.specs.Prelude.{Some}
use Rattle.std.specs.List.{All, AllByRecursion, Contains, flat_map}
use Rattle.std.proofs.lemmas.List.Elements.{Contains-append_left, Contains-append_right}
use Rattle.std.proofs.lemmas.List.{map-append}
use Rattle.data_theory.specs.declared.ids.VarId.{VarId}
use Rattle.data_theory.specs.declared.ids.TermId.{TermId}
use Rattle.data_theory.specs.Terms.{Sort, Term, variables_of}
use Rattle.data_theory.specs.Declarations.{Declares}
use Rattle.data_theory.specs.Environments.{IsOver}
use Rattle.data_theory.specs.Provable.{Equation}
use Rattle.data_theory.specs.Signature.{Sig}
use Rattle.data_theory.specs.WholeSignatures.{IsSignature}
use Rattle.data_theory.specs.IdTerms.{IsTreeWithin}
use Rattle.term_pool.specs.Pools.{PoolContents}
use Rattle.process_terms.specs.Processes as processes
use Rattle.term_pool.specs.declared.terms.Equation as pool
use Rattle.process_terms.specs.PlainProcesses.{PlainEquation, plain_equation}
use Rattle.process_terms.specs.Meanings.{Entries, term_at, bound_at, above, HasTerm, HasVariable, HasEquation, equation_of}
use Rattle.process_terms.specs.SignatureEntries.{entries_of}
use Rattle.sort_table.proofs.KeptFunctions.{pairs_pushed}
use Rattle.sort_table.specs.SignatureVocabularies.{vocabulary_of}
use Rattle.sort_table.specs.Vocabularies.{Vocabulary, EachPair}
use Rattle.data_typing.specs.declared.scope.Bound as code
use Rattle.data_typing.specs.CodeWords.{scope_of}
use Rattle.data_typing.specs.Meanings.{Scope, typing_in, ChecksAs}
use Rattle.data_typing.specs.Typings.{Inferred}
use Rattle.sort_checker.specs.Additions.{AddsVariables, GoesOn}
use Rattle.sort_checker.specs.FullVocabularies.{FullVocabulary}
use Rattle.sort_checker.specs.PartTypings.{left_side, condition_at}
use Rattle.sort_checker.specs.Scopes.{Binds}
use Rattle.sort_checker.specs.Elaborations.{WrittenEquation, ElaboratesEquation}
use Rattle.sort_checker.specs.CodeContexts.{SeesData, AreBound}
use Rattle.sort_checker.specs.ElaboratedParts.{IsTerm, AreBinders}
use Rattle.sort_checker.specs.ElaboratedTexts.{equations_by, CanElaborateEquations, IsTermHere, AreSidesHere, IsElaboratedEquation, AreElaboratedEquations}
use Rattle.sort_checker.proofs.Adding.{adds_then, goes_nowhere, signature_stays, vocabulary_stays}
use Rattle.sort_checker.proofs.EquationsHere.{with_declared, HasParts, its_parts, equation_here, left_is_over, over_its_own, declared_in_front, all_below}
use Rattle.sort_checker.specs.declared.scoped_declarations.ScopedDecl.{ScopedDecl}
use Rattle.sort_checker.specs.ScopedTrees.{scoped_item, scoped_items}
use Rattle.sort_checker.proofs.ListedDeclarations.{equations_part}
use Rattle.sort_checker.proofs.NumberedActions.{all_by}
use Rattle.sort_checker.proofs.SettledParts.{equation_settled, equation_on}
use Rattle.sort_checker.proofs.WhatStays.{sees_data_after, term_on}

-- the variables of binders are their numbers
variables_are : (e : Entries) (ids : List VarId) → map (λ (b : processes.Bound). b.var) (map (bound_at e) ids) ≡ map (λ (x : VarId). x.0) ids
variables_are e [] = refl
variables_are e (x ∷ ids) = ap (λ (ns : List ℕ). x.0 ∷ ns) (variables_are e ids)

-- ---- over a signature and a pool
module _ (v : FullVocabulary) (e : WrittenEquation) (scope : Scope) (bounds : List processes.Bound) (binds : Binds v.declared [] e.variables scope bounds) (parts : HasParts v e scope)
    (k : Sig) (q : PoolContents) (signature : IsSignature k) (trees : All (IsTreeWithin k) q.trees) (ids : List VarId) (binders : AreBinders k ids bounds)
    (cid lid rid : TermId) (c : Term) (i : Inferred) (t : Term)
    (is_condition : condition_at v.declared scope e.condition ≡ Some c) (is_left : left_side (typing_in v.declared scope e.left) (typing_in v.declared scope e.right) ≡ Some i) (is_right : ChecksAs v.declared scope e.right i.sort t)
    (condition : IsTerm k q cid c) (left : IsTerm k q lid i.term) (right : IsTerm k q rid t) where
  abbrev entries : Entries
  entries = entries_of k q.trees

  abbrev made : PlainEquation
  made = record { variables = ids; condition = cid; left = lid; right = rid }

  means_condition : term_at entries cid ≡ c
  means_condition = condition.means k q (goes_nowhere k q)

  means_left : term_at entries lid ≡ i.term
  means_left = left.means k q (goes_nowhere k q)

  means_right : term_at entries rid ≡ t
  means_right = right.means k q (goes_nowhere k q)

  variables_there : All (HasVariable entries) ids
  variables_there = binders.there k q q (goes_nowhere k q)

  variables_mean : map (bound_at entries) ids ≡ bounds
  variables_mean = binders.means k q q (goes_nowhere k q)

  whole : ElaboratesEquation v e (record { sorts = take (above ids) entries.variables; condition = c; left = i.term; right = t })
  whole = equation_here v e scope bounds binds parts c i t is_condition is_left is_right (take (above ids) entries.variables)
      (subst (AllByRecursion (λ (b : processes.Bound). Declares (take (above ids) entries.variables) b.var b.sort)) variables_mean (declared_in_front entries.variables (above ids) ids (all_below ids) (all_by (HasVariable entries) ids variables_there)))

  elaborates : ElaboratesEquation v e (equation_of entries made)
  elaborates =
      subst (λ (x : Term). ElaboratesEquation v e (record { sorts = take (above ids) entries.variables; condition = x; left = term_at entries lid; right = term_at entries rid })) (sym means_condition)
      (subst (λ (x : Term). ElaboratesEquation v e (record { sorts = take (above ids) entries.variables; condition = c; left = x; right = term_at entries rid })) (sym means_left)
      (subst (λ (x : Term). ElaboratesEquation v e (record { sorts = take (above ids) entries.variables; condition = c; left = i.term; right = x })) (sym means_right) whole))

  -- the terms are over the variables
  left_over : (n : ℕ) → Contains (variables_of i.term) n → Contains (map (λ (x : VarId). x.0) ids) n
  left_over n among =
      subst (λ (ns : List ℕ). Contains ns n) (ap (map (λ (b : processes.Bound). b.var)) (sym variables_mean) ∙ variables_are entries ids) (left_is_over v e scope bounds binds i is_left n among)

  others_over : (n : ℕ) → Contains (variables_of c ++ variables_of t) n → Contains (map (λ (x : VarId). x.0) ids) n
  others_over n among = left_over n (whole.no_other n among)

  has : HasEquation entries made
  has =
      let own : List ℕ = map (λ (x : VarId). x.0) ids in (
        variables_there,
        condition.there k q (goes_nowhere k q),
        left.there k q (goes_nowhere k q),
        right.there k q (goes_nowhere k q),
        subst (IsOver own) (sym means_condition) (over_its_own own c (λ n among. others_over n (Contains-append_left (variables_of c) (variables_of t) n among))),
        subst (IsOver own) (sym means_left) (over_its_own own i.term left_over),
        subst (IsOver own) (sym means_right) (over_its_own own t (λ n among. others_over n (Contains-append_right (variables_of c) (variables_of t) n among))),
      )

  pub equation_is_made : IsElaboratedEquation v k q e made
  equation_is_made = record { equation = equation_of entries made; elaborates = elaborates; stands = equation_settled k q signature trees made has }

-- ---- in code
pub binders_on : (g h : Sig) → AddsVariables g h → (ids : List VarId) (bounds : List processes.Bound) → AreBinders g ids bounds → AreBinders h ids bounds
binders_on g h added ids bounds is = record { there = λ k p q on. is.there k p q (from k p q on); means = λ k p q on. is.means k p q (from k p q on) }
  where
    from : (k : Sig) (p q : PoolContents) → GoesOn h p k q → GoesOn g p k q
    from k p q on = record { added = adds_then g h k added on.added; kept = on.kept; constants = on.constants }

-- the variables came into scope first, then the condition was made, and then both sides
pub equation_made : (v : FullVocabulary) (e : WrittenEquation) (g : Sig) → IsSignature g → v.declared ≡ vocabulary_of g → CanElaborateEquations g (e ∷ []) → (o : PoolContents) (h : Sig) → GoesOn g o h o
    → (bs cs : List code.Bound) (ids : List VarId) → bs ≡ [] → AreBound g bs e.variables h cs ids → (h2 : Sig) (o2 : PoolContents) → GoesOn h o h2 o2 → (cid : TermId) → IsTermHere h cs (λ w scope. condition_at w scope e.condition) h2 o2 cid
    → (k : Sig) (q : PoolContents) → GoesOn h2 o2 k q → IsSignature k → All (IsTreeWithin k) q.trees → (sides : TermId × TermId) → AreSidesHere h2 cs e.left e.right k q sides
    → IsElaboratedEquation v k q e (record { variables = ids; condition = cid; left = sides.0; right = sides.1 })
equation_made v e g signature is can o h on bs cs ids empty entered h2 o2 on2 cid condition k q on3 signature_then trees sides are =
    let scope : Scope = scope_of h.texts cs in
    let bound = entered.bind v.declared [] (record { vocabulary = is; variables = ap (scope_of g.texts) (sym empty) }) in
    let there : SeesData h cs v.declared scope = record { vocabulary = is ∙ sym (vocabulary_stays g h signature on.added); variables = refl } in
    let again : SeesData h2 cs v.declared scope = sees_data_after h o h2 o2 (signature_stays g h signature on.added) on2 cs v.declared scope there in
    let c = condition v.declared scope there in
    let s = are v.declared scope again in
    let parts = its_parts v e can.elaborate.0.0 (with_declared v can.vocabulary e can.elaborate.0.0 (can.over ∙ sym is) can.elaborate.0.1) scope bound.0 bound.1 in
    equation_is_made v e scope bound.0 bound.1 parts k q signature_then trees ids (binders_on h k (adds_then h h2 k on2.added on3.added) ids bound.0 bound.2)
    cid sides.0 sides.1 c.0 s.0 s.3 c.1 s.1 s.4 (term_on h2 o2 k q on3 cid c.0 c.2) s.2 s.5

-- what was made before stays
pub equations_on : (v : FullVocabulary) (g : Sig) (p : PoolContents) (h : Sig) (q : PoolContents) → GoesOn g p h q → (es : List WrittenEquation) (xs : List PlainEquation) → AreElaboratedEquations v g p es xs → AreElaboratedEquations v h q es xs
equations_on v g p h q on [] [] all = tt
equations_on v g p h q on [] (x ∷ xs) all = absurd all
equations_on v g p h q on (e ∷ es) [] all = absurd all
equations_on v g p h q on (e ∷ es) (x ∷ xs) all = (record { equation = all.0.equation; elaborates = all.0.elaborates; stands = equation_on g p h q on x all.0.equation all.0.stands }, equations_on v g p h q on es xs all.1)

pub equation_added : (v : FullVocabulary) (g : Sig) (p : PoolContents) (es : List WrittenEquation) (e : WrittenEquation) (xs ys : List pool.Equation) (x : pool.Equation) → AreElaboratedEquations v g p es (map plain_equation xs) → IsElaboratedEquation v g p e (plain_equation x)
    → ys ≡ xs ++ x ∷ [] → AreElaboratedEquations v g p (es ++ e ∷ []) (map plain_equation ys)
equation_added v g p es e xs ys x all one pushed =
    subst (AreElaboratedEquations v g p (es ++ e ∷ [])) (sym (ap (map plain_equation) pushed ∙ map-append plain_equation xs (x ∷ []))) (pairs_pushed (IsElaboratedEquation v g p) es (map plain_equation xs) e (plain_equation x) all one)

-- those of one declaration
pub can_one : (g : Sig) → IsSignature g → (p : PoolContents) (h : Sig) (q : PoolContents) → GoesOn g p h q → (ds : List ScopedDecl) (i : ℕ) (d : ScopedDecl) → i < length ds → d ≡ get_or ds i d → CanElaborateEquations g (flat_map equations_by (scoped_items ds))
    → CanElaborateEquations h (equations_by (scoped_item d))
can_one g signature p h q on ds i d l is can = record {
  vocabulary = can.vocabulary;
  over = can.over ∙ sym (vocabulary_stays g h signature on.added);
  elaborate = equations_part (λ (e : WrittenEquation). (r : Equation) × ElaboratesEquation can.vocabulary e r) ds i d l is can.elaborate;
}
