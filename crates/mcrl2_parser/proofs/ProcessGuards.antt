-- What decides between two forms of a process term.
use Rattle.std.proofs.Common.{◌≡◌, ℕ, List, [], ◌∷◌, Result, Ok, Err, IfOk, IsErr, IsTrue, IsFalse, refl, sym, subst, Bor}
use Rattle.std.specs.Result.{is_ok}
use Rattle.mcrl2_lexer.specs.declared.kind.Kind.{Kind}
use Rattle.mcrl2_lexer.specs.declared.kind.Kind.TheVariants.{Identifier, LeftParen, RightParen, Equals, Arrow}
use Rattle.mcrl2_lexer.specs.declared.token.Token.{Token}
use Rattle.mcrl2_syntax.specs.Words.{Begins}
use Rattle.mcrl2_syntax.specs.DataTrees.{PlainData}
use Rattle.mcrl2_syntax.specs.SpelledData.{SpellsUnit}
use Rattle.mcrl2_syntax.specs.Follow.{Stops}
use Rattle.mcrl2_syntax.proofs.Lists.{moved}
use Rattle.mcrl2_syntax.proofs.DataOnce.{stops_at}
use Rattle.mcrl2_parser.specs.ProcessReading.{BeginsCall, begins_empty, begins_assignment, SpellsGuard, spells_guard}

-- where the next token was expected and found
pub begun : {E : Type 0} (k : Kind) (ts : List Token) (result : Result (Bor Token × Bor (List Token)) E) → IfOk result (λ x. (ts ≡ x.0.now ∷ x.1.now) × (x.0.now.kind ≡ k)) → IsTrue (is_ok result) → Begins k ts
begun k ts (Ok x) found is = subst (Begins k) (sym found.0) found.1
begun k ts (Err e) found is = absurd cc

-- where it wasn't
pub unbegun : {E : Type 0} (k : Kind) (ts : List Token) (result : Result (Bor Token × Bor (List Token)) E) → (IsErr result → Begins k ts → ⊥) → IsFalse (is_ok result) → Begins k ts → ⊥
unbegun k ts (Ok x) none is = absurd cc
unbegun k ts (Err e) none is = none refl

pub calls_empty : {t u : Token} {ts us : List Token} (vs : List Token) → ts ≡ t ∷ us → t.kind ≡ Identifier → us ≡ u ∷ vs → u.kind ≡ LeftParen → Begins RightParen vs → BeginsCall ts
calls_empty [] e h f i j = elim j [ ]
calls_empty (v ∷ r) e h f i j = rw (e, f) (begins_empty h i j)

pub calls_assigning : {t u v : Token} {ts us vs : List Token} (ws : List Token) → ts ≡ t ∷ us → t.kind ≡ Identifier → us ≡ u ∷ vs → u.kind ≡ LeftParen → vs ≡ v ∷ ws → v.kind ≡ Identifier → Begins Equals ws
    → BeginsCall ts
calls_assigning [] e h f i g j k = elim k [ ]
calls_assigning (w ∷ r) e h f i g j k = rw (e, f, g) (begins_assignment h i j k)

pub guarded : {text : List ℕ} {c : PlainData} {a : Token} {ts us r : List Token} → SpellsUnit text c ts us → us ≡ a ∷ r → a.kind ≡ Arrow → SpellsGuard text c ts r
guarded u e h = spells_guard (rw e at u) h

-- what was read as a unit has no arrow behind it
pub unguarded : {text : List ℕ} {c d : PlainData} {ts us r : List Token} → ((x : PlainData) (q : List Token) → SpellsUnit text x ts q → Stops 0 q → (d ≡ x) × (us ≡ q)) → (Begins Arrow us → ⊥)
    → SpellsGuard text c ts r → ⊥
unguarded only none (spells_guard {c = c} {a = a} {r = r} u h) = none (moved Arrow (sym (only c (a ∷ r) u (stops_at Arrow (λ f. cc) refl 0 a r h)).1) h)
