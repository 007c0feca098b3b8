-- The summands of a body: its heads.
use Rattle.std.specs.Prelude.{◌≡◌, ℕ, suc, List, [], ◌∷◌, ◌++◌, map, true, false, slice_get, Some}
use Rattle.std.specs.List.{Contains}
use Rattle.data_theory.specs.Terms.{Term, variable, put}
use Rattle.data_theory.specs.Equations.{ !ᵗ◌}
use Rattle.data_theory.specs.Environments.{Environment, term_in, bound, bound_variables}
use Rattle.process_terms.specs.Labels.{Label, put_label}
use Rattle.process_terms.specs.Processes.{Bound, Body, written_delta, written_act, written_choice, written_seq, written_cond, written_sum, written_call, seq_of}
use Rattle.bisim_laws.specs.LinearProcesses.{variables, reading}
use Rattle.bisim_laws.specs.BaseStates.{Piece}
use Rattle.greibach.specs.Places.{Path, Place, whole, Factor, factors, bodies, Text}

-- a call of the equation of a place
pub record PlaceCall : Type 0 where
  pub place : Place
  pub args : List Term

-- a summand: its sum variables, its conditions from the outermost one, its label and what comes after it
pub record Head : Type 0 where
  pub sums : List Bound
  pub conditions : List Term
  pub label : Label
  pub next : List PlaceCall

-- ---- what a sum, a condition and a continuation make of a head
abbrev pub summed : Bound → Head → Head
summed x h = record h { sums = x ∷ h.sums }

abbrev pub guarded : Term → Head → Head
guarded c h = record h { conditions = c ∷ h.conditions }

abbrev pub followed : List PlaceCall → Head → Head
followed calls h = record h { next = h.next ++ calls }

-- ---- what follows in a body
-- the call of the equation for a rest, where there is a rest: its parameters as the environment has them
abbrev pub rest_call : Text → ℕ → Environment → List Factor → List PlaceCall
rest_call t o e [] = []
rest_call t o e (f ∷ fs) =
    let place : Place = record { owner = o; path = f.path } in
    record { place = place; args = reading e (variables (t.piece place).params) } ∷ []

-- A call at the beginning is kept, and the rest behind it has an equation; else the whole has one.
abbrev pub onward_call : Text → ℕ → Environment → Factor → Body → List Factor → List PlaceCall
onward_call t o e f (written_call x ts) fs = record { place = whole x; args = map (put (term_in e)) ts } ∷ rest_call t o e fs
onward_call t o e f _ fs = rest_call t o e (f ∷ fs)

abbrev pub onward : Text → ℕ → Environment → List Factor → List PlaceCall
onward t o e [] = []
onward t o e (f ∷ fs) = onward_call t o e f f.body fs

-- the equation of the place stands for this rest, over parameters among these variables
pub data HasPiece (t : Text) (o : ℕ) (xs : List ℕ) : List Factor → Type 0 where
  no_rest : HasPiece t o xs []
  has_piece : (f : Factor) (fs : List Factor) → (t.piece (record { owner = o; path = f.path })).body ≡ seq_of (bodies (f ∷ fs))
      → ((v : ℕ) → Contains (variables (t.piece (record { owner = o; path = f.path })).params) v → Contains xs v) → HasPiece t o xs (f ∷ fs)

-- the same for what `onward` calls
abbrev pub HasOnwardPiece : Text → ℕ → List ℕ → Factor → Body → List Factor → Type 0
HasOnwardPiece t o xs f (written_call x ts) fs = HasPiece t o xs fs
HasOnwardPiece t o xs f _ fs = HasPiece t o xs (f ∷ fs)

abbrev pub HasPieces : Text → ℕ → List ℕ → List Factor → Type 0
HasPieces t o xs [] = Unit {0}
HasPieces t o xs (f ∷ fs) = HasOnwardPiece t o xs f f.body fs

-- The heads of a body that stands at a path, before a rest. The environment gives its variables as terms over those of the
-- equation. Each sum variable is renewed, and the renewed one is none of the equation's so far.
pub data Unfolds (t : Text) : List ℕ → ℕ → Environment → Path → Body → List Factor → List Head → Type 0 where
  un_delta : {over : List ℕ} {o : ℕ} {e : Environment} {path : Path} {rest : List Factor} → Unfolds t over o e path written_delta rest []
  un_act : {over : List ℕ} {o : ℕ} {e : Environment} {path : Path} {m : Label} {rest : List Factor} → HasPieces t o (bound_variables e) rest
      → Unfolds t over o e path (written_act m) rest (record { sums = []; conditions = []; label = put_label e m; next = onward t o e rest } ∷ [])
  un_choice : {over : List ℕ} {o : ℕ} {e : Environment} {path : Path} {p q : Body} {rest : List Factor} {hs ks : List Head}
      → Unfolds t over o e (path ++ false ∷ []) p rest hs → Unfolds t over o e (path ++ true ∷ []) q rest ks → Unfolds t over o e path (written_choice p q) rest (hs ++ ks)
  un_seq : {over : List ℕ} {o : ℕ} {e : Environment} {path : Path} {p q : Body} {rest : List Factor} {hs : List Head}
      → Unfolds t over o e (path ++ false ∷ []) p (factors (path ++ true ∷ []) q ++ rest) hs → Unfolds t over o e path (written_seq p q) rest hs
  un_cond : {over : List ℕ} {o : ℕ} {e : Environment} {path : Path} {c : Term} {p q : Body} {rest : List Factor} {hs ks : List Head}
      → Unfolds t over o e (path ++ false ∷ []) p rest hs → Unfolds t over o e (path ++ true ∷ []) q rest ks
      → Unfolds t over o e path (written_cond c p q) rest (map (guarded (put (term_in e) c)) hs ++ map (guarded (!ᵗ put (term_in e) c)) ks)
  un_sum : {over : List ℕ} {o : ℕ} {e : Environment} {path : Path} {x : Bound} {p : Body} {rest : List Factor} {hs : List Head} (y : ℕ)
      → (Contains over y → ⊥) → (Contains (bound_variables e) x.var → ⊥)
      → Unfolds t (y ∷ over) o (record { var = x.var; term = variable y } ∷ e) (path ++ false ∷ []) p rest hs
      → Unfolds t over o e path (written_sum x p) rest (map (summed (record { var = y; sort = x.sort })) hs)
  un_call : {over : List ℕ} {o : ℕ} {e : Environment} {path : Path} {x : ℕ} {ts : List Term} {rest : List Factor} {hs : List Head} (f : Piece)
      → slice_get t.definitions x ≡ Some f → HasPiece t o (bound_variables e) rest
      → Unfolds t over (suc x) (bound (variables f.params) (map (put (term_in e)) ts)) [] f.body [] hs
      → Unfolds t over o e path (written_call x ts) rest (map (followed (rest_call t o e rest)) hs)
