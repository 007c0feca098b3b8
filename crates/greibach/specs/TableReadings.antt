-- What stands in the table of places for the bodies that are read.
use Rattle.std.specs.Prelude.{◌≡◌, ◌↔◌, ◌⊎◌, ℕ, suc, List, [], ◌∷◌, ◌++◌, map, Option, Some, slice_get}
use Rattle.std.specs.List.{Contains}
use Rattle.data_theory.specs.declared.ids.ProcId.{ProcId}
use Rattle.data_theory.specs.declared.ids.VarId.{VarId}
use Rattle.data_theory.specs.declared.ids.TermId.{TermId}
use Rattle.data_theory.specs.IdTrees.{Tree}
use Rattle.term_pool.specs.HeadTrees.{AreIn}
use Rattle.process_terms.specs.PlainProcesses.{PlainAction}
use Rattle.process_terms.specs.Processes.{Body, written_delta, written_act, written_choice, written_seq, written_cond, written_sum, written_call}
use Rattle.process_terms.specs.Meanings.{Entries, bound_at, term_at, label_of}
use Rattle.greibach.specs.PlacesInCode.{PlainPart, delta, act, choice, cond, sum, call, PlainPlace}
use Rattle.greibach.specs.OccurringVariables.{OccursIn, label_terms, those_among, params_at, rest_params}

-- the variables of these terms, the parameters of a rest, and those of inner places
abbrev pub AreNeededIn : List Tree → List PlainPlace → List TermId → Option ℕ → List ℕ → List VarId → Type 0
AreNeededIn ts table terms rest inner keys =
    (v : VarId) → Contains keys v ↔ (OccursIn ts terms v ⊎ (Contains (rest_params table rest) v ⊎ ((n : ℕ) × Contains inner n × Contains (params_at table n) v)))

-- At a number of the table stands this part with this rest. Its parameters are those in scope that are needed. The terms are those
-- of the pool.
pub record HasPlace (ts : List Tree) (table : List PlainPlace) (scope : List VarId) (part : PlainPart) (rest : Option ℕ) (terms : List TermId) (inner : List ℕ) (n : ℕ) : Type 0 where
  pub keys : List VarId
  pub stands : slice_get table n ≡ Some (record { part = part; rest = rest; params = those_among scope keys })
  pub needed : AreNeededIn ts table terms rest inner keys
  pub within : AreIn ts terms

mutual
  -- The places for a body before a rest have the numbers from the first one up to the second. It begins at the last number. The
  -- processes that are called in it are reached, behind those that were reached.
  pub data Reads (e : Entries) (ts : List Tree) (reached : List ProcId) (table : List PlainPlace) : List VarId → Body → Option ℕ → ℕ → ℕ → List ProcId → List ProcId → ℕ → Type 0 where
    reads_delta : {scope : List VarId} {rest : Option ℕ} {n : ℕ} {rs : List ProcId} → HasPlace ts table scope delta rest [] [] n → Reads e ts reached table scope written_delta rest n (suc n) rs rs n
    reads_nothing : {scope : List VarId} {rest : Option ℕ} {n : ℕ} {rs : List ProcId} → HasPlace ts table scope (choice []) rest [] [] n → Reads e ts reached table scope written_delta rest n (suc n) rs rs n
    reads_act : {scope : List VarId} {rest : Option ℕ} {n : ℕ} {rs : List ProcId} (m : List PlainAction) → HasPlace ts table scope (act m) rest (label_terms m) [] n
        → Reads e ts reached table scope (written_act (label_of e m)) rest n (suc n) rs rs n
    reads_call : {scope : List VarId} {rest : Option ℕ} {n : ℕ} {rs ss : List ProcId} (k : ℕ) (x : ProcId) (ids : List TermId) → slice_get reached k ≡ Some x → ((y : ProcId) → Contains ss y → Contains rs y ⊎ (x ≡ y)) → HasPlace ts table scope (call k ids) rest ids [] n
        → Reads e ts reached table scope (written_call x.0 (map (term_at e) ids)) rest n (suc n) rs ss n
    reads_seq : {scope : List VarId} {p q : Body} {rest : Option ℕ} {a b c m n : ℕ} {rs ss us : List ProcId} → Reads e ts reached table scope q rest a b rs ss m → Reads e ts reached table scope p (Some m) b c ss us n
        → Reads e ts reached table scope (written_seq p q) rest a c rs us n
    reads_cond : {scope : List VarId} {p q : Body} {rest : Option ℕ} {a b c m n : ℕ} {rs ss us : List ProcId} (id : TermId) → Reads e ts reached table scope p rest a b rs ss m → Reads e ts reached table scope q rest b c ss us n
        → HasPlace ts table scope (cond id m n) rest (id ∷ []) (m ∷ n ∷ []) c → Reads e ts reached table scope (written_cond (term_at e id) p q) rest a (suc c) rs us c
    reads_sum : {scope : List VarId} {p : Body} {rest : Option ℕ} {a b m : ℕ} {rs ss : List ProcId} (x : VarId) → Reads e ts reached table (scope ++ x ∷ []) p rest a b rs ss m → HasPlace ts table scope (sum x m) rest [] (m ∷ []) b
        → Reads e ts reached table scope (written_sum (bound_at e x) p) rest a (suc b) rs ss b
    reads_choice : {scope : List VarId} {p q : Body} {rest : Option ℕ} {a b c n : ℕ} {ns : List ℕ} {rs ss us : List ProcId} → Reads e ts reached table scope p rest a b rs ss n → ReadsEach e ts reached table scope q rest b c ss us ns
        → HasPlace ts table scope (choice (n ∷ ns)) rest [] (n ∷ ns) c → Reads e ts reached table scope (written_choice p q) rest a (suc c) rs us c

  -- the operands of a chain of `+`, each with its number
  pub data ReadsEach (e : Entries) (ts : List Tree) (reached : List ProcId) (table : List PlainPlace) : List VarId → Body → Option ℕ → ℕ → ℕ → List ProcId → List ProcId → List ℕ → Type 0 where
    reads_last : {scope : List VarId} {p : Body} {rest : Option ℕ} {a b n : ℕ} {rs ss : List ProcId} → Reads e ts reached table scope p rest a b rs ss n → ReadsEach e ts reached table scope p rest a b rs ss (n ∷ [])
    reads_more : {scope : List VarId} {p q : Body} {rest : Option ℕ} {a b c n : ℕ} {ns : List ℕ} {rs ss us : List ProcId} → Reads e ts reached table scope p rest a b rs ss n → ReadsEach e ts reached table scope q rest b c ss us ns
        → ReadsEach e ts reached table scope (written_choice p q) rest a c rs us (n ∷ ns)
