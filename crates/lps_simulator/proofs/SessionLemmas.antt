-- Sessions.
use Rattle.std.proofs.Common.{◌≡◌, ◌<◌, ℕ, zero, suc, List, [], ◌∷◌, map, length, refl, sym, ap, ◌∙◌, subst, arith, Option, Some, None}
use Rattle.std.specs.Prelude.{IfSome, IfOk, MatchResult, Result, Ok, Err, option_map, slice_get, Vec}
use Rattle.std.specs.Borrow.{Bor}
use Rattle.std.specs.Global.{Global}
use Rattle.std.specs.List.{All}
use Rattle.std.proofs.lemmas.List.Elements.{All-nil}
use Rattle.data_theory.specs.declared.ids.VarId.{VarId}
use Rattle.data_theory.specs.declared.ids.TermId.{TermId}
use Rattle.data_theory.specs.Signature.{Sig}
use Rattle.data_theory.specs.WholeSignatures.{IsSignature}
use Rattle.data_theory.specs.IdTrees.{Tree}
use Rattle.term_pool.specs.Pools.{Extends}
use Rattle.lps_core.specs.Fitting.{Fits}
use Rattle.lps_core.specs.PlainLinears.{PlainLinear, plain_next}
use Rattle.lps_core.proofs.Members.{all_at}
use Rattle.lps_core.proofs.StayingFits.{what_fits_fits_still}
use Rattle.lps_simulator.specs.declared.options.Options.{Options}
use Rattle.lps_simulator.specs.OptionsInCode.{PlainMove, PlainOptions, plain_options, IsState, IsMove}
use Rattle.lps_simulator.proofs.FittingSummands.{state_stays}
use Rattle.lps_simulator.proofs.TriedSummands.{both_grow}

-- ---- the options that were kept
same_some : {A : Type 0} {x y : A} → Some x ≡ Some y → x ≡ y
same_some e = cc

none_some : {A : Type 0} {x : A} → None ≡ Some x → ⊥
none_some e = cc

pub kept_found : (o : Option Options) (x : Options) (found : PlainOptions) → o ≡ Some x → option_map plain_options o ≡ Some found → plain_options x ≡ found
kept_found o x found e k = same_some (sym (ap (option_map plain_options) e) ∙ k)

pub none_found : (o : Option Options) (found : PlainOptions) → o ≡ None → option_map plain_options o ≡ Some found → ⊥
none_found o found e k = none_some (sym (ap (option_map plain_options) e) ∙ k)

-- a move of some that stand
pub stands_there : (xs : List PlainMove) (k : ℕ) → k < length xs → (m : PlainMove) × (slice_get xs k ≡ Some m)
stands_there [] k l = absurd (omega (arith, l))
stands_there (x ∷ xs) zero l = (x, refl)
stands_there (x ∷ xs) (suc k) l = stands_there xs k (omega (arith, l))

pub next_stands : (g : Sig) (ts : List Tree) (ps : List VarId) (xs : List PlainMove) (k : ℕ) (next : Option (Vec TermId Global)) → k < length xs → All (IsMove g ts ps) xs → ((m : PlainMove) → slice_get xs k ≡ Some m → plain_next next ≡ m.next) → IfSome (plain_next next) (IsState g ts ps)
next_stands g ts ps xs k next l all h =
    let m = stands_there xs k l in
    subst (λ (o : Option (List TermId)). IfSome o (IsState g ts ps)) (sym (h m.0 m.1)) (all_at (IsMove g ts ps) xs k m.0 all m.1).next

pub moves_of_kept : (g : Sig) (ts : List Tree) (ps : List VarId) (o : Option Options) (x : Options) → o ≡ Some x → IfSome (option_map plain_options o) (λ (f : PlainOptions). All (IsMove g ts ps) f.moves) → All (IsMove g ts ps) (plain_options x).moves
moves_of_kept g ts ps o x e h = subst (λ (z : Option Options). IfSome (option_map plain_options z) (λ (f : PlainOptions). All (IsMove g ts ps) f.moves)) e h

pub no_moves_kept : (g : Sig) (ts : List Tree) (ps : List VarId) (o : Option Options) → o ≡ None → IfSome (option_map plain_options o) (λ (f : PlainOptions). All (IsMove g ts ps) f.moves)
no_moves_kept g ts ps o e = subst (λ (z : Option Options). IfSome (option_map plain_options z) (λ (f : PlainOptions). All (IsMove g ts ps) f.moves)) (sym e) tt

-- ---- pools that grow
pub linear_stays : (g : Sig) → IsSignature g → (ts us : List Tree) (l : PlainLinear) → Extends ts us → Fits g ts l → Fits g us l
linear_stays g stands ts us l e h = what_fits_fits_still g g ts us l stands.table stands.complete stands.table (both_grow g ts us e) h

pub next_state_stays : (g : Sig) (ts us : List Tree) (ps : List VarId) (o : Option (List TermId)) → Extends ts us → IfSome o (IsState g ts ps) → IfSome o (IsState g us ps)
next_state_stays g ts us ps None e h = tt
next_state_stays g ts us ps (Some ids) e h = state_stays g ts us e ps ids h

-- ---- options that are lent
pub lent_options : {E : Type 0} (P : PlainOptions → Type 0) (kept : Option PlainOptions) (found : PlainOptions) (r : Result (Bor Options) E) → MatchResult r (λ (o : Bor Options). kept ≡ Some (plain_options o.now)) (λ (e : E). kept ≡ None) → kept ≡ Some found → P found
    → IfOk r (λ (o : Bor Options). P (plain_options o.now))
lent_options P kept found (Ok o) h e p = subst P (same_some (sym e ∙ h)) p
lent_options P kept found (Err x) h e p = tt
