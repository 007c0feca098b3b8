-- The table of a list of tokens, and the rests that it is for.
use Rattle.std.proofs.Common.{◌≡◌, ◌≤◌, ◌<◌, ℕ, zero, suc, ◌+◌, Bool, true, false, ◌&&◌, ◌||◌, List, [], ◌∷◌, ◌++◌, length, drop, get_or, reverse, refl, ap, sym, ◌∙◌, arith, add-one}
use Rattle.std.proofs.Math.ListN.{get_or-append}
use Rattle.std.proofs.Math.Seq.{get_or-append_seam, drop-cons, drop-length}
use Rattle.std.proofs.lemmas.List.{length_push}
use Rattle.mcrl2_lexer.specs.declared.kind.Kind.{Kind}
use Rattle.mcrl2_lexer.specs.declared.token.Token.{Token}
use Rattle.mcrl2_syntax.specs.DataTrees.{PlainData}
use Rattle.mcrl2_syntax.specs.ProcessParts.{PlainVarGroup}
use Rattle.mcrl2_syntax.specs.ProcessTrees.{PlainProcess}
use Rattle.mcrl2_syntax.specs.SpelledLabels.{SpellsVars, Operation, SpellsOperation}
use Rattle.mcrl2_syntax.specs.SpelledProcesses.{SpellsAtom}
use Rattle.mcrl2_parser.specs.declared.levels.Effect.{Effect}
use Rattle.mcrl2_parser.specs.declared.levels.Effect.TheVariants.{Opens, Closes, Counts, Stops, Stays}
use Rattle.mcrl2_parser.specs.Levels.{effect_of}
use Rattle.mcrl2_parser.specs.ProcessReading.{SpellsGuard, spells_guard, SpellsLast, last_sum, last_cond, FindsPart, finds_last, finds_multi, FindsOperand, FindsLeft, FindsMerge}
use Rattle.mcrl2_parser.specs.Arrows.{is_arrow, begins_arrow, closes, closes_at_arrow, with_closer, first_end, ends_of, ends_at_arrow, arrows_of, IsRest, whole, behind, HasArrows}
use Rattle.mcrl2_parser.proofs.Rests.{rests_join, ends_step, unit_passes, vars_pass, operation_rest, atom_passes, multi_passes, operand_passes, sum_passes, cond_passes, left_passes, merge_passes}

rest_shorter : {r ts : List Token} → IsRest r ts → length r ≤ length ts
rest_shorter whole = omega arith
rest_shorter (behind a) = let less = rest_shorter a in omega (arith, less)

pub arrows_step : (t : Token) (ts : List Token) → arrows_of (t ∷ ts) ≡ arrows_of ts ++ ends_at_arrow (t ∷ ts) ∷ []
unfolding arrows_of
arrows_step t ts = refl

arrows_none : arrows_of [] ≡ false ∷ []
unfolding arrows_of
arrows_none = refl

ends_none : ends_of [] ≡ []
unfolding ends_of
ends_none = refl

pub ends_first : (ts : List Token) → ends_at_arrow ts ≡ first_end (ends_of ts)
unfolding ends_at_arrow
ends_first ts = refl

table_length : (ts : List Token) → length (arrows_of ts) ≡ suc (length ts)
table_length [] = ap (λ (x : List Bool). length x) arrows_none
table_length (t ∷ ts) = ap (λ (x : List Bool). length x) (arrows_step t ts) ∙ length_push (arrows_of ts) (ends_at_arrow (t ∷ ts)) ∙ add-one _ ∙ ap suc (table_length ts)

table_each : (ts r : List Token) → IsRest r ts → get_or (arrows_of ts) (length r) false ≡ ends_at_arrow r
table_each [] r whole = ap (λ (x : List Bool). get_or x 0 false) arrows_none ∙ sym (ends_first [] ∙ ap (λ (x : List Bool). first_end x) ends_none)
table_each (t ∷ ts) r whole = ap (λ (x : List Bool). get_or x (suc (length ts)) false) (arrows_step t ts)
    ∙ ap (λ (n : ℕ). get_or (arrows_of ts ++ ends_at_arrow (t ∷ ts) ∷ []) n false) (sym (table_length ts)) ∙ get_or-append_seam (arrows_of ts) (ends_at_arrow (t ∷ ts)) [] false
table_each (t ∷ ts) r (behind a) =
    let less = rest_shorter a in
    let long = table_length ts in
    ap (λ (x : List Bool). get_or x (length r) false) (arrows_step t ts) ∙ get_or-append (arrows_of ts) (ends_at_arrow (t ∷ ts) ∷ []) false (length r) (omega (arith, less, long)) ∙ table_each ts r a

pub table_has : {arrows : List Bool} (ts : List Token) → arrows ≡ arrows_of ts → HasArrows arrows ts
table_has ts e = rw e (record { each = table_each ts })

or_false : (a b : Bool) → a || b ≡ false → (a ≡ false) × (b ≡ false)
or_false true b e = absurd cc
or_false false b e = (refl, e)

-- Where no bracket ends in front of an arrow, none of those that the tokens close does, and an empty table tells that.
closer_false : (effect : Effect) (arrow : Bool) (ends : List Bool) → closes effect && arrow ≡ false → ((n : ℕ) → get_or ends n false ≡ false) → (n : ℕ)
    → get_or (with_closer effect arrow ends) n false ≡ false
closer_false Opens arrow [] e each n = each n
closer_false Opens arrow (x ∷ ends) e each n = each (suc n)
closer_false Closes arrow ends e each zero = e
closer_false Closes arrow ends e each (suc n) = each n
closer_false Counts arrow ends e each n = each n
closer_false Stops arrow ends e each n = each n
closer_false Stays arrow ends e each n = each n

ends_false : (ts : List Token) → closes_at_arrow ts ≡ false → (n : ℕ) → get_or (ends_of ts) n false ≡ false
ends_false [] e n = ap (λ (x : List Bool). get_or x n false) ends_none
ends_false (t ∷ ts) e n =
    let neither = or_false _ _ e in
    ap (λ (x : List Bool). get_or x n false) (ends_step t ts) ∙ closer_false (effect_of t.kind) (begins_arrow ts) (ends_of ts) neither.0 (ends_false ts neither.1) n

first_is : (ends : List Bool) → first_end ends ≡ get_or ends 0 false
first_is [] = refl
first_is (x ∷ ends) = refl

no_end : (r ts : List Token) → closes_at_arrow ts ≡ false → IsRest r ts → false ≡ ends_at_arrow r
no_end r ts e whole = sym (ends_first ts ∙ first_is (ends_of ts) ∙ ends_false ts e 0)
no_end r (t ∷ ts) e (behind a) = no_end r ts (or_false _ _ e).1 a

pub nothing_has : {arrows : List Bool} (ts : List Token) → arrows ≡ [] → closes_at_arrow ts ≡ false → HasArrows arrows ts
nothing_has ts e none = rw e (record { each = λ r a. no_end r ts none a })

-- a table of some tokens is one of their rests
pub has_rest : {arrows : List Bool} {ts r : List Token} → HasArrows arrows ts → IsRest r ts → HasArrows arrows r
has_rest has a = record { each = λ rest b. has.each rest (rests_join a b) }

pub has_behind : {arrows : List Bool} {t : Token} {ts r : List Token} → HasArrows arrows ts → ts ≡ t ∷ r → HasArrows arrows r
has_behind has e = has_rest (rw e at has) (behind whole)

pub behind_less : {t : Token} {ts r : List Token} → ts ≡ t ∷ r → length r < length ts
behind_less e = rw e (omega arith)

pub has_next : {arrows : List Bool} {t : Token} {ts us r : List Token} → HasArrows arrows ts → IsRest us ts → us ≡ t ∷ r → HasArrows arrows r
has_next has a e = has_behind (has_rest has a) e

last_rest : {text : List ℕ} {s o : Bool} {p : PlainProcess} {ts r : List Token} → SpellsLast text s o p ts r → IsRest r ts
last_rest (last_sum a) = (sum_passes a).rest
last_rest (last_cond a) = (cond_passes a).rest

pub part_rest : {text : List ℕ} {p : PlainProcess} {ts r : List Token} → FindsPart text p ts r → IsRest r ts
part_rest (finds_last a) = last_rest a.is
part_rest (finds_multi a) = (multi_passes a.is).rest

pub atom_rest : {text : List ℕ} {p : PlainProcess} {ts r : List Token} → SpellsAtom text p ts r → IsRest r ts
atom_rest a = (atom_passes a).rest

pub left_rest : {text : List ℕ} {p : PlainProcess} {ts r : List Token} → FindsLeft text p ts r → IsRest r ts
left_rest a = (left_passes a.is).rest

pub operand_rest : {text : List ℕ} {p : PlainProcess} {ts r : List Token} → FindsOperand text p ts r → IsRest r ts
operand_rest a = (operand_passes a.is).rest

pub merge_rest : {text : List ℕ} {p : PlainProcess} {ts r : List Token} → FindsMerge text p ts r → IsRest r ts
merge_rest a = (merge_passes a.is).rest

pub vars_rest : {text : List ℕ} {gs : List PlainVarGroup} {ts r : List Token} → SpellsVars text gs ts r → IsRest r ts
vars_rest a = (vars_pass a).rest

pub has_behind_guard : {arrows : List Bool} {text : List ℕ} {c : PlainData} {ts r : List Token} → HasArrows arrows ts → SpellsGuard text c ts r → HasArrows arrows r
has_behind_guard has (spells_guard u h) = has_rest has (rests_join (unit_passes u).rest (behind whole))

pub has_under : {arrows : List Bool} {text : List ℕ} {o : Operation} {ts r : List Token} → HasArrows arrows ts → SpellsOperation text o ts r → HasArrows arrows r
has_under has a = has_rest has (operation_rest a)

-- What the pass over the tokens, from the last on, has made in front of a place.
pub record ScannedTo (tokens : List Token) (at : ℕ) (arrows ends : List Bool) (arrow : Bool) : Type 0 where
  pub within : at ≤ length tokens
  pub arrows_are : arrows ≡ arrows_of (drop at tokens)
  pub ends_are : reverse ends ≡ ends_of (drop at tokens)
  pub arrow_is : arrow ≡ begins_arrow (drop at tokens)

pub scan_begins : {arrows ends : List Bool} (tokens : List Token) → arrows ≡ false ∷ [] → ends ≡ [] → ScannedTo tokens (length tokens) arrows ends false
scan_begins tokens e f = record {
  within = omega arith;
  arrows_are = e ∙ sym (ap (λ (x : List Token). arrows_of x) (drop-length tokens) ∙ arrows_none);
  ends_are = ap (λ (x : List Bool). reverse x) f ∙ sym (ap (λ (x : List Token). ends_of x) (drop-length tokens) ∙ ends_none);
  arrow_is = sym (ap (λ (x : List Token). begins_arrow x) (drop-length tokens));
}

scan_taken : (t : Token) (ts us : List Token) (k : Kind) (ends later_ends : List Bool) {arrows later_arrows : List Bool} {arrow now top : Bool} → us ≡ t ∷ ts → k ≡ t.kind → arrows ≡ arrows_of ts
    → reverse ends ≡ ends_of ts → arrow ≡ begins_arrow ts → reverse later_ends ≡ with_closer (effect_of k) arrow (reverse ends) → top ≡ first_end (reverse later_ends) → later_arrows ≡ arrows ++ top ∷ []
    → now ≡ is_arrow k → (later_arrows ≡ arrows_of us) × (reverse later_ends ≡ ends_of us) × (now ≡ begins_arrow us)
scan_taken t ts us k ends later_ends {arrow = arrow} {top = top} e i a b c d f g h =
    let closed : reverse later_ends ≡ ends_of (t ∷ ts) =
    d ∙ ap (λ (x : Kind). with_closer (effect_of x) arrow (reverse ends)) i ∙ ap (λ (x : Bool). with_closer (effect_of t.kind) x (reverse ends)) c
    ∙ ap (λ (x : List Bool). with_closer (effect_of t.kind) (begins_arrow ts) x) b ∙ sym (ends_step t ts) in
    let first : top ≡ ends_at_arrow (t ∷ ts) = f ∙ ap (λ (x : List Bool). first_end x) closed ∙ sym (ends_first (t ∷ ts)) in
    rw e (g ∙ ap (λ (x : List Bool). x ++ top ∷ []) a ∙ ap (λ (x : Bool). arrows_of ts ++ x ∷ []) first ∙ sym (arrows_step t ts), closed, h ∙ ap is_arrow i)

pub scan_goes_on : (tokens : List Token) (at next : ℕ) (k : Kind) (d : Token) (ends later_ends : List Bool) {arrows later_arrows : List Bool} {arrow now top : Bool} → ScannedTo tokens at arrows ends arrow → next < at
    → at ≡ next + 1 → k ≡ (get_or tokens next d).kind → reverse later_ends ≡ with_closer (effect_of k) arrow (reverse ends) → top ≡ first_end (reverse later_ends) → later_arrows ≡ arrows ++ top ∷ []
    → now ≡ is_arrow k → ScannedTo tokens next later_arrows later_ends now
scan_goes_on tokens at next k d ends later_ends so_far less step i e f g h =
    let within = so_far.within in
    let inside : next < length tokens = omega (arith, within, less) in
    let same : drop at tokens ≡ drop (suc next) tokens = ap (λ (n : ℕ). drop n tokens) (step ∙ add-one next) in
    let all = scan_taken (get_or tokens next d) (drop (suc next) tokens) (drop next tokens) k ends later_ends (drop-cons tokens next d inside) i
    (so_far.arrows_are ∙ ap (λ (x : List Token). arrows_of x) same) (so_far.ends_are ∙ ap (λ (x : List Token). ends_of x) same) (so_far.arrow_is ∙ ap (λ (x : List Token). begins_arrow x) same) e f g h in
    record { within = omega (arith, inside); arrows_are = all.0; ends_are = all.1; arrow_is = all.2 }
