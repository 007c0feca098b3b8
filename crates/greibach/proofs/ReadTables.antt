-- What was read stands in each later table.
use Rattle.std.proofs.Common.{◌≡◌, ◌<◌, ◌≤◌, ◌+◌, ◌-◌, ◌⊎◌, inl, inr, ⊎_elim, ℕ, zero, suc, List, [], ◌∷◌, ◌++◌, map, length, get_or, take, drop, refl, sym, ap, ap₂, ◌∙◌, subst, arith, append_assoc, Option, None, Some}
use Rattle.std.specs.Prelude.{◌↔◌, IfSome, IfOk, OnOk, Result, Ok, Err, slice_get}
use Rattle.std.specs.List.{All, Contains}
use Rattle.std.proofs.lemmas.List.{length-append, length-map, map-append, take_more}
use Rattle.std.proofs.lemmas.List.Elements.{All-nil, All-cons, All-contains, Contains-append_left, Contains-push, Contains-push_cases}
use Rattle.data_theory.specs.declared.ids.ProcId.{ProcId}
use Rattle.data_theory.specs.declared.ids.VarId.{VarId}
use Rattle.data_theory.specs.declared.ids.TermId.{TermId}
use Rattle.data_theory.specs.Complete.{BeginsWith}
use Rattle.data_theory.specs.IdTrees.{Tree}
use Rattle.data_theory.proofs.PlaceLemmas.{read_last}
use Rattle.term_pool.specs.HeadTrees.{IsIn, AreIn}
use Rattle.term_pool.proofs.Lists.{contains_none}
use Rattle.process_terms.specs.declared.processes.Proc.{Proc}
use Rattle.process_terms.specs.PlainProcesses.{PlainAction, PlainProcess, processes_of, plain_process}
use Rattle.process_terms.specs.PlainProcesses as plain
use Rattle.process_terms.specs.Processes as written
use Rattle.process_terms.specs.Processes.{Body, written_choice, written_merge, written_starting, choice_of, merged_with, synced_with}
use Rattle.process_terms.specs.Meanings.{Entries, body_of, bodies_of}
use Rattle.proc_unfold.specs.Parallel.{HasParallel}
use Rattle.greibach.specs.PlacesInCode.{PlainPart, delta, act, choice, cond, sum, call, PlainPlace}
use Rattle.greibach.specs.OccurringVariables.{label_terms, those_among, params_at, rest_params}
use Rattle.greibach.specs.FittingPlaces.{IsThere}
use Rattle.greibach.specs.Readings.{IsPushed, AreNeeded, ReadsTerm}
use Rattle.greibach.specs.TableReadings.{AreNeededIn, HasPlace, Reads, ReadsEach, reads_delta, reads_nothing, reads_act, reads_call, reads_seq, reads_cond, reads_sum, reads_choice, reads_last, reads_more}
use Rattle.greibach.proofs.ReadParts.{IsNeededThere}
use Rattle.greibach.proofs.ReadPlaces.{begins_itself, begins_then, begins_pushed, still_read, there_grown, rest_wider, among_front, params_are}

-- ---- what is needed
params_stay : (ps table : List PlainPlace) (xs : List VarId) (n : ℕ) → BeginsWith ps table → IsThere ps xs n → params_at table n ≡ params_at ps n
params_stay ps table xs n b h = params_are table xs n (there_grown ps table xs n b h) ∙ sym (params_are ps xs n h)

rest_stays : (ps table : List PlainPlace) (xs : List VarId) (rest : Option ℕ) → BeginsWith ps table → IfSome rest (IsThere ps xs) → rest_params table rest ≡ rest_params ps rest
rest_stays ps table xs None b h = refl
rest_stays ps table xs (Some n) b h = params_stay ps table xs n b h

module _ (ts : List Tree) where
  pub needed_alone : (ps : List PlainPlace) (terms : List TermId) (rest : Option ℕ) (keys : List VarId) → AreNeeded ts terms ps rest keys → AreNeededIn ts ps terms rest [] keys
  needed_alone ps terms rest keys h v = (
    λ i. ⊎_elim inl (λ j. inr (inl j)) ((h v).0 i),
    λ u. ⊎_elim (λ j. (h v).1 (inl j)) (λ w. ⊎_elim (λ j. (h v).1 (inr j)) (λ k. absurd (contains_none k.0 k.1)) w) u,
  )

  pub needed_one_more : (ps : List PlainPlace) (terms : List TermId) (rest : Option ℕ) (inner : List ℕ) (keys more : List VarId) (n : ℕ) → AreNeededIn ts ps terms rest inner keys → ((v : VarId) → Contains more v ↔ (Contains keys v ⊎ Contains (params_at ps n) v))
      → AreNeededIn ts ps terms rest (inner ++ n ∷ []) more
  needed_one_more ps terms rest inner keys more n h w v = (
    λ i. ⊎_elim
        (λ j. ⊎_elim inl (λ u. inr (⊎_elim inl (λ k. inr (k.0, Contains-append_left inner (n ∷ []) k.0 k.1, k.2)) u)) ((h v).0 j))
        (λ j. inr (inr (n, Contains-push inner n, j)))
        ((w v).0 i),
    λ u. (w v).1 (⊎_elim (λ j. inl ((h v).1 (inl j))) (λ z. ⊎_elim (λ j. inl ((h v).1 (inr (inl j)))) (λ k. ⊎_elim
        (λ j. inl ((h v).1 (inr (inr (k.0, j, k.2)))))
        (λ e. inr (subst (λ m. Contains (params_at ps m) v) (sym e) k.2))
        (Contains-push_cases inner n k.0 k.1)) z) u),
  )

  pub needed_grown : (ps table : List PlainPlace) (xs ys : List VarId) (terms : List TermId) (rest : Option ℕ) (inner : List ℕ) (keys : List VarId) → BeginsWith ps table → IfSome rest (IsThere ps xs) → ((n : ℕ) → Contains inner n → IsThere ps ys n)
      → AreNeededIn ts ps terms rest inner keys → AreNeededIn ts table terms rest inner keys
  needed_grown ps table xs ys terms rest inner keys b there all h v = (
    λ i. ⊎_elim inl (λ u. inr (⊎_elim (λ j. inl (subst (λ l. Contains l v) (sym (rest_stays ps table xs rest b there)) j)) (λ k. inr (k.0, k.1, subst (λ l. Contains l v) (sym (params_stay ps table ys k.0 b (all k.0 k.1))) k.2)) u)) ((h v).0 i),
    λ u. (h v).1 (⊎_elim inl (λ w. inr (⊎_elim (λ j. inl (subst (λ l. Contains l v) (rest_stays ps table xs rest b there) j)) (λ k. inr (k.0, k.1, subst (λ l. Contains l v) (params_stay ps table ys k.0 b (all k.0 k.1)) k.2)) w)) u),
  )

  -- ---- a place that was pushed
  pub has_place : (ps new table : List PlainPlace) (scope xs ys keys : List VarId) (part : PlainPart) (rest : Option ℕ) (terms : List TermId) (inner : List ℕ) (n : ℕ) → BeginsWith new table → IfSome rest (IsThere ps xs) → ((m : ℕ) → Contains inner m → IsThere ps ys m)
      → AreNeededIn ts ps terms rest inner keys → AreIn ts terms → IsPushed ps part rest (those_among scope keys) new n → HasPlace ts table scope part rest terms inner (length ps)
  has_place ps new table scope xs ys keys part rest terms inner n b there all needed within pushed =
      let p : PlainPlace = record { part = part; rest = rest; params = those_among scope keys } in
      record {
        keys = keys;
        stands = still_read new table (length ps) p b (subst (λ l. slice_get l (length ps) ≡ Some p) (sym pushed.0) (read_last ps p));
        needed = needed_grown ps table xs ys terms rest inner keys (begins_then ps new table (begins_pushed ps new p pushed.0) b) there all needed;
        within = within;
      }

  pub pushed_long : (ps new : List PlainPlace) (part : PlainPart) (rest : Option ℕ) (params : List VarId) (n : ℕ) → IsPushed ps part rest params new n → suc (length ps) ≡ length new
  pushed_long ps new part rest params n pushed = let p : PlainPlace = record { part = part; rest = rest; params = params } in let l = length-append ps (p ∷ []) in let e : length new ≡ length (ps ++ p ∷ []) = ap length pushed.0 in omega (arith, l, e)

  -- at the last place
  at_last : (e : Entries) (reached : List ProcId) (table : List PlainPlace) (scope : List VarId) (b : Body) (rest : Option ℕ) (a c d n : ℕ) (rs ss : List ProcId) → Reads e ts reached table scope b rest a (suc c) rs ss c → suc c ≡ d → n ≡ c → Reads e ts reached table scope b rest a d rs ss n
  at_last e reached table scope b rest a c d n rs ss h long is = subst (λ k. Reads e ts reached table scope b rest a k rs ss n) long (subst (Reads e ts reached table scope b rest a (suc c) rs ss) (sym is) h)

  module _ {E : Type 0} (ps : List PlainPlace) where
    -- a place without inner ones
    one_ok : (r : Result ℕ E) (old reached : List ProcId) (scope keys : List VarId) (part : PlainPart) (rest : Option ℕ) (terms : List TermId) (new : List PlainPlace) (p : PlainProcess)
        → ((e : Entries) (all : List ProcId) (table : List PlainPlace) (n : ℕ) → BeginsWith reached all → HasPlace ts table scope part rest terms [] n → Reads e ts all table scope (body_of e p) rest n (suc n) old reached n)
        → IfSome rest (IsThere ps scope) → AreNeeded ts terms ps rest keys → AreIn ts terms → IfOk r (λ n. IsPushed ps part rest (those_among scope keys) new n) → IfOk r (λ n. ReadsTerm ts ps new old reached scope p rest n)
    one_ok (Err x) old reached scope keys part rest terms new p make there needed within pushed = tt
    one_ok (Ok n) old reached scope keys part rest terms new p make there needed within pushed = λ e all table b c free.
        at_last e all table scope (body_of e p) rest (length ps) (length ps) (length new) n old reached
        (make e all table (length ps) b (has_place ps new table scope scope scope keys part rest terms [] n c there (λ m i. absurd (contains_none m i)) (needed_alone ps terms rest keys needed) within pushed))
        (pushed_long ps new part rest (those_among scope keys) n pushed) pushed.1

    pub delta_reads : (r : Result ℕ E) (old reached : List ProcId) (scope keys : List VarId) (rest : Option ℕ) (new : List PlainPlace) → OnOk r (reached ≡ old) → IfSome rest (IsThere ps scope) → AreNeeded ts [] ps rest keys
        → IfOk r (λ n. IsPushed ps delta rest (those_among scope keys) new n) → IfOk r (λ n. ReadsTerm ts ps new old reached scope plain.delta rest n)
    delta_reads (Err x) old reached scope keys rest new same there needed pushed = tt
    delta_reads (Ok n) old reached scope keys rest new same there needed pushed =
        subst (λ l. ReadsTerm ts ps new old l scope plain.delta rest n) (sym same) (one_ok (Ok n) old old scope keys delta rest [] new plain.delta (λ e all table m b h. reads_delta h) there needed (All-nil (IsIn ts)) pushed)

    pub act_reads : (r : Result ℕ E) (old reached : List ProcId) (scope keys : List VarId) (m : List PlainAction) (rest : Option ℕ) (new : List PlainPlace) → OnOk r (reached ≡ old) → IfSome rest (IsThere ps scope) → AreNeeded ts (label_terms m) ps rest keys → AreIn ts (label_terms m)
        → IfOk r (λ n. IsPushed ps (act m) rest (those_among scope keys) new n) → IfOk r (λ n. ReadsTerm ts ps new old reached scope (plain.act m) rest n)
    act_reads (Err x) old reached scope keys m rest new same there needed within pushed = tt
    act_reads (Ok n) old reached scope keys m rest new same there needed within pushed =
        subst (λ l. ReadsTerm ts ps new old l scope (plain.act m) rest n) (sym same) (one_ok (Ok n) old old scope keys (act m) rest (label_terms m) new (plain.act m) (λ e all table k b h. reads_act m h) there needed within pushed)

    pub call_reads : (r : Result ℕ E) (old mid reached : List ProcId) (scope keys : List VarId) (k : ℕ) (x : ProcId) (ids : List TermId) (rest : Option ℕ) (new : List PlainPlace) → slice_get mid k ≡ Some x → ((y : ProcId) → Contains mid y → Contains old y ⊎ (x ≡ y)) → OnOk r (reached ≡ mid)
        → IfSome rest (IsThere ps scope) → AreNeeded ts ids ps rest keys → AreIn ts ids → IfOk r (λ n. IsPushed ps (call k ids) rest (those_among scope keys) new n) → IfOk r (λ n. ReadsTerm ts ps new old reached scope (plain.call x ids) rest n)
    call_reads (Err z) old mid reached scope keys k x ids rest new at only same there needed within pushed = tt
    call_reads (Ok n) old mid reached scope keys k x ids rest new at only same there needed within pushed =
        subst (λ l. ReadsTerm ts ps new old l scope (plain.call x ids) rest n) (sym same)
        (one_ok (Ok n) old mid scope keys (call k ids) rest ids new (plain.call x ids) (λ e all table m b h. reads_call k x ids (still_read mid all k x b at) only h) there needed within pushed)

  -- ---- what is read before a rest that was read
  pub one_step : (ps us : List PlainPlace) (old mid : List ProcId) (scope : List VarId) (p : PlainProcess) (rest : Option ℕ) (n : ℕ) → ReadsTerm ts ps us old mid scope p rest n → ReadsTerm ts ps us old mid scope (plain.seq (processes_of (p ∷ []))) rest n
  one_step ps us old mid scope p rest n h = h

  pub step_more : (ps us vs : List PlainPlace) (old mid new : List ProcId) (scope : List VarId) (p q : PlainProcess) (qs : List PlainProcess) (rest : Option ℕ) (m n : ℕ) → ReadsTerm ts ps us old mid scope (plain.seq (processes_of (q ∷ qs))) rest m
      → ReadsTerm ts us vs mid new scope p (Some m) n → BeginsWith us vs → BeginsWith mid new → ReadsTerm ts ps vs old new scope (plain.seq (processes_of (p ∷ q ∷ qs))) rest n
  step_more ps us vs old mid new scope p q qs rest m n h k b c e all table d f free =
      reads_seq (h e all table (begins_then mid new all c d) (begins_then us vs table b f) (λ j. free (inr j))) (k e all table d f (λ j. free (inl j)))

  -- ---- the operand of a sum
  pub sum_more : (ps us vs : List PlainPlace) (old mid new : List ProcId) (scope inner keys : List VarId) (x : VarId) (xs : List VarId) (p : PlainProcess) (rest : Option ℕ) (m n : ℕ) → inner ≡ scope ++ x ∷ [] → IfSome rest (IsThere us scope) → IsThere us inner m
      → ReadsTerm ts ps us old mid inner (plain.sum xs p) rest m → AreNeededIn ts us [] rest (m ∷ []) keys → new ≡ mid → IsPushed us (sum x m) rest (those_among scope keys) vs n → ReadsTerm ts ps vs old new scope (plain.sum (x ∷ xs) p) rest n
  sum_more ps us vs old mid new scope inner keys x xs p rest m n is there at h needed same pushed e all table b c free =
      let grown = begins_then us vs table (begins_pushed us vs (record { part = sum x m; rest = rest; params = those_among scope keys }) pushed.0) c in
      let k = h e all table (subst (λ l. BeginsWith l all) same b) grown free in
      subst (λ l. Reads e ts all table scope (body_of e (plain.sum (x ∷ xs) p)) rest (length ps) (length vs) old l n) (sym same)
      (at_last e all table scope (body_of e (plain.sum (x ∷ xs) p)) rest (length ps) (length us) (length vs) n old mid
      (reads_sum x (subst (λ l. Reads e ts all table l (body_of e (plain.sum xs p)) rest (length ps) (length us) old mid m) is k)
      (has_place us vs table scope scope inner keys (sum x m) rest [] (m ∷ []) n c there (λ z i. subst (IsThere us inner) (only_one m z i) at) needed (All-nil (IsIn ts)) pushed))
      (pushed_long us vs (sum x m) rest (those_among scope keys) n pushed) pushed.1)
    where
      only_one : (a z : ℕ) → Contains (a ∷ []) z → a ≡ z
      only_one a z i = ⊎_elim (λ j. absurd (contains_none z j)) (λ q. q) (Contains-push_cases [] a z i)

  -- ---- the operands of a condition
  pub cond_reads : {E : Type 0} (r : Result ℕ E) (ps qs us vs : List PlainPlace) (old mid last reached : List ProcId) (scope one_scope two_scope keys more most : List VarId) (p q : PlainProcess) (c : TermId) (rest : Option ℕ) (first second : ℕ) → BeginsWith qs us → BeginsWith mid last
      → IsIn ts c → IfSome rest (IsThere us scope) → IsThere us scope first → IsThere us scope second → ReadsTerm ts ps qs old mid scope p rest first → one_scope ≡ scope → ReadsTerm ts qs us mid last one_scope q rest second → two_scope ≡ one_scope → AreNeeded ts (c ∷ []) us rest keys
      → ((v : VarId) → Contains more v ↔ (Contains keys v ⊎ Contains (params_at us first) v)) → ((v : VarId) → Contains most v ↔ (Contains more v ⊎ Contains (params_at us second) v)) → OnOk r (reached ≡ last)
      → IfOk r (λ n. IsPushed us (cond c first second) rest (those_among two_scope most) vs n) → IfOk r (λ n. ReadsTerm ts ps vs old reached scope (plain.cond c p q) rest n)
  cond_reads (Err x) ps qs us vs old mid last reached scope one_scope two_scope keys more most p q c rest first second b d within there one two h e1 k e2 needed w z same pushed = tt
  cond_reads (Ok n) ps qs us vs old mid last reached scope one_scope two_scope keys more most p q c rest first second b d within there one two h e1 k e2 needed w z same pushed = λ e all table f g free.
      let push : IsPushed us (cond c first second) rest (those_among scope most) vs n = subst (λ l. IsPushed us (cond c first second) rest (those_among l most) vs n) (e2 ∙ e1) pushed in
      let grown = begins_then us vs table (begins_pushed us vs (record { part = cond c first second; rest = rest; params = those_among scope most }) push.0) g in
      let known : BeginsWith last all = subst (λ l. BeginsWith l all) same f in
      let left = h e all table (begins_then mid last all d known) (begins_then qs us table b grown) (λ j. free (inl j)) in
      let right = subst (λ l. Reads e ts all table l (body_of e q) rest (length qs) (length us) mid last second) e1 (k e all table known grown (λ j. free (inr j))) in
      subst (λ l. Reads e ts all table scope (body_of e (plain.cond c p q)) rest (length ps) (length vs) old l n) (sym same)
      (at_last e all table scope (body_of e (plain.cond c p q)) rest (length ps) (length us) (length vs) n old last
      (reads_cond c left right (has_place us vs table scope scope scope most (cond c first second) rest (c ∷ []) (first ∷ second ∷ []) n g there (λ m i. either m i)
      (needed_one_more us (c ∷ []) rest (first ∷ []) more most second (needed_one_more us (c ∷ []) rest [] keys more first (needed_alone us (c ∷ []) rest keys needed) w) z) (All-cons (IsIn ts) c [] within (All-nil (IsIn ts))) push))
      (pushed_long us vs (cond c first second) rest (those_among scope most) n push) push.1)
    where
      either : (m : ℕ) → Contains (first ∷ second ∷ []) m → IsThere us scope m
      either m i = ⊎_elim
          (λ j. ⊎_elim (λ l. absurd (contains_none m l)) (λ q. subst (IsThere us scope) q one) (Contains-push_cases [] first m j))
          (λ q. subst (IsThere us scope) q two)
          (Contains-push_cases (first ∷ []) second m i)

  -- ---- the operands of a `+`, one after another
  module _ (scope : List VarId) (rest : Option ℕ) (ps : List PlainPlace) (rs : List ProcId) where
    pub data ReadsRow : List PlainProcess → List PlainPlace → List ProcId → List ℕ → Type 0 where
      row_none : ReadsRow [] ps rs []
      row_more : {qs : List PlainProcess} {us : List PlainPlace} {mid : List ProcId} {ns : List ℕ} → ReadsRow qs us mid ns → (p : PlainProcess) (vs : List PlainPlace) (new : List ProcId) (n : ℕ) → BeginsWith us vs → BeginsWith mid new
          → ReadsTerm ts us vs mid new scope p rest n → ReadsRow (qs ++ p ∷ []) vs new (ns ++ n ∷ [])

    -- a chain of these operands before a last one
    abbrev pub chained : List Body → Body → Body
    chained [] b = b
    chained (p ∷ ps) b = written_choice p (chained ps b)

    chained_more : (ps : List Body) (p b : Body) → chained (ps ++ p ∷ []) b ≡ chained ps (written_choice p b)
    chained_more [] p b = refl
    chained_more (q ∷ ps) p b = ap (written_choice q) (chained_more ps p b)

    chained_last : (ps : List Body) (b : Body) → choice_of (ps ++ b ∷ []) ≡ chained ps b
    chained_last [] b = refl
    chained_last (p ∷ []) b = refl
    chained_last (p ∷ q ∷ ps) b = ap (written_choice p) (chained_last (q ∷ ps) b)

    -- no operand has a parallel operator
    abbrev AreSequential : Entries → List PlainProcess → Type 0
    AreSequential e [] = Unit {0}
    AreSequential e (p ∷ ps) = (HasParallel (body_of e p) → ⊥) × AreSequential e ps

    abbrev all_bodies : Entries → List PlainProcess → List Body
    all_bodies e ps = map (body_of e) ps

    bodies_are : (e : Entries) (ps : List PlainProcess) → bodies_of e (processes_of ps) ≡ all_bodies e ps
    bodies_are e [] = refl
    bodies_are e (p ∷ ps) = ap (λ l. body_of e p ∷ l) (bodies_are e ps)

    sequential_front : (e : Entries) (qs : List PlainProcess) (p : PlainProcess) → AreSequential e (qs ++ p ∷ []) → AreSequential e qs × (HasParallel (body_of e p) → ⊥)
    sequential_front e [] p h = (tt, h.0)
    sequential_front e (q ∷ qs) p h = let k = sequential_front e qs p h.1 in ((h.0, k.0), k.1)

    row_each : {qs : List PlainProcess} {us : List PlainPlace} {mid : List ProcId} {ns : List ℕ} → ReadsRow qs us mid ns → (e : Entries) (all : List ProcId) (table : List PlainPlace) → BeginsWith mid all → BeginsWith us table → AreSequential e qs
        → (b : Body) (c : ℕ) (last : List ProcId) (ms : List ℕ) → ReadsEach e ts all table scope b rest (length us) c mid last ms → ReadsEach e ts all table scope (chained (all_bodies e qs) b) rest (length ps) c rs last (ns ++ ms)
    row_each row_none e all table f g s b c last ms h = h
    row_each (row_more {qs = qs} {us = us} {mid = mid} {ns = ns} r p vs new n i j k) e all table f g s b c last ms h =
        let parted = sequential_front e qs p s in
        let m = begins_then mid new all j f in
        let t = begins_then us vs table i g in
        let one = k e all table f g parted.1 in
        let bodies : chained (all_bodies e (qs ++ p ∷ [])) b ≡ chained (all_bodies e qs) (written_choice (body_of e p) b) = ap (λ l. chained l b) (map-append (body_of e) qs (p ∷ [])) ∙ chained_more (all_bodies e qs) (body_of e p) b in
        subst (λ l. ReadsEach e ts all table scope (chained (all_bodies e (qs ++ p ∷ [])) b) rest (length ps) c rs last l) (sym (append_assoc ns (n ∷ []) ms))
        (subst (λ z. ReadsEach e ts all table scope z rest (length ps) c rs last (ns ++ n ∷ ms)) (sym bodies)
        (row_each r e all table m t parted.0 (written_choice (body_of e p) b) c last (n ∷ ms) (reads_more one h)))

    sequential_from : (e : Entries) (qs : List PlainProcess) (p : PlainProcess) → (HasParallel (chained (all_bodies e qs) (body_of e p)) → ⊥) → AreSequential e (qs ++ p ∷ [])
    sequential_from e [] p free = (free, tt)
    sequential_from e (q ∷ qs) p free = (λ h. free (inl h), sequential_from e qs p (λ h. free (inr h)))

    -- a choice of several, by its first operand and the others
    choose : (e : Entries) (all : List ProcId) (table : List PlainPlace) (p q : Body) (a c n m : ℕ) (ns : List ℕ) (last : List ProcId) → ReadsEach e ts all table scope (written_choice p q) rest a c rs last (n ∷ m ∷ ns) → HasPlace ts table scope (choice (n ∷ m ∷ ns)) rest [] (n ∷ m ∷ ns) c
        → Reads e ts all table scope (written_choice p q) rest a (suc c) rs last c
    choose e all table p q a c n m ns last (reads_more one others) place = reads_choice one others place

    choose_any : (e : Entries) (all : List ProcId) (table : List PlainPlace) (bs : List Body) (b : Body) (a c : ℕ) (ns : List ℕ) (last : List ProcId) → 0 < length bs → length ns ≡ length bs + 1 → ReadsEach e ts all table scope (chained bs b) rest a c rs last ns
        → HasPlace ts table scope (choice ns) rest [] ns c → Reads e ts all table scope (chained bs b) rest a (suc c) rs last c
    choose_any e all table [] b a c ns last some long h place = absurd (omega (arith, some))
    choose_any e all table (p ∷ bs) b a c [] last some long h place = absurd (omega (arith, long))
    choose_any e all table (p ∷ bs) b a c (n ∷ []) last some long h place = absurd (omega (arith, long))
    choose_any e all table (p ∷ bs) b a c (n ∷ m ∷ ns) last some long h place = choose e all table p (chained bs b) a c n m ns last h place

    row_long : {qs : List PlainProcess} {us : List PlainPlace} {mid : List ProcId} {ns : List ℕ} → ReadsRow qs us mid ns → length ns ≡ length qs
    row_long row_none = refl
    row_long (row_more {qs = qs} {ns = ns} r p vs new n i j k) = let l = row_long r in let x = length-append qs (p ∷ []) in let y = length-append ns (n ∷ []) in omega (arith, l, x, y)

    -- all operands but one: of one alone the place is that of the operand
    chosen : (keys : List VarId) (ws : List PlainPlace) (n : ℕ) {qs : List PlainProcess} {us : List PlainPlace} {mid : List ProcId} {ns : List ℕ} → ReadsRow qs us mid ns → (length qs ≡ 1 → ⊥) → IfSome rest (IsThere us scope) → ((m : ℕ) → Contains ns m → IsThere us scope m)
        → AreNeededIn ts us [] rest ns keys → IsPushed us (choice ns) rest (those_among scope keys) ws n → ReadsTerm ts ps ws rs mid scope (plain.choice (processes_of qs)) rest n
    chosen keys ws n row_none two there all needed pushed e whole table b c free =
        at_last e whole table scope (body_of e (plain.choice (processes_of []))) rest (length ps) (length ps) (length ws) n rs rs
        (reads_nothing (has_place ps ws table scope scope scope keys (choice []) rest [] [] n c there all needed (All-nil (IsIn ts)) pushed)) (pushed_long ps ws (choice []) rest (those_among scope keys) n pushed) pushed.1
    chosen keys ws n (row_more {qs = qs} {us = us} {mid = mid} {ns = ns} row p vs new m i j k) two there all needed pushed e whole table b c free =
        let grown = begins_then vs ws table (begins_pushed vs ws (record { part = choice (ns ++ m ∷ []); rest = rest; params = those_among scope keys }) pushed.0) c in
        let body : body_of e (plain.choice (processes_of (qs ++ p ∷ []))) ≡ chained (all_bodies e qs) (body_of e p) = ap choice_of (bodies_are e (qs ++ p ∷ []) ∙ map-append (body_of e) qs (p ∷ [])) ∙ chained_last (all_bodies e qs) (body_of e p) in
        let parted = sequential_front e qs p (sequential_from e qs p (λ h. free (subst HasParallel (sym body) h))) in
        let one = k e whole table b grown parted.1 in
        let each = row_each row e whole table (begins_then mid new whole j b) (begins_then us vs table i grown) parted.0 (body_of e p) (length vs) new (m ∷ []) (reads_last one) in
        let count = row_long row in
        let mapped = length-map qs (body_of e) in
        let pushed_count = length-append ns (m ∷ []) in
        subst (λ z. Reads e ts whole table scope z rest (length ps) (length ws) rs new n) (sym body)
        (at_last e whole table scope (chained (all_bodies e qs) (body_of e p)) rest (length ps) (length vs) (length ws) n rs new
        (choose_any e whole table (all_bodies e qs) (body_of e p) (length ps) (length vs) (ns ++ m ∷ []) new (omega (arith, mapped, several qs p two)) (omega (arith, mapped, count, pushed_count)) each
        (has_place vs ws table scope scope scope keys (choice (ns ++ m ∷ [])) rest [] (ns ++ m ∷ []) n c there all needed (All-nil (IsIn ts)) pushed))
        (pushed_long vs ws (choice (ns ++ m ∷ [])) rest (those_among scope keys) n pushed) pushed.1)
      where
        several : (qs : List PlainProcess) (p : PlainProcess) → (length (qs ++ p ∷ []) ≡ 1 → ⊥) → 0 < length qs
        several [] p f = absurd (f refl)
        several (q ∷ qs) p f = omega arith

    pub choice_reads : {E : Type 0} (r : Result ℕ E) (qs : List PlainProcess) (us vs : List PlainPlace) (mid reached : List ProcId) (inner keys : List VarId) (ns : List ℕ) → ReadsRow qs us mid ns → (length qs ≡ 1 → ⊥) → IfSome rest (IsThere us scope) → ((n : ℕ) → Contains ns n → IsThere us scope n)
        → AreNeededIn ts us [] rest ns keys → inner ≡ scope → OnOk r (reached ≡ mid) → IfOk r (λ n. IsPushed us (choice ns) rest (those_among inner keys) vs n) → IfOk r (λ n. ReadsTerm ts ps vs rs reached scope (plain.choice (processes_of qs)) rest n)
    choice_reads (Err x) qs us vs mid reached inner keys ns row two there all needed is same pushed = tt
    choice_reads (Ok n) qs us vs mid reached inner keys ns row two there all needed is same pushed =
        subst (λ l. ReadsTerm ts ps vs rs l scope (plain.choice (processes_of qs)) rest n) (sym same) (chosen keys vs n row two there all needed (subst (λ l. IsPushed us (choice ns) rest (those_among l keys) vs n) is pushed))

-- ---- lists from a place on
drop_front : {A : Type 0} (xs : List A) (k : ℕ) (d : A) → k < length xs → drop k xs ≡ get_or xs k d ∷ drop (suc k) xs
drop_front [] k d l = absurd (omega (arith, l))
drop_front (x ∷ xs) zero d l = refl
drop_front (x ∷ xs) (suc k) d l = drop_front xs k d (omega (arith, l))

drop_some : {A : Type 0} (xs : List A) (k : ℕ) → k < length xs → (x : A) × (ys : List A) × (drop k xs ≡ x ∷ ys)
drop_some [] k l = absurd (omega (arith, l))
drop_some (x ∷ xs) zero l = (x, xs, refl)
drop_some (x ∷ xs) (suc k) l = drop_some xs k (omega (arith, l))

pub drop_all : {A : Type 0} (xs : List A) (k : ℕ) → length xs ≤ k → drop k xs ≡ []
drop_all [] zero l = refl
drop_all [] (suc k) l = refl
drop_all (x ∷ xs) zero l = absurd (omega (arith, l))
drop_all (x ∷ xs) (suc k) l = drop_all xs k (omega (arith, l))

before : {A : Type 0} (xs : List A) (left : ℕ) (d : A) → 0 < left → left ≤ length xs → d ≡ get_or xs (left - 1) d → drop (left - 1) xs ≡ d ∷ drop left xs
before xs left d some most is =
    let back : suc (left - 1) ≡ left = omega (arith, some) in
    drop_front xs (left - 1) d (omega (arith, some, most)) ∙ ap₂ (λ x n. x ∷ drop n xs) (sym is) back

pub operand_there : (us : List PlainPlace) (scope keys : List VarId) (ns : List ℕ) (n : ℕ) → All (IsNeededThere us scope keys) ns → Contains ns n → IsThere us scope n
operand_there us scope keys ns n h i = let k = All-contains (IsNeededThere us scope keys) ns n h i in k.there

module _ (ts : List Tree) where
  -- the operands of a `.` from one on
  abbrev pub steps_from : List Proc → ℕ → PlainProcess
  steps_from parts left = plain.seq (processes_of (map plain_process (drop left parts)))

  pub last_step : (ps us : List PlainPlace) (old mid : List ProcId) (scope : List VarId) (parts : List Proc) (left : ℕ) (d : Proc) (rest : Option ℕ) (n : ℕ) → 0 < length parts → left ≡ length parts - 1 → d ≡ get_or parts left d → ReadsTerm ts ps us old mid scope (plain_process d) rest n
      → ReadsTerm ts ps us old mid scope (steps_from parts left) rest n
  last_step ps us old mid scope parts left d rest n some e is h =
      let k : drop left parts ≡ d ∷ [] = drop_front parts left d (omega (arith, some, e)) ∙ ap₂ (λ x l. x ∷ l) (sym is) (drop_all parts (suc left) (omega (arith, some, e))) in
      subst (λ l. ReadsTerm ts ps us old mid scope (plain.seq (processes_of (map plain_process l))) rest n) (sym k) (one_step ts ps us old mid scope (plain_process d) rest n h)

  pub step_before : (ps us vs : List PlainPlace) (old mid new : List ProcId) (scope inner : List VarId) (parts : List Proc) (left : ℕ) (d : Proc) (rest : Option ℕ) (m n : ℕ) → 0 < left → left < length parts → d ≡ get_or parts (left - 1) d → inner ≡ scope → BeginsWith us vs → BeginsWith mid new
      → ReadsTerm ts ps us old mid scope (steps_from parts left) rest m → ReadsTerm ts us vs mid new inner (plain_process d) (Some m) n → ReadsTerm ts ps vs old new scope (steps_from parts (left - 1)) rest n
  step_before ps us vs old mid new scope inner parts left d rest m n some most is e b c h k =
      let r = drop_some parts left most in
      let cut : drop (left - 1) parts ≡ d ∷ r.0 ∷ r.1 = before parts left d some (omega (arith, most)) is ∙ ap (λ l. d ∷ l) r.2 in
      subst (λ l. ReadsTerm ts ps vs old new scope (plain.seq (processes_of (map plain_process l))) rest n) (sym cut)
      (step_more ts ps us vs old mid new scope (plain_process d) (plain_process r.0) (map plain_process r.1) rest m n
      (subst (λ l. ReadsTerm ts ps us old mid scope (plain.seq (processes_of (map plain_process l))) rest m) r.2 h)
      (subst (λ l. ReadsTerm ts us vs mid new l (plain_process d) (Some m) n) e k) b c)

  -- the variables of a sum from one on
  pub sum_before : (ps us vs : List PlainPlace) (old mid new : List ProcId) (outer cut keys more vars : List VarId) (p : PlainProcess) (left : ℕ) (d : VarId) (rest : Option ℕ) (m n : ℕ) → 0 < left → left ≤ length vars → d ≡ get_or vars (left - 1) d → cut ≡ outer ++ take (left - 1) vars → IfSome rest (IsThere us outer)
      → IsThere us (outer ++ take left vars) m → ReadsTerm ts ps us old mid (outer ++ take left vars) (plain.sum (drop left vars) p) rest m → AreNeeded ts [] us rest keys → ((v : VarId) → Contains more v ↔ (Contains keys v ⊎ Contains (params_at us m) v)) → new ≡ mid
      → IsPushed us (sum d m) rest (those_among cut more) vs n → ReadsTerm ts ps vs old new (outer ++ take (left - 1) vars) (plain.sum (drop (left - 1) vars) p) rest n
  sum_before ps us vs old mid new outer cut keys more vars p left d rest m n some most is e there at h needed one same pushed =
      let back : (left - 1) + 1 ≡ left = omega (arith, some) in
      let step : take left vars ≡ take (left - 1) vars ++ d ∷ [] = ap (λ k. take k vars) (sym back) ∙ take_more vars (left - 1) d (omega (arith, some, most)) ∙ ap (λ x. take (left - 1) vars ++ x ∷ []) (sym is) in
      let full : outer ++ take left vars ≡ (outer ++ take (left - 1) vars) ++ d ∷ [] = ap (λ z. outer ++ z) step ∙ sym (append_assoc outer (take (left - 1) vars) (d ∷ [])) in
      let wider : IfSome rest (IsThere us (outer ++ take (left - 1) vars)) = rest_wider us us outer (outer ++ take (left - 1) vars) rest (begins_itself us) (among_front outer (take (left - 1) vars)) there in
      subst (λ l. ReadsTerm ts ps vs old new (outer ++ take (left - 1) vars) (plain.sum l p) rest n) (sym (before vars left d some most is))
      (sum_more ts ps us vs old mid new (outer ++ take (left - 1) vars) (outer ++ take left vars) more d (drop left vars) p rest m n full wider at h
      (needed_one_more ts us [] rest [] keys more m (needed_alone ts us [] rest keys needed) one) same (subst (λ l. IsPushed us (sum d m) rest (those_among l more) vs n) e pushed))

  -- one more operand of a `+`
  pub row_pushed : (scope : List VarId) (rest : Option ℕ) (ps : List PlainPlace) (rs : List ProcId) (parts : List Proc) (i : ℕ) (d : Proc) (us vs : List PlainPlace) (mid new : List ProcId) (inner : List VarId) (ns ms : List ℕ) (n : ℕ) → i < length parts → d ≡ get_or parts i d → inner ≡ scope
      → ReadsRow ts scope rest ps rs (map plain_process (take i parts)) us mid ns → BeginsWith us vs → BeginsWith mid new → ReadsTerm ts us vs mid new inner (plain_process d) rest n → ms ≡ ns ++ n ∷ [] → ReadsRow ts scope rest ps rs (map plain_process (take (i + 1) parts)) vs new ms
  row_pushed scope rest ps rs parts i d us vs mid new inner ns ms n l is e row b c h pushed =
      let parts_are : map plain_process (take (i + 1) parts) ≡ map plain_process (take i parts) ++ plain_process d ∷ [] =
      ap (map plain_process) (take_more parts i d l ∙ ap (λ x. take i parts ++ x ∷ []) (sym is)) ∙ map-append plain_process (take i parts) (d ∷ []) in
      subst (λ qs. ReadsRow ts scope rest ps rs qs vs new ms) (sym parts_are)
      (subst (λ z. ReadsRow ts scope rest ps rs (map plain_process (take i parts) ++ plain_process d ∷ []) vs new z) (sym pushed)
      (row_more row (plain_process d) vs new n b c (subst (λ z. ReadsTerm ts us vs mid new z (plain_process d) rest n) e h)))

-- ---- a `||`
pub merged_parallel : (p q : Body) (qs : List Body) → HasParallel (merged_with (written_merge p q) qs)
merged_parallel p q [] = tt
merged_parallel p q (r ∷ qs) = merged_parallel (written_merge p q) r qs

pub merge_reads : {E : Type 0} (ts : List Tree) (r : Result ℕ E) (ps us : List PlainPlace) (old new : List ProcId) (scope : List VarId) (rest : Option ℕ) (qs : List PlainProcess) → (length qs ≡ 1 → ⊥) → IfOk r (λ n. ReadsTerm ts ps us old new scope plain.delta rest n)
    → IfOk r (λ n. ReadsTerm ts ps us old new scope (plain.merge (processes_of qs)) rest n)
merge_reads ts (Err x) ps us old new scope rest qs several h = tt
merge_reads ts (Ok n) ps us old new scope rest [] several h = h
merge_reads ts (Ok n) ps us old new scope rest (p ∷ []) several h = absurd (several refl)
merge_reads ts (Ok n) ps us old new scope rest (p ∷ q ∷ qs) several h = λ e all table b c free. absurd (free (merged_parallel (body_of e p) (body_of e q) (bodies_of e (processes_of qs))))

-- ---- a `|`
pub synced_parallel : (p q : Body) (qs : List Body) → HasParallel (synced_with (written_starting written.sync p q) qs)
synced_parallel p q [] = tt
synced_parallel p q (r ∷ qs) = synced_parallel (written_starting written.sync p q) r qs

pub sync_reads : {E : Type 0} (ts : List Tree) (r : Result ℕ E) (ps us : List PlainPlace) (old new : List ProcId) (scope : List VarId) (rest : Option ℕ) (qs : List PlainProcess) → (length qs ≡ 1 → ⊥) → IfOk r (λ n. ReadsTerm ts ps us old new scope plain.delta rest n)
    → IfOk r (λ n. ReadsTerm ts ps us old new scope (plain.sync (processes_of qs)) rest n)
sync_reads ts (Err x) ps us old new scope rest qs several h = tt
sync_reads ts (Ok n) ps us old new scope rest [] several h = h
sync_reads ts (Ok n) ps us old new scope rest (p ∷ []) several h = absurd (several refl)
sync_reads ts (Ok n) ps us old new scope rest (p ∷ q ∷ qs) several h = λ e all table b c free. absurd (free (synced_parallel (body_of e p) (body_of e q) (bodies_of e (processes_of qs))))
