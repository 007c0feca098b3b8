-- Functions that get their signs one after another.
use Rattle.std.proofs.lemmas.Bool.{cases_eq}
use Rattle.std.proofs.Common.{◌+◌, length-append, ◌≡◌, ◌≢◌, ◌⊎◌, inl, inr, ◌<◌, ℕ, zero, suc, length, get_or, set, take, List, [], ◌∷◌, ◌++◌, refl, sym, ap, ◌∙◌, subst, arith, Some, None, length-set}
use Rattle.std.specs.Prelude.{Option, IfSome, slice_get}
use Rattle.std.specs.List.{All, Contains}
use Rattle.std.proofs.lemmas.List.{get_or-set_same, get_or-set_other}
use Rattle.std.proofs.lemmas.List.Elements.{All-head, All-tail, All-weaker, All-contains}
use Rattle.std.proofs.lemmas.Option.{slice_get_within}
use Rattle.data_theory.specs.declared.ids.SortId.{SortId}
use Rattle.data_theory.specs.declared.ids.FunId.{FunId}
use Rattle.data_theory.specs.declared.rows.Row.{Row}
use Rattle.data_theory.specs.declared.words.Word.{Word}
use Rattle.data_theory.specs.Terms.{function}
use Rattle.data_theory.specs.Declarations as theory
use Rattle.data_theory.specs.Declarations.{Role, mapping, constructor, projection, recogniser, function_at}
use Rattle.data_theory.specs.declared.sort_table.SortKind.{SortKind}
use Rattle.data_theory.specs.Functions.{Function, arguments_of}
use Rattle.data_theory.specs.Rows.{row_word}
use Rattle.data_theory.specs.IdTables.{IsRow, IsEntry, declared, built_in}
use Rattle.data_theory.specs.SignatureLaws.{symbol_of_row}
use Rattle.data_theory.specs.Sorts.{SortInfo, kind_of}
use Rattle.data_theory.specs.Signature.{Sig}
use Rattle.data_theory.specs.IdData.{constructors_of, role_meant, data_meant}
use Rattle.data_theory.specs.IdRoles.{declared_number, HasRole, constructs, projects, recognises}
use Rattle.data_theory.specs.IdTerms.{symbol_under}
use Rattle.data_theory.specs.WholeSignatures.{IsSignature}
use Rattle.data_theory.proofs.IdDataLemmas.{holds_of_role, constructor_tells, roles_are_found}
use Rattle.data_theory.proofs.IdRoleLemmas.{role_below}
use Rattle.data_theory.proofs.IdSymbolLemmas.{holds_at, built_in_is, declared_functions_stand_in_the_data}
use Rattle.data_theory.proofs.IdSortLemmas.{read_within}
use Rattle.data_rewriter.proofs.ListFacts.{all_next, holds_in, all_by_contained, read_front, read_back, reads_at, if_there, if_weaker}
use Rattle.data_rewriter.proofs.WordSigns.{kind_at}
use Rattle.data_rewriter.specs.declared.signs.Sign.{Sign}
use Rattle.data_rewriter.specs.declared.signs.Sign.TheVariants as signs
use Rattle.data_rewriter.specs.Standing.{IsSymbolOf}
use Rattle.data_rewriter.specs.Signs.{HasSign, sign_at}
use Rattle.data_rewriter.specs.Views.{AreSigns}
use Rattle.data_rewriter.specs.Marking.{IsOfRow, IsFirstSign, IsSignByWord, IsMark, Marks, IsMarked, AreMarked, AreMarkedWhereThere}

-- ---- marks one after another
module _ (sig : Sig) where
  pub nothing_marked : (old : List Sign) → Marks sig old old
  nothing_marked old = record { count = refl; each = λ f. inl refl }

  pub then_marks : (a b c : List Sign) → Marks sig a b → Marks sig b c → Marks sig a c
  then_marks a b c x y = record {
    count = y.count ∙ x.count;
    each = λ f. elim (y.each f) [
      | inl e ↦ elim (x.each f) [ inl q ↦ inl (e ∙ q) | inr k ↦ inr (subst (IsMark sig f) (sym e) k) ]
      | inr k ↦ inr k
    ];
  }

  pub marks_one : (old : List Sign) (f : FunId) (s : Sign) → f.0 < length old → IsMark sig f s → Marks sig old (set old f.0 s)
  marks_one old f s l is = record {
    count = length-set old f.0 s;
    each = λ g. elim (cases_eq g.0 f.0) [
      | inl e ↦
          let same : f ≡ g = ap (λ (n : ℕ). record { 0 = n }) (sym e) in
          let at : sign_at (set old f.0 s) f ≡ s = get_or-set_same old f.0 s signs.True l in
          inr (subst (λ (x : FunId). IsMark sig x (sign_at (set old f.0 s) x)) same (subst (IsMark sig f) (sym at) is))
      | inr n ↦ inl (get_or-set_other old f.0 g.0 s signs.True n)
    ];
  }

  -- what is marked stays marked
  pub stays_marked : (old new : List Sign) → Marks sig old new → (f : FunId) → IsMarked old f → IsMarked new f
  stays_marked old new h f is e = elim (h.each f) [ inl q ↦ is (sym q ∙ e) | inr k ↦ k.1 e ]

  pub stay_marked : (old new : List Sign) → Marks sig old new → (fs : List FunId) → AreMarked old fs → AreMarked new fs
  stay_marked old new h fs all = All-weaker (IsMarked old) (IsMarked new) (stays_marked old new h) fs all

-- the same without a signature: a write doesn't take a mark away
pub marked_after : (old : List Sign) (f : FunId) (s : Sign) → f.0 < length old → s ≢ signs.Other → IsMarked (set old f.0 s) f
marked_after old f s l n e = n (sym (get_or-set_same old f.0 s signs.True l) ∙ e)

pub marked_still : (old : List Sign) (f g : FunId) (s : Sign) → f.0 < length old → s ≢ signs.Other → IsMarked old g → IsMarked (set old f.0 s) g
marked_still old f g s l n is e = elim (cases_eq g.0 f.0) [
  | inl q ↦ n (sym (get_or-set_same old f.0 s signs.True l) ∙ ap (λ (k : ℕ). get_or (set old f.0 s) k signs.True) (sym q) ∙ e)
  | inr d ↦ is (sym (get_or-set_other old f.0 g.0 s signs.True d) ∙ e)
]

pub no_constructor_is_other : signs.Constructor ≢ signs.Other
no_constructor_is_other e = cc

pub no_projection_is_other : (c : FunId) (k : ℕ) → signs.Projection c k ≢ signs.Other
no_projection_is_other c k e = cc

pub no_recogniser_is_other : (c : FunId) → signs.Recogniser c ≢ signs.Other
no_recogniser_is_other c e = cc

-- ---- loops
pub signs_pushed : (sig : Sig) (old new : List Sign) (n : ℕ) (s : Sign) → new ≡ old ++ s ∷ [] → (length old ≡ n) × ((f : FunId) → f.0 < n → IsFirstSign sig f (sign_at old f)) → IsFirstSign sig (record { 0 = n }) s → (length new ≡ n + 1) × ((f : FunId) → f.0 < n + 1 → IsFirstSign sig f (sign_at new f))
signs_pushed sig old new n s e h is = (
  (let a = ap length e in let b = length-append old (s ∷ []) in let c = h.0 in omega (arith, a, b, c)),
  (λ f l. elim (cases_eq f.0 n) [
    | inl q ↦
        let same : record { 0 = n } ≡ f = ap (λ (k : ℕ). record { 0 = k }) (sym q) in
        let at : sign_at new f ≡ s = ap (λ (l : List Sign). get_or l f.0 signs.True) e ∙ read_back old s f.0 signs.True (q ∙ sym h.0) in
        subst (IsFirstSign sig f) (sym at) (subst (λ (x : FunId). IsFirstSign sig x s) same is)
    | inr d ↦
        let before : f.0 < n = omega (arith, l, d) in
        let at : sign_at new f ≡ sign_at old f = ap (λ (l : List Sign). get_or l f.0 signs.True) e ∙ read_front old s f.0 signs.True (let c = h.0 in omega (arith, before, c)) in
        subst (IsFirstSign sig f) (sym at) (h.1 f before)
  ]),
)

-- the constructors in front are marked
abbrev pub AreMarkedUpTo : List Sign → List Sign → List FunId → ℕ → Type 0
AreMarkedUpTo first now fs i = (length now ≡ length first) × ((sig : Sig) → All (λ (f : FunId). IsMark sig f signs.Constructor) fs → Marks sig first now) × AreMarked now (take i fs)

pub marks_next : (first now : List Sign) (fs : List FunId) (i next : ℕ) (d : FunId) → next ≡ suc i → i < length fs → All (λ (f : FunId). f.0 < length first) fs → AreMarkedUpTo first now fs i → AreMarkedUpTo first (set now (get_or fs i d).0 signs.Constructor) fs next
marks_next first now fs i next d e l within h =
    let f : FunId = get_or fs i d in
    let inside : f.0 < length now = (let w = holds_in (λ (f : FunId). f.0 < length first) fs i d l within in let c = h.0 in omega (arith, w, c)) in (
      length-set now f.0 signs.Constructor ∙ h.0,
      (λ sig all. then_marks sig first now (set now f.0 signs.Constructor) (h.1 sig all) (marks_one sig now f signs.Constructor inside (holds_in (λ (f : FunId). IsMark sig f signs.Constructor) fs i d l all))),
      all_next (IsMarked (set now f.0 signs.Constructor)) fs i next d e l (All-weaker (IsMarked now) (IsMarked (set now f.0 signs.Constructor)) (λ g m. marked_still now f g signs.Constructor inside no_constructor_is_other m) (take i fs) h.2) (marked_after now f signs.Constructor inside no_constructor_is_other),
    )

-- the projections in front are marked
abbrev pub ArePlacesMarked : FunId → List Sign → List Sign → List (Option FunId) → ℕ → Type 0
ArePlacesMarked c first now ps i = (length now ≡ length first) × ((sig : Sig) → ((k : ℕ) (p : FunId) → slice_get ps k ≡ Some (Some p) → IsMark sig p (signs.Projection c k)) → Marks sig first now) × AreMarkedWhereThere now (take i ps)

pub places_next : (c : FunId) (first now : List Sign) (ps : List (Option FunId)) (i next : ℕ) (d : Option FunId) (p : FunId) → next ≡ suc i → i < length ps → get_or ps i d ≡ Some p → ((k : ℕ) (q : FunId) → slice_get ps k ≡ Some (Some q) → q.0 < length first) → ArePlacesMarked c first now ps i → ArePlacesMarked c first (set now p.0 (signs.Projection c i)) ps next
places_next c first now ps i next d p e l is within h =
    let s = signs.Projection c i in
    let there = reads_at ps i d (Some p) l is in
    let inside : p.0 < length now = (let w = within i p there in let n = h.0 in omega (arith, w, n)) in (
      length-set now p.0 s ∙ h.0,
      (λ sig all. then_marks sig first now (set now p.0 s) (h.1 sig all) (marks_one sig now p s inside (all i p there))),
      all_next (λ (o : Option FunId). IfSome o (IsMarked (set now p.0 s))) ps i next d e l
          (All-weaker (λ (o : Option FunId). IfSome o (IsMarked now)) (λ (o : Option FunId). IfSome o (IsMarked (set now p.0 s))) (if_weaker (IsMarked now) (IsMarked (set now p.0 s)) (λ g m. marked_still now p g s inside (no_projection_is_other c i) m)) (take i ps) h.2)
          (subst (λ (o : Option FunId). IfSome o (IsMarked (set now p.0 s))) (sym is) (marked_after now p s inside (no_projection_is_other c i))),
    )

pub places_passed : (c : FunId) (first now : List Sign) (ps : List (Option FunId)) (i next : ℕ) (d : Option FunId) → next ≡ suc i → i < length ps → get_or ps i d ≡ None → ArePlacesMarked c first now ps i → ArePlacesMarked c first now ps next
places_passed c first now ps i next d e l is h = (h.0, h.1, all_next (λ (o : Option FunId). IfSome o (IsMarked now)) ps i next d e l h.2 (subst (λ (o : Option FunId). IfSome o (IsMarked now)) (sym is) tt))

-- the parts of the functions in front are marked
abbrev pub ArePartsMarked : Sig → List Sign → Function → Type 0
ArePartsMarked sig now h = AreMarkedWhereThere now h.projections × IfSome h.test (IsMarked now)

pub parts_next : (sig : Sig) (first old new : List Sign) (n : ℕ) → Marks sig first old × ((c : FunId) (h : Function) → c.0 < n → slice_get sig.functions c.0 ≡ Some h → ArePartsMarked sig old h)
    → Marks sig old new → IfSome (slice_get sig.functions n) (ArePartsMarked sig new)
    → Marks sig first new × ((c : FunId) (h : Function) → c.0 < n + 1 → slice_get sig.functions c.0 ≡ Some h → ArePartsMarked sig new h)
parts_next sig first old new n before marks here = (
  then_marks sig first old new before.0 marks,
  (λ c h l at. elim (cases_eq c.0 n) [
    | inl e ↦ if_there (ArePartsMarked sig new) (slice_get sig.functions n) h (ap (λ (k : ℕ). slice_get sig.functions k) (sym e) ∙ at) here
    | inr d ↦
        let was = before.1 c h (omega (arith, l, d)) at in (
          All-weaker (λ (o : Option FunId). IfSome o (IsMarked old)) (λ (o : Option FunId). IfSome o (IsMarked new)) (if_weaker (IsMarked old) (IsMarked new) (stays_marked sig old new marks)) h.projections was.0,
          if_weaker (IsMarked old) (IsMarked new) (stays_marked sig old new marks) h.test was.1,
        )
  ]),
)

-- ---- roles
module _ (sig : Sig) (stands : IsSignature sig) where
  -- a declared function means its number among the declared ones, where its role stands
  pub declared_meaning : (f : FunId) (h : Function) → slice_get sig.functions f.0 ≡ Some h → h.word ≡ None → (symbol_under sig f ≡ function (declared_number sig.functions f)) × ((function_at (data_meant sig) (declared_number sig.functions f)).role ≡ role_meant sig f)
  declared_meaning f h at word = let d = declared_functions_stand_in_the_data sig f h at word in (d.0, ap (λ (x : theory.DeclaredFunction). x.role) d.1)

  role_is : (f : FunId) (r : Role) → HasRole sig.sorts sig.functions f r → role_meant sig f ≡ r
  role_is f r has = roles_are_found sig stands.roles f r has

  pub constructor_mark : (s : SortId) (t : SortInfo) (f : FunId) → slice_get sig.sorts s.0 ≡ Some t → Contains (constructors_of t.kind) f → IsMark sig f signs.Constructor
  constructor_mark s t f at among =
      let d = stands.roles.constructors s t f at among in
      let m = declared_meaning f d.0 d.1 d.2 in
      ((declared_number sig.functions f, m.0, m.1 ∙ role_is f constructor (constructs s t at among)), no_constructor_is_other)

  -- the constructor that has a projection or a recogniser
  constructor_means : (c : FunId) (s : SortId) (t : SortInfo) → slice_get sig.sorts s.0 ≡ Some t → Contains (constructors_of t.kind) c → IsSymbolOf sig c (function (declared_number sig.functions c))
  constructor_means c s t at among =
      let d = stands.roles.constructors s t c at among in
      record { inside = slice_get_within sig.functions c.0 d.0 d.1; is = (declared_meaning c d.0 d.1 d.2).0 }

  pub projection_mark : (c p : FunId) (h : Function) (k : ℕ) → slice_get sig.functions c.0 ≡ Some h → slice_get h.projections k ≡ Some (Some p) → IsMark sig p (signs.Projection c k)
  projection_mark c p h k at there =
      let r = stands.roles.projections c p h k at there in
      let made = r.0 in
      let d = r.1.2 in
      let m = declared_meaning p d.0 d.1 d.2 in
      let among = subst (λ (x : Rattle.data_theory.specs.Sorts.Kind). Contains (constructors_of x) c) (sym made.3) made.4 in
      ((declared_number sig.functions p, declared_number sig.functions c, m.0, constructor_means c h.result made.0 made.2 among, m.1 ∙ role_is p (projection (declared_number sig.functions c) k) (projects c h k at there)), no_projection_is_other c k)

  pub recogniser_mark : (c r : FunId) (h : Function) → slice_get sig.functions c.0 ≡ Some h → h.test ≡ Some r → IsMark sig r (signs.Recogniser c)
  recogniser_mark c r h at there =
      let k = stands.roles.recognisers c r h at there in
      let made = k.0 in
      let d = k.1 in
      let m = declared_meaning r d.0 d.1 d.2 in
      let among = subst (λ (x : Rattle.data_theory.specs.Sorts.Kind). Contains (constructors_of x) c) (sym made.3) made.4 in
      ((declared_number sig.functions r, declared_number sig.functions c, m.0, constructor_means c h.result made.0 made.2 among, m.1 ∙ role_is r (recogniser (declared_number sig.functions c)) (recognises c h at there)), no_recogniser_is_other c)

  pub projection_within : (c p : FunId) (h : Function) (k : ℕ) → slice_get sig.functions c.0 ≡ Some h → slice_get h.projections k ≡ Some (Some p) → p.0 < length sig.functions
  projection_within c p h k at there = role_below sig stands.roles p (projection (declared_number sig.functions c) k) (projects c h k at there)

  pub recogniser_within : (c r : FunId) (h : Function) → slice_get sig.functions c.0 ≡ Some h → h.test ≡ Some r → r.0 < length sig.functions
  recogniser_within c r h at there = role_below sig stands.roles r (recogniser (declared_number sig.functions c)) (recognises c h at there)

  pub constructor_within : (s : SortId) (t : SortInfo) (f : FunId) → slice_get sig.sorts s.0 ≡ Some t → Contains (constructors_of t.kind) f → f.0 < length sig.functions
  constructor_within s t f at among = role_below sig stands.roles f constructor (constructs s t at among)

  -- ---- the same, as calls give it
  pub marks_of_kind : (k : SortKind) (s : SortId) (fs : List FunId) → s.0 < length sig.sorts → IfSome (slice_get sig.sorts s.0) (λ (i : SortInfo). i.kind ≡ kind_of k) → fs ≡ constructors_of (kind_of k) → All (λ (f : FunId). IsMark sig f signs.Constructor) fs
  marks_of_kind k s fs l h e =
      let i = kind_at sig stands.table s k l h in
      let same : fs ≡ constructors_of i.0.kind = e ∙ ap constructors_of (sym i.2) in
      all_by_contained (λ (f : FunId). IsMark sig f signs.Constructor) fs (λ f c. constructor_mark s i.0 f i.1 (subst (λ (l : List FunId). Contains l f) same c))

  pub projections_marks : (c : FunId) (ps : List (Option FunId)) → c.0 < length sig.functions → IfSome (slice_get sig.functions c.0) (λ (h : Function). h.projections ≡ ps) → (k : ℕ) (p : FunId) → slice_get ps k ≡ Some (Some p) → IsMark sig p (signs.Projection c k)
  projections_marks c ps l e k p at =
      let h = read_within sig.functions c.0 l in
      let same : h.0.projections ≡ ps = if_there (λ (h : Function). h.projections ≡ ps) (slice_get sig.functions c.0) h.0 h.1 e in
      projection_mark c p h.0 k h.1 (ap (λ (l : List (Option FunId)). slice_get l k) same ∙ at)

  test_at : (c : FunId) (o : Option FunId) (r : FunId) → c.0 < length sig.functions → IfSome (slice_get sig.functions c.0) (λ (h : Function). h.test ≡ o) → o ≡ Some r → (h : Function) × (slice_get sig.functions c.0 ≡ Some h) × (h.test ≡ Some r)
  test_at c o r l e is =
      let h = read_within sig.functions c.0 l in
      (h.0, h.1, if_there (λ (h : Function). h.test ≡ o) (slice_get sig.functions c.0) h.0 h.1 e ∙ is)

  pub test_within : (c : FunId) (o : Option FunId) (r : FunId) → c.0 < length sig.functions → IfSome (slice_get sig.functions c.0) (λ (h : Function). h.test ≡ o) → o ≡ Some r → r.0 < length sig.functions
  test_within c o r l e is = let t = test_at c o r l e is in recogniser_within c r t.0 t.1 t.2

  pub test_mark : (c : FunId) (o : Option FunId) (r : FunId) → c.0 < length sig.functions → IfSome (slice_get sig.functions c.0) (λ (h : Function). h.test ≡ o) → o ≡ Some r → IsMark sig r (signs.Recogniser c)
  test_mark c o r l e is = let t = test_at c o r l e is in recogniser_mark c r t.0 t.1 t.2

  -- a function with a word is that of a row
  row_of_function : (f : FunId) (h : Function) (w : Word) → slice_get sig.functions f.0 ≡ Some h → h.word ≡ Some w → (r : Row) × IsRow sig.sorts r × IsOfRow r w (arguments_of h) h.result × (symbol_under sig f ≡ symbol_of_row sig r)
  row_of_function f h w at word = by_entry (holds_at (IsEntry sig.texts sig.sorts) sig.functions f.0 h stands.table.entries at)
    where
      by_entry : IsEntry sig.texts sig.sorts h → (r : Row) × IsRow sig.sorts r × IsOfRow r w (arguments_of h) h.result × (symbol_under sig f ≡ symbol_of_row sig r)
      by_entry (declared none plain) = absurd (let z : None ≡ Some w = sym none ∙ word in cc)
      by_entry (built_in r row e text) =
          let p : Some (row_word r) ≡ Some w = sym (ap (λ (x : Function). x.word) e) ∙ word in
          let same : row_word r ≡ w = cc in
          (r, row, record { word = same; arguments = sym (ap arguments_of e); result = sym (ap (λ (x : Function). x.result) e) }, built_in_is sig stands.table f h r at e)

  pub row_given : (f : FunId) (o : Option Word) (w : Word) (args : List SortId) (to : SortId) → f.0 < length sig.functions → IfSome (slice_get sig.functions f.0) (λ (h : Function). h.word ≡ o) → o ≡ Some w → IfSome (slice_get sig.functions f.0) (λ (h : Function). arguments_of h ≡ args) → IfSome (slice_get sig.functions f.0) (λ (h : Function). h.result ≡ to) → (r : Row) × IsRow sig.sorts r × IsOfRow r w args to × (symbol_under sig f ≡ symbol_of_row sig r)
  row_given f o w args to l a e b c =
      let h = read_within sig.functions f.0 l in
      let word : h.0.word ≡ Some w = if_there (λ (h : Function). h.word ≡ o) (slice_get sig.functions f.0) h.0 h.1 a ∙ e in
      let x : arguments_of h.0 ≡ args = if_there (λ (h : Function). arguments_of h ≡ args) (slice_get sig.functions f.0) h.0 h.1 b in
      let y : h.0.result ≡ to = if_there (λ (h : Function). h.result ≡ to) (slice_get sig.functions f.0) h.0 h.1 c in
      let r = row_of_function f h.0 w h.1 word in
      (r.0, r.1, record { word = r.2.word; arguments = r.2.arguments ∙ x; result = r.2.result ∙ y }, r.3)

  pub signed_by_word : (f : FunId) (o : Option Word) (w : Word) (args : List SortId) (to : SortId) (s : Sign) → f.0 < length sig.functions → IfSome (slice_get sig.functions f.0) (λ (h : Function). h.word ≡ o) → o ≡ Some w → IfSome (slice_get sig.functions f.0) (λ (h : Function). arguments_of h ≡ args) → IfSome (slice_get sig.functions f.0) (λ (h : Function). h.result ≡ to)
      → ((r : Row) → IsRow sig.sorts r → IsOfRow r w args to → HasSign sig (symbol_of_row sig r) s) → IsFirstSign sig f s
  signed_by_word f o w args to s l a e b c k = λ h at.
      let word : h.word ≡ Some w = if_there (λ (h : Function). h.word ≡ o) (slice_get sig.functions f.0) h at a ∙ e in
      let r = row_given f o w args to l a e b c in
      subst (λ (x : Option Word). IsSignByWord sig f x s) (sym word) (subst (λ (y : Rattle.data_theory.specs.Terms.Symbol). HasSign sig y s) (sym r.3) (k r.0 r.1 r.2))

  -- ---- what all marks together give
  module _ (first mid new : List Sign) (count : length first ≡ length sig.functions)
      (begin : (f : FunId) → f.0 < length sig.functions → IsFirstSign sig f (sign_at first f))
      (constructed : Marks sig first mid)
      (constructors : (s : SortId) (t : SortInfo) → slice_get sig.sorts s.0 ≡ Some t → AreMarked mid (constructors_of t.kind))
      (parted : Marks sig mid new)
      (parts : (c : FunId) (h : Function) → slice_get sig.functions c.0 ≡ Some h → AreMarkedWhereThere new h.projections × IfSome h.test (IsMarked new)) where
    all_marks : Marks sig first new
    all_marks = then_marks sig first mid new constructed parted

    there_at : (os : List (Option FunId)) (k : ℕ) (p : FunId) → AreMarkedWhereThere new os → slice_get os k ≡ Some (Some p) → IsMarked new p
    there_at [] k p all e = absurd cc
    there_at (o ∷ os) zero p all e =
        let same : o ≡ Some p = cc in
        subst (λ (x : Option FunId). IfSome x (IsMarked new)) same (All-head (λ (x : Option FunId). IfSome x (IsMarked new)) o os all)
    there_at (o ∷ os) (suc k) p all e = there_at os k p (All-tail (λ (x : Option FunId). IfSome x (IsMarked new)) o os all) e

    -- a function with a role is marked
    marked : (f : FunId) (r : Role) → HasRole sig.sorts sig.functions f r → IsMarked new f
    marked f r (constructs s t at among) = stays_marked sig mid new parted f (All-contains (IsMarked mid) (constructors_of t.kind) f (constructors s t at) among)
    marked f r (projects c h k at there) = there_at h.projections k f (parts c h at).0 there
    marked f r (recognises c h at there) = subst (λ (x : Option FunId). IfSome x (IsMarked new)) there (parts c h at).1

    role_or_none : (f : FunId) → (role_meant sig f ≡ mapping) ⊎ HasRole sig.sorts sig.functions f (role_meant sig f)
    role_or_none f = holds_of_role sig f (λ (q : Role). (q ≡ mapping) ⊎ HasRole sig.sorts sig.functions f q) (inl refl) (λ c h k at p. inr (projects c h k at p)) (λ c h at t. inr (recognises c h at t))
        (λ e. let h = constructor_tells sig.sorts f e in inr (constructs (record { 0 = h.0 }) h.1 h.2 h.3))

    -- an unmarked function without a word is a mapping
    unmarked : (f : FunId) (h : Function) → slice_get sig.functions f.0 ≡ Some h → h.word ≡ None → sign_at new f ≡ signs.Other → HasSign sig (symbol_under sig f) (sign_at new f)
    unmarked f h at word e =
        let m = declared_meaning f h at word in
        let role : role_meant sig f ≡ mapping = elim (role_or_none f) [ inl q ↦ q | inr has ↦ absurd (marked f (role_meant sig f) has e) ] in
        subst (HasSign sig (symbol_under sig f)) (sym e) (subst (λ (y : Rattle.data_theory.specs.Terms.Symbol). HasSign sig y signs.Other) (sym m.0) (m.1 ∙ role))

    as_begun : (f : FunId) (h : Function) → slice_get sig.functions f.0 ≡ Some h → sign_at new f ≡ sign_at first f → (w : Option Word) → h.word ≡ w → IsSignByWord sig f w (sign_at first f) → HasSign sig (symbol_under sig f) (sign_at new f)
    as_begun f h at same None e is = unmarked f h at e (same ∙ is)
    as_begun f h at same (Some w) e is = subst (HasSign sig (symbol_under sig f)) (sym same) is

    pub all_signs : AreSigns sig new
    all_signs f inside =
        let h = read_within sig.functions f.0 inside in
        elim (all_marks.each f) [
          | inl e ↦ as_begun f h.0 h.1 e h.0.word refl (begin f inside h.0 h.1)
          | inr k ↦ k.0
        ]
