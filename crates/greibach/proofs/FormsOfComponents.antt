-- The form of a component is bisimilar to it.
use Rattle.std.proofs.Common.{◌≡◌, ℕ, zero, suc, List, [], ◌∷◌, map, Some, refl, sym, ap, ap₂, ◌∙◌, subst}
use Rattle.std.specs.Prelude.{slice_get, option_map}
use Rattle.std.proofs.lemmas.Option.{slice_get-map}
use Rattle.data_theory.specs.Terms.{Sort, Term, put}
use Rattle.data_theory.specs.Declarations.{Data, HaveSorts}
use Rattle.data_theory.specs.Environments.{term_in, bound, terms_of}
use Rattle.data_theory.specs.declared.ids.VarId.{VarId}
use Rattle.data_theory.specs.Signature.{Sig}
use Rattle.data_theory.specs.IdData.{data_meant}
use Rattle.data_theory.specs.IdTrees.{Tree}
use Rattle.data_theory.proofs.EnvironmentLemmas.{closed_terms_stay}
use Rattle.process_terms.specs.Theories.{Theory, IsConsistent}
use Rattle.process_terms.specs.PlainProcesses.{PlainDefinition, PlainModel, PlainComponent, call_of, term_of}
use Rattle.process_terms.specs.Processes.{Process, Table, call, close}
use Rattle.process_terms.specs.Meanings.{Entries, bound_at, term_at, body_of, table_of, component_body}
use Rattle.process_terms.specs.SignatureEntries.{entries_of}
use Rattle.bisim_laws.specs.LinearProcesses.{variables, sorts}
use Rattle.bisim_laws.specs.Sameness.{Alike, by_body, joined_up}
use Rattle.bisim_laws.specs.Bisimulations.{UpTo, up_to}
use Rattle.bisim_laws.specs.BaseStates.{Piece}
use Rattle.bisim_laws.specs.Links.{Form, IsGood}
use Rattle.lps_core.specs.GoingOn.{GoesOn}
use Rattle.greibach.specs.Forms.{form_table}
use Rattle.greibach.specs.PlainForms.{PlainForm, form_of}
use Rattle.greibach.specs.Places.{body_among, definition_in, table_in}
use Rattle.greibach.specs.UnfoldedForms.{form_with, pieces_in}
use Rattle.greibach.specs.MeetingOrder.{number_in}
use Rattle.greibach.specs.ComponentForms.{params_among, piece_of, text_of, start_of, arguments_of, IsFormOf, FormsOfComponentsAreGood}
use Rattle.greibach.proofs.Situations.{sorts_long, has_body}
use Rattle.greibach.proofs.GrowingTexts.{collected_good_over}

variables_same : (e : Entries) (xs : List VarId) → variables (map (bound_at e) xs) ≡ map (λ (x : VarId). x.0) xs
variables_same e [] = refl
variables_same e (x ∷ xs) = ap (λ l. x.0 ∷ l) (variables_same e xs)

table_same : (e : Entries) (ds : List PlainDefinition) → map definition_in (map (piece_of e) ds) ≡ table_of e ds
table_same e [] = refl
table_same e (x ∷ ds) = ap₂ (λ xs fs. record { params = xs; body = body_of e x.body } ∷ fs) (variables_same e x.params) (table_same e ds)

pub among_at : (fs : List Piece) (x : ℕ) (f : Piece) → slice_get fs x ≡ Some f → (params_among fs x ≡ f.params) × (body_among fs x ≡ f.body)
among_at [] x f e = cc
among_at (k ∷ fs) zero f e = let s : k ≡ f = cc in (ap (λ (z : Piece). z.params) s, ap (λ (z : Piece). z.body) s)
among_at (k ∷ fs) (suc x) f e = among_at fs x f e

args_stay : (g : Data) (us : List Term) (ss : List Sort) → HaveSorts g [] (terms_of us) ss → map (put (term_in [])) us ≡ us
args_stay g [] ss h = refl
args_stay g (u ∷ us) [] h = absurd h
args_stay g (u ∷ us) (s ∷ ss) h = ap₂ (λ a b. a ∷ b) (closed_terms_stay g (term_in []) u s h.0) (args_stay g us ss h.1)

starts_alike : {th : Theory} {R : Process → Process → Type 0} {p o q : Process} → Alike th o p → UpTo th R p q → UpTo th R o q
starts_alike a (up_to h r k) = up_to (joined_up a h) r k

-- a call whose body is good is good
call_good : (th : Theory) (d form : Table) (pieces : List Piece) (x : ℕ) (us vs : List Term) (p q : Process) → Alike th (call d x us) p → vs ≡ us → IsGood th (Form d pieces form) p q → IsGood th (Form d pieces form) (call d x vs) q
call_good th d form pieces x us vs p q a e h = subst (λ zs. IsGood th (Form d pieces form) (call d x zs) q) (sym e) (record { starts = starts_alike a h.starts; follows = h.follows })

good_start : (g : Sig) (ts : List Tree) (m : PlainModel) (c : PlainComponent) (f : PlainForm) (is : IsFormOf g ts m c f) (th : Theory) → GoesOn g th → IsConsistent th
    → IsGood th (Form (table_in (text_of (entries_of g ts) m.definitions is.reached c)) (pieces_in (text_of (entries_of g ts) m.definitions is.reached c) is.equations) (form_table (form_with (number_in is.last) is.equations)))
    (close (table_in (text_of (entries_of g ts) m.definitions is.reached c)) [] (component_body (entries_of g ts) c))
    (call (form_table (form_with (number_in is.last) is.equations)) 0 (map (term_at (entries_of g ts)) (arguments_of c)))
good_start g ts m (call_of x ids) f is th on con =
    let e = entries_of g ts in
    let t = text_of e m.definitions is.reached (call_of x ids) in
    let k = is.start in
    let q = piece_of e k.0 in
    let us : List Term = map (term_at e) ids in
    let at : slice_get t.definitions x.0 ≡ Some q = slice_get-map (piece_of e) m.definitions x.0 ∙ ap (option_map (piece_of e)) k.1 in
    let same = among_at t.definitions x.0 q at in
    let sorted : HaveSorts (data_meant g) [] (terms_of us) (sorts (t.piece (start_of (call_of x ids))).params) = subst (λ ps. HaveSorts (data_meant g) [] (terms_of us) (sorts ps)) (sym same.0) k.2 in
    let form = form_table (form_with (number_in is.last) is.equations) in
    let base : IsGood th (Form (table_in t) (pieces_in t is.equations) form) (close (table_in t) (bound (variables (params_among t.definitions x.0)) us) (body_among t.definitions x.0)) (call form 0 us) =
    collected_good_over g t is.definitions (start_of (call_of x ids)) is.equations is.last is.collects us sorted th on con in
    let moved : IsGood th (Form (table_in t) (pieces_in t is.equations) form) (close (table_in t) (bound (variables q.params) us) q.body) (call form 0 us) =
    subst (λ b. IsGood th (Form (table_in t) (pieces_in t is.equations) form) (close (table_in t) (bound (variables q.params) us) b) (call form 0 us)) same.1
    (subst (λ ps. IsGood th (Form (table_in t) (pieces_in t is.equations) form) (close (table_in t) (bound (variables ps) us) (body_among t.definitions x.0)) (call form 0 us)) same.0 base) in
    call_good th (table_in t) form (pieces_in t is.equations) x.0 us (map (put (term_in [])) us) (close (table_in t) (bound (variables q.params) us) q.body) (call form 0 us)
    (by_body (has_body t x.0 us q at (sorts_long (data_meant g) [] us q.params k.2))) (args_stay (data_meant g) us (sorts q.params) k.2) moved
good_start g ts m (term_of p) f is th on con =
    collected_good_over g (text_of (entries_of g ts) m.definitions is.reached (term_of p)) is.definitions (start_of (term_of p)) is.equations is.last is.collects [] tt th on con

pub forms_of_components_good : FormsOfComponentsAreGood
forms_of_components_good g ts m c f is =
    let e = entries_of g ts in
    let t = text_of e m.definitions is.reached c in
    let pieces = pieces_in t is.equations in (
      pieces,
      λ th on con.
          subst (λ d. IsGood th (Form d pieces (form_table (form_of e f))) (close d [] (component_body e c)) (call (form_table (form_of e f)) 0 (map (term_at e) f.init))) (table_same e m.definitions)
          (subst (λ z. IsGood th (Form (table_in t) pieces (form_table z)) (close (table_in t) [] (component_body e c)) (call (form_table z) 0 (map (term_at e) f.init))) (sym is.form)
          (subst (λ ids. IsGood th (Form (table_in t) pieces (form_table (form_with (number_in is.last) is.equations))) (close (table_in t) [] (component_body e c)) (call (form_table (form_with (number_in is.last) is.equations)) 0 (map (term_at e) ids))) (sym is.init)
          (good_start g ts m c f is th on con))),
    )
