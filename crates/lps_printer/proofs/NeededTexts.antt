-- Which empty lists stand in open places of a linear process.
use Rattle.std.proofs.Common.{◌≡◌, ℕ, ◌+◌, Bool, true, false, List, [], ◌∷◌, ◌++◌, map, drop, get_or, Option, Some, None, refl, sym, ap, ◌∙◌}
use Rattle.std.specs.Prelude.{option_map, Vec}
use Rattle.std.specs.Global.{Global}
use Rattle.std.specs.List.{All, flat_map}
use Rattle.std.proofs.lemmas.List.{get_or-map}
use Rattle.std.proofs.lemmas.List.Elements.{All-weaker}
use Rattle.std.proofs.lemmas.Option.{get_or_from_slice_get, slice_get_within}
use Rattle.data_theory.specs.declared.ids.FunId.{FunId}
use Rattle.data_theory.specs.declared.ids.TermId.{TermId}
use Rattle.data_theory.specs.Terms.{Sort, Term}
use Rattle.data_theory.specs.Environments.{terms_of}
use Rattle.data_theory.specs.Equations.{trueᵗ}
use Rattle.data_theory.specs.IdTerms.{term_under}
use Rattle.term_pool.specs.HeadTrees.{no_tree, IsIn, AreIn}
use Rattle.process_terms.specs.PlainProcesses.{PlainAction}
use Rattle.process_terms.specs.Meanings.{term_at, action_of}
use Rattle.process_terms.specs.SignatureEntries.{action_entry}
use Rattle.lps_core.specs.PlainLinears.{plain_next}
use Rattle.lps_printer.specs.declared.process_writer.ProcessWriter as code
use Rattle.lps_printer.specs.Wordings.{term_of}
use Rattle.lps_printer.specs.CodeWordings.{term_by, terms_by, IsTermBy}
use Rattle.lps_printer.specs.TextWordings.{TextWording}
use Rattle.lps_printer.specs.CodeProcesses.{IsTextWording, IsActionBy, entries_by}
use Rattle.lps_printer.specs.NeededConstants.{nils, all_nils, nils_of, action_nils, next_nils, FindsText}
use Rattle.lps_printer.proofs.CodeActions.{terms_meant}
use Rattle.lps_printer.proofs.NeededConstants.{nothing_found, both_found, found_same}

pub listed_nils : (o : ℕ → Bool) (b : Bool) (us : List Term) → all_nils o b (terms_of us) ≡ flat_map (nils o b) us
listed_nils o b [] = refl
listed_nils o b (u ∷ us) = ap (λ xs. nils o b u ++ xs) (listed_nils o b us)

-- by the terms of a pool
pub ids_nils : (c : code.ProcessWriter) (t : TextWording) (b : Bool) (ids : List TermId) → AreIn c.terms.pool.now.trees ids → all_nils t.names.terms.once b (terms_by c.terms ids) ≡ nils_of t.names b (map (term_at (entries_by c)) ids)
ids_nils c t b ids a =
    listed_nils t.names.terms.once b (map (term_of c.terms.sig.now c.terms.pool.now.trees) ids)
    ∙ ap (nils_of t.names b) (sym (terms_meant c.terms.sig.now c.terms.pool.now.trees ids a))

pub one_action_nils : (c : code.ProcessWriter) (t : TextWording) (a : PlainAction) (once : Bool) → IsTextWording c t → (h : IsActionBy c a) → once ≡ get_or c.once.now a.act.0 false
    → all_nils t.names.terms.once once (terms_by c.terms a.args) ≡ action_nils t.names (action_of (entries_by c) a)
one_action_nils c t a once k h o =
    let g = c.terms.sig.now in
    let entry = get_or-map (action_entry g) g.actions a.act.0 h.key (record { name = []; sorts = [] }) (slice_get_within g.actions a.act.0 h.key h.stands) ∙ ap (action_entry g) (get_or_from_slice_get g.actions a.act.0 h.key h.key h.stands) in
    let known : once ≡ t.names.once (action_of (entries_by c) a).name = o ∙ sym (k.actions_once a.act h.key h.stands) ∙ ap t.names.once (sym (ap (λ e. e.name) entry)) in
    ap (λ b. all_nils t.names.terms.once b (terms_by c.terms a.args)) known ∙ ids_nils c t (t.names.once (action_of (entries_by c) a).name) a.args h.args.within

-- ---- in loops
pub text_step : {A : Type 0} (c : code.ProcessWriter) {a b final : List FunId} (F : TextWording → A → List Sort) (x : A) (ys xs : List A) → x ∷ ys ≡ xs → FindsText c a b (λ t. F t x) → FindsText c b final (λ t. flat_map (F t) ys) → FindsText c a final (λ t. flat_map (F t) xs)
text_step c F x ys xs e p q = λ t k. found_same (ap (flat_map (F t)) e) (both_found (p t k) (q t k))

pub text_end : {A : Type 0} (c : code.ProcessWriter) (a : List FunId) (F : TextWording → A → List Sort) (xs : List A) → xs ≡ [] → FindsText c a a (λ t. flat_map (F t) xs)
text_end c a F xs e = λ t k. found_same (ap (flat_map (F t)) (sym e)) (nothing_found c.terms.sig.now a)

-- the item of a loop and those behind it, under two maps
pub cut_twice : {A B C : Type 0} (f : A → B) (h : B → C) (xs : List A) (i : ℕ) (x : A) → f x ∷ map f (drop (i + 1) xs) ≡ map f (drop i xs) → h (f x) ∷ map h (map f (drop (i + 1) xs)) ≡ map h (map f (drop i xs))
cut_twice f h xs i x e = ap (map h) e

-- ---- next terms and summands
pub terms_in : (c : code.ProcessWriter) (ids : List TermId) → All (IsTermBy c.terms) ids → AreIn c.terms.pool.now.trees ids
terms_in c ids a = All-weaker (IsTermBy c.terms) (IsIn c.terms.pool.now.trees) (λ x h. h.within) ids a

pub some_nils : (c : code.ProcessWriter) (t : TextWording) (ids : List TermId) (o : Option (Vec TermId Global)) → All (IsTermBy c.terms) ids → Some ids ≡ plain_next o
    → all_nils t.names.terms.once true (terms_by c.terms ids) ≡ next_nils t.names (option_map (map (term_at (entries_by c))) (plain_next o))
some_nils c t ids o a e = ids_nils c t true ids (terms_in c ids a) ∙ ap (λ x. next_nils t.names (option_map (map (term_at (entries_by c))) x)) e

pub no_next_nils : (c : code.ProcessWriter) (t : TextWording) (o : Option (Vec TermId Global)) → o ≡ None → [] ≡ next_nils t.names (option_map (map (term_at (entries_by c))) (plain_next o))
no_next_nils c t o e = ap (λ x. next_nils t.names (option_map (map (term_at (entries_by c))) (plain_next x))) (sym e)

pub condition_nils : (c : code.ProcessWriter) (t : TextWording) (id : TermId) → IsTermBy c.terms id → nils t.names.terms.once false (term_by c.terms id) ≡ nils t.names.terms.once false (term_at (entries_by c) id)
condition_nils c t id h = ap (nils t.names.terms.once false) (sym (get_or-map (term_under c.terms.sig.now) c.terms.pool.now.trees id.0 no_tree trueᵗ h.within))
