-- The terms of a pool in code.
use Rattle.std.proofs.Common.{◌≡◌, ℕ, suc, ◌<◌, ◌≤◌, max, Bool, true, false, List, [], ◌∷◌, length, map, None, refl, sym, ap, ◌∙◌, subst, arith}
use Rattle.std.specs.List.{All}
use Rattle.std.proofs.lemmas.List.Elements.{All-nil, All-cons, All-head, All-tail, All-weaker}
use Rattle.std.proofs.lemmas.Option.{slice_get_within}
use Rattle.data_theory.specs.declared.ids.FunId.{FunId}
use Rattle.data_theory.specs.declared.ids.SortId.{SortId}
use Rattle.data_theory.specs.declared.ids.TermId.{TermId}
use Rattle.data_theory.specs.declared.ids.VarId.{VarId}
use Rattle.data_theory.specs.declared.num.Num.{Num}
use Rattle.data_theory.specs.Terms.{Term, Terms, variable, numeral, application, none, more}
use Rattle.data_theory.specs.Environments.{terms_of}
use Rattle.data_theory.specs.Whole.{whole_of}
use Rattle.data_theory.specs.Signature.{Sig}
use Rattle.data_theory.specs.IdTerms as ids
use Rattle.data_theory.specs.IdTerms.{sort_under, symbol_under, term_under}
use Rattle.data_theory.specs.IdTrees.{Tree, trees_of}
use Rattle.data_theory.specs.IdTreeSorts.{HasTreeSort, HaveTreeSorts, HasNumber}
use Rattle.term_pool.specs.declared.terms.Node.{Node}
use Rattle.term_pool.specs.declared.terms.Head.{Head}
use Rattle.term_pool.specs.declared.terms.Head.TheVariants.{Var, Num as Numeral, Fun}
use Rattle.term_pool.specs.HeadTrees.{written_tree, tree_at, trees_at}
use Rattle.lps_core.specs.Fitting.{IsVariable}
use Rattle.lps_printer.specs.declared.term_writer.TermWriter as code
use Rattle.lps_printer.specs.WrittenTerms.{Manner, no_elements, an_element, a_cast, declared, built_in, manner}
use Rattle.lps_printer.specs.TermParts.{parts_in, element_parts, variable_under, are_two, worded}
use Rattle.lps_printer.specs.Wordings.{Wording, IsSortedTerm, term_of}
use Rattle.lps_printer.proofs.Outermosts.{length_of}
use Rattle.lps_printer.specs.CodeWordings.{term_by, terms_by, IsTermBy, IsApplicationBy, application_by}

-- ---- terms by their nodes
abbrev pub node_term : code.TermWriter → Head → List TermId → Term
node_term c (Var v) ids = variable v.0
node_term c (Numeral s n) ids = numeral (sort_under c.sig.now s) (whole_of n)
node_term c (Fun f) ids = application_by c f ids

terms_same : (g : Sig) (ts : List Tree) (xs : List TermId) → ids.terms_under g (trees_of (trees_at ts xs)) ≡ terms_of (map (term_of g ts) xs)
terms_same g ts [] = refl
terms_same g ts (x ∷ xs) = ap (more (term_of g ts x)) (terms_same g ts xs)

written_term : (c : code.TermWriter) (head : Head) (xs : List TermId) → term_under c.sig.now (written_tree head (trees_at c.pool.now.trees xs)) ≡ node_term c head xs
written_term c (Var v) xs = refl
written_term c (Numeral s n) xs = refl
written_term c (Fun f) xs = ap (application (symbol_under c.sig.now f)) (terms_same c.sig.now c.pool.now.trees xs)

-- a node of the pool that a term's number leads to
pub record IsNodeBy (c : code.TermWriter) (id : TermId) (head : Head) (xs : List TermId) : Type 0 where
  pub tree : tree_at c.pool.now.trees id ≡ written_tree head (trees_at c.pool.now.trees xs)
  pub below : All (λ (x : TermId). x.0 < id.0) xs
  pub fits : IsTermBy c id

pub node_by : (c : code.TermWriter) (id : TermId) (node : Node) (head : Head) → tree_at c.pool.now.trees id ≡ written_tree node.head (trees_at c.pool.now.trees node.args.items) → All (λ (x : TermId). x.0 < id.0) node.args.items → IsTermBy c id → node.head ≡ head
    → IsNodeBy c id head node.args.items
node_by c id node head t b f e = record { tree = t ∙ ap (λ h. written_tree h (trees_at c.pool.now.trees node.args.items)) e; below = b; fits = f }

pub term_is : (c : code.TermWriter) (id : TermId) (head : Head) (xs : List TermId) → IsNodeBy c id head xs → term_by c id ≡ node_term c head xs
term_is c id head xs n = ap (term_under c.sig.now) n.tree ∙ written_term c head xs

sorted_by : (c : code.TermWriter) (id : TermId) (head : Head) (xs : List TermId) → (n : IsNodeBy c id head xs) → HasTreeSort c.sig.now (written_tree head (trees_at c.pool.now.trees xs)) n.fits.sort
sorted_by c id head xs n = subst (λ t. HasTreeSort c.sig.now t n.fits.sort) n.tree n.fits.sorted

sorted_each : (g : Sig) (ts : List Tree) (m : ℕ) → m ≤ length ts → (xs : List TermId) (ss : List SortId) → All (λ (x : TermId). x.0 < m) xs → HaveTreeSorts g (trees_of (trees_at ts xs)) ss → All (IsSortedTerm g ts) xs
sorted_each g ts m l [] ss b h = All-nil (IsSortedTerm g ts)
sorted_each g ts m l (x ∷ xs) [] b h = absurd h
sorted_each g ts m l (x ∷ xs) (s ∷ ss) b h =
    let P : TermId → Type 0 = λ y. y.0 < m in
    let first = All-head P x xs b in
    All-cons (IsSortedTerm g ts) x xs (record { within = omega (arith, first, l); sort = s; sorted = h.0 }) (sorted_each g ts m l xs ss (All-tail P x xs b) h.1)

pub application_fits : (c : code.TermWriter) (id : TermId) (f : FunId) (xs : List TermId) → IsNodeBy c id (Fun f) xs → IsApplicationBy c f xs
application_fits c id f xs n =
    let h = sorted_by c id (Fun f) xs n in
    let l : id.0 ≤ length c.pool.now.trees = omega (arith, n.fits.within) in
    record { known = slice_get_within c.sig.now.functions f.0 h.0 h.1; arguments = sorted_each c.sig.now c.pool.now.trees id.0 l xs _ n.below h.3 }

pub variable_known : (c : code.TermWriter) (id : TermId) (v : VarId) (xs : List TermId) → IsNodeBy c id (Var v) xs → IsVariable c.sig.now v
variable_known c id v xs n = let h = sorted_by c id (Var v) xs n in slice_get_within c.sig.now.variables v.0 h.0 h.1

pub number_known : (c : code.TermWriter) (id : TermId) (s : SortId) (n : Num) (xs : List TermId) → IsNodeBy c id (Numeral s n) xs → HasNumber s (whole_of n)
number_known c id s n xs h = (sorted_by c id (Numeral s n) xs h).1

-- the number that stands for one past the end of a list
abbrev pub first_id : TermId
first_id = record { 0 = 0 }

-- ---- how far the numbers of terms go
abbrev pub bound : List TermId → ℕ
bound [] = 0
bound (x ∷ xs) = max (suc x.0) (bound xs)

pub bound_below : (m : ℕ) (xs : List TermId) → All (λ (x : TermId). x.0 < m) xs → bound xs ≤ m
bound_below m [] b = omega arith
bound_below m (x ∷ xs) b =
    let P : TermId → Type 0 = λ y. y.0 < m in
    let first = All-head P x xs b in
    let rest = bound_below m xs (All-tail P x xs b) in
    omega (arith, first, rest)

pub below_bound : (xs : List TermId) → All (λ (x : TermId). x.0 < bound xs) xs
below_bound [] = All-nil (λ (x : TermId). x.0 < 0)
below_bound (x ∷ xs) =
    All-cons (λ (y : TermId). y.0 < bound (x ∷ xs)) x xs (omega arith) (All-weaker (λ (y : TermId). y.0 < bound xs) (λ (y : TermId). y.0 < bound (x ∷ xs)) (λ y l. omega (arith, l)) xs (below_bound xs))

-- ---- lists of arguments
pub no_two : (c : code.TermWriter) (xs : List TermId) → (length xs ≡ 2 → ⊥) → are_two (terms_by c xs) ≡ false
no_two c [] n = refl
no_two c (x ∷ []) n = refl
no_two c (x ∷ y ∷ []) n = absurd (n refl)
no_two c (x ∷ y ∷ z ∷ xs) n = refl

parts_of_no_two : (m : Manner) (ts : Terms) → are_two ts ≡ false → None ≡ parts_in m ts
parts_of_no_two (no_elements s) ts e = refl
parts_of_no_two an_element none e = refl
parts_of_no_two an_element (more t none) e = refl
parts_of_no_two an_element (more t (more u none)) e = cc
parts_of_no_two an_element (more t (more u (more v ts))) e = refl
parts_of_no_two a_cast ts e = refl
parts_of_no_two (declared k) ts e = refl
parts_of_no_two built_in ts e = refl

-- a function that hasn't two arguments makes no chain
pub no_parts : (c : code.TermWriter) (id : TermId) (f : FunId) (xs : List TermId) → IsNodeBy c id (Fun f) xs → are_two (terms_by c xs) ≡ false → None ≡ element_parts (term_by c id)
no_parts c id f xs n e = parts_of_no_two (manner (symbol_under c.sig.now f)) (terms_by c xs) e ∙ ap element_parts (sym (term_is c id (Fun f) xs n))

pub no_variable_under : (c : code.TermWriter) (xs : List TermId) (b : Bool) → (length xs ≡ 1 → ⊥) → None ≡ variable_under true b (terms_by c xs)
no_variable_under c xs false l = refl
no_variable_under c [] true l = refl
no_variable_under c (x ∷ []) true l = absurd (l refl)
no_variable_under c (x ∷ y ∷ xs) true l = refl

pub length_worded : (c : code.TermWriter) (w : Wording) (b : Bool) (xs : List TermId) → length_of (worded w b (terms_by c xs)) ≡ length xs
length_worded c w b [] = refl
length_worded c w b (x ∷ xs) = ap suc (length_worded c w b xs)
