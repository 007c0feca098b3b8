-- The bytes of a printed term read back as the term.
use Rattle.std.proofs.Common.{◌≡◌, ℕ, zero, suc, Bool, true, false, cond, List, [], ◌∷◌, refl, ap, ◌∙◌, subst}
use Rattle.std.specs.Prelude.{Option, Some, None, ℤ, pos, negsuc}
use Rattle.data_theory.specs.Terms.{Sort, boolean, positive, natural, integer, list, named as declared_sort, Operation, add, subtract, multiply, divide, modulo, power, minimum, maximum, absolute, successor, predecessor, to_positive, to_natural, Symbol, truth, falsity, negation, conjunction, disjunction, implication, equality, inequality, conditional, comparison, arithmetic, minus, upcast, empty, cons, snoc, concatenation, size, element_at, head, rhead, tail, rtail, membership, function, Term, Terms, variable, unknown, application}
use Rattle.data_theory.specs.Terms as terms
use Rattle.data_theory.specs.Environments.{IsOver, AreOver}
use Rattle.data_typing.specs.Meanings.{meaning}
use Rattle.sort_table.specs.Expressions as typed
use Rattle.data_typing.specs.Typings.{typing}
use Rattle.lps_printer.specs.PrintedExpressions.{Expression, Expressions, applied, none, more}
use Rattle.lps_printer.specs.PlainExpressions.{plain}
use Rattle.lps_printer.specs.DataLayout.{IsIdentifier, IsSpellable, AreSpellable}
use Rattle.lps_printer.specs.WrittenTerms.{Names, Shape, constant_true, constant_false, before, between, called, operation_shape, upcast_name, shape, call, build, open_numeral, placed_numeral, Written, in_both, opens, places, elements_written, cast_written, written_with, written, written_all}
use Rattle.lps_printer.specs.FittingNames.{numbers}
use Rattle.lps_printer.specs.TermTexts.{AreIdentifiers, TermTextsReadBack}
use Rattle.lps_printer.proofs.SmallNumerals.{IsSmall, HasSmallNumerals, HaveSmallNumerals, small}
use Rattle.lps_printer.proofs.SpellBack.{expressions_spell_back}
use Rattle.lps_printer.proofs.ReadBack.{terms_read_back}
use Rattle.lps_printer.proofs.FittingNames.{names_that_fit_read}

pub record CanBeSpelled (w : Written) : Type 0 where
  pub opened : IsSpellable w.opened
  pub placed : IsSpellable w.placed
  pub chain : (es : Expressions) → w.chain ≡ Some es → AreSpellable es
  pub name : (x : List ℕ) → w.name ≡ Some x → IsIdentifier x

pub data AllSpelled : List Written → Type 0 where
  none_spelled : AllSpelled []
  more_spelled : {w : Written} {ws : List Written} → CanBeSpelled w → AllSpelled ws → AllSpelled (w ∷ ws)

pub all_opens : {ws : List Written} → AllSpelled ws → AreSpellable (opens ws)
all_opens none_spelled = tt
all_opens (more_spelled w ws) = (w.opened, all_opens ws)

pub all_places : {ws : List Written} → AllSpelled ws → AreSpellable (places ws)
all_places none_spelled = tt
all_places (more_spelled w ws) = (w.placed, all_places ws)

both_ways : {e : Expression} → IsSpellable e → CanBeSpelled (in_both e)
both_ways h = record { opened = h; placed = h; chain = λ es e. absurd cc; name = λ x e. absurd cc }

abbrev NamedShape : Shape → Type 0
NamedShape (called x) = IsIdentifier x
NamedShape _ = Unit {0}

call_spelled : (x : List ℕ) (es : Expressions) → IsIdentifier x → AreSpellable es → IsSpellable (call x es)
call_spelled x none i h = i
call_spelled x (more e es) i h = (i, h.0, h.1)

build_spelled : (sh : Shape) (es : Expressions) → NamedShape sh → AreSpellable es → IsSpellable (build sh es)
build_spelled constant_true es i h = tt
build_spelled constant_false es i h = tt
build_spelled (before sign) none i h = tt
build_spelled (before sign) (more e none) i h = h.0
build_spelled (before sign) (more e (more f es)) i h = tt
build_spelled (between sign) none i h = tt
build_spelled (between sign) (more e none) i h = tt
build_spelled (between sign) (more e (more f none)) i h = (h.0, h.1.0)
build_spelled (between sign) (more e (more f (more g es))) i h = tt
build_spelled (called x) es i h = call_spelled x es i h

operation_named : (op : Operation) (ss : List Sort) (to : Sort) → NamedShape (operation_shape op ss to)
operation_named add ss to = tt
operation_named subtract ss to = tt
operation_named multiply ss to = tt
operation_named divide ss to = tt
operation_named modulo ss to = tt
operation_named power ss to = (refl, refl)
operation_named minimum ss to = (refl, refl)
operation_named maximum ss to = (refl, refl)
operation_named absolute ss to = (refl, refl)
operation_named successor ss to = (refl, refl)
operation_named predecessor ss to = (refl, refl)
operation_named to_positive [] to = (refl, refl)
operation_named to_positive (boolean ∷ ss) to = (refl, refl)
operation_named to_positive (positive ∷ ss) to = (refl, refl)
operation_named to_positive (natural ∷ ss) to = (refl, refl)
operation_named to_positive (integer ∷ ss) to = (refl, refl)
operation_named to_positive (list s ∷ ss) to = (refl, refl)
operation_named to_positive (declared_sort d ∷ ss) to = (refl, refl)
operation_named to_natural ss to = (refl, refl)

open_number : (s : Sort) (z : ℤ) → IsSmall z → IsSpellable (open_numeral s z)
open_number boolean (pos n) h = h
open_number boolean (negsuc n) h = h
open_number positive (pos n) h = h
open_number positive (negsuc n) h = h
open_number (list s) (pos n) h = h
open_number (list s) (negsuc n) h = h
open_number (declared_sort d) (pos n) h = h
open_number (declared_sort d) (negsuc n) h = h
open_number natural (pos zero) h = h
open_number natural (pos (suc n)) h = ((refl, refl), h, tt)
open_number natural (negsuc n) h = h
open_number integer (pos zero) h = ((refl, refl), h, tt)
open_number integer (pos (suc n)) h = ((refl, refl), h, tt)
open_number integer (negsuc n) h = h

placed_number : (z : ℤ) → IsSmall z → IsSpellable (placed_numeral z)
placed_number (pos n) h = h
placed_number (negsuc n) h = h

upcast_named : (s to : Sort) → IsIdentifier (upcast_name s to)
upcast_named boolean to = (refl, refl)
upcast_named positive boolean = (refl, refl)
upcast_named positive positive = (refl, refl)
upcast_named positive natural = (refl, refl)
upcast_named positive integer = (refl, refl)
upcast_named positive (list r) = (refl, refl)
upcast_named positive (declared_sort e) = (refl, refl)
upcast_named natural to = (refl, refl)
upcast_named integer to = (refl, refl)
upcast_named (list s) to = (refl, refl)
upcast_named (declared_sort d) to = (refl, refl)

cast_spelled : (o : Option (List ℕ)) (e : Expression) → IsSpellable e → ((x : List ℕ) → o ≡ Some x → IsIdentifier x) → CanBeSpelled (cast_written o e)
cast_spelled None e h k = both_ways h
cast_spelled (Some x) e h k = record { opened = h; placed = k x refl; chain = λ es e. absurd cc; name = λ y e. absurd cc }

elements_spelled : (o : Option Expressions) (w v : Written) → CanBeSpelled w → CanBeSpelled v → v.chain ≡ o → CanBeSpelled (elements_written o w v)
elements_spelled None w v a b h = both_ways (a.opened, b.opened)
elements_spelled (Some es) w v a b h =
    record { opened = (a.opened, b.chain es h); placed = (a.opened, b.chain es h); chain = λ fs e. let same : more w.opened es ≡ fs = cc in subst AreSpellable same (a.opened, b.chain es h); name = λ x e. absurd cc }

pub either_spelled : (b : Bool) (x y : Expressions) → AreSpellable x → AreSpellable y → AreSpellable (cond b x y)
either_spelled true x y h k = h
either_spelled false x y h k = k

general : (n : Names) {ws : List Written} (f : Symbol) → NamedShape (shape n f) → AllSpelled ws → CanBeSpelled (in_both (build (shape n f) (opens ws)))
general n {ws = ws} f i h = both_ways (build_spelled (shape n f) (opens ws) i (all_opens h))

with_spelled : (n : Names) (f : Symbol) (ws : List Written) → ((k : ℕ) → IsIdentifier (n.function k)) → AllSpelled ws → CanBeSpelled (written_with n f ws)
with_spelled n truth ws ids h = general n truth tt h
with_spelled n falsity ws ids h = general n falsity tt h
with_spelled n negation ws ids h = general n negation tt h
with_spelled n conjunction ws ids h = general n conjunction tt h
with_spelled n disjunction ws ids h = general n disjunction tt h
with_spelled n implication ws ids h = general n implication tt h
with_spelled n (equality s) ws ids h = general n (equality s) tt h
with_spelled n (inequality s) ws ids h = general n (inequality s) tt h
with_spelled n (conditional s) ws ids h = general n (conditional s) (refl, refl) h
with_spelled n (comparison c s) ws ids h = general n (comparison c s) tt h
with_spelled n (arithmetic op ss to) ws ids h = general n (arithmetic op ss to) (operation_named op ss to) h
with_spelled n (minus s) ws ids h = general n (minus s) tt h
with_spelled n (snoc s) ws ids h = general n (snoc s) tt h
with_spelled n (concatenation s) ws ids h = general n (concatenation s) tt h
with_spelled n (size s) ws ids h = general n (size s) tt h
with_spelled n (element_at s) ws ids h = general n (element_at s) tt h
with_spelled n (head s) ws ids h = general n (head s) (refl, refl) h
with_spelled n (rhead s) ws ids h = general n (rhead s) (refl, refl) h
with_spelled n (tail s) ws ids h = general n (tail s) (refl, refl) h
with_spelled n (rtail s) ws ids h = general n (rtail s) (refl, refl) h
with_spelled n (membership s) ws ids h = general n (membership s) tt h
with_spelled n (empty s) ws ids h = record { opened = tt; placed = tt; chain = λ es e. let same : none ≡ es = cc in subst AreSpellable same tt; name = λ x e. absurd cc }
with_spelled n (function k) ws ids h = both_ways (call_spelled (n.function k) (cond (n.once k) (places ws) (opens ws)) (ids k) (either_spelled (n.once k) (places ws) (opens ws) (all_places h) (all_opens h)))
with_spelled n (cons s) [] ids h = both_ways tt
with_spelled n (cons s) (w ∷ []) ids h = both_ways tt
with_spelled n (cons s) (w ∷ v ∷ []) ids (more_spelled a (more_spelled b none_spelled)) = elements_spelled v.chain w v a b refl
with_spelled n (cons s) (w ∷ v ∷ u ∷ ws) ids h = both_ways tt
with_spelled n (upcast s to) [] ids h = both_ways (upcast_named s to)
with_spelled n (upcast s to) (w ∷ []) ids (more_spelled a none_spelled) = cast_spelled w.name (applied (upcast_name s to) (more w.opened none)) (upcast_named s to, a.opened, tt) a.name
with_spelled n (upcast s to) (w ∷ v ∷ ws) ids (more_spelled a (more_spelled b h)) = both_ways (upcast_named s to, a.opened, (b.opened, all_opens h))

mutual
  pub spelled : (xs : List ℕ) (n : Names) (t : Term) → AreIdentifiers xs n → IsOver xs t → HasSmallNumerals t → CanBeSpelled (written n t)
  spelled xs n (variable v) ids o h = record { opened = ids.variable v o; placed = ids.variable v o; chain = λ es e. absurd cc; name = λ x e. let same : n.variable v ≡ x = cc in subst IsIdentifier same (ids.variable v o) }
  spelled xs n (terms.numeral s z) ids o h = record { opened = open_number s z h; placed = placed_number z h; chain = λ es e. absurd cc; name = λ x e. absurd cc }
  spelled xs n (unknown d k) ids o h = both_ways tt
  spelled xs n (application f ts) ids o h = with_spelled n f (written_all n ts) ids.function (spelled_all xs n ts ids o h)

  pub spelled_all : (xs : List ℕ) (n : Names) (ts : Terms) → AreIdentifiers xs n → AreOver xs ts → HaveSmallNumerals ts → AllSpelled (written_all n ts)
  spelled_all xs n terms.none ids o h = none_spelled
  spelled_all xs n (terms.more t ts) ids o h = more_spelled (spelled xs n t ids o.0 h.0) (spelled_all xs n ts ids o.1 h.1)

pub term_texts_read_back : TermTextsReadBack
term_texts_read_back d vs scope n fit ids t s h w q o =
    let e : Expression = (written n t).opened in
    let b = expressions_spell_back e (spelled (numbers scope) n t ids q (small d.tables vs t s h)).opened in
    let r : (typing (meaning d scope) (plain e)).infers ≡ Some (record { term = t; sort = s }) = (terms_read_back d.tables vs (numbers scope) n (meaning d scope) (names_that_fit_read d vs scope n fit) t s h w q).0 o in
    record { tokens = b.tokens; cut = b.cut; tree = b.tree; spells = b.spells; infers = ap (λ (x : typed.Expression). (typing (meaning d scope) x).infers) b.is ∙ r }
