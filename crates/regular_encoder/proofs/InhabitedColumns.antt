-- No sort is empty where columns, a control parameter and closed terms have come.
use Rattle.std.proofs.Common.{◌≡◌, ◌<◌, List, length, refl, ap, ◌∙◌, subst}
use Rattle.data_theory.specs.declared.ids.SortId.{SortId}
use Rattle.data_theory.specs.declared.ids.FunId.{FunId}
use Rattle.data_theory.specs.declared.ids.VarId.{VarId}
use Rattle.data_theory.specs.declared.ids.TermId.{TermId}
use Rattle.data_theory.specs.Declarations.{NoSortIsEmpty}
use Rattle.data_theory.specs.Signature.{Sig}
use Rattle.data_theory.specs.IdData.{data_meant}
use Rattle.data_theory.specs.IdTerms.{IsGrown}
use Rattle.data_theory.specs.WholeSignatures.{IsSignature}
use Rattle.term_pool.specs.Pools.{PoolContents}
use Rattle.term_pool.specs.Constants.{DeclaresConstant, DeclaresConstants, none_left, declares}
use Rattle.term_pool.proofs.GrownSignatures.{inhabited_sorts_stay_inhabited}
use Rattle.term_pool.proofs.InhabitedSorts.{sorts_have_values_where_none_is_empty}
use Rattle.regular_encoder.specs.FormColumns.{IsFirstTerm, an_argument, a_closed_term, AreFirstTerms, no_first_term, one_more_first_term}

-- ---- no sort is added
constant_sorts : (d : SortId) (g : Sig) (cs : List (SortId × FunId)) (h : Sig) (ds : List (SortId × FunId)) → DeclaresConstant d g cs h ds → h.sorts ≡ g.sorts
constant_sorts d g cs h ds k = ap (λ (z : Sig). z.sorts) k.declared ∙ ap (λ (z : Sig). z.sorts) k.fresh.taken

pub constants_sorts : (sorts : List SortId) (g : Sig) (cs : List (SortId × FunId)) (h : Sig) (ds : List (SortId × FunId)) → DeclaresConstants sorts g cs h ds → h.sorts ≡ g.sorts
constants_sorts _ g cs _ _ none_left = refl
constants_sorts _ g cs i es (declares {d = d} {sorts = sorts} {h = h} {ds = ds} k more) = constants_sorts sorts h ds i es more ∙ constant_sorts d g cs h ds k

first_sorts : (place : List VarId) (args : List TermId) (g : Sig) (p : PoolContents) (c : VarId) (h : Sig) (q : PoolContents) (t : TermId) → IsFirstTerm place args g p c h q t → h.sorts ≡ g.sorts
first_sorts place args g p c _ _ _ (an_argument e) = refl
first_sorts place args g p c _ _ _ (a_closed_term {h = h} {q = q} e k) = constants_sorts _ g p.constants h q.constants k.declared

pub firsts_sorts : (place : List VarId) (args : List TermId) (g : Sig) (p : PoolContents) (cs : List VarId) (h : Sig) (q : PoolContents) (ts : List TermId) → AreFirstTerms place args g p cs h q ts → h.sorts ≡ g.sorts
firsts_sorts place args g p _ _ _ _ no_first_term = refl
firsts_sorts place args g p _ k r _ (one_more_first_term {cs = cs} {ts = ts} {h = h} {q = q} {c = c} {t = t} a n) = first_sorts place args h q c k r t n ∙ firsts_sorts place args g p cs h q ts a

-- ---- so none is empty
pub still_inhabited : (g h : Sig) → IsSignature g → IsSignature h → IsGrown g h → h.sorts ≡ g.sorts → NoSortIsEmpty (data_meant g) → NoSortIsEmpty (data_meant h)
still_inhabited g h s r w e n =
    let values = (sorts_have_values_where_none_is_empty g s).0 n in
    (sorts_have_values_where_none_is_empty h r).1 (λ a l. inhabited_sorts_stay_inhabited g h w a (values a (subst (λ ss. a.0 < length ss) e l)))
