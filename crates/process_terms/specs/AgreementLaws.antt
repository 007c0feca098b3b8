-- What the laws of agreement say.
use Rattle.std.specs.Prelude.{◌↔◌, List, ◌++◌}
use Rattle.data_theory.specs.Terms.{Term}
use Rattle.data_theory.specs.Provable.{PlacesEqual}
use Rattle.data_theory.specs.Environments.{terms_of}
use Rattle.process_terms.specs.Theories.{Theory, Equals}
use Rattle.process_terms.specs.Labels.{Label, AgreeInOrder, Agree}
use Rattle.process_terms.specs.Communication.{Rule, Communicates}
use Rattle.process_terms.specs.Processes.{Around}
use Rattle.process_terms.specs.Steps.{Passes}

-- ---- lists of terms
-- lists that are provably equal place by place, as lists and as they stand behind a symbol
abbrev pub EqualListsAreEqualPlaces : Type 0
EqualListsAreEqualPlaces = (th : Theory) (ts us : List Term) → (Equals th ts us ↔ PlacesEqual th.declared th.equations (terms_of ts) (terms_of us))

-- ---- in order
abbrev pub AgreementInOrderIsReflexive : Type 0
AgreementInOrderIsReflexive = (th : Theory) (m : Label) → AgreeInOrder th m m

abbrev pub AgreementInOrderIsSymmetric : Type 0
AgreementInOrderIsSymmetric = (th : Theory) (m n : Label) → AgreeInOrder th m n → AgreeInOrder th n m

abbrev pub AgreementInOrderIsTransitive : Type 0
AgreementInOrderIsTransitive = (th : Theory) (l m n : Label) → AgreeInOrder th l m → AgreeInOrder th m n → AgreeInOrder th l n

abbrev pub JoinedLabelsAgreeInOrder : Type 0
JoinedLabelsAgreeInOrder = (th : Theory) (l l' m m' : Label) → AgreeInOrder th l l' → AgreeInOrder th m m' → AgreeInOrder th (l ++ m) (l' ++ m')

-- ---- as multisets
abbrev pub AgreementInOrderIsAgreement : Type 0
AgreementInOrderIsAgreement = (th : Theory) (m n : Label) → AgreeInOrder th m n → Agree th m n

abbrev pub AgreementIsReflexive : Type 0
AgreementIsReflexive = (th : Theory) (m : Label) → Agree th m m

abbrev pub AgreementIsSymmetric : Type 0
AgreementIsSymmetric = (th : Theory) (m n : Label) → Agree th m n → Agree th n m

abbrev pub AgreementIsTransitive : Type 0
AgreementIsTransitive = (th : Theory) (l m n : Label) → Agree th l m → Agree th m n → Agree th l n

abbrev pub JoinedLabelsAgree : Type 0
JoinedLabelsAgree = (th : Theory) (l l' m m' : Label) → Agree th l l' → Agree th m m' → Agree th (l ++ m) (l' ++ m')

-- joined the other way round they are the same multiset
abbrev pub JoinedEitherWay : Type 0
JoinedEitherWay = (th : Theory) (l m : Label) → Agree th (l ++ m) (m ++ l)

-- ---- through operators
-- what a label communicates to, one that agrees with it in order communicates to as well, up to agreement in order
abbrev pub CommunicationRespectsAgreement : Type 0
CommunicationRespectsAgreement =
    (th : Theory) (rules : List Rule) (m m' n : Label) → Communicates th rules m n → AgreeInOrder th m m'
    → (n' : Label) × (Communicates th rules m' n' × AgreeInOrder th n n')

-- the same for each operator around a process
abbrev pub OperatorsRespectAgreement : Type 0
OperatorsRespectAgreement =
    (th : Theory) (o : Around) (m m' n : Label) → Passes th o m n → AgreeInOrder th m m'
    → (n' : Label) × (Passes th o m' n' × AgreeInOrder th n n')
