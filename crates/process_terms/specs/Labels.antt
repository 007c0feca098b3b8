-- Actions and labels, and when two labels agree.
use Rattle.std.specs.Prelude.{List, [], ◌∷◌, map}
use Rattle.data_theory.specs.Terms.{Sort, Term, put}
use Rattle.data_theory.specs.Environments.{Environment, term_in}
use Rattle.process_terms.specs.Names.{Name}
use Rattle.process_terms.specs.Theories.{Theory, Equals}

-- a name with the sorts of its arguments, and the arguments; the same name with other sorts is another action
pub record Action : Type 0 where
  pub name : Name
  pub sorts : List Sort
  pub args : List Term

-- a multi-action, in the order of the text; the empty one is `tau`
abbrev pub Label : Type 0
Label = List Action

abbrev pub names : Label → List Name
names m = map (λ a. a.name) m

-- ---- terms put in for the variables of the arguments
abbrev pub put_action : Environment → Action → Action
put_action e a = record { name = a.name; sorts = a.sorts; args = map (put (term_in e)) a.args }

abbrev pub put_label : Environment → Label → Label
put_label e m = map (put_action e) m

-- ---- the same elements in some order
-- x is put in somewhere
pub data Inserted {A : Type 0} (x : A) : List A → List A → Type 0 where
  at_front : {xs : List A} → Inserted x xs (x ∷ xs)
  further : {y : A} {xs ys : List A} → Inserted x xs ys → Inserted x (y ∷ xs) (y ∷ ys)

pub data Permuted {A : Type 0} : List A → List A → Type 0 where
  nothing_left : Permuted [] []
  one_placed : {x : A} {xs ys zs : List A} → Permuted xs ys → Inserted x ys zs → Permuted (x ∷ xs) zs

-- ---- agreement
-- the same name and sorts, with provably equal arguments
pub data AgreeAction (th : Theory) : Action → Action → Type 0 where
  equal_args : {n : Name} {ss : List Sort} {ts us : List Term} → Equals th ts us → AgreeAction th (record { name = n; sorts = ss; args = ts }) (record { name = n; sorts = ss; args = us })

-- the actions agree place by place
pub data AgreeInOrder (th : Theory) : Label → Label → Type 0 where
  both_silent : AgreeInOrder th [] []
  next_agree : {a b : Action} {m n : Label} → AgreeAction th a b → AgreeInOrder th m n → AgreeInOrder th (a ∷ m) (b ∷ n)

-- the first one agrees in order with the second one in some order
pub record Agree (th : Theory) (m n : Label) : Type 0 where
  pub reordered : Label
  pub in_order : AgreeInOrder th m reordered
  pub same : Permuted reordered n
