-- Which functions a text declares.
use Rattle.std.specs.Prelude.{ℕ, suc, List, [], ◌∷◌, ◌++◌, map, Option, Some, None}
use Rattle.std.specs.List.{flat_map}
use Rattle.sort_table.specs.Expressions.{Name}
use Rattle.sort_table.specs.BareSorts.{SortExpression, truth_values, a_name}
use Rattle.sort_table.specs.BareDeclarations.{Field, Constructor, Declaration, struct, constructors, mappings}

-- a constructor of a `struct` or of a `cons`; the projection of a place, from 0, of the constructor with this name and these
-- arguments, or that one's recogniser; or a mapping
pub data TextRole : Type 0 where
  struct_constructor : TextRole
  declared_constructor : TextRole
  projection : Name → List SortExpression → ℕ → TextRole
  recogniser : Name → List SortExpression → TextRole
  mapping : TextRole

pub record TextFunction : Type 0 where
  pub arguments : List SortExpression
  pub result : SortExpression
  pub role : TextRole

-- a function under its name
abbrev pub Named : Type 0
Named = Name × TextFunction

abbrev pub declared : List SortExpression → SortExpression → TextRole → Name → Named
declared es to r f = (f, record { arguments = es; result = to; role = r })

-- a function of one argument, where it has a name
abbrev pub where_named : SortExpression → SortExpression → TextRole → Option Name → List Named
where_named e to r None = []
where_named e to r (Some f) = declared (e ∷ []) to r f ∷ []

abbrev pub fields_of : Constructor → List SortExpression
fields_of c = map (λ (f : Field). f.sort) c.fields

-- the projections of a constructor, from its place i on
abbrev pub projections_from : SortExpression → Constructor → ℕ → List Field → List Named
projections_from e c i [] = []
projections_from e c i (f ∷ fs) = where_named e f.sort (projection c.name (fields_of c) i) f.name ++ projections_from e c (suc i) fs

-- Of a `struct` the constructors, then the projections constructor by constructor, then the recognisers
abbrev pub functions_by : Declaration → List Named
functions_by (struct n cs) =
    map (λ (c : Constructor). declared (fields_of c) (a_name n) struct_constructor c.name) cs
    ++ (flat_map (λ (c : Constructor). projections_from (a_name n) c 0 c.fields) cs ++ flat_map (λ (c : Constructor). where_named (a_name n) truth_values (recogniser c.name (fields_of c)) c.recogniser) cs)
functions_by (constructors fs es to) = map (declared es to declared_constructor) fs
functions_by (mappings fs es to) = map (declared es to mapping) fs
functions_by _ = []

abbrev pub functions_in : List Declaration → List Named
functions_in ds = flat_map functions_by ds
