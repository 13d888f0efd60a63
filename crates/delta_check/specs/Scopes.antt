-- What the checker's scopes stand for: contexts.
--
-- A let's name is placed by the free names of what it is bound to. So that a chain of lets isn't gone
-- through again for each of them, a scope keeps with the let's name what is known of it and of other
-- names; of a name of which nothing is kept, the free names decide.
--
-- A context may also be given from outside, as lists: of the entries for one name the first counts. A name that has a
-- value hides no stream, so a name may be both.
use Rattle.std.specs.Prelude.{ℕ, ◌≡◌, ◌==◌, Bool, false, ◌&&◌, List, [], ◌∷◌, map, Option, Some, None, if◌then◌else◌}
use Rattle.std.specs.List.{list_any}
use Rattle.stream_type.specs.declared.ty.Ty.{Ty}
use Rattle.stream_type.specs.StreamType.{type_of}
use Rattle.bunch.specs.declared.name.Name.{Name}
use Rattle.bunch.specs.Names.{numbers_of}
use Rattle.bunch.specs.NameOrder.{NameOrder, facts_of}
use Rattle.bunch.specs.Facts.{Facts, before_let, after_let}
use Rattle.hist_value.specs.declared.hist_type.HTy.{HTy}
use Rattle.hist_value.specs.HistType.{HistType, hist_type_of}
use Rattle.core_term.specs.CoreTerm.{core_body_of, typed_names_of}
use Rattle.core_term.specs.Typing.{Context, context_of, with_name, with_name_like, with_fact, waited}
use Rattle.core_term.specs.TypeFaults.{first_some}
use Rattle.delta_check.specs.declared.scope.Known.{Known}
use Rattle.delta_check.specs.declared.scope.Placed.{Placed}
use Rattle.delta_check.specs.declared.scope.Scope.{Scope}
use Rattle.delta_check.specs.declared.scope.Scope.TheVariants.{Params, Given, Among, Like', Let', Fact', Waited', Valued'}

-- the first that is known of a name
abbrev pub known_at : List Known → ℕ → Option Known
known_at [] x = None
known_at (k ∷ ks) x = if x == k.name.0 then Some k else known_at ks x

-- whether a name stands before the let's, and the let's name before it: what is known, or else d
abbrev pub before_by : Option Known → Bool → Bool
before_by None d = d
before_by (Some k) d = k.before

abbrev pub after_by : Option Known → Bool → Bool
after_by None d = d
after_by (Some k) d = k.after

-- the facts with a let's name x among them
abbrev pub place_known : ℕ → Placed → Facts → Facts
place_known x p before a b =
    if a == x
    then (if b == x then false else after_by (known_at p.known.items b) (after_let (numbers_of p.free.items) before b))
    else (if b == x then before_by (known_at p.known.items a) (before_let (numbers_of p.free.items) p.inert before a) else before a b)

-- what is known is what the free names say
pub record IsKnown (known : List Known) (free : List ℕ) (inert : Bool) (before : Facts) : Type 0 where
  pub knows_before : (a : ℕ) → before_by (known_at known a) (before_let free inert before a) ≡ before_let free inert before a
  pub knows_after : (b : ℕ) → after_by (known_at known b) (after_let free before b) ≡ after_let free before b

-- the first that stands beside a name
abbrev pub given_at : {A : Type 0} → List (ℕ × A) → ℕ → Option A
given_at [] x = None
given_at (e ∷ es) x = if x == e.0 then Some e.1 else given_at es x

-- names with the types of their values
abbrev pub historical_of : List (Name × HTy) → List (ℕ × HistType)
historical_of past = map (λ e. (e.0.0, hist_type_of e.1)) past

-- the facts of a list: the first name of each entry stands before the second
abbrev pub facts_given : List (Name × Name) → Facts
facts_given facts x y = list_any (λ f. (x == f.0.0) && (y == f.1.0)) facts

-- stream variables with their types, and these facts of them
abbrev pub context_given : List (Name × Ty) → Facts → Context
context_given vars before = record { types = given_at (typed_names_of vars); order = before; past = λ x. None }

-- these names have values too
abbrev pub with_values : List (Name × HTy) → Context → Context
with_values past c = record { types = c.types; order = c.order; past = λ x. first_some (given_at (historical_of past) x) (c.past x) }

-- the context that a scope stands for
abbrev pub context_in : Scope → Context
context_in (Params b) = context_of (core_body_of b.now)
context_in (Given vars order) = context_given vars.now (facts_of order.now)
context_in (Among vars facts) = context_given vars.now (facts_given facts.now)
context_in (Like' x t z r s) = with_name_like x.0 (type_of t.now) z.0 (context_in s)
context_in (Let' x t p r s) = with_name x.0 (type_of t.now) (place_known x.0 p.now (context_in s).order) (context_in s)
context_in (Fact' x y r s) = with_fact x.0 y.0 (context_in s)
context_in (Waited' x r s) = waited x.0 (context_in s)
context_in (Valued' past r s) = with_values past.now (context_in s)
