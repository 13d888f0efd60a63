-- Which names a program's tokens declare and bind, and which of them twice or too many.
--
-- It is told from the left, token by token. Of tokens that begin a program it says what it should; what stands behind a token that no
-- program has there is never asked, since that token is a fault itself. The name of a `wait` is one that was bound before, and a
-- declaration's own name isn't among the names that it binds.
use Rattle.std.specs.Prelude.{◌≡◌, ℕ, ◌+◌, ◌<◌, Bool, true, false, ◌&&◌, ◌==◌, nat_le, List, [], ◌∷◌, ◌++◌, length, take, Option, None, Some, slice_get}
use Rattle.std.specs.List.{list_any}
use Rattle.delta_parse.specs.declared.terminal.Terminal.{Terminal}
use Rattle.delta_parse.specs.declared.terminal.Terminal.TheVariants.{FunWord, TypeWord, MainWord, LetWord, WithWord, OfWord, InlWord, InrWord, Open, OpenBrace, CloseBrace, Comma, Semicolon, Colon, Colons, Equals, Bar, NameToken}
use Rattle.delta_parse.specs.declared.bindings.Stand.{Stand}
use Rattle.delta_parse.specs.declared.bindings.Stand.TheVariants.{InBody, NamesType, NamesFunction, Parameters, InType, BindsFirst, OneBound, BindsSecond}
use Rattle.delta_parse.specs.declared.bindings.NameFault.{NameFault}
use Rattle.delta_parse.specs.declared.bindings.NameFault.TheVariants.{Twice, Many}
use Rattle.delta_parse.specs.declared.bindings.Bindings.{Bindings}
use Rattle.delta_parse.specs.Terminals.{Tok, is_kind}

-- in a header each name outside types is a parameter's
abbrev pub in_header : Terminal → Stand
in_header Colon = InType
in_header _ = Parameters

-- a parameter's type ends at what separates parameters, and the header at its `=`
abbrev pub in_type : Terminal → Stand
in_type Comma = Parameters
in_type Semicolon = Parameters
in_type CloseBrace = Parameters
in_type Equals = InBody
in_type _ = InType

-- between a word or sign that binds and the name; `nil` binds none
abbrev pub before_first : Terminal → Stand
before_first Open = BindsFirst
before_first OpenBrace = BindsFirst
before_first InlWord = BindsFirst
before_first InrWord = BindsFirst
before_first NameToken = OneBound
before_first _ = InBody

abbrev pub behind_first : Terminal → Stand
behind_first Comma = BindsSecond
behind_first Semicolon = BindsSecond
behind_first Colons = BindsSecond
behind_first _ = InBody

-- where the next token stands, behind one that is none of the words and signs of `stand_after`
abbrev pub stand_within : Stand → Terminal → Stand
stand_within NamesFunction k = Parameters
stand_within Parameters k = in_header k
stand_within InType k = in_type k
stand_within BindsFirst k = before_first k
stand_within OneBound k = behind_first k
stand_within NamesType k = InBody
stand_within BindsSecond k = InBody
stand_within InBody k = InBody

-- where the next token stands
abbrev pub stand_after : Stand → Terminal → Stand
stand_after s TypeWord = NamesType
stand_after s FunWord = NamesFunction
stand_after s MainWord = Parameters
stand_after s LetWord = BindsFirst
stand_after s WithWord = BindsFirst
stand_after s OfWord = BindsFirst
stand_after s Bar = BindsFirst
stand_after s k = stand_within s k

-- the names so far: those that `type` and those that `fun` declared, how many the declaration bound, and those that are bound together
pub record Bound : Type 0 where
  pub stand : Stand
  pub types : List ℕ
  pub functions : List ℕ
  pub count : ℕ
  pub together : List ℕ

-- a name binds as a parameter, as the first or only name of a pattern, an arm or a `with`, or as the second
abbrev pub binds : Stand → Bool
binds Parameters = true
binds BindsFirst = true
binds BindsSecond = true
binds _ = false

-- with which names one that stands so is declared or bound together: the header's parameters of both kinds, or the first of a pair
abbrev pub rivals : Stand → Bound → List ℕ
rivals NamesType s = s.types
rivals NamesFunction s = s.functions
rivals Parameters s = s.together
rivals BindsSecond s = s.together
rivals _ s = []

-- as many functions as may be are declared, or as many names as may be are bound in the declaration
abbrev pub is_full : Stand → Bound → Bool
is_full NamesFunction s = nat_le 1000 (length s.functions)
is_full Parameters s = nat_le 1024 s.count
is_full BindsFirst s = nat_le 1024 s.count
is_full BindsSecond s = nat_le 1024 s.count
is_full _ s = false

abbrev pub has : List ℕ → ℕ → Bool
has names n = list_any (λ m. m == n) names

-- the token is declared or bound together with the same name before
abbrev pub is_repeated : Bound → Tok → Bool
is_repeated s t = is_kind NameToken t.kind && has (rivals s.stand s) t.worth.name

-- the token is one name more than there may be
abbrev pub is_excess : Bound → Tok → Bool
is_excess s t = is_kind NameToken t.kind && is_full s.stand s

-- a name that stands so is put behind those before
abbrev pub with_name : Stand → ℕ → Bound → Bound
with_name NamesType n s = record s { types = s.types ++ (n ∷ []) }
with_name NamesFunction n s = record s { functions = s.functions ++ (n ∷ []) }
with_name Parameters n s = record s { count = s.count + 1; together = s.together ++ (n ∷ []) }
with_name BindsFirst n s = record s { count = s.count + 1; together = n ∷ [] }
with_name BindsSecond n s = record s { count = s.count + 1; together = s.together ++ (n ∷ []) }
with_name _ n s = s

-- a declaration begins, and has bound no name
abbrev pub begun : Bound → Bound
begun s = record s { count = 0; together = [] }

abbrev pub with_token : Terminal → ℕ → Bound → Bound
with_token NameToken n s = with_name s.stand n s
with_token TypeWord n s = begun s
with_token FunWord n s = begun s
with_token MainWord n s = begun s
with_token _ n s = s

abbrev pub after_token : Bound → Tok → Bound
after_token s t = record (with_token t.kind t.worth.name s) { stand = stand_after s.stand t.kind }

abbrev pub bound : Bound → List Tok → Bound
bound s [] = s
bound s (t ∷ ts) = bound (after_token s t) ts

abbrev pub none_bound : Bound
none_bound = record { stand = InBody; types = []; functions = []; count = 0; together = [] }

-- the names before token number n
abbrev pub bound_before : List Tok → ℕ → Bound
bound_before ts n = bound none_bound (take n ts)

abbrev pub passes : (Tok → Bool) → Option Tok → Bool
passes test None = false
passes test (Some t) = test t

-- token number n is declared or bound together with the same name before
abbrev pub is_twice : List Tok → ℕ → Bool
is_twice ts n = passes (is_repeated (bound_before ts n)) (slice_get ts n)

-- token number n is the name of function number 1,001, or name number 1,025 that one declaration binds, or one behind it
abbrev pub is_many : List Tok → ℕ → Bool
is_many ts n = passes (is_excess (bound_before ts n)) (slice_get ts n)

-- none of the first n tokens is a name twice, or one too many
pub record AreNamed (ts : List Tok) (n : ℕ) : Type 0 where
  pub once : (k : ℕ) → k < n → is_twice ts k ≡ false
  pub few : (k : ℕ) → k < n → is_many ts k ≡ false

-- the fault of a name that is twice, or too many, or both: twice comes first
abbrev pub IsFaultOf : NameFault → Bool → Bool → Type 0
IsFaultOf Twice twice many = twice ≡ true
IsFaultOf Many twice many = (twice ≡ false) × (many ≡ true)

-- at token number n a name's fault stands, and none before it
pub record IsFaultAt (ts : List Tok) (n : ℕ) (f : NameFault) : Type 0 where
  pub within : n < length ts
  pub before : AreNamed ts n
  pub is : IsFaultOf f (is_twice ts n) (is_many ts n)

-- the first fault of a name, if there is one
abbrev pub IsFirstFault : List Tok → Option (ℕ × NameFault) → Type 0
IsFirstFault ts None = AreNamed ts (length ts)
IsFirstFault ts (Some x) = IsFaultAt ts x.0 x.1

abbrev pub bound_of : Bindings → Bound
bound_of b = record { stand = b.stand; types = b.types.keys; functions = b.functions.items; count = b.count; together = b.together.items }
