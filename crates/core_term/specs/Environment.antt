-- What an environment is: for each name what has come on its stream.
--
-- Choices that are not obvious:
-- - An environment, like the types of names, is a function of every name, so that no statement asks
--   whether a name is there. A name that nothing binds has type `eps` and its empty prefix.
-- - Environments are joined and compared name by name, as prefixes are.
use Rattle.std.specs.Prelude.{ℕ, if◌then◌else◌, ◌≡◌, IsTrue, List, true}
use Rattle.stream_type.specs.StreamType.{StreamType, eps}
use Rattle.stream_prefix.specs.StreamPrefix.{StreamPrefix, eps_emp, emp, is_maximal, der, join, IsPrefix, IsPart}
use Rattle.bunch.specs.Names.{holds}

-- the prefix of each name
abbrev pub Environment : Type 0
Environment = ℕ → StreamPrefix

-- the type of each name
abbrev pub NameTypes : Type 0
NameTypes = ℕ → StreamType

-- the first for the names of the list, and for all others the second
abbrev pub by_side : {A : Type 0} → List ℕ → (ℕ → A) → (ℕ → A) → ℕ → A
by_side names f g x = if holds x names then f x else g x

-- no name has a type
abbrev pub untyped : NameTypes
untyped x = eps

-- nothing has come, on no stream
abbrev pub nothing : Environment
nothing x = eps_emp

-- nothing has come on streams of these types
abbrev pub empty_at : NameTypes → Environment
empty_at types x = emp (types x)

-- what is left of each type
abbrev pub left_at : Environment → NameTypes → NameTypes
left_at env types x = der (env x) (types x)

-- each name's prefix, and after it what more came
abbrev pub joined : Environment → Environment → Environment
joined env more x = join (env x) (more x)

-- each name has a prefix of its type
abbrev pub IsTyped : NameTypes → Environment → Type 0
IsTyped types env = (x : ℕ) → IsPrefix (types x) (env x)

-- each name of the list has a prefix of its type
abbrev pub IsTypedOn : List ℕ → NameTypes → Environment → Type 0
IsTypedOn names types env = (x : ℕ) → holds x names ≡ true → IsPrefix (types x) (env x)

-- each name's prefix is a part of what it has in the other
abbrev pub IsPartAt : NameTypes → Environment → Environment → Type 0
IsPartAt types env other = (x : ℕ) → IsPart (types x) (env x) (other x)

-- the streams of all names are whole
abbrev pub IsWhole : Environment → Type 0
IsWhole env = (x : ℕ) → IsTrue (is_maximal (env x))

-- the streams of the names of the list are whole
abbrev pub IsWholeOn : List ℕ → Environment → Type 0
IsWholeOn names env = (x : ℕ) → holds x names ≡ true → IsTrue (is_maximal (env x))

-- nothing has come on the streams of the names of the list
abbrev pub IsEmptyOn : List ℕ → NameTypes → Environment → Type 0
IsEmptyOn names types env = (x : ℕ) → holds x names ≡ true → env x ≡ emp (types x)

-- both have the same prefixes for the names of the list
abbrev pub IsSameOn : List ℕ → Environment → Environment → Type 0
IsSameOn names env other = (x : ℕ) → holds x names ≡ true → env x ≡ other x
