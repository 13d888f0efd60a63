-- The laws of prefixes, over all types and all prefixes of them.
use Rattle.std.specs.Prelude.{◌≡◌, IsTrue, ◌≤◌}
use Rattle.stream_type.specs.StreamType.{StreamType, eps, one, int, cat, par, sum, star, null_of, reach_of}
use Rattle.stream_prefix.specs.Increment.{increment}
use Rattle.stream_prefix.specs.StreamPrefix.{StreamPrefix, IsPrefix, IsPart, is_maximal, emp, der, join}
use Rattle.stream_prefix.specs.Forms.{IsOfEps, IsOfOne, IsOfInt, IsOfPar, IsOfCat, IsOfSum, IsOfStar}

-- the empty prefix is a prefix of its type
abbrev pub EmptyIsPrefix : Type 0
EmptyIsPrefix = (s : StreamType) → IsPrefix s (emp s)

-- the empty prefix is maximal exactly where the type is null
abbrev pub EmptyIsMaximalWhereNull : Type 0
EmptyIsMaximalWhereNull = (s : StreamType) → is_maximal (emp s) ≡ null_of s

-- what has come, and then what comes, is again a prefix
abbrev pub JoinIsPrefix : Type 0
JoinIsPrefix = (s : StreamType) (p q : StreamPrefix) → IsPrefix s p → IsPrefix (der p s) q → IsPrefix s (join p q)

-- nothing and then a prefix is that prefix
abbrev pub EmptyBefore : Type 0
EmptyBefore = (s : StreamType) (q : StreamPrefix) → IsPrefix s q → join (emp s) q ≡ q

-- a prefix and then nothing is that prefix
abbrev pub EmptyAfter : Type 0
EmptyAfter = (s : StreamType) (p : StreamPrefix) → IsPrefix s p → join p (emp (der p s)) ≡ p

-- of three prefixes in a row it does not matter which two are joined first
abbrev pub JoinAssociates : Type 0
JoinAssociates =
    (s : StreamType) (p q r : StreamPrefix) → IsPrefix s p → IsPrefix (der p s) q → IsPrefix (der q (der p s)) r → join (join p q) r ≡ join p (join q r)

-- nothing leaves the whole type
abbrev pub EmptyDerives : Type 0
EmptyDerives = (s : StreamType) → der (emp s) s ≡ s

-- a join leaves what its second part leaves of what its first leaves
abbrev pub JoinDerives : Type 0
JoinDerives =
    (s : StreamType) (p q : StreamPrefix) → IsPrefix s p → IsPrefix (der p s) q → der (join p q) s ≡ der q (der p s)

-- what came after a prefix is known from the join
abbrev pub JoinCancels : Type 0
JoinCancels =
    (s : StreamType) (p q r : StreamPrefix) → IsPrefix s p → IsPrefix (der p s) q → IsPrefix (der p s) r → join p q ≡ join p r → q ≡ r

-- a join is maximal exactly where its second part is
abbrev pub JoinIsMaximal : Type 0
JoinIsMaximal =
    (s : StreamType) (p q : StreamPrefix) → IsPrefix s p → IsPrefix (der p s) q → is_maximal (join p q) ≡ is_maximal q

-- a maximal prefix is a part of itself alone
abbrev pub MaximalStands : Type 0
MaximalStands = (s : StreamType) (p q : StreamPrefix) → IsPrefix s p → IsTrue (is_maximal p) → IsPart s p q → q ≡ p

-- after a maximal prefix nothing comes
abbrev pub NothingFollowsMaximal : Type 0
NothingFollowsMaximal =
    (s : StreamType) (p r : StreamPrefix) → IsPrefix s p → IsTrue (is_maximal p) → IsPrefix (der p s) r → r ≡ emp (der p s)

-- maximal prefixes, and no others, leave a null type
abbrev pub MaximalLeavesNull : Type 0
MaximalLeavesNull = (s : StreamType) (p : StreamPrefix) → IsPrefix s p → null_of (der p s) ≡ is_maximal p

-- the empty prefix is the only one of a null type
abbrev pub NullHasOnePrefix : Type 0
NullHasOnePrefix = (s : StreamType) (p : StreamPrefix) → IsTrue (null_of s) → IsPrefix s p → p ≡ emp s

-- and it is maximal
abbrev pub PrefixOfNullIsMaximal : Type 0
PrefixOfNullIsMaximal =
    (s : StreamType) (p : StreamPrefix) → IsTrue (null_of s) → IsPrefix s p → IsTrue (is_maximal p)

-- each prefix is a part of itself
abbrev pub PartIsReflexive : Type 0
PartIsReflexive = (s : StreamType) (p : StreamPrefix) → IsPrefix s p → IsPart s p p

-- a part of a part is a part
abbrev pub PartIsTransitive : Type 0
PartIsTransitive =
    (s : StreamType) (p q r : StreamPrefix) → IsPrefix s p → IsPart s p q → IsPart s q r → IsPart s p r

-- two prefixes that are parts of each other are equal
abbrev pub PartIsAntisymmetric : Type 0
PartIsAntisymmetric = (s : StreamType) (p q : StreamPrefix) → IsPrefix s p → IsPart s p q → IsPart s q p → p ≡ q

-- what came after a part is known
abbrev pub RestIsUnique : Type 0
RestIsUnique = (s : StreamType) (p q : StreamPrefix) → IsPrefix s p → (a b : IsPart s p q) → a.rest ≡ b.rest

-- what came after a part is the increment from it
abbrev pub IncrementIsRest : Type 0
IncrementIsRest = (s : StreamType) (p q : StreamPrefix) → IsPrefix s p → (part : IsPart s p q) → increment p q ≡ part.rest

-- what a prefix leaves reaches no farther than its type
abbrev pub ReachFalls : Type 0
ReachFalls = (s : StreamType) (p : StreamPrefix) → IsPrefix s p → reach_of (der p s) ≤ reach_of s

-- the prefixes of `eps`
abbrev pub PrefixesOfEps : Type 0
PrefixesOfEps = (p : StreamPrefix) → IsPrefix eps p → IsOfEps p

-- the prefixes of `1`
abbrev pub PrefixesOfOne : Type 0
PrefixesOfOne = (p : StreamPrefix) → IsPrefix one p → IsOfOne p

-- the prefixes of `Int`
abbrev pub PrefixesOfInt : Type 0
PrefixesOfInt = (p : StreamPrefix) → IsPrefix int p → IsOfInt p

-- the prefixes of `s || t`
abbrev pub PrefixesOfPar : Type 0
PrefixesOfPar = (s t : StreamType) (p : StreamPrefix) → IsPrefix (par s t) p → IsOfPar s t p

-- the prefixes of `s . t`
abbrev pub PrefixesOfCat : Type 0
PrefixesOfCat = (s t : StreamType) (p : StreamPrefix) → IsPrefix (cat s t) p → IsOfCat s t p

-- the prefixes of `s + t`
abbrev pub PrefixesOfSum : Type 0
PrefixesOfSum = (s t : StreamType) (p : StreamPrefix) → IsPrefix (sum s t) p → IsOfSum s t p

-- the prefixes of `s*`
abbrev pub PrefixesOfStar : Type 0
PrefixesOfStar = (s : StreamType) (p : StreamPrefix) → IsPrefix (star s) p → IsOfStar s p
