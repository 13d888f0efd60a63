-- The laws of contexts, over all bunches, orders and environments.
use Rattle.std.specs.Prelude.{ℕ, ◌≡◌, ◌⊎◌, ◌↔◌, Bool, true, List, IsTrue, None}
use Rattle.stream_type.specs.StreamType.{StreamType}
use Rattle.stream_prefix.specs.StreamPrefix.{StreamPrefix, IsPrefix, IsPart, is_maximal, emp, der, join}
use Rattle.bunch.specs.BunchTree.{BunchTree, IsDistinct, leaf_names, as_type, stands_before}
use Rattle.bunch.specs.Facts.{Facts, place_like, place_let, put_before}
use Rattle.bunch.specs.Names.{put}
use Rattle.core_term.specs.CoreTerm.{CoreProgram}
use Rattle.core_term.specs.Typing.{IsTypedCore}
use Rattle.core_term.specs.TypeFaults.{first_fault}
use Rattle.core_term.specs.Environment.{Environment, NameTypes, empty_at, left_at, joined, IsTyped, IsTypedOn, IsPartAt, IsWhole, IsWholeOn, IsEmptyOn}
use Rattle.core_term.specs.Agreement.{types_in, AgreesInTree, Agrees}
use Rattle.core_term.specs.Split.{split, split_after, gathered, SplitsInto, HasEachMark}

-- an environment agrees with a bunch in the tree form exactly where it agrees with the bunch's order
abbrev pub TreeFormIsOrderForm : Type 0
TreeFormIsOrderForm =
    (b : BunchTree) → IsDistinct b → (env : Environment) → AgreesInTree b env ↔ Agrees (types_in b) (stands_before b) env

-- a split gives each name a prefix of its type
abbrev pub SplitIsTyped : Type 0
SplitIsTyped = (b : BunchTree) (p : StreamPrefix) → IsPrefix (as_type b) p → IsTyped (types_in b) (split b p)

-- a split agrees with its bunch
abbrev pub SplitAgrees : Type 0
SplitAgrees = (b : BunchTree) → IsDistinct b → (p : StreamPrefix) → IsPrefix (as_type b) p → AgreesInTree b (split b p)

-- each environment that agrees with a bunch is the split of a prefix of its type
abbrev pub GatheredSplits : Type 0
GatheredSplits =
    (b : BunchTree) → IsDistinct b → (env : Environment) → IsTypedOn (leaf_names b) (types_in b) env → AgreesInTree b env → SplitsInto b env (gathered b env)

-- every other prefix that splits into this environment is a part of that one
abbrev pub GatheredIsGreatest : Type 0
GatheredIsGreatest =
    (b : BunchTree) → IsDistinct b → (env : Environment) (p : StreamPrefix) → SplitsInto b env p → IsPart (as_type b) p (gathered b env)

-- in that one each mark has come that may have
abbrev pub GatheredHasEachMark : Type 0
GatheredHasEachMark = (b : BunchTree) (env : Environment) → HasEachMark b (gathered b env)

-- and it is the only such prefix that splits into this environment
abbrev pub GatheredIsUnique : Type 0
GatheredIsUnique =
    (b : BunchTree) → IsDistinct b → (env : Environment) (p : StreamPrefix) → SplitsInto b env p → HasEachMark b p → p ≡ gathered b env

-- the split of a part is a part of the split
abbrev pub SplitKeepsParts : Type 0
SplitKeepsParts =
    (b : BunchTree) (p q : StreamPrefix) → IsPrefix (as_type b) p → IsPart (as_type b) p q → IsPartAt (types_in b) (split b p) (split b q)

-- the split of a join is the join of the splits
abbrev pub SplitOfJoin : Type 0
SplitOfJoin =
    (b : BunchTree) (p r : StreamPrefix) → IsPrefix (as_type b) p → IsPrefix (der p (as_type b)) r → split b (join p r) ≡ joined (split b p) (split_after b p r)

-- what comes later gives each name a prefix of what is left of its type
abbrev pub SplitAfterIsTyped : Type 0
SplitAfterIsTyped =
    (b : BunchTree) (p r : StreamPrefix) → IsPrefix (as_type b) p → IsPrefix (der p (as_type b)) r
    → IsTyped (left_at (split b p) (types_in b)) (split_after b p r)

-- what comes later agrees with the bunch's order
abbrev pub SplitAfterAgrees : Type 0
SplitAfterAgrees =
    (b : BunchTree) → IsDistinct b → (p r : StreamPrefix) → IsPrefix (as_type b) p → IsPrefix (der p (as_type b)) r
    → Agrees (left_at (split b p) (types_in b)) (stands_before b) (split_after b p r)

-- the empty prefix splits into the empty environment
abbrev pub SplitOfEmpty : Type 0
SplitOfEmpty = (b : BunchTree) → split b (emp (as_type b)) ≡ empty_at (types_in b)

-- a maximal prefix splits into a whole environment
abbrev pub SplitOfWhole : Type 0
SplitOfWhole = (b : BunchTree) (p : StreamPrefix) → IsPrefix (as_type b) p → IsTrue (is_maximal p) → IsWhole (split b p)

-- what is left of an environment that agrees with an order, after a part of it was taken, agrees too
abbrev pub RestAgrees : Type 0
RestAgrees =
    (types : NameTypes) (before : Facts) (env more : Environment) → IsTyped types env → IsTyped (left_at env types) more
    → Agrees types before (joined env more) → Agrees (left_at env types) before more

-- where an environment agrees with an order, and what comes after it does, both together agree
abbrev pub JoinAgrees : Type 0
JoinAgrees =
    (types : NameTypes) (before : Facts) (env more : Environment) → IsTyped types env → IsTyped (left_at env types) more
    → Agrees types before env → Agrees (left_at env types) before more → Agrees types before (joined env more)

-- it still agrees where something comes on a name only if all that stands before it was whole already
abbrev pub StepAgrees : Type 0
StepAgrees =
    (types : NameTypes) (before : Facts) (env more : Environment) → IsTyped types env → IsTyped (left_at env types) more → Agrees types before env
    → ((x y : ℕ) → before x y ≡ true → IsTrue (is_maximal (env x)) ⊎ (more y ≡ emp (left_at env types y)))
    → Agrees types before (joined env more)

-- a name is placed like z where it is whole once z is, and empty while z is
abbrev pub LikeAgrees : Type 0
LikeAgrees =
    (types : NameTypes) (before : Facts) (env : Environment) (x z : ℕ) (s : StreamType) (p : StreamPrefix) → Agrees types before env
    → (IsTrue (is_maximal (env z)) → IsTrue (is_maximal p)) → (env z ≡ emp (types z) → p ≡ emp s)
    → Agrees (put x s types) (place_like x z before) (put x p env)

-- a name is placed by free names where it is whole once they are and, if inert, empty while they are
abbrev pub LetAgrees : Type 0
LetAgrees =
    (types : NameTypes) (before : Facts) (env : Environment) (x : ℕ) (free : List ℕ) (inert : Bool) (s : StreamType) (p : StreamPrefix)
    → Agrees types before env
    → (IsWholeOn free env → IsTrue (is_maximal p)) → (inert ≡ true → IsEmptyOn free types env → p ≡ emp s)
    → Agrees (put x s types) (place_let x free inert before) (put x p env)

-- one more fact asks that its first name is whole or its second is empty, and nothing else
abbrev pub BeforeAgrees : Type 0
BeforeAgrees =
    (types : NameTypes) (before : Facts) (env : Environment) (x y : ℕ)
    → (Agrees types before env × (IsTrue (is_maximal (env x)) ⊎ (env y ≡ emp (types y)))) ↔ Agrees types (put_before x y before) env

-- a program is typed exactly where none of its nodes breaks a rule
abbrev pub TypedIsUnbroken : Type 0
TypedIsUnbroken = (c : CoreProgram) → IsTypedCore c ↔ (first_fault c ≡ None)
