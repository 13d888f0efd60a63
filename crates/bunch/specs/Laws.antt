-- The laws of bunches and orders.
use Rattle.std.specs.Prelude.{ℕ, ◌≡◌, ◌≢◌, true, false}
use Rattle.bunch.specs.Names.{holds}
use Rattle.bunch.specs.BunchTree.{BunchTree, IsDistinct, stands_before}
use Rattle.bunch.specs.Facts.{Facts, place_like}
use Rattle.bunch.specs.NameOrder.{NameOrder, facts_of}

-- in a bunch with distinct names no name stands before itself
abbrev pub BeforeIsIrreflexive : Type 0
BeforeIsIrreflexive = (b : BunchTree) → IsDistinct b → (x : ℕ) → stands_before b x x ≡ false

-- what stands before a name stands before all that this name stands before
abbrev pub BeforeIsTransitive : Type 0
BeforeIsTransitive =
    (b : BunchTree) → IsDistinct b → (x y z : ℕ)
    → stands_before b x y ≡ true → stands_before b y z ≡ true → stands_before b x z ≡ true

-- an order has facts of its own names alone
abbrev pub FactsAreOfNames : Type 0
FactsAreOfNames =
    (o : NameOrder) (x y : ℕ) → facts_of o x y ≡ true → (holds x o.names ≡ true) × (holds y o.names ≡ true)

-- a name that is placed like z has on each other name just z's facts, where z isn't before itself
abbrev pub LikeHasTheSameFacts : Type 0
LikeHasTheSameFacts =
    (before : Facts) (x z a : ℕ) → before z z ≡ false → a ≢ x
    → (place_like x z before x a ≡ before z a) × (place_like x z before a x ≡ before a z)
