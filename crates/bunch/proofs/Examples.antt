-- The definitions at single bunches and orders: each answer was worked out by hand, and the check computes it.
use Rattle.std.proofs.Common.{◌≡◌, true, false, [], ◌∷◌, refl}
use Rattle.stream_type.specs.StreamType.{one, int, par, cat}
use Rattle.bunch.specs.Names.{place_in}
use Rattle.bunch.specs.BunchTree.{BunchTree, leaf, comma, semi, leaf_names, as_type, stands_before}
use Rattle.bunch.specs.Facts.{among, place_like, place_let, put_before}
use Rattle.bunch.specs.NameOrder.{NameOrder, facts_of}

-- `0 : Int, (1 : 1; 2 : Int)`
abbrev sample : BunchTree
sample = comma (leaf 0 int) (semi (leaf 1 one) (leaf 2 int))

names-sample : leaf_names sample ≡ 0 ∷ 1 ∷ 2 ∷ []
names-sample = refl

type-sample : as_type sample ≡ par int (cat one int)
type-sample = refl

-- the semicolon orders its two sides, and not the other way round
order-sample : stands_before sample 1 2 ≡ true
order-sample = refl

order-back : stands_before sample 2 1 ≡ false
order-back = refl

-- the comma orders nothing
order-comma : stands_before sample 0 1 ≡ false
order-comma = refl

-- all on the left stand before all on the right, however deep
order-deep : stands_before (semi (comma (leaf 0 int) (leaf 1 int)) (comma (leaf 2 int) (semi (leaf 3 int) (leaf 4 int)))) 0 4 ≡ true
order-deep = refl

-- 3 is placed like 1: before 2, and neither before 1 nor after it
like-after : place_like 3 1 (stands_before sample) 3 2 ≡ true
like-after = refl

like-none : place_like 3 1 (stands_before sample) 3 1 ≡ false
like-none = refl

like-kept : place_like 3 1 (stands_before sample) 1 2 ≡ true
like-kept = refl

-- of what has the free name 1: before 2
let-after : place_let 3 (1 ∷ []) false (stands_before sample) 3 2 ≡ true
let-after = refl

-- of what has the free name 2 and is inert: after 1; of what isn't inert: after nothing
let-inert : place_let 3 (2 ∷ []) true (stands_before sample) 1 3 ≡ true
let-inert = refl

let-not_inert : place_let 3 (2 ∷ []) false (stands_before sample) 1 3 ≡ false
let-not_inert = refl

-- not each of 0 and 1 stands before 2
let-two : place_let 3 (0 ∷ 1 ∷ []) true (stands_before sample) 3 2 ≡ false
let-two = refl

-- of what has no free name: before every other name, and after it where it is inert
let-no_names : place_let 3 [] false (stands_before sample) 3 0 ≡ true
let-no_names = refl

let-no_names_inert : place_let 3 [] true (stands_before sample) 0 3 ≡ true
let-no_names_inert = refl

-- between the names of the order alone
let-among : among (0 ∷ 3 ∷ []) (place_let 3 [] false (stands_before sample)) 3 1 ≡ false
let-among = refl

put-added : put_before 0 1 (stands_before sample) 0 1 ≡ true
put-added = refl

put-one : put_before 0 1 (stands_before sample) 0 2 ≡ false
put-one = refl

-- an order of 5 and 7, with 5 before 7 alone
abbrev two : NameOrder
two = record { names = 5 ∷ 7 ∷ []; rows = (false ∷ true ∷ []) ∷ (false ∷ false ∷ []) ∷ [] }

facts-two : facts_of two 5 7 ≡ true
facts-two = refl

facts-two_back : facts_of two 7 5 ≡ false
facts-two_back = refl

facts-other : facts_of two 5 6 ≡ false
facts-other = refl

-- the first place of a name, and past the end for none
place-second : place_in 7 (5 ∷ 7 ∷ []) ≡ 1
place-second = refl

place-none : place_in 6 (5 ∷ 7 ∷ []) ≡ 2
place-none = refl
