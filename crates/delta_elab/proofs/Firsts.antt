-- The first of what is wrong in two lists joined.
use Rattle.std.proofs.Common.{◌≡◌, List, [], ◌∷◌, ◌++◌, Option, Some, None, refl, sym}
use Rattle.std.specs.Prelude.{IfSome}
use Rattle.delta_meaning.specs.Faults.{Fault, or_else, where_none}
use Rattle.delta_elab.specs.declared.fault.ElabFault.{ElabFault}
use Rattle.delta_elab.specs.FirstFault.{fault_of, to_say, IsFirst}

-- where nothing is to be said nothing is wrong
pub nothing_wrong : (xs : List Fault) → to_say xs ≡ None → xs ≡ []
nothing_wrong [] h = refl
nothing_wrong (x ∷ xs) h = absurd (cc h)

-- where nothing is wrong in the first list the second one decides
pub to_say-second : (xs ys : List Fault) → to_say xs ≡ None → to_say (xs ++ ys) ≡ to_say ys
to_say-second [] ys h = refl
to_say-second (x ∷ xs) ys h = absurd (cc h)

-- where something is wrong in the first list, it is first in both
pub to_say-first : (xs ys : List Fault) (o : Option Fault) → to_say xs ≡ Some o → to_say (xs ++ ys) ≡ Some o
to_say-first [] ys o h = absurd (cc h)
to_say-first (x ∷ xs) ys o h = h

-- the same for a list that counts only where the first has nothing
pub to_say-or_else : (xs ys : List Fault) → to_say xs ≡ None → to_say (or_else xs ys) ≡ to_say ys
to_say-or_else [] ys h = refl
to_say-or_else (x ∷ xs) ys h = absurd (cc h)

pub to_say-or_else_first : (xs ys : List Fault) (o : Option Fault) → to_say xs ≡ Some o → to_say (or_else xs ys) ≡ Some o
to_say-or_else_first [] ys o h = absurd (cc h)
to_say-or_else_first (x ∷ xs) ys o h = h

pub to_say-where_none : (xs ys : List Fault) → to_say xs ≡ None → to_say (where_none xs ys) ≡ to_say ys
to_say-where_none [] ys h = refl
to_say-where_none (x ∷ xs) ys h = absurd (cc h)

pub to_say-where_some : (xs ys : List Fault) (o : Option Fault) → to_say xs ≡ Some o → to_say (where_none xs ys) ≡ None
to_say-where_some [] ys o h = absurd (cc h)
to_say-where_some (x ∷ xs) ys o h = refl

-- what an answer says of the second list, where nothing is wrong in the first
pub later : (xs ys : List Fault) (s : Option (Option Fault)) → None ≡ to_say xs → s ≡ to_say ys → s ≡ to_say (xs ++ ys)
later [] ys s h k = k
later (x ∷ xs) ys s h k = absurd (cc h)

-- what a fault says of the first list it says of both
pub earlier : (xs ys : List Fault) (o : Option Fault) → Some o ≡ to_say xs → Some o ≡ to_say (xs ++ ys)
earlier [] ys o h = absurd (cc h)
earlier (x ∷ xs) ys o h = h

-- an answer's fault says the first of what it says is wrong
pub is_first : (e : ElabFault) (xs : List Fault) → Some (fault_of e) ≡ to_say xs → IsFirst e xs
is_first e xs h = go (fault_of e) h
  where
    go : (o : Option Fault) → Some o ≡ to_say xs → IfSome o (λ x. to_say xs ≡ Some (Some x))
    go None h = tt
    go (Some x) h = sym h

-- so it does of two lists joined
pub is_first-earlier : (e : ElabFault) (xs ys : List Fault) → IsFirst e xs → IsFirst e (xs ++ ys)
is_first-earlier e xs ys h = go (fault_of e) h
  where
    go : (o : Option Fault) → IfSome o (λ x. to_say xs ≡ Some (Some x)) → IfSome o (λ x. to_say (xs ++ ys) ≡ Some (Some x))
    go None h = h
    go (Some x) h = to_say-first xs ys (Some x) h

pub is_first-later : (e : ElabFault) (xs ys : List Fault) → xs ≡ [] → Some (fault_of e) ≡ to_say ys → IsFirst e (xs ++ ys)
is_first-later e [] ys h k = is_first e ys k
is_first-later e (x ∷ xs) ys h k = absurd (cc h)

-- for functions that look for the first that is wrong
pub ruleset firsts = (to_say-second, to_say-first, to_say-or_else, to_say-or_else_first, to_say-where_none, to_say-where_some)

pub ruleset first_in_two = (is_first, is_first-earlier, is_first-later)
