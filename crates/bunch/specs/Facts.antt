-- Orders as facts "x before y", one for each two names, and what each step adds to them.
use Rattle.std.specs.Prelude.{ℕ, ◌==◌, Bool, false, ◌&&◌, ◌||◌, List, if◌then◌else◌}
use Rattle.std.specs.List.{list_all}
use Rattle.bunch.specs.Names.{holds}

-- whether the first name stands before the second
abbrev pub Facts : Type 0
Facts = ℕ → ℕ → Bool

-- the facts between names of the list
abbrev pub among : List ℕ → Facts → Facts
among names before a b = (holds a names && holds b names) && before a b

-- whether a stands before a name that is placed like z
abbrev pub before_like : ℕ → Facts → ℕ → Bool
before_like z before a = if a == z then false else before a z

-- whether a name that is placed like z stands before b
abbrev pub after_like : ℕ → Facts → ℕ → Bool
after_like z before b = if b == z then false else before z b

-- x gets the facts of z on each other name, and none between x and z
abbrev pub place_like : ℕ → ℕ → Facts → Facts
place_like x z before a b =
    if a == x
    then (if b == x then false else after_like z before b)
    else (if b == x then before_like z before a else before a b)

-- whether a stands before a name that is bound to what has these free names
abbrev pub before_let : List ℕ → Bool → Facts → ℕ → Bool
before_let free inert before a = inert && list_all (λ z. before a z) free

-- whether a name that is bound to what has these free names stands before b
abbrev pub after_let : List ℕ → Facts → ℕ → Bool
after_let free before b = list_all (λ z. before z b) free

-- another name stands before x where what x is bound to is inert and that name stands before each of
-- the free names, and x before another name where each of the free names stands before that one
abbrev pub place_let : ℕ → List ℕ → Bool → Facts → Facts
place_let x free inert before a b =
    if a == x
    then (if b == x then false else after_let free before b)
    else (if b == x then before_let free inert before a else before a b)

-- one more fact: x before y
abbrev pub put_before : ℕ → ℕ → Facts → Facts
put_before x y before a b = ((a == x) && (b == y)) || before a b
