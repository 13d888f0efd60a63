-- What an answer is, where there may be none.
use Rattle.std.specs.Prelude.{◌≡◌, ⊤, Option, Some, None, Result, Ok, Err}
use Rattle.delta_words.specs.declared.fault.WordsFault.{WordsFault}
use Rattle.delta_words.specs.declared.fault.WordsFault.TheVariants.{Memory, Usage}

-- the answer is the one that there is, by what it stands for, and is `Usage` only where there is none; want of memory says nothing
abbrev pub Gives : {A B : Type 0} → (A → B) → Result A WordsFault → Option B → Type 0
Gives view (Ok x) wanted = wanted ≡ Some (view x)
Gives view (Err Usage) wanted = wanted ≡ None
Gives view (Err Memory) wanted = ⊤
