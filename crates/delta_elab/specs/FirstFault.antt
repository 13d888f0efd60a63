-- What a fault of the program says, and which it is: the first of what is wrong.
use Rattle.std.specs.Prelude.{◌≡◌, List, [], ◌∷◌, Option, Some, None, Result, Ok, Err, IfSome}
use Rattle.delta_elab.specs.declared.fault.ElabFault.{ElabFault}
use Rattle.delta_elab.specs.declared.fault.ElabFault.TheVariants.{Memory, Unbound, NoFunction, NoType, TooTall, TooWide}
use Rattle.delta_meaning.specs.Faults.{Fault, unbound, no_function, no_type, too_tall, too_wide}

-- what a fault says; want of memory says nothing
abbrev pub fault_of : ElabFault → Option Fault
fault_of Memory = None
fault_of (Unbound x at) = Some (unbound x.0 at)
fault_of (NoFunction f at) = Some (no_function f.0 at)
fault_of (NoType t at) = Some (no_type t.0 at)
fault_of (TooTall at) = Some (too_tall at)
fault_of (TooWide at) = Some (too_wide at)

-- what an answer says is wrong: nothing where it is Ok, and else what its fault says
abbrev pub said : {A : Type 0} → Result A ElabFault → Option (Option Fault)
said (Ok a) = None
said (Err e) = Some (fault_of e)

-- what is to be said where all this is wrong: the first of it
abbrev pub to_say : List Fault → Option (Option Fault)
to_say [] = None
to_say (x ∷ xs) = Some (Some x)

-- an answer is Ok exactly where nothing is wrong, and else a fault that says the first that is; it is never want
-- of memory
abbrev pub Says : {A : Type 0} → Result A ElabFault → List Fault → Type 0
Says r xs = said r ≡ to_say xs

-- a fault is want of memory, or says the first that is wrong
abbrev pub IsFirst : ElabFault → List Fault → Type 0
IsFirst e xs = IfSome (fault_of e) (λ x. to_say xs ≡ Some (Some x))
