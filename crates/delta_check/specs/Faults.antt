-- What the program's faults stand for.
use Rattle.std.specs.Prelude.{ℕ, ◌≡◌, ◌+◌, ⊤, List, Option, Some, option_map, slice_get, IsSomeAnd}
use Rattle.stream_type.specs.StreamType.{type_of}
use Rattle.hist_value.specs.Refusal.{HistRefusal, refusal_of}
use Rattle.core_term.specs.TypeFaults.{Cause, unbound_name, other_type, out_of_order, jumpy, wait_null, other_arity, history_fault, not_stream}
use Rattle.delta_check.specs.declared.fault.TypeCause.{TypeCause}
use Rattle.delta_check.specs.declared.fault.TypeCause.TheVariants.{Unbound, Mismatch, OutOfOrder, Jumpy, WaitNull, Arity, History, NotStream}
use Rattle.delta_check.specs.declared.fault.TypeFault.{TypeFault}
use Rattle.delta_check.specs.declared.fault.TypeFault.TheVariants.{Memory, Refused}

-- the broken rule; a history fault that is want of memory stands for none
abbrev pub cause_of : TypeCause → Option (Cause HistRefusal)
cause_of (Unbound x) = Some (unbound_name x.0)
cause_of (Mismatch w f) = Some (other_type (option_map type_of w) (option_map type_of f))
cause_of (OutOfOrder x y) = Some (out_of_order x.0 y.0)
cause_of (Jumpy x) = Some (jumpy x.0)
cause_of (WaitNull x) = Some (wait_null x.0)
cause_of (Arity f) = Some (other_arity f)
cause_of (History f) = option_map history_fault (refusal_of f)
cause_of (NotStream x) = Some (not_stream x.0)

-- what is found is the broken rule, if there is one
abbrev pub Tells : Option TypeCause → Option (Cause HistRefusal) → Type 0
Tells o broken = option_map cause_of o ≡ option_map Some broken

-- a fault tells the first node that breaks a rule, and the rule; want of memory tells nothing
abbrev pub TellsFirst : TypeFault → Option (ℕ × Cause HistRefusal) → Type 0
TellsFirst Memory first = ⊤
TellsFirst (Refused node at cause) first = IsSomeAnd (cause_of cause) (λ k. first ≡ Some (node, k))

-- a fault tells the place of its node, where the nodes with these places are numbered from n
abbrev pub TellsPlace : TypeFault → ℕ → List ℕ → Type 0
TellsPlace Memory n places = ⊤
TellsPlace (Refused node at cause) n places = (i : ℕ) × (node ≡ n + i) × (slice_get places i ≡ Some at)
