-- The refusals for which faults of names, types and rules stand.
use Rattle.std.specs.Prelude.{ℕ}
use Rattle.core_term.specs.TypeFaults.{Cause, unbound_name, other_type, out_of_order, jumpy, wait_null, other_arity, history_fault, not_stream}
use Rattle.delta_meaning.specs.Faults.{Fault, unbound, no_function, no_type, too_tall, too_wide}
use Rattle.program_refusal.specs.declared.refusal.Refusal.{Refusal}
use Rattle.program_refusal.specs.declared.refusal.RefusalName.{RefusalName}
use Rattle.program_refusal.specs.declared.refusal.RefusalName.TheVariants.{Unbound, NoFunction, NoType, TooTall, TooWide, Mismatch, OutOfOrder, Jumpy, WaitNull, Arity, History, NotStream}

-- this name, at this place
abbrev pub refusal : RefusalName → ℕ → Refusal
refusal name at = record { name = name; at = at }

abbrev pub refusal_of : Fault → Refusal
refusal_of (unbound x at) = refusal Unbound at
refusal_of (no_function f at) = refusal NoFunction at
refusal_of (no_type t at) = refusal NoType at
refusal_of (too_tall at) = refusal TooTall at
refusal_of (too_wide at) = refusal TooWide at

abbrev pub name_of_rule : {A : Type 0} → Cause A → RefusalName
name_of_rule (unbound_name x) = Unbound
name_of_rule (other_type wanted found) = Mismatch
name_of_rule (out_of_order x y) = OutOfOrder
name_of_rule (jumpy v) = Jumpy
name_of_rule (wait_null x) = WaitNull
name_of_rule (other_arity f) = Arity
name_of_rule (history_fault fault) = History
name_of_rule (not_stream x) = NotStream
