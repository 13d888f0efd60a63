-- The first rule that a node itself breaks, with what a historical expression does wrong as its type is
-- judged.
use Rattle.std.specs.Prelude.{ℕ, Bool, Option, List}
use Rattle.stream_type.specs.StreamType.{StreamType}
use Rattle.hist_value.specs.Refusal.{HistRefusal}
use Rattle.core_term.specs.CoreTerm.{CoreTerm, CoreBody}
use Rattle.core_term.specs.Typing.{Context}
use Rattle.core_term.specs.TypeFaults.{Cause, broken, expr_refusal}

abbrev pub rule_broken : List CoreBody → (ℕ → Bool) → Context → CoreTerm → StreamType → Option (Cause HistRefusal)
rule_broken funs counts c e r = broken funs counts expr_refusal c e r
