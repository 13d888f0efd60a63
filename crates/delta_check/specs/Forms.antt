-- The forms of types, and what a rule on a subject says where there is no stream variable.
use Rattle.std.specs.Prelude.{ℕ, Bool, Option, Some, None}
use Rattle.stream_type.specs.StreamType.{StreamType, eps, one}
use Rattle.hist_value.specs.HistType.{HistType}
use Rattle.hist_value.specs.Refusal.{HistRefusal}
use Rattle.core_term.specs.Parts.{is_same_type, is_par, is_cat, is_sum, is_star}
use Rattle.core_term.specs.TypeFaults.{Cause, not_stream, unbound_name}
use Rattle.delta_check.specs.declared.forms.Form.{Form}
use Rattle.delta_check.specs.declared.forms.Form.TheVariants.{Eps, One, Par, Cat, Sum, Star}

-- whether a type has the form
abbrev pub form_test : Form → StreamType → Bool
form_test Eps t = is_same_type t eps
form_test One t = is_same_type t one
form_test Par t = is_par t
form_test Cat t = is_cat t
form_test Sum t = is_sum t
form_test Star t = is_star t

-- the cause at a name that is no stream variable
abbrev pub missing : ℕ → Option HistType → Cause HistRefusal
missing x (Some h) = not_stream x
missing x None = unbound_name x
