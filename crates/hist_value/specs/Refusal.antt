-- Why the rules give a historical expression no type, as plain data.
use Rattle.std.specs.Prelude.{ℕ, Option, Some, None, option_map}
use Rattle.hist_value.specs.declared.fault.HistFault.{HistFault}
use Rattle.hist_value.specs.declared.fault.HistFault.TheVariants.{Memory, Unbound, Mismatch, NeedsType}
use Rattle.hist_value.specs.HistType.{HistType, hist_type_of}

-- a broken rule: a name without a type; a wanted and a found type, of which one may be lacking; or a
-- form whose type isn't known where none is wanted
pub data HistRefusal : Type 0 where
  unbound : (x : ℕ) → HistRefusal
  mismatch : (wanted found : Option HistType) → HistRefusal
  needs_type : HistRefusal

-- the broken rule that a fault of the program stands for; want of memory stands for none
abbrev pub refusal_of : HistFault → Option HistRefusal
refusal_of Memory = None
refusal_of (Unbound x) = Some (unbound x.0)
refusal_of (Mismatch w f) = Some (mismatch (option_map hist_type_of w) (option_map hist_type_of f))
refusal_of NeedsType = Some needs_type
