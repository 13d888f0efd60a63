-- From the fault of a derivation to what is told of it.
use Rattle.std.proofs.Common.{◌<◌, ℕ, List, length, arith, refl}
use Rattle.core_term.specs.CoreTerm.{CoreProgram}
use Rattle.delta_derive.specs.FirstFault.{IsValidText}
use Rattle.delta_end.specs.declared.objection.DerivationName.{DerivationName}
use Rattle.delta_end.specs.declared.objection.DerivationName.TheVariants as name
use Rattle.commands.specs.Deriving.{longest, IsFirstFault, Refutes}

-- a text that isn't valid, and this is what is wrong first
pub refutes : (c : CoreProgram) (proof : List ℕ) (why : DerivationName) (at : ℕ) → (IsValidText c proof → ⊥) → IsFirstFault c proof why at → Refutes c proof why at
refutes c proof why at invalid first = record { invalid = λ is. invalid is.valid; first = first }

-- a text that is too long
pub too_long : (c : CoreProgram) (proof : List ℕ) → longest < length proof → Refutes c proof name.LongText longest
too_long c proof long = record { invalid = λ is. omega (arith, is.short, long); first = (long, refl) }
