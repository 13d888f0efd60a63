-- The faults of elaboration and of the checker as faults of a whole program.
use Rattle.delta_check.specs.declared.fault.TypeFault.{TypeFault}
use Rattle.delta_check.specs.declared.fault.TypeFault.TheVariants as types
use Rattle.delta_elab.specs.declared.fault.ElabFault.{ElabFault}
use Rattle.delta_elab.specs.declared.fault.ElabFault.TheVariants as elab
use Rattle.delta_elab.specs.declared.fault.ProgramFault.{ProgramFault}
use Rattle.delta_elab.specs.declared.fault.ProgramFault.TheVariants.{Memory, Elab, «Type»}

-- want of memory stays what it is
abbrev pub of_elab : ElabFault → ProgramFault
of_elab elab.Memory = Memory
of_elab (elab.Unbound x at) = Elab (elab.Unbound x at)
of_elab (elab.NoFunction f at) = Elab (elab.NoFunction f at)
of_elab (elab.NoType t at) = Elab (elab.NoType t at)
of_elab (elab.TooTall at) = Elab (elab.TooTall at)
of_elab (elab.TooWide at) = Elab (elab.TooWide at)

abbrev pub of_type : TypeFault → ProgramFault
of_type types.Memory = Memory
of_type (types.Refused node at cause) = «Type» (types.Refused node at cause)
