-- A text without a fault writes a derivation of the program, and so it is typed.
use Rattle.core_term.specs.CoreTerm.{core_of}
use Rattle.delta_derive.proofs.Refusing.{typed_text}
use Rattle.delta_derive.proofs.checking.input_of.Goals as goal

pub returns-in_ok-as_type-in-Ok-clause-typed : goal.returns-in_ok-as_type-in-Ok-clause-typed
returns-in_ok-as_type-in-Ok-clause-typed c = typed_text (core_of c.args.c.now) c.args.text.now c.requires.core c.in-Ok.ensures.none
