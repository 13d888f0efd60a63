use Rattle.std.proofs.Common.{refl}
use Rattle.delta_end.proofs.name.state_name.Goals as goal

pub returns-in-Form : goal.returns-in-Form
returns-in-Form c = rw c.in-Form.is refl

pub returns-in-Untyped : goal.returns-in-Untyped
returns-in-Untyped c = rw c.in-Untyped.is refl

pub returns-in-Version : goal.returns-in-Version
returns-in-Version c = rw c.in-Version.is refl

pub returns-in-Large : goal.returns-in-Large
returns-in-Large c = rw c.in-Large.is refl
