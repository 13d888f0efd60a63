-- Calls of one kind, numbered from 0, of which those that are listed fail.
use Rattle.std.specs.Prelude.{◌≡◌, ℕ, ◌+◌, ◌-◌, ◌^◌, min, List, Contains}
use Rattle.port.specs.declared.plan.Plan.{Plan}

-- how many calls have failed
abbrev pub faults_of : Plan → ℕ
faults_of plan = plan.faults

-- the next call's number is listed
abbrev pub FailsNext : Plan → Type 0
FailsNext plan = Contains plan.fail.items plan.calls

-- no call was made, and these are to fail
abbrev pub IsNew : Plan → List ℕ → Type 0
IsNew plan fail = (plan.fail.items ≡ fail) × (plan.calls ≡ 0) × (plan.faults ≡ 0)

-- one more call was made, and the same ones are to fail; the number stands still at its type's end
abbrev pub CallsOnce : Plan → Plan → Type 0
CallsOnce old new = (new.fail.items ≡ old.fail.items) × (new.calls ≡ min (old.calls + 1) (2 ^ 64 - 1))
