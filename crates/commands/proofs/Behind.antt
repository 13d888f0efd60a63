-- What the end of a run tells of that of the command behind which it stands.
use Rattle.std.proofs.Common.{◌≡◌, inl, inr, ℕ, List, Option, subst, length}
use Rattle.port.specs.declared.link.Move.{Move}
use Rattle.port.specs.Moves.{bytes_read}
use Rattle.delta_end.specs.declared.objection.StateName.TheVariants.{Form, Untyped, Version as OtherVersion, Large}
use Rattle.delta_end.specs.declared.objection.Objection.TheVariants.{Derivation, Bound, Table, State}
use Rattle.delta_end.specs.declared.end.End.{End}
use Rattle.delta_end.specs.declared.end.End.TheVariants.{Done, Usage, Refused, Input, Budget, Deep, Open, FileFailed, ReadFailed, WriteFailed, Memory, Long, Objected}
use Rattle.delta_loop.specs.Return.{IsWithinLimit}
use Rattle.delta_loop.specs.Loop.{IsWellEnded}
use Rattle.delta_loop.specs.Answer.{Adds, ReadsWell}
use Rattle.commands.specs.Leaving.{IsBehind}

-- a run that ended well read no more than it may
well_within : (ran end : End) (n : ℕ) → IsWellEnded ran → IsWithinLimit ran n → IsWithinLimit end n
well_within Done end n well limit = record { most = limit.most; past = λ more. (let clash : Done ≡ Long = limit.past more in cc) }
well_within Open end n well limit = record { most = limit.most; past = λ more. (let clash : Open ≡ Long = limit.past more in cc) }
well_within Usage end n well limit = absurd well
well_within (Objected what) end n well limit = absurd well
well_within (Refused why) end n well limit = absurd well
well_within (Input fault) end n well limit = absurd well
well_within (Budget at) end n well limit = absurd well
well_within (Deep at) end n well limit = absurd well
well_within FileFailed end n well limit = absurd well
well_within ReadFailed end n well limit = absurd well
well_within WriteFailed end n well limit = absurd well
well_within Memory end n well limit = absurd well
well_within Long end n well limit = absurd well

reads_as : (ran end : End) (moves : List Move) → (IsWithinLimit ran (length (bytes_read moves)) → IsWithinLimit end (length (bytes_read moves))) → ReadsWell ran moves → ReadsWell end moves
reads_as ran end moves within reads = record { last = reads.last; limit = within reads.limit }

within_behind : (end ran : End) (n : ℕ) → IsBehind end ran → IsWithinLimit ran n → IsWithinLimit end n
within_behind (Objected (State Large at)) ran n well limit = well_within ran (Objected (State Large at)) n well limit
within_behind FileFailed ran n (inr well) limit = well_within ran FileFailed n well limit
within_behind FileFailed ran n (inl same) limit = subst (λ (e : End). IsWithinLimit e n) same limit
within_behind Memory ran n (inr well) limit = well_within ran Memory n well limit
within_behind Memory ran n (inl same) limit = subst (λ (e : End). IsWithinLimit e n) same limit
within_behind (Objected (State Form at)) ran n same limit = subst (λ (e : End). IsWithinLimit e n) same limit
within_behind (Objected (State Untyped at)) ran n same limit = subst (λ (e : End). IsWithinLimit e n) same limit
within_behind (Objected (State OtherVersion at)) ran n same limit = subst (λ (e : End). IsWithinLimit e n) same limit
within_behind (Objected (Derivation name at)) ran n same limit = subst (λ (e : End). IsWithinLimit e n) same limit
within_behind (Objected (Bound name at)) ran n same limit = subst (λ (e : End). IsWithinLimit e n) same limit
within_behind (Objected (Table name file row)) ran n same limit = subst (λ (e : End). IsWithinLimit e n) same limit
within_behind Done ran n same limit = subst (λ (e : End). IsWithinLimit e n) same limit
within_behind Usage ran n same limit = subst (λ (e : End). IsWithinLimit e n) same limit
within_behind (Refused why) ran n same limit = subst (λ (e : End). IsWithinLimit e n) same limit
within_behind (Input fault) ran n same limit = subst (λ (e : End). IsWithinLimit e n) same limit
within_behind (Budget at) ran n same limit = subst (λ (e : End). IsWithinLimit e n) same limit
within_behind (Deep at) ran n same limit = subst (λ (e : End). IsWithinLimit e n) same limit
within_behind Open ran n same limit = subst (λ (e : End). IsWithinLimit e n) same limit
within_behind ReadFailed ran n same limit = subst (λ (e : End). IsWithinLimit e n) same limit
within_behind WriteFailed ran n same limit = subst (λ (e : End). IsWithinLimit e n) same limit
within_behind Long ran n same limit = subst (λ (e : End). IsWithinLimit e n) same limit

-- so what was read behind the command is what the run read
pub reads_behind : (end ran : End) (old new : Option (List Move)) → IsBehind end ran → Adds old new (ReadsWell ran) → Adds old new (ReadsWell end)
reads_behind end ran old new is reads told there =
    let adds = reads told there in
    (adds.0, adds.1, reads_as ran end adds.0 (within_behind end ran (length (bytes_read adds.0)) is) adds.2)

-- usage stands behind itself alone
pub usage_behind : (end ran : End) → IsBehind end ran → end ≡ Usage → ran ≡ Usage
usage_behind Usage ran is same = is
usage_behind Done ran is same = cc
usage_behind Open ran is same = cc
usage_behind ReadFailed ran is same = cc
usage_behind WriteFailed ran is same = cc
usage_behind Memory ran is same = cc
usage_behind Long ran is same = cc
usage_behind FileFailed ran is same = cc
usage_behind (Refused why) ran is same = cc
usage_behind (Input fault) ran is same = cc
usage_behind (Budget at) ran is same = cc
usage_behind (Deep at) ran is same = cc
usage_behind (Objected what) ran is same = cc
