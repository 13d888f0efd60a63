-- Runs that end before their input does.
use Rattle.std.proofs.Common.{◌≡◌, ℕ, List, Bool, true, false, Option, subst}
use Rattle.port.specs.declared.link.Move.{Move}
use Rattle.event_word.specs.StreamEvent.{StreamEvent}
use Rattle.delta_end.specs.declared.end.End.{End}
use Rattle.delta_end.specs.declared.end.End.TheVariants.{Done, Open}
use Rattle.delta_loop.specs.Meaning.{Meaning}
use Rattle.delta_loop.specs.Return.{MayEnd}
use Rattle.delta_loop.specs.Loop.{Ran, RanTo, IsWellEnded}

-- an end before that of the input isn't a good one
ends_badly : (P : Meaning) (input written : List ℕ) (end : End) → MayEnd P input false written end → IsWellEnded end → ⊥
ends_badly P input written Done may well = let clash : false ≡ true = may.0 in cc
ends_badly P input written Open may well = let clash : false ≡ true = may.0 in cc
ends_badly P input written _ may well = well

-- of a run that ended before its input nothing is said of the machine
pub ran_early : {M : Type 0} (stands : M → Meaning → List StreamEvent → Type 0) (P : Meaning) (start now : Option (List Move)) (left0 left1 : Option (List ℕ)) (m : M) (end : End)
    (ran : Ran P start now left0 left1 end) → ran.ended ≡ false → RanTo stands P start now left0 left1 m end
ran_early stands P start now left0 left1 m end ran early = record {
  ran = ran;
  state = λ well. absurd (ends_badly P ran.input ran.at.written end (subst (λ (b : Bool). MayEnd P ran.input b ran.at.written end) early ran.at.may) well);
}
