-- What is given event by event, and what a session keeps, of a single program. Each answer was worked out by hand, and
-- the check computes it.
use Rattle.std.proofs.Common.{◌≡◌, ℕ, [], ◌∷◌, true, false, refl}
use Rattle.std.specs.Prelude.{pos, Some}
use Rattle.stream_type.specs.StreamType.{StreamType, eps, int, cat, null_of}
use Rattle.stream_type.specs.declared.ty.Ty.TheVariants.{Int as IntType}
use Rattle.stream_prefix.specs.StreamPrefix.{is_maximal}
use Rattle.bunch.specs.BunchTree.{leaf}
use Rattle.event_word.specs.declared.event.Step.TheVariants.{First}
use Rattle.event_word.specs.declared.event.Leaf.TheVariants.{Int, Cut}
use Rattle.event_word.specs.declared.fault.EventFault.TheVariants.{Ended}
use Rattle.event_word.specs.StreamEvent.{StreamEvent, leaf_of, under}
use Rattle.event_word.specs.EventFault.{fault_of}
use Rattle.event_word.specs.Canon.{canon}
use Rattle.core_term.specs.CoreTerm.{CoreProgram, var_term}
use Rattle.delta_session.specs.OneShot.{OneShot, said, said_to, left_of, unsaid}
use Rattle.delta_session.specs.Programs.{one_shot, course_of}
use Rattle.delta_session.specs.declared.refusal.Cause.TheVariants.{Memory}
use Rattle.delta_session.specs.declared.session.Life.TheVariants.{Closed}
use Rattle.delta_session.specs.declared.session.Session.{Session}
use Rattle.delta_session.specs.Standing.{HasTaken}

-- `main(x : Int . Int) : Int . Int = x`
abbrev two_numbers : CoreProgram
two_numbers = record { funs = []; main = record { past = []; params = leaf 0 (cat int int); result = cat int int; body = var_term 0 }; texts = [] }

abbrev shot : OneShot
shot = one_shot two_numbers

-- a number before the mark, the mark, and a number behind it
abbrev four : StreamEvent
four = under First (leaf_of (Int (pos 4)))

abbrev mark : StreamEvent
mark = leaf_of Cut

abbrev five : StreamEvent
five = leaf_of (Int (pos 5))

-- behind the first number the mark and the second are left, of the input and of the output
left_behind : left_of shot (four ∷ []) ≡ cat eps int
left_behind = refl

unsaid_behind : unsaid shot (four ∷ []) ≡ cat eps int
unsaid_behind = refl

-- another first number isn't admitted then
four_again : fault_of four (left_of shot (four ∷ [])) ≡ Some (Ended 1)
four_again = refl

-- each event is answered by itself
said_first : canon (said_to shot [] four) ≡ four ∷ []
said_first = refl

said_last : canon (said_to shot (four ∷ mark ∷ []) five) ≡ five ∷ []
said_last = refl

-- once all has come nothing is left, and what was said is whole
all_came : null_of (left_of shot (four ∷ mark ∷ five ∷ [])) ≡ true
all_came = refl

all_said : is_maximal (said shot (four ∷ mark ∷ five ∷ [])) ≡ true
all_said = refl

-- and not before
half_said : is_maximal (said shot (four ∷ mark ∷ [])) ≡ false
half_said = refl

-- a session that took two events and was closed at the third has taken the two
abbrev closed_at_five : Session ℕ
closed_at_five = record { life = Closed Memory; rest = IntType; output = IntType; events = 2 }

closed_has_taken : HasTaken closed_at_five (course_of two_numbers 1000) (four ∷ mark ∷ [])
closed_has_taken = record { rest_is = refl; count = refl }
