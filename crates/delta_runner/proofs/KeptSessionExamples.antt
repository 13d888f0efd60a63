-- A session that goes on from a kept state, at single ones. Each answer was worked out by hand, and the check computes
-- it.
use Rattle.std.proofs.Common.{◌≡◌, ◌≤◌, ℕ, [], ◌∷◌, refl, arith}
use Rattle.std.specs.Prelude.{pos, Some}
use Rattle.std.proofs.lemmas.List.Elements.{All-nil}
use Rattle.stream_type.specs.StreamType.{eps, int, cat}
use Rattle.stream_type.specs.declared.ty.Ty.TheVariants.{Int as IntType}
use Rattle.bunch.specs.BunchTree.{leaf}
use Rattle.event_word.specs.declared.event.Step.TheVariants.{First}
use Rattle.event_word.specs.declared.event.Leaf.TheVariants.{Int, Cut}
use Rattle.event_word.specs.declared.fault.EventFault.TheVariants.{Ended}
use Rattle.event_word.specs.StreamEvent.{StreamEvent, leaf_of, under}
use Rattle.event_word.specs.EventFault.{fault_of}
use Rattle.event_word.specs.Canon.{canon}
use Rattle.core_term.specs.CoreTerm.{CoreProgram, var_term}
use Rattle.delta_state.specs.StateTree.{LaterTree, var_state}
use Rattle.delta_state.specs.Stands.{depth_after}
use Rattle.delta_session.specs.declared.refusal.Cause.TheVariants.{Memory}
use Rattle.delta_session.specs.declared.session.Life.TheVariants.{Closed}
use Rattle.delta_session.specs.declared.session.Session.{Session}
use Rattle.delta_session.specs.Standing.{HasTaken}
use Rattle.kept_state.specs.KeptTree.{KeptTree}
use Rattle.kept_state.specs.KeptTyping.{IsTypedKept}
use Rattle.kept_state.specs.KeptMeaning.{input_kept}
use Rattle.machine_kept.specs.SinceView.{answer_since}
use Rattle.delta_runner.specs.SinceCourse.{course_since}

-- `main(x : Int . Int) : Int . Int = x`
abbrev two_numbers : CoreProgram
two_numbers = record { funs = []; main = record { past = []; params = leaf 0 (cat int int); result = cat int int; body = var_term 0 }; texts = [] }

-- kept once its first number has come, and was answered: the mark and the second number are left on both sides
abbrev half_way : KeptTree
half_way = record { events = 1; ins = cat eps int ∷ []; cuts = []; out = cat eps int; state = var_state 0 }

-- which is typed
half_typed : IsTypedKept two_numbers half_way
half_typed = record {
  is_placed = record { are_few = omega arith; reaches = omega arith; has_types = refl; has_cuts = refl; is_place = tt };
  is_typed = refl;
  are_apart = record { bound_once = refl; bodies_once = tt; pasts_apart = tt };
  settled = refl;
  is_deep = All-nil (λ (l : LaterTree). depth_after 1 ≤ l.depth);
}

-- the mark, and the second number
abbrev mark : StreamEvent
mark = leaf_of Cut

abbrev five : StreamEvent
five = leaf_of (Int (pos 5))

-- a session that goes on from there awaits these two, and no first number any more
half_awaits : input_kept two_numbers half_way ≡ cat eps int
half_awaits = refl

half_refuses : fault_of (under First five) (input_kept two_numbers half_way) ≡ Some (Ended 1)
half_refuses = refl

-- it answers the mark by the mark: what was said before it was kept isn't said again
half_to_mark : canon (answer_since two_numbers half_way [] mark) ≡ mark ∷ []
half_to_mark = refl

-- and then the number by the number
half_to_five : canon (answer_since two_numbers half_way (mark ∷ []) five) ≡ five ∷ []
half_to_five = refl

-- one that took the mark and was closed at the number has taken the mark alone, its second event
abbrev closed_at_five : Session ℕ
closed_at_five = record { life = Closed Memory; rest = IntType; output = IntType; events = 2 }

closed_has_taken : HasTaken closed_at_five (course_since two_numbers half_way 1000) (mark ∷ [])
closed_has_taken = record { rest_is = refl; count = refl }
