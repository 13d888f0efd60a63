-- A run that goes on from a kept state, at a single one. Each answer was worked out by hand, and the check computes it.
use Rattle.std.proofs.Common.{◌≡◌, [], ◌∷◌, ◌++◌, true, false, Some, refl}
use Rattle.std.specs.Prelude.{pos}
use Rattle.stream_type.specs.StreamType.{eps, int, cat}
use Rattle.bunch.specs.BunchTree.{leaf}
use Rattle.event_word.specs.declared.event.Step.TheVariants.{First}
use Rattle.event_word.specs.declared.event.Leaf.TheVariants.{Int, Cut}
use Rattle.event_word.specs.declared.fault.EventFault.TheVariants.{Ended}
use Rattle.event_word.specs.StreamEvent.{StreamEvent, leaf_of, under}
use Rattle.event_frame.specs.declared.version.Version.TheVariants.{V1}
use Rattle.event_frame.specs.Frames.{header, frame}
use Rattle.core_term.specs.CoreTerm.{CoreProgram, var_term}
use Rattle.delta_state.specs.StateTree.{var_state}
use Rattle.kept_state.specs.KeptTree.{KeptTree}
use Rattle.delta_end.specs.declared.end.InputFault.TheVariants.{Event}
use Rattle.delta_loop.specs.Meaning.{Meaning}
use Rattle.delta_loop.specs.Output.{due, output}
use Rattle.delta_loop.specs.Finding.{finding}
use Rattle.delta_output.specs.LoopMeaning.{meaning_of}
use Rattle.delta_session.specs.Programs.{one_shot}
use Rattle.delta_runner.specs.KeptOneShot.{meaning_since}

-- `main(x : Int . Int) : Int . Int = x`
abbrev two_numbers : CoreProgram
two_numbers = record { funs = []; main = record { past = []; params = leaf 0 (cat int int); result = cat int int; body = var_term 0 }; texts = [] }

-- kept once its first number has come: the mark and the second number are left on both sides
abbrev half_way : KeptTree
half_way = record { events = 1; ins = cat eps int ∷ []; cuts = []; out = cat eps int; state = var_state 0 }

-- the numbers and the mark
abbrev first_four : StreamEvent
first_four = under First (leaf_of (Int (pos 4)))

abbrev mark : StreamEvent
mark = leaf_of Cut

abbrev five : StreamEvent
five = leaf_of (Int (pos 5))

-- what a run of the program means to the loop, and one that goes on from there
abbrev whole_run : Meaning
whole_run = meaning_of V1 0 (one_shot two_numbers)

abbrev later_run : Meaning
later_run = meaning_since V1 0 two_numbers half_way

-- its input has a header, for which nothing is due,
due_for_header : due later_run (header V1) ≡ []
due_for_header = refl

-- and for the mark the frame of the mark
due_for_mark : due later_run (header V1 ++ frame V1 mark) ≡ frame V1 mark
due_for_mark = refl

-- the first number isn't awaited any more
first_comes_again : finding later_run (header V1 ++ frame V1 first_four) false ≡ Some (Event (Ended 1) 4)
first_comes_again = refl

-- the input may end once both have come
may_end : later_run.finishes (mark ∷ five ∷ []) ≡ true
may_end = refl

-- what both runs write is what one run writes
both_write : output whole_run (first_four ∷ []) ++ output later_run (mark ∷ five ∷ []) ≡ output whole_run (first_four ∷ mark ∷ five ∷ [])
both_write = refl
