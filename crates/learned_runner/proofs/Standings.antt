-- What a run keeps, wherever it stands, is what machines keep: so what is proved of sessions of machines holds of it.
use Rattle.std.proofs.Common.{◌≡◌, ℕ, ◌≤◌, List, refl, true, ap, sym, subst, ◌∙◌, arith}
use Rattle.stream_type.specs.StreamType.{StreamType, null_of, reach_of}
use Rattle.stream_prefix.specs.StreamPrefix.{is_maximal, IsPrefix}
use Rattle.event_word.specs.StreamEvent.{StreamEvent, IsWithin}
use Rattle.event_word.specs.Admits.{Admits}
use Rattle.event_word.specs.Word.{after_word}
use Rattle.event_word.specs.Canon.{canon}
use Rattle.event_frame.specs.declared.version.Version.{Version}
use Rattle.event_frame.specs.Frames.{longest}
use Rattle.core_term.specs.CoreTerm.{CoreProgram}
use Rattle.core_term.specs.Meaning.{mean}
use Rattle.delta_state.specs.StateTree.{StateTree}
use Rattle.delta_state.specs.PlainState.{without_marks}
use Rattle.delta_state.specs.MachineView.{MachineView, StandsAfter, answer_to, input_of}
use Rattle.delta_state.specs.Stands.{input_type, output_left}
use Rattle.machine_parts.specs.AwaitedTree.{AwaitedTree, place_in}
use Rattle.machine_kept.specs.Keeping.{KeepsTidy}
use Rattle.delta_session.specs.OneShot.{Grows}
use Rattle.delta_session.specs.Programs.{CanRun, one_shot}
use Rattle.delta_session.proofs.Growth.{left_falls, next_comes, said_fits}
use Rattle.delta_session.proofs.RunningPrograms.{program_grows, ends_whole}
use Rattle.delta_runner.proofs.Stepping.{answer_within}

-- how machines are seen that keep this
abbrev pub seen_with : CoreProgram → ℕ → StateTree → AwaitedTree → ℕ → ℕ → MachineView
seen_with c budget s a events spent = record { program = c; budget = budget; state = without_marks s; place = place_in a; events = events; spent = spent }

module _ (c : CoreProgram) (budget : ℕ) (s : StateTree) (a : AwaitedTree) (input output : StreamType) (events spent : ℕ) (word : List StreamEvent)
    (k : KeepsTidy c budget s a input output events spent word) where
  pub stands_after : StandsAfter (seen_with c budget s a events spent) word
  stands_after = record {
    is_word = k.below.keeps.keeps.is_word;
    marked = s;
    is_state = refl;
    stands_for = k.below.keeps.keeps.stands_for;
    is_place = k.below.keeps.is_place;
    is_count = k.below.keeps.keeps.is_count;
    in_budget = k.below.keeps.in_budget;
    in_limit = k.below.keeps.in_limit;
  }

  -- an event that is admitted by what is left of the input's type may come after the word
  pub next_admits : (x : StreamEvent) → Admits input x → Admits (after_word word (input_type c)) x
  next_admits x admits = subst (λ (t : StreamType). Admits t x) k.below.keeps.keeps.is_input admits

  module _ (can : CanRun c) where
    grows : Grows (one_shot c)
    grows = program_grows c can

    -- once the whole of the input has come, what was said is whole
    pub is_whole : null_of input ≡ true → is_maximal (mean c (input_of c word)) ≡ true
    is_whole ended = ends_whole (seen_with c budget s a events spent) word can stands_after (ap null_of (sym k.below.keeps.keeps.is_input) ∙ ended)

    -- what is left of the output's type has no longer paths than frames have
    pub is_narrow : reach_of output ≤ 63
    is_narrow =
        let falls = left_falls (one_shot c) grows word k.below.keeps.keeps.is_word in
        let narrow : reach_of (output_left c (input_of c word)) ≤ 63 = omega (arith, falls, can.narrow) in
        subst (λ (t : StreamType). reach_of t ≤ 63) (sym k.below.keeps.keeps.is_output) narrow

    module _ (x : StreamEvent) (admits : Admits input x) where
      -- the answer to an event is of what is left of the output's type,
      pub fits : IsPrefix output (answer_to c word x)
      fits =
          subst (λ (t : StreamType). IsPrefix t (answer_to c word x)) (sym k.below.keeps.keeps.is_output)
          (said_fits (one_shot c) grows word x (next_comes (one_shot c) grows word x k.below.keeps.keeps.is_word (next_admits x admits)))

      -- and short enough for the frames of a version
      pub within : (v : Version) → reach_of c.main.result ≤ longest v → IsWithin (longest v) (canon (answer_to c word x))
      within v short = answer_within v (one_shot c) grows short word x k.below.keeps.keeps.is_word (next_admits x admits)
