-- A machine that may answer an event may take it, and what it says can be framed.
use Rattle.std.proofs.Common.{◌≡◌, ◌≤◌, List, None, sym, subst, ap, ◌∙◌, arith}
use Rattle.stream_type.specs.StreamType.{type_of, reach_of}
use Rattle.stream_prefix.specs.StreamPrefix.{StreamPrefix, IsPrefix}
use Rattle.event_word.specs.StreamEvent.{StreamEvent, IsWithin}
use Rattle.event_word.specs.EventFault.{fault_of}
use Rattle.event_word.specs.Admits.{Admits}
use Rattle.event_word.specs.Canon.{canon}
use Rattle.event_word.proofs.Walks.{no_fault_is_admitted}
use Rattle.event_frame.specs.declared.version.Version.{Version}
use Rattle.event_frame.specs.Frames.{longest}
use Rattle.machine_parts.specs.AwaitedTree.{awaited_in}
use Rattle.template_state.specs.Readers.{state_in}
use Rattle.delta_state.specs.MachineView.{Awaits, MayTake, answer_to}
use Rattle.delta_code.specs.declared.machine.Coded.{Coded}
use Rattle.delta_code.specs.CodedView.{program_of, view_of, CodedStands}
use Rattle.learned_runner.specs.Answering.{MayAnswer}
use Rattle.learned_runner.proofs.Standings as standing

module _ (m : Coded) (x : StreamEvent) (none : fault_of x (type_of m.input.value) ≡ None) where
  pub admitted : Admits (type_of m.input.value) x
  admitted = (no_fault_is_admitted (type_of m.input.value) x).0 none

  pub awaits : (word : List StreamEvent) → CodedStands m word → Awaits view_of CodedStands m word x
  awaits word k = record {
    stands_after = k;
    admits = standing.next_admits (program_of m) m.budget (state_in m.state.value) (awaited_in m.awaited.value) (type_of m.input.value) (type_of m.output.value) m.events m.spent word k x admitted;
  }

  module _ (v : Version) (may : MayAnswer m v) where
    pub takes : MayTake view_of CodedStands m x
    takes = record { word = may.word; awaits = awaits may.word may.stands; has_room = omega (arith, may.room, may.stands.below.keeps.keeps.is_count) }

    pub fits : (p : StreamPrefix) → p ≡ answer_to (program_of m) may.word x → IsPrefix (type_of m.output.value) p
    fits p is =
        subst (IsPrefix (type_of m.output.value)) (sym is)
        (standing.fits (program_of m) m.budget (state_in m.state.value) (awaited_in m.awaited.value) (type_of m.input.value) (type_of m.output.value) m.events m.spent may.word may.stands may.can_run x admitted)

    pub is_narrow : reach_of (type_of m.output.value) ≤ 63
    is_narrow = standing.is_narrow (program_of m) m.budget (state_in m.state.value) (awaited_in m.awaited.value) (type_of m.input.value) (type_of m.output.value) m.events m.spent may.word may.stands may.can_run

    pub within : (said : List StreamEvent) (p : StreamPrefix) → said ≡ canon p → p ≡ answer_to (program_of m) may.word x → IsWithin (longest v) said
    within said p spelled is =
        subst (IsWithin (longest v)) (sym (spelled ∙ ap canon is))
        (standing.within (program_of m) m.budget (state_in m.state.value) (awaited_in m.awaited.value) (type_of m.input.value) (type_of m.output.value) m.events m.spent may.word may.stands may.can_run x admitted v may.short)
