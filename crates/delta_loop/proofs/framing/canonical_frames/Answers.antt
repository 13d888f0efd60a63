use Rattle.std.proofs.Common.{◌≤◌, length, sym, subst, ◌∙◌}
use Rattle.stream_type.specs.StreamType.{type_of, reach_of}
use Rattle.stream_prefix.specs.Tree.{prefix_of}
use Rattle.event_word.specs.StreamEvent.{StreamEvent, IsWithin}
use Rattle.event_word.specs.Canon.{canon}
use Rattle.event_word.proofs.Reaches.{within_more, canon_within_reach}
use Rattle.event_frame.specs.Frames.{longest}
use Rattle.delta_loop.proofs.framing.canonical_frames.Goals as goal

pub encode_in-requires : goal.encode_in-requires
encode_in-requires c =
    let within = within_more (reach_of (type_of c.args.t.now)) (longest c.args.version) (canon (prefix_of c.args.p.now)) c.requires.short (canon_within_reach (type_of c.args.t.now) (prefix_of c.args.p.now) c.requires.typed) in
    let here = subst (IsWithin (longest c.args.version)) (sym (c.deref-event-items.ensures.value ∙ c.in_ok-word.ensures.canonical)) within in
    subst (λ (x : StreamEvent). length x.path ≤ longest c.args.version) (sym c.event-item.is) (here c.loop-event.event-index c.event-item.result c.loop-event-test.true)
