-- That an event's array is given back by its steps and its leaf, which lets an event be copied.
use Rattle.std.proofs.Common.{◌≡◌, ◌-◌, ◌++◌, length, drop, replicate, sym, ap, ◌∙◌, length-drop}
use Rattle.std.proofs.Math.Arith.{sub-sub_self}
use Rattle.std.proofs.lemmas.List.{take-append-drop}
use Rattle.event_word.specs.declared.event.Step.TheVariants.{Left}
use Rattle.event_word.specs.declared.event.Event.TheInside.{Inside}
use Rattle.event_word.specs.Events.{stream_event_of, IsAligned, event_of}

-- the steps and the leaf tell the whole array
pub event_of-stream_event_of : (a : Inside) → IsAligned a → event_of (stream_event_of a) ≡ a
event_of-stream_event_of a h =
    let start : 63 - length (drop a.start a.steps) ≡ a.start =
    ap (λ n. 63 - n) (length-drop a.start a.steps) ∙ ap (λ n. 63 - (n - a.start)) h.len ∙ sub-sub_self h.start in
    let steps : replicate (63 - length (drop a.start a.steps)) Left ++ drop a.start a.steps ≡ a.steps =
    ap (λ n. replicate n Left ++ drop a.start a.steps) start ∙ ap (λ unused. unused ++ drop a.start a.steps) (sym h.unused)
    ∙ take-append-drop a.start a.steps in
    λ i. record { steps = steps i; start = start i; leaf = a.leaf }
