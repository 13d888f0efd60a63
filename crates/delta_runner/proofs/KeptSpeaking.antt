-- What is put out where a run goes on from a kept state.
use Rattle.std.proofs.Common.{ℕ, List, [], ◌++◌, ap, sym, refl, ◌∙◌}
use Rattle.std.proofs.lemmas.Grind.{flat_map-append}
use Rattle.event_word.specs.Canon.{canon}
use Rattle.event_frame.specs.Frames.{frame}
use Rattle.delta_runner.proofs.KeptGrowth.{since_grows}
use Rattle.delta_session.specs.OneShot.{said}
use Rattle.delta_output.specs.LoopMeaning.{frames_of}
use Rattle.delta_output.specs.Spoken.{spoken_after}
use Rattle.delta_output.proofs.Speaking as speaking
use Rattle.delta_runner.specs.KeptOneShot.{one_shot_kept, meaning_since}
use Rattle.delta_runner.specs.KeptOutputLaws.{OutputIsSpoken, SpokenIsMeant, OrderDoesNotMatter, NothingIsRevised}

pub output_is_spoken : OutputIsSpoken
output_is_spoken c k v budget word =
    ap (λ (bytes : List ℕ). frames_of v (said (one_shot_kept c k) []) ++ bytes) (speaking.answers-spoken v (one_shot_kept c k) (meaning_since v budget c k) (λ before x. refl) [] word)
    ∙ sym (flat_map-append (frame v) (canon (said (one_shot_kept c k) [])) (spoken_after (one_shot_kept c k) [] word))

pub spoken_is_meant : SpokenIsMeant
spoken_is_meant c k can typed = speaking.spoken_is_meant (one_shot_kept c k) (since_grows c can k typed)

pub order_does_not_matter : OrderDoesNotMatter
order_does_not_matter c k can typed = speaking.order_does_not_matter (one_shot_kept c k) (since_grows c can k typed)

pub nothing_is_revised : NothingIsRevised
nothing_is_revised c k can typed = speaking.nothing_is_revised (one_shot_kept c k) (since_grows c can k typed)
