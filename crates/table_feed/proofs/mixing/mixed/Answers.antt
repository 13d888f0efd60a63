-- The rounds, and then what is left of the words, is the mixed word.
use Rattle.std.proofs.Common.{List, ◌++◌, map, ℕ, ap, ap₂, ◌∙◌, sym, subst, arith}
use Rattle.std.proofs.lemmas.List.{take_all}
use Rattle.stream_type.specs.StreamType.{type_of}
use Rattle.event_word.specs.StreamEvent.{StreamEvent}
use Rattle.event_word.specs.Word.{IsWord, pre}
use Rattle.table_feed.specs.Mixing.{in_order}
use Rattle.table_feed.specs.Room.{HasRoom, rest_of}
use Rattle.table_feed.proofs.MixedWords.{mixed_spells}
use Rattle.table_feed.proofs.Placing.{words_have_room, map-right_by}
use Rattle.table_feed.proofs.mixing.mixed.Goals as goal

pub take_rounds-requires : goal.take_rounds-requires
take_rounds-requires c =
    let all = c.loop-word.invariant ∙ ap (map (λ w. w.items)) (take_all c.loop-word.word-index c.args.words.now c.loop-word-test.false) in
    record { room = subst (HasRoom 0) (sym all) (words_have_room (type_of c.args.s.now) (map (λ w. w.items) c.args.words.now) 0 (omega (arith, c.requires.reach)) c.requires.words) }

pub returns-clause-mixed : goal.returns-clause-mixed
returns-clause-mixed c =
    let all = c.loop-word.invariant ∙ ap (map (λ w. w.items)) (take_all c.loop-word.word-index c.args.words.now c.loop-word-test.false) in
    let lent = ap (map (λ w. w.now)) c.deref.ensures.value in
    c.in_ok-append_in_order.ensures
    ∙ ap (λ (xs : List StreamEvent). c.take_rounds.new.mixed.items ++ xs) (map-right_by (in_order (map (λ w. w.now) c.deref.result.now)) ∙ ap in_order lent)
    ∙ c.in_ok-take_rounds.ensures.events
    ∙ ap (λ (xs : List StreamEvent). xs ++ rest_of c.most_events.result c.args.schedule.now (map (λ w. w.now) c.loop-word.left.items)) c.new-mixed.ensures.items
    ∙ ap₂ (λ (n : ℕ) (vs : List (List StreamEvent)). rest_of n c.args.schedule.now vs) c.most_events.ensures all

pub returns-clause-word : goal.returns-clause-word
returns-clause-word c =
    let spelled = mixed_spells c.args.schedule.now (type_of c.args.s.now) (map (λ w. w.items) c.args.words.now) c.requires.words in
    subst (IsWord (type_of c.args.s.now)) (sym (returns-clause-mixed c)) spelled.word

pub returns-clause-means : goal.returns-clause-means
returns-clause-means c =
    let spelled = mixed_spells c.args.schedule.now (type_of c.args.s.now) (map (λ w. w.items) c.args.words.now) c.requires.words in
    ap (pre (type_of c.args.s.now)) (returns-clause-mixed c) ∙ spelled.means
