-- The word by its number, and what its first event leaves of the words.
use Rattle.std.proofs.Common.{◌≡◌, ◌<◌, ◌≤◌, Some, map, length, ap, ◌∙◌, sym, refl, rules, arith}
use Rattle.std.proofs.lemmas.List.{length-map, nil_from_length}
use Rattle.table_feed.proofs.Placing.{at_number, take_room, take_next, left_room, no_next_at, past_words}
use Rattle.table_feed.proofs.mixing.take.Goals as goal

pub place-requires : goal.place-requires
place-requires c =
    let below : c.args.number < length c.args.left.now.items = search rules in
    let here = at_number (λ w. w.now) c.args.left.now.items c.args.number c.index.result.now below c.index.ensures in
    let count : c.len-words.result ≡ length c.args.left.now.items = search rules in
    take_room c.args.number c.len-words.result (map (λ w. w.now) c.args.left.now.items) c.in-Some.event.now c.in-Some.rest.now (count ∙ sym (length-map c.args.left.now.items (λ w. w.now))) c.requires.room (here ∙ ap Some c.in-Some.ensures.cases.0)

pub returns-then-number-words-clause-none : goal.returns-then-number-words-clause-none
returns-then-number-words-clause-none c none =
    let past : length c.args.left.now.items ≤ c.args.number = search rules in
    let all : length (map (λ w. w.now) c.args.left.now.items) ≤ c.args.number = omega (arith, past, length-map c.args.left.now.items (λ w. w.now)) in
    (past_words c.args.number (map (λ w. w.now) c.args.left.now.items) all, refl)

pub returns-in-None-clause-none : goal.returns-in-None-clause-none
returns-in-None-clause-none c none =
    let below : c.args.number < length c.args.left.now.items = search rules in
    let here = at_number (λ w. w.now) c.args.left.now.items c.args.number c.index.result.now below c.index.ensures in
    (no_next_at c.args.number (map (λ w. w.now) c.args.left.now.items) (here ∙ ap Some (nil_from_length c.index.result.now.now c.in-None.ensures.cases)), refl)

pub returns-in-Some-clause-event : goal.returns-in-Some-clause-event
returns-in-Some-clause-event c =
    let below : c.args.number < length c.args.left.now.items = search rules in
    let here = at_number (λ w. w.now) c.args.left.now.items c.args.number c.index.result.now below c.index.ensures in
    let count : c.len-words.result ≡ length c.args.left.now.items = search rules in
    take_next (λ w. w.now) c.args.number c.len-words.result c.args.left.now.items c.in-Some.event.now c.place.result c.in-Some.rest c.in-Some.rest.now count (here ∙ ap Some c.in-Some.ensures.cases.0) c.place.ensures refl

pub returns-in-Some-clause-room : goal.returns-in-Some-clause-room
returns-in-Some-clause-room c =
    let below : c.args.number < length c.args.left.now.items = search rules in
    let here = at_number (λ w. w.now) c.args.left.now.items c.args.number c.index.result.now below c.index.ensures in
    let count : c.len-words.result ≡ length c.args.left.now.items = search rules in
    let next = take_next (λ w. w.now) c.args.number c.len-words.result c.args.left.now.items c.in-Some.event.now c.place.result c.in-Some.rest c.in-Some.rest.now count (here ∙ ap Some c.in-Some.ensures.cases.0) c.place.ensures refl in
    left_room c.args.number _ _ _ c.requires.room next
