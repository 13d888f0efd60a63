-- The types are those of tables, the words that were read are theirs, and the mixed word stands for the tables.
use Rattle.std.proofs.Common.{◌≡◌, ◌≤◌, length, map, sym, subst, ap, ◌∙◌}
use Rattle.std.specs.Prelude.{string_bytes}
use Rattle.std.proofs.lemmas.List.{length-map}
use Rattle.std.proofs.lemmas.Result.{err_from_is_err_and}
use Rattle.stream_type.specs.StreamType.{StreamType, type_of, reach_of}
use Rattle.event_word.specs.Word.{IsWord}
use Rattle.core_term.specs.CoreTerm.{core_of}
use Rattle.delta_state.specs.Stands.{input_type}
use Rattle.table_feed.specs.RowType.{HasShape}
use Rattle.table_feed.specs.Mixing.{mixed_word}
use Rattle.delta_end.specs.declared.end.End.{End}
use Rattle.commands.specs.Tables.{tables_fault}
use Rattle.commands.specs.Given.{AreRead, EndsReading}
use Rattle.commands.proofs.Causes.{low_reach, reading_unwritten, running_unwritten, run_is_no_file, stands}
use Rattle.commands.proofs.ReadTables.{if_err_too}
use Rattle.commands.proofs.RunWords.{input_is_low, if_ok_too, shape_of, not_shape, read_as, shape_is_told, reading_is_told, words_are_words, word_is_whole, word_is_short, gives, stop_is_told}
use Rattle.commands.proofs.tables_run.text_given.Goals as goal

pub read_words-requires-clause-reach : goal.read_words-requires-clause-reach
read_words-requires-clause-reach g c =
    let input = input_type (core_of c.args.checked.now) in
    subst (λ (s : StreamType). reach_of s ≤ 63) (sym c.input-2.ensures) (low_reach input (input_is_low (core_of c.args.checked.now) c.requires.fits))

pub mixed-requires-clause-reach : goal.mixed-requires-clause-reach
mixed-requires-clause-reach g c =
    let input = input_type (core_of c.args.checked.now) in
    subst (λ (s : StreamType). reach_of s ≤ 63) (sym c.input-3.ensures) (low_reach input (input_is_low (core_of c.args.checked.now) c.requires.fits))

pub returns-then-not-has_shape-clause-ended : goal.returns-then-not-has_shape-clause-ended
returns-then-not-has_shape-clause-ended g c =
    let core = core_of c.args.checked.now in
    let holds = g.S.Shelf.holds c.args.shelf.now in
    let names = map string_bytes c.args.names.now in
    shape_is_told holds names core c.args.schedule.now c.args.budget c.end_of.result
    (not_shape holds names core c.args.schedule.now c.args.budget _ _ (length c.args.names.now) c.input.ensures c.output.ensures (sym (length-map c.args.names.now string_bytes)) c.has_shape.result c.has_shape.ensures.1 c.if-not-has_shape.true)
    c.end_of.ensures

pub returns-in_err-read_words-clause-ended : goal.returns-in_err-read_words-clause-ended
returns-in_err-read_words-clause-ended g c =
    let core = core_of c.args.checked.now in
    let holds = g.S.Shelf.holds c.args.shelf.now in
    let names = map string_bytes c.args.names.now in
    let shape : HasShape (input_type core) core.main.result (length names) =
    shape_of holds names core c.args.schedule.now c.args.budget _ _ (length c.args.names.now) c.input.ensures c.output.ensures (sym (length-map c.args.names.now string_bytes))
    (c.has_shape.ensures.0 c.if-not-has_shape.false) in
    let exit = err_from_is_err_and c.from_residual.result c.from_residual.ensures.1 in
    let end = c.in_err-read_words.field-0.0 in
    let told : EndsReading holds names (tables_fault 0 (input_type core)) end =
    subst (λ (s : StreamType). EndsReading holds names (tables_fault 0 s) end) c.input-2.ensures c.in_err-read_words.ensures.ended in
    rw (exit.1, exit.2) (reading_is_told holds names core c.args.schedule.now c.args.budget shape end told)

pub returns-in_err-read_words-clause-unwritten : goal.returns-in_err-read_words-clause-unwritten
returns-in_err-read_words-clause-unwritten g c =
    let holds = g.S.Shelf.holds c.args.shelf.now in
    let names = map string_bytes c.args.names.now in
    let exit = err_from_is_err_and c.from_residual.result c.from_residual.ensures.1 in
    rw (exit.1, exit.2) (reading_unwritten holds names (tables_fault 0 (type_of c.input-2.result.now)) c.in_err-read_words.field-0.0 c.in_err-read_words.ensures.ended)

pub mixed-requires-clause-words : goal.mixed-requires-clause-words
mixed-requires-clause-words g c =
    let core = core_of c.args.checked.now in
    let holds = g.S.Shelf.holds c.args.shelf.now in
    let names = map string_bytes c.args.names.now in
    let shape : HasShape (input_type core) core.main.result (length names) =
    shape_of holds names core c.args.schedule.now c.args.budget _ _ (length c.args.names.now) c.input.ensures c.output.ensures (sym (length-map c.args.names.now string_bytes))
    (c.has_shape.ensures.0 c.if-not-has_shape.false) in
    let words = map (λ w. w.items) c.read_words.new.words.items in
    let read : AreRead holds names (input_type core) 0 words =
    read_as holds names core c.args.schedule.now c.args.budget _ _ words c.input-2.ensures (ap (map (λ w. w.items)) c.new-words.ensures.items) c.in_ok-read_words.ensures.words in
    rw (c.input-3.ensures, c.deref.ensures.value) (words_are_words holds names core c.args.schedule.now c.args.budget shape words read)

pub text_of_word-requires-clause-word : goal.text_of_word-requires-clause-word
text_of_word-requires-clause-word g c =
    rw c.deref-in-Ok.ensures.value (subst (λ (s : StreamType). IsWord s c.in-Ok.word.items) c.input-3.ensures c.in-Ok.ensures.word)

pub text_of_word-requires-clause-room : goal.text_of_word-requires-clause-room
text_of_word-requires-clause-room g c =
    let core = core_of c.args.checked.now in
    let holds = g.S.Shelf.holds c.args.shelf.now in
    let names = map string_bytes c.args.names.now in
    let shape : HasShape (input_type core) core.main.result (length names) =
    shape_of holds names core c.args.schedule.now c.args.budget _ _ (length c.args.names.now) c.input.ensures c.output.ensures (sym (length-map c.args.names.now string_bytes))
    (c.has_shape.ensures.0 c.if-not-has_shape.false) in
    let words = map (λ w. w.items) c.read_words.new.words.items in
    let read : AreRead holds names (input_type core) 0 words =
    read_as holds names core c.args.schedule.now c.args.budget _ _ words c.input-2.ensures (ap (map (λ w. w.items)) c.new-words.ensures.items) c.in_ok-read_words.ensures.words in
    let word = c.deref-in-Ok.result.now in
    let mixed : word ≡ mixed_word c.args.schedule.now words = c.deref-in-Ok.ensures.value ∙ (rw c.deref.ensures.value at c.in-Ok.ensures.mixed) in
    word_is_short holds names core c.args.schedule.now c.args.budget shape words read word mixed c.requires.fits

pub text_of_word-requires-clause-whole : goal.text_of_word-requires-clause-whole
text_of_word-requires-clause-whole g c =
    let core = core_of c.args.checked.now in
    let holds = g.S.Shelf.holds c.args.shelf.now in
    let names = map string_bytes c.args.names.now in
    let shape : HasShape (input_type core) core.main.result (length names) =
    shape_of holds names core c.args.schedule.now c.args.budget _ _ (length c.args.names.now) c.input.ensures c.output.ensures (sym (length-map c.args.names.now string_bytes))
    (c.has_shape.ensures.0 c.if-not-has_shape.false) in
    let words = map (λ w. w.items) c.read_words.new.words.items in
    let read : AreRead holds names (input_type core) 0 words =
    read_as holds names core c.args.schedule.now c.args.budget _ _ words c.input-2.ensures (ap (map (λ w. w.items)) c.new-words.ensures.items) c.in_ok-read_words.ensures.words in
    let word = c.deref-in-Ok.result.now in
    let mixed : word ≡ mixed_word c.args.schedule.now words = c.deref-in-Ok.ensures.value ∙ (rw c.deref.ensures.value at c.in-Ok.ensures.mixed) in
    word_is_whole holds names core c.args.schedule.now c.args.budget shape words read word mixed

pub text_of_word-requires-clause-table : goal.text_of_word-requires-clause-table
text_of_word-requires-clause-table g c =
    let core = core_of c.args.checked.now in
    let holds = g.S.Shelf.holds c.args.shelf.now in
    let names = map string_bytes c.args.names.now in
    let shape : HasShape (input_type core) core.main.result (length names) =
    shape_of holds names core c.args.schedule.now c.args.budget _ _ (length c.args.names.now) c.input.ensures c.output.ensures (sym (length-map c.args.names.now string_bytes))
    (c.has_shape.ensures.0 c.if-not-has_shape.false) in
    shape.2

pub returns-in-Ok-clause-text : goal.returns-in-Ok-clause-text
returns-in-Ok-clause-text g c =
    let core = core_of c.args.checked.now in
    let holds = g.S.Shelf.holds c.args.shelf.now in
    let names = map string_bytes c.args.names.now in
    let shape : HasShape (input_type core) core.main.result (length names) =
    shape_of holds names core c.args.schedule.now c.args.budget _ _ (length c.args.names.now) c.input.ensures c.output.ensures (sym (length-map c.args.names.now string_bytes))
    (c.has_shape.ensures.0 c.if-not-has_shape.false) in
    let words = map (λ w. w.items) c.read_words.new.words.items in
    let read : AreRead holds names (input_type core) 0 words =
    read_as holds names core c.args.schedule.now c.args.budget _ _ words c.input-2.ensures (ap (map (λ w. w.items)) c.new-words.ensures.items) c.in_ok-read_words.ensures.words in
    let word = c.deref-in-Ok.result.now in
    let mixed : word ≡ mixed_word c.args.schedule.now words = c.deref-in-Ok.ensures.value ∙ (rw c.deref.ensures.value at c.in-Ok.ensures.mixed) in
    if_ok_too c.text_of_word.result _ _ (λ text is. (read.tables, read.held, gives holds names core c.args.schedule.now c.args.budget shape words read word mixed (string_bytes text) is)) c.text_of_word.ensures.text

pub returns-in-Ok-clause-ended : goal.returns-in-Ok-clause-ended
returns-in-Ok-clause-ended g c =
    let core = core_of c.args.checked.now in
    let holds = g.S.Shelf.holds c.args.shelf.now in
    let names = map string_bytes c.args.names.now in
    let shape : HasShape (input_type core) core.main.result (length names) =
    shape_of holds names core c.args.schedule.now c.args.budget _ _ (length c.args.names.now) c.input.ensures c.output.ensures (sym (length-map c.args.names.now string_bytes))
    (c.has_shape.ensures.0 c.if-not-has_shape.false) in
    let words = map (λ w. w.items) c.read_words.new.words.items in
    let read : AreRead holds names (input_type core) 0 words =
    read_as holds names core c.args.schedule.now c.args.budget _ _ words c.input-2.ensures (ap (map (λ w. w.items)) c.new-words.ensures.items) c.in_ok-read_words.ensures.words in
    let word = c.deref-in-Ok.result.now in
    let mixed : word ≡ mixed_word c.args.schedule.now words = c.deref-in-Ok.ensures.value ∙ (rw c.deref.ensures.value at c.in-Ok.ensures.mixed) in
    if_err_too c.text_of_word.result _ _ (λ (end : End). stop_is_told holds names core c.args.schedule.now c.args.budget shape words read word mixed end) c.text_of_word.ensures.ended

pub returns-in-Ok-clause-unwritten : goal.returns-in-Ok-clause-unwritten
returns-in-Ok-clause-unwritten g c =
    if_err_too c.text_of_word.result _ _ (λ (end : End). running_unwritten (core_of c.args.checked.now) c.args.budget c.deref-in-Ok.result.now end) c.text_of_word.ensures.ended

pub returns-in-Ok-clause-file : goal.returns-in-Ok-clause-file
returns-in-Ok-clause-file g c =
    stands c.text_of_word.result _ _ c.in_ok-read_words.ensures.file
    (if_err_too c.text_of_word.result _ _ (λ (end : End). run_is_no_file (core_of c.args.checked.now) c.args.budget c.deref-in-Ok.result.now end) c.text_of_word.ensures.ended)
