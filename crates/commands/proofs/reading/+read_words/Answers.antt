-- The words of one table and of those behind it.
use Rattle.std.proofs.Common.{◌≡◌, ◌<◌, List, [], ◌∷◌, ◌++◌, length, map}
use Rattle.std.specs.Prelude.{string_bytes}
use Rattle.std.proofs.lemmas.Result.{err_from_is_err_and}
use Rattle.stream_type.specs.StreamType.{type_of, par}
use Rattle.event_word.specs.StreamEvent.{StreamEvent}
use Rattle.delta_end.specs.declared.end.End.{End}
use Rattle.commands.specs.Tables.{tables_fault}
use Rattle.commands.specs.Given.{AreRead, EndsReading}
use Rattle.commands.proofs.ReadTables.{on_ok_too, if_err_too, some_left, reads_behind, first_wrong, later_wrong}
use Rattle.commands.proofs.reading.+read_words.Goals as goal

pub returns-in_err-read_behind-in-Par-clause-ended : goal.returns-in_err-read_behind-in-Par-clause-ended
returns-in_err-read_behind-in-Par-clause-ended g t c =
    let exit = err_from_is_err_and c.from_residual.result c.from_residual.ensures.1 in
    let holds = g.S.Shelf.holds c.args.shelf.now in
    let name = string_bytes c.in-Some.name.now in
    let rest = map string_bytes c.in-Some.rest.now in
    let s = par (type_of c.in-Par.first.value) (type_of c.in-Par.others.value) in
    let end = c.in_err-read_behind-in-Par.field-0.0 in
    let some : 0 < length rest = some_left string_bytes c.in-Some.rest.now c.is_empty.result c.is_empty.ensures c.if-is_empty.false in
    let told : EndsReading holds (name ∷ []) (tables_fault c.args.file (type_of c.in-Par.first.value)) end = rw (c.deref.ensures, c.as_str-in-Par.ensures.value) at c.in_err-read_behind-in-Par.ensures.ended in
    rw (exit.1, exit.2, c.in-Some.ensures.cases.0, c.in-Par.is) (first_wrong holds name s c.args.file rest end some told)

pub returns-clause-words : goal.returns-clause-words
returns-clause-words g t c =
    let holds = g.S.Shelf.holds c.args.shelf.now in
    let name = string_bytes c.in-Some.name.now in
    let rest = map string_bytes c.in-Some.rest.now in
    let s = par (type_of c.in-Par.first.value) (type_of c.in-Par.others.value) in
    let some : 0 < length rest = some_left string_bytes c.in-Some.rest.now c.is_empty.result c.is_empty.ensures c.if-is_empty.false in
    let old = map (λ w. w.items) c.args.words.now.items in
    let mid = map (λ w. w.items) c.read_behind-in-Par.new.words.items in
    let new = map (λ w. w.items) c.read_words.new.words.items in
    let first : (later : List (List StreamEvent)) × AreRead holds (name ∷ []) (type_of c.in-Par.first.value) c.args.file later × (mid ≡ old ++ later) = rw (c.deref.ensures, c.as_str-in-Par.ensures.value) at c.in_ok-read_behind-in-Par.ensures.word in
    rw (c.in-Some.ensures.cases.0, c.in-Par.is)
    (on_ok_too c.read_words.result _ _ (reads_behind holds name s c.args.file rest old mid new some first)
    (rw (c.in_ok-read_behind-in-Par.ensures.held, c.deref-in-Par.ensures) at c.read_words.ensures.words))

pub returns-clause-ended : goal.returns-clause-ended
returns-clause-ended g t c =
    let holds = g.S.Shelf.holds c.args.shelf.now in
    let name = string_bytes c.in-Some.name.now in
    let rest = map string_bytes c.in-Some.rest.now in
    let s = par (type_of c.in-Par.first.value) (type_of c.in-Par.others.value) in
    let some : 0 < length rest = some_left string_bytes c.in-Some.rest.now c.is_empty.result c.is_empty.ensures c.if-is_empty.false in
    let old = map (λ w. w.items) c.args.words.now.items in
    let mid = map (λ w. w.items) c.read_behind-in-Par.new.words.items in
    let first : (later : List (List StreamEvent)) × AreRead holds (name ∷ []) (type_of c.in-Par.first.value) c.args.file later × (mid ≡ old ++ later) = rw (c.deref.ensures, c.as_str-in-Par.ensures.value) at c.in_ok-read_behind-in-Par.ensures.word in
    rw (c.in-Some.ensures.cases.0, c.in-Par.is)
    (if_err_too c.read_words.result _ _ (λ (end : End). later_wrong holds name s c.args.file first.0 rest end some first.1)
    (rw (c.in_ok-read_behind-in-Par.ensures.held, c.deref-in-Par.ensures) at c.read_words.ensures.ended))
