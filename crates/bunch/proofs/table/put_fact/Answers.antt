-- The fact is written at the places of its names.
use Rattle.std.proofs.Common.{rules, ◌≡◌, ◌<◌, length, ap₂, ◌∙◌, arith}
use Rattle.bunch.specs.Table.{lists_of, put_rows}
use Rattle.bunch.proofs.TableReads.{rows_for, len_for, place_within, write_fact}
use Rattle.bunch.proofs.table.put_fact.Goals as goal

pub bounds-rows-i : goal.bounds-rows-i
bounds-rows-i c =
    let many : length c.args.rows.now ≡ length c.args.names.now = rows_for c.args.names.now c.args.rows.now c.requires.square in
    let within : c.place_of-i.result < length c.args.names.now = place_within c.args.names.now c.args.x.0 c.place_of-i.result c.place_of-i.ensures c.requires.first in
    omega arith

pub offset_bounds-rows-i : goal.offset_bounds-rows-i
offset_bounds-rows-i c =
    let within : c.place_of-i.result < length c.args.rows.now = bounds-rows-i c in
    search (rules, within)

pub index_mut-requires : goal.index_mut-requires
index_mut-requires c =
    let within : c.place_of-i.result < length c.args.names.now = place_within c.args.names.now c.args.x.0 c.place_of-i.result c.place_of-i.ensures c.requires.first in
    let there : c.place_of-j.result < length c.args.names.now = place_within c.args.names.now c.args.y.0 c.place_of-j.result c.place_of-j.ensures c.requires.second in
    rw (← c.index-rows-i.is) (len_for c.args.names.now c.args.rows.now c.place_of-i.result c.place_of-j.result c.index-rows-i.result c.requires.square within c.index-rows-i.is there)

pub returns : goal.returns
returns c =
    let many : length c.args.rows.now ≡ length c.args.names.now = rows_for c.args.names.now c.args.rows.now c.requires.square in
    let within : c.place_of-i.result < length c.args.names.now = place_within c.args.names.now c.args.x.0 c.place_of-i.result c.place_of-i.ensures c.requires.first in
    write_fact c.args.rows.now c.place_of-i.result c.place_of-j.result c.index-rows-i.result (omega arith)
    ∙ ap₂ (λ i j. put_rows (lists_of c.args.rows.now) i j) c.place_of-i.ensures c.place_of-j.ensures
