-- The fact is read at the places of its names, and is false where one isn't there.
use Rattle.std.proofs.Common.{sym}
use Rattle.bunch.specs.Names.{numbers_of}
use Rattle.bunch.specs.Table.{lists_of}
use Rattle.bunch.proofs.Growth.{facts_in-first, facts_in-second}
use Rattle.bunch.proofs.TableReads.{len_for, read_fact, gone}
use Rattle.bunch.proofs.table.fact.Goals as goal
use Rattle.bunch.proofs.table.fact.Goals.{else-i-names-via-then-i-names+else-j-names, else-i-names-via-else-i-names}

pub index-requires : goal.index-requires
index-requires c = len_for c.args.names.now c.args.rows.now c.place_of-i.result c.place_of-j.result c.index-rows-i.result c.requires c.if-i-names.true c.index-rows-i.is c.if-j-names.true

pub returns-then-j-names : goal.returns-then-j-names
returns-then-j-names c =
    read_fact c.args.names.now c.args.rows.now c.args.x.0 c.args.y.0 c.place_of-i.result c.place_of-j.result c.index-rows-i.result c.index.result.now c.requires
    c.place_of-i.ensures c.place_of-j.ensures c.if-i-names.true c.if-j-names.true c.index-rows-i.is c.index.ensures

pub returns-else-i-names : goal.returns-else-i-names
returns-else-i-names c =
    elim c.else-i-names.branch [
      | else-i-names-via-then-i-names+else-j-names w ↦ sym (facts_in-second (numbers_of c.args.names.now) (lists_of c.args.rows.now) c.args.x.0 c.args.y.0 (gone c.args.names.now c.args.y.0 c.place_of-j.result c.place_of-j.ensures w.if-j-names.false))
      | else-i-names-via-else-i-names w ↦ sym (facts_in-first (numbers_of c.args.names.now) (lists_of c.args.rows.now) c.args.x.0 c.args.y.0 (gone c.args.names.now c.args.x.0 c.place_of-i.result c.place_of-i.ensures w.if-i-names.false))
    ]
