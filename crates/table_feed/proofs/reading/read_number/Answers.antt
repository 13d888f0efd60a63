-- The field at the column is the first of those from it on.
use Rattle.std.proofs.Common.{Some, refl, ap, ◌∙◌, sym, rules}
use Rattle.std.specs.Int.{w64}
use Rattle.std.proofs.lemmas.Int.{to_z-of_z}
use Rattle.csv.specs.Records.{fields_of}
use Rattle.table_feed.proofs.Faults.{at_column, some_column}
use Rattle.table_feed.proofs.reading.read_number.Goals as goal

pub unreachable-requires : goal.unreachable-requires
unreachable-requires c = some_column (fields_of c.args.fields.now) c.args.place.column c.requires c.in-None.ensures.value

pub returns-in-Some-number-clause-number : goal.returns-in-Some-number-clause-number
returns-in-Some-number-clause-number c = record {
  field = c.in-Some.field.now;
  split = at_column (fields_of c.args.fields.now) c.args.place.column c.in-Some.field.now c.in-Some.ensures.value;
  is = sym c.in-Some-number.ensures ∙ ap Some (sym (to_z-of_z w64 c.in-Some-number.number (search rules)));
}

pub returns-in-None-number-clause-fault : goal.returns-in-None-number-clause-fault
returns-in-None-number-clause-fault c = (
  refl,
  record {
    field = c.in-Some.field.now;
    split = at_column (fields_of c.args.fields.now) c.args.place.column c.in-Some.field.now c.in-Some.ensures.value;
    is = sym c.in-None-number.ensures;
  },
)
