-- What clap's rows hold after one use more.
use Rattle.std.proofs.Common.{◌≡◌, List, [], ◌∷◌, ◌++◌, Bool, true, false, refl, ap, ◌∙◌, codes, Option, Some, None}
use Rattle.std.specs.Str.{bytes_eq}
use Rattle.clap.specs.Values.{reading_of}
use Rattle.clap.specs.Walk.{Row, Text, with_values}
use Rattle.clap.specs.declared.builder.value_parser.ValueParser.TheVariants as vp
use Rattle.clap.specs.declared.parser.matches.ValueSource.TheVariants.{CommandLine}
use Rattle.delta_words.specs.CommandLine.{WrittenLine}
use Rattle.delta_words.proofs.ClapRows.{found, found-append, or_found, with_values-new, with_values-other, with_values-more}
use Rattle.delta_words.proofs.ClapSteps.{Holds, word_row, flag_row, rest_found}

or_none : (o : Option Row) → or_found o None ≡ o
or_none None = refl
or_none (Some r) = refl

-- a row of another id is not found
other : (id : Text) (rows : List Row) (r : Row) (o : Option Row) → bytes_eq r.id id ≡ false → found id rows ≡ o → found id (rows ++ r ∷ []) ≡ o
other id rows r o apart h = found-append id rows r ∙ ((rw apart (or_none (found id rows))) ∙ h)

-- the first row of its id is found
same : (id : Text) (rows : List Row) (r : Row) → bytes_eq r.id id ≡ true → found id rows ≡ None → found id (rows ++ r ∷ []) ≡ Some r
same id rows r is new = found-append id rows r ∙ (rw (is, new) refl)

pub add_first : (rows : List Row) (line : WrittenLine) (word : Text) → Holds rows line → line.operands ≡ []
    → Holds (rows ++ word_row (codes "FIRST") word ∷ []) (record line { operands = line.operands ++ word ∷ [] })
add_first rows line word h e = record {
  first = rw e (same (codes "FIRST") rows (word_row (codes "FIRST") word) refl (rw e at h.first));
  second = rw e (other (codes "SECOND") rows (word_row (codes "FIRST") word) _ refl (rw e at h.second));
  rest = rw e (other (codes "REST") rows (word_row (codes "FIRST") word) _ refl (rw e at h.rest));
  budget = other (codes "budget") rows (word_row (codes "FIRST") word) _ refl h.budget;
  v2 = other (codes "v2") rows (word_row (codes "FIRST") word) _ refl h.v2;
  frames = other (codes "frames") rows (word_row (codes "FIRST") word) _ refl h.frames;
}

pub add_second : (rows : List Row) (line : WrittenLine) (before word : Text) → Holds rows line → line.operands ≡ before ∷ []
    → Holds (rows ++ word_row (codes "SECOND") word ∷ []) (record line { operands = line.operands ++ word ∷ [] })
add_second rows line before word h e = record {
  first = rw e (other (codes "FIRST") rows (word_row (codes "SECOND") word) _ refl (rw e at h.first));
  second = rw e (same (codes "SECOND") rows (word_row (codes "SECOND") word) refl (rw e at h.second));
  rest = rw e (other (codes "REST") rows (word_row (codes "SECOND") word) _ refl (rw e at h.rest));
  budget = other (codes "budget") rows (word_row (codes "SECOND") word) _ refl h.budget;
  v2 = other (codes "v2") rows (word_row (codes "SECOND") word) _ refl h.v2;
  frames = other (codes "frames") rows (word_row (codes "SECOND") word) _ refl h.frames;
}

pub add_rest : (rows : List Row) (line : WrittenLine) (a b : Text) (more : List Text) (word : Text) → Holds rows line → line.operands ≡ a ∷ b ∷ more
    → Holds (with_values (codes "REST") (reading_of vp.String) CommandLine (word ∷ []) rows) (record line { operands = line.operands ++ word ∷ [] })
add_rest rows line a b more word h e = record {
  first = rw e (with_values-other (codes "REST") (codes "FIRST") (reading_of vp.String) CommandLine (word ∷ []) rows refl ∙ (rw e at h.first));
  second = rw e (with_values-other (codes "REST") (codes "SECOND") (reading_of vp.String) CommandLine (word ∷ []) rows refl ∙ (rw e at h.second));
  rest = rw e (go more (rw e at h.rest));
  budget = with_values-other (codes "REST") (codes "budget") (reading_of vp.String) CommandLine (word ∷ []) rows refl ∙ h.budget;
  v2 = with_values-other (codes "REST") (codes "v2") (reading_of vp.String) CommandLine (word ∷ []) rows refl ∙ h.v2;
  frames = with_values-other (codes "REST") (codes "frames") (reading_of vp.String) CommandLine (word ∷ []) rows refl ∙ h.frames;
}
  where
    go : (more : List Text) → found (codes "REST") rows ≡ rest_found (a ∷ b ∷ more)
        → found (codes "REST") (with_values (codes "REST") (reading_of vp.String) CommandLine (word ∷ []) rows) ≡ rest_found (a ∷ b ∷ (more ++ word ∷ []))
    go [] none =
        ap (found (codes "REST")) (with_values-new (codes "REST") (reading_of vp.String) CommandLine (word ∷ []) rows none)
        ∙ same (codes "REST") rows (word_row (codes "REST") word) refl none
    go (c ∷ cs) some = with_values-more (codes "REST") (reading_of vp.String) (c ∷ cs) (word ∷ []) rows some

pub add_budget : (rows : List Row) (line : WrittenLine) (word : Text) (awaits : Bool) → Holds rows line → line.budget ≡ None
    → Holds (rows ++ word_row (codes "budget") word ∷ []) (record line { budget = Some word; awaits = awaits })
add_budget rows line word awaits h e = record {
  first = other (codes "FIRST") rows (word_row (codes "budget") word) _ refl h.first;
  second = other (codes "SECOND") rows (word_row (codes "budget") word) _ refl h.second;
  rest = other (codes "REST") rows (word_row (codes "budget") word) _ refl h.rest;
  budget = same (codes "budget") rows (word_row (codes "budget") word) refl (rw e at h.budget);
  v2 = other (codes "v2") rows (word_row (codes "budget") word) _ refl h.v2;
  frames = other (codes "frames") rows (word_row (codes "budget") word) _ refl h.frames;
}

pub add_v2 : (rows : List Row) (line : WrittenLine) → Holds rows line → line.v2 ≡ false
    → Holds (rows ++ flag_row (codes "v2") ∷ []) (record line { v2 = true })
add_v2 rows line h e = record {
  first = other (codes "FIRST") rows (flag_row (codes "v2")) _ refl h.first;
  second = other (codes "SECOND") rows (flag_row (codes "v2")) _ refl h.second;
  rest = other (codes "REST") rows (flag_row (codes "v2")) _ refl h.rest;
  budget = other (codes "budget") rows (flag_row (codes "v2")) _ refl h.budget;
  v2 = same (codes "v2") rows (flag_row (codes "v2")) refl (rw e at h.v2);
  frames = other (codes "frames") rows (flag_row (codes "v2")) _ refl h.frames;
}

pub add_frames : (rows : List Row) (line : WrittenLine) → Holds rows line → line.frames ≡ false
    → Holds (rows ++ flag_row (codes "frames") ∷ []) (record line { frames = true })
add_frames rows line h e = record {
  first = other (codes "FIRST") rows (flag_row (codes "frames")) _ refl h.first;
  second = other (codes "SECOND") rows (flag_row (codes "frames")) _ refl h.second;
  rest = other (codes "REST") rows (flag_row (codes "frames")) _ refl h.rest;
  budget = other (codes "budget") rows (flag_row (codes "frames")) _ refl h.budget;
  v2 = other (codes "v2") rows (flag_row (codes "frames")) _ refl h.v2;
  frames = same (codes "frames") rows (flag_row (codes "frames")) refl (rw e at h.frames);
}
