-- What is outside at one moment, as far as it tells.
use Rattle.std.specs.Prelude.{ℕ, List, Option}
use Rattle.port.specs.declared.link.Move.{Move}

pub record Outside : Type 0 where
  -- what the shelf holds, and how many of its calls have failed
  pub files : Option (List ℕ → List ℕ)
  pub file_faults : ℕ
  -- the moves of the link so far, what is left to read, and how many reads and writes have failed
  pub log : Option (List Move)
  pub left : Option (List ℕ)
  pub read_faults : ℕ
  pub write_faults : ℕ
  -- what was written to the sink, and how many of its calls have failed
  pub told : Option (List ℕ)
  pub note_faults : ℕ

-- read off a shelf, a link and a sink by what these tell
abbrev pub seen : {S L N : Type 0} → (S → Option (List ℕ → List ℕ)) → (S → ℕ) → (L → Option (List Move)) → (L → Option (List ℕ)) → (L → ℕ) → (L → ℕ)
    → (N → Option (List ℕ)) → (N → ℕ) → S → L → N → Outside
seen {S} {L} {N} holds file_faults log left read_faults write_faults told note_faults shelf link notes = record {
  files = holds shelf;
  file_faults = file_faults shelf;
  log = log link;
  left = left link;
  read_faults = read_faults link;
  write_faults = write_faults link;
  told = told notes;
  note_faults = note_faults notes;
}
