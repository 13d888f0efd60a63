-- A step of clap's walk over the words of a subcommand, beside a step of a line.
use Rattle.std.proofs.Common.{◌≡◌, ℕ, ◌<◌, ◌≤◌, List, [], ◌∷◌, ◌++◌, length, Bool, true, false, ◌&&◌, ◌==◌, refl, ap, ◌∙◌, codes, Option, Some, None, is_some, option_map}
use Rattle.std.specs.Prelude.{slice_get, ⊤}
use Rattle.std.specs.Str.{bytes_eq}
use Rattle.clap.specs.Lexer.{long_of, short_of}
use Rattle.clap.specs.Values.{reading_of}
use Rattle.clap.specs.Faults.{settle_fault, turn_fault}
use Rattle.clap.specs.Walk.{Row, Text, Walk, Waiting, idle, option, positional, settled_rows, walked, has_row, used}
use Rattle.clap.specs.Words.{Shape}
use Rattle.clap.specs.declared.builder.value_parser.ValueParser.TheVariants as vp
use Rattle.clap.specs.declared.parser.matches.ValueSource.TheVariants.{CommandLine}
use Rattle.delta_words.specs.declared.command.Takes.{Takes}
use Rattle.delta_words.specs.CommandLine.{WrittenLine, is_option}
use Rattle.delta_words.proofs.ClapRows.{found, row_of, has_row-found}
use Rattle.delta_words.proofs.ClapKnows.{Knows, valued_rule, v2_rule, frames_rule}

-- where the walk stands: the rows, the argument whose value is being read, what waits, the next operand's place, and whether `--` was read
abbrev pub at : List Row → Option (Text × List Text) → Waiting → ℕ → Bool → Walk
at rows pending waiting position trailing = record {
  held = record { rows = rows; pending = pending; skip = 0 };
  waiting = waiting;
  position = position;
  is_trailing = trailing;
  stopped = None;
}

-- the row of a word, and of a flag
abbrev pub word_row : Text → Text → Row
word_row id word = row_of id (reading_of vp.String) CommandLine (word ∷ [])

-- the row of the operands behind the second
abbrev pub rest_found : List Text → Option Row
rest_found [] = None
rest_found (a ∷ []) = None
rest_found (a ∷ b ∷ []) = None
rest_found (a ∷ b ∷ c ∷ more) = Some (row_of (codes "REST") (reading_of vp.String) CommandLine (c ∷ more))

-- the place of the next operand: the third takes all that follow
abbrev pub place_of : List Text → ℕ
place_of [] = 1
place_of (a ∷ []) = 2
place_of (a ∷ b ∷ more) = 3

-- no option waits for its value
abbrev pub IsPlain : Waiting → Type 0
IsPlain idle = ⊤
IsPlain positional = ⊤
IsPlain (option id) = ⊥

abbrev pub flag_row : Text → Row
flag_row id = row_of id (reading_of vp.Bool) CommandLine (codes "true" ∷ [])

abbrev pub flag_found : Text → Bool → Option Row
flag_found id true = Some (flag_row id)
flag_found id false = None

-- the rows hold what the line has
pub record Holds (rows : List Row) (line : WrittenLine) : Type 0 where
  pub first : found (codes "FIRST") rows ≡ option_map (word_row (codes "FIRST")) (slice_get line.operands 0)
  pub second : found (codes "SECOND") rows ≡ option_map (word_row (codes "SECOND")) (slice_get line.operands 1)
  pub rest : found (codes "REST") rows ≡ rest_found line.operands
  pub budget : found (codes "budget") rows ≡ option_map (word_row (codes "budget")) line.budget
  pub v2 : found (codes "v2") rows ≡ flag_found (codes "v2") line.v2
  pub frames : found (codes "frames") rows ≡ flag_found (codes "frames") line.frames

-- what a plain word is to the walk: the next operand
pub plain_none : (word : Text) → is_option word ≡ false → (long_of word ≡ None) × ((short_of word ≡ None) × (bytes_eq word (codes "--") ≡ false))
plain_none [] h = (refl, (refl, refl))
plain_none (b ∷ []) h = go (b == 45) refl
  where
    go : (t : Bool) → (b == 45) ≡ t → (long_of (b ∷ []) ≡ None) × ((short_of (b ∷ []) ≡ None) × (bytes_eq (b ∷ []) (codes "--") ≡ false))
    go true e = (simp e, (simp e, simp e))
    go false e = (simp e, (simp e, simp e))
plain_none (b ∷ d ∷ ds) h = (simp h, (simp h, simp h))

-- no row of an id, so a use is no second one
pub unused : (id : Text) (rows : List Row) → found id rows ≡ None → has_row id rows ≡ false
unused id rows h = has_row-found id rows ∙ ap is_some h

and_false : (b : Bool) → (b && false) ≡ false
and_false true = refl
and_false false = refl

module _ (s : Shape) (t : Takes) (k : Knows s t) where
  -- nothing is wrong with the value that is being read, and once it is settled the rows hold what the line has
  pub record Good (rows : List Row) (pending : Option (Text × List Text)) (line : WrittenLine) : Type 0 where
    pub settles : settle_fault s.rules false (record { rows = rows; pending = pending; skip = 0 }) ≡ []
    pub holds : Holds (settled_rows s.rules pending rows) line

  -- the walk stands where a line ends
  pub record Stands (w : Walk) (line : WrittenLine) : Type 0 where
    pub rows : List Row
    pub pending : Option (Text × List Text)
    pub waiting : Waiting
    pub plain : IsPlain waiting
    pub is : w ≡ at rows pending waiting (place_of line.operands) line.ended
    pub calm : line.awaits ≡ false
    pub good : Good rows pending line
    pub few : length line.operands ≤ t.most

  -- the walk stands behind `--budget`
  pub record Awaits (w : Walk) (line : WrittenLine) : Type 0 where
    pub rows : List Row
    pub is : w ≡ at rows (Some (codes "budget", [])) (option (codes "budget")) (place_of line.operands) line.ended
    pub waits : line.awaits ≡ true
    pub takes : t.budget ≡ true
    pub holds : Holds rows line
    pub none : line.budget ≡ None
    pub opened : line.ended ≡ false
    pub few : length line.operands ≤ t.most

  -- the walk at an operand
  pub first_walked : (rows : List Row) (pending : Option (Text × List Text)) (waiting : Waiting) (e : Bool) (word : Text) → IsPlain waiting → (e ≡ false → is_option word ≡ false) → 0 < t.operands
      → walked s.rules [] (at rows pending waiting 1 e) word ≡ at (settled_rows s.rules pending rows) (Some (codes "FIRST", word ∷ [])) idle 2 e
  unfolding walked
  first_walked rows pending waiting true word quiet plain lt = let i = k.index_first lt in simp (i, and_false)
  first_walked rows pending idle false word quiet plain lt =
      let i = k.index_first lt in let n = plain_none word (plain refl) in
      let n0 = n.0 in let n1 = n.1.0 in let n2 = n.1.1 in simp (i, n0, n1, n2, and_false)
  first_walked rows pending positional false word quiet plain lt =
      let i = k.index_first lt in let n = plain_none word (plain refl) in
      let n0 = n.0 in let n1 = n.1.0 in let n2 = n.1.1 in simp (i, n0, n1, n2, and_false)
  first_walked rows pending (option id) false word quiet plain lt = absurd quiet

  pub second_walked : (rows : List Row) (pending : Option (Text × List Text)) (waiting : Waiting) (e : Bool) (word : Text) → IsPlain waiting → (e ≡ false → is_option word ≡ false) → 1 < t.operands
      → walked s.rules [] (at rows pending waiting 2 e) word ≡ at (settled_rows s.rules pending rows) (Some (codes "SECOND", word ∷ [])) idle 3 e
  unfolding walked
  second_walked rows pending waiting true word quiet plain lt = let i = k.index_second lt in simp (i, and_false)
  second_walked rows pending idle false word quiet plain lt =
      let i = k.index_second lt in let n = plain_none word (plain refl) in
      let n0 = n.0 in let n1 = n.1.0 in let n2 = n.1.1 in simp (i, n0, n1, n2, and_false)
  second_walked rows pending positional false word quiet plain lt =
      let i = k.index_second lt in let n = plain_none word (plain refl) in
      let n0 = n.0 in let n1 = n.1.0 in let n2 = n.1.1 in simp (i, n0, n1, n2, and_false)
  second_walked rows pending (option id) false word quiet plain lt = absurd quiet

  pub rest_walked : (rows : List Row) (pending : Option (Text × List Text)) (waiting : Waiting) (e : Bool) (word : Text) → IsPlain waiting → (e ≡ false → is_option word ≡ false) → 2 < t.most
      → walked s.rules [] (at rows pending waiting 3 e) word ≡ at (settled_rows s.rules pending rows) (Some (codes "REST", word ∷ [])) positional 3 e
  unfolding walked
  rest_walked rows pending waiting true word quiet plain lt = let i = k.index_rest lt in simp (i, and_false)
  rest_walked rows pending idle false word quiet plain lt =
      let i = k.index_rest lt in let n = plain_none word (plain refl) in
      let n0 = n.0 in let n1 = n.1.0 in let n2 = n.1.1 in simp (i, n0, n1, n2, and_false)
  rest_walked rows pending positional false word quiet plain lt =
      let i = k.index_rest lt in let n = plain_none word (plain refl) in
      let n0 = n.0 in let n1 = n.1.0 in let n2 = n.1.1 in simp (i, n0, n1, n2, and_false)
  rest_walked rows pending (option id) false word quiet plain lt = absurd quiet

  pub first_turn : (rows : List Row) (pending : Option (Text × List Text)) (waiting : Waiting) (e : Bool) (word : Text) → IsPlain waiting → (e ≡ false → is_option word ≡ false) → 0 < t.operands
      → settle_fault s.rules false (record { rows = rows; pending = pending; skip = 0 }) ≡ [] → turn_fault s [] (at rows pending waiting 1 e) word ≡ []
  first_turn rows pending waiting true word quiet plain lt fine = let i = k.index_first lt in let a = k.again in simp (i, a, and_false, fine)
  first_turn rows pending idle false word quiet plain lt fine =
      let i = k.index_first lt in let a = k.again in let n = plain_none word (plain refl) in
      let n0 = n.0 in let n1 = n.1.0 in let n2 = n.1.1 in simp (i, a, n0, n1, n2, and_false, fine)
  first_turn rows pending positional false word quiet plain lt fine =
      let i = k.index_first lt in let a = k.again in let n = plain_none word (plain refl) in
      let n0 = n.0 in let n1 = n.1.0 in let n2 = n.1.1 in simp (i, a, n0, n1, n2, and_false, fine)
  first_turn rows pending (option id) false word quiet plain lt fine = absurd quiet

  pub second_turn : (rows : List Row) (pending : Option (Text × List Text)) (waiting : Waiting) (e : Bool) (word : Text) → IsPlain waiting → (e ≡ false → is_option word ≡ false) → 1 < t.operands
      → settle_fault s.rules false (record { rows = rows; pending = pending; skip = 0 }) ≡ [] → turn_fault s [] (at rows pending waiting 2 e) word ≡ []
  second_turn rows pending waiting true word quiet plain lt fine = let i = k.index_second lt in let a = k.again in simp (i, a, and_false, fine)
  second_turn rows pending idle false word quiet plain lt fine =
      let i = k.index_second lt in let a = k.again in let n = plain_none word (plain refl) in
      let n0 = n.0 in let n1 = n.1.0 in let n2 = n.1.1 in simp (i, a, n0, n1, n2, and_false, fine)
  second_turn rows pending positional false word quiet plain lt fine =
      let i = k.index_second lt in let a = k.again in let n = plain_none word (plain refl) in
      let n0 = n.0 in let n1 = n.1.0 in let n2 = n.1.1 in simp (i, a, n0, n1, n2, and_false, fine)
  second_turn rows pending (option id) false word quiet plain lt fine = absurd quiet

  pub rest_turn : (rows : List Row) (pending : Option (Text × List Text)) (waiting : Waiting) (e : Bool) (word : Text) → IsPlain waiting → (e ≡ false → is_option word ≡ false) → 2 < t.most
      → settle_fault s.rules false (record { rows = rows; pending = pending; skip = 0 }) ≡ [] → turn_fault s [] (at rows pending waiting 3 e) word ≡ []
  rest_turn rows pending waiting true word quiet plain lt fine = let i = k.index_rest lt in let a = k.again in simp (i, a, and_false, fine)
  rest_turn rows pending idle false word quiet plain lt fine =
      let i = k.index_rest lt in let a = k.again in let n = plain_none word (plain refl) in
      let n0 = n.0 in let n1 = n.1.0 in let n2 = n.1.1 in simp (i, a, n0, n1, n2, and_false, fine)
  rest_turn rows pending positional false word quiet plain lt fine =
      let i = k.index_rest lt in let a = k.again in let n = plain_none word (plain refl) in
      let n0 = n.0 in let n1 = n.1.0 in let n2 = n.1.1 in simp (i, a, n0, n1, n2, and_false, fine)
  rest_turn rows pending (option id) false word quiet plain lt fine = absurd quiet

  -- the walk at the value of `--budget`
  pub value_walked : (rows : List Row) (position : ℕ) (word : Text) → is_option word ≡ false → t.budget ≡ true
      → walked s.rules [] (at rows (Some (codes "budget", [])) (option (codes "budget")) position false) word ≡ at rows (Some (codes "budget", word ∷ [])) idle position false
  unfolding walked
  value_walked rows position word plain takes =
      let i = k.id_budget takes in let n = plain_none word plain in
      let n0 = n.0 in let n1 = n.1.0 in let n2 = n.1.1 in simp (i, n0, n1, n2)

  pub value_turn : (rows : List Row) (position : ℕ) (word : Text) → is_option word ≡ false → t.budget ≡ true
      → turn_fault s [] (at rows (Some (codes "budget", [])) (option (codes "budget")) position false) word ≡ []
  value_turn rows position word plain takes =
      let n = plain_none word plain in
      let n0 = n.0 in let n1 = n.1.0 in let n2 = n.1.1 in simp (n0, n1, n2)

  -- the walk at an option
  pub dashes_walked : (rows : List Row) (pending : Option (Text × List Text)) (waiting : Waiting) (position : ℕ) → IsPlain waiting
      → walked s.rules [] (at rows pending waiting position false) (codes "--") ≡ at rows pending waiting position true
  unfolding walked
  dashes_walked rows pending idle position quiet = refl
  dashes_walked rows pending positional position quiet = refl
  dashes_walked rows pending (option id) position quiet = absurd quiet

  pub dashes_turn : (rows : List Row) (pending : Option (Text × List Text)) (waiting : Waiting) (position : ℕ) → IsPlain waiting → turn_fault s [] (at rows pending waiting position false) (codes "--") ≡ []
  dashes_turn rows pending idle position quiet = refl
  dashes_turn rows pending positional position quiet = refl
  dashes_turn rows pending (option id) position quiet = absurd quiet

  pub v2_walked : (rows : List Row) (pending : Option (Text × List Text)) (waiting : Waiting) (position : ℕ) → IsPlain waiting → t.v2 ≡ true
      → walked s.rules [] (at rows pending waiting position false) (codes "--v2") ≡ at (used v2_rule [] (settled_rows s.rules pending rows)) None idle position false
  unfolding walked
  v2_walked rows pending idle position quiet takes = let i = k.long_v2 takes in simp i
  v2_walked rows pending positional position quiet takes = let i = k.long_v2 takes in simp i
  v2_walked rows pending (option id) position quiet takes = absurd quiet

  pub v2_turn : (rows : List Row) (pending : Option (Text × List Text)) (waiting : Waiting) (position : ℕ) → IsPlain waiting → t.v2 ≡ true
      → settle_fault s.rules false (record { rows = rows; pending = pending; skip = 0 }) ≡ [] → has_row (codes "v2") (settled_rows s.rules pending rows) ≡ false
      → turn_fault s [] (at rows pending waiting position false) (codes "--v2") ≡ []
  v2_turn rows pending idle position quiet takes fine new = let i = k.long_v2 takes in let a = k.again in simp (i, a, fine, new)
  v2_turn rows pending positional position quiet takes fine new = let i = k.long_v2 takes in let a = k.again in simp (i, a, fine, new)
  v2_turn rows pending (option id) position quiet takes fine new = absurd quiet

  pub frames_walked : (rows : List Row) (pending : Option (Text × List Text)) (waiting : Waiting) (position : ℕ) → IsPlain waiting → t.frames ≡ true
      → walked s.rules [] (at rows pending waiting position false) (codes "--frames") ≡ at (used frames_rule [] (settled_rows s.rules pending rows)) None idle position false
  unfolding walked
  frames_walked rows pending idle position quiet takes = let i = k.long_frames takes in simp i
  frames_walked rows pending positional position quiet takes = let i = k.long_frames takes in simp i
  frames_walked rows pending (option id) position quiet takes = absurd quiet

  pub frames_turn : (rows : List Row) (pending : Option (Text × List Text)) (waiting : Waiting) (position : ℕ) → IsPlain waiting → t.frames ≡ true
      → settle_fault s.rules false (record { rows = rows; pending = pending; skip = 0 }) ≡ [] → has_row (codes "frames") (settled_rows s.rules pending rows) ≡ false
      → turn_fault s [] (at rows pending waiting position false) (codes "--frames") ≡ []
  frames_turn rows pending idle position quiet takes fine new = let i = k.long_frames takes in let a = k.again in simp (i, a, fine, new)
  frames_turn rows pending positional position quiet takes fine new = let i = k.long_frames takes in let a = k.again in simp (i, a, fine, new)
  frames_turn rows pending (option id) position quiet takes fine new = absurd quiet

  pub budget_walked : (rows : List Row) (pending : Option (Text × List Text)) (waiting : Waiting) (position : ℕ) → IsPlain waiting → t.budget ≡ true
      → walked s.rules [] (at rows pending waiting position false) (codes "--budget")
      ≡ at (settled_rows s.rules pending rows) (Some (codes "budget", [])) (option (codes "budget")) position false
  unfolding walked
  budget_walked rows pending idle position quiet takes = let i = k.long_budget takes in simp i
  budget_walked rows pending positional position quiet takes = let i = k.long_budget takes in simp i
  budget_walked rows pending (option id) position quiet takes = absurd quiet

  pub budget_turn : (rows : List Row) (pending : Option (Text × List Text)) (waiting : Waiting) (position : ℕ) → IsPlain waiting → t.budget ≡ true
      → settle_fault s.rules false (record { rows = rows; pending = pending; skip = 0 }) ≡ []
      → turn_fault s [] (at rows pending waiting position false) (codes "--budget") ≡ []
  budget_turn rows pending idle position quiet takes fine = let i = k.long_budget takes in let a = k.again in simp (i, a, fine)
  budget_turn rows pending positional position quiet takes fine = let i = k.long_budget takes in let a = k.again in simp (i, a, fine)
  budget_turn rows pending (option id) position quiet takes fine = absurd quiet

  pub equals_walked : (rows : List Row) (pending : Option (Text × List Text)) (waiting : Waiting) (position : ℕ) (n : Text) → IsPlain waiting → t.budget ≡ true
      → walked s.rules [] (at rows pending waiting position false) (codes "--budget=" ++ n) ≡ at (used valued_rule (n ∷ []) (settled_rows s.rules pending rows)) None idle position false
  unfolding walked
  equals_walked rows pending idle position n quiet takes = let i = k.long_budget takes in simp i
  equals_walked rows pending positional position n quiet takes = let i = k.long_budget takes in simp i
  equals_walked rows pending (option id) position n quiet takes = absurd quiet

  pub equals_turn : (rows : List Row) (pending : Option (Text × List Text)) (waiting : Waiting) (position : ℕ) (n : Text) → IsPlain waiting → t.budget ≡ true
      → settle_fault s.rules false (record { rows = rows; pending = pending; skip = 0 }) ≡ [] → has_row (codes "budget") (settled_rows s.rules pending rows) ≡ false
      → turn_fault s [] (at rows pending waiting position false) (codes "--budget=" ++ n) ≡ []
  equals_turn rows pending idle position n quiet takes fine new = let i = k.long_budget takes in let a = k.again in simp (i, a, fine, new)
  equals_turn rows pending positional position n quiet takes fine new = let i = k.long_budget takes in let a = k.again in simp (i, a, fine, new)
  equals_turn rows pending (option id) position n quiet takes fine new = absurd quiet
