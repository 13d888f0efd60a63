-- The records of a text, as a reader comes to them one after another.
use Rattle.std.proofs.Common.{◌≡◌, ℕ, suc, ◌+◌, ◌-◌, ◌<◌, ◌≤◌, Bool, true, false, List, [], ◌∷◌, ◌++◌, length, Option, Some, None, refl, sym, ap, ◌∙◌, inl, inr, subst, length-append, arith}
use Rattle.std.proofs.lemmas.List.{append-nil}
use Rattle.std.specs.Prelude.{IfSome, ◌==◌, if◌then◌else◌}
use Rattle.std.proofs.lemmas.Bool.{cases_Bool}
use Rattle.csv.specs.Machine.{Read, in_field, step, next_record, ends_at_end, is_end, fields_after, field_after}
use Rattle.csv.specs.Reading.{default_config, is_bom, records, records_from, Reached, strip_bom}
use Rattle.csv.specs.declared.parser.State.{State}
use Rattle.csv.specs.declared.parser.State.TheVariants as st
use Rattle.csv.specs.declared.parser.Action.{Action}
use Rattle.csv.specs.declared.parser.Action.TheVariants as act

-- between records the end of the text ends none
abbrev pub IsBetween : State → Type 0
IsBetween s = ends_at_end s ≡ false

-- a byte that ends a record leads between records
abbrev EndsBetween : State × Action → Type 0
EndsBetween next = is_end next.1 ≡ true → IsBetween next.0

in_field_ends : (c : ℕ) → EndsBetween (in_field default_config c)
in_field_ends c = elim (cases_Bool (c == 44)) [
  | inl comma ↦ rw comma (λ e. cc e)
  | inr no_comma ↦ elim (cases_Bool (c == 13)) [
    | inl return ↦ rw (no_comma, return) (λ e. refl)
    | inr no_return ↦ elim (cases_Bool (c == 10)) [
      | inl feed ↦ rw (no_comma, no_return, feed) (λ e. refl)
      | inr other ↦ rw (no_comma, no_return, other) (λ e. cc e)
    ]
  ]
]

start_field_ends : (c : ℕ) → EndsBetween (step default_config st.StartField c)
start_field_ends c = elim (cases_Bool (c == 34)) [
  | inl quote ↦ rw quote (λ e. cc e)
  | inr other ↦ rw other (in_field_ends c)
]

start_record_ends : (c : ℕ) → EndsBetween (step default_config st.StartRecord c)
start_record_ends c = elim (cases_Bool (c == 13)) [
  | inl return ↦ rw return (λ e. cc e)
  | inr no_return ↦ elim (cases_Bool (c == 10)) [
    | inl feed ↦ rw (no_return, feed) (λ e. cc e)
    | inr no_feed ↦ elim (cases_Bool (c == 34)) [
      | inl quote ↦ rw (no_return, no_feed, quote) (λ e. cc e)
      | inr no_quote ↦ elim (cases_Bool (c == 44)) [
        | inl comma ↦ rw (no_return, no_feed, no_quote, comma) (λ e. cc e)
        | inr other ↦ rw (no_return, no_feed, no_quote, other) (λ e. cc e)
      ]
    ]
  ]
]

after_return_ends : (c : ℕ) → EndsBetween (step default_config st.AfterCr c)
after_return_ends c = elim (cases_Bool (c == 10)) [
  | inl feed ↦ rw feed (λ e. cc e)
  | inr no_feed ↦ elim (cases_Bool (c == 13)) [
    | inl return ↦ rw (no_feed, return) (λ e. cc e)
    | inr no_return ↦ elim (cases_Bool (c == 34)) [
      | inl quote ↦ rw (no_feed, no_return, quote) (λ e. cc e)
      | inr no_quote ↦ elim (cases_Bool (c == 44)) [
        | inl comma ↦ rw (no_feed, no_return, no_quote, comma) (λ e. cc e)
        | inr other ↦ rw (no_feed, no_return, no_quote, other) (λ e. cc e)
      ]
    ]
  ]
]

step_ends : (s : State) (c : ℕ) → EndsBetween (step default_config s c)
step_ends st.StartRecord c = start_record_ends c
step_ends st.StartField c = start_field_ends c
step_ends st.InField c = in_field_ends c
step_ends st.InQuoted c = elim (cases_Bool (c == 34)) [
  | inl quote ↦ rw quote (λ e. cc e)
  | inr other ↦ rw other (λ e. cc e)
]
step_ends st.InEscape c = λ e. cc e
step_ends st.AfterQuote c = elim (cases_Bool (c == 34)) [
  | inl quote ↦ rw quote (λ e. cc e)
  | inr other ↦ rw other (in_field_ends c)
]
step_ends st.InComment c = elim (cases_Bool (c == 10)) [
  | inl feed ↦ rw feed (λ e. cc e)
  | inr other ↦ rw other (λ e. cc e)
]
step_ends st.AfterCr c = after_return_ends c

-- a record that is read of a text has not many fields, and what is behind it is shorter
pub record IsRead (fields : List (List ℕ)) (xs : List ℕ) (p : Read) : Type 0 where
  pub few : length p.0 + length p.2 ≤ length fields + 1 + length xs
  pub between : IsBetween p.1
  pub shorter : length p.2 ≤ length xs - 1

few_after : (a : Action) (fields : List (List ℕ)) (field : List ℕ) → length (fields_after a fields field) ≤ length fields + 1
few_after act.EndField fields field = omega (arith, length-append fields (field ∷ []))
few_after act.Skip fields field = omega arith
few_after act.Copy fields field = omega arith
few_after act.EndRecord fields field = omega (arith, length-append fields (field ∷ []))

read_more : (fields later : List (List ℕ)) (c : ℕ) (xs : List ℕ) (o : Option Read) → length later ≤ length fields + 1
    → IfSome o (λ p. IsRead later xs p) → IfSome o (λ p. IsRead fields (c ∷ xs) p)
read_more fields later c xs None l h = tt
read_more fields later c xs (Some p) l h = record { few = omega (arith, l, h.few); between = h.between; shorter = omega (arith, h.shorter) }

pub next_is_read : (s : State) (fields : List (List ℕ)) (field xs : List ℕ) → IfSome (next_record default_config s fields field xs) (λ p. IsRead fields xs p)
unfolding next_record
next_is_read s fields field [] = at_end (ends_at_end s)
  where
    at_end : (b : Bool) → IfSome (if b then Some (fields ++ (field ∷ []), st.StartRecord, []) else None) (λ p. IsRead fields [] p)
    at_end true = record { few = omega (arith, length-append fields (field ∷ [])); between = refl; shorter = omega arith }
    at_end false = tt
next_is_read s fields field (c ∷ xs) =
    by_end (is_end (step default_config s c).1) refl (next_is_read (step default_config s c).0 (fields_after (step default_config s c).1 fields field) (field_after (step default_config s c).1 c field) xs)
  where
    now : Read
    now = (fields_after (step default_config s c).1 fields field, (step default_config s c).0, xs)

    by_end : (b : Bool) → is_end (step default_config s c).1 ≡ b
        → IfSome (next_record default_config (step default_config s c).0 (fields_after (step default_config s c).1 fields field) (field_after (step default_config s c).1 c field) xs) (λ p. IsRead (fields_after (step default_config s c).1 fields field) xs p)
        → IfSome (if b then Some (fields_after (step default_config s c).1 fields field, (step default_config s c).0, xs) else next_record default_config (step default_config s c).0 (fields_after (step default_config s c).1 fields field) (field_after (step default_config s c).1 c field) xs) (λ p. IsRead fields (c ∷ xs) p)
    by_end true e h = record { few = omega (arith, few_after (step default_config s c).1 fields field); between = step_ends s c e; shorter = omega arith }
    by_end false e h = read_more fields (fields_after (step default_config s c).1 fields field) c xs _ (few_after (step default_config s c).1 fields field) h

-- of no text between records there is none
no_text_left : (s : State) → IsBetween s → next_record default_config s [] [] [] ≡ None
unfolding next_record
no_text_left s e = rw e refl

-- a record is read of some text
pub read_of_some : (s : State) (xs : List ℕ) (p : Read) → IsBetween s → next_record default_config s [] [] xs ≡ Some p → 0 < length xs
read_of_some s [] p b e = absurd (cc (sym e ∙ no_text_left s b))
read_of_some s (c ∷ xs) p b e = omega arith

if_some_at : {A : Type 0} (o : Option A) (P : A → Type 0) (a : A) → o ≡ Some a → IfSome o P → P a
if_some_at None P a e h = absurd (cc e)
if_some_at (Some b) P a e h = subst P (some_same e) h
  where
    some_same : Some b ≡ Some a → b ≡ a
    some_same e = cc e

-- what was read so far is no longer than the text that it was read of
pub record Came (rows : List (List (List ℕ))) (xs : List ℕ) (s : State) (ys : List ℕ) : Type 0 where
  pub between : IsBetween s
  pub len : length rows + length ys ≤ length xs

pub reached_came : (s : State) (xs : List ℕ) (rows : List (List (List ℕ))) (s2 : State) (ys : List ℕ) → IsBetween s → Reached default_config s xs rows s2 ys → Came rows xs s2 ys
unfolding Reached
reached_came s xs [] s2 ys b h = record { between = ap ends_at_end (sym h.0) ∙ b; len = omega (arith, ap length h.1) }
reached_came s xs (r ∷ rows) s2 ys b h =
    let is = if_some_at (next_record default_config s [] [] xs) (λ p. IsRead [] xs p) h.0 h.1 (next_is_read s [] [] xs) in
    let some = read_of_some s xs h.0 b h.1 in
    let later = reached_came h.0.1 h.0.2 rows s2 ys is.between h.3 in
    record { between = later.between; len = omega (arith, is.shorter, some, later.len) }

-- the records of a text begin with those that were reached
pub reached_records : (s : State) (xs : List ℕ) (rows : List (List (List ℕ))) (s2 : State) (ys : List ℕ) (n : ℕ) → Reached default_config s xs rows s2 ys
    → records_from default_config (length rows + n) s xs ≡ rows ++ records_from default_config n s2 ys
unfolding Reached records_from
reached_records s xs [] s2 ys n h =
    let same : 0 + n ≡ n = omega arith in
    rw (same, h.0, h.1) refl
reached_records s xs (r ∷ rows) s2 ys n h =
    let more : suc (length rows) + n ≡ suc (length rows + n) = omega arith in
    rw (more, h.1, h.2) (ap (λ (rs : List (List (List ℕ))). h.0.0 ∷ rs) (reached_records h.0.1 h.0.2 rows s2 ys n h.3))

-- where nothing is left to read these are all of them
pub all_records : (xs : List ℕ) (rows : List (List (List ℕ))) (s2 : State) (ys : List ℕ) → Reached default_config st.StartRecord xs rows s2 ys → next_record default_config s2 [] [] ys ≡ None
    → records default_config xs ≡ rows
unfolding records_from
all_records xs rows s2 ys h none =
    let came = reached_came st.StartRecord xs rows s2 ys refl h in
    let n = length xs - length rows in
    let whole : length xs + 1 ≡ length rows + suc n = omega (arith, came.len) in
    rw whole (reached_records st.StartRecord xs rows s2 ys (suc n) h ∙ rw (none, append-nil) refl)

-- the records of a text begin with those that were reached
pub records_begin : (xs : List ℕ) (rows : List (List (List ℕ))) (s2 : State) (ys : List ℕ) → Reached default_config st.StartRecord xs rows s2 ys
    → (later : List (List (List ℕ))) × (records default_config xs ≡ rows ++ later)
records_begin xs rows s2 ys h =
    let came = reached_came st.StartRecord xs rows s2 ys refl h in
    let n = length xs - length rows in
    let whole : length xs + 1 ≡ length rows + suc n = omega (arith, came.len) in
    (records_from default_config (suc n) s2 ys, ap (λ (k : ℕ). records_from default_config k st.StartRecord xs) whole ∙ reached_records st.StartRecord xs rows s2 ys (suc n) h)

-- the record that was read last has few fields
pub last_is_few : (s : State) (xs : List ℕ) (came : List (List (List ℕ))) (f : List (List ℕ)) (s2 : State) (ys : List ℕ) → IsBetween s → Reached default_config s xs (came ++ f ∷ []) s2 ys
    → length f ≤ length xs + 1
unfolding Reached
last_is_few s xs [] f s2 ys b h =
    let is = if_some_at (next_record default_config s [] [] xs) (λ p. IsRead [] xs p) h.0 h.1 (next_is_read s [] [] xs) in
    omega (arith, is.few, ap length h.2)
last_is_few s xs (r ∷ came) f s2 ys b h =
    let is = if_some_at (next_record default_config s [] [] xs) (λ p. IsRead [] xs p) h.0 h.1 (next_is_read s [] [] xs) in
    let later = last_is_few h.0.1 h.0.2 came f s2 ys is.between h.3 in
    omega (arith, is.shorter, later)

-- without a byte order mark a text is no longer
pub length-strip_bom : (xs : List ℕ) → length (strip_bom xs) ≤ length xs
unfolding strip_bom
length-strip_bom [] = omega arith
length-strip_bom (a ∷ []) = omega arith
length-strip_bom (a ∷ b ∷ []) = omega arith
length-strip_bom (a ∷ b ∷ c ∷ xs) = by_mark (is_bom a b c)
  where
    by_mark : (m : Bool) → length (if m then xs else a ∷ b ∷ c ∷ xs) ≤ length (a ∷ b ∷ c ∷ xs)
    by_mark true = omega arith
    by_mark false = omega arith
