-- Runs on the word of tables that were read.
use Rattle.std.proofs.Common.{◌≡◌, inl, inr, ℕ, ◌≤◌, ◌^◌, Bool, true, false, List, [], ◌++◌, length, Option, Result, Ok, Err, sym, subst, ap, ◌∙◌}
use Rattle.std.specs.Prelude.{nat_le, take, IfOk}
use Rattle.std.proofs.lemmas.Bool.{leb-true}
use Rattle.std.proofs.lemmas.List.{length-map}
use Rattle.stream_type.specs.StreamType.{StreamType, height_of}
use Rattle.stream_prefix.specs.StreamPrefix.{StreamPrefix, is_maximal}
use Rattle.event_word.specs.StreamEvent.{StreamEvent}
use Rattle.event_word.specs.Word.{pre}
use Rattle.core_term.specs.CoreTerm.{CoreProgram, fits_of}
use Rattle.core_term.specs.Meaning.{mean}
use Rattle.delta_state.specs.Stands.{input_type}
use Rattle.table_feed.specs.declared.fault.FeedFault.TheVariants as fault
use Rattle.table_feed.specs.RowType.{HasShape}
use Rattle.table_feed.specs.Rows.{text_of}
use Rattle.table_feed.specs.Mixing.{AreWords, beside, mixed_word}
use Rattle.table_feed.proofs.CanonicalWords.{canons_are_words}
use Rattle.delta_end.specs.declared.end.End.{End}
use Rattle.commands.specs.Tables.{Takes, told_as, tables_fault, tables_word, whole_tables, OfTables, tables_in}
use Rattle.commands.specs.Given.{AreRead, EndsReading, EndsRunning, EndsUnwritten, GivesText}
use Rattle.commands.proofs.WholeTables.{are_prefixes, are_whole, word_means}
use Rattle.commands.proofs.WordSizes.{word_has_room}
use Rattle.commands.proofs.Causes.{wrong_tables}
use Rattle.bunch.proofs.Tests.{and_first}

-- the types of a program that fits are low
pub input_is_low : (c : CoreProgram) → fits_of c ≡ true → height_of (input_type c) ≤ 64
input_is_low c fits = leb-true (height_of (input_type c)) 64 (and_first (nat_le (height_of (input_type c)) 64) (nat_le (height_of c.main.result) 64) fits)

-- what follows of an answer
pub if_ok_too : {A E : Type 0} (r : Result A E) (P Q : A → Type 0) → ((x : A) → P x → Q x) → IfOk r P → IfOk r Q
if_ok_too (Ok x) P Q f h = f x h
if_ok_too (Err e) P Q f h = h

module _ (holds : Option (List ℕ → List ℕ)) (names : List (List ℕ)) (c : CoreProgram) (schedule : List ℕ) (budget : ℕ) where
  -- the shape that was told of the types and the number of tables, by other names
  module _ (input output : StreamType) (n : ℕ) (in_is : input ≡ input_type c) (out_is : output ≡ c.main.result) (n_is : n ≡ length names) where
    pub shape_of : HasShape input output n → HasShape (input_type c) c.main.result (length names)
    shape_of shape =
        subst (λ (k : ℕ). HasShape (input_type c) c.main.result k) n_is (subst (λ (s : StreamType). HasShape (input_type c) s n) out_is (subst (λ (s : StreamType). HasShape s output n) in_is shape))

    pub not_shape : (b : Bool) → (HasShape input output n → b ≡ true) → b ≡ false → HasShape (input_type c) c.main.result (length names) → ⊥
    not_shape b tells is shape =
        let with_n : HasShape (input_type c) c.main.result n = subst (λ (k : ℕ). HasShape (input_type c) c.main.result k) (sym n_is) shape in
        let with_output : HasShape (input_type c) output n = subst (λ (s : StreamType). HasShape (input_type c) s n) (sym out_is) with_n in
        let given : b ≡ true = tells (subst (λ (s : StreamType). HasShape s output n) (sym in_is) with_output) in
        cc

  -- and words that were read behind none
  pub read_as : (s : StreamType) (old words : List (List StreamEvent)) → s ≡ input_type c → old ≡ []
      → (later : List (List StreamEvent)) × AreRead holds names s 0 later × (words ≡ old ++ later) → AreRead holds names (input_type c) 0 words
  read_as s old words e none read =
      subst (λ (ws : List (List StreamEvent)). AreRead holds names (input_type c) 0 ws) (sym (read.2 ∙ ap (λ (xs : List (List StreamEvent)). xs ++ read.0) none))
      (subst (λ (t : StreamType). AreRead holds names t 0 read.0) e read.1)

  told_count : (files : List ℕ → List ℕ) → length names ≡ length (tables_in files names)
  told_count files = sym (length-map names (λ name. take 1048577 (files name)))

  -- the types aren't those of so many tables
  pub shape_is_told : (end : End) → (HasShape (input_type c) c.main.result (length names) → ⊥) → end ≡ told_as fault.Shape
      → OfTables holds names (λ tables. EndsUnwritten c schedule tables budget end)
  shape_is_told end other is files tells =
      inr (inr (inl (fault.Shape, (λ shape. other (subst (λ (n : ℕ). HasShape (input_type c) c.main.result n) (sym (told_count files)) shape)), is)))

  module _ (shape : HasShape (input_type c) c.main.result (length names)) where
    -- no tables were read
    pub reading_is_told : (end : End) → EndsReading holds names (tables_fault 0 (input_type c)) end → OfTables holds names (λ tables. EndsUnwritten c schedule tables budget end)
    reading_is_told end (inl memory) files tells = inl memory
    reading_is_told end (inr (inl failed)) files tells = inr (inl failed)
    reading_is_told end (inr (inr told)) files tells =
        inr (inr (inl (
          told.0,
          wrong_tables (input_type c) c.main.result (tables_in files names) (subst (λ (n : ℕ). HasShape (input_type c) c.main.result n) (told_count files) shape) told.0 (told.1 files tells),
          told.2,
        )))

    module _ (words : List (List StreamEvent)) (read : AreRead holds names (input_type c) 0 words) where
      takes : Takes (input_type c) c.main.result read.tables
      takes = record { shape = subst (λ (n : ℕ). HasShape (input_type c) c.main.result n) (sym read.count) shape; good = read.good }

      -- they are words of the parts of the input's type, and can be mixed
      pub words_are_words : AreWords (input_type c) words
      words_are_words =
          subst (AreWords (input_type c)) (sym read.are) (canons_are_words (input_type c) (whole_tables (input_type c) read.tables) (are_prefixes (input_type c) 0 read.tables takes.shape.1 read.good))

      module _ (word : List StreamEvent) (mixed : word ≡ mixed_word schedule words) where
        is_theirs : word ≡ tables_word (input_type c) schedule read.tables
        is_theirs = mixed ∙ ap (mixed_word schedule) read.are

        means : pre (input_type c) word ≡ beside (whole_tables (input_type c) read.tables)
        means = ap (pre (input_type c)) is_theirs ∙ word_means (input_type c) schedule read.tables takes.shape.1 read.good

        -- the mixed word is whole, and a run on it has room
        pub word_is_whole : is_maximal (pre (input_type c) word) ≡ true
        word_is_whole = ap is_maximal means ∙ are_whole (input_type c) 0 read.tables takes.shape.1 read.good

        pub word_is_short : fits_of c ≡ true → length word ≤ 2 ^ 42
        word_is_short fits =
            subst (λ (w : List StreamEvent). length w ≤ 2 ^ 42) (sym is_theirs)
            (word_has_room (input_type c) schedule read.tables takes.shape.0 takes.shape.1 (input_is_low c fits) read.good)

        -- what is said of it is what the program gives on the tables
        pub gives : (out : List ℕ) → out ≡ text_of (mean c (pre (input_type c) word)) → GivesText c read.tables out
        gives out is = record { takes = takes; is = is ∙ ap (λ (p : StreamPrefix). text_of (mean c p)) means }

        -- or it is stopped there
        pub stop_is_told : (end : End) → EndsRunning c budget word end → OfTables holds names (λ tables. EndsUnwritten c schedule tables budget end)
        stop_is_told end ends files tells =
            let same = read.held files tells in
            inr (inr (inr (
              subst (λ (tables : List (List ℕ)). Takes (input_type c) c.main.result tables) same takes,
              subst (λ (tables : List (List ℕ)). EndsRunning c budget (tables_word (input_type c) schedule tables) end) same (subst (λ (w : List StreamEvent). EndsRunning c budget w end) is_theirs ends),
            )))
