-- Tables that are read one after another.
use Rattle.std.proofs.Common.{◌≡◌, inl, inr, ℕ, ◌+◌, ◌<◌, Bool, false, List, [], ◌∷◌, ◌++◌, length, map, Option, Some, None, Result, Ok, Err, sym, ap, ap₂, ◌∙◌, append_assoc, arith}
use Rattle.std.specs.Prelude.{◌==◌, OnOk, IfErr}
use Rattle.stream_type.specs.StreamType.{StreamType}
use Rattle.event_word.specs.StreamEvent.{StreamEvent}
use Rattle.event_word.specs.Canon.{canon}
use Rattle.core_term.specs.Parts.{par_left, par_right}
use Rattle.table_feed.specs.declared.fault.FeedFault.{FeedFault}
use Rattle.table_feed.specs.Tables.{or_else}
use Rattle.delta_end.specs.declared.end.End.{End}
use Rattle.commands.specs.Tables.{tables_fault, tables_in, whole_tables}
use Rattle.commands.specs.Given.{AreHeld, AreRead, EndsReading}

-- what follows of an answer
pub on_ok_too : (r : Result (Unit {0}) End) (P Q : Type 0) → (P → Q) → OnOk r P → OnOk r Q
on_ok_too (Ok x) P Q f h = f h
on_ok_too (Err e) P Q f h = h

pub if_err_too : {T : Type 0} (r : Result T End) (P Q : End → Type 0) → ((end : End) → P end → Q end) → IfErr r P → IfErr r Q
if_err_too (Ok x) P Q f h = h
if_err_too (Err end) P Q f h = f end h

-- something is left where the list isn't empty
pub some_left : {A : Type 0} (f : A → List ℕ) (xs : List A) (b : Bool) → b ≡ (length xs == 0) → b ≡ false → 0 < length (map f xs)
some_left f [] b e h = cc
some_left f (x ∷ xs) b e h = omega arith

module _ (holds : Option (List ℕ → List ℕ)) (name : List ℕ) (s : StreamType) (file : ℕ) where
  -- a table and those behind it
  joined : (rest : List (List ℕ)) (words later : List (List StreamEvent)) (one more : List (List ℕ)) → length one ≡ 1 → length more ≡ length rest → 0 < length rest
      → AreHeld holds (name ∷ []) one → AreHeld holds rest more → tables_fault file (par_left s) one ≡ None → tables_fault (file + 1) (par_right s) more ≡ None
      → words ≡ map canon (whole_tables (par_left s) one) → later ≡ map canon (whole_tables (par_right s) more) → AreRead holds (name ∷ rest) s file (words ++ later)
  joined rest words later [] more single count some held held_rest good good_rest are are_rest = absurd (omega (arith, single))
  joined rest words later (bytes ∷ next ∷ one) more single count some held held_rest good good_rest are are_rest = absurd (omega (arith, single))
  joined rest words later (bytes ∷ []) [] single count some held held_rest good good_rest are are_rest = absurd (omega (arith, count, some))
  joined rest words later (bytes ∷ []) (next ∷ more) single count some held held_rest good good_rest are are_rest = record {
    tables = bytes ∷ next ∷ more;
    held = λ files tells. ap₂ (λ (xs ys : List (List ℕ)). xs ++ ys) (held files tells) (held_rest files tells);
    count = omega (arith, count);
    good = ap₂ or_else good good_rest;
    are = ap₂ (λ (xs ys : List (List StreamEvent)). xs ++ ys) are are_rest;
  }

  pub reads_more : (rest : List (List ℕ)) (words later : List (List StreamEvent)) → 0 < length rest → AreRead holds (name ∷ []) (par_left s) file words
      → AreRead holds rest (par_right s) (file + 1) later → AreRead holds (name ∷ rest) s file (words ++ later)
  reads_more rest words later some first more =
      joined rest words later first.tables more.tables first.count more.count some first.held more.held first.good more.good first.are more.are

  -- behind others
  pub reads_behind : (rest : List (List ℕ)) (old mid new : List (List StreamEvent)) → 0 < length rest
      → (later : List (List StreamEvent)) × AreRead holds (name ∷ []) (par_left s) file later × (mid ≡ old ++ later)
      → (later : List (List StreamEvent)) × AreRead holds rest (par_right s) (file + 1) later × (new ≡ mid ++ later)
      → (later : List (List StreamEvent)) × AreRead holds (name ∷ rest) s file later × (new ≡ old ++ later)
  reads_behind rest old mid new some first more =
      (first.0 ++ more.0, reads_more rest first.0 more.0 some first.1 more.1, more.2 ∙ ap (λ (xs : List (List StreamEvent)). xs ++ more.0) first.2 ∙ append_assoc old first.0 more.0)

  -- what is wrong with the first is told
  pub first_is_told : (next : List ℕ) (more : List (List ℕ)) (end : End) → EndsReading holds (name ∷ []) (tables_fault file (par_left s)) end
      → EndsReading holds (name ∷ next ∷ more) (tables_fault file s) end
  first_is_told next more end (inl memory) = inl memory
  first_is_told next more end (inr (inl failed)) = inr (inl failed)
  first_is_told next more end (inr (inr told)) = inr (inr (
    told.0,
    λ files tells. ap (λ (o : Option FeedFault). or_else o (tables_fault (file + 1) (par_right s) (tables_in files (next ∷ more)))) (told.1 files tells),
    told.2,
  ))

  -- and where nothing is, what is wrong with a later one
  good_first : (words : List (List StreamEvent)) → AreRead holds (name ∷ []) (par_left s) file words → (files : List ℕ → List ℕ) → holds ≡ Some files
      → tables_fault file (par_left s) (tables_in files (name ∷ [])) ≡ None
  good_first words first files tells = ap (tables_fault file (par_left s)) (sym (first.held files tells)) ∙ first.good

  pub later_is_told : (words : List (List StreamEvent)) (next : List ℕ) (more : List (List ℕ)) (end : End) → AreRead holds (name ∷ []) (par_left s) file words
      → EndsReading holds (next ∷ more) (tables_fault (file + 1) (par_right s)) end → EndsReading holds (name ∷ next ∷ more) (tables_fault file s) end
  later_is_told words next more end first (inl memory) = inl memory
  later_is_told words next more end first (inr (inl failed)) = inr (inl failed)
  later_is_told words next more end first (inr (inr told)) = inr (inr (
    told.0,
    λ files tells. ap (λ (o : Option FeedFault). or_else o (tables_fault (file + 1) (par_right s) (tables_in files (next ∷ more)))) (good_first words first files tells) ∙ told.1 files tells,
    told.2,
  ))

  -- the same for any files behind it, of which there is one
  pub first_wrong : (rest : List (List ℕ)) (end : End) → 0 < length rest → EndsReading holds (name ∷ []) (tables_fault file (par_left s)) end → EndsReading holds (name ∷ rest) (tables_fault file s) end
  first_wrong [] end some h = absurd (omega (arith, some))
  first_wrong (next ∷ more) end some h = first_is_told next more end h

  pub later_wrong : (words : List (List StreamEvent)) (rest : List (List ℕ)) (end : End) → 0 < length rest → AreRead holds (name ∷ []) (par_left s) file words
      → EndsReading holds rest (tables_fault (file + 1) (par_right s)) end → EndsReading holds (name ∷ rest) (tables_fault file s) end
  later_wrong words [] end some first h = absurd (omega (arith, some))
  later_wrong words (next ∷ more) end some first h = later_is_told words next more end first h
