-- What is wrong with records, as they come one after another.
use Rattle.std.proofs.Common.{◌≡◌, ℕ, zero, suc, ◌+◌, ◌<◌, List, [], ◌∷◌, ◌++◌, length, drop, Option, Some, None, refl, sym, ap, ◌∙◌, append_assoc, arith}
use Rattle.std.specs.Prelude.{◌==◌}
use Rattle.csv.specs.Records.{field_at}
use Rattle.table_feed.specs.declared.fault.FeedFault.{FeedFault}
use Rattle.table_feed.specs.Tables.{or_else, record_fault, records_fault}

-- both lack a fault
pub first_none : (o p : Option FeedFault) → or_else o p ≡ None → o ≡ None
first_none None p e = refl
first_none (Some f) p e = absurd (cc e)

pub second_none : (o p : Option FeedFault) → or_else o p ≡ None → p ≡ None
second_none None p e = e
second_none (Some f) p e = absurd (cc e)

-- good records in front change only the number of those behind them
pub faults_behind : (columns file row : ℕ) (good later : List (List (List ℕ))) → records_fault columns file row good ≡ None
    → records_fault columns file row (good ++ later) ≡ records_fault columns file (row + length good) later
faults_behind columns file row [] later e =
    let same : row + 0 ≡ row = omega arith in
    ap (λ (n : ℕ). records_fault columns file n later) (sym same)
faults_behind columns file row (r ∷ good) later e =
    let here = first_none (record_fault columns file row r) (records_fault columns file (row + 1) good) e in
    let rest = second_none (record_fault columns file row r) (records_fault columns file (row + 1) good) e in
    let same : row + 1 + length good ≡ row + suc (length good) = omega arith in
    ap (λ o. or_else o (records_fault columns file (row + 1) (good ++ later))) here
    ∙ faults_behind columns file (row + 1) good later rest
    ∙ ap (λ (n : ℕ). records_fault columns file n later) same

-- one good record more
pub still_good : (columns file n : ℕ) (good : List (List (List ℕ))) (r : List (List ℕ)) → n ≡ length good → records_fault columns file 0 good ≡ None → record_fault columns file n r ≡ None
    → records_fault columns file 0 (good ++ r ∷ []) ≡ None
still_good columns file n good r e h k =
    let same : 0 + length good ≡ n = omega (arith, e) in
    faults_behind columns file 0 good (r ∷ []) h ∙ ap (λ (m : ℕ). records_fault columns file m (r ∷ [])) same ∙ ap (λ o. or_else o None) k

-- the first record that isn't good
pub first_fault : (columns file n : ℕ) (good : List (List (List ℕ))) (r : List (List ℕ)) (later all : List (List (List ℕ))) (f : FeedFault) → n ≡ length good → records_fault columns file 0 good ≡ None
    → record_fault columns file n r ≡ Some f → all ≡ (good ++ r ∷ []) ++ later → records_fault columns file 0 all ≡ Some f
first_fault columns file n good r later all f e h k whole =
    let same : 0 + length good ≡ n = omega (arith, e) in
    ap (records_fault columns file 0) (whole ∙ append_assoc good (r ∷ []) later)
    ∙ faults_behind columns file 0 good (r ∷ later) h
    ∙ ap (λ (m : ℕ). records_fault columns file m (r ∷ later)) same
    ∙ ap (λ o. or_else o (records_fault columns file (n + 1) later)) k

-- a field at a column is the first of those from the column on
pub at_column : (fields : List (List ℕ)) (i : ℕ) (f : List ℕ) → Some f ≡ field_at fields i → drop i fields ≡ f ∷ drop (i + 1) fields
unfolding field_at
at_column [] i f e = absurd (cc e)
at_column (g ∷ fields) zero f e = let one : 0 + 1 ≡ 1 = omega arith in cc e
at_column (g ∷ fields) (suc i) f e =
    let more : suc i + 1 ≡ suc (i + 1) = omega arith in
    at_column fields i f e ∙ ap (λ (n : ℕ). f ∷ drop n (g ∷ fields)) (sym more)

-- there is one
pub some_column : (fields : List (List ℕ)) (i : ℕ) → i < length fields → None ≡ field_at fields i → ⊥
unfolding field_at
some_column [] i l e = omega (arith, l)
some_column (g ∷ fields) zero l e = cc e
some_column (g ∷ fields) (suc i) l e = some_column fields i (omega (arith, l)) e
