-- What the load's function puts out event by event.
use Rattle.std.proofs.Common.{◌≡◌, ℕ, zero, suc, ◌+◌, ◌<◌, Bool, true, false, nat_lt, List, [], ◌∷◌, ◌++◌, if◌then◌else◌, refl, ap, sym, ◌∙◌, arith}
use Rattle.std.specs.Prelude.{pos}
use Rattle.stream_prefix.specs.StreamPrefix.{StreamPrefix, int_full, star_emp, star_first, star_rest}
use Rattle.stream_prefix.specs.Increment.{increment}
use Rattle.event_word.specs.StreamEvent.{StreamEvent}
use Rattle.event_word.specs.Word.{pre}
use Rattle.event_word.specs.Canon.{canon}
use Rattle.core_term.specs.Run.{Run}
use Rattle.delta_load.specs.Load.{load_type, value_of, item_events, load_from}
use Rattle.delta_load.specs.LoadOutput.{key_events, kept_from}
use Rattle.delta_load.proofs.Runs.{over_run, pair_full, nothing_out, end_out, item_out, key_out, cut_out, pair_before, pair_kept, pair_left}

-- the canonical words of what is said to each event of a word, where G tells what was said to each front of it
abbrev pub along : (List StreamEvent → StreamPrefix) → List StreamEvent → List StreamEvent
along G [] = []
along G (x ∷ word) = canon (increment (G []) (G (x ∷ []))) ++ along (λ v. G (x ∷ v)) word

pub along_same : (G H : List StreamEvent → StreamPrefix) → ((v : List StreamEvent) → G v ≡ H v) → (word : List StreamEvent) → along G word ≡ along H word
along_same G H same [] = refl
along_same G H same (x ∷ word) =
    (λ i. canon (increment (same [] i) (same (x ∷ []) i)) ++ along (λ v. G (x ∷ v)) word)
    ∙ ap (λ (w : List StreamEvent). canon (increment (H []) (H (x ∷ []))) ++ w) (along_same (λ v. G (x ∷ v)) (λ v. H (x ∷ v)) (λ v. same (x ∷ v)) word)

-- what was said before it makes no difference
along_rest : (p : StreamPrefix) (G : List StreamEvent → StreamPrefix) (word : List StreamEvent) → along (λ v. star_rest p (G v)) word ≡ along G word
along_rest p G [] = refl
along_rest p G (x ∷ word) = ap (λ (w : List StreamEvent). canon (increment (G []) (G (x ∷ []))) ++ w) (along_rest p (λ v. G (x ∷ v)) word)

-- what the function says to each front of a word
abbrev pub over_said : ℕ → List StreamEvent → StreamPrefix
over_said k word = (over_run k (pre load_type word)).out

-- behind a pair
along_pair : (k a n : ℕ) (word : List StreamEvent) (b : Bool) → nat_lt 500 n ≡ b → along (λ v. over_said (suc k) (item_events a n ++ v)) word ≡ along (over_said k) word
along_pair k a n word true h =
    along_same (λ v. over_said (suc k) (item_events a n ++ v)) (λ v. star_rest (int_full (pos a)) (over_said k v)) (λ v. pair_kept k a n (pre load_type v) h) word
    ∙ along_rest (int_full (pos a)) (over_said k) word
along_pair k a n word false h = along_same (λ v. over_said (suc k) (item_events a n ++ v)) (over_said k) (λ v. pair_left k a n (pre load_type v) h) word

-- a pair whose mark hasn't come: its key, or nothing
value_out : (k a n : ℕ) (b : Bool) → nat_lt 500 n ≡ b → (over_run (suc k) (star_first (pair_full a n))).out ≡ (if b then star_rest (int_full (pos a)) star_emp else star_emp)
value_out k a n true h = ap (λ (r : Run). r.out) (pair_before k a n) ∙ pair_kept k a n star_emp h ∙ ap (star_rest (int_full (pos a))) (nothing_out k)
value_out k a n false h = ap (λ (r : Run). r.out) (pair_before k a n) ∙ pair_left k a n star_emp h ∙ nothing_out k

value_said : (a : ℕ) (b : Bool) → canon (increment star_emp (if b then star_rest (int_full (pos a)) star_emp else star_emp)) ≡ (if b then key_events a else [])
value_said a true = refl
value_said a false = refl

mark_said : (a : ℕ) (b : Bool) → canon (increment (if b then star_rest (int_full (pos a)) star_emp else star_emp) (if b then star_rest (int_full (pos a)) star_emp else star_emp)) ≡ []
mark_said a true = refl
mark_said a false = refl

-- said to the five events of a pair: nothing, but its key once its value has come
along_events : (k a n : ℕ) (word : List StreamEvent) (b : Bool) → nat_lt 500 n ≡ b
    → along (over_said (suc k)) (item_events a n ++ word) ≡ (if b then key_events a else []) ++ along (λ v. over_said (suc k) (item_events a n ++ v)) word
along_events k a n word b h =
    let value = value_out k a n b h in
    let whole = ap (λ (r : Run). r.out) (sym (pair_before k a n)) ∙ value in
    λ i. canon (increment (nothing_out (suc k) i) (item_out k i))
    ++ (canon (increment (item_out k i) (key_out k a i))
    ++ (canon (increment (key_out k a i) (cut_out k a i))
    ++ (((λ j. canon (increment (cut_out k a j) (value j))) ∙ value_said a b) i
    ++ (((λ j. canon (increment (value j) (whole j))) ∙ mark_said a b) i
    ++ along (λ v. over_said (suc k) (item_events a n ++ v)) word))))

pub along_load : (k start key items : ℕ) → items < k → along (over_said k) (load_from start key items) ≡ kept_from start key items
along_load zero start key items h = absurd (omega (arith, h))
along_load (suc k) start key zero h = λ i. canon (increment (nothing_out (suc k) i) (end_out k i)) ++ []
along_load (suc k) start key (suc items) h =
    let fewer : items < k = omega (arith, h) in
    along_events k key (value_of start key) (load_from start (key + 1) items) (nat_lt 500 (value_of start key)) refl
    ∙ ap (λ (w : List StreamEvent). (if nat_lt 500 (value_of start key) then key_events key else []) ++ w)
    (along_pair k key (value_of start key) (load_from start (key + 1) items) (nat_lt 500 (value_of start key)) refl ∙ along_load k start (key + 1) items fewer)
