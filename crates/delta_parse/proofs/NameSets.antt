-- The names in a set, as texts.
use Rattle.std.proofs.Common.{◌≡◌, ◌∙◌, ℕ, ◌+◌, ◌≤◌, arith, Bool, true, false, not, ◌||◌, List, [], ◌∷◌, ◌++◌, refl, sym, ap, length, map, cond}
use Rattle.std.proofs.lemmas.List.{map-append, length-map}
use Rattle.std.specs.List.{list_any, position_or_len, prefix_len}
use Rattle.std.specs.Str.{bytes_eq}
use Rattle.std.specs.Borrow.{Bor}
use Rattle.indexmap.specs.IndexSet.{insert_key}
use Rattle.delta_parse.specs.Plain.{with_text}

abbrev Key : Type 0
Key = Bor (List ℕ)

abbrev same_text : Key → Key → Bool
same_text a b = bytes_eq a.now b.now

pub same_test : (keys : List Key) (v : Key) → list_any (same_text v) keys ≡ list_any (bytes_eq v.now) (map (λ k. k.now) keys)
same_test [] v = refl
same_test (k ∷ keys) v = ap (λ b. bytes_eq v.now k.now || b) (same_test keys v)

pub same_place : (keys : List Key) (v : Key) → position_or_len (same_text v) keys ≡ position_or_len (bytes_eq v.now) (map (λ k. k.now) keys)
same_place [] v = refl
same_place (k ∷ keys) v = ap (λ n. cond (not (bytes_eq v.now k.now)) (1 + n) 0) (same_place keys v)

pub added_texts : (keys : List Key) (v : Key) → map (λ k. k.now) (insert_key same_text keys v) ≡ with_text (map (λ k. k.now) keys) v.now
added_texts keys v = go (list_any (same_text v) keys) refl
  where
    go : (b : Bool) → list_any (same_text v) keys ≡ b → map (λ k. k.now) (insert_key same_text keys v) ≡ with_text (map (λ k. k.now) keys) v.now
    go true e = (let h : list_any (bytes_eq v.now) (map (λ k. k.now) keys) ≡ true = sym (same_test keys v) ∙ e in rw (e, h) refl)
    go false e = (let h : list_any (bytes_eq v.now) (map (λ k. k.now) keys) ≡ false = sym (same_test keys v) ∙ e in rw (e, h) (map-append (λ k. k.now) keys (v ∷ [])))

-- a name that is new goes last
pub grown : (keys new : List Key) (v : Key) (added : Bool) → new ≡ insert_key same_text keys v → added ≡ not (list_any (same_text v) keys) → added ≡ true → map (λ k. k.now) new ≡ map (λ k. k.now) keys ++ (v.now ∷ [])
grown keys new v added e a t = go (list_any (same_text v) keys) refl
  where
    go : (b : Bool) → list_any (same_text v) keys ≡ b → map (λ k. k.now) new ≡ map (λ k. k.now) keys ++ (v.now ∷ [])
    go true h = cc
    go false h = (let w : new ≡ keys ++ (v ∷ []) = e ∙ (rw h refl) in ap (map (λ k. k.now)) w ∙ map-append (λ k. k.now) keys (v ∷ []))

prefix_within : {A : Type 0} (p : A → Bool) (xs : List A) → prefix_len p xs ≤ length xs
prefix_within p [] = omega arith
prefix_within p (x ∷ xs) = go (p x) (prefix_within p xs)
  where
    go : (b : Bool) → prefix_len p xs ≤ length xs → cond b (1 + prefix_len p xs) 0 ≤ length (x ∷ xs)
    go true h = omega arith
    go false h = omega arith

-- a place among names, or their count, is at most their count
pub place_within : (keys : List Key) (v : Key) → position_or_len (same_text v) keys ≤ length (map (λ k. k.now) keys)
place_within keys v = (let n : length (map (λ k. k.now) keys) ≡ length keys = length-map keys (λ k. k.now) in let h = prefix_within (λ k. not (same_text v k)) keys in omega arith)
