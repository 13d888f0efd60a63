-- What is counted of a word, and of a word with more behind it.
use Rattle.std.proofs.Common.{◌≡◌, ◌+◌, ◌^◌, ◌≤◌, List, [], ◌∷◌, ◌++◌, length, Option, None, refl, ap, sym, ◌∙◌, arith, length-append}
use Rattle.std.specs.Prelude.{ℤ}
use Rattle.event_word.specs.StreamEvent.{StreamEvent}
use Rattle.event_frame.specs.declared.version.Version.TheVariants.{V1}
use Rattle.event_frame.specs.Frames.{frame, frames}
use Rattle.delta_load.specs.declared.totals.Totals.{Totals}
use Rattle.delta_load.specs.Counting.{number_in, last_number, stream_bytes, totals_of, IsLong}

pub last-append : (found : Option ℤ) (word : List StreamEvent) (x : StreamEvent) → last_number found (word ++ x ∷ []) ≡ number_in (last_number found word) x.leaf
last-append found [] x = refl
last-append found (y ∷ word) x = last-append (number_in found y.leaf) word x

pub length-frames : (v w : List StreamEvent) → length (frames V1 (v ++ w)) ≡ length (frames V1 v) + length (frames V1 w)
length-frames [] w = omega arith
length-frames (y ∷ v) w =
    let whole = length-append (frame V1 y) (frames V1 (v ++ w)) in
    let front = length-append (frame V1 y) (frames V1 v) in
    let rest = length-frames v w in
    omega (arith, whole, front, rest)

length-frame : (x : StreamEvent) → length (frames V1 (x ∷ [])) ≡ length (frame V1 x)
length-frame x = length-append (frame V1 x) [] ∙ omega arith

-- a frame has a byte at least
few_events : (word : List StreamEvent) → length word ≤ length (frames V1 word)
few_events [] = omega arith
few_events (x ∷ word) =
    let whole = length-append (frame V1 x) (frames V1 word) in
    let rest = few_events word in
    omega (arith, whole, rest)

-- a word with one event more
pub totals-append : (t s : Totals) (word : List StreamEvent) (x : StreamEvent) → s ≡ totals_of word → t.events ≡ s.events + 1 → t.bytes ≡ s.bytes + length (frame V1 x) → t.last ≡ number_in s.last x.leaf → t ≡ totals_of (word ++ x ∷ [])
totals-append t s word x is events bytes last =
    let count : t.events ≡ length (word ++ x ∷ []) =
    (let old = ap (λ (u : Totals). u.events) is in let more = length-append word (x ∷ []) in omega (arith, old, more, events)) in
    let size : t.bytes ≡ stream_bytes (word ++ x ∷ []) =
    (let old = ap (λ (u : Totals). u.bytes) is in let more = length-frames word (x ∷ []) in let one = length-frame x in omega (arith, old, more, one, bytes)) in
    let found : t.last ≡ last_number None (word ++ x ∷ []) = last ∙ ap (λ (u : Totals). number_in u.last x.leaf) is ∙ sym (last-append None word x) in
    λ i. record { events = count i; bytes = size i; last = found i }

-- it is long where its events, or its bytes, are too many
pub long_by_events : (s : Totals) (word : List StreamEvent) (x : StreamEvent) → s ≡ totals_of word → 2 ^ 64 ≤ s.events + 1 → IsLong (word ++ x ∷ [])
long_by_events s word x is many =
    let old = ap (λ (u : Totals). u.events) is in
    let more = length-append word (x ∷ []) in
    let few = few_events (word ++ x ∷ []) in
    omega (arith, old, more, few, many)

pub long_by_bytes : (s : Totals) (word : List StreamEvent) (x : StreamEvent) → s ≡ totals_of word → 2 ^ 64 ≤ s.bytes + length (frame V1 x) → IsLong (word ++ x ∷ [])
long_by_bytes s word x is many =
    let old = ap (λ (u : Totals). u.bytes) is in
    let more = length-frames word (x ∷ []) in
    let one = length-frame x in
    omega (arith, old, more, one, many)

-- a word with a long front is long
pub long-append : (v w : List StreamEvent) → IsLong v → IsLong (v ++ w)
long-append v w long =
    let more = length-frames v w in
    omega (arith, more, long)
