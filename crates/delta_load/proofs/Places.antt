-- The event at a place of the load.
use Rattle.std.proofs.Common.{◌≡◌, ℕ, zero, suc, ◌+◌, ◌*◌, ◌<◌, ◌≤◌, List, ◌++◌, length, Some, None, refl, ap, ◌∙◌, arith}
use Rattle.std.specs.Prelude.{slice_get}
use Rattle.std.proofs.lemmas.Option.{slice_get_past}
use Rattle.event_word.specs.declared.event.Leaf.TheVariants.{End}
use Rattle.event_word.specs.StreamEvent.{StreamEvent, leaf_of}
use Rattle.delta_load.specs.Load.{value_of, item_events, load_from}

-- an item has five events
in_item : (key value place : ℕ) (word : List StreamEvent) → place < 5 → slice_get (item_events key value ++ word) place ≡ slice_get (item_events key value) place
in_item key value zero word h = refl
in_item key value (suc zero) word h = refl
in_item key value (suc (suc zero)) word h = refl
in_item key value (suc (suc (suc zero))) word h = refl
in_item key value (suc (suc (suc (suc zero)))) word h = refl
in_item key value (suc (suc (suc (suc (suc place))))) word h = absurd (omega (arith, h))

five_on : (n place : ℕ) → 5 * suc n + place ≡ suc (suc (suc (suc (suc (5 * n + place)))))
five_on n place = omega arith

-- an event of an item
pub at_item : (start key items n place : ℕ) → n < items → place < 5
    → slice_get (load_from start key items) (5 * n + place) ≡ slice_get (item_events (key + n) (value_of start (key + n))) place
at_item start key zero n place h five = absurd (omega (arith, h))
at_item start key (suc items) zero place h five =
    let none : 5 * 0 + place ≡ place = omega arith in
    let same : key ≡ key + 0 = omega arith in
    ap (slice_get (load_from start key (suc items))) none ∙ in_item key (value_of start key) place (load_from start (key + 1) items) five
    ∙ ap (λ (k : ℕ). slice_get (item_events k (value_of start k)) place) same
at_item start key (suc items) (suc n) place h five =
    let fewer : n < items = omega (arith, h) in
    let same : key + 1 + n ≡ key + suc n = omega arith in
    ap (slice_get (load_from start key (suc items))) (five_on n place) ∙ at_item start (key + 1) items n place fewer five
    ∙ ap (λ (k : ℕ). slice_get (item_events k (value_of start k)) place) same

-- the last event is the end
pub at_end : (start key items : ℕ) → slice_get (load_from start key items) (5 * items) ≡ Some (leaf_of End)
at_end start key zero = refl
at_end start key (suc items) =
    let on : 5 * suc items ≡ suc (suc (suc (suc (suc (5 * items))))) = omega arith in
    ap (slice_get (load_from start key (suc items))) on ∙ at_end start (key + 1) items

-- the load has five events an item, and the end
pub length-load : (start key items : ℕ) → length (load_from start key items) ≡ 5 * items + 1
length-load start key zero = refl
length-load start key (suc items) =
    let h = length-load start (key + 1) items in
    omega (arith, h)

-- there is none behind it
pub past_end : (start key items i : ℕ) → 5 * items < i → slice_get (load_from start key items) i ≡ None
past_end start key items i h =
    let len = length-load start key items in
    let behind : length (load_from start key items) ≤ i = omega (arith, h, len) in
    slice_get_past (load_from start key items) i behind
