-- The load as a word of its type, and its frames.
use Rattle.std.proofs.Common.{◌≡◌, ℕ, zero, suc, ◌+◌, ◌*◌, ◌^◌, ◌<◌, ◌≤◌, ◌++◌, length, refl, arith}
use Rattle.std.specs.Prelude.{pos, FitsSigned}
use Rattle.std.specs.Int.{w64}
use Rattle.stream_type.specs.StreamType.{eps}
use Rattle.event_word.specs.declared.event.Step.TheVariants.{First}
use Rattle.event_word.specs.declared.event.Leaf.TheVariants.{Int, Cut, Item, End}
use Rattle.event_word.specs.StreamEvent.{leaf_of, under}
use Rattle.event_word.specs.Word.{IsWord, after_word}
use Rattle.event_frame.specs.declared.version.Version.TheVariants.{V1}
use Rattle.event_frame.specs.Frames.{header, frames, Fits, AllFit}
use Rattle.delta_load.specs.Load.{load_type, value_of, load_from}

pub is_word : (start key items : ℕ) → IsWord load_type (load_from start key items)
is_word start key zero = (tt, tt)
is_word start key (suc items) = (tt, (tt, (refl, (tt, (refl, is_word start (key + 1) items)))))

pub is_whole : (start key items : ℕ) → after_word (load_from start key items) load_type ≡ eps
is_whole start key zero = refl
is_whole start key (suc items) = is_whole start (key + 1) items

pub length-frames : (start key items : ℕ) → length (frames V1 (load_from start key items)) ≡ 30 * items + 2
length-frames start key zero = refl
length-frames start key (suc items) =
    let rest = length-frames start (key + 1) items in
    omega (arith, rest)

pub length-stream : (start key items : ℕ) → length (header V1 ++ frames V1 (load_from start key items)) ≡ 4 + 30 * items + 2
length-stream start key items =
    let frames = length-frames start key items in
    omega (arith, frames)

number_fits : (n : ℕ) → n < 2 ^ 63 → FitsSigned w64 (pos n)
number_fits n h = record { sfits = omega (arith, h) }

item_fits : Fits V1 (leaf_of Item)
item_fits = record { steps = omega arith; leaf = tt }

cut_fits : Fits V1 (leaf_of Cut)
cut_fits = record { steps = omega arith; leaf = tt }

end_fits : Fits V1 (leaf_of End)
end_fits = record { steps = omega arith; leaf = tt }

cut_first_fits : Fits V1 (under First (leaf_of Cut))
cut_first_fits = record { steps = omega arith; leaf = tt }

value_fits : (n : ℕ) → n < 2 ^ 63 → Fits V1 (under First (leaf_of (Int (pos n))))
value_fits n h = record { steps = omega arith; leaf = number_fits n h }

key_fits : (n : ℕ) → n < 2 ^ 63 → Fits V1 (under First (under First (leaf_of (Int (pos n)))))
key_fits n h = record { steps = omega arith; leaf = number_fits n h }

value_below : (start key : ℕ) → value_of start key < 2 ^ 63
value_below start key = omega arith

pub all_fit : (start key items : ℕ) → key + items ≤ 10000000 → AllFit V1 (load_from start key items)
all_fit start key zero h = (end_fits, tt)
all_fit start key (suc items) h =
    let key_below : key < 2 ^ 63 = omega (arith, h) in
    let rest : key + 1 + items ≤ 10000000 = omega (arith, h) in
    (item_fits, (key_fits key key_below, (cut_first_fits, (value_fits (value_of start key) (value_below start key), (cut_fits, all_fit start (key + 1) items rest)))))
