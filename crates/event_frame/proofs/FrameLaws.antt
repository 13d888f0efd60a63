-- Frames are read as their events.
use Rattle.std.proofs.Common.{◌≡◌, ◌≢◌, ℕ, suc, zero, ◌+◌, ◌*◌, ◌≤◌, List, [], ◌∷◌, ◌++◌, length, Some, None, if◌then◌else◌, refl, ap, ◌∙◌, sym, arith, append_assoc, append-nil, length-append}
use Rattle.std.proofs.lemmas.Bool.{le-leb}
use Rattle.std.proofs.lemmas.List.{append_cancel_left}
use Rattle.std.proofs.lemmas.Nat.{from_be_bytes-to_be_bytes_8}
use Rattle.std.proofs.lemmas.Int.{to_z-of_z}
use Rattle.std.proofs.Math.Facts.{Fits-of_z}
use Rattle.std.specs.Int.{w64, from_be_bytes, to_be_bytes, cast_signed, cast_unsigned}
use Rattle.event_word.specs.declared.event.Step.{Step}
use Rattle.event_word.specs.declared.event.Leaf.{Leaf}
use Rattle.event_word.specs.declared.event.Leaf.TheVariants.{One, Int, Inl, Inr, Cut, Item, End}
use Rattle.event_word.specs.StreamEvent.{StreamEvent, FitsLeaf}
use Rattle.event_frame.specs.declared.version.Version.{Version}
use Rattle.event_frame.specs.declared.version.Version.TheVariants.{V1, V2}
use Rattle.event_frame.specs.declared.fault.FrameFault.TheVariants.{LongPath, BadStep}
use Rattle.event_frame.specs.Frames.{step_code, packed, path_bytes, leaf_bytes, frame, frames, header, longest, Fits, AllFit}
use Rattle.event_frame.specs.Reading.{Between, AtSteps, AtLeaf, AtNumber, Taken, parts, steps_in, before, event, at_path, after_steps, Goes, Faults, Bad, Whole, go_on, Reading, stop, add, reading_from, reading, whole}
use Rattle.event_frame.proofs.Codes.{first_then-code, code_below, parts_of}

-- a byte that holds steps
pub reading_from-steps : (v : Version) (more : ℕ) (path : List Step) (at byte : ℕ) (bytes : List ℕ) (taken : Taken)
    → steps_in (suc more) (parts v byte) ≡ Some taken
    → reading_from (AtSteps v more path) at (byte ∷ bytes) ≡ reading_from (at_path v taken.left (path ++ taken.steps)) (at + 1) bytes
reading_from-steps v more path at byte bytes taken e =
    ap (λ o. go_on (after_steps v path o (BadStep at byte)) (λ next. reading_from next (at + 1) bytes)) e

-- a byte that holds other things
pub reading_from-no_steps : (v : Version) (more : ℕ) (path : List Step) (at byte : ℕ) (bytes : List ℕ)
    → steps_in (suc more) (parts v byte) ≡ None
    → reading_from (AtSteps v more path) at (byte ∷ bytes) ≡ stop (Bad (BadStep at byte))
reading_from-no_steps v more path at byte bytes e =
    ap (λ o. go_on (after_steps v path o (BadStep at byte)) (λ next. reading_from next (at + 1) bytes)) e

-- the first byte of packed steps holds those steps
one_in : (a : Step) → steps_in 1 (parts V2 (64 * step_code a)) ≡ Some (record { steps = a ∷ []; left = 0 })
one_in a =
    ap (steps_in 1) (parts_of (64 * step_code a) (step_code a) 0 0 0 (omega arith) (code_below a) (omega arith) (omega arith) (omega arith))
    ∙ first_then-code a _

two_in : (a b : Step) → steps_in 2 (parts V2 (64 * step_code a + 16 * step_code b)) ≡ Some (record { steps = a ∷ b ∷ []; left = 0 })
two_in a b =
    ap (steps_in 2) (parts_of (64 * step_code a + 16 * step_code b) (step_code a) (step_code b) 0 0 (omega arith) (code_below a) (code_below b) (omega arith) (omega arith))
    ∙ first_then-code a _ ∙ ap (before a) (first_then-code b _)

three_in : (a b c : Step) → steps_in 3 (parts V2 (64 * step_code a + 16 * step_code b + 4 * step_code c)) ≡ Some (record { steps = a ∷ b ∷ c ∷ []; left = 0 })
three_in a b c =
    ap (steps_in 3) (parts_of (64 * step_code a + 16 * step_code b + 4 * step_code c) (step_code a) (step_code b) (step_code c) 0 (omega arith) (code_below a) (code_below b) (code_below c) (omega arith))
    ∙ first_then-code a _ ∙ ap (before a) (first_then-code b _ ∙ ap (before b) (first_then-code c _))

four_in : (a b c d : Step) (left : ℕ) → steps_in (suc (suc (suc (suc left)))) (parts V2 (64 * step_code a + 16 * step_code b + 4 * step_code c + step_code d))
    ≡ Some (record { steps = a ∷ b ∷ c ∷ d ∷ []; left = left })
four_in a b c d left =
    ap (steps_in (suc (suc (suc (suc left))))) (parts_of (64 * step_code a + 16 * step_code b + 4 * step_code c + step_code d) (step_code a) (step_code b) (step_code c) (step_code d) refl (code_below a) (code_below b) (code_below c) (code_below d))
    ∙ first_then-code a _ ∙ ap (before a) (first_then-code b _ ∙ ap (before b) (first_then-code c _ ∙ ap (before c) (first_then-code d _)))

pub reading_from-map : (rest path : List Step) (at : ℕ) (more : List ℕ)
    → reading_from (at_path V1 (length rest) path) at (path_bytes V1 rest ++ more) ≡ reading_from (AtLeaf V1 (path ++ rest)) (at + length (path_bytes V1 rest)) more
reading_from-map [] path at more =
    let e : at ≡ at + 0 = omega arith in
    ap (λ p. reading_from (AtLeaf V1 p) at more) (sym (append-nil path)) ∙ ap (λ n. reading_from (AtLeaf V1 (path ++ [])) n more) e
reading_from-map (a ∷ rest) path at more =
    let e : at + 1 + length (path_bytes V1 rest) ≡ at + suc (length (path_bytes V1 rest)) = omega arith in
    reading_from-steps V1 (length rest) path at (step_code a) (path_bytes V1 rest ++ more) (record { steps = a ∷ []; left = length rest }) (first_then-code a _)
    ∙ reading_from-map rest (path ++ a ∷ []) (at + 1) more
    ∙ ap (λ p. reading_from (AtLeaf V1 p) (at + 1 + length (path_bytes V1 rest)) more) (append_assoc path (a ∷ []) rest)
    ∙ ap (λ n. reading_from (AtLeaf V1 (path ++ a ∷ rest)) n more) e

pub reading_from-packed : (rest path : List Step) (at : ℕ) (more : List ℕ)
    → reading_from (at_path V2 (length rest) path) at (packed rest ++ more) ≡ reading_from (AtLeaf V2 (path ++ rest)) (at + length (packed rest)) more
reading_from-packed [] path at more =
    let e : at ≡ at + 0 = omega arith in
    ap (λ p. reading_from (AtLeaf V2 p) at more) (sym (append-nil path)) ∙ ap (λ n. reading_from (AtLeaf V2 (path ++ [])) n more) e
reading_from-packed (a ∷ []) path at more = reading_from-steps V2 0 path at (64 * step_code a) more _ (one_in a)
reading_from-packed (a ∷ b ∷ []) path at more = reading_from-steps V2 1 path at (64 * step_code a + 16 * step_code b) more _ (two_in a b)
reading_from-packed (a ∷ b ∷ c ∷ []) path at more =
    reading_from-steps V2 2 path at (64 * step_code a + 16 * step_code b + 4 * step_code c) more _ (three_in a b c)
reading_from-packed (a ∷ b ∷ c ∷ d ∷ rest) path at more =
    let e : at + 1 + length (packed rest) ≡ at + suc (length (packed rest)) = omega arith in
    reading_from-steps V2 (suc (suc (suc (length rest)))) path at (64 * step_code a + 16 * step_code b + 4 * step_code c + step_code d) (packed rest ++ more) _ (four_in a b c d (length rest))
    ∙ reading_from-packed rest (path ++ a ∷ b ∷ c ∷ d ∷ []) (at + 1) more
    ∙ ap (λ p. reading_from (AtLeaf V2 p) (at + 1 + length (packed rest)) more) (append_assoc path (a ∷ b ∷ c ∷ d ∷ []) rest)
    ∙ ap (λ n. reading_from (AtLeaf V2 (path ++ a ∷ b ∷ c ∷ d ∷ rest)) n more) e

pub reading_from-path : (v : Version) (rest path : List Step) (at : ℕ) (more : List ℕ)
    → reading_from (at_path v (length rest) path) at (path_bytes v rest ++ more) ≡ reading_from (AtLeaf v (path ++ rest)) (at + length (path_bytes v rest)) more
reading_from-path V1 rest path at more = reading_from-map rest path at more
reading_from-path V2 rest path at more = reading_from-packed rest path at more

-- the number of a leaf
pub reading_from-number : (v : Version) (path : List Step) (k : ℕ) (bytes seen : List ℕ) (at : ℕ) (more : List ℕ) → length bytes ≡ suc k
    → reading_from (AtNumber v path k seen) at (bytes ++ more)
    ≡ add (event path (Int (cast_signed w64 (from_be_bytes w64 (seen ++ bytes)))) ∷ []) (reading_from (Between v) (at + length bytes) more)
reading_from-number v path k [] seen at more e = absurd (let none : ⊥ = omega arith in none)
reading_from-number v path zero (b ∷ []) seen at more e = refl
reading_from-number v path zero (b ∷ c ∷ bytes) seen at more e = absurd (let none : ⊥ = omega arith in none)
reading_from-number v path (suc k) (b ∷ bytes) seen at more e =
    let shorter : length bytes ≡ suc k = omega arith in
    let place : at + 1 + length bytes ≡ at + suc (length bytes) = omega arith in
    reading_from-number v path k bytes (seen ++ b ∷ []) (at + 1) more shorter
    ∙ ap (λ bs. add (event path (Int (cast_signed w64 (from_be_bytes w64 bs))) ∷ []) (reading_from (Between v) (at + 1 + length bytes) more)) (append_assoc seen (b ∷ []) bytes)
    ∙ ap (λ n. add (event path (Int (cast_signed w64 (from_be_bytes w64 (seen ++ b ∷ bytes)))) ∷ []) (reading_from (Between v) n more)) place

pub reading_from-leaf : (v : Version) (path : List Step) (leaf : Leaf) (at : ℕ) (more : List ℕ) → FitsLeaf leaf
    → reading_from (AtLeaf v path) at (leaf_bytes leaf ++ more) ≡ add (event path leaf ∷ []) (reading_from (Between v) (at + length (leaf_bytes leaf)) more)
reading_from-leaf v path One at more fits = refl
reading_from-leaf v path (Int n) at more fits =
    let bytes : List ℕ = to_be_bytes w64 (cast_unsigned w64 n) in
    let back : cast_signed w64 (from_be_bytes w64 bytes) ≡ n
    = ap (cast_signed w64) (from_be_bytes-to_be_bytes_8 (cast_unsigned w64 n) (omega (arith, Fits-of_z {w = w64} {z = n} fits))) ∙ to_z-of_z w64 n fits in
    let place : at + 1 + 8 ≡ at + 9 = omega arith in
    reading_from-number v path 7 bytes [] (at + 1) more refl
    ∙ ap (λ z. add (event path (Int z) ∷ []) (reading_from (Between v) (at + 1 + 8) more)) back
    ∙ ap (λ k. add (event path (Int n) ∷ []) (reading_from (Between v) k more)) place
reading_from-leaf v path Inl at more fits = refl
reading_from-leaf v path Inr at more fits = refl
reading_from-leaf v path Cut at more fits = refl
reading_from-leaf v path Item at more fits = refl
reading_from-leaf v path End at more fits = refl

-- the number of steps
pub reading_from-count : (v : Version) (n at : ℕ) (bytes : List ℕ) → n ≤ longest v
    → reading_from (Between v) at (n ∷ bytes) ≡ reading_from (at_path v n []) (at + 1) bytes
reading_from-count v n at bytes h =
    ap (λ b. go_on (if b then Goes (at_path v n []) else Faults (LongPath at n)) (λ next. reading_from next (at + 1) bytes)) (le-leb n (longest v) h)

-- a frame is read as its event
pub reading_from-frame : (v : Version) (x : StreamEvent) (at : ℕ) (more : List ℕ) → Fits v x
    → reading_from (Between v) at (frame v x ++ more) ≡ add (x ∷ []) (reading_from (Between v) (at + length (frame v x)) more)
reading_from-frame v x at more fits =
    let steps : List ℕ = path_bytes v x.path in
    let leaf : List ℕ = leaf_bytes x.leaf in
    let place : at + 1 + length steps + length leaf ≡ at + length (frame v x) = omega (arith, length-append steps leaf) in
    reading_from-count v (length x.path) at ((steps ++ leaf) ++ more) fits.steps
    ∙ ap (reading_from (at_path v (length x.path) []) (at + 1)) (append_assoc steps leaf more)
    ∙ reading_from-path v x.path [] (at + 1) (leaf ++ more)
    ∙ reading_from-leaf v x.path x.leaf (at + 1 + length steps) more fits.leaf
    ∙ ap (λ n. add (x ∷ []) (reading_from (Between v) n more)) place

-- frames are read as their events
pub reading_from-frames : (v : Version) (word : List StreamEvent) (at : ℕ) (more : List ℕ) → AllFit v word
    → reading_from (Between v) at (frames v word ++ more) ≡ add word (reading_from (Between v) (at + length (frames v word)) more)
reading_from-frames v [] at more fit = let e : at ≡ at + 0 = omega arith in ap (λ n. reading_from (Between v) n more) e
reading_from-frames v (x ∷ word) at more fit =
    let place : at + length (frame v x) + length (frames v word) ≡ at + length (frames v (x ∷ word)) = omega (arith, length-append (frame v x) (frames v word)) in
    ap (reading_from (Between v) at) (append_assoc (frame v x) (frames v word) more)
    ∙ reading_from-frame v x at (frames v word ++ more) fit.0
    ∙ ap (add (x ∷ [])) (reading_from-frames v word (at + length (frame v x)) more fit.1)
    ∙ ap (λ n. add (x ∷ word) (reading_from (Between v) n more)) place

-- behind a header
pub reading-header : (v : Version) (more : List ℕ) → reading (header v ++ more) ≡ reading_from (Between v) 4 more
reading-header V1 more = refl
reading-header V2 more = refl

pub reading-frames : (v : Version) (word : List StreamEvent) (more : List ℕ) → AllFit v word
    → reading (header v ++ (frames v word ++ more)) ≡ add word (reading_from (Between v) (4 + length (frames v word)) more)
reading-frames v word more fit = reading-header v (frames v word ++ more) ∙ reading_from-frames v word 4 more fit

-- the laws
pub frames_are_read : (v : Version) (word : List StreamEvent) → AllFit v word → reading (header v ++ frames v word) ≡ record { word = word; ending = Whole }
frames_are_read v word fit =
    ap (λ bs. reading (header v ++ bs)) (sym (append-nil (frames v word))) ∙ reading-frames v word [] fit
    ∙ ap (λ w. record { word = w; ending = Whole }) (append-nil word)

pub no_frame_begins_another : (v : Version) (x y : StreamEvent) (a b : List ℕ) → Fits v x → Fits v y → frame v x ++ a ≡ frame v y ++ b → x ≡ y
no_frame_begins_another v x y a b fits_x fits_y e =
    let same : add (x ∷ []) (reading_from (Between v) (0 + length (frame v x)) a) ≡ add (y ∷ []) (reading_from (Between v) (0 + length (frame v y)) b)
    = sym (reading_from-frame v x 0 a fits_x) ∙ ap (reading_from (Between v) 0) e ∙ reading_from-frame v y 0 b fits_y in
    let words : x ∷ (reading_from (Between v) (0 + length (frame v x)) a).word ≡ y ∷ (reading_from (Between v) (0 + length (frame v y)) b).word = ap (λ (r : Reading). r.word) same in
    cc

pub whole_is_longest : (v : Version) (word : List StreamEvent) (x : StreamEvent) (rest : List ℕ) → AllFit v word → Fits v x
    → whole (header v ++ (frames v word ++ (frame v x ++ rest))) ≢ word
whole_is_longest v word x rest fit fits same =
    let at : ℕ = 4 + length (frames v word) in
    let all : Reading = reading_from (Between v) (at + length (frame v x)) rest in
    let read : reading (header v ++ (frames v word ++ (frame v x ++ rest))) ≡ add word (add (x ∷ []) all)
    = reading-frames v word (frame v x ++ rest) fit ∙ ap (add word) (reading_from-frame v x at rest fits) in
    let words : word ++ (x ∷ all.word) ≡ word ++ [] = sym (ap (λ (r : Reading). r.word) read) ∙ same ∙ sym (append-nil word) in
    let none : x ∷ all.word ≡ [] = append_cancel_left word (x ∷ all.word) [] words in
    cc
