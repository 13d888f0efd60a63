-- Behind a header, what is read as whole is spelled as frames; without one nothing is read.
use Rattle.std.proofs.Common.{◌≡◌, ◌≢◌, ℕ, suc, zero, ◌+◌, ◌≤◌, List, [], ◌∷◌, ◌++◌, length, Bool, true, false, Option, Some, None, ◌==◌, if◌then◌else◌, refl, ap, ◌∙◌, sym, subst, arith, append_assoc, append-nil, length-append}
use Rattle.std.proofs.lemmas.Bool.{eqb-true, leb-true}
use Rattle.std.specs.Prelude.{nat_le}
use Rattle.std.specs.Int.{w64, from_be_bytes, cast_signed}
use Rattle.event_word.specs.declared.event.Step.{Step}
use Rattle.event_word.specs.declared.event.Leaf.{Leaf}
use Rattle.event_word.specs.declared.event.Leaf.TheVariants.{One, Int, Inl, Inr, Cut, Item, End}
use Rattle.event_word.specs.StreamEvent.{StreamEvent, FitsLeaf}
use Rattle.event_frame.specs.declared.version.Version.{Version}
use Rattle.event_frame.specs.declared.version.Version.TheVariants.{V1, V2}
use Rattle.event_frame.specs.declared.fault.FrameFault.TheVariants.{BadMagic, LongPath, BadLeaf}
use Rattle.event_frame.specs.Frames.{path_bytes, leaf_bytes, frame, frames, header, longest, Fits, AllFit, AreBytes}
use Rattle.event_frame.specs.Front.{digit}
use Rattle.event_frame.specs.Reading.{AtLetters, Between, AtLeaf, AtNumber, Taken, parts, steps_in, leaf_of, event, at_path, after_leaf, Goes, Faults, go_on, Reading, add, reading_from, whole}
use Rattle.event_frame.proofs.FrameLaws.{reading_from-steps, reading_from-no_steps, reading-header}
use Rattle.event_frame.proofs.Spelling.{path_bytes-front, parts_are}
use Rattle.event_frame.proofs.Numbers.{number_fits, number_bytes}

-- no event is read, or the steps that are to come
data PathRead (v : Version) (left : ℕ) (path : List Step) (at : ℕ) (bytes : List ℕ) : Type 0 where
  no_path : (reading_from (at_path v left path) at bytes).word ≡ [] → PathRead v left path at bytes
  a_path : (steps : List Step) (rest : List ℕ) (to : ℕ) → length steps ≡ left → bytes ≡ path_bytes v steps ++ rest → AreBytes rest
      → reading_from (at_path v left path) at bytes ≡ reading_from (AtLeaf v (path ++ steps)) to rest → PathRead v left path at bytes

no_bytes : (v : Version) (rest : List ℕ) → rest ≡ path_bytes v [] ++ rest
no_bytes V1 rest = refl
no_bytes V2 rest = refl

path_read : (v : Version) (left : ℕ) (path : List Step) (at : ℕ) (bytes : List ℕ) → AreBytes bytes → PathRead v left path at bytes
path_read v zero path at bytes are =
    a_path [] bytes at refl (no_bytes v bytes) are (ap (λ (p : List Step). reading_from (AtLeaf v p) at bytes) (sym (append-nil path)))
path_read v (suc more) path at [] are = no_path refl
path_read v (suc more) path at (b ∷ bytes) are = by_steps (steps_in (suc more) (parts v b)) refl (λ left path at. path_read v left path at bytes are.1)
  where
    grow : (taken : Taken) → steps_in (suc more) (parts v b) ≡ Some taken → PathRead v taken.left (path ++ taken.steps) (at + 1) bytes → PathRead v (suc more) path at (b ∷ bytes)
    grow taken e (no_path none) = no_path (ap (λ (r : Reading). r.word) (reading_from-steps v more path at b bytes taken e) ∙ none)
    grow taken e (a_path steps rest to len split are_rest read) =
        a_path (taken.steps ++ steps) rest to
        (omega (arith, length-append taken.steps steps, len, (parts_are (suc more) (parts v b) taken e).count))
        (ap (λ (bs : List ℕ). b ∷ bs) split ∙ sym (ap (λ (bs : List ℕ). bs ++ rest) (path_bytes-front v more b taken steps e len)))
        are_rest
        (reading_from-steps v more path at b bytes taken e ∙ read ∙ ap (λ (p : List Step). reading_from (AtLeaf v p) to rest) (append_assoc path taken.steps steps))

    by_steps : (o : Option Taken) → steps_in (suc more) (parts v b) ≡ o → ((left : ℕ) (path : List Step) (at : ℕ) → PathRead v left path at bytes) → PathRead v (suc more) path at (b ∷ bytes)
    by_steps None e rest = no_path (ap (λ (r : Reading). r.word) (reading_from-no_steps v more path at b bytes e))
    by_steps (Some taken) e rest = grow taken e (rest taken.left (path ++ taken.steps) (at + 1))

-- no event is read, or the number that is to come
data NumberRead (v : Version) (path : List Step) (k : ℕ) (seen : List ℕ) (at : ℕ) (bytes : List ℕ) : Type 0 where
  no_number : (reading_from (AtNumber v path k seen) at bytes).word ≡ [] → NumberRead v path k seen at bytes
  a_number : (number rest : List ℕ) (to : ℕ) → length number ≡ suc k → bytes ≡ number ++ rest → AreBytes number → AreBytes rest
      → reading_from (AtNumber v path k seen) at bytes ≡ add (event path (Int (cast_signed w64 (from_be_bytes w64 (seen ++ number)))) ∷ []) (reading_from (Between v) to rest)
      → NumberRead v path k seen at bytes

number_read : (v : Version) (path : List Step) (k : ℕ) (seen : List ℕ) (at : ℕ) (bytes : List ℕ) → AreBytes bytes → NumberRead v path k seen at bytes
number_read v path k seen at [] are = no_number refl
number_read v path zero seen at (b ∷ bytes) are = a_number (b ∷ []) bytes (at + 1) refl refl (are.0, tt) are.1 refl
number_read v path (suc k) seen at (b ∷ bytes) are = grow (number_read v path k (seen ++ b ∷ []) (at + 1) bytes are.1)
  where
    grow : NumberRead v path k (seen ++ b ∷ []) (at + 1) bytes → NumberRead v path (suc k) seen at (b ∷ bytes)
    grow (no_number none) = no_number none
    grow (a_number number rest to len split are_number are_rest read) =
        a_number (b ∷ number) rest to (omega (arith, len)) (ap (λ (bs : List ℕ). b ∷ bs) split) (are.0, are_number) are_rest
        (read ∙ ap (λ (bs : List ℕ). add (event path (Int (cast_signed w64 (from_be_bytes w64 bs))) ∷ []) (reading_from (Between v) to rest)) (append_assoc seen (b ∷ []) number))

-- no event is read, or the event of a leaf
data LeafRead (v : Version) (path : List Step) (at : ℕ) (bytes : List ℕ) : Type 0 where
  no_leaf : (reading_from (AtLeaf v path) at bytes).word ≡ [] → LeafRead v path at bytes
  a_leaf : (leaf : Leaf) (rest : List ℕ) (to : ℕ) → FitsLeaf leaf → bytes ≡ leaf_bytes leaf ++ rest → AreBytes rest
      → reading_from (AtLeaf v path) at bytes ≡ add (event path leaf ∷ []) (reading_from (Between v) to rest) → LeafRead v path at bytes

-- a byte that stands for a leaf is that leaf's byte
pub leaf_is : (byte : ℕ) (leaf : Leaf) → leaf_of byte ≡ Some leaf → (FitsLeaf leaf) × (leaf_bytes leaf ≡ byte ∷ [])
leaf_is byte leaf e = by_tests (byte == 0x10) (byte == 0x12) (byte == 0x13) (byte == 0x14) (byte == 0x15) (byte == 0x16) refl refl refl refl refl refl e
  where
    same : (other : Leaf) (n : ℕ) → leaf_bytes other ≡ n ∷ [] → FitsLeaf other → byte ≡ n → Some other ≡ Some leaf → (FitsLeaf leaf) × (leaf_bytes leaf ≡ byte ∷ [])
    same other n bytes fits is e = let is_leaf : other ≡ leaf = cc in
        (subst FitsLeaf is_leaf fits, sym (ap leaf_bytes is_leaf) ∙ bytes ∙ ap (λ (m : ℕ). m ∷ []) (sym is))

    by_tests : (a b c d f g : Bool) → (byte == 0x10) ≡ a → (byte == 0x12) ≡ b → (byte == 0x13) ≡ c → (byte == 0x14) ≡ d → (byte == 0x15) ≡ f → (byte == 0x16) ≡ g
        → (if a then Some One else (if b then Some Inl else (if c then Some Inr else (if d then Some Cut else (if f then Some Item else (if g then Some End else None)))))) ≡ Some leaf
        → (FitsLeaf leaf) × (leaf_bytes leaf ≡ byte ∷ [])
    by_tests true b c d f g ea eb ec ed ef eg e = same One 0x10 refl tt (eqb-true byte 0x10 ea) e
    by_tests false true c d f g ea eb ec ed ef eg e = same Inl 0x12 refl tt (eqb-true byte 0x12 eb) e
    by_tests false false true d f g ea eb ec ed ef eg e = same Inr 0x13 refl tt (eqb-true byte 0x13 ec) e
    by_tests false false false true f g ea eb ec ed ef eg e = same Cut 0x14 refl tt (eqb-true byte 0x14 ed) e
    by_tests false false false false true g ea eb ec ed ef eg e = same Item 0x15 refl tt (eqb-true byte 0x15 ef) e
    by_tests false false false false false true ea eb ec ed ef eg e = same End 0x16 refl tt (eqb-true byte 0x16 eg) e
    by_tests false false false false false false ea eb ec ed ef eg e = absurd (let none : ⊥ = cc in none)

-- a byte in the place of a leaf
pub reading_from-int : (v : Version) (path : List Step) (at byte : ℕ) (bytes : List ℕ) → byte ≡ 0x11
    → reading_from (AtLeaf v path) at (byte ∷ bytes) ≡ reading_from (AtNumber v path 7 []) (at + 1) bytes
reading_from-int v path at byte bytes e = ap (λ (b : ℕ). reading_from (AtLeaf v path) at (b ∷ bytes)) e

pub reading_from-other : (v : Version) (path : List Step) (at byte : ℕ) (bytes : List ℕ) → (byte == 0x11) ≡ false
    → reading_from (AtLeaf v path) at (byte ∷ bytes) ≡ go_on (after_leaf v path (leaf_of byte) (BadLeaf at byte)) (λ next. reading_from next (at + 1) bytes)
reading_from-other v path at byte bytes e =
    ap (λ (b : Bool). go_on (if b then Goes (AtNumber v path 7 []) else after_leaf v path (leaf_of byte) (BadLeaf at byte)) (λ next. reading_from next (at + 1) bytes)) e

leaf_read : (v : Version) (path : List Step) (at : ℕ) (bytes : List ℕ) → AreBytes bytes → LeafRead v path at bytes
leaf_read v path at [] are = no_leaf refl
leaf_read v path at (byte ∷ bytes) are = by_test (byte == 0x11) refl
  where
    in_number : byte ≡ 0x11 → NumberRead v path 7 [] (at + 1) bytes → LeafRead v path at (byte ∷ bytes)
    in_number is (no_number none) = no_leaf (ap (λ (r : Reading). r.word) (reading_from-int v path at byte bytes is) ∙ none)
    in_number is (a_number number rest to len split are_number are_rest read) =
        a_leaf (Int (cast_signed w64 (from_be_bytes w64 number))) rest to (number_fits number len are_number)
        (ap (λ (b : ℕ). b ∷ bytes) is ∙ ap (λ (bs : List ℕ). 0x11 ∷ bs) (split ∙ sym (ap (λ (bs : List ℕ). bs ++ rest) (number_bytes number len are_number))))
        are_rest
        (reading_from-int v path at byte bytes is ∙ read)

    other : (byte == 0x11) ≡ false → (o : Option Leaf) → leaf_of byte ≡ o → LeafRead v path at (byte ∷ bytes)
    other is None e =
        no_leaf (ap (λ (r : Reading). r.word) (reading_from-other v path at byte bytes is
        ∙ ap (λ (o : Option Leaf). go_on (after_leaf v path o (BadLeaf at byte)) (λ next. reading_from next (at + 1) bytes)) e))
    other is (Some leaf) e =
        let spelled = leaf_is byte leaf e in
        a_leaf leaf bytes (at + 1) spelled.0 (sym (ap (λ (bs : List ℕ). bs ++ bytes) spelled.1)) are.1
        (reading_from-other v path at byte bytes is ∙ ap (λ (o : Option Leaf). go_on (after_leaf v path o (BadLeaf at byte)) (λ next. reading_from next (at + 1) bytes)) e)

    by_test : (b : Bool) → (byte == 0x11) ≡ b → LeafRead v path at (byte ∷ bytes)
    by_test true e = in_number (eqb-true byte 0x11 e) (number_read v path 7 [] (at + 1) bytes are.1)
    by_test false e = other e (leaf_of byte) refl

-- no event is read, or a frame's
data FrameRead (v : Version) (at : ℕ) (bytes : List ℕ) : Type 0 where
  no_frame : (reading_from (Between v) at bytes).word ≡ [] → FrameRead v at bytes
  a_frame : (x : StreamEvent) (rest : List ℕ) (to : ℕ) → Fits v x → bytes ≡ frame v x ++ rest → AreBytes rest
      → reading_from (Between v) at bytes ≡ add (x ∷ []) (reading_from (Between v) to rest) → FrameRead v at bytes

frame_read : (v : Version) (at : ℕ) (bytes : List ℕ) → AreBytes bytes → FrameRead v at bytes
frame_read v at [] are = no_frame refl
frame_read v at (n ∷ bytes) are = by_test (nat_le n (longest v)) refl
  where
    counted : Bool → Reading
    counted b = go_on (if b then Goes (at_path v n []) else Faults (LongPath at n)) (λ next. reading_from next (at + 1) bytes)

    in_leaf : n ≤ longest v → nat_le n (longest v) ≡ true → (steps : List Step) (rest : List ℕ) (to : ℕ) → length steps ≡ n → bytes ≡ path_bytes v steps ++ rest
        → reading_from (at_path v n []) (at + 1) bytes ≡ reading_from (AtLeaf v steps) to rest → LeafRead v steps to rest → FrameRead v at (n ∷ bytes)
    in_leaf fits e steps rest to len split read (no_leaf none) =
        no_frame (ap (λ (b : Bool). (counted b).word) e ∙ ap (λ (r : Reading). r.word) read ∙ none)
    in_leaf fits e steps rest to len split read (a_leaf leaf more after fits_leaf split_leaf are_more read_leaf) =
        a_frame (event steps leaf) more after
        (record { steps = omega (arith, len, fits); leaf = fits_leaf })
        (ap (λ (m : ℕ). m ∷ bytes) (sym len) ∙ ap (λ (bs : List ℕ). length steps ∷ bs) (split ∙ ap (λ (bs : List ℕ). path_bytes v steps ++ bs) split_leaf ∙ sym (append_assoc (path_bytes v steps) (leaf_bytes leaf) more)))
        are_more
        (ap counted e ∙ read ∙ read_leaf)

    in_path : n ≤ longest v → nat_le n (longest v) ≡ true → PathRead v n [] (at + 1) bytes → FrameRead v at (n ∷ bytes)
    in_path fits e (no_path none) = no_frame (ap (λ (b : Bool). (counted b).word) e ∙ none)
    in_path fits e (a_path steps rest to len split are_rest read) = in_leaf fits e steps rest to len split read (leaf_read v steps to rest are_rest)

    by_test : (b : Bool) → nat_le n (longest v) ≡ b → FrameRead v at (n ∷ bytes)
    by_test true e = in_path (leb-true n (longest v) e) e (path_read v n [] (at + 1) bytes are.1)
    by_test false e = no_frame (ap (λ (b : Bool). (counted b).word) e)

-- the bytes are the frames of the word, and others
record AreFrames (v : Version) (bytes : List ℕ) (word : List StreamEvent) : Type 0 where
  rest : List ℕ
  split : bytes ≡ frames v word ++ rest
  fit : AllFit v word

are_frames : (fuel : ℕ) (v : Version) (at : ℕ) (bytes : List ℕ) → length bytes ≤ fuel → AreBytes bytes → AreFrames v bytes (reading_from (Between v) at bytes).word
are_frames zero v at [] short are = record { rest = []; split = refl; fit = tt }
are_frames zero v at (b ∷ bytes) short are = absurd (let none : ⊥ = omega arith in none)
are_frames (suc fuel) v at bytes short are = by_frame (frame_read v at bytes are) (λ at bytes. are_frames fuel v at bytes)
  where
    by_frame : FrameRead v at bytes → ((at : ℕ) (bytes : List ℕ) → length bytes ≤ fuel → AreBytes bytes → AreFrames v bytes (reading_from (Between v) at bytes).word)
        → AreFrames v bytes (reading_from (Between v) at bytes).word
    by_frame (no_frame none) others = subst (AreFrames v bytes) (sym none) (record { rest = bytes; split = refl; fit = tt })
    by_frame (a_frame x rest to fits split are_rest read) others =
        let shorter : length rest ≤ fuel = omega (arith, ap length split, length-append (frame v x) rest) in
        let more = others to rest shorter are_rest in
        let word : List StreamEvent = (reading_from (Between v) to rest).word in
        subst (AreFrames v bytes) (sym (ap (λ (r : Reading). r.word) read)) (record {
          rest = more.rest;
          split = split ∙ ap (λ (bs : List ℕ). frame v x ++ bs) more.split ∙ sym (append_assoc (frame v x) (frames v word) more.rest);
          fit = (fits, more.fit);
        })

pub whole_is_spelled : (v : Version) (bytes : List ℕ) → AreBytes bytes
    → (rest : List ℕ) × (bytes ≡ frames v (whole (header v ++ bytes)) ++ rest) × AllFit v (whole (header v ++ bytes))
whole_is_spelled v bytes are =
    let spelled : AreFrames v bytes (whole (header v ++ bytes))
    = subst (AreFrames v bytes) (sym (ap (λ (r : Reading). r.word) (reading-header v bytes))) (are_frames (length bytes) v 4 bytes (omega arith) are) in
    (spelled.rest, spelled.split, spelled.fit)

pub header_read : (letters : List ℕ) (at : ℕ) (bytes : List ℕ) → ((v : Version) (more : List ℕ) → bytes ≢ letters ++ digit v ∷ more)
    → (reading_from (AtLetters letters) at bytes).word ≡ []
header_read letters at [] never = refl
header_read [] at (b ∷ bytes) never = by_tests (b == 0x31) (b == 0x32) refl refl
  where
    by_tests : (one two : Bool) → (b == 0x31) ≡ one → (b == 0x32) ≡ two → (reading_from (AtLetters []) at (b ∷ bytes)).word ≡ []
    by_tests true two is_one is_two = absurd (never V1 bytes (ap (λ (n : ℕ). n ∷ bytes) (eqb-true b 0x31 is_one)))
    by_tests false true is_one is_two = absurd (never V2 bytes (ap (λ (n : ℕ). n ∷ bytes) (eqb-true b 0x32 is_two)))
    by_tests false false is_one is_two =
        ap (λ (x : Bool). (go_on (if x then Goes (Between V1) else (if b == 0x32 then Goes (Between V2) else Faults (BadMagic at))) (λ next. reading_from next (at + 1) bytes)).word) is_one
        ∙ ap (λ (x : Bool). (go_on (if x then Goes (Between V2) else Faults (BadMagic at)) (λ next. reading_from next (at + 1) bytes)).word) is_two
header_read (c ∷ letters) at (b ∷ bytes) never = by_test (b == c) refl (header_read letters (at + 1) bytes)
  where
    by_test : (x : Bool) → (b == c) ≡ x → (((v : Version) (more : List ℕ) → bytes ≢ letters ++ digit v ∷ more) → (reading_from (AtLetters letters) (at + 1) bytes).word ≡ [])
        → (reading_from (AtLetters (c ∷ letters)) at (b ∷ bytes)).word ≡ []
    by_test true e rest =
        ap (λ (x : Bool). (go_on (if x then Goes (AtLetters letters) else Faults (BadMagic at)) (λ next. reading_from next (at + 1) bytes)).word) e
        ∙ rest (λ v more same. never v more (ap (λ (n : ℕ). n ∷ bytes) (eqb-true b c e) ∙ ap (λ (bs : List ℕ). c ∷ bs) same))
    by_test false e rest =
        ap (λ (x : Bool). (go_on (if x then Goes (AtLetters letters) else Faults (BadMagic at)) (λ next. reading_from next (at + 1) bytes)).word) e

pub no_header_no_event : (bytes : List ℕ) → ((v : Version) (more : List ℕ) → bytes ≢ header v ++ more) → whole bytes ≡ []
no_header_no_event bytes never = header_read (0x44 ∷ 0x45 ∷ 0x56 ∷ []) 0 bytes (by_version never)
  where
    by_version : ((v : Version) (more : List ℕ) → bytes ≢ header v ++ more) → (v : Version) (more : List ℕ) → bytes ≢ 0x44 ∷ 0x45 ∷ 0x56 ∷ digit v ∷ more
    by_version never V1 more = never V1 more
    by_version never V2 more = never V2 more
