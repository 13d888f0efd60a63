-- What a reader's steps do to the bytes and events that it stands for.
use Rattle.std.proofs.Common.{◌≡◌, ◌≢◌, ℕ, ◌+◌, List, [], ◌∷◌, ◌++◌, length, drop, Option, Some, None, Result, Ok, Err, refl, ap, ◌∙◌, sym, subst, arith, append_assoc, append-nil, length-append, length-drop}
use Rattle.std.specs.Prelude.{IfOk, IfSome, IfNone, MatchResult}
use Rattle.event_word.specs.StreamEvent.{StreamEvent}
use Rattle.event_frame.specs.declared.version.Version.{Version}
use Rattle.event_frame.specs.declared.version.Version.TheVariants.{V1, V2}
use Rattle.event_frame.specs.declared.fault.FrameFault.{FrameFault}
use Rattle.event_frame.specs.Frames.{header, frame, frames, Fits, AllFit}
use Rattle.event_frame.specs.Reading.{Place, Between, Ending, Bad, Reading, stop, add, reading_from, reading, start, whole, ending}
use Rattle.event_frame.specs.Front.{IsFrame, part_ending, digit}
use Rattle.event_frame.specs.FrameReader.{FrameReader}
use Rattle.event_frame.specs.Reads.{Reads, CanTake, taken_bytes, Stays, Takes, HoldsNoMore, HoldsFault, IsFaultOf}
use Rattle.event_frame.proofs.FrameLaws.{reading_from-frame, reading-frames}

-- the place at which the kept bytes begin
abbrev pub place_of : Option Version → Place
place_of None = start
place_of (Some v) = Between v

-- what is read of all bytes is what was answered, and what is read of the kept bytes
pub reads_on : (r : FrameReader) (all : List ℕ) (word : List StreamEvent) → Reads r all word
    → reading all ≡ add word (reading_from (place_of r.version) r.taken r.kept)
reads_on r all word reads = by_version r.version reads.split reads.place reads.events
  where
    by_version : (v : Option Version) → all ≡ taken_bytes v word ++ r.kept → r.taken ≡ length (taken_bytes v word) → CanTake v word
        → reading all ≡ add word (reading_from (place_of v) r.taken r.kept)
    by_version None split place none =
        ap reading split ∙ ap (λ (n : ℕ). reading_from start n r.kept) (sym place) ∙ sym (ap (λ (w : List StreamEvent). add w (reading_from start r.taken r.kept)) none)
    by_version (Some v) split place fit =
        let at : 4 + length (frames v word) ≡ r.taken = omega (arith, place, length-append (header v) (frames v word), four v) in
        ap reading (split ∙ append_assoc (header v) (frames v word) r.kept) ∙ reading-frames v word r.kept fit
        ∙ ap (λ (n : ℕ). add word (reading_from (Between v) n r.kept)) at
      where
        four : (v : Version) → length (header v) ≡ 4
        four V1 = refl
        four V2 = refl

-- where nothing is read of the kept bytes
pub ends_so : (r : FrameReader) (end : Ending) → reading_from (place_of r.version) r.taken r.kept ≡ stop end
    → (all : List ℕ) (word : List StreamEvent) → Reads r all word → (whole all ≡ word) × (ending all ≡ end)
ends_so r end e all word reads =
    let all_is : reading all ≡ add word (stop end) = reads_on r all word reads ∙ ap (add word) e in
    (ap (λ (x : Reading). x.word) all_is ∙ append-nil word, ap (λ (x : Reading). x.ending) all_is)

pub no_more : (r : FrameReader) (end : Ending) → reading_from (place_of r.version) r.taken r.kept ≡ stop end
    → ((fault : FrameFault) → end ≢ Bad fault) → HoldsNoMore r
no_more r end e good all word reads =
    let so = ends_so r end e all word reads in
    (so.0, λ fault bad. good fault (sym so.1 ∙ bad))

pub a_fault : (r : FrameReader) (fault : FrameFault) → reading_from (place_of r.version) r.taken r.kept ≡ stop (Bad fault) → HoldsFault r fault
a_fault r fault e all word reads = ends_so r (Bad fault) e all word reads

pub part_is_good : (bytes : List ℕ) (fault : FrameFault) → part_ending bytes ≢ Bad fault
part_is_good [] fault e = cc
part_is_good (b ∷ bytes) fault e = cc

pub frames_more : (v : Version) (word : List StreamEvent) (x : StreamEvent) → frames v (word ++ x ∷ []) ≡ frames v word ++ frame v x
frames_more v [] x = append-nil (frame v x)
frames_more v (y ∷ word) x = ap (λ (bs : List ℕ). frame v y ++ bs) (frames_more v word x) ∙ sym (append_assoc (frame v y) (frames v word) (frame v x))

all_fit_more : (v : Version) (word : List StreamEvent) (x : StreamEvent) → AllFit v word → Fits v x → AllFit v (word ++ x ∷ [])
all_fit_more v [] x fit fits = (fits, tt)
all_fit_more v (y ∷ word) x fit fits = (fit.0, all_fit_more v word x fit.1 fits)

-- a frame is taken
pub takes : (old new : FrameReader) (v : Version) (x : StreamEvent) (n : ℕ) → old.version ≡ Some v → new.version ≡ Some v → IsFrame v old.kept x n
    → new.taken ≡ old.taken + n → new.kept ≡ drop n old.kept → Takes old new x
takes old new v x n is is_new found taken kept all word reads =
    let bytes : all ≡ (header v ++ frames v word) ++ old.kept = reads.split ∙ ap (λ (o : Option Version). taken_bytes o word ++ old.kept) is in
    let place : old.taken ≡ length (header v ++ frames v word) = reads.place ∙ ap (λ (o : Option Version). length (taken_bytes o word)) is in
    let fit : AllFit v word = subst (λ (o : Option Version). CanTake o word) is reads.events in
    let len : n ≡ length (frame v x) = omega (arith, ap length found.spelled, length-append (frame v x) (drop n old.kept), length-drop n old.kept, found.within) in
    let more : header v ++ frames v (word ++ x ∷ []) ≡ (header v ++ frames v word) ++ frame v x
    = ap (λ (bs : List ℕ). header v ++ bs) (frames_more v word x) ∙ sym (append_assoc (header v) (frames v word) (frame v x)) in
    let all_is : all ≡ (header v ++ frames v (word ++ x ∷ [])) ++ new.kept
    = bytes ∙ ap (λ (bs : List ℕ). (header v ++ frames v word) ++ bs) (found.spelled ∙ ap (λ (bs : List ℕ). frame v x ++ bs) (sym kept))
    ∙ sym (append_assoc (header v ++ frames v word) (frame v x) new.kept) ∙ ap (λ (bs : List ℕ). bs ++ new.kept) (sym more) in
    let new_reads : Reads new all (word ++ x ∷ []) = record {
      split = all_is ∙ sym (ap (λ (o : Option Version). taken_bytes o (word ++ x ∷ []) ++ new.kept) is_new);
      place = omega (arith, taken, place, len, ap length more, length-append (header v ++ frames v word) (frame v x))
          ∙ sym (ap (λ (o : Option Version). length (taken_bytes o (word ++ x ∷ []))) is_new);
      events = subst (λ (o : Option Version). CanTake o (word ++ x ∷ [])) (sym is_new) (all_fit_more v word x fit found.fits);
    } in (
      new_reads,
      (
        (reading_from (place_of new.version) new.taken new.kept).word,
        ap (λ (r : Reading). r.word) (reads_on new all (word ++ x ∷ []) new_reads) ∙ append_assoc word (x ∷ []) _,
      ),
    )

-- the header is taken
pub takes_header : (old new : FrameReader) (v : Version) (more : List ℕ) → old.version ≡ None → old.kept ≡ header v ++ more
    → new.version ≡ Some v → new.taken ≡ old.taken + 4 → new.kept ≡ more → Stays old new
takes_header old new v more is kept is_new taken kept_new all word reads =
    let none : word ≡ [] = subst (λ (o : Option Version). CanTake o word) is reads.events in
    let bytes : all ≡ header v ++ more = reads.split ∙ ap (λ (o : Option Version). taken_bytes o word ++ old.kept) is ∙ kept in
    let place : old.taken ≡ 0 = reads.place ∙ ap (λ (o : Option Version). length (taken_bytes o word)) is in
    let nothing : header v ++ frames v word ≡ header v = ap (λ (w : List StreamEvent). header v ++ frames v w) none ∙ append-nil (header v) in
    record {
      split = bytes ∙ ap (λ (bs : List ℕ). header v ++ bs) (sym kept_new) ∙ ap (λ (bs : List ℕ). bs ++ new.kept) (sym nothing)
          ∙ sym (ap (λ (o : Option Version). taken_bytes o word ++ new.kept) is_new);
      place = omega (arith, taken, place, four v, ap length nothing) ∙ sym (ap (λ (o : Option Version). length (taken_bytes o word)) is_new);
      events = subst (λ (o : Option Version). CanTake o word) (sym is_new) (subst (AllFit v) (sym none) tt);
    }
  where
    four : (v : Version) → length (header v) ≡ 4
    four V1 = refl
    four V2 = refl

-- the bytes of a header are its letters and its digit
pub header_bytes : (v : Version) (more : List ℕ) → header v ++ more ≡ 0x44 ∷ 0x45 ∷ 0x56 ∷ digit v ∷ more
header_bytes V1 more = refl
header_bytes V2 more = refl

-- a header's step and then a frame's
pub next_event : (result : Result (Option StreamEvent) FrameFault) (old mid new : FrameReader) → Stays old mid
    → IfOk result (λ found. IfSome found (λ x. Takes mid new x)) → IfOk result (λ found. IfSome found (λ x. Takes old new x))
next_event (Ok (Some x)) old mid new stays takes = λ all word reads. takes all word (stays all word reads)
next_event (Ok None) old mid new stays takes = takes
next_event (Err fault) old mid new stays takes = takes

pub next_stays : (result : Result (Option StreamEvent) FrameFault) (old mid new : FrameReader) → Stays old mid
    → MatchResult result (λ found. IfNone found (new ≡ mid)) (λ _. new ≡ mid) → MatchResult result (λ found. IfNone found (Stays old new)) (λ _. Stays old new)
next_stays (Ok (Some x)) old mid new stays same = same
next_stays (Ok None) old mid new stays same = subst (Stays old) (sym same) stays
next_stays (Err fault) old mid new stays same = subst (Stays old) (sym same) stays

-- a frame in front changes nothing in how the bytes end
pub frame_passed : (v : Version) (bytes : List ℕ) (x : StreamEvent) (n at : ℕ) → IsFrame v bytes x n
    → (reading_from (Between v) at bytes).ending ≡ (reading_from (Between v) (at + n) (drop n bytes)).ending
frame_passed v bytes x n at found =
    let len : length (frame v x) ≡ n = omega (arith, ap length found.spelled, length-append (frame v x) (drop n bytes), length-drop n bytes, found.within) in
    ap (λ (r : Reading). r.ending) (ap (reading_from (Between v) at) found.spelled ∙ reading_from-frame v x at (drop n bytes) found.fits)
    ∙ ap (λ (k : ℕ). (reading_from (Between v) (at + k) (drop n bytes)).ending) len

-- what is read of the kept bytes behind the header
pub placed : (r : FrameReader) (v : Version) (taken : ℕ) (kept : List ℕ) → r.version ≡ Some v → taken ≡ r.taken → kept ≡ r.kept
    → reading_from (place_of r.version) r.taken r.kept ≡ reading_from (Between v) taken kept
placed r v taken kept is same_taken same_kept =
    ap (λ (o : Option Version). reading_from (place_of o) r.taken r.kept) is
    ∙ sym (ap (λ (n : ℕ). reading_from (Between v) n r.kept) same_taken) ∙ sym (ap (reading_from (Between v) taken) same_kept)

-- the fault of all bytes is that of the kept ones
pub fault_is : (r : FrameReader) (all : List ℕ) (word : List StreamEvent) (end : Ending) (count : ℕ) (result : Result (Unit {0}) FrameFault) → Reads r all word
    → (reading_from (place_of r.version) r.taken r.kept).ending ≡ end → r.taken + length r.kept ≡ count → IsFaultOf end count result → IsFaultOf (ending all) (length all) result
fault_is r all word end count result reads is_end is_count fault =
    let same : ending all ≡ end = ap (λ (x : Reading). x.ending) (reads_on r all word reads) ∙ is_end in
    let size : length all ≡ count = omega (arith, ap length reads.split, length-append (taken_bytes r.version word) r.kept, reads.place, is_count) in
    subst (λ (n : ℕ). IsFaultOf (ending all) n result) (sym size) (subst (λ (e : Ending). IsFaultOf e count result) (sym same) fault)
