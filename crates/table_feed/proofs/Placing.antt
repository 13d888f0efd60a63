-- The steps that lead to a word among several, and the room for them.
use Rattle.std.proofs.Common.{◌≡◌, ◌≢◌, ℕ, zero, suc, ◌+◌, ◌<◌, ◌≤◌, Bool, true, false, List, [], ◌∷◌, ◌++◌, map, length, get_or, Option, Some, None, refl, sym, ap, ap₂, ◌∙◌, append_assoc, length-append, subst, arith}
use Rattle.std.specs.Prelude.{IfSome, option_map, slice_get, ◌==◌, if◌then◌else◌}
use Rattle.std.proofs.Math.ListN.{set}
use Rattle.std.proofs.lemmas.Bool.Decides.{nat_tests}
use Rattle.std.proofs.lemmas.List.{append-nil, map-append, map-set, length-map}
use Rattle.std.proofs.lemmas.Simd.{map-map}
use Rattle.std.proofs.lemmas.Option.{slice_get-map, slice_get_read}
use Rattle.std.proofs.lemmas.List.Elements.{All-head, All-tail, All-weaker}
use Rattle.stream_type.specs.StreamType.{StreamType, par, reach_of}
use Rattle.event_word.specs.declared.event.Step.TheVariants.{Left, Right}
use Rattle.event_word.specs.StreamEvent.{StreamEvent, under}
use Rattle.event_word.specs.Word.{IsWord}
use Rattle.event_word.proofs.Reaches.{word_within}
use Rattle.table_feed.specs.Mixing.{AreWords, next_of, before, take_or_pass, take_at, rounds, in_order}
use Rattle.table_feed.specs.Room.{right_by, placed, HasSteps, HasRoom, rest_of}

-- a step to the right may come before the others or after them
right_by-under : (depth : ℕ) (x : StreamEvent) → right_by depth (under Right x) ≡ right_by (suc depth) x
right_by-under zero x = refl
right_by-under (suc depth) x = ap (under Right) (right_by-under depth x)

pub length-right_by : (depth : ℕ) (x : StreamEvent) → length (right_by depth x).path ≡ depth + length x.path
length-right_by zero x = omega arith
length-right_by (suc depth) x = omega (arith, length-right_by depth x)

-- the words of a type have room, as far as its reach goes
steps_within : (s : StreamType) (w : List StreamEvent) (depth : ℕ) → depth + reach_of s ≤ 63 → IsWord s w → HasSteps depth w
steps_within s w depth l h =
    All-weaker (λ (x : StreamEvent). length x.path ≤ reach_of s) (λ (x : StreamEvent). depth + length x.path ≤ 63) (λ x k. omega (arith, l, k)) w (word_within s w h)

pub words_have_room : (s : StreamType) (ws : List (List StreamEvent)) (depth : ℕ) → depth + reach_of s ≤ 63 → AreWords s ws → HasRoom depth ws
words_have_room s [] depth l h = absurd h
words_have_room s (w ∷ []) depth l h = steps_within s w depth l h
words_have_room (par s t) (w ∷ v ∷ ws) depth l h =
    (steps_within s w (depth + 1) (omega (arith, l)) h.0, words_have_room t (v ∷ ws) (depth + 1) (omega (arith, l)) h.1)
words_have_room s (w ∷ v ∷ ws) depth l h = absurd h

-- what is left of words has room
mapped : {A B : Type 0} (o : Option A) (f : A → B) (P : A → Type 0) (Q : B → Type 0) → ((a : A) → P a → Q (f a)) → IfSome o P → IfSome (option_map f o) Q
mapped None f P Q more h = tt
mapped (Some a) f P Q more h = more a h

-- words that have room, as many as there were
pub record StillHasRoom (depth : ℕ) (ws rest : List (List StreamEvent)) : Type 0 where
  pub room : HasRoom depth rest
  pub len : length rest ≡ length ws

later_room : (depth : ℕ) (w v : List StreamEvent) (ws rest : List (List StreamEvent)) → HasSteps (depth + 1) w → StillHasRoom (depth + 1) (v ∷ ws) rest → StillHasRoom depth (w ∷ v ∷ ws) (w ∷ rest)
later_room depth w v ws [] h k = absurd (omega (arith, k.len))
later_room depth w v ws (r ∷ rs) h k = record { room = (h, k.room); len = omega (arith, k.len) }

pub next_has_room : (i depth : ℕ) (ws : List (List StreamEvent)) → HasRoom depth ws → IfSome (next_of i ws) (λ next. StillHasRoom depth ws next.1)
next_has_room i depth [] h = tt
next_has_room zero depth ([] ∷ ws) h = tt
next_has_room zero depth ((x ∷ w) ∷ []) h = record { room = All-tail (λ (y : StreamEvent). depth + length y.path ≤ 63) x w h; len = refl }
next_has_room zero depth ((x ∷ w) ∷ v ∷ ws) h = record { room = (All-tail (λ (y : StreamEvent). depth + 1 + length y.path ≤ 63) x w h.0, h.1); len = refl }
next_has_room (suc i) depth (w ∷ []) h = tt
next_has_room (suc i) depth (w ∷ v ∷ ws) h =
    mapped (next_of i (v ∷ ws)) (λ (next : StreamEvent × List (List StreamEvent)). (under Right next.0, w ∷ next.1)) (λ next. StillHasRoom (depth + 1) (v ∷ ws) next.1) (λ next. StillHasRoom depth (w ∷ v ∷ ws) next.1)
    (λ next k. later_room depth w v ws next.1 h.0 k)
    (next_has_room i (depth + 1) (v ∷ ws) h.1)

-- the number is that of the last word, or isn't
pub data IsLast (i n : ℕ) : Bool → Type 0 where
  is_last : i + 1 ≡ n → IsLast i n true
  not_last : i + 1 ≢ n → IsLast i n false

pub told_last : (i n : ℕ) (last : Bool) → last ≡ (i + 1 == n) → IsLast i n last
told_last i n true e = is_last (grind (arith, nat_tests))
told_last i n false e = not_last (grind (arith, nat_tests))

earlier : (i n : ℕ) (last : Bool) → IsLast (suc i) (suc n) last → IsLast i n last
earlier i n true (is_last e) = is_last (omega (arith, e))
earlier i n false (not_last e) = not_last (λ f. e (omega (arith, f)))

-- the next event of a word, told by the word's number
pub next_at : (i : ℕ) (ws : List (List StreamEvent)) (last : Bool) (x : StreamEvent) (w : List StreamEvent)
    → IsLast i (length ws) last → slice_get ws i ≡ Some (x ∷ w) → next_of i ws ≡ Some (placed i last x, set ws i w)
next_at i [] last x w l e = absurd (cc e)
next_at zero ([] ∷ ws) last x w l e = absurd (cc e)
next_at zero ((y ∷ u) ∷ []) true x w l e = cc e
next_at zero ((y ∷ u) ∷ []) false x w (not_last n) e = absurd (n (omega arith))
next_at zero ((y ∷ u) ∷ v ∷ ws) true x w (is_last n) e = absurd (omega (arith, n))
next_at zero ((y ∷ u) ∷ v ∷ ws) false x w l e = cc e
next_at (suc i) (v ∷ ws) last x w l e = rw (next_at i ws last x w (earlier i (length ws) last l) e) refl

-- a word that is used up has no next event
pub no_next_at : (i : ℕ) (ws : List (List StreamEvent)) → slice_get ws i ≡ Some [] → next_of i ws ≡ None
no_next_at i [] e = absurd (cc e)
no_next_at zero ([] ∷ ws) e = refl
no_next_at zero ((x ∷ w) ∷ ws) e = absurd (cc e)
no_next_at (suc i) (v ∷ ws) e = rw (no_next_at i ws e) refl

-- no word has a number as great as there are words
pub past_words : (i : ℕ) (ws : List (List StreamEvent)) → length ws ≤ i → next_of i ws ≡ None
past_words i [] l = refl
past_words zero (w ∷ ws) l = absurd (omega (arith, l))
past_words (suc i) (w ∷ ws) l = rw (past_words i ws (omega (arith, l))) refl

-- the first event of a word has room for the steps that lead to it
pub room_at : (i depth : ℕ) (ws : List (List StreamEvent)) (last : Bool) (x : StreamEvent) (w : List StreamEvent)
    → HasRoom depth ws → IsLast i (length ws) last → slice_get ws i ≡ Some (x ∷ w) → (if last then depth + i else depth + i + 1) + length x.path ≤ 63
room_at i depth [] last x w h l e = absurd (cc e)
room_at zero depth ([] ∷ ws) last x w h l e = absurd (cc e)
room_at zero depth ((y ∷ u) ∷ []) true x w h l e =
    let here = All-head (λ (z : StreamEvent). depth + length z.path ≤ 63) y u h in
    let same : y ≡ x = cc e in
    omega (arith, here, ap (λ (z : StreamEvent). length z.path) same)
room_at zero depth ((y ∷ u) ∷ []) false x w h (not_last n) e = absurd (n (omega arith))
room_at zero depth ((y ∷ u) ∷ v ∷ ws) true x w h (is_last n) e = absurd (omega (arith, n))
room_at zero depth ((y ∷ u) ∷ v ∷ ws) false x w h l e =
    let here = All-head (λ (z : StreamEvent). depth + 1 + length z.path ≤ 63) y u h.0 in
    let same : y ≡ x = cc e in
    omega (arith, here, ap (λ (z : StreamEvent). length z.path) same)
room_at (suc i) depth (v ∷ []) last x w h l e = absurd (cc e)
room_at (suc i) depth (v ∷ u ∷ ws) true x w h l e =
    let later = room_at i (depth + 1) (u ∷ ws) true x w h.1 (earlier i (length (u ∷ ws)) true l) e in
    omega (arith, later)
room_at (suc i) depth (v ∷ u ∷ ws) false x w h l e =
    let later = room_at i (depth + 1) (u ∷ ws) false x w h.1 (earlier i (length (u ∷ ws)) false l) e in
    omega (arith, later)

-- one word after another, from a depth on
pub in_order_step : (depth : ℕ) (w : List StreamEvent) (ws : List (List StreamEvent)) (last : Bool) → IsLast 0 (length (w ∷ ws)) last
    → map (right_by depth) (in_order (w ∷ ws)) ≡ map (placed depth last) w ++ map (right_by (depth + 1)) (in_order ws)
in_order_step depth w [] true l = sym (append-nil (map (right_by depth) w))
in_order_step depth w [] false (not_last n) = absurd (n (omega arith))
in_order_step depth w (v ∷ ws) true (is_last n) = absurd (omega (arith, n))
in_order_step depth w (v ∷ ws) false l =
    map-append (right_by depth) (map (under Left) w) (map (under Right) (in_order (v ∷ ws)))
    ∙ ap₂ ◌++◌ (map-map (right_by depth) (under Left) w) (map-map (right_by depth) (under Right) (in_order (v ∷ ws)) ∙ same (in_order (v ∷ ws)))
  where
    more : suc depth ≡ depth + 1
    more = omega arith

    same : (xs : List StreamEvent) → map (λ x. right_by depth (under Right x)) xs ≡ map (right_by (depth + 1)) xs
    same [] = refl
    same (x ∷ xs) = ap₂ ◌∷◌ (right_by-under depth x ∙ ap (λ d. right_by d x) more) (same xs)

-- a round that takes nothing changes nothing
idle : (schedule : List ℕ) (ws : List (List StreamEvent)) → (take_at schedule ws).events ≡ [] → (take_at schedule ws).left ≡ ws
idle [] ws e = refl
idle (i ∷ schedule) ws e = by_next (λ f. idle schedule ws f) (next_of i ws) e
  where
    by_next : ((take_at schedule ws).events ≡ [] → (take_at schedule ws).left ≡ ws) → (next : Option (StreamEvent × List (List StreamEvent))) → (take_or_pass (take_at schedule) next ws).events ≡ [] → (take_or_pass (take_at schedule) next ws).left ≡ ws
    by_next same None f = same f
    by_next same (Some next) f = absurd (cc f)

-- where a round takes nothing no later one does
pub idle_rest : (n : ℕ) (schedule : List ℕ) (ws : List (List StreamEvent)) → (take_at schedule ws).events ≡ [] → rest_of n schedule ws ≡ in_order ws
idle_rest zero schedule ws e = refl
idle_rest (suc n) schedule ws e =
    ap₂ (λ (xs : List StreamEvent) (vs : List (List StreamEvent)). (xs ++ (rounds n schedule vs).events) ++ in_order (rounds n schedule vs).left) e (idle schedule ws e)
    ∙ idle_rest n schedule ws e

-- a round, and what comes in the others
pub round_rest : (n : ℕ) (schedule : List ℕ) (ws : List (List StreamEvent)) → rest_of (suc n) schedule ws ≡ (take_at schedule ws).events ++ rest_of n schedule (take_at schedule ws).left
round_rest n schedule ws =
    append_assoc (take_at schedule ws).events (rounds n schedule (take_at schedule ws).left).events (in_order (rounds n schedule (take_at schedule ws).left).left)

-- a word by its number, where the words stand for other things
pub at_number : {A B : Type 0} (f : A → B) (xs : List A) (i : ℕ) (x : A) → i < length xs → x ≡ get_or xs i x → slice_get (map f xs) i ≡ Some (f x)
at_number f xs i x l e = slice_get-map f xs i ∙ ap (option_map f) (slice_get_read xs (length xs) i x refl l e)

strip : (b : Bool) (i m : ℕ) → (if b then 0 + i else 0 + i + 1) + m ≤ 63 → (if b then i else i + 1) + m ≤ 63
strip true i m h = omega (arith, h)
strip false i m h = omega (arith, h)

-- the next event of a word has room for its steps
pub take_room : (i n : ℕ) (ws : List (List StreamEvent)) (x : StreamEvent) (w : List StreamEvent) → n ≡ length ws → HasRoom 0 ws → slice_get ws i ≡ Some (x ∷ w)
    → (if i + 1 == n then i else i + 1) + length x.path ≤ 63
take_room i n ws x w e h g =
    let last : (i + 1 == n) ≡ (i + 1 == length ws) = ap (λ (m : ℕ). i + 1 == m) e in
    strip (i + 1 == n) i (length x.path) (room_at i 0 ws (i + 1 == n) x w h (told_last i (length ws) (i + 1 == n) last) g)

-- what it is, and what it leaves
pub take_next : {A : Type 0} (f : A → List StreamEvent) (i n : ℕ) (xs : List A) (x y : StreamEvent) (a : A) (w : List StreamEvent) → n ≡ length xs → slice_get (map f xs) i ≡ Some (x ∷ w)
    → y ≡ placed i (i + 1 == n) x → f a ≡ w → next_of i (map f xs) ≡ Some (y, map f (set xs i a))
take_next f i n xs x y a w e g is left =
    let last : (i + 1 == n) ≡ (i + 1 == length (map f xs)) = ap (λ (m : ℕ). i + 1 == m) (e ∙ sym (length-map xs f)) in
    let next = next_at i (map f xs) (i + 1 == n) x w (told_last i (length (map f xs)) (i + 1 == n) last) g in
    next ∙ ap₂ (λ (z : StreamEvent) (vs : List (List StreamEvent)). Some (z, vs)) (sym is) (ap (set (map f xs) i) (sym left) ∙ sym (map-set f xs i a))

-- what is left has room
pub left_room : (i : ℕ) (ws : List (List StreamEvent)) (x : StreamEvent) (rest : List (List StreamEvent)) → HasRoom 0 ws → next_of i ws ≡ Some (x, rest) → HasRoom 0 rest
left_room i ws x rest h e = (subst (λ o. IfSome o (λ next. StillHasRoom 0 ws next.1)) e (next_has_room i 0 ws h)).room

-- one step more to the right has room
pub room_left : (last : Bool) (depth step : ℕ) (event at_step : StreamEvent) → step < depth → (if last then depth else depth + 1) + length event.path ≤ 63
    → at_step ≡ right_by step (if last then event else under Left event) → length at_step.path < 63
room_left true depth step event at_step l h e = omega (arith, l, h, length-right_by step event, ap (λ (x : StreamEvent). length x.path) e)
room_left false depth step event at_step l h e = omega (arith, l, h, length-right_by step (under Left event), ap (λ (x : StreamEvent). length x.path) e)

-- a word with none behind it is the last
pub told_empty : (last : Bool) (n m : ℕ) → last ≡ (n == 0) → m ≡ suc n → IsLast 0 m last
told_empty true n m e k = is_last (grind (arith, nat_tests))
told_empty false n m e k = not_last (grind (arith, nat_tests))

none_longer : (a events : List StreamEvent) → length (a ++ events) ≡ length a → events ≡ []
none_longer a [] e = refl
none_longer a (x ∷ events) e = absurd (omega (arith, e, length-append a (x ∷ events)))

-- a round that took nothing leaves what is still to come, in order
pub idle_round : (a b : List StreamEvent) (schedule : List ℕ) (ws vs : List (List StreamEvent)) (n : ℕ) → b ≡ a ++ (take_at schedule ws).events → length b ≡ length a → vs ≡ (take_at schedule ws).left
    → b ++ in_order vs ≡ a ++ rest_of n schedule ws
idle_round a b schedule ws vs n e l f =
    let none : (take_at schedule ws).events ≡ [] = none_longer a (take_at schedule ws).events (ap length (sym e) ∙ l) in
    ap₂ (λ (xs : List StreamEvent) (us : List (List StreamEvent)). xs ++ in_order us) (e ∙ ap (λ (xs : List StreamEvent). a ++ xs) none ∙ append-nil a) (f ∙ idle schedule ws none)
    ∙ ap (λ (xs : List StreamEvent). a ++ xs) (sym (idle_rest n schedule ws none))

-- what a round took, and what is still to come
pub round_more : (a b : List StreamEvent) (schedule : List ℕ) (ws vs : List (List StreamEvent)) (n k : ℕ) → n ≡ suc k → b ≡ a ++ (take_at schedule ws).events → vs ≡ (take_at schedule ws).left
    → b ++ rest_of k schedule vs ≡ a ++ rest_of n schedule ws
round_more a b schedule ws vs n k m e f =
    ap₂ (λ (xs : List StreamEvent) (us : List (List StreamEvent)). xs ++ rest_of k schedule us) e f
    ∙ append_assoc a (take_at schedule ws).events (rest_of k schedule (take_at schedule ws).left)
    ∙ ap (λ (xs : List StreamEvent). a ++ xs) (sym (round_rest k schedule ws) ∙ ap (λ (i : ℕ). rest_of i schedule ws) (sym m))

-- no step to the right changes nothing
pub map-right_by : (xs : List StreamEvent) → map (right_by 0) xs ≡ xs
map-right_by [] = refl
map-right_by (x ∷ xs) = ap (λ (ys : List StreamEvent). x ∷ ys) (map-right_by xs)
