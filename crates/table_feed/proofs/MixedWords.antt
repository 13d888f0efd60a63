-- In whatever order words are mixed, the mixed word stands for their prefixes side by side.
use Rattle.std.proofs.Common.{◌≡◌, ℕ, zero, suc, List, [], ◌∷◌, ◌++◌, map, Option, Some, None, refl, ap, ap₂, ◌∙◌, append_assoc}
use Rattle.std.specs.Prelude.{IfSome, option_map}
use Rattle.stream_type.specs.StreamType.{StreamType, par}
use Rattle.stream_prefix.specs.StreamPrefix.{par_both, emp, join}
use Rattle.stream_prefix.proofs.Derivations.{Derives, par_has_both}
use Rattle.stream_prefix.proofs.Joins.{der-emp, join-emp}
use Rattle.event_word.specs.declared.event.Step.TheVariants.{Left, Right}
use Rattle.event_word.specs.StreamEvent.{StreamEvent, under}
use Rattle.event_word.specs.Admits.{Admits}
use Rattle.event_word.specs.Word.{one_of, after, IsWord, pre}
use Rattle.event_word.proofs.Words.{word_derives}
use Rattle.event_word.proofs.Spelling.{right_pre}
use Rattle.table_feed.specs.Mixing.{AreWords, pre_beside, next_of, take_or_pass, take_at, rounds, in_order, longest, mixed_word}

-- the prefixes of words side by side are a prefix
pub beside_derives : (s : StreamType) (ws : List (List StreamEvent)) → AreWords s ws → Derives s (pre_beside s ws)
beside_derives s [] h = absurd h
beside_derives s (w ∷ []) h = word_derives s w h
beside_derives (par s t) (w ∷ v ∷ ws) h = par_has_both (word_derives s w h.0) (beside_derives t (v ∷ ws) h.1)
beside_derives s (w ∷ v ∷ ws) h = absurd h

-- an event, and what it leaves of words: together they stand for all the words
pub record IsNext (s : StreamType) (ws : List (List StreamEvent)) (x : StreamEvent) (rest : List (List StreamEvent)) : Type 0 where
  pub admitted : Admits s x
  pub words : AreWords (after x s) rest
  pub means : join (one_of x s) (pre_beside (after x s) rest) ≡ pre_beside s ws

-- the next event of the first word
next_left : (s t : StreamType) (x : StreamEvent) (w v : List StreamEvent) (ws : List (List StreamEvent))
    → IsWord s (x ∷ w) → AreWords t (v ∷ ws) → IsNext (par s t) ((x ∷ w) ∷ v ∷ ws) (under Left x) (w ∷ v ∷ ws)
next_left s t x w v ws h k = record {
  admitted = h.0;
  words = rw (der-emp t) (h.1, k);
  means = rw (der-emp t) (ap (par_both (pre s (x ∷ w))) (join-emp (beside_derives t (v ∷ ws) k)));
}

-- the next event of a later word
next_right : (s t : StreamType) (w v : List StreamEvent) (ws : List (List StreamEvent)) (x : StreamEvent) (rest : List (List StreamEvent))
    → IsWord s w → IsNext t (v ∷ ws) x rest → IsNext (par s t) (w ∷ v ∷ ws) (under Right x) (w ∷ rest)
next_right s t w v ws x [] h k = absurd k.words
next_right s t w v ws x (r ∷ rs) h k = record {
  admitted = k.admitted;
  words = rw (der-emp s) (h, k.words);
  means = rw (der-emp s) (ap₂ par_both (join-emp (word_derives s w h)) k.means);
}

-- what holds of the value that a function makes
mapped : {A B : Type 0} (o : Option A) (f : A → B) (P : A → Type 0) (Q : B → Type 0) → ((a : A) → P a → Q (f a)) → IfSome o P → IfSome (option_map f o) Q
mapped None f P Q more h = tt
mapped (Some a) f P Q more h = more a h

-- the next event of the word of a number
pub next_is : (i : ℕ) (s : StreamType) (ws : List (List StreamEvent)) → AreWords s ws → IfSome (next_of i ws) (λ next. IsNext s ws next.0 next.1)
next_is i s [] h = absurd h
next_is zero s ([] ∷ ws) h = tt
next_is zero s ((x ∷ w) ∷ []) h = record { admitted = h.0; words = h.1; means = refl }
next_is zero (par s t) ((x ∷ w) ∷ v ∷ ws) h = next_left s t x w v ws h.0 h.1
next_is zero s ((x ∷ w) ∷ v ∷ ws) h = absurd h
next_is (suc i) s (w ∷ []) h = tt
next_is (suc i) (par s t) (w ∷ v ∷ ws) h =
    mapped (next_of i (v ∷ ws)) (λ (next : StreamEvent × List (List StreamEvent)). (under Right next.0, w ∷ next.1)) (λ next. IsNext t (v ∷ ws) next.0 next.1) (λ next. IsNext (par s t) (w ∷ v ∷ ws) next.0 next.1)
    (λ next k. next_right s t w v ws next.0 next.1 h.0 k)
    (next_is i t (v ∷ ws) h.1)
next_is (suc i) s (w ∷ v ∷ ws) h = absurd h

-- events that are a word, and stand for all the words
pub record Spells (s : StreamType) (ws : List (List StreamEvent)) (out : List StreamEvent) : Type 0 where
  pub word : IsWord s out
  pub means : pre s out ≡ pre_beside s ws

spells_next : (s : StreamType) (ws : List (List StreamEvent)) (x : StreamEvent) (rest : List (List StreamEvent)) (out : List StreamEvent)
    → IsNext s ws x rest → Spells (after x s) rest out → Spells s ws (x ∷ out)
spells_next s ws x rest out k h = record {
  word = (k.admitted, h.word);
  means = ap (join (one_of x s)) h.means ∙ k.means;
}

-- events on the right side of a pair
right_word : (s t : StreamType) (w : List StreamEvent) → IsWord t w → IsWord (par s t) (map (under Right) w)
right_word s t [] h = tt
right_word s t (x ∷ w) h = (h.0, rw (der-emp s) (right_word s (after x t) w h.1))

-- one word after another
pub in_order_spells : (s : StreamType) (ws : List (List StreamEvent)) → AreWords s ws → Spells s ws (in_order ws)
in_order_spells s [] h = absurd h
in_order_spells s (w ∷ []) h = record { word = h; means = refl }
in_order_spells (par s t) (w ∷ v ∷ ws) h = from_first (in_order_spells t (v ∷ ws) h.1) s w h.0
  where
    from_first : Spells t (v ∷ ws) (in_order (v ∷ ws)) → (s : StreamType) (w : List StreamEvent) → IsWord s w → Spells (par s t) (w ∷ v ∷ ws) (map (under Left) w ++ map (under Right) (in_order (v ∷ ws)))
    from_first later s [] k = record {
      word = right_word s t (in_order (v ∷ ws)) later.word;
      means = right_pre s t (in_order (v ∷ ws)) later.word ∙ ap (par_both (emp s)) later.means;
    }
    from_first later s (x ∷ w) k =
        let rest : Spells (after (under Left x) (par s t)) (w ∷ v ∷ ws) (map (under Left) w ++ map (under Right) (in_order (v ∷ ws))) =
        rw (der-emp t) (from_first later (after x s) w k.1) in
        spells_next (par s t) ((x ∷ w) ∷ v ∷ ws) (under Left x) (w ∷ v ∷ ws) _ (next_left s t x w v ws k h.1) rest
in_order_spells s (w ∷ v ∷ ws) h = absurd h

-- the events at the numbers of a schedule, and then what spells the words that they leave
take_spells : (later : List (List StreamEvent) → List StreamEvent) → ((s : StreamType) (ws : List (List StreamEvent)) → AreWords s ws → Spells s ws (later ws))
    → (schedule : List ℕ) (s : StreamType) (ws : List (List StreamEvent)) → AreWords s ws
    → Spells s ws ((take_at schedule ws).events ++ later (take_at schedule ws).left)
take_spells later spelled [] s ws h = spelled s ws h
take_spells later spelled (i ∷ schedule) s ws h = by_next (λ t vs k. take_spells later spelled schedule t vs k) (next_of i ws) (next_is i s ws h)
  where
    by_next : ((t : StreamType) (vs : List (List StreamEvent)) → AreWords t vs → Spells t vs ((take_at schedule vs).events ++ later (take_at schedule vs).left))
        → (next : Option (StreamEvent × List (List StreamEvent))) → IfSome next (λ next. IsNext s ws next.0 next.1)
        → Spells s ws ((take_or_pass (take_at schedule) next ws).events ++ later (take_or_pass (take_at schedule) next ws).left)
    by_next more None k = more s ws h
    by_next more (Some next) k = spells_next s ws next.0 next.1 _ k (more (after next.0 s) next.1 k.words)

-- so many rounds, and then one word after another
pub rounds_spell : (n : ℕ) (schedule : List ℕ) (s : StreamType) (ws : List (List StreamEvent)) → AreWords s ws
    → Spells s ws ((rounds n schedule ws).events ++ in_order (rounds n schedule ws).left)
rounds_spell zero schedule s ws h = in_order_spells s ws h
rounds_spell (suc n) schedule s ws h =
    let later = λ (vs : List (List StreamEvent)). (rounds n schedule vs).events ++ in_order (rounds n schedule vs).left in
    let whole = take_spells later (λ t vs k. rounds_spell n schedule t vs k) schedule s ws h in
    rw (append_assoc (take_at schedule ws).events (rounds n schedule (take_at schedule ws).left).events (in_order (rounds n schedule (take_at schedule ws).left).left)) whole

pub mixed_spells : (schedule : List ℕ) (s : StreamType) (ws : List (List StreamEvent)) → AreWords s ws → Spells s ws (mixed_word schedule ws)
mixed_spells schedule s ws h = rounds_spell (longest ws) schedule s ws h
