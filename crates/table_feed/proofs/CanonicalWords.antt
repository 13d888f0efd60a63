-- The canonical words of prefixes side by side.
use Rattle.std.proofs.Common.{◌≡◌, ℕ, List, [], ◌∷◌, map, ap₂, ◌∙◌}
use Rattle.stream_type.specs.StreamType.{StreamType, par}
use Rattle.stream_prefix.specs.StreamPrefix.{StreamPrefix, par_both}
use Rattle.event_word.specs.Word.{pre}
use Rattle.event_word.specs.Canon.{canon}
use Rattle.event_word.proofs.Spelling.{canon_is_word, pre-canon}
use Rattle.table_feed.specs.Mixing.{AreWords, ArePrefixes, pre_beside, beside, mixed_word}
use Rattle.table_feed.proofs.MixedWords.{mixed_spells}

pub canons_are_words : (s : StreamType) (ps : List StreamPrefix) → ArePrefixes s ps → AreWords s (map canon ps)
canons_are_words s [] h = absurd h
canons_are_words s (p ∷ []) h = canon_is_word s p h
canons_are_words (par s t) (p ∷ q ∷ ps) h = (canon_is_word s p h.0, canons_are_words t (q ∷ ps) h.1)
canons_are_words s (p ∷ q ∷ ps) h = absurd h

pre_beside-canons : (s : StreamType) (ps : List StreamPrefix) → ArePrefixes s ps → pre_beside s (map canon ps) ≡ beside ps
pre_beside-canons s [] h = absurd h
pre_beside-canons s (p ∷ []) h = pre-canon s p h
pre_beside-canons (par s t) (p ∷ q ∷ ps) h = ap₂ par_both (pre-canon s p h.0) (pre_beside-canons t (q ∷ ps) h.1)
pre_beside-canons s (p ∷ q ∷ ps) h = absurd h

pub canons_are_mixed : (schedule : List ℕ) (s : StreamType) (ps : List StreamPrefix) → ArePrefixes s ps → pre s (mixed_word schedule (map canon ps)) ≡ beside ps
canons_are_mixed schedule s ps h = (mixed_spells schedule s (map canon ps) (canons_are_words s ps h)).means ∙ pre_beside-canons s ps h
