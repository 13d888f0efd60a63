-- The one value of a sentence, and the first token that doesn't fit.
use Rattle.std.proofs.Common.{◌≡◌, ℕ, suc, ◌+◌, ◌-◌, ◌<◌, ◌≤◌, List, [], ◌∷◌, ◌++◌, refl, sym, ap, ◌∙◌, length, take, drop, append_assoc, append-nil, subst, arith, length-append}
use Rattle.std.proofs.Math.Seq.{take-append_seam, drop-append_seam, take-append-add}
use Rattle.std.proofs.lemmas.List.{length-take-le, take-take}
use Rattle.grammar.specs.Rules.{Language, TokenOf, Value, part}
use Rattle.grammar.specs.Grammar.{Grammar}
use Rattle.grammar.specs.Reading.{Outcome, got, stuck, read, reading, weight}
use Rattle.grammar.specs.Sentences.{IsSentence, Begins, IsMisfit}
use Rattle.grammar.proofs.Checked.{Checked}
use Rattle.grammar.proofs.Prefixes.{IsRead, IsStuck, IsGood, SameNext}
use Rattle.grammar.proofs.Levels.{good_read, levels}
use Rattle.grammar.proofs.Complete.{complete}

taken_is : {K : Type 0} → (ts u r : List K) (m : ℕ) → ts ≡ u ++ r → length r ≡ m → u ≡ take (length ts - m) ts
taken_is ts u r m e h =
    let n : length ts - m ≡ length u = (let c : length ts ≡ length u + length r = ap length e ∙ length-append u r in omega arith) in
    rw (n, e) (sym (take-append_seam u r))

after_is : {K : Type 0} → (ts u w r q : List K) → ts ≡ u ++ r → ts ≡ w ++ q → u ≡ w → r ≡ q
after_is ts u w r q e f h =
    let g : u ++ r ≡ u ++ q = sym e ∙ f ∙ ap (λ y. y ++ q) (sym h) in
    sym (drop-append_seam u r) ∙ ap (drop (length u)) g ∙ drop-append_seam u q

-- the tokens up to number n are those before it and that one
up_to : {K : Type 0} → (ts u r : List K) (x : K) → ts ≡ u ++ (x ∷ r) → take (length u + 1) ts ≡ u ++ (x ∷ [])
up_to ts u r x e = rw (e, take-append-add u (x ∷ r) 1) refl

take-take-le : {K : Type 0} → (n d : ℕ) (ts : List K) → n ≤ d → take n (take d ts) ≡ take n ts
take-take-le n d ts h = rw (take-take n d ts) (ap (λ k. take k ts) (omega arith))

module _ (L : Language) (G : Grammar L) (C : Checked L G) (p : L.Part) where
  pub sentence_read : (ts : List (TokenOf L)) (v : Value L (L.stands_for p)) → IsSentence L G p ts v → reading L G p ts ≡ got v []
  sentence_read ts v d = ap (λ us. reading L G p us) (sym (append-nil ts)) ∙ complete L G C d refl [] refl

  -- the tokens are one sentence at most
  pub one_sentence : (ts : List (TokenOf L)) (v w : Value L (L.stands_for p)) → IsSentence L G p ts v → IsSentence L G p ts w → v ≡ w
  one_sentence ts v w d e =
      let a : reading L G p ts ≡ got v [] = sentence_read ts v d in
      let b : reading L G p ts ≡ got w [] = sentence_read ts w e in
      cc

  same_read : (k : ℕ) (ts : List (TokenOf L)) → weight L G p ts < k → read L G k p ts ≡ reading L G p ts
  unfolding reading
  same_read k ts h = levels L G C k (suc (weight L G p ts)) p ts h (omega arith)

  is_read : (k : ℕ) (ts : List (TokenOf L)) (v : Value L (L.stands_for p)) (rest : List (TokenOf L)) → read L G k p ts ≡ got v rest → IsRead L G (L.stands_for p) (part p) (read L G k p) ts v rest
  is_read k ts v rest e = (let P : Outcome (TokenOf L) (Value L (L.stands_for p)) → Type 0 = λ o. IsGood L G (L.stands_for p) (part p) (read L G k p) ts o in subst P e (good_read L G C k p ts))

  is_stuck : (k : ℕ) (ts : List (TokenOf L)) (n : ℕ) → read L G k p ts ≡ stuck n → IsStuck L G (L.stands_for p) (part p) (read L G k p) ts n
  is_stuck k ts n e = (let P : Outcome (TokenOf L) (Value L (L.stands_for p)) → Type 0 = λ o. IsGood L G (L.stands_for p) (part p) (read L G k p) ts o in subst P e (good_read L G C k p ts))

  enough : List (TokenOf L) → ℕ
  enough ts = suc (weight L G p ts)

  pub read_whole : (ts : List (TokenOf L)) (v : Value L (L.stands_for p)) → reading L G p ts ≡ got v [] → IsSentence L G p ts v
  unfolding enough
  read_whole ts v e =
      let r = is_read (enough ts) ts v [] (same_read (enough ts) ts (omega arith) ∙ e) in
      let same : ts ≡ r.taken = r.split ∙ append-nil r.taken in
      rw same r.derived

  -- what is left is the end of the tokens
  pub rest_is : (ts : List (TokenOf L)) (v : Value L (L.stands_for p)) (rest : List (TokenOf L)) → reading L G p ts ≡ got v rest → rest ≡ drop (length ts - length rest) ts
  unfolding enough
  rest_is ts v rest e =
      let r = is_read (enough ts) ts v rest (same_read (enough ts) ts (omega arith) ∙ e) in
      let n : length ts ≡ length r.taken + length rest = ap length r.split ∙ length-append r.taken rest in
      let k : length ts - length rest ≡ length r.taken = omega arith in
      sym (ap (λ j. drop j ts) k ∙ ap (drop (length r.taken)) r.split ∙ drop-append_seam r.taken rest)

  both_levels : (a b : List (TokenOf L)) → ℕ
  both_levels a b = suc (weight L G p a + weight L G p b)

  -- no sentence begins with the tokens up to one at which reading is stuck
  stuck_fails : (ts u r : List (TokenOf L)) (x : TokenOf L) → ts ≡ u ++ (x ∷ r) → reading L G p ts ≡ stuck (length (x ∷ r))
      → (more : List (TokenOf L)) (v : Value L (L.stands_for p)) → IsSentence L G p ((u ++ (x ∷ [])) ++ more) v → ⊥
  unfolding both_levels
  stuck_fails ts u r x e h more v d =
      let q : List (TokenOf L) = x ∷ more in
      let w : List (TokenOf L) = u ++ q in
      let k : ℕ = both_levels ts w in
      let s = is_stuck k ts (length (x ∷ r)) (same_read k ts (omega arith) ∙ h) in
      let same : s.taken ≡ u = taken_is ts s.taken s.rest (length (x ∷ r)) s.split s.left ∙ sym (taken_is ts u (x ∷ r) (length (x ∷ r)) e refl) in
      let rest : s.rest ≡ x ∷ r = after_is ts s.taken u s.rest (x ∷ r) s.split e same in
      let next : SameNext s.rest q = (let P : List (TokenOf L) → Type 0 = λ y. SameNext y q in subst P (sym rest) refl) in
      let no : read L G k p (s.taken ++ q) ≡ stuck (length q) = s.again q next in
      let no' : read L G k p w ≡ stuck (length q) = ap (λ y. read L G k p (y ++ q)) (sym same) ∙ no in
      let d' : IsSentence L G p w v = (rw append_assoc at d) in
      let yes : read L G k p w ≡ got v [] = same_read k w (omega arith) ∙ sentence_read w v d' in
      cc

  -- nor does one with the tokens up to one that stands after a whole sentence and can't go on with it
  rest_fails : (ts u r : List (TokenOf L)) (x : TokenOf L) (t : Value L (L.stands_for p)) → ts ≡ u ++ (x ∷ r) → reading L G p ts ≡ got t (x ∷ r)
      → (more : List (TokenOf L)) (v : Value L (L.stands_for p)) → IsSentence L G p ((u ++ (x ∷ [])) ++ more) v → ⊥
  unfolding both_levels
  rest_fails ts u r x t e h more v d =
      let q : List (TokenOf L) = x ∷ more in
      let w : List (TokenOf L) = u ++ q in
      let k : ℕ = both_levels ts w in
      let s = is_read k ts t (x ∷ r) (same_read k ts (omega arith) ∙ h) in
      let same : s.taken ≡ u = taken_is ts s.taken (x ∷ r) (length (x ∷ r)) s.split refl ∙ sym (taken_is ts u (x ∷ r) (length (x ∷ r)) e refl) in
      let no : read L G k p (s.taken ++ q) ≡ got t q = s.again q refl in
      let no' : read L G k p w ≡ got t q = ap (λ y. read L G k p (y ++ q)) (sym same) ∙ no in
      let d' : IsSentence L G p w v = (rw append_assoc at d) in
      let yes : read L G k p w ≡ got v [] = same_read k w (omega arith) ∙ sentence_read w v d' in
      cc

  from_rest : (ts u r : List (TokenOf L)) (m : ℕ) → ts ≡ u ++ r → length r ≡ m → Begins L G p u
      → ((x : TokenOf L) (q : List (TokenOf L)) → r ≡ x ∷ q → (more : List (TokenOf L)) (v : Value L (L.stands_for p)) → IsSentence L G p ((u ++ (x ∷ [])) ++ more) v → ⊥)
      → (r ≡ [] → (v : Value L (L.stands_for p)) → IsSentence L G p ts v → ⊥)
      → IsMisfit L G p ts (length ts - m)
  from_rest ts u [] m e h b f g =
      let c : length ts - m ≡ length ts = omega arith in
      let w : u ≡ take (length ts - m) ts = taken_is ts u [] m e h in
      record {
        within = omega arith;
        begins = rw (← w) b;
        fails = λ below _. absurd (omega arith);
        ends = λ _. g refl;
      }
  from_rest ts u (x ∷ r) m e h b f g =
      let n : length ts ≡ length u + length (x ∷ r) = ap length e ∙ length-append u (x ∷ r) in
      let c : length ts - m ≡ length u = omega arith in
      let w : u ≡ take (length ts - m) ts = taken_is ts u (x ∷ r) m e h in
      record {
        within = omega arith;
        begins = rw (← w) b;
        fails = λ below k. f x r refl k.0 k.1 (rw (c, up_to ts u r x e) at k.2);
        ends = λ z. absurd (omega arith);
      }

  pub misfit_stuck : (ts : List (TokenOf L)) (m : ℕ) → reading L G p ts ≡ stuck m → IsMisfit L G p ts (length ts - m)
  unfolding enough
  misfit_stuck ts m e =
      let s = is_stuck (enough ts) ts m (same_read (enough ts) ts (omega arith) ∙ e) in
      from_rest ts s.taken s.rest m s.split s.left (s.more, s.value, s.completed)
      (λ x q z. stuck_fails ts s.taken q x (s.split ∙ ap (λ y. s.taken ++ y) z) (e ∙ ap stuck (sym s.left ∙ ap length z)))
      (λ z v d. let y : reading L G p ts ≡ got v [] = sentence_read ts v d in cc)

  pub misfit_rest : (ts : List (TokenOf L)) (t : Value L (L.stands_for p)) (x : TokenOf L) (r : List (TokenOf L)) → reading L G p ts ≡ got t (x ∷ r) → IsMisfit L G p ts (length ts - length (x ∷ r))
  unfolding enough
  misfit_rest ts t x r e =
      let s = is_read (enough ts) ts t (x ∷ r) (same_read (enough ts) ts (omega arith) ∙ e) in
      let whole : IsSentence L G p (s.taken ++ []) t = rw append-nil s.derived in
      from_rest ts s.taken (x ∷ r) (length (x ∷ r)) s.split refl ([], t, whole)
      (λ y q z. let a : x ≡ y = cc in let b : r ≡ q = cc in rest_fails ts s.taken q y t (s.split ∙ ap (λ j. s.taken ++ j) z) (e ∙ ap (got t) z))
      (λ z. absurd (let w : x ∷ r ≡ [] = z in cc))

  pub misfit_front : (ts : List (TokenOf L)) (d n : ℕ) → d ≤ length ts → n < d → IsMisfit L G p (take d ts) n → IsMisfit L G p ts n
  misfit_front ts d n h k m =
      let a : length (take d ts) ≡ d = length-take-le d ts h in
      let b : take n (take d ts) ≡ take n ts = take-take-le n d ts (omega arith) in
      let c : take (n + 1) (take d ts) ≡ take (n + 1) ts = take-take-le (n + 1) d ts (omega arith) in
      record {
        within = omega arith;
        begins = (rw b at m.begins);
        fails = λ _ g. m.fails (omega arith) (rw c g);
        ends = λ z. absurd (omega arith);
      }

  pub whole : (ts rest : List (TokenOf L)) (v : Value L (L.stands_for p)) → reading L G p ts ≡ got v rest → length rest ≡ 0 → IsSentence L G p ts v
  whole ts [] v e h = read_whole ts v e
  whole ts (x ∷ r) v e h = absurd (omega arith)

  pub stops_behind : (ts rest : List (TokenOf L)) (v : Value L (L.stands_for p)) → reading L G p ts ≡ got v rest → (length rest ≡ 0 → ⊥) → (length rest ≤ length ts) × IsMisfit L G p ts (length ts - length rest)
  unfolding enough
  stops_behind ts [] v e h = absurd (h refl)
  stops_behind ts (x ∷ r) v e h =
      let s = is_read (enough ts) ts v (x ∷ r) (same_read (enough ts) ts (omega arith) ∙ e) in
      let n : length ts ≡ length s.taken + length (x ∷ r) = ap length s.split ∙ length-append s.taken (x ∷ r) in
      (omega arith, misfit_rest ts v x r e)

  pub stops_within : (ts : List (TokenOf L)) (m : ℕ) → reading L G p ts ≡ stuck m → (m ≤ length ts) × IsMisfit L G p ts (length ts - m)
  unfolding enough
  stops_within ts m e =
      let s = is_stuck (enough ts) ts m (same_read (enough ts) ts (omega arith) ∙ e) in
      let n : length ts ≡ length s.taken + length s.rest = ap length s.split ∙ length-append s.taken s.rest in
      (omega (arith, s.left), misfit_stuck ts m e)
