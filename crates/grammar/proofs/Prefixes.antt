-- What is read is derived, what stood before a token that doesn't fit can be completed, and both rest on
-- the tokens up to the next one alone.
use Rattle.std.proofs.Common.{◌≡◌, ℕ, Bool, true, false, List, Some, None, [], ◌∷◌, ◌++◌, refl, sym, ap, ◌∙◌, cond, length, append_assoc, subst}
use Rattle.grammar.specs.Rules.{Token, Sort, token, place, pair, option, Language, TokenOf, Value, Rule, one_of, part, both, either, maybe, placed, make}
use Rattle.grammar.specs.Grammar.{Grammar, place_of, Derives, by_token, by_both, by_left, by_right, by_none, by_some, by_placed, by_make}
use Rattle.grammar.specs.Reading.{Outcome, got, stuck, out, ◌>>=◌, starts, nullable, first, Reads, read_with}
use Rattle.grammar.proofs.Checked.{Sample, IsSound, Checked}
use Rattle.grammar.proofs.FirstTokens.{nullable_law}

-- both end at once, or go on with the same token
abbrev pub SameNext : {K : Type 0} → List K → List K → Type 0
SameNext [] ys = ys ≡ []
SameNext (x ∷ xs) [] = ⊥
SameNext (x ∷ xs) (y ∷ ys) = x ≡ y

pub same_behind : {K : Type 0} → (u r q : List K) → SameNext r q → SameNext (u ++ r) (u ++ q)
same_behind [] r q h = h
same_behind (x ∷ u) r q h = refl

pub starts_same : {T W : Type 0} → (is : T → Bool) (u r q : List (Token T W)) → SameNext r q → starts is (u ++ r) ≡ starts is (u ++ q)
starts_same is [] [] [] h = refl
starts_same is [] [] (y ∷ q) h = cc
starts_same is [] (x ∷ r) [] h = absurd h
starts_same {T = T} {W = W} is [] (x ∷ r) (y ∷ q) h = ap (λ (t : Token T W). is t.kind) h
starts_same is (x ∷ u) r q h = refl

place_same : {T W : Type 0} → (u r q : List (Token T W)) → SameNext r q → place_of (u ++ r) ≡ place_of (u ++ q)
place_same [] [] [] h = refl
place_same [] [] (y ∷ q) h = cc
place_same [] (x ∷ r) [] h = absurd h
place_same {T = T} {W = W} [] (x ∷ r) (y ∷ q) h = ap (λ (t : Token T W). t.at) h
place_same (x ∷ u) r q h = refl

place_front : {T W : Type 0} → (u r : List (Token T W)) → (u ≡ [] → ⊥) → place_of (u ++ r) ≡ place_of u
place_front [] r h = absurd (h refl)
place_front (x ∷ u) r h = refl

module _ (L : Language) (G : Grammar L) where
  pub record IsRead (s : Sort L.Thing) (a : Rule L s) (F : List (TokenOf L) → Outcome (TokenOf L) (Value L s)) (ts : List (TokenOf L)) (v : Value L s) (rest : List (TokenOf L)) : Type 0 where
    pub taken : List (TokenOf L)
    pub split : ts ≡ taken ++ rest
    pub derived : Derives L G s a taken v
    pub again : (q : List (TokenOf L)) → SameNext rest q → F (taken ++ q) ≡ got v q

  pub record IsStuck (s : Sort L.Thing) (a : Rule L s) (F : List (TokenOf L) → Outcome (TokenOf L) (Value L s)) (ts : List (TokenOf L)) (n : ℕ) : Type 0 where
    pub taken : List (TokenOf L)
    pub rest : List (TokenOf L)
    pub split : ts ≡ taken ++ rest
    pub left : length rest ≡ n
    pub more : List (TokenOf L)
    pub value : Value L s
    pub completed : Derives L G s a (taken ++ more) value
    pub again : (q : List (TokenOf L)) → SameNext rest q → F (taken ++ q) ≡ stuck (length q)

  abbrev pub IsGood : (s : Sort L.Thing) (a : Rule L s) (F : List (TokenOf L) → Outcome (TokenOf L) (Value L s)) (ts : List (TokenOf L)) → Outcome (TokenOf L) (Value L s) → Type 0
  IsGood s a F ts (got v rest) = IsRead s a F ts v rest
  IsGood s a F ts (stuck n) = IsStuck s a F ts n
  IsGood s a F ts out = Unit {0}

  module _ (C : Checked L G) where
    -- each rule has a sentence, where each part has
    sample_of : {s : Sort L.Thing} → (a : Rule L s) → IsSound L G a → Sample L G s a
    sample_of (one_of is) h = record { tokens = h.0 ∷ []; value = h.0; derived = by_token h.1 }
    sample_of (part p) h = C.sample p
    sample_of (both a b) h =
        let x = sample_of a h.0 in
        let y = sample_of b h.1 in
        record { tokens = x.tokens ++ y.tokens; value = (x.value, y.value); derived = by_both x.derived y.derived }
    sample_of (either a b) h =
        let x = sample_of a h.0 in
        record { tokens = x.tokens; value = x.value; derived = by_left x.derived }
    sample_of (maybe a) h = record { tokens = []; value = None; derived = by_none }
    sample_of (placed a) h =
        let x = sample_of a h.0 in
        record { tokens = x.tokens; value = (place_of x.tokens, x.value); derived = by_placed x.derived }
    sample_of (make m a) h =
        let x = sample_of a h in
        record { tokens = x.tokens; value = m x.value; derived = by_make x.derived }

    module _ (f : Reads L) where
      good_then : (s t : Sort L.Thing) (a : Rule L s) (b : Rule L t) (ts : List (TokenOf L)) (v : Value L s) (rest : List (TokenOf L))
          → IsRead s a (read_with L G f a) ts v rest → (o : Outcome (TokenOf L) (Value L t)) → IsGood t b (read_with L G f b) rest o
          → IsGood (pair s t) (both a b) (read_with L G f (both a b)) ts (o >>= λ y. got (v, y.0) y.1)
      good_then s t a b ts v rest r (got w rest2) k = record {
        taken = r.taken ++ k.taken;
        split = r.split ∙ ap (λ x. r.taken ++ x) k.split ∙ sym (append_assoc r.taken k.taken rest2);
        derived = by_both r.derived k.derived;
        again = λ q h.
            let same : SameNext rest (k.taken ++ q) = (let P : List (TokenOf L) → Type 0 = λ x. SameNext x (k.taken ++ q) in subst P (sym k.split) (same_behind k.taken rest2 q h)) in
            let e : read_with L G f a (r.taken ++ (k.taken ++ q)) ≡ got v (k.taken ++ q) = r.again (k.taken ++ q) same in
            let g : read_with L G f b (k.taken ++ q) ≡ got w q = k.again q h in
            rw (append_assoc r.taken k.taken q, e, g) refl;
      }
      good_then s t a b ts v rest r (stuck n) k = record {
        taken = r.taken ++ k.taken;
        rest = k.rest;
        split = r.split ∙ ap (λ x. r.taken ++ x) k.split ∙ sym (append_assoc r.taken k.taken k.rest);
        left = k.left;
        more = k.more;
        value = (v, k.value);
        completed = rw (append_assoc r.taken k.taken k.more) (by_both r.derived k.completed);
        again = λ q h.
            let same : SameNext rest (k.taken ++ q) = (let P : List (TokenOf L) → Type 0 = λ x. SameNext x (k.taken ++ q) in subst P (sym k.split) (same_behind k.taken k.rest q h)) in
            let e : read_with L G f a (r.taken ++ (k.taken ++ q)) ≡ got v (k.taken ++ q) = r.again (k.taken ++ q) same in
            let g : read_with L G f b (k.taken ++ q) ≡ stuck (length q) = k.again q h in
            rw (append_assoc r.taken k.taken q, e, g) refl;
      }
      good_then s t a b ts v rest r out k = tt

      good_both : (s t : Sort L.Thing) (a : Rule L s) (b : Rule L t) (ts : List (TokenOf L)) → Sample L G t b
          → (o : Outcome (TokenOf L) (Value L s)) → IsGood s a (read_with L G f a) ts o
          → ((rest : List (TokenOf L)) → IsGood t b (read_with L G f b) rest (read_with L G f b rest))
          → IsGood (pair s t) (both a b) (read_with L G f (both a b)) ts (o >>= λ x. read_with L G f b x.1 >>= λ y. got (x.0, y.0) y.1)
      good_both s t a b ts sample (got v rest) r k = good_then s t a b ts v rest r (read_with L G f b rest) (k rest)
      good_both s t a b ts sample (stuck n) r k = record {
        taken = r.taken;
        rest = r.rest;
        split = r.split;
        left = r.left;
        more = r.more ++ sample.tokens;
        value = (r.value, sample.value);
        completed = rw (← append_assoc r.taken r.more sample.tokens) (by_both r.completed sample.derived);
        again = λ q h. let e : read_with L G f a (r.taken ++ q) ≡ stuck (length q) = r.again q h in rw e refl;
      }
      good_both s t a b ts sample out r k = tt

      good_left : (s : Sort L.Thing) (a b : Rule L s) (ts : List (TokenOf L)) → starts (first L G a) ts ≡ true → (o : Outcome (TokenOf L) (Value L s)) → IsGood s a (read_with L G f a) ts o
          → IsGood s (either a b) (read_with L G f (either a b)) ts o
      good_left s a b ts c (got v rest) r = record {
        taken = r.taken;
        split = r.split;
        derived = by_left r.derived;
        again = λ q h.
            let t : starts (first L G a) (r.taken ++ q) ≡ true = sym (starts_same (first L G a) r.taken rest q h) ∙ (rw (← r.split) c) in
            rw t (r.again q h);
      }
      good_left s a b ts c (stuck n) r = record {
        taken = r.taken;
        rest = r.rest;
        split = r.split;
        left = r.left;
        more = r.more;
        value = r.value;
        completed = by_left r.completed;
        again = λ q h.
            let t : starts (first L G a) (r.taken ++ q) ≡ true = sym (starts_same (first L G a) r.taken r.rest q h) ∙ (rw (← r.split) c) in
            rw t (r.again q h);
      }
      good_left s a b ts c out r = tt

      good_right : (s : Sort L.Thing) (a b : Rule L s) (ts : List (TokenOf L)) → starts (first L G a) ts ≡ false → (o : Outcome (TokenOf L) (Value L s)) → IsGood s b (read_with L G f b) ts o
          → IsGood s (either a b) (read_with L G f (either a b)) ts o
      good_right s a b ts c (got v rest) r = record {
        taken = r.taken;
        split = r.split;
        derived = by_right r.derived;
        again = λ q h.
            let t : starts (first L G a) (r.taken ++ q) ≡ false = sym (starts_same (first L G a) r.taken rest q h) ∙ (rw (← r.split) c) in
            rw t (r.again q h);
      }
      good_right s a b ts c (stuck n) r = record {
        taken = r.taken;
        rest = r.rest;
        split = r.split;
        left = r.left;
        more = r.more;
        value = r.value;
        completed = by_right r.completed;
        again = λ q h.
            let t : starts (first L G a) (r.taken ++ q) ≡ false = sym (starts_same (first L G a) r.taken r.rest q h) ∙ (rw (← r.split) c) in
            rw t (r.again q h);
      }
      good_right s a b ts c out r = tt

      good_some : (s : Sort L.Thing) (a : Rule L s) (ts : List (TokenOf L)) → starts (first L G a) ts ≡ true → (o : Outcome (TokenOf L) (Value L s)) → IsGood s a (read_with L G f a) ts o
          → IsGood (option s) (maybe a) (read_with L G f (maybe a)) ts (o >>= λ x. got (Some x.0) x.1)
      good_some s a ts c (got v rest) r = record {
        taken = r.taken;
        split = r.split;
        derived = by_some r.derived;
        again = λ q h.
            let t : starts (first L G a) (r.taken ++ q) ≡ true = sym (starts_same (first L G a) r.taken rest q h) ∙ (rw (← r.split) c) in
            let e : read_with L G f a (r.taken ++ q) ≡ got v q = r.again q h in
            rw (t, e) refl;
      }
      good_some s a ts c (stuck n) r = record {
        taken = r.taken;
        rest = r.rest;
        split = r.split;
        left = r.left;
        more = r.more;
        value = Some r.value;
        completed = by_some r.completed;
        again = λ q h.
            let t : starts (first L G a) (r.taken ++ q) ≡ true = sym (starts_same (first L G a) r.taken r.rest q h) ∙ (rw (← r.split) c) in
            let e : read_with L G f a (r.taken ++ q) ≡ stuck (length q) = r.again q h in
            rw (t, e) refl;
      }
      good_some s a ts c out r = tt

      good_none : (s : Sort L.Thing) (a : Rule L s) (ts : List (TokenOf L)) → starts (first L G a) ts ≡ false
          → IsGood (option s) (maybe a) (read_with L G f (maybe a)) ts (got None ts)
      good_none s a ts c = record {
        taken = [];
        split = refl;
        derived = by_none;
        again = λ q h.
            let t : starts (first L G a) q ≡ false = sym (starts_same (first L G a) [] ts q h) ∙ c in
            rw t refl;
      }

      good_either : (s : Sort L.Thing) (a b : Rule L s) (ts : List (TokenOf L)) → IsGood s a (read_with L G f a) ts (read_with L G f a ts) → IsGood s b (read_with L G f b) ts (read_with L G f b ts)
          → (c : Bool) → starts (first L G a) ts ≡ c → IsGood s (either a b) (read_with L G f (either a b)) ts (cond c (read_with L G f a ts) (read_with L G f b ts))
      good_either s a b ts g h true e = good_left s a b ts e (read_with L G f a ts) g
      good_either s a b ts g h false e = good_right s a b ts e (read_with L G f b ts) h

      good_maybe : (s : Sort L.Thing) (a : Rule L s) (ts : List (TokenOf L)) → IsGood s a (read_with L G f a) ts (read_with L G f a ts)
          → (c : Bool) → starts (first L G a) ts ≡ c → IsGood (option s) (maybe a) (read_with L G f (maybe a)) ts (cond c (read_with L G f a ts >>= λ x. got (Some x.0) x.1) (got None ts))
      good_maybe s a ts g true e = good_some s a ts e (read_with L G f a ts) g
      good_maybe s a ts g false e = good_none s a ts e

      good_placed : (s : Sort L.Thing) (a : Rule L s) (ts : List (TokenOf L)) → nullable L G a ≡ false → (o : Outcome (TokenOf L) (Value L s)) → IsGood s a (read_with L G f a) ts o
          → IsGood (pair place s) (placed a) (read_with L G f (placed a)) ts (o >>= λ x. got (place_of ts, x.0) x.1)
      good_placed s a ts c (got v rest) r =
          let full : r.taken ≡ [] → ⊥ = λ e. let n : nullable L G a ≡ true = nullable_law L G C r.derived e in cc in
          record {
            taken = r.taken;
            split = r.split;
            derived = (let e : place_of ts ≡ place_of r.taken = ap place_of r.split ∙ place_front r.taken rest full in rw e (by_placed r.derived));
            again = λ q h.
                let e : read_with L G f a (r.taken ++ q) ≡ got v q = r.again q h in
                let g : place_of (r.taken ++ q) ≡ place_of ts = sym (ap place_of r.split ∙ place_same r.taken rest q h) in
                rw (e, g) refl;
          }
      good_placed s a ts c (stuck n) r = record {
        taken = r.taken;
        rest = r.rest;
        split = r.split;
        left = r.left;
        more = r.more;
        value = (place_of (r.taken ++ r.more), r.value);
        completed = by_placed r.completed;
        again = λ q h. let e : read_with L G f a (r.taken ++ q) ≡ stuck (length q) = r.again q h in rw e refl;
      }
      good_placed s a ts c out r = tt

      good_make : (s t : Sort L.Thing) (m : Value L s → Value L t) (a : Rule L s) (ts : List (TokenOf L)) → (o : Outcome (TokenOf L) (Value L s)) → IsGood s a (read_with L G f a) ts o
          → IsGood t (make m a) (read_with L G f (make m a)) ts (o >>= λ x. got (m x.0) x.1)
      good_make s t m a ts (got v rest) r = record {
        taken = r.taken;
        split = r.split;
        derived = by_make r.derived;
        again = λ q h. let e : read_with L G f a (r.taken ++ q) ≡ got v q = r.again q h in rw e refl;
      }
      good_make s t m a ts (stuck n) r = record {
        taken = r.taken;
        rest = r.rest;
        split = r.split;
        left = r.left;
        more = r.more;
        value = m r.value;
        completed = by_make r.completed;
        again = λ q h. let e : read_with L G f a (r.taken ++ q) ≡ stuck (length q) = r.again q h in rw e refl;
      }
      good_make s t m a ts out r = tt

      good_token_cons : (is : L.Terminal → Bool) (x : TokenOf L) (hx : is x.kind ≡ true) (t : TokenOf L) (ts : List (TokenOf L)) (c : Bool) → is t.kind ≡ c
          → IsGood token (one_of is) (read_with L G f (one_of is)) (t ∷ ts) (cond c (got t ts) (stuck (length (t ∷ ts))))
      good_token_cons is x hx t ts true e = record {
        taken = t ∷ [];
        split = refl;
        derived = by_token e;
        again = λ q h. rw e refl;
      }
      good_token_cons is x hx t ts false e = record {
        taken = [];
        rest = t ∷ ts;
        split = refl;
        left = refl;
        more = x ∷ [];
        value = x;
        completed = by_token hx;
        again = λ q h. stuck_at q h;
      }
        where
          stuck_at : (q : List (TokenOf L)) → SameNext (t ∷ ts) q → read_with L G f (one_of is) q ≡ stuck (length q)
          stuck_at [] h = absurd h
          stuck_at (y ∷ q) h = let n : is y.kind ≡ false = (rw (← h) e) in rw n refl

      good_token : (is : L.Terminal → Bool) (x : TokenOf L) (hx : is x.kind ≡ true) (ts : List (TokenOf L)) → IsGood token (one_of is) (read_with L G f (one_of is)) ts (read_with L G f (one_of is) ts)
      good_token is x hx [] = record {
        taken = [];
        rest = [];
        split = refl;
        left = refl;
        more = x ∷ [];
        value = x;
        completed = by_token hx;
        again = λ q h. rw h refl;
      }
      good_token is x hx (t ∷ ts) = good_token_cons is x hx t ts (is t.kind) refl

    module _ (f : Reads L)
        (good : (p : L.Part) (ts : List (TokenOf L)) → IsGood (L.stands_for p) (part p) (f p) ts (f p ts)) where
      pub good_rule : {s : Sort L.Thing} → (a : Rule L s) → IsSound L G a → (ts : List (TokenOf L)) → IsGood s a (read_with L G f a) ts (read_with L G f a ts)
      good_rule (one_of is) h ts = good_token f is h.0 h.1 ts
      good_rule (part p) h ts = good p ts
      good_rule (both a b) h ts = good_both f _ _ a b ts (sample_of b h.1) (read_with L G f a ts) (good_rule a h.0 ts) (good_rule b h.1)
      good_rule {s = s} (either a b) h ts = good_either f s a b ts (good_rule a h.0 ts) (good_rule b h.1 ts) (starts (first L G a) ts) refl
      good_rule (maybe {s = s} a) h ts = good_maybe f s a ts (good_rule a h ts) (starts (first L G a) ts) refl
      good_rule (placed {s = s} a) h ts = good_placed f s a ts h.1 (read_with L G f a ts) (good_rule a h.0 ts)
      good_rule (make {s = s} {t = t} m a) h ts = good_make f s t m a ts (read_with L G f a ts) (good_rule a h ts)
