-- Clap's walk over a line of a command: it refuses no word of it.
use Rattle.std.proofs.Common.{◌≡◌, ◌⊎◌, inl, inr, ℕ, ◌+◌, ◌<◌, ◌≤◌, List, [], ◌∷◌, ◌++◌, length, length-append, Bool, true, false, ◌&&◌, ◌||◌, ◌==◌, not, cond, refl, sym, ap, ap₂, ◌∙◌, subst, codes, Option, Some, None, is_some, arith, drop, fold, suc}
use Rattle.std.specs.Prelude.{nat_eq, nat_le, option_and_then}
use Rattle.std.specs.List.{starts_with}
use Rattle.std.specs.Str.{bytes_eq}
use Rattle.std.proofs.lemmas.Bool.{eqb-true, not-true, and_parts}
use Rattle.std.proofs.lemmas.Bool.Decides.{nat_tests}
use Rattle.clap.specs.Values.{reading_of}
use Rattle.clap.specs.Faults.{turn_fault, walk_fault}
use Rattle.clap.specs.Walk.{Row, Text, Walk, Waiting, idle, option, positional, settled_rows, walked, with_values}
use Rattle.clap.specs.Words.{Shape}
use Rattle.clap.specs.declared.builder.value_parser.ValueParser.TheVariants as vp
use Rattle.clap.specs.declared.parser.matches.ValueSource.TheVariants.{CommandLine}
use Rattle.delta_words.specs.declared.command.Takes.{Takes}
use Rattle.delta_words.specs.CommandLine.{WrittenLine, is_option, value_of, with_operand, with_value, with_both, with_setting, with_option, read_word, read_rest}
use Rattle.delta_words.proofs.ClapRows.{found, used-new, same_bytes}
use Rattle.delta_words.proofs.ClapKnows.{Knows}
use Rattle.delta_words.proofs.ClapSteps as steps
use Rattle.delta_words.proofs.ClapSteps.{at, place_of, IsPlain, Holds, Good, Stands, Awaits, word_row, flag_row, flag_found, unused}
use Rattle.delta_words.proofs.ClapHolds.{add_first, add_second, add_rest, add_budget, add_v2, add_frames}

is_none : {A : Type 0} (o : Option A) → is_some o ≡ false → o ≡ None
is_none None e = refl
is_none (Some x) e = cc

-- a text that begins with another is that one and what is left
begins : (a b : List ℕ) → starts_with nat_eq a b ≡ true → a ≡ b ++ drop (length b) a
begins a [] e = refl
begins [] (y ∷ b) e = cc
begins (x ∷ a) (y ∷ b) e =
    let h = and_parts (y == x) (starts_with nat_eq a b) e in
    ap₂ (λ (k : ℕ) (r : List ℕ). k ∷ r) (sym (eqb-true y x h.0)) (begins a b h.1)

module _ (s : Shape) (t : Takes) (k : Knows s t) where
  -- after a word that nothing is wrong with, the walk stands where the line ends, or behind `--budget`
  pub record Steps (w : Walk) (word : Text) (longer : WrittenLine) : Type 0 where
    pub turn : turn_fault s [] w word ≡ []
    pub then : Stands s t k (walked s.rules [] w word) longer ⊎ Awaits s t k (walked s.rules [] w word) longer

  -- a value that is read: nothing is wrong with it, and its row is new
  first_good : (rows : List Row) (line : WrittenLine) (word : Text) → Holds rows line → line.operands ≡ [] → 0 < t.operands
      → Good s t k rows (Some (codes "FIRST", word ∷ [])) (record line { operands = line.operands ++ word ∷ [] })
  first_good rows line word h e lt =
      let i = k.id_first lt in
      let none : found (codes "FIRST") rows ≡ None = rw e at h.first in
      let new = unused (codes "FIRST") rows none in
      let add = add_first rows line word h e in
      let is : settled_rows s.rules (Some (codes "FIRST", word ∷ [])) rows ≡ rows ++ word_row (codes "FIRST") word ∷ [] =
      rw i (used-new (codes "FIRST") (reading_of vp.String) (word ∷ []) rows none) in
      record { settles = simp (i, new); holds = subst (λ (r : List Row). Holds r (record line { operands = line.operands ++ word ∷ [] })) (sym is) add }

  second_good : (rows : List Row) (line : WrittenLine) (before word : Text) → Holds rows line → line.operands ≡ before ∷ [] → 1 < t.operands
      → Good s t k rows (Some (codes "SECOND", word ∷ [])) (record line { operands = line.operands ++ word ∷ [] })
  second_good rows line before word h e lt =
      let i = k.id_second lt in
      let none : found (codes "SECOND") rows ≡ None = rw e at h.second in
      let new = unused (codes "SECOND") rows none in
      let add = add_second rows line before word h e in
      let is : settled_rows s.rules (Some (codes "SECOND", word ∷ [])) rows ≡ rows ++ word_row (codes "SECOND") word ∷ [] =
      rw i (used-new (codes "SECOND") (reading_of vp.String) (word ∷ []) rows none) in
      record { settles = simp (i, new); holds = subst (λ (r : List Row). Holds r (record line { operands = line.operands ++ word ∷ [] })) (sym is) add }

  rest_good : (rows : List Row) (line : WrittenLine) (a b : Text) (more : List Text) (word : Text) → Holds rows line → line.operands ≡ a ∷ b ∷ more → 2 < t.most
      → Good s t k rows (Some (codes "REST", word ∷ [])) (record line { operands = line.operands ++ word ∷ [] })
  rest_good rows line a b more word h e lt =
      let i = k.id_rest lt in
      let add = add_rest rows line a b more word h e in
      let is : settled_rows s.rules (Some (codes "REST", word ∷ [])) rows ≡ with_values (codes "REST") (reading_of vp.String) CommandLine (word ∷ []) rows = rw i refl in
      record { settles = simp i; holds = subst (λ (r : List Row). Holds r (record line { operands = line.operands ++ word ∷ [] })) (sym is) add }

  budget_good : (rows : List Row) (line : WrittenLine) (word : Text) → Holds rows line → line.budget ≡ None → t.budget ≡ true
      → Good s t k rows (Some (codes "budget", word ∷ [])) (record line { budget = Some word; awaits = false })
  budget_good rows line word h e takes =
      let i = k.id_budget takes in
      let none : found (codes "budget") rows ≡ None = rw e at h.budget in
      let new = unused (codes "budget") rows none in
      let add = add_budget rows line word false h e in
      let is : settled_rows s.rules (Some (codes "budget", word ∷ [])) rows ≡ rows ++ word_row (codes "budget") word ∷ [] =
      rw i (used-new (codes "budget") (reading_of vp.String) (word ∷ []) rows none) in
      record { settles = simp (i, new); holds = subst (λ (r : List Row). Holds r (record line { budget = Some word; awaits = false })) (sym is) add }

  -- an operand
  operand_at : (rows : List Row) (pending : Option (Text × List Text)) (waiting : Waiting) (l : WrittenLine) (word : Text) → IsPlain waiting → Good s t k rows pending l → l.awaits ≡ false
      → length l.operands ≤ t.most → (l.ended ≡ false → is_option word ≡ false) → (length l.operands == t.most) ≡ false
      → Steps (at rows pending waiting (place_of l.operands) l.ended) word (record l { operands = l.operands ++ word ∷ [] })
  operand_at rows pending waiting l word quiet good calm few plain fewer = go l.operands refl
    where
      go : (ops : List Text) → l.operands ≡ ops → Steps (at rows pending waiting (place_of l.operands) l.ended) word (record l { operands = l.operands ++ word ∷ [] })
      go [] e =
          let n : length l.operands ≡ 0 = ap length e in
          let p : place_of l.operands ≡ 1 = ap place_of e in
          let lt : 0 < t.operands = k.some (grind (arith, nat_tests)) in
          let m : length (l.operands ++ word ∷ []) ≡ 1 = rw e refl in
          let q : place_of (l.operands ++ word ∷ []) ≡ 2 = rw e refl in
          record {
            turn = (ap (λ (x : ℕ). turn_fault s [] (at rows pending waiting x l.ended) word) p) ∙ steps.first_turn s t k rows pending waiting l.ended word quiet plain lt good.settles;
            then = inl (record {
              rows = settled_rows s.rules pending rows;
              pending = Some (codes "FIRST", word ∷ []);
              waiting = idle;
              plain = tt;
              is = (ap (λ (x : ℕ). walked s.rules [] (at rows pending waiting x l.ended) word) p) ∙ (steps.first_walked s t k rows pending waiting l.ended word quiet plain lt
                  ∙ ap (λ (x : ℕ). at (settled_rows s.rules pending rows) (Some (codes "FIRST", word ∷ [])) idle x l.ended) (sym q));
              calm = calm;
              good = first_good (settled_rows s.rules pending rows) l word good.holds e lt;
              few = grind (arith, nat_tests);
            });
          }
      go (a ∷ []) e =
          let n : length l.operands ≡ 1 = ap length e in
          let p : place_of l.operands ≡ 2 = ap place_of e in
          let lt : 1 < t.operands = k.both (grind (arith, nat_tests)) in
          let m : length (l.operands ++ word ∷ []) ≡ 2 = rw e refl in
          let q : place_of (l.operands ++ word ∷ []) ≡ 3 = rw e refl in
          record {
            turn = (ap (λ (x : ℕ). turn_fault s [] (at rows pending waiting x l.ended) word) p) ∙ steps.second_turn s t k rows pending waiting l.ended word quiet plain lt good.settles;
            then = inl (record {
              rows = settled_rows s.rules pending rows;
              pending = Some (codes "SECOND", word ∷ []);
              waiting = idle;
              plain = tt;
              is = (ap (λ (x : ℕ). walked s.rules [] (at rows pending waiting x l.ended) word) p) ∙ (steps.second_walked s t k rows pending waiting l.ended word quiet plain lt
                  ∙ ap (λ (x : ℕ). at (settled_rows s.rules pending rows) (Some (codes "SECOND", word ∷ [])) idle x l.ended) (sym q));
              calm = calm;
              good = second_good (settled_rows s.rules pending rows) l a word good.holds e lt;
              few = grind (arith, nat_tests);
            });
          }
      go (a ∷ b ∷ more) e =
          let n : length l.operands ≡ suc (suc (length more)) = ap length e in
          let p : place_of l.operands ≡ 3 = ap place_of e in
          let lt : 2 < t.most = grind (arith, nat_tests) in
          let m : length (l.operands ++ word ∷ []) ≡ length l.operands + 1 = length-append l.operands (word ∷ []) in
          let q : place_of (l.operands ++ word ∷ []) ≡ 3 = rw e refl in
          record {
            turn = (ap (λ (x : ℕ). turn_fault s [] (at rows pending waiting x l.ended) word) p) ∙ steps.rest_turn s t k rows pending waiting l.ended word quiet plain lt good.settles;
            then = inl (record {
              rows = settled_rows s.rules pending rows;
              pending = Some (codes "REST", word ∷ []);
              waiting = positional;
              plain = tt;
              is = (ap (λ (x : ℕ). walked s.rules [] (at rows pending waiting x l.ended) word) p) ∙ (steps.rest_walked s t k rows pending waiting l.ended word quiet plain lt
                  ∙ ap (λ (x : ℕ). at (settled_rows s.rules pending rows) (Some (codes "REST", word ∷ [])) positional x l.ended) (sym q));
              calm = calm;
              good = rest_good (settled_rows s.rules pending rows) l a b more word good.holds e lt;
              few = grind (arith, nat_tests);
            });
          }

  -- `--`
  dashes_at : (rows : List Row) (pending : Option (Text × List Text)) (waiting : Waiting) (l : WrittenLine) → IsPlain waiting → Good s t k rows pending l → l.awaits ≡ false
      → length l.operands ≤ t.most → Steps (at rows pending waiting (place_of l.operands) false) (codes "--") (record l { ended = true })
  dashes_at rows pending waiting l quiet good calm few = record {
    turn = steps.dashes_turn s t k rows pending waiting (place_of l.operands) quiet;
    then = inl (record {
      rows = rows;
      pending = pending;
      waiting = waiting;
      plain = quiet;
      is = steps.dashes_walked s t k rows pending waiting (place_of l.operands) quiet;
      calm = calm;
      good = record { settles = good.settles; holds = record { first = good.holds.first; second = good.holds.second; rest = good.holds.rest; budget = good.holds.budget; v2 = good.holds.v2; frames = good.holds.frames } };
      few = few;
    });
  }

  -- a flag
  v2_at : (rows : List Row) (pending : Option (Text × List Text)) (waiting : Waiting) (l : WrittenLine) → IsPlain waiting → Good s t k rows pending l → l.awaits ≡ false
      → length l.operands ≤ t.most → l.ended ≡ false → t.v2 ≡ true → l.v2 ≡ false
      → Steps (at rows pending waiting (place_of l.operands) false) (codes "--v2") (record l { v2 = true })
  v2_at rows pending waiting l quiet good calm few e takes fresh =
      let S : List Row = settled_rows s.rules pending rows in
      let n : ℕ = place_of l.operands in
      let none : found (codes "v2") S ≡ None = rw fresh at good.holds.v2 in
      record {
        turn = steps.v2_turn s t k rows pending waiting n quiet takes good.settles (unused (codes "v2") S none);
        then = inl (record {
          rows = S ++ flag_row (codes "v2") ∷ [];
          pending = None;
          waiting = idle;
          plain = tt;
          is = steps.v2_walked s t k rows pending waiting n quiet takes ∙ ((ap (λ (r : List Row). at r None idle n false) (used-new (codes "v2") (reading_of vp.Bool) (codes "true" ∷ []) S none))
              ∙ ap (λ (b : Bool). at (S ++ flag_row (codes "v2") ∷ []) None idle n b) (sym e));
          calm = calm;
          good = record { settles = refl; holds = add_v2 S l good.holds fresh };
          few = few;
        });
      }

  frames_at : (rows : List Row) (pending : Option (Text × List Text)) (waiting : Waiting) (l : WrittenLine) → IsPlain waiting → Good s t k rows pending l → l.awaits ≡ false
      → length l.operands ≤ t.most → l.ended ≡ false → t.frames ≡ true → l.frames ≡ false
      → Steps (at rows pending waiting (place_of l.operands) false) (codes "--frames") (record l { frames = true })
  frames_at rows pending waiting l quiet good calm few e takes fresh =
      let S : List Row = settled_rows s.rules pending rows in
      let n : ℕ = place_of l.operands in
      let none : found (codes "frames") S ≡ None = rw fresh at good.holds.frames in
      record {
        turn = steps.frames_turn s t k rows pending waiting n quiet takes good.settles (unused (codes "frames") S none);
        then = inl (record {
          rows = S ++ flag_row (codes "frames") ∷ [];
          pending = None;
          waiting = idle;
          plain = tt;
          is = steps.frames_walked s t k rows pending waiting n quiet takes ∙ ((ap (λ (r : List Row). at r None idle n false) (used-new (codes "frames") (reading_of vp.Bool) (codes "true" ∷ []) S none))
              ∙ ap (λ (b : Bool). at (S ++ flag_row (codes "frames") ∷ []) None idle n b) (sym e));
          calm = calm;
          good = record { settles = refl; holds = add_frames S l good.holds fresh };
          few = few;
        });
      }

  -- `--budget`, whose value is to come
  budget_at : (rows : List Row) (pending : Option (Text × List Text)) (waiting : Waiting) (l : WrittenLine) → IsPlain waiting → Good s t k rows pending l
      → length l.operands ≤ t.most → l.ended ≡ false → t.budget ≡ true → l.budget ≡ None
      → Steps (at rows pending waiting (place_of l.operands) false) (codes "--budget") (record l { awaits = true })
  budget_at rows pending waiting l quiet good few e takes fresh =
      let S : List Row = settled_rows s.rules pending rows in
      let n : ℕ = place_of l.operands in
      record {
        turn = steps.budget_turn s t k rows pending waiting n quiet takes good.settles;
        then = inr (record {
          rows = S;
          is = steps.budget_walked s t k rows pending waiting n quiet takes ∙ ap (λ (b : Bool). at S (Some (codes "budget", [])) (option (codes "budget")) n b) (sym e);
          waits = refl;
          takes = takes;
          holds = record { first = good.holds.first; second = good.holds.second; rest = good.holds.rest; budget = good.holds.budget; v2 = good.holds.v2; frames = good.holds.frames };
          none = fresh;
          opened = e;
          few = few;
        });
      }

  -- `--budget=` and its value
  equals_at : (rows : List Row) (pending : Option (Text × List Text)) (waiting : Waiting) (l : WrittenLine) (n : Text) → IsPlain waiting → Good s t k rows pending l → l.awaits ≡ false
      → length l.operands ≤ t.most → l.ended ≡ false → t.budget ≡ true → l.budget ≡ None
      → Steps (at rows pending waiting (place_of l.operands) false) (codes "--budget=" ++ n) (record l { budget = Some n })
  equals_at rows pending waiting l n quiet good calm few e takes fresh =
      let S : List Row = settled_rows s.rules pending rows in
      let p : ℕ = place_of l.operands in
      let none : found (codes "budget") S ≡ None = rw fresh at good.holds.budget in
      let add = add_budget S l n l.awaits good.holds fresh in
      record {
        turn = steps.equals_turn s t k rows pending waiting p n quiet takes good.settles (unused (codes "budget") S none);
        then = inl (record {
          rows = S ++ word_row (codes "budget") n ∷ [];
          pending = None;
          waiting = idle;
          plain = tt;
          is = steps.equals_walked s t k rows pending waiting p n quiet takes ∙ ((ap (λ (r : List Row). at r None idle p false) (used-new (codes "budget") (reading_of vp.String) (n ∷ []) S none))
              ∙ ap (λ (b : Bool). at (S ++ word_row (codes "budget") n ∷ []) None idle p b) (sym e));
          calm = calm;
          good = record { settles = refl; holds = record { first = add.first; second = add.second; rest = add.rest; budget = add.budget; v2 = add.v2; frames = add.frames } };
          few = few;
        });
      }

  -- the option other than `--` that a word is
  setting_at : (rows : List Row) (pending : Option (Text × List Text)) (waiting : Waiting) (l m : WrittenLine) (word : Text) → IsPlain waiting → Good s t k rows pending l → l.awaits ≡ false
      → length l.operands ≤ t.most → l.ended ≡ false → with_setting t l word ≡ Some m → Steps (at rows pending waiting (place_of l.operands) false) word m
  setting_at rows pending waiting l m word quiet good calm few e h =
      go (bytes_eq word (codes "--v2")) refl (bytes_eq word (codes "--frames")) refl (t.v2 && not l.v2) refl (t.frames && not l.frames) refl
      (t.budget && not (is_some l.budget)) refl (bytes_eq word (codes "--budget")) refl (value_of word) refl h
    where
      W : Walk
      W = at rows pending waiting (place_of l.operands) false

      as_is : (x : Text) (y : WrittenLine) → word ≡ x → Some y ≡ Some m → Steps W x y → Steps W word m
      as_is x y is same steps =
          let j : y ≡ m = cc in
          (let P : Text → Type 0 = λ z. Steps W z m in let Q : WrittenLine → Type 0 = λ z. Steps W x z in subst P (sym is) (subst Q j steps))

      value_is : (v : Text) → value_of word ≡ Some v → word ≡ codes "--budget=" ++ v
      value_is v found = by_start (starts_with nat_eq word (codes "--budget=")) refl found
        where
          by_start : (b : Bool) → starts_with nat_eq word (codes "--budget=") ≡ b → cond b (Some (drop 9 word)) None ≡ Some v → word ≡ codes "--budget=" ++ v
          by_start true starts same = let j : drop 9 word ≡ v = cc in begins word (codes "--budget=") starts ∙ ap (λ (x : Text). codes "--budget=" ++ x) j
          by_start false starts same = cc

      go : (b2 : Bool) → bytes_eq word (codes "--v2") ≡ b2 → (b3 : Bool) → bytes_eq word (codes "--frames") ≡ b3
          → (b4 : Bool) → (t.v2 && not l.v2) ≡ b4 → (b5 : Bool) → (t.frames && not l.frames) ≡ b5
          → (b6 : Bool) → (t.budget && not (is_some l.budget)) ≡ b6 → (b7 : Bool) → bytes_eq word (codes "--budget") ≡ b7
          → (v : Option Text) → value_of word ≡ v
          → cond b2 (cond b4 (Some (record l { v2 = true })) None)
          (cond b3 (cond b5 (Some (record l { frames = true })) None)
          (cond b6 (cond b7 (Some (record l { awaits = true })) (with_both l v)) None)) ≡ Some m
          → Steps W word m
      go true e2 b3 e3 true e4 b5 e5 b6 e6 b7 e7 v e8 same =
          let r = and_parts t.v2 (not l.v2) e4 in
          as_is (codes "--v2") _ (same_bytes _ _ e2) same (v2_at rows pending waiting l quiet good calm few e r.0 (not-true l.v2 r.1))
      go true e2 b3 e3 false e4 b5 e5 b6 e6 b7 e7 v e8 same = cc
      go false e2 true e3 b4 e4 true e5 b6 e6 b7 e7 v e8 same =
          let r = and_parts t.frames (not l.frames) e5 in
          as_is (codes "--frames") _ (same_bytes _ _ e3) same (frames_at rows pending waiting l quiet good calm few e r.0 (not-true l.frames r.1))
      go false e2 true e3 b4 e4 false e5 b6 e6 b7 e7 v e8 same = cc
      go false e2 false e3 b4 e4 b5 e5 true e6 true e7 v e8 same =
          let r = and_parts t.budget (not (is_some l.budget)) e6 in
          as_is (codes "--budget") _ (same_bytes _ _ e7) same (budget_at rows pending waiting l quiet good few e r.0 (is_none l.budget (not-true (is_some l.budget) r.1)))
      go false e2 false e3 b4 e4 b5 e5 true e6 false e7 (Some v) e8 same =
          let r = and_parts t.budget (not (is_some l.budget)) e6 in
          as_is (codes "--budget=" ++ v) _ (value_is v e8) same (equals_at rows pending waiting l v quiet good calm few e r.0 (is_none l.budget (not-true (is_some l.budget) r.1)))
      go false e2 false e3 b4 e4 b5 e5 true e6 false e7 None e8 same = cc
      go false e2 false e3 b4 e4 b5 e5 false e6 b7 e7 v e8 same = cc

  -- whether a further operand may follow plays no part for clap
  good_closed : (rows : List Row) (pending : Option (Text × List Text)) (l : WrittenLine) (b : Bool) → Good s t k rows pending l → Good s t k rows pending (record l { closed = b })
  good_closed rows pending l b good = record {
    settles = good.settles;
    holds = record { first = good.holds.first; second = good.holds.second; rest = good.holds.rest; budget = good.holds.budget; v2 = good.holds.v2; frames = good.holds.frames };
  }

  -- the option that a word is
  option_at : (rows : List Row) (pending : Option (Text × List Text)) (waiting : Waiting) (l m : WrittenLine) (word : Text) → IsPlain waiting → Good s t k rows pending l → l.awaits ≡ false
      → length l.operands ≤ t.most → l.ended ≡ false → with_option t l word ≡ Some m → Steps (at rows pending waiting (place_of l.operands) false) word m
  option_at rows pending waiting l m word quiet good calm few e h = go (bytes_eq word (codes "--")) refl h
    where
      C : Bool
      C = nat_le t.operands (length l.operands)

      go : (b : Bool) → bytes_eq word (codes "--") ≡ b → cond b (Some (record l { ended = true })) (with_setting t (record l { closed = C }) word) ≡ Some m
          → Steps (at rows pending waiting (place_of l.operands) false) word m
      go true e1 same =
          let j : record l { ended = true } ≡ m = cc in
          let dashes = dashes_at rows pending waiting l quiet good calm few in
          (let P : Text → Type 0 = λ z. Steps (at rows pending waiting (place_of l.operands) false) z m in
          let Q : WrittenLine → Type 0 = λ z. Steps (at rows pending waiting (place_of l.operands) false) (codes "--") z in
          subst P (sym (same_bytes word (codes "--") e1)) (subst Q j dashes))
      go false e1 same = setting_at rows pending waiting (record l { closed = C }) m word quiet (good_closed rows pending l C good) calm few e same

  -- a word where a line ends
  step_at : (w : Walk) (l m : WrittenLine) (word : Text) → Stands s t k w l → read_word t l word ≡ Some m → Steps w word m
  step_at w l m word st h = go (is_option word) refl l.ended refl (no_value l.awaits _ st.calm h)
    where
      no_value : (b : Bool) (o : Option WrittenLine) → b ≡ false → cond b (with_value l word) o ≡ Some m → o ≡ Some m
      no_value true o e same = cc
      no_value false o e same = same

      W : Bool → Walk
      W b = at st.rows st.pending st.waiting (place_of l.operands) b

      to_w : (x : WrittenLine) → Some x ≡ Some m → Steps (W l.ended) word x → Steps w word m
      to_w x same steps =
          let j : x ≡ m = cc in
          (let P : Walk → Type 0 = λ z. Steps z word m in let Q : WrittenLine → Type 0 = λ z. Steps (W l.ended) word z in subst P (sym st.is) (subst Q j steps))

      operand_case : (l.ended ≡ false → is_option word ≡ false) → with_operand t l word ≡ Some m → Steps w word m
      operand_case plain same = by_count l.closed (length l.operands == t.most) refl same
        where
          by_count : (closed b : Bool) → (length l.operands == t.most) ≡ b → cond (closed || b) None (Some (record l { operands = l.operands ++ word ∷ [] })) ≡ Some m → Steps w word m
          by_count true b c j = cc
          by_count false true c j = cc
          by_count false false c j =
              to_w (record l { operands = l.operands ++ word ∷ [] }) j (operand_at st.rows st.pending st.waiting l word st.plain st.good st.calm st.few plain c)

      go : (b : Bool) → is_option word ≡ b → (e : Bool) → l.ended ≡ e → cond (b && not e) (with_option t l word) (with_operand t l word) ≡ Some m → Steps w word m
      go true i true e same = operand_case (λ closed. cc) same
      go false i e0 e same = operand_case (λ closed. i) same
      go true i false e same =
          let steps = option_at st.rows st.pending st.waiting l m word st.plain st.good st.calm st.few e same in
          (let P : Walk → Type 0 = λ z. Steps z word m in let Q : Bool → Type 0 = λ b. Steps (W b) word m in subst P (sym st.is) (subst Q (sym e) steps))

  -- the value of `--budget`
  value_at : (w : Walk) (l m : WrittenLine) (word : Text) → Awaits s t k w l → read_word t l word ≡ Some m → Steps w word m
  value_at w l m word aw h = go (is_option word) refl (rw aw.waits at h)
    where
      n : ℕ
      n = place_of l.operands

      W : Bool → Walk
      W b = at aw.rows (Some (codes "budget", [])) (option (codes "budget")) n b

      go : (b : Bool) → is_option word ≡ b → cond b None (Some (record l { budget = Some word; awaits = false })) ≡ Some m → Steps w word m
      go true i same = cc
      go false i same =
          let j : record l { budget = Some word; awaits = false } ≡ m = cc in
          let steps : Steps (W false) word (record l { budget = Some word; awaits = false }) = record {
            turn = steps.value_turn s t k aw.rows n word i aw.takes;
            then = inl (record {
              rows = aw.rows;
              pending = Some (codes "budget", word ∷ []);
              waiting = idle;
              plain = tt;
              is = steps.value_walked s t k aw.rows n word i aw.takes ∙ ap (λ (b : Bool). at aw.rows (Some (codes "budget", word ∷ [])) idle n b) (sym aw.opened);
              calm = refl;
              good = budget_good aw.rows l word aw.holds aw.none aw.takes;
              few = aw.few;
            });
          } in
          (let P : Walk → Type 0 = λ z. Steps z word m in let Q : Bool → Type 0 = λ b. Steps (W b) word m in
          let R : WrittenLine → Type 0 = λ z. Steps (W false) word z in subst P (sym aw.is) (subst Q (sym aw.opened) (subst R j steps)))

  -- the walk over words that make a line: nothing is wrong with them, and it stands at the line's end
  pub record Walks (w : Walk) (words : List Text) (m : WrittenLine) : Type 0 where
    pub fine : walk_fault s [] w words ≡ []
    pub stands : Stands s t k (fold (walked s.rules []) w words) m

  pub walks : (words : List Text) (w : Walk) (l m : WrittenLine) → Stands s t k w l ⊎ Awaits s t k w l → read_rest t l words ≡ Some m → m.awaits ≡ false → Walks w words m
  unfolding walk_fault
  walks [] w l m (inl st) h calm = let j : l ≡ m = cc in record { fine = refl; stands = (let P : WrittenLine → Type 0 = λ z. Stands s t k w z in subst P j st) }
  walks [] w l m (inr aw) h calm = let j : l ≡ m = cc in let x : l.awaits ≡ false = ap (λ (z : WrittenLine). z.awaits) j ∙ calm in let y = aw.waits in cc
  walks (word ∷ words) w l m at_l h calm = go (read_word t l word) refl h (λ z stands rest. walks words (walked s.rules [] w word) z m stands rest calm)
    where
      go : (o : Option WrittenLine) → read_word t l word ≡ o → option_and_then (λ (z : WrittenLine). read_rest t z words) o ≡ Some m
          → ((z : WrittenLine) → Stands s t k (walked s.rules [] w word) z ⊎ Awaits s t k (walked s.rules [] w word) z → read_rest t z words ≡ Some m → Walks (walked s.rules [] w word) words m)
          → Walks w (word ∷ words) m
      go None e j more = cc
      go (Some z) e j more =
          let step : Steps w word z = elim at_l [ inl st ↦ step_at w l z word st e | inr aw ↦ value_at w l z word aw e ] in
          let rest = more z step.then j in
          record { fine = (rw step.turn rest.fine); stands = rest.stands }
