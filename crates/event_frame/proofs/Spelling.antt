-- What is read as an event is spelled as its frame.
use Rattle.std.proofs.Common.{◌≡◌, ◌≢◌, ℕ, suc, zero, ◌+◌, ◌*◌, ◌/◌, ◌%◌, List, [], ◌∷◌, ◌++◌, length, map, Bool, true, false, Option, Some, None, ◌==◌, if◌then◌else◌, ◌⊎◌, inl, inr, refl, ap, ◌∙◌, sym, subst, arith}
use Rattle.std.proofs.lemmas.Bool.{eqb-true}
use Rattle.event_word.specs.declared.event.Step.{Step}
use Rattle.event_frame.specs.declared.version.Version.{Version}
use Rattle.event_frame.specs.declared.version.Version.TheVariants.{V1, V2}
use Rattle.event_frame.specs.Frames.{step_code, packed, path_bytes}
use Rattle.event_frame.specs.Reading.{parts, steps_in, Taken, first_then, step_of}
use Rattle.event_frame.proofs.Codes.{code_is, byte_is}

-- each is 0
abbrev pub AllZero : List ℕ → Type 0
AllZero [] = Unit {0}
AllZero (n ∷ ns) = (n ≡ 0) × AllZero ns

-- the parts of a byte are the steps taken from it, and then 0 where no step is to come
pub record PartsAre (left : ℕ) (ps : List ℕ) (taken : Taken) : Type 0 where
  pub zeros : List ℕ
  pub split : ps ≡ map step_code taken.steps ++ zeros
  pub all_zero : AllZero zeros
  pub full : (zeros ≡ []) ⊎ (taken.left ≡ 0)
  pub count : length taken.steps + taken.left ≡ left

-- what the steps in a byte are, where there is a first one
record FirstIs (o : Option Step) (others : Option Taken) (taken : Taken) : Type 0 where
  step : Step
  more : Taken
  is_step : o ≡ Some step
  is_more : others ≡ Some more
  is_taken : taken ≡ record { steps = step ∷ more.steps; left = more.left }

first_is : (o : Option Step) (others : Option Taken) (taken : Taken) → first_then o others ≡ Some taken → FirstIs o others taken
first_is None others taken e = absurd (let none : ⊥ = cc in none)
first_is (Some step) None taken e = absurd (let none : ⊥ = cc in none)
first_is (Some step) (Some more) taken e = record { step = step; more = more; is_step = refl; is_more = refl; is_taken = cc }

pub parts_are : (left : ℕ) (ps : List ℕ) (taken : Taken) → steps_in left ps ≡ Some taken → PartsAre left ps taken
parts_are left [] taken e =
    let is : record { steps = []; left = left } ≡ taken = cc in
    subst (PartsAre left []) is (record { zeros = []; split = refl; all_zero = tt; full = inl refl; count = omega arith })
parts_are zero (p ∷ ps) taken e = by_test (p == 0) refl e (parts_are zero ps taken)
  where
    by_test : (b : Bool) → (p == 0) ≡ b → (if b then steps_in zero ps else None) ≡ Some taken → (steps_in zero ps ≡ Some taken → PartsAre zero ps taken) → PartsAre zero (p ∷ ps) taken
    by_test false is e rest = absurd (let none : ⊥ = cc in none)
    by_test true is e rest =
        let are = rest e in
        let nothing : taken.steps ≡ [] = empty taken.steps (omega (arith, are.count)) in
        let split : ps ≡ are.zeros = are.split ∙ ap (λ (ss : List Step). map step_code ss ++ are.zeros) nothing in
        record {
          zeros = p ∷ are.zeros;
          split = ap (λ (qs : List ℕ). p ∷ qs) split ∙ sym (ap (λ (ss : List Step). map step_code ss ++ p ∷ are.zeros) nothing);
          all_zero = (eqb-true p 0 is, are.all_zero);
          full = inr (omega (arith, are.count));
          count = are.count;
        }
      where
        empty : (ss : List Step) → length ss ≡ 0 → ss ≡ []
        empty [] e = refl
        empty (s ∷ ss) e = absurd (let none : ⊥ = omega arith in none)
parts_are (suc left) (p ∷ ps) taken e = go (first_is (step_of p) (steps_in left ps) taken e) (λ more. parts_are left ps more)
  where
    go : FirstIs (step_of p) (steps_in left ps) taken → ((more : Taken) → steps_in left ps ≡ Some more → PartsAre left ps more) → PartsAre (suc left) (p ∷ ps) taken
    go first rest =
        let are = rest first.more first.is_more in
        subst (PartsAre (suc left) (p ∷ ps)) (sym first.is_taken) (record {
          zeros = are.zeros;
          split = ap (λ (n : ℕ). n ∷ ps) (code_is p first.step first.is_step) ∙ ap (λ (qs : List ℕ). step_code first.step ∷ qs) are.split;
          all_zero = are.all_zero;
          full = are.full;
          count = omega (arith, are.count);
        })

-- a byte of steps is the front of the steps' bytes
pub path_bytes-front : (v : Version) (more byte : ℕ) (taken : Taken) (path : List Step) → steps_in (suc more) (parts v byte) ≡ Some taken
    → length path ≡ taken.left → path_bytes v (taken.steps ++ path) ≡ byte ∷ path_bytes v path
path_bytes-front V1 more byte taken path e h =
    let first = first_is (step_of byte) (Some (record { steps = []; left = more })) taken e in
    let nothing : first.more ≡ record { steps = []; left = more } = let e : Some first.more ≡ Some (record { steps = []; left = more }) = sym first.is_more in cc in
    let steps : taken.steps ≡ first.step ∷ [] = ap (λ (t : Taken). t.steps) first.is_taken ∙ ap (λ (t : Taken). first.step ∷ t.steps) nothing in
    ap (λ (ss : List Step). map step_code (ss ++ path)) steps ∙ ap (λ (n : ℕ). n ∷ map step_code path) (sym (code_is byte first.step first.is_step))
path_bytes-front V2 more byte taken path e h = by_steps taken.steps taken.left are.zeros are.split are.all_zero are.full (are.count) h
  where
    are : PartsAre (suc more) (parts V2 byte) taken
    are = parts_are (suc more) (parts V2 byte) taken e

    no_path : (path : List Step) → length path ≡ 0 → path ≡ []
    no_path [] e = refl
    no_path (s ∷ path) e = absurd (let none : ⊥ = omega arith in none)

    none_left : (zeros : List ℕ) (left : ℕ) → (zeros ≡ []) ⊎ (left ≡ 0) → zeros ≢ [] → left ≡ 0
    none_left zeros left (inl e) ne = absurd (ne e)
    none_left zeros left (inr e) ne = e

    by_steps : (steps : List Step) (left : ℕ) (zeros : List ℕ) → parts V2 byte ≡ map step_code steps ++ zeros → AllZero zeros → (zeros ≡ []) ⊎ (left ≡ 0)
        → length steps + left ≡ suc more → length path ≡ left → packed (steps ++ path) ≡ byte ∷ packed path
    by_steps [] left zeros split nil full count h =
        let some : zeros ≢ [] = λ (e : zeros ≡ []). (let clash : parts V2 byte ≡ [] = split ∙ e in let none : ⊥ = cc in none) in
        absurd (let none : ⊥ = omega (arith, none_left zeros left full some) in none)
    by_steps (a ∷ []) left zeros split nil full count h =
        let here : byte / 64 ≡ step_code a = cc in
        let rest : zeros ≡ (byte / 16 % 4) ∷ (byte / 4 % 4) ∷ (byte % 4) ∷ [] = cc in
        let nils = subst AllZero rest nil in
        let some : zeros ≢ [] = λ (e : zeros ≡ []). (let none : ⊥ = cc in none) in
        let ends : path ≡ [] = no_path path (h ∙ none_left zeros left full some) in
        let is : 64 * step_code a ≡ byte = omega (arith, byte_is byte, here, nils.0, nils.1.0, nils.1.1.0) in
        ap (λ (p : List Step). packed (a ∷ p)) ends ∙ ap (λ (n : ℕ). n ∷ []) is ∙ ap (λ (p : List Step). byte ∷ packed p) (sym ends)
    by_steps (a ∷ b ∷ []) left zeros split nil full count h =
        let here : byte / 64 ≡ step_code a = cc in
        let next : byte / 16 % 4 ≡ step_code b = cc in
        let rest : zeros ≡ (byte / 4 % 4) ∷ (byte % 4) ∷ [] = cc in
        let nils = subst AllZero rest nil in
        let some : zeros ≢ [] = λ (e : zeros ≡ []). (let none : ⊥ = cc in none) in
        let ends : path ≡ [] = no_path path (h ∙ none_left zeros left full some) in
        let is : 64 * step_code a + 16 * step_code b ≡ byte = omega (arith, byte_is byte, here, next, nils.0, nils.1.0) in
        ap (λ (p : List Step). packed (a ∷ b ∷ p)) ends ∙ ap (λ (n : ℕ). n ∷ []) is ∙ ap (λ (p : List Step). byte ∷ packed p) (sym ends)
    by_steps (a ∷ b ∷ c ∷ []) left zeros split nil full count h =
        let here : byte / 64 ≡ step_code a = cc in
        let next : byte / 16 % 4 ≡ step_code b = cc in
        let third : byte / 4 % 4 ≡ step_code c = cc in
        let rest : zeros ≡ (byte % 4) ∷ [] = cc in
        let nils = subst AllZero rest nil in
        let some : zeros ≢ [] = λ (e : zeros ≡ []). (let none : ⊥ = cc in none) in
        let ends : path ≡ [] = no_path path (h ∙ none_left zeros left full some) in
        let is : 64 * step_code a + 16 * step_code b + 4 * step_code c ≡ byte = omega (arith, byte_is byte, here, next, third, nils.0) in
        ap (λ (p : List Step). packed (a ∷ b ∷ c ∷ p)) ends ∙ ap (λ (n : ℕ). n ∷ []) is ∙ ap (λ (p : List Step). byte ∷ packed p) (sym ends)
    by_steps (a ∷ b ∷ c ∷ d ∷ []) left zeros split nil full count h =
        let here : byte / 64 ≡ step_code a = cc in
        let next : byte / 16 % 4 ≡ step_code b = cc in
        let third : byte / 4 % 4 ≡ step_code c = cc in
        let last : byte % 4 ≡ step_code d = cc in
        let is : 64 * step_code a + 16 * step_code b + 4 * step_code c + step_code d ≡ byte = omega (arith, byte_is byte, here, next, third, last) in
        ap (λ (n : ℕ). n ∷ packed path) is
    by_steps (a ∷ b ∷ c ∷ d ∷ f ∷ steps) left zeros split nil full count h = absurd (let none : ⊥ = cc in none)
