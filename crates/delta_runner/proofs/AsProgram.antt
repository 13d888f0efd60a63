-- Where a state was kept of a program, what is said to each event since is what the program says.
use Rattle.std.proofs.Common.{◌≡◌, ℕ, List, [], ◌∷◌, ◌++◌, ◌∙◌, ap, ap₂, sym, subst, arith, refl, append_assoc}
use Rattle.stream_type.specs.StreamType.{StreamType}
use Rattle.stream_prefix.specs.StreamPrefix.{StreamPrefix, IsPart, der, join}
use Rattle.stream_prefix.specs.Increment.{increment}
use Rattle.stream_prefix.proofs.Derivations.{Derives, derives, is_prefix}
use Rattle.stream_prefix.proofs.Increments.{increment-join}
use Rattle.stream_prefix.proofs.Joins.{join_assoc, join_is_prefix, der-join}
use Rattle.event_word.specs.StreamEvent.{StreamEvent}
use Rattle.event_word.specs.Word.{IsWord, pre, after, after_word}
use Rattle.event_word.proofs.Words.{word_derives, word_front, word_back, word_join, pre-append, after_word-pre}
use Rattle.core_term.specs.CoreTerm.{CoreProgram}
use Rattle.core_term.specs.Meaning.{mean, calls_of, level_of}
use Rattle.delta_state.specs.MachineView.{input_of, answer_to, IsCostly, IsDeep}
use Rattle.delta_state.specs.Stands.{input_type, output_left}
use Rattle.delta_session.specs.Programs.{CanRun}
use Rattle.event_word.specs.Admits.{Admits}
use Rattle.state_steps.proofs.LongerWords.{event_follows, prefix_with_event}
use Rattle.state_steps.proofs.RunnablePrograms.{mean_derives}
use Rattle.kept_state.specs.KeptTree.{KeptTree}
use Rattle.kept_state.specs.KeptMeaning.{input_kept, mean_kept, calls_kept}
use Rattle.kept_state.specs.Laws.{IsKept, input_since, event_since}
use Rattle.kept_state.proofs.KeptSteps.{kept_derives}
use Rattle.machine_kept.specs.SinceView.{answer_since, IsCostlySince, IsDeepSince}
use Rattle.delta_runner.specs.KeptSessionLaws.{IsAsProgram, GoesOnAsProgram}
use Rattle.delta_session.proofs.Growth.{revises_nothing}
use Rattle.delta_runner.specs.KeptOneShot.{one_shot_kept}
use Rattle.delta_runner.proofs.KeptGrowth.{runnable, since_grows}

-- what is left after two words, one after the other
after_word-append : (v w : List StreamEvent) (s : StreamType) → after_word (v ++ w) s ≡ after_word w (after_word v s)
after_word-append [] w s = refl
after_word-append (x ∷ v) w s = after_word-append v w (after x s)

-- the increment of what goes on from a is that of what goes on
increment_behind : {s : StreamType} {a b d : StreamPrefix} → Derives s a → Derives (der a s) b → Derives (der b (der a s)) d → increment (join a b) (join a (join b d)) ≡ increment b (join b d)
increment_behind {s = s} {a = a} {b = b} {d = d} h i j =
    ap (increment (join a b)) (sym (join_assoc h i j))
    ∙ increment-join (join_is_prefix h i) (subst (λ (t : StreamType). Derives t d) (sym (der-join h i)) j)
    ∙ sym (increment-join i j)

module _ (c : CoreProgram) (can : CanRun c) (k : KeptTree) (before : List StreamEvent) (came : IsWord (input_type c) before) (kept : IsKept c (input_of c before) k) where
  -- the kept state's input is what the word before left
  input_left : input_kept c k ≡ after_word before (input_type c)
  input_left = kept.has_input ∙ sym (after_word-pre (input_type c) before came)

  -- a word since goes on from the word before,
  pub word_whole : (word : List StreamEvent) → IsWord (input_kept c k) word → IsWord (input_type c) (before ++ word)
  word_whole word comes = word_join (input_type c) before word came (subst (λ (s : StreamType). IsWord s word) kept.has_input comes)

  -- and what comes with it is what came before, and then what came since
  pub input_whole : (word : List StreamEvent) → IsWord (input_kept c k) word → input_of c (before ++ word) ≡ join (input_of c before) (input_since c k word)
  input_whole word comes =
      pre-append (input_type c) before word (word_whole word comes)
      ∙ ap (λ (s : StreamType). join (input_of c before) (pre s word)) (sym kept.has_input)

  since_prefix : (word : List StreamEvent) → IsWord (input_kept c k) word → Derives (der (input_of c before) (input_type c)) (input_since c k word)
  since_prefix word comes = subst (λ (s : StreamType). Derives s (input_since c k word)) kept.has_input (word_derives (input_kept c k) word comes)

  -- what the program says of both words is what it said of the first, and then what the kept state says of the second
  pub said_whole : (word : List StreamEvent) → IsWord (input_kept c k) word → mean c (input_of c (before ++ word)) ≡ join (mean c (input_of c before)) (mean_kept c k (input_since c k word))
  said_whole word comes = ap (mean c) (input_whole word comes) ∙ kept.gives (input_since c k word) (is_prefix (since_prefix word comes))

  module _ (is_left : k.out ≡ output_left c (input_of c before)) (word : List StreamEvent) (x : StreamEvent) (both : IsWord (input_kept c k) (word ++ x ∷ [])) where
    comes : IsWord (input_kept c k) word
    comes = word_front (input_kept c k) word (x ∷ []) both

    admits : Admits (after_word word (input_kept c k)) x
    admits = subst (λ (s : StreamType). Admits s x) (sym (after_word-pre (input_kept c k) word comes)) (word_back (input_kept c k) word (x ∷ []) both).0

    -- the words with the event
    longer : input_of c ((before ++ word) ++ x ∷ []) ≡ join (input_of c before) (input_since c k (word ++ x ∷ []))
    longer = ap (input_of c) (append_assoc before word (x ∷ [])) ∙ input_whole (word ++ x ∷ []) both

    with_event : input_since c k (word ++ x ∷ []) ≡ join (input_since c k word) (event_since c k word x)
    with_event = prefix_with_event (input_kept c k) word x comes admits

    grows : IsPart k.out (mean_kept c k (input_since c k word)) (mean_kept c k (input_since c k (word ++ x ∷ [])))
    grows = revises_nothing (one_shot_kept c k) (since_grows c can k kept.is_typed) word (x ∷ []) both

    -- what the program says to the event is what the kept state says
    answers : answer_since c k word x ≡ answer_to c (before ++ word) x
    answers =
        let a = mean c (input_of c before) in
        let b = mean_kept c k (input_since c k word) in
        let first : Derives c.main.result a = mean_derives c (runnable c can k kept.is_typed) (input_of c before) (word_derives (input_type c) before came) in
        let then : Derives (der a c.main.result) b =
        subst (λ (s : StreamType). Derives s b) is_left (kept_derives c (runnable c can k kept.is_typed) k kept.is_typed (word_derives (input_kept c k) word comes)) in
        let last : Derives (der b (der a c.main.result)) grows.rest = subst (λ (s : StreamType). Derives (der b s) grows.rest) is_left (derives (der b k.out) grows.rest grows.comes) in
        let said : mean c (input_of c ((before ++ word) ++ x ∷ [])) ≡ join a (join b grows.rest) =
        ap (λ (w : List StreamEvent). mean c (input_of c w)) (append_assoc before word (x ∷ [])) ∙ said_whole (word ++ x ∷ []) both ∙ ap (join a) (sym grows.joins) in
        ap (increment b) (sym grows.joins)
        ∙ sym (ap₂ increment (said_whole word comes) said ∙ increment_behind first then last)

    -- the calls of the event are no more than in the program
    costly : (n : ℕ) → IsCostlySince c k n word x → IsCostly c n (before ++ word) x
    costly n many =
        let q = input_since c k word in
        let r = event_since c k word x in
        let step : Derives (der q (der (input_of c before) (input_type c))) r = subst (λ (s : StreamType). Derives (der q s) r) kept.has_input (event_follows (input_kept c k) word x comes admits) in
        let rise = kept.calls_rise q r (is_prefix (since_prefix word comes)) (is_prefix step) in
        let now = ap (calls_of c) (input_whole word comes) in
        let later = ap (calls_of c) longer ∙ ap (λ (p : StreamPrefix). calls_of c (join (input_of c before) p)) with_event in
        let since = ap (calls_kept c k) with_event in
        omega (arith, many, rise, now, later, since)

    -- and so is the greatest level
    deep : (n : ℕ) → IsDeepSince c k n word x → IsDeep c n (before ++ word) x
    deep n high =
        let low = kept.levels (input_since c k (word ++ x ∷ [])) (is_prefix (since_prefix (word ++ x ∷ []) both)) in
        let later = ap (level_of c) longer in
        omega (arith, high, low, later)

    pub is_as_program : IsAsProgram c k before word x
    is_as_program = record {
      awaits = ap (after_word word) input_left ∙ sym (after_word-append before word (input_type c));
      answers = answers;
      costly = costly;
      deep = deep;
    }

pub goes_on_as_program : GoesOnAsProgram
goes_on_as_program c k before word x can came kept is_left both = is_as_program c can k before came kept is_left word x both
