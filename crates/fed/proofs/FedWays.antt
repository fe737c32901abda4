-- Laws of a feed and of the finish in words: one for each way through the code.
-- Assumes nothing.
use Prim.Native.Nat.{ℕ, ◌+◌, ◌-◌, ◌/◌, ◌%◌, ◌≤◌, ◌<◌}
use mathlib.Core.Path.{◌≡◌, refl, sym, ap, ◌∙◌}
use mathlib.Core.Bool.{Bool, true, false, false≢true}
use mathlib.Core.List.{List, [], ◌∷◌}
use native.Mathlib.Omega.{arith}
use borrow.Author.Rules.{rules}
use borrow.Author.Tests.{lt-ltb, le-ltb, eq-eqb, ltb-true, eqb-true}
use lib.Dec.{eqb, ltb}
use lib.IntN.{ℤ, pos, neg_ℤ}
use lib.ListN.{length, get_or, take, drop, set, replicate}
use lib.Seq.{take-length}
use lib.Signed.{mag}
use mir.Syntax.{w64}
use mir.Val.{to_z, of_z}
use Rattle.crossing.specs.Laws.Calls.{handed}
use Rattle.std.specs.Prelude.{Option, None, Some, Result, Err}
use Rattle.refusal.specs.declared.Refusal.{Refusal}
use Rattle.refusal.specs.declared.Refusal.TheVariants.{Buffer}
use Rattle.request.specs.Format.{pick}
use Rattle.request.specs.Laws.Picks.{taken, left}
use Rattle.request.specs.declared.Decoded.{Decoded}
use Rattle.feeding.specs.declared.State.{State}
use Rattle.feeding.specs.Feed.{at, fresh, Feeds, Finishes, eaten, laid}
use Rattle.feeding.specs.Laws.Run.{goes_on as goes_on_lem, body_eaten, body_laid}
use Rattle.fed.specs.Words.{sum_of, less_of, with_state, Put, places_in, state_in, goes_on, runs_of}
use Rattle.fed.specs.Handed.{decoded_number, number_of, decoded_words, said_words, Renewed, Stepped, Fed, Ended}
use Rattle.fed.proofs.WordWays.{sum_small, less_within}

-- ---- a reset
pub renewed : {x y x' : List ℕ} {s : State} → y ≡ replicate 46 0 → s ≡ fresh → Put s y x' → Renewed x (pos 0) x'
renewed none is p = record { answer = refl; state = p.state ∙ is; words = p.words ∙ (λ i. with_state (is i) (none i)) }

pub ruleset renewals = (renewed, rules)

-- ---- any part, and the finish
words_after : (s' : State) (y x' z : List ℕ) → Put s' y x' → y ≡ z → x' ≡ with_state (state_in x') z
words_after s' y x' z p e = p.words ∙ (λ i. with_state (sym p.state i) (e i))

module _ {x buffer closed y x' : List ℕ} {s s' : State} {r : ℤ} where
  pub stepped : {said : Option (Result Decoded Refusal)} {part buffer' closed' : List ℕ} → 20000 ≤ length buffer → s ≡ state_in x → Feeds s (take (length part - 0) (drop 0 part)) buffer closed said s' buffer' closed'
      → y ≡ said_words said x → Put s' y x' → mag r < 9223372036854775808 → r ≡ number_of said → Stepped x part buffer closed (to_z w64 (of_z w64 r)) x' buffer' closed'
  stepped {said} {part} {buffer'} {closed'} g is f numbers p m a =
      let n : length part - 0 ≡ length part = omega arith in
      let whole : take (length part - 0) part ≡ part = ap (λ (k : ℕ). take k part) n ∙ take-length part in
      record {
        said = said;
        feeds = coe 0 1 (i. Feeds (is i) (whole i) buffer closed said (sym p.state i) buffer' closed') f;
        answer = handed r m a;
        words = words_after s' y x' (said_words said x) p numbers ∙ sym (left _ _ (le-ltb _ _ g));
      }

  pub ended : {said : Result Decoded Refusal} {closed' : List ℕ} → 20000 ≤ length buffer → s ≡ state_in x → Finishes s buffer closed said s' closed'
      → y ≡ decoded_words said x → Put s' y x' → mag r < 9223372036854775808 → r ≡ decoded_number said → Ended x buffer closed (to_z w64 (of_z w64 r)) x' closed'
  ended {said} {closed'} g is f numbers p m a =
      record {
        said = said;
        finishes = coe 0 1 (i. Finishes (is i) buffer closed said (sym p.state i) closed') f;
        answer = handed r m a;
        words = words_after s' y x' (decoded_words said x) p numbers ∙ sym (left _ _ (le-ltb _ _ g));
      }

-- a buffer that is too short
module _ {x buffer closed : List ℕ} {r : ℤ} (h : length buffer < 20000) (m : mag r < 9223372036854775808) (a : r ≡ neg_ℤ (pos 18)) where
  pub stepped_short : {part : List ℕ} → Stepped x part buffer closed (to_z w64 (of_z w64 r)) x buffer closed
  unfolding number_of decoded_number
  stepped_short =
      record {
        said = Some (Err Buffer);
        feeds = record { state = sym (taken _ _ (lt-ltb _ _ h)); answer = sym (taken _ _ (lt-ltb _ _ h)); bytes = sym (taken _ _ (lt-ltb _ _ h)); dates = sym (taken _ _ (lt-ltb _ _ h)) };
        answer = handed r m a;
        words = sym (taken _ _ (lt-ltb _ _ h));
      }

  pub ended_short : Ended x buffer closed (to_z w64 (of_z w64 r)) x closed
  unfolding decoded_number
  ended_short =
      record {
        said = Err Buffer;
        finishes = record { state = sym (taken _ _ (lt-ltb _ _ h)); answer = sym (taken _ _ (lt-ltb _ _ h)); dates = sym (taken _ _ (lt-ltb _ _ h)) };
        answer = handed r m a;
        words = sym (taken _ _ (lt-ltb _ _ h));
      }

pub ruleset steps = (stepped, ended, stepped_short, ended_short, rules)

-- ---- a byte of a run
record Runs (x : List ℕ) (n : ℕ) : Type 0 where
  one : n ≡ 1
  body : get_or x 3 0 ≡ 4
  more : get_or x 0 0 + 1 < get_or x 1 0
  within : get_or x 0 0 + get_or x 2 0 < 20000

both : (a b : Bool) → pick a b false ≡ true → (a ≡ true) × (b ≡ true)
unfolding pick
both true b e = (refl, e)
both false b e = absurd (false≢true e)

runs_told : (x : List ℕ) (n : ℕ) → runs_of x n ≡ true → Runs x n
unfolding runs_of goes_on
runs_told x n e =
    let a : (eqb n 1 ≡ true) × (pick (eqb (get_or x 3 0) 4) (goes_on (get_or x 0 0) (get_or x 1 0) (get_or x 2 0)) false ≡ true) = both _ _ e in
    let b : (eqb (get_or x 3 0) 4 ≡ true) × (goes_on (get_or x 0 0) (get_or x 1 0) (get_or x 2 0) ≡ true) = both _ _ a.1 in
    let c : (ltb (get_or x 0 0 + 1) (get_or x 1 0) ≡ true) × (ltb (get_or x 0 0 + get_or x 2 0) 20000 ≡ true) = both _ _ b.1 in
    record { one = eqb-true n 1 a.0; body = eqb-true (get_or x 3 0) 4 b.0; more = ltb-true _ _ c.0; within = ltb-true _ _ c.1 }

module _ (x : List ℕ) (n : ℕ) {r : Bool} (is : r ≡ runs_of x n) (yes : r ≡ true) where
  pub run_part : 0 < n
  run_part = omega (arith, (runs_told x n (sym is ∙ yes)).one)

  pub run_small : get_or x 0 0 < 65535
  run_small = omega (arith, (runs_told x n (sym is ∙ yes)).within)

  pub run_room : (l : List ℕ) → 20000 ≤ length l → get_or x 0 0 < length l
  run_room l h = omega (arith, h, (runs_told x n (sym is ∙ yes)).within)

-- the state before it and behind it, and the byte
module _ (k : ℕ) (rest : List ℕ) (r : Runs (k ∷ rest) 1) (b : ℕ) where
  abbrev x₀ : List ℕ
  x₀ = k ∷ rest

  abbrev stop : ℕ
  stop = get_or rest 0 0

  abbrev others : ℕ
  others = get_or rest 1 0

  abbrev in_body : ℕ → ℕ → ℕ → State
  in_body due kept fed = at 4 (get_or rest 3 0 % 256) (get_or rest 4 0 % 256) (get_or rest 5 0 % 256) 0 due kept fed (get_or rest 6 0) (places_in x₀)

  phase_is : get_or rest 2 0 % 256 ≡ 4
  phase_is = ap (λ (n : ℕ). n % 256) r.body

  finished_is : get_or rest 2 0 / 256 ≡ 0
  finished_is = ap (λ (n : ℕ). n / 256) r.body

  due_is : less_of stop k ≡ length (b ∷ []) + (stop - (k + 1))
  due_is =
      let n : stop - k ≡ 1 + (stop - (k + 1)) = omega (arith, r.more) in
      sym (less_within stop k (omega (arith, r.more))) ∙ n

  fed_is : sum_of others k ≡ others + k
  fed_is = sym (sum_small others k (omega (arith, r.within)))

  before : state_in x₀ ≡ in_body (length (b ∷ []) + (stop - (k + 1))) k (others + k)
  unfolding state_in
  before = λ i. at (phase_is i) (get_or rest 3 0 % 256) (get_or rest 4 0 % 256) (get_or rest 5 0 % 256) (finished_is i) (due_is i) k (fed_is i) (get_or rest 6 0) (places_in x₀)

  behind : state_in ((k + 1) ∷ rest) ≡ in_body (stop - (k + 1)) (k + 1) (others + k + 1)
  unfolding state_in places_in
  behind =
      let d : less_of stop (k + 1) ≡ stop - (k + 1) = sym (less_within stop (k + 1) (omega (arith, r.more))) in
      let n : others + (k + 1) ≡ others + k + 1 = omega arith in
      let f : sum_of others (k + 1) ≡ others + k + 1 = sym (sum_small others (k + 1) (omega (arith, r.within))) ∙ n in
      λ i. at (phase_is i) (get_or rest 3 0 % 256) (get_or rest 4 0 % 256) (get_or rest 5 0 % 256) (finished_is i) (d i) (k + 1) (f i) (get_or rest 6 0) (places_in x₀)

  run_eaten : state_in ((k + 1) ∷ rest) ≡ eaten (state_in x₀) (b ∷ [])
  run_eaten =
      behind ∙ sym (goes_on_lem (in_body (stop - (k + 1)) (k + 1) (others + k + 1)) (λ e. omega (arith, e, r.more)))
      ∙ sym (ap (λ (s : State). eaten s (b ∷ [])) before ∙ body_eaten (get_or rest 3 0 % 256) (get_or rest 4 0 % 256) (get_or rest 5 0 % 256) 0 (get_or rest 6 0) (places_in x₀) b [] (stop - (k + 1)) k (others + k) (omega (arith, r.within)) (omega (arith, r.within)))

  run_laid : (l : List ℕ) → set l k b ≡ laid (state_in x₀) (b ∷ []) l
  run_laid l =
      sym (ap (λ (s : State). laid s (b ∷ []) l) before ∙ body_laid (get_or rest 3 0 % 256) (get_or rest 4 0 % 256) (get_or rest 5 0 % 256) 0 (get_or rest 6 0) (places_in x₀) b [] (stop - (k + 1)) k (others + k) l (omega (arith, r.within)) (omega (arith, r.within)))

  open_still : eqb (state_in x₀).finished 0 ≡ true
  unfolding state_in
  open_still = eq-eqb _ _ finished_is

  run_feeds : (buffer closed : List ℕ) → 20000 ≤ length buffer → Feeds (state_in x₀) (b ∷ []) buffer closed None (state_in ((k + 1) ∷ rest)) (set buffer k b) closed
  run_feeds buffer closed g =
      record {
        state = run_eaten ∙ sym (left _ _ (le-ltb _ _ g) ∙ taken _ _ open_still);
        answer = sym (left _ _ (le-ltb _ _ g) ∙ taken _ _ open_still);
        bytes = run_laid buffer ∙ sym (left _ _ (le-ltb _ _ g) ∙ taken _ _ open_still);
        dates = sym (left _ _ (le-ltb _ _ g) ∙ taken _ _ open_still);
      }

-- ---- a feed
run_fed : (x part buffer closed : List ℕ) → runs_of x (length part) ≡ true → Runs x (length part) → 20000 ≤ length buffer
    → Fed x part buffer closed (pos 0) (set x 0 (get_or x 0 0 + 1)) (set buffer (get_or x 0 0) (get_or part 0 0)) closed
unfolding number_of
run_fed [] part buffer closed y r g = absurd (omega (arith, r.body))
run_fed (k ∷ rest) [] buffer closed y r g = absurd (omega (arith, r.one))
run_fed (k ∷ rest) (b ∷ []) buffer closed y r g =
    record { said = None; feeds = run_feeds k rest r b buffer closed g; answer = refl; words = sym (left _ _ (le-ltb _ _ g) ∙ taken _ _ y) }
run_fed (k ∷ rest) (b ∷ c ∷ cs) buffer closed y r g = absurd (omega (arith, r.one))

module _ {x part buffer closed : List ℕ} where
  pub feed_short : {r : ℤ} {x' buffer' closed' : List ℕ} → length buffer < 20000 → mag r < 9223372036854775808 → Stepped x part buffer closed r x' buffer' closed' → Fed x part buffer closed (to_z w64 (of_z w64 r)) x' buffer' closed'
  feed_short {r} h m s = record { said = s.said; feeds = s.feeds; answer = handed r m s.answer; words = s.words ∙ taken _ _ (lt-ltb _ _ h) ∙ sym (taken _ _ (lt-ltb _ _ h)) }

  module _ {y : Bool} (is : y ≡ runs_of x (length part)) (g : 20000 ≤ length buffer) where
    pub feed_run : {x' buffer' : List ℕ} → y ≡ true → (x' ≡ set x 0 (get_or x 0 0 + 1)) × (buffer' ≡ set buffer (get_or x 0 0) (get_or part 0 0)) → Fed x part buffer closed (pos 0) x' buffer' closed
    feed_run e w =
        let f : Fed x part buffer closed (pos 0) (set x 0 (get_or x 0 0 + 1)) (set buffer (get_or x 0 0) (get_or part 0 0)) closed = run_fed x part buffer closed (sym is ∙ e) (runs_told x (length part) (sym is ∙ e)) g in
        coe 1 0 (i. Fed x part buffer closed (pos 0) (w.0 i) (w.1 i) closed) f

    pub feed_other : {r : ℤ} {x' buffer' closed' : List ℕ} → y ≡ false → mag r < 9223372036854775808 → Stepped x part buffer closed r x' buffer' closed' → Fed x part buffer closed (to_z w64 (of_z w64 r)) x' buffer' closed'
    feed_other {r} e m s =
        record { said = s.said; feeds = s.feeds; answer = handed r m s.answer; words = s.words ∙ left _ _ (le-ltb _ _ g) ∙ sym (left _ _ (le-ltb _ _ g) ∙ left _ _ (sym is ∙ e)) }

pub ruleset feeding = (run_part, run_small, run_room, feed_short, feed_run, feed_other, rules)
